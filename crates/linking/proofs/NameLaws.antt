-- Names that come into reach: each behind those there are.
use Prim.Native.Nat.{ℕ, suc, ◌+◌, ◌≤◌, ◌<◌, min}
use mathlib.Core.Path.{◌≡◌, ap, subst, ◌∙◌, sym as inv}
use mathlib.Core.Bool.{Bool, true, false, cond}
use mathlib.Core.List.{List, [], ◌∷◌, ◌++◌}
use native.Mathlib.Omega.{arith}
use lib.ListN.{length, get_or, set, length-set, length-append}
use lib.Seq.{get_or-set_same, get_or-set_other}
use borrow.Author.Tests.{lt-ltb}
use Rattle.language.specs.Tokens.{Token}
use Rattle.language.specs.Program.{Param, same_param}
use Rattle.linking.specs.Twins.Linking.{place_from, place_of, pushed_name}
use Rattle.linking.specs.Twins.Linked.{place_in, with_name}
use Rattle.linking.proofs.TokenLaws.{TokensIn, IsName, NamesAre, no_names, more_names, place_found}

-- the first `used` names are sc, and there is room for m more
pub record Names (tok : ℕ → Token) (n : ℕ) (names : List ℕ) (used m : ℕ) (sc : List Param) : Type 0 where
  pub are : NamesAre tok n names 0 sc
  pub count : used ≡ length sc
  pub size : length names ≡ 144
  pub room : used + m ≤ 144

pub names_less : {tok : ℕ → Token} {n : ℕ} {names : List ℕ} {used k m : ℕ} {sc : List Param} → m ≤ k → Names tok n names used k sc → Names tok n names used m sc
names_less l h = let r = h.room in record { are = h.are; count = h.count; size = h.size; room = omega arith }

-- the place among xs is none past them
pub place_most : (x : Param) (xs : List Param) → place_in x xs ≤ length xs
place_most x [] = omega arith
place_most x (y ∷ ys) = go (same_param y x) (place_most x ys)
  where
    go : (b : Bool) → place_in x ys ≤ length ys → cond b 0 (suc (place_in x ys)) ≤ suc (length ys)
    go true l = omega arith
    go false l = omega arith

-- one name more behind them
names_more : {tok : ℕ → Token} {n : ℕ} {a : List ℕ} {j i u : ℕ} {x : Param} {xs : List Param} → NamesAre tok n a j xs → IsName tok n i x → j + length xs ≡ u → u < length a →
    NamesAre tok n (set a u i) j (xs ++ (x ∷ []))
names_more {tok} {n} {a} {j} {i} {u} {x} no_names is e l =
    let z : j ≡ u = omega arith in
    more_names (subst (λ (k : ℕ). IsName tok n k x) (inv (ap (λ (m : ℕ). get_or (set a u i) m 0) z ∙ get_or-set_same a u i 0 l)) is) no_names
names_more {tok} {n} {a} {j} {i} {u} (more_names {x = y} h hs) is e l =
    more_names (subst (λ (k : ℕ). IsName tok n k y) (inv (get_or-set_other a u j i 0 (λ q. omega arith))) h) (names_more hs is (omega arith) l)

-- a name that comes into reach: its place is the number of those there were
pub name_pushed : {tok : ℕ → Token} {n : ℕ} {names : List ℕ} {used m i : ℕ} {sc : List Param} {x : Param} → Names tok n names used (suc m) sc → IsName tok n i x →
    (let w = pushed_name used i names in Names tok n w.names w.used m (with_name x sc))
unfolding pushed_name
name_pushed {names = names} {used} {m} {i} {sc} {x} h is =
    let c = h.count in let r = h.room in let s = h.size in let u : used < 144 = omega arith in
    let a = length-append sc (x ∷ []) in let z = length-set names used i in
    rw (lt-ltb used 144 u) (record { are = names_more h.are is (omega arith) (omega arith); count = omega arith; size = omega arith; room = omega arith })

module _ {tok : ℕ → Token} {n : ℕ} {marks nums ends : List ℕ} (t : TokensIn tok n marks nums ends) where
  pub place_is : {names : List ℕ} {used m i : ℕ} {sc : List Param} {x : Param} → Names tok n names used m sc → IsName tok n i x → place_of marks nums names used i ≡ place_in x sc
  place_is {names} {used} {m} {i} {sc} {x} h is =
      let c = h.count in let r = h.room in let z : min used 144 ≡ length sc = omega arith in let y : 0 + place_in x sc ≡ place_in x sc = omega arith in
      ap (λ (k : ℕ). place_from marks nums names k 0 i) z ∙ place_found t names is h.are ∙ y
