-- The check by position on an e and on arguments: it goes past them and finds what the check of what was read finds.
use Prim.Native.Nat.{ℕ, zero, suc, ◌+◌, ◌-◌, ◌≤◌, ◌<◌}
use Prim.Native.String.{String}
use mathlib.Core.Path.{◌≡◌, refl, ap, ap₂, ◌∙◌, sym as inv}
use mathlib.Core.Bool.{Bool, true, false, cond, ◌&&◌, ◌||◌, not}
use mathlib.Core.List.{List, [], ◌∷◌}
use mathlib.Core.Option.{none, some}
use native.Mathlib.Omega.{arith}
use lib.Dec.{eqb}
use borrow.Author.Tests.{eqb-true, le-ltb}
use Rattle.language.specs.Bytes.{txt, Refusal, unless, ◌or_else◌}
use Rattle.language.specs.Bytes as bytes
use Rattle.language.specs.Tokens.{Kind, symbol, ename, aname, tag, Text, of_program, Token, key_of}
use Rattle.language.specs.Reader.{is, is_a}
use Rattle.language.specs.Scope.{Scope, is_in, is_atomic}
use Rattle.language.specs.Source.{SExp, exp, at_of}
use Rattle.language.specs.ProgramCheck.{reach_e, reach_ea}
use Rattle.syntax.specs.Twins.Standing.{WordAt, NameAt, ExpAt, symbol_at, cons_at, ExpsAt, ParamsAt}
use Rattle.syntax.specs.Twins.Standing as at
use Rattle.verdicts.specs.Twins.Found.{Verdict, fine}
use Rattle.refusals.specs.Faults.{fault}
use Rattle.std.specs.Prelude.{Ok, Err}
use Rattle.verdicts.specs.declared.found.Walked.{Walked}
use Rattle.checker.specs.declared.check.Names.{Names}
use Rattle.checker.specs.Twins.CheckAt.{first, judge, ahead, walked, arguments, in_reach, leaf_at, pair_at, pick, exp_at, atomic_at, ea_at, arg_at, args_at}

-- a verdict of the meaning as the code has it
abbrev pub coded : bytes.Verdict → Verdict
coded none = fine
coded (some r) = fault r.number r.at

pub coded_first : (a b : bytes.Verdict) → coded (a or_else b) ≡ first (coded a) (coded b)
coded_first none b = refl
coded_first (some r) b = refl

pub coded_judge : (b : Bool) (m o : ℕ) → coded (unless b m o) ≡ judge b m o
coded_judge true m o = refl
coded_judge false m o = refl

pub first_fine : (v : Verdict) → first v fine ≡ v
first_fine (Ok u) = refl
first_fine (Err r) = refl

pub first_assoc : (u v w : Verdict) → first (first u v) w ≡ first u (first v w)
first_assoc (Ok u) v w = refl
first_assoc (Err r) v w = refl

pub ahead_in : (n k i : ℕ) → i + k ≤ n → ahead n k i ≡ i + k
ahead_in n k i h =
    let a : k ≤ n = omega arith in let b : i ≤ n - k = omega arith in
    rw (le-ltb n k a, le-ltb (n - k) i b)

-- a word is no other
pub is_other_lem : (v w : String) (t : Token) → is v t ≡ true → is w t ≡ eqb (key_of (txt v)) (key_of (txt w))
is_other_lem v w t e = ap (λ k. eqb k (key_of (txt w))) (eqb-true t.key (key_of (txt v)) e)

pub is_a_other : (k l : Kind) (t : Token) → is_a k t ≡ true → is_a l t ≡ eqb (tag k) (tag l)
is_a_other k l t e = ap (λ m. eqb m (tag l)) (eqb-true (tag t.kind) (tag k) e)

module _ {tok : ℕ → Token} {n : ℕ} where
  -- an e takes a token at least, and ends before the end
  pub exp_least : {text : Text} {room i : ℕ} {c : SExp} {k : ℕ} → ExpAt tok n text room i c k → i < k
  exp_least (symbol_at b x) = omega arith
  exp_least (at.ExpAt.e_at b x) = omega arith
  exp_least (at.ExpAt.a_at b x) = omega arith
  exp_least (cons_at o w c d e) = let x = exp_least c in let y = exp_least d in omega arith

  pub exp_most : {text : Text} {room i : ℕ} {c : SExp} {k : ℕ} → ExpAt tok n text room i c k → k ≤ n
  exp_most (symbol_at b x) = let y = x.below in omega arith
  exp_most (at.ExpAt.e_at b x) = let y = x.below in omega arith
  exp_most (at.ExpAt.a_at b x) = let y = x.below in omega arith
  exp_most (cons_at o w c d e) = let y = e.below in omega arith

module _ (tok : ℕ → Token) (n : ℕ) where
  abbrev pub keys : ℕ → ℕ
  keys i = (tok i).key

  abbrev pub kinds : ℕ → ℕ
  kinds i = tag (tok i).kind

  abbrev pub nums : ℕ → ℕ
  nums i = (tok i).num

  abbrev pub ats : ℕ → ℕ
  ats i = (tok i).at

  abbrev exp_of : ℕ → Names → ℕ → Walked
  exp_of room sc i = exp_at keys kinds nums ats n room sc i

  abbrev leaf_of : Names → ℕ → Walked
  leaf_of sc i = leaf_at keys kinds nums ats n sc i

  pub exp_leaf : (room : ℕ) (sc : Names) (i : ℕ) → is "(" (tok i) ≡ false → exp_of room sc i ≡ leaf_of sc i
  unfolding exp_at
  exp_leaf zero sc i b = refl
  exp_leaf (suc room) sc i b = rw b

  pair_at_lem : (again : ℕ → Walked) (i j k : ℕ) → i + 2 ≤ n → k + 1 ≤ n → (again (i + 2)).past ≡ j → (again j).past ≡ k →
      pair_at keys kinds nums ats n again i ≡ walked (k + 1) fine fine (first (again (i + 2)).uses (again j).uses)
  pair_at_lem again i j k a b p q = rw (ahead_in n 2 i a, p, q, ahead_in n 1 k b)

  pub exp_opened : (room : ℕ) (sc : Names) (i j k : ℕ) → WordAt tok n "(" i → WordAt tok n "cons" (i + 1) → WordAt tok n ")" k → (exp_of room sc (i + 2)).past ≡ j → (exp_of room sc j).past ≡ k →
      exp_of (suc room) sc i ≡ walked (k + 1) fine fine (first (exp_of room sc (i + 2)).uses (exp_of room sc j).uses)
  unfolding exp_at
  exp_opened room sc i j k o w e p q =
      let a = w.below in let b = e.below in
      let l : i + 2 ≤ n = omega arith in let m : k + 1 ≤ n = omega arith in
      ap (λ b. pick b (pair_at keys kinds nums ats n (λ k. exp_of room sc k)) (leaf_of sc) i) o.key ∙
      pair_at_lem (λ k. exp_of room sc k) i j k l m p q

  pub exp_past : {room i : ℕ} {c : SExp} {k : ℕ} (sc : Names) → ExpAt tok n of_program room i c k → (exp_of room sc i).past ≡ k
  exp_past {room} {i} sc (symbol_at b x) = let y = x.below in ap (λ w. w.past) (exp_leaf room sc i b) ∙ ahead_in n 1 i (omega arith)
  exp_past {room} {i} sc (at.ExpAt.e_at b x) = let y = x.below in ap (λ w. w.past) (exp_leaf room sc i b) ∙ ahead_in n 1 i (omega arith)
  exp_past {room} {i} sc (at.ExpAt.a_at b x) = let y = x.below in ap (λ w. w.past) (exp_leaf room sc i b) ∙ ahead_in n 1 i (omega arith)
  exp_past {room = suc room} {i} sc (cons_at o w c d e) = ap (λ w. w.past) (exp_opened room sc i _ _ o w e (exp_past sc c) (exp_past sc d))

  -- the names in reach are those of the scope
  pub record Reach (sc : Names) (s : Scope) : Type 0 where
    pub evars : (j : ℕ) → is_a ename (tok j) ≡ true → in_reach keys kinds nums ats n sc j ≡ is_in (tok j).num s.evars
    pub avars : (j : ℕ) → is_a aname (tok j) ≡ true → in_reach keys kinds nums ats n sc j ≡ is_in (tok j).num s.avars

  leaf_uses : (room : ℕ) (sc : Names) (i : ℕ) (b : Bool) → is "(" (tok i) ≡ false → is_a symbol (tok i) ≡ false → in_reach keys kinds nums ats n sc i ≡ b → (exp_of room sc i).uses ≡ judge b 9 (tok i).at
  leaf_uses room sc i b o z e = ap (λ w. w.uses) (exp_leaf room sc i o) ∙ ap (λ c. judge c 9 (tok i).at) (ap₂ ◌||◌ z e)

  pub exp_uses : {room i : ℕ} {c : SExp} {k : ℕ} (sc : Names) (s : Scope) → Reach sc s → ExpAt tok n of_program room i c k → (exp_of room sc i).uses ≡ coded (reach_e s c)
  exp_uses {room} {i} sc s r (symbol_at b x) = ap (λ w. w.uses) (exp_leaf room sc i b) ∙ ap (λ c. judge (c || in_reach keys kinds nums ats n sc i) 9 (tok i).at) x.kind
  exp_uses {room} {i} sc s r (at.ExpAt.e_at b x) = leaf_uses room sc i _ b (is_a_other ename symbol (tok i) x.kind) (r.evars i x.kind) ∙ inv (coded_judge (is_in (tok i).num s.evars) 9 (tok i).at)
  exp_uses {room} {i} sc s r (at.ExpAt.a_at b x) = leaf_uses room sc i _ b (is_a_other aname symbol (tok i) x.kind) (r.avars i x.kind) ∙ inv (coded_judge (is_in (tok i).num s.avars) 9 (tok i).at)
  exp_uses {room = suc room} {i} sc s r (cons_at {c = p} {d = q} o w c d e) =
      ap (λ w. w.uses) (exp_opened room sc i _ _ o w e (exp_past sc c) (exp_past sc d)) ∙
      ap₂ first (exp_uses sc s r c) (exp_uses sc s r d) ∙ inv (coded_first (reach_e s p) (reach_e s q))

  -- an ea
  atomic_at_lem : {room i : ℕ} {c : SExp} {k : ℕ} → ExpAt tok n of_program room i c k → atomic_at keys kinds i ≡ is_atomic (exp c)
  atomic_at_lem {room} {i} (symbol_at b x) = ap₂ (λ p q. not p && not q) b (is_a_other symbol ename (tok i) x.kind)
  atomic_at_lem {room} {i} (at.ExpAt.e_at b x) = ap₂ (λ p q. not p && not q) b x.kind
  atomic_at_lem {room} {i} (at.ExpAt.a_at b x) = ap₂ (λ p q. not p && not q) b (is_a_other aname ename (tok i) x.kind)
  atomic_at_lem {room} {i} (cons_at o w c d e) = ap (λ p. not p && not (is_a ename (tok i))) o.key

  offset_at : {room i : ℕ} {c : SExp} {k : ℕ} → ExpAt tok n of_program room i c k → (tok i).at ≡ at_of c
  offset_at (symbol_at b x) = refl
  offset_at (at.ExpAt.e_at b x) = refl
  offset_at (at.ExpAt.a_at b x) = refl
  offset_at (cons_at o w c d e) = refl

  pub ea_uses : {room i : ℕ} {c : SExp} {k : ℕ} (sc : Names) (s : Scope) → Reach sc s → ExpAt tok n of_program room i c k → (ea_at keys kinds nums ats n room sc i).uses ≡ coded (reach_ea s c)
  unfolding ea_at
  ea_uses {i} {c} sc s r x = ap₂ first (ap₂ (λ b o. judge b 8 o) (atomic_at_lem x) (offset_at x) ∙ inv (coded_judge (is_atomic (exp c)) 8 (at_of c))) (exp_uses sc s r x) ∙ inv (coded_first (unless (is_atomic (exp c)) 8 (at_of c)) (reach_e s c))

  -- the arguments against the parameters from p on
  unfoldable pub arg_uses : Scope → ℕ → SExp → bytes.Verdict
  arg_uses s p c = cond (is_a aname (tok p)) (reach_ea s c) (reach_e s c)

  unfoldable pub args_uses : Scope → ℕ → List SExp → bytes.Verdict
  unfolding arg_uses
  args_uses s p [] = none
  args_uses s p (c ∷ cs) = arg_uses s p c or_else args_uses s (ahead n 1 p) cs

  unfoldable pub args_fit : ℕ → List SExp → Bool
  args_fit p [] = is "]" (tok p)
  args_fit p (c ∷ cs) = not (is "]" (tok p)) && args_fit (ahead n 1 p) cs

  arg_past : {room i : ℕ} {c : SExp} {k : ℕ} (sc : Names) (p : ℕ) → ExpAt tok n of_program room i c k → (arg_at keys kinds nums ats n room sc p i).past ≡ k
  unfolding ea_at
  arg_past {room} {i} {c} {k} sc p x = go (is_a aname (tok p))
    where
      go : (b : Bool) → (pick b (ea_at keys kinds nums ats n room sc) (exp_at keys kinds nums ats n room sc) i).past ≡ k
      go true = exp_past sc x
      go false = exp_past sc x

  arg_uses_lem : {room i : ℕ} {c : SExp} {k : ℕ} (sc : Names) (s : Scope) (p : ℕ) → Reach sc s → ExpAt tok n of_program room i c k → (arg_at keys kinds nums ats n room sc p i).uses ≡ coded (arg_uses s p c)
  unfolding arg_uses
  arg_uses_lem {room} {i} {c} {k} sc s p r x = go (is_a aname (tok p))
    where
      go : (b : Bool) → (pick b (ea_at keys kinds nums ats n room sc) (exp_at keys kinds nums ats n room sc) i).uses ≡ coded (cond b (reach_ea s c) (reach_e s c))
      go true = ea_uses sc s r x
      go false = exp_uses sc s r x

  and_assoc : (a b c : Bool) → (a && b && c) ≡ (a && (b && c))
  and_assoc true b c = refl
  and_assoc false b c = refl

  pub exps_bounds : {w : String} {room i : ℕ} {cs : List SExp} {k : ℕ} → ExpsAt tok n of_program w room i cs k → (i ≤ k) × (k < n)
  exps_bounds (at.ExpsAt.none_at x) = (omega arith, x.below)
  exps_bounds (at.ExpsAt.more_at b x xs) = let w = exps_bounds xs in let y = exp_least x in let z = w.0 in (omega arith, w.1)

  pub args_at_lem : {room i : ℕ} {cs : List SExp} {k : ℕ} (f : ℕ) (sc : Names) (s : Scope) (p : ℕ) (b : Bool) (v : Verdict) → Reach sc s → ExpsAt tok n of_program "]" room i cs k → k - i < f →
      args_at keys kinds nums ats n f room sc p b v i ≡ arguments k (b && args_fit p cs) (first v (coded (args_uses s p cs)))
  unfolding args_at args_fit args_uses
  args_at_lem zero sc s p b v r x l = let z : ⊥ = omega arith in absurd z
  args_at_lem {room} {i} (suc f) sc s p b v r (at.ExpsAt.none_at x) l = rw (x.key, first_fine)
  args_at_lem {room} {i} {k} (suc f) sc s p b v r (at.ExpsAt.more_at {j = j} {c = c} {cs = cs} w x xs) l =
      let y = exp_least x in let z = exps_bounds xs in let z0 = z.0 in let q : k - j < f = omega arith in
      rw (w, arg_past sc p x, arg_uses_lem sc s p r x, args_at_lem f sc s (ahead n 1 p) (b && not (is "]" (tok p))) (first v (coded (arg_uses s p c))) r xs q, and_assoc, first_assoc, coded_first (arg_uses s p c))
