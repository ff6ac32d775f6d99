-- What a reader read, by index: `Reads m R` says that R holds of the index where m began, of what it gave and of the index past it.
-- R is put together as the reader is, of the families below; proofs/Standing.antt turns them into those of specs/Twins/Standing.antt.
use Prim.Native.Nat.{ℕ, zero, suc, ◌+◌, ◌≤◌, ◌<◌}
use Prim.Native.String.{String}
use mathlib.Core.Path.{◌≡◌, refl, ap, subst, ◌∙◌, sym as inv}
use mathlib.Core.Bool.{Bool, true, false}
use mathlib.Core.List.{List, [], ◌∷◌}
use native.Mathlib.Omega.{arith}
use lib.ListN.{length, drop, get_or, length-drop}
use lib.Seq.{drop-drop, get_or-drop}
use Rattle.language.specs.Words.{Fit, fits, broken, long, many}
use Rattle.language.specs.Tokens.{Token}
use Rattle.language.specs.Reader.{ok, Reader, ◌>>=◌, ◌>>◌, give, judged, take, is, wrong, next, pick, choose, many_in, up_to}
use Rattle.grammar.specs.Twins.Positions.{nothing}
use Rattle.syntax.proofs.Advances.{ok_inj, refused_ok, then_ok}
use Rattle.syntax.proofs.Tracks.{token_at}

-- what one reader leaves to say
abbrev pub Part : Type 0 → Type 1
Part A = ℕ → A → ℕ → Type 0

pub data Given {A : Type 0} (a : A) (i : ℕ) : A → ℕ → Type 0 where
  given : Given a i a i

-- what holds of what was given, where it was given
pub given_as : {A : Type 0} {a b : A} {i k : ℕ} (P : A → ℕ → Type 0) → Given a i b k → P a i → P b k
given_as P given p = p

pub data Taken (ts : List Token) (f : Token → Fit) (i : ℕ) : Token → ℕ → Type 0 where
  taken : i < length ts → f (token_at ts i) ≡ fits → Taken ts f i (token_at ts i) (i + 1)

pub data Both {A B : Type 0} (R : Part A) (S : A → Part B) (i : ℕ) (b : B) (k : ℕ) : Type 0 where
  both : (a : A) (j : ℕ) → R i a j → S a j b k → Both R S i b k

pub data Either {A : Type 0} (ts : List Token) (f : Token → Bool) (R S : Part A) (i : ℕ) (a : A) (k : ℕ) : Type 0 where
  left : i < length ts → f (token_at ts i) ≡ true → R i a k → Either ts f R S i a k
  right : f (token_at ts i) ≡ false → S i a k → Either ts f R S i a k

pub data Wrong {A : Type 0} (i : ℕ) (a : A) (k : ℕ) : Type 0 where

-- items up to the word w
pub data Items {A : Type 0} (ts : List Token) (w : String) (R : Part A) : ℕ → List A → ℕ → Type 0 where
  done : {i : ℕ} → i < length ts → is w (token_at ts i) ≡ true → Items ts w R i [] i
  item : {i j k : ℕ} {a : A} {rest : List A} → is w (token_at ts i) ≡ false → R i a j → Items ts w R j rest k → Items ts w R i (a ∷ rest) k

module _ (ts : List Token) where
  pub record After {A : Type 0} (R : Part A) (i : ℕ) (a : A) (rest : List Token) : Type 0 where
    pub k : ℕ
    pub stands : R i a k
    pub most : k ≤ length ts
    pub same : rest ≡ drop k ts

  pub record Reads {A : Type 0} (m : Reader A) (R : Part A) : Type 0 where
    pub reads : (i : ℕ) → i ≤ length ts → (a : A) (rest : List Token) → m (drop i ts) ≡ ok (a, rest) → After R i a rest

token_drop : (ts : List Token) (i : ℕ) → token_at ts i ≡ get_or (drop i ts) 0 nothing
token_drop ts i = rw get_or-drop (ap (λ n. get_or ts n nothing) (omega arith))

pub never : {A : Type 0} (R : Part A) (i : ℕ) (a : A) (k : ℕ) → Wrong i a k → R i a k
never R i a k = elim [ ]

module _ {ts : List Token} where
  pub read_as : {A : Type 0} {R S : Part A} {m : Reader A} → ((i : ℕ) (a : A) (k : ℕ) → R i a k → S i a k) → Reads ts m R → Reads ts m S
  read_as f h = record { reads = λ i l a rest e. let x = h.reads i l a rest e in record { k = x.k; stands = f i a x.k x.stands; most = x.most; same = x.same } }

  pub give_reads : {A : Type 0} (a : A) → Reads ts (give a) (Given a)
  give_reads {A} a = record {
    reads = λ i l b rest e.
        let q = ok_inj (a, drop i ts) (b, rest) e in
        record { k = i; stands = subst (λ (r : A × List Token). Given a i r.0 i) q given; most = l; same = ap (λ r. r.1) (inv q) };
  }

  take_after : (f : Token → Fit) (i : ℕ) → i ≤ length ts → (a : Token) (rest : List Token) → take f (drop i ts) ≡ ok (a, rest) → After ts (Taken ts f) i a rest
  take_after f i l a rest e = go (drop i ts) refl e
    where
      on : (us : List Token) (t : Token) → drop i ts ≡ t ∷ us → (g : Fit) (b : Bool) → f t ≡ g → judged g b t us ≡ ok (a, rest) → After ts (Taken ts f) i a rest
      on us t d broken b z e = refused_ok _ _ e
      on us t d long b z e = refused_ok _ _ e
      on us t d many b z e = refused_ok _ _ e
      on us t d fits true z e = refused_ok _ _ e
      on us t d fits false z e =
          let q = ok_inj (t, us) (a, rest) e in
          let n = inv (ap length d) ∙ length-drop i ts in
          let y : token_at ts i ≡ t = token_drop ts i ∙ ap (λ (x : List Token). get_or x 0 nothing) d in
          let s : us ≡ drop (i + 1) ts = ap (λ (x : List Token). drop 1 x) (inv d) ∙ drop-drop 1 i ts in
          let v : f (token_at ts i) ≡ fits = ap f y ∙ z in
          let w : i < length ts = omega arith in
          record {
            k = i + 1;
            stands = subst (λ (x : Token). Taken ts f i x (i + 1)) (y ∙ ap (λ r. r.0) q) (taken w v);
            most = omega arith;
            same = ap (λ r. r.1) (inv q) ∙ s;
          }

      go : (us : List Token) → drop i ts ≡ us → take f us ≡ ok (a, rest) → After ts (Taken ts f) i a rest
      go [] d e = refused_ok _ _ e
      go (t ∷ us) d e = on us t d (f t) t.over refl e

  pub take_reads : (f : Token → Fit) → Reads ts (take f) (Taken ts f)
  take_reads f = record { reads = take_after f }

  pub bind_reads : {A B : Type 0} {R : Part A} {S : A → Part B} {m : Reader A} {f : A → Reader B} → Reads ts m R → ((a : A) → Reads ts (f a) (S a)) → Reads ts (m >>= f) (Both R S)
  bind_reads {A} {B} {R} {S} {m} {f} hm hf = record {
    reads = λ i l b rest e.
        let w = then_ok (m (drop i ts)) (λ r. f r.0 r.1) (b, rest) e in
        let x = hm.reads i l w.0.0 w.0.1 w.1 in
        let y = (hf w.0.0).reads x.k x.most b rest (ap (f w.0.0) (inv x.same) ∙ w.2) in
        record { k = y.k; stands = both w.0.0 x.k x.stands y.stands; most = y.most; same = y.same };
  }

  pub then_reads : {A B : Type 0} {R : Part A} {S : Part B} {m : Reader A} {n : Reader B} → Reads ts m R → Reads ts n S → Reads ts (m >> n) (Both R (λ a. S))
  then_reads hm hn = bind_reads hm (λ a. hn)

  wrong_after : {A : Type 0} (i : ℕ) (a : A) (rest : List Token) (us : List Token) → wrong us ≡ ok (a, rest) → After ts Wrong i a rest
  wrong_after i a rest [] e = refused_ok _ _ e
  wrong_after i a rest (t ∷ us) e = refused_ok _ _ e

  pub wrong_reads : {A : Type 0} → Reads ts (wrong {A = A}) Wrong
  wrong_reads {A} = record { reads = λ i l a rest e. wrong_after i a rest (drop i ts) e }

  -- f is a test that nothing past the end passes
  module _ {A : Type 0} {R S : Part A} {m n : Reader A} (f : Token → Bool) (z : f nothing ≡ false) (hm : Reads ts m R) (hn : Reads ts n S) where
    tested : (us : List Token) → f (get_or us 0 nothing) ≡ next f us
    tested [] = z
    tested (t ∷ us) = refl

    there : (us : List Token) → next f us ≡ true → 0 < length us
    there [] y = let q : ◌≡◌ {A = Bool} false true = y in let w : ◌≡◌ {A = ℕ} 0 1 = cc in omega arith
    there (t ∷ us) y = omega arith

    choose_after : (i : ℕ) → i ≤ length ts → (a : A) (rest : List Token) (b : Bool) → next f (drop i ts) ≡ b → pick b m n (drop i ts) ≡ ok (a, rest) → After ts (Either ts f R S) i a rest
    choose_after i l a rest true y e =
        let w = there (drop i ts) y in let n = length-drop i ts in let g : i < length ts = omega arith in
        let x = hm.reads i l a rest e in
        record { k = x.k; stands = left g (ap f (token_drop ts i) ∙ tested (drop i ts) ∙ y) x.stands; most = x.most; same = x.same }
    choose_after i l a rest false y e =
        let x = hn.reads i l a rest e in
        record { k = x.k; stands = right (ap f (token_drop ts i) ∙ tested (drop i ts) ∙ y) x.stands; most = x.most; same = x.same }

    pub choose_reads : Reads ts (choose f m n) (Either ts f R S)
    choose_reads = record { reads = λ i l a rest e. choose_after i l a rest (next f (drop i ts)) refl e }

  many_reads : {A : Type 0} {R : Part A} {m : Reader A} (n : ℕ) (w : String) → is w nothing ≡ false → Reads ts m R → Reads ts (many_in n w m) (Items ts w R)
  many_reads {A} {R} zero w z h = read_as (never _) wrong_reads
  many_reads {A} {R} {m} (suc n) w z h =
      read_as opened (choose_reads (is w) z (give_reads []) (bind_reads h (λ x. bind_reads (many_reads n w z h) (λ xs. give_reads (x ∷ xs)))))
    where
      opened : (i : ℕ) (a : List A) (k : ℕ) → Either ts (is w) (Given []) (Both R (λ x. Both (Items ts w R) (λ xs. Given (x ∷ xs)))) i a k → Items ts w R i a k
      opened i a k (left l y given) = done l y
      opened i a k (right y (both x j r (both xs m q g))) = given_as (Items ts w R i) g (item y r q)

  pub up_to_reads : {A : Type 0} {R : Part A} {m : Reader A} (w : String) → is w nothing ≡ false → Reads ts m R → Reads ts (up_to w m) (Items ts w R)
  up_to_reads w z h = record { reads = λ i l a rest e. (many_reads (length (drop i ts)) w z h).reads i l a rest e }
