-- The readers by position do what the readers of token lists do: `Tracks m p` says that p does by index what m does by list.
use Prim.Native.Nat.{ℕ, zero, suc, ◌+◌, ◌-◌, ◌≤◌}
use Prim.Native.String.{String}
use mathlib.Core.Path.{◌≡◌, refl, ap, ◌∙◌, sym as inv}
use mathlib.Core.Bool.{Bool, true, false}
use mathlib.Core.List.{List, [], ◌∷◌}
use native.Mathlib.Omega.{arith}
use lib.ListN.{length, drop, get_or, length-drop}
use lib.Seq.{drop-drop, get_or-drop}
use Rattle.language.specs.Words.{Fit, fits, broken, long, many}
use Rattle.language.specs.Tokens.{Token}
use Rattle.language.specs.Reader.{Res, ok, refused, and_then, Reader, ◌>>=◌, ◌>>◌, give, judged, take, is, wrong, next, pick, choose, many_in, up_to}
use Rattle.refusals.specs.declared.refusal.Refusal.{Refusal}
use Rattle.std.specs.Prelude.{Result, Ok, Err}
use Rattle.refusals.specs.Faults.{fault}
use Rattle.grammar.specs.Twins.Positions.{on_past, judged_at, nothing, seq_p, pick_p, take_p, wrong_p, choose_p, many_p, up_to_p}
use Rattle.syntax.proofs.Advances.{Advances, many_in_advances}

-- the readers by position of a list of tokens
module _ (ts : List Token) where
  abbrev pub got_of : {A : Type 0} → Res (A × List Token) → Result ℕ Refusal
  got_of (ok r) = Ok (length ts - length r.1)
  got_of (refused r) = fault r.number r.at

  abbrev pub token_at : ℕ → Token
  token_at i = get_or ts i nothing

  abbrev pub Tracks : {A : Type 0} → Reader A → (ℕ → Result ℕ Refusal) → Type 0
  Tracks m p = (i : ℕ) → i ≤ length ts → p i ≡ got_of (m (drop i ts))

  pub give_tracks : {A : Type 0} (a : A) → Tracks (give a) Ok
  give_tracks a i l = ap Ok (simp length-drop (omega arith))

  token_drop : (i : ℕ) → token_at i ≡ get_or (drop i ts) 0 nothing
  token_drop i = rw get_or-drop (ap (λ n. get_or ts n nothing) (omega arith))

  pub wrong_tracks : (A : Type 0) → Tracks (wrong {A = A}) (wrong_p token_at)
  wrong_tracks A i l = ap (λ t. fault 3 t.at) (token_drop i) ∙ go (drop i ts)
    where
      go : (us : List Token) → fault 3 (get_or us 0 nothing).at ≡ got_of {A = A} (wrong us)
      go [] = refl
      go (t ∷ us) = refl

  -- f and the tests below are those that nothing past the end passes
  pub take_tracks : (f : Token → Fit) → f nothing ≡ broken → Tracks (take f) (take_p token_at f)
  take_tracks f z i l = ap (λ t. judged_at (f t) t.over t.at i) (token_drop i) ∙ go (drop i ts) refl
    where
      on : (us : List Token) (t : Token) → drop i ts ≡ t ∷ us → (g : Fit) (b : Bool) → judged_at g b t.at i ≡ got_of (judged g b t us)
      on us t e broken b = refl
      on us t e long b = refl
      on us t e many b = refl
      on us t e fits true = refl
      on us t e fits false = let k = inv (ap length e) ∙ length-drop i ts in ap Ok (omega arith)

      go : (us : List Token) → drop i ts ≡ us → judged_at (f (get_or us 0 nothing)) (get_or us 0 nothing).over (get_or us 0 nothing).at i ≡ got_of (take f us)
      go [] e = ap (λ g. judged_at g false 0 i) z
      go (t ∷ us) e = on us t e (f t) t.over

  pub choose_tracks : {A : Type 0} (f : Token → Bool) → f nothing ≡ false → (m n : Reader A) (p q : ℕ → Result ℕ Refusal) → Tracks m p → Tracks n q → Tracks (choose f m n) (choose_p token_at f p q)
  choose_tracks f z m n p q hm hn i l = ap (λ b. pick_p b p q i) (ap f (token_drop i) ∙ same (drop i ts)) ∙ go (next f (drop i ts))
    where
      same : (us : List Token) → f (get_or us 0 nothing) ≡ next f us
      same [] = z
      same (t ∷ us) = refl

      go : (b : Bool) → pick_p b p q i ≡ got_of (pick b m n (drop i ts))
      go true = hm i l
      go false = hn i l

  -- where the first ends the second begins
  pub bind_tracks : {A B : Type 0} (m : Reader A) (f : A → Reader B) (p q : ℕ → Result ℕ Refusal) → Advances 0 m → Tracks m p → ((a : A) → Tracks (f a) q) →
      Tracks (m >>= f) (seq_p p q)
  bind_tracks {A} {B} m f p q v hm hf i l = ap (on_past q) (hm i l) ∙ go (m (drop i ts)) refl
    where
      go : (r : Res (A × List Token)) → m (drop i ts) ≡ r → on_past q (got_of r) ≡ got_of (and_then r (λ x. f x.0 x.1))
      go (refused r) e = refl
      go (ok x) e =
          let w = v (drop i ts) x.0 x.1 e in
          let d = w.same ∙ drop-drop w.k i ts in
          let n = length-drop i ts in
          let k = ap length d ∙ length-drop (i + w.k) ts in
          let j : i + w.k ≤ length ts = omega (arith, w.most) in
          let z : length ts - length x.1 ≡ i + w.k = omega (arith, w.most) in
          ap q z ∙ hf x.0 (i + w.k) j ∙ ap (λ us. got_of (f x.0 us)) (inv d)

  pub then_tracks : {A B : Type 0} (m : Reader A) (n : Reader B) (p q : ℕ → Result ℕ Refusal) → Advances 0 m → Tracks m p → Tracks n q → Tracks (m >> n) (seq_p p q)
  then_tracks m n p q v hm hn = bind_tracks m (λ a. n) p q v hm (λ a. hn)

  -- a reader that ends in giving something
  pub last_tracks : {A B : Type 0} (m : Reader A) (f : A → B) (p : ℕ → Result ℕ Refusal) → Advances 0 m → Tracks m p → Tracks (m >>= λ a. give (f a)) p
  last_tracks m f p v h i l = inv (past_past (p i)) ∙ bind_tracks m (λ a. give (f a)) p Ok v h (λ a. give_tracks (f a)) i l
    where
      past_past : (g : Result ℕ Refusal) → on_past Ok g ≡ g
      past_past (Ok k) = refl
      past_past (Err r) = refl

  many_tracks : {A : Type 0} (n : ℕ) (w : String) → is w nothing ≡ false → (item : Reader A) (p : ℕ → Result ℕ Refusal) → Advances 0 item → Tracks item p →
      Tracks (many_in n w item) (many_p token_at n (is w) p)
  many_tracks {A} zero w z item p v h = wrong_tracks (List A)
  many_tracks {A} (suc n) w z item p v h = choose_tracks (is w) z (give []) _ Ok _ (give_tracks {A = List A} [])
      (bind_tracks item _ p (λ k. many_p token_at n (is w) p k) v h (λ x. last_tracks (many_in n w item) (λ xs. x ∷ xs) (λ k. many_p token_at n (is w) p k)
      (many_in_advances n w item v) (many_tracks n w z item p v h)))

  pub up_to_tracks : {A : Type 0} (w : String) → is w nothing ≡ false → (item : Reader A) (p : ℕ → Result ℕ Refusal) → Advances 0 item → Tracks item p → Tracks (up_to w item) (up_to_p token_at (length ts) w p)
  up_to_tracks w z item p v h i l =
      many_tracks (length ts - i) w z item p v h i l ∙ ap (λ n. got_of (many_in n w item (drop i ts))) (inv (length-drop i ts))
