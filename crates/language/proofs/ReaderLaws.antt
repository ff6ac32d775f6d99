-- Laws of the readers: what is read is made of tokens that fit and are not one too many.
use Prim.Native.Nat.{ℕ, zero, suc}
use Prim.Native.String.{String}
use mathlib.Core.Path.{◌≡◌, refl}
use mathlib.Core.Bool.{Bool, true, false}
use mathlib.Core.List.{List, [], ◌∷◌}
use native.Mathlib.Omega.{arith}
use lib.ListN.{length}
use Rattle.expressions.proofs.Predicates.{All}
use Rattle.language.specs.Words.{Fit, fits, broken, long, many}
use Rattle.language.specs.Tokens.{Token}
use Rattle.language.specs.Reader.{Res, ok, refused, and_then, Reader, ◌>>=◌, ◌>>◌, give, judged, take, wrong, next, pick, choose, many_in, up_to}
use Rattle.language.proofs.VerdictNumbers.{Stated}

-- of what was read, and of each token behind it; a refusal has one of the stated numbers
abbrev pub Result : (Token → Type 0) → {A : Type 0} → (A → Type 0) → Res (A × List Token) → Type 0
Result G Q (ok r) = Q r.0 × All G r.1
Result G Q (refused r) = Stated r.number

-- where G holds of each token, Q holds of what is read
pub record Reads (G : Token → Type 0) {A : Type 0} (Q : A → Type 0) (m : Reader A) : Type 0 where
  pub result : (ts : List Token) → All G ts → Result G Q (m ts)

-- what holds of a token that was taken
pub record Taken (G : Token → Type 0) (f : Token → Fit) (t : Token) : Type 0 where
  pub fit : f t ≡ fits
  pub over : t.over ≡ false
  pub good : G t

module _ {G : Token → Type 0} where
  pub give_reads : {A : Type 0} {Q : A → Type 0} (a : A) → Q a → Reads G Q (give a)
  give_reads a q = record { result = λ ts h. (q, h) }

  pub take_reads : (f : Token → Fit) → Reads G (Taken G f) (take f)
  take_reads f = record { result = go }
    where
      judge : (t : Token) (ts : List Token) → G t → All G ts → (x : Fit) → f t ≡ x → (b : Bool) → t.over ≡ b → Result G (Taken G f) (judged x b t ts)
      judge t ts g h broken e b o = (omega arith, omega arith)
      judge t ts g h long e b o = (omega arith, omega arith)
      judge t ts g h many e b o = (omega arith, omega arith)
      judge t ts g h fits e true o = (omega arith, omega arith)
      judge t ts g h fits e false o = (record { fit = e; over = o; good = g }, h)

      go : (ts : List Token) → All G ts → Result G (Taken G f) (take f ts)
      go [] h = (omega arith, omega arith)
      go (t ∷ ts) h = judge t ts h.0 h.1 (f t) refl t.over refl

  pub wrong_reads : {A : Type 0} {Q : A → Type 0} → Reads G Q wrong
  wrong_reads {A} {Q} = record { result = go }
    where
      go : (ts : List Token) → All G ts → Result G Q (wrong ts)
      go [] h = (omega arith, omega arith)
      go (t ∷ ts) h = (omega arith, omega arith)

  pub bind_reads : {A B : Type 0} {Q : A → Type 0} {R : B → Type 0} {m : Reader A} {f : A → Reader B} → Reads G Q m → ((a : A) → Q a → Reads G R (f a)) → Reads G R (m >>= f)
  bind_reads {A} {B} {Q} {R} {m} {f} h k = record { result = λ ts g. after (m ts) (h.result ts g) }
    where
      after : (r : Res (A × List Token)) → Result G Q r → Result G R (and_then r (λ r. f r.0 r.1))
      after (ok r) q = (k r.0 q.0).result r.1 q.1
      after (refused r) q = q

  pub map_reads : {A : Type 0} {Q R : A → Type 0} {m : Reader A} → ((a : A) → Q a → R a) → Reads G Q m → Reads G R m
  map_reads {A} {Q} {R} {m} f h = record { result = λ ts g. go (m ts) (h.result ts g) }
    where
      go : (r : Res (A × List Token)) → Result G Q r → Result G R r
      go (ok r) q = (f r.0 q.0, q.1)
      go (refused r) q = q

  pub then_reads : {A B : Type 0} {Q : A → Type 0} {R : B → Type 0} {m : Reader A} {n : Reader B} → Reads G Q m → Reads G R n → Reads G R (m >> n)
  then_reads {n} h k = bind_reads {f = λ a. n} h (λ a q. k)

  pub choose_reads : {A : Type 0} {Q : A → Type 0} {f : Token → Bool} {m n : Reader A} → Reads G Q m → Reads G Q n → Reads G Q (choose f m n)
  choose_reads {A} {Q} {f} {m} {n} h k = record { result = λ ts g. go ts g (next f ts) }
    where
      go : (ts : List Token) → All G ts → (b : Bool) → Result G Q (pick b m n ts)
      go ts g true = h.result ts g
      go ts g false = k.result ts g

  -- R of a list of items, each of which is read with Q
  module _ {A : Type 0} {Q : A → Type 0} {R : List A → Type 0} (none : R []) (more : (x : A) (xs : List A) → Q x → R xs → R (x ∷ xs)) (w : String) (item : Reader A) (h : Reads G Q item) where
    many_reads : (n : ℕ) → Reads G R (many_in n w item)
    many_reads zero = wrong_reads
    many_reads (suc n) = choose_reads (give_reads [] none) (bind_reads h (λ x q. bind_reads (many_reads n) (λ xs r. give_reads (x ∷ xs) (more x xs q r))))

    pub up_to_reads : Reads G R (up_to w item)
    up_to_reads = record { result = λ ts. (many_reads (length ts)).result ts }
