-- What the brackets say is where the parts of a job stand (specs/Twins/PartEnds.antt).
use Prim.Native.Nat.{ℕ, suc, ◌+◌, ◌-◌, ◌≤◌, ◌<◌}
use Prim.Native.String.{String}
use mathlib.Core.Path.{◌≡◌, refl}
use mathlib.Core.Bool.{false, ◌||◌}
use mathlib.Core.List.{List}
use native.Mathlib.Omega.{arith}
use native.Mathlib.Numerals.{add-one}
use native.Mathlib.Nat.{add_assoc}
use lib.Dec.{eqb}
use Rattle.language.specs.Bytes.{txt}
use Rattle.language.specs.Tokens.{of_job, Token, key_of}
use Rattle.language.specs.Source.{SExp}
use Rattle.syntax.specs.Twins.Standing.{WordAt, ExpAt, ExpsAt, SidesAt}
use Rattle.syntax.specs.Twins.Standing as at
use Rattle.syntax.specs.Twins.PartEnds.{part_ends}
use Rattle.syntax.specs.declared.job_ends.JobEnds.{JobEnds}
use Rattle.syntax.proofs.CheckLaws.{ahead_in}
use Rattle.syntax.proofs.Placed.{exp_placed}
use Rattle.syntax.proofs.EndsLaws as ends
use Rattle.syntax.proofs.EndsLaws.{Unbracketed}

-- the inputs end at a, the output before b, the non-equalities at c
abbrev pub parts_at : ℕ → ℕ → ℕ → JobEnds
parts_at a b c = record { ins = a; from = a + 3; out = b; sides = b + 3; neqs = c }

module _ (tok : ℕ → Token) (n : ℕ) (names : Unbracketed tok) where
  abbrev from : ℕ → ℕ → ℕ → ℕ
  from f d i = ends.from tok n names f d i

  least : {room i k : ℕ} {c : SExp} → ExpAt tok n of_job room i c k → i < k
  least x = ends.exp_least tok n names (exp_placed x)

  through : {room i k : ℕ} {c : SExp} → ExpAt tok n of_job room i c k → (r d : ℕ) → from (k - i + r) (suc d) i ≡ from r (suc d) k
  through x r d = ends.exp_through tok n names (exp_placed x) r d

  exps_most : {room i k : ℕ} {cs : List SExp} → ExpsAt tok n of_job ")" room i cs k → i ≤ k
  exps_most (at.ExpsAt.none_at x) = omega arith
  exps_most (at.ExpsAt.more_at b x xs) = let y = least x in let z = exps_most xs in omega arith

  exps_through : {room i k : ℕ} {cs : List SExp} → ExpsAt tok n of_job ")" room i cs k → (r d : ℕ) → from (k - i + r) (suc d) i ≡ from r (suc d) k
  exps_through {room} {i} (at.ExpsAt.none_at x) r d = let z : i - i + r ≡ r = omega arith in rw z
  exps_through {room} {i} {k} (at.ExpsAt.more_at {j = j} b x xs) r d =
      let y = least x in let w = exps_most xs in let z : k - i + r ≡ j - i + (k - j + r) = omega arith in
      rw (z, through x (k - j + r) d) (exps_through xs r d)

  exps_close : {room i k : ℕ} {cs : List SExp} → ExpsAt tok n of_job ")" room i cs k → WordAt tok n ")" k
  exps_close (at.ExpsAt.none_at x) = x
  exps_close (at.ExpsAt.more_at b x xs) = exps_close xs

  sides_most : {i k : ℕ} {qs : List (SExp × SExp)} → SidesAt tok n i qs k → i ≤ k
  sides_most (at.SidesAt.none_at x) = omega arith
  sides_most (at.SidesAt.more_at b o x y z qs) = let u = least x in let v = least y in let w = sides_most qs in omega arith

  sides_through : {i k : ℕ} {qs : List (SExp × SExp)} → SidesAt tok n i qs k → (r d : ℕ) → from (k - i + r) (suc d) i ≡ from r (suc d) k
  sides_through {i} (at.SidesAt.none_at x) r d = let z : i - i + r ≡ r = omega arith in rw z
  sides_through {i} {k = m} (at.SidesAt.more_at {j = j} {k = k} b o x y z qs) r d =
      let u = least x in let v = least y in let w = sides_most qs in
      let e : m - i + r ≡ suc (j - (i + 1) + (k - j + suc (m - (k + 1) + r))) = omega arith in
      rw (
        e,
        ends.open_step tok n names "[" _ (suc d) i o refl,
        add-one (suc d),
        through x (k - j + suc (m - (k + 1) + r)) (suc d),
        through y (suc (m - (k + 1) + r)) (suc d),
        ends.close_step tok n names "]" (m - (k + 1) + r) (suc d) k z refl refl,
      )
      (sides_through qs r d)

  sides_close : {i k : ℕ} {qs : List (SExp × SExp)} → SidesAt tok n i qs k → WordAt tok n ")" k
  sides_close (at.SidesAt.none_at x) = x
  sides_close (at.SidesAt.more_at b o x y z qs) = sides_close qs

  -- a bracket behind whose word stands what ends at k
  part_end : (w : String) (i k : ℕ) → WordAt tok n "(" i → WordAt tok n w (i + 1) → (eqb (key_of (txt w)) 1 || eqb (key_of (txt w)) 3) ≡ false → (eqb (key_of (txt w)) 2 || eqb (key_of (txt w)) 4) ≡ false →
      i + 2 ≤ k → ((r d : ℕ) → from (k - (i + 2) + r) (suc d) (i + 2) ≡ from r (suc d) k) → WordAt tok n ")" k → ends.past tok n names i ≡ k + 1
  part_end w i k o y p q l f e = let b = e.below in ends.whole tok n names i (k + 1) (omega arith) (omega arith) o.key go
    where
      go : (r d : ℕ) → from (k + 1 - i + r) d i ≡ ends.after tok n names d r (k + 1)
      go r d =
          let z : k + 1 - i + r ≡ suc (suc (k - (i + 2) + suc r)) = omega arith in
          rw (
            z,
            ends.open_step tok n names "(" _ d i o refl,
            ends.word_step tok n names w _ (d + 1) (i + 1) y p q,
            add_assoc i 1 1,
            add-one d,
            f (suc r) d,
            ends.close_step tok n names ")" r d k e refl refl,
          )

  pub parts_end : {a b c room : ℕ} {ins : List SExp} {out : SExp} {neqs : List (SExp × SExp)} →
      WordAt tok n "(" 2 → WordAt tok n "in" 3 → ExpsAt tok n of_job ")" room 4 ins a →
      WordAt tok n "(" (a + 1) → WordAt tok n "out" (a + 2) → ExpAt tok n of_job room (a + 3) out b → WordAt tok n ")" b →
      WordAt tok n "(" (b + 1) → WordAt tok n "neq" (b + 2) → SidesAt tok n (b + 3) neqs c → part_ends (λ i. (tok i).key) n ≡ parts_at a b c
  parts_end {a} {b} {c} o1 w1 is o2 w2 y e2 o3 w3 qs =
      let i : ends.past tok n names 2 ≡ a + 1 = part_end "in" 2 a o1 w1 refl refl (exps_most is) (exps_through is) (exps_close is) in
      let l = least y in
      let m = sides_most qs in
      let v2 : WordAt tok n "out" (a + 1 + 1) = rw (add_assoc a 1 1) w2 in
      let v3 : WordAt tok n "neq" (b + 1 + 1) = rw (add_assoc b 1 1) w3 in
      let f2 : (r d : ℕ) → from (b - (a + 1 + 2) + r) (suc d) (a + 1 + 2) ≡ from r (suc d) b = rw (add_assoc a 1 2) (through y) in
      let f3 : (r d : ℕ) → from (c - (b + 1 + 2) + r) (suc d) (b + 1 + 2) ≡ from r (suc d) c = rw (add_assoc b 1 2) (sides_through qs) in
      let o : ends.past tok n names (a + 1) ≡ b + 1 = part_end "out" (a + 1) b o2 v2 refl refl (omega arith) f2 e2 in
      let q : ends.past tok n names (b + 1) ≡ c + 1 = part_end "neq" (b + 1) c o3 v3 refl refl (omega arith) f3 (sides_close qs) in
      let x = w2.below in let z = w3.below in let u = e2.below in let t = (sides_close qs).below in
      let p1 : a + 1 - 1 ≡ a = omega arith in
      let p2 : b + 1 - 1 ≡ b = omega arith in
      let p3 : c + 1 - 1 ≡ c = omega arith in
      let p4 : a + 1 + 2 ≡ a + 3 = omega arith in
      let p5 : b + 1 + 2 ≡ b + 3 = omega arith in
      rw (i, o, q, p1, p2, p3, ahead_in n 2 (a + 1) (omega arith), ahead_in n 2 (b + 1) (omega arith), p4, p5)
