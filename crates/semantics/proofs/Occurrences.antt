-- Nodes that are no `?e`, and where a `?e` stands: what a substitution makes of both.
use Prim.Native.Nat.{ℕ, suc, ◌+◌, ◌<◌, ◌≤◌}
use mathlib.Core.Path.{◌≡◌}
use mathlib.Core.Bool.{true, false≢true}
use mathlib.Core.List.{List, [], ◌∷◌}
use native.Mathlib.Omega.{arith}
use borrow.Author.Tests.{eqb-true}
use Rattle.expressions.specs.Expression.{Exp, atm, evar, pair, nodes, nodes_all}
use Rattle.expressions.specs.Substitution.{Substitution, apply, apply_all}
use Rattle.expressions.specs.Intersection.{occurs}
use Rattle.expressions.proofs.Tests.{or_either, eqb_same}
use Rattle.expressions.proofs.Splitting.{occurs_in}
use Rattle.language.proofs.Tests.{or_left, or_right}

-- nodes that are no `?e`
abbrev pub solid : Exp → ℕ
solid (atm x) = 1
solid (evar n) = 0
solid (pair c d) = suc (solid c + solid d)

abbrev pub solid_all : List Exp → ℕ
solid_all [] = 0
solid_all (c ∷ cs) = solid c + solid_all cs

solid_nodes : (c : Exp) → solid c ≤ nodes c
solid_nodes (atm x) = omega arith
solid_nodes (evar n) = omega arith
solid_nodes (pair c d) = omega (arith, solid_nodes c, solid_nodes d)

pub solid_all_nodes : (cs : List Exp) → solid_all cs ≤ nodes_all cs
solid_all_nodes [] = omega arith
solid_all_nodes (c ∷ cs) = omega (arith, solid_nodes c, solid_all_nodes cs)

-- no substitution takes such a node away ..
solid_apply : (s : Substitution) (c : Exp) → solid c ≤ solid (apply s c)
solid_apply s (atm x) = omega arith
solid_apply s (evar n) = omega arith
solid_apply s (pair c d) = omega (arith, solid_apply s c, solid_apply s d)

pub solid_all_apply : (s : Substitution) (cs : List Exp) → solid_all cs ≤ solid_all (apply_all s cs)
solid_all_apply s [] = omega arith
solid_all_apply s (c ∷ cs) = omega (arith, solid_apply s c, solid_all_apply s cs)

-- .. and one that puts such a node for a variable that occurs adds one
solid_adds : (s : Substitution) (n : ℕ) → 0 < solid (s.e n) → (c : Exp) → occurs n c ≡ true → solid c < solid (apply s c)
solid_adds s n h (atm x) o = absurd (false≢true o)
solid_adds s n h (evar m) o = rw (eqb-true m n o) h
solid_adds s n h (pair c d) o = or_either (occurs n c) (occurs n d) o
    (λ t. omega (arith, solid_adds s n h c t, solid_apply s d))
    (λ t. omega (arith, solid_apply s c, solid_adds s n h d t))

pub solid_all_adds : (s : Substitution) (n : ℕ) → 0 < solid (s.e n) → (cs : List Exp) → occurs_in n cs ≡ true → solid_all cs < solid_all (apply_all s cs)
solid_all_adds s n h [] o = absurd (false≢true o)
solid_all_adds s n h (c ∷ cs) o = or_either (occurs n c) (occurs_in n cs) o
    (λ t. omega (arith, solid_adds s n h c t, solid_all_apply s cs))
    (λ t. omega (arith, solid_apply s c, solid_all_adds s n h cs t))

-- where a `?e` stands in what a substitution makes
occurs_source : (s : Substitution) (m : ℕ) (c : Exp) → occurs m (apply s c) ≡ true → (n : ℕ) × (occurs n c ≡ true) × (occurs m (s.e n) ≡ true)
occurs_source s m (atm x) o = absurd (false≢true o)
occurs_source s m (evar n) o = (n, eqb_same n, o)
occurs_source s m (pair c d) o = or_either (occurs m (apply s c)) (occurs m (apply s d)) o
    (λ t. let r = occurs_source s m c t in (r.0, or_left _ _ r.1, r.2))
    (λ t. let r = occurs_source s m d t in (r.0, or_right (occurs r.0 c) _ r.1, r.2))

occurs_apply : (s : Substitution) (m n : ℕ) → occurs m (s.e n) ≡ true → (c : Exp) → occurs n c ≡ true → occurs m (apply s c) ≡ true
occurs_apply s m n h (atm x) o = absurd (false≢true o)
occurs_apply s m n h (evar k) o = rw (eqb-true k n o) h
occurs_apply s m n h (pair c d) o = or_either (occurs n c) (occurs n d) o
    (λ t. or_left _ _ (occurs_apply s m n h c t))
    (λ t. or_right (occurs m (apply s c)) _ (occurs_apply s m n h d t))

pub occurs_in_apply : (s : Substitution) (m n : ℕ) → occurs m (s.e n) ≡ true → (cs : List Exp) → occurs_in n cs ≡ true → occurs_in m (apply_all s cs) ≡ true
occurs_in_apply s m n h [] o = absurd (false≢true o)
occurs_in_apply s m n h (c ∷ cs) o = or_either (occurs n c) (occurs_in n cs) o
    (λ t. or_left _ _ (occurs_apply s m n h c t))
    (λ t. or_right (occurs m (apply s c)) _ (occurs_in_apply s m n h cs t))

-- each `?e` of d stands in cs
abbrev pub Within : List Exp → Exp → Type 0
Within cs d = (n : ℕ) → occurs n d ≡ true → occurs_in n cs ≡ true

pub within_apply : (s : Substitution) (cs : List Exp) (d : Exp) → Within cs d → Within (apply_all s cs) (apply s d)
within_apply s cs d h m o = let r = occurs_source s m d o in occurs_in_apply s m r.0 r.2 cs (h r.0 r.1)
