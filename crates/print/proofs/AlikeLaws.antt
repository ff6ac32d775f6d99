-- Two lists of names that agree on the symbols of an expression, a restriction or a line print it alike.
use Prim.Native.Nat.{ℕ}
use mathlib.Core.Path.{◌≡◌, refl, ap, ap₂}
use mathlib.Core.Bool.{Bool, true, false, cond}
use mathlib.Core.List.{List, [], ◌∷◌, ◌++◌}
use lib.ListN.{get_or}
use Rattle.expressions.specs.Expression.{AtomicExp, sym, avar, Exp, atm, evar, pair}
use Rattle.expressions.specs.Restriction.{Restriction}
use Rattle.expressions.specs.Class.{IOPair, IOClass}
use Rattle.expressions.proofs.Predicates.{All, all_append}
use Rattle.expressions.proofs.Numbers.{AtomicNumbers, ExpNumbers, NeqNumbers, ClassNumbers}
use Rattle.language.specs.Bytes.{txt}
use Rattle.language.specs.Words.{Word}
use Rattle.semantics.specs.Tree.{Line}
use Rattle.listing.specs.Bindings.{same, Binding, is_bound, add_binding, bindings_of, bindings_of_all, bindings}
use Rattle.listing.specs.Print.{digits, print_atomic, print, print_bindings, print_restriction, print_line}
use Rattle.print.proofs.SeenLaws.{bound}

-- a property of the symbols that follows from another
module _ (S T N : ℕ → Type 0) (f : (z : ℕ) → S z → T z) where
  atomic_follows : (x : AtomicExp) → AtomicNumbers S N x → AtomicNumbers T N x
  atomic_follows (sym z) h = f z h
  atomic_follows (avar n) h = h

  exp_follows : (c : Exp) → ExpNumbers S N c → ExpNumbers T N c
  exp_follows (atm x) h = atomic_follows x h
  exp_follows (evar n) h = h
  exp_follows (pair c d) h = (exp_follows c h.0, exp_follows d h.1)

  exps_follow : (cs : List Exp) → All (ExpNumbers S N) cs → All (ExpNumbers T N) cs
  exps_follow [] h = tt
  exps_follow (c ∷ cs) h = (exp_follows c h.0, exps_follow cs h.1)

  neqs_follow : (qs : Restriction) → All (NeqNumbers S N) qs → All (NeqNumbers T N) qs
  neqs_follow [] h = tt
  neqs_follow (q ∷ qs) h = ((atomic_follows q.left h.0.0, atomic_follows q.right h.0.1), neqs_follow qs h.1)

  pub class_follows : (P : IOClass) → ClassNumbers S N P → ClassNumbers T N P
  class_follows P h = (exps_follow P.con.ins h.0, exp_follows P.con.out h.1, neqs_follow P.neqs h.2)

module _ (ns ms : List Word) (N : ℕ → Type 0) where
  abbrev pub Alike : ℕ → Type 0
  Alike z = get_or ns z [] ≡ get_or ms z []

  atomic_alike : (x : AtomicExp) → AtomicNumbers Alike N x → print_atomic ns x ≡ print_atomic ms x
  atomic_alike (sym z) h = ap (λ (w : Word). 39 ∷ w) h
  atomic_alike (avar n) h = refl

  pub print_alike : (e : Exp) → ExpNumbers Alike N e → print ns e ≡ print ms e
  print_alike (atm x) h = atomic_alike x h
  print_alike (evar n) h = refl
  print_alike (pair c d) h = ap₂ (λ (a b : List ℕ). txt "(cons " ++ a ++ (32 ∷ b) ++ (41 ∷ [])) (print_alike c h.0) (print_alike d h.1)

  restriction_alike : (qs : Restriction) → All (NeqNumbers Alike N) qs → print_restriction ns qs ≡ print_restriction ms qs
  restriction_alike [] h = refl
  restriction_alike (q ∷ qs) h =
      ap₂ (λ (a b : List ℕ). a ++ b)
      (ap₂ (λ (a b : List ℕ). txt " # " ++ a ++ (32 ∷ b)) (atomic_alike q.left h.0.0) (atomic_alike q.right h.0.1))
      (restriction_alike qs h.1)

  -- a binding's variable has no symbol, and what it is bound to is a part of the line
  abbrev BoundAlike : Binding → Type 0
  BoundAlike b = (print ns b.var ≡ print ms b.var) × (print ns b.exp ≡ print ms b.exp)

  added_alike : (v e : Exp) (bs : List Binding) → BoundAlike (bound v e) → All BoundAlike bs → All BoundAlike (add_binding v e bs)
  added_alike v e bs h k = pick (is_bound v bs)
    where
      pick : (t : Bool) → All BoundAlike (cond t bs (bs ++ (bound v e ∷ [])))
      pick true = k
      pick false = all_append BoundAlike bs (bound v e ∷ []) k (h, tt)

  bindings_of_lem : (c e : Exp) (bs : List Binding) → ExpNumbers Alike N e → All BoundAlike bs → All BoundAlike (bindings_of c e bs)
  bindings_of_lem (atm (sym z)) e bs h k = k
  bindings_of_lem (atm (avar n)) e bs h k = added_alike (atm (avar n)) e bs (refl, print_alike e h) k
  bindings_of_lem (evar n) e bs h k = added_alike (evar n) e bs (refl, print_alike e h) k
  bindings_of_lem (pair c d) (pair e f) bs h k = bindings_of_lem d f (bindings_of c e bs) h.1 (bindings_of_lem c e bs h.0 k)
  bindings_of_lem (pair c d) (atm x) bs h k = k
  bindings_of_lem (pair c d) (evar n) bs h k = k

  bindings_of_all_lem : (cs es : List Exp) (bs : List Binding) → All (ExpNumbers Alike N) es → All BoundAlike bs → All BoundAlike (bindings_of_all cs es bs)
  bindings_of_all_lem [] es bs h k = k
  bindings_of_all_lem (c ∷ cs) [] bs h k = k
  bindings_of_all_lem (c ∷ cs) (e ∷ es) bs h k = bindings_of_all_lem cs es (bindings_of c e bs) h.1 (bindings_of_lem c e bs h.0 k)

  bindings_alike : (bs : List Binding) → All BoundAlike bs → print_bindings ns bs ≡ print_bindings ms bs
  bindings_alike [] h = refl
  bindings_alike (b ∷ bs) h =
      ap₂ (λ (x y : List ℕ). x ++ y)
      (ap₂ (λ (v e : List ℕ). cond (same b.var b.exp) [] (32 ∷ v ++ (61 ∷ e))) h.0.0 h.0.1)
      (bindings_alike bs h.1)

  pub line_alike : (j : IOPair) (i : ℕ) (L : Line) → ClassNumbers Alike N L.class → print_line ns j i L ≡ print_line ms j i L
  line_alike j i L h =
      let l = L.class.con in
      ap₂ (λ (x y : List ℕ). digits i ++ (32 ∷ digits L.steps) ++ x ++ y ++ (10 ∷ []))
      (bindings_alike (bindings j l) (bindings_of_lem j.out l.out (bindings_of_all j.ins l.ins []) h.1 (bindings_of_all_lem j.ins l.ins [] h.0 tt)))
      (restriction_alike L.class.neqs h.2)
