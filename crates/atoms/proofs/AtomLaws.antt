-- What `atom_at` and `sides_at` mean where the entries hold the values of the names in reach: the codes of the two sides with their variables' values in.
use Prim.Native.Nat.{ℕ, suc, ◌+◌, ◌-◌, ◌*◌, ◌≤◌, ◌<◌, min}
use mathlib.Core.Path.{◌≡◌, refl, ap, subst, ◌∙◌, sym as inv}
use mathlib.Core.Bool.{Bool, true, false, cond, false≢true}
use mathlib.Core.List.{List, [], ◌∷◌}
use native.Mathlib.Omega.{arith}
use lib.Dec.{ltb}
use lib.ListN.{length, get_or, length-append}
use borrow.Author.Tests.{lt-leb, ltb-true}
use Rattle.expressions.specs.Expression.{AtomicExp, sym, avar, Exp, atm}
use Rattle.expressions.specs.Substitution.{Substitution, apply_atomic}
use Rattle.expressions.proofs.Tests.{and_both}
use Rattle.language.specs.Program.{Term, conditional, eqa, Param, pa, Prog, atom_of}
use Rattle.language.specs.Scope.{in_scope, is_atomic}
use Rattle.semantics.specs.Configuration.{Configuration, subst_of_env, nodes_state, ExpEnv}
use Rattle.semantics.proofs.Scopes.{WellScoped, scoped_eqa}
use Rattle.sets.specs.Cells.{atomic_code}
use Rattle.runs.specs.Twins.Runs.{cells_at}
use Rattle.heap.specs.Twins.Entries.{entry_from, entry_to}
use Rattle.heap.specs.declared.configuration.Configuration.{Configuration as InCells}
use Rattle.heap.proofs.HeapLaws.{Holds}
use Rattle.heap.proofs.FrameLaws.{Held}
use Rattle.heap.proofs.FrameLaws as frame
use Rattle.heap.proofs.NodeLaws.{holds_nodes}
use Rattle.heap.proofs.PartLaws.{held_second}
use Rattle.linking.specs.Twins.Code.{link, link_at}
use Rattle.linking.specs.Twins.Linked.{place_in, ExpLinked, sym_linked, e_linked, a_linked, cons_linked, TermLinked, same_linked}
use Rattle.linking.specs.Twins.Places.{env_of}
use Rattle.linking.proofs.PlaceLaws.{lookup_a}
use Rattle.values.proofs.ValueLaws.{held_at, Typed, typed_length, atom_typed, Known}
use Rattle.values.proofs.ValueLaws.{past_linked}
use Rattle.values.proofs.StateLaws.{Stands, HoldsPair, known_in_scope}
use Rattle.values.proofs.ContractionLaws.{few_entries}
use Rattle.values.specs.Twins.Names.{names_from}
use Rattle.atoms.specs.Twins.Atoms.{first_cell, atom_at, sides_at}

held_tail : {h f : List ℕ} {used i : ℕ} {t : Exp} {ts : List Exp} → Held h used f i (t ∷ ts) → Held h used f (i + 1) ts
held_tail (frame.Held.more x k r) = r

-- one cell
one_cell : (h : List ℕ) (i n x : ℕ) → n ≡ 1 → cells_at n i h ≡ x ∷ [] → get_or h i 0 ≡ x
unfolding cells_at
one_cell h i n x e r = let s : cells_at 1 i h ≡ x ∷ [] = rw e at r in ap (λ (l : List ℕ). get_or l 0 0) s

module _ (code h f : List ℕ) (base used : ℕ) (sc : List Param) (vs : List Exp) (typed : Typed sc vs) (held : Held h used f base vs) (few : base + length vs ≤ 4120) (fit : used ≤ 65535) where
  abbrev σ : Substitution
  σ = subst_of_env (env_of sc vs)

  first_is : (i : ℕ) (y : AtomicExp) → i < 4120 → Holds h used (entry_from f i) (entry_to f i) (atm y) → first_cell h f i ≡ atomic_code y
  unfolding first_cell
  first_is i y l x =
      let n = holds_nodes x in
      rw (lt-leb 4120 i l, lt-leb 65535 (entry_from f i) (omega (arith, x.below))) (one_cell h (entry_from f i) (entry_to f i - entry_from f i) (atomic_code y) n x.is)

  name_is : (i p x : ℕ) → link_at code i ≡ link 2 (place_in (pa x) sc) 0 p → place_in (pa x) sc < length sc → atom_at code h f base i ≡ atomic_code (apply_atomic σ (avar x))
  unfolding atom_at
  name_is i p x e l =
      let n = typed_length typed in
      let z : min base 4120 + place_in (pa x) sc ≡ base + place_in (pa x) sc = omega arith in
      let is : get_or vs (place_in (pa x) sc) (atm (sym 0)) ≡ atm (apply_atomic σ (avar x)) = inv (ap atm (lookup_a (sym 0) x sc vs n l) ∙ atom_typed (atm (sym 0)) x typed l) in
      let y = held_at (atm (sym 0)) (place_in (pa x) sc) held (omega arith) in
      rw (e, z) (first_is (base + place_in (pa x) sc) (apply_atomic σ (avar x)) (omega arith)
      (subst (λ (t : Exp). Holds h used (entry_from f (base + place_in (pa x) sc)) (entry_to f (base + place_in (pa x) sc)) t) is y))

  symbol_is : (i p z : ℕ) → link_at code i ≡ link 1 z 0 p → atom_at code h f base i ≡ z
  unfolding atom_at
  symbol_is i p z e = rw e

  -- THE LAW of an ea
  pub atom_linked : {i j : ℕ} {c : Exp} → ExpLinked code sc i c j → is_atomic c ≡ true → Known sc c → atom_at code h f base i ≡ atomic_code (apply_atomic σ (atom_of c))
  atom_linked {i} (sym_linked {z = z} e) a kn = symbol_is i (i + 1) _ e
  atom_linked {i} (a_linked {x = x} e) a kn = name_is i (i + 1) x e kn
  atom_linked (e_linked e) a kn = absurd (false≢true a)
  atom_linked (cons_linked o w lc ld e) a kn = absurd (false≢true a)

-- a side of an `eqa?` with its variable's value in
abbrev pub side_of : Configuration → Exp → AtomicExp
side_of K a = apply_atomic (subst_of_env K.cr.con.env) (atom_of a)

-- a link with a mark is a token's
pub linked_below : (code : List ℕ) (i n : ℕ) → (link_at code i).mark ≡ suc n → i < 4097
unfolding link_at
linked_below code i n e = pick (ltb i 4097) refl e
  where
    pick : (b : Bool) → ltb i 4097 ≡ b →
        (cond b (link (get_or code (4 * i) 0) (get_or code (4 * i + 1) 0) (get_or code (4 * i + 2) 0) (get_or code (4 * i + 3) 0)) (link 0 0 0 0)).mark ≡ suc n → i < 4097
    pick true k s = ltb-true i 4097 k
    pick false k s = let z : 0 ≡ suc n = s in absurd (omega arith)

module _ (p : Prog) (bodies : ℕ → ℕ) (code : List ℕ) where
  -- where the parts of an `eqa?` stand
  pub record SameAt (sc : List Param) (i : ℕ) (a b : Exp) (t u : Term) : Type 0 where
    pub mid : ℕ
    pub end : ℕ
    pub other : ℕ
    pub past : ℕ
    pub linked : link_at code i ≡ link 4 (end + 1) other (past + 1)
    pub left : ExpLinked code sc (i + 4) a mid
    pub right : ExpLinked code sc mid b end
    pub true_branch : TermLinked p bodies code sc (end + 1) t other
    pub false_branch_lem : TermLinked p bodies code sc other u past

  pub same_parts : {sc : List Param} {i k : ℕ} {a b : Exp} {t u : Term} → TermLinked p bodies code sc i (conditional (eqa a b) t u) k → SameAt sc i a b t u
  same_parts (same_linked {j = j} {m = m} {no = n} {k = k} e lc ld ls lt) = record { mid = j; end = m; other = n; past = k; linked = e; left = lc; right = ld; true_branch = ls; false_branch_lem = lt }

  module _ {h f q : List ℕ} {c : InCells} {K : Configuration} (S : Stands p bodies code h f q c K) {a b : Exp} {t u : Term} (is : K.term ≡ conditional (eqa a b) t u) where
    pub parts : SameAt S.names c.place a b t u
    parts = same_parts (subst (λ (s : Term). TermLinked p bodies code S.names c.place s S.past) is S.term)

    pub in_code : c.place < 4097
    in_code = linked_below code c.place 3 (rw parts.linked)

    module _ (small : nodes_state K.cr ≤ 4097) (scoped : WellScoped p K.term K.cr.con.env) where
      holds : HoldsPair h f q c S.names K.cr
      holds = S.holds

      -- names begin behind inputs and output
      abbrev pub base : ℕ
      base = length K.cr.con.io.ins + 1

      behind : Held h c.used f base holds.values
      behind =
          let z : 0 + length K.cr.con.io.ins + 1 ≡ base = omega arith in
          rw z at (held_tail (held_second K.cr.con.io.ins (K.cr.con.io.out ∷ holds.values) holds.held))

      few : base + length holds.values ≤ 4120
      few = omega (arith, few_entries holds small, holds.entries, length-append K.cr.con.io.ins (K.cr.con.io.out ∷ holds.values))

      here : WellScoped p (conditional (eqa a b) t u) (env_of S.names holds.values)
      here = subst (λ (s : Term). WellScoped p s (env_of S.names holds.values)) is (subst (λ (e : ExpEnv). WellScoped p K.term e) holds.env scoped)

      side_is : {i j : ℕ} {d : Exp} → ExpLinked code S.names i d j → (is_atomic d ≡ true) × (in_scope here.scope d ≡ true) → atom_at code h f base i ≡ atomic_code (side_of K d)
      side_is {i} {j} {d} l s =
          let kn = known_in_scope holds.typed here.scope here.covers d s.1 in
          let z = atom_linked code h f base c.used S.names holds.values holds.typed behind few holds.fits l s.0 kn in
          z ∙ ap (λ (e : ExpEnv). atomic_code (apply_atomic (subst_of_env e) (atom_of d))) (inv holds.env)

      -- THE LAW of the two sides
      pub atom_means : (atom_at code h f base (c.place + 4) ≡ atomic_code (side_of K a)) × (atom_at code h f base (link_at code (c.place + 4)).past ≡ atomic_code (side_of K b))
      atom_means =
          let w = scoped_eqa here in
          let sc = here.scope in
          let l = and_both (is_atomic a) (in_scope sc a) w.0 in
          let r = and_both (is_atomic b) (in_scope sc b) w.1 in
          (side_is parts.left l, rw (past_linked parts.left) (side_is parts.right r))

      names_is : names_from c ≡ base
      names_is = omega (arith, few, holds.inputs, holds.outputs)

      pub sides_mean : sides_at code h f c ≡ record { left = atomic_code (side_of K a); right = atomic_code (side_of K b) }
      unfolding sides_at
      sides_mean =
          let i : min c.place 4097 ≡ c.place = omega (arith, in_code) in
          rw (names_is, i, atom_means.0, atom_means.1)
