-- A name bound in the storages: they hold the cr-pair with σ[x ↦ v]. No name that a `cons?` binds is in reach, so that its value gets the next entry.
use Prim.Native.Nat.{ℕ, ◌+◌, ◌≤◌, ◌<◌, min}
use mathlib.Core.Path.{◌≡◌, refl, ap, subst, ◌∙◌, sym as inv}
use mathlib.Core.Bool.{false}
use mathlib.Core.List.{List, [], ◌∷◌, ◌++◌, append_assoc}
use native.Mathlib.Omega.{arith}
use lib.ListN.{length, length-append}
use borrow.Author.Tests.{lt-leb}
use Rattle.std.specs.Prelude.{Some}
use Rattle.expressions.specs.Expression.{AtomicExp, Exp, atm, nodes}
use Rattle.expressions.specs.Contraction.{CRPair}
use Rattle.language.specs.Program.{Param, pe, pa}
use Rattle.language.specs.WellFormed.{has_param}
use Rattle.semantics.specs.Environment.{update, update_e, update_a}
use Rattle.semantics.specs.Configuration.{ExpEnv, state, with_env, nodes_values}
use Rattle.heap.specs.Twins.Entries.{entry, entry_known, entry_from, entry_to, pushed, PushAnswer}
use Rattle.heap.specs.declared.configuration.Configuration.{Configuration}
use Rattle.runs.proofs.RunLaws.{below_self}
use Rattle.heap.proofs.HeapLaws.{Holds, nodes_positive}
use Rattle.heap.proofs.KnownLaws.{KnownOf, unknown}
use Rattle.heap.proofs.FrameLaws.{Held, held_front, entry_length, entry_before, entry_known_lem, entry_from_lem, entry_to_lem}
use Rattle.heap.proofs.FrameLaws as frame
use Rattle.heap.proofs.PartLaws.{held_second, held_joined}
use Rattle.heap.proofs.NodeLaws.{holds_nodes}
use Rattle.linking.specs.Twins.Linked.{with_name}
use Rattle.linking.specs.Twins.Places.{env_of}
use Rattle.linking.proofs.PlaceLaws.{bound_e, bound_a}
use Rattle.values.proofs.ValueLaws.{Typed, none_typed, e_typed, a_typed, typed_length}
use Rattle.values.proofs.StateLaws.{trees, HoldsPair}
use Rattle.values.specs.Twins.Names.{names_from}

-- one name more
more_typed : {n : Param} {v : Exp} {sc : List Param} {vs : List Exp} → Typed sc vs → Typed (n ∷ []) (v ∷ []) → Typed (with_name n sc) (vs ++ (v ∷ []))
more_typed none_typed r = r
more_typed (e_typed t) r = e_typed (more_typed t r)
more_typed (a_typed t) r = a_typed (more_typed t r)

pub typed_with_e : (x : ℕ) (v : Exp) {sc : List Param} {vs : List Exp} → Typed sc vs → Typed (with_name (pe x) sc) (vs ++ (v ∷ []))
typed_with_e x v t = more_typed t (e_typed none_typed)

pub typed_with_a : (x : ℕ) (y : AtomicExp) {sc : List Param} {vs : List Exp} → Typed sc vs → Typed (with_name (pa x) sc) (vs ++ (atm y ∷ []))
typed_with_a x y t = more_typed t (a_typed none_typed)

-- an entry behind those that hold trees
pushed_held : {h f : List ℕ} {used n from to : ℕ} {ts : List Exp} {v : Exp} → Held h used f 0 ts → n ≡ length ts → Holds h used from to v → used ≤ 65535 → n < 4120 → length f ≡ 12360 →
    Held h used (entry n 0 from to f) 0 (ts ++ (v ∷ []))
pushed_held {h} {f} {used} {n} {from} {to} {ts} {v} held e is fits room size =
    let z = holds_nodes is in let q = nodes_positive v in let b = is.below in
    let g = entry n 0 from to f in
    let low : min from 65535 ≡ from = omega arith in
    let high : min to 65535 ≡ to = omega arith in
    let i : 0 + length ts ≡ n = omega arith in
    let there : Holds h used (entry_from g n) (entry_to g n) v = rw (entry_from_lem n 0 from to f (omega arith), entry_to_lem n 0 from to f (omega arith), low, high) is in
    let nothing : KnownOf (entry_known g n) v = rw (entry_known_lem n 0 from to f (omega arith)) unknown in
    held_joined (held_front held below_self (omega arith) (record { same = λ j l. (entry_before n 0 from to f).same j (omega arith) })) (rw i (frame.Held.more there nothing frame.Held.none))

-- the configuration with so many entries
abbrev pub entries_to : ℕ → Configuration → Configuration
entries_to n c = record { inputs = c.inputs; outputs = c.outputs; entries = n; used = c.used; neqs = c.neqs; place = c.place; counter = c.counter }

-- what binding so many names leaves
pub record Named (h q : List ℕ) (c : Configuration) (more : ℕ) (names : List Param) (P : CRPair state) (w : PushAnswer) : Type 0 where
  pub done : w.answer ≡ Some (c.entries + more)
  pub holds : HoldsPair h w.frame q (entries_to (c.entries + more) c) names P

module _ {h f q : List ℕ} {c : Configuration} {names : List Param} {P : CRPair state} (x : HoldsPair h f q c names P) (room : c.entries < 4120) where
  abbrev ios : List Exp
  ios = P.con.io.ins ++ (P.con.io.out ∷ [])

  trees_parts : (vs : List Exp) → trees P vs ≡ ios ++ vs
  trees_parts vs = inv (append_assoc P.con.io.ins (P.con.io.out ∷ []) vs)

  ios_length : length ios ≡ length P.con.io.ins + 1
  ios_length = length-append P.con.io.ins (P.con.io.out ∷ [])

  trees_length : (vs : List Exp) → length (trees P vs) ≡ length P.con.io.ins + 1 + length vs
  trees_length vs = let a = length-append P.con.io.ins (P.con.io.out ∷ vs) in omega arith

  -- the names begin behind inputs and output
  pub base_is : names_from c ≡ length P.con.io.ins + 1
  base_is = omega (arith, x.inputs, x.outputs, x.entries, trees_length x.values)

  pub names_held : Held h c.used f (names_from c) x.values
  names_held =
      let a : Held h c.used f 0 (ios ++ x.values) = subst (λ (ts : List Exp). Held h c.used f 0 ts) (trees_parts x.values) x.held in
      let z : 0 + length ios ≡ names_from c = omega (arith, ios_length, base_is) in
      subst (λ (i : ℕ). Held h c.used f i x.values) z (held_second ios x.values a)

  pub entries_are : c.entries ≡ names_from c + length x.values
  entries_are = omega (arith, x.entries, trees_length x.values, base_is)

  module _ (name : Param) (v : Exp) (E : ExpEnv) (from to : ℕ) (is : Holds h c.used from to v) (typed : Typed (with_name name names) (x.values ++ (v ∷ [])))
      (env : E ≡ env_of (with_name name names) (x.values ++ (v ∷ []))) where
    trees_last : trees P (x.values ++ (v ∷ [])) ≡ trees P x.values ++ (v ∷ [])
    trees_last = inv (append_assoc P.con.io.ins (P.con.io.out ∷ x.values) (v ∷ []))

    -- THE LAW of a name
    name_bound : Named h q c 1 (with_name name names) (with_env E P) (pushed c.entries 0 from to f)
    unfolding pushed
    name_bound = rw (lt-leb 4120 c.entries room) (record {
      done = refl;
      holds = record {
        values = x.values ++ (v ∷ []);
        typed = typed;
        env = env;
        held = rw trees_last (pushed_held x.held x.entries is x.fits room x.frame_size);
        inputs = x.inputs;
        outputs = x.outputs;
        entries = omega (arith, x.entries, ap length trees_last, length-append (trees P x.values) (v ∷ []));
        neqs = x.neqs;
        count = x.count;
        fits = x.fits;
        heap_size = x.heap_size;
        frame_size = entry_length c.entries 0 from to f ∙ x.frame_size;
        q_size = x.q_size;
      };
    })

  -- σ[x ↦ v] for an `e.` name that is not in reach
  pub env_with_e : (n : ℕ) (v : Exp) → has_param (pe n) names ≡ false → update_e n v P.con.env ≡ env_of (with_name (pe n) names) (x.values ++ (v ∷ []))
  env_with_e n v new = ap (update_e n v) x.env ∙ bound_e n v names x.values (typed_length x.typed) new

  pub bound_name_e : (n : ℕ) (v : Exp) (from to : ℕ) → Holds h c.used from to v → has_param (pe n) names ≡ false →
      Named h q c 1 (with_name (pe n) names) (with_env (update_e n v P.con.env) P) (pushed c.entries 0 from to f)
  bound_name_e n v from to is new = name_bound (pe n) v (update_e n v P.con.env) from to is (typed_with_e n v x.typed) (env_with_e n v new)

  -- for an `a.` name
  pub env_with_a : (n : ℕ) (y : AtomicExp) → has_param (pa n) names ≡ false → update_a n y P.con.env ≡ env_of (with_name (pa n) names) (x.values ++ (atm y ∷ []))
  env_with_a n y new = ap (update_a n y) x.env ∙ bound_a n (atm y) names x.values (typed_length x.typed) new

  pub bound_name_a : (n : ℕ) (y : AtomicExp) (from to : ℕ) → Holds h c.used from to (atm y) → has_param (pa n) names ≡ false →
      Named h q c 1 (with_name (pa n) names) (with_env (update_a n y P.con.env) P) (pushed c.entries 0 from to f)
  bound_name_a n y from to is new = name_bound (pa n) (atm y) (update_a n y P.con.env) from to is (typed_with_a n y x.typed) (env_with_a n y new)

  -- the two `e.` names of a `cons?`
  module _ (m k : ℕ) (a b : Exp) (new_head : has_param (pe m) names ≡ false) (new_tail : has_param (pe k) (with_name (pe m) names) ≡ false) where
    pub env_with_parts : update_e k b (update_e m a P.con.env) ≡ env_of (with_name (pe k) (with_name (pe m) names)) ((x.values ++ (a ∷ [])) ++ (b ∷ []))
    env_with_parts = ap (update_e k b) (env_with_e m a new_head) ∙ bound_e k b (with_name (pe m) names) (x.values ++ (a ∷ [])) (typed_length (typed_with_e m a x.typed)) new_tail

    -- what is counted of the two parts
    pub both_have : nodes a + nodes b ≤ nodes_values (update k b (update m a P.con.env.evars))
    both_have = subst (λ (bs : List (ℕ × Exp)). nodes a + nodes b ≤ nodes_values bs) (inv (ap (λ (σ : ExpEnv). σ.evars) env_with_parts)) (parts_counted x.typed)
      where
        parts_counted : {sc : List Param} {vs : List Exp} → Typed sc vs → nodes a + nodes b ≤ nodes_values (env_of (with_name (pe k) (with_name (pe m) sc)) ((vs ++ (a ∷ [])) ++ (b ∷ []))).evars
        parts_counted none_typed = omega arith
        parts_counted (e_typed t) = omega (arith, parts_counted t)
        parts_counted (a_typed t) = parts_counted t
