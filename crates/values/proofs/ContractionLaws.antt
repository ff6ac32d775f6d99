-- A substitution applied to a whole cr-pair in the storages (001, definition 25): its entries are contracted, its non-equalities stay as they are.
use Prim.Native.Nat.{ℕ, suc, ◌+◌, ◌-◌, ◌≤◌, ◌<◌, min}
use mathlib.Core.Path.{◌≡◌, refl, ap, subst, ◌∙◌, sym as inv}
use mathlib.Core.List.{List, [], ◌∷◌, ◌++◌}
use mathlib.Core.Logic.{◌⊎◌, inl, inr}
use native.Mathlib.Omega.{arith}
use native.Mathlib.Decide.{dec_le}
use lib.ListN.{length, set}
use lib.Seq.{sets, length-sets}
use borrow.Author.Tests.{lt-ltb, le-ltb}
use Rattle.std.specs.Prelude.{Some, None, Ok, Err}
use Rattle.restrictions.specs.declared.failure.Failure.TheVariants.{Over}
use Rattle.expressions.specs.Expression.{Exp, nodes_all}
use Rattle.expressions.specs.Substitution.{Substitution, apply, apply_atomic, apply_all}
use Rattle.expressions.specs.Restriction.{Restriction, nodes_restriction}
use Rattle.expressions.specs.Contraction.{CRPair}
use Rattle.language.specs.Program.{Param}
use Rattle.semantics.specs.Environment.{add_e, add_a}
use Rattle.semantics.specs.Configuration.{state, apply_env, nodes_state}
use Rattle.sets.specs.Cells.{pair_code}
use Rattle.restrictions.proofs.RestrictionLaws.{Front}
use Rattle.runs.specs.Twins.Runs.{cells_at}
use Rattle.heap.specs.Twins.Contracted.{Stores, contracted_from, contracted_entries}
use Rattle.heap.specs.Twins.Moving.{bound_cell, bound_pair}
use Rattle.heap.specs.declared.configuration.Configuration.{Configuration}
use Rattle.runs.proofs.RunLaws.{Below, below_self, below_sets, written_done}
use Rattle.heap.proofs.HeapLaws.{Range, Filling, sets_cells}
use Rattle.heap.proofs.FrameLaws.{Held, held_kept, Contracts, contract_means}
use Rattle.heap.proofs.FrameLaws as frame
use Rattle.linking.specs.Twins.Places.{env_of}
use Rattle.values.specs.Twins.Sizes.{sized_as}
use Rattle.values.proofs.ValueLaws.{Typed, none_typed, e_typed, a_typed}
use Rattle.values.proofs.StateLaws.{trees, HoldsPair, pair_nodes, nodes_length}
use Rattle.values.proofs.SizeLaws.{sized_on, sized_over}

module _ (s : Substitution) where
  -- "`a.x` ... an atom": what a substitution makes of the values of `a.` names is atomic
  pub applied_typed : {names : List Param} {vs : List Exp} → Typed names vs → Typed names (apply_all s vs)
  applied_typed none_typed = none_typed
  applied_typed (e_typed t) = e_typed (applied_typed t)
  applied_typed (a_typed t) = a_typed (applied_typed t)

  pub applied_env : {names : List Param} {vs : List Exp} → Typed names vs → apply_env s (env_of names vs) ≡ env_of names (apply_all s vs)
  applied_env none_typed = refl
  applied_env (e_typed {x = x} {v = v} t) = ap (add_e x (apply s v)) (applied_env t)
  applied_env (a_typed {x = x} {y = y} t) = ap (add_a x (apply_atomic s y)) (applied_env t)

  pub applied_trees_lem : (ins : List Exp) (out : Exp) (vs : List Exp) → apply_all s (ins ++ (out ∷ vs)) ≡ apply_all s ins ++ (apply s out ∷ apply_all s vs)
  applied_trees_lem [] out vs = refl
  applied_trees_lem (c ∷ ins) out vs = ap (λ (ts : List Exp). apply s c ∷ ts) (applied_trees_lem ins out vs)

  pub applied_length : (ts : List Exp) → length (apply_all s ts) ≡ length ts
  applied_length [] = refl
  applied_length (t ∷ ts) = ap suc (applied_length ts)

-- cr/κ for a substitution that leaves the non-equalities as they are
abbrev pub applied_pair : Substitution → CRPair state → CRPair state
applied_pair s P = record { con = state.apply s P.con; neqs = P.neqs }

abbrev pub restricted_pair : Restriction → CRPair state → CRPair state
restricted_pair qs P = record { con = P.con; neqs = qs }

-- a configuration with so much used of the heap
abbrev pub used_to : ℕ → Configuration → Configuration
used_to k c = record { inputs = c.inputs; outputs = c.outputs; entries = c.entries; used = k; neqs = c.neqs; place = c.place; counter = c.counter }

module _ {h f q : List ℕ} {c : Configuration} {names : List Param} {P : CRPair state} (x : HoldsPair h f q c names P) where
  -- the term's place and the counter stand in no storage
  pub pair_same : (d : Configuration) → d.inputs ≡ c.inputs → d.outputs ≡ c.outputs → d.entries ≡ c.entries → d.used ≡ c.used → d.neqs ≡ c.neqs → HoldsPair h f q d names P
  pair_same d i o e u n = record {
    values = x.values;
    typed = x.typed;
    env = x.env;
    held = rw u x.held;
    inputs = i ∙ x.inputs;
    outputs = o ∙ x.outputs;
    entries = e ∙ x.entries;
    neqs = x.neqs;
    count = n ∙ x.count;
    fits = rw u x.fits;
    heap_size = x.heap_size;
    frame_size = x.frame_size;
    q_size = x.q_size;
  }

  -- other non-equalities
  pub pair_restricted : (d : Configuration) (qs : Restriction) (r : List ℕ) → d.inputs ≡ c.inputs → d.outputs ≡ c.outputs → d.entries ≡ c.entries → d.used ≡ c.used → d.neqs ≡ length qs →
      Front qs r → length r ≡ 4096 → HoldsPair h f r d names (restricted_pair qs P)
  pair_restricted d qs r i o e u n front size = record {
    values = x.values;
    typed = x.typed;
    env = x.env;
    held = rw u x.held;
    inputs = i ∙ x.inputs;
    outputs = o ∙ x.outputs;
    entries = e ∙ x.entries;
    neqs = front;
    count = n;
    fits = rw u x.fits;
    heap_size = x.heap_size;
    frame_size = x.frame_size;
    q_size = size;
  }

  -- "Nodes of a configuration" are those of the entries and "2 for each non-equality"
  pub held_pair_nodes : nodes_state P ≡ nodes_all (trees P x.values) + nodes_restriction P.neqs
  held_pair_nodes = pair_nodes P x.typed x.env

  pub few_entries : nodes_state P ≤ 4097 → c.entries ≤ 4097
  few_entries l = omega (arith, held_pair_nodes, x.entries, nodes_length (trees P x.values))

  -- "21 over 4,096 nodes: .. after a transition"
  module _ (few : c.entries ≤ 4120) where
    pub pair_on : nodes_state P ≤ 4096 → sized_as c f ≡ Ok c
    pair_on l = sized_on x.held (omega (arith, x.entries)) c x.entries (omega (arith, held_pair_nodes, x.count))

    pub pair_over : 4096 < nodes_state P → sized_as c f ≡ Err Over
    pair_over l = sized_over x.held (omega (arith, x.entries)) c x.entries (omega (arith, held_pair_nodes, x.count))

-- What contracting the entries leaves: the storages hold P, and what was used of the heap before is as it was.
pub record AppliedTo (h q : List ℕ) (c : Configuration) (names : List Param) (P : CRPair state) (from : ℕ) (w : Stores) : Type 0 where
  pub now : ℕ
  pub done : w.answer ≡ Some now
  pub grown : c.used ≤ now
  pub most : now ≤ from + nodes_state P
  pub same : Below c.used w.heap h
  pub holds : HoldsPair w.heap w.frame q (used_to now c) names P

-- or the heap has no room for its nodes from a place on
abbrev pub AppliedOutcome : List ℕ → List ℕ → Configuration → List Param → CRPair state → ℕ → Stores → Type 0
AppliedOutcome h q c names P from w = ((w.answer ≡ None) × (65535 < from + nodes_state P)) ⊎ AppliedTo h q c names P from w

module _ {h f q : List ℕ} {c : Configuration} {names : List Param} {P : CRPair state} (x : HoldsPair h f q c names P) (few : c.entries ≤ 4120)
    {var : ℕ} {v : List ℕ} {s : Substitution} (fill : Filling var v s) where
  abbrev applied_trees : List Exp
  applied_trees = apply_all s (trees P x.values)

  trees_applied : applied_trees ≡ trees (applied_pair s P) (apply_all s x.values)
  trees_applied = applied_trees_lem s P.con.io.ins P.con.io.out x.values

  env_applied : apply_env s P.con.env ≡ env_of names (apply_all s x.values)
  env_applied = ap (apply_env s) x.env ∙ applied_env s x.typed

  applied_nodes : nodes_state (applied_pair s P) ≡ nodes_all applied_trees + nodes_restriction P.neqs
  applied_nodes = pair_nodes (applied_pair s P) (applied_typed s x.typed) env_applied ∙ ap (λ (ts : List Exp). nodes_all ts + nodes_restriction P.neqs) (inv trees_applied)

  -- The value stands in a heap g that is as h below what is used; k is used of it.
  module _ (g : List ℕ) (k vfrom vto : ℕ) (whole : length g ≡ 65535) (same : Below c.used g h) (behind : c.used ≤ k) (in_heap_lem : k ≤ 65535) (value : Range g k vfrom vto v) where
    abbrev contracted_here : Stores
    contracted_here = contracted_entries 0 c.entries var vfrom vto k g f

    count : min c.entries 4120 - 0 ≡ length (trees P x.values)
    count = omega (arith, x.entries)

    held_there : Held g k f 0 (trees P x.values)
    held_there = held_kept x.held same behind (record { same = λ j l. refl })

    applied_on : (n : ℕ) (w : Stores) → Contracts g f k 0 n applied_trees w → AppliedTo h q c names (applied_pair s P) k w
    applied_on n w a = record {
      now = a.now;
      done = a.done;
      grown = omega (arith, a.grown);
      most = omega (arith, a.most, applied_nodes);
      same = record { same = λ j l. a.same.same j (omega arith) ∙ same.same j l };
      holds = record {
        values = apply_all s x.values;
        typed = applied_typed s x.typed;
        env = env_applied;
        held = subst (λ (ts : List Exp). Held w.heap a.now w.frame 0 ts) trees_applied a.holds;
        inputs = x.inputs ∙ inv (applied_length s P.con.io.ins);
        outputs = x.outputs;
        entries = x.entries ∙ inv (applied_length s (trees P x.values)) ∙ ap length trees_applied;
        neqs = x.neqs;
        count = x.count;
        fits = a.fits;
        heap_size = a.size;
        frame_size = a.entries ∙ x.frame_size;
        q_size = x.q_size;
      };
    }

    -- THE LAW: each entry holds its tree with the substitution applied
    pub contract_pair : AppliedOutcome h q c names (applied_pair s P) k contracted_here
    contract_pair = rw count (go (contracted_from (length (trees P x.values)) 0 var vfrom vto k g f) (contract_means vfrom vto fill (trees P x.values) 0 k g f whole in_heap_lem (omega (arith, x.entries, x.frame_size)) value held_there))
      where
        go : (w : Stores) → frame.Outcome g f k 0 (length (trees P x.values)) applied_trees w → AppliedOutcome h q c names (applied_pair s P) k w
        go w (inl o) = inl (o.0, omega (arith, o.1, applied_nodes))
        go w (inr a) = inr (applied_on (length (trees P x.values)) w a)

module _ {h f q : List ℕ} {c : Configuration} {names : List Param} {P : CRPair state} (x : HoldsPair h f q c names P) (few : c.entries ≤ 4120) where
  -- there is a node at least
  positive : (s : Substitution) → 1 ≤ nodes_state (applied_pair s P)
  positive s = let a = nodes_length (apply s P.con.io.out ∷ []) in omega arith

  -- what is written at `used` is read there
  module _ (w : List ℕ) (room : c.used + length w ≤ 65535) where
    pub written_range : Range (sets h c.used w) (c.used + length w) c.used (c.used + length w) w
    written_range =
        let d : c.used + length w - c.used ≡ length w = omega arith in
        record { below = omega arith; is = ap (λ (n : ℕ). cells_at n c.used (sets h c.used w)) d ∙ sets_cells w h c.used (omega (arith, x.heap_size)) }

    pub written_same : Below c.used (sets h c.used w) h
    written_same = below_sets c.used w below_self (omega arith)

    pub written_size : length (sets h c.used w) ≡ 65535
    written_size = length-sets h c.used w ∙ x.heap_size

  -- a variable by one cell
  module _ {var to : ℕ} {s : Substitution} (fill : Filling var (to ∷ []) s) where
    cell_over : 65534 < c.used → AppliedOutcome h q c names (applied_pair s P) (c.used + 1) (bound_cell c.entries var to c.used h f)
    unfolding bound_cell
    cell_over l = rw (lt-ltb 65534 c.used l) (inl (refl, omega (arith, positive s)))

    cell_fits : c.used ≤ 65534 → AppliedOutcome h q c names (applied_pair s P) (c.used + 1) (bound_cell c.entries var to c.used h f)
    unfolding bound_cell
    cell_fits l =
        rw (le-ltb 65534 c.used l) (contract_pair x few fill (set h c.used to) (c.used + 1) c.used (c.used + 1) (written_size (to ∷ []) (omega arith)) (written_same (to ∷ []) (omega arith)) (omega arith) (omega arith)
        (written_range (to ∷ []) (omega arith)))

    pub bound_cell_lem : AppliedOutcome h q c names (applied_pair s P) (c.used + 1) (bound_cell c.entries var to c.used h f)
    bound_cell_lem = go (dec_le c.used 65534)
      where
        go : Dec (c.used ≤ 65534) → AppliedOutcome h q c names (applied_pair s P) (c.used + 1) (bound_cell c.entries var to c.used h f)
        go (yes l) = cell_fits l
        go (no l) = cell_over (omega arith)

  -- a `?e` by a pair of two leaves
  module _ {var head tail : ℕ} {s : Substitution} (fill : Filling var (pair_code ∷ (head ∷ (tail ∷ []))) s) where
    pair_no_room : 65532 < c.used → AppliedOutcome h q c names (applied_pair s P) (c.used + 3) (bound_pair c.entries var head tail c.used h f)
    unfolding bound_pair
    pair_no_room l = rw (lt-ltb 65532 c.used l) (inl (refl, omega (arith, positive s)))

    pair_fits : c.used ≤ 65532 → AppliedOutcome h q c names (applied_pair s P) (c.used + 3) (bound_pair c.entries var head tail c.used h f)
    unfolding bound_pair
    pair_fits l =
        let w = pair_code ∷ (head ∷ (tail ∷ [])) in
        rw (le-ltb 65532 c.used l, written_done c.used 3 (pair_code ∷ (head ∷ (tail ∷ []))) h (omega arith)) (contract_pair x few fill (sets h c.used w) (c.used + 3) c.used (c.used + 3) (written_size w (omega arith))
        (written_same w (omega arith)) (omega arith) (omega arith) (written_range w (omega arith)))

    pub bound_pair_lem : AppliedOutcome h q c names (applied_pair s P) (c.used + 3) (bound_pair c.entries var head tail c.used h f)
    bound_pair_lem = go (dec_le c.used 65532)
      where
        go : Dec (c.used ≤ 65532) → AppliedOutcome h q c names (applied_pair s P) (c.used + 3) (bound_pair c.entries var head tail c.used h f)
        go (yes l) = pair_fits l
        go (no l) = pair_no_room (omega arith)
