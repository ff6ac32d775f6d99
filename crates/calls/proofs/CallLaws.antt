-- What `call` means: the entries behind inputs and output hold the values of the arguments, the place is that of the body, and nothing else changed; or there
-- is no room, or more than 4,096 nodes.
use Prim.Native.Nat.{ℕ, suc, ◌+◌, ◌-◌, ◌*◌, ◌≤◌, ◌<◌, min}
use mathlib.Core.Path.{◌≡◌, refl, ap, ◌∙◌}
use mathlib.Core.List.{List, [], ◌∷◌}
use mathlib.Core.Logic.{◌⊎◌, inl, inr}
use native.Mathlib.Omega.{arith}
use lib.ListN.{length}
use lib.Seq.{length-sets}
use borrow.Author.Tests.{le-ltb}
use Rattle.std.specs.Prelude.{Ok, Err}
use Rattle.restrictions.specs.declared.failure.Failure.TheVariants.{Over}
use Rattle.expressions.specs.Expression.{Exp, nodes_all}
use Rattle.expressions.specs.Substitution.{Substitution, apply_all}
use Rattle.language.specs.Program.{Param}
use Rattle.semantics.specs.Configuration.{subst_of_env}
use Rattle.runs.specs.Twins.Runs.{cells_at}
use Rattle.heap.specs.Twins.Entries.{moved_down, moved_entries}
use Rattle.heap.specs.Twins.Moving.{Move}
use Rattle.heap.specs.declared.configuration.Configuration.{Configuration}
use Rattle.runs.proofs.RunLaws.{Below, below_self, below_sets}
use Rattle.heap.proofs.FrameLaws.{Held, held_front, moved_means}
use Rattle.heap.proofs.NodeLaws.{held_nodes}
use Rattle.constants.proofs.ConstantLaws.{Constants}
use Rattle.linking.specs.Twins.Code.{link, link_at}
use Rattle.linking.specs.Twins.Linked.{ExpsLinked}
use Rattle.linking.specs.Twins.Places.{env_of}
use Rattle.calls.specs.Twins.Arguments.{ArgueLeft, arguments_at}
use Rattle.calls.specs.Twins.Calls.{in_body, argued, called_to}
use Rattle.values.specs.Twins.Sizes.{kept_nodes}
use Rattle.values.proofs.ValueLaws.{Typed, AllKnown}
use Rattle.calls.proofs.ArgumentLaws.{Entered, arguments_outcome}
use Rattle.calls.proofs.ArgumentLaws as arguments

pub length_applied : (s : Substitution) (cs : List Exp) → length (apply_all s cs) ≡ length cs
length_applied s [] = refl
length_applied s (c ∷ cs) = ap suc (length_applied s cs)

-- a configuration in a body
pub record Called (h f : List ℕ) (base : ℕ) (ios ts : List Exp) (c : Configuration) (body : ℕ) (w : Move) : Type 0 where
  pub now : ℕ
  pub on : w.answer ≡ Ok (record { inputs = c.inputs; outputs = c.outputs; entries = base + length ts; used = now; neqs = c.neqs; place = body; counter = c.counter })
  pub grown : c.used ≤ now
  pub most : now ≤ c.used + nodes_all ts
  pub fits : now ≤ 65535
  pub same : Below c.used w.heap h
  pub size : length w.heap ≡ 65535
  pub room : length w.frame ≡ length f
  pub ends : Held w.heap now w.frame 0 ios
  pub values : Held w.heap now w.frame base ts

module _ (code h f : List ℕ) (base : ℕ) (c : Configuration) (ios : List Exp) (lf : length f ≡ 12360) (few : c.entries ≤ 4120) (ends : Held h c.used f 0 ios) (all : length ios ≡ base) (behind : base ≤ c.entries) where
  -- "inputs, output, 2 for each non-equality"
  abbrev pub sum : ℕ
  sum = nodes_all ios + 2 * c.neqs

  kept_sum : sum ≤ 4097 → kept_nodes base c.neqs f ≡ sum
  unfolding kept_nodes
  kept_sum l =
      let a : min base 4120 ≡ length ios = omega arith in
      rw (a, held_nodes ends) (omega arith)

  entries_moved : (n : ℕ) (g : List ℕ) → c.entries + n ≤ 4120 → moved_entries c.entries n base g ≡ moved_down c.entries n base g
  unfolding moved_entries
  entries_moved n g l = rw (le-ltb c.entries base behind, le-ltb 4120 c.entries (omega arith), le-ltb (4120 - c.entries) n (omega arith))

  called_argued : {i n body past : ℕ} → c.place ≡ i → i ≤ 4097 → link_at code i ≡ link 3 n body past → sum ≤ 4097 →
      let a = arguments_at code base n c.entries c.used sum (i + 4) h f in called_to code base c h f ≡ argued c base n body a.answer a.heap a.frame
  unfolding called_to
  called_argued {i} {n} {body} {past} p b e l = let z : min i 4097 + 4 ≡ i + 4 = omega arith in rw (p, e, kept_sum l, z)

  -- the entries moved down
  into_body : (n body : ℕ) (ts : List Exp) → length ts ≡ n → c.entries + n ≤ 4120 → (a : ArgueLeft) → Entered h f c.used c.entries sum ts a → Called h f base ios ts c body (argued c base n body a.answer a.heap a.frame)
  unfolding in_body
  into_body n body ts ln l a x =
      let cells = cells_at (3 * n) (3 * c.entries) a.frame in
      let y : min base 4120 + min n 4120 ≡ base + length ts = omega arith in
      rw (x.done, entries_moved n a.frame l, y) (record {
        now = x.now;
        on = refl;
        grown = x.grown;
        most = x.most;
        fits = x.fits;
        same = x.same;
        size = x.size;
        room = length-sets a.frame (3 * base) cells ∙ x.room;
        ends = held_front ends x.same x.grown (record { same = λ j m. (below_sets {used = 3 * base} {g = a.frame} (3 * base) cells below_self (omega arith)).same j (omega arith) ∙ x.before.same j (omega arith) });
        values = moved_means a.heap x.now a.frame c.entries n base behind (omega (arith, x.room)) ln x.holds;
      })

  module _ (sc : List Param) (vs : List Exp) (typed : Typed sc vs) (held : Held h c.used f base vs) (names : base + length vs ≤ c.entries) (lh : length h ≡ 65535) (fit : c.used ≤ 65535) (constants : Constants code h c.used) where
    abbrev pub Outcome : ℕ → List Exp → Type 0
    Outcome body ts =
        (((called_to code base c h f).answer ≡ Err Over) × ((65535 < c.used + nodes_all ts) ⊎ (4097 < sum + nodes_all ts))) ⊎
        (Called h f base ios ts c body (called_to code base c h f) × (sum + nodes_all ts ≤ 4097))

    -- THE LAW of a call
    pub call_outcome : {i j body past : ℕ} {cs : List Exp} → c.place ≡ i → i ≤ 4097 → link_at code i ≡ link 3 (length cs) body past → ExpsLinked code sc (i + 4) cs j → AllKnown sc cs →
        c.entries + length cs ≤ 4120 → sum ≤ 4097 → Outcome body (apply_all (subst_of_env (env_of sc vs)) cs)
    call_outcome {i} {j} {body} {past} {cs} p b e ls kn room l =
        let a = arguments_at code base (length cs) c.entries c.used sum (i + 4) h f in
        rw (called_argued p b e l) (go a (arguments_outcome code base sc vs typed ls kn h f c.used c.entries sum constants held names room lf lh fit l))
      where
        go : (a : ArgueLeft) → let ts = apply_all (subst_of_env (env_of sc vs)) cs in arguments.Outcome code base sc vs typed h f c.used c.entries sum ts a →
            (((argued c base (length cs) body a.answer a.heap a.frame).answer ≡ Err Over) × ((65535 < c.used + nodes_all ts) ⊎ (4097 < sum + nodes_all ts))) ⊎
            (Called h f base ios ts c body (argued c base (length cs) body a.answer a.heap a.frame) × (sum + nodes_all ts ≤ 4097))
        go a (inl (o, r)) = inl (rw o, r)
        go a (inr (x, r)) = inr (into_body (length cs) body (apply_all (subst_of_env (env_of sc vs)) cs) (length_applied (subst_of_env (env_of sc vs)) cs) room a x, r)
