-- What `begin` answers and leaves is the configuration behind the start of the definition: main's body, its parameters bound to the inputs.
use Prim.Native.Nat.{ℕ, ◌+◌, ◌≤◌, ◌<◌}
use mathlib.Core.Path.{◌≡◌, refl, ap, subst, ◌∙◌, sym as inv}
use mathlib.Core.Bool.{Bool, true, false}
use mathlib.Core.List.{List, [], ◌∷◌}
use mathlib.Core.Option.{Option, none, some}
use mathlib.Core.Logic.{◌⊎◌, inl, inr}
use native.Mathlib.Omega.{arith}
use lib.ListN.{length, length-append}
use Rattle.std.specs.Prelude.{Ok, Err}
use Rattle.expressions.specs.Expression.{Exp, atm, evar, pair}
use Rattle.expressions.specs.Restriction.{Restriction, simplify}
use Rattle.expressions.specs.Class.{IOClass}
use Rattle.expressions.specs.Contraction.{CRPair}
use Rattle.expressions.specs.Split.{first_fresh}
use Rattle.expressions.proofs.Tests.{and_both}
use Rattle.restrictions.specs.Twins.Restricting.{RestrictAnswer}
use Rattle.restrictions.proofs.RestrictionLaws.{Front, Answers}
use Rattle.language.specs.Program.{Param, pe, pa, Prog, find}
use Rattle.language.specs.WellFormed.{fits, admitted}
use Rattle.language.proofs.Formed.{some_main}
use Rattle.syntax.specs.declared.job_ends.JobEnds.{JobEnds}
use Rattle.semantics.specs.Environment.{bind_params}
use Rattle.semantics.specs.Configuration.{ExpEnv, state, nodes_state, Configuration, start_with, start}
use Rattle.semantics.specs.Trace.{called, successors}
use Rattle.semantics.proofs.Environments.{bind_params_bound}
use Rattle.semantics.proofs.Scopes.{WellScoped, defines_find, scoped_body}
use Rattle.semantics.proofs.MainCall.{main_called}
use Rattle.heap.specs.declared.configuration.Configuration.{Configuration as InCells}
use Rattle.linking.specs.Twins.Linked.{ProgramLinked}
use Rattle.linking.specs.Twins.Places.{env_of}
use Rattle.values.proofs.ValueLaws.{Typed, none_typed, e_typed, a_typed}
use Rattle.values.proofs.StateLaws.{trees, pair_nodes, nodes_length, Stands}
use Rattle.values.proofs.BodyLaws.{found_linked}
use Rattle.layout.specs.Twins.Fresh.{first_fresh_cells}
use Rattle.layout.specs.Twins.Laying.{job_laid, parts_of, sides_taken}
use Rattle.initial.specs.Twins.Beginning.{EnterLeft, begun_entered, BegunLeft, besides, sides_begun, begun_at, job_entered}
use Rattle.layout.specs.declared.job.Parts.{Parts}
use Rattle.restrictions.specs.declared.failure.Failure.TheVariants.{Contradiction, Over}
use Rattle.initial.proofs.EnterLaws.{JobOutcome, EntersJob, job_enters}
use Rattle.initial.proofs.JobLaws.{input_cells, side_cells, io_size, job_heap, laid_of, laid_whole, laid_inputs, laid_output, laid_fresh, sides_mean, sides_size}

-- the successor of the start (semantics/proofs/MainCall.antt, main-called): main's body in the same cr-pair
abbrev pub in_main : Prog → Configuration → Configuration
in_main p K = record { cr = K.cr; term = (find p 0).body; fresh = K.fresh }

-- its names are in scope, as each transition behind it asks
pub main_scoped : (p : Prog) (ds : List Exp) → admitted p ≡ true → fits (find p 0).params ds ≡ true → WellScoped p (find p 0).body (env_of (find p 0).params ds)
main_scoped p ds formed fit = scoped_body formed (defines_find p 0 _ (some_main p formed)) (bind_params_bound _ (λ x. x) (find p 0).params ds fit)

pub start_main : (p : Prog) (P : IOClass) (K : Configuration) → admitted p ≡ true → fits (find p 0).params P.con.ins ≡ true → start p P ≡ some K →
    (successors p K ≡ called (in_main p K)) × WellScoped p (in_main p K).term (in_main p K).cr.con.env
start_main p P K formed fit e = (main_called p P K formed fit e, pick (simplify P.neqs) e)
  where
    env_of_lem : {L : Configuration} → some L ≡ some K → L.cr.con.env ≡ K.cr.con.env
    env_of_lem {L} q = let r : L ≡ K = cc in ap (λ (M : Configuration). M.cr.con.env) r

    pick : (o : Option Restriction) → start_with p P o ≡ some K → WellScoped p (find p 0).body K.cr.con.env
    pick none q = let z : ◌≡◌ {A = ℕ} 0 1 = cc in absurd (omega arith)
    pick (some qs) q = subst (λ (σ : ExpEnv). WellScoped p (find p 0).body σ) (env_of_lem q) (main_scoped p P.con.ins formed fit)

-- inputs that fit have the types of the parameters
pub inputs_typed : (ps : List Param) (ds : List Exp) → fits ps ds ≡ true → Typed ps ds
inputs_typed [] [] e = none_typed
inputs_typed [] (d ∷ ds) e = let z : ◌≡◌ {A = ℕ} 0 1 = cc in absurd (omega arith)
inputs_typed (p ∷ ps) [] e = let z : ◌≡◌ {A = ℕ} 0 1 = cc in absurd (omega arith)
inputs_typed (pe x ∷ ps) (d ∷ ds) e = e_typed (inputs_typed ps ds e)
inputs_typed (pa x ∷ ps) (atm y ∷ ds) e = a_typed (inputs_typed ps ds (and_both true (fits ps ds) e).1)
inputs_typed (pa x ∷ ps) (evar n ∷ ds) e = let a = and_both false (fits ps ds) e in let z : ◌≡◌ {A = ℕ} 0 1 = cc in absurd (omega arith)
inputs_typed (pa x ∷ ps) (pair c d ∷ ds) e = let a = and_both false (fits ps ds) e in let z : ◌≡◌ {A = ℕ} 0 1 = cc in absurd (omega arith)

module _ (p : Prog) (bodies : ℕ → ℕ) (code : List ℕ) where
  -- The storages hold K, and the answer counts it.
  pub record Begins (K : Configuration) (w : BegunLeft) : Type 0 where
    pub at : InCells
    pub on : w.answer ≡ Ok at
    pub stands : Stands p bodies code w.heap w.frame w.q at K
    pub few : at.used ≤ 4096

  -- "A contradictory job has no start"; what does not fit has more than 4,096 nodes, also without a wanted output of one.
  abbrev pub BeginsAs : Option Configuration → BegunLeft → Type 0
  BeginsAs none w = w.answer ≡ Err Contradiction
  BeginsAs (some K) w = ((w.answer ≡ Err Over) × (4097 < nodes_state K.cr)) ⊎ Begins (in_main p K) w

  module _ (linked : ProgramLinked p bodies code) (formed : admitted p ≡ true) (P : IOClass) (fit : fits (find p 0).params P.con.ins ≡ true)
      (h f q : List ℕ) (h-size : length h ≡ 65535) (f-size : length f ≡ 12360) (q_size : length q ≡ 4096)
      (room : io_size P ≤ 4096) (few : length (side_cells P) ≤ 4096) where
    abbrev ins : List Exp
    ins = P.con.ins

    abbrev size : ℕ
    size = io_size P

    abbrev all : ℕ
    all = io_size P + length (side_cells P)

    abbrev g : List ℕ
    g = job_heap P h

    fits_all : all ≤ 65535
    fits_all = omega arith

    abbrev pair₁ : Restriction → CRPair state
    pair₁ qs = record { con = record { io = P.con; env = bind_params (λ c. c) (λ x. x) (find p 0).params ins }; neqs = qs }

    typed : Typed (find p 0).params ins
    typed = inputs_typed (find p 0).params ins fit

    -- an entry each, and a node for each
    trees_length : (qs : Restriction) → length (trees (pair₁ qs) ins) ≡ length ins + 1 + length ins
    trees_length qs = omega (arith, length-append ins (P.con.out ∷ ins))

    too_many : (qs : Restriction) → 4120 < length ins + 1 + length ins → 4097 < nodes_state (pair₁ qs)
    too_many qs l = omega (arith, pair_nodes (pair₁ qs) typed refl, nodes_length (trees (pair₁ qs) ins), trees_length qs)

    module _ (qs : Restriction) (q2 : List ℕ) (front : Front qs q2) (q2-size : length q2 ≡ 4096) (next : ℕ) (is : next ≡ first_fresh P) where
      abbrev main : Configuration
      main = record { cr = pair₁ qs; term = (find p 0).body; fresh = first_fresh P }

      in_main_lem : (w : EnterLeft) → EntersJob g size ins P.con.out w → Begins main (besides g q2 (begun_entered (bodies 0) size (length qs) next w))
      in_main_lem w e =
          let y = found_linked 0 linked (some_main p formed) in
          rw e.done (record {
            at = record { inputs = length ins; outputs = 1; entries = length ins + 1 + length ins; used = size; neqs = length qs; place = bodies 0; counter = next };
            on = refl;
            stands = record {
              names = (find p 0).params;
              holds = record {
                values = ins;
                typed = typed;
                env = refl;
                held = e.holds;
                inputs = refl;
                outputs = refl;
                entries = inv (trees_length qs);
                neqs = front;
                count = refl;
                fits = omega arith;
                heap_size = laid_whole P h h-size fits_all;
                frame_size = e.size;
                q_size = q2-size;
              };
              past = y.0;
              term = y.1;
              fresh = is;
            };
            few = room;
          })

      entered : (w : EnterLeft) → JobOutcome g size ins P.con.out w →
          (let u = besides g q2 (begun_entered (bodies 0) size (length qs) next w) in ((u.answer ≡ Err Over) × (4097 < nodes_state (pair₁ qs))) ⊎ Begins main u)
      entered w (inl o) = rw o.0 (inl (refl, too_many qs o.1))
      entered w (inr e) = inr (in_main_lem w e)

    abbrev sizes : Parts
    sizes = parts_of (length (input_cells P)) size all

    next : first_fresh_cells all g ≡ first_fresh P
    next = laid_fresh P h h-size fits_all

    outcome : JobOutcome g size ins P.con.out (job_entered (length (input_cells P)) size g f)
    outcome = job_enters g size (laid_whole P h h-size fits_all) (omega arith) ins P.con.out (length (input_cells P)) size (omega arith) (laid_inputs P h h-size fits_all) (laid_output P h h-size fits_all) f f-size

    pick : (o : Option Restriction) (q1 : List ℕ) (w : RestrictAnswer) → length q1 ≡ 4096 → Answers (length P.neqs) q1 o w → BeginsAs (start_with p P o) (sides_begun (bodies 0) sizes g f w)
    pick none q1 w l a = rw a.0
    pick (some qs) q1 w l a = rw a.0 (entered qs w.cells a.1 (a.4 ∙ l) (first_fresh_cells all g) next (job_entered (length (input_cells P)) size g f) outcome)

    -- THE LAW of `begin`, over a job that is laid out
    pub begin_means : (jmarks jnums : List ℕ) (e : JobEnds) (r : Bool) → job_laid jmarks jnums e r h ≡ laid_of P h → BeginsAs (start p P) (begun_at (bodies 0) jmarks jnums e r h f q)
    unfolding begun_at
    begin_means jmarks jnums e r laid =
        rw laid (pick (simplify P.neqs) _ (sides_taken size all g q) (sides_size P h h-size fits_all q q_size few) (sides_mean P h h-size fits_all q q_size few))
