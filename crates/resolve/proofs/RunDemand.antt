-- What `run` answers and leaves meets demand 2.
use Prim.Native.Nat.{ℕ, ◌-◌}
use mathlib.Core.Path.{◌≡◌, refl, ap, subst, ◌∙◌, sym as inv}
use mathlib.Core.Bool.{Bool, true, false}
use mathlib.Core.List.{List}
use native.Mathlib.Omega.{arith}
use lib.ListN.{length, replicate}
use Rattle.std.specs.Prelude.{Err}
use Rattle.expressions.specs.Expression.{Value}
use Rattle.language.specs.Source.{SProg, SJob, prog}
use Rattle.language.specs.JobCheck.{runner}
use Rattle.language.specs.Reading.{accepted, reading}
use Rattle.semantics.specs.Embedding.{embed}
use Rattle.semantics.specs.Runner.{Ran, value, nodes_value}
use Rattle.semantics.specs.Answer as meaning
use Rattle.semantics.specs.Answer.{run}
use Rattle.semantics.proofs.AcceptedTexts.{run_answer, ran_correct, ran_never_stuck}
use Rattle.semantics.proofs.AcceptedStops.{ran_stops}
use Rattle.initial.proofs.EmbedLaws.{embed_nodes}
use Rattle.lent.specs.Storage.{zeros}
use Rattle.lines.specs.LineReading.{TreeRead, read_tree}
use Rattle.lines.proofs.ReadingLaws.{tree_read_lem}
use Rattle.lent.proofs.RoomLaws.{long_enough_lem}
use Rattle.resolve.specs.RunAnswer.{RunLeft, answer_of, cells_after, too_short, unless_short, run_left}
use Rattle.resolve.specs.Twins.RunCells.{RunOut, run_texts}
use Rattle.resolve.specs.RunDemand.{Answered, StoredRun}
use Rattle.refusals.specs.declared.refusal.Refused.TheVariants.{Short}
use Rattle.run_answers.specs.RunNumbers.{Answer, length_of}
use Rattle.resolve.proofs.RunMeaning.{texts_left}

module _ (program job work d : List ℕ) (s : SProg) (t : SJob) (e : reading runner program job ≡ accepted s t) where
  abbrev found : Ran
  found = meaning.ran s t

  abbrev said : Ran → Answer
  said r = answer_of (meaning.Answer.answered r)

  abbrev cells_of : Ran → List ℕ
  cells_of r = cells_after (meaning.Answer.answered r) d

  -- the value is read back from its cells
  read_back : (m : ℕ) (v : Value) → found ≡ value m v → (read_tree (length_of (said found)) (cells_of found)).tree ≡ embed v
  read_back m v f =
      subst (λ (r : Ran). (read_tree (length_of (said r)) (cells_of r)).tree ≡ embed v) (inv f)
      (ap (λ (w : TreeRead). w.tree) (tree_read_lem (nodes_value v) (embed v) (replicate (length d - nodes_value v) 0) (omega (arith, embed_nodes v))))

  stored : StoredRun (prog s) t.steps.num (meaning.inputs t) (said found) (cells_of found)
  stored = record {
    ran = found;
    answer = refl;
    stored = read_back;
    never_stuck = ran_never_stuck program job s t e;
    correct = ran_correct program job s t e;
    stops = ran_stops program job s t e;
  }

  abbrev left : RunLeft
  left = record { answer = answer_of (run program job); work = zeros work; cells = cells_after (run program job) d }

  answer_is : left.answer ≡ said found
  answer_is = ap answer_of (run_answer program job s t e)

  cells_are : left.cells ≡ cells_of found
  cells_are = ap (λ (a : meaning.Answer Ran). cells_after a d) (run_answer program job s t e)

  pub run_demand : {r : Answer} {a : List ℕ} → r ≡ (run_left program job work d).answer → a ≡ (run_left program job work d).cells → Answered r → StoredRun (prog s) t.steps.num (meaning.inputs t) r a
  unfolding run_left
  run_demand {r} {a} f g h = pick (too_short work d) f g
    where
      pick : (b : Bool) → r ≡ (unless_short b left work d).answer → a ≡ (unless_short b left work d).cells → StoredRun (prog s) t.steps.num (meaning.inputs t) r a
      pick true f g = absurd (subst Answered f h)
      pick false f g =
          subst (λ (x : List ℕ). StoredRun (prog s) t.steps.num (meaning.inputs t) r x) (inv (g ∙ cells_are))
          (subst (λ (x : Answer). StoredRun (prog s) t.steps.num (meaning.inputs t) x (cells_of found)) (inv (f ∙ answer_is)) stored)

-- what `run` promises of its answer and of the two storages that it leaves
abbrev pub Promise : List ℕ → List ℕ → List ℕ → List ℕ → Answer → List ℕ → List ℕ → Type 0
Promise program job work d r x a =
    (let w = run_left program job work d in (r ≡ w.answer) × (x ≡ w.work) × (a ≡ w.cells))
    × ((s : SProg) (t : SJob) → reading runner program job ≡ accepted s t → Answered r → StoredRun (prog s) t.steps.num (meaning.inputs t) r a)

abbrev pub LeftAs : List ℕ → List ℕ → List ℕ → List ℕ → Answer → List ℕ → List ℕ → Type 0
LeftAs program job work d r x a = (r ≡ (run_left program job work d).answer) × (x ≡ (run_left program job work d).work) × (a ≡ (run_left program job work d).cells)

module _ (program job work d : List ℕ) where
  pub promised : {r : Answer} {x a : List ℕ} → LeftAs program job work d r x a → Promise program job work d r x a
  promised e = ((e.0, e.1, e.2), λ s t f h. run_demand program job work d s t f e.0 e.2 h)

  pub short_left : too_short work d ≡ true → LeftAs program job work d (Err Short) work d
  unfolding run_left
  short_left e = rw e (refl, refl, refl)

  pub run_said : too_short work d ≡ false → {r : Answer} {x a : List ℕ} → RunOut r x a (run_texts program job work d) → LeftAs program job work d r x a
  unfolding run_left
  run_said f o =
      let l = long_enough_lem 8194 4096 (length work) (length d) f in
      let e = texts_left program job work d l.0 l.1 in
      rw f (o.0 ∙ ap (λ w. w.answer) e, o.1 ∙ ap (λ w. w.work) e, o.2 ∙ ap (λ w. w.cells) e)
