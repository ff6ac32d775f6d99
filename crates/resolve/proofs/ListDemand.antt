-- What `list` answers and leaves meets demands 2 and 3.
use Prim.Native.Nat.{ℕ, ◌-◌}
use mathlib.Core.Path.{◌≡◌, refl, ap, subst, ◌∙◌, sym as inv}
use mathlib.Core.Bool.{Bool, true, false}
use mathlib.Core.List.{List}
use lib.ListN.{length, replicate}
use Rattle.std.specs.Prelude.{Err}
use Rattle.language.specs.Source.{SProg, SJob, prog, class}
use Rattle.language.specs.JobCheck.{lister}
use Rattle.language.specs.Reading.{accepted, reading}
use Rattle.semantics.specs.Walk.{stop21, stop22, stop23, Walked, Word, whole, cut, stop, word_of, lines_of, count_of}
use Rattle.semantics.specs.Answer as meaning
use Rattle.semantics.specs.Answer.{Listed, list}
use Rattle.semantics.specs.Demand3.{Unstopped}
use Rattle.semantics.proofs.AcceptedTexts.{list_answer, listed_correct, listed_traced, listed_never_stuck}
use Rattle.semantics.proofs.AcceptedStops.{listed_stops, listed_in_order, listed_visits}
use Rattle.lent.specs.Storage.{zeros}
use Rattle.lines.specs.LineCells.{lines_cells}
use Rattle.lines.proofs.ReadingLaws.{lines_read}
use Rattle.lent.proofs.RoomLaws.{long_enough_lem}
use Rattle.resolve.specs.ListAnswer.{ListLeft, worded, answer_of, lines_then, cells_after, too_short, unless_short, list_left}
use Rattle.resolve.specs.Twins.ListCells.{ListOut, list_texts}
use Rattle.resolve.specs.ListDemand.{Ended, Answered, StoredListing}
use Rattle.refusals.specs.declared.refusal.Refused.TheVariants.{Short}
use Rattle.answers.specs.ListNumbers.{Answer}
use Rattle.resolve.proofs.ListMeaning.{texts_left}

ended_word : (w : Word) (l c : ℕ) → Ended (worded w l c) → Unstopped w
ended_word whole l c e = tt
ended_word cut l c e = tt
ended_word (stop stop21) l c e = e
ended_word (stop stop22) l c e = e
ended_word (stop stop23) l c e = e

module _ (program job work d : List ℕ) (s : SProg) (t : SJob) (e : reading lister program job ≡ accepted s t) where
  abbrev found : Walked
  found = meaning.walked s t

  abbrev said : Answer
  said = worded (word_of found) (length (lines_of found)) (count_of found)

  stored : StoredListing (prog s) (class t) t.steps.num (meaning.limits t) said (lines_then (lines_of found) d)
  stored = record {
    listing = found;
    lines = lines_read (lines_of found) (replicate (length d - length (lines_cells (lines_of found))) 0);
    answer = refl;
    never_stuck = listed_never_stuck program job s t e;
    traced = listed_traced program job s t e;
    stops = listed_stops program job s t e;
    in_order = listed_in_order program job s t e;
    by_the_rules = listed_visits program job s t e;
    correct = λ h. listed_correct program job s t e (ended_word (word_of found) (length (lines_of found)) (count_of found) h);
  }

  abbrev left : ListLeft
  left = record { answer = answer_of (list program job); work = zeros work; cells = cells_after (list program job) d }

  answer_is : left.answer ≡ said
  answer_is = ap answer_of (list_answer program job s t e)

  cells_are : left.cells ≡ lines_then (lines_of found) d
  cells_are = ap (λ (a : meaning.Answer Listed). cells_after a d) (list_answer program job s t e)

  -- "if program, job and storage are accepted"
  pub list_demand : {r : Answer} {a : List ℕ} → r ≡ (list_left program job work d).answer → a ≡ (list_left program job work d).cells → Answered r → StoredListing (prog s) (class t) t.steps.num (meaning.limits t) r a
  unfolding list_left
  list_demand {r} {a} f g h = pick (too_short work d) f g
    where
      pick : (b : Bool) → r ≡ (unless_short b left work d).answer → a ≡ (unless_short b left work d).cells → StoredListing (prog s) (class t) t.steps.num (meaning.limits t) r a
      pick true f g = absurd (subst Answered f h)
      pick false f g =
          let i = f ∙ answer_is in
          let j = g ∙ cells_are in
          subst (λ (x : List ℕ). StoredListing (prog s) (class t) t.steps.num (meaning.limits t) r x) (inv j)
          (subst (λ (x : Answer). StoredListing (prog s) (class t) t.steps.num (meaning.limits t) x (lines_then (lines_of found) d)) (inv i) stored)

-- what `list` promises of its answer and of the two storages that it leaves
abbrev pub Promise : List ℕ → List ℕ → List ℕ → List ℕ → Answer → List ℕ → List ℕ → Type 0
Promise program job work d r x a =
    (let w = list_left program job work d in (r ≡ w.answer) × (x ≡ w.work) × (a ≡ w.cells))
    × ((s : SProg) (t : SJob) → reading lister program job ≡ accepted s t → Answered r → StoredListing (prog s) (class t) t.steps.num (meaning.limits t) r a)

abbrev pub LeftAs : List ℕ → List ℕ → List ℕ → List ℕ → Answer → List ℕ → List ℕ → Type 0
LeftAs program job work d r x a = (r ≡ (list_left program job work d).answer) × (x ≡ (list_left program job work d).work) × (a ≡ (list_left program job work d).cells)

module _ (program job work d : List ℕ) where
  pub promised : {r : Answer} {x a : List ℕ} → LeftAs program job work d r x a → Promise program job work d r x a
  promised e = ((e.0, e.1, e.2), λ s t f h. list_demand program job work d s t f e.0 e.2 h)

  pub short_left : too_short work d ≡ true → LeftAs program job work d (Err Short) work d
  unfolding list_left
  short_left e = rw e (refl, refl, refl)

  pub list_said : too_short work d ≡ false → {r : Answer} {x a : List ℕ} → ListOut r x a (list_texts program job work d) → length a ≡ length d → LeftAs program job work d r x a
  unfolding list_left
  list_said f o n =
      let l = long_enough_lem 8194 17408 (length work) (length d) f in
      let e = texts_left program job work d l.0 l.1 (ap length (inv o.2) ∙ n) in
      rw f (o.0 ∙ ap (λ w. w.answer) e, o.1 ∙ ap (λ w. w.work) e, o.2 ∙ ap (λ w. w.cells) e)
