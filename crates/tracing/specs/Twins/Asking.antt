-- What a term asks, the branches there are and the transitions, over cells of any content.
use Rattle.std.specs.Prelude.{ℕ, Bool, true, false, cond, List, eqb, Err}
use Rattle.restrictions.specs.declared.failure.Failure.TheVariants.{Over}
use Rattle.heap.specs.Twins.Moving.{Move, Left, left}
use Rattle.heap.specs.declared.configuration.Branches.{Branches}
use Rattle.heap.specs.declared.configuration.Configuration.{Configuration}
use Rattle.linking.specs.Twins.Code.{link_at}
use Rattle.calls.specs.Twins.Calls.{called_to}
use Rattle.values.specs.Twins.Names.{names_from}
use Rattle.atoms.specs.Twins.Atoms.{sides_at}
use Rattle.atoms.specs.Twins.Choices.{branches_of as branches_same}
use Rattle.atoms.specs.Twins.Taking.{equal_taken, unequal_taken}
use Rattle.looking.specs.Twins.Looking.{look_at}
use Rattle.pairs.specs.Twins.Branching.{branches_of as branches_tested, true_taken as tested_true, false_taken as tested_false}
use Rattle.tracing.specs.declared.ask.Asked.{Asked}
use Rattle.tracing.specs.declared.ask.Asked.TheVariants.{End, Call, Same, Test}

-- what is asked, and the heap with the value that is tested
pub record AskLeft : Type 0 where
  pub asked : Asked
  pub heap : List ℕ

abbrev pub ask_left : Asked → List ℕ → AskLeft
ask_left a h = record { asked = a; heap = h }

unfoldable pub asked_at : List ℕ → Configuration → List ℕ → List ℕ → AskLeft
asked_at code c h f =
    let m = (link_at code c.place).mark in
    let s = sides_at code h f c in
    let t = look_at code c h f in
    cond (eqb m 3) (ask_left Call h) (cond (eqb m 4) (ask_left (Same s.left s.right) h) (cond (eqb m 5) (ask_left (Test t.answer) t.heap) (ask_left End h)))

abbrev pub is_end : Asked → Bool
is_end End = true
is_end Call = false
is_end (Same x y) = false
is_end (Test t) = false

abbrev pub is_call : Asked → Bool
is_call End = false
is_call Call = true
is_call (Same x y) = false
is_call (Test t) = false

abbrev pub no_branches : Branches
no_branches = record { yes = false; no = false }

abbrev pub branches_asked : ℕ → Asked → List ℕ → Branches
branches_asked neqs End q = no_branches
branches_asked neqs Call q = no_branches
branches_asked neqs (Same x y) q = branches_same neqs x y q
branches_asked neqs (Test t) q = branches_tested t

-- `cons?` and calls leave the non-equalities as they are
abbrev pub beside : List ℕ → Move → Left
beside q w = left w.answer w.heap w.frame q

abbrev pub true_taken : List ℕ → Configuration → Asked → List ℕ → List ℕ → List ℕ → Left
true_taken code c End h f q = left (Err Over) h f q
true_taken code c Call h f q = beside q (called_to code (names_from c) c h f)
true_taken code c (Same x y) h f q = equal_taken code c x y h f q
true_taken code c (Test t) h f q = beside q (tested_true code c t h f)

abbrev pub false_taken : List ℕ → Configuration → Asked → List ℕ → List ℕ → List ℕ → Left
false_taken code c End h f q = left (Err Over) h f q
false_taken code c Call h f q = beside q (called_to code (names_from c) c h f)
false_taken code c (Same x y) h f q = unequal_taken code c x y h f q
false_taken code c (Test t) h f q = beside q (tested_false code c t h f)

abbrev pub taken_as : List ℕ → Configuration → Asked → Bool → List ℕ → List ℕ → List ℕ → Left
taken_as code c a true h f q = true_taken code c a h f q
taken_as code c a false h f q = false_taken code c a h f q
