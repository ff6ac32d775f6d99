-- Demands 2 and 3 for the lines that stand in the answer storage.
use Rattle.std.specs.Prelude.{ℕ, ◌≡◌, List, Ok, Err, length}
use Rattle.std.proofs.Math.Option.{some}
use Rattle.expressions.specs.Class.{IOClass}
use Rattle.language.specs.Program.{Prog}
use Rattle.semantics.specs.Configuration.{Configuration, start}
use Rattle.semantics.specs.Walk.{Limits, Walked, word_of, lines_of, count_of}
use Rattle.semantics.specs.Demand2.{TraceNeverStuck, TracedLines}
use Rattle.semantics.specs.Demand3.{ListingCorrect}
use Rattle.semantics.specs.Stops.{Stops}
use Rattle.semantics.specs.StopOrder.{visits, InOrder, VisitsByTheRules}
use Rattle.lines.specs.LineReading.{read_lines}
use Rattle.resolve.specs.ListAnswer.{worded}
use Rattle.answers.specs.ListNumbers.{Answer, lines_of as lines_in}
use Rattle.answers.specs.declared.list.Word.{Word}
use Rattle.answers.specs.declared.list.Word.TheVariants.{Whole, Cut, Stop21, Stop22, Stop23}

-- demand 3: "01's walk ends as whole or cut"
abbrev pub EndsWith : Word → Type 0
EndsWith Whole = Unit {0}
EndsWith Cut = Unit {0}
EndsWith Stop21 = ⊥
EndsWith Stop22 = ⊥
EndsWith Stop23 = ⊥

abbrev pub Ended : Answer → Type 0
Ended (Ok a) = EndsWith a.word
Ended (Err r) = ⊥

-- a listing, stopped or not: no refusal
abbrev pub Answered : Answer → Type 0
Answered (Ok a) = Unit {0}
Answered (Err r) = ⊥

-- The answer r and the lines read back from the answer storage d are a listing of which demands 2 and 3 hold: p the program, j the job's class,
-- n its steps, lim its W and T.
pub record StoredListing (p : Prog) (j : IOClass) (n : ℕ) (lim : Limits) (r : Answer) (d : List ℕ) : Type 0 where
  pub listing : Walked
  pub lines : read_lines (lines_in r) d ≡ lines_of listing
  pub answer : r ≡ worded (word_of listing) (length (lines_of listing)) (count_of listing)
  -- "an accepted program never gets stuck"; no configuration binds a bound name (02, request 1)
  pub never_stuck : TraceNeverStuck p j
  -- "exactly the lines of the published tracing rules .., in true-branch-first order; a stopped listing is a beginning of that one"
  pub traced : TracedLines p n j listing
  -- "Each number comes under its condition and otherwise never"
  pub stops : Stops p n j lim listing
  -- the first stop in the order of the walk, and what is found before it; the walk's configurations are those of the rules
  pub in_order : InOrder p n j lim listing
  pub by_the_rules : (c : Configuration) → start p j ≡ some c → VisitsByTheRules p n c (visits p n j)
  -- demand 3: "if .. 01's walk ends as whole or cut"
  pub correct : Ended r → ListingCorrect p j n listing
