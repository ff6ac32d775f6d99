-- What is promised of the sample of a line, for the cells that stand in the storage lent for it (02, request 2).
use Rattle.std.specs.Prelude.{ℕ, suc, ◌-◌, ◌≤◌, ◌<◌, ◌≡◌, false, Result, Err, List, ◌∷◌, ◌++◌, map, length, replicate}
use Rattle.expressions.specs.Expression.{nodes, nodes_all}
use Rattle.expressions.specs.Class.{GroundPair, nodes_io}
use Rattle.language.specs.Source.{SProg, SJob, prog, class}
use Rattle.language.specs.JobCheck.{lister}
use Rattle.language.specs.Reading.{accepted, reading, symbol_names}
use Rattle.semantics.specs.Embedding.{embed}
use Rattle.semantics.specs.Tree.{Line}
use Rattle.semantics.specs.Walk.{lines_of}
use Rattle.semantics.specs.Answer.{walked}
use Rattle.listing.specs.Sample.{sample}
use Rattle.listing.specs.SampleDemand.{SampleCorrect, SampleNamed, SampleTextRuns}
use Rattle.sets.specs.Cells.{cells, cells_all}
use Rattle.resolve.specs.ListAnswer.{too_short, list_left}
use Rattle.sampling.specs.declared.line.Sampled.{Sampled}
use Rattle.sampling.specs.declared.line.Unsampled.{Unsampled}
use Rattle.sampling.specs.declared.line.Unsampled.TheVariants.{Absent}
use Rattle.sampling.specs.Twins.Lines.{done}

-- "one known input, with its output": the cells of the inputs, then those of the output
abbrev pub pair_cells : GroundPair → List ℕ
pair_cells g = cells_all (map embed g.ins) ++ cells (embed g.out)

-- The answer r and the cells x in the storage that held d before are the sample of the line L, of which what 02 says holds.
pub record StoredSample (program job : List ℕ) (s : SProg) (t : SJob) (L : Line) (r : Result Sampled Unsampled) (d x : List ℕ) : Type 0 where
  pub answer : r ≡ done (nodes_all L.class.con.ins) (nodes L.class.con.out)
  -- "zeros follow to the end, as they do after any other text or record that an entry writes"
  pub stored : x ≡ pair_cells (sample L.class.con) ++ replicate (length d - nodes_io L.class.con) 0
  -- "The sample lies in its line. The published evaluation gives the wanted output on it, in the line's number of steps"
  pub correct : SampleCorrect (prog s) (class t) t.steps.num L
  -- "and so does the forward runner unless the sample passes a limit of 1, 5 or 21"
  pub runs : SampleTextRuns program job t.steps.num L
  -- "New atoms are named Q and a number from 1 up, by first standing in inputs, then output, leaving out symbols of program or job"
  pub named : SampleNamed (symbol_names program job) L.class.con

-- "For each line": of the cells that `list` left of two accepted texts, in storage that is long enough
abbrev pub OfEachLine : List ℕ → ℕ → Result Sampled Unsampled → List ℕ → List ℕ → Type 0
OfEachLine answer number r d x =
    (program job work a : List ℕ) (s : SProg) (t : SJob) → reading lister program job ≡ accepted s t → too_short work a ≡ false → answer ≡ (list_left program job work a).cells → 4096 ≤ length d →
    ((before behind : List Line) (L : Line) → lines_of (walked s t) ≡ before ++ (L ∷ behind) → number ≡ suc (length before) → StoredSample program job s t L r d x)
    × (length (lines_of (walked s t)) < number → (r ≡ Err Absent) × (x ≡ d))
