-- `run`: what it answers and leaves over two texts is what its definition says.
use Prim.Native.Nat.{ℕ, ◌≤◌, ◌<◌}
use mathlib.Core.Path.{◌≡◌, refl, ap, subst, ◌∙◌, sym as inv}
use mathlib.Core.Bool.{true}
use mathlib.Core.List.{List, [], ◌++◌, map}
use mathlib.Core.Logic.{inl, inr}
use native.Mathlib.Omega.{arith}
use lib.ListN.{length, replicate}
use Rattle.std.specs.Prelude.{Result, Ok, Err}
use Rattle.expressions.specs.Expression.{Value, Exp}
use Rattle.sets.specs.Cells.{cells}
use Rattle.language.specs.Program.{find}
use Rattle.language.specs.Bytes.{Refusal}
use Rattle.language.specs.Tokens.{Text, of_program, of_job, symbols_of}
use Rattle.language.specs.Source.{SProg, SJob, prog, class}
use Rattle.language.specs.JobCheck.{runner}
use Rattle.language.specs.WellFormed.{fits, admitted}
use Rattle.language.specs.Reading.{accepted, rejected, reading}
use Rattle.language.proofs.Acceptance.{accepted_passed}
use Rattle.lexer.specs.Twins.Lexed.{State}
use Rattle.lent.specs.Storage.{zeros}
use Rattle.syntax.proofs.ProgramRead.{ProgramStored}
use Rattle.syntax.proofs.JobRead.{JobStored}
use Rattle.semantics.specs.Embedding.{embed}
use Rattle.semantics.specs.Evaluate.{go, start_env}
use Rattle.semantics.specs.Runner.{Ran, value, ran_over, not_within, nodes_value, nodes_next}
use Rattle.semantics.specs.Answer as meaning
use Rattle.semantics.specs.Answer.{answered, inputs, ran, answer_of as meaning_of, run}
use Rattle.semantics.proofs.Environments.{ground_fits}
use Rattle.linking.specs.Twins.Linking.{program_linked}
use Rattle.linking.specs.Twins.Linked.{ProgramLinked}
use Rattle.linking.proofs.ProgramLaws.{bodies_of}
use Rattle.constants.proofs.ConstantLaws.{NoConstants, nought_at, nought_none}
use Rattle.linking.proofs.Accepted.{accepted_linked, accepted_kept}
use Rattle.initial.specs.Twins.Beginning.{main_body, BegunLeft, begun_at}
use Rattle.restrictions.specs.declared.failure.Failure.{Failure}
use Rattle.restrictions.specs.declared.failure.Failure.TheVariants.{Over as NoRoom}
use Rattle.heap.specs.declared.configuration.Configuration.{Configuration as InCells}
use Rattle.initial.proofs.BeginLaws.{Begins}
use Rattle.initial.proofs.BeginTexts.{params_few}
use Rattle.initial.proofs.EmbedLaws.{noughts, ones, all_embed}
use Rattle.initial.proofs.RunBegins.{run_main, RunsAs, accepted_runs}
use Rattle.tracing.proofs.ShowLaws.{Accepted}
use Rattle.running.specs.Twins.Answers.{RanAnswer, ran_answer, settled}
use Rattle.forward.specs.Twins.Running.{run_begun, run_inputs}
use Rattle.forward.proofs.RunMeans.{RanMeans, runner_over, run_means}
use Rattle.resolve.specs.RunAnswer.{RunLeft, answer_of, cells_after}
use Rattle.refusals.specs.declared.refusal.Refused.{Refused}
use Rattle.run_answers.specs.RunNumbers.{Answer as Outcome}
use Rattle.run_answers.specs.declared.run.Ran.{Ran as RanCells}
use Rattle.run_answers.specs.declared.run.Ran.TheVariants.{Value as ValueOf, Over}
use Rattle.reading.specs.Twins.BothCells.{BothAnswer, both_over}
use Rattle.resolve.specs.Twins.RunCells.{RunOut, ran_left, run_behind, run_texts}
use Rattle.reading.specs.declared.both.Both.{Both}
use Rattle.reading.proofs.BothTurns.{LeftBy}
use Rattle.reading.proofs.BothRead.{zeros_length, drop_zeros, ends_of, table_of, heads_of, parts_of, leaving, refused_texts, taken, both_are, texts_by_reading}

abbrev left_of : Outcome → List ℕ → List ℕ → RunLeft
left_of r work d = record { answer = r; work = work; cells = d }

-- what `run_texts` leaves behind both texts
pub run_left_lem : (program job work d : List ℕ) {t u : Result Both Refused} {marks nums ends heads jmarks jnums symbols x b : List ℕ} {o : Outcome} → LeftBy t marks nums ends heads jmarks jnums symbols x (both_over true program job work) → t ≡ u →
    RunOut o x b (run_behind d (leaving u marks nums ends heads jmarks jnums symbols x)) → RunOut o x b (run_texts program job work d)
unfolding run_texts
run_left_lem program job work d {x = x} {b = b} {o = o} is f h = subst (λ (w : BothAnswer). RunOut o x b (run_behind d w)) (both_are {w = both_over true program job work} is f) h

pub ran_behind : (d marks nums ends heads jmarks jnums symbols : List ℕ) (w : Both) {x a b code : List ℕ} {r : RanCells} → code ≡ program_linked marks nums ends heads w.count (replicate 24582 0) → a ≡ zeros d →
    ran_answer r b ≡ run_inputs marks heads jmarks jnums w.parts code w.numerals.steps a → RunOut (Ok r) x b (run_behind d (leaving (Ok w) marks nums ends heads jmarks jnums symbols x))
ran_behind d marks nums ends heads jmarks jnums symbols w {a = a} l z h =
    let v =
    h ∙ ap (λ (s : List ℕ). run_inputs marks heads jmarks jnums w.parts s w.numerals.steps a) l
    ∙ ap (run_inputs marks heads jmarks jnums w.parts (program_linked marks nums ends heads w.count (replicate 24582 0)) w.numerals.steps) z
    in
    (ap (λ (w : RanAnswer). Ok w.ran) v, refl, ap (λ (w : RanAnswer). w.answer) v)

-- Two texts that the runner accepted, their tokens in storage.
module _ (program job : List ℕ) (p : SProg) (j : SJob) (e : reading runner program job ≡ accepted p j)
    (s : State) (h : ProgramStored program s p) (u : State) (g : JobStored program job (symbols_of [] program) u j) (room : s.i ≤ length s.ats) where
  abbrev is : List Value
  is = inputs j

  abbrev N : ℕ
  N = j.steps.num

  abbrev bodies : ℕ → ℕ
  bodies = bodies_of s.marks (heads_of s)

  abbrev code : List ℕ
  code = program_linked s.marks s.nums (ends_of s) (heads_of s) (table_of s).count (replicate 24582 0)

  formed : admitted (prog p) ≡ true
  formed = (accepted_passed runner program job p j e).admitted

  linked : ProgramLinked (prog p) bodies code
  linked = accepted_linked program s p h s.ats (replicate 64 0) room (omega (arith, zeros_length 64)) formed (replicate 24582 0) (zeros_length 24582)

  ok : Accepted (prog p) bodies code
  ok = record { linked = linked; formed = formed; few = params_few program s p h }

  empty : NoConstants code
  empty = nought_none code (λ m l. (accepted_kept program s p h s.ats (replicate 64 0) room (omega (arith, zeros_length 64)) formed (replicate 24582 0) (zeros_length 24582)).1 m l ∙ nought_at 24582 m)

  -- main's body over zeroed storages
  abbrev begun : BegunLeft
  begun = begun_at (main_body s.marks (heads_of s)) u.marks u.nums (parts_of u) true (replicate 65535 0) (replicate 12360 0) (replicate 4096 0)

  begins : RunsAs (prog p) bodies code is begun
  begins = accepted_runs program job p j e u g bodies code linked (replicate 65535 0) (replicate 12360 0) (replicate 4096 0) (zeros_length 65535) (zeros_length 12360) (zeros_length 4096)

  module _ (d : List ℕ) (long : 4096 ≤ length d) (x : List ℕ) where
    abbrev runs : Result InCells Failure → RanAnswer
    runs b = run_begun code b N begun.heap begun.frame begun.q (zeros d)

    on_means : Begins (prog p) bodies code (run_main (prog p) is) begun → RanMeans (zeros d) (ran p j) (runs begun.answer)
    on_means b =
        let a = accepted_passed runner program job p j e in
        let f = ground_fits _ (find (prog p) 0).params (class j).con.ins a.fits in
        let z : fits (find (prog p) 0).params (map embed is) ≡ true = subst (λ (ds : List Exp). fits (find (prog p) 0).params ds ≡ true) (inv (all_embed (class j).con.ins (a.ground_inputs refl noughts ones))) a.fits in
        subst (λ (o : Result InCells Failure). RanMeans (zeros d) (ran p j) (runs o)) (inv b.on)
        (run_means (prog p) bodies code ok empty is (zeros d) (omega (arith, zeros_length (length d))) f z begun.heap begun.frame begun.q b.at b.few b.stands N)

    over_means : begun.answer ≡ Err NoRoom → 4096 < nodes_next is (go (find (prog p) 0).body (start_env (prog p) is)) → RanMeans (zeros d) (ran p j) (runs begun.answer)
    over_means o l = rw (o, runner_over (prog p) is N l) (refl, refl)

    ran_means : RanMeans (zeros d) (ran p j) (runs begun.answer)
    ran_means = pick begins
      where
        pick : RunsAs (prog p) bodies code is begun → RanMeans (zeros d) (ran p j) (runs begun.answer)
        pick (inl o) = over_means o.0 o.1
        pick (inr b) = on_means b

    -- what is left of a run, by what it means
    ran_settled : (r : Ran) (w : RanAnswer) → RanMeans (zeros d) r w → ran_left x (settled w) ≡ left_of (answer_of (answered r)) x (cells_after (answered r) d)
    ran_settled (value k v) w h = rw h (ap (λ (c : List ℕ). left_of (Ok (ValueOf k (nodes_value v))) x (cells (embed v) ++ c)) (drop_zeros (nodes_value v) (length d)))
    ran_settled ran_over w h = rw h.0 (ap (λ (n : ℕ). left_of (Ok Over) x (replicate n 0)) (h.1 ∙ zeros_length (length d)))
    ran_settled not_within w h = rw h refl

    pub accepted_means : run_behind d (taken s u j x) ≡ left_of (answer_of (answered (ran p j))) x (cells_after (answered (ran p j)) d)
    unfolding run_inputs
    accepted_means = ran_settled (ran p j) (runs begun.answer) ran_means

-- Any two texts.
module _ (program job work d : List ℕ) (wide : 8194 ≤ length work) (long : 4096 ≤ length d) where
  -- what is left, by what `run` means
  abbrev said : meaning.Answer Ran → RunLeft
  said a = left_of (answer_of a) (zeros work) (cells_after a d)

  refused_said : (t : Text) (r : Refusal) → reading runner program job ≡ rejected t r → (marks nums ends heads jmarks jnums symbols : List ℕ) → run_behind d (leaving (refused_texts t r) marks nums ends heads jmarks jnums symbols (zeros work)) ≡ said (meaning_of ran (rejected t r))
  refused_said of_program r e marks nums ends heads jmarks jnums symbols = refl
  refused_said of_job r e marks nums ends heads jmarks jnums symbols = refl

  pub texts_left : run_texts program job work d ≡ said (run program job)
  unfolding run_texts run
  texts_left =
      texts_by_reading true program job work wide (run_behind d) (λ r. said (meaning_of ran r)) refused_said (λ p j e s h u g room wide. accepted_means program job p j e s h u g room d long (zeros work))
