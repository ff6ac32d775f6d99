-- What the entries leave, printed, is the text of the definitions.
use Prim.Native.Nat.{ℕ, ◌+◌, ◌-◌, ◌*◌, ◌≤◌, min}
use mathlib.Core.Path.{◌≡◌, refl, ap, ap₂, ◌∙◌, sym as inv}
use mathlib.Core.Bool.{Bool, true, false}
use mathlib.Core.List.{List, [], ◌++◌, append_assoc}
use native.Mathlib.Omega.{arith}
use lib.ListN.{length, take, drop, replicate, length-append}
use lib.Seq.{sets, length-sets, take_at}
use Rattle.expressions.specs.Class.{IOClass}
use Rattle.sets.specs.Cells.{cells, cells_all, restriction_cells}
use Rattle.sets.proofs.CellLaws.{cells_nodes, cells_all_nodes, restriction_cells_nodes}
use Rattle.language.specs.Bytes.{Refusal}
use Rattle.language.specs.Tokens.{Text, of_program, of_job, symbols_of}
use Rattle.language.specs.Source.{SProg, SJob, class}
use Rattle.language.specs.JobCheck.{lister, runner}
use Rattle.language.specs.Reading.{accepted, rejected, reading}
use Rattle.language.proofs.Numbers.{accepted_numbers}
use Rattle.lexer.specs.Twins.Lexed.{State}
use Rattle.syntax.proofs.ProgramRead.{ProgramStored}
use Rattle.syntax.proofs.JobRead.{JobStored}
use Rattle.semantics.specs.Embedding.{embed}
use Rattle.semantics.specs.Runner.{Ran, value, ran_over, not_within, nodes_value}
use Rattle.semantics.specs.Walk.{stop21, stop22, stop23, Word, whole, cut, stop, word_of, lines_of, count_of}
use Rattle.semantics.specs.Answer as meaning
use Rattle.semantics.specs.Answer.{answered, walked, ran, Listed, list, run}
use Rattle.semantics.proofs.AcceptedTexts.{run_answer, list_answer}
use Rattle.listing.specs.Text.{list_text, sampled_text, run_text}
use Rattle.lent.specs.Storage.{zeros}
use Rattle.reading.specs.Twins.BothCells.{BothAnswer, both_over}
use Rattle.reading.proofs.BothRead.{zeros_length, leaving, refused_texts, taken, texts_by_reading}
use Rattle.heap.proofs.HeapLaws.{sets_cells}
use Rattle.runs.specs.Twins.Runs.{cells_at}
use Rattle.runs.proofs.RunLaws.{below_self, below_sets, cells_below, run_drop, sets_append}
use Rattle.initial.proofs.EmbedLaws.{embed_nodes}
use Rattle.initial.proofs.JobLaws.{job_heap, job_laid_lem}
use Rattle.initial.proofs.BeginTexts.{accepted_sides, job_here, job_short}
use Rattle.lines.specs.LineCells.{lines_cells}
use Rattle.resolve.specs.RunAnswer as runs
use Rattle.resolve.specs.ListAnswer.{worded, answer_of, cells_after, too_short, list_left}
use Rattle.answers.specs.ListNumbers.{Answer}
use Rattle.answers.specs.Headings.{heading_of}
use Rattle.run_answers.specs.RunNumbers.{Answer as RunAnswer}
use Rattle.run_answers.specs.declared.run.Ran.{Ran as Outcome}
use Rattle.run_answers.specs.declared.run.Ran.TheVariants.{Value as ValueOut}
use Rattle.std.specs.Prelude.{Ok, Err}
use Rattle.answers.specs.declared.list.Word.{Word as FirstWord}
use Rattle.answers.specs.declared.list.Word.TheVariants.{Whole as WholeWord, Cut as CutWord, Stop21 as Word21, Stop22 as Word22, Stop23 as Word23}
use Rattle.window.specs.Twins.TreeText.{symbol_text}
use Rattle.window.specs.Windows.{windowed, Printed}
use Rattle.print.specs.Twins.Names.{found_in, text_names}
use Rattle.print.specs.Twins.ListingText.{walk_word}
use Rattle.writer.specs.Twins.OutcomeText.{outcome_text}
use Rattle.print.specs.Twins.RanText.{named_text, refusal_text, ran_text}
use Rattle.print.specs.Twins.ListedText.{read_listing, named_listing, headed_text, listed_with, listed_text, sampled_listed, text_with}
use Rattle.print.proofs.OutcomeLaws.{answer_of as cells_of, outcome_of}
use Rattle.print.proofs.PrintedTexts.{listing_text_lem, outcome_text_lem, list_refusal_text, run_refusal_text}

wide : 8194 ≤ length (replicate {A = ℕ} 8194 0)
wide = omega (arith, zeros_length 8194)

-- the first cells that are written stay, whatever is written behind them
front_kept : (a b h : List ℕ) → length a ≤ length h → take (length a) (sets h 0 (a ++ b)) ≡ a
front_kept a b h l =
    let g = sets h 0 a in
    let f = sets g (0 + length a) b in
    let m : 0 + length a ≡ length a = omega arith in
    let kept : cells_at (length a) 0 f ≡ a = cells_below (below_sets (0 + length a) b (below_self {used = length a} {h = g}) (omega arith)) (length a) 0 (omega arith) ∙ sets_cells a h 0 (omega arith) in
    let s : f ≡ a ++ drop (length a) f =
    run_drop (length a) 0 f (omega (arith, length-sets g (0 + length a) b, length-sets h 0 a)) ∙ ap (λ (w : List ℕ). w ++ drop (0 + length a) f) kept ∙ ap (λ (k : ℕ). a ++ drop k f) m
    in
    ap (take (length a)) (inv (sets_append h 0 a b) ∙ s) ∙ take_at a (drop (length a) f) (length a) refl

-- the inputs and the output of a job that is laid out
laid_front : (P : IOClass) (h : List ℕ) → length (cells_all P.con.ins) + length (cells P.con.out) ≤ length h →
    take (length (cells_all P.con.ins) + length (cells P.con.out)) (job_heap P h) ≡ cells_all P.con.ins ++ cells P.con.out
laid_front P h room =
    let A = cells_all P.con.ins in
    let B = cells P.con.out in
    let C = restriction_cells P.neqs in
    ap (λ (k : ℕ). take k (job_heap P h)) (inv (length-append A B)) ∙ ap (λ (w : List ℕ). take (length (A ++ B)) (sets h 0 w)) (inv (append_assoc A B C)) ∙ front_kept (A ++ B) C h (omega (arith, length-append A B))

module _ (program job : List ℕ) where
  -- The listing, by what is read of the texts, with samples or without.
  abbrev listed_by : Bool → BothAnswer → List ℕ → Answer → List ℕ
  listed_by samples w d a = headed_text (read_listing samples program job w d) (heading_of a)

  listed_is : (samples : Bool) (d : List ℕ) (a : Answer) → listed_with samples program job d a ≡ listed_by samples (both_over false program job (replicate 8194 0)) d a
  unfolding named_listing
  listed_is samples d a = refl

  module _ (p : SProg) (j : SJob) (e : reading lister program job ≡ accepted p j) (s : State) (u : State) (g : JobStored program job (symbols_of [] program) u j) (room : 2048 ≤ length u.symbols) (x rest : List ℕ) (samples : Bool) where
    named_text_lem : (word : FirstWord) → walk_word word ≡ word_of (walked p j) →
        read_listing samples program job (taken s u j x) (lines_cells (lines_of (walked p j)) ++ rest) word (length (lines_of (walked p j))) (count_of (walked p j)) ≡ text_with samples program job
    named_text_lem word f =
        let numbers = (accepted_numbers lister program job p j e).job in
        let atomic = accepted_sides lister program job p j e in
        let here = job_here program job (symbols_of [] program) u j g numbers atomic in
        let short = job_short program job (symbols_of [] program) u j g numbers atomic in
        let most = g.most in
        let A = cells_all (class j).con.ins in
        let B = cells (class j).con.out in
        let a = cells_all_nodes (class j).con.ins in
        let b = cells_nodes (class j).con.out in
        let c = restriction_cells_nodes (class j).neqs in
        let l = job_laid_lem _ _ _ (class j) (replicate 4097 0) here (omega (arith, short.0, short.1)) in
        rw (l, laid_front (class j) (replicate 4097 0) (omega (arith, short.0, zeros_length 4097))) (listing_text_lem program job p j u g room e samples word f rest)

    worded_text : (w : Word) → w ≡ word_of (walked p j) →
        listed_by samples (taken s u j x) (lines_cells (lines_of (walked p j)) ++ rest) (worded w (length (lines_of (walked p j))) (count_of (walked p j))) ≡ text_with samples program job
    worded_text whole f = named_text_lem WholeWord f
    worded_text cut f = named_text_lem CutWord f
    worded_text (stop stop21) f = named_text_lem Word21 f
    worded_text (stop stop22) f = named_text_lem Word22 f
    worded_text (stop stop23) f = named_text_lem Word23 f

  module _ (samples : Bool) (d : List ℕ) where
    refused_printed : (t : Text) (r : Refusal) → reading lister program job ≡ rejected t r → (w : BothAnswer) → listed_by samples w (cells_after (list program job) d) (answer_of (list program job)) ≡ text_with samples program job
    unfolding list
    refused_printed of_program r e w = rw e (list_refusal_text program job of_program r samples e)
    refused_printed of_job r e w = rw e (list_refusal_text program job of_job r samples e)

    -- x is the storage that is lent for the names
    module _ (x : List ℕ) where
      accepted_printed : (p : SProg) (j : SJob) → reading lister program job ≡ accepted p j → (s : State) → ProgramStored program s p → (u : State) → JobStored program job (symbols_of [] program) u j → s.i ≤ length s.ats → 2048 ≤ length u.symbols →
          listed_by samples (taken s u j (zeros x)) (cells_after (list program job) d) (answer_of (list program job)) ≡ text_with samples program job
      accepted_printed p j e s h u g few room =
          let ls = lines_of (walked p j) in
          ap (λ (a : meaning.Answer Listed). listed_by samples (taken s u j (zeros x)) (cells_after a d) (answer_of a)) (list_answer program job p j e)
          ∙ worded_text p j e s u g room (zeros x) (replicate (length d - length (lines_cells ls)) 0) samples (word_of (walked p j)) refl

      read_printed : 8194 ≤ length x → listed_by samples (both_over false program job x) (cells_after (list program job) d) (answer_of (list program job)) ≡ text_with samples program job
      read_printed l =
          texts_by_reading false program job x l (λ w. listed_by samples w (cells_after (list program job) d) (answer_of (list program job))) (λ r. text_with samples program job)
          (λ t r e marks nums ends heads jmarks jnums symbols. refused_printed t r e (leaving (refused_texts t r) marks nums ends heads jmarks jnums symbols (zeros x))) accepted_printed

  -- "After whole or cut the answer storage holds the listing": what `list` leaves is printed as the listing of the two texts, by texts that are
  -- read again or that were read before.
  module _ (work d : List ℕ) (long : too_short work d ≡ false) where
    pub with_printed : (samples : Bool) → let w = list_left program job work d in listed_with samples program job w.cells w.answer ≡ text_with samples program job
    unfolding list_left
    with_printed samples = rw long (listed_is samples (cells_after (list program job) d) (answer_of (list program job)) ∙ read_printed samples d (replicate 8194 0) wide)

    pub list_printed : let w = list_left program job work d in listed_text program job w.cells w.answer ≡ list_text program job
    list_printed = with_printed false

    -- the same with samples
    pub sampled_printed : let w = list_left program job work d in sampled_listed program job w.cells w.answer ≡ sampled_text program job
    sampled_printed = with_printed true

    pub first_printed : (samples : Bool) → 8194 ≤ length work → let w = list_left program job work d in headed_text (read_listing samples program job (both_over false program job work) w.cells) (heading_of w.answer) ≡ text_with samples program job
    unfolding list_left
    first_printed samples l = rw long (read_printed samples d work l)

  -- The line of a run, by what is read of the texts.
  abbrev ran_named : BothAnswer → List ℕ → Outcome → List ℕ
  ran_named w d o = outcome_text (symbol_text program job (take (2 * found_in w.job.placed.texts) w.job.symbols)) d o

  abbrev ran_by : BothAnswer → List ℕ → RunAnswer → List ℕ
  ran_by w d (Ok r) = ran_named w d r
  ran_by w d (Err r) = refusal_text r

  ran_is : (d : List ℕ) (a : RunAnswer) → ran_text program job d a ≡ ran_by (both_over true program job (replicate 8194 0)) d a
  unfolding named_text text_names
  ran_is d (Ok r) = refl
  ran_is d (Err r) = refl

  module _ (d : List ℕ) (p : SProg) (j : SJob) (e : reading runner program job ≡ accepted p j) (s u : State) (g : JobStored program job (symbols_of [] program) u j) (room : 2048 ≤ length u.symbols) (x : List ℕ) where
    outcome_from : (r : Ran) → r ≡ ran p j → (rest : List ℕ) → ran_named (taken s u j x) (cells_of r ++ rest) (outcome_of r) ≡ run_text program job
    outcome_from r f rest = rw f (outcome_text_lem program job p j u g room e rest)

    outcome_by : (r : Ran) → r ≡ ran p j → ran_by (taken s u j x) (runs.cells_after (answered r) d) (runs.answer_of (answered r)) ≡ run_text program job
    outcome_by (value k v) f =
        let n : length (cells (embed v)) ≡ nodes_value v = cells_nodes (embed v) ∙ embed_nodes v in
        ap (λ (i : ℕ). ran_named (taken s u j x) (runs.value_cells v d) (ValueOut k i)) (inv n) ∙ outcome_from (value k v) f (replicate (length d - nodes_value v) 0)
    outcome_by ran_over f = outcome_from ran_over f (runs.cells_after (answered ran_over) d)
    outcome_by not_within f = outcome_from not_within f (runs.cells_after (answered not_within) d)

  -- "The runner's value stands in its answer storage in the same way": what `run` leaves is printed as the run of the two texts.
  module _ (work d : List ℕ) where
    run_refused : (t : Text) (r : Refusal) → reading runner program job ≡ rejected t r → (w : BothAnswer) → ran_by w (runs.cells_after (run program job) d) (runs.answer_of (run program job)) ≡ run_text program job
    unfolding run
    run_refused of_program r e w = rw e (run_refusal_text program job of_program r e)
    run_refused of_job r e w = rw e (run_refusal_text program job of_job r e)

    run_accepted : (p : SProg) (j : SJob) → reading runner program job ≡ accepted p j → (s : State) → ProgramStored program s p → (u : State) → JobStored program job (symbols_of [] program) u j → s.i ≤ length s.ats → 2048 ≤ length u.symbols →
        ran_by (taken s u j (zeros (replicate 8194 0))) (runs.cells_after (run program job) d) (runs.answer_of (run program job)) ≡ run_text program job
    run_accepted p j e s h u g few room =
        ap (λ (a : meaning.Answer Ran). ran_by (taken s u j (zeros (replicate 8194 0))) (runs.cells_after a d) (runs.answer_of a)) (run_answer program job p j e)
        ∙ outcome_by d p j e s u g room (zeros (replicate 8194 0)) (ran p j) refl

    pub run_printed : runs.too_short work d ≡ false → let w = runs.run_left program job work d in ran_text program job w.cells w.answer ≡ run_text program job
    unfolding runs.run_left
    run_printed long =
        rw long (ran_is (runs.cells_after (run program job) d) (runs.answer_of (run program job)) ∙ texts_by_reading true program job (replicate 8194 0) wide
        (λ w. ran_by w (runs.cells_after (run program job) d) (runs.answer_of (run program job))) (λ r. run_text program job) (λ t r e marks nums ends heads jmarks jnums symbols. run_refused t r e (leaving (refused_texts t r) marks nums ends heads jmarks jnums symbols (zeros (replicate 8194 0)))) run_accepted)

  -- what the prints promise: a part of the text of any cells, which is that of the two texts where the cells are those that the entry left
  module _ (n from : ℕ) (c : List ℕ) {r : ℕ} {out : List ℕ} where
    pub list_promised : (a : Answer) → Printed n from (listed_text program job c a) r out →
        (let text = listed_text program job c a in (r ≡ min n (length text - from)) × (out ≡ windowed n from text))
        × ((work d : List ℕ) → too_short work d ≡ false → c ≡ (list_left program job work d).cells → a ≡ (list_left program job work d).answer → listed_text program job c a ≡ list_text program job)
    list_promised a h = ((h.0, h.1), λ work d long e f. ap₂ (λ (x : List ℕ) (z : Answer). listed_text program job x z) e f ∙ list_printed work d long)

    pub sampled_promised : (a : Answer) → Printed n from (sampled_listed program job c a) r out →
        (let text = sampled_listed program job c a in (r ≡ min n (length text - from)) × (out ≡ windowed n from text))
        × ((work d : List ℕ) → too_short work d ≡ false → c ≡ (list_left program job work d).cells → a ≡ (list_left program job work d).answer → sampled_listed program job c a ≡ sampled_text program job)
    sampled_promised a h = ((h.0, h.1), λ work d long e f. ap₂ (λ (x : List ℕ) (z : Answer). sampled_listed program job x z) e f ∙ sampled_printed work d long)

    pub run_promised : (a : RunAnswer) → Printed n from (ran_text program job c a) r out →
        (let text = ran_text program job c a in (r ≡ min n (length text - from)) × (out ≡ windowed n from text))
        × ((work d : List ℕ) → runs.too_short work d ≡ false → c ≡ (runs.run_left program job work d).cells → a ≡ (runs.run_left program job work d).answer → ran_text program job c a ≡ run_text program job)
    run_promised a h = ((h.0, h.1), λ work d long e f. ap₂ (λ (x : List ℕ) (z : RunAnswer). ran_text program job x z) e f ∙ run_printed work d long)
