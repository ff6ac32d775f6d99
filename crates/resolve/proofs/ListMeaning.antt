-- `list`: what it answers and leaves over two texts is what its definition says.
use Prim.Native.Nat.{ℕ, zero, suc, ◌-◌, ◌≤◌, ◌<◌}
use mathlib.Core.Path.{◌≡◌, refl, ap, ap₂, subst, ◌∙◌, sym as inv}
use mathlib.Core.Bool.{Bool, true, false, cond}
use mathlib.Core.List.{List, [], ◌++◌}
use mathlib.Core.Option.{Option, none, some}
use mathlib.Core.Logic.{inl, inr}
use native.Mathlib.Omega.{arith}
use lib.Dec.{eqb}
use lib.ListN.{length, replicate, length-append}
use borrow.Author.Tests.{eqb-true, eq-eqb, lt-ltb}
use Rattle.std.specs.Prelude.{Result, Ok, Err}
use Rattle.language.specs.Bytes.{Refusal}
use Rattle.language.specs.Tokens.{Text, of_program, of_job, symbols_of}
use Rattle.language.specs.Source.{SProg, SJob, prog, class}
use Rattle.language.specs.JobCheck.{lister}
use Rattle.language.specs.Reading.{Reading, accepted, rejected, reading}
use Rattle.language.specs.WellFormed.{admitted}
use Rattle.language.proofs.Acceptance.{accepted_passed}
use Rattle.lexer.specs.Twins.Lexed.{State}
use Rattle.syntax.specs.declared.numerals.Numerals.{Numerals}
use Rattle.lent.specs.Storage.{zeros}
use Rattle.syntax.proofs.ProgramRead.{ProgramStored}
use Rattle.syntax.proofs.JobRead.{JobStored}
use Rattle.semantics.specs.Configuration.{Configuration, nodes_state, start}
use Rattle.semantics.specs.Tree.{root}
use Rattle.semantics.specs.Walk.{Limits, stop21, stop22, stop23, Walked, going, stopped, walk_from, at_start, resolve, whole, cut, word_of, lines_of, count_of}
use Rattle.semantics.proofs.Backtrack.{on_path, halted, walk_back, walk_back_from, resolve_back, walked_of, SameFindings}
use Rattle.semantics.specs.Answer as meaning
use Rattle.semantics.specs.Answer.{Listed, limits, answer_of as meaning_of, list}
use Rattle.semantics.proofs.Backtracking.{back_findings}
use Rattle.semantics.proofs.MainCall.{accepted_main}
use Rattle.language.specs.Program.{Prog}
use Rattle.linking.specs.Twins.Linking.{program_linked, program_end}
use Rattle.linking.specs.Twins.Linked.{ProgramLinked}
use Rattle.linking.proofs.ProgramLaws.{bodies_of}
use Rattle.linking.proofs.Accepted.{accepted_linked, accepted_kept}
use Rattle.constants.proofs.ConstantLaws.{NoConstants, nought_at, nought_none}
use Rattle.initial.specs.Twins.Beginning.{main_body, BegunLeft, begun_at}
use Rattle.restrictions.specs.declared.failure.Failure.{Failure}
use Rattle.restrictions.specs.declared.failure.Failure.TheVariants.{Over as NoRoom}
use Rattle.heap.specs.declared.configuration.Configuration.{Configuration as InCells}
use Rattle.initial.proofs.BeginLaws.{in_main, Begins, BeginsAs, start_main}
use Rattle.initial.proofs.BeginTexts.{params_few, accepted_begins}
use Rattle.tracing.proofs.ShowLaws.{Accepted}
use Rattle.lines.specs.LineCells.{lines_cells, answer_room}
use Rattle.lines.proofs.LineLaws.{LinesHeld, no_lines}
use Rattle.lines.proofs.LineLaws as lines
use Rattle.turns.specs.Twins.Finding.{nothing_found}
use Rattle.walk.specs.Twins.Jobs.{JobLeft, job_left, on_begun, walk_job, JobLaid, job_laid, walk_laid}
use Rattle.turns.specs.declared.found.Walked.{Walked as Came}
use Rattle.walk.proofs.JobLaws.{Leaves, begun_means}
use Rattle.reading.specs.Twins.BothCells.{BothAnswer, both_over}
use Rattle.resolve.specs.ListAnswer.{ListLeft, worded, answer_of, lines_then, cells_after}
use Rattle.resolve.specs.Twins.ListCells.{came_to, ReadLeft, read_left, ListOut, listed_read, list_behind, list_texts}
use Rattle.reading.specs.declared.both.Both.{Both}
use Rattle.refusals.specs.declared.refusal.Refused.{Refused}
use Rattle.answers.specs.ListNumbers.{Answer as Outcome}
use Rattle.answers.specs.declared.list.Listed.{Listed as Listing}
use Rattle.answers.specs.declared.list.Word.TheVariants.{Whole, Cut}
use Rattle.reading.proofs.BothTurns.{LeftBy}
use Rattle.reading.proofs.BothRead.{zeros_length, ends_of, table_of, heads_of, parts_of, leaving, refused_texts, taken, both_are, texts_by_reading}
use Rattle.resolve.proofs.StartSound.{start_reaches}
use Rattle.resolve.proofs.BeginPlace.{begun_place}

abbrev left_of : Outcome → List ℕ → List ℕ → ListLeft
left_of r work d = record { answer = r; work = work; cells = d }

-- what `list_texts` leaves behind both texts
pub list_left : (program job work d : List ℕ) {t : Result Both Refused} {marks nums ends heads jmarks jnums symbols x b : List ℕ} {o : Outcome} → LeftBy t marks nums ends heads jmarks jnums symbols x (both_over false program job work) →
    read_left o b ≡ listed_read t marks nums ends heads jmarks jnums d → ListOut o x b (list_texts program job work d)
unfolding list_texts
list_left program job work d {t} {x = x} {b = b} {o = o} is h =
    subst (λ (w : BothAnswer). ListOut o x b (list_behind d w)) (both_are {w = both_over false program job work} is refl) (ap (λ (w : ReadLeft). w.answer) h, refl, ap (λ (w : ReadLeft). w.cells) h)

pub walked_behind : (d marks nums ends heads jmarks jnums : List ℕ) (w : Both) {a b code laid : List ℕ} {tokens body : ℕ} {r : Came} {o : Listing} → code ≡ program_linked marks nums ends heads w.count (replicate 24582 0) → tokens ≡ program_end ends heads w.count → body ≡ main_body marks heads → a ≡ zeros d →
    job_laid (job_left r b) laid ≡ walk_laid code tokens body jmarks jnums w.parts w.numerals a → o ≡ came_to r → read_left (Ok o) b ≡ listed_read (Ok w) marks nums ends heads jmarks jnums d
unfolding listed_read
walked_behind d marks nums ends heads jmarks jnums w {a = a} {code = code} {tokens = tokens} {body = body} l t m z h g =
    let v =
    ap (λ (w : JobLaid). w.left) h ∙ ap (λ (s : List ℕ). walk_job s tokens body jmarks jnums w.parts w.numerals a) l ∙ ap (λ (i : ℕ). walk_job (program_linked marks nums ends heads w.count (replicate 24582 0)) i body jmarks jnums w.parts w.numerals a) t ∙ ap (λ (i : ℕ). walk_job (program_linked marks nums ends heads w.count (replicate 24582 0)) (program_end ends heads w.count) i jmarks jnums w.parts w.numerals a) m
    ∙ ap (walk_job (program_linked marks nums ends heads w.count (replicate 24582 0)) (program_end ends heads w.count) (main_body marks heads) jmarks jnums w.parts w.numerals) z
    in
    ap₂ read_left (ap Ok (g ∙ ap (λ (w : JobLeft). came_to w.walked) v)) (ap (λ (w : JobLeft). w.answer) v)

-- the answer by its definition, over an answer storage as long as d
abbrev said_of : List ℕ → List ℕ → Walked → ListLeft
said_of x d w = left_of (worded (word_of w) (length (lines_of w)) (count_of w)) x (lines_then (lines_of w) d)

leaves_word : (w : Walked) (v : JobLeft) → Leaves w v → Ok (came_to v.walked) ≡ worded (word_of w) (length (lines_of w)) (count_of w)
leaves_word (going r) v h = rw (h.ending, h.cut, h.count, h.lines.count) (pick r.cut)
  where
    pick : (b : Bool) → Ok (record { word = cond b Cut Whole; lines = length r.lines; count = r.count }) ≡ worded (cond b cut whole) (length r.lines) r.count
    pick true = refl
    pick false = refl
leaves_word (stopped stop21 r) v h = rw (h.ending, h.count, h.lines.count) refl
leaves_word (stopped stop22 r) v h = rw (h.ending, h.count, h.lines.count) refl
leaves_word (stopped stop23 r) v h = rw (h.ending, h.count, h.lines.count) refl

leaves_cells : (w : Walked) (v : JobLeft) (d : List ℕ) → Leaves w v → length v.answer ≡ length d → v.answer ≡ lines_then (lines_of w) d
leaves_cells w v d h l =
    let c = lines_cells (lines_of w) in
    let n : h.lines.spare ≡ length d - length c = omega (arith, l, ap length h.lines.stored, length-append c (lines.zeros h.lines.spare), zeros_length h.lines.spare) in
    h.lines.stored ∙ ap (λ (k : ℕ). c ++ replicate k 0) n

-- what a walk came to, by its answer
abbrev walk_left : List ℕ → JobLeft → ListLeft
walk_left x v = left_of (Ok (came_to v.walked)) x v.answer

leaves_said : (w : Walked) (v : JobLeft) (x d : List ℕ) → Leaves w v → length v.answer ≡ length d → walk_left x v ≡ said_of x d w
leaves_said w v x d h l =
    ap (λ (r : Outcome). left_of r x v.answer) (leaves_word w v h) ∙ ap (left_of (worded (word_of w) (length (lines_of w)) (count_of w)) x) (leaves_cells w v d h l)

same_said : (x d : List ℕ) (v w : Walked) → SameFindings v w → said_of x d v ≡ said_of x d w
same_said x d v w f = rw (f.word, f.lines, f.count) refl

-- "21 .. at the start"
start_over : (p : Prog) (lim : Limits) (n : ℕ) (K : Configuration) → 4096 < nodes_state K.cr → walk_back_from p lim n (some K) ≡ halted stop21 (on_path [] at_start)
unfolding walk_back
start_over p lim n K l = rw (lt-ltb 4096 (nodes_state K.cr) l) (go lim.walk)
  where
    go : (v : ℕ) → walk_back p lim n (root K) v (halted stop21 (on_path [] at_start)) ≡ halted stop21 (on_path [] at_start)
    go zero = refl
    go (suc v) = refl

-- Two texts that were accepted, their tokens in storage.
module _ (program job : List ℕ) (p : SProg) (j : SJob) (e : reading lister program job ≡ accepted p j)
    (s : State) (h : ProgramStored program s p) (u : State) (g : JobStored program job (symbols_of [] program) u j) (room : s.i ≤ length s.ats) where
  abbrev N : ℕ
  N = j.steps.num

  abbrev numerals : Numerals
  numerals = record { steps = j.steps.num; walk = j.walk.num; table = j.table.num }

  abbrev bodies : ℕ → ℕ
  bodies = bodies_of s.marks (heads_of s)

  abbrev code : List ℕ
  code = program_linked s.marks s.nums (ends_of s) (heads_of s) (table_of s).count (replicate 24582 0)

  formed : admitted (prog p) ≡ true
  formed = (accepted_passed lister program job p j e).admitted

  linked : ProgramLinked (prog p) bodies code
  linked = accepted_linked program s p h s.ats (replicate 64 0) room (omega (arith, zeros_length 64)) formed (replicate 24582 0) (zeros_length 24582)

  ok : Accepted (prog p) bodies code
  ok = record { linked = linked; formed = formed; few = params_few program s p h }

  wide : length code ≡ 24582
  wide = (accepted_kept program s p h s.ats (replicate 64 0) room (omega (arith, zeros_length 64)) formed (replicate 24582 0) (zeros_length 24582)).0

  empty : NoConstants code
  empty = nought_none code (λ m l. (accepted_kept program s p h s.ats (replicate 64 0) room (omega (arith, zeros_length 64)) formed (replicate 24582 0) (zeros_length 24582)).1 m l ∙ nought_at 24582 m)

  abbrev tokens : ℕ
  tokens = program_end (ends_of s) (heads_of s) (table_of s).count

  -- main's body over zeroed storages
  abbrev begun : BegunLeft
  begun = begun_at (main_body s.marks (heads_of s)) u.marks u.nums (parts_of u) false (replicate 65535 0) (replicate 12360 0) (replicate 4096 0)

  begins : BeginsAs (prog p) bodies code (start (prog p) (class j)) begun
  begins = accepted_begins lister program job p j e u g bodies code linked (replicate 65535 0) (replicate 12360 0) (replicate 4096 0) (zeros_length 65535) (zeros_length 12360) (zeros_length 4096)

  module _ (d : List ℕ) (long : answer_room ≤ length d) where
    abbrev walks : Result InCells Failure → JobLeft
    walks b = on_begun code tokens numerals (zeros d) begun b

    nothing_held : LinesHeld [] 0 (zeros d) nothing_found.lines
    nothing_held = no_lines (length d)

    abbrev found : Walked
    found = resolve (prog p) (class j) N (limits j)

    -- the start K
    module _ (K : Configuration) (f : start (prog p) (class j) ≡ some K) where
      abbrev back : Walked
      back = walked_of (walk_back_from (prog p) (limits j) N (some K))

      over_leaves : 4097 < nodes_state K.cr → Leaves back (walks (Err NoRoom))
      over_leaves l = rw (start_over (prog p) (limits j) N K (omega arith)) (record { ending = refl; cut = refl; count = refl; lines = nothing_held })

      on_leaves : Begins (prog p) bodies code (in_main (prog p) K) begun → Leaves back (walks begun.answer)
      on_leaves b =
          let a = accepted_passed lister program job p j e in
          let at = begun_place b (start_main (prog p) (class j) K a.admitted a.fits f).1 in
          begun_means (prog p) bodies code tokens ok empty wide K (accepted_main lister program job p j e K f) begun b (limits j) a.table a.walk N a.steps numerals refl refl refl (omega arith)
          (start_reaches lister program job p j e K f N) (zeros d) nothing_held (omega (arith, zeros_length (length d)))

      -- The walk over the cells of accepted texts is that of the definitions.
      walk_leaves : BeginsAs (prog p) bodies code (some K) begun → Leaves back (walks begun.answer)
      walk_leaves (inl o) = subst (λ (b : Result InCells Failure). Leaves back (walks b)) (inv o.0) (over_leaves o.1)
      walk_leaves (inr b) = on_leaves b

      found_back : SameFindings back found
      unfolding resolve_back
      found_back = subst (λ (o : Option Configuration). SameFindings (walked_of (walk_back_from (prog p) (limits j) N o)) found) f (back_findings (prog p) (class j) N (limits j))

    found_none : start (prog p) (class j) ≡ none → found ≡ walk_from (prog p) (limits j) N none
    unfolding resolve
    found_none f = ap (walk_from (prog p) (limits j) N) f

    module _ (x : List ℕ) where
      by_start : (o : Option Configuration) → start (prog p) (class j) ≡ o → BeginsAs (prog p) bodies code o begun → length (walks begun.answer).answer ≡ length d → walk_left x (walks begun.answer) ≡ said_of x d found
      by_start none f a l =
          let n : length d - 0 ≡ length d = omega arith in
          rw (a, found_none f, n) refl
      by_start (some K) f a l = leaves_said (back K f) (walks begun.answer) x d (walk_leaves K f a) l ∙ same_said x d (back K f) found (found_back K f)

      pub accepted_means : length (list_behind d (taken s u j x)).cells ≡ length d → list_behind d (taken s u j x) ≡ said_of x d found
      unfolding walk_job listed_read
      accepted_means l = by_start (start (prog p) (class j)) refl begins l

-- Any two texts.
module _ (program job work d : List ℕ) (wide : 8194 ≤ length work) (long : answer_room ≤ length d) where
  abbrev listed_by : SProg → SJob → Listed
  listed_by p j = record { job = class j; walked = meaning.walked p j }

  -- what is left, by what `list` means
  abbrev said : meaning.Answer Listed → ListLeft
  said a = left_of (answer_of a) (zeros work) (cells_after a d)

  abbrev said_by : Reading → ListLeft
  said_by r = said (meaning_of listed_by r)

  -- what is left, where the answer storage keeps its length
  abbrev kept : BothAnswer → ListLeft
  kept w = cond (eqb (length (list_behind d w).cells) (length d)) (list_behind d w) (said_by (reading lister program job))

  kept_said : (w : BothAnswer) (r : Reading) → reading lister program job ≡ r → (length (list_behind d w).cells ≡ length d → list_behind d w ≡ said_by r) → kept w ≡ said_by r
  kept_said w r e f = pick (eqb (length (list_behind d w).cells) (length d)) refl
    where
      pick : (b : Bool) → eqb (length (list_behind d w).cells) (length d) ≡ b → cond b (list_behind d w) (said_by (reading lister program job)) ≡ said_by r
      pick true i = f (eqb-true _ _ i)
      pick false i = ap said_by e

  refused_said : (t : Text) (r : Refusal) (marks nums ends heads jmarks jnums symbols : List ℕ) → list_behind d (leaving (refused_texts t r) marks nums ends heads jmarks jnums symbols (zeros work)) ≡ said_by (rejected t r)
  unfolding listed_read
  refused_said of_program r marks nums ends heads jmarks jnums symbols = refl
  refused_said of_job r marks nums ends heads jmarks jnums symbols = refl

  pub texts_left : length (list_texts program job work d).cells ≡ length d → list_texts program job work d ≡ said (list program job)
  unfolding list_texts list
  texts_left l =
      inv (ap (λ (b : Bool). cond b (list_behind d (both_over false program job work)) (said_by (reading lister program job))) (eq-eqb _ _ l))
      ∙ texts_by_reading false program job work wide kept said_by
      (λ t r e marks nums ends heads jmarks jnums symbols. kept_said (leaving (refused_texts t r) marks nums ends heads jmarks jnums symbols (zeros work)) (rejected t r) e (λ z. refused_said t r marks nums ends heads jmarks jnums symbols))
      (λ p j e s h u g room wide. kept_said (taken s u j (zeros work)) (accepted p j) e (accepted_means program job p j e s h u g room d long (zeros work)))
