-- A job's text, cut behind its program's and read over its cells: what the readers and the check over the cells answer is what reading the text comes to.
use Prim.Native.Nat.{ℕ, ◌+◌, ◌-◌, ◌≤◌, ◌<◌}
use mathlib.Core.Path.{◌≡◌, refl, ap, subst, ◌∙◌, sym}
use mathlib.Core.Bool.{true, false, ◌||◌}
use mathlib.Core.List.{List}
use native.Mathlib.Omega.{arith}
use native.Mathlib.Nat.{mod-eq_of_lt}
use lib.Dec.{eqb}
use lib.ListN.{length}
use borrow.Author.Tests.{le-ltb}
use Rattle.language.specs.Words.{Word, fits}
use Rattle.language.specs.Tokens.{Kind, symbol, ename, aname, evariable, avariable, plain, tag, same_kind, of_job, symbols_of, Token, tokens}
use Rattle.language.specs.Reader.{is_a, ok, refuse}
use Rattle.language.specs.Source.{SDef, SProg, SJob, params}
use Rattle.language.specs.Grammar.{job_text}
use Rattle.language.specs.JobCheck.{Tool, job_verdict}
use Rattle.language.specs.Reading.{read_job}
use Rattle.std.specs.Prelude.{Ok, Err}
use Rattle.refusals.specs.declared.refusal.Refusal.{Refusal}
use Rattle.grammar.specs.Twins.Positions.{on_past}
use Rattle.grammar.specs.Twins.Stored as stored
use Rattle.checker.specs.Twins.StoredAt.{key_at, tag_at, num_at, at_at}
use Rattle.job_checker.specs.Twins.JobStored as check
use Rattle.job_checker.specs.Twins.JobStored.{numeral_from, val_at}
use Rattle.job_checker.specs.Twins.JobCheckAt as at
use Rattle.syntax.specs.Twins.Standing.{ParamsAt, DefAt, define_at, ProgramAt, JobAt}
use Rattle.words.specs.Twins.Cutting.{bytes_at, word_at}
use Rattle.lexer.specs.Twins.Table.{word_on, word_in}
use Rattle.lexer.specs.Twins.Lexed.{shifted, State, starting, cut_from}
use Rattle.syntax.specs.Twins.ReadAnswer.{verdict_got, job_answer, res_got}
use Rattle.syntax.proofs.Tracks.{got_of, token_at}
use Rattle.syntax.proofs.Shut.{Alike}
use Rattle.syntax.proofs.CheckLaws.{coded, is_a_other, keys, kinds, ats}
use Rattle.syntax.proofs.JobLaws.{Fixed, is_runner, job_checked}
use Rattle.syntax.proofs.JobStanding.{job_stands}
use Rattle.syntax.proofs.EndsLaws.{Unbracketed}
use Rattle.syntax.proofs.TokenLaws.{all_fixed, all_unbracketed}
use Rattle.syntax.proofs.StoredCheck as storedCheck
use Rattle.lexer.proofs.TableMeaning.{Holds}
use Rattle.syntax.proofs.LexedMeaning.{Leaves}
use Rattle.syntax.proofs.TokenCells.{InCell}
use Rattle.lexer.proofs.CutLengths.{cut_lengths}
use Rattle.syntax.proofs.TextStored.{lexed, token_most, job_read, job_ends_lem, size, symbols_whole, held_same, held_alike}
use Rattle.syntax.proofs.NumeralTokens.{numeral_again, variable_few}
use Rattle.syntax.proofs.ReadAnswers.{text_refused, text_judged, text_answer, text_accepted}

-- an offset in the job's text, which the table tells from those in the program's
high_word : (first text : List ℕ) (o : ℕ) → o ≤ 32766 → word_in first text (shifted true o) ≡ word_at text o
high_word first text o l =
    let e : (o + 32769) - 32769 ≡ o = omega arith in
    ap (word_in first text) (mod-eq_of_lt {n = o + 32769} {m = 65536} (omega arith)) ∙ ap (λ b. word_on b first text (o + 32769)) (le-ltb (o + 32769) 32769 (omega arith)) ∙ ap (word_at text) e

variable_kind_lem : (k : Kind) → same_kind k plain ≡ false → InCell of_job k
variable_kind_lem symbol e = tt
variable_kind_lem ename e = tt
variable_kind_lem aname e = tt
variable_kind_lem evariable e = tt
variable_kind_lem avariable e = tt
variable_kind_lem plain e = let z : ◌≡◌ {A = ℕ} 0 1 = cc in omega arith

-- what does not ask for numbers holds of tokens that differ in them at most
module _ (tok tok' : ℕ → Token) (alike : (i : ℕ) → Alike (tok i) (tok' i)) where
  fixed_alike : Fixed tok' → Fixed tok
  fixed_alike h i l = ap (λ k. same_kind k plain) (alike i).kind ∙ h i (subst (λ (k : ℕ). k < 18) (alike i).key l)

  unbracketed_alike : Unbracketed tok' → Unbracketed tok
  unbracketed_alike h i f =
      let u = h i (sym (alike i).fit ∙ f) in
      (ap (λ k. eqb k 1 || eqb k 3) (alike i).key ∙ u.0, ap (λ k. eqb k 2 || eqb k 4) (alike i).key ∙ u.1)

-- main's parameters start at the fifth token
main_params : (tok : ℕ → Token) (n : ℕ) (p : SProg) → ProgramAt tok n p → (k : ℕ) × ParamsAt tok n 4 p.main.params k
main_params tok n p h = go h.main
  where
    go : {d : SDef} {k : ℕ} → DefAt tok n 0 d k → (k : ℕ) × ParamsAt tok n 4 d.params k
    go (define_at {j = j} o w f b xs few t c) = (j, xs)

-- What is stored of the text of the job j, behind the symbols zs: of its tokens all but a numeral's number stands in the cells, and that is
-- read again from the text.
pub record JobStored (first text : List ℕ) (zs : List Word) (s : State) (j : SJob) : Type 0 where
  pub rest : List Token
  pub read : job_text (tokens of_job zs text) ≡ ok (j, rest)
  pub size : s.i ≡ length (tokens of_job zs text)
  pub alike : (i : ℕ) → Alike (stored.token_at s.marks s.nums s.ats s.i i) (token_at (tokens of_job zs text) i)
  pub same : (i : ℕ) → is_a plain (token_at (tokens of_job zs text) i) ≡ false → stored.token_at s.marks s.nums s.ats s.i i ≡ token_at (tokens of_job zs text) i
  pub values : (i : ℕ) → is_a plain (token_at (tokens of_job zs text) i) ≡ true → (token_at (tokens of_job zs text) i).fit ≡ fits → val_at text s.ats s.i i ≡ (token_at (tokens of_job zs text) i).num
  pub symbols : Holds first text s.symbols (symbols_of zs text)
  pub found : s.found ≡ length (symbols_of zs text)
  pub few : length (symbols_of zs text) ≤ 1024
  pub fixed : Fixed (λ i. stored.token_at s.marks s.nums s.ats s.i i)
  pub unbracketed : Unbracketed (λ i. stored.token_at s.marks s.nums s.ats s.i i)
  pub most : s.i ≤ 4097
  pub long : 4097 ≤ length s.marks

-- the check over the cells of a job, and of the program p before it
module _ (first text : List ℕ) (zs : List Word) (s : State) (j : SJob) (h : JobStored first text zs s j) where
  abbrev tok : ℕ → Token
  tok i = token_at (tokens of_job zs text) i

  key_held : (i : ℕ) → key_at s.marks s.i i ≡ (tok i).key
  key_held i = storedCheck.key_of_lem s.marks s.nums s.ats s.i i ∙ (h.alike i).key

  kind_held : (i : ℕ) → tag_at s.marks s.i i ≡ tag (tok i).kind
  kind_held i = storedCheck.kind_of_lem s.marks s.nums s.ats s.i i ∙ ap tag (h.alike i).kind

  at_held : (i : ℕ) → at_at s.ats s.i i ≡ (tok i).at
  at_held i = storedCheck.at_of s.marks s.nums s.ats s.i i ∙ (h.alike i).at

  number_held : (i : ℕ) → is_a avariable (tok i) ≡ true → num_at s.nums s.i i ≡ (tok i).num
  number_held i e = storedCheck.num_of s.marks s.nums s.ats s.i i ∙ ap (λ t. t.num) (h.same i (is_a_other avariable plain (tok i) e))

  variable_held : (i : ℕ) → is_a avariable (tok i) ≡ true → (tok i).fit ≡ fits → (tok i).num < 1000
  variable_held i k f = variable_few text zs i k f

  pub job_stands_in : JobAt tok s.i j
  job_stands_in = subst (λ (n : ℕ). JobAt tok n j) (sym h.size) (job_stands (tokens of_job zs text) j h.rest h.read)

  module _ (main mnums mats : List ℕ) (m : ℕ) (p : SProg) (held-program : storedCheck.Holds main mnums mats m p) (tool : Tool) where
    abbrev mtok : ℕ → Token
    mtok i = stored.token_at main mnums mats m i

    job_view : check.job_at s.marks s.nums s.ats s.i (is_runner tool) text main m ≡
        at.job_at (keys tok s.i) (kinds tok s.i) (num_at s.nums s.i) (ats tok s.i) (val_at text s.ats s.i) s.i (keys mtok m) (kinds mtok m) m (is_runner tool) 4
    job_view = λ i. at.job_at (λ k. key_held k i) (λ k. kind_held k i) (num_at s.nums s.i) (λ k. at_held k i) (val_at text s.ats s.i) s.i
        (λ k. storedCheck.key_of_lem main mnums mats m k i) (λ k. storedCheck.kind_of_lem main mnums mats m k i) m (is_runner tool) 4

    pub job_stored_checked : check.job_at s.marks s.nums s.ats s.i (is_runner tool) text main m ≡ coded (job_verdict tool (params p.main.params) j)
    job_stored_checked = job_view ∙ job_checked tok mtok s.i m tool (num_at s.nums s.i) (val_at text s.ats s.i) number_held variable_held j (all_fixed of_job zs text)
        (λ i x. h.values i x.kind x.fit) (main_params mtok m p (storedCheck.held_stands main mnums mats m p held-program)).1 job_stands_in

-- zs are the program's symbols, which stand in the table
module _ (first text marks nums ats symbols names : List ℕ) (zs : List Word) (before : ℕ) (counts : before ≡ length zs) (few : length zs ≤ 1024) (holds : Holds first text symbols zs)
    (marks_room : 4097 ≤ length marks) (nums_room : 4097 ≤ length nums) (ats_room : 4097 ≤ length ats) (symbols_room : 2048 ≤ length symbols) (names_room : 8194 ≤ length names) where
  abbrev pub start : State
  start = starting marks nums ats symbols names before

  abbrev pub cut_job : State
  cut_job = cut_from true first text 4097 start

  abbrev ts : List Token
  ts = tokens of_job zs text

  -- nothing is asked of the offsets
  abbrev Any : ℕ → Type 0
  Any o = Unit {0}

  module _ (short : length text ≤ 8192) where
    left : Leaves first text Any cut_job start ts (symbols_of zs text)
    left = lexed true first text (omega arith) (λ o l. high_word first text o (omega arith)) Any (λ o l. tt) marks nums ats symbols names zs before
        counts few holds (λ k l. tt) marks_room nums_room ats_room symbols_room names_room

    -- the reader over the cells answers as the grammar does
    pub stored_read : stored.job_at cut_job.marks cut_job.ats 0 ≡ got_of ts (job_text ts)
    stored_read = job_read first text Any of_job zs cut_job start refl left

    module _ (j : SJob) (rest : List Token) (e : job_text ts ≡ ok (j, rest)) where
      end : (token_at ts left.last).key ≡ 0
      end = job_ends_lem first text Any of_job zs cut_job start refl left j rest e

      whole : left.words ≡ symbols_of zs text
      whole = symbols_whole first text Any of_job zs cut_job start refl left end

      alikes : (i : ℕ) → Alike (stored.token_at cut_job.marks cut_job.nums cut_job.ats cut_job.i i) (token_at ts i)
      alikes i = held_alike first text Any of_job zs cut_job start refl left end i

      -- a job that is read stands whole in the cells
      pub job_stored : JobStored first text zs cut_job j
      job_stored = record {
        rest = rest;
        read = e;
        size = size first text Any of_job zs cut_job start refl left end;
        alike = alikes;
        same = λ i k. held_same first text Any of_job zs cut_job start refl left end i (variable_kind_lem (token_at ts i).kind k);
        values = λ i k f. ap (λ o. numeral_from text 7 o 0) (storedCheck.at_of cut_job.marks cut_job.nums cut_job.ats cut_job.i i ∙ (alikes i).at) ∙ numeral_again text zs i k f;
        symbols = subst (Holds first text cut_job.symbols) whole left.symbols;
        found = left.found ∙ ap length whole;
        few = subst (λ (ws : List Word). length ws ≤ 1024) whole left.few;
        fixed = fixed_alike _ _ alikes (all_fixed of_job zs text);
        unbracketed = unbracketed_alike _ _ alikes (all_unbracketed of_job zs text);
        most = token_most first text Any of_job zs cut_job start refl left;
        long = omega (arith, (cut_lengths true first text 4097 start).marks);
      }

  -- p is the program before it, in the cells of main, mnums and mats
  module _ (main mnums mats : List ℕ) (m : ℕ) (p : SProg) (h : storedCheck.Holds main mnums mats m p) (tool : Tool) where
    found : length text ≤ 8192 → (j : SJob) (rest : List Token) → job_text ts ≡ ok (j, rest) →
        check.job_at cut_job.marks cut_job.nums cut_job.ats cut_job.i (is_runner tool) text main m ≡ coded (job_verdict tool (params p.main.params) j)
    found l j rest e = job_stored_checked first text zs cut_job j (job_stored l j rest e) main mnums mats m p h tool

    -- the whole: bytes, reader and check
    pub job_answer_lem : job_answer text cut_job.marks cut_job.nums cut_job.ats cut_job.i (is_runner tool) main m ≡ res_got (read_job tool p zs text) cut_job.i
    unfolding job_answer read_job
    job_answer_lem = text_answer of_job 8192 job_text (job_verdict tool (params p.main.params)) zs text _ _ stored_read found cut_job.i

    -- its steps: the bytes, and what is behind them
    pub job_judged_lem : (i : ℕ) → bytes_at 8192 text ≡ Ok i →
        (k : ℕ) × (on_past (verdict_got (check.job_at cut_job.marks cut_job.nums cut_job.ats cut_job.i (is_runner tool) text main m)) (stored.job_at cut_job.marks cut_job.ats 0) ≡ res_got (read_job tool p zs text) k)
    unfolding read_job
    job_judged_lem = text_judged of_job 8192 job_text (job_verdict tool (params p.main.params)) zs text _ _ stored_read found

  pub job_bytes_lem : (tool : Tool) (p : SProg) (r : Refusal) → bytes_at 8192 text ≡ Err r → read_job tool p zs text ≡ refuse r.number r.offset
  unfolding read_job
  job_bytes_lem tool p = text_refused of_job 8192 job_text (job_verdict tool (params p.main.params)) zs text

  -- an accepted job stands in the cells
  pub job_accepted : (tool : Tool) (p : SProg) (j : SJob) → read_job tool p zs text ≡ ok j → JobStored first text zs cut_job j
  unfolding read_job
  job_accepted tool p j e = let a = text_accepted of_job 8192 job_text (job_verdict tool (params p.main.params)) zs text j e in job_stored a.short j a.rest a.read
