-- A program's text, cut and read over its cells: what the readers and the check over the cells answer is what reading the text comes to.
use Prim.Native.Nat.{ℕ, ◌+◌, ◌*◌, ◌/◌, ◌%◌, ◌≤◌, ◌<◌}
use mathlib.Core.Path.{◌≡◌, refl, ap, subst, ◌∙◌, fun_ext, sym}
use mathlib.Core.Bool.{false}
use mathlib.Core.List.{List, []}
use native.Mathlib.Omega.{arith}
use lib.ListN.{length, get_or}
use borrow.Author.Tests.{lt-ltb}
use Rattle.language.specs.Words.{Word}
use Rattle.language.specs.Tokens.{Kind, symbol, ename, aname, evariable, avariable, plain, tag, of_program, symbols_of, Token, tokens}
use Rattle.language.specs.Reader.{ok, refuse}
use Rattle.language.specs.Source.{SProg}
use Rattle.language.specs.Grammar.{program}
use Rattle.language.specs.ProgramCheck.{program_verdict}
use Rattle.language.specs.Reading.{read_program}
use Rattle.std.specs.Prelude.{Ok, Err}
use Rattle.refusals.specs.declared.refusal.Refusal.{Refusal}
use Rattle.grammar.specs.Twins.Positions.{on_past}
use Rattle.grammar.specs.Twins.Stored as stored
use Rattle.checker.specs.Twins.CheckStored as check
use Rattle.words.specs.Twins.Cutting.{bytes_at, word_at}
use Rattle.lexer.specs.Twins.Table.{word_on, word_in}
use Rattle.lexer.specs.Twins.Lexed.{State, starting, cut_from}
use Rattle.syntax.specs.Twins.ReadAnswer.{verdict_got, program_answer, res_got}
use Rattle.syntax.proofs.Tracks.{got_of, token_at}
use Rattle.syntax.proofs.CheckLaws.{coded}
use Rattle.syntax.proofs.JobLaws.{Fixed}
use Rattle.syntax.proofs.EndsLaws.{Unbracketed}
use Rattle.syntax.proofs.TokenLaws.{all_fixed, all_unbracketed}
use Rattle.syntax.proofs.StoredCheck as storedCheck
use Rattle.lexer.proofs.TableMeaning.{Holds, holds_none}
use Rattle.syntax.proofs.LexedMeaning.{Leaves}
use Rattle.syntax.proofs.TokenCells.{InCell}
use Rattle.syntax.proofs.SymbolBounds.{symbol_few}
use Rattle.lexer.proofs.CutLengths.{cut_lengths}
use Rattle.syntax.proofs.TextStored.{lexed, token_most, mark_held, program_read, program_ends, size, symbols_whole, held_same}
use Rattle.syntax.proofs.ReadAnswers.{text_refused, text_judged, text_answer, text_accepted}

-- an offset in the program's text, which the table tells from those in the job's
abbrev pub Low : ℕ → Type 0
Low o = o < 32769

low_word : (first second : List ℕ) (o : ℕ) → Low o → word_in first second o ≡ word_at first o
low_word first second o l = ap (λ b. word_on b first second o) (lt-ltb o 32769 l)

-- a table of words of the first text is one whatever the second text is
holds_any : (first second third table : List ℕ) (ws : List Word) → ((k : ℕ) → k < length ws → Low (get_or table (2 * k + 1) 0)) → Holds first second table ws → Holds first third table ws
holds_any first second third table ws low h = record {
  hash = h.hash;
  word = λ k l. low_word first third (get_or table (2 * k + 1) 0) (low k l) ∙ sym (low_word first second (get_or table (2 * k + 1) 0) (low k l)) ∙ h.word k l;
}

in_cell : (k : Kind) → InCell of_program k
in_cell symbol = tt
in_cell ename = tt
in_cell aname = tt
in_cell evariable = tt
in_cell avariable = tt
in_cell plain = tt

-- what is stored of the text of the program p
pub record ProgramStored (text : List ℕ) (s : State) (p : SProg) : Type 0 where
  pub holds : storedCheck.Holds s.marks s.nums s.ats s.i p
  pub symbols : (second : List ℕ) → Holds text second s.symbols (symbols_of [] text)
  pub found : s.found ≡ length (symbols_of [] text)
  pub few : length (symbols_of [] text) ≤ 1024
  pub room : 2048 ≤ length s.symbols
  pub fixed : Fixed (λ i. stored.token_at s.marks s.nums s.ats s.i i)
  pub unbracketed : Unbracketed (λ i. stored.token_at s.marks s.nums s.ats s.i i)
  pub most : s.i ≤ 4097
  pub long : 4097 ≤ length s.marks
  pub marked : (i : ℕ) → i < s.i → let t = stored.token_at s.marks s.nums s.ats s.i i in (get_or s.marks i 0 % 32 ≡ t.key) × (get_or s.marks i 0 / 32 % 8 ≡ tag t.kind)
  pub coded : (i : ℕ) → let t = stored.token_at s.marks s.nums s.ats s.i i in tag t.kind ≡ 0 → t.num ≤ 1024

module _ (text marks nums ats symbols names : List ℕ) (marks_room : 4097 ≤ length marks) (nums_room : 4097 ≤ length nums) (ats_room : 4097 ≤ length ats)
    (symbols_room : 2048 ≤ length symbols) (names_room : 8194 ≤ length names) where
  abbrev pub start : State
  start = starting marks nums ats symbols names 0

  abbrev pub cut_program : State
  cut_program = cut_from false text text 4097 start

  abbrev ts : List Token
  ts = tokens of_program [] text

  module _ (short : length text ≤ 32768) where
    left : Leaves text text Low cut_program start ts (symbols_of [] text)
    left = lexed false text text short (λ o l. low_word text text o (omega arith)) Low (λ o l. omega arith) marks nums ats symbols names [] 0
        refl (omega arith) (holds_none text text symbols) (λ k l. let z : ⊥ = omega arith in absurd z) marks_room nums_room ats_room symbols_room names_room

    -- the reader over the cells answers as the grammar does
    pub stored_read : stored.program_at cut_program.marks cut_program.ats 0 ≡ got_of ts (program ts)
    stored_read = program_read text text Low of_program [] cut_program start refl left

    module _ (p : SProg) (rest : List Token) (e : program ts ≡ ok (p, rest)) where
      end : (token_at ts left.last).key ≡ 0
      end = program_ends text text Low of_program [] cut_program start refl left p rest e

      same : (i : ℕ) → stored.token_at cut_program.marks cut_program.nums cut_program.ats cut_program.i i ≡ token_at ts i
      same i = held_same text text Low of_program [] cut_program start refl left end i (in_cell (token_at ts i).kind)

      whole : left.words ≡ symbols_of [] text
      whole = symbols_whole text text Low of_program [] cut_program start refl left end

      few_symbols : length (symbols_of [] text) ≤ 1024
      few_symbols = subst (λ (ws : List Word). length ws ≤ 1024) whole left.few

      small : (i : ℕ) → tag (stored.token_at cut_program.marks cut_program.nums cut_program.ats cut_program.i i).kind ≡ 0 → (stored.token_at cut_program.marks cut_program.nums cut_program.ats cut_program.i i).num ≤ 1024
      small i e =
          let k : tag (token_at ts i).kind ≡ 0 = ap (λ t. tag t.kind) (sym (same i)) ∙ e in
          omega (arith, symbol_few of_program [] text i k, ap (λ t. t.num) (same i), few_symbols)

      -- a program that is read stands whole in the cells
      pub program_stored : ProgramStored text cut_program p
      program_stored = record {
        holds = record { ts = ts; rest = rest; size = size text text Low of_program [] cut_program start refl left end; same = same; read = e };
        symbols = λ second. subst (Holds text second cut_program.symbols) whole (holds_any text text second cut_program.symbols left.words left.placed left.symbols);
        found = left.found ∙ ap length whole;
        few = few_symbols;
        room = left.room;
        fixed = subst Fixed (sym (fun_ext same)) (all_fixed of_program [] text);
        unbracketed = subst Unbracketed (sym (fun_ext same)) (all_unbracketed of_program [] text);
        most = token_most text text Low of_program [] cut_program start refl left;
        long = omega (arith, (cut_lengths false text text 4097 start).marks);
        marked = λ i l. let m = mark_held text text Low of_program [] cut_program start refl left i l in (m.0 ∙ sym (ap (λ t. t.key) (same i)), m.1 ∙ sym (ap (λ t. tag t.kind) (same i)));
        coded = small;
      }

      pub program_checked : check.program_at cut_program.marks cut_program.nums cut_program.ats cut_program.i ≡ coded (program_verdict p)
      program_checked = storedCheck.stored_checked cut_program.marks cut_program.nums cut_program.ats cut_program.i p program_stored.holds

  -- the whole: bytes, reader and check
  pub program_answer_lem : program_answer text cut_program.marks cut_program.nums cut_program.ats cut_program.i ≡ res_got (read_program text) cut_program.i
  unfolding program_answer read_program
  program_answer_lem = text_answer of_program 32768 program program_verdict [] text _ _ stored_read program_checked cut_program.i

  -- its steps: the bytes, and what is behind them
  pub program_bytes_lem : (r : Refusal) → bytes_at 32768 text ≡ Err r → read_program text ≡ refuse r.number r.offset
  unfolding read_program
  program_bytes_lem = text_refused of_program 32768 program program_verdict [] text

  pub program_judged_lem : (i : ℕ) → bytes_at 32768 text ≡ Ok i →
      (k : ℕ) × (on_past (verdict_got (check.program_at cut_program.marks cut_program.nums cut_program.ats cut_program.i)) (stored.program_at cut_program.marks cut_program.ats 0) ≡ res_got (read_program text) k)
  unfolding read_program
  program_judged_lem = text_judged of_program 32768 program program_verdict [] text _ _ stored_read program_checked

  -- an accepted program stands in the cells
  pub program_accepted : (p : SProg) → read_program text ≡ ok p → ProgramStored text cut_program p
  unfolding read_program
  program_accepted p e = let a = text_accepted of_program 32768 program program_verdict [] text p e in program_stored a.short p a.rest a.read
