-- The words that the table of symbols has are the names of `symbol_names`, and those that the table for samples has the names of `sample_names`.
use Prim.Native.Nat.{ℕ, ◌+◌, ◌*◌, ◌≤◌, ◌<◌}
use mathlib.Core.Path.{◌≡◌, refl, ap, ◌∙◌, sym as inv}
use mathlib.Core.List.{List, [], ◌∷◌}
use native.Mathlib.Omega.{arith}
use native.Mathlib.Decide.{dec_lt}
use lib.ListN.{length, get_or, take, drop, replicate, length-map, length-replicate, get_or-map, get_or-eq_default}
use Rattle.language.specs.Words.{Word}
use Rattle.language.specs.Tokens.{of_job, symbols_of}
use Rattle.language.specs.Reader.{Res, ok, refused}
use Rattle.language.specs.Grammar.{job_text}
use Rattle.language.specs.Source.{SProg, SJob, params}
use Rattle.language.specs.JobCheck.{Tool, job_verdict}
use Rattle.language.specs.Reading.{accepted, with_job, with_program, read_program, read_job, reading, symbol_names}
use Rattle.listing.specs.Sample.{name_q, sample_names}
use Rattle.lexer.specs.Twins.Table.{word_in}
use Rattle.lexer.specs.Twins.Lexed.{State}
use Rattle.lexer.proofs.TableMeaning.{Holds}
use Rattle.syntax.proofs.ReadAnswers.{text_accepted}
use Rattle.syntax.proofs.JobRead.{JobStored}
use Rattle.window.specs.Twins.TreeText.{symbol_name, symbol_text}
use Rattle.window.proofs.SymbolLaws.{text_name, no_name, new_name_lem, no_new_name}
use Rattle.samples.specs.Twins.Naming.{name_table}
use Rattle.samples.proofs.NameLaws.{unquoted, name_table_length, name_symbol, name_none, name_new, held_size, held_words, none_word}

module _ (first second table : List ℕ) (ws : List Word) (holds : Holds first second table ws) (room : 2 * length ws ≤ length table) (few : length ws ≤ 1024) where
  abbrev pub entries : List ℕ
  entries = take (2 * length ws) table

  size : length entries ≡ 2 * length ws
  size = held_size first second table ws holds room

  entry_word : (z : ℕ) → z < length ws → word_in first second (get_or entries (2 * z + 1) 0) ≡ get_or ws z []
  entry_word = held_words first second table ws holds room

  behind_quote : (z : ℕ) → drop 1 (get_or ws z []) ≡ get_or (unquoted ws) z []
  behind_quote z = inv (get_or-map (λ (w : Word). drop 1 w) ws z [])

  none_named : (z : ℕ) → length ws ≤ z → [] ≡ get_or (unquoted ws) z []
  none_named z h = inv (get_or-eq_default (unquoted ws) [] (omega (arith, length-map ws (λ (w : Word). drop 1 w))))

  word_named : (z : ℕ) → symbol_name first second entries z ≡ get_or (unquoted ws) z []
  word_named z = go (dec_lt z (length ws)) (dec_lt z 1024)
    where
      go : Dec (z < length ws) → Dec (z < 1024) → symbol_name first second entries z ≡ get_or (unquoted ws) z []
      go (yes h) k = inv (text_name first second entries z (omega arith) (omega (arith, size))) ∙ ap (λ (w : Word). drop 1 w) (entry_word z h) ∙ behind_quote z
      go (no h) (yes k) = inv (no_name first second entries z k (omega (arith, size))) ∙ none_named z (omega arith)
      go (no h) (no k) = inv (no_new_name first second entries z (omega arith) (omega (arith, size))) ∙ none_named z (omega arith)

  -- with the new atoms behind them
  module _ (short : length second ≤ 8192) where
    abbrev pub all_names : List ℕ
    all_names = name_table first second entries (replicate 6144 0)

    pub all_names_size : length all_names ≡ 6144
    all_names_size = name_table_length first second entries ws size few entry_word (replicate 6144 0) (length-replicate {A = ℕ} 6144 0)

    pub old_named : (z : ℕ) → z < 1024 → symbol_name first second all_names z ≡ get_or (unquoted ws) z []
    old_named z k = inv (text_name first second all_names z k (omega (arith, all_names_size))) ∙ go (dec_lt z (length ws))
      where
        go : Dec (z < length ws) → drop 1 (word_in first second (get_or all_names (2 * z + 1) 0)) ≡ get_or (unquoted ws) z []
        go (yes h) =
            ap (λ (o : ℕ). drop 1 (word_in first second o)) (name_symbol first second entries ws size few entry_word (replicate 6144 0) (length-replicate {A = ℕ} 6144 0) z h)
            ∙ ap (λ (w : Word). drop 1 w) (entry_word z h) ∙ behind_quote z
        go (no h) =
            ap (λ (o : ℕ). drop 1 (word_in first second o)) (name_none first second entries ws size few entry_word (replicate 6144 0) (length-replicate {A = ℕ} 6144 0) z (omega arith) k)
            ∙ ap (λ (w : Word). drop 1 w) (none_word first second short) ∙ none_named z (omega arith)

    pub new_named : (m k : ℕ) → m ≤ 4096 → k < m → symbol_name first second all_names (1024 + k) ≡ get_or (sample_names (unquoted ws) m) (1024 + k) []
    new_named m k h l =
        let n : 1024 + (1024 + k) ≡ 2048 + k = omega arith in
        inv (new_name_lem first second all_names (1024 + k) (omega arith) (omega (arith, all_names_size)))
        ∙ ap (λ (i : ℕ). name_q (get_or all_names i 0)) n
        ∙ inv (name_new first second entries ws size few entry_word (replicate 6144 0) (length-replicate {A = ℕ} 6144 0) m k h l)

-- an accepted job has at most 8,192 bytes
pub job_length : (tool : Tool) (p j : List ℕ) (s : SProg) (t : SJob) → reading tool p j ≡ accepted s t → length j ≤ 8192
unfolding reading read_job
job_length tool p j s t e = both (read_program p) e
  where
    job : (q : SProg) (x : Res SJob) → read_job tool q (symbols_of [] p) j ≡ x → with_job q x ≡ accepted s t → length j ≤ 8192
    job q (ok i) f e = (text_accepted of_job 8192 job_text (job_verdict tool (params q.main.params)) (symbols_of [] p) j i f).short
    job q (refused r) f e = let z : ◌≡◌ {A = ℕ} 0 1 = cc in omega arith

    both : (x : Res SProg) → with_program (λ q. read_job tool q (symbols_of [] p) j) x ≡ accepted s t → length j ≤ 8192
    both (ok q) e = job q (read_job tool q (symbols_of [] p) j) refl e
    both (refused r) e = let z : ◌≡◌ {A = ℕ} 0 1 = cc in omega arith

-- after both texts were accepted the table has their symbols
module _ (p j : List ℕ) (s : State) (t : SJob) (h : JobStored p j (symbols_of [] p) s t) (room : 2048 ≤ length s.symbols) where
  abbrev ws : List Word
  ws = symbols_of (symbols_of [] p) j

  enough : 2 * length ws ≤ length s.symbols
  enough = omega (arith, h.few)

  abbrev pub text_table : List ℕ
  text_table = take (2 * s.found) s.symbols

  table_is : text_table ≡ entries p j s.symbols ws h.symbols enough h.few
  table_is = ap (λ (k : ℕ). take (2 * k) s.symbols) h.found

  pub names_printed : (z : ℕ) → symbol_text p j text_table z ≡ 39 ∷ get_or (symbol_names p j) z []
  names_printed z = ap (λ (x : List ℕ). symbol_text p j x z) table_is ∙ ap (λ (w : Word). 39 ∷ w) (word_named p j s.symbols ws h.symbols enough h.few z)

  -- and the table for samples the names of the new atoms too
  module _ (short : length j ≤ 8192) where
    abbrev pub sample_table : List ℕ
    sample_table = name_table p j text_table (replicate 6144 0)

    sample_table_is : sample_table ≡ all_names p j s.symbols ws h.symbols enough h.few short
    sample_table_is = ap (λ (x : List ℕ). name_table p j x (replicate 6144 0)) table_is

    pub sample_table_size : length sample_table ≡ 6144
    sample_table_size = ap length sample_table_is ∙ all_names_size p j s.symbols ws h.symbols enough h.few short

    pub old_printed : (z : ℕ) → z < 1024 → symbol_name p j sample_table z ≡ get_or (symbol_names p j) z []
    old_printed z k = ap (λ (x : List ℕ). symbol_name p j x z) sample_table_is ∙ old_named p j s.symbols ws h.symbols enough h.few short z k

    pub new_printed : (m k : ℕ) → m ≤ 4096 → k < m → symbol_name p j sample_table (1024 + k) ≡ get_or (sample_names (symbol_names p j) m) (1024 + k) []
    new_printed m k l i = ap (λ (x : List ℕ). symbol_name p j x (1024 + k)) sample_table_is ∙ new_named p j s.symbols ws h.symbols enough h.few short m k l i
