-- What the entries print after both texts were read is the text of `list` or `run`.
use Prim.Native.Nat.{ℕ, zero, suc, ◌+◌, ◌*◌, ◌≤◌, ◌<◌}
use mathlib.Core.Path.{◌≡◌, refl, ap, ◌∙◌, sym as inv}
use mathlib.Core.Bool.{Bool, true, false}
use mathlib.Core.List.{List, [], ◌∷◌, ◌++◌}
use native.Mathlib.Omega.{arith}
use native.Mathlib.Decide.{dec_lt}
use lib.ListN.{length, get_or, take}
use Rattle.expressions.proofs.Numbers.{ClassNumbers}
use Rattle.language.specs.Bytes.{Refusal}
use Rattle.language.specs.Words.{Word}
use Rattle.language.specs.Tokens.{Text, symbols_of}
use Rattle.language.specs.Source.{SProg, SJob, prog, class}
use Rattle.language.specs.JobCheck.{lister, runner}
use Rattle.language.specs.Reading.{accepted, rejected, reading, symbol_names}
use Rattle.language.proofs.TokenNumbers.{SymbolNumber, NameNumber, VariableNumber}
use Rattle.language.proofs.Numbers.{accepted_numbers}
use Rattle.semantics.specs.Lists.{All}
use Rattle.semantics.specs.Tree.{Line}
use Rattle.semantics.specs.Walk.{word_of, lines_of, count_of}
use Rattle.semantics.specs.Answer.{answer_of, limits, walked, ran, Listed, list, run}
use Rattle.semantics.proofs.SymbolNumbers.{AnyNumber}
use Rattle.semantics.proofs.AcceptedTexts.{run_answer, list_answer, listed_instances, listed_symbols}
use Rattle.listing.specs.Print.{print_listing}
use Rattle.listing.specs.Sample.{print_sampled_listing}
use Rattle.listing.specs.Text.{letter_of, print_refusal, print_answer, print_ran, list_text, sampled_text, run_text}
use Rattle.listing.proofs.LineSizes.{Small, lines_small}
use Rattle.lexer.specs.Twins.Lexed.{State}
use Rattle.syntax.proofs.JobRead.{JobStored}
use Rattle.answers.specs.declared.list.Word.{Word as FirstWord}
use Rattle.lines.specs.LineCells.{lines_cells}
use Rattle.window.specs.Twins.TreeText.{symbol_name, symbol_text}
use Rattle.window.proofs.SymbolLaws.{no_new_name}
use Rattle.print.specs.Twins.ListingText.{walk_word, listing_text}
use Rattle.print.specs.Twins.ListedText.{names_by, text_with}
use Rattle.writer.specs.Twins.OutcomeText.{outcome_text}
use Rattle.print.proofs.BindingLaws.{pair_cells}
use Rattle.print.proofs.LineLaws.{listing_printed}
use Rattle.print.proofs.SampleLaws.{sampled_printed}
use Rattle.print.proofs.OutcomeLaws.{answer_of as cells_of, outcome_of, outcome_printed}
use Rattle.print.proofs.NameLaws.{job_length, names_printed, sample_table, sample_table_size, old_printed, new_printed}

-- the first n names of a table, as a list
first_names : ℕ → (ℕ → Word) → List Word
first_names zero f = []
first_names (suc n) f = f 0 ∷ first_names n (λ z. f (suc z))

first_name : (n : ℕ) (f : ℕ → Word) (z : ℕ) → z < n → get_or (first_names n f) z [] ≡ f z
unfolding first_names
first_name zero f z h = absurd (omega arith)
first_name (suc n) f zero h = refl
first_name (suc n) f (suc z) h = first_name n (λ i. f (suc i)) z (omega arith)

first_none : (n : ℕ) (f : ℕ → Word) (z : ℕ) → n ≤ z → get_or (first_names n f) z [] ≡ []
unfolding first_names
first_none zero f z h = refl
first_none (suc n) f zero h = absurd (omega arith)
first_none (suc n) f (suc z) h = first_none n (λ i. f (suc i)) z (omega arith)

-- u is the storage that the job's reader leaves
module _ (p j : List ℕ) (s : SProg) (t : SJob) (u : State) (held : JobStored p j (symbols_of [] p) u t) (room : 2048 ≤ length u.symbols) where
  abbrev name : ℕ → List ℕ
  name = symbol_text p j (take (2 * u.found) u.symbols)

  module _ (e : reading lister p j ≡ accepted s t) where
    abbrev ls : List Line
    ls = lines_of (walked s t)

    -- every line is small, its symbols are those of the texts
    lines_plain : All (λ L. Small L × ClassNumbers SymbolNumber AnyNumber L.class) ls
    lines_plain =
        let numbers = accepted_numbers lister p j s t e in
        go ls (lines_small (prog s) (class t) t.steps.num (limits t)) (listed_symbols p j s t e SymbolNumber NameNumber VariableNumber numbers.program numbers.job)
      where
        go : (Ls : List Line) → All Small Ls → All (λ L. ClassNumbers SymbolNumber AnyNumber L.class) Ls → All (λ L. Small L × ClassNumbers SymbolNumber AnyNumber L.class) Ls
        go [] h k = tt
        go (L ∷ Ls) h k = ((h.0, k.0), go Ls h.1 k.1)

    abbrev table : List ℕ
    table = sample_table p j u t held room (job_length lister p j s t e)

    abbrev names : List Word
    names = first_names 5120 (symbol_name p j table)

    table_named : (z : ℕ) → symbol_text p j table z ≡ 39 ∷ get_or names z []
    table_named z = ap (λ (w : Word). 39 ∷ w) (go (dec_lt z 5120))
      where
        go : Dec (z < 5120) → symbol_name p j table z ≡ get_or names z []
        go (yes h) = inv (first_name 5120 (symbol_name p j table) z h)
        go (no h) =
            inv (no_new_name p j table z (omega arith) (omega (arith, sample_table_size p j u t held room (job_length lister p j s t e)))) ∙ inv (first_none 5120 (symbol_name p j table) z (omega arith))

    -- with samples or without
    pub listing_text_lem : (samples : Bool) (word : FirstWord) → walk_word word ≡ word_of (walked s t) → (rest : List ℕ) →
        listing_text (symbol_text p j (names_by samples p j (take (2 * u.found) u.symbols))) (pair_cells (class t).con) samples word (length ls) (count_of (walked s t)) (lines_cells ls ++ rest) ≡ text_with samples p j
    unfolding list_text sampled_text names_by
    listing_text_lem false word w rest =
        listing_printed (symbol_names p j) name (names_printed p j u t held room) (class t) (walked s t) word rest w (listed_instances p j s t)
        ∙ inv (ap (print_answer (λ (a : Listed). print_listing (symbol_names p j) a.job.con a.walked)) (list_answer p j s t e))
    listing_text_lem true word w rest =
        let short = job_length lister p j s t e in
        sampled_printed names (symbol_text p j table) table_named (symbol_names p j)
        (λ z h. first_name 5120 (symbol_name p j table) z (omega arith) ∙ old_printed p j u t held room short z h)
        (λ m k h l. first_name 5120 (symbol_name p j table) (1024 + k) (omega arith) ∙ new_printed p j u t held room short m k h l)
        (class t) (walked s t) word rest w (listed_instances p j s t) lines_plain
        ∙ inv (ap (print_answer (λ (a : Listed). print_sampled_listing (symbol_names p j) a.job.con a.walked)) (list_answer p j s t e))

  pub outcome_text_lem : reading runner p j ≡ accepted s t → (rest : List ℕ) → outcome_text name (cells_of (ran s t) ++ rest) (outcome_of (ran s t)) ≡ run_text p j
  unfolding run_text
  outcome_text_lem e rest =
      outcome_printed (symbol_names p j) name (names_printed p j u t held room) (ran s t) rest
      ∙ inv (ap (print_answer (print_ran (symbol_names p j))) (run_answer p j s t e))

-- a text that is refused, of either tool
module _ (p j : List ℕ) (x : Text) (r : Refusal) where
  pub list_refusal_text : (samples : Bool) → reading lister p j ≡ rejected x r → print_refusal (letter_of x) r.number r.at ≡ text_with samples p j
  unfolding list_text sampled_text list
  list_refusal_text false e = inv (ap (λ r. print_answer (λ (a : Listed). print_listing (symbol_names p j) a.job.con a.walked) (answer_of (λ s t. record { job = class t; walked = walked s t }) r)) e)
  list_refusal_text true e = inv (ap (λ r. print_answer (λ (a : Listed). print_sampled_listing (symbol_names p j) a.job.con a.walked) (answer_of (λ s t. record { job = class t; walked = walked s t }) r)) e)

  pub run_refusal_text : reading runner p j ≡ rejected x r → print_refusal (letter_of x) r.number r.at ≡ run_text p j
  unfolding run_text run
  run_refusal_text e = inv (ap (λ r. print_answer (print_ran (symbol_names p j)) (answer_of ran r)) e)
