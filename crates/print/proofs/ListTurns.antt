-- What is printed of texts that were read, by what was read.
use Prim.Native.Nat.{ℕ, ◌-◌, min}
use mathlib.Core.Path.{◌≡◌, refl, ap, ap₂, ◌∙◌}
use mathlib.Core.Bool.{Bool, true, false}
use mathlib.Core.List.{List}
use lib.ListN.{length, replicate}
use Rattle.reading.specs.Twins.BothCells.{BothAnswer, both_over}
use Rattle.reading.specs.declared.both.Both.{Both}
use Rattle.refusals.specs.RefusalNumbers.{number_of, letter_of, offset_of}
use Rattle.refusals.specs.declared.refusal.Refused.{Refused}
use Rattle.listing.specs.Text.{print_refusal}
use Rattle.print.specs.Twins.RanText.{refusal_text}
use Rattle.std.specs.Prelude.{Result}
use Rattle.answers.specs.declared.list.Word.{Word}
use Rattle.answers.specs.Headings.{heading_of}
use Rattle.answers.specs.ListNumbers.{Answer}
use Rattle.samples.specs.Twins.Naming.{name_table}
use Rattle.window.specs.Windows.{windowed, Printed}
use Rattle.print.specs.Twins.ListedText.{TermsLeft, job_terms, names_by, terms_listing, read_listing, named_listing, headed_text, SaidOut}

-- what is written of one text is what is written of an equal one
pub same_text : (n from : ℕ) {text text2 : List ℕ} {r : ℕ} {out : List ℕ} → text ≡ text2 → (r ≡ min n (length text - from)) × (out ≡ windowed n from text) → (r ≡ min n (length text2 - from)) × (out ≡ windowed n from text2)
same_text n from e h = (h.0 ∙ ap (λ (t : List ℕ). min n (length t - from)) e, h.1 ∙ ap (windowed n from) e)

-- what is written of a refusal, by its parts
pub refused_text : (r : Refused) {letter number offset : ℕ} → letter ≡ letter_of r → number ≡ number_of r → offset ≡ offset_of r → print_refusal letter number offset ≡ refusal_text r
refused_text r {letter} {number} {offset} l n o =
    ap (λ (x : ℕ). print_refusal x number offset) l ∙ ap (λ (x : ℕ). print_refusal (letter_of r) x offset) n ∙ ap (λ (x : ℕ). print_refusal (letter_of r) (number_of r) x) o

-- the job's terms, by the tokens that were read
abbrev read_terms : Bool → BothAnswer → TermsLeft
read_terms samples w = let j = w.job in job_terms samples j.placed.texts j.jmarks j.jnums (replicate 4097 0)

terms_are : (samples : Bool) (w : BothAnswer) {both : Result Both Refused} {jmarks jnums : List ℕ} {t : TermsLeft} → both ≡ w.job.placed.texts → jmarks ≡ w.job.jmarks → jnums ≡ w.job.jnums → t ≡ job_terms samples both jmarks jnums (replicate 4097 0) → t ≡ read_terms samples w
terms_are samples w b m n t = t ∙ rw (b, m, n) refl

pub said_read : (samples : Bool) (w : BothAnswer) {size : ℕ} {program job : List ℕ} {both : Result Both Refused} {jmarks jnums symbols cells : List ℕ} {t : TermsLeft} {answer : Answer} {bytes : ℕ} {page : List ℕ} →
    both ≡ w.job.placed.texts → jmarks ≡ w.job.jmarks → jnums ≡ w.job.jnums → symbols ≡ w.job.symbols → t ≡ job_terms samples both jmarks jnums (replicate 4097 0) →
    SaidOut size program job symbols t cells answer bytes page → Printed size 0 (headed_text (read_listing samples program job w cells) (heading_of answer)) bytes page
said_read samples w {size} {program} {job} {cells = cells} {answer = answer} b m n s t o =
    same_text size 0 (ap₂ (λ (x : List ℕ) (u : TermsLeft). headed_text (terms_listing program job x u cells) (heading_of answer)) s (terms_are samples w b m n t)) o.printed

pub named_read : (samples : Bool) (program job cells : List ℕ) (word : Word) (lines count : ℕ) {both : Result Both Refused} {jmarks jnums symbols : List ℕ} {t : TermsLeft} → let j = (both_over false program job (replicate 8194 0)).job in
    both ≡ j.placed.texts → jmarks ≡ j.jmarks → jnums ≡ j.jnums → symbols ≡ j.symbols → t ≡ job_terms samples both jmarks jnums (replicate 4097 0) →
    terms_listing program job symbols t cells word lines count ≡ named_listing samples program job cells word lines count
unfolding named_listing
named_read samples program job cells word lines count b m n s t =
    ap₂ (λ (x : List ℕ) (u : TermsLeft). terms_listing program job x u cells word lines count) s (terms_are samples (both_over false program job (replicate 8194 0)) b m n t)

-- the table of the names that is handed on
module _ (program job cut table : List ℕ) (samples : Bool) (e : table ≡ cut) where
  pub names_made : (names : List ℕ) → samples ≡ true → names ≡ name_table program job table (replicate 6144 0) → names ≡ names_by samples program job cut
  unfolding names_by
  names_made names s f = f ∙ ap (λ (x : List ℕ). name_table program job x (replicate 6144 0)) e ∙ rw s refl

  pub names_kept : samples ≡ false → table ≡ names_by samples program job cut
  unfolding names_by
  names_kept s = e ∙ rw s refl
