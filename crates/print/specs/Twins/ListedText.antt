-- The text of a listing, from the two texts, the answer and the answer storage of `resolve::list`.
use Rattle.std.specs.Prelude.{ℕ, ◌*◌, Bool, true, false, cond, Option, Some, None, Result, Ok, Err, List, take, replicate}
use Rattle.listing.specs.Text.{print_refusal, list_text, sampled_text}
use Rattle.reading.specs.Twins.BothCells.{BothAnswer, both_over}
use Rattle.reading.specs.declared.both.Both.{Both}
use Rattle.refusals.specs.declared.refusal.Refused.{Refused}
use Rattle.layout.specs.Twins.Laying.{job_laid}
use Rattle.layout.specs.declared.job.Parts.{Parts}
use Rattle.answers.specs.Headings.{Heading, heading_of}
use Rattle.answers.specs.ListNumbers.{Answer}
use Rattle.answers.specs.declared.list.Word.{Word}
use Rattle.print.specs.declared.list.Terms.{Terms}
use Rattle.samples.specs.Twins.Naming.{name_table}
use Rattle.window.specs.Windows.{Printed}
use Rattle.window.specs.Twins.TreeText.{symbol_text}
use Rattle.print.specs.Twins.ListingText.{listing_text}

pub record TermsLeft : Type 0 where
  pub sizes : Terms
  pub terms : List ℕ

abbrev pub terms_left : Terms → List ℕ → TermsLeft
terms_left z h = record { sizes = z; terms = h }

abbrev pub terms_of : Bool → ℕ → ℕ → List ℕ → TermsLeft
terms_of samples symbols cells h = terms_left (record { symbols = symbols; cells = cells; samples = samples }) h

abbrev pub laid_terms : Bool → ℕ → List ℕ → Option Parts → TermsLeft
laid_terms samples symbols h (Some z) = terms_of samples symbols z.io h
laid_terms samples symbols h None = terms_of samples symbols 0 h

-- the job's inputs and output in cells, and how many symbols the texts have
abbrev pub job_terms : Bool → Result Both Refused → List ℕ → List ℕ → List ℕ → TermsLeft
job_terms samples (Ok both) jmarks jnums h = let w = job_laid jmarks jnums both.parts false h in laid_terms samples both.symbols w.heap w.answer
job_terms samples (Err r) jmarks jnums h = terms_of samples 0 0 h

-- a listing, by the table of the names and the cells of the job's inputs and output
abbrev pub table_listing : List ℕ → List ℕ → List ℕ → TermsLeft → List ℕ → Word → ℕ → ℕ → List ℕ
table_listing program job names t cells word lines count = listing_text (symbol_text program job names) (take t.sizes.cells t.terms) t.sizes.samples word lines count cells

-- the table of the names: of the symbols, and with samples of the new atoms
unfoldable pub names_by : Bool → List ℕ → List ℕ → List ℕ → List ℕ
names_by samples program job symbols = cond samples (name_table program job symbols (replicate 6144 0)) symbols

-- by the table of the symbols
abbrev pub terms_listing : List ℕ → List ℕ → List ℕ → TermsLeft → List ℕ → Word → ℕ → ℕ → List ℕ
terms_listing program job symbols t = table_listing program job (names_by t.sizes.samples program job (take (2 * t.sizes.symbols) symbols)) t

-- by what was read of the texts
abbrev pub read_listing : Bool → List ℕ → List ℕ → BothAnswer → List ℕ → Word → ℕ → ℕ → List ℕ
read_listing samples program job w = let j = w.job in terms_listing program job j.symbols (job_terms samples j.placed.texts j.jmarks j.jnums (replicate 4097 0))

unfoldable pub named_listing : Bool → List ℕ → List ℕ → List ℕ → Word → ℕ → ℕ → List ℕ
named_listing samples program job = read_listing samples program job (both_over false program job (replicate 8194 0))

-- the text that begins so
abbrev pub headed_text : (Word → ℕ → ℕ → List ℕ) → Heading → List ℕ
headed_text listing (Ok first) = listing first.word first.lines first.count
headed_text listing (Err line) = print_refusal line.letter line.number line.offset

-- what is printed of a listing and left in a window of n bytes
pub record SaidOut (n : ℕ) (program job symbols : List ℕ) (t : TermsLeft) (cells : List ℕ) (answer : Answer) (bytes : ℕ) (page : List ℕ) : Type 0 where
  pub printed : Printed n 0 (headed_text (terms_listing program job symbols t cells) (heading_of answer)) bytes page

-- with samples, or without
abbrev pub listed_with : Bool → List ℕ → List ℕ → List ℕ → Answer → List ℕ
listed_with samples program job cells answer = headed_text (named_listing samples program job cells) (heading_of answer)

abbrev pub listed_text : List ℕ → List ℕ → List ℕ → Answer → List ℕ
listed_text program job cells answer = headed_text (named_listing false program job cells) (heading_of answer)

abbrev pub sampled_listed : List ℕ → List ℕ → List ℕ → Answer → List ℕ
sampled_listed program job cells answer = headed_text (named_listing true program job cells) (heading_of answer)

-- the text of the listing of two texts, with samples, or without
abbrev pub text_with : Bool → List ℕ → List ℕ → List ℕ
text_with samples program job = cond samples (sampled_text program job) (list_text program job)
