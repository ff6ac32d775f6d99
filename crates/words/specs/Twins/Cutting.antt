-- A text cut into words by index: where a word begins and ends. proofs/CutByIndex.antt: these are the pieces of `cut`.
use Rattle.std.specs.Prelude.{ℕ, ◌+◌, ◌-◌, Bool, true, false, cond, not, List, [], ◌∷◌, leb, ltb, length, take, drop, get_or, Result, Ok}
use Rattle.language.specs.Bytes.{Byte, blank, bracket, digit, letter, mark, outside, byte_kind, is_blank, is_digit, in_name, in_word, is_outside}
use Rattle.words.specs.declared.bytes.Byte.{Byte as CodeByte}
use Rattle.words.specs.declared.bytes.Byte.TheVariants.{Blank, Bracket, Digit, Letter, Mark, Outside}
use Rattle.refusals.specs.declared.refusal.Refusal.{Refusal}
use Rattle.refusals.specs.Faults.{fault}

-- the kind that the code's answer names
abbrev pub byte_of : CodeByte → Byte
byte_of Blank = blank
byte_of Bracket = bracket
byte_of Digit = digit
byte_of Letter = letter
byte_of Mark = mark
byte_of Outside = outside

-- the first byte that does not pass the test, or the end; counted from `at`
unfoldable pub scan : (ℕ → Bool) → ℕ → List ℕ → ℕ
scan f at [] = at
scan f at (b ∷ bs) = cond (f b) (scan f (at + 1) bs) at

-- the first byte from i on that does not pass the test, or the end
abbrev pub scan_at : (ℕ → Bool) → List ℕ → ℕ → ℕ
scan_at f text i = scan f i (drop i text)

abbrev pub outside_at : List ℕ → ℕ
outside_at text = scan_at (λ b. not (is_outside (byte_kind b))) text 0

-- the text's length, or refusal 1 or 2
abbrev pub sound_at : Bool → ℕ → Result ℕ Refusal
sound_at true first = fault 2 first
sound_at false first = Ok first

abbrev pub short_at : Bool → ℕ → List ℕ → Result ℕ Refusal
short_at true limit bs = sound_at (ltb (outside_at bs) (length bs)) (outside_at bs)
short_at false limit bs = fault 1 limit

abbrev pub bytes_at : ℕ → List ℕ → Result ℕ Refusal
bytes_at limit bs = short_at (leb (length bs) limit) limit bs

-- the first byte that is no blank, of no word, of no name, no digit
abbrev pub start_at : List ℕ → ℕ → ℕ
start_at text i = scan_at (λ b. is_blank (byte_kind b)) text i

abbrev pub end_at : List ℕ → ℕ → ℕ
end_at text i = scan_at (λ b. in_word (byte_kind b)) text i

abbrev pub name_end : List ℕ → ℕ → ℕ
name_end text i = scan_at (λ b. in_name (byte_kind b)) text i

abbrev pub digits_end : List ℕ → ℕ → ℕ
digits_end text i = scan_at (λ b. is_digit (byte_kind b)) text i

-- the end of the word or bracket that begins at i
abbrev pub piece_end : List ℕ → ℕ → ℕ
piece_end text i = cond (leb (length text) i) i (cond (in_word (byte_kind (get_or text i 0))) (end_at text i) (i + 1))

abbrev pub part_of : List ℕ → ℕ → ℕ → List ℕ
part_of text a e = take (e - a) (drop a text)

-- the word that begins at i
unfoldable pub word_at : List ℕ → ℕ → List ℕ
word_at text i = part_of text i (piece_end text i)
