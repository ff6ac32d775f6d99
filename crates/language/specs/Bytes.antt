-- Bytes: their kinds by ranges, what a refusal is, refusals 1 and 2 (01, "Texts", "From the input").
use Rattle.std.specs.Prelude.{ℕ, suc, Bool, true, false, cond, ◌&&◌, ◌||◌, List, [], ◌∷◌, eqb, leb, length}
use Prim.Native.Char.{code}
use Prim.Native.String.{String}
use Rattle.std.proofs.Math.Option.{Option, none, some}

-- a text's bytes
abbrev pub txt : String → List ℕ
txt String.[] = []
txt (String.◌∷◌ c s) = code c ∷ txt s

pub data Byte : Type 0 where
  blank bracket digit letter mark outside : Byte

abbrev pub within : ℕ → ℕ → ℕ → Bool
within low high b = leb low b && leb b high

-- "Bytes are ASCII 32 to 126, tab (9) and line feed (10)"; "brackets `(` `)` `[` `]`"; "blanks, tabs and line feeds part them"
abbrev pub byte_kind : ℕ → Byte
byte_kind b =
    cond (eqb b 32 || within 9 10 b) blank
    (cond (within 40 41 b || eqb b 91 || eqb b 93) bracket
    (cond (within 48 57 b) digit
    (cond (within 65 90 b || within 97 122 b) letter
    (cond (within 32 126 b) mark outside))))

abbrev pub is_outside : Byte → Bool
is_outside blank = false
is_outside bracket = false
is_outside digit = false
is_outside letter = false
is_outside mark = false
is_outside outside = true

abbrev pub is_blank : Byte → Bool
is_blank blank = true
is_blank bracket = false
is_blank digit = false
is_blank letter = false
is_blank mark = false
is_blank outside = false

abbrev pub is_digit : Byte → Bool
is_digit blank = false
is_digit bracket = false
is_digit digit = true
is_digit letter = false
is_digit mark = false
is_digit outside = false

-- "1 to 16 letters or digits"
abbrev pub in_name : Byte → Bool
in_name blank = false
in_name bracket = false
in_name digit = true
in_name letter = true
in_name mark = false
in_name outside = false

-- a byte of a token that is no bracket
abbrev pub in_word : Byte → Bool
in_word blank = false
in_word bracket = false
in_word digit = true
in_word letter = true
in_word mark = true
in_word outside = true

-- "number and byte offset"
pub record Refusal : Type 0 where
  pub number : ℕ
  pub at : ℕ

-- what a check finds: the first fault, or none
abbrev pub Verdict : Type 0
Verdict = Option Refusal

abbrev pub fault : ℕ → ℕ → Verdict
fault n o = some (record { number = n; at = o })

-- refusal n at offset o unless the test passes
abbrev pub unless : Bool → ℕ → ℕ → Verdict
unless true n o = none
unless false n o = fault n o

infixr 20 ◌or_else◌
-- of two checks the first that finds a fault
abbrev pub ◌or_else◌ : Verdict → Verdict → Verdict
none or_else v = v
(some r) or_else v = some r

-- "2 a byte outside the set": the first such, counted from `at`
abbrev pub outside_from : ℕ → List ℕ → Verdict
outside_from at [] = none
outside_from at (b ∷ bs) = cond (is_outside (byte_kind b)) (fault 2 at) (outside_from (suc at) bs)

-- "Each: 1; 2": "1 program over 32,768 or job over 8,192 bytes (offset: the limit)"
abbrev pub bytes_verdict : ℕ → List ℕ → Verdict
bytes_verdict limit bs = unless (leb (length bs) limit) 1 limit or_else outside_from 0 bs
