-- Readers of token lists: each takes tokens from the front, or refuses at the first that does not fit.
use Rattle.std.specs.Prelude.{ℕ, zero, suc, Bool, true, false, cond, List, [], ◌∷◌, eqb, length}
use Prim.Native.String.{String}
use Rattle.std.proofs.Math.Option.{none, some}
use Rattle.language.specs.Bytes.{txt, Refusal, Verdict}
use Rattle.language.specs.Words.{Fit, fits, broken, long, many}
use Rattle.language.specs.Tokens.{Kind, same_kind, Token, key_of}

pub data Res (A : Type 0) : Type 0 where
  ok : A → Res A
  refused : Refusal → Res A

abbrev pub refuse : {A : Type 0} → ℕ → ℕ → Res A
refuse n o = refused (record { number = n; at = o })

abbrev pub and_then : {A B : Type 0} → Res A → (A → Res B) → Res B
and_then (ok a) f = f a
and_then (refused r) f = refused r

-- a value that a check lets pass
abbrev pub unless_fault : {A : Type 0} → Verdict → A → Res A
unless_fault none a = ok a
unless_fault (some r) a = refused r

-- what is read, and the tokens behind it
abbrev pub Reader : Type 0 → Type 0
Reader A = List Token → Res (A × List Token)

infixl 10 ◌>>=◌
infixl 10 ◌>>◌
abbrev pub ◌>>=◌ : {A B : Type 0} → Reader A → (A → Reader B) → Reader B
◌>>=◌ m f = λ ts. and_then (m ts) (λ r. f r.0 r.1)

abbrev pub ◌>>◌ : {A B : Type 0} → Reader A → Reader B → Reader B
◌>>◌ m n = λ ts. and_then (m ts) (λ r. n r.1)

abbrev pub give : {A : Type 0} → A → Reader A
give a = λ ts. ok (a, ts)

-- "3, 4, 5 at the earliest token"; "Same offset: lowest number"
abbrev pub judged : Fit → Bool → Token → List Token → Res (Token × List Token)
judged broken over t ts = refuse 3 t.at
judged long over t ts = refuse 4 t.at
judged many over t ts = refuse 5 t.at
judged fits true t ts = refuse 5 t.at
judged fits false t ts = ok (t, ts)

-- takes the next token if it fits (one is always there: the end's)
abbrev pub take : (Token → Fit) → Reader Token
take f [] = refuse 3 0
take f (t ∷ ts) = judged (f t) t.over t ts

-- it is the fixed word w
abbrev pub is : String → Token → Bool
is w t = eqb t.key (key_of (txt w))

-- it is of kind k
abbrev pub is_a : Kind → Token → Bool
is_a k t = same_kind t.kind k

abbrev pub fit_if : Bool → Fit
fit_if true = fits
fit_if false = broken

-- this word, else 3 here
abbrev pub the : String → Reader Token
the w = take (λ t. fit_if (is w t))

-- what would fit is one too many where there is no room left
abbrev pub roomed : ℕ → Fit → Fit
roomed zero fits = many
roomed zero broken = broken
roomed zero long = long
roomed zero many = many
roomed (suc k) f = f

-- this word if there is room for one more, else 5 here
abbrev pub the_in : ℕ → String → Reader Token
the_in room w = take (λ t. roomed room (fit_if (is w t)))

-- a word of kind k, else 3 here, or 4, or 5 if there is no room for one more
abbrev pub one_fit : ℕ → Kind → Token → Fit
one_fit room k t = roomed room (cond (is_a k t) t.fit broken)

abbrev pub one_of : ℕ → Kind → Reader Token
one_of room k = take (one_fit room k)

-- 3 at the next token
abbrev pub wrong : {A : Type 0} → Reader A
wrong [] = refuse 3 0
wrong (t ∷ ts) = refuse 3 t.at

abbrev pub next : (Token → Bool) → List Token → Bool
next f [] = false
next f (t ∷ ts) = f t

abbrev pub pick : {A : Type 0} → Bool → Reader A → Reader A → Reader A
pick true m n ts = m ts
pick false m n ts = n ts

-- the first reader if the next token passes the test, else the second
abbrev pub choose : {A : Type 0} → (Token → Bool) → Reader A → Reader A → Reader A
choose f m n = λ ts. pick (next f ts) m n ts

-- items up to the closing bracket w; each takes a token at least, so there are no more of them than tokens
abbrev pub many_in : {A : Type 0} → ℕ → String → Reader A → Reader (List A)
many_in zero w item = wrong
many_in (suc n) w item = choose (is w) (give []) (item >>= λ x. many_in n w item >>= λ xs. give (x ∷ xs))

abbrev pub up_to : {A : Type 0} → String → Reader A → Reader (List A)
up_to w item = λ ts. many_in (length ts) w item ts
