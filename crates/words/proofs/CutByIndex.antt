-- The pieces of a text by index: what `word_start` and `piece_end` find are the pieces of `cut`.
use Prim.Native.Nat.{ℕ, suc, ◌+◌, ◌-◌, ◌≤◌, ◌<◌}
use mathlib.Core.Path.{◌≡◌, refl, ap, ap₂, ◌∙◌, sym}
use mathlib.Core.Bool.{Bool, true, false, cond, ◌&&◌, false≢true}
use mathlib.Core.List.{List, [], ◌∷◌}
use native.Mathlib.Omega.{arith}
use native.Mathlib.Numerals.{add-one}
use lib.Dec.{leb}
use lib.ListN.{length, take, drop, get_or, length-drop, drop_of_length-le}
use lib.Seq.{drop-cons, drop-drop, get_or-drop}
use borrow.Author.Tests.{lt-leb, le-leb, leb-false}
use Rattle.language.specs.Bytes.{Byte, blank, bracket, digit, letter, mark, outside, byte_kind, is_blank, in_word}
use Rattle.language.specs.Tokens.{Piece, piece, goes_on, lengthen, cut}
use Rattle.words.specs.Twins.Cutting.{scan, scan_at, start_at, end_at, piece_end, part_of}

-- how many bytes in front pass the test
count : (ℕ → Bool) → List ℕ → ℕ
count f [] = 0
count f (b ∷ bs) = cond (f b) (suc (count f bs)) 0

scan_count : (f : ℕ → Bool) (o : ℕ) (bs : List ℕ) → scan f o bs ≡ o + count f bs
unfolding scan count
scan_count f o [] = omega arith
scan_count f o (b ∷ bs) = go (f b) (scan_count f (o + 1) bs)
  where
    go : (t : Bool) → scan f (o + 1) bs ≡ (o + 1) + count f bs → cond t (scan f (o + 1) bs) o ≡ o + cond t (suc (count f bs)) 0
    go true e = omega arith
    go false e = omega arith

abbrev blanks : List ℕ → ℕ
blanks bs = count (λ b. is_blank (byte_kind b)) bs

abbrev letters : List ℕ → ℕ
letters bs = count (λ b. in_word (byte_kind b)) bs

word_not_blank : (k : Byte) → in_word k ≡ true → is_blank k ≡ false
word_not_blank blank e = absurd (false≢true e)
word_not_blank bracket e = refl
word_not_blank digit e = refl
word_not_blank letter e = refl
word_not_blank mark e = refl
word_not_blank outside e = refl

-- what `cut` puts in front, by its tests
abbrev front : ℕ → ℕ → List Piece → Bool → Bool → List Piece
front o b ps white on = cond white ps (cond on (lengthen o b ps) (piece o (b ∷ []) ∷ ps))

cut_opens : (o b : ℕ) (bs : List ℕ) → cut o (b ∷ bs) ≡ front o b (cut (suc o) bs) (is_blank (byte_kind b)) (in_word (byte_kind b) && goes_on bs)
unfolding cut
cut_opens o b bs = refl

-- blanks are left out
cut_start : (o : ℕ) (bs : List ℕ) → cut o bs ≡ cut (o + blanks bs) (drop (blanks bs) bs)
unfolding count
cut_start o [] = ap (λ n. cut n []) (omega arith)
cut_start o (b ∷ bs) = go (is_blank (byte_kind b)) refl (cut_start (suc o) bs)
  where
    go : (t : Bool) → is_blank (byte_kind b) ≡ t → cut (suc o) bs ≡ cut (suc o + blanks bs) (drop (blanks bs) bs) →
        cut o (b ∷ bs) ≡ cut (o + cond t (suc (blanks bs)) 0) (drop (cond t (suc (blanks bs)) 0) (b ∷ bs))
    go true e again = cut_opens o b bs ∙ ap (λ t. front o b (cut (suc o) bs) t (in_word (byte_kind b) && goes_on bs)) e ∙ again ∙ ap (λ n. cut n (drop (blanks bs) bs)) (omega arith)
    go false e again = ap (λ n. cut n (b ∷ bs)) (omega arith)

-- a bracket
cut_bracket : (o b : ℕ) (bs : List ℕ) → is_blank (byte_kind b) ≡ false → in_word (byte_kind b) ≡ false → cut o (b ∷ bs) ≡ piece o (b ∷ []) ∷ cut (suc o) bs
cut_bracket o b bs e w = cut_opens o b bs ∙ ap₂ (λ t u. front o b (cut (suc o) bs) t (u && goes_on bs)) e w

-- a word
cut_word : (o b : ℕ) (bs : List ℕ) → in_word (byte_kind b) ≡ true → cut o (b ∷ bs) ≡ piece o (b ∷ take (letters bs) bs) ∷ cut (suc o + letters bs) (drop (letters bs) bs)
unfolding count
cut_word o b [] w = cut_opens o b [] ∙ ap₂ (λ t u. front o b (cut (suc o) []) t (u && false)) (word_not_blank (byte_kind b) w) w ∙ ap (λ n. piece o (b ∷ []) ∷ cut n []) (omega arith)
cut_word o b (c ∷ cs) w = go (in_word (byte_kind c)) refl (λ e. cut_word (suc o) c cs e)
  where
    first : (t : Bool) → in_word (byte_kind c) ≡ t → cut o (b ∷ c ∷ cs) ≡ cond t (lengthen o b (cut (suc o) (c ∷ cs))) (piece o (b ∷ []) ∷ cut (suc o) (c ∷ cs))
    first t e = cut_opens o b (c ∷ cs) ∙ ap₂ (λ t u. front o b (cut (suc o) (c ∷ cs)) t (u && in_word (byte_kind c))) (word_not_blank (byte_kind b) w) w
        ∙ ap (λ t. cond t (lengthen o b (cut (suc o) (c ∷ cs))) (piece o (b ∷ []) ∷ cut (suc o) (c ∷ cs))) e

    go : (t : Bool) → in_word (byte_kind c) ≡ t →
        (in_word (byte_kind c) ≡ true → cut (suc o) (c ∷ cs) ≡ piece (suc o) (c ∷ take (letters cs) cs) ∷ cut (suc (suc o) + letters cs) (drop (letters cs) cs)) →
        cut o (b ∷ c ∷ cs) ≡ piece o (b ∷ take (cond t (suc (letters cs)) 0) (c ∷ cs)) ∷ cut (suc o + cond t (suc (letters cs)) 0) (drop (cond t (suc (letters cs)) 0) (c ∷ cs))
    go true e again = first true e ∙ ap (lengthen o b) (again e) ∙ ap (λ n. piece o (b ∷ c ∷ take (letters cs) cs) ∷ cut n (drop (letters cs) cs)) (omega arith)
    go false e again = first false e ∙ ap (λ n. piece o (b ∷ []) ∷ cut n (c ∷ cs)) (omega arith)

scan_first : (s b : ℕ) (bs : List ℕ) → in_word (byte_kind b) ≡ true → scan (λ b. in_word (byte_kind b)) s (b ∷ bs) ≡ suc s + letters bs
unfolding scan
scan_first s b bs e = ap (λ t. cond t (scan (λ b. in_word (byte_kind b)) (s + 1) bs) s) e ∙ scan_count (λ b. in_word (byte_kind b)) (s + 1) bs ∙ ap (λ n. n + letters bs) (add-one s)

drop_more : (text : List ℕ) (i n : ℕ) → drop n (drop i text) ≡ drop (i + n) text
drop_more text i n = drop-drop n i text

-- from i on the pieces are those from the first byte that is no blank
pub pieces_start : (text : List ℕ) (i : ℕ) → cut i (drop i text) ≡ cut (start_at text i) (drop (start_at text i) text)
pieces_start text i =
    let e = scan_count (λ b. is_blank (byte_kind b)) i (drop i text) in
    cut_start i (drop i text) ∙ ap (cut (i + blanks (drop i text))) (drop_more text i (blanks (drop i text))) ∙ ap (λ n. cut n (drop n text)) (sym e)

-- the end of the text is a piece of no bytes
pub pieces_end : (text : List ℕ) (s : ℕ) → length text ≤ s → cut s (drop s text) ≡ piece s [] ∷ []
unfolding cut
pieces_end text s h = rw (drop_of_length-le text h)

-- the first piece, where its first byte is no blank
pub pieces_on : (text : List ℕ) (s : ℕ) → s < length text → is_blank (byte_kind (get_or text s 0)) ≡ false →
    cut s (drop s text) ≡ piece s (part_of text s (piece_end text s)) ∷ cut (piece_end text s) (drop (piece_end text s) text)
pieces_on text s h w = go (in_word (byte_kind (get_or text s 0))) refl
  where
    inside : piece_end text s ≡ cond (in_word (byte_kind (get_or text s 0))) (end_at text s) (s + 1)
    inside = ap (λ t. cond t s (cond (in_word (byte_kind (get_or text s 0))) (end_at text s) (s + 1))) (lt-leb (length text) s h)

    rest : drop s text ≡ get_or text s 0 ∷ drop (suc s) text
    rest = drop-cons text s 0 h

    go : (t : Bool) → in_word (byte_kind (get_or text s 0)) ≡ t → cut s (drop s text) ≡ piece s (part_of text s (piece_end text s)) ∷ cut (piece_end text s) (drop (piece_end text s) text)
    go false e =
        let p : piece_end text s ≡ suc s = inside ∙ ap (λ t. cond t (end_at text s) (s + 1)) e ∙ add-one s in
        let n : suc s - s ≡ 1 = omega arith in
        ap (cut s) rest ∙ cut_bracket s (get_or text s 0) (drop (suc s) text) w e
        ∙ ap (λ v. piece s v ∷ cut (suc s) (drop (suc s) text)) (sym (ap (λ l. take 1 l) rest) ∙ ap (λ k. take k (drop s text)) (sym n))
        ∙ ap (λ k. piece s (part_of text s k) ∷ cut k (drop k text)) (sym p)
    go true e =
        let m = letters (drop (suc s) text) in
        let q : end_at text s ≡ suc s + m = ap (scan (λ b. in_word (byte_kind b)) s) rest ∙ scan_first s (get_or text s 0) (drop (suc s) text) e in
        let p : piece_end text s ≡ suc s + m = inside ∙ ap (λ t. cond t (end_at text s) (s + 1)) e ∙ q in
        let n : (suc s + m) - s ≡ suc m = omega arith in
        ap (cut s) rest ∙ cut_word s (get_or text s 0) (drop (suc s) text) e
        ∙ ap₂ (λ v l. piece s v ∷ cut (suc s + m) l) (sym (ap (λ l. take (suc m) l) rest) ∙ ap (λ k. take k (drop s text)) (sym n)) (drop_more text (suc s) m)
        ∙ ap (λ k. piece s (part_of text s k) ∷ cut k (drop k text)) (sym p)

-- where a piece begins and ends stands in the text
count_most : (f : ℕ → Bool) (bs : List ℕ) → count f bs ≤ length bs
unfolding count
count_most f [] = omega arith
count_most f (b ∷ bs) = go (f b) (count_most f bs)
  where
    go : (t : Bool) → count f bs ≤ length bs → cond t (suc (count f bs)) 0 ≤ suc (length bs)
    go true h = omega arith
    go false h = omega arith

count_stops : (f : ℕ → Bool) (bs : List ℕ) → count f bs < length bs → f (get_or bs (count f bs) 0) ≡ false
unfolding count
count_stops f [] h = let z : ⊥ = omega arith in absurd z
count_stops f (b ∷ bs) h = go (f b) refl h (count_stops f bs)
  where
    go : (t : Bool) → f b ≡ t → cond t (suc (count f bs)) 0 < suc (length bs) → (count f bs < length bs → f (get_or bs (count f bs) 0) ≡ false) → f (get_or (b ∷ bs) (cond t (suc (count f bs)) 0) 0) ≡ false
    go true e h again = again (omega arith)
    go false e h again = e

module _ (f : ℕ → Bool) (text : List ℕ) (i : ℕ) (h : i ≤ length text) where
  scan_most : scan_at f text i ≤ length text
  scan_most = let e = scan_count f i (drop i text) in let k = count_most f (drop i text) in let l = length-drop i text in omega arith

  scan_stops : scan_at f text i < length text → f (get_or text (scan_at f text i) 0) ≡ false
  scan_stops l =
      let e = scan_count f i (drop i text) in
      let d = length-drop i text in
      let n : count f (drop i text) < length (drop i text) = omega arith in
      ap f (ap (λ k. get_or text k 0) e ∙ sym (get_or-drop i text (count f (drop i text)) 0)) ∙ count_stops f (drop i text) n

pub start_most : (text : List ℕ) (i : ℕ) → i ≤ length text → start_at text i ≤ length text
start_most text i h = scan_most (λ b. is_blank (byte_kind b)) text i h

pub start_stops : (text : List ℕ) (i : ℕ) → i ≤ length text → start_at text i < length text → is_blank (byte_kind (get_or text (start_at text i) 0)) ≡ false
start_stops text i h l = scan_stops (λ b. is_blank (byte_kind b)) text i h l

pub end_most : (text : List ℕ) (s : ℕ) → s ≤ length text → piece_end text s ≤ length text
end_most text s h = go (leb (length text) s) refl (in_word (byte_kind (get_or text s 0)))
  where
    go : (a : Bool) → leb (length text) s ≡ a → (b : Bool) → cond a s (cond b (end_at text s) (s + 1)) ≤ length text
    go true e b = h
    go false e true = scan_most (λ b. in_word (byte_kind b)) text s h
    go false e false = let l = leb-false (length text) s e in omega arith

pub cut_some : (o : ℕ) (bs : List ℕ) → 0 < length (cut o bs)
unfolding cut
cut_some o [] = omega arith
cut_some o (b ∷ bs) = go (is_blank (byte_kind b)) (in_word (byte_kind b) && goes_on bs) (cut (suc o) bs) (cut_some (suc o) bs)
  where
    go : (a c : Bool) (ps : List Piece) → 0 < length ps → 0 < length (front o b ps a c)
    go true c ps h = h
    go false false ps h = omega arith
    go false true [] h = h
    go false true (p ∷ ps) h = omega arith

pub end_there : (text : List ℕ) (s : ℕ) → length text ≤ s → piece_end text s ≡ s
end_there text s h = ap (λ t. cond t s (cond (in_word (byte_kind (get_or text s 0))) (end_at text s) (s + 1))) (le-leb (length text) s h)

-- a piece that begins in the text has a byte
pub end_ahead : (text : List ℕ) (s : ℕ) → s < length text → s < piece_end text s
end_ahead text s h = go (in_word (byte_kind (get_or text s 0))) refl
  where
    inside : piece_end text s ≡ cond (in_word (byte_kind (get_or text s 0))) (end_at text s) (s + 1)
    inside = ap (λ t. cond t s (cond (in_word (byte_kind (get_or text s 0))) (end_at text s) (s + 1))) (lt-leb (length text) s h)

    go : (t : Bool) → in_word (byte_kind (get_or text s 0)) ≡ t → s < piece_end text s
    go true e =
        let q : end_at text s ≡ suc s + letters (drop (suc s) text) = ap (scan (λ b. in_word (byte_kind b)) s) (drop-cons text s 0 h) ∙ scan_first s (get_or text s 0) (drop (suc s) text) e in
        let p : piece_end text s ≡ end_at text s = inside ∙ ap (λ t. cond t (end_at text s) (s + 1)) e in
        omega arith
    go false e = let p : piece_end text s ≡ s + 1 = inside ∙ ap (λ t. cond t (end_at text s) (s + 1)) e in omega arith

-- a word ends where the text does or before a byte of no word
pub end_stops : (text : List ℕ) (s : ℕ) → s < length text → in_word (byte_kind (get_or text s 0)) ≡ true → piece_end text s < length text → in_word (byte_kind (get_or text (piece_end text s) 0)) ≡ false
end_stops text s h w =
    let p : piece_end text s ≡ end_at text s = ap₂ (λ t u. cond t s (cond u (end_at text s) (s + 1))) (lt-leb (length text) s h) w in
    rw p (λ l. scan_stops (λ b. in_word (byte_kind b)) text s (omega arith) l)
