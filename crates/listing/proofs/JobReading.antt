-- A job whose parts are printed values, read again by the runner (02, request 2): it is accepted, or refused by 1 or 5.
use Prim.Native.Nat.{ℕ, suc, ◌≤◌}
use Prim.Native.String.{String}
use mathlib.Core.Path.{◌≡◌, refl, ap, ap₂, subst, ◌∙◌, sym as inv}
use mathlib.Core.Bool.{Bool, false, ◌&&◌, true≢false}
use mathlib.Core.List.{List, [], ◌∷◌, ◌++◌, append_assoc}
use mathlib.Core.Option.{none}
use native.Mathlib.Omega.{arith}
use lib.Dec.{eqb, leb}
use lib.ListN.{length}
use borrow.Author.Tests.{eqb-true, le-leb, eq-eqb}
use Rattle.expressions.specs.Expression.{Value, atom, cons}
use Rattle.expressions.specs.Class.{GroundPair}
use Rattle.expressions.proofs.Predicates.{All, all_append}
use Rattle.language.specs.Program.{Param, pe, pa}
use Rattle.language.specs.Scope.{is_atomic}
use Rattle.language.specs.Bytes.{txt, byte_kind, is_digit, Verdict, unless, ◌or_else◌, outside_from, bytes_verdict}
use Rattle.language.specs.Words.{Word, same, begins, fits, numeral_fit, value}
use Rattle.language.specs.Tokens.{plain, kind_of, of_job, Token, tokens, symbols_of, names_of}
use Rattle.language.specs.Reader.{Res, ok, refused, and_then, unless_fault, Reader, give, is, wrong, choose, up_to}
use Rattle.language.specs.Source.{Stand, SExp, SJob, SProg, at_of, exp, exps, params}
use Rattle.language.specs.Grammar.{word, sides, part, is_end, job_text}
use Rattle.language.specs.JobCheck.{runner, kinds_verdict, inputs_verdict, sides_verdict, at_most, bounds_verdict, job_verdict}
use Rattle.language.specs.Reading.{read_job}
use Rattle.language.proofs.Tests.{is_false}
use Rattle.language.proofs.Spelling.{Spells, ended, spaced, bracketed, worded, Spelled, Spelt, text_spelt}
use Rattle.language.proofs.ReadBack.{Outcome, Anything, Begins, Takes, give_takes, bind_takes, is_it, the_takes, word_takes, then_takes, any_takes, AllRead, up_to_takes, spelt_split}
use Rattle.semantics.proofs.Environments.{FitsInputs}
use Rattle.listing.specs.Print.{digits, print_value, print_inputs, print_pair}
use Rattle.listing.proofs.Numerals.{Digit, written, digits_named, numeral_fits}
use Rattle.listing.proofs.ValueReading.{AtomsOf, Inside, text_inside, named_of, word_spells, Nameable, value_words, inputs_words, value_spells, value_inside, inputs_spells, inputs_inside, ReadAs, datum_takes}

-- digits are a word of no other kind
pub digits_plain : (n : ℕ) → kind_of (digits n) ≡ plain
digits_plain n = go (digits n) (written n).digits (written n).filled
  where
    other : (a b : ℕ) → Digit b → is_digit (byte_kind a) ≡ false → eqb a b ≡ false
    other a b d f = is_false (eqb a b) (λ e. true≢false (inv d ∙ ap (λ (x : ℕ). is_digit (byte_kind x)) (inv (eqb-true a b e)) ∙ f))

    first : (a b : ℕ) (v w : Word) → Digit b → is_digit (byte_kind a) ≡ false → begins (a ∷ v) (b ∷ w) ≡ false
    first a b v w d f = ap (λ (t : Bool). t && begins v w) (other a b d f)

    go : (w : Word) → All Digit w → same w [] ≡ false → kind_of w ≡ plain
    go [] h f = absurd (true≢false f)
    go (b ∷ w) h f = rw (first 39 b [] w h.0 refl, first 101 b (46 ∷ []) w h.0 refl, first 97 b (46 ∷ []) w h.0 refl, first 63 b (101 ∷ []) w h.0 refl, first 63 b (97 ∷ []) w h.0 refl)

abbrev pub part_words : String → List Word → List Word
part_words w ws = txt "(" ∷ (txt w ∷ (ws ++ (txt ")" ∷ [])))

-- the tail of the text, and of its words
abbrev pub job_tail : ℕ → List ℕ
job_tail n = txt " (neq) (steps " ++ digits n ++ txt ") (walk 0) (table 0))"

abbrev pub tail_words : ℕ → List Word
tail_words n = part_words "neq" [] ++ (part_words "steps" (digits n ∷ []) ++ (part_words "walk" (txt "0" ∷ []) ++ (part_words "table" (txt "0" ∷ []) ++ (txt ")" ∷ []))))

tail_spells : (n : ℕ) → Spells (job_tail n) (tail_words n)
tail_spells n =
    let a : Spells (txt ") (walk 0) (table 0))") _ = bracketed 41 _ _ refl (spaced 32 _ _ refl (bracketed 40 _ _ refl (worded 119 (97 ∷ 108 ∷ 107 ∷ []) _ _ refl (refl, (refl, (refl, tt))) refl (spaced 32 _ _ refl (worded 48 [] _ _ refl tt refl (bracketed 41 _ _ refl (spaced 32 _ _ refl (bracketed 40 _ _ refl (worded 116 (97 ∷ 98 ∷ 108 ∷ 101 ∷ []) _ _ refl (refl, (refl, (refl, (refl, tt)))) refl (spaced 32 _ _ refl (worded 48 [] _ _ refl tt refl (bracketed 41 _ _ refl (bracketed 41 _ _ refl ended))))))))))))) in
    let b = word_spells (digits n) (txt ") (walk 0) (table 0))") _ (written n).filled (named_of (digits n) (digits_named n)).0 refl a in
    spaced 32 _ _ refl (bracketed 40 _ _ refl (worded 110 (101 ∷ 113 ∷ []) _ _ refl (refl, (refl, tt)) refl (bracketed 41 _ _ refl (spaced 32 _ _ refl (bracketed 40 _ _ refl (worded 115 (116 ∷ 101 ∷ 112 ∷ 115 ∷ []) _ _ refl (refl, (refl, (refl, (refl, tt)))) refl (spaced 32 _ _ refl (b))))))))

tail_inside : (n : ℕ) → All Inside (job_tail n)
tail_inside n =
    all_append Inside (txt " (neq) (steps " ++ digits n) (txt ") (walk 0) (table 0))")
    (all_append Inside (txt " (neq) (steps ") (digits n) (text_inside " (neq) (steps " refl) (named_of (digits n) (digits_named n)).1) (text_inside ") (walk 0) (table 0))" refl)

module _ (names : List Word) (n : ℕ) (c : GroundPair) where
  abbrev pub written_job : List ℕ
  written_job = txt "(job " ++ print_pair names c (job_tail n)

  abbrev pub job_words : List Word
  job_words = txt "(" ∷ (txt "job" ∷ (part_words "in" (inputs_words names c.ins) ++ (part_words "out" (value_words names c.out) ++ tail_words n)))

  -- each atom has a name that may stand in a text
  abbrev pub Writable : Type 0
  Writable = All (AtomsOf (Nameable names)) c.ins × AtomsOf (Nameable names) c.out

  pub bytes_grouped : written_job ≡ txt "(job (in" ++ (print_inputs names c.ins ++ (txt ") (out " ++ (print_value names c.out ++ (41 ∷ job_tail n))))
  bytes_grouped = ap (λ (l : List ℕ). txt "(job (in" ++ l)
      (append_assoc (print_inputs names c.ins ++ txt ") (out ") (print_value names c.out) (41 ∷ job_tail n) ∙ append_assoc (print_inputs names c.ins) (txt ") (out ") (print_value names c.out ++ (41 ∷ job_tail n)))

  module _ (h : Writable) where
    abbrev pub grouped_words : List Word
    grouped_words = txt "(" ∷ (txt "job" ∷ (txt "(" ∷ (txt "in" ∷ (inputs_words names c.ins ++ (txt ")" ∷ (txt "(" ∷ (txt "out" ∷ (value_words names c.out ++ (txt ")" ∷ tail_words n)))))))))

    words_grouped : job_words ≡ grouped_words
    words_grouped = ap (λ (l : List Word). txt "(" ∷ (txt "job" ∷ (txt "(" ∷ (txt "in" ∷ l))))
        (append_assoc (inputs_words names c.ins) (txt ")" ∷ []) (part_words "out" (value_words names c.out) ++ tail_words n)
        ∙ ap (λ (l : List Word). inputs_words names c.ins ++ (txt ")" ∷ (txt "(" ∷ (txt "out" ∷ l)))) (append_assoc (value_words names c.out) (txt ")" ∷ []) (tail_words n)))

    pub job_spells : Spells written_job job_words
    job_spells =
        let a : Spells (41 ∷ job_tail n) (txt ")" ∷ tail_words n) = bracketed 41 _ _ refl (tail_spells n) in
        let b = value_spells names c.out (41 ∷ job_tail n) (txt ")" ∷ tail_words n) h.1 refl a in
        let d : Spells (txt ") (out " ++ (print_value names c.out ++ (41 ∷ job_tail n))) _ = bracketed 41 _ _ refl (spaced 32 _ _ refl (bracketed 40 _ _ refl (worded 111 (117 ∷ 116 ∷ []) _ _ refl (refl, (refl, tt)) refl (spaced 32 _ _ refl (b))))) in
        let r = inputs_spells names c.ins _ _ h.0 refl d in
        let e = bracketed 40 _ _ refl (worded 106 (111 ∷ 98 ∷ []) _ _ refl (refl, (refl, tt)) refl (spaced 32 _ _ refl (bracketed 40 _ _ refl (worded 105 (110 ∷ []) _ _ refl (refl, tt) r.0 r.1)))) in
        subst (λ (l : List Word). Spells written_job l) (inv words_grouped) (subst (λ (l : List ℕ). Spells l grouped_words) (inv bytes_grouped) e)

    job_inside : All Inside written_job
    job_inside = subst (All Inside) (inv bytes_grouped)
        (all_append Inside (txt "(job (in") (print_inputs names c.ins ++ (txt ") (out " ++ (print_value names c.out ++ (41 ∷ job_tail n)))) (text_inside "(job (in" refl)
        (all_append Inside (print_inputs names c.ins) (txt ") (out " ++ (print_value names c.out ++ (41 ∷ job_tail n))) (inputs_inside names c.ins h.0)
        (all_append Inside (txt ") (out ") (print_value names c.out ++ (41 ∷ job_tail n)) (text_inside ") (out " refl)
        (all_append Inside (print_value names c.out) (41 ∷ job_tail n) (value_inside names c.out h.1) (refl, tail_inside n)))))

    -- what is read of it
    pub record JobAs (symbols others : List Word) (t : SJob) : Type 0 where
      pub ins : AllRead (ReadAs names symbols others) c.ins t.ins
      pub out : ReadAs names symbols others c.out t.out
      pub neqs : t.neqs ≡ []
      pub steps : t.steps.num ≡ n
      pub walk : t.walk.num ≡ 0
      pub table : t.table.num ≡ 0

    module _ (symbols others : List Word) (small : n ≤ 1000) where
      abbrev T : (List Token → Type 0) → List Word → {A : Type 0} → (A → Type 0) → Reader A → Type 0
      T P ws Q m = Takes of_job symbols others P ws Q m

      abbrev Closed : List Token → Type 0
      Closed = Begins of_job symbols others (txt ")")

      closes : (P : List Token → Type 0) (ys rest : List Token) → Spelt of_job symbols others (txt ")" ∷ []) ys → P rest → Closed (ys ++ rest)
      closes P [] rest s p = absurd s
      closes P (y ∷ ys) rest s p = s.0

      part_takes : {P : List Token → Type 0} {ws : List Word} {A : Type 0} {Q : A → Type 0} {m : Reader A} (w : String) → T Closed ws Q m → T P (part_words w ws) (λ (r : ℕ × A). Q r.1) (part w m)
      part_takes {P} {ws} {A} {Q} {m} w k =
          then_takes of_job symbols others (the_takes of_job symbols others "(")
          (bind_takes of_job symbols others (λ ys rest s p. tt) (the_takes of_job symbols others {P = Anything} w) (λ t x.
          bind_takes of_job symbols others (closes P) k (λ a q.
          then_takes of_job symbols others {vs = []} (the_takes of_job symbols others ")") (give_takes of_job symbols others (t.at, a) q))))

      starts : (v : Value) → (w : Word) × (ws : List Word) × (value_words names v ≡ w ∷ ws) × ((t : Token) → Spelled of_job symbols others w t → is ")" t ≡ false)
      starts (atom z) = (_, _, refl, λ t s. ap (λ (k : ℕ). eqb k 2) s.key)
      starts (cons u v) = (_, _, refl, λ t s. ap (λ (k : ℕ). eqb k 2) s.key)

      none_takes : {A : Type 0} (item : Reader A) → T Closed [] (λ (xs : List A). xs ≡ []) (up_to ")" item)
      none_takes {A} item = record { result = go }
        where
          go : (ts : List Token) → Spelt of_job symbols others [] ts → (rest : List Token) → Closed rest → Outcome (λ (xs : List A). xs ≡ []) rest (up_to ")" item (ts ++ rest))
          go (t ∷ ts) s rest p = absurd s
          go [] s [] p = absurd p
          go [] s (c ∷ rest) p = rw (is_it of_job symbols others ")" c p) (refl, refl)

      numeral_takes : {P : List Token → Type 0} (w : Word) (m : ℕ) → kind_of w ≡ plain → numeral_fit w ≡ fits → value w ≡ m → T P (w ∷ []) (λ (x : Stand). x.num ≡ m) (word plain)
      numeral_takes {P} w m k f v = subst (λ (i : ℕ). T P (w ∷ []) (λ (x : Stand). x.num ≡ i) (word plain)) v (word_takes of_job symbols others plain w k f)

      end_takes : {Q : SJob → Type 0} (t : SJob) → Q t → T (Begins of_job symbols others []) [] Q (choose is_end (give t) wrong)
      end_takes {Q} t q = record { result = go }
        where
          go : (ts : List Token) → Spelt of_job symbols others [] ts → (rest : List Token) → Begins of_job symbols others [] rest → Outcome Q rest (choose is_end (give t) wrong (ts ++ rest))
          go (x ∷ ts) s rest p = absurd s
          go [] s [] p = absurd p
          go [] s (c ∷ rest) p = rw (is_it of_job symbols others "" c p) (q, refl)

      job_takes : T (Begins of_job symbols others []) job_words (JobAs symbols others) job_text
      unfolding job_text
      job_takes =
          then_takes of_job symbols others (the_takes of_job symbols others "(") (then_takes of_job symbols others (the_takes of_job symbols others "job")
          (bind_takes of_job symbols others (λ ys rest s p. tt) (part_takes {P = Anything} "in"
          (up_to_takes of_job symbols others (AtomsOf (Nameable names)) (value_words names) (ReadAs names symbols others) ")" _ starts (datum_takes names symbols others 62) c.ins h.0)) (λ i x.
          bind_takes of_job symbols others (λ ys rest s p. tt) (part_takes {P = Anything} "out" (any_takes of_job symbols others (datum_takes names symbols others 62 c.out h.1))) (λ o y.
          bind_takes of_job symbols others (λ ys rest s p. tt) (part_takes {P = Anything} "neq" (none_takes sides)) (λ q z.
          bind_takes of_job symbols others (λ ys rest s p. tt) (part_takes {P = Anything} "steps" (numeral_takes (digits n) n (digits_plain n) (numeral_fits n (omega arith)) (written n).value)) (λ m u.
          bind_takes of_job symbols others (λ ys rest s p. tt) (part_takes {P = Anything} "walk" (numeral_takes (txt "0") 0 refl refl refl)) (λ w v.
          bind_takes of_job symbols others (λ ys rest s p. tt) (part_takes {P = Anything} "table" (numeral_takes (txt "0") 0 refl refl refl)) (λ t k.
          then_takes of_job symbols others {vs = []} (the_takes of_job symbols others ")") (end_takes _ (record { ins = x; out = y; neqs = z; steps = u; walk = v; table = k }))))))))))

    -- the whole text
    abbrev ReadOk : List Word → Res (SJob × List Token) → Type 0
    ReadOk before (ok r) = JobAs (symbols_of before written_job) (names_of written_job) r.0
    ReadOk before (refused r) = r.number ≡ 5

    text_read : (before : List Word) → n ≤ 1000 → ReadOk before (job_text (tokens of_job before written_job))
    text_read before small =
        let x = spelt_split of_job symbols others job_words ([] ∷ []) (tokens of_job before written_job) (text_spelt of_job before job_spells) in
        weaker (job_text (tokens of_job before written_job)) x.1
        (subst (λ (l : List Token). Outcome (JobAs symbols others) x.1 (job_text l)) (inv x.2) ((job_takes symbols others small).result x.0 x.3 x.1 (ends x.1 x.4)))
      where
        symbols : List Word
        symbols = symbols_of before written_job

        others : List Word
        others = names_of written_job

        ends : (ys : List Token) → Spelt of_job symbols others ([] ∷ []) ys → Begins of_job symbols others [] ys
        ends [] s = s
        ends (y ∷ ys) s = s.0

        weaker : (r : Res (SJob × List Token)) (rest : List Token) → Outcome (JobAs symbols others) rest r → ReadOk before r
        weaker (ok r) rest o = o.0
        weaker (refused r) rest o = o

    -- its check: as many inputs as parameters, of their kinds, without variables; no non-equality; the numbers in their bounds
    kinds_passed : (symbols others : List Word) (xs : List Param) (vs : List Value) (cs : List SExp) → FitsInputs xs vs → AllRead (ReadAs names symbols others) vs cs →
        (length xs ≡ length cs) × (kinds_verdict runner xs cs ≡ none)
    kinds_passed symbols others [] [] [] f r = (refl, refl)
    kinds_passed symbols others [] [] (c ∷ cs) f r = absurd r
    kinds_passed symbols others [] (v ∷ vs) cs f r = absurd f
    kinds_passed symbols others (pe x ∷ xs) [] cs f r = absurd f
    kinds_passed symbols others (pa x ∷ xs) [] cs f r = absurd f
    kinds_passed symbols others (pe x ∷ xs) (v ∷ vs) [] f r = absurd r
    kinds_passed symbols others (pe x ∷ xs) (v ∷ vs) (c ∷ cs) f r =
        let k = kinds_passed symbols others xs vs cs f r.1 in (ap suc k.0, ap₂ ◌or_else◌ r.0.1 k.1)
    kinds_passed symbols others (pa x ∷ xs) (atom z ∷ vs) [] f r = absurd r
    kinds_passed symbols others (pa x ∷ xs) (cons u v ∷ vs) cs f r = absurd f
    kinds_passed symbols others (pa x ∷ xs) (atom z ∷ vs) (c ∷ cs) f r =
        let k = kinds_passed symbols others xs vs cs f r.1 in
        (ap suc k.0, ap₂ ◌or_else◌ (ap (λ (b : Bool). unless b 10 (at_of c)) (ap is_atomic r.0.0)) (ap₂ ◌or_else◌ r.0.1 k.1))

    passed : (symbols others : List Word) (xs : List Param) (t : SJob) → n ≤ 1000 → FitsInputs xs c.ins → JobAs symbols others t → job_verdict runner xs t ≡ none
    unfolding job_verdict
    passed symbols others xs t small f a =
        let k = kinds_passed symbols others xs c.ins t.ins f a.ins in
        let e : inputs_verdict runner xs t ≡ none = ap₂ ◌or_else◌ (ap (λ (b : Bool). unless b 10 t.in_at) (eq-eqb (length xs) (length t.ins) k.0)) k.1 in
        let q : sides_verdict (exp t.out ∷ exps t.ins) t.neqs ≡ none = ap (sides_verdict (exp t.out ∷ exps t.ins)) a.neqs in
        let u : bounds_verdict t ≡ none = ap₂ ◌or_else◌ (bound 1000 t.steps (omega (arith, a.steps))) (ap₂ ◌or_else◌ (bound 1000000 t.walk (omega (arith, a.walk))) (bound 256 t.table (omega (arith, a.table)))) in
        ap₂ ◌or_else◌ e (ap₂ ◌or_else◌ q u)
      where
        bound : (m : ℕ) (x : Stand) → x.num ≤ m → at_most m x ≡ none
        bound m x l = ap (λ (b : Bool). unless b 12 x.at) (le-leb x.num m l)

    outside_none : (at : ℕ) (bs : List ℕ) → All Inside bs → outside_from at bs ≡ none
    outside_none at [] k = refl
    outside_none at (b ∷ bs) k = rw k.0 (outside_none (suc at) bs k.1)

    -- accepted, or refused by 5
    abbrev pub JobRead : List Word → Res SJob → Type 0
    JobRead before (ok t) = JobAs (symbols_of before written_job) (names_of written_job) t
    JobRead before (refused r) = r.number ≡ 5

    pub job_read : (s : SProg) (before : List Word) → n ≤ 1000 → length written_job ≤ 8192 → FitsInputs (params s.main.params) c.ins → JobRead before (read_job runner s before written_job)
    unfolding read_job
    job_read s before small l f = subst (λ (v : Verdict). JobRead before (and_then (unless_fault v written_job) (λ bs. and_then (job_text (tokens of_job before bs)) (λ r. unless_fault (job_verdict runner xs r.0) r.0))))
        (inv bytes) (parsed (job_text (tokens of_job before written_job)) (text_read before small))
      where
        xs : List Param
        xs = params s.main.params

        bytes : bytes_verdict 8192 written_job ≡ none
        bytes = ap₂ ◌or_else◌ (ap (λ (b : Bool). unless b 1 8192) (le-leb (length written_job) 8192 l)) (outside_none 0 written_job job_inside)

        parsed : (x : Res (SJob × List Token)) → ReadOk before x → JobRead before (and_then x (λ r. unless_fault (job_verdict runner xs r.0) r.0))
        parsed (ok r) a = subst (λ (v : Verdict). JobRead before (unless_fault v r.0)) (inv (passed _ _ xs r.0 small f a)) a
        parsed (refused r) a = a

-- a text over its limit is refused by 1
abbrev pub TooLong : Res SJob → Type 0
TooLong (ok t) = ⊥
TooLong (refused r) = r.number ≡ 1

pub job_long : (s : SProg) (before : List Word) (bs : List ℕ) → leb (length bs) 8192 ≡ false → TooLong (read_job runner s before bs)
unfolding read_job
job_long s before bs e = rw e refl
