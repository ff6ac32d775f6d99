-- A printed value read again as a d of a job: its words, and what the reader makes of them (02, request 2).
use Prim.Native.Nat.{ℕ, zero, suc}
use Prim.Native.String.{String}
use mathlib.Core.Path.{◌≡◌, refl, ap, ap₂, subst, ◌∙◌, sym as inv}
use mathlib.Core.Bool.{Bool, true, false, not, true≢false}
use mathlib.Core.List.{List, [], ◌∷◌, ◌++◌, append_assoc}
use mathlib.Core.Option.{none}
use lib.Dec.{eqb}
use lib.ListN.{get_or}
use borrow.Author.Tests.{not-true}
use Rattle.expressions.specs.Expression.{Value, atom, cons, sym, Exp, atm, pair}
use Rattle.expressions.proofs.Predicates.{All, all_append}
use Rattle.language.specs.Bytes.{txt, byte_kind, is_outside, ◌or_else◌}
use Rattle.language.specs.Words.{Word, same, all, fits, name_fit}
use Rattle.language.specs.Tokens.{goes_on, place, symbol, of_job, Token, key_of, same_kind}
use Rattle.language.specs.Reader.{and_then, Reader, ◌>>◌, judged, fit_if, is, roomed, the_in, wrong}
use Rattle.language.specs.Source.{SExp, sym_s, pair_s, exp}
use Rattle.language.specs.Grammar.{leaf_d, tree, datum}
use Rattle.language.specs.JobCheck.{ground_verdict}
use Rattle.language.proofs.Spelling.{OfWord, Spells, spaced, bracketed, worded, Spelled, Spelt}
use Rattle.language.proofs.ReadBack.{Outcome, Anything, Takes, give_takes, bind_takes, is_it, the_takes, word_takes, choose_first, choose_second, then_takes, done_takes, all_words}
use Rattle.listing.specs.Print.{print_value, print_inputs}
use Rattle.listing.proofs.Numerals.{Named, named_inside, fit_named, all_each}

-- a property of each atom of a value
abbrev pub AtomsOf : (ℕ → Type 0) → Value → Type 0
AtomsOf P (atom z) = P z
AtomsOf P (cons u v) = AtomsOf P u × AtomsOf P v

pub atoms_map : (P Q : ℕ → Type 0) → ((z : ℕ) → P z → Q z) → (v : Value) → AtomsOf P v → AtomsOf Q v
atoms_map P Q f (atom z) h = f z h
atoms_map P Q f (cons u v) h = (atoms_map P Q f u h.0, atoms_map P Q f v h.1)

pub all_atoms_map : (P Q : ℕ → Type 0) → ((z : ℕ) → P z → Q z) → (vs : List Value) → All (AtomsOf P) vs → All (AtomsOf Q) vs
all_atoms_map P Q f [] h = tt
all_atoms_map P Q f (v ∷ vs) h = (atoms_map P Q f v h.0, all_atoms_map P Q f vs h.1)

-- bytes of the set
abbrev pub Inside : ℕ → Type 0
Inside b = is_outside (byte_kind b) ≡ false

pub text_inside : (w : String) → all (λ b. not (is_outside (byte_kind b))) (txt w) ≡ true → All Inside (txt w)
text_inside w e = each (txt w) (all_each (λ b. not (is_outside (byte_kind b))) (txt w) e)
  where
    each : (bs : List ℕ) → All (λ b. not (is_outside (byte_kind b)) ≡ true) bs → All Inside bs
    each [] h = tt
    each (b ∷ bs) h = (not-true _ h.0, each bs h.1)

pub named_of : (w : Word) → All Named w → All OfWord w × All Inside w
named_of [] h = (tt, tt)
named_of (b ∷ w) h = let r = named_inside b h.0 in let s = named_of w h.1 in ((r.0, s.0), (r.1, s.1))

-- a word that is not empty, followed by what does not go on
pub word_spells : (w : Word) (rest : List ℕ) (ws : List Word) → same w [] ≡ false → All OfWord w → goes_on rest ≡ false → Spells rest ws → Spells (w ++ rest) (w ∷ ws)
word_spells [] rest ws f h g s = absurd (true≢false f)
word_spells (b ∷ w) rest ws f h g s = worded b w rest ws h.0 h.1 g s

module _ (names : List Word) where
  abbrev pub name : ℕ → Word
  name z = get_or names z []

  -- a name that may stand in a text
  abbrev pub Nameable : ℕ → Type 0
  Nameable z = name_fit (name z) ≡ fits

  abbrev pub value_words : Value → List Word
  value_words (atom z) = (39 ∷ name z) ∷ []
  value_words (cons u v) = txt "(" ∷ (txt "cons" ∷ (value_words u ++ (value_words v ++ (txt ")" ∷ []))))

  regroup : (u v : Value) (rest : List ℕ) → print_value names (cons u v) ++ rest ≡ txt "(cons " ++ (print_value names u ++ (32 ∷ (print_value names v ++ (41 ∷ rest))))
  regroup u v rest = ap (λ (l : List ℕ). txt "(cons " ++ l)
      (append_assoc (print_value names u ++ (32 ∷ print_value names v)) (41 ∷ []) rest ∙ append_assoc (print_value names u) (32 ∷ print_value names v) (41 ∷ rest))

  reword : (u v : Value) (ws : List Word) → value_words (cons u v) ++ ws ≡ txt "(" ∷ (txt "cons" ∷ (value_words u ++ (value_words v ++ (txt ")" ∷ ws))))
  reword u v ws = ap (λ (l : List Word). txt "(" ∷ (txt "cons" ∷ l))
      (append_assoc (value_words u) (value_words v ++ (txt ")" ∷ [])) ws ∙ ap (λ (l : List Word). value_words u ++ l) (append_assoc (value_words v) (txt ")" ∷ []) ws))

  pub value_spells : (v : Value) (rest : List ℕ) (ws : List Word) → AtomsOf Nameable v → goes_on rest ≡ false → Spells rest ws → Spells (print_value names v ++ rest) (value_words v ++ ws)
  value_spells (atom z) rest ws h g s = worded 39 (name z) rest ws refl (named_of (name z) (fit_named (name z) h)).0 g s
  value_spells (cons u v) rest ws h g s =
      let a : Spells (41 ∷ rest) (txt ")" ∷ ws) = bracketed 41 rest ws refl s in
      let b = value_spells v (41 ∷ rest) (txt ")" ∷ ws) h.1 refl a in
      let c = value_spells u (32 ∷ (print_value names v ++ (41 ∷ rest))) (value_words v ++ (txt ")" ∷ ws)) h.0 refl (spaced 32 _ _ refl b) in
      let d = bracketed 40 _ _ refl (worded 99 (111 ∷ 110 ∷ 115 ∷ []) _ _ refl (refl, (refl, (refl, tt))) refl (spaced 32 _ _ refl c)) in
      subst (λ (l : List Word). Spells (print_value names (cons u v) ++ rest) l) (inv (reword u v ws))
      (subst (λ (l : List ℕ). Spells l (txt "(" ∷ (txt "cons" ∷ (value_words u ++ (value_words v ++ (txt ")" ∷ ws)))))) (inv (regroup u v rest)) d)

  pub value_inside : (v : Value) → AtomsOf Nameable v → All Inside (print_value names v)
  value_inside (atom z) h = (refl, (named_of (name z) (fit_named (name z) h)).1)
  value_inside (cons u v) h =
      all_append Inside (txt "(cons ") ((print_value names u ++ (32 ∷ print_value names v)) ++ (41 ∷ [])) (text_inside "(cons " refl)
      (all_append Inside (print_value names u ++ (32 ∷ print_value names v)) (41 ∷ [])
      (all_append Inside (print_value names u) (32 ∷ print_value names v) (value_inside u h.0) (refl, value_inside v h.1)) (refl, tt))

  -- the inputs, a blank before each
  abbrev pub inputs_words : List Value → List Word
  inputs_words vs = all_words value_words vs

  inputs_part : (vs : List Value) (rest : List ℕ) → goes_on rest ≡ false → goes_on (print_inputs names vs ++ rest) ≡ false
  inputs_part [] rest g = g
  inputs_part (v ∷ vs) rest g = refl

  pub inputs_spells : (vs : List Value) (rest : List ℕ) (ws : List Word) → All (AtomsOf Nameable) vs → goes_on rest ≡ false → Spells rest ws →
      (goes_on (print_inputs names vs ++ rest) ≡ false) × Spells (print_inputs names vs ++ rest) (inputs_words vs ++ ws)
  inputs_spells [] rest ws h g s = (g, s)
  inputs_spells (v ∷ vs) rest ws h g s =
      let r = inputs_spells vs rest ws h.1 g s in
      let x = value_spells v (print_inputs names vs ++ rest) (inputs_words vs ++ ws) h.0 r.0 r.1 in
      let e = append_assoc (print_value names v) (print_inputs names vs) rest in
      let f = append_assoc (value_words v) (inputs_words vs) ws in (
        refl,
        spaced 32 _ _ refl (subst (λ (l : List Word). Spells ((print_value names v ++ print_inputs names vs) ++ rest) l) (inv f)
            (subst (λ (l : List ℕ). Spells l (value_words v ++ (inputs_words vs ++ ws))) (inv e) x)),
      )

  pub inputs_inside : (vs : List Value) → All (AtomsOf Nameable) vs → All Inside (print_inputs names vs)
  inputs_inside [] h = tt
  inputs_inside (v ∷ vs) h = (refl, all_append Inside (print_value names v) (print_inputs names vs) (value_inside v h.0) (inputs_inside vs h.1))

  -- what is read: each atom by the place of its word among the symbols
  module _ (symbols others : List Word) where
    abbrev T : (List Token → Type 0) → List Word → {A : Type 0} → (A → Type 0) → Reader A → Type 0
    T P ws Q m = Takes of_job symbols others P ws Q m

    abbrev pub place_of_atom : ℕ → ℕ
    place_of_atom z = place (39 ∷ name z) symbols

    abbrev pub placed_exp : Value → Exp
    placed_exp (atom z) = atm (sym (place_of_atom z))
    placed_exp (cons u v) = pair (placed_exp u) (placed_exp v)

    abbrev pub ReadAs : Value → SExp → Type 0
    ReadAs v c = (exp c ≡ placed_exp v) × (ground_verdict c ≡ none)

    atom_takes : {P : List Token → Type 0} (z : ℕ) → Nameable z → T P (value_words (atom z)) (ReadAs (atom z)) leaf_d
    atom_takes z h = choose_first of_job symbols others (39 ∷ name z) [] (λ t s. ap (λ k. same_kind k symbol) s.kind)
        (done_takes of_job symbols others sym_s (λ x e. (ap (λ (n : ℕ). atm (sym n)) e, refl)) (word_takes of_job symbols others symbol (39 ∷ name z) refl h))

    not_bracket : (w : Word) (v : String) (t : Token) → Spelled of_job symbols others w t → eqb (key_of w) (key_of (txt v)) ≡ false → is v t ≡ false
    not_bracket w v t s e = ap (λ (k : ℕ). eqb k (key_of (txt v))) s.key ∙ e

    -- no bracket more may stand open: 5
    full_takes : {P : List Token → Type 0} {Q : SExp → Type 0} (ws : List Word) → T P (txt "(" ∷ ws) Q (the_in 0 "(" >> wrong)
    full_takes {P} {Q} ws = record { result = go }
      where
        go : (ts : List Token) → Spelt of_job symbols others (txt "(" ∷ ws) ts → (rest : List Token) → P rest → Outcome Q rest ((the_in 0 "(" >> wrong) (ts ++ rest))
        go [] s rest p = absurd s
        go (t ∷ ts) s rest p = stopped (is "(" t) (is_it of_job symbols others "(" t s.0) t.over
          where
            stopped : (b : Bool) → b ≡ true → (over : Bool) → Outcome Q rest (and_then (judged (roomed 0 (fit_if b)) over t (ts ++ rest)) (λ r. wrong r.1))
            stopped b e over = subst (λ (b : Bool). Outcome Q rest (and_then (judged (roomed 0 (fit_if b)) over t (ts ++ rest)) (λ r. wrong r.1))) (inv e) refl

    pub tree_takes : (room : ℕ) (v : Value) → AtomsOf Nameable v → T Anything (value_words v) (ReadAs v) (tree leaf_d room)
    unfolding tree
    tree_takes zero (atom z) h = choose_second of_job symbols others (39 ∷ name z) [] (λ t s. not_bracket (39 ∷ name z) "(" t s refl) (atom_takes z h)
    tree_takes (suc room) (atom z) h = choose_second of_job symbols others (39 ∷ name z) [] (λ t s. not_bracket (39 ∷ name z) "(" t s refl) (atom_takes z h)
    tree_takes zero (cons u v) h = choose_first of_job symbols others (txt "(") _ (is_it of_job symbols others "(") (full_takes _)
    tree_takes (suc room) (cons u v) h = choose_first of_job symbols others (txt "(") _ (is_it of_job symbols others "(")
        (bind_takes of_job symbols others (λ ys rest s p. tt) (the_takes of_job symbols others {P = Anything} "(") (λ o x.
        then_takes of_job symbols others (the_takes of_job symbols others "cons")
        (bind_takes of_job symbols others (λ ys rest s p. tt) (tree_takes room u h.0) (λ c y.
        bind_takes of_job symbols others (λ ys rest s p. tt) (tree_takes room v h.1) (λ d w.
        then_takes of_job symbols others {vs = []} (the_takes of_job symbols others ")") (give_takes of_job symbols others (pair_s o.at c d) (ap₂ pair y.0 w.0, ap₂ ◌or_else◌ y.1 w.1)))))))

    pub datum_takes : (room : ℕ) (v : Value) → AtomsOf Nameable v → T Anything (value_words v) (ReadAs v) (datum room)
    unfolding datum
    datum_takes room v h = tree_takes room v h
