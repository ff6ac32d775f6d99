-- The sample of a line, as a job text, in the forward runner (02, request 2): its value is the printed output, in the line's steps, unless the
-- sample passes a limit of 1, 5 or 21.
use Prim.Native.Nat.{ℕ, ◌+◌, ◌≤◌, ◌<◌}
use mathlib.Core.Path.{◌≡◌, refl, ap, ap₂, subst, ◌∙◌, sym as inv}
use mathlib.Core.Bool.{Bool, true, false, cond, ◌&&◌}
use mathlib.Core.List.{List, [], ◌∷◌, ◌++◌, map}
use mathlib.Core.Logic.{◌⊎◌, inl, inr}
use native.Mathlib.Omega.{arith}
use lib.Dec.{eqb, leb}
use lib.ListN.{length, get_or, drop, get_or-map, get_or-append}
use borrow.Author.Tests.{eqb-true, eq-eqb, ltb-true, lt-ltb, leb-true}
use Rattle.expressions.specs.Expression.{Value, atom, cons, sym, avar, Exp, atm, evar, pair}
use Rattle.expressions.specs.Substitution.{GroundSubst, ground_exp, ground_all}
use Rattle.expressions.specs.Class.{IOPair, GroundPair}
use Rattle.expressions.proofs.Predicates.{All as Each}
use Rattle.expressions.proofs.Tests.{and_both}
use Rattle.expressions.proofs.Numbers.{ExpNumbers, ClassNumbers}
use Rattle.language.specs.Program.{eqa, consp, Term, call, conditional, result, Param, pe, pa, Prog, find}
use Rattle.language.specs.Bytes.{txt}
use Rattle.language.specs.Words.{Word}
use Rattle.language.specs.Tokens.{Piece, cut, place, is_among, is_symbol, symbols_of, names_of}
use Rattle.language.specs.Reader.{Res, ok, refused}
use Rattle.language.specs.Source.{SExp, SProg, SJob, exps, prog, class}
use Rattle.language.specs.JobCheck.{lister, runner}
use Rattle.language.specs.Reading.{read_job, accepted, with_job, with_program, reading, symbol_names}
use Rattle.language.proofs.Acceptance.{accepted_passed}
use Rattle.language.proofs.Numbers.{TermNumbers, ParamNumbers, ProgNumbers}
use Rattle.language.proofs.TokenNumbers.{NameNumber, VariableNumber}
use Rattle.language.proofs.SymbolWords.{SymbolOf, place_at_lem, symbol_more, Found, firsts_found, symbols_more, accepted_program, accepted_program_words, accepted_job_words, accepted_few}
use Rattle.language.proofs.Spelling.{words_of, cut_spelled}
use Rattle.language.proofs.ReadBack.{AllRead}
use Rattle.semantics.specs.Lists.{All}
use Rattle.semantics.specs.Figure4.{Outputs}
use Rattle.semantics.specs.Tree.{Line}
use Rattle.semantics.specs.Walk.{lines_of}
use Rattle.semantics.specs.Runner.{Ran, value, ran_over}
use Rattle.semantics.specs.Answer.{inputs, walked, ran, Answer, answered, answer_of, run}
use Rattle.semantics.proofs.Environments.{FitsInputs, class_fits}
use Rattle.semantics.proofs.SymbolNumbers.{AnyNumber}
use Rattle.semantics.proofs.AcceptedTexts.{ran_correct, listed_symbols}
use Rattle.semantics.proofs.Renaming.{rename, Kept, outputs_renamed}
use Rattle.listing.specs.Bindings.{variables}
use Rattle.listing.specs.Print.{print_value}
use Rattle.listing.specs.Sample.{sample, line_names}
use Rattle.listing.specs.SampleDemand.{SampleCorrect, sample_job, RunsTo, SampleTextRuns}
use Rattle.listing.proofs.Samples.{all_two, sampled_correct}
use Rattle.listing.proofs.ValueReading.{AtomsOf, atoms_map, all_atoms_map, Nameable, value_words, inputs_words, placed_exp, ReadAs}
use Rattle.listing.proofs.JobReading.{part_words, tail_words, written_job, job_words, Writable, job_spells, JobAs, JobRead, job_read, TooLong, job_long}
use Rattle.listing.proofs.SampleAtoms.{job_covers, Known, word_of, symbol_word, known_nameable, atom_of_word, known_told, sample_known}

-- a property of symbols, for another
module _ (S U N : ℕ → Type 0) (f : (z : ℕ) → S z → U z) where
  exp_map : (c : Exp) → ExpNumbers S N c → ExpNumbers U N c
  exp_map (atm (sym z)) h = f z h
  exp_map (atm (avar n)) h = h
  exp_map (evar n) h = h
  exp_map (pair c d) h = (exp_map c h.0, exp_map d h.1)

  exps_map : (cs : List Exp) → Each (ExpNumbers S N) cs → Each (ExpNumbers U N) cs
  exps_map [] h = tt
  exps_map (c ∷ cs) h = (exp_map c h.0, exps_map cs h.1)

  term_map : (t : Term) → TermNumbers S N t → TermNumbers U N t
  term_map (call g ds) h = exps_map ds h
  term_map (conditional (eqa x y) s t) h = ((exp_map x h.0.0, exp_map y h.0.1), term_map s h.1, term_map t h.2)
  term_map (conditional (consp c m n x) s t) h = ((exp_map c h.0.0, h.0.1, h.0.2, h.0.3), term_map s h.1, term_map t h.2)
  term_map (result c) h = exp_map c h

  params_map : (ps : List Param) → Each (ParamNumbers S N) ps → Each (ParamNumbers U N) ps
  params_map [] h = tt
  params_map (pe x ∷ ps) h = (h.0, params_map ps h.1)
  params_map (pa x ∷ ps) h = (h.0, params_map ps h.1)

  prog_map : (p : Prog) → ProgNumbers S N p → ProgNumbers U N p
  prog_map [] h = tt
  prog_map (d ∷ p) h = ((params_map d.params h.0.0, term_map d.body h.0.1), prog_map p h.1)

-- Other numbers for atoms: those that the words have among the symbols of the program and the sample. Atoms without such a word come behind, so
-- that no two get one number.
module _ (ws : List Word) (m : ℕ) (after : List Word) where
  good : ℕ → Bool
  good z = is_among (word_of ws m z) after && eqb (atom_of_word ws m (word_of ws m z)) z

  renumber : ℕ → ℕ
  renumber z = cond (good z) (place (word_of ws m z) after) (length after + z)

  good_parts : (z : ℕ) → good z ≡ true → (place (word_of ws m z) after < length after) × (atom_of_word ws m (word_of ws m z) ≡ z)
  unfolding good
  good_parts z e =
      let r = and_both (is_among (word_of ws m z) after) (eqb (atom_of_word ws m (word_of ws m z)) z) e in
      (ltb-true (place (word_of ws m z) after) (length after) r.0, eqb-true (atom_of_word ws m (word_of ws m z)) z r.1)

  renumber_apart : (a b : ℕ) → renumber a ≡ renumber b → a ≡ b
  unfolding renumber
  renumber_apart a b e = pick (good a) refl (good b) refl e
    where
      same_word : (place (word_of ws m a) after < length after) → (place (word_of ws m b) after < length after) → place (word_of ws m a) after ≡ place (word_of ws m b) after → word_of ws m a ≡ word_of ws m b
      same_word k l q = inv (place_at_lem (word_of ws m a) after k) ∙ ap (λ (i : ℕ). get_or after i []) q ∙ place_at_lem (word_of ws m b) after l

      pick : (s : Bool) → good a ≡ s → (t : Bool) → good b ≡ t → cond s (place (word_of ws m a) after) (length after + a) ≡ cond t (place (word_of ws m b) after) (length after + b) → a ≡ b
      pick true x true y q = let k = good_parts a x in let l = good_parts b y in inv k.1 ∙ ap (atom_of_word ws m) (same_word k.0 l.0 q) ∙ l.1
      pick true x false y q = let k = good_parts a x in absurd (omega (arith, k.0))
      pick false x true y q = let l = good_parts b y in absurd (omega (arith, l.0))
      pick false x false y q = omega arith

  renumber_known : (z : ℕ) → Known ws m z → place (word_of ws m z) after < length after → renumber z ≡ place (word_of ws m z) after
  unfolding renumber good
  renumber_known z k l =
      let a : is_among (word_of ws m z) after ≡ true = lt-ltb (place (word_of ws m z) after) (length after) l in
      let b : eqb (atom_of_word ws m (word_of ws m z)) z ≡ true = eq-eqb (atom_of_word ws m (word_of ws m z)) z (known_told ws m z k) in
      ap (λ (t : Bool). cond t (place (word_of ws m z) after) (length after + z)) (ap₂ ◌&&◌ a b)

-- each atom that stands in a text has its word among the text's symbols
abbrev WordFound : List Word → Word → Type 0
WordFound after w = is_symbol w ≡ true → place w after < length after

each_left : {A : Type 0} (Q : A → Type 0) (xs ys : List A) → Each Q (xs ++ ys) → Each Q xs
each_left Q [] ys h = tt
each_left Q (x ∷ xs) ys h = (h.0, each_left Q xs ys h.1)

each_right : {A : Type 0} (Q : A → Type 0) (xs ys : List A) → Each Q (xs ++ ys) → Each Q ys
each_right Q [] ys h = h
each_right Q (x ∷ xs) ys h = each_right Q xs ys h.1

module _ (ns after : List Word) where
  abbrev AtomFound : ℕ → Type 0
  AtomFound z = place (39 ∷ get_or ns z []) after < length after

  value_found : (v : Value) → Each (WordFound after) (value_words ns v) → AtomsOf AtomFound v
  value_found (atom z) h = h.0 refl
  value_found (cons u v) h =
      let k = h.1.1 in
      let r = each_right (WordFound after) (value_words ns u) (value_words ns v ++ (txt ")" ∷ [])) k in
      (value_found u (each_left (WordFound after) (value_words ns u) (value_words ns v ++ (txt ")" ∷ [])) k), value_found v (each_left (WordFound after) (value_words ns v) (txt ")" ∷ []) r))

  inputs_found : (vs : List Value) → Each (WordFound after) (inputs_words ns vs) → Each (AtomsOf AtomFound) vs
  inputs_found [] h = tt
  inputs_found (v ∷ vs) h =
      (value_found v (each_left (WordFound after) (value_words ns v) (inputs_words ns vs) h), inputs_found vs (each_right (WordFound after) (value_words ns v) (inputs_words ns vs) h))

pieces_found : (f : Word → Bool) (after : List Word) (ps : List Piece) → Each (Found f after) ps → Each (λ w. f w ≡ true → place w after < length after) (words_of ps)
pieces_found f after [] h = tt
pieces_found f after (p ∷ ps) h = (h.0, pieces_found f after ps h.1)

module _ (ns : List Word) (n : ℕ) (c : GroundPair) (h : Writable ns n c) (before : List Word) where
  abbrev after : List Word
  after = symbols_of before (written_job ns n c)

  words_found : Each (WordFound after) (job_words ns n c ++ ([] ∷ []))
  unfolding symbols_of
  words_found = subst (Each (WordFound after)) (cut_spelled 0 (job_spells ns n c h))
      (pieces_found is_symbol after (cut 0 (written_job ns n c)) (firsts_found is_symbol before (cut 0 (written_job ns n c))))

  atoms_found : Each (AtomsOf (AtomFound ns after)) c.ins × AtomsOf (AtomFound ns after) c.out
  atoms_found =
      let w = (each_left (WordFound after) (job_words ns n c) ([] ∷ []) words_found).1.1 in
      let i = part_words "in" (inputs_words ns c.ins) in
      let o = part_words "out" (value_words ns c.out) in
      let a = (each_left (WordFound after) i (o ++ tail_words n) w).1.1 in
      let b = (each_left (WordFound after) o (tail_words n) (each_right (WordFound after) i (o ++ tail_words n) w)).1.1 in
      (inputs_found ns after c.ins (each_left (WordFound after) (inputs_words ns c.ins) (txt ")" ∷ []) a), value_found ns after c.out (each_left (WordFound after) (value_words ns c.out) (txt ")" ∷ []) b))

-- what is read and printed, with the other numbers
module _ (ρ : ℕ → ℕ) (apart : (a b : ℕ) → ρ a ≡ ρ b → a ≡ b) (N : ℕ → Type 0) (ns after others : List Word) where
  abbrev Renumbered : ℕ → Type 0
  Renumbered z = (ρ z ≡ place (39 ∷ get_or ns z []) after) × (place (39 ∷ get_or ns z []) after < length after)

  ground_placed : (θ : GroundSubst) (v : Value) → AtomsOf Renumbered v → ground_exp θ (placed_exp ns after others v) ≡ rename ρ apart N v
  ground_placed θ (atom z) h = ap atom (inv h.0)
  ground_placed θ (cons u v) h = ap₂ cons (ground_placed θ u h.0) (ground_placed θ v h.1)

  inputs_placed : (θ : GroundSubst) (vs : List Value) (cs : List SExp) → Each (AtomsOf Renumbered) vs → AllRead (ReadAs ns after others) vs cs → ground_all θ (exps cs) ≡ map (rename ρ apart N) vs
  inputs_placed θ [] [] h r = refl
  inputs_placed θ [] (c ∷ cs) h r = absurd r
  inputs_placed θ (v ∷ vs) [] h r = absurd r
  inputs_placed θ (v ∷ vs) (c ∷ cs) h r = ap₂ ◌∷◌ (ap (ground_exp θ) r.0.0 ∙ ground_placed θ v h.0) (inputs_placed θ vs cs h.1 r.1)

  print_renamed : (v : Value) → AtomsOf Renumbered v → print_value (map (λ w. drop 1 w) after) (rename ρ apart N v) ≡ print_value ns v
  print_renamed (atom z) h = ap (λ (w : Word). 39 ∷ w)
      (get_or-map (λ (w : Word). drop 1 w) after (ρ z) [] ∙ ap (λ (i : ℕ). drop 1 (get_or after i [])) h.0 ∙ ap (drop 1) (place_at_lem (39 ∷ get_or ns z []) after h.1))
  print_renamed (cons u v) h = ap₂ (λ (a b : List ℕ). txt "(cons " ++ a ++ (32 ∷ b) ++ (41 ∷ [])) (print_renamed u h.0) (print_renamed v h.1)

module _ (p j : List ℕ) (s : SProg) (t : SJob) (e : reading lister p j ≡ accepted s t) where
  abbrev before : List Word
  before = symbols_of [] p

  abbrev ws : List Word
  ws = symbols_of before j

  abbrev steps : ℕ
  steps = t.steps.num

  abbrev Correct : Line → Type 0
  Correct L = SampleCorrect (prog s) (class t) steps L

  abbrev Symbols : Line → Type 0
  Symbols L = ClassNumbers (SymbolOf ws) AnyNumber L.class

  of_job_lem : (z : ℕ) → SymbolOf before z → SymbolOf ws z
  of_job_lem z h = let x = symbols_more before j in subst (λ (l : List Word). SymbolOf l z) (inv x.1) (symbol_more before x.0 z h)

  -- the runner's answer for any job text, once the program is read
  run_is : (k : List ℕ) → run p k ≡ answer_of ran (with_job s (read_job runner s before k))
  unfolding run reading
  run_is k = ap (λ (x : Res SProg). answer_of ran (with_program (λ s. read_job runner s before k) x)) (accepted_program lister p j s t e)

  reading_is : (k : List ℕ) (u : SJob) → read_job runner s before k ≡ ok u → reading runner p k ≡ accepted s u
  unfolding reading
  reading_is k u q = ap (with_program (λ s. read_job runner s before k)) (accepted_program lister p j s t e) ∙ ap (with_job s) q

  module _ (L : Line) (C : Correct L) (K : Symbols L) where
    abbrev c : IOPair
    c = L.class.con

    abbrev m : ℕ
    m = length (variables c)

    abbrev ns : List Word
    ns = line_names (symbol_names p j) c

    abbrev text : List ℕ
    text = sample_job (symbol_names p j) steps c

    abbrev then : List Word
    then = symbols_of before text

    abbrev Runs : Answer Ran → Type 0
    Runs a = RunsTo (symbol_names p text) L.steps (print_value ns (sample c).out) a

    abbrev ρ : ℕ → ℕ
    ρ = renumber ws m then

    abbrev apart : (a b : ℕ) → ρ a ≡ ρ b → a ≡ b
    apart = renumber_apart ws m then

    -- the program's symbols keep their numbers
    kept : (z : ℕ) → SymbolOf before z → ρ z ≡ z
    kept z h =
        let x = symbols_more before text in
        let a : SymbolOf then z = subst (λ (l : List Word). SymbolOf l z) (inv x.1) (symbol_more before x.0 z h) in
        let y = symbols_more before j in
        let b : word_of ws m z ≡ get_or then z [] =
        symbol_word ws m z (of_job_lem z h) ∙ ap (λ (l : List Word). get_or l z []) y.1 ∙ get_or-append before y.0 [] z h.below
        ∙ inv (ap (λ (l : List Word). get_or l z []) x.1 ∙ get_or-append before x.0 [] z h.below) in
        let f : place (word_of ws m z) then ≡ z = ap (λ (w : Word). place w then) b ∙ a.first in
        renumber_known ws m then z (inl (of_job_lem z h)) (omega (arith, f, a.below)) ∙ f

    fits : FitsInputs (find (prog s) 0).params (sample c).ins
    fits = class_fits (find (prog s) 0).params (class t) (sample c).ins (sample c).out (accepted_passed lister p j s t e).fits C.of_job

    known : Each (AtomsOf (Known ws m)) (sample c).ins × AtomsOf (Known ws m) (sample c).out
    known = sample_known ws c K.0 K.1

    module _ (short : length text ≤ 8192) where
      small : m + length ws < 900000
      small = omega (arith, job_covers ns steps c, accepted_few lister p j s t e)

      writable : Writable ns steps (sample c)
      writable = (all_atoms_map (Known ws m) (Nameable ns) (known_nameable ws m small) (sample c).ins known.0, atoms_map (Known ws m) (Nameable ns) (known_nameable ws m small) (sample c).out known.1)

      abbrev R : ℕ → Type 0
      R = Renumbered ρ apart NameNumber ns then (names_of text)

      two : (v : Value) → AtomsOf (Known ws m) v → AtomsOf (AtomFound ns then) v → AtomsOf R v
      two (atom z) h l = (renumber_known ws m then z h l, l)
      two (cons u v) h l = (two u h.0 l.0, two v h.1 l.1)

      all_two_atoms : (vs : List Value) → Each (AtomsOf (Known ws m)) vs → Each (AtomsOf (AtomFound ns then)) vs → Each (AtomsOf R) vs
      all_two_atoms [] h l = tt
      all_two_atoms (v ∷ vs) h l = (two v h.0 l.0, all_two_atoms vs h.1 l.1)

      accepted_runs : (u : SJob) → read_job runner s before text ≡ ok u → JobAs ns steps (sample c) writable then (names_of text) u → Runs (answered (ran s u))
      accepted_runs u q a =
          let found = atoms_found ns steps (sample c) writable before in
          let ins = all_two_atoms (sample c).ins known.0 found.0 in
          let out = two (sample c).out known.1 found.1 in
          let i : inputs u ≡ map (rename ρ apart NameNumber) (sample c).ins = inputs_placed ρ apart NameNumber ns then (names_of text) _ (sample c).ins u.ins ins a.ins in
          let o = outputs_renamed ρ apart NameNumber (prog s) (prog_map (SymbolOf before) (Kept ρ apart NameNumber) NameNumber kept (prog s) (accepted_program_words lister p j s t e)) (sample c).ins L.steps (sample c).out C.outputs in
          let w = subst (λ (is : List Value). Outputs (prog s) is L.steps (rename ρ apart NameNumber (sample c).out)) (inv i) o in
          ended out (ran s u) ((ran_correct p text s u (reading_is text u q)).complete L.steps (rename ρ apart NameNumber (sample c).out) (omega (arith, C.within, a.steps)) w)
        where
          ended : AtomsOf R (sample c).out → (x : Ran) → (x ≡ value L.steps (rename ρ apart NameNumber (sample c).out)) ⊎ (x ≡ ran_over) → Runs (answered x)
          ended out x (inl q) = subst (λ (y : Ran). Runs (answered y)) (inv q) (refl, print_renamed ρ apart NameNumber ns then (names_of text) (sample c).out out)
          ended out x (inr q) = subst (λ (y : Ran). Runs (answered y)) (inv q) tt

      short_runs : (x : Res SJob) → read_job runner s before text ≡ x → JobRead ns steps (sample c) writable before x → Runs (answer_of ran (with_job s x))
      short_runs (ok u) q a = accepted_runs u q a
      short_runs (refused r) q a = inr a

      short_text : Runs (answer_of ran (with_job s (read_job runner s before text)))
      short_text = short_runs (read_job runner s before text) refl (job_read ns steps (sample c) writable s before (accepted_passed lister p j s t e).steps short fits)

    long_runs : (x : Res SJob) → TooLong x → Runs (answer_of ran (with_job s x))
    long_runs (ok u) a = absurd a
    long_runs (refused r) a = inl a

    line_runs : SampleTextRuns p j steps L
    line_runs = subst Runs (inv (run_is text)) (pick (leb (length text) 8192) refl)
      where
        pick : (b : Bool) → leb (length text) 8192 ≡ b → Runs (answer_of ran (with_job s (read_job runner s before text)))
        pick true q = short_text (leb-true (length text) 8192 q)
        pick false q = long_runs (read_job runner s before text) (job_long s before text q)

  -- "and so does the forward runner unless the sample passes a limit of 1, 5 or 21", from the bytes of the texts on
  pub sample_text_runs : All (SampleTextRuns p j t.steps.num) (lines_of (walked s t))
  sample_text_runs = all_two Correct Symbols (SampleTextRuns p j steps) line_runs (lines_of (walked s t)) (sampled_correct p j s t e)
      (listed_symbols p j s t e (SymbolOf ws) NameNumber VariableNumber (prog_map (SymbolOf before) (SymbolOf ws) NameNumber of_job_lem (prog s) (accepted_program_words lister p j s t e)) (accepted_job_words lister p j s t e))
