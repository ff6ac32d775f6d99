-- The atoms of a sample and their names: each is a symbol of the texts or the new atom of one of the line's variables, and has a name that may
-- stand in a text and that tells it.
use Prim.Native.Nat.{ℕ, suc, ◌+◌, ◌≤◌, ◌<◌}
use mathlib.Core.Path.{◌≡◌, refl, ap, ◌∙◌, sym as inv}
use mathlib.Core.Bool.{Bool, true, false, cond, ◌||◌, false≢true, true≢false}
use mathlib.Core.List.{List, [], ◌∷◌, ◌++◌, map}
use mathlib.Core.Logic.{◌⊎◌, inl, inr}
use native.Mathlib.Omega.{arith}
use lib.ListN.{length, length-append, length-map, get_or, drop, get_or-map}
use borrow.Author.Tests.{ltb-true, lt-ltb}
use Rattle.expressions.specs.Expression.{sym, avar, Exp, atm, evar, pair, nodes, nodes_all}
use Rattle.expressions.specs.Substitution.{ground_exp, ground_all}
use Rattle.expressions.specs.Class.{IOPair}
use Rattle.expressions.proofs.Predicates.{All}
use Rattle.expressions.proofs.Tests.{eqb_same}
use Rattle.expressions.proofs.Numbers.{ExpNumbers}
use Rattle.language.specs.Bytes.{txt}
use Rattle.language.specs.Words.{Word, same, name_fit, value}
use Rattle.language.specs.Tokens.{place, is_among}
use Rattle.language.proofs.Tests.{is_false}
use Rattle.language.proofs.TokenNumbers.{placed, same_self}
use Rattle.language.proofs.SymbolWords.{SymbolOf, same_word}
use Rattle.semantics.proofs.SymbolNumbers.{AnyNumber}
use Rattle.listing.specs.Bindings.{same as same_exp, has_variable, add_variable, variables_of, variables_of_all, variables}
use Rattle.listing.specs.Print.{digits, print_value, print_inputs}
use Rattle.listing.specs.Sample.{place_of, sampling, sample, name_q, free_numbers, sample_names}
use Rattle.listing.proofs.Numerals.{written, digits_named, digits_short, name_fits}
use Rattle.listing.proofs.FreeNames.{index_of, free_number, name_low, name_high, new_name_lem}
use Rattle.listing.proofs.ValueReading.{AtomsOf, Nameable}
use Rattle.listing.proofs.JobReading.{job_tail, written_job, bytes_grouped}

-- a variable has a place among those of the line
abbrev pub In : List Exp → Exp → Type 0
In ws v = place_of v ws < length ws

place_keep : (v : Exp) (ws more : List Exp) → In ws v → place_of v (ws ++ more) ≡ place_of v ws
place_keep v [] more l = absurd (omega arith)
place_keep v (w ∷ ws) more l = go (same_exp w v) l (place_keep v ws more)
  where
    go : (t : Bool) → cond t 0 (suc (place_of v ws)) < suc (length ws) → (In ws v → place_of v (ws ++ more) ≡ place_of v ws) → cond t 0 (suc (place_of v (ws ++ more))) ≡ cond t 0 (suc (place_of v ws))
    go true l ih = refl
    go false l ih = ap suc (ih (omega arith))

pub has_in : (v : Exp) (ws : List Exp) → has_variable v ws ≡ true → In ws v
has_in v [] h = absurd (false≢true h)
has_in v (w ∷ ws) h = go (same_exp w v) h (has_in v ws)
  where
    go : (t : Bool) → (t || has_variable v ws) ≡ true → (has_variable v ws ≡ true → In ws v) → cond t 0 (suc (place_of v ws)) < suc (length ws)
    go true h ih = omega arith
    go false h ih = omega (arith, ih h)

last_in : (v : Exp) → same_exp v v ≡ true → (ws : List Exp) → In (ws ++ (v ∷ [])) v
last_in v e [] = rw e (omega arith)
last_in v e (w ∷ ws) = go (same_exp w v) (last_in v e ws)
  where
    go : (t : Bool) → In (ws ++ (v ∷ [])) v → cond t 0 (suc (place_of v (ws ++ (v ∷ [])))) < suc (length (ws ++ (v ∷ [])))
    go true l = omega arith
    go false l = omega arith

add_in : (v : Exp) → same_exp v v ≡ true → (ws : List Exp) → In (add_variable v ws) v
add_in v e ws = go (has_variable v ws) refl
  where
    go : (t : Bool) → has_variable v ws ≡ t → In (cond t ws (ws ++ (v ∷ []))) v
    go true h = has_in v ws h
    go false h = last_in v e ws

add_keeps : (w v : Exp) (ws : List Exp) → In ws v → In (add_variable w ws) v
add_keeps w v ws l = go (has_variable w ws)
  where
    go : (t : Bool) → In (cond t ws (ws ++ (w ∷ []))) v
    go true = l
    go false = omega (arith, place_keep v ws (w ∷ []) l, length-append ws (w ∷ []))

of_keeps : (c v : Exp) (ws : List Exp) → In ws v → In (variables_of c ws) v
of_keeps (atm (sym z)) v ws l = l
of_keeps (atm (avar n)) v ws l = add_keeps (atm (avar n)) v ws l
of_keeps (evar n) v ws l = add_keeps (evar n) v ws l
of_keeps (pair c d) v ws l = of_keeps d v (variables_of c ws) (of_keeps c v ws l)

all_keeps : (cs : List Exp) (v : Exp) (ws : List Exp) → In ws v → In (variables_of_all cs ws) v
all_keeps [] v ws l = l
all_keeps (c ∷ cs) v ws l = all_keeps cs v (variables_of c ws) (of_keeps c v ws l)

-- of each variable of an expression
abbrev VarsIn : List Exp → Exp → Type 0
VarsIn ws (atm (sym z)) = Unit {0}
VarsIn ws (atm (avar n)) = In ws (atm (avar n))
VarsIn ws (evar n) = In ws (evar n)
VarsIn ws (pair c d) = VarsIn ws c × VarsIn ws d

vars_more : (us ws : List Exp) → ((v : Exp) → In us v → In ws v) → (c : Exp) → VarsIn us c → VarsIn ws c
vars_more us ws f (atm (sym z)) h = tt
vars_more us ws f (atm (avar n)) h = f (atm (avar n)) h
vars_more us ws f (evar n) h = f (evar n) h
vars_more us ws f (pair c d) h = (vars_more us ws f c h.0, vars_more us ws f d h.1)

of_in : (c : Exp) (ws : List Exp) → VarsIn (variables_of c ws) c
of_in (atm (sym z)) ws = tt
of_in (atm (avar n)) ws = add_in (atm (avar n)) (eqb_same n) ws
of_in (evar n) ws = add_in (evar n) (eqb_same n) ws
of_in (pair c d) ws = (vars_more (variables_of c ws) (variables_of d (variables_of c ws)) (λ v. of_keeps d v (variables_of c ws)) c (of_in c ws), of_in d (variables_of c ws))

all_more : (us ws : List Exp) → ((v : Exp) → In us v → In ws v) → (cs : List Exp) → All (VarsIn us) cs → All (VarsIn ws) cs
all_more us ws f [] h = tt
all_more us ws f (c ∷ cs) h = (vars_more us ws f c h.0, all_more us ws f cs h.1)

all_in : (cs : List Exp) (ws : List Exp) → All (VarsIn (variables_of_all cs ws)) cs
all_in [] ws = tt
all_in (c ∷ cs) ws = (vars_more (variables_of c ws) (variables_of_all cs (variables_of c ws)) (λ v. all_keeps cs v (variables_of c ws)) c (of_in c ws), all_in cs (variables_of c ws))

-- no more variables than nodes, and no more nodes than bytes
add_few : (v : Exp) (ws : List Exp) → length (add_variable v ws) ≤ suc (length ws)
add_few v ws = go (has_variable v ws)
  where
    go : (t : Bool) → length (cond t ws (ws ++ (v ∷ []))) ≤ suc (length ws)
    go true = omega arith
    go false = omega (arith, length-append ws (v ∷ []))

of_few : (c : Exp) (ws : List Exp) → length (variables_of c ws) ≤ length ws + nodes c
of_few (atm (sym z)) ws = omega arith
of_few (atm (avar n)) ws = omega (arith, add_few (atm (avar n)) ws)
of_few (evar n) ws = omega (arith, add_few (evar n) ws)
of_few (pair c d) ws = omega (arith, of_few c ws, of_few d (variables_of c ws))

all_few : (cs ws : List Exp) → length (variables_of_all cs ws) ≤ length ws + nodes_all cs
all_few [] ws = omega arith
all_few (c ∷ cs) ws = omega (arith, of_few c ws, all_few cs (variables_of c ws))

module _ (names : List Word) (vs : List Exp) where
  printed_long : (c : Exp) → nodes c ≤ length (print_value names (ground_exp (sampling vs) c))
  printed_long (atm x) = omega arith
  printed_long (evar n) = omega arith
  printed_long (pair c d) =
      let pc = print_value names (ground_exp (sampling vs) c) in
      let pd = print_value names (ground_exp (sampling vs) d) in
      omega (arith, printed_long c, printed_long d, length-append (pc ++ (32 ∷ pd)) (41 ∷ []), length-append pc (32 ∷ pd))

  inputs_long : (cs : List Exp) → nodes_all cs ≤ length (print_inputs names (ground_all (sampling vs) cs))
  inputs_long [] = omega arith
  inputs_long (c ∷ cs) = omega (arith, printed_long c, inputs_long cs, length-append (print_value names (ground_exp (sampling vs) c)) (print_inputs names (ground_all (sampling vs) cs)))

pub job_covers : (names : List Word) (n : ℕ) (c : IOPair) → length (variables c) ≤ length (written_job names n (sample c))
job_covers names n c =
    let vs = variables c in
    let d = print_value names (ground_exp (sampling vs) c.out) in
    let is = print_inputs names (ground_all (sampling vs) c.ins) in
    let e : length (written_job names n (sample c)) ≡ length (txt "(job (in" ++ (is ++ (txt ") (out " ++ (d ++ (41 ∷ job_tail n))))) = ap (λ (l : List ℕ). length l) (bytes_grouped names n (sample c)) in
    omega (arith, e, length-append is (txt ") (out " ++ (d ++ (41 ∷ job_tail n))), length-append d (41 ∷ job_tail n), of_few c.out (variables_of_all c.ins []), all_few c.ins [], printed_long names vs c.out, inputs_long names vs c.ins)

-- ws are the words of the symbols of the texts, m is how many variables the line has
module _ (ws : List Word) (m : ℕ) where
  -- a symbol of the texts, or the new atom of a variable
  abbrev pub Known : ℕ → Type 0
  Known z = SymbolOf ws z ⊎ ((k : ℕ) × (k < m) × (z ≡ 1024 + k))

  abbrev pub symbol_names_of : List Word
  symbol_names_of = map (λ w. drop 1 w) ws

  abbrev pub names : List Word
  names = sample_names symbol_names_of m

  -- the word that an atom is printed by
  abbrev pub word_of : ℕ → Word
  word_of z = 39 ∷ get_or names z []

  pub symbol_name_lem : (z : ℕ) → SymbolOf ws z → get_or names z [] ≡ drop 1 (get_or ws z [])
  symbol_name_lem z h = name_low symbol_names_of m z h.small ∙ get_or-map (λ (w : Word). drop 1 w) ws z []

  pub symbol_word : (z : ℕ) → SymbolOf ws z → word_of z ≡ get_or ws z []
  symbol_word z h = ap (λ (w : Word). 39 ∷ w) (symbol_name_lem z h) ∙ inv h.quoted

  new_word : (z k : ℕ) → k < m → z ≡ 1024 + k → get_or names z [] ≡ name_q (free_number symbol_names_of m k)
  new_word z k l e = ap (λ (i : ℕ). get_or names i []) e ∙ name_high symbol_names_of m k l

  pub known_nameable : m + length ws < 900000 → (z : ℕ) → Known z → Nameable names z
  known_nameable b z (inl h) = ap name_fit (symbol_name_lem z h) ∙ h.fit
  known_nameable b z (inr (k, l, e)) =
      let f = free_number symbol_names_of m k in
      let r = new_name_lem symbol_names_of m k l in
      let s : length symbol_names_of ≡ length ws = length-map ws (λ (w : Word). drop 1 w) in
      let short : length (digits f) ≤ 6 = digits_short 5 f (omega (arith, r.most, s)) in
      ap name_fit (new_word z k l e) ∙ name_fits (name_q f) refl (refl, digits_named f) (omega arith)

  -- what the word tells
  abbrev pub atom_of_word : Word → ℕ
  atom_of_word w = cond (is_among w ws) (place w ws) (1024 + index_of (value (drop 2 w)) (free_numbers symbol_names_of (m + length symbol_names_of) 1))

  pub known_told : (z : ℕ) → Known z → atom_of_word (word_of z) ≡ z
  known_told z (inl h) =
      let e = symbol_word z h in
      let a : is_among (get_or ws z []) ws ≡ true = lt-ltb (place (get_or ws z []) ws) (length ws) (omega (arith, h.first, h.below)) in
      ap atom_of_word e ∙ rw a h.first
  known_told z (inr (k, l, e)) =
      let f = free_number symbol_names_of m k in
      let r = new_name_lem symbol_names_of m k l in
      let w : word_of z ≡ 39 ∷ name_q f = ap (λ (v : Word). 39 ∷ v) (new_word z k l e) in
      let a : is_among (39 ∷ name_q f) ws ≡ false = is_false (is_among (39 ∷ name_q f) ws) (λ q. true≢false (inv (among_drop (39 ∷ name_q f) ws q) ∙ r.new)) in
      ap atom_of_word w ∙ rw (a, (written f).value) (ap (λ (i : ℕ). 1024 + i) r.index ∙ inv e)
    where
      drop_place : (w : Word) (us : List Word) → place w us < length us → place (drop 1 w) (map (λ v. drop 1 v) us) < length us
      drop_place w [] h = absurd (omega arith)
      drop_place w (u ∷ us) h = go (same u w) refl h (same (drop 1 u) (drop 1 w)) refl (drop_place w us)
        where
          go : (s : Bool) → same u w ≡ s → placed s (place w us) < suc (length us) → (t : Bool) → same (drop 1 u) (drop 1 w) ≡ t →
              (place w us < length us → place (drop 1 w) (map (λ v. drop 1 v) us) < length us) → placed t (place (drop 1 w) (map (λ v. drop 1 v) us)) < suc (length us)
          go s e h true f ih = omega arith
          go true e h false f ih = absurd (true≢false (inv (ap (λ (v : Word). same (drop 1 v) (drop 1 w)) (same_word u w e) ∙ same_self (drop 1 w)) ∙ f))
          go false e h false f ih = omega (arith, ih (omega arith))

      among_drop : (w : Word) (us : List Word) → is_among w us ≡ true → is_among (drop 1 w) (map (λ v. drop 1 v) us) ≡ true
      among_drop w us q =
          let s : length (map (λ (v : Word). drop 1 v) us) ≡ length us = length-map us (λ (v : Word). drop 1 v) in
          lt-ltb (place (drop 1 w) (map (λ v. drop 1 v) us)) (length (map (λ (v : Word). drop 1 v) us)) (omega (arith, drop_place w us (ltb-true (place w us) (length us) q), s))

-- each atom of a sample is known
exp_known : (ws : List Word) (vs : List Exp) (c : Exp) → ExpNumbers (SymbolOf ws) AnyNumber c → VarsIn vs c → AtomsOf (Known ws (length vs)) (ground_exp (sampling vs) c)
exp_known ws vs (atm (sym z)) h k = inl h
exp_known ws vs (atm (avar n)) h k = inr (place_of (atm (avar n)) vs, k, refl)
exp_known ws vs (evar n) h k = inr (place_of (evar n) vs, k, refl)
exp_known ws vs (pair c d) h k = (exp_known ws vs c h.0 k.0, exp_known ws vs d h.1 k.1)

exps_known : (ws : List Word) (vs cs : List Exp) → All (ExpNumbers (SymbolOf ws) AnyNumber) cs → All (VarsIn vs) cs → All (AtomsOf (Known ws (length vs))) (ground_all (sampling vs) cs)
exps_known ws vs [] h k = tt
exps_known ws vs (c ∷ cs) h k = (exp_known ws vs c h.0 k.0, exps_known ws vs cs h.1 k.1)

pub sample_known : (ws : List Word) (c : IOPair) → All (ExpNumbers (SymbolOf ws) AnyNumber) c.ins → ExpNumbers (SymbolOf ws) AnyNumber c.out →
    All (AtomsOf (Known ws (length (variables c)))) (sample c).ins × AtomsOf (Known ws (length (variables c))) (sample c).out
sample_known ws c h k =
    let us = variables_of_all c.ins [] in (
      exps_known ws (variables c) c.ins h (all_more us (variables c) (λ v. of_keeps c.out v us) c.ins (all_in c.ins [])),
      exp_known ws (variables c) c.out k (of_in c.out us),
    )
