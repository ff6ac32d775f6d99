-- What the brackets say is where an expression, a condition or a term ends (specs/Twins/Ends.antt, specs/Twins/Placed.antt).
use Prim.Native.Nat.{ℕ, zero, suc, ◌+◌, ◌-◌, ◌≤◌, ◌<◌}
use Prim.Native.String.{String}
use mathlib.Core.Path.{◌≡◌, refl, subst, ◌∙◌}
use mathlib.Core.Bool.{Bool, true, false, ◌||◌}
use mathlib.Core.List.{List}
use native.Mathlib.Omega.{arith}
use native.Mathlib.Numerals.{add-one}
use native.Mathlib.Nat.{add_assoc}
use lib.Dec.{eqb, ltb}
use lib.ListN.{length, get_or, set, length-set}
use lib.Seq.{get_or-set_same, get_or-set_other}
use borrow.Author.Tests.{eqb-true, eqb-false, ltb-true, ltb-false, lt-leb}
use Rattle.expressions.specs.Expression.{Exp}
use Rattle.language.specs.Bytes.{txt}
use Rattle.language.specs.Words.{fits}
use Rattle.language.specs.Tokens.{Kind, Text, Token, key_of}
use Rattle.language.specs.Reader.{is}
use Rattle.language.specs.Program.{Condition, Term}
use Rattle.syntax.specs.Twins.Standing.{WordAt, NameAt}
use Rattle.syntax.specs.Twins.Placed.{ExpIn, symbol_in, cons_in, ExpsIn, ConditionIn, eqa_in, consp_in, TermIn, call_in, if_in, result_in}
use Rattle.syntax.specs.Twins.Placed as placed
use Rattle.words.specs.Twins.Marks.{cell_of}
use Rattle.syntax.specs.Twins.Ends.{opens, closes, close_from, past_at, ends_from}

-- a word that fits as a name is no bracket
abbrev pub Unbracketed : (ℕ → Token) → Type 0
Unbracketed tok = (i : ℕ) → (tok i).fit ≡ fits → (opens (λ j. (tok j).key) i ≡ false) × (closes (λ j. (tok j).key) i ≡ false)

module _ (tok : ℕ → Token) (n : ℕ) (names : Unbracketed tok) where
  abbrev pub from : ℕ → ℕ → ℕ → ℕ
  from f d i = close_from (λ j. (tok j).key) f d i

  -- behind the part: at no depth it is passed
  abbrev pub after : ℕ → ℕ → ℕ → ℕ
  after zero r k = k
  after (suc d) r k = from r (suc d) k

  key_is : (w : String) (i : ℕ) → WordAt tok n w i → (tok i).key ≡ key_of (txt w)
  key_is w i x = eqb-true (tok i).key (key_of (txt w)) x.key

  pub open_step : (w : String) (r d i : ℕ) → WordAt tok n w i → (eqb (key_of (txt w)) 1 || eqb (key_of (txt w)) 3) ≡ true → from (suc r) d i ≡ from r (d + 1) (i + 1)
  unfolding close_from
  open_step w r d i x e = rw (key_is w i x, e)

  pub word_step : (w : String) (r d i : ℕ) → WordAt tok n w i → (eqb (key_of (txt w)) 1 || eqb (key_of (txt w)) 3) ≡ false → (eqb (key_of (txt w)) 2 || eqb (key_of (txt w)) 4) ≡ false → from (suc r) d i ≡ from r d (i + 1)
  unfolding close_from
  word_step w r d i x e f = rw (key_is w i x, e, f)

  name_step : (k : Kind) (r d i : ℕ) → NameAt tok n k i → from (suc r) d i ≡ from r d (i + 1)
  unfolding close_from
  name_step k r d i x = let w = names i x.fit in rw (w.0, w.1)

  pub close_step : (w : String) (r d i : ℕ) → WordAt tok n w i → (eqb (key_of (txt w)) 1 || eqb (key_of (txt w)) 3) ≡ false → (eqb (key_of (txt w)) 2 || eqb (key_of (txt w)) 4) ≡ true → from (suc r) (suc d) i ≡ after d r (i + 1)
  unfolding close_from
  close_step w r zero i x e f = rw (key_is w i x, e, f)
  close_step w r (suc d) i x e f = let z : suc (suc d) - 1 ≡ suc d = omega arith in let y : 1 < suc (suc d) = omega arith in rw (key_is w i x, e, f, lt-leb (suc (suc d)) 1 y, z)

  pub exp_least : {text : Text} {i : ℕ} {c : Exp} {k : ℕ} → ExpIn tok n text i c k → i < k
  exp_least (symbol_in b x) = omega arith
  exp_least (placed.ExpIn.e_in b x) = omega arith
  exp_least (placed.ExpIn.a_in b x) = omega arith
  exp_least (cons_in o w c d e) = let x = exp_least c in let y = exp_least d in omega arith

  -- a bracket with two expressions behind its word
  two_past : (w : String) (i j k : ℕ) → WordAt tok n "(" i → WordAt tok n w (i + 1) → (eqb (key_of (txt w)) 1 || eqb (key_of (txt w)) 3) ≡ false → (eqb (key_of (txt w)) 2 || eqb (key_of (txt w)) 4) ≡ false →
      i + 2 < j → j < k → ((r d : ℕ) → from (j - (i + 2) + r) (suc d) (i + 2) ≡ from r (suc d) j) → ((r d : ℕ) → from (k - j + r) (suc d) j ≡ from r (suc d) k) → WordAt tok n ")" k →
      (r d : ℕ) → from (k + 1 - i + r) d i ≡ after d r (k + 1)
  two_past w i j k o y p q l m f g e r d =
      let z : k + 1 - i + r ≡ suc (suc (j - (i + 2) + (k - j + suc r))) = omega arith in
      rw (z, open_step "(" _ d i o refl, word_step w _ (d + 1) (i + 1) y p q, add_assoc i 1 1, add-one d, f (k - j + suc r) d, g (suc r) d, close_step ")" r d k e refl refl)

  pub exp_through : {text : Text} {i : ℕ} {c : Exp} {k : ℕ} → ExpIn tok n text i c k → (r d : ℕ) → from (k - i + r) (suc d) i ≡ from r (suc d) k
  exp_through {i} (symbol_in b x) r d = let z : i + 1 - i + r ≡ suc r = omega arith in rw z (name_step _ r (suc d) i x)
  exp_through {i} (placed.ExpIn.e_in b x) r d = let z : i + 1 - i + r ≡ suc r = omega arith in rw z (name_step _ r (suc d) i x)
  exp_through {i} (placed.ExpIn.a_in b x) r d = let z : i + 1 - i + r ≡ suc r = omega arith in rw z (name_step _ r (suc d) i x)
  exp_through {i} (cons_in {j = j} {k = k} o w c d e) r d' = two_past "cons" i j k o w refl refl (exp_least c) (exp_least d) (λ r d. exp_through c r d) (λ r d'. exp_through d r d') e r (suc d')

  exps_most : {i : ℕ} {cs : List Exp} {k : ℕ} → ExpsIn tok n i cs k → i ≤ k
  exps_most (placed.ExpsIn.none_in x) = omega arith
  exps_most (placed.ExpsIn.more_in b x xs) = let y = exp_least x in let z = exps_most xs in omega arith

  exps_through : {i : ℕ} {cs : List Exp} {k : ℕ} → ExpsIn tok n i cs k → (r d : ℕ) → from (k - i + r) (suc d) i ≡ from r (suc d) k
  exps_through {i} (placed.ExpsIn.none_in x) r d = let z : i - i + r ≡ r = omega arith in rw z
  exps_through {i} {k} (placed.ExpsIn.more_in {j = j} b x xs) r d =
      let y = exp_least x in let w = exps_most xs in let z : k - i + r ≡ j - i + (k - j + r) = omega arith in
      rw (z, exp_through x (k - j + r) d) (exps_through xs r d)

  closing : {i : ℕ} {cs : List Exp} {k : ℕ} → ExpsIn tok n i cs k → WordAt tok n "]" k
  closing (placed.ExpsIn.none_in x) = x
  closing (placed.ExpsIn.more_in b x xs) = closing xs

  pub condition_past : {i : ℕ} {q : Condition} {k : ℕ} → ConditionIn tok n i q k → (r d : ℕ) → from (k - i + r) d i ≡ after d r k
  condition_past {i} (eqa_in {j = j} {k = k} o w c d e) r d' = two_past "eqa?" i j k o w refl refl (exp_least c) (exp_least d) (exp_through c) (exp_through d) e r d'
  condition_past {i} (consp_in {j = j} o w c h t x e) r d =
      let l = exp_least c in
      let z : j + 4 - i + r ≡ suc (suc (j - (i + 2) + suc (suc (suc (suc r))))) = omega arith in
      rw (
        z,
        open_step "(" _ d i o refl,
        word_step "cons?" _ (d + 1) (i + 1) w refl refl,
        add_assoc i 1 1,
        add-one d,
        exp_through c (suc (suc (suc (suc r)))) d,
        name_step _ _ (suc d) j h,
        name_step _ _ (suc d) (j + 1) t,
        add_assoc j 1 1,
        name_step _ _ (suc d) (j + 2) x,
        add_assoc j 2 1,
        close_step ")" r d (j + 3) e refl refl,
        add_assoc j 3 1,
      )

  condition_least : {i : ℕ} {q : Condition} {k : ℕ} → ConditionIn tok n i q k → i < k
  condition_least (eqa_in o w c d e) = let x = exp_least c in let y = exp_least d in omega arith
  condition_least (consp_in o w c h t x e) = let y = exp_least c in omega arith

  term_least : {fs : List ℕ} {i : ℕ} {t : Term} {k : ℕ} → TermIn tok n fs i t k → i < k
  term_least (call_in o w f b x c) = let y = exps_most x in omega arith
  term_least (if_in o w q s u c) = let x = condition_least q in let y = term_least s in let z = term_least u in omega arith
  term_least (result_in x) = exp_least x

  call_past : {i k : ℕ} {cs : List Exp} → WordAt tok n "(" i → WordAt tok n "call" (i + 1) → (f : Kind) → NameAt tok n f (i + 2) → WordAt tok n "[" (i + 3) → ExpsIn tok n (i + 4) cs k → WordAt tok n ")" (k + 1) →
      (r d : ℕ) → from (k + 2 - i + r) d i ≡ after d r (k + 2)
  call_past {i} {k} o w f y b x c r d =
      let l = exps_most x in
      let z : k + 2 - i + r ≡ suc (suc (suc (suc (k - (i + 4) + suc (suc r))))) = omega arith in
      rw (
        z,
        open_step "(" _ d i o refl,
        word_step "call" _ (d + 1) (i + 1) w refl refl,
        add_assoc i 1 1,
        name_step f _ (d + 1) (i + 2) y,
        add_assoc i 2 1,
        open_step "[" _ (d + 1) (i + 3) b refl,
        add_assoc i 3 1,
        add-one d,
        add-one (suc d),
        exps_through x (suc (suc r)) (suc d),
        close_step "]" (suc r) (suc d) k (closing x) refl refl,
        close_step ")" r d (k + 1) c refl refl,
        add_assoc k 1 1,
      )

  if_past : {i j k m : ℕ} {q : Condition} → WordAt tok n "(" i → WordAt tok n "if" (i + 1) → ConditionIn tok n (i + 2) q j → j < k → k < m →
      ((r d : ℕ) → from (k - j + r) (suc d) j ≡ from r (suc d) k) → ((r d : ℕ) → from (m - k + r) (suc d) k ≡ from r (suc d) m) → WordAt tok n ")" m → (r d : ℕ) → from (m + 1 - i + r) d i ≡ after d r (m + 1)
  if_past {i} {j} {k} {m} o w q l p f g e r d =
      let y = condition_least q in
      let z : m + 1 - i + r ≡ suc (suc (j - (i + 2) + (k - j + (m - k + suc r)))) = omega arith in
      rw (z, open_step "(" _ d i o refl, word_step "if" _ (d + 1) (i + 1) w refl refl, add_assoc i 1 1, add-one d, condition_past q (k - j + (m - k + suc r)) (suc d), f (m - k + suc r) d, g (suc r) d, close_step ")" r d m e refl refl)

  term_through : {fs : List ℕ} {i : ℕ} {t : Term} {k : ℕ} → TermIn tok n fs i t k → (r d : ℕ) → from (k - i + r) (suc d) i ≡ from r (suc d) k
  term_through (call_in o w f b x c) r d = call_past o w _ f b x c r (suc d)
  term_through (if_in o w q s u c) r d = if_past o w q (term_least s) (term_least u) (λ r d. term_through s r d) (λ r d. term_through u r d) c r (suc d)
  term_through (result_in x) r d = exp_through x r d

  abbrev pub past : ℕ → ℕ
  past i = past_at (λ j. (tok j).key) n i

  pub whole : (i k : ℕ) → i < k → k ≤ n → is "(" (tok i) ≡ true → ((r d : ℕ) → from (k - i + r) d i ≡ after d r k) → past i ≡ k
  whole i k l m o f = let z : n - i ≡ k - i + (n - k) = omega arith in let y : i < n = omega arith in rw (lt-leb n i y, o, z) (f (n - k) 0)

  -- the index past an expression, a condition, a term
  pub exp_end : {text : Text} {i : ℕ} {c : Exp} {k : ℕ} → ExpIn tok n text i c k → past i ≡ k
  exp_end {i} (symbol_in b x) = rw (lt-leb n i x.below, b)
  exp_end {i} (placed.ExpIn.e_in b x) = rw (lt-leb n i x.below, b)
  exp_end {i} (placed.ExpIn.a_in b x) = rw (lt-leb n i x.below, b)
  exp_end {i} (cons_in {j = j} {k = k} o w c d e) =
      let y = e.below in let l = exp_least c in let m = exp_least d in
      whole i (k + 1) (omega arith) (omega arith) o.key (two_past "cons" i j k o w refl refl (exp_least c) (exp_least d) (exp_through c) (exp_through d) e)

  pub condition_end : {i : ℕ} {q : Condition} {k : ℕ} → k ≤ n → ConditionIn tok n i q k → past i ≡ k
  condition_end {i} m (eqa_in {k = k} o w c d e) = let l = exp_least c in let p = exp_least d in whole i (k + 1) (omega arith) m o.key (condition_past (eqa_in o w c d e))
  condition_end {i} m (consp_in {j = j} o w c h t x e) = let l = exp_least c in whole i (j + 4) (omega arith) m o.key (condition_past (consp_in o w c h t x e))

  pub term_end : {fs : List ℕ} {i : ℕ} {t : Term} {k : ℕ} → TermIn tok n fs i t k → past i ≡ k
  term_end {fs} {i} (call_in {k = k} o w f b x c) = let y = c.below in let l = exps_most x in whole i (k + 2) (omega arith) (omega arith) o.key (call_past o w _ f b x c)
  term_end {fs} {i} (if_in {m = m} o w q s u c) =
      let y = c.below in let l = term_least (if_in o w q s u c) in
      whole i (m + 1) (omega arith) (omega arith) o.key (if_past o w q (term_least s) (term_least u) (term_through s) (term_through u) c)
  term_end (result_in x) = exp_end x

more : (i j : ℕ) → i ≤ j → (i ≡ j → ⊥) → i + 1 ≤ j
more i j a q = go (ltb i j) refl
  where
    go : (t : Bool) → ltb i j ≡ t → i + 1 ≤ j
    go true e = let l = ltb-true i j e in omega arith
    go false e = let l = ltb-false i j e in let z : i ≡ j = omega arith in absurd (q z)

-- the cells hold, for each token, the index past what starts there
module _ (key : ℕ → ℕ) (n : ℕ) where
  ends_kept : (left i j : ℕ) (cells : List ℕ) → j < i → get_or (ends_from key n left i cells) j 0 ≡ get_or cells j 0
  unfolding ends_from
  ends_kept zero i j cells l = refl
  ends_kept (suc left) i j cells l = ends_kept left (i + 1) j _ (omega arith) ∙ get_or-set_other cells i j _ 0 (λ e. omega arith)

  pub ends_at : (left i j : ℕ) (cells : List ℕ) → i ≤ j → j < i + left → j < length cells → get_or (ends_from key n left i cells) j 0 ≡ cell_of (past_at key n j)
  unfolding ends_from
  ends_at zero i j cells a b l = let z : ⊥ = omega arith in absurd z
  ends_at (suc left) i j cells a b l =
      let z = length-set cells i (cell_of (past_at key n i)) in
      go (eqb i j) refl (λ h. ends_at left (i + 1) j (set cells i (cell_of (past_at key n i))) h (omega arith) (omega arith))
    where
      here : ℕ → Type 0
      here m = get_or (ends_from key n left (i + 1) (set cells i (cell_of (past_at key n i)))) m 0 ≡ cell_of (past_at key n m)

      go : (t : Bool) → eqb i j ≡ t → (i + 1 ≤ j → here j) → here j
      go true e f =
          let q = eqb-true i j e in let k : i < length cells = omega arith in
          subst here q (ends_kept left (i + 1) i _ (omega arith) ∙ get_or-set_same cells i _ 0 k)
      go false e f = let q = eqb-false i j e in f (more i j a q)
