-- No reader goes past a token that fits nowhere: what stands behind it does not count. So a list of tokens may be cut behind the first such,
-- and its numbers may be left out.
use Prim.Native.Nat.{ℕ, zero, suc, ◌+◌, ◌-◌, ◌≤◌, ◌<◌}
use Prim.Native.String.{String}
use mathlib.Core.Path.{◌≡◌, refl, ap, ap₂, ◌∙◌, sym}
use mathlib.Core.Bool.{Bool, true, false, cond, ◌&&◌, true≢false}
use mathlib.Core.Logic.{◌⊎◌, inl, inr}
use native.Mathlib.Omega.{arith}
use native.Mathlib.Decide.{ℕ_discrete}
use lib.Dec.{eqb, ltb}
use borrow.Author.Tests.{eqb-true, ltb-true}
use Rattle.expressions.proofs.Tests.{and_both}
use Rattle.language.specs.Words.{Fit, fits, broken, long, many}
use Rattle.language.specs.Bytes.{txt}
use Rattle.language.specs.Tokens.{key_of, Kind, symbol, ename, aname, evariable, avariable, plain, same_kind, Token}
use Rattle.language.specs.Reader.{is, is_a, fit_if, roomed, one_fit}
use Rattle.refusals.specs.declared.refusal.Refusal.{Refusal}
use Rattle.std.specs.Prelude.{Result, Ok, Err}
use Rattle.refusals.specs.Faults.{fault}
use Rattle.grammar.specs.Twins.Positions as at
use Rattle.grammar.specs.Twins.Positions.{on_past, judged_at, seq_p, pick_p, take_p, wrong_p, choose_p, many_p, up_to_p}
use Rattle.syntax.proofs.Standing.{roomed_fits}

-- two tokens that differ in their numbers at most
pub record Alike (t u : Token) : Type 0 where
  pub key : t.key ≡ u.key
  pub kind : t.kind ≡ u.kind
  pub fit : t.fit ≡ u.fit
  pub at : t.at ≡ u.at
  pub over : t.over ≡ u.over

pub past_inj : (i k : ℕ) → ◌≡◌ {A = Result ℕ Refusal} (Ok i) (Ok k) → i ≡ k
past_inj i k e = cc

pub refused_past : {A : Type 0} (r : Refusal) (k : ℕ) → Err r ≡ Ok k → A
refused_past r k e = let z : ◌≡◌ {A = ℕ} 0 1 = cc in let x : ⊥ = omega arith in absurd x

judged_past : (f : Fit) (b : Bool) (o i k : ℕ) → judged_at f b o i ≡ Ok k → k ≡ i + 1
judged_past broken b o i k e = refused_past _ k e
judged_past long b o i k e = refused_past _ k e
judged_past many b o i k e = refused_past _ k e
judged_past fits true o i k e = refused_past _ k e
judged_past fits false o i k e = sym (past_inj (i + 1) k e)

judged_fits : (f : Fit) (b : Bool) (o i k : ℕ) → judged_at f b o i ≡ Ok k → (f ≡ fits) × (b ≡ false)
judged_fits broken b o i k e = refused_past _ k e
judged_fits long b o i k e = refused_past _ k e
judged_fits many b o i k e = refused_past _ k e
judged_fits fits true o i k e = refused_past _ k e
judged_fits fits false o i k e = (refl, refl)

-- a test of a token that its number does not decide
abbrev Blind : {A : Type 0} → (Token → A) → Type 0
Blind f = (t u : Token) → Alike t u → f t ≡ f u

-- a token that is not passed where it fits so
abbrev Refuses : Fit → Bool → Type 0
Refuses f over = f ≡ fits → over ≡ false → ⊥

-- a fixed word that a reader may ask for: not the end
abbrev proper : String → Bool
proper w = ltb 0 (key_of (txt w)) && ltb (key_of (txt w)) 18

-- a token that no reader passes
pub record Stops (t : Token) : Type 0 where
  pub word : (room : ℕ) (w : String) → proper w ≡ true → Refuses (roomed room (fit_if (is w t))) t.over
  pub kind : (room : ℕ) (k : Kind) → Refuses (one_fit room k t) t.over

-- one too many
pub stops_over : (t : Token) → t.over ≡ true → Stops t
stops_over t o = record { word = λ room w e f b. true≢false (sym o ∙ b); kind = λ room k f b. true≢false (sym o ∙ b) }

fit_if_fits : (b : Bool) → fit_if b ≡ fits → b ≡ true
fit_if_fits true e = refl
fit_if_fits false e = let z : ◌≡◌ {A = ℕ} 0 1 = cc in let x : ⊥ = omega arith in absurd x

fit_of_kind : (b : Bool) (f : Fit) → cond b f broken ≡ fits → f ≡ fits
fit_of_kind true f e = e
fit_of_kind false f e = let z : ◌≡◌ {A = ℕ} 0 1 = cc in let x : ⊥ = omega arith in absurd x

-- a word that does not fit and is no fixed word (18), or the end (0)
pub stops_unfit : (t : Token) → (t.fit ≡ fits → ⊥) → ((t.key ≡ 18) ⊎ (t.key ≡ 0)) → Stops t
stops_unfit t u s = record {
  word = λ room w e f b. clash (key_of (txt w)) (eqb-true t.key (key_of (txt w)) (fit_if_fits (is w t) (roomed_fits room (fit_if (is w t)) f))) (and_both (ltb 0 (key_of (txt w))) (ltb (key_of (txt w)) 18) e) s;
  kind = λ room k f b. u (fit_of_kind (is_a k t) t.fit (roomed_fits room (cond (is_a k t) t.fit broken) f));
}
  where
    clash : (k : ℕ) → t.key ≡ k → (ltb 0 k ≡ true) × (ltb k 18 ≡ true) → ((t.key ≡ 18) ⊎ (t.key ≡ 0)) → ⊥
    clash k e h (inl z) = omega (arith, ltb-true k 18 h.1)
    clash k e h (inr z) = omega (arith, ltb-true 0 k h.0)

-- Up to j the two are alike, and no reader passes j.
module _ (tok tok' : ℕ → Token) (j : ℕ) (alike : (i : ℕ) → i ≤ j → Alike (tok i) (tok' i)) (stops : Stops (tok j)) where
  -- the same answer from each place up to j, which is then at j at most
  pub record Same (p p' : ℕ → Result ℕ Refusal) : Type 0 where
    pub same : (i : ℕ) → i ≤ j → p i ≡ p' i
    pub within : (i k : ℕ) → i ≤ j → p i ≡ Ok k → k ≤ j
    pub ahead : (i k : ℕ) → i ≤ j → p i ≡ Ok k → i ≤ k

  pub same_seq : (p p' q q' : ℕ → Result ℕ Refusal) → Same p p' → Same q q' → Same (seq_p p q) (seq_p p' q')
  same_seq p p' q q' a b = record { same = λ i l. go i l (p i) refl; within = λ i k l e. in_it i k l (p i) refl e; ahead = λ i k l e. past i k l (p i) refl e }
    where
      go : (i : ℕ) → i ≤ j → (g : Result ℕ Refusal) → p i ≡ g → on_past q (p i) ≡ on_past q' (p' i)
      go i l (Ok k) e = ap (on_past q) e ∙ b.same k (a.within i k l e) ∙ ap (on_past q') (sym e ∙ a.same i l)
      go i l (Err r) e = ap (on_past q) e ∙ ap (on_past q') (sym e ∙ a.same i l)

      in_it : (i k : ℕ) → i ≤ j → (g : Result ℕ Refusal) → p i ≡ g → on_past q (p i) ≡ Ok k → k ≤ j
      in_it i k l (Ok m) e z = b.within m k (a.within i m l e) (ap (on_past q) (sym e) ∙ z)
      in_it i k l (Err r) e z = refused_past r k (ap (on_past q) (sym e) ∙ z)

      past : (i k : ℕ) → i ≤ j → (g : Result ℕ Refusal) → p i ≡ g → on_past q (p i) ≡ Ok k → i ≤ k
      past i k l (Ok m) e z =
          let x = a.ahead i m l e in
          let y = b.ahead m k (a.within i m l e) (ap (on_past q) (sym e) ∙ z) in
          omega arith
      past i k l (Err r) e z = refused_past r k (ap (on_past q) (sym e) ∙ z)

  pub same_choose : (f : Token → Bool) → Blind f → (p p' q q' : ℕ → Result ℕ Refusal) → Same p p' → Same q q' → Same (choose_p tok f p q) (choose_p tok' f p' q')
  same_choose f h p p' q q' a b = record { same = λ i l. go i l (f (tok i)) refl; within = λ i k l e. in_it i k l (f (tok i)) refl e; ahead = λ i k l e. past i k l (f (tok i)) refl e }
    where
      go : (i : ℕ) → i ≤ j → (t : Bool) → f (tok i) ≡ t → pick_p (f (tok i)) p q i ≡ pick_p (f (tok' i)) p' q' i
      go i l true e = ap (λ t. pick_p t p q i) e ∙ a.same i l ∙ ap (λ t. pick_p t p' q' i) (sym e ∙ h (tok i) (tok' i) (alike i l))
      go i l false e = ap (λ t. pick_p t p q i) e ∙ b.same i l ∙ ap (λ t. pick_p t p' q' i) (sym e ∙ h (tok i) (tok' i) (alike i l))

      in_it : (i k : ℕ) → i ≤ j → (t : Bool) → f (tok i) ≡ t → pick_p (f (tok i)) p q i ≡ Ok k → k ≤ j
      in_it i k l true e z = a.within i k l (ap (λ t. pick_p t p q i) (sym e) ∙ z)
      in_it i k l false e z = b.within i k l (ap (λ t. pick_p t p q i) (sym e) ∙ z)

      past : (i k : ℕ) → i ≤ j → (t : Bool) → f (tok i) ≡ t → pick_p (f (tok i)) p q i ≡ Ok k → i ≤ k
      past i k l true e z = a.ahead i k l (ap (λ t. pick_p t p q i) (sym e) ∙ z)
      past i k l false e z = b.ahead i k l (ap (λ t. pick_p t p q i) (sym e) ∙ z)

  pub same_past : Same Ok Ok
  same_past = record { same = λ i l. refl; within = λ i k l e. let z = past_inj i k e in omega arith; ahead = λ i k l e. let z = past_inj i k e in omega arith }

  pub same_wrong : Same (wrong_p tok) (wrong_p tok')
  same_wrong = record { same = λ i l. ap (fault 3) (alike i l).at; within = λ i k l e. refused_past _ k e; ahead = λ i k l e. refused_past _ k e }

  -- a token taken is one before j
  pub same_take : (f : Token → Fit) → Blind f → Refuses (f (tok j)) (tok j).over → Same (take_p tok f) (take_p tok' f)
  same_take f h r = record {
    same = λ i l. let a = alike i l in ap₂ (λ x b. judged_at x b (tok i).at i) (h (tok i) (tok' i) a) a.over ∙ ap (λ o. judged_at (f (tok' i)) (tok' i).over o i) a.at;
    within = λ i k l e. step i k l (f (tok i)) refl (tok i).over refl e;
    ahead = λ i k l e. let z = judged_past (f (tok i)) (tok i).over (tok i).at i k e in omega arith;
  }
    where
      step : (i k : ℕ) → i ≤ j → (x : Fit) → f (tok i) ≡ x → (b : Bool) → (tok i).over ≡ b → judged_at (f (tok i)) (tok i).over (tok i).at i ≡ Ok k → k ≤ j
      step i k l x e b o z = go (ℕ_discrete i j)
        where
          w : k ≡ i + 1
          w = judged_past (f (tok i)) (tok i).over (tok i).at i k z

          go : Dec (i ≡ j) → k ≤ j
          go (no n) = omega (arith, w)
          go (yes y) =
              let p = judged_fits (f (tok i)) (tok i).over (tok i).at i k z in
              absurd (r (ap (λ n. f (tok n)) (sym y) ∙ p.0) (ap (λ n. (tok n).over) (sym y) ∙ p.1))

  -- lists of items: with as many turns as there are tokens up to j, however many more
  pub same_many : (n m : ℕ) (f : Token → Bool) → Blind f → (p p' : ℕ → Result ℕ Refusal) → Same p p' → ((i k : ℕ) → i ≤ j → p i ≡ Ok k → i < k) → (i : ℕ) → i ≤ j → j < i + n → j < i + m →
      (many_p tok n f p i ≡ many_p tok' m f p' i) × ((k : ℕ) → many_p tok n f p i ≡ Ok k → (k ≤ j) × (i ≤ k))
  same_many zero m f h p p' a s i l x y = let z : ⊥ = omega arith in absurd z
  same_many (suc n) zero f h p p' a s i l x y = let z : ⊥ = omega arith in absurd z
  same_many (suc n) (suc m) f h p p' a s i l x y = test (λ q v c d. same_many n m f h p p' a s q v c d) (f (tok i)) refl
    where
      Again : Type 0
      Again = (q : ℕ) → q ≤ j → j < q + n → j < q + m → (many_p tok n f p q ≡ many_p tok' m f p' q) × ((k : ℕ) → many_p tok n f p q ≡ Ok k → (k ≤ j) × (q ≤ k))

      item : Again → (g : Result ℕ Refusal) → p i ≡ g → (on_past (many_p tok n f p) (p i) ≡ on_past (many_p tok' m f p') (p' i)) × ((k : ℕ) → on_past (many_p tok n f p) (p i) ≡ Ok k → (k ≤ j) × (i ≤ k))
      item again (Err r) e = (ap (on_past (many_p tok n f p)) e ∙ ap (on_past (many_p tok' m f p')) (sym e ∙ a.same i l), λ k z. refused_past r k (ap (on_past (many_p tok n f p)) (sym e) ∙ z))
      item again (Ok q) e =
          let u = s i q l e in
          let v = a.within i q l e in
          let w = again q v (omega arith) (omega arith) in
          (ap (on_past (many_p tok n f p)) e ∙ w.0 ∙ ap (on_past (many_p tok' m f p')) (sym e ∙ a.same i l), λ k z. let b = w.1 k (ap (on_past (many_p tok n f p)) (sym e) ∙ z) in (b.0, omega arith))

      test : Again → (t : Bool) → f (tok i) ≡ t → (pick_p (f (tok i)) Ok (seq_p p (many_p tok n f p)) i ≡ pick_p (f (tok' i)) Ok (seq_p p' (many_p tok' m f p')) i)
          × ((k : ℕ) → pick_p (f (tok i)) Ok (seq_p p (many_p tok n f p)) i ≡ Ok k → (k ≤ j) × (i ≤ k))
      test again true e = (
        ap (λ t. pick_p t Ok (seq_p p (many_p tok n f p)) i) e ∙ ap (λ t. pick_p t Ok (seq_p p' (many_p tok' m f p')) i) (sym e ∙ h (tok i) (tok' i) (alike i l)),
        λ k z. let w = past_inj i k (ap (λ t. pick_p t Ok (seq_p p (many_p tok n f p)) i) (sym e) ∙ z) in (omega arith, omega arith),
      )
      test again false e = let w = item again (p i) refl in (
        ap (λ t. pick_p t Ok (seq_p p (many_p tok n f p)) i) e ∙ w.0 ∙ ap (λ t. pick_p t Ok (seq_p p' (many_p tok' m f p')) i) (sym e ∙ h (tok i) (tok' i) (alike i l)),
        λ k z. w.1 k (ap (λ t. pick_p t Ok (seq_p p (many_p tok n f p)) i) (sym e) ∙ z),
      )

  pub same_up_to : (n m : ℕ) → j < n → j < m → (w : String) (p p' : ℕ → Result ℕ Refusal) → Same p p' → ((i k : ℕ) → i ≤ j → p i ≡ Ok k → i < k) → Same (up_to_p tok n w p) (up_to_p tok' m w p')
  same_up_to n m x y w p p' a s = record {
    same = λ i l. (many i l).0;
    within = λ i k l e. ((many i l).1 k e).0;
    ahead = λ i k l e. ((many i l).1 k e).1;
  }
    where
      many : (i : ℕ) → i ≤ j → (many_p tok (n - i) (is w) p i ≡ many_p tok' (m - i) (is w) p' i) × ((k : ℕ) → many_p tok (n - i) (is w) p i ≡ Ok k → (k ≤ j) × (i ≤ k))
      many i l = same_many (n - i) (m - i) (is w) (λ t u h. ap (λ k. eqb k (key_of (txt w))) h.key) p p' a s i l (omega arith) (omega arith)

  -- a reader that takes a token at least
  abbrev pub Strict : (ℕ → Result ℕ Refusal) → Type 0
  Strict p = (i k : ℕ) → i ≤ j → p i ≡ Ok k → i < k

  strict_take : (f : Token → Fit) → Strict (take_p tok f)
  strict_take f i k l e = let z = judged_past (f (tok i)) (tok i).over (tok i).at i k e in omega arith

  strict_wrong : Strict (wrong_p tok)
  strict_wrong i k l e = refused_past _ k e

  strict_choose : (f : Token → Bool) (p q : ℕ → Result ℕ Refusal) → Strict p → Strict q → Strict (choose_p tok f p q)
  strict_choose f p q a b i k l e = go (f (tok i)) e
    where
      go : (t : Bool) → pick_p t p q i ≡ Ok k → i < k
      go true e = a i k l e
      go false e = b i k l e

  strict_seq : (p p' q q' : ℕ → Result ℕ Refusal) → Strict p → Same p p' → Same q q' → Strict (seq_p p q)
  strict_seq p p' q q' s a b i k l e = go (p i) refl e
    where
      go : (g : Result ℕ Refusal) → p i ≡ g → on_past q g ≡ Ok k → i < k
      go (Ok r) e z =
          let u = s i r l e in
          let v = b.ahead r k (a.within i r l e) z in
          omega arith
      go (Err r) e z = refused_past r k z

  -- the readers of the grammar, over n and m tokens, both behind j
  module _ (n m : ℕ) (x : j < n) (y : j < m) where
    same_the_in : (room : ℕ) (w : String) → proper w ≡ true → Same (at.the_in_p tok n room w) (at.the_in_p tok' m room w)
    same_the_in room w e = same_take _ (λ t u h. ap (λ k. roomed room (fit_if (eqb k (key_of (txt w))))) h.key) (stops.word room w e)

    same_the : (w : String) → proper w ≡ true → Same (at.the_p tok n w) (at.the_p tok' m w)
    same_the w e = same_the_in 1 w e

    same_one : (room : ℕ) (k : Kind) → Same (take_p tok (one_fit room k)) (take_p tok' (one_fit room k))
    same_one room k = same_take (one_fit room k) (λ t u h. ap₂ (λ d f. roomed room (cond (same_kind d k) f broken)) h.kind h.fit) (stops.kind room k)

    same_or_word : (k : Kind) (p p' : ℕ → Result ℕ Refusal) → Same p p' → Same (at.or_word_p tok n k p) (at.or_word_p tok' m k p')
    same_or_word k p p' a = same_choose (is_a k) (λ t u h. ap (λ d. same_kind d k) h.kind) _ _ p p' (same_one 1 k) a

    same_is : (w : String) (p p' q q' : ℕ → Result ℕ Refusal) → Same p p' → Same q q' → Same (choose_p tok (is w) p q) (choose_p tok' (is w) p' q')
    same_is w = same_choose (is w) (λ t u h. ap (λ k. eqb k (key_of (txt w))) h.key)

    same_leaf : Same (at.leaf_p tok n) (at.leaf_p tok' m)
    same_leaf = same_or_word symbol _ _ (same_or_word ename _ _ (same_or_word aname _ _ same_wrong))

    same_leaf_d : Same (at.leaf_dp tok n) (at.leaf_dp tok' m)
    same_leaf_d = same_or_word symbol _ _ (same_or_word evariable _ _ (same_or_word avariable _ _ same_wrong))

    same_cons : (p p' : ℕ → Result ℕ Refusal) → Same p p' → Same (at.cons_p tok n p) (at.cons_p tok' m p')
    same_cons p p' a = same_seq _ _ _ _ (same_the "cons" refl) (same_seq _ _ _ _ a (same_seq _ _ _ _ a (same_the ")" refl)))

    same_tree : (p p' : ℕ → Result ℕ Refusal) → Same p p' → (room : ℕ) → Same (at.tree_p tok n p room) (at.tree_p tok' m p' room)
    unfolding at.tree_p
    same_tree p p' a zero = same_is "(" _ _ p p' (same_seq _ _ _ _ (same_the_in 0 "(" refl) same_wrong) a
    same_tree p p' a (suc room) = same_is "(" _ _ p p' (same_seq _ _ _ _ (same_the "(" refl) (same_cons _ _ (same_tree p p' a room))) a

    strict_or_word : (k : Kind) (p : ℕ → Result ℕ Refusal) → Strict p → Strict (at.or_word_p tok n k p)
    strict_or_word k p s = strict_choose (is_a k) (take_p tok (one_fit 1 k)) p (strict_take (one_fit 1 k)) s

    strict_leaf : Strict (at.leaf_p tok n)
    strict_leaf = strict_or_word symbol _ (strict_or_word ename _ (strict_or_word aname _ strict_wrong))

    strict_leaf_d : Strict (at.leaf_dp tok n)
    strict_leaf_d = strict_or_word symbol _ (strict_or_word evariable _ (strict_or_word avariable _ strict_wrong))

    strict_the_in : (room : ℕ) (w : String) → Strict (at.the_in_p tok n room w)
    strict_the_in room w = strict_take (λ t. roomed room (fit_if (is w t)))

    strict_tree : (p p' : ℕ → Result ℕ Refusal) → Strict p → Same p p' → (room : ℕ) → Strict (at.tree_p tok n p room)
    unfolding at.tree_p
    strict_tree p p' s a zero = strict_choose (is "(") _ p (strict_seq _ _ _ _ (strict_the_in 0 "(") (same_the_in 0 "(" refl) same_wrong) s
    strict_tree p p' s a (suc room) = strict_choose (is "(") _ p (strict_seq _ _ _ _ (strict_the_in 1 "(") (same_the "(" refl) (same_cons _ _ (same_tree p p' a room))) s

    same_expr : (room : ℕ) → Same (at.expr_p tok n room) (at.expr_p tok' m room)
    same_expr room = same_tree _ _ same_leaf room

    same_datum : (room : ℕ) → Same (at.datum_p tok n room) (at.datum_p tok' m room)
    same_datum room = same_tree _ _ same_leaf_d room

    same_args : (room : ℕ) → Same (at.args_p tok n room) (at.args_p tok' m room)
    same_args zero = same_seq _ _ _ _ (same_the_in 0 "[" refl) same_wrong
    same_args (suc room) = same_seq _ _ _ _ (same_the "[" refl)
        (same_seq _ _ _ _ (same_up_to n m x y "]" _ _ (same_expr room) (strict_tree _ _ strict_leaf same_leaf room)) (same_the "]" refl))

    same_condition : (room : ℕ) → Same (at.condition_p tok n room) (at.condition_p tok' m room)
    same_condition zero = same_seq _ _ _ _ (same_the_in 0 "(" refl) same_wrong
    same_condition (suc room) = same_seq _ _ _ _ (same_the "(" refl) (same_seq _ _ _ _
        (same_is "eqa?" _ _ _ _ (same_seq _ _ _ _ (same_the "eqa?" refl) (same_seq _ _ _ _ (same_expr room) (same_expr room)))
        (same_seq _ _ _ _ (same_the "cons?" refl) (same_seq _ _ _ _ (same_expr room) (same_seq _ _ _ _ (same_one 1 ename) (same_seq _ _ _ _ (same_one 1 ename) (same_one 1 aname))))))
        (same_the ")" refl))

    same_form : (room : ℕ) (p p' : ℕ → Result ℕ Refusal) → Same p p' → Same (at.form_p tok n room p) (at.form_p tok' m room p')
    same_form room p p' a =
        same_is "call" _ _ _ _ (same_seq _ _ _ _ (same_the "call" refl) (same_seq _ _ _ _ (same_one 1 plain) (same_seq _ _ _ _ (same_args room) (same_the ")" refl))))
        (same_is "if" _ _ _ _ (same_seq _ _ _ _ (same_the "if" refl) (same_seq _ _ _ _ (same_condition room) (same_seq _ _ _ _ a (same_seq _ _ _ _ a (same_the ")" refl)))))
        (same_cons _ _ (same_expr room)))

    same_term : (room : ℕ) → Same (at.term_p tok n room) (at.term_p tok' m room)
    unfolding at.term_p
    same_term zero = same_expr zero
    same_term (suc room) = same_is "(" _ _ _ _ (same_seq _ _ _ _ (same_the "(" refl) (same_form room _ _ (same_term room))) same_leaf

    same_parameter : (room : ℕ) → Same (at.parameter_p tok n room) (at.parameter_p tok' m room)
    same_parameter room = same_choose (is_a ename) (λ t u h. ap (λ d. same_kind d ename) h.kind) _ _ _ _ (same_one room ename) (same_one room aname)

    same_parameters : (room : ℕ) → Same (at.parameters_p tok n room) (at.parameters_p tok' m room)
    unfolding at.parameters_p
    same_parameters zero = same_is "]" _ _ _ _ same_past (same_seq _ _ _ _ (same_parameter 0) same_wrong)
    same_parameters (suc room) = same_is "]" _ _ _ _ same_past (same_seq _ _ _ _ (same_parameter 1) (same_parameters room))

    same_definition : (room : ℕ) → Same (at.definition_p tok n room) (at.definition_p tok' m room)
    unfolding at.definition_p
    same_definition room = same_seq _ _ _ _ (same_the_in room "(" refl) (same_seq _ _ _ _ (same_the "define" refl) (same_seq _ _ _ _ (same_one 1 plain)
        (same_seq _ _ _ _ (same_the "[" refl) (same_seq _ _ _ _ (same_parameters 16) (same_seq _ _ _ _ (same_the "]" refl) (same_seq _ _ _ _ (same_term 63) (same_the ")" refl)))))))

    same_definitions : (room : ℕ) → Same (at.definitions_p tok n room) (at.definitions_p tok' m room)
    unfolding at.definitions_p
    same_definitions zero = same_is "" _ _ _ _ same_past (same_seq _ _ _ _ (same_definition 0) same_wrong)
    same_definitions (suc room) = same_is "" _ _ _ _ same_past (same_seq _ _ _ _ (same_definition 1) (same_definitions room))

    -- a program is read the same
    pub same_program : Same (at.program_p tok n) (at.program_p tok' m)
    unfolding at.program_p
    same_program = same_seq _ _ _ _ (same_definition 1) (same_definitions 63)

    same_sides : Same (at.sides_p tok n) (at.sides_p tok' m)
    same_sides = same_seq _ _ _ _ (same_the "[" refl) (same_seq _ _ _ _ (same_datum 61) (same_seq _ _ _ _ (same_datum 61) (same_the "]" refl)))

    strict_sides : Strict (at.sides_p tok n)
    strict_sides = strict_seq _ _ _ _ (strict_the_in 1 "[") (same_the "[" refl) (same_seq _ _ _ _ (same_datum 61) (same_seq _ _ _ _ (same_datum 61) (same_the "]" refl)))

    same_part : (w : String) → proper w ≡ true → (p p' : ℕ → Result ℕ Refusal) → Same p p' → Same (at.part_p tok n w p) (at.part_p tok' m w p')
    same_part w e p p' a = same_seq _ _ _ _ (same_the "(" refl) (same_seq _ _ _ _ (same_the w e) (same_seq _ _ _ _ a (same_the ")" refl)))

    -- a job is read the same
    pub same_job : Same (at.job_p tok n) (at.job_p tok' m)
    unfolding at.job_p
    same_job = same_seq _ _ _ _ (same_the "(" refl) (same_seq _ _ _ _ (same_the "job" refl)
        (same_seq _ _ _ _ (same_part "in" refl _ _ (same_up_to n m x y ")" _ _ (same_datum 62) (strict_tree _ _ strict_leaf_d same_leaf_d 62)))
        (same_seq _ _ _ _ (same_part "out" refl _ _ (same_datum 62))
        (same_seq _ _ _ _ (same_part "neq" refl _ _ (same_up_to n m x y ")" _ _ same_sides strict_sides))
        (same_seq _ _ _ _ (same_part "steps" refl _ _ (same_one 1 plain))
        (same_seq _ _ _ _ (same_part "walk" refl _ _ (same_one 1 plain))
        (same_seq _ _ _ _ (same_part "table" refl _ _ (same_one 1 plain))
        (same_seq _ _ _ _ (same_the ")" refl) (same_is "" _ _ _ _ same_past same_wrong)))))))))
