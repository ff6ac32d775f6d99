-- The order of the walk leaves nothing open: two walks that stop and end as specs/StopOrder.antt says have the same word, lines and count.
use Prim.Native.Nat.{ℕ, suc, ◌+◌, ◌≤◌, ◌<◌}
use mathlib.Core.Path.{◌≡◌, refl, ap, ap₂, subst, ◌∙◌, sym as inv}
use mathlib.Core.Bool.{Bool, true, false, cond, false≢true}
use mathlib.Core.List.{List, [], ◌∷◌, ◌++◌, append-nil}
use mathlib.Core.Logic.{◌⊎◌, inl, inr, ◌↔◌}
use native.Mathlib.Omega.{arith}
use lib.Dec.{eqb}
use lib.ListN.{length}
use borrow.Author.Tests.{eq-eqb, ne_eqb}
use Rattle.expressions.specs.Class.{IOClass, nodes_class}
use Rattle.language.specs.Program.{Prog, find}
use Rattle.language.specs.WellFormed.{fits, admitted}
use Rattle.semantics.specs.Lists.{All}
use Rattle.semantics.specs.Tree.{Line, listing}
use Rattle.semantics.specs.Walk.{line_limit, Limits, stop21, stop22, stop23, Walked, resolve, Word, whole, cut, stop, word_of, lines_of, count_of}
use Rattle.semantics.specs.Demand3.{Unstopped}
use Rattle.semantics.specs.Stops.{lines_nodes, NoRoom, Stops}
use Rattle.semantics.specs.StopOrder.{Visit, visits, transitions, over_at, lines_at, visits_lines, Halt, InOrder}
use Rattle.semantics.proofs.Stops.{length_more, nodes_more, resolve_stops}
use Rattle.semantics.proofs.Visits.{length_append, visits_lines_append, visits_cut}
use Rattle.semantics.proofs.StopOrder.{resolve_in_order}

-- two beginnings of one list are the same, or one goes on past the other
abbrev GoesOn : List Visit → List Visit → List Visit → List Visit → Type 0
GoesOn a r b s = (v : Visit) × (us : List Visit) × (b ≡ a ++ (v ∷ us)) × (r ≡ v ∷ (us ++ s))

append_split : (a r b s : List Visit) → a ++ r ≡ b ++ s → ((a ≡ b) × (r ≡ s)) ⊎ (GoesOn a r b s ⊎ GoesOn b s a r)
append_split [] r [] s e = inl (refl, e)
append_split [] r (v ∷ b) s e = inr (inl (v, b, refl, e))
append_split (v ∷ a) r [] s e = inr (inr (v, a, refl, inv e))
append_split (v ∷ a) r (u ∷ b) s e =
    let h : v ≡ u = cc in
    let k : a ++ r ≡ b ++ s = cc in
    pick h (append_split a r b s k)
  where
    pick : v ≡ u → ((a ≡ b) × (r ≡ s)) ⊎ (GoesOn a r b s ⊎ GoesOn b s a r) → ((v ∷ a ≡ u ∷ b) × (r ≡ s)) ⊎ (GoesOn (v ∷ a) r (u ∷ b) s ⊎ GoesOn (u ∷ b) s (v ∷ a) r)
    pick h (inl x) = inl (ap₂ ◌∷◌ h x.0, x.1)
    pick h (inr (inl x)) = inr (inl (x.0, x.1, ap₂ ◌∷◌ (inv h) x.2, x.3))
    pick h (inr (inr x)) = inr (inr (x.0, x.1, ap₂ ◌∷◌ h x.2, x.3))

all_last : (Q : Visit → Type 0) (a : List Visit) (v : Visit) (us : List Visit) → All Q (a ++ (v ∷ us)) → Q v
all_last Q [] v us h = h.0
all_last Q (x ∷ a) v us h = all_last Q a v us h.1

module _ (lim : Limits) (unfinished : Bool) (vs : List Visit) where
  -- what bars the way to a configuration: 21, 22 or 23
  abbrev Barred : List Visit → Visit → Type 0
  Barred a v = (over_at v ≡ true) ⊎ (((l : Line) × (lines_at v ≡ l ∷ []) × ((length (visits_lines a) ≡ lim.table) ⊎ (line_limit < lines_nodes (visits_lines a) + nodes_class l.class))) ⊎
      (length a ≡ suc lim.walk))

  abbrev Stuck : List Visit → List Visit → Type 0
  Stuck a [] = Unit {0}
  Stuck a (v ∷ us) = Barred a v

  -- the configurations passed keep the limits
  record Keeping (a : List Visit) : Type 0 where
    under : All (λ v. over_at v ≡ false) a
    few : length (visits_lines a) ≤ lim.table
    small : lines_nodes (visits_lines a) ≤ line_limit
    short : length a ≤ suc lim.walk

  -- so nothing barred the way to any of them
  not_barred : (a : List Visit) (v : Visit) (us : List Visit) → Keeping (a ++ (v ∷ us)) → Barred a v → ⊥
  not_barred a v us K (inl o) = false≢true (inv (all_last (λ v. over_at v ≡ false) a v us K.under) ∙ o)
  not_barred a v us K (inr (inl b)) = pick b.2
    where
      L : Line
      L = b.0

      lines : visits_lines (a ++ (v ∷ us)) ≡ visits_lines a ++ (L ∷ visits_lines us)
      lines = visits_lines_append a (v ∷ us) ∙ ap (λ (ls : List Line). visits_lines a ++ (ls ++ visits_lines us)) b.1

      pick : (length (visits_lines a) ≡ lim.table) ⊎ (line_limit < lines_nodes (visits_lines a) + nodes_class L.class) → ⊥
      pick (inl e) = omega (arith, e, K.few, ap length lines, length_more (visits_lines a) L (visits_lines us))
      pick (inr e) = omega (arith, e, K.small, ap lines_nodes lines, nodes_more (visits_lines a) L (visits_lines us))
  not_barred a v us K (inr (inr e)) = omega (arith, e, K.short, length_append a (v ∷ us))

  -- the word and the count by what was passed and what is left
  abbrev word_at : ℕ → List Visit → Word
  word_at k [] = cond unfinished cut whole
  word_at k (v ∷ us) = cond (eqb k (suc lim.walk)) (stop stop23) (cond (over_at v) (stop stop21) (stop stop22))

  abbrev count_at : Word → List Visit → ℕ
  count_at whole a = transitions a
  count_at cut a = transitions a
  count_at (stop stop21) a = length a
  count_at (stop stop22) a = length a
  count_at (stop stop23) a = lim.walk

  record Standing (w : Walked) : Type 0 where
    passed : List Visit
    left : List Visit
    split : vs ≡ passed ++ left
    keeping : Keeping passed
    stuck : Stuck passed left
    word : word_of w ≡ word_at (length passed) left
    lines : lines_of w ≡ visits_lines passed
    count : count_of w ≡ count_at (word_of w) passed

  -- what is passed is the same
  goes_on : (a r b s : List Visit) → Stuck a r → Keeping b → GoesOn a r b s → ⊥
  goes_on a r b s S K g = not_barred a g.0 g.1 (subst Keeping g.2 K) (subst (Stuck a) g.3 S)

  standing_unique : (w x : Walked) → Standing w → Standing x → (word_of w ≡ word_of x) × (lines_of w ≡ lines_of x) × (count_of w ≡ count_of x)
  standing_unique w x W X = pick (append_split W.passed W.left X.passed X.left (inv W.split ∙ X.split))
    where
      pick : ((W.passed ≡ X.passed) × (W.left ≡ X.left)) ⊎ (GoesOn W.passed W.left X.passed X.left ⊎ GoesOn X.passed X.left W.passed W.left) →
          (word_of w ≡ word_of x) × (lines_of w ≡ lines_of x) × (count_of w ≡ count_of x)
      pick (inl e) =
          let k = W.word ∙ ap₂ word_at (ap length e.0) e.1 ∙ inv X.word in
          (k, W.lines ∙ ap visits_lines e.0 ∙ inv X.lines, W.count ∙ ap₂ count_at k e.0 ∙ inv X.count)
      pick (inr (inl g)) = absurd (goes_on W.passed W.left X.passed X.left W.stuck X.keeping g)
      pick (inr (inr g)) = absurd (goes_on X.passed X.left W.passed W.left X.stuck W.keeping g)

transitions_short : (vs : List Visit) (k : ℕ) → transitions vs ≤ k → length vs ≤ suc k
transitions_short [] k l = omega arith
transitions_short (v ∷ vs) k l = omega (arith, l)

-- the two words of a walk that ends
word_cut : (c : Bool) (x : Word) → x ≡ cut → ((x ≡ cut) ↔ (c ≡ true)) → x ≡ cond c cut whole
word_cut c x e f = e ∙ ap (λ (b : Bool). cond b cut whole) (inv (f.0 e))

word_whole : (c : Bool) (x : Word) → x ≡ whole → ((x ≡ cut) ↔ (c ≡ true)) → x ≡ cond c cut whole
word_whole true x e f = f.1 refl
word_whole false x e f = e

module _ (p : Prog) (n : ℕ) (j : IOClass) (lim : Limits) where
  module _ (w : Walked) (I : InOrder p n j lim w) where
    keeps : (a : List Visit) → All (λ v. over_at v ≡ false) a → lines_of w ≡ visits_lines a → length a ≤ suc lim.walk → Keeping lim (listing p n j).cut (visits p n j) a
    keeps a u l s = record {
      under = u;
      few = subst (λ (ls : List Line). length ls ≤ lim.table) l I.within.1;
      small = subst (λ (ls : List Line). lines_nodes ls ≤ line_limit) l I.within.2;
      short = s;
    }

    -- a walk that ends has passed all
    ended : Unstopped (word_of w) → word_of w ≡ cond (listing p n j).cut cut whole → count_of w ≡ count_at lim (listing p n j).cut (visits p n j) (word_of w) (visits p n j) →
        Standing lim (listing p n j).cut (visits p n j) w
    ended u k c = let h = I.ends u in record {
      passed = visits p n j;
      left = [];
      split = inv (append-nil (visits p n j));
      keeping = keeps (visits p n j) h.0 h.1 (transitions_short (visits p n j) lim.walk (omega (arith, h.2, I.within.0)));
      stuck = tt;
      word = k;
      lines = h.1;
      count = c;
    }

    halted : (h : Halt (visits p n j) (lines_of w)) → Barred lim (listing p n j).cut (visits p n j) h.passed h.at → length h.passed ≤ suc lim.walk →
        word_of w ≡ word_at lim (listing p n j).cut (visits p n j) (length h.passed) (h.at ∷ h.behind) → count_of w ≡ count_at lim (listing p n j).cut (visits p n j) (word_of w) h.passed →
        Standing lim (listing p n j).cut (visits p n j) w
    halted h b s k c = record {
      passed = h.passed;
      left = h.at ∷ h.behind;
      split = h.visits_are;
      keeping = keeps h.passed h.under h.lines_are s;
      stuck = b;
      word = k;
      lines = h.lines_are;
      count = c;
    }

    cut_iff_lem : Unstopped (word_of w) → (word_of w ≡ cut) ↔ ((listing p n j).cut ≡ true)
    cut_iff_lem u = let a = (I.ends u).3 in let b = visits_cut p n j in ((λ e. b.1 (a.0 e)), (λ e. a.1 (b.0 e)))

    standing : Standing lim (listing p n j).cut (visits p n j) w
    standing = pick (word_of w) refl
      where
        counted : (x : Word) (a : List Visit) → word_of w ≡ x → count_of w ≡ count_at lim (listing p n j).cut (visits p n j) x a → count_of w ≡ count_at lim (listing p n j).cut (visits p n j) (word_of w) a
        counted x a e k = k ∙ ap (λ (x : Word). count_at lim (listing p n j).cut (visits p n j) x a) (inv e)

        pick : (x : Word) → word_of w ≡ x → Standing lim (listing p n j).cut (visits p n j) w
        pick whole e = let u : Unstopped (word_of w) = subst Unstopped (inv e) tt in let h = I.ends u in
            ended u (word_whole (listing p n j).cut (word_of w) e (cut_iff_lem u)) (counted whole (visits p n j) e h.2)
        pick cut e = let u : Unstopped (word_of w) = subst Unstopped (inv e) tt in let h = I.ends u in
            ended u (word_cut (listing p n j).cut (word_of w) e (cut_iff_lem u)) (counted cut (visits p n j) e h.2)
        pick (stop stop21) e =
            let h = I.halts stop21 e in
            let s : length h.0.passed ≤ lim.walk = omega (arith, h.2, I.within.0) in
            halted h.0 (inl h.1) (omega (arith, s))
            (e ∙ ap₂ (λ (a b : Bool). cond a (stop stop23) (cond b (stop stop21) (stop stop22))) (inv (ne_eqb (length h.0.passed) (suc lim.walk) (λ q. omega (arith, q, s)))) (inv h.1))
            (counted (stop stop21) h.0.passed e h.2)
        pick (stop stop22) e =
            let h = I.halts stop22 e in
            let s : length h.0.passed ≤ lim.walk = omega (arith, h.2, I.within.0) in
            halted h.0 (inr (inl (h.3.0, h.3.1, subst (λ (ls : List Line). (length ls ≡ lim.table) ⊎ (line_limit < lines_nodes ls + nodes_class h.3.0.class)) h.0.lines_are h.3.2))) (omega (arith, s))
            (e ∙ ap₂ (λ (a b : Bool). cond a (stop stop23) (cond b (stop stop21) (stop stop22))) (inv (ne_eqb (length h.0.passed) (suc lim.walk) (λ q. omega (arith, q, s)))) (inv h.1))
            (counted (stop stop22) h.0.passed e h.2)
        pick (stop stop23) e =
            let h = I.halts stop23 e in
            halted h.0 (inr (inr h.1)) (omega (arith, h.1))
            (e ∙ ap (λ (a : Bool). cond a (stop stop23) (cond (over_at h.0.at) (stop stop21) (stop stop22))) (inv (eq-eqb (length h.0.passed) (suc lim.walk) h.1)))
            (counted (stop stop23) h.0.passed e h.2)

  pub in_order_unique : (w x : Walked) → InOrder p n j lim w → InOrder p n j lim x → (word_of w ≡ word_of x) × (lines_of w ≡ lines_of x) × (count_of w ≡ count_of x)
  in_order_unique w x I J = standing_unique lim (listing p n j).cut (visits p n j) w x (standing w I) (standing x J)

  -- so any walk that stops and ends in order finds what `resolve` finds
  pub in_order_resolve : admitted p ≡ true → fits (find p 0).params j.con.ins ≡ true → (w : Walked) → InOrder p n j lim w →
      (let r = resolve p j n lim in (word_of w ≡ word_of r) × (lines_of w ≡ lines_of r) × (count_of w ≡ count_of r))
  in_order_resolve wf fit w I = in_order_unique w (resolve p j n lim) I (resolve_in_order p j n lim wf fit)

  -- and stops under the conditions of specs/Stops.antt
  pub in_order_stops : admitted p ≡ true → fits (find p 0).params j.con.ins ≡ true → (w : Walked) → InOrder p n j lim w → Stops p n j lim w
  in_order_stops wf fit w I = let e = in_order_resolve wf fit w I in let S = resolve_stops p j n lim wf fit in record {
    spent = λ h. let r = S.spent (inv e.0 ∙ h) in (e.2 ∙ r.0, r.1);
    full = λ h. subst (λ (ls : List Line). NoRoom lim ls (listing p n j).lines) (inv e.1) (S.full (inv e.0 ∙ h));
    over = λ h. S.over (inv e.0 ∙ h);
    unstopped = λ c f s o. subst Unstopped (inv e.0) (S.unstopped c f s o);
    ended = λ u. let r = S.ended (subst Unstopped e.0 u) in (e.1 ∙ r.0, e.2 ∙ r.1, ((λ h. r.2.0 (inv e.0 ∙ h)), (λ h. e.0 ∙ r.2.1 h)), r.3);
    within = I.within;
  }
