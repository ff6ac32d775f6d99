-- What `value` means where the entries hold the values of the names in reach: the range that it answers holds e/σ, and nothing that was used changed.
use Prim.Native.Nat.{ℕ, zero, suc, ◌+◌, ◌-◌, ◌*◌, ◌≤◌, ◌<◌, min}
use mathlib.Core.Path.{◌≡◌, refl, ap, ap₂, subst, ◌∙◌, sym as inv}
use mathlib.Core.Bool.{Bool, true, false, cond}
use mathlib.Core.List.{List, [], ◌∷◌, ◌++◌}
use native.Mathlib.Omega.{arith}
use lib.Dec.{eqb, ltb}
use lib.ListN.{length, get_or}
use lib.Seq.{sets, length-sets}
use borrow.Author.Tests.{lt-ltb, le-ltb, le-leb, lt-leb, ltb-true}
use Rattle.std.specs.Prelude.{Option, Some, None}
use Rattle.expressions.specs.Expression.{AtomicExp, sym, avar, Exp, atm, evar, pair, nodes}
use Rattle.expressions.specs.Substitution.{Substitution, apply}
use Rattle.language.specs.Program.{Param, pe, pa, atom_of}
use Rattle.semantics.specs.Configuration.{subst_of_env}
use Rattle.sets.specs.Cells.{cells}
use Rattle.sets.specs.Twins.Fill.{FillAnswer, fill_answer}
use Rattle.sets.proofs.CellLaws.{cells_nodes}
use Rattle.runs.specs.Twins.Runs.{cells_at, run}
use Rattle.heap.specs.Twins.Entries.{entry_known, entry_from, entry_to}
use Rattle.runs.proofs.RunLaws.{Below, below_self, below_sets, length_cells_at, written_done, sets_append}
use Rattle.heap.proofs.HeapLaws.{Holds, holds_below, sets_cells}
use Rattle.heap.proofs.KnownLaws.{KnownOf, unknown, known_head_lem}
use Rattle.heap.proofs.FrameLaws.{Held}
use Rattle.heap.proofs.FrameLaws as frame
use Rattle.linking.specs.Twins.Code.{link, link_at}
use Rattle.constants.specs.Twins.Table.{constant_at}
use Rattle.constants.proofs.ConstantLaws.{Constants, closed_cells}
use Rattle.linking.specs.declared.code.Link.{Link}
use Rattle.constants.specs.Twins.Laying.{named_in, cells_of}
use Rattle.linking.specs.Twins.Linked.{place_in, ExpLinked, sym_linked, e_linked, a_linked, cons_linked}
use Rattle.linking.specs.Twins.Places.{env_of}
use Rattle.linking.proofs.AgreeLaws.{exp_goes_on}
use Rattle.linking.proofs.PlaceLaws.{lookup_e, lookup_a}
use Rattle.values.specs.Twins.Values.{entry_at, onward_fill, token_written, tokens_written, ValueLeft, value_left, valued, made_at, head_end_at, known_pair, made_of, value_at}
use Rattle.values.specs.declared.value.Valued.{Valued}

-- an entry among those that hold
pub held_at : {h : List ℕ} {used : ℕ} {f : List ℕ} {i : ℕ} {ts : List Exp} (d : Exp) (m : ℕ) → Held h used f i ts → m < length ts → Holds h used (entry_from f (i + m)) (entry_to f (i + m)) (get_or ts m d)
held_at d m frame.Held.none l = let z : ⊥ = omega arith in absurd z
held_at {f = f} {i = i} d zero (frame.Held.more x k r) l = let z : i + 0 ≡ i = omega arith in rw z x
held_at {f = f} {i = i} d (suc m) (frame.Held.more x k r) l = let z : i + suc m ≡ i + 1 + m = omega arith in rw z (held_at d m r (omega arith))

pub known_at : {h : List ℕ} {used : ℕ} {f : List ℕ} {i : ℕ} {ts : List Exp} (d : Exp) (m : ℕ) → Held h used f i ts → m < length ts → KnownOf (entry_known f (i + m)) (get_or ts m d)
known_at d m frame.Held.none l = let z : ⊥ = omega arith in absurd z
known_at {f = f} {i = i} d zero (frame.Held.more x k r) l = let z : i + 0 ≡ i = omega arith in rw z k
known_at {f = f} {i = i} d (suc m) (frame.Held.more x k r) l = let z : i + suc m ≡ i + 1 + m = omega arith in rw z (known_at d m r (omega arith))

-- "`a.x` ... an atom": the values of `a.` names are atomic
pub data Typed : List Param → List Exp → Type 0 where
  none_typed : Typed [] []
  e_typed : {x : ℕ} {v : Exp} {sc : List Param} {vs : List Exp} → Typed sc vs → Typed (pe x ∷ sc) (v ∷ vs)
  a_typed : {x : ℕ} {y : AtomicExp} {sc : List Param} {vs : List Exp} → Typed sc vs → Typed (pa x ∷ sc) (atm y ∷ vs)

pub typed_length : {sc : List Param} {vs : List Exp} → Typed sc vs → length vs ≡ length sc
typed_length none_typed = refl
typed_length (e_typed t) = ap suc (typed_length t)
typed_length (a_typed t) = ap suc (typed_length t)

-- where the next token behind an expression stands
pub past_linked : {code : List ℕ} {sc : List Param} {i j : ℕ} {c : Exp} → ExpLinked code sc i c j → (link_at code i).past ≡ j
past_linked (sym_linked e) = rw e
past_linked (e_linked e) = rw e
past_linked (a_linked e) = rw e
past_linked (cons_linked o w lc ld e) = rw o

-- the names of an expression are in reach
abbrev pub Known : List Param → Exp → Type 0
Known sc (atm (sym z)) = Unit {0}
Known sc (atm (avar x)) = place_in (pa x) sc < length sc
Known sc (evar x) = place_in (pe x) sc < length sc
Known sc (pair c d) = Known sc c × Known sc d

abbrev pub AllKnown : List Param → List Exp → Type 0
AllKnown sc [] = Unit {0}
AllKnown sc (c ∷ cs) = Known sc c × AllKnown sc cs

pub atom_typed : {sc : List Param} {vs : List Exp} (d : Exp) (x : ℕ) → Typed sc vs → place_in (pa x) sc < length sc → atm (atom_of (get_or vs (place_in (pa x) sc) d)) ≡ get_or vs (place_in (pa x) sc) d
atom_typed d x none_typed l = let z : ⊥ = omega arith in absurd z
atom_typed d x (e_typed t) l = atom_typed d x t (omega arith)
atom_typed {vs = vs} d x (a_typed {x = y} {y = w} {sc = sc} {vs = ws} t) l = go (eqb y x) l (λ k. atom_typed d x t k)
  where
    go : (b : Bool) → cond b 0 (suc (place_in (pa x) sc)) < suc (length sc) → (place_in (pa x) sc < length sc → atm (atom_of (get_or ws (place_in (pa x) sc) d)) ≡ get_or ws (place_in (pa x) sc) d) →
        atm (atom_of (get_or (atm w ∷ ws) (cond b 0 (suc (place_in (pa x) sc))) d)) ≡ get_or (atm w ∷ ws) (cond b 0 (suc (place_in (pa x) sc))) d
    go true k h = refl
    go false k h = h (omega arith)

module _ (code f : List ℕ) (base : ℕ) where
  abbrev pub wrote : ℕ → ℕ → ℕ → List ℕ → FillAnswer
  wrote left j k h = tokens_written code f base left j k h

  -- the tokens of two parts
  pub two_parts : (a b i k : ℕ) (h : List ℕ) → wrote (a + b) i k h ≡ (let w = wrote a i k h in onward_fill (λ m g. wrote b (i + a) m g) w.answer w.cells)
  unfolding tokens_written
  two_parts zero b i k h = let z : 0 + b ≡ b = omega arith in let y : i + 0 ≡ i = omega arith in rw (z, y)
  two_parts (suc a) b i k h =
      let z : suc a + b ≡ suc (a + b) = omega arith in
      rw z (go (token_written code f base i k h).answer (token_written code f base i k h).cells (λ m u. two_parts a b (i + 1) m u))
    where
      go : (r : Option ℕ) (g : List ℕ) → ((m : ℕ) (u : List ℕ) → wrote (a + b) (i + 1) m u ≡ (let w = wrote a (i + 1) m u in onward_fill (λ n v. wrote b (i + 1 + a) n v) w.answer w.cells)) →
          onward_fill (λ m u. wrote (a + b) (i + 1) m u) r g ≡
          (let w = onward_fill (λ m u. wrote a (i + 1) m u) r g in onward_fill (λ m u. wrote b (i + suc a) m u) w.answer w.cells)
      go (Some m) g again = let y : i + 1 + a ≡ i + suc a = omega arith in again m g ∙ rw y
      go None g again = refl

  -- what is no `cons`
  pub small_made : (used i past : ℕ) (h : List ℕ) → past - i ≤ 2 → (r : Option ℕ) (g : List ℕ) → fill_answer r g ≡ wrote (past - i) i used h → (v : Option Valued) → v ≡ made_at used 0 r → value_left v g ≡ made_of code f base used i past h
  unfolding made_of
  small_made used i past h l r g e v done = rw (le-leb (past - i) 2 l, ← e) (ap (λ (x : Option Valued). value_left x g) done)

  -- a `cons` by its head and what follows
  module _ (used i past j : ℕ) (h : List ℕ) (is : j ≡ head_end_at code i past) (low : i ≤ j) (high : j ≤ past) (cons : 2 < past - i) (r : Option ℕ) (g : List ℕ) (head : fill_answer r g ≡ wrote (j - i) i used h) where
    whole_is : wrote (past - i) i used h ≡ onward_fill (λ m u. wrote (past - j) j m u) r g
    whole_is =
        let n : past - i ≡ (j - i) + (past - j) = omega arith in
        let y : i + (j - i) ≡ j = omega arith in
        ap (λ (a : ℕ). wrote a i used h) n ∙ two_parts (j - i) (past - j) i used h ∙ ap (λ (a : ℕ). onward_fill (λ m u. wrote (past - j) a m u) (wrote (j - i) i used h).answer (wrote (j - i) i used h).cells) y ∙
        ap (λ (w : FillAnswer). onward_fill (λ m u. wrote (past - j) j m u) w.answer w.cells) (inv head)

    head_is : (wrote (head_end_at code i past - i) i used h).answer ≡ r
    head_is = ap (λ (a : ℕ). (wrote (a - i) i used h).answer) (inv is) ∙ ap (λ (w : FillAnswer). w.answer) (inv head)

    pub pair_made_lem : (k : ℕ) → r ≡ Some k → (q : Option ℕ) (u : List ℕ) → fill_answer q u ≡ wrote (past - j) j k g → (kn : ℕ) → kn ≡ known_pair (k - used) → (v : Option Valued) → v ≡ made_at used kn q → value_left v u ≡ made_of code f base used i past h
    unfolding made_of
    pair_made_lem k e q u tail kn known v done =
        let a : wrote (past - i) i used h ≡ fill_answer q u = whole_is ∙ ap (λ (x : Option ℕ). onward_fill (λ m u. wrote (past - j) j m u) x g) e ∙ inv tail in
        rw (lt-leb (past - i) 2 cons, a, head_is, e, ← known) (ap (λ (x : Option Valued). value_left x u) done)

    pub pair_over : r ≡ None → value_left None g ≡ made_of code f base used i past h
    unfolding made_of
    pair_over e =
        let a : wrote (past - i) i used h ≡ fill_answer None g = whole_is ∙ ap (λ (x : Option ℕ). onward_fill (λ m u. wrote (past - j) j m u) x g) e in
        rw (lt-leb (past - i) 2 cons, a)

  -- a single token
  pub one_token : (i k : ℕ) (h : List ℕ) (m : ℕ) (g : List ℕ) → token_written code f base i k h ≡ fill_answer (Some m) g → wrote 1 i k h ≡ fill_answer (Some m) g
  unfolding tokens_written
  one_token i k h m g e = rw e

  -- behind a part that is written, the next
  pub then : (a b i k : ℕ) (h : List ℕ) (m : ℕ) (g : List ℕ) → wrote a i k h ≡ fill_answer (Some m) g → wrote (a + b) i k h ≡ wrote b (i + a) m g
  then a b i k h m g e = two_parts a b i k h ∙ rw e

  pub nothing_token : (i k : ℕ) (h : List ℕ) (p : ℕ) → link_at code i ≡ link 0 0 0 p → wrote 1 i k h ≡ fill_answer (Some k) h
  unfolding token_written
  nothing_token i k h p e = one_token i k h k h (token e)
    where
      token : link_at code i ≡ link 0 0 0 p → token_written code f base i k h ≡ fill_answer (Some k) h
      token e = rw e

  pub cell_token : (i k : ℕ) (h : List ℕ) (c p : ℕ) → link_at code i ≡ link 1 c 0 p → k + 1 ≤ 65535 → wrote 1 i k h ≡ fill_answer (Some (k + 1)) (sets h k (c ∷ []))
  unfolding token_written
  cell_token i k h c p e l = one_token i k h (k + 1) (sets h k (c ∷ [])) (token e)
    where
      token : link_at code i ≡ link 1 c 0 p → token_written code f base i k h ≡ fill_answer (Some (k + 1)) (sets h k (c ∷ []))
      token e = rw e (written_done k 1 (c ∷ []) h l)

  -- a name whose entry holds a tree
  name_token : {used : ℕ} (i k : ℕ) (h : List ℕ) (q p : ℕ) (v : Exp) → link_at code i ≡ link 2 q 0 p → base + q < 4120 → Holds h used (entry_from f (base + q)) (entry_to f (base + q)) v → used ≤ k → k + nodes v ≤ 65535 →
      wrote 1 i k h ≡ fill_answer (Some (k + nodes v)) (sets h k (cells v))
  unfolding token_written entry_at
  name_token {used} i k h q p v e l x u m = one_token i k h (k + nodes v) (sets h k (cells v)) (token e)
    where
      token : link_at code i ≡ link 2 q 0 p → token_written code f base i k h ≡ fill_answer (Some (k + nodes v)) (sets h k (cells v))
      token e =
          let b = x.below in
          let z : min base 4120 + q ≡ base + q = omega arith in
          let y : min (entry_to f (base + q)) k ≡ entry_to f (base + q) = omega arith in
          let s : entry_to f (base + q) - entry_from f (base + q) ≡ nodes v = inv (length_cells_at (entry_to f (base + q) - entry_from f (base + q)) (entry_from f (base + q)) h) ∙ ap length x.is ∙ cells_nodes v in
          rw (e, z, lt-ltb (base + q) 4120 l, y, x.is, s) (written_done k (nodes v) (cells v) h m)

  module _ (h : List ℕ) (used : ℕ) (sc : List Param) (vs : List Exp) (typed : Typed sc vs) (held : Held h used f base vs) (few : base + length vs ≤ 4120) where
    abbrev pub σ : Substitution
    σ = subst_of_env (env_of sc vs)

    -- the cells of the value, behind what is used
    abbrev pub Written : ℕ → ℕ → Exp → ℕ → List ℕ → Type 0
    Written i j t k g = wrote (j - i) i k g ≡ fill_answer (Some (k + nodes t)) (sets g k (cells t))

    written_name : (i q p : ℕ) (v t : Exp) → link_at code i ≡ link 2 q 0 p → q < length vs → v ≡ get_or vs q (atm (sym 0)) → t ≡ v → (k : ℕ) (g : List ℕ) → used ≤ k → Below used g h → k + nodes t ≤ 65535 → Written i (i + 1) t k g
    written_name i q p v t e l is same k g u b m =
        let z : i + 1 - i ≡ 1 = omega arith in
        let x = held_at (atm (sym 0)) q held l in
        let y : Holds g used (entry_from f (base + q)) (entry_to f (base + q)) v = subst (λ (a : Exp). Holds g used (entry_from f (base + q)) (entry_to f (base + q)) a) (inv is) (holds_below x b (omega arith)) in
        let n : nodes t ≡ nodes v = ap nodes same in
        rw (z, same) (name_token i k g q p v e (omega arith) y u (omega arith))

    pub tokens_mean : {i : ℕ} {c : Exp} {j : ℕ} → ExpLinked code sc i c j → Known sc c → (k : ℕ) (g : List ℕ) → used ≤ k → Below used g h → length g ≡ 65535 → k + nodes (apply σ c) ≤ 65535 → Written i j (apply σ c) k g
    tokens_mean {i} (sym_linked {z = s} e) kn k g u b z m = let y : i + 1 - i ≡ 1 = omega arith in rw y (cell_token i k g (4 * s + 1) (i + 1) e m)
    tokens_mean {i} (e_linked {x = x} e) kn k g u b z m =
        let l = typed_length typed in
        written_name i (place_in (pe x) sc) (i + 1) (get_or vs (place_in (pe x) sc) (atm (sym 0))) (apply σ (evar x)) e (omega arith) refl (lookup_e (atm (sym 0)) x sc vs l) k g u b m
    tokens_mean {i} (a_linked {x = x} e) kn k g u b z m =
        let l = typed_length typed in
        written_name i (place_in (pa x) sc) (i + 1) (get_or vs (place_in (pa x) sc) (atm (sym 0))) (apply σ (atm (avar x))) e (omega arith) refl
        (ap atm (lookup_a (sym 0) x sc vs l kn) ∙ atom_typed (atm (sym 0)) x typed kn) k g u b m
    tokens_mean {i} (cons_linked {j = j} {k = kk} {c = c} {d = d} o w lc ld e) kn k g u b z m =
        let x1 = exp_goes_on code sc lc in let x2 = exp_goes_on code sc ld in
        let tc = apply σ c in let td = apply σ d in
        let g1 = sets g k (4 ∷ []) in
        let g2 = sets g1 (k + 1) (cells tc) in
        let g3 = sets g2 (k + 1 + nodes tc) (cells td) in
        let b1 : Below used g1 h = below_sets k (4 ∷ []) b u in
        let b2 : Below used g2 h = below_sets (k + 1) (cells tc) b1 (omega arith) in
        let z1 = length-sets g k (4 ∷ []) ∙ z in
        let z2 = length-sets g1 (k + 1) (cells tc) ∙ z1 in
        let rc = tokens_mean lc kn.0 (k + 1) g1 (omega arith) b1 z1 (omega arith) in
        let rd = tokens_mean ld kn.1 (k + 1 + nodes tc) g2 (omega arith) b2 z2 (omega arith) in
        let n0 : kk + 1 - i ≡ 1 + (1 + ((j - (i + 2)) + ((kk - j) + 1))) = omega arith in
        let i1 : i + 1 + 1 ≡ i + 2 = omega arith in let i2 : i + 2 + (j - (i + 2)) ≡ j = omega arith in let i3 : j + (kk - j) ≡ kk = omega arith in
        let s1 = then 1 (1 + ((j - (i + 2)) + ((kk - j) + 1))) i k g k g (nothing_token i k g (kk + 1) o) in
        let s2 = then 1 ((j - (i + 2)) + ((kk - j) + 1)) (i + 1) k g (k + 1) g1 (cell_token (i + 1) k g 4 (i + 2) w (omega arith)) in
        let s3 = then (j - (i + 2)) ((kk - j) + 1) (i + 2) (k + 1) g1 (k + 1 + nodes tc) g2 rc in
        let s4 = then (kk - j) 1 j (k + 1 + nodes tc) g2 (k + 1 + nodes tc + nodes td) g3 rd in
        let s5 = nothing_token kk (k + 1 + nodes tc + nodes td) g3 (kk + 1) e in
        let all = ap (λ (n : ℕ). wrote n i k g) n0 ∙ s1 ∙ s2 ∙ ap (λ (a : ℕ). wrote ((j - (i + 2)) + ((kk - j) + 1)) a (k + 1) g1) i1 ∙ s3 ∙ ap (λ (a : ℕ). wrote ((kk - j) + 1) a (k + 1 + nodes tc) g2) i2 ∙ s4 ∙
        ap (λ (a : ℕ). wrote 1 a (k + 1 + nodes tc + nodes td) g3) i3 ∙ s5 in
        all ∙ ap₂ (λ (a : ℕ) (v : List ℕ). fill_answer (Some a) v) (omega arith) (joined g k tc td)
      where
        joined : (g : List ℕ) (k : ℕ) (tc td : Exp) → sets (sets (sets g k (4 ∷ [])) (k + 1) (cells tc)) (k + 1 + nodes tc) (cells td) ≡ sets g k (4 ∷ (cells tc ++ cells td))
        joined g k tc td =
            let a = sets_append g k (4 ∷ []) (cells tc) in
            let q : k + length (4 ∷ cells tc) ≡ k + 1 + nodes tc = omega (arith, cells_nodes tc) in
            let c = sets_append g k (4 ∷ cells tc) (cells td) in
            ap (λ (u : List ℕ). sets u (k + 1 + nodes tc) (cells td)) a ∙ ap (λ (p : ℕ). sets (sets g k (4 ∷ cells tc)) p (cells td)) (inv q) ∙ c

    -- the value of an expression: a range that holds it, and everything below as it was
    pub record ValuedAs (t : Exp) (w : ValueLeft) : Type 0 where
      pub from : ℕ
      pub to : ℕ
      pub now : ℕ
      pub known : ℕ
      pub done : w.answer ≡ Some (valued from to now known)
      pub holds : Holds w.heap now from to t
      pub knows : KnownOf known t
      pub same : Below used w.heap h
      pub grown : used ≤ now
      pub most : now ≤ used + nodes t
      pub fits : now ≤ 65535
      pub size : length w.heap ≡ 65535

    -- of a name it is the range of its entry
    pub valued_name : (i q p : ℕ) (t : Exp) → length h ≡ 65535 → used ≤ 65535 → link_at code i ≡ link 2 q 0 p → q < length vs → t ≡ get_or vs q (atm (sym 0)) → ValuedAs t (value_at code f base used i h)
    unfolding value_at entry_at
    valued_name i q p t z fit e l same =
        let y : min base 4120 + q ≡ base + q = omega arith in
        rw (e, y, lt-ltb (base + q) 4120 (omega arith)) (record {
          from = entry_from f (base + q);
          to = entry_to f (base + q);
          now = used;
          known = entry_known f (base + q);
          done = refl;
          holds = rw same (held_at (atm (sym 0)) q held l);
          knows = rw same (known_at (atm (sym 0)) q held l);
          same = below_self;
          grown = omega arith;
          most = omega arith;
          fits = fit;
          size = z;
        })

    -- else what was written behind what was used
    valued_cells : (i j : ℕ) (m a k : ℕ) (t : Exp) → length h ≡ 65535 → link_at code i ≡ link m a 0 j → eqb m 2 ≡ false → ltb (constant_at code i).from (constant_at code i).to ≡ false → used + nodes t ≤ 65535 →
        made_of code f base used i j h ≡ value_left (Some (valued used (used + nodes t) (used + nodes t) k)) (sets h used (cells t)) → KnownOf k t → ValuedAs t (value_at code f base used i h)
    unfolding value_at
    valued_cells i j m a k t z e n o l w kn =
        let d : used + nodes t - used ≡ length (cells t) = omega (arith, cells_nodes t) in
        rw (e, n, o, w) (record {
          from = used;
          to = used + nodes t;
          now = used + nodes t;
          known = k;
          done = refl;
          holds = record { below = omega arith; is = ap (λ (u : ℕ). cells_at u used (sets h used (cells t))) d ∙ sets_cells (cells t) h used (omega (arith, cells_nodes t)) };
          knows = kn;
          same = below_sets used (cells t) below_self (omega arith);
          grown = omega arith;
          most = omega arith;
          fits = l;
          size = length-sets h used (cells t) ∙ z;
        })

    -- a symbol, and a pair by what is written when its head is
    made_small : (i j : ℕ) (t : Exp) → j - i ≤ 2 → Written i j t used h → made_of code f base used i j h ≡ value_left (Some (valued used (used + nodes t) (used + nodes t) 0)) (sets h used (cells t))
    unfolding made_of
    made_small i j t l w = rw (le-leb (j - i) 2 l, w)

    made_large : (i j n : ℕ) (t : Exp) → 2 < j - i → (wrote (head_end_at code i j - i) i used h).answer ≡ Some (used + n) → Written i j t used h →
        made_of code f base used i j h ≡ value_left (Some (valued used (used + nodes t) (used + nodes t) (known_pair n))) (sets h used (cells t))
    unfolding made_of
    made_large i j n t l e w = let z : used + n - used ≡ n = omega arith in rw (lt-leb (j - i) 2 l, w, e, z)

    -- the head of a pair, behind the pair's own cell
    head_written : (i j kk : ℕ) {c d : Exp} → link_at code i ≡ link 0 0 0 (kk + 1) → link_at code (i + 1) ≡ link 1 4 0 (i + 2) → ExpLinked code sc (i + 2) c j → ExpLinked code sc j d kk → Known sc c → length h ≡ 65535 →
        used + 1 + nodes (apply σ c) ≤ 65535 → (wrote (head_end_at code i (kk + 1) - i) i used h).answer ≡ Some (used + (1 + nodes (apply σ c)))
    head_written i j kk {c} {d} o w lc ld kn z m =
        let x1 = exp_goes_on code sc lc in let x2 = exp_goes_on code sc ld in
        let tc = apply σ c in
        let g1 = sets h used (4 ∷ []) in
        let e0 : head_end_at code i (kk + 1) ≡ j = rw (past_linked lc, le-ltb j i (omega arith)) (omega arith) in
        let n0 : head_end_at code i (kk + 1) - i ≡ 1 + (1 + (j - (i + 2))) = omega (arith, e0) in
        let i1 : i + 1 + 1 ≡ i + 2 = omega arith in
        let rc = tokens_mean lc kn (used + 1) g1 (omega arith) (below_sets used (4 ∷ []) below_self (omega arith)) (length-sets h used (4 ∷ []) ∙ z) (omega arith) in
        let s1 = then 1 (1 + (j - (i + 2))) i used h used h (nothing_token i used h (kk + 1) o) in
        let s2 = then 1 (j - (i + 2)) (i + 1) used h (used + 1) g1 (cell_token (i + 1) used h 4 (i + 2) w (omega arith)) in
        ap (λ (v : FillAnswer). v.answer) (ap (λ (n : ℕ). wrote n i used h) n0 ∙ s1 ∙ s2 ∙ ap (λ (a : ℕ). wrote (j - (i + 2)) a (used + 1) g1) i1 ∙ rc) ∙ ap Some (omega arith)

    known_pair_lem : (c d : Exp) → KnownOf (known_pair (1 + nodes c)) (pair c d)
    known_pair_lem c d = pick (ltb (1 + nodes c) 32768)
      where
        pick : (b : Bool) → KnownOf (cond b (2 * (1 + nodes c - 1)) 0) (pair c d)
        pick true = let z : 1 + nodes c - 1 ≡ nodes c = omega arith in rw z (known_head_lem (nodes c) refl)
        pick false = unknown

    -- a constant has the range that the table says
    pub valued_constant : {i : ℕ} {c : Exp} {j : ℕ} (m a : ℕ) → link_at code i ≡ link m a 0 j → eqb m 2 ≡ false → ExpLinked code sc i c j → length h ≡ 65535 → used ≤ 65535 → Constants code h used →
        ltb (constant_at code i).from (constant_at code i).to ≡ true → ValuedAs (apply σ c) (value_at code f base used i h)
    unfolding value_at
    valued_constant {i} {c} {j} m a e n l z fit k o =
        let x = k.holds i (ltb-true (constant_at code i).from (constant_at code i).to o) in
        let p : (link_at code i).past ≡ j = ap (λ (w : Link). w.past) e in
        let y : run (constant_at code i).from (constant_at code i).to h ≡ cells (apply σ c) = x.is ∙ ap (λ (w : ℕ). cells_of code (w - i) i) p ∙ closed_cells code sc σ l (ap (λ (w : ℕ). named_in code (w - i) i) (inv p) ∙ x.nameless) in
        rw (e, n, o) (record {
          from = (constant_at code i).from;
          to = (constant_at code i).to;
          now = used;
          known = 0;
          done = refl;
          holds = record { below = x.below; is = y };
          knows = unknown;
          same = below_self;
          grown = omega arith;
          most = omega arith;
          fits = fit;
          size = z;
        })

    pub value_means : {i : ℕ} {c : Exp} {j : ℕ} → ExpLinked code sc i c j → Known sc c → length h ≡ 65535 → used + nodes (apply σ c) ≤ 65535 → ltb (constant_at code i).from (constant_at code i).to ≡ false → ValuedAs (apply σ c) (value_at code f base used i h)
    value_means {i} (sym_linked {z = s} e) kn z m o =
        valued_cells i (i + 1) 1 (4 * s + 1) 0 (atm (sym s)) z e refl o m (made_small i (i + 1) (atm (sym s)) (omega arith) (tokens_mean (sym_linked e) kn used h (omega arith) below_self z m)) unknown
    value_means {i} (e_linked {x = x} e) kn z m o =
        let l = typed_length typed in valued_name i (place_in (pe x) sc) (i + 1) _ z (omega arith) e (omega arith) (lookup_e (atm (sym 0)) x sc vs l)
    value_means {i} (a_linked {x = x} e) kn z m o =
        let l = typed_length typed in valued_name i (place_in (pa x) sc) (i + 1) _ z (omega arith) e (omega arith) (ap atm (lookup_a (sym 0) x sc vs l kn) ∙ atom_typed (atm (sym 0)) x typed kn)
    value_means {i} (cons_linked {j = j} {k = kk} {c = c} {d = d} b w lc ld e) kn z m o =
        let x1 = exp_goes_on code sc lc in let x2 = exp_goes_on code sc ld in
        let tc = apply σ c in let td = apply σ d in
        valued_cells i (kk + 1) 0 0 (known_pair (1 + nodes tc)) (pair tc td) z b refl o m
        (made_large i (kk + 1) (1 + nodes tc) (pair tc td) (omega arith) (head_written i j kk b w lc ld kn.0 z (omega arith)) (tokens_mean (cons_linked b w lc ld e) kn used h (omega arith) below_self z m)) (known_pair_lem tc td)
