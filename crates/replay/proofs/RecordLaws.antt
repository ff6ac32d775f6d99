-- What is saved along a path: the start, and configurations of choices that are pending, each with what it has in the heap.
use Prim.Native.Nat.{ℕ, zero, suc, ◌*◌, ◌≤◌}
use mathlib.Core.Path.{◌≡◌, refl, ap, subst, ◌∙◌}
use mathlib.Core.Bool.{Bool, true, false}
use mathlib.Core.List.{List, [], ◌∷◌, ◌++◌}
use native.Mathlib.Omega.{arith}
use native.Mathlib.Decide.{dec_le}
use lib.ListN.{length, take, length-append}
use lib.Seq.{take_all}
use Rattle.language.specs.Program.{Prog}
use Rattle.semantics.specs.Configuration.{nodes_state, Configuration}
use Rattle.semantics.specs.Tree.{Node, root}
use Rattle.semantics.proofs.Backtrack.{Choice, trail_of, backtrack_to, backtrack}
use Rattle.semantics.proofs.Soundness.{Sound}
use Rattle.semantics.proofs.Tracing.{Scoped}
use Rattle.semantics.proofs.Reaching.{Reaches}
use Rattle.heap.specs.declared.configuration.Configuration.{Configuration as InCells}
use Rattle.runs.proofs.RunLaws.{Below, below_self}
use Rattle.heap.proofs.FrameLaws.{held_back}
use Rattle.saving.specs.Twins.Saving.{loaded}
use Rattle.saving.specs.Twins.Records.{Record, Holding}
use Rattle.saving.proofs.HoldingLaws.{fit_last, load_frame, load_sides}
use Rattle.saving.proofs.BackLaws.{record_held, record_front}
use Rattle.constants.proofs.ConstantLaws.{Constants, constants_below}
use Rattle.values.proofs.StateLaws.{trees, Stands}
use Rattle.trails.proofs.ReachLaws.{Decides}

-- what holds of each configuration that a walk enters
pub record Entered (p : Prog) (K : Configuration) : Type 0 where
  pub sound : Sound p K
  pub scoped : Scoped p K
  pub size : nodes_state K.cr ≤ 4096

module _ (p : Prog) (bodies : ℕ → ℕ) (code : List ℕ) where
  -- what only writes at `used` and behind it keeps a configuration
  pub stands_below : {h g f q : List ℕ} {c : InCells} {K : Configuration} → Stands p bodies code h f q c K → Below c.used g h → length g ≡ 65535 → Stands p bodies code g f q c K
  stands_below {h} {g} {f} {q} {c} {K} s b l =
      let x = s.holds in
      record {
        names = s.names;
        holds = record {
          values = x.values;
          typed = x.typed;
          env = x.env;
          held = held_back x.held b;
          inputs = x.inputs;
          outputs = x.outputs;
          entries = x.entries;
          neqs = x.neqs;
          count = x.count;
          fits = x.fits;
          heap_size = l;
          frame_size = x.frame_size;
          q_size = x.q_size;
        };
        past = s.past;
        term = s.term;
        fresh = s.fresh;
      }

  -- the record r is that of the node y in the heap h
  pub record Recorded (h : List ℕ) (r : Record) (y : Node) : Type 0 where
    pub frame : List ℕ
    pub q : List ℕ
    pub stands : Stands p bodies code h frame q r.at y.conf
    pub constants : Constants code h r.at.used
    pub entries : r.entries ≡ take (3 * r.at.entries) frame
    pub sides : r.sides ≡ take (2 * r.at.neqs) q
    pub steps : r.steps ≡ y.steps
    pub room : r.at.used ≤ 40959

  pub recorded_below : {h g : List ℕ} {r : Record} {y : Node} → Recorded h r y → Below r.at.used g h → length g ≡ 65535 → Recorded g r y
  recorded_below x b l = record { frame = x.frame; q = x.q; stands = stands_below x.stands b l; constants = constants_below x.constants b (omega arith); entries = x.entries; sides = x.sides; steps = x.steps; room = x.room }

  -- brought back, it is held
  pub loaded_stands : {h s : List ℕ} {top : ℕ} (rs : List Record) (r : Record) (y : Node) → Holding s top (rs ++ (r ∷ [])) → Recorded h r y → (f q : List ℕ) → length f ≡ 12360 → length q ≡ 4096 →
      Stands p bodies code h (loaded s top f q).frame (loaded s top f q).q r.at y.conf
  loaded_stands {h} {s} {top} rs r y x k f q lf lq =
      let v = k.stands.holds in
      let n : r.at.entries ≡ length (trees y.conf.cr v.values) = v.entries in
      let m : r.at.neqs ≡ length y.conf.cr.neqs = v.count in
      let e : r.entries ≡ take (3 * length (trees y.conf.cr v.values)) k.frame = k.entries ∙ ap (λ (i : ℕ). take (3 * i) k.frame) n in
      let d : r.sides ≡ take (2 * length y.conf.cr.neqs) k.q = k.sides ∙ ap (λ (i : ℕ). take (2 * i) k.q) m in
      let few : 3 * length (trees y.conf.cr v.values) ≤ length k.frame = omega (arith, n, v.frame_size, (fit_last rs r x.fits).in_frame) in
      record {
        names = k.stands.names;
        holds = record {
          values = v.values;
          typed = v.typed;
          env = v.env;
          held = record_held rs r x f q lf lq v.held few e;
          inputs = v.inputs;
          outputs = v.outputs;
          entries = v.entries;
          neqs = record_front rs r x f q lf lq y.conf.cr.neqs k.q v.neqs d;
          count = v.count;
          fits = v.fits;
          heap_size = v.heap_size;
          frame_size = load_frame rs r x f q lf lq;
          q_size = load_sides rs r x f q lf lq;
        };
        past = k.stands.past;
        term = k.stands.term;
        fresh = k.stands.fresh;
      }

-- What a node on a path and its record have: N transitions from K₀, whose first leads to y₁, and the record b₀ of y₁.
module _ (p : Prog) (bodies : ℕ → ℕ) (code : List ℕ) (K₀ : Configuration) (N : ℕ) (y₁ : Node) (b₀ : Record) where
  abbrev pub Rooted : List Choice → ℕ → Node → Type 0
  Rooted cs m y = Reaches p (Entered p) N (root K₀) (trail_of cs) m y

  -- The records along a path, the last one named: the first is that of y₁, each other one of a choice that was pending when it was saved. Each has no less
  -- of the heap in use than those before it, and the walk no less than all.
  pub data Saves (h : List ℕ) : ℕ → List Choice → List Record → Record → Type 0 where
    only : {used : ℕ} {cs : List Choice} → Recorded p bodies code h b₀ y₁ → b₀.at.used ≤ used → Saves h used cs [] b₀
    passed : {used : ℕ} {c : Choice} {cs : List Choice} {qs : List Record} {r : Record} → Saves h used cs qs r → Saves h used (c ∷ cs) qs r
    keeps : {used : ℕ} {c : Choice} {cs : List Choice} {qs : List Record} {o : Record} (r : Record) (m : ℕ) (y : Node) → c.pending ≡ true → Rooted cs m y → Decides p y → Recorded p bodies code h r y →
        r.depth ≡ length cs → r.at.used ≤ used → Saves h r.at.used cs qs o → Saves h used (c ∷ cs) (qs ++ (o ∷ [])) r

  pub saves_more : {h : List ℕ} {used k : ℕ} {cs : List Choice} {qs : List Record} {r : Record} → Saves h used cs qs r → used ≤ k → Saves h k cs qs r
  saves_more {k = k} (only x l) m = only {used = k} x (omega arith)
  saves_more (passed s) m = passed (saves_more s m)
  saves_more {k = k} (keeps r n y e t d x z l s) m = keeps {used = k} r n y e t d x z (omega arith) s

  -- THE LAW of saving and going back: what only writes at `used` and behind it keeps every record
  pub saves_below : {h g : List ℕ} {used : ℕ} {cs : List Choice} {qs : List Record} {r : Record} → Saves h used cs qs r → Below used g h → length g ≡ 65535 → Saves g used cs qs r
  saves_below (only x l) b n = only (recorded_below p bodies code x (record { same = λ j m. b.same j (omega arith) }) n) l
  saves_below (passed s) b n = passed (saves_below s b n)
  saves_below {h} {g} (keeps r m y e t d x z l s) b n =
      let c : Below r.at.used g h = record { same = λ j i. b.same j (omega arith) } in
      keeps r m y e t d (recorded_below p bodies code x c n) z l (saves_below s c n)

  -- the constants lie below what is used
  pub saves_constants : {h : List ℕ} {used : ℕ} {cs : List Choice} {qs : List Record} {r : Record} → Saves h used cs qs r → Constants code h used
  saves_constants (only x l) = constants_below x.constants below_self l
  saves_constants (passed s) = saves_constants s
  saves_constants (keeps r m y e t d x z l s) = constants_below x.constants below_self l

  -- what the last record has in use
  pub saves_floor : {h : List ℕ} {used : ℕ} {cs : List Choice} {qs : List Record} {r : Record} → Saves h used cs qs r → (r.at.used ≤ used) × Saves h r.at.used cs qs r
  saves_floor (only x l) = (l, only {used = b₀.at.used} x (omega arith))
  saves_floor (passed s) = let a = saves_floor s in (a.0, passed a.1)
  saves_floor (keeps r m y e t d x z l s) = (l, keeps {used = r.at.used} r m y e t d x z (omega arith) s)

  -- the first record stays
  pub saves_first : {h : List ℕ} {used : ℕ} {cs : List Choice} {qs : List Record} {r : Record} → Saves h used cs qs r → (l : List Record) × (qs ++ (r ∷ []) ≡ b₀ ∷ l)
  saves_first (only x l) = ([], refl)
  saves_first (passed s) = saves_first s
  saves_first (keeps r m y e t d x z l s) = let a = saves_first s in (a.0 ++ (r ∷ []), ap (λ (k : List Record). k ++ (r ∷ [])) a.1)

  -- "Forgetting newer records is always allowed"
  pub record Older (h : List ℕ) (used : ℕ) (cs : List Choice) (rs : List Record) : Type 0 where
    pub qs : List Record
    pub r : Record
    pub is : rs ≡ qs ++ (r ∷ [])
    pub saves : Saves h used cs qs r

  take_joined : (k : ℕ) (rs : List Record) (r : Record) → k ≤ length rs → take k (rs ++ (r ∷ [])) ≡ take k rs
  take_joined zero rs r l = refl
  take_joined (suc k) [] r l = absurd (omega arith)
  take_joined (suc k) (x ∷ rs) r l = ap {B = List Record} (λ (m : List Record). x ∷ m) (take_joined k rs r (omega arith))

  older_passed : {h : List ℕ} {used k : ℕ} {c : Choice} {cs : List Choice} {rs : List Record} → used ≤ k → Older h used cs rs → Older h k (c ∷ cs) rs
  older_passed l o = record { qs = o.qs; r = o.r; is = o.is; saves = passed (saves_more o.saves l) }

  pub saves_take : {h : List ℕ} {used : ℕ} {cs : List Choice} {qs : List Record} {r : Record} → Saves h used cs qs r → (k : ℕ) → 1 ≤ k → k ≤ length (qs ++ (r ∷ [])) → Older h used cs (take k (qs ++ (r ∷ [])))
  saves_take (only x l) k a b = record { qs = []; r = b₀; is = take_all k (b₀ ∷ []) (omega arith); saves = only x l }
  saves_take (passed s) k a b = older_passed (omega arith) (saves_take s k a b)
  saves_take {h} {used} (keeps {c = c} {cs = cs} {qs = qs} {o = o} r m y e t d x z l s) k a b = go (dec_le k (length (qs ++ (o ∷ [])))) (λ i. saves_take s k a i)
    where
      go : Dec (k ≤ length (qs ++ (o ∷ []))) → (k ≤ length (qs ++ (o ∷ [])) → Older h r.at.used cs (take k (qs ++ (o ∷ [])))) → Older h used (c ∷ cs) (take k ((qs ++ (o ∷ [])) ++ (r ∷ [])))
      go (yes i) again = rw (take_joined k (qs ++ (o ∷ [])) r i) (older_passed l (again i))
      go (no i) again = record { qs = qs ++ (o ∷ []); r = r; is = take_all k ((qs ++ (o ∷ [])) ++ (r ∷ [])) (omega (arith, length-append (qs ++ (o ∷ [])) (r ∷ []))); saves = keeps r m y e t d x z l s }

  -- Where going back to the choice that comes after ds begins: at y₁, or at the choice of the last record.
  pub data Resumed (h : List ℕ) (ds : List Choice) (qs : List Record) (r : Record) : Type 0 where
    from_base : Recorded p bodies code h b₀ y₁ → qs ≡ [] → r ≡ b₀ → Resumed h ds qs r
    from_choice : (xs es : List Choice) (m : ℕ) (y : Node) (ps : List Record) (o : Record) → ds ≡ xs ++ es → Rooted es m y → Decides p y → Recorded p bodies code h r y → r.depth ≡ length es →
        qs ≡ ps ++ (o ∷ []) → Saves h r.at.used es ps o → Resumed h ds qs r

  resumed_behind : {h : List ℕ} {c : Choice} {ds : List Choice} {qs : List Record} {r : Record} → Resumed h ds qs r → Resumed h (c ∷ ds) qs r
  resumed_behind (from_base x e f) = from_base x e f
  resumed_behind {c = c} (from_choice xs es m y ps o e t d x z f s) = from_choice (c ∷ xs) es m y ps o (ap {B = List Choice} (λ (l : List Choice). c ∷ l) e) t d x z f s

  resumed_any : {h : List ℕ} {used : ℕ} {ds : List Choice} {qs : List Record} {r : Record} → Saves h used ds qs r → Resumed h ds qs r
  resumed_any (only x l) = from_base x refl refl
  resumed_any (passed s) = resumed_behind (resumed_any s)
  resumed_any (keeps {c = c} {cs = cs} {qs = qs} {o = o} r m y e t d x z l s) = from_choice (c ∷ []) cs m y qs o refl t d x z refl s

  pub resumed_latest : {h : List ℕ} {used : ℕ} {cs : List Choice} {qs : List Record} {r : Record} → Saves h used cs qs r → (b : Choice) (ds : List Choice) → backtrack cs ≡ b ∷ ds → Resumed h ds qs r
  resumed_latest (only x l) b ds e = from_base x refl refl
  resumed_latest {h} {used} (passed {c = c} {cs = cs} {qs = qs} {r = r} s) b ds e = go c.pending e (λ f. resumed_latest s b ds f)
    where
      go : (t : Bool) → backtrack_to (backtrack cs) cs t ≡ b ∷ ds → (backtrack cs ≡ b ∷ ds → Resumed h ds qs r) → Resumed h ds qs r
      go true f again = let i : cs ≡ ds = cc in subst (λ (l : List Choice). Resumed h l qs r) i (resumed_any s)
      go false f again = again f
  resumed_latest {h} (keeps {c = c} {cs = cs} {qs = qs} {o = o} r m y f t d x z l s) b ds e =
      let g = rw f at e in
      let i : cs ≡ ds = cc in
      subst (λ (k : List Choice). Resumed h k (qs ++ (o ∷ [])) r) i (from_choice [] cs m y qs o refl t d x z refl s)
