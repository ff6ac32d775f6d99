-- What is found of a part depends on the names in reach and on nothing that stands in the cells behind them. So a walk may be lent cells in
-- which the part before it left its own names (specs/Twins/CheckAt.antt, Kept).
use Prim.Native.Nat.{ℕ, zero, suc, ◌+◌, ◌≤◌, ◌<◌}
use mathlib.Core.Path.{◌≡◌, refl, ap, subst, ◌∙◌, sym as inv}
use mathlib.Core.Bool.{Bool, true, false, cond}
use mathlib.Core.List.{List}
use native.Mathlib.Omega.{arith}
use lib.Dec.{eqb, ltb}
use lib.ListN.{length, get_or, set, length-set, get_or-eq_default}
use lib.Seq.{get_or-set_same, get_or-set_other}
use borrow.Author.Tests.{ltb-true, ltb-false}
use Rattle.language.specs.Bytes.{txt}
use Rattle.language.specs.Tokens.{aname, tag, key_of}
use Rattle.verdicts.specs.declared.found.Walked.{Walked}
use Rattle.checker.specs.declared.check.Names.{Names}
use Rattle.checker.specs.Twins.CheckAt.{Kept, Put, names, push, ahead, pick, pick_term, is_named, binding_at, branched, leaf_at, pair_at, exp_at, ea_at, arg_at, args_at, call_at, eqa_at, consp_at, if_at, form_at, term_at}
use Rattle.verdicts.specs.Twins.Found.{Verdict}

pub kept_all : (u : ℕ) (a : List ℕ) → Kept u a a
kept_all u a = record { size = refl; same = λ j l. refl }

pub kept_on : {u v : ℕ} {a b d : List ℕ} → u ≤ v → Kept u a b → Kept v b d → Kept u a d
kept_on l h k = record { size = k.size ∙ h.size; same = λ j m. k.same j (omega arith) ∙ h.same j m }

pub at_most : {u v w : ℕ} → u ≤ v → v ≤ w → u ≤ w
at_most l k = omega arith

-- the same names in reach
record Alike (sc td : Names) : Type 0 where
  count : td.used ≡ sc.used
  cells : Kept sc.used sc.cells td.cells

-- a cell that is set, or stands in neither
set_alike : (a b : List ℕ) (u x : ℕ) → length b ≡ length a → get_or (set b u x) u 0 ≡ get_or (set a u x) u 0
set_alike a b u x e = go (ltb u (length a)) refl
  where
    go : (t : Bool) → ltb u (length a) ≡ t → get_or (set b u x) u 0 ≡ get_or (set a u x) u 0
    go true h =
        let l = ltb-true u (length a) h in let k : u < length b = omega arith in
        get_or-set_same b u x 0 k ∙ inv (get_or-set_same a u x 0 l)
    go false h =
        let l = ltb-false u (length a) h in let p = length-set a u x in let q = length-set b u x in
        let m : length (set a u x) ≤ u = omega arith in let k : length (set b u x) ≤ u = omega arith in
        get_or-eq_default (set b u x) 0 k ∙ inv (get_or-eq_default (set a u x) 0 m)

set_kept : (a b : List ℕ) (u x j : ℕ) → Kept u a b → j < u + 1 → get_or (set b u x) j 0 ≡ get_or (set a u x) j 0
set_kept a b u x j h l = go (ltb j u) refl
  where
    go : (t : Bool) → ltb j u ≡ t → get_or (set b u x) j 0 ≡ get_or (set a u x) j 0
    go true e =
        let m = ltb-true j u e in let f : j ≡ u → ⊥ = (λ g. omega arith) in
        get_or-set_other b u j x 0 f ∙ h.same j m ∙ inv (get_or-set_other a u j x 0 f)
    go false e =
        let m = ltb-false j u e in let g : u ≡ j = omega arith in
        subst (λ (k : ℕ). get_or (set b u x) k 0 ≡ get_or (set a u x) k 0) g (set_alike a b u x h.size)

-- one name more in both
pushed_alike : (a b : List ℕ) (u x : ℕ) → Kept u a b → Alike (push (names a u) x) (push (names b u) x)
pushed_alike a b u x h = go (ltb u 144)
  where
    go : (t : Bool) → Alike (cond t (names (set a u x) (u + 1)) (names a u)) (cond t (names (set b u x) (u + 1)) (names b u))
    go true = record { count = refl; cells = record { size = length-set b u x ∙ h.size ∙ inv (length-set a u x); same = λ j l. set_kept a b u x j h l } }
    go false = record { count = refl; cells = h }

push_alike : (sc td : Names) (x : ℕ) → Alike sc td → Alike (push sc x) (push td x)
push_alike sc td x h =
    subst (λ (v : ℕ). Alike (push sc x) (push (names td.cells v) x)) (inv h.count) (pushed_alike sc.cells td.cells sc.used x h.cells)

-- a name more keeps those that were there
pushed_kept : (a : List ℕ) (u x : ℕ) → Kept u a (push (names a u) x).cells
pushed_kept a u x = go (ltb u 144)
  where
    go : (t : Bool) → Kept u a (cond t (names (set a u x) (u + 1)) (names a u)).cells
    go true = record { size = length-set a u x; same = λ j l. get_or-set_other a u j x 0 (λ e. omega arith) }
    go false = kept_all u a

pushed_more : (a : List ℕ) (u x : ℕ) → u ≤ (push (names a u) x).used
pushed_more a u x = go (ltb u 144)
  where
    go : (t : Bool) → u ≤ (cond t (names (set a u x) (u + 1)) (names a u)).used
    go true = omega arith
    go false = omega arith

pub put_kept : {a b : List ℕ} {u v x : ℕ} → Put a u x b v → Kept u a b
put_kept {a} {b} {u} {v} {x} p = subst (Kept u a) (inv (ap (λ (sc : Names). sc.cells) p.is)) (pushed_kept a u x)

pub put_more : {a b : List ℕ} {u v x : ℕ} → Put a u x b v → u ≤ v
put_more {a} {b} {u} {v} {x} p = subst (λ (k : ℕ). u ≤ k) (inv (ap (λ (sc : Names). sc.used) p.is)) (pushed_more a u x)

named_kept : (kind num : ℕ → ℕ) (u i : ℕ) (a b : List ℕ) → Kept u a b → is_named kind num b u i ≡ is_named kind num a u i
unfolding is_named
named_kept kind num zero i a b h = refl
named_kept kind num (suc u) i a b h =
    rw (h.same u (omega arith), named_kept kind num u i a b (record { size = h.size; same = λ j l. h.same j (omega arith) }))

named_alike : (kind num : ℕ → ℕ) (sc td : Names) (i : ℕ) → Alike sc td → is_named kind num td.cells td.used i ≡ is_named kind num sc.cells sc.used i
named_alike kind num sc td i h = rw h.count (named_kept kind num sc.used i sc.cells td.cells h.cells)

pick_alike : (b : Bool) (p q r s : ℕ → Walked) (i : ℕ) → p i ≡ r i → q i ≡ s i → pick b p q i ≡ pick b r s i
pick_alike true p q r s i e f = e
pick_alike false p q r s i e f = f

term_pick : (b : Bool) (p q : Names → ℕ → Walked) (sc td : Names) (i : ℕ) → p td i ≡ p sc i → q td i ≡ q sc i → pick_term b p q td i ≡ pick_term b p q sc i
term_pick true p q sc td i e f = e
term_pick false p q sc td i e f = f

module _ (key kind num at : ℕ → ℕ) (n : ℕ) where
  pair_alike : (f g : ℕ → Walked) (i : ℕ) → ((k : ℕ) → f k ≡ g k) → pair_at key kind num at n f i ≡ pair_at key kind num at n g i
  pair_alike f g i h = rw (h _, h _)

  leaf_alike : (sc td : Names) (i : ℕ) → Alike sc td → leaf_at key kind num at n td i ≡ leaf_at key kind num at n sc i
  leaf_alike sc td i h = rw (named_alike kind num sc td i h)

  -- and so is what is found of the names that a `cons?` binds
  binding_alike : (sc td : Names) (c : Walked) → Alike sc td → binding_at key kind num at n td c ≡ binding_at key kind num at n sc c
  unfolding binding_at
  binding_alike sc td c h = rw (named_alike kind num sc td _ h, named_alike kind num sc td _ h, named_alike kind num sc td _ h)

  exp_alike : (room : ℕ) (sc td : Names) (i : ℕ) → Alike sc td → exp_at key kind num at n room td i ≡ exp_at key kind num at n room sc i
  unfolding exp_at
  exp_alike zero sc td i h = leaf_alike sc td i h
  exp_alike (suc room) sc td i h =
      pick_alike (eqb (key i) 1) (pair_at key kind num at n (λ k. exp_at key kind num at n room td k)) (leaf_at key kind num at n td) (pair_at key kind num at n (λ k. exp_at key kind num at n room sc k)) (leaf_at key kind num at n sc) i
      (pair_alike _ _ i (λ k. exp_alike room sc td k h)) (leaf_alike sc td i h)

  ea_alike : (room : ℕ) (sc td : Names) (i : ℕ) → Alike sc td → ea_at key kind num at n room td i ≡ ea_at key kind num at n room sc i
  unfolding ea_at
  ea_alike room sc td i h = rw (exp_alike room sc td i h)

  arg_alike : (room : ℕ) (sc td : Names) (p i : ℕ) → Alike sc td → arg_at key kind num at n room td p i ≡ arg_at key kind num at n room sc p i
  arg_alike room sc td p i h =
      pick_alike (eqb (kind p) (tag aname)) (ea_at key kind num at n room td) (exp_at key kind num at n room td) (ea_at key kind num at n room sc) (exp_at key kind num at n room sc) i
      (ea_alike room sc td i h) (exp_alike room sc td i h)

  args_alike : (f room : ℕ) (sc td : Names) (p : ℕ) (b : Bool) (v : Verdict) (i : ℕ) → Alike sc td → args_at key kind num at n f room td p b v i ≡ args_at key kind num at n f room sc p b v i
  unfolding args_at
  args_alike zero room sc td p b v i h = refl
  args_alike (suc f) room sc td p b v i h = rw (arg_alike room sc td p i h, args_alike f room sc td _ _ _ _ h)

  module _ (heads : List ℕ) (count : ℕ) where
    call_alike : (room : ℕ) (sc td : Names) (i : ℕ) → Alike sc td → call_at key kind num at n heads count room td i ≡ call_at key kind num at n heads count room sc i
    call_alike room sc td i h = rw (args_alike n room sc td _ _ _ _ h)

    -- a way to check terms that sees the names in reach alone
    abbrev Sees : (Names → ℕ → Walked) → Type 0
    Sees again = (sc td : Names) (i : ℕ) → Alike sc td → again td i ≡ again sc i

    eqa_alike : (again : Names → ℕ → Walked) → Sees again → (room : ℕ) (sc td : Names) (i : ℕ) → Alike sc td →
        eqa_at key kind num at n heads count again room td i ≡ eqa_at key kind num at n heads count again room sc i
    eqa_alike again s room sc td i h = rw (ea_alike room sc td _ h, ea_alike room sc td _ h, s sc td _ h, s sc td _ h)

    consp_alike : (again : Names → ℕ → Walked) → Sees again → (room : ℕ) (sc td : Names) (i : ℕ) → Alike sc td →
        consp_at key kind num at n heads count again room td i ≡ consp_at key kind num at n heads count again room sc i
    consp_alike again s room sc td i h =
        rw (exp_alike room sc td _ h, binding_alike sc td _ h, s _ _ _ (push_alike _ _ _ (push_alike sc td _ h)), s _ _ _ (push_alike sc td _ h))

    if_alike : (again : Names → ℕ → Walked) → Sees again → (room : ℕ) (sc td : Names) (i : ℕ) → Alike sc td →
        if_at key kind num at n heads count again room td i ≡ if_at key kind num at n heads count again room sc i
    if_alike again s room sc td i h =
        term_pick (eqb (key (ahead n 3 i)) (key_of (txt "eqa?"))) (eqa_at key kind num at n heads count again room) (consp_at key kind num at n heads count again room) sc td i
        (eqa_alike again s room sc td i h) (consp_alike again s room sc td i h)

    abbrev pair_of : ℕ → Names → ℕ → Walked
    pair_of room sc i = pair_at key kind num at n (exp_at key kind num at n room sc) i

    abbrev not_call : (Names → ℕ → Walked) → ℕ → ℕ → Names → ℕ → Walked
    not_call again room i = pick_term (eqb (key (ahead n 1 i)) (key_of (txt "if"))) (if_at key kind num at n heads count again room) (pair_of room)

    form_alike : (again : Names → ℕ → Walked) → Sees again → (room : ℕ) (sc td : Names) (i : ℕ) → Alike sc td →
        form_at key kind num at n heads count again room td i ≡ form_at key kind num at n heads count again room sc i
    form_alike again s room sc td i h =
        term_pick (eqb (key (ahead n 1 i)) (key_of (txt "call"))) (call_at key kind num at n heads count room) (not_call again room i) sc td i (call_alike room sc td i h)
        (term_pick (eqb (key (ahead n 1 i)) (key_of (txt "if"))) (if_at key kind num at n heads count again room) (pair_of room) sc td i
        (if_alike again s room sc td i h) (pair_alike _ _ i (λ k. exp_alike room sc td k h)))

    term_alike : (room : ℕ) (sc td : Names) (i : ℕ) → Alike sc td → term_at key kind num at n heads count room td i ≡ term_at key kind num at n heads count room sc i
    unfolding term_at
    term_alike zero sc td i h = leaf_alike sc td i h
    term_alike (suc room) sc td i h =
        term_pick (eqb (key i) 1) (form_at key kind num at n heads count (λ sc k. term_at key kind num at n heads count room sc k) room) (leaf_at key kind num at n) sc td i
        (form_alike (λ sc k. term_at key kind num at n heads count room sc k) (λ sc td k. term_alike room sc td k) room sc td i h) (leaf_alike sc td i h)

    -- in cells of which those in use are kept, as they stand or with one name more
    pub term_kept : (room : ℕ) {u : ℕ} {a b : List ℕ} (i : ℕ) → Kept u a b → term_at key kind num at n heads count room (names b u) i ≡ term_at key kind num at n heads count room (names a u) i
    term_kept room {u} {a} {b} i h = term_alike room (names a u) (names b u) i (record { count = refl; cells = h })

    pub term_put : (room : ℕ) {u : ℕ} {a b : List ℕ} (x i : ℕ) → Kept u a b →
        term_at key kind num at n heads count room (push (names b u) x) i ≡ term_at key kind num at n heads count room (push (names a u) x) i
    term_put room {u} {a} {b} x i h = term_alike room (push (names a u) x) (push (names b u) x) i (pushed_alike a b u x h)

    -- what the walk of a `cons?` finds, part by part: the second branch is walked in the cells that the first one left
    pub consp_found : (room i : ℕ) {u i4 t x h4 v1 v2 v3 : ℕ} {a a1 a2 a3 a4 : List ℕ} {c s w : Walked} →
        i4 ≡ ahead n 4 i → c ≡ exp_at key kind num at n room (names a u) i4 → t ≡ ahead n 1 c.past → x ≡ ahead n 2 c.past →
        Put a u c.past a1 v1 → Put a1 v1 t a2 v2 → h4 ≡ ahead n 4 c.past → s ≡ term_at key kind num at n heads count room (names a2 v2) h4 →
        Kept u a a3 → Put a3 u x a4 v3 → w ≡ term_at key kind num at n heads count room (names a4 v3) s.past →
        consp_at key kind num at n heads count (λ sc k. term_at key kind num at n heads count room sc k) room (names a u) i ≡
        branched (ahead n 1 w.past) (binding_at key kind num at n (names a u) c) s w
    consp_found room i {x = x} {s = s} pi pc pt px p1 p2 ph ps k p3 pw =
        let w2 = pw ∙ ap (λ (sc : Names). term_at key kind num at n heads count room sc s.past) p3.is ∙ term_put room x s.past k in
        rw (← pi, ← pc, ← pt, ← px, ← ph, ← p1.is, ← p2.is, ← ps, ← w2)

pub by_way : {A : Type 0} {x y z : A} → x ≡ y → z ≡ y → z ≡ x
by_way p q = q ∙ inv p
