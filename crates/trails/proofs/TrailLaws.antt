-- The path in cells is the path of semantics/proofs/Backtrack.antt.
use Prim.Native.Nat.{ℕ, suc, ◌+◌, ◌-◌, ◌<◌}
use mathlib.Core.Path.{◌≡◌, refl, ap, subst, ◌∙◌, sym as inv}
use mathlib.Core.Bool.{Bool, true, false, cond}
use mathlib.Core.List.{List, [], ◌∷◌, ◌++◌, append_assoc}
use native.Mathlib.Omega.{arith}
use lib.Dec.{leb}
use lib.ListN.{length, get_or, set, drop, length-append}
use lib.Seq.{get_or_at, set_at, drop-cons}
use borrow.Author.Tests.{ne_eqb}
use Rattle.semantics.proofs.Backtrack.{Choice, trail_of, backtrack_to, backtrack}
use Rattle.trails.specs.Twins.TrailCells.{choice_cell, taken_at, pending_at, latest_pending, path_left, backtracked}

-- the loop of `latest_pending`
module _ (path : List ℕ) where
  pub pending_here : (d i : ℕ) → d ≡ suc i → pending_at path i ≡ true → latest_pending path d ≡ d
  unfolding latest_pending
  pending_here d i e h = rw (e, h)

  pub pending_later : (d i : ℕ) → d ≡ suc i → pending_at path i ≡ false → latest_pending path d ≡ latest_pending path i
  unfolding latest_pending
  pending_later d i e h = rw (e, h)

abbrev pub code_of : Choice → ℕ
code_of c = choice_cell c.taken c.pending

-- a path's cells: the first decision first
abbrev pub choice_cells : List Choice → List ℕ
choice_cells [] = []
choice_cells (c ∷ cs) = choice_cells cs ++ (code_of c ∷ [])

pub choice_length : (cs : List Choice) → length (choice_cells cs) ≡ length cs
choice_length [] = refl
choice_length (c ∷ cs) = omega (arith, length-append (choice_cells cs) (code_of c ∷ []), choice_length cs)

-- the first `depth` cells hold the path
pub record PathHeld (cs : List Choice) (path : List ℕ) (depth : ℕ) : Type 0 where
  pub rest : List ℕ
  pub cells : path ≡ choice_cells cs ++ rest
  pub size : depth ≡ length cs

-- one choice more
pub path_pushed : {cs : List Choice} {path : List ℕ} {depth : ℕ} (c : Choice) → PathHeld cs path depth → length cs < length path → PathHeld (c ∷ cs) (set path depth (code_of c)) (depth + 1)
path_pushed {cs} {path} {depth} c h room =
    let n = choice_length cs in
    let l : 0 < length h.rest = omega (arith, ap length h.cells, length-append (choice_cells cs) h.rest) in
    let e : path ≡ choice_cells cs ++ (get_or h.rest 0 0 ∷ drop 1 h.rest) = h.cells ∙ ap (λ (r : List ℕ). choice_cells cs ++ r) (drop-cons h.rest 0 0 l) in
    let f : set path depth (code_of c) ≡ choice_cells cs ++ (code_of c ∷ drop 1 h.rest) =
    ap (λ (p : List ℕ). set p depth (code_of c)) e ∙ set_at (choice_cells cs) (get_or h.rest 0 0) (drop 1 h.rest) (code_of c) depth (omega (arith, h.size)) in
    record { rest = drop 1 h.rest; cells = f ∙ inv (append_assoc (choice_cells cs) (code_of c ∷ []) (drop 1 h.rest)); size = omega (arith, h.size) }

pending_code : (c : Choice) → leb 2 (code_of c) ≡ c.pending
pending_code c = pick c.taken c.pending
  where
    pick : (a b : Bool) → leb 2 (choice_cell a b) ≡ b
    pick true true = refl
    pick true false = refl
    pick false true = refl
    pick false false = refl

-- the latest choice whose false branch is untaken
latest : (cs : List Choice) (rest : List ℕ) → latest_pending (choice_cells cs ++ rest) (length cs) ≡ length (backtrack cs)
unfolding latest_pending
latest [] rest = refl
latest (c ∷ cs) rest =
    let e = append_assoc (choice_cells cs) (code_of c ∷ []) rest in
    let g : get_or (choice_cells (c ∷ cs) ++ rest) (length cs) 0 ≡ code_of c = ap (λ (l : List ℕ). get_or l (length cs) 0) e ∙ get_or_at (choice_cells cs) (code_of c) rest 0 (length cs) (choice_length cs) in
    rw (g, pending_code c) (pick c.pending (ap (λ (l : List ℕ). latest_pending l (length cs)) e ∙ latest cs (code_of c ∷ rest)))
  where
    pick : (b : Bool) → latest_pending (choice_cells (c ∷ cs) ++ rest) (length cs) ≡ length (backtrack cs) →
        cond b (suc (length cs)) (latest_pending (choice_cells (c ∷ cs) ++ rest) (length cs)) ≡ length (backtrack_to (backtrack cs) cs b)
    pick true h = refl
    pick false h = h

-- a path that went back is a beginning with one choice more
pub data Backed (cs : List Choice) : List Choice → Type 0 where
  spent : Backed cs []
  turned : (c : Choice) (ds es : List Choice) → c.pending ≡ true → cs ≡ es ++ (c ∷ ds) → Backed cs (record { taken = false; pending = false } ∷ ds)

pub backs : (cs : List Choice) → Backed cs (backtrack cs)
backs [] = spent
backs (c ∷ cs) = pick c.pending refl (backtrack cs) (backs cs)
  where
    pick : (b : Bool) → c.pending ≡ b → (bs : List Choice) → Backed cs bs → Backed (c ∷ cs) (backtrack_to bs cs b)
    pick true e bs h = turned c cs [] e refl
    pick false e bs spent = spent
    pick false e bs (turned d ds es f q) = turned d ds (c ∷ es) f (ap {B = List Choice} (λ (l : List Choice). c ∷ l) q)

cells_append : (es ds : List Choice) → choice_cells (es ++ ds) ≡ choice_cells ds ++ choice_cells es
cells_append [] ds = inv (nil (choice_cells ds))
  where
    nil : (l : List ℕ) → l ++ [] ≡ l
    nil [] = refl
    nil (x ∷ l) = ap {B = List ℕ} (λ (m : List ℕ). x ∷ m) (nil l)
cells_append (e ∷ es) ds = ap (λ (l : List ℕ). l ++ (code_of e ∷ [])) (cells_append es ds) ∙ append_assoc (choice_cells ds) (choice_cells es) (code_of e ∷ [])

-- `backtrack` does what `backtrack` of the definitions does: the walk has ended, or the path is held
module _ {cs : List Choice} {path : List ℕ} {depth : ℕ} (h : PathHeld cs path depth) where
  latest_held : latest_pending path depth ≡ length (backtrack cs)
  latest_held = ap (λ (d : ℕ). latest_pending path d) h.size ∙ ap (λ (p : List ℕ). latest_pending p (length cs)) h.cells ∙ latest cs h.rest

  pub backtrack_ended : backtrack cs ≡ [] → (backtracked path depth).depth ≡ 0
  unfolding backtracked
  backtrack_ended e = let z : latest_pending path depth ≡ 0 = latest_held ∙ ap (λ (l : List Choice). length l) e in rw (z)

  pub backtrack_held : (d : Choice) (ds : List Choice) → backtrack cs ≡ d ∷ ds → let w = backtracked path depth in (w.depth ≡ suc (length ds)) × PathHeld (d ∷ ds) w.path w.depth
  unfolding backtracked
  backtrack_held d ds e = go (backtrack cs) (backs cs) e
    where
      n : latest_pending path depth ≡ suc (length ds)
      n = latest_held ∙ ap (λ (l : List Choice). length l) e

      go : (bs : List Choice) → Backed cs bs → bs ≡ d ∷ ds → let w = backtracked path depth in (w.depth ≡ suc (length ds)) × PathHeld (d ∷ ds) w.path w.depth
      go bs spent q = let z : ◌≡◌ {A = ℕ} 0 1 = cc in absurd (omega arith)
      go bs (turned c ks es f q) r =
          let dd : d ≡ record { taken = false; pending = false } = cc in
          let kk : ks ≡ ds = cc in
          let cells : path ≡ choice_cells ds ++ (code_of c ∷ (choice_cells es ++ h.rest)) =
          h.cells ∙ ap (λ (l : List Choice). choice_cells l ++ h.rest) (q ∙ ap (λ (l : List Choice). es ++ (c ∷ l)) kk)
          ∙ ap (λ (l : List ℕ). l ++ h.rest) (cells_append es (c ∷ ds)) ∙ ap (λ (l : List ℕ). l ++ h.rest) (append_assoc (choice_cells ds) (code_of c ∷ []) (choice_cells es))
          ∙ append_assoc (choice_cells ds) (code_of c ∷ choice_cells es) h.rest in
          let m : suc (length ds) - 1 ≡ length ds = omega arith in
          let s : set path (length ds) 0 ≡ choice_cells ds ++ (0 ∷ (choice_cells es ++ h.rest)) =
          ap (λ (p : List ℕ). set p (length ds) 0) cells ∙ set_at (choice_cells ds) (code_of c) (choice_cells es ++ h.rest) 0 (length ds) (choice_length ds) in
          let answer : backtracked path depth ≡ path_left (suc (length ds)) (set path (length ds) 0) = rw (n, ne_eqb (suc (length ds)) 0 (λ z. omega arith), m) in
          rw answer (refl, record { rest = choice_cells es ++ h.rest; cells = s ∙ ap (λ (x : ℕ). choice_cells ds ++ (x ∷ (choice_cells es ++ h.rest))) (inv (ap code_of dd)) ∙ inv (append_assoc (choice_cells ds) (code_of d ∷ []) (choice_cells es ++ h.rest)); size = refl })

-- the decisions from the i-th on
abbrev pub Takes : List ℕ → ℕ → List Bool → Type 0
Takes path i [] = Unit {0}
Takes path i (b ∷ bs) = (taken_at path i ≡ b) × Takes path (suc i) bs

takes_more : (path : List ℕ) (i : ℕ) (bs : List Bool) (b : Bool) → Takes path i bs → taken_at path (i + length bs) ≡ b → Takes path i (bs ++ (b ∷ []))
takes_more path i [] b h e = let z : i + 0 ≡ i = omega arith in (rw z at e, tt)
takes_more path i (a ∷ bs) b h e = let z : i + suc (length bs) ≡ suc i + length bs = omega arith in (h.0, takes_more path (suc i) bs b h.1 (rw z at e))

taken_code : (c : Choice) → taken_at (code_of c ∷ []) 0 ≡ c.taken
taken_code c = pick c.taken c.pending
  where
    pick : (a b : Bool) → taken_at (choice_cell a b ∷ []) 0 ≡ a
    pick true true = refl
    pick true false = refl
    pick false true = refl
    pick false false = refl

pub trail_length : (cs : List Choice) → length (trail_of cs) ≡ length cs
trail_length [] = refl
trail_length (c ∷ cs) = omega (arith, length-append (trail_of cs) (c.taken ∷ []), trail_length cs)

takes_trail : (cs : List Choice) (rest : List ℕ) → Takes (choice_cells cs ++ rest) 0 (trail_of cs)
takes_trail [] rest = tt
takes_trail (c ∷ cs) rest =
    let e = append_assoc (choice_cells cs) (code_of c ∷ []) rest in
    let n : 0 + length (trail_of cs) ≡ length cs = omega (arith, trail_length cs) in
    let g : get_or (choice_cells (c ∷ cs) ++ rest) (length cs) 0 ≡ code_of c = ap (λ (l : List ℕ). get_or l (length cs) 0) e ∙ get_or_at (choice_cells cs) (code_of c) rest 0 (length cs) (choice_length cs) in
    takes_more (choice_cells (c ∷ cs) ++ rest) 0 (trail_of cs) c.taken (subst (λ (l : List ℕ). Takes l 0 (trail_of cs)) (inv e) (takes_trail cs (code_of c ∷ rest))) (rw (n, g) (taken_code c))

pub path_takes : {cs : List Choice} {path : List ℕ} {depth : ℕ} → PathHeld cs path depth → Takes path 0 (trail_of cs)
path_takes {cs} h = subst (λ (l : List ℕ). Takes l 0 (trail_of cs)) (inv h.cells) (takes_trail cs h.rest)

-- without its last choice
pub path_shorter : {b : Choice} {ds : List Choice} {path : List ℕ} → PathHeld (b ∷ ds) path (suc (length ds)) → PathHeld ds path (length ds)
path_shorter {b} {ds} h = record { rest = code_of b ∷ h.rest; cells = h.cells ∙ append_assoc (choice_cells ds) (code_of b ∷ []) h.rest; size = refl }

-- the choice with so many before it
pub path_at : (xs : List Choice) (c : Choice) (es : List Choice) {path : List ℕ} {depth : ℕ} → PathHeld (xs ++ (c ∷ es)) path depth → (taken_at path (length es) ≡ c.taken) × (pending_at path (length es) ≡ c.pending)
path_at xs c es {path} {depth} h =
    let e : path ≡ choice_cells es ++ (code_of c ∷ (choice_cells xs ++ h.rest)) =
    h.cells ∙ ap (λ (l : List ℕ). l ++ h.rest) (cells_append xs (c ∷ es) ∙ append_assoc (choice_cells es) (code_of c ∷ []) (choice_cells xs)) ∙ append_assoc (choice_cells es) (code_of c ∷ choice_cells xs) h.rest in
    let g : get_or path (length es) 0 ≡ code_of c = ap (λ (l : List ℕ). get_or l (length es) 0) e ∙ get_or_at (choice_cells es) (code_of c) (choice_cells xs ++ h.rest) 0 (length es) (choice_length es) in
    rw g (taken_code c, pending_code c)
