-- A line that is added stands behind those before it, and zeros follow.
use Prim.Native.Nat.{ℕ, zero, suc, ◌+◌, ◌-◌, ◌*◌, ◌≤◌, ◌<◌, min}
use mathlib.Core.Path.{◌≡◌, refl, ap, ap₂, subst, ◌∙◌, sym as inv}
use mathlib.Core.List.{List, [], ◌∷◌, ◌++◌, append_assoc, append-nil}
use native.Mathlib.Omega.{arith}
use lib.ListN.{length, drop, replicate, length-append, length-replicate}
use Rattle.expressions.specs.Expression.{Exp, nodes, nodes_all}
use Rattle.expressions.specs.Class.{IOClass, nodes_class}
use Rattle.semantics.specs.Tree.{Line}
use Rattle.heap.specs.Twins.Entries.{nodes_from}
use Rattle.heap.proofs.FrameLaws.{Held}
use Rattle.heap.proofs.NodeLaws.{held_nodes}
use Rattle.heap.proofs.PartLaws.{held_first, nodes_joined}
use Rattle.meetings.specs.Twins.LineCells.{LineAnswer, line_answer, line_put}
use Rattle.meetings.specs.declared.class.Class.{Class}
use Rattle.meetings.proofs.ClassLaws.{MeetingHeld, reached, few as meeting-few}
use Rattle.meetings.proofs.LineLaws.{class_length, line_means}
use Rattle.lines.specs.LineCells.{line_cells, lines_cells, nodes_lines, answer_room}
use Rattle.lines.specs.Twins.Lines.{nodes_in_line, lines_more}
use Rattle.lines.specs.declared.line.Lines.{Lines}

-- n zeros
abbrev pub zeros : ℕ → List ℕ
zeros n = replicate n 0

zeros_length : (n : ℕ) → length (zeros n) ≡ n
zeros_length n = length-replicate {A = ℕ} n 0

-- how many cells lines take
pub lines_length : (ls : List Line) → length (lines_cells ls) ≡ 4 * length ls + nodes_lines ls
lines_length [] = refl
lines_length (l ∷ ls) = omega (arith, length-append (line_cells l) (lines_cells ls), class_length l.class, lines_length ls)

pub lines_append : (ls rs : List Line) → lines_cells (ls ++ rs) ≡ lines_cells ls ++ lines_cells rs
lines_append [] rs = refl
lines_append (l ∷ ls) rs = ap (λ (m : List ℕ). line_cells l ++ m) (lines_append ls rs) ∙ inv (append_assoc (line_cells l) (lines_cells ls) (lines_cells rs))

pub nodes_append : (ls rs : List Line) → nodes_lines (ls ++ rs) ≡ nodes_lines ls + nodes_lines rs
nodes_append [] rs = omega arith
nodes_append (l ∷ ls) rs = omega (arith, nodes_append ls rs)

-- The answer storage holds the lines ls, which have n nodes, and zeros behind them.
pub record LinesHeld (ls : List Line) (n : ℕ) (answer : List ℕ) (l : Lines) : Type 0 where
  pub count : l.count ≡ length ls
  pub nodes : l.nodes ≡ n
  pub sum : n ≡ nodes_lines ls
  pub few : n ≤ 16384
  pub top : l.top ≡ length (lines_cells ls)
  pub spare : ℕ
  pub stored : answer ≡ lines_cells ls ++ zeros spare

-- at the start
pub no_lines : (n : ℕ) → LinesHeld [] 0 (zeros n) (record { count = 0; nodes = 0; top = 0 })
no_lines n = record { count = refl; nodes = refl; sum = refl; few = omega arith; top = refl; spare = n; stored = refl }

drop_zeros : (k m : ℕ) → drop k (zeros (k + m)) ≡ zeros m
drop_zeros zero m = let z : 0 + m ≡ m = omega arith in rw z
drop_zeros (suc k) m = let z : suc k + m ≡ suc (k + m) = omega arith in rw z (drop_zeros k m)

-- The class that a meeting left, as a line.
module _ (Q : IOClass) (h f q : List ℕ) (c : Class) (m : MeetingHeld (reached Q) h f q c) (low : c.used ≤ 65535) where
  -- "inputs, output, 2 for each non-equality"; a count above 65,535 is as one of 65,535
  pub nodes_in : nodes_in_line c f ≡ min (nodes_all Q.con.ins + nodes Q.con.out) 65535 + 2 * min (length Q.neqs) 65535
  unfolding nodes_in_line
  nodes_in =
      let cs = Q.con.ins ++ (Q.con.out ∷ []) in
      let e : length cs ≡ c.entries = length-append Q.con.ins (Q.con.out ∷ []) ∙ inv m.entries in
      let x : Held h c.used f 0 (cs ++ (Q.con.out ∷ [])) = subst (λ (ts : List Exp). Held h c.used f 0 ts) (inv (append_assoc Q.con.ins (Q.con.out ∷ []) (Q.con.out ∷ []))) m.holds in
      let n : nodes_from (length cs) 0 f ≡ nodes_all cs = held_nodes (held_first cs (Q.con.out ∷ []) x) in
      let s = nodes_joined Q.con.ins (Q.con.out ∷ []) in
      let i : min c.entries 4120 ≡ length cs = omega (arith, m.entries, meeting-few m) in
      rw (i, n) (omega (arith, m.neqs))

  module _ (steps : ℕ) (within : steps ≤ 65535) {ls : List Line} {n : ℕ} {a : List ℕ} {l : Lines} (held : LinesHeld ls n a l) (fits : n + nodes_class Q ≤ 16384) (few : length ls < 256) (long : answer_room ≤ length a) where
    abbrev line_of : Line
    line_of = record { steps = steps; class = Q }

    abbrev rest : ℕ
    rest = held.spare - (4 + nodes_class Q)

    spared : held.spare ≡ (4 + nodes_class Q) + rest
    spared = omega (arith, ap length held.stored, length-append (lines_cells ls) (zeros held.spare), zeros_length held.spare, lines_length ls, held.sum)

    put : line_put c steps h f q l.top a ≡ line_answer (l.top + length (line_cells line_of)) (lines_cells ls ++ (line_cells line_of ++ zeros rest))
    put =
        let n : length (line_cells line_of) ≡ 4 + nodes_class Q = omega (arith, class_length Q) in
        let z : drop (length (line_cells line_of)) (zeros held.spare) ≡ zeros rest = ap₂ (λ (i j : ℕ). drop i (zeros j)) n spared ∙ drop_zeros (4 + nodes_class Q) rest in
        ap (line_put c steps h f q l.top) held.stored
        ∙ line_means m low steps within (omega arith) (lines_cells ls) (zeros held.spare) l.top (inv held.top) (omega (arith, held.top, lines_length ls, held.sum)) (omega (arith, spared, zeros_length held.spare))
        ∙ ap (λ (s : List ℕ). line_answer (l.top + length (line_cells line_of)) (lines_cells ls ++ (line_cells line_of ++ s))) z

    -- THE LAW of a line more
    pub line_stored : let w = line_put c steps h f q l.top a in LinesHeld (ls ++ (line_of ∷ [])) (n + nodes_class Q) w.answer (lines_more l (n + nodes_class Q) w.top)
    line_stored =
        let k : lines_cells (ls ++ (line_of ∷ [])) ≡ lines_cells ls ++ line_cells line_of = lines_append ls (line_of ∷ []) ∙ ap (λ (m : List ℕ). lines_cells ls ++ m) (append-nil (line_cells line_of)) in
        rw put (record {
          count = omega (arith, held.count, length-append ls (line_of ∷ []));
          nodes = refl;
          sum = omega (arith, nodes_append ls (line_of ∷ []), held.sum);
          few = fits;
          top = omega (arith, held.top, ap length k, length-append (lines_cells ls) (line_cells line_of));
          spare = rest;
          stored = inv (append_assoc (lines_cells ls) (line_cells line_of) (zeros rest)) ∙ ap (λ (m : List ℕ). m ++ zeros rest) (inv k);
        })

    -- in storage of the same length
    pub line_long : length (line_put c steps h f q l.top a).answer ≡ length a
    line_long =
        let i = ap (λ (w : LineAnswer). length w.answer) put in
        let j = length-append (lines_cells ls) (line_cells line_of ++ zeros rest) in
        let k = length-append (line_cells line_of) (zeros rest) in
        omega (arith, i, j, k, zeros_length rest, class_length Q, spared, ap length held.stored, length-append (lines_cells ls) (zeros held.spare), zeros_length held.spare)
