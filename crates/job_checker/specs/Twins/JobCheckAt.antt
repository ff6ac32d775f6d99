-- The check of a job by position: 10, 11, 12, over the tokens of a job that was read without refusal and of the program before it.
-- syntax/proofs/JobLaws.antt: it finds what language/specs/JobCheck.antt finds.
use Prim.Native.Nat.{ℕ, zero, suc, ◌+◌, ◌-◌}
use Rattle.std.specs.Prelude.{Bool, ◌&&◌, ◌||◌, List, leb, get_or, set, replicate}
use Rattle.std.proofs.Math.Bool.{true, false, cond, not}
use Rattle.std.proofs.Math.Dec.{eqb}
use Rattle.language.specs.Tokens.{symbol, aname, evariable, avariable, tag}
use Rattle.verdicts.specs.declared.found.Walked.{Walked}
use Rattle.verdicts.specs.declared.found.Args.{Args}
use Rattle.checker.specs.Twins.CheckAt.{first, judge, ahead, walked, arguments, pick}
use Rattle.verdicts.specs.Twins.Found.{Verdict, fine}

-- key, kind, num and at give what a token of the job holds, by its index; there are n. `runs` is whether the tool is the runner.
module _ (key kind : ℕ → ℕ) where
  abbrev pub atomic_at : ℕ → Bool
  atomic_at i = not (eqb (key i) 1) && not (eqb (kind i) (tag evariable))

module _ (kind at : ℕ → ℕ) (n : ℕ) (runs : Bool) where
  -- "in the runner, any variable in an input (offset: the variable)"
  abbrev pub datum_leaf : ℕ → Walked
  datum_leaf i = walked (ahead n 1 i) fine fine (judge (eqb (kind i) (tag symbol) || not runs) 10 (at i))

module _ (n : ℕ) where
  abbrev pub datum_pair : (ℕ → Walked) → ℕ → Walked
  datum_pair again i =
      let c = again (ahead n 2 i) in
      let d = again c.past in
      walked (ahead n 1 d.past) fine fine (first c.uses d.uses)

module _ (key kind at : ℕ → ℕ) (n : ℕ) (runs : Bool) where
  -- a d
  unfoldable pub datum_at : ℕ → ℕ → Walked
  datum_at zero i = datum_leaf kind at n runs i
  datum_at (suc room) i = pick (eqb (key i) 1) (datum_pair n (λ k. datum_at room k)) (datum_leaf kind at n runs) i

  -- mkey and mkind give what a token of the program holds, of m
  module _ (mkey mkind : ℕ → ℕ) (m : ℕ) where
    -- "10 job inputs unlike main's parameters in ... kind (offset: the input's first byte)": the parameter stands at p
    unfoldable pub input_at : ℕ → ℕ → Walked
    unfolding datum_at
    input_at p i =
        let c = datum_at 62 i in
        walked c.past fine fine (first (judge (not (eqb (mkind p) (tag aname)) || atomic_at key kind i) 10 (at i)) c.uses)

    -- the inputs from i on, the parameters from p on; b is whether they are as many so far, v the first fault so far
    unfoldable pub inputs_at : ℕ → ℕ → Bool → Verdict → ℕ → Args
    unfolding input_at
    inputs_at zero p b v i = arguments i false v
    inputs_at (suc f) p b v i =
        let c = input_at p i in
        cond (eqb (key i) 2) (arguments i (b && eqb (mkey p) 4) v)
        (inputs_at f (ahead m 1 p) (b && not (eqb (mkey p) 4)) (first v c.uses) c.past)

module _ (kind num : ℕ → ℕ) where
  -- a cell of 1 at the number of each `?aK` that stands among `left` tokens from j on
  unfoldable pub marked_from : ℕ → ℕ → List ℕ → List ℕ
  marked_from zero j cells = cells
  marked_from (suc left) j cells = marked_from left (j + 1) (cond (eqb (kind j) (tag avariable)) (set cells (num j) 1) cells)

  -- `?aK` with number x stands there: what such a cell says (syntax/proofs/JobLaws.antt: marked_stands)
  unfoldable pub stands_from : ℕ → ℕ → ℕ → Bool
  stands_from zero j x = false
  stands_from (suc left) j x = (eqb (kind j) (tag avariable) && eqb (num j) x) || stands_from left (j + 1) x

module _ (key kind num : ℕ → ℕ) where
  -- "11 a `neq` side not atomic, or its `?a` in neither input nor output": those that stand there are marked
  abbrev pub side_at : List ℕ → ℕ → Bool
  side_at marked i = atomic_at key kind i && (eqb (kind i) (tag symbol) || eqb (get_or marked (num i) 0) 1)

module _ (key kind num at : ℕ → ℕ) (n : ℕ) (runs : Bool) where
  -- the two sides of a non-equality, from i on
  unfoldable pub two_sides : List ℕ → ℕ → Walked
  unfolding datum_at
  two_sides marked i =
      let d = (datum_at key kind at n runs 61 i).past in
      let e = (datum_at key kind at n runs 61 d).past in
      walked (ahead n 1 e) fine fine (first (judge (side_at key kind num marked i) 11 (at i)) (judge (side_at key kind num marked d) 11 (at d)))

  unfoldable pub sides_at : ℕ → List ℕ → Verdict → ℕ → Walked
  unfolding two_sides
  sides_at zero marked v i = walked i fine fine v
  sides_at (suc f) marked v i =
      let c = two_sides marked (ahead n 1 i) in
      cond (eqb (key i) 2) (walked i fine fine v) (sides_at f marked (first v c.uses) c.past)

-- "12 N, W or T too large": val gives the value of a numeral
module _ (at val : ℕ → ℕ) (n : ℕ) where
  abbrev pub at_most : ℕ → ℕ → Verdict
  at_most most i = judge (leb (val i) most) 12 (at i)

  -- "N is 0 to 1,000, W 0 to 1,000,000, T 0 to 256"; the non-equalities end at c
  abbrev pub bounds_at : ℕ → Verdict
  bounds_at c = first (at_most 1000 (ahead n 3 c)) (first (at_most 1000000 (ahead n 7 c)) (at_most 256 (ahead n 11 c)))

-- 10 whole: "in number (offset: `in`) or kind"; main's parameters start at p
module _ (key kind at : ℕ → ℕ) (n : ℕ) (runs : Bool) (mkey mkind : ℕ → ℕ) (m : ℕ) where
  unfoldable pub tens_at : ℕ → Walked
  unfolding inputs_at
  tens_at p =
      let ins = inputs_at key kind at n runs mkey mkind m n p true fine 4 in
      walked ins.past fine fine (first (judge ins.fits 10 (at 3)) ins.uses)

-- 11 whole: the inputs end at a; inputs and output stand from 4 to before `end`, and "K is 1 to 999"
module _ (key kind num at : ℕ → ℕ) (n : ℕ) (runs : Bool) where
  unfoldable pub elevens_at : ℕ → Walked
  unfolding sides_at
  elevens_at a =
      let end = (datum_at key kind at n runs 62 (ahead n 3 a)).past in
      sides_at key kind num at n runs n (marked_from kind num (end - 4) 4 (replicate 1000 0)) fine (ahead n 3 end)

module _ (key kind num at val : ℕ → ℕ) (n : ℕ) (mkey mkind : ℕ → ℕ) (m : ℕ) (runs : Bool) where
  -- "Job: 10, 11, 12"
  unfoldable pub job_at : ℕ → Verdict
  job_at p =
      let ins = tens_at key kind at n runs mkey mkind m p in
      let qs = elevens_at key kind num at n runs ins.past in
      first ins.uses (first qs.uses (bounds_at at val n qs.past))
