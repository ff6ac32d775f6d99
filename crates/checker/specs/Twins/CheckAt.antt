-- The check of a program by position: what a check comes to that builds nothing and keeps an index into the tokens of a text that was
-- read without refusal. A function of the code that checks has one of these for its contract.
-- syntax/proofs/ProgramLaws.antt: they find what language/specs/ProgramCheck.antt finds.
use Rattle.std.specs.Prelude.{ℕ, zero, suc, ◌+◌, ◌-◌, ◌<◌, ◌≡◌, Bool, true, false, cond, ◌&&◌, ◌||◌, not, List, eqb, leb, ltb, length, get_or, set, replicate}
use Prim.Native.String.{String}
use Rattle.language.specs.Bytes.{txt}
use Rattle.language.specs.Tokens.{Kind, symbol, ename, aname, tag, key_of}
use Rattle.verdicts.specs.declared.found.Walked.{Walked}
use Rattle.verdicts.specs.declared.found.Args.{Args}
use Rattle.checker.specs.declared.check.Names.{Names}
pub use Rattle.verdicts.specs.Twins.Found.{first, judge, walked, called, arguments}
unfoldable pub use Rattle.verdicts.specs.Twins.Found.{branched}
use Rattle.checker.specs.declared.check.Defs.{Defs}
use Rattle.checker.specs.declared.check.Bodies.{Bodies}
use Rattle.verdicts.specs.Twins.Found.{Verdict, fine}
use Rattle.refusals.specs.Faults.{fault}

-- k tokens on, and no further than the n tokens that there are
abbrev pub ahead : ℕ → ℕ → ℕ → ℕ
ahead n k i = cond (ltb n k) n (cond (ltb (n - k) i) n (i + k))

abbrev pub names : List ℕ → ℕ → Names
names cells used = record { cells = cells; used = used }

-- the first u cells are what they were
pub record Kept (u : ℕ) (a b : List ℕ) : Type 0 where
  pub size : length b ≡ length a
  pub same : (j : ℕ) → j < u → get_or b j 0 ≡ get_or a j 0

abbrev pub no_names : Names
no_names = record { cells = replicate 144 0; used = 0 }

-- one name more
abbrev pub push : Names → ℕ → Names
push sc x = cond (ltb sc.used 144) (record { cells = set sc.cells sc.used x; used = sc.used + 1 }) sc

-- b, v of them used, is what one name more makes of a, u of them used
pub record Put (a : List ℕ) (u x : ℕ) (b : List ℕ) (v : ℕ) : Type 0 where
  pub is : names b v ≡ push (names a u) x

abbrev pub pick : Bool → (ℕ → Walked) → (ℕ → Walked) → ℕ → Walked
pick true p q i = p i
pick false p q i = q i

abbrev pub pick_term : Bool → (Names → ℕ → Walked) → (Names → ℕ → Walked) → Names → ℕ → Walked
pick_term true p q sc i = p sc i
pick_term false p q sc i = q sc i

abbrev pub no_defs : Defs
no_defs = record { heads = replicate 64 0; count = 0; past = 0; names = fine }

-- one definition more, whose name stands at h and which ends before k
abbrev pub added : Defs → ℕ → ℕ → Verdict → Defs
added ds h k v =
    cond (ltb ds.count 64)
    (record { heads = set ds.heads ds.count h; count = ds.count + 1; past = k; names = first ds.names v })
    ds

-- The names, the functions and the parameters, by what of the tokens they ask.
module _ (kind num : ℕ → ℕ) where
  -- "`e.x` and `a.x` are two variables"
  abbrev pub same_name : ℕ → ℕ → Bool
  same_name i j = eqb (kind i) (kind j) && eqb (num i) (num j)

  -- the name at i is among the first u
  unfoldable pub is_named : List ℕ → ℕ → ℕ → Bool
  is_named cells zero i = false
  is_named cells (suc u) i = same_name (get_or cells u 0) i || is_named cells u i

module _ (num : ℕ → ℕ) where
  -- the place among the heads, `left` of them from j on, of the function with the name x
  unfoldable pub place_at : List ℕ → ℕ → ℕ → ℕ → ℕ
  place_at heads zero j x = j
  place_at heads (suc left) j x = cond (eqb (num (get_or heads j 0)) x) j (place_at heads left (j + 1) x)

module _ (key : ℕ → ℕ) (n : ℕ) where
  -- the names of the parameters from i on, behind those that are there
  unfoldable pub params_at : ℕ → Names → ℕ → Names
  params_at zero sc i = sc
  params_at (suc room) sc i = cond (eqb (key i) (key_of (txt "]"))) sc (params_at room (push sc i) (ahead n 1 i))

  -- the index of the bracket that closes them
  unfoldable pub params_end : ℕ → ℕ → ℕ
  params_end zero i = i
  params_end (suc room) i = cond (eqb (key i) (key_of (txt "]"))) i (params_end room (ahead n 1 i))

module _ (key kind : ℕ → ℕ) where
  -- the e at i is an ea
  abbrev pub atomic_at : ℕ → Bool
  atomic_at i = not (eqb (key i) (key_of (txt "("))) && not (eqb (kind i) (tag ename))

module _ (num at : ℕ → ℕ) where
  -- "6 a function ... defined twice": the function whose name stands at h is among the heads before
  abbrev pub head_twice : List ℕ → ℕ → ℕ → Verdict
  head_twice heads count h = judge (leb count (place_at num heads count 0 (num h))) 6 (at h)

-- key, kind, num and at give what a token holds, by its index; there are n tokens
module _ (key kind num at : ℕ → ℕ) (n : ℕ) where
  abbrev pub is_key : String → ℕ → Bool
  is_key w i = eqb (key i) (key_of (txt w))

  abbrev pub is_kind : Kind → ℕ → Bool
  is_kind k i = eqb (kind i) (tag k)

  abbrev pub in_reach : Names → ℕ → Bool
  in_reach sc i = is_named kind num sc.cells sc.used i

  -- "A name .. that a `cons?` binds may no longer be one already in reach on that branch." "Refused: 13, at the rebound name" (02, request 1)
  abbrev pub new_at : Names → ℕ → Verdict
  new_at sc i = judge (not (in_reach sc i)) 13 (at i)

  -- a `cons?` whose e comes to c and ends before its three names: "6 ... equal names in one `cons?`", and 13
  unfoldable pub binding_at : Names → Walked → Walked
  binding_at sc c =
      let h = c.past in
      let t = ahead n 1 h in
      let x = ahead n 2 h in
      walked h (judge (not (eqb (num h) (num t))) 6 (at t)) (first (new_at sc h) (first (new_at sc t) (new_at sc x))) c.uses

  -- "9 variable not in reach"
  abbrev pub leaf_at : Names → ℕ → Walked
  leaf_at sc i = walked (ahead n 1 i) fine fine (judge (is_kind symbol i || in_reach sc i) 9 (at i))

  -- `(cons e e)`
  abbrev pub pair_at : (ℕ → Walked) → ℕ → Walked
  pair_at again i =
      let c = again (ahead n 2 i) in
      let d = again c.past in
      walked (ahead n 1 d.past) fine fine (first c.uses d.uses)

  -- an e
  unfoldable pub exp_at : ℕ → Names → ℕ → Walked
  exp_at zero sc i = leaf_at sc i
  exp_at (suc room) sc i = pick (is_key "(" i) (pair_at (λ k. exp_at room sc k)) (leaf_at sc) i

  -- "8 not atomic where an ea is due", then 9
  unfoldable pub ea_at : ℕ → Names → ℕ → Walked
  unfolding exp_at
  ea_at room sc i = let c = exp_at room sc i in walked c.past fine fine (first (judge (atomic_at key kind i) 8 (at i)) c.uses)

  -- "A parameter `a.NAME` takes only an ea": the parameter stands at p
  abbrev pub arg_at : ℕ → Names → ℕ → ℕ → Walked
  arg_at room sc p i = pick (is_kind aname p) (ea_at room sc) (exp_at room sc) i

  -- the arguments from i on, the parameters from p on; b is whether they are as many so far, v the first fault so far
  unfoldable pub args_at : ℕ → ℕ → Names → ℕ → Bool → Verdict → ℕ → Args
  args_at zero room sc p b v i = arguments i false v
  args_at (suc f) room sc p b v i =
      let c = arg_at room sc p i in
      cond (is_key "]" i) (arguments i (b && is_key "]" p) v)
      (args_at f room sc (ahead n 1 p) (b && not (is_key "]" p)) (first v c.uses) c.past)

  -- the definitions by their heads, of which there are `count`
  module _ (heads : List ℕ) (count : ℕ) where
    -- `(call F [e ..])`: "7 call of an unknown function, or a wrong number of arguments (offset: the function's name in the call)"
    abbrev pub call_at : ℕ → Names → ℕ → Walked
    call_at room sc i =
        let f = ahead n 2 i in
        let g = place_at num heads count 0 (num f) in
        let c = args_at n room sc (ahead n 2 (get_or heads g 0)) true fine (ahead n 4 i) in
        called (ahead n 2 c.past) (judge (ltb g count && c.fits) 7 (at f)) c.uses

    -- `(if (eqa? ea ea) t t)`
    abbrev pub eqa_at : (Names → ℕ → Walked) → ℕ → Names → ℕ → Walked
    eqa_at again room sc i =
        let c = ea_at room sc (ahead n 4 i) in
        let d = ea_at room sc c.past in
        let s = again sc (ahead n 1 d.past) in
        let u = again sc s.past in
        branched (ahead n 1 u.past) (walked d.past fine fine (first c.uses d.uses)) s u

    -- `(if (cons? e xe xe xa) t t)`: "The true branch of `cons?` has its two xe, the false branch its xa"
    abbrev pub consp_at : (Names → ℕ → Walked) → ℕ → Names → ℕ → Walked
    consp_at again room sc i =
        let c = exp_at room sc (ahead n 4 i) in
        let h = c.past in
        let s = again (push (push sc h) (ahead n 1 h)) (ahead n 4 h) in
        let u = again (push sc (ahead n 2 h)) s.past in
        branched (ahead n 1 u.past) (binding_at sc c) s u

    abbrev pub if_at : (Names → ℕ → Walked) → ℕ → Names → ℕ → Walked
    if_at again room sc i = pick_term (is_key "eqa?" (ahead n 3 i)) (eqa_at again room) (consp_at again room) sc i

    -- behind an opening bracket
    abbrev pub form_at : (Names → ℕ → Walked) → ℕ → Names → ℕ → Walked
    form_at again room sc i =
        pick_term (is_key "call" (ahead n 1 i)) (call_at room)
        (pick_term (is_key "if" (ahead n 1 i)) (if_at again room) (λ sc i. pair_at (exp_at room sc) i)) sc i

    -- a t
    unfoldable pub term_at : ℕ → Names → ℕ → Walked
    term_at zero sc i = leaf_at sc i
    term_at (suc room) sc i = pick_term (is_key "(" i) (form_at (λ sc k. term_at room sc k) room) leaf_at sc i

  -- "6 ... a parameter defined twice (offset: the second name)"; `before` are the earlier ones
  unfoldable pub params_twice : ℕ → Names → ℕ → Verdict
  params_twice zero before i = fine
  params_twice (suc room) before i =
      cond (is_key "]" i) fine (cond (in_reach before i) (fault 6 (at i)) (params_twice room (push before i) (ahead n 1 i)))

  -- the body of the definition that starts at i, for 6
  abbrev pub walked_body : List ℕ → ℕ → Walked
  walked_body heads i = term_at heads 0 63 no_names (ahead n 1 (params_end key n 16 (ahead n 4 i)))

  -- one definition more: "6 a function or a parameter defined twice; equal names in one `cons?`"
  abbrev pub def_at : Defs → Defs
  def_at ds =
      let h = ahead n 2 ds.past in
      let t = walked_body ds.heads ds.past in
      added ds h (ahead n 1 t.past) (first (head_twice num at ds.heads ds.count h) (first (params_twice 16 no_names (ahead n 4 ds.past)) t.names))

  -- definitions up to the end
  unfoldable pub defs_at : ℕ → Defs → Defs
  defs_at zero ds = ds
  defs_at (suc left) ds = cond (is_key "" ds.past) ds (defs_at left (def_at ds))

  -- the body of the definition whose name stands at h, with its parameters in reach, for 13 and 7, 8, 9
  abbrev pub body_at : List ℕ → ℕ → ℕ → Walked
  body_at heads count h =
      let p = ahead n 2 h in
      term_at heads count 63 (params_at key n 16 no_names p) (ahead n 1 (params_end key n 16 p))

  -- and those of the definitions from number j on; v and w are the first faults so far
  unfoldable pub bodies_at : List ℕ → ℕ → ℕ → ℕ → Verdict → Verdict → Bodies
  bodies_at heads count zero j v w = record { rebound = v; uses = w }
  bodies_at heads count (suc left) j v w =
      let t = body_at heads count (get_or heads j 0) in
      bodies_at heads count left (j + 1) (first v t.rebound) (first w t.uses)

  -- "Program: 6; then 7, 8, 9 at the earliest token"; 13 "after 6 and before 7, 8 and 9" (02, request 1)
  unfoldable pub program_at : Verdict
  unfolding defs_at bodies_at
  program_at =
      let ds = defs_at 64 no_defs in
      let found = bodies_at ds.heads ds.count ds.count 0 fine fine in
      first ds.names (first found.rebound found.uses)
