-- The check by position (specs/Twins/CheckAt.antt) of stored tokens, n of them: what the functions of the code come to.
use Rattle.std.specs.Prelude.{ℕ, Bool, List}
use Rattle.checker.specs.Twins.StoredAt.{key_at, tag_at, num_at, at_at}
use Rattle.checker.specs.Twins.CheckAt as at
use Rattle.checker.specs.Twins.CheckAt.{names}
use Rattle.verdicts.specs.declared.found.Walked.{Walked}
use Rattle.verdicts.specs.declared.found.Args.{Args}
use Rattle.checker.specs.declared.check.Names.{Names}
use Rattle.checker.specs.declared.check.Defs.{Defs}
use Rattle.checker.specs.declared.check.Bodies.{Bodies}
use Rattle.verdicts.specs.Twins.Found.{Verdict}

module _ (marks : List ℕ) (n : ℕ) where
  abbrev pub atomic_at : ℕ → Bool
  atomic_at i = at.atomic_at (key_at marks n) (tag_at marks n) i

  abbrev pub params_at : ℕ → Names → ℕ → Names
  params_at room sc i = at.params_at (key_at marks n) n room sc i

  abbrev pub params_end : ℕ → ℕ → ℕ
  params_end room i = at.params_end (key_at marks n) n room i

module _ (nums : List ℕ) (n : ℕ) where
  abbrev pub place_at : List ℕ → ℕ → ℕ → ℕ → ℕ
  place_at heads left j x = at.place_at (num_at nums n) heads left j x

module _ (marks nums : List ℕ) (n : ℕ) where
  abbrev pub same_name : ℕ → ℕ → Bool
  same_name i j = at.same_name (tag_at marks n) (num_at nums n) i j

  abbrev pub is_named : List ℕ → ℕ → ℕ → Bool
  is_named cells used i = at.is_named (tag_at marks n) (num_at nums n) cells used i

module _ (nums ats : List ℕ) (n : ℕ) where
  abbrev pub head_twice : List ℕ → ℕ → ℕ → Verdict
  head_twice heads count h = at.head_twice (num_at nums n) (at_at ats n) heads count h

module _ (marks nums ats : List ℕ) (n : ℕ) where
  abbrev pub new_at : List ℕ → ℕ → ℕ → Verdict
  new_at cells used i = at.new_at (key_at marks n) (tag_at marks n) (num_at nums n) (at_at ats n) n (names cells used) i

  abbrev pub binding_at : List ℕ → ℕ → Walked → Walked
  binding_at cells used c = at.binding_at (key_at marks n) (tag_at marks n) (num_at nums n) (at_at ats n) n (names cells used) c

  abbrev pub leaf_at : List ℕ → ℕ → ℕ → Walked
  leaf_at cells used i = at.leaf_at (key_at marks n) (tag_at marks n) (num_at nums n) (at_at ats n) n (names cells used) i

  abbrev pub exp_at : ℕ → List ℕ → ℕ → ℕ → Walked
  exp_at room cells used i = at.exp_at (key_at marks n) (tag_at marks n) (num_at nums n) (at_at ats n) n room (names cells used) i

  abbrev pub pair_at : ℕ → List ℕ → ℕ → ℕ → Walked
  pair_at room cells used i = at.pair_at (key_at marks n) (tag_at marks n) (num_at nums n) (at_at ats n) n (λ k. exp_at room cells used k) i

  abbrev pub ea_at : ℕ → List ℕ → ℕ → ℕ → Walked
  ea_at room cells used i = at.ea_at (key_at marks n) (tag_at marks n) (num_at nums n) (at_at ats n) n room (names cells used) i

  abbrev pub arg_at : ℕ → List ℕ → ℕ → ℕ → ℕ → Walked
  arg_at room cells used p i = at.arg_at (key_at marks n) (tag_at marks n) (num_at nums n) (at_at ats n) n room (names cells used) p i

  abbrev pub args_at : ℕ → ℕ → List ℕ → ℕ → ℕ → Bool → Verdict → ℕ → Args
  args_at fuel room cells used p b v i = at.args_at (key_at marks n) (tag_at marks n) (num_at nums n) (at_at ats n) n fuel room (names cells used) p b v i

  abbrev pub call_at : List ℕ → ℕ → ℕ → List ℕ → ℕ → ℕ → Walked
  call_at heads count room cells used i = at.call_at (key_at marks n) (tag_at marks n) (num_at nums n) (at_at ats n) n heads count room (names cells used) i

  abbrev pub term_at : List ℕ → ℕ → ℕ → Names → ℕ → Walked
  term_at heads count room sc i = at.term_at (key_at marks n) (tag_at marks n) (num_at nums n) (at_at ats n) n heads count room sc i

  abbrev pub eqa_at : List ℕ → ℕ → ℕ → Names → ℕ → Walked
  eqa_at heads count room sc i = at.eqa_at (key_at marks n) (tag_at marks n) (num_at nums n) (at_at ats n) n heads count (λ sc k. term_at heads count room sc k) room sc i

  abbrev pub consp_at : List ℕ → ℕ → ℕ → Names → ℕ → Walked
  consp_at heads count room sc i = at.consp_at (key_at marks n) (tag_at marks n) (num_at nums n) (at_at ats n) n heads count (λ sc k. term_at heads count room sc k) room sc i

  abbrev pub params_twice : ℕ → Names → ℕ → Verdict
  params_twice room before i = at.params_twice (key_at marks n) (tag_at marks n) (num_at nums n) (at_at ats n) n room before i

  abbrev pub walked_body : List ℕ → ℕ → Walked
  walked_body heads i = at.walked_body (key_at marks n) (tag_at marks n) (num_at nums n) (at_at ats n) n heads i

  abbrev pub def_at : Defs → Defs
  def_at ds = at.def_at (key_at marks n) (tag_at marks n) (num_at nums n) (at_at ats n) n ds

  abbrev pub defs_at : ℕ → Defs → Defs
  defs_at left ds = at.defs_at (key_at marks n) (tag_at marks n) (num_at nums n) (at_at ats n) n left ds

  abbrev pub body_at : List ℕ → ℕ → ℕ → Walked
  body_at heads count h = at.body_at (key_at marks n) (tag_at marks n) (num_at nums n) (at_at ats n) n heads count h

  abbrev pub bodies_at : List ℕ → ℕ → ℕ → ℕ → Verdict → Verdict → Bodies
  bodies_at heads count left j v w = at.bodies_at (key_at marks n) (tag_at marks n) (num_at nums n) (at_at ats n) n heads count left j v w

  abbrev pub program_at : Verdict
  program_at = at.program_at (key_at marks n) (tag_at marks n) (num_at nums n) (at_at ats n) n
