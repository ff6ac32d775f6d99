-- The check of stored tokens: where the cells hold the tokens of a text that was read as a program, the code's check finds what the
-- check of that program finds (`stored_checked`), and its table holds the program's definitions (`stored_definitions`).
use Prim.Native.Nat.{ℕ, ◌%◌, ◌≤◌}
use mathlib.Core.Path.{◌≡◌, refl, ap, subst, ◌∙◌, fun_ext, sym as inv}
use mathlib.Core.Bool.{Bool, true, false, cond}
use mathlib.Core.List.{List}
use lib.Dec.{ltb}
use lib.ListN.{length, get_or}
use Rattle.language.specs.Tokens.{tag, Token}
use Rattle.language.specs.Reader.{ok}
use Rattle.language.specs.Grammar.{program}
use Rattle.language.specs.Source.{SProg, functions, defs, prog}
use Rattle.language.specs.ProgramCheck.{program_verdict}
use Rattle.words.specs.Twins.Marks.{kind_tag, decode}
use Rattle.grammar.specs.Twins.Stored.{mark_at, offset_at}
use Rattle.grammar.specs.Twins.Stored as stored
use Rattle.grammar.specs.Twins.Positions.{nothing}
use Rattle.checker.specs.Twins.StoredAt.{key_at, tag_at, num_at, at_at}
use Rattle.syntax.specs.Twins.Standing.{ProgramAt, HeadsAt, DefsFrom}
use Rattle.syntax.specs.Twins.Placed.{DefsIn}
use Rattle.checker.specs.Twins.CheckStored.{program_at, defs_at}
use Rattle.checker.specs.Twins.CheckAt as at
use Rattle.checker.specs.Twins.CheckAt.{no_defs}
use Rattle.checker.specs.declared.check.Defs.{Defs}
use Rattle.syntax.proofs.Tracks.{token_at}
use native.Mathlib.Omega.{arith}
use Rattle.syntax.proofs.CheckLaws.{coded, keys, kinds, nums, ats}
use Rattle.syntax.proofs.Standing.{program_stands}
use Rattle.syntax.proofs.ProgramLaws.{program_checked, program_table}
use Rattle.syntax.proofs.Placed.{defs_placed}
use Rattle.grammar.proofs.StoredReaders.{tag_kind}

module _ (marks nums' ats' : List ℕ) (n : ℕ) where
  abbrev tok : ℕ → Token
  tok i = stored.token_at marks nums' ats' n i

  pub key_of_lem : (i : ℕ) → key_at marks n i ≡ (tok i).key
  key_of_lem i = go (ltb i n)
    where
      go : (b : Bool) → cond b (mark_at marks i % 32) 18 ≡ (cond b (decode (mark_at marks i) (get_or nums' i 0) (offset_at ats' i)) nothing).key
      go true = refl
      go false = refl

  pub kind_of_lem : (i : ℕ) → tag_at marks n i ≡ tag (tok i).kind
  kind_of_lem i = go (ltb i n)
    where
      go : (b : Bool) → cond b (kind_tag (mark_at marks i)) 5 ≡ tag (cond b (decode (mark_at marks i) (get_or nums' i 0) (offset_at ats' i)) nothing).kind
      go true = inv (tag_kind (mark_at marks i))
      go false = refl

  pub num_of : (i : ℕ) → num_at nums' n i ≡ (tok i).num
  num_of i = go (ltb i n)
    where
      go : (b : Bool) → cond b (get_or nums' i 0) 0 ≡ (cond b (decode (mark_at marks i) (get_or nums' i 0) (offset_at ats' i)) nothing).num
      go true = refl
      go false = refl

  pub at_of : (i : ℕ) → at_at ats' n i ≡ (tok i).at
  at_of i = go (ltb i n)
    where
      go : (b : Bool) → cond b (offset_at ats' i) 0 ≡ (cond b (decode (mark_at marks i) (get_or nums' i 0) (offset_at ats' i)) nothing).at
      go true = refl
      go false = refl

  program_view : program_at marks nums' ats' n ≡ at.program_at (keys tok n) (kinds tok n) (nums tok n) (ats tok n) n
  program_view = λ i. at.program_at (λ j. key_of_lem j i) (λ j. kind_of_lem j i) (λ j. num_of j i) (λ j. at_of j i) n

  defs_view : defs_at marks nums' ats' n 64 no_defs ≡ at.defs_at (keys tok n) (kinds tok n) (nums tok n) (ats tok n) n 64 no_defs
  defs_view = λ i. at.defs_at (λ j. key_of_lem j i) (λ j. kind_of_lem j i) (λ j. num_of j i) (λ j. at_of j i) n 64 no_defs

  -- the cells hold the tokens ts, which were read as the program s
  pub record Holds (s : SProg) : Type 0 where
    pub ts : List Token
    pub rest : List Token
    pub size : n ≡ length ts
    pub same : (i : ℕ) → tok i ≡ token_at ts i
    pub read : program ts ≡ ok (s, rest)

  pub held_stands : (s : SProg) → Holds s → ProgramAt tok n s
  held_stands s h =
      subst (λ (f : ℕ → Token). ProgramAt f n s) (inv (fun_ext h.same))
      (subst (λ (m : ℕ). ProgramAt (token_at h.ts) m s) (inv h.size) (program_stands h.ts s h.rest h.read))

  pub stored_checked : (s : SProg) → Holds s → program_at marks nums' ats' n ≡ coded (program_verdict s)
  stored_checked s h = program_view ∙ program_checked tok n s (held_stands s h)

  pub stored_definitions : (s : SProg) → Holds s → DefsIn tok n (functions (defs s)) (defs_at marks nums' ats' n 64 no_defs).heads 0 (prog s)
  stored_definitions s h =
      subst (λ (ds : Defs). DefsIn tok n (functions (defs s)) ds.heads 0 (prog s)) (inv defs_view)
      (defs_placed (functions (defs s)) (program_table tok n s (held_stands s h)).heads)

  pub stored_count : (s : SProg) → Holds s → (defs_at marks nums' ats' n 64 no_defs).count ≡ length (defs s)
  stored_count s h = ap (λ ds. ds.count) defs_view ∙ (program_table tok n s (held_stands s h)).count

  pub stored_heads : (s : SProg) → Holds s → HeadsAt tok n (defs_at marks nums' ats' n 64 no_defs).heads 0 (defs s)
  stored_heads s h = subst (λ (ds : Defs). HeadsAt tok n ds.heads 0 (defs s)) (inv defs_view) (program_table tok n s (held_stands s h)).heads

  pub stored_order : (s : SProg) → Holds s → let ds = defs_at marks nums' ats' n 64 no_defs in DefsFrom tok n ds.heads 0 0 (defs s) ds.past
  stored_order s h = subst (λ (ds : Defs). DefsFrom tok n ds.heads 0 0 (defs s) ds.past) (inv defs_view) (program_table tok n s (held_stands s h)).order

  pub stored_few : (s : SProg) → Holds s → length (defs s) ≤ 64
  stored_few s h = let l = (held_stands s h).few in omega arith
