-- A contraction applied to a whole configuration, for cells of any content.
use Rattle.std.specs.Prelude.{ℕ, ◌+◌, ◌%◌, cond, List, eqb, ltb, set, Option, Result, Some, None, Ok, Err}
use Rattle.restrictions.specs.declared.failure.Failure.{Failure}
use Rattle.restrictions.specs.declared.failure.Failure.TheVariants.{Contradiction, Over}
use Rattle.restrictions.specs.Twins.Restricting.{RestrictAnswer, restrict_answer, add_cells, bind_cells}
use Rattle.sets.specs.declared.contraction.Contraction.{Contraction as Coded}
use Rattle.sets.specs.declared.contraction.Contraction.TheVariants.{Identity, Contradiction as Contradictory, Bind, BindPair, NonEqual}
use Rattle.runs.specs.Twins.Runs.{appended_pair}
use Rattle.heap.specs.Twins.Contracted.{Stores, stores, contracted_entries}
use Rattle.heap.specs.declared.configuration.Configuration.{Configuration}

abbrev pub grown_by : Configuration → ℕ → Option ℕ → Result Configuration Failure
grown_by c n (Some k) = Ok (record { inputs = c.inputs; outputs = c.outputs; entries = c.entries; used = k; neqs = n; place = c.place; counter = c.counter })
grown_by c n None = Err Over

abbrev pub restricted_by : Configuration → Result ℕ Failure → Result Configuration Failure
restricted_by c (Ok n) = grown_by c n (Some c.used)
restricted_by c (Err e) = Err e

-- an answer, and what is left in heap and frame
pub record Move : Type 0 where
  pub answer : Result Configuration Failure
  pub heap : List ℕ
  pub frame : List ℕ

abbrev pub moved : Result Configuration Failure → List ℕ → List ℕ → Move
moved a h f = record { answer = a; heap = h; frame = f }

-- a variable by a cell, and a `?e` by a pair, in the first n entries
unfoldable pub bound_cell : ℕ → ℕ → ℕ → ℕ → List ℕ → List ℕ → Stores
bound_cell n x to used h f =
    cond (ltb 65534 used) (stores None h f) (contracted_entries 0 n x used (used + 1) (used + 1) (set h used to) f)

unfoldable pub bound_pair : ℕ → ℕ → ℕ → ℕ → ℕ → List ℕ → List ℕ → Stores
bound_pair n x head tail used h f =
    cond (ltb 65532 used) (stores None h f) (contracted_entries 0 n x used (used + 3) (used + 3) (appended_pair head tail used h).cells f)

unfoldable pub bound_restriction : ℕ → ℕ → ℕ → List ℕ → RestrictAnswer
bound_restriction n x to q = cond (eqb (x % 4) 3) (bind_cells n x to q) (restrict_answer (Ok n) q)

-- an answer, and what is left in the three storages
pub record Left : Type 0 where
  pub answer : Result Configuration Failure
  pub heap : List ℕ
  pub frame : List ℕ
  pub q : List ℕ

abbrev pub left : Result Configuration Failure → List ℕ → List ℕ → List ℕ → Left
left a h f q = record { answer = a; heap = h; frame = f; q = q }

abbrev pub grown_stores : Configuration → ℕ → List ℕ → Stores → Left
grown_stores c n q w = left (grown_by c n w.answer) w.heap w.frame q

abbrev pub leaf_after : Configuration → ℕ → ℕ → List ℕ → List ℕ → Result ℕ Failure → List ℕ → Left
leaf_after c x to h f (Ok n) q = grown_stores c n q (bound_cell c.entries x to c.used h f)
leaf_after c x to h f (Err e) q = left (Err e) h f q

abbrev pub leaf_from : Configuration → ℕ → ℕ → List ℕ → List ℕ → RestrictAnswer → Left
leaf_from c x to h f w = leaf_after c x to h f w.answer w.cells

unfoldable pub leaf_bound : Configuration → ℕ → ℕ → List ℕ → List ℕ → List ℕ → Left
leaf_bound c x to h f q = leaf_from c x to h f (bound_restriction c.neqs x to q)

abbrev pub restricted_left : Configuration → List ℕ → List ℕ → RestrictAnswer → Left
restricted_left c h f w = left (restricted_by c w.answer) h f w.cells

abbrev pub contracted : Coded → Configuration → List ℕ → List ℕ → List ℕ → Left
contracted Identity c h f q = left (Ok c) h f q
contracted Contradictory c h f q = left (Err Contradiction) h f q
contracted (Bind x to) c h f q = leaf_bound c x to h f q
contracted (BindPair x head tail) c h f q = grown_stores c c.neqs q (bound_pair c.entries x head tail c.used h f)
contracted (NonEqual a b) c h f q = restricted_left c h f (add_cells c.neqs a b q)
