-- The walk of a job: what is left behind each way that it begins.
use Prim.Native.Nat.{ℕ}
use mathlib.Core.Path.{◌≡◌, ap, ap₂, ◌∙◌, sym as inv}
use mathlib.Core.Bool.{false}
use mathlib.Core.List.{List}
use lib.ListN.{replicate}
use Rattle.std.specs.Prelude.{Result, Ok, Err}
use Rattle.syntax.specs.declared.job_ends.JobEnds.{JobEnds}
use Rattle.syntax.specs.declared.numerals.Numerals.{Numerals}
use Rattle.heap.specs.declared.configuration.Configuration.{Configuration}
use Rattle.constants.specs.Twins.Laying.{ConstantsLeft, constants_left, constants_laid}
use Rattle.positions.specs.Twins.Used.{with_used}
use Rattle.saving.specs.Twins.Saving.{save_left, saved_to}
use Rattle.initial.specs.Twins.Beginning.{BegunLeft, begun_left, begun_at}
use Rattle.restrictions.specs.declared.failure.Failure.{Failure}
use Rattle.restrictions.specs.declared.failure.Failure.TheVariants.{Contradiction, Over as BegunOver}
use Rattle.turns.specs.Twins.Finding.{walked, nothing_found, counted}
use Rattle.turns.specs.Twins.States.{state_at}
use Rattle.walk.specs.Twins.Walking.{walked_left, walked_on}
use Rattle.walk.specs.Twins.Jobs.{job_left, bounds_of, first_node, of_walk, walk_saved, walk_first, walk_begun, on_begun, walk_job, code_begun, code_laid, JobLeft, job_laid, walk_laid}
use Rattle.turns.specs.declared.found.Found.{Found}
use Rattle.turns.specs.declared.found.Ending.TheVariants.{Done, Over}
use Rattle.turns.specs.declared.found.Walked.{Walked}
use Rattle.turns.specs.declared.state.State.{State}

-- behind the first transition
pub first_walks : (code : List ℕ) (c : Configuration) (k : Numerals) (h f q a : List ℕ) {top : ℕ} {saved : List ℕ} {n o : Found} {s : State} {r : Walked} {h' f' q' p' s' a' : List ℕ} →
    save_left top saved ≡ saved_to f q (first_node c) 0 0 (replicate 16384 0) → n ≡ nothing_found → o ≡ counted n → s ≡ state_at (record { node = first_node c; top = top }) o →
    walked_left r h' f' q' p' s' a' ≡ walked_on code (bounds_of k top) s h f q (replicate 1000 0) saved a → job_left r a' ≡ walk_first code c k h f q a
unfolding walk_first
first_walks code c k h f q a {top} {saved} {n} {o} {s} kept e d at w =
    let g : o ≡ counted nothing_found = d ∙ ap counted e in
    let t = at ∙ ap (state_at (record { node = first_node c; top = top })) g in
    ap of_walk w ∙ ap (λ (z : State). of_walk (walked_on code (bounds_of k top) z h f q (replicate 1000 0) saved a)) t ∙ ap (walk_saved code c k h f q a) kept

module _ (code : List ℕ) (count body : ℕ) (jmarks jnums : List ℕ) (e : JobEnds) (k : Numerals) (a : List ℕ) {b : Result Configuration Failure} {h f q : List ℕ}
    (is : begun_left b h f q ≡ begun_at body jmarks jnums e false (replicate 65535 0) (replicate 12360 0) (replicate 4096 0)) where
  begun_as : on_begun code count k a (begun_left b h f q) b ≡ walk_job code count body jmarks jnums e k a
  unfolding walk_job
  begun_as = ap (λ (w : BegunLeft). on_begun code count k a w w.answer) is

  answered_as : (x : Result Configuration Failure) → b ≡ x → on_begun code count k a (begun_left b h f q) x ≡ walk_job code count body jmarks jnums e k a
  answered_as x i = ap (on_begun code count k a (begun_left b h f q)) (inv i) ∙ begun_as

  code_as : (x : Result Configuration Failure) → b ≡ x → code_begun code count (begun_left b h f q) x ≡ code_laid code count body jmarks jnums e
  unfolding code_laid
  code_as x i = ap (code_begun code count (begun_left b h f q)) (inv i) ∙ ap (λ (w : BegunLeft). code_begun code count w w.answer) is

  both_as : {l : JobLeft} {g : List ℕ} → l ≡ walk_job code count body jmarks jnums e k a → g ≡ code_laid code count body jmarks jnums e → job_laid l g ≡ walk_laid code count body jmarks jnums e k a
  both_as u v = ap₂ job_laid u v

  pub job_on : {c d : Configuration} {r : Walked} {a' : List ℕ} {u : ℕ} {g l : List ℕ} → b ≡ Ok c → constants_left u g l ≡ constants_laid count c.used code h → d ≡ with_used c u → job_left r a' ≡ walk_begun g d k l f q a →
      job_laid (job_left r a') g ≡ walk_laid code count body jmarks jnums e k a
  job_on {c} {d} {u = u} {g = g} {l = l} i z m w =
      both_as (w ∙ ap (λ (x : Configuration). walk_begun g x k l f q a) m ∙ ap (λ (x : ConstantsLeft). walk_begun x.code (with_used c x.used) k x.heap f q a) z ∙ answered_as (Ok c) i)
      (ap (λ (x : ConstantsLeft). x.code) z ∙ code_as (Ok c) i)

  pub job_none : {n : Found} {r : Walked} → b ≡ Err Contradiction → n ≡ nothing_found → r ≡ walked Done n → job_laid (job_left r a) code ≡ walk_laid code count body jmarks jnums e k a
  job_none i g w = both_as (ap (λ (r : Walked). job_left r a) (w ∙ ap (walked Done) g) ∙ answered_as (Err Contradiction) i) (code_as (Err Contradiction) i)

  pub job_over : {n : Found} {r : Walked} → b ≡ Err BegunOver → n ≡ nothing_found → r ≡ walked Over n → job_laid (job_left r a) code ≡ walk_laid code count body jmarks jnums e k a
  job_over i g w = both_as (ap (λ (r : Walked). job_left r a) (w ∙ ap (walked Over) g) ∙ answered_as (Err BegunOver) i) (code_as (Err BegunOver) i)
