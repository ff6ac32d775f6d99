-- A term that is linked stands in the code.
use Prim.Native.Nat.{ℕ, ◌<◌}
use mathlib.Core.Path.{◌≡◌, refl, subst}
use mathlib.Core.List.{List}
use lib.ListN.{length}
use Rattle.expressions.specs.Expression.{Exp}
use Rattle.language.specs.Program.{eqa, consp, Term, call, conditional, result, Param, Prog}
use Rattle.semantics.specs.Configuration.{Configuration}
use Rattle.semantics.proofs.Scopes.{WellScoped, scoped_call}
use Rattle.initial.specs.Twins.Beginning.{BegunLeft}
use Rattle.linking.specs.Twins.Linked.{TermLinked}
use Rattle.initial.proofs.BeginLaws.{Begins}
use Rattle.tracing.proofs.ShowLaws.{in_code, end_at, call_at_lem, same_at, test_at_lem}

place_low : {p : Prog} {bodies : ℕ → ℕ} {code : List ℕ} {sc : List Param} {i k : ℕ} (t : Term) → TermLinked p bodies code sc i t k → ((g : ℕ) (ds : List Exp) → t ≡ call g ds → g < length p) → i < 4097
place_low {code = code} {i = i} (call g ds) x c = in_code code i (call_at_lem x (c g ds refl)).past
place_low {code = code} {i = i} (conditional (eqa a b) s t) x c = in_code code i (same_at x).past
place_low {code = code} {i = i} (conditional (consp e h t y) s u) x c = in_code code i (test_at_lem x).past
place_low {code = code} {i = i} (result e) x c = in_code code i (end_at x).1.past

-- where a walk or a run begins
pub begun_place : {p : Prog} {bodies : ℕ → ℕ} {code : List ℕ} {K : Configuration} {w : BegunLeft} (b : Begins p bodies code K w) → WellScoped p K.term K.cr.con.env → b.at.place < 4097
begun_place {p} {K = K} b scoped = place_low K.term b.stands.term (λ g ds e. (scoped_call (subst (λ (t : Term). WellScoped p t K.cr.con.env) e scoped)).0)
