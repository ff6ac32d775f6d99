-- Where the parts of a program stand in linked code. sc are the names in reach, by their places.
-- proofs/ProgramLaws.antt, Accepted.antt: an accepted program stands so in the code that linking leaves.
use Rattle.std.specs.Prelude.{ℕ, suc, ◌+◌, ◌*◌, ◌<◌, ◌≡◌, false, cond, List, [], ◌∷◌, ◌++◌, length}
use Rattle.expressions.specs.Expression.{sym, avar, Exp, atm, evar, pair}
use Rattle.language.specs.Program.{eqa, consp, Term, call, conditional, result, Param, pe, pa, same_param, Def, Prog, find}
use Rattle.language.specs.WellFormed.{has_param}
use Rattle.linking.specs.Twins.Code.{link, link_at}

-- the place of a name; the number of names where it has none
abbrev pub place_in : Param → List Param → ℕ
place_in x [] = 0
place_in x (y ∷ ys) = cond (same_param y x) 0 (suc (place_in x ys))

-- a name that is bound comes behind those in reach
abbrev pub with_name : Param → List Param → List Param
with_name x sc = sc ++ (x ∷ [])

module _ (code : List ℕ) (sc : List Param) where
  -- an expression from i to before the last index
  pub data ExpLinked : ℕ → Exp → ℕ → Type 0 where
    sym_linked : {i z : ℕ} → link_at code i ≡ link 1 (4 * z + 1) 0 (i + 1) → ExpLinked i (atm (sym z)) (i + 1)
    e_linked : {i x : ℕ} → link_at code i ≡ link 2 (place_in (pe x) sc) 0 (i + 1) → ExpLinked i (evar x) (i + 1)
    a_linked : {i x : ℕ} → link_at code i ≡ link 2 (place_in (pa x) sc) 0 (i + 1) → ExpLinked i (atm (avar x)) (i + 1)
    cons_linked : {i j k : ℕ} {c d : Exp} → link_at code i ≡ link 0 0 0 (k + 1) → link_at code (i + 1) ≡ link 1 4 0 (i + 2) →
        ExpLinked (i + 2) c j → ExpLinked j d k → link_at code k ≡ link 0 0 0 (k + 1) → ExpLinked i (pair c d) (k + 1)

  -- the arguments of a call, one behind the other
  pub data ExpsLinked : ℕ → List Exp → ℕ → Type 0 where
    none_linked : {i : ℕ} → ExpsLinked i [] i
    more_linked : {i j k : ℕ} {c : Exp} {cs : List Exp} → ExpLinked i c j → ExpsLinked j cs k → ExpsLinked i (c ∷ cs) k

-- bodies f is the index where the body of the definition f starts
module _ (p : Prog) (bodies : ℕ → ℕ) (code : List ℕ) where
  -- a term from i to before the last index; a name that a `cons?` binds is none of those in reach (02, request 1)
  pub data TermLinked : List Param → ℕ → Term → ℕ → Type 0 where
    call_linked : {sc : List Param} {i j f : ℕ} {cs : List Exp} → (f < length p → link_at code i ≡ link 3 (length (find p f).params) (bodies f) (j + 2)) →
        ExpsLinked code sc (i + 4) cs j → TermLinked sc i (call f cs) (j + 2)
    same_linked : {sc : List Param} {i j m no k : ℕ} {c d : Exp} {s t : Term} → link_at code i ≡ link 4 (m + 1) no (k + 1) →
        ExpLinked code sc (i + 4) c j → ExpLinked code sc j d m → TermLinked sc (m + 1) s no → TermLinked sc no t k → TermLinked sc i (conditional (eqa c d) s t) (k + 1)
    test_linked : {sc : List Param} {i j no k h t x : ℕ} {c : Exp} {s u : Term} → link_at code i ≡ link 5 (j + 4) no (k + 1) →
        ExpLinked code sc (i + 4) c j → has_param (pe h) sc ≡ false → has_param (pe t) (with_name (pe h) sc) ≡ false → has_param (pa x) sc ≡ false →
        TermLinked (with_name (pe t) (with_name (pe h) sc)) (j + 4) s no → TermLinked (with_name (pa x) sc) no u k → TermLinked sc i (conditional (consp c h t x) s u) (k + 1)
    result_linked : {sc : List Param} {i k : ℕ} {c : Exp} → ExpLinked code sc i c k → TermLinked sc i (result c) k

-- the bodies of the definitions from number f on stand in code, with their parameters in reach
pub data BodiesLinked (p : Prog) (bodies : ℕ → ℕ) (code : List ℕ) : ℕ → Prog → Type 0 where
  no_bodies : {f : ℕ} → BodiesLinked p bodies code f []
  more_bodies : {f k : ℕ} {d : Def} {ds : Prog} → TermLinked p bodies code d.params (bodies f) d.body k → BodiesLinked p bodies code (f + 1) ds →
      BodiesLinked p bodies code f (d ∷ ds)

-- a program that is linked
abbrev pub ProgramLinked : Prog → (ℕ → ℕ) → List ℕ → Type 0
ProgramLinked p bodies code = BodiesLinked p bodies code 0 p
