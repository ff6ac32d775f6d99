-- The constants of a linked program laid out: what each function of lay.rt answers and leaves.
use Rattle.std.specs.Prelude.{ℕ, zero, suc, ◌+◌, ◌-◌, min, Bool, true, false, cond, not, List, [], ◌∷◌, ◌++◌, eqb, ltb, leb, length}
use Rattle.std.proofs.lemmas.List.Edits.{sets}
use Rattle.linking.specs.Twins.Code.{link_at}
use Rattle.constants.specs.Twins.Table.{entered}
use Rattle.constants.specs.declared.lay.Laid.{Laid}

module _ (code : List ℕ) where
  -- whether a name stands among n tokens from i on
  unfoldable pub named_in : ℕ → ℕ → Bool
  named_in zero i = false
  named_in (suc n) i = cond (eqb (link_at code i).mark 2) true (named_in n (i + 1))

  -- the cells of n tokens from i on
  abbrev pub cells_of_token : ℕ → List ℕ
  cells_of_token i = cond (eqb (link_at code i).mark 1) ((link_at code i).first ∷ []) []

  unfoldable pub cells_of : ℕ → ℕ → List ℕ
  cells_of zero i = []
  cells_of (suc n) i = cells_of_token i ++ cells_of n (i + 1)

  abbrev pub starts_at : ℕ → Bool
  starts_at i =
      let l = link_at code i in
      let m = link_at code (min i 4097 + 1) in
      cond (eqb l.mark 1) (not (eqb l.first 4)) (cond (eqb l.mark 0) (cond (eqb m.mark 1) (eqb m.first 4) false) false)

abbrev pub fits_at : Laid → ℕ → ℕ → ℕ → Bool
fits_at s i past limit = cond (leb past i) false (cond (ltb limit (past - i)) false (leb (min s.used 65535) (limit - (past - i))))

abbrev pub is_constant : List ℕ → ℕ → Laid → ℕ → Bool
is_constant code i s limit =
    let past = (link_at code i).past in
    cond (ltb i s.skip) false (cond (starts_at code i) (cond (fits_at s i past limit) (not (named_in code (past - i) i)) false) false)

-- where laying stands, and what is left in the storages
pub record LaidLeft : Type 0 where
  pub now : Laid
  pub code : List ℕ
  pub heap : List ℕ

abbrev pub laid : Laid → List ℕ → List ℕ → LaidLeft
laid s c h = record { now = s; code = c; heap = h }

unfoldable pub laid_one : ℕ → Laid → ℕ → List ℕ → List ℕ → LaidLeft
laid_one i s limit code h =
    let past = (link_at code i).past in
    let w = cells_of code (past - i) i in
    cond (is_constant code i s limit) (laid (record { used = s.used + length w; skip = past }) (entered i s.used (s.used + length w) code) (sets h s.used w))
    (laid s (entered i 0 0 code) h)

-- `left` tokens from i on
unfoldable pub laid_from : ℕ → ℕ → ℕ → Laid → List ℕ → List ℕ → LaidLeft
laid_from limit zero i s code h = laid s code h
laid_from limit (suc left) i s code h = let w = laid_one i s limit code h in laid_from limit left (i + 1) w.now w.code w.heap

pub record ConstantsLeft : Type 0 where
  pub used : ℕ
  pub code : List ℕ
  pub heap : List ℕ

abbrev pub constants_left : ℕ → List ℕ → List ℕ → ConstantsLeft
constants_left u c h = record { used = u; code = c; heap = h }

abbrev pub limit_of : ℕ → ℕ
limit_of used = min (min used 65535 + 4097) 65535

-- those of the first so many tokens
unfoldable pub constants_laid : ℕ → ℕ → List ℕ → List ℕ → ConstantsLeft
constants_laid count used code h =
    let w = laid_from (limit_of used) (min count 4097) 0 (record { used = used; skip = 0 }) code h in
    constants_left w.now.used w.code w.heap
