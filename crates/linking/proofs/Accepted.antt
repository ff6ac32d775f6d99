-- An accepted program, stored as the readers leave it, is linked.
use Prim.Native.Nat.{ℕ, zero, suc, ◌+◌, ◌-◌, ◌≤◌, ◌<◌}
use mathlib.Core.Path.{◌≡◌, refl, ap, subst, ◌∙◌, sym as inv}
use mathlib.Core.Bool.{Bool, true, false, cond}
use mathlib.Core.List.{List}
use native.Mathlib.Omega.{arith}
use native.Mathlib.Decide.{ℕ_discrete}
use lib.Dec.{eqb, leb}
use lib.ListN.{length, get_or, set, length-set}
use lib.Seq.{get_or-set_same, get_or-set_other}
use borrow.Author.Tests.{eqb-true, lt-ltb, lt-leb}
use Rattle.language.specs.Tokens.{Token}
use Rattle.language.specs.Source.{SDef, SProg, prog}
use Rattle.language.specs.WellFormed.{admitted}
use Rattle.grammar.specs.Twins.Stored as stored
use Rattle.words.specs.Twins.Marks.{cell_of}
use Rattle.lexer.specs.Twins.Lexed.{State}
use Rattle.checker.specs.Twins.StoredAt.{key_at, num_at}
use Rattle.checker.specs.Twins.CheckAt.{no_defs}
use Rattle.checker.specs.Twins.CheckStored.{defs_at}
use Rattle.checker.specs.declared.check.Defs.{Defs}
use Rattle.syntax.specs.Twins.Ends.{opens, closes, close_from, past_at, ends_from}
use Rattle.syntax.specs.Twins.Heads.{heads_from}
use Rattle.syntax.specs.Twins.Standing.{define_at, DefsFrom, none_from, more_from}
use Rattle.syntax.proofs.StoredCheck.{key_of_lem, num_of, stored_order, stored_count, stored_few}
use Rattle.syntax.proofs.EndsLaws.{ends_at}
use Rattle.syntax.proofs.ProgramRead.{ProgramStored}
use Rattle.linking.specs.Twins.Linking.{program_linked}
use Rattle.linking.specs.Twins.Linked.{ProgramLinked}
use Rattle.linking.proofs.TokenLaws.{TokensIn}
use Rattle.linking.proofs.NewNames.{program_binds_new}
use Rattle.linking.proofs.ProgramLaws.{bodies_of, program_linked_lem, program_kept}

module _ (key : ℕ → ℕ) where
  close_most : (f d i : ℕ) → close_from key f d i ≤ i + f
  unfolding close_from
  close_most zero d i = omega arith
  close_most (suc f) d i = go (opens key i) (closes key i) (leb d 1) (close_most f (d + 1) (i + 1)) (close_most f (d - 1) (i + 1)) (close_most f d (i + 1))
    where
      go : (a b c : Bool) → close_from key f (d + 1) (i + 1) ≤ i + 1 + f → close_from key f (d - 1) (i + 1) ≤ i + 1 + f → close_from key f d (i + 1) ≤ i + 1 + f →
          cond a (close_from key f (d + 1) (i + 1)) (cond b (cond c (i + 1) (close_from key f (d - 1) (i + 1))) (close_from key f d (i + 1))) ≤ i + suc f
      go true b c x y z = omega arith
      go false true true x y z = omega arith
      go false true false x y z = omega arith
      go false false c x y z = omega arith

  past_most : (n i : ℕ) → i < n → past_at key n i ≤ n
  past_most n i l = rw (lt-leb n i l) (go (eqb (key i) 1) (close_most (n - i) 0 i))
    where
      go : (b : Bool) → close_from key (n - i) 0 i ≤ i + (n - i) → cond b (close_from key (n - i) 0 i) (i + 1) ≤ n
      go true x = omega arith
      go false x = omega arith

-- definitions by another table with the same indices
same_heads : {tok : ℕ → Token} {n : ℕ} {hs gs : List ℕ} {j a b : ℕ} {ds : List SDef} → DefsFrom tok n hs j a ds b → ((m : ℕ) → j ≤ m → m < j + length ds → get_or gs m 0 ≡ get_or hs m 0) → DefsFrom tok n gs j a ds b
same_heads (none_from q) s = none_from q
same_heads {j = j} (more_from q x h more) s = more_from q x (s j (omega arith) (omega arith) ∙ h) (same_heads more (λ m l k. s m (omega arith) (omega arith)))

heads_kept : (from : List ℕ) (left j m : ℕ) (cells : List ℕ) → m < j → get_or (heads_from from left j cells) m 0 ≡ get_or cells m 0
unfolding heads_from
heads_kept from zero j m cells l = refl
heads_kept from (suc left) j m cells l = heads_kept from left (j + 1) m _ (omega arith) ∙ get_or-set_other cells j m _ 0 (λ e. omega arith)

heads_at : (from : List ℕ) (left j m : ℕ) (cells : List ℕ) → j ≤ m → m < j + left → m < length cells → get_or (heads_from from left j cells) m 0 ≡ cell_of (get_or from m 0)
unfolding heads_from
heads_at from zero j m cells a b l = absurd (omega arith)
heads_at from (suc left) j m cells a b l =
    let z = length-set cells j (cell_of (get_or from j 0)) in
    go (ℕ_discrete j m) (λ h. heads_at from left (j + 1) m (set cells j (cell_of (get_or from j 0))) h (omega arith) (omega arith))
  where
    rest : List ℕ
    rest = heads_from from left (j + 1) (set cells j (cell_of (get_or from j 0)))

    go : Dec (j ≡ m) → (j + 1 ≤ m → get_or rest m 0 ≡ cell_of (get_or from m 0)) → get_or rest m 0 ≡ cell_of (get_or from m 0)
    go (yes q) f = subst (λ (m : ℕ). get_or rest m 0 ≡ cell_of (get_or from m 0)) q (heads_kept from left (j + 1) j _ (omega arith) ∙ get_or-set_same cells j _ 0 (omega arith))
    go (no q) f = f (omega arith)

-- a head stands below n
head_below : {tok : ℕ → Token} {n : ℕ} {hs : List ℕ} {j a b : ℕ} {ds : List SDef} → DefsFrom tok n hs j a ds b → (m : ℕ) → j ≤ m → m < j + length ds → get_or hs m 0 < n
head_below (none_from q) m l k = absurd (omega arith)
head_below {n = n} {hs = hs} {j} (more_from q (define_at o w f r p few s e) h more) m l k = go (ℕ_discrete j m) (λ x. head_below more m x (omega arith))
  where
    go : Dec (j ≡ m) → (j + 1 ≤ m → get_or hs m 0 < n) → get_or hs m 0 < n
    go (yes x) g = let y = f.below in let z = ap (λ (u : ℕ). get_or hs u 0) (inv x) ∙ h in omega arith
    go (no x) g = g (omega arith)

module _ (text : List ℕ) (s : State) (p : SProg) (h : ProgramStored text s p) where
  abbrev pub tok : ℕ → Token
  tok i = stored.token_at s.marks s.nums s.ats s.i i

  abbrev pub table : Defs
  table = defs_at s.marks s.nums s.ats s.i 64 no_defs

  module _ (cells heads : List ℕ) (room : s.i ≤ length cells) (wide : 64 ≤ length heads) where
    abbrev pub closing : List ℕ
    closing = ends_from (key_at s.marks s.i) s.i s.i 0 cells

    abbrev pub stands : List ℕ
    stands = heads_from table.heads table.count 0 heads

    pub tokens_in : TokensIn tok s.i s.marks s.nums closing
    tokens_in = record {
      few = h.most;
      long = omega (arith, h.most, h.long);
      key = λ i l. (h.marked i l).0;
      kind = λ i l. (h.marked i l).1;
      num = λ i l. let u : get_or s.nums i 0 ≡ num_at s.nums s.i i = rw (lt-ltb i s.i l) in u ∙ num_of s.marks s.nums s.ats s.i i;
      fixed = λ i l k. eqb-true _ _ (h.fixed i k);
      coded = λ i l e. omega (arith, h.coded i e);
      ended = ended;
      unbracketed = h.unbracketed;
    }
      where
        ended : (i : ℕ) → i < s.i → get_or closing i 0 ≡ past_at (λ j. (tok j).key) s.i i
        ended i l =
            let m = h.most in let b = past_most (λ j. (tok j).key) s.i i l in
            let e : past_at (key_at s.marks s.i) s.i i ≡ past_at (λ j. (tok j).key) s.i i = (λ t. past_at (λ j. key_of_lem s.marks s.nums s.ats s.i j t) s.i i) in
            let c : cell_of (past_at (λ j. (tok j).key) s.i i) ≡ past_at (λ j. (tok j).key) s.i i = omega arith in
            ends_at (key_at s.marks s.i) s.i s.i 0 i cells (omega arith) (omega arith) (omega arith) ∙ ap cell_of e ∙ c

    below : (m : ℕ) → get_or table.heads m 0 < s.i → cell_of (get_or table.heads m 0) ≡ get_or table.heads m 0
    below m l = let q = h.most in omega arith

    pub accepted_linked : admitted (prog p) ≡ true → (code : List ℕ) → length code ≡ 24582 →
        ProgramLinked (prog p) (bodies_of s.marks stands) (program_linked s.marks s.nums closing stands table.count code)
    accepted_linked formed code z =
        let o = stored_order s.marks s.nums s.ats s.i p h.holds in
        let c = stored_count s.marks s.nums s.ats s.i p h.holds in
        let f = stored_few s.marks s.nums s.ats s.i p h.holds in
        program_linked_lem tokens_in table.count code
        (same_heads o (λ m a b. heads_at table.heads table.count 0 m heads (omega arith) (omega arith) (omega arith) ∙ below m (head_below o m a b))) c f z (program_binds_new (prog p) formed)

    -- .. and the cells behind the tokens are as they were
    pub accepted_kept : admitted (prog p) ≡ true → (code : List ℕ) → length code ≡ 24582 →
        (let g = program_linked s.marks s.nums closing stands table.count code in (length g ≡ 24582) × ((m : ℕ) → 16388 ≤ m → get_or g m 0 ≡ get_or code m 0))
    accepted_kept formed code z =
        let o = stored_order s.marks s.nums s.ats s.i p h.holds in
        let c = stored_count s.marks s.nums s.ats s.i p h.holds in
        let f = stored_few s.marks s.nums s.ats s.i p h.holds in
        program_kept tokens_in table.count code
        (same_heads o (λ m a b. heads_at table.heads table.count 0 m heads (omega arith) (omega arith) (omega arith) ∙ below m (head_below o m a b))) c f z (program_binds_new (prog p) formed)
