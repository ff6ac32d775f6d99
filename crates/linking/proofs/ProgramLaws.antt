-- A program that stands in the tokens stands linked in the code that linking leaves.
use Prim.Native.Nat.{ℕ, zero, suc, ◌+◌, ◌-◌, ◌%◌, ◌≤◌, ◌<◌, min}
use mathlib.Core.Path.{◌≡◌, refl, ap, subst, ◌∙◌, sym as inv}
use mathlib.Core.Bool.{Bool, true, false, cond}
use mathlib.Core.List.{List, [], ◌∷◌, ◌++◌, append_assoc, append-nil}
use native.Mathlib.Omega.{arith}
use lib.Dec.{eqb}
use lib.ListN.{length, get_or, replicate, length-replicate}
use Rattle.language.specs.Tokens.{Token}
use Rattle.language.specs.Program.{Param, pe, pa, Prog, find}
use Rattle.language.specs.Source.{SParam, SDef, params, term, functions, prog_of, place_of}
use Rattle.syntax.specs.Twins.Standing.{WordAt, ParamsAt, DefAt, define_at, DefsFrom, none_from, more_from}
use Rattle.syntax.specs.Twins.Standing as at
use Rattle.syntax.proofs.ProgramLaws.{term_bounds}
use Rattle.linking.specs.Twins.Code.{link_at}
use Rattle.linking.specs.Twins.Linking.{on, Linked, linked, head_from, head_of, closing_from, closing_at, pushed_name, parameters_named, definition_linked, definitions_linked, program_linked}
use Rattle.linking.specs.Twins.Linked.{with_name, TermLinked, BodiesLinked, no_bodies, more_bodies, ProgramLinked}
use Rattle.linking.proofs.CodeLaws.{Wrote, wider}
use Rattle.linking.proofs.AgreeLaws.{term_goes_on, term_agrees}
use Rattle.linking.proofs.TokenLaws.{TokensIn, e_name, a_name, no_names, word_key}
use Rattle.linking.proofs.NameLaws.{Names, names_less, name_pushed}
use Rattle.linking.proofs.NewNames.{BindsNew, AllBindNew}
use Rattle.linking.proofs.TermParts.{Calls}
use Rattle.linking.proofs.TermLaws.{term_linked_lem}

-- as many tokens as parameters
params_count : {tok : ℕ → Token} {n i : ℕ} {xs : List SParam} {k : ℕ} → ParamsAt tok n i xs k → (k ≡ i + length (params xs)) × (k < n)
params_count (at.ParamsAt.none_at x) = (omega arith, x.below)
params_count (at.ParamsAt.e_at b x xs) = let r = params_count xs in let q = r.0 in (omega arith, r.1)
params_count (at.ParamsAt.a_at b x xs) = let r = params_count xs in let q = r.0 in (omega arith, r.1)

-- parameters come into reach in order
params_named : {tok : ℕ → Token} {n i : ℕ} {xs : List SParam} {k : ℕ} (used m : ℕ) (sc : List Param) (names : List ℕ) → ParamsAt tok n i xs k → Names tok n names used (length (params xs) + m) sc →
    (let w = parameters_named (length (params xs)) i used names in Names tok n w.names w.used m (sc ++ params xs))
unfolding parameters_named
params_named used m sc names (at.ParamsAt.none_at x) h = rw append-nil (names_less (omega arith) h)
params_named {tok} {i = i} used m sc names (at.ParamsAt.e_at {xs = ys} b x ps) h =
    let w = pushed_name used i names in rw (← append_assoc sc (pe (tok i).num ∷ []) (params ys)) (params_named w.used m (with_name (pe (tok i).num) sc) w.names ps (name_pushed (names_less (omega arith) h) (e_name x)))
params_named {tok} {i = i} used m sc names (at.ParamsAt.a_at {xs = ys} b x ps) h =
    let w = pushed_name used i names in rw (← append_assoc sc (pa (tok i).num ∷ []) (params ys)) (params_named w.used m (with_name (pa (tok i).num) sc) w.names ps (name_pushed (names_less (omega arith) h) (a_name x)))

module _ {tok : ℕ → Token} {n : ℕ} {marks nums ends : List ℕ} (t : TokensIn tok n marks nums ends) where
  -- the bracket that closes parameters
  closing_found : {i : ℕ} {xs : List SParam} {k : ℕ} (left : ℕ) → ParamsAt tok n i xs k → k < i + left → closing_from marks left i ≡ k
  unfolding closing_from
  closing_found {i = i} zero x l = let y = (params_count x).0 in let z : ⊥ = omega arith in absurd z
  closing_found {i = i} (suc left) (at.ParamsAt.none_at x) l = rw (word_key t [] 0 "]" i x)
  closing_found {i = i} (suc left) (at.ParamsAt.e_at b x xs) l = rw (t.key i x.below, b) (closing_found {i = i + 1} left xs (omega arith))
  closing_found {i = i} (suc left) (at.ParamsAt.a_at b x xs) l = rw (t.key i x.below, b) (closing_found {i = i + 1} left xs (omega arith))

  pub closing_at_lem : {i : ℕ} {xs : List SParam} {k : ℕ} → ParamsAt tok n i xs k → closing_at marks i ≡ k
  closing_at_lem {i} {xs} {k} x = let y = params_count x in let y0 = y.0 in let y1 = y.1 in let z = t.long in closing_found (length marks - i) x (omega arith)

  module _ (heads : List ℕ) (count : ℕ) (fs : List ℕ) (p : Prog) (bodies : ℕ → ℕ) where
    -- what a definition leaves: its body from b on
    record DefLinked (s : Linked) (i b k : ℕ) (d : SDef) (r : Linked) : Type 0 where
      last : ℕ
      term : TermLinked p bodies r.code (params d.params) b (term fs d.body) last
      wrote : Wrote i s.code r.code
      within : last ≤ k
      size : length r.names ≡ 144

    definition_linked_lem : {i : ℕ} {d : SDef} {k : ℕ} → Calls marks nums heads count fs p bodies → DefAt tok n i d k → BindsNew (params d.params) (term fs d.body) → (s : Linked) → length s.names ≡ 144 → length s.code ≡ 24582 →
        DefLinked s i (on (closing_at marks (on (i + 2) 2)) 1) k d (definition_linked marks nums ends heads count (i + 2) s)
    unfolding definition_linked
    definition_linked_lem {i} c (define_at {j = j} {k = k} {xs = xs} {t = u} o w f b x few s' e) new s z1 z2 =
        let q = t.few in let y = params_count x in let y0 = y.0 in let y1 = y.1 in let ob = o.below in let eb = e.below in let fb = f.below in
        let a : on (i + 2) 2 ≡ i + 4 = omega arith in
        let g = closing_at_lem x in
        let m : on j 1 ≡ j + 1 = omega arith in
        let l : j - (i + 4) ≡ length (params xs) = omega arith in
        let n0 : length (params xs) ≤ 16 = omega (arith, few, length_params xs) in
        let h0 : Names tok n s.names 0 (length (params xs) + 126) [] = record { are = no_names; count = refl; size = z1; room = omega arith } in
        let r = params_named 0 126 [] s.names x h0 in
        let v = parameters_named (length (params xs)) (i + 4) 0 s.names in
        let r2 = term_linked_lem t heads count fs p bodies c s' v.used (params xs) (linked v.names s.code) new r z2 in
        let tg = term_goes_on p bodies _ r2.term in
        rw (a, g, m, l) (record {
          last = k;
          term = r2.term;
          wrote = wider r2.wrote (omega arith);
          within = omega arith;
          size = r2.reach.size;
        })
      where
        length_params : (ys : List SParam) → length (params ys) ≡ length ys
        length_params [] = refl
        length_params (y ∷ ys) = ap suc (length_params ys)

-- where the bodies start
abbrev pub bodies_of : List ℕ → List ℕ → ℕ → ℕ
bodies_of marks heads f = on (closing_at marks (on (get_or heads f 0) 2)) 1

-- a definition by its number
record DefFound (tok : ℕ → Token) (n h : ℕ) (ps : List Param) : Type 0 where
  start : ℕ
  end : ℕ
  xs : List SParam
  head : h ≡ start + 2
  stands : ParamsAt tok n (start + 4) xs end
  same : ps ≡ params xs

def_found : {tok : ℕ → Token} {n : ℕ} {heads : List ℕ} {j a b' : ℕ} {ds : List SDef} (fs : List ℕ) (g : ℕ) → DefsFrom tok n heads j a ds b' → g < length ds →
    DefFound tok n (get_or heads (j + g) 0) (find (prog_of fs ds) g).params
def_found fs g (none_from q) l = let z : ⊥ = omega arith in absurd z
def_found {heads = heads} {j} fs zero (more_from {i = i} b (define_at {j = k} {xs = xs} o w f q x few s e) h more) l =
    let z : j + 0 ≡ j = omega arith in record { start = i; end = k; xs = xs; head = ap (λ (m : ℕ). get_or heads m 0) z ∙ h; stands = x; same = refl }
def_found {tok} {n} {heads} {j} fs (suc g) (more_from b d h more) l = let z : j + suc g ≡ j + 1 + g = omega arith in rw z (def_found fs g more (omega arith))

module _ {tok : ℕ → Token} {n : ℕ} {marks nums ends : List ℕ} (t : TokensIn tok n marks nums ends) where
  head_found : {heads : List ℕ} {j a b' : ℕ} {ds : List SDef} (x : ℕ) → DefsFrom tok n heads j a ds b' → place_of x (functions ds) < length ds → head_from nums heads (length ds) j x ≡ get_or heads (j + place_of x (functions ds)) 0
  unfolding head_from
  head_found x (none_from q) l = let z : ⊥ = omega arith in absurd z
  head_found {heads} {j} x (more_from {i = i} {d = d} {ds = ds} b (define_at o w f q ps few s e) h more) l =
      let r = t.num (i + 2) f.below in
      rw (ap (λ (m : ℕ). get_or nums m 0) h ∙ r) (go (eqb (tok (i + 2)).num x) l (λ k. head_found x more k))
    where
      go : (c : Bool) → cond c 0 (suc (place_of x (functions ds))) < suc (length ds) → (place_of x (functions ds) < length ds → head_from nums heads (length ds) (j + 1) x ≡ get_or heads (j + 1 + place_of x (functions ds)) 0) →
          cond c (get_or heads j 0) (head_from nums heads (length ds) (j + 1) x) ≡ get_or heads (j + cond c 0 (suc (place_of x (functions ds)))) 0
      go true k f = ap (λ (m : ℕ). get_or heads m 0) (omega arith)
      go false k f = f (omega arith) ∙ ap (λ (m : ℕ). get_or heads m 0) (omega arith)

  -- each call knows how many parameters its definition has, and where its body starts
  calls_known : {heads : List ℕ} {ds : List SDef} {b' : ℕ} (count : ℕ) → DefsFrom tok n heads 0 0 ds b' → count ≡ length ds → length ds ≤ 64 →
      Calls marks nums heads count (functions ds) (prog_of (functions ds) ds) (bodies_of marks heads)
  calls_known {heads} {ds} count h c few = record { known = λ x l. known x (omega (arith, length_prog ds, l)) }
    where
      length_prog : (es : List SDef) → length (prog_of (functions ds) es) ≡ length es
      length_prog [] = refl
      length_prog (e ∷ es) = ap suc (length_prog es)

      fs : List ℕ
      fs = functions ds

      known : (x : ℕ) → place_of x (functions ds) < length ds → let open' = on (head_of nums heads count x) 2 in let close = closing_at marks open' in
          ((close - min open' close) % 65536 ≡ length (find (prog_of (functions ds) ds) (place_of x (functions ds))).params) × (on close 1 % 65536 ≡ bodies_of marks heads (place_of x (functions ds)))
      known x l =
          let g = place_of x (functions ds) in
          let m : min count 64 ≡ length ds = omega arith in
          let y : 0 + g ≡ g = omega arith in
          let e : head_of nums heads count x ≡ get_or heads g 0 = ap (λ (k : ℕ). head_from nums heads k 0 x) m ∙ head_found x h l ∙ ap (λ (k : ℕ). get_or heads k 0) y in
          let d = def_found (functions ds) g h l in
          let hd : get_or heads g 0 ≡ d.start + 2 = ap (λ (k : ℕ). get_or heads k 0) (inv y) ∙ d.head in
          let q = t.few in let pc = params_count d.stands in let p0 = pc.0 in let p1 = pc.1 in
          let o1 : on (d.start + 2) 2 ≡ d.start + 4 = omega arith in
          let cl = closing_at_lem t d.stands in
          let sz : length (find (prog_of (functions ds) ds) g).params ≡ length (params d.xs) = ap length d.same in
          let en = d.end in
          let a : (en - min (d.start + 4) en) % 65536 ≡ length (params d.xs) = omega arith in
          let b : on en 1 % 65536 ≡ on en 1 = omega arith in
          rw (e, hd, o1, cl, sz) (a, b)

  -- what linking the definitions leaves
  record DefsLinked (p : Prog) (bodies : ℕ → ℕ) (fs : List ℕ) (s : Linked) (j a : ℕ) (ds : List SDef) (r : Linked) : Type 0 where
    stand : BodiesLinked p bodies r.code j (prog_of fs ds)
    kept : (m : ℕ) → m < a → link_at r.code m ≡ link_at s.code m
    long : length r.code ≡ length s.code
    beyond : (m : ℕ) → 16388 ≤ m → get_or r.code m 0 ≡ get_or s.code m 0

  defs_linked : {heads : List ℕ} {j a b' : ℕ} {ds : List SDef} (count : ℕ) (fs : List ℕ) (p : Prog) → Calls marks nums heads count fs p (bodies_of marks heads) → DefsFrom tok n heads j a ds b' → AllBindNew (prog_of fs ds) →
      (s : Linked) → length s.names ≡ 144 → length s.code ≡ 24582 → DefsLinked p (bodies_of marks heads) fs s j a ds (definitions_linked marks nums ends heads count (length ds) j s)
  unfolding definitions_linked
  defs_linked count fs p c (none_from q) new s z1 z2 = record { stand = no_bodies; kept = λ m l. refl; long = refl; beyond = λ m l. refl }
  defs_linked {heads} {j} {a} count fs p c (more_from {i = i} {k = k} {d = d} {ds = ds} b x h more) new s z1 z2 =
      let r1 = definition_linked_lem t heads count fs p (bodies_of marks heads) c x new.0 s z1 z2 in
      let s1 = definition_linked marks nums ends heads count (i + 2) s in
      let r2 = defs_linked count fs p c more new.1 s1 r1.size (r1.wrote.long ∙ z2) in
      let w = r1.within in let g = def_goes_on x in
      let e : bodies_of marks heads j ≡ on (closing_at marks (on (i + 2) 2)) 1 = ap (λ (u : ℕ). on (closing_at marks (on u 2)) 1) h in
      let tm = term_agrees p (bodies_of marks heads) _ r1.term (record { same = λ m l1 l2. r2.kept m (omega arith) }) in
      subst (λ (u : ℕ). DefsLinked p (bodies_of marks heads) fs s j a (d ∷ ds) (definitions_linked marks nums ends heads count (length ds) (j + 1) (definition_linked marks nums ends heads count u s))) (inv h) (record {
        stand = more_bodies (subst (λ (u : ℕ). TermLinked p (bodies_of marks heads) (definitions_linked marks nums ends heads count (length ds) (j + 1) s1).code (params d.params) u (term fs d.body) r1.last) (inv e) tm) r2.stand;
        kept = λ m l. r2.kept m (omega arith) ∙ r1.wrote.before m (omega arith);
        long = r2.long ∙ r1.wrote.long;
        beyond = λ m l. r2.beyond m l ∙ r1.wrote.beyond m l;
      })
    where
      def_goes_on : {i : ℕ} {d : SDef} {k : ℕ} → DefAt tok n i d k → i < k
      def_goes_on (define_at o w f q x few s e) = let y = (params_count x).0 in let z = (term_bounds tok n s).0 in omega arith

  -- "program: one or more of `(define F [x ..] t)`": all of them linked, by where their bodies start
  pub program_linked_lem : {heads : List ℕ} {ds : List SDef} {b' : ℕ} (count : ℕ) (code : List ℕ) → DefsFrom tok n heads 0 0 ds b' → count ≡ length ds → length ds ≤ 64 → length code ≡ 24582 → AllBindNew (prog_of (functions ds) ds) →
      ProgramLinked (prog_of (functions ds) ds) (bodies_of marks heads) (program_linked marks nums ends heads count code)
  program_linked_lem {heads} {ds} count code h c few z new =
      let m : min count 64 ≡ length ds = omega arith in
      let r = defs_linked count (functions ds) (prog_of (functions ds) ds) (calls_known count h c few) h new (linked (replicate 144 0) code) (length-replicate {A = ℕ} 144 0) z in
      subst (λ (k : ℕ). ProgramLinked (prog_of (functions ds) ds) (bodies_of marks heads) (definitions_linked marks nums ends heads count k 0 (linked (replicate 144 0) code)).code) (inv m) r.stand

  -- .. in cells that are as many as before, and nothing behind them changes
  pub program_kept : {heads : List ℕ} {ds : List SDef} {b' : ℕ} (count : ℕ) (code : List ℕ) → DefsFrom tok n heads 0 0 ds b' → count ≡ length ds → length ds ≤ 64 → length code ≡ 24582 → AllBindNew (prog_of (functions ds) ds) →
      (let g = program_linked marks nums ends heads count code in (length g ≡ 24582) × ((m : ℕ) → 16388 ≤ m → get_or g m 0 ≡ get_or code m 0))
  program_kept {heads} {ds} count code h c few z new =
      let m : min count 64 ≡ length ds = omega arith in
      let r = defs_linked count (functions ds) (prog_of (functions ds) ds) (calls_known count h c few) h new (linked (replicate 144 0) code) (length-replicate {A = ℕ} 144 0) z in
      subst (λ (k : ℕ). let g = (definitions_linked marks nums ends heads count k 0 (linked (replicate 144 0) code)).code in (length g ≡ 24582) × ((m : ℕ) → 16388 ≤ m → get_or g m 0 ≡ get_or code m 0)) (inv m) (r.long ∙ z, r.beyond)
