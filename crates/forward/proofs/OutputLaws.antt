-- The output of an end: the cells of its expression's value in the answer storage, or it is over the limit. The value of each name is what a source gives.
use Prim.Native.Nat.{ℕ, zero, suc, ◌+◌, ◌-◌, ◌*◌, ◌≤◌, ◌<◌}
use mathlib.Core.Path.{◌≡◌, refl, ap, subst, ◌∙◌, sym as inv}
use mathlib.Core.List.{List, [], ◌∷◌, ◌++◌, append-nil}
use mathlib.Core.Logic.{◌⊎◌, inl, inr}
use native.Mathlib.Omega.{arith}
use lib.ListN.{length, drop, get_or, length-append}
use Rattle.std.specs.Prelude.{Option, Some, None}
use Rattle.expressions.specs.Expression.{sym, avar, Exp, atm, evar, nodes}
use Rattle.expressions.specs.Substitution.{Substitution, apply}
use Rattle.language.specs.Program.{Param, pe, pa}
use Rattle.semantics.specs.Configuration.{subst_of_env}
use Rattle.sets.specs.Cells.{cells}
use Rattle.sets.proofs.CellLaws.{cells_nodes}
use Rattle.heap.specs.declared.configuration.Configuration.{Configuration as InCells}
use Rattle.heap.proofs.HeapLaws.{Holds, nodes_positive}
use Rattle.heap.proofs.NodeLaws.{holds_nodes}
use Rattle.linking.specs.Twins.Code.{link, link_at}
use Rattle.linking.specs.Twins.Linked.{place_in, ExpLinked, sym_linked, e_linked, a_linked, cons_linked}
use Rattle.linking.specs.Twins.Places.{env_of}
use Rattle.linking.proofs.AgreeLaws.{exp_goes_on}
use Rattle.linking.proofs.PlaceLaws.{lookup_e, lookup_a}
use Rattle.values.specs.Twins.Values.{ValueLeft, valued}
use Rattle.values.proofs.ValueLaws.{Typed, typed_length, atom_typed, Known}
use Rattle.tracing.specs.declared.ask.Asked.{Asked}
use Rattle.forward.specs.Twins.Naming.{named_at}
use Rattle.forward.specs.Twins.Output.{OutLeft, out_left, onward, onward_from, token_put, tokens_put}
use Rattle.forward.proofs.PutLaws.{Kept, Room, Puts, nothing_put, cell_put_lem, range_put_lem, put_then}

-- the value v in a range of the heap, which is as h below B
pub record SourceAt (B : ℕ) (h : List ℕ) (v : Exp) (w : ValueLeft) : Type 0 where
  pub from : ℕ
  pub to : ℕ
  pub used : ℕ
  pub now : ℕ
  pub known : ℕ
  pub done : w.answer ≡ Some (valued from to used known)
  pub holds : Holds w.heap now from to v
  pub fits : now ≤ 65535
  pub kept : Kept B h w.heap

-- or the heap has no room for it
abbrev pub Source : ℕ → List ℕ → Exp → ValueLeft → Type 0
Source B h v w = ((w.answer ≡ None) × (4096 < nodes v)) ⊎ SourceAt B h v w

forth : {g : List ℕ} {now from to : ℕ} {t : Exp} → Holds g now from to t → from ≤ to
forth {t = t} x = omega (arith, holds_nodes x, nodes_positive t)

module _ (code : List ℕ) (c : InCells) (a : Asked) (f : List ℕ) (B : ℕ) (h : List ℕ) where
  -- each value by its place
  abbrev pub Sources : List Exp → Type 0
  Sources vs = (q : ℕ) → q < length vs → (j p : ℕ) → link_at code j ≡ link 2 q 0 p → (g : List ℕ) → Kept B h g → Source B h (get_or vs q (atm (sym 0))) (named_at code c a j g f)

  module _ (limit : ℕ) (few : limit ≤ 4096) where
    abbrev put : ℕ → ℕ → ℕ → List ℕ → List ℕ → OutLeft
    put left j at g d = tokens_put code c a limit f left j at g d

    abbrev PutAs : List ℕ → List ℕ → List ℕ → OutLeft → Type 0
    PutAs p r v w = Puts limit B h p r v w

    -- the tokens of two parts
    two_parts : (m n i at : ℕ) (g d : List ℕ) → put (m + n) i at g d ≡ onward_from (put n (i + m)) (put m i at g d)
    unfolding tokens_put
    two_parts zero n i at g d = let z : 0 + n ≡ n = omega arith in let y : i + 0 ≡ i = omega arith in rw (z, y)
    two_parts (suc m) n i at g d = let z : suc m + n ≡ suc (m + n) = omega arith in rw z (go (token_put code c a limit f i at g d) (λ k u e. two_parts m n (i + 1) k u e))
      where
        by : (r : Option ℕ) (u e : List ℕ) → ((k : ℕ) (u e : List ℕ) → put (m + n) (i + 1) k u e ≡ onward_from (put n (i + 1 + m)) (put m (i + 1) k u e)) →
            onward (put (m + n) (i + 1)) r u e ≡ onward_from (put n (i + suc m)) (onward (put m (i + 1)) r u e)
        by (Some k) u e again = let y : i + 1 + m ≡ i + suc m = omega arith in again k u e ∙ rw y
        by None u e again = refl

        go : (w : OutLeft) → ((k : ℕ) (u e : List ℕ) → put (m + n) (i + 1) k u e ≡ onward_from (put n (i + 1 + m)) (put m (i + 1) k u e)) →
            onward_from (put (m + n) (i + 1)) w ≡ onward_from (put n (i + suc m)) (onward_from (put m (i + 1)) w)
        go w again = by w.answer w.heap w.cells again

    -- a single token
    one_token : (i : ℕ) (p r v g : List ℕ) → PutAs p r v (token_put code c a limit f i (length p) g (p ++ r)) → PutAs p r v (put 1 i (length p) g (p ++ r))
    unfolding tokens_put
    one_token i p r v g x = go (token_put code c a limit f i (length p) g (p ++ r)) x
      where
        by : (o : Option ℕ) (u e : List ℕ) → PutAs p r v (out_left o u e) → PutAs p r v (onward (λ k u e. out_left (Some k) u e) o u e)
        by (Some k) u e x = x
        by None u e x = x

        go : (w : OutLeft) → PutAs p r v w → PutAs p r v (onward_from (λ k u e. out_left (Some k) u e) w)
        go w x = by w.answer w.heap w.cells x

    then : (m n i : ℕ) (p r v u g : List ℕ) → Room limit B h p r → PutAs p r v (put m i (length p) g (p ++ r)) →
        ((e : List ℕ) → Kept B h e → Room limit B h (p ++ v) (drop (length v) r) → PutAs (p ++ v) (drop (length v) r) u (put n (i + m) (length (p ++ v)) e ((p ++ v) ++ drop (length v) r))) →
        PutAs p r (v ++ u) (put (m + n) i (length p) g (p ++ r))
    then m n i p r v u g room x next = rw (two_parts m n i (length p) g (p ++ r)) (put_then limit B h p r v u (put m i (length p) g (p ++ r)) (put n (i + m)) room x next)

    nothing_token : (i e : ℕ) → link_at code i ≡ link 0 0 0 e → (p r g : List ℕ) → Room limit B h p r → Kept B h g → PutAs p r [] (put 1 i (length p) g (p ++ r))
    unfolding token_put
    nothing_token i e l p r g room k = one_token i p r [] g (rw l (nothing_put limit B h p r g room k))

    cell_token : (i x e : ℕ) → link_at code i ≡ link 1 x 0 e → (p r g : List ℕ) → Room limit B h p r → Kept B h g → PutAs p r (x ∷ []) (put 1 i (length p) g (p ++ r))
    unfolding token_put
    cell_token i x e l p r g room k = one_token i p r (x ∷ []) g (rw l (cell_put_lem limit B h p r g x room k))

    name_token : (i q e : ℕ) (v : Exp) → link_at code i ≡ link 2 q 0 e → (p r g : List ℕ) → Room limit B h p r → Source B h v (named_at code c a i g f) → PutAs p r (cells v) (put 1 i (length p) g (p ++ r))
    unfolding token_put
    name_token i q e v l p r g room (inl o) = one_token i p r (cells v) g (rw (l, o.0) (inl (refl, omega (arith, o.1, cells_nodes v), length-append p r)))
    name_token i q e v l p r g room (inr s) =
        one_token i p r (cells v) g (rw (l, s.done) (range_put_lem limit B h p r (named_at code c a i g f).heap s.now s.from s.to v room s.kept s.holds s.fits (forth s.holds)))

    -- n tokens from i on that put v
    abbrev Part : ℕ → ℕ → List ℕ → Type 0
    Part n i v = (p r g : List ℕ) → Room limit B h p r → Kept B h g → PutAs p r v (put n i (length p) g (p ++ r))

    follow : (m n i l : ℕ) (v u : List ℕ) → i + m ≡ l → Part m i v → Part n l u → Part (m + n) i (v ++ u)
    follow m n i l v u is x y p r g room k = then m n i p r v u g room (x p r g room k) (λ e q s. rw is (y (p ++ v) (drop (length v) r) e s q))

    cons_part : (i j k : ℕ) (vc vd : List ℕ) → link_at code i ≡ link 0 0 0 (k + 1) → link_at code (i + 1) ≡ link 1 4 0 (i + 2) → link_at code k ≡ link 0 0 0 (k + 1) → i + 2 < j → j < k →
        Part (j - (i + 2)) (i + 2) vc → Part (k - j) j vd → Part (k + 1 - i) i (4 ∷ (vc ++ vd))
    cons_part i j k vc vd o w e x1 x2 head tail =
        let n : k + 1 - i ≡ 1 + (1 + ((j - (i + 2)) + ((k - j) + 1))) = omega arith in
        let last : Part ((k - j) + 1) j (vd ++ []) = follow (k - j) 1 j k vd [] (omega arith) tail (nothing_token k (k + 1) e) in
        let parts : Part ((j - (i + 2)) + ((k - j) + 1)) (i + 2) (vc ++ (vd ++ [])) = follow (j - (i + 2)) ((k - j) + 1) (i + 2) j vc (vd ++ []) (omega arith) head last in
        let pair : Part (1 + ((j - (i + 2)) + ((k - j) + 1))) (i + 1) (4 ∷ (vc ++ (vd ++ []))) =
        follow 1 ((j - (i + 2)) + ((k - j) + 1)) (i + 1) (i + 2) (4 ∷ []) (vc ++ (vd ++ [])) (omega arith) (cell_token (i + 1) 4 (i + 2) w) parts in
        let all : Part (1 + (1 + ((j - (i + 2)) + ((k - j) + 1)))) i (4 ∷ (vc ++ (vd ++ []))) =
        follow 1 (1 + ((j - (i + 2)) + ((k - j) + 1))) i (i + 1) [] (4 ∷ (vc ++ (vd ++ []))) refl (nothing_token i (k + 1) o) pair in
        subst (λ (m : ℕ). Part m i (4 ∷ (vc ++ vd))) (inv n) (subst (λ (l : List ℕ). Part (1 + (1 + ((j - (i + 2)) + ((k - j) + 1)))) i (4 ∷ (vc ++ l))) (append-nil vd) all)

    module _ (sc : List Param) (vs : List Exp) (typed : Typed sc vs) (sources : Sources vs) where
      abbrev σ : Substitution
      σ = subst_of_env (env_of sc vs)

      named : (i q e : ℕ) (t : Exp) → link_at code i ≡ link 2 q 0 e → q < length vs → t ≡ get_or vs q (atm (sym 0)) → (p r g : List ℕ) → Room limit B h p r → Kept B h g → PutAs p r (cells t) (put 1 i (length p) g (p ++ r))
      named i q e t l m is p r g room k =
          let s : Source B h t (named_at code c a i g f) = subst (λ (x : Exp). Source B h x (named_at code c a i g f)) (inv is) (sources q m i e l g k) in
          name_token i q e t l p r g room s

      -- THE LAW of an output
      pub output_means : {i : ℕ} {e : Exp} {j : ℕ} → ExpLinked code sc i e j → Known sc e → Part (j - i) i (cells (apply σ e))
      output_means {i} (sym_linked {z = z} l) kn p r g room k = let y : i + 1 - i ≡ 1 = omega arith in rw y (cell_token i (4 * z + 1) (i + 1) l p r g room k)
      output_means {i} (e_linked {x = x} l) kn p r g room k =
          let y : i + 1 - i ≡ 1 = omega arith in
          let n = typed_length typed in
          rw y (named i (place_in (pe x) sc) (i + 1) (apply σ (evar x)) l (omega arith) (lookup_e (atm (sym 0)) x sc vs n) p r g room k)
      output_means {i} (a_linked {x = x} l) kn p r g room k =
          let y : i + 1 - i ≡ 1 = omega arith in
          let n = typed_length typed in
          rw y (named i (place_in (pa x) sc) (i + 1) (apply σ (atm (avar x))) l (omega arith) (ap atm (lookup_a (sym 0) x sc vs n kn) ∙ atom_typed (atm (sym 0)) x typed kn) p r g room k)
      output_means (cons_linked {i = i} {j = j} {k = k} {c = x} {d = y} o w lc ld e) kn p r g room m =
          cons_part i j k (cells (apply σ x)) (cells (apply σ y)) o w e (exp_goes_on code sc lc) (exp_goes_on code sc ld) (λ p r g m k. output_means lc kn.0 p r g m k) (λ p r g m k. output_means ld kn.1 p r g m k) p r g room m
