-- Laws of the readers: what is read is a part of the front, and the count in `up_to` never runs out.
use Prim.Native.Nat.{ℕ, zero, suc, ◌+◌, ◌≤◌, ◌<◌}
use Prim.Native.String.{String}
use mathlib.Core.Path.{◌≡◌, refl, ap, subst, ◌∙◌, sym as inv}
use mathlib.Core.Bool.{Bool, true, false}
use mathlib.Core.List.{List, [], ◌∷◌}
use native.Mathlib.Omega.{arith}
use lib.ListN.{length, drop, length-drop}
use lib.Seq.{drop-drop}
use Rattle.language.specs.Bytes.{Refusal}
use Rattle.language.specs.Words.{Fit, fits, broken, long, many}
use Rattle.language.specs.Tokens.{Token}
use Rattle.language.specs.Reader.{Res, ok, refused, refuse, and_then, Reader, ◌>>=◌, ◌>>◌, give, judged, take, wrong, next, pick, choose, is, many_in, up_to}

pub ok_inj : {A : Type 0} (a b : A) → ok a ≡ ok b → a ≡ b
ok_inj a b e = cc

pub refused_ok : {A B : Type 0} (r : Refusal) (a : A) → refused r ≡ ok a → B
refused_ok {A} r a e = absurd (subst is_refused e tt)
  where
    is_refused : Res A → Type 0
    is_refused (ok a) = ⊥
    is_refused (refused r) = Unit {0}

pub then_ok : {A B : Type 0} (r : Res A) (f : A → Res B) (b : B) → and_then r f ≡ ok b → (a : A) × (r ≡ ok a) × (f a ≡ ok b)
then_ok (ok a) f b e = (a, refl, e)
then_ok (refused r) f b e = refused_ok r b e

-- `rest` is `ts` without its first k tokens, i of them at least
pub record Advance (i : ℕ) (ts rest : List Token) : Type 0 where
  pub k : ℕ
  pub least : i ≤ k
  pub most : k ≤ length ts
  pub same : rest ≡ drop k ts

abbrev pub Advances : {A : Type 0} → ℕ → Reader A → Type 0
Advances {A} i m = (ts : List Token) (a : A) (rest : List Token) → m ts ≡ ok (a, rest) → Advance i ts rest

pub give_advances : {A : Type 0} (a : A) → Advances 0 (give a)
give_advances a ts b rest e = record { k = 0; least = omega arith; most = omega arith; same = ap (λ r. r.1) (inv (ok_inj (a, ts) (b, rest) e)) }

judged_ok : (f : Fit) (b : Bool) (t u : Token) (ts rest : List Token) → judged f b t ts ≡ ok (u, rest) → rest ≡ ts
judged_ok broken b t u ts rest e = refused_ok _ _ e
judged_ok long b t u ts rest e = refused_ok _ _ e
judged_ok many b t u ts rest e = refused_ok _ _ e
judged_ok fits true t u ts rest e = refused_ok _ _ e
judged_ok fits false t u ts rest e = ap (λ r. r.1) (inv (ok_inj (t, ts) (u, rest) e))

pub take_advances : (f : Token → Fit) → Advances 1 (take f)
take_advances f [] a rest e = refused_ok _ _ e
take_advances f (t ∷ ts) a rest e = record { k = 1; least = omega arith; most = omega arith; same = judged_ok (f t) t.over t a ts rest e }

pub wrong_advances : {A : Type 0} (i : ℕ) → Advances i (wrong {A = A})
wrong_advances i [] a rest e = refused_ok _ _ e
wrong_advances i (t ∷ ts) a rest e = refused_ok _ _ e

-- one behind the other
both : (i j : ℕ) (ts us rest : List Token) → Advance i ts us → Advance j us rest → Advance (i + j) ts rest
both i j ts us rest x y =
    let l = ap length x.same ∙ length-drop x.k ts in
    record {
      k = x.k + y.k;
      least = omega (arith, x.least, y.least);
      most = omega (arith, x.most, y.most, l);
      same = y.same ∙ ap (drop y.k) x.same ∙ drop-drop y.k x.k ts;
    }

pub bind_advances : {A B : Type 0} (i j : ℕ) (m : Reader A) (f : A → Reader B) → Advances i m → ((a : A) → Advances j (f a)) → Advances (i + j) (m >>= f)
bind_advances i j m f hm hf ts b rest e =
    let w = then_ok (m ts) (λ r. f r.0 r.1) (b, rest) e in
    both i j ts w.0.1 rest (hm ts w.0.0 w.0.1 w.1) (hf w.0.0 w.0.1 b rest w.2)

pub then_advances : {A B : Type 0} (i j : ℕ) (m : Reader A) (n : Reader B) → Advances i m → Advances j n → Advances (i + j) (m >> n)
then_advances i j m n hm hn = bind_advances i j m (λ a. n) hm (λ a. hn)

pub choose_advances : {A : Type 0} (i : ℕ) (f : Token → Bool) (m n : Reader A) → Advances i m → Advances i n → Advances i (choose f m n)
choose_advances {A} i f m n hm hn ts a rest e = go (next f ts) e
  where
    go : (b : Bool) → pick b m n ts ≡ ok (a, rest) → Advance i ts rest
    go true e = hm ts a rest e
    go false e = hn ts a rest e

pub fewer : {A : Type 0} (i j : ℕ) (m : Reader A) → i ≤ j → Advances j m → Advances i m
fewer i j m l h ts a rest e = let x = h ts a rest e in record { k = x.k; least = omega (arith, x.least); most = x.most; same = x.same }

pub many_in_advances : {A : Type 0} (n : ℕ) (w : String) (item : Reader A) → Advances 0 item → Advances 0 (many_in n w item)
many_in_advances zero w item h = wrong_advances 0
many_in_advances (suc n) w item h = choose_advances 0 (is w) _ _ (give_advances [])
    (bind_advances 0 0 item _ h (λ x. bind_advances 0 0 (many_in n w item) _ (many_in_advances n w item h) (λ xs. give_advances (x ∷ xs))))

pub up_to_advances : {A : Type 0} (w : String) (item : Reader A) → Advances 0 item → Advances 0 (up_to w item)
up_to_advances w item h ts = many_in_advances (length ts) w item h ts

-- Where each item takes a token, `up_to` is its own opening, with no count.
module _ {A : Type 0} (w : String) (item : Reader A) (takes : Advances 1 item) (needs : item [] ≡ refuse 3 0) where
  opened : (Reader (List A)) → Reader (List A)
  opened again = choose (is w) (give []) (item >>= λ x. again >>= λ xs. give (x ∷ xs))

  -- the same tokens behind an item, whatever the count
  one_more : (f g : Reader (List A)) (ts : List Token) → ((rest : List Token) → length rest < length ts → f rest ≡ g rest) → opened f ts ≡ opened g ts
  unfolding opened
  one_more f g ts h = go (next (is w) ts)
    where
      on : (r : Res (A × List Token)) → item ts ≡ r → and_then r (λ x. (f >>= λ xs. give (x.0 ∷ xs)) x.1) ≡ and_then r (λ x. (g >>= λ xs. give (x.0 ∷ xs)) x.1)
      on (ok x) e =
          let y = takes ts x.0 x.1 e in
          let l = ap length y.same ∙ length-drop y.k ts in
          ap (λ r. and_then r (λ xs. give (x.0 ∷ xs.0) xs.1)) (h x.1 (omega (arith, y.least, y.most, l)))
      on (refused r) e = refl

      go : (b : Bool) → pick b (give []) (item >>= λ x. f >>= λ xs. give (x ∷ xs)) ts ≡ pick b (give []) (item >>= λ x. g >>= λ xs. give (x ∷ xs)) ts
      go true = refl
      go false = on (item ts) refl

  nothing_left : (n : ℕ) → many_in n w item [] ≡ refuse 3 0
  nothing_left zero = refl
  nothing_left (suc n) = ap (λ r. and_then r (λ x. (many_in n w item >>= λ xs. give (x.0 ∷ xs)) x.1)) needs

  enough : (n m : ℕ) (ts : List Token) → length ts ≤ n → length ts ≤ m → many_in n w item ts ≡ many_in m w item ts
  unfolding opened
  enough zero zero ts l k = refl
  enough zero (suc m) [] l k = inv (nothing_left (suc m))
  enough zero (suc m) (t ∷ ts) l k = let z : ⊥ = omega arith in absurd z
  enough (suc n) zero [] l k = nothing_left (suc n)
  enough (suc n) zero (t ∷ ts) l k = let z : ⊥ = omega arith in absurd z
  enough (suc n) (suc m) ts l k = one_more (many_in n w item) (many_in m w item) ts (λ rest h. enough n m rest (omega arith) (omega arith))

  pub up_to_opens : (t : Token) (ts : List Token) → up_to w item (t ∷ ts) ≡ choose (is w) (give []) (item >>= λ x. up_to w item >>= λ xs. give (x ∷ xs)) (t ∷ ts)
  unfolding opened
  up_to_opens t ts = one_more (many_in (length ts) w item) (up_to w item) (t ∷ ts) (λ rest h. enough (length ts) (length rest) rest (omega arith) (omega arith))
