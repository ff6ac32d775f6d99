-- Readers on tokens whose words are known: what is written is read as it was written, or refused by 5, since it may pass a limit.
use Prim.Native.Nat.{ℕ, zero, suc, ◌<◌, ◌≤◌}
use Prim.Native.String.{String}
use mathlib.Core.Path.{◌≡◌, refl, ap, subst, ◌∙◌, sym as inv}
use mathlib.Core.Bool.{Bool, true, false, cond}
use mathlib.Core.List.{List, [], ◌∷◌, ◌++◌, append_assoc}
use native.Mathlib.Omega.{arith}
use lib.Dec.{eqb}
use lib.ListN.{length, length-append}
use Rattle.expressions.proofs.Predicates.{All}
use Rattle.expressions.proofs.Tests.{eqb_same}
use Rattle.language.specs.Bytes.{txt}
use Rattle.language.specs.Words.{Word, Fit, fits, broken}
use Rattle.language.specs.Tokens.{Kind, kind_of, same_kind, tag, key_of, Text, fit_of, num_of, fitting, Token}
use Rattle.language.specs.Reader.{Res, ok, refused, and_then, Reader, ◌>>=◌, ◌>>◌, give, judged, take, is, the, pick, choose, many_in, up_to}
use Rattle.language.specs.Source.{Stand}
use Rattle.language.specs.Grammar.{standing, word}
use Rattle.language.proofs.Spelling.{Spelled, Spelt}

-- what was read and what is left, or 5
abbrev pub Outcome : {A : Type 0} → (A → Type 0) → List Token → Res (A × List Token) → Type 0
Outcome Q rest (ok r) = Q r.0 × (r.1 ≡ rest)
Outcome Q rest (refused r) = r.number ≡ 5

abbrev pub Anything : List Token → Type 0
Anything ts = Unit {0}

-- items one behind another: the words of all, and what is read for each
abbrev pub all_words : {X : Type 0} → (X → List Word) → List X → List Word
all_words W [] = []
all_words W (x ∷ xs) = W x ++ all_words W xs

abbrev pub AllRead : {X A : Type 0} → (X → A → Type 0) → List X → List A → Type 0
AllRead Q [] [] = Unit {0}
AllRead Q [] (a ∷ xs) = ⊥
AllRead Q (x ∷ xs) [] = ⊥
AllRead Q (x ∷ xs) (a ∷ bs) = Q x a × AllRead Q xs bs

module _ (text : Text) (symbols names : List Word) where
  abbrev S : List Word → List Token → Type 0
  S = Spelt text symbols names

  -- the next token is that of the word w
  abbrev pub Begins : Word → List Token → Type 0
  Begins w [] = ⊥
  Begins w (t ∷ ts) = Spelled text symbols names w t

  -- m takes the tokens of the words ws, where P holds of what follows, and Q of what is read
  pub record Takes (P : List Token → Type 0) (ws : List Word) {A : Type 0} (Q : A → Type 0) (m : Reader A) : Type 0 where
    pub result : (ts : List Token) → Spelt text symbols names ws ts → (rest : List Token) → P rest → Outcome Q rest (m (ts ++ rest))

  pub spelt_split : (ws vs : List Word) (ts : List Token) → S (ws ++ vs) ts → (xs : List Token) × (ys : List Token) × (ts ≡ xs ++ ys) × S ws xs × S vs ys
  spelt_split [] vs ts h = ([], ts, refl, tt, h)
  spelt_split (w ∷ ws) vs [] h = absurd h
  spelt_split (w ∷ ws) vs (t ∷ ts) h =
      let r = spelt_split ws vs ts h.1 in (t ∷ r.0, r.1, ap (λ (l : List Token). t ∷ l) r.2, (h.0, r.3), r.4)

  pub give_takes : {P : List Token → Type 0} {A : Type 0} {Q : A → Type 0} (a : A) → Q a → Takes P [] Q (give a)
  give_takes {P} {A} {Q} a q = record { result = go }
    where
      go : (ts : List Token) → S [] ts → (rest : List Token) → P rest → Outcome Q rest (give a (ts ++ rest))
      go [] h rest p = (q, refl)
      go (t ∷ ts) h rest p = absurd h

  -- one reader behind another; what stands before the second must be what the first wants behind it
  pub bind_takes : {P R : List Token → Type 0} {ws vs : List Word} {A B : Type 0} {Q : A → Type 0} {U : B → Type 0} {m : Reader A} {f : A → Reader B} →
      ((ys rest : List Token) → S vs ys → P rest → R (ys ++ rest)) → Takes R ws Q m → ((a : A) → Q a → Takes P vs U (f a)) → Takes P (ws ++ vs) U (m >>= f)
  bind_takes {P} {R} {ws} {vs} {A} {B} {Q} {U} {m} {f} g h k = record { result = λ ts s rest p. split ts s rest p (spelt_split ws vs ts s) }
    where
      after : (ys rest : List Token) → S vs ys → P rest → (r : Res (A × List Token)) → Outcome Q (ys ++ rest) r → Outcome U rest (and_then r (λ r. f r.0 r.1))
      after ys rest b p (ok r) o = subst (λ (l : List Token). Outcome U rest (f r.0 l)) (inv o.1) ((k r.0 o.0).result ys b rest p)
      after ys rest b p (refused r) o = o

      split : (ts : List Token) → S (ws ++ vs) ts → (rest : List Token) → P rest → (xs : List Token) × (ys : List Token) × (ts ≡ xs ++ ys) × S ws xs × S vs ys → Outcome U rest ((m >>= f) (ts ++ rest))
      split ts s rest p (xs, ys, e, a, b) =
          subst (λ (l : List Token). Outcome U rest ((m >>= f) l)) (inv (ap (λ (l : List Token). l ++ rest) e ∙ append_assoc xs ys rest))
          (after ys rest b p (m (xs ++ (ys ++ rest))) (h.result xs a (ys ++ rest) (g ys rest b p)))

  pub take_takes : {P : List Token → Type 0} (f : Token → Fit) (w : Word) → ((t : Token) → Spelled text symbols names w t → f t ≡ fits) → Takes P (w ∷ []) (Spelled text symbols names w) (take f)
  take_takes {P} f w h = record { result = go }
    where
      judge : (t : Token) (rest : List Token) → Spelled text symbols names w t → (x : Fit) → x ≡ fits → (b : Bool) → Outcome (Spelled text symbols names w) rest (judged x b t rest)
      judge t rest s x e true = subst (λ (y : Fit). Outcome (Spelled text symbols names w) rest (judged y true t rest)) (inv e) refl
      judge t rest s x e false = subst (λ (y : Fit). Outcome (Spelled text symbols names w) rest (judged y false t rest)) (inv e) (s, refl)

      go : (ts : List Token) → S (w ∷ []) ts → (rest : List Token) → P rest → Outcome (Spelled text symbols names w) rest (take f (ts ++ rest))
      go [] s rest p = absurd s
      go (t ∷ []) s rest p = judge t rest s.0 (f t) (h t s.0) t.over
      go (t ∷ (u ∷ us)) s rest p = absurd s.1

  pub is_it : (w : String) (t : Token) → Spelled text symbols names (txt w) t → is w t ≡ true
  is_it w t s = ap (λ (k : ℕ). eqb k (key_of (txt w))) s.key ∙ eqb_same (key_of (txt w))

  pub the_takes : {P : List Token → Type 0} (w : String) → Takes P (txt w ∷ []) (Spelled text symbols names (txt w)) (the w)
  the_takes w = take_takes _ (txt w) (λ t s. rw (is_it w t s))

  -- a word of a kind, by its number
  pub word_takes : {P : List Token → Type 0} (k : Kind) (w : Word) → kind_of w ≡ k → fit_of text k w ≡ fits → Takes P (w ∷ []) (λ (x : Stand). x.num ≡ num_of symbols names text k w) (word k)
  word_takes k w e f = bind_takes {vs = []} (λ ys rest s p. tt) (take_takes {P = Anything} _ w fit) (λ t s. give_takes (standing t) (num t s))
    where
      fit : (t : Token) → Spelled text symbols names w t → cond (same_kind t.kind k) t.fit broken ≡ fits
      fit t s =
          let a : same_kind t.kind k ≡ true = ap (λ (l : Kind). same_kind l k) (s.kind ∙ e) ∙ eqb_same (tag k) in
          let b : t.fit ≡ fits = s.fit ∙ ap (λ (l : Kind). fit_of text l w) e ∙ f in
          rw a b

      num : (t : Token) → Spelled text symbols names w t → t.num ≡ num_of symbols names text k w
      num t s = s.num ∙ ap (λ (l : Kind). fitting (fit_of text l w) (num_of symbols names text l w)) e ∙ ap (λ (x : Fit). fitting x (num_of symbols names text k w)) f

  -- the next token decides
  module _ {P : List Token → Type 0} {A : Type 0} {Q : A → Type 0} {f : Token → Bool} {m n : Reader A} (w : Word) (ws : List Word) where
    pub choose_first : ((t : Token) → Spelled text symbols names w t → f t ≡ true) → Takes P (w ∷ ws) Q m → Takes P (w ∷ ws) Q (choose f m n)
    choose_first g h = record { result = go }
      where
        go : (ts : List Token) → S (w ∷ ws) ts → (rest : List Token) → P rest → Outcome Q rest (choose f m n (ts ++ rest))
        go [] s rest p = absurd s
        go (t ∷ ts) s rest p = subst (λ (b : Bool). Outcome Q rest (pick b m n ((t ∷ ts) ++ rest))) (inv (g t s.0)) (h.result (t ∷ ts) s rest p)

    pub choose_second : ((t : Token) → Spelled text symbols names w t → f t ≡ false) → Takes P (w ∷ ws) Q n → Takes P (w ∷ ws) Q (choose f m n)
    choose_second g h = record { result = go }
      where
        go : (ts : List Token) → S (w ∷ ws) ts → (rest : List Token) → P rest → Outcome Q rest (choose f m n (ts ++ rest))
        go [] s rest p = absurd s
        go (t ∷ ts) s rest p = subst (λ (b : Bool). Outcome Q rest (pick b m n ((t ∷ ts) ++ rest))) (inv (g t s.0)) (h.result (t ∷ ts) s rest p)

  pub then_takes : {P : List Token → Type 0} {ws vs : List Word} {A B : Type 0} {Q : A → Type 0} {U : B → Type 0} {m : Reader A} {n : Reader B} →
      Takes Anything ws Q m → Takes P vs U n → Takes P (ws ++ vs) U (m >> n)
  then_takes {n} h k = bind_takes {f = λ a. n} (λ ys rest s p. tt) h (λ a q. k)

  -- what was read, made into something else
  pub done_takes : {P : List Token → Type 0} {ws : List Word} {A B : Type 0} {Q : A → Type 0} {U : B → Type 0} {m : Reader A} (f : A → B) →
      ((a : A) → Q a → U (f a)) → Takes P ws Q m → Takes P ws U (m >>= λ a. give (f a))
  done_takes {P} {ws} {A} {B} {Q} {U} {m} f g h = record { result = λ ts s rest p. after rest (m (ts ++ rest)) (h.result ts s rest p) }
    where
      after : (rest : List Token) (r : Res (A × List Token)) → Outcome Q rest r → Outcome U rest (and_then r (λ r. give (f r.0) r.1))
      after rest (ok r) o = (g r.0 o.0, o.1)
      after rest (refused r) o = o

  pub any_takes : {P : List Token → Type 0} {ws : List Word} {A : Type 0} {Q : A → Type 0} {m : Reader A} → Takes Anything ws Q m → Takes P ws Q m
  any_takes h = record { result = λ ts s rest p. h.result ts s rest tt }

  pub spelt_length : (ws : List Word) (ts : List Token) → S ws ts → length ts ≡ length ws
  spelt_length [] [] h = refl
  spelt_length [] (t ∷ ts) h = absurd h
  spelt_length (w ∷ ws) [] h = absurd h
  spelt_length (w ∷ ws) (t ∷ ts) h = ap suc (spelt_length ws ts h.1)

  -- Items up to a closing bracket: W are the words of an x, of which the first is not the bracket, and Q says what is read for it.
  module _ {X A : Type 0} (Fine : X → Type 0) (W : X → List Word) (Q : X → A → Type 0) (closer : String) (item : Reader A)
      (starts : (x : X) → (w : Word) × (ws : List Word) × (W x ≡ w ∷ ws) × ((t : Token) → Spelled text symbols names w t → is closer t ≡ false))
      (h : (x : X) → Fine x → Takes Anything (W x) (Q x) item) where
    no_more : {U : List A → Type 0} (m : Reader (List A)) → U [] → Takes (Begins (txt closer)) [] U (choose (is closer) (give []) m)
    no_more {U} m u = record { result = go }
      where
        go : (ts : List Token) → S [] ts → (rest : List Token) → Begins (txt closer) rest → Outcome U rest (choose (is closer) (give []) m (ts ++ rest))
        go (t ∷ ts) s rest p = absurd s
        go [] s [] p = absurd p
        go [] s (c ∷ rest) p = subst (λ (b : Bool). Outcome U (c ∷ rest) (pick b (give []) m (c ∷ rest))) (inv (is_it closer c p)) (u, refl)

    one_more : {P : List Token → Type 0} {U : List A → Type 0} (x : X) (ws : List Word) (m n : Reader (List A)) → Takes P (W x ++ ws) U n → Takes P (W x ++ ws) U (choose (is closer) m n)
    one_more {P} {U} x ws m n k =
        let r = starts x in
        let e : W x ++ ws ≡ r.0 ∷ (r.1 ++ ws) = ap (λ (l : List Word). l ++ ws) r.2 in
        subst (λ (l : List Word). Takes P l U (choose (is closer) m n)) (inv e) (choose_second r.0 (r.1 ++ ws) r.3 (subst (λ (l : List Word). Takes P l U n) e k))

    many_takes : (n : ℕ) (xs : List X) → length xs < n → All Fine xs → Takes (Begins (txt closer)) (all_words W xs) (AllRead Q xs) (many_in n closer item)
    many_takes zero xs l f = let z : ⊥ = omega arith in absurd z
    many_takes (suc n) [] l f = no_more (item >>= λ x. many_in n closer item >>= λ xs. give (x ∷ xs)) tt
    many_takes (suc n) (x ∷ xs) l f = one_more x (all_words W xs) (give []) (item >>= λ a. many_in n closer item >>= λ bs. give (a ∷ bs))
        (bind_takes (λ ys rest s p. tt) (h x f.0) (λ a q. done_takes (λ bs. a ∷ bs) (λ bs r. (q, r)) (many_takes n xs (omega arith) f.1)))

    all_long : (xs : List X) → length xs ≤ length (all_words W xs)
    all_long [] = omega arith
    all_long (x ∷ xs) = let r = starts x in let e : length (W x) ≡ suc (length r.1) = ap (λ (l : List Word). length l) r.2 in omega (arith, length-append (W x) (all_words W xs), all_long xs, e)

    pub up_to_takes : (xs : List X) → All Fine xs → Takes (Begins (txt closer)) (all_words W xs) (AllRead Q xs) (up_to closer item)
    up_to_takes xs f = record { result = λ ts s rest p. (many_takes (length (ts ++ rest)) xs (enough ts s rest p) f).result ts s rest p }
      where
        enough : (ts : List Token) → S (all_words W xs) ts → (rest : List Token) → Begins (txt closer) rest → length xs < length (ts ++ rest)
        enough ts s [] p = absurd p
        enough ts s (c ∷ rest) p = omega (arith, spelt_length (all_words W xs) ts s, all_long xs, length-append ts (c ∷ rest))
