-- Tokens in storage, and the link of each by itself.
use Prim.Native.Nat.{ℕ, suc, ◌+◌, ◌*◌, ◌%◌, ◌≤◌, ◌<◌}
use Prim.Native.String.{String}
use mathlib.Core.Path.{◌≡◌, ◌∙◌, sym as inv}
use mathlib.Core.Bool.{Bool, true, false, cond}
use mathlib.Core.List.{List, [], ◌∷◌}
use native.Mathlib.Omega.{arith}
use lib.Dec.{eqb}
use lib.ListN.{length, get_or}
use borrow.Author.Tests.{eqb-true, ne_eqb, lt-leb}
use Rattle.language.specs.Bytes.{txt}
use Rattle.language.specs.Tokens.{Kind, symbol, ename, aname, plain, tag, Token}
use Rattle.language.specs.Tokens as tokens
use Rattle.language.specs.Reader.{is}
use Rattle.language.specs.Program.{Param, pe, pa, same_param}
use Rattle.syntax.specs.Twins.Standing.{WordAt, NameAt}
use Rattle.syntax.specs.Twins.Ends.{past_at}
use Rattle.syntax.proofs.EndsLaws.{Unbracketed}
use Rattle.linking.specs.declared.code.Link.{Link}
use Rattle.linking.specs.Twins.Code.{link}
use Rattle.linking.specs.Twins.Linking.{key_of, kind_of, same_name, place_from, place_of, token_link}
use Rattle.linking.specs.Twins.Linked.{place_in}

-- `tok`, n of them, stand in the cells, with the index past what starts at each
pub record TokensIn (tok : ℕ → Token) (n : ℕ) (marks nums ends : List ℕ) : Type 0 where
  pub few : n ≤ 4097
  pub long : n ≤ length marks
  pub key : (i : ℕ) → i < n → key_of marks i ≡ (tok i).key
  pub kind : (i : ℕ) → i < n → kind_of marks i ≡ tag (tok i).kind
  pub num : (i : ℕ) → i < n → get_or nums i 0 ≡ (tok i).num
  pub fixed : (i : ℕ) → i < n → (tok i).key < 18 → tag (tok i).kind ≡ 5
  pub coded : (i : ℕ) → i < n → tag (tok i).kind ≡ 0 → (tok i).num < 16384
  pub ended : (i : ℕ) → i < n → get_or ends i 0 ≡ past_at (λ j. (tok j).key) n i
  pub unbracketed : Unbracketed tok

-- the token i is this name
pub data IsName (tok : ℕ → Token) (n : ℕ) : ℕ → Param → Type 0 where
  e_name : {i : ℕ} → NameAt tok n ename i → IsName tok n i (pe (tok i).num)
  a_name : {i : ℕ} → NameAt tok n aname i → IsName tok n i (pa (tok i).num)

-- from place j on, the names are these, each by the index of a token that has it
pub data NamesAre (tok : ℕ → Token) (n : ℕ) (names : List ℕ) : ℕ → List Param → Type 0 where
  no_names : {j : ℕ} → NamesAre tok n names j []
  more_names : {j : ℕ} {x : Param} {xs : List Param} → IsName tok n (get_or names j 0) x → NamesAre tok n names (j + 1) xs → NamesAre tok n names j (x ∷ xs)

module _ {tok : ℕ → Token} {n : ℕ} {marks nums ends : List ℕ} (t : TokensIn tok n marks nums ends) (names : List ℕ) (used : ℕ) where
  abbrev pub link_of : ℕ → Link
  link_of i = token_link marks nums ends names used i

  -- a token that is no bracket ends where the next one begins
  pub past_one : (i : ℕ) → i < n → eqb (tok i).key 1 ≡ false → get_or ends i 0 ≡ i + 1
  past_one i l b = t.ended i l ∙ rw (lt-leb n i l, b)

  pub word_key : (w : String) (i : ℕ) → WordAt tok n w i → key_of marks i ≡ tokens.key_of (txt w)
  word_key w i x = t.key i x.below ∙ eqb-true (tok i).key (tokens.key_of (txt w)) x.key

  word_kind : (w : String) (i : ℕ) → WordAt tok n w i → tokens.key_of (txt w) < 18 → kind_of marks i ≡ 5
  word_kind w i x l =
      let e = eqb-true (tok i).key (tokens.key_of (txt w)) x.key in
      t.kind i x.below ∙ t.fixed i x.below (omega arith)

  -- a bracket, or any fixed word but `cons`
  pub word_link : (w : String) (i : ℕ) → WordAt tok n w i → tokens.key_of (txt w) < 18 → eqb (tokens.key_of (txt w)) 8 ≡ false → link_of i ≡ link 0 0 0 (get_or ends i 0)
  unfolding token_link
  word_link w i x l b = rw (word_key w i x, word_kind w i x l, b)

  pub cons_link : (i : ℕ) → WordAt tok n "cons" i → link_of i ≡ link 1 4 0 (i + 1)
  unfolding token_link
  cons_link i x = rw (word_key "cons" i x, past_one i x.below (rw (eqb-true (tok i).key (tokens.key_of (txt "cons")) x.key)))

  -- the key of a word that is no fixed word
  plain_key : (k : Kind) (i : ℕ) → NameAt tok n k i → (tag k ≡ 5 → ⊥) → (tok i).key < 18 → ⊥
  plain_key k i x f l = f (inv (eqb-true (tag (tok i).kind) (tag k) x.kind) ∙ t.fixed i x.below l)

  name_key : (k : Kind) (i m : ℕ) → NameAt tok n k i → (tag k ≡ 5 → ⊥) → m < 18 → eqb (tok i).key m ≡ false
  name_key k i m x f l = ne_eqb (tok i).key m (λ e. plain_key k i x f (omega arith))

  name_kind_lem : (k : Kind) (i : ℕ) → NameAt tok n k i → kind_of marks i ≡ tag k
  name_kind_lem k i x = t.kind i x.below ∙ eqb-true (tag (tok i).kind) (tag k) x.kind

  pub symbol_link : (i : ℕ) → NameAt tok n symbol i → link_of i ≡ link 1 (4 * (tok i).num + 1) 0 (i + 1)
  unfolding token_link
  symbol_link i x =
      let five : tag symbol ≡ 5 → ⊥ = (λ e. omega arith) in
      let e = eqb-true (tag (tok i).kind) (tag symbol) x.kind in
      let l = t.coded i x.below e in
      let r : (tok i).num % 16384 ≡ (tok i).num = omega arith in
      rw (t.key i x.below, name_key symbol i 8 x five (omega arith), name_kind_lem symbol i x, past_one i x.below (name_key symbol i 1 x five (omega arith)), t.num i x.below, r)

  pub ename_link : (i : ℕ) → NameAt tok n ename i → link_of i ≡ link 2 (place_of marks nums names used i % 65536) 0 (i + 1)
  unfolding token_link
  ename_link i x =
      let five : tag ename ≡ 5 → ⊥ = (λ e. omega arith) in
      rw (t.key i x.below, name_key ename i 8 x five (omega arith), name_kind_lem ename i x, past_one i x.below (name_key ename i 1 x five (omega arith)))

  pub aname_link : (i : ℕ) → NameAt tok n aname i → link_of i ≡ link 2 (place_of marks nums names used i % 65536) 0 (i + 1)
  unfolding token_link
  aname_link i x =
      let five : tag aname ≡ 5 → ⊥ = (λ e. omega arith) in
      rw (t.key i x.below, name_key aname i 8 x five (omega arith), name_kind_lem aname i x, past_one i x.below (name_key aname i 1 x five (omega arith)))

  -- two tokens have the same name where the names are the same
  pub same_name_lem : {i j : ℕ} {x y : Param} → IsName tok n i x → IsName tok n j y → same_name marks nums i j ≡ same_param x y
  unfolding same_name
  same_name_lem {i} {j} (e_name a) (e_name b) = rw (name_kind_lem ename i a, name_kind_lem ename j b, t.num i a.below, t.num j b.below)
  same_name_lem {i} {j} (e_name a) (a_name b) = rw (name_kind_lem ename i a, name_kind_lem aname j b)
  same_name_lem {i} {j} (a_name a) (e_name b) = rw (name_kind_lem aname i a, name_kind_lem ename j b)
  same_name_lem {i} {j} (a_name a) (a_name b) = rw (name_kind_lem aname i a, name_kind_lem aname j b, t.num i a.below, t.num j b.below)

place_step : (b : Bool) (j m : ℕ) → cond b j (j + 1 + m) ≡ j + cond b 0 (suc m)
place_step true j m = omega arith
place_step false j m = omega arith

pub place_found : {tok : ℕ → Token} {n : ℕ} {marks nums ends : List ℕ} (t : TokensIn tok n marks nums ends) (names : List ℕ) {i j : ℕ} {x : Param} {xs : List Param} →
    IsName tok n i x → NamesAre tok n names j xs → place_from marks nums names (length xs) j i ≡ j + place_in x xs
unfolding place_from
place_found t names {i} {j} is no_names = omega arith
place_found t names {i} {j} {x} is (more_names {x = y} {xs = ys} h hs) = rw (same_name_lem t names 0 h is, place_found t names is hs) (place_step (same_param y x) j (place_in x ys))
