-- Linking as it goes over stored tokens: what the functions of the code come to.
-- proofs/ProgramLaws.antt: where a program stands in the tokens, it stands linked in the code (specs/Twins/Linked.antt).
use Rattle.std.specs.Prelude.{ℕ, zero, suc, ◌+◌, ◌-◌, ◌*◌, ◌/◌, ◌%◌, min, Bool, false, cond, List, eqb, ltb, length, get_or, set, replicate}
use Rattle.linking.specs.declared.code.Link.{Link}
use Rattle.linking.specs.Twins.Code.{link, with_link}

-- k tokens on
abbrev pub on : ℕ → ℕ → ℕ
on i k = min i 4097 + min k 4097

abbrev pub key_of : List ℕ → ℕ → ℕ
key_of marks i = get_or marks i 0 % 32

abbrev pub kind_of : List ℕ → ℕ → ℕ
kind_of marks i = get_or marks i 0 / 32 % 8

-- what stands in the two storages
pub record Linked : Type 0 where
  pub names : List ℕ
  pub code : List ℕ

abbrev pub linked : List ℕ → List ℕ → Linked
linked names code = record { names = names; code = code }

-- how many names are in reach, and those
pub record NamesLeft : Type 0 where
  pub used : ℕ
  pub names : List ℕ

abbrev pub names_left : ℕ → List ℕ → NamesLeft
names_left used names = record { used = used; names = names }

-- the name at i behind those in reach: "may no longer be one already in reach" (02, request 1)
unfoldable pub pushed_name : ℕ → ℕ → List ℕ → NamesLeft
pushed_name used i names = cond (ltb used 144) (names_left (used + 1) (set names used i)) (names_left used names)

-- "The true branch of `cons?` has its two xe, the false branch its xa": they stand from h on
unfoldable pub true_names : ℕ → ℕ → ℕ → List ℕ → NamesLeft
true_names used mark h names = cond (eqb mark 4) (names_left used names) (let w = pushed_name used h names in pushed_name w.used (on h 1) w.names)

unfoldable pub false_names : ℕ → ℕ → ℕ → List ℕ → NamesLeft
false_names used mark h names = cond (eqb mark 4) (names_left used names) (pushed_name used (on h 2) names)

-- parameters, `left` of them from i on
unfoldable pub parameters_named : ℕ → ℕ → ℕ → List ℕ → NamesLeft
parameters_named zero i used names = names_left used names
parameters_named (suc left) i used names = let w = pushed_name used i names in parameters_named left (i + 1) w.used w.names

-- the index of the token that names the definition with the name x, of `left` from number j on
unfoldable pub head_from : List ℕ → List ℕ → ℕ → ℕ → ℕ → ℕ
head_from nums heads zero j x = 0
head_from nums heads (suc left) j x = cond (eqb (get_or nums (get_or heads j 0) 0) x) (get_or heads j 0) (head_from nums heads left (j + 1) x)

abbrev pub head_of : List ℕ → List ℕ → ℕ → ℕ → ℕ
head_of nums heads count x = head_from nums heads (min count 64) 0 x

-- the first `]`, at most `left` tokens on
unfoldable pub closing_from : List ℕ → ℕ → ℕ → ℕ
closing_from marks zero q = q
closing_from marks (suc left) q = cond (eqb (key_of marks q) 4) q (closing_from marks left (q + 1))

abbrev pub closing_at : List ℕ → ℕ → ℕ
closing_at marks p = closing_from marks (length marks - p) p

-- the word behind the bracket at i; 0 where no bracket stands
unfoldable pub form_of : List ℕ → ℕ → ℕ
form_of marks i = cond (eqb (key_of marks i) 1) (key_of marks (on i 1)) 0

-- a call: how many parameters its definition has, and where its body starts
unfoldable pub call_link : List ℕ → List ℕ → List ℕ → List ℕ → ℕ → ℕ → Link
call_link marks nums ends heads count i =
    let p = on (head_of nums heads count (get_or nums (on i 2) 0)) 2 in
    let close = closing_at marks p in
    link 3 ((close - min p close) % 65536) (on close 1 % 65536) (get_or ends i 0)

-- an `if`: where its branches start
unfoldable pub if_link : List ℕ → List ℕ → ℕ → Link
if_link marks ends i =
    let yes = get_or ends (on i 2) 0 in
    cond (eqb (key_of marks (on i 3)) 9) (link 4 yes (get_or ends yes 0) (get_or ends i 0)) (link 5 yes (get_or ends yes 0) (get_or ends i 0))

module _ (marks nums : List ℕ) where
  -- "`e.x` and `a.x` are two variables"
  unfoldable pub same_name : ℕ → ℕ → Bool
  same_name i j = cond (eqb (kind_of marks i) (kind_of marks j)) (eqb (get_or nums i 0) (get_or nums j 0)) false

  -- the first place, of `left` from j on, of the name at i
  unfoldable pub place_from : List ℕ → ℕ → ℕ → ℕ → ℕ
  place_from names zero j i = j
  place_from names (suc left) j i = cond (same_name (get_or names j 0) i) j (place_from names left (j + 1) i)

  abbrev pub place_of : List ℕ → ℕ → ℕ → ℕ
  place_of names used i = place_from names (min used 144) 0 i

  module _ (ends : List ℕ) where
    -- a token of an expression
    unfoldable pub token_link : List ℕ → ℕ → ℕ → Link
    token_link names used i =
        let e = get_or ends i 0 in
        cond (eqb (key_of marks i) 8) (link 1 4 0 e)
        (cond (eqb (kind_of marks i) 0) (link 1 (4 * (get_or nums i 0 % 16384) + 1) 0 e)
        (cond (eqb (kind_of marks i) 1) (link 2 (place_of names used i % 65536) 0 e)
        (cond (eqb (kind_of marks i) 2) (link 2 (place_of names used i % 65536) 0 e)
        (link 0 0 0 e))))

    -- `left` tokens from i on
    unfoldable pub range_linked : List ℕ → ℕ → ℕ → ℕ → List ℕ → List ℕ
    range_linked names used zero i code = code
    range_linked names used (suc left) i code = range_linked names used left (i + 1) (with_link i (token_link names used i) code)

    -- "`(if k t t)`": the condition, then each branch with its names
    abbrev pub conditional : (ℕ → ℕ → Linked → Linked) → ℕ → ℕ → Linked → Linked
    conditional again used i s =
        let l = if_link marks ends i in
        let h = get_or ends (on i 4) 0 in
        let c = range_linked s.names used (l.first - on i 4) (on i 4) (with_link i l s.code) in
        let a = true_names used l.mark h s.names in
        let t = again a.used l.first (linked a.names c) in
        let b = false_names used l.mark h t.names in
        again b.used l.second (linked b.names t.code)

    abbrev pub range : ℕ → ℕ → Linked → Linked
    range used i s = linked s.names (range_linked s.names used (get_or ends i 0 - i) i s.code)

    -- the definitions by their heads, `count` of them
    module _ (heads : List ℕ) (count : ℕ) where
      abbrev pub called : ℕ → ℕ → Linked → Linked
      called used i s = linked s.names (with_link i (call_link marks nums ends heads count i) (range used i s).code)

      -- "t: `(call F [e ..])`, `(if k t t)` or e"
      unfoldable pub term_linked : ℕ → ℕ → ℕ → Linked → Linked
      term_linked zero used i s = range used i s
      term_linked (suc room) used i s =
          cond (eqb (form_of marks i) 7) (conditional (λ u k r. term_linked room u k r) used i s) (cond (eqb (form_of marks i) 6) (called used i s) (range used i s))

      abbrev pub if_linked : ℕ → ℕ → ℕ → Linked → Linked
      if_linked room used i s = conditional (λ u k r. term_linked room u k r) used i s

      -- the definition whose name stands at h
      unfoldable pub definition_linked : ℕ → Linked → Linked
      definition_linked h s =
          let close = closing_at marks (on h 2) in
          let w = parameters_named (close - on h 2) (on h 2) 0 s.names in
          term_linked 63 w.used (on close 1) (linked w.names s.code)

      unfoldable pub definitions_linked : ℕ → ℕ → Linked → Linked
      definitions_linked zero j s = s
      definitions_linked (suc left) j s = definitions_linked left (j + 1) (definition_linked (get_or heads j 0) s)

      abbrev pub program_linked : List ℕ → List ℕ
      program_linked code = (definitions_linked (min count 64) 0 (linked (replicate 144 0) code)).code

-- past the last of so many definitions, whose name stands two tokens behind its bracket
abbrev pub program_end : List ℕ → List ℕ → ℕ → ℕ
program_end ends heads count = get_or ends (get_or heads (count - 1) 0 - 2) 0
