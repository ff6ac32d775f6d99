-- One turn of each loop, and the parts of a conditional one by one.
use Prim.Native.Nat.{ℕ, zero, suc, ◌+◌, ◌-◌, ◌≤◌, ◌<◌, max}
use mathlib.Core.Path.{◌≡◌, refl, ◌∙◌}
use mathlib.Core.Bool.{cond}
use mathlib.Core.List.{List}
use native.Mathlib.Omega.{arith}
use lib.Dec.{eqb}
use lib.ListN.{get_or}
use Rattle.linking.specs.declared.code.Link.{Link}
use Rattle.linking.specs.Twins.Code.{with_link}
use Rattle.linking.specs.Twins.Linking.{on, if_link, true_names, false_names, linked, key_of, same_name, place_from, head_from, closing_from, token_link, range_linked, NamesLeft, names_left, pushed_name, parameters_named, Linked, range, called, conditional, form_of, term_linked, if_linked, definition_linked, definitions_linked}

-- from j up to the end
pub none_left : (c j : ℕ) → c ≤ j → c - j ≡ 0
none_left c j l = omega arith

pub some_left : (c j : ℕ) → j < c → c - j ≡ suc (c - (j + 1))
some_left c j l = omega arith

pub all_left : (c : ℕ) → c - 0 ≡ c
all_left c = omega arith

pub place_past : {n j : ℕ} → n ≤ j → (marks nums names : List ℕ) (i : ℕ) → place_from marks nums names (n - j) j i ≡ j
unfolding place_from
place_past {n} {j} l marks nums names i = rw (none_left n j l)

pub place_end : {n j : ℕ} → n ≤ j → j ≤ n → (marks nums names : List ℕ) (i : ℕ) → place_from marks nums names (n - j) j i ≡ n
place_end {n} {j} l h marks nums names i = let e : j ≡ n = omega arith in place_past l marks nums names i ∙ e

pub place_turn : {n j : ℕ} → j < n → (marks nums names : List ℕ) (i : ℕ) →
    place_from marks nums names (n - j) j i ≡ cond (same_name marks nums (get_or names j 0) i) j (place_from marks nums names (n - (j + 1)) (j + 1) i)
unfolding place_from
place_turn {n} {j} l marks nums names i = rw (some_left n j l)

pub head_end : {n j : ℕ} → n ≤ j → (nums heads : List ℕ) (x : ℕ) → head_from nums heads (n - j) j x ≡ 0
unfolding head_from
head_end {n} {j} l nums heads x = rw (none_left n j l)

pub head_turn : {n j : ℕ} → j < n → (nums heads : List ℕ) (x : ℕ) →
    head_from nums heads (n - j) j x ≡ cond (eqb (get_or nums (get_or heads j 0) 0) x) (get_or heads j 0) (head_from nums heads (n - (j + 1)) (j + 1) x)
unfolding head_from
head_turn {n} {j} l nums heads x = rw (some_left n j l)

pub closing_end : {n p q : ℕ} → n ≤ q → p ≤ q → q ≤ max p n → (marks : List ℕ) → closing_from marks (n - q) q ≡ max p n
unfolding closing_from
closing_end {n} {p} {q} l f h marks = let e : q ≡ max p n = omega arith in rw (none_left n q l, e)

pub closing_turn : {n q : ℕ} → q < n → (marks : List ℕ) → closing_from marks (n - q) q ≡ cond (eqb (key_of marks q) 4) q (closing_from marks (n - (q + 1)) (q + 1))
unfolding closing_from
closing_turn {n} {q} l marks = rw (some_left n q l)

pub range_end : {to i : ℕ} → to ≤ i → (marks nums ends names : List ℕ) (used : ℕ) (code : List ℕ) → range_linked marks nums ends names used (to - i) i code ≡ code
unfolding range_linked
range_end {to} {i} l marks nums ends names used code = rw (none_left to i l)

pub range_turn : {to i : ℕ} → i < to → (marks nums ends names : List ℕ) (used : ℕ) (code : List ℕ) →
    range_linked marks nums ends names used (to - i) i code ≡ range_linked marks nums ends names used (to - (i + 1)) (i + 1) (with_link i (token_link marks nums ends names used i) code)
unfolding range_linked
range_turn {to} {i} l marks nums ends names used code = rw (some_left to i l)

pub parameters_end : {to i : ℕ} → to ≤ i → (used : ℕ) (names : List ℕ) → parameters_named (to - i) i used names ≡ names_left used names
unfolding parameters_named
parameters_end {to} {i} l used names = rw (none_left to i l)

pub parameters_turn : {to i : ℕ} → i < to → (used : ℕ) (names : List ℕ) → let w = pushed_name used i names in
    parameters_named (to - i) i used names ≡ parameters_named (to - (i + 1)) (i + 1) w.used w.names
unfolding parameters_named
parameters_turn {to} {i} l used names = rw (some_left to i l)

pub definitions_end : {n j : ℕ} → n ≤ j → (marks nums ends heads : List ℕ) (count : ℕ) (s : Linked) → definitions_linked marks nums ends heads count (n - j) j s ≡ s
unfolding definitions_linked
definitions_end {n} {j} l marks nums ends heads count s = rw (none_left n j l)

pub definitions_turn : {n j : ℕ} → j < n → (marks nums ends heads : List ℕ) (count : ℕ) (s : Linked) →
    definitions_linked marks nums ends heads count (n - j) j s ≡ definitions_linked marks nums ends heads count (n - (j + 1)) (j + 1) (definition_linked marks nums ends heads count (get_or heads j 0) s)
unfolding definitions_linked
definitions_turn {n} {j} l marks nums ends heads count s = rw (some_left n j l)

pub term_none : {room : ℕ} → room ≡ 0 → (marks nums ends heads : List ℕ) (count used i : ℕ) (s : Linked) →
    term_linked marks nums ends heads count room used i s ≡ range marks nums ends used i s
unfolding term_linked
term_none e marks nums ends heads count used i s = rw e

pub term_more : {room : ℕ} → (room ≡ 0 → ⊥) → (marks nums ends heads : List ℕ) (count used i : ℕ) (s : Linked) →
    term_linked marks nums ends heads count room used i s ≡
    cond (eqb (form_of marks i) 7) (conditional marks nums ends (λ u k r. term_linked marks nums ends heads count (room - 1) u k r) used i s)
    (cond (eqb (form_of marks i) 6) (called marks nums ends heads count used i s) (range marks nums ends used i s))
unfolding term_linked
term_more {room = zero} f marks nums ends heads count used i s = absurd (f refl)
term_more {room = suc room} f marks nums ends heads count used i s = let e : suc room - 1 ≡ room = omega arith in rw e

-- a conditional, part by part
pub if_by : (marks nums ends heads : List ℕ) (count room used i : ℕ) (names code : List ℕ) {tested h yes no : ℕ} {l : Link} {c1 c2 : List ℕ} {a b : NamesLeft} {t r : Linked} →
    l ≡ if_link marks ends i → yes ≡ l.first → no ≡ l.second → tested ≡ on i 4 → h ≡ get_or ends tested 0 → c1 ≡ with_link i l code →
    c2 ≡ range_linked marks nums ends names used (yes - tested) tested c1 → a ≡ true_names used l.mark h names →
    t ≡ term_linked marks nums ends heads count room a.used yes (linked a.names c2) → b ≡ false_names used l.mark h t.names →
    r ≡ term_linked marks nums ends heads count room b.used no (linked b.names t.code) → r ≡ if_linked marks nums ends heads count room used i (linked names code)
if_by marks nums ends heads count room used i names code pl py pn pi ph p1 p2 pa pt pb pr = rw (← pl, ← p1, ← py, ← pn, ← pi, ← ph, ← p2, ← pa, ← pt, ← pb) pr
