-- Every reader of the grammar leaves the tokens behind what it read; each e, d and t takes one at least.
use Prim.Native.Nat.{ℕ, zero, suc}
use Prim.Native.String.{String}
use mathlib.Core.Path.{◌≡◌, refl}
use mathlib.Core.List.{[]}
use native.Mathlib.Omega.{arith}
use Rattle.language.specs.Words.{Fit}
use Rattle.language.specs.Tokens.{Kind, symbol, ename, aname, evariable, avariable, plain, Token}
use Rattle.language.specs.Reader.{Reader, ◌>>=◌, refuse, give, take}
use Rattle.syntax.proofs.Advances.{Advances, fewer, give_advances, take_advances, wrong_advances, bind_advances, then_advances, choose_advances, up_to_advances}
use Rattle.language.specs.Source.{Stand, SExp, sym_s, evar_s, avar_s, STerm}
use Rattle.language.specs.Grammar.{word, or_word, leaf, leaf_d, cons_at, tree, expr, datum, args, condition, form, term, parameter, parameters, definition, definitions, sides, part}

pub takes : (f : Token → Fit) → Advances 0 (take f)
takes f = fewer 0 1 (take f) (omega arith) (take_advances f)

pub word_advances : (k : Kind) → Advances 1 (word k)
word_advances k = bind_advances 1 0 _ _ (take_advances _) (λ t. give_advances _)

pub or_word_advances : (k : Kind) (f : Stand → SExp) (m : Reader SExp) → Advances 1 m → Advances 1 (or_word k f m)
or_word_advances k f m h = choose_advances 1 _ (word k >>= λ x. give (f x)) m (bind_advances 1 0 (word k) _ (word_advances k) (λ x. give_advances (f x))) h

pub leaf_advances : Advances 1 leaf
leaf_advances = or_word_advances symbol sym_s _ (or_word_advances ename evar_s _ (or_word_advances aname avar_s _ (wrong_advances 1)))

pub leaf_d_advances : Advances 1 leaf_d
leaf_d_advances = or_word_advances symbol sym_s _ (or_word_advances evariable evar_s _ (or_word_advances avariable avar_s _ (wrong_advances 1)))

pub cons_advances : (o : ℕ) (item : Reader SExp) → Advances 1 item → Advances 0 (cons_at o item)
cons_advances o item h =
    let i = fewer 0 1 item (omega arith) h in
    then_advances 0 0 _ _ (takes _) (bind_advances 0 0 item _ i (λ c. bind_advances 0 0 item _ i (λ d. then_advances 0 0 _ _ (takes _) (give_advances _))))

pub tree_advances : (m : Reader SExp) → Advances 1 m → (room : ℕ) → Advances 1 (tree m room)
unfolding tree
tree_advances m h zero = choose_advances 1 _ _ m (then_advances 1 0 _ _ (take_advances _) (wrong_advances 0)) h
tree_advances m h (suc room) = choose_advances 1 _ _ m
    (bind_advances 1 0 _ _ (take_advances _) (λ o. cons_advances o.at (λ ts. tree m room ts) (tree_advances m h room))) h

pub expr_advances : (room : ℕ) → Advances 1 (expr room)
unfolding expr
expr_advances room = tree_advances leaf leaf_advances room

pub datum_advances : (room : ℕ) → Advances 1 (datum room)
unfolding datum
datum_advances room = tree_advances leaf_d leaf_d_advances room

-- at no tokens, which never stands: the end is one
pub expr_needs : (room : ℕ) → expr room [] ≡ refuse 3 0
unfolding expr tree
expr_needs zero = refl
expr_needs (suc room) = refl

pub datum_needs : (room : ℕ) → datum room [] ≡ refuse 3 0
unfolding datum tree
datum_needs zero = refl
datum_needs (suc room) = refl

pub args_advances : (room : ℕ) → Advances 0 (args room)
args_advances zero = then_advances 0 0 _ _ (takes _) (wrong_advances 0)
args_advances (suc room) = then_advances 0 0 _ _ (takes _)
    (bind_advances 0 0 _ _ (up_to_advances "]" (λ ts. expr room ts) (fewer 0 1 _ (omega arith) (expr_advances room)))
    (λ cs. then_advances 0 0 _ _ (takes _) (give_advances cs)))

pub condition_advances : (room : ℕ) → Advances 0 (condition room)
condition_advances zero = then_advances 0 0 _ _ (takes _) (wrong_advances 0)
condition_advances (suc room) = then_advances 0 0 _ _ (takes _) (bind_advances 0 0 _ _
    (choose_advances 0 _ _ _
    (then_advances 0 0 _ _ (takes _) (bind_advances 0 0 _ _ e (λ c. bind_advances 0 0 _ _ e (λ d. give_advances _))))
    (then_advances 0 0 _ _ (takes _) (bind_advances 0 0 _ _ e (λ c. bind_advances 0 0 _ _ (x ename) (λ h. bind_advances 0 0 _ _ (x ename) (λ t. bind_advances 0 0 _ _ (x aname) (λ a. give_advances _)))))))
    (λ k. then_advances 0 0 _ _ (takes _) (give_advances k)))
  where
    e : Advances 0 (expr room)
    e = fewer 0 1 (expr room) (omega arith) (expr_advances room)

    x : (k : Kind) → Advances 0 (word k)
    x k = fewer 0 1 (word k) (omega arith) (word_advances k)

pub form_advances : (room : ℕ) (again : Reader STerm) → Advances 0 again → (o : Token) → Advances 0 (form room again o)
form_advances room again h o =
    choose_advances 0 _ _ _
    (then_advances 0 0 _ _ (takes _) (bind_advances 0 0 _ _ (fewer 0 1 (word plain) (omega arith) (word_advances plain))
    (λ f. bind_advances 0 0 _ _ (args_advances room) (λ cs. then_advances 0 0 _ _ (takes _) (give_advances _)))))
    (choose_advances 0 _ _ _
    (then_advances 0 0 _ _ (takes _) (bind_advances 0 0 _ _ (condition_advances room)
    (λ k. bind_advances 0 0 again _ h (λ s. bind_advances 0 0 again _ h (λ t. then_advances 0 0 _ _ (takes _) (give_advances _))))))
    (bind_advances 0 0 _ _ (cons_advances o.at (λ ts. expr room ts) (expr_advances room)) (λ c. give_advances _)))

pub term_advances : (room : ℕ) → Advances 1 (term room)
unfolding term
term_advances zero = bind_advances 1 0 _ _ (expr_advances zero) (λ c. give_advances _)
term_advances (suc room) = choose_advances 1 _ _ _
    (bind_advances 1 0 _ _ (take_advances _) (form_advances room (λ ts. term room ts) (fewer 0 1 _ (omega arith) (term_advances room))))
    (bind_advances 1 0 _ _ leaf_advances (λ c. give_advances _))

pub parameter_advances : (room : ℕ) → Advances 1 (parameter room)
parameter_advances room = choose_advances 1 _ _ _ (bind_advances 1 0 _ _ (take_advances _) (λ t. give_advances _)) (bind_advances 1 0 _ _ (take_advances _) (λ t. give_advances _))

pub parameters_advances : (room : ℕ) → Advances 0 (parameters room)
unfolding parameters
parameters_advances zero = choose_advances 0 _ _ _ (give_advances []) (then_advances 0 0 _ _ (fewer 0 1 _ (omega arith) (parameter_advances 0)) (wrong_advances 0))
parameters_advances (suc room) = choose_advances 0 _ _ _ (give_advances [])
    (bind_advances 0 0 _ _ (fewer 0 1 _ (omega arith) (parameter_advances 1)) (λ x. bind_advances 0 0 _ _ (parameters_advances room) (λ xs. give_advances _)))

pub definition_advances : (room : ℕ) → Advances 1 (definition room)
unfolding definition
definition_advances room = then_advances 1 0 _ _ (take_advances _) (then_advances 0 0 _ _ (takes _) (bind_advances 0 0 _ _ (fewer 0 1 _ (omega arith) (word_advances plain)) (λ f.
    then_advances 0 0 _ _ (takes _) (bind_advances 0 0 _ _ (parameters_advances 16) (λ xs.
    then_advances 0 0 _ _ (takes _) (bind_advances 0 0 _ _ (fewer 0 1 _ (omega arith) (term_advances 63)) (λ t.
    then_advances 0 0 _ _ (takes _) (give_advances _))))))))

pub definitions_advances : (room : ℕ) → Advances 0 (definitions room)
unfolding definitions
definitions_advances zero = choose_advances 0 _ _ _ (give_advances []) (then_advances 0 0 _ _ (fewer 0 1 _ (omega arith) (definition_advances 0)) (wrong_advances 0))
definitions_advances (suc room) = choose_advances 0 _ _ _ (give_advances [])
    (bind_advances 0 0 _ _ (fewer 0 1 _ (omega arith) (definition_advances 1)) (λ d. bind_advances 0 0 _ _ (definitions_advances room) (λ ds. give_advances _)))

pub sides_advances : Advances 1 sides
sides_advances =
    let d = fewer 0 1 (datum 61) (omega arith) (datum_advances 61) in
    then_advances 1 0 _ _ (take_advances _) (bind_advances 0 0 _ _ d (λ a. bind_advances 0 0 _ _ d (λ b. then_advances 0 0 _ _ (takes _) (give_advances _))))

pub part_advances : {A : Type 0} (w : String) (m : Reader A) → Advances 0 m → Advances 0 (part w m)
part_advances w m h = then_advances 0 0 _ _ (takes _) (bind_advances 0 0 _ _ (takes _) (λ t. bind_advances 0 0 m _ h (λ a. then_advances 0 0 _ _ (takes _) (give_advances _))))
