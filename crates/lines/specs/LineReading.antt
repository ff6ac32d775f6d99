-- The lines read back from the answer storage.
use Rattle.std.specs.Prelude.{ℕ, zero, suc, ◌+◌, ◌*◌, ◌/◌, ◌%◌, Bool, true, false, cond, List, [], ◌∷◌, eqb, length, get_or, take, drop}
use Rattle.expressions.specs.Expression.{AtomicExp, sym, avar, Exp, atm, evar, pair}
use Rattle.expressions.specs.Restriction.{Restriction}
use Rattle.expressions.specs.Class.{IOClass}
use Rattle.semantics.specs.Tree.{Line}

-- the node of a code that is no pair's
abbrev pub atomic_at : ℕ → AtomicExp
atomic_at x = cond (eqb (x % 4) 3) (avar (x / 4)) (sym (x / 4))

abbrev pub leaf_at : ℕ → Exp
leaf_at x = cond (eqb (x % 4) 2) (evar (x / 4)) (atm (atomic_at x))

-- a tree, and the cells behind it
pub record TreeRead : Type 0 where
  pub tree : Exp
  pub rest : List ℕ

abbrev pub tree_read : Exp → List ℕ → TreeRead
tree_read c s = record { tree = c; rest = s }

abbrev pub node_read : (List ℕ → TreeRead) → ℕ → List ℕ → Bool → TreeRead
node_read again x s true = let a = again s in let b = again a.rest in tree_read (pair a.tree b.tree) b.rest
node_read again x s false = tree_read (leaf_at x) s

-- at most the given number of nodes deep
abbrev pub read_tree : ℕ → List ℕ → TreeRead
read_tree zero s = tree_read (atm (sym 0)) s
read_tree (suc n) [] = tree_read (atm (sym 0)) []
read_tree (suc n) (x ∷ s) = node_read (read_tree n) x s (eqb x 4)

-- at most the given number of trees
abbrev pub read_trees : ℕ → List ℕ → List Exp
read_trees zero s = []
read_trees (suc n) [] = []
read_trees (suc n) (x ∷ s) = let a = read_tree (suc (length s)) (x ∷ s) in a.tree ∷ read_trees n a.rest

abbrev pub read_neqs : List ℕ → Restriction
read_neqs [] = []
read_neqs (x ∷ []) = []
read_neqs (x ∷ (y ∷ s)) = record { left = atomic_at x; right = atomic_at y } ∷ read_neqs s

-- a line's class from its cells: i of the inputs, o of the output, q non-equalities
abbrev pub read_class : ℕ → ℕ → ℕ → List ℕ → IOClass
read_class i o q s = record {
  con = record { ins = read_trees i (take i s); out = (read_tree o (take o (drop i s))).tree };
  neqs = read_neqs (take (2 * q) (drop (i + o) s));
}

abbrev pub read_line : List ℕ → Line
read_line s = record { steps = get_or s 0 0; class = read_class (get_or s 1 0) (get_or s 2 0) (get_or s 3 0) (drop 4 s) }

abbrev pub past_line : List ℕ → ℕ
past_line s = 4 + (get_or s 1 0 + get_or s 2 0 + 2 * get_or s 3 0)

-- the given number of lines, one behind the other
abbrev pub read_lines : ℕ → List ℕ → List Line
read_lines zero s = []
read_lines (suc n) s = read_line s ∷ read_lines n (drop (past_line s) s)
