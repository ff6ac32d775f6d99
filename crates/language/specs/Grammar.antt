-- The grammar of programs and jobs, over tokens. `room` is how many more brackets may stand open: "64 brackets open together".
use Rattle.std.specs.Prelude.{ℕ, zero, suc, Bool, List, [], ◌∷◌}
use Prim.Native.String.{String}
use Rattle.language.specs.Program.{pe, pa}
use Rattle.language.specs.Tokens.{Kind, symbol, ename, aname, evariable, avariable, plain, Token}
use Rattle.language.specs.Reader.{Reader, ◌>>=◌, ◌>>◌, give, is, is_a, the, the_in, one_of, wrong, choose, up_to}
use Rattle.language.specs.Source.{Stand, SExp, sym_s, evar_s, avar_s, pair_s, SCondition, eqa_s, consp_s, STerm, call_s, conditional_s, result_s, SParam, SDef, SProg, SJob}

abbrev pub standing : Token → Stand
standing t = record { at = t.at; num = t.num }

-- a word of kind k and its number: NAME, Z or K behind a prefix, or a whole word, an F in a program and a numeral in a job
abbrev pub word : Kind → Reader Stand
word k = do
  t ← one_of 1 k
  give (standing t)

-- a word of kind k, or else what m reads
abbrev pub or_word : Kind → (Stand → SExp) → Reader SExp → Reader SExp
or_word k f m = choose (is_a k) (word k >>= λ x. give (f x)) m

-- an e of one token: `'Z`, `e.NAME` or `a.NAME`
abbrev pub leaf : Reader SExp
leaf = or_word symbol sym_s (or_word ename evar_s (or_word aname avar_s wrong))

-- a d of one token: `'Z`, `?eK` or `?aK`
abbrev pub leaf_d : Reader SExp
leaf_d = or_word symbol sym_s (or_word evariable evar_s (or_word avariable avar_s wrong))

-- "`(cons e e)`" behind its bracket, which stands at o
abbrev pub cons_at : ℕ → Reader SExp → Reader SExp
cons_at o item = do
  the "cons"
  c ← item
  d ← item
  the ")"
  give (pair_s o c d)

-- "e: `(cons e e)`, xe or ea", "d: `(cons d d)`, `'Z`, `?eK` or `?aK`"
unfoldable pub tree : Reader SExp → ℕ → Reader SExp
tree one zero = choose (is "(") (the_in 0 "(" >> wrong) one
tree one (suc room) = choose (is "(") (the "(" >>= λ o. cons_at o.at (λ ts. tree one room ts)) one

-- "Where an ea is due the reader takes any e"
unfoldable pub expr : ℕ → Reader SExp
unfolding tree
expr room = tree leaf room

unfoldable pub datum : ℕ → Reader SExp
unfolding tree
datum room = tree leaf_d room

-- "`[e ..]`"
abbrev pub args : ℕ → Reader (List SExp)
args zero = the_in 0 "[" >> wrong
args (suc room) = do
  the "["
  cs ← up_to "]" (λ ts. expr room ts)
  the "]"
  give cs

-- "k: `(eqa? ea ea)` or `(cons? e xe xe xa)`"
abbrev pub condition : ℕ → Reader SCondition
condition zero = the_in 0 "(" >> wrong
condition (suc room) = do
  the "("
  k ← choose (is "eqa?") (do the "eqa?"; c ← expr room; d ← expr room; give (eqa_s c d))
      (the "cons?" >> (do c ← expr room; h ← word ename; t ← word ename; x ← word aname; give (consp_s c h t x)))
  the ")"
  give k

-- "t: `(call F [e ..])`, `(if k t t)` or e", behind the bracket at o
abbrev pub form : ℕ → (Reader STerm) → Token → Reader STerm
form room again o =
    choose (is "call") (do the "call"; f ← word plain; cs ← args room; the ")"; give (call_s f cs))
    (choose (is "if") (do the "if"; k ← condition room; s ← again; t ← again; the ")"; give (conditional_s k s t))
    (cons_at o.at (λ ts. expr room ts) >>= λ c. give (result_s c)))

unfoldable pub term : ℕ → Reader STerm
unfolding expr
term zero = expr zero >>= λ c. give (result_s c)
term (suc room) = choose (is "(") (the "(" >>= form room (λ ts. term room ts)) (leaf >>= λ c. give (result_s c))

-- "x": a parameter; "at most 16 parameters"
abbrev pub parameter : ℕ → Reader SParam
parameter room =
    choose (is_a ename) (one_of room ename >>= λ t. give (record { at = t.at; param = pe t.num }))
    (one_of room aname >>= λ t. give (record { at = t.at; param = pa t.num }))

unfoldable pub parameters : ℕ → Reader (List SParam)
parameters zero = choose (is "]") (give []) (parameter 0 >> wrong)
parameters (suc room) = choose (is "]") (give []) (do x ← parameter 1; xs ← (λ ts. parameters room ts); give (x ∷ xs))

-- "`(define F [x ..] t)`"; "5 ... a definition at its opening bracket"
unfoldable pub definition : ℕ → Reader SDef
unfolding term parameters
definition room = do
  the_in room "("
  the "define"
  f ← word plain
  the "["
  xs ← parameters 16
  the "]"
  t ← term 63
  the ")"
  give (record { name = f; params = xs; body = t })

-- the end of the text is the token of no bytes
abbrev pub is_end : Token → Bool
is_end t = is "" t

-- definitions up to the end
unfoldable pub definitions : ℕ → Reader (List SDef)
unfolding definition
definitions zero = choose is_end (give []) (definition 0 >> wrong)
definitions (suc room) = choose is_end (give []) (do d ← definition 1; ds ← (λ ts. definitions room ts); give (d ∷ ds))

-- "program: one or more of `(define F [x ..] t)`"; "a program 64 definitions"
unfoldable pub program : Reader SProg
unfolding definition definitions
program = do
  d ← definition 1
  ds ← definitions 63
  give (record { main = d; others = ds })

-- "`[d d]`"
abbrev pub sides : Reader (SExp × SExp)
sides = do
  the "["
  c ← datum 61
  d ← datum 61
  the "]"
  give (c, d)

-- a part of a job, `(w ..)`: the offset of w, and what stands behind it
abbrev pub part : {A : Type 0} → String → Reader A → Reader (ℕ × A)
part w m = do
  the "("
  t ← the w
  a ← m
  the ")"
  give (t.at, a)

-- "job: `(job (in d ..) (out d) (neq [d d] ..) (steps N) (walk W) (table T))`"
unfoldable pub job_text : Reader SJob
unfolding datum
job_text = do
  the "("
  the "job"
  i ← part "in" (up_to ")" (λ ts. datum 62 ts))
  o ← part "out" (datum 62)
  q ← part "neq" (up_to ")" sides)
  n ← part "steps" (word plain)
  w ← part "walk" (word plain)
  t ← part "table" (word plain)
  the ")"
  choose is_end (give (record { in_at = i.0; ins = i.1; out = o.1; neqs = q.1; steps = n.1; walk = w.1; table = t.1 })) wrong
