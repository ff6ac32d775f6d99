-- What the tools print, from the bytes of the two texts to the bytes of the answer.
use Rattle.std.specs.Prelude.{ℕ, List, [], ◌∷◌, ◌++◌}
use Rattle.language.specs.Bytes.{txt}
use Rattle.language.specs.Words.{Word}
use Rattle.language.specs.Tokens.{Text, of_program, of_job, symbols_of}
use Rattle.language.specs.Reading.{symbol_names}
use Rattle.semantics.specs.Runner.{Ran, value, ran_over, not_within}
use Rattle.semantics.specs.Answer.{Answer, answered, refused, list, run}
use Rattle.listing.specs.Print.{digits, print_value, print_listing}
use Rattle.listing.specs.Sample.{print_sampled_listing}

-- "p program, j job"
abbrev pub letter_of : Text → ℕ
letter_of of_program = 112
letter_of of_job = 106

-- "Refusal: `refused p 3 17` (p program, j job, number, offset)"
abbrev pub print_refusal : ℕ → ℕ → ℕ → List ℕ
print_refusal letter number at = txt "refused " ++ (letter ∷ 32 ∷ digits number) ++ (32 ∷ digits at) ++ (10 ∷ [])

-- "one that falls on neither text prints `-` for the letter and offset 0"
abbrev pub print_refusal_of_neither : ℕ → List ℕ
print_refusal_of_neither number = print_refusal 45 number 0

abbrev pub print_answer : {A : Type 0} → (A → List ℕ) → Answer A → List ℕ
print_answer f (answered a) = f a
print_answer f (refused t r) = print_refusal (letter_of t) r.number r.at

-- the runner's line: `value STEPS EXPR`, `stop21` or `notwithin`
abbrev pub print_ran : List Word → Ran → List ℕ
print_ran ns (value s v) = txt "value " ++ digits s ++ (32 ∷ print_value ns v) ++ (10 ∷ [])
print_ran ns ran_over = txt "stop21\n"
print_ran ns not_within = txt "notwithin\n"

unfoldable pub list_text : List ℕ → List ℕ → List ℕ
unfolding list symbols_of print_listing
list_text p j = print_answer (λ a. print_listing (symbol_names p j) a.job.con a.walked) (list p j)

-- the same listing with a sample under each line (02, request 2)
unfoldable pub sampled_text : List ℕ → List ℕ → List ℕ
unfolding list symbols_of print_sampled_listing
sampled_text p j = print_answer (λ a. print_sampled_listing (symbol_names p j) a.job.con a.walked) (list p j)

unfoldable pub run_text : List ℕ → List ℕ → List ℕ
unfolding run symbols_of
run_text p j = print_answer (print_ran (symbol_names p j)) (run p j)
