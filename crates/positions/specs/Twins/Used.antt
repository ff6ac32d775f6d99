-- What is used of the heap, by value: what each function of used.rt answers.
use Rattle.std.specs.Prelude.{ℕ, ◌+◌, min, Bool, true, cond, ltb}
use Rattle.heap.specs.declared.configuration.Configuration.{Configuration}

abbrev pub is_full : ℕ → Bool
is_full used = ltb 40959 used

abbrev pub is_tight : ℕ → ℕ → Bool
is_tight used floor = cond (is_full used) true (ltb (min floor 65535 + 8192) used)

abbrev pub with_used : Configuration → ℕ → Configuration
with_used c used = record { inputs = c.inputs; outputs = c.outputs; entries = c.entries; used = used; neqs = c.neqs; place = c.place; counter = c.counter }
