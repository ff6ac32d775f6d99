-- Where the entries of the names in reach begin, and how many they are.
use Rattle.std.specs.Prelude.{ℕ, ◌+◌, ◌-◌, min}
use Rattle.heap.specs.declared.configuration.Configuration.{Configuration}

abbrev pub names_from : Configuration → ℕ
names_from c = min c.inputs 4120 + min c.outputs 4120

-- how many names are in reach; those that a `cons?` binds come behind them
abbrev pub names_in : Configuration → ℕ
names_in c = c.entries - names_from c
