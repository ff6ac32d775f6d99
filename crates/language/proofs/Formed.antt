-- The parts of an admitted program: it has a main, its definitions are well formed, no `cons?` of it binds a name in reach.
use Prim.Native.Nat.{◌<◌}
use mathlib.Core.Path.{◌≡◌}
use mathlib.Core.Bool.{true}
use lib.Dec.{ltb}
use lib.ListN.{length}
use borrow.Author.Tests.{ltb-true}
use Rattle.language.specs.Program.{Prog}
use Rattle.language.specs.WellFormed.{well_formed_defs, binds_new_all, admitted}
use Rattle.language.proofs.Tests.{and_three}

module _ (p : Prog) (formed : admitted p ≡ true) where
  pub some_main : 0 < length p
  some_main = ltb-true 0 (length p) (and_three (ltb 0 (length p)) (well_formed_defs p p) (binds_new_all p) formed).0

  pub defs_formed : well_formed_defs p p ≡ true
  defs_formed = (and_three (ltb 0 (length p)) (well_formed_defs p p) (binds_new_all p) formed).1

  pub all_new : binds_new_all p ≡ true
  all_new = (and_three (ltb 0 (length p)) (well_formed_defs p p) (binds_new_all p) formed).2
