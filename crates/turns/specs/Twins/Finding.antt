-- What a walk has found, by value: what each function of found.rt answers.
use Rattle.std.specs.Prelude.{◌+◌, min, true, false}
use Rattle.lines.specs.declared.line.Lines.{Lines}
use Rattle.turns.specs.declared.found.Found.{Found}
use Rattle.turns.specs.declared.found.Ending.{Ending}
use Rattle.turns.specs.declared.found.Walked.{Walked}

abbrev pub walked : Ending → Found → Walked
walked e f = record { ending = e; found = f }

abbrev pub nothing_found : Found
nothing_found = record { count = 0; cut = false; lines = record { count = 0; nodes = 0; top = 0 } }

abbrev pub counted : Found → Found
counted f = record { count = min f.count 1000000 + 1; cut = f.cut; lines = f.lines }

abbrev pub cut_off : Found → Found
cut_off f = record { count = f.count; cut = true; lines = f.lines }

abbrev pub with_lines : Found → Lines → Found
with_lines f l = record { count = f.count; cut = f.cut; lines = l }
