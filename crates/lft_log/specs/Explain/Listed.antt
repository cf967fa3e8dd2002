-- The runs that are open at the end of a log.
use Rattle.std.specs.Prelude.{ℕ, List, ◌∷◌, ◌++◌, codes, flat_map, []}
use Rattle.lft_ir.specs.{Parts.Parts, Words.Words.reaction_words}
use Rattle.lft_load.specs.Words.{field}
use Rattle.lft_monitor.specs.declared.open.StillOpen.{StillOpen}

-- the line of a run: its reaction, its worker, and the line that starts it
abbrev pub open_run_words : Parts → StillOpen → List ℕ
open_run_words program run = codes "open at the end: " ++ reaction_words program run.reaction ++ field (codes ", worker ") run.worker ++ field (codes ", since line ") run.line ++ codes "\n"

-- the lines of runs behind an empty one; nothing where there are none
abbrev pub runs_words : Parts → List StillOpen → List ℕ
runs_words program [] = []
runs_words program (run ∷ runs) = codes "\n" ++ flat_map (open_run_words program) (run ∷ runs)
