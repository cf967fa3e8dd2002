-- What each reactor of a file declares, with a place for each name and a number for each time.
use Rattle.std.specs.Prelude.{ℕ, not, Bool, false, List, Option, Some, None, filter, find, is_some, bytes_eq}
use Rattle.lft_tree.specs.Tree.{ReactorTree, RefTree, timers_of}

-- the test of a name being that of a timer of the reactor
abbrev pub is_timer : ReactorTree → List ℕ → Option (List ℕ) → Bool
is_timer r head None = is_some (find (λ t. bytes_eq head t.name) (timers_of r))
is_timer r head (Some port) = false

-- the names that aren't those of timers of the reactor
abbrev pub without_timers : ReactorTree → List RefTree → List RefTree
without_timers r refs = filter (λ ref. not (is_timer r ref.head ref.port)) refs
