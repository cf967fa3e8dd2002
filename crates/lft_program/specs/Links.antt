-- How ports are reached.
use Rattle.std.specs.Prelude.{◌≡◌, ℕ, List, Option, Some, None, slice_get}
use Rattle.lft_tree.specs.Tree.{FileTree}
use Rattle.lft_tag.specs.declared.Source.{Source}
use Rattle.lft_resolve.specs.Instances.{Thing, Connects}

-- the source of a port, where ports have these numbers: what a connection joins to it, with its delay, or none where no connection leads into it
abbrev pub IsSource : FileTree → List Thing → Thing → Option Source → Type 0
IsSource tree ports t None = (from : Thing) (delay : Option ℕ) → Connects tree from t delay → ⊥
IsSource tree ports t (Some s) = (from : Thing) × (slice_get ports s.port ≡ Some from) × Connects tree from t s.delay
