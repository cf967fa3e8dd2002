-- What a program may have only so many of.
use Rattle.std.specs.Prelude.{◌≡◌, ℕ, ◌-◌, ◌<◌, ◌≤◌, List, true, false}
use Rattle.lft_tree.specs.Tree.{FileTree, actions_of, ports_of, reactions_of, timers_of}
use Rattle.lft_resolve.specs.{inner.Expansion.Contents.contained, Expansion.Paths.{Exists, IsMoreThan}, declared.expansion.walk.Contents.Contents}
use Rattle.lft_resolve.specs.{Causes.{IsDeclaredAt, joins_of}, Instances.{Inside, IsInside}}
use Rattle.lft_program.specs.declared.nesting.limits.LimitedKind.{LimitedKind, TheVariants.{Instances, Reactions, Ports, Connections, Actions, Timers}}
use Rattle.lft_program.specs.declared.nesting.limits.Excess.{Excess}

-- how many of a kind a program may have
abbrev pub limit_of : LimitedKind → ℕ
limit_of Instances = 10000
limit_of Reactions = 10000
limit_of Ports = 100000
limit_of Connections = 100000
limit_of Actions = 100000
limit_of Timers = 100000

-- the program has more than so many of the kind
abbrev pub HasMoreThan : FileTree → LimitedKind → ℕ → Type 0
HasMoreThan tree Instances n = IsMoreThan (λ path. (x : Inside) × IsInside tree path x) n
HasMoreThan tree Reactions n = IsMoreThan (IsDeclaredAt tree reactions_of) n
HasMoreThan tree Ports n = IsMoreThan (IsDeclaredAt tree ports_of) n
HasMoreThan tree Connections n = IsMoreThan (IsDeclaredAt tree joins_of) n
HasMoreThan tree Actions n = IsMoreThan (IsDeclaredAt tree actions_of) n
HasMoreThan tree Timers n = IsMoreThan (IsDeclaredAt tree timers_of) n

-- what is counted is more than the limit of its kind, and the program has at least so many of that kind, or more where more is told
pub record IsExcess (tree : FileTree) (e : Excess) : Type 0 where
  pub passed : limit_of e.kind < e.count
  pub has : HasMoreThan tree e.kind (e.count - 1)
  pub more : e.is_more ≡ true → HasMoreThan tree e.kind e.count

-- of the kind, of which there are so many, there are more than may be, and no more is told than there are
pub record IsPassed (kind : LimitedKind) (all : ℕ) (e : Excess) : Type 0 where
  pub is_kind : e.kind ≡ kind
  pub passed : limit_of kind < e.count
  pub counted : e.count ≤ all
  pub whole : e.is_more ≡ false

-- there are more instances than may be, and at least so many as are counted, by what each reactor contains
pub record IsFull (table : List Contents) (main : ℕ) (e : Excess) : Type 0 where
  pub is_kind : e.kind ≡ Instances
  pub passed : limit_of Instances < e.count
  pub has : IsMoreThan (Exists (contained table) main) (e.count - 1)
  pub more : e.is_more ≡ true → IsMoreThan (Exists (contained table) main) e.count
