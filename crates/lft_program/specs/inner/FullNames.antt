-- The names of all things of a flat program, from what its instances declare.
use Rattle.std.specs.Prelude.{◌≡◌, ◌≢◌, ℕ, ◌+◌, ◌<◌, ◌≤◌, List, ◌++◌, drop, length, slice_get, Some, codes, All, AllPairs}
use Rattle.std.specs.{Fmt.decimal, List.AllZip}
use Rattle.lft_tree.specs.Identifiers.{IsName}
use Rattle.lft_ir.specs.Names.{ThingNames}
use Rattle.lft_program.specs.declared.naming.{OwnName.OwnName, PlacedReaction.PlacedReaction}

-- the name of the instance that declares the thing, a dot and the thing's own name
abbrev pub IsDotted : List (List ℕ) → OwnName → List ℕ → Type 0
IsDotted instances thing name = (container : List ℕ) × (slice_get instances thing.instance ≡ Some container) × (name ≡ container ++ codes "." ++ thing.name.now)

-- the name of the reaction's instance, `#` and the reaction's place there, counted from 1
abbrev pub IsHashed : List (List ℕ) → PlacedReaction → List ℕ → Type 0
IsHashed instances reaction name = (container : List ℕ) × (slice_get instances reaction.instance ≡ Some container) × (name ≡ container ++ codes "#" ++ decimal (reaction.place + 1))

-- the first instance, the main one, is `main`, whatever it is called, and all else has its own name or place after the name of its instance (ours: `main.a`, `main.a.out`, `main.a#1`)
pub record AreFullNames (instances ports actions timers : List OwnName) (reactions : List PlacedReaction) (names : ThingNames) : Type 0 where
  pub main_name : slice_get names.instances 0 ≡ Some (codes "main")
  pub instance_names : AllZip (IsDotted names.instances) (drop 1 instances) (drop 1 names.instances)
  pub port_names : AllZip (IsDotted names.instances) ports names.ports
  pub action_names : AllZip (IsDotted names.instances) actions names.actions
  pub timer_names : AllZip (IsDotted names.instances) timers names.timers
  pub reaction_names : AllZip (IsHashed names.instances) reactions names.reactions

-- all that some instance declares under a name: any thing but the main instance and the reactions
abbrev pub members : List OwnName → List OwnName → List OwnName → List OwnName → List OwnName
members instances ports actions timers = drop 1 instances ++ (ports ++ actions ++ timers)

-- the main instance stands first, and an instance stands after the one that contains it
pub record AreNested (instances : List OwnName) : Type 0 where
  pub main : 0 < length instances
  pub order : (k : ℕ) (inner : OwnName) → slice_get instances k ≡ Some inner → 0 < k → inner.instance < k

-- the things of one program: each belongs to one of the instances, in which no other has its name or its place; a reaction's place is counted from 0, so it is below the number of reactions
pub record AreOfProgram (instances ports actions timers : List OwnName) (reactions : List PlacedReaction) : Type 0 where
  pub nested : AreNested instances
  pub declared : All (λ d. d.instance < length instances) (ports ++ actions ++ timers)
  pub placed : All (λ r. (r.instance < length instances) × (r.place < length reactions)) reactions
  pub identifiers : All (λ d. IsName d.name.now) (members instances ports actions timers)
  pub names_once : AllPairs (λ a b. a.instance ≡ b.instance → a.name.now ≢ b.name.now) (members instances ports actions timers)
  pub places_once : AllPairs (λ a b. a.instance ≡ b.instance → a.place ≢ b.place) reactions

-- the limits on what a program has
pub record AreFew (instances ports actions timers : List OwnName) (reactions : List PlacedReaction) : Type 0 where
  pub few_instances : length instances ≤ 10000
  pub few_ports : length ports ≤ 100000
  pub few_actions : length actions ≤ 100000
  pub few_timers : length timers ≤ 100000
  pub few_reactions : length reactions ≤ 10000
