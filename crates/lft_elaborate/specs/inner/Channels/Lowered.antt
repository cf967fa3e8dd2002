-- References of the core program, and the connections between them.
use Rattle.std.specs.Prelude.{◌≡◌, ℕ, ◌<◌, Bool, List, [], ◌∷◌, length, Option, Some, None, slice_get}
use Rattle.lft_tree.specs.Tree.{TimeTree, RefTree, ConnectionTree}
use Rattle.lft_elaborate.specs.inner.Channels.Channels.{joined, left_channel}

-- a port, an action, a timer or an instance by its name
abbrev pub Name : Type 0
Name = List ℕ

-- a thing of the reactor itself
abbrev pub own : Name → RefTree
own x = record { head = x; port = None }

-- a port of an instance
abbrev pub inner : Name → Name → RefTree
inner b p = record { head = b; port = Some p }

-- one connection from one place to another
abbrev pub single : Option TimeTree → RefTree → RefTree → ConnectionTree
single delay from to = record { sources = from ∷ []; destinations = to ∷ []; delay = delay }

-- the k-th of them joins the k-th place on the right
abbrev pub AreJoinedPlaces : List RefTree → List RefTree → Bool → Option TimeTree → List ConnectionTree → Type 0
AreJoinedPlaces left right broadcast delay cs =
    (length cs ≡ joined (length left) (length right) broadcast)
    × ((k : ℕ) → k < length cs → (from : RefTree) × (to : RefTree) × (slice_get left (left_channel (length left) broadcast k) ≡ Some from) × (slice_get right k ≡ Some to) × (slice_get cs k ≡ Some (single delay from to)))
