-- Tables in general: a header, and under it a record for each item; and the faults of records that are no such table.
use Rattle.std.specs.Prelude.{◌≡◌, ◌≢◌, ◌≤◌, ◌<◌, ◌+◌, ◌⊎◌, ◌++◌, ℕ, List, ◌∷◌, length}
use Rattle.std.specs.List.{AllZip}

-- a kind of table: its header, the item that a record tells, the items that may stand together, the fault of a record at a line after the items before it, and the faults of the whole
pub record TableKind (Item Fault : Type 0) : Type 1 where
  pub header : List (List ℕ)
  pub Tells : List (List ℕ) → Item → Type 0
  pub Together : List Item → Type 0
  pub FaultAt : List Item → ℕ → List (List ℕ) → Fault → Type 0
  pub no_header : Fault
  pub too_many : Fault

-- the records are the header and those of these items, one by one, which are no more than a table may hold
pub record Holds {Item Fault : Type 0} (kind : TableKind Item Fault) (records : List (List (List ℕ))) (items : List Item) : Type 0 where
  pub rest : List (List (List ℕ))
  pub under : records ≡ kind.header ∷ rest
  pub each : AllZip kind.Tells rest items
  pub few : length items ≤ 4000000

-- the first records under the header are those of these items, which may stand together, and the others come after them
pub record Begins {Item Fault : Type 0} (kind : TableKind Item Fault) (records : List (List (List ℕ))) (items : List Item) (after : List (List (List ℕ))) : Type 0 where
  pub first : List (List (List ℕ))
  pub under : records ≡ kind.header ∷ (first ++ after)
  pub each : AllZip kind.Tells first items
  pub together : kind.Together items

-- a record within the limit has the fault, and those before it have none
pub record FailsAt {Item Fault : Type 0} (kind : TableKind Item Fault) (records : List (List (List ℕ))) (e : Fault) : Type 0 where
  pub items : List Item
  pub bad : List (List ℕ)
  pub more : List (List (List ℕ))
  pub begins : Begins kind records items (bad ∷ more)
  pub within : length items < 4000000
  pub is : kind.FaultAt items (length items + 2) bad e

-- as many records as the limit allows have no fault, and there is one more
pub record HasTooMany {Item Fault : Type 0} (kind : TableKind Item Fault) (records : List (List (List ℕ))) : Type 0 where
  pub items : List Item
  pub next : List (List ℕ)
  pub more : List (List (List ℕ))
  pub begins : Begins kind records items (next ∷ more)
  pub full : length items ≡ 4000000

-- the fault of records that are no such table: no header, else the fault of the least line, else too many rows
abbrev pub Fails : {Item Fault : Type 0} → TableKind Item Fault → List (List (List ℕ)) → Fault → Type 0
Fails kind records e =
    ((e ≡ kind.no_header) × ((rest : List (List (List ℕ))) → records ≢ kind.header ∷ rest))
    ⊎ (FailsAt kind records e ⊎ ((e ≡ kind.too_many) × HasTooMany kind records))
