-- Inside: lists of all that is reached from a first one, and walks that make them.
use Rattle.std.specs.Prelude.{◌≡◌, ℕ, List, ◌∷◌, ◌++◌, Option, Some, slice_get, [], ◌<◌, ◌≤◌, ◌⊎◌, Bool, true, None, reverse}
use Rattle.std.specs.{BTreeSet.contains, Ordering.nat_cmp}
use Rattle.lft_classes.specs.declared.walk.{Visit.Visit, Traversal.Traversal}

-- what each one leads to, by number
abbrev pub Ways : Type 0
Ways = ℕ → ℕ → Option ℕ

-- the list has the number
abbrev pub Has : List ℕ → ℕ → Type 0
Has list r = (i : ℕ) × (slice_get list i ≡ Some r)

-- from the first one there is a way to the other, of none, one or more steps
pub data IsReachable (next : Ways) (first : ℕ) : ℕ → Type 0 where
  itself : IsReachable next first first
  further : {r s : ℕ} (k : ℕ) → IsReachable next first r → next r k ≡ Some s → IsReachable next first s

-- each number stands once, behind all that it leads to
pub data IsTopologicalOrder (next : Ways) : List ℕ → Type 0 where
  nothing : IsTopologicalOrder next []
  one : (xs : List ℕ) (x : ℕ) → IsTopologicalOrder next xs → (Has xs x → ⊥) → ((k r : ℕ) → next x k ≡ Some r → Has xs r) → IsTopologicalOrder next (xs ++ x ∷ [])

-- the first one and what is reached from it, each once, behind all that it leads to
pub record IsList (next : Ways) (first : ℕ) (list : List ℕ) : Type 0 where
  pub behind : IsTopologicalOrder next list
  pub has_first : Has list first
  pub reached : (r : ℕ) → Has list r → IsReachable next first r

-- what is listed of some, one after another, where others stand already: one that stands already isn't listed again, another one comes behind what is listed of those that it leads to
pub data Lists (ways : ℕ → List ℕ) : List ℕ → List ℕ → List ℕ → Type 0 where
  no_more : (before : List ℕ) → Lists ways before [] before
  again : (before after : List ℕ) (x : ℕ) (xs : List ℕ) → Has before x → Lists ways before xs after → Lists ways before (x ∷ xs) after
  new : (before inner after : List ℕ) (x : ℕ) (xs : List ℕ) → (Has before x → ⊥) → Lists ways before (ways x) inner → Lists ways (inner ++ x ∷ []) xs after → Lists ways before (x ∷ xs) after

-- ---- for the walk's own contracts
-- the visit at that place is of the number
abbrev pub IsVisitOfNode : List Visit → ℕ → ℕ → Type 0
IsVisitOfNode path i r = (v : Visit) × (slice_get path i ≡ Some v) × (v.node ≡ r)

-- what was listed, which numbers are done and met, and those that are gone over, each reached by the one before
pub record Walking (next : Ways) (first : ℕ) (listed : List ℕ) (done met : ℕ → Bool) (path : List Visit) : Type 0 where
  pub behind : IsTopologicalOrder next listed
  pub in_list : (r : ℕ) → done r ≡ true → Has listed r
  pub met_list : (r : ℕ) → Has listed r → met r ≡ true
  pub met_path : (i : ℕ) (v : Visit) → slice_get path i ≡ Some v → met v.node ≡ true
  pub left : (i : ℕ) (v : Visit) → slice_get path i ≡ Some v → Has listed v.node → ⊥
  pub apart : (i j : ℕ) (v w : Visit) → slice_get path i ≡ Some v → slice_get path j ≡ Some w → v.node ≡ w.node → i ≡ j
  pub passed : (i : ℕ) (v : Visit) → slice_get path i ≡ Some v → (k r : ℕ) → k < v.next → next v.node k ≡ Some r → Has listed r
  pub reached_list : (r : ℕ) → Has listed r → IsReachable next first r
  pub reached_path : (i : ℕ) (v : Visit) → slice_get path i ≡ Some v → IsReachable next first v.node
  pub held : Has listed first ⊎ ((i : ℕ) × IsVisitOfNode path i first)
  pub met_is : (r : ℕ) → met r ≡ true → (done r ≡ true) ⊎ ((i : ℕ) × IsVisitOfNode path i r)
  pub leads : (i j : ℕ) (v w : Visit) → slice_get path i ≡ Some v → slice_get path j ≡ Some w → i ≤ j → IsReachable next v.node w.node

-- the number is done
abbrev pub is_done : Traversal → ℕ → Bool
is_done walk r = contains nat_cmp walk.done r

-- the number was met
abbrev pub is_met : Traversal → ℕ → Bool
is_met walk r = contains nat_cmp walk.met r

-- how far the walk from the first one has come
abbrev pub IsWalk : Ways → ℕ → Traversal → Type 0
IsWalk next first walk = Walking next first walk.listed.items (is_done walk) (is_met walk) walk.path.items

-- nothing is gone over
abbrev pub IsWalkOver : Traversal → Type 0
IsWalkOver walk = walk.path.items ≡ []

-- the visit is the last one of the path
abbrev pub IsTop : Traversal → Visit → Type 0
IsTop walk v = (front : List Visit) × (walk.path.items ≡ front ++ v ∷ [])

-- the one that is gone over leads to no more
abbrev pub LeadsToNoMore : Ways → Traversal → Type 0
LeadsToNoMore next walk = (v : Visit) × IsTop walk v × ((k : ℕ) → v.next ≤ k → next v.node k ≡ None)

-- what the one that is gone over leads to from its place on, and before this number, is done
abbrev pub PassesTo : Ways → Traversal → ℕ → Type 0
PassesTo next walk number = (v : Visit) × IsTop walk v × ((k r : ℕ) → v.next ≤ k → k < number → next v.node k ≡ Some r → is_done walk r ≡ true)

-- the one that is gone over leads to that node
abbrev pub LeadsToNode : Ways → Traversal → ℕ → Type 0
LeadsToNode next walk node = (v : Visit) × IsTop walk v × ((k : ℕ) × (next v.node k ≡ Some node))

-- the list in which a walk ends: of those that are gone over, the last one first, each is listed behind what is listed of those that it still leads to
abbrev pub EndsIn : (ℕ → ℕ → List ℕ) → List ℕ → List Visit → List ℕ → Type 0
EndsIn from listed [] list = listed ≡ list
EndsIn from listed (v ∷ vs) list = (mid : List ℕ) × Lists (λ r. from r 0) listed (from v.node v.next) mid × EndsIn from (mid ++ v.node ∷ []) vs list

-- the walk ends in what is to be listed of the first one, where each leads to these from a place on
abbrev pub IsOrdered : (ℕ → ℕ → List ℕ) → ℕ → Traversal → Type 0
IsOrdered from first walk = (list : List ℕ) → EndsIn from walk.listed.items (reverse walk.path.items) list → Lists (λ r. from r 0) [] (first ∷ []) list

-- the one that is gone over leads to no more
abbrev pub LeadsNoFurther : (ℕ → ℕ → List ℕ) → Traversal → Type 0
LeadsNoFurther from walk = (v : Visit) × IsTop walk v × (from v.node v.next ≡ [])

-- what the one that is gone over leads to before this number is done
abbrev pub PassesDone : (ℕ → ℕ → List ℕ) → Traversal → ℕ → Type 0
PassesDone from walk number = (v : Visit) × IsTop walk v × ((passed : List ℕ) × (from v.node v.next ≡ passed ++ from v.node number) × ((r : ℕ) → Has passed r → is_done walk r ≡ true))

-- the one that is gone over leads to that node first
abbrev pub LeadsFirst : (ℕ → ℕ → List ℕ) → Traversal → ℕ → Type 0
LeadsFirst from walk node = (v : Visit) × IsTop walk v × ((more : List ℕ) × (from v.node v.next ≡ node ∷ more))
