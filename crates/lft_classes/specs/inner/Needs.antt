-- Inside: which parameters reactors need: for their widths, and for their times.
use Rattle.std.specs.Prelude.{◌≡◌, ◌↔◌, ℕ, Bool, true, List, Option, Some, codes, is_some, slice_get, string_bytes, ◌⊎◌, length}
use Rattle.lft_whole.specs.declared.tree.{Assignment.Assignment, Expression.Expression, Instance.Instance, Member.Member, Width.Width}
use Rattle.lft_classes.specs.declared.{scopes.ReactorNames.ReactorNames, shapes.{Shape.Shape, Child.Child, Inherited.Inherited}}
use Rattle.lft_classes.specs.inner.{Built.{Core, members_at, AreNoted, cores}, Chains.{base_of, extended_reactor}}
use Rattle.lft_classes.specs.inner.{Shapes.{thing_named, child_at, child_in, inside, tables}, Walks.IsReachable, Makings.AreShapes}
use Rattle.lft_classes.specs.Needs.{Gives, IsWord, NamedFor, Names, Need, Times, Widths}
use Rattle.lft_whole.specs.declared.tree.Member.TheVariants as member
use Rattle.lft_classes.specs.declared.shapes.OwnThing.TheVariants as thing

-- the reactor has the member of the file, its own one or one of a reactor that it extends
pub record HasMember (scopes : ReactorNames) (r : ℕ) (m : ℕ × Member) : Type 0 where
  pub class : ℕ
  pub reached : IsReachable (base_of scopes) r class
  pub which : ℕ
  pub is_there : slice_get (members_at scopes class) which ≡ Some m

-- The reactor needs the parameter of this name: a member names it, or an instance gives it to one that the instance's reactor needs.
pub data NeedsName (scopes : ReactorNames) (need : Need) : ℕ → List ℕ → Type 0 where
  by_member : {r : ℕ} {q : List ℕ} (m : ℕ × Member) → HasMember scopes r m → NamedFor need m.1 q → NeedsName scopes need r q
  by_instance : {r inner : ℕ} {p q : List ℕ} (file : ℕ) (instance : Instance) → HasMember scopes r (file, member.Instance instance) → extended_reactor scopes file instance.reactor ≡ Some inner → Gives instance p q → NeedsName scopes need inner p → NeedsName scopes need r q

-- the name is that of the parameter of this number
abbrev pub IsParameter : Shape → List ℕ → ℕ → Type 0
IsParameter shape q n = thing_named shape q ≡ Some (thing.Parameter n)

-- the shape's reactor needs the parameter of this number
abbrev pub NeedsNumber : ReactorNames → Need → Shape → ℕ → Type 0
NeedsNumber scopes need shape n = (q : List ℕ) × IsParameter shape q n × NeedsName scopes need shape.class.number q

-- for each parameter whether it is marked as needed
abbrev pub need_marks : Need → Shape → List Bool
need_marks Widths shape = shape.sized.items
need_marks Times shape = shape.timed.items

-- the parameter of this number is
abbrev pub IsMarkedNeeded : Need → Shape → ℕ → Type 0
IsMarkedNeeded need shape n = slice_get (need_marks need shape) n ≡ Some true

-- in the shape of this number those parameters are marked that its reactor needs, and no others
abbrev pub IsDecided : ReactorNames → List Shape → ℕ → Type 0
IsDecided scopes shapes s = (shape : Shape) → slice_get shapes s ≡ Some shape → (need : Need) (n : ℕ) → IsMarkedNeeded need shape n ↔ NeedsNumber scopes need shape n

-- the member of this number of a shape is a bank, and this is the reactor of its instances
pub record IsBankOf (cs : List Core) (rows : List (List (Option Child))) (s k : ℕ) (inner : Core) : Type 0 where
  pub outer : Core
  pub is_outer : slice_get cs s ≡ Some outer
  pub entry : Inherited
  pub is_entry : slice_get outer.members k ≡ Some entry
  pub instance : Instance
  pub is_instance : entry.member.now ≡ member.Instance instance
  pub is_bank : is_some instance.width ≡ true
  pub child : Child
  pub is_child : child_in rows s k ≡ Some child
  pub is_inner : slice_get cs child.shape ≡ Some inner

-- no reactor of a bank in the shape needs a parameter `bank_index`: the instances of a bank have one setting
abbrev pub IsIndexFree : ReactorNames → List Core → List (List (Option Child)) → ℕ → Type 0
IsIndexFree scopes cs rows s = (k n : ℕ) (inner : Core) (need : Need) → IsBankOf cs rows s k inner → inner.things (codes "bank_index") ≡ Some (thing.Parameter n) → NeedsName scopes need inner.class.number (codes "bank_index") → ⊥

-- ---- for the crate's own contracts
-- in a bank of the reactor no parameter `bank_index` is marked
abbrev pub HasNoMarkedIndex : Shape → Instance → Type 0
HasNoMarkedIndex inner instance = is_some instance.width ≡ true → (need : Need) (n : ℕ) → IsParameter inner (codes "bank_index") n → IsMarkedNeeded need inner n → ⊥

-- so it is of the member of this number, if it is a bank
abbrev pub IsUnmarkedAt : List Shape → Shape → ℕ → Member → Type 0
IsUnmarkedAt shapes shape k m = (instance : Instance) (child : Child) (inner : Shape) → m ≡ member.Instance instance → child_at shape.children.items k ≡ Some child → slice_get shapes child.shape ≡ Some inner → HasNoMarkedIndex inner instance

-- such numbers are marked more, and no others
pub record Marks (P : ℕ → Type 0) (old new : List Bool) : Type 0 where
  pub count : length new ≡ length old
  pub each : (n : ℕ) → slice_get new n ≡ Some true → (slice_get old n ≡ Some true) ⊎ P n
  pub kept : (n : ℕ) → slice_get old n ≡ Some true → slice_get new n ≡ Some true
  pub all : (n : ℕ) (was : Bool) → slice_get old n ≡ Some was → P n → slice_get new n ≡ Some true

-- a width names the parameter of this number
abbrev pub NamesParameter : Shape → Option Width → ℕ → Type 0
NamesParameter shape width n = (w : Width) × (width ≡ Some w) × ((q : List ℕ) × Names w q × IsParameter shape q n)

-- an expression is the parameter of this number
abbrev pub IsParameterIn : Shape → Expression → ℕ → Type 0
IsParameterIn shape expression n = (q : List ℕ) × IsWord expression q × IsParameter shape q n

-- a time is the parameter of this number
abbrev pub IsTimeIn : Shape → Option Expression → ℕ → Type 0
IsTimeIn shape time n = (e : Expression) × (time ≡ Some e) × IsParameterIn shape e n

-- the parameter of this number is given to one of the inner shape that is marked
abbrev pub IsPassed : Need → Shape → Shape → Assignment → ℕ → Type 0
IsPassed need shape inner assignment n = (p : ℕ) × IsParameter inner (string_bytes assignment.name.text) p × IsMarkedNeeded need inner p × IsParameterIn shape assignment.value n

-- so it is by one of these
abbrev pub IsPassedIn : Need → Shape → Shape → List Assignment → ℕ → Type 0
IsPassedIn need shape inner given n = (which : ℕ) × ((assignment : Assignment) × (slice_get given which ≡ Some assignment) × IsPassed need shape inner assignment n)

-- the member of the one number is an instance, and gives the parameter of the other to one that is marked in it
pub record PassesOn (need : Need) (shapes : List Shape) (shape : Shape) (k : ℕ) (m : Member) (n : ℕ) : Type 0 where
  pub instance : Instance
  pub is_instance : m ≡ member.Instance instance
  pub child : Child
  pub is_child : child_at shape.children.items k ≡ Some child
  pub inner : Shape
  pub is_inner : slice_get shapes child.shape ≡ Some inner
  pub is_passed : IsPassedIn need shape inner instance.given.items n

-- the member of the one number names the parameter of the other
abbrev pub NamesNumber : Need → Shape → Member → ℕ → Type 0
NamesNumber need shape m n = (q : List ℕ) × IsParameter shape q n × NamedFor need m q

-- so it does, or passes it on
abbrev pub HasNeed : Need → List Shape → Shape → ℕ → Member → ℕ → Type 0
HasNeed need shapes shape k m n = NamesNumber need shape m n ⊎ PassesOn need shapes shape k m n

-- those parameters of the shape are marked that one of its members needs, and no others
pub record AreNeedMarks (need : Need) (shapes : List Shape) (shape : Shape) (list : List Bool) : Type 0 where
  pub count : length list ≡ length shape.parameters.items
  pub each : (n : ℕ) → slice_get list n ≡ Some true → (k : ℕ) × ((m : Inherited) × (slice_get shape.members.items k ≡ Some m) × HasNeed need shapes shape k m.member.now n)
  pub all : (n k : ℕ) (m : Inherited) (was : Bool) → slice_get list n ≡ Some was → slice_get shape.members.items k ≡ Some m → HasNeed need shapes shape k m.member.now n → slice_get list n ≡ Some true

-- the shapes are of reactors below the first one, and those inside the one of this number are decided
pub record IsReadyToDecide (scopes : ReactorNames) (first : ℕ) (shapes : List Shape) (s : ℕ) : Type 0 where
  pub are_shapes : AreShapes scopes first (cores shapes) (tables shapes)
  pub all_noted : AreNoted scopes (cores shapes) (tables shapes)
  pub inner : (k t : ℕ) → inside (tables shapes) s k ≡ Some t → IsDecided scopes shapes t

-- so it is of this shape of that number, which has the member
pub record IsReadyAt (scopes : ReactorNames) (first : ℕ) (shapes : List Shape) (s : ℕ) (shape : Shape) (k : ℕ) (m : Inherited) : Type 0 where
  pub ready : IsReadyToDecide scopes first shapes s
  pub is_shape : slice_get shapes s ≡ Some shape
  pub is_member : slice_get shape.members.items k ≡ Some m
