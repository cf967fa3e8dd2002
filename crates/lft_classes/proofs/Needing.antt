-- What reactors need.
use Rattle.std.proofs.Common.{◌≡◌, ℕ, inl, inr, List, Some, map, slice_get, string_bytes, refl, sym, ap, ◌∙◌}
use Rattle.std.specs.Prelude.{flat_map}
use Rattle.std.specs.Option.{option_and_then}
use Rattle.lft_lists.proofs.{Mapped.{mapped, mapped_from}, Members.{get_mem, mem_flat, mem_get}, Places.{get_push, get_push_cases, same_some}}
use Rattle.lft_whole.specs.declared.tree.{Instance.Instance, Member.Member}
use Rattle.lft_classes.specs.declared.{scopes.ReactorNames.ReactorNames, shapes.{Inherited.Inherited, InheritedParameter.InheritedParameter}}
use Rattle.lft_classes.specs.inner.{Below.{IsBelow, base, inner, instance_at}, Built.{Core, IsBuilt, instance_of, members_at}, Chains.base_of, Needs.HasMember}
use Rattle.lft_classes.specs.inner.Walks.{Has, IsTopologicalOrder, IsList, IsReachable, Ways, further, itself, nothing, one}
use Rattle.lft_classes.proofs.Refusing.{listed_of}
use Rattle.lft_whole.specs.declared.tree.Member.TheVariants as member
use Rattle.lft_classes.specs.declared.shapes.OwnThing.TheVariants as thing

-- a list has what those in it lead to
pub closed_under : (next : Ways) (list : List ℕ) → IsTopologicalOrder next list → (x k r : ℕ) → Has list x → next x k ≡ Some r → Has list r
closed_under next _ nothing x k r has at = absurd (let e = has.1 in cc)
closed_under next _ (one xs y behind new below) x k r has at = elim (get_push_cases xs y has.0 x has.1) [
  | inl old ↦ (let h = closed_under next xs behind x k r (has.0, old) at in (h.0, get_push xs y h.0 r h.1))
  | inr last ↦ (let h = below k r (ap (λ z. next z k) last.1 ∙ at) in (h.0, get_push xs y h.0 r h.1))
]

-- what is reached is listed
pub listed_all : (next : Ways) (first : ℕ) (list : List ℕ) → IsList next first list → (r : ℕ) → IsReachable next first r → Has list r
listed_all next first list is _ itself = is.has_first
listed_all next first list is _ (further {r = a} {s = b} k way at) = closed_under next list is.behind a k b (listed_all next first list is a way) at

-- what one below extends is below too
pub below_reached : (scopes : ReactorNames) (first a : ℕ) → IsBelow scopes first a → (b : ℕ) → IsReachable (base_of scopes) a b → IsBelow scopes first b
below_reached scopes first a is _ itself = is
below_reached scopes first a is _ (further {r = c} k way at) = base k (below_reached scopes first a is c way) at

-- where a member of a reactor with all that it inherits is declared
pub declared : (scopes : ReactorNames) (c : Core) (k : ℕ) (m : Inherited) → IsBuilt scopes c → slice_get c.members k ≡ Some m → HasMember scopes c.class.number (m.file, m.member.now)
declared scopes c k m is at =
    let locate : Inherited → ℕ × Member = λ x. (x.file, x.member.now) in
    let from = listed_of (members_at scopes) is.chain k (locate m) (ap (λ l. slice_get l k) (sym is.has_members) ∙ mapped locate c.members k m at) in
    record { class = from.1.0; reached = is.extends.all.reached from.1.0 (from.0, from.1.1); which = from.1.2.0; is_there = from.1.2.1 }

-- what one of the reactors that it extends has, it has
reached_there : {X Y : Type 0} (scopes : ReactorNames) (c : Core) (f : ℕ → List Y) (locate : X → Y) (xs : List X) (class which : ℕ) (y : Y) → (is : IsBuilt scopes c) → map locate xs ≡ flat_map f is.chain → IsReachable (base_of scopes) c.class.number class → slice_get (f class) which ≡ Some y → (k : ℕ) × ((x : X) × (slice_get xs k ≡ Some x) × (locate x ≡ y))
reached_there scopes c f locate xs class which y is all reached at =
    let has = listed_all (base_of scopes) c.class.number is.chain is.extends.all class reached in
    let mem = mem_flat f class y is.chain (mem_get is.chain has.0 class has.1) (mem_get (f class) which y at) in
    let there = get_mem y (flat_map f is.chain) mem in
    (there.0, mapped_from locate xs there.0 y (ap (λ l. slice_get l there.0) all ∙ there.1))

-- so is a member
pub member_of : (scopes : ReactorNames) (c : Core) (m : ℕ × Member) → IsBuilt scopes c → HasMember scopes c.class.number m → (k : ℕ) × ((x : Inherited) × (slice_get c.members k ≡ Some x) × ((x.file, x.member.now) ≡ m))
member_of scopes c m is h = reached_there scopes c (members_at scopes) (λ (x : Inherited). (x.file, x.member.now)) c.members h.class h.which m is is.has_members h.reached h.is_there

-- a parameter has one name
pub one_name : (scopes : ReactorNames) (c : Core) (p q : List ℕ) (n : ℕ) → IsBuilt scopes c → c.things p ≡ Some (thing.Parameter n) → c.things q ≡ Some (thing.Parameter n) → p ≡ q
one_name scopes c p q n is first other =
    let a = (is.has_names p (thing.Parameter n)).0 first in
    let b = (is.has_names q (thing.Parameter n)).0 other in
    sym a.2 ∙ ap (λ (x : InheritedParameter). string_bytes x.parameter.now.name.text) (same_some (slice_get c.parameters n) a.0 b.0 a.1 b.1) ∙ b.2

-- the reactor of a member that is an instance
pub instance_is : (scopes : ReactorNames) (r which : ℕ) (m : ℕ × Member) → slice_get (members_at scopes r) which ≡ Some m → instance_at scopes r which ≡ instance_of scopes m
instance_is scopes r which m at = ap (option_and_then (instance_of scopes)) at

-- what a member contains is an instance
pub is_instance : (scopes : ReactorNames) (file : ℕ) (m : Member) (n : ℕ) → instance_of scopes (file, m) ≡ Some n → (instance : Instance) × (m ≡ member.Instance instance)
is_instance scopes file (member.Instance instance) n e = (instance, refl)
is_instance scopes file (member.Port x) n e = absurd (cc)
is_instance scopes file (member.Timer x) n e = absurd (cc)
is_instance scopes file (member.Action x) n e = absurd (cc)
is_instance scopes file (member.Reaction x) n e = absurd (cc)
is_instance scopes file (member.Connection x) n e = absurd (cc)
is_instance scopes file (member.Foreign what at) n e = absurd (cc)

-- what is in a member of one below is below too
pub below_inside : (scopes : ReactorNames) (first : ℕ) (c : Core) (k : ℕ) (m : Inherited) (n : ℕ) → IsBuilt scopes c → IsBelow scopes first c.class.number → slice_get c.members k ≡ Some m → instance_of scopes (m.file, m.member.now) ≡ Some n → IsBelow scopes first n
below_inside scopes first c k m n is below at means =
    let d = declared scopes c k m is at in
    inner d.which (below_reached scopes first c.class.number below d.class d.reached) (instance_is scopes d.class d.which (m.file, m.member.now) d.is_there ∙ means)
