-- What members and settings become, one after another.
use Rattle.std.proofs.Common.{◌≡◌, ℕ, ◌+◌, ◌≤◌, List, [], ◌∷◌, ◌++◌, Option, Some, take, length, sym, subst, arith}
use Rattle.std.specs.Prelude.{slice_get}
use Rattle.std.proofs.lemmas.{List.{length-take-le, take_all}, Option.slice_get_within}
use Rattle.lft_tree.specs.Tree.{ItemTree, MemberTree, ReactorTree, ReactorItem}
use Rattle.lft_classes.specs.declared.shapes.{Inherited.Inherited, Shape.Shape}
use Rattle.lft_elaborate.specs.{declared.settings.Settings.Settings, inner.Settings.shape_at}
use Rattle.lft_lower.specs.inner.{Meanings.Meanings.Here, Lowered.{AreLowered, IsLowered, IsMeasured, more_members}}
use Rattle.lft_lower.specs.inner.Reactors.{AreMembers, AreReactors, IsReactor, more_reactors}
use Rattle.lft_lower.proofs.MeaningsLemmas.Growing.{one_more}

-- one more member
pub lowered_next : (names : List (Option (List ℕ))) (h : Here) (members : List Inherited) (n : ℕ) (x : Inherited) (done new list : List MemberTree) (before after : Option (List ℕ)) → slice_get members n ≡ Some x → AreLowered names h (take n members) done before → IsMeasured h n x.member.now → IsLowered names h n before new after x.member.now → list ≡ done ++ new → AreLowered names h (take (n + 1) members) list after
lowered_next names h members n x done new list before after at so_far known made one =
    let within = slice_get_within members n x at in
    let low : n ≤ length members = omega (arith, within) in
    let long : length (take n members) ≡ n = length-take-le n members low in
    let last : IsLowered names h (length (take n members)) before new after x.member.now = subst (λ k. IsLowered names h k before new after x.member.now) (sym long) made in
    let wide : IsMeasured h (length (take n members)) x.member.now = subst (λ k. IsMeasured h k x.member.now) (sym long) known in
    subst (λ ms. AreLowered names h ms list after) (sym (one_more members n x at)) (subst (λ ts. AreLowered names h (take n members ++ x ∷ []) ts after) (sym one) (more_members (take n members) x done new before after so_far wide last))

-- all members
pub lowered_all : (s : Settings) (names : List (Option (List ℕ))) (setting : ℕ) (shape : Shape) (n : ℕ) (list : List MemberTree) (never : Option (List ℕ)) → length shape.members.items ≤ n → AreLowered names (record { settings = s; setting = setting; shape = shape }) (take n shape.members.items) list never → AreMembers s names setting shape list
lowered_all s names setting shape n list never all made = (never, subst (λ ms. AreLowered names (record { settings = s; setting = setting; shape = shape }) ms list never) (take_all n shape.members.items all) made)

-- one more reactor
pub reactors_next : (s : Settings) (names : List (Option (List ℕ))) (settings : List ℕ) (n k : ℕ) (shape : Shape) (items list : List ItemTree) (r : ReactorTree) → slice_get settings n ≡ Some k → AreReactors s names (take n settings) items → shape_at s k ≡ Some shape → IsReactor s names k shape r → list ≡ items ++ ReactorItem r ∷ [] → AreReactors s names (take (n + 1) settings) list
reactors_next s names settings n k shape items list r at so_far here made one =
    subst (λ ks. AreReactors s names ks list) (sym (one_more settings n k at)) (subst (λ is. AreReactors s names (take n settings ++ k ∷ []) is) (sym one) (more_reactors (take n settings) k shape items r so_far here made))
