-- A tree has one flat program.
use Rattle.std.proofs.Common.{◌≡◌, ℕ, suc, List, [], ◌∷◌, map, slice_get, Some, refl, sym, ap, subst, ◌∙◌}
use Rattle.std.specs.List.{AllZip}
use Rattle.lft_lists.proofs.{Picked.map-same, Places.Some_same, Zips.same as zip_same}
use Rattle.lft_tree.specs.Tree.{FileTree, PortTree, ports_of, actions_of, timers_of, reactions_of}
use Rattle.lft_program.specs.{Located.{Located, AreLocated, Declared, declared}, inner.Tables.IsLawful}
use Rattle.lft_program.specs.Flattening.{Flat, IsPort, IsAction, IsTimer, IsReaction, names_of}
use Rattle.lft_program.proofs.{Listing.declared_from, OneInstances.one_located, OneName.{one_of_action, one_of_timer, one_of_reaction}, OneOrigin.one_end}
use Rattle.lft_program.proofs.OneSource.{one_source}
use Rattle.lft_ir.specs.{Parts.Parts, Sound.KeepsOrigins, declared.parts.Port.Port as PortOf}

-- lists that go with one list, where what is wanted of the items of an element is one
module _ {A B C : Type 0} (R : A → B → Type 0) (f : B → C) where
  pub one_mapped : (xs : List A) (ys zs : List B) → AllZip R xs ys → AllZip R xs zs → ((k : ℕ) (x : A) (y z : B) → slice_get xs k ≡ Some x → slice_get ys k ≡ Some y → slice_get zs k ≡ Some z → R x y → R x z → f y ≡ f z) → map f ys ≡ map f zs
  one_mapped [] [] [] a b one = refl
  one_mapped [] [] (z ∷ zs) a b one = absurd b
  one_mapped [] (y ∷ ys) zs a b one = absurd a
  one_mapped (x ∷ xs) [] zs a b one = absurd a
  one_mapped (x ∷ xs) (y ∷ ys) [] a b one = absurd b
  one_mapped (x ∷ xs) (y ∷ ys) (z ∷ zs) a b one =
      let head = one 0 x y z refl refl refl a.0 b.0 in
      let tail = one_mapped xs ys zs a.1 b.1 (λ k. one (suc k)) in
      λ j. head j ∷ tail j

module _ (tree : FileTree) (lawful : IsLawful tree) (all : List Located) (are : AreLocated tree all) (p q : Parts) (a : AllZip (IsPort tree all) (declared ports_of all) p.ports) (b : AllZip (IsPort tree all) (declared ports_of all) q.ports) where
  sources : map (λ (x : PortOf). x.source) p.ports ≡ map (λ (x : PortOf). x.source) q.ports
  sources = one_mapped (IsPort tree all) (λ (x : PortOf). x.source) (declared ports_of all) p.ports q.ports a b one
    where
      one : (k : ℕ) (d : Declared PortTree) (x y : PortOf) → slice_get (declared ports_of all) k ≡ Some d → slice_get p.ports k ≡ Some x → slice_get q.ports k ≡ Some y → IsPort tree all d x → IsPort tree all d y → x.source ≡ y.source
      one k d x y at _ _ v w = one_source tree lawful all are k d (declared_from ports_of all k d at) x.source y.source v.source w.source

  one_ports : KeepsOrigins p → KeepsOrigins q → p.ports ≡ q.ports
  one_ports keeps keeps_too = sym (map-same p.ports) ∙ one_mapped (IsPort tree all) (λ (x : PortOf). x) (declared ports_of all) p.ports q.ports a b one ∙ map-same q.ports
    where
      one : (k : ℕ) (d : Declared PortTree) (x y : PortOf) → slice_get (declared ports_of all) k ≡ Some d → slice_get p.ports k ≡ Some x → slice_get q.ports k ≡ Some y → IsPort tree all d x → IsPort tree all d y → x ≡ y
      one k d x y at e f v w =
          let instance : x.instance ≡ y.instance = v.instance ∙ sym w.instance in
          let direction : x.is_input ≡ y.is_input = v.direction ∙ sym w.direction in
          let source : x.source ≡ y.source = one_source tree lawful all are k d (declared_from ports_of all k d at) x.source y.source v.source w.source in
          let end = one_end p q sources keeps keeps_too k x y e f in
          λ j. record { instance = instance j; is_input = direction j; source = source j; origin = end.0 j; shift = end.1 j }

pub one_flat : (tree : FileTree) → IsLawful tree → (p q : Parts) → Flat tree p → Flat tree q → p ≡ q
one_flat tree lawful p q a b =
    let all = a.instances in
    let same : b.instances ≡ all = one_located tree b.instances all b.are_located a.are_located in
    let main : b.are_located.main ≡ a.are_located.main = Some_same b.are_located.main a.are_located.main (sym b.are_located.is_main ∙ a.are_located.is_main) in
    let ports = one_ports tree lawful all a.are_located p q a.ports (subst (λ l. AllZip (IsPort tree l) (declared ports_of l) q.ports) same b.ports) a.origins b.origins in
    let actions = zip_same IsAction one_of_action (declared actions_of all) p.actions q.actions a.actions (subst (λ l. AllZip IsAction (declared actions_of l) q.actions) same b.actions) in
    let timers = zip_same IsTimer one_of_timer (declared timers_of all) p.timers q.timers a.timers (subst (λ l. AllZip IsTimer (declared timers_of l) q.timers) same b.timers) in
    let reactions = zip_same (IsReaction all) (one_of_reaction tree lawful all a.are_located) (declared reactions_of all) p.reactions q.reactions a.reactions (subst (λ l. AllZip (IsReaction l) (declared reactions_of l) q.reactions) same b.reactions) in
    let names : p.names ≡ q.names = a.names ∙ ap (names_of tree a.are_located.main) (sym same) ∙ ap (λ m. names_of tree m b.instances) (sym main) ∙ sym b.names in
    λ j. record { ports = ports j; actions = actions j; timers = timers j; reactions = reactions j; names = names j }
