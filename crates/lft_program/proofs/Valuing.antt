-- The values of parameters, in the tree and by number.
use Rattle.std.proofs.Common.{◌≡◌, ℕ, List, [], Any, inl, sym, ap, ◌∙◌, subst, Some, slice_get, map, option_map, option_and_then}
use Rattle.std.specs.{List.AllZip, Option.option_map_or}
use Rattle.lft_lists.proofs.Mapped.{mapped_from, option_map_some}
use Rattle.lft_tree.specs.Tree.{FileTree, ReactorTree, InstanceTree, nanoseconds, reactors_of, instances_of}
use Rattle.lft_resolve.specs.inner.Expansion.{Contents.contained, Values.{defaults_of, entered as entered_by_number, given_by, values_in}}
use Rattle.lft_resolve.specs.inner.{Numbers.AreContents, Sheets.{AreValuesGiven, AreParameters, IsGiven, IsParameters}}
use Rattle.lft_resolve.specs.{declared.expansion.{settings.Parameters.Parameters, walk.Contents.Contents}, Causes.{HasLongTime, NoneHolds, first_causes}}
use Rattle.lft_resolve.specs.Instances.{Inside, entered, given_in, main_instance, reactor_named}
use Rattle.lft_resolve.proofs.{ExpansionLemmas.Simulation.Simulates, Twice.Any-at, Directed.AllZip-to}
use Rattle.lft_program.proofs.{Containing.inner_at, Entering.{entered_by, enters, made_in, step_forth}}
use Rattle.lft_program.proofs.Giving.{defaults_short, given_short, parameters_once, values_given}

-- the reactor's number and the values are those of the instance
abbrev pub HasValues : List ReactorTree → Inside → ℕ × List ℕ → Type 0
HasValues rs x p = (slice_get rs p.0 ≡ Some x.reactor) × (p.1 ≡ x.values)

module _ (rs : List ReactorTree) (table : List Parameters) (are : AreParameters rs table) (first : NoneHolds (first_causes rs)) (short : Any HasLongTime rs → ⊥) where
  defaults_are : (n : ℕ) (r : ReactorTree) → slice_get rs n ≡ Some r → defaults_of table n ≡ map (λ p. nanoseconds p.default) r.parameters
  defaults_are n r at =
      let p = AllZip-to (IsParameters rs) rs table are n r at in
      ap (λ o. option_map_or (λ p. p.defaults.items) o []) p.1 ∙ p.2.defaults ∙ defaults_short r.parameters (λ l. short (Any-at HasLongTime rs n r at (inl l)))

  pub main_values : (n : ℕ) (r : ReactorTree) → slice_get rs n ≡ Some r → HasValues rs (main_instance r) (n, defaults_of table n)
  main_values n r at = (at, defaults_are n r at)

  given_are : (n k : ℕ) (o : ReactorTree) (i : InstanceTree) (r : ReactorTree) → slice_get rs n ≡ Some o → slice_get (instances_of o) k ≡ Some i → reactor_named rs i.reactor ≡ Some r → AllZip (IsGiven o r) i.given (given_by table n k)
  given_are n k o i r at e named =
      let p = AllZip-to (IsParameters rs) rs table are n o at in
      let g = AllZip-to (AreValuesGiven rs o) (instances_of o) (map (λ g. g.items) p.0.given.items) p.2.given k i e in
      let v = mapped_from (λ g. g.items) p.0.given.items k g.0 g.1 in
      let same : g.2.0 ≡ r = (let f : Some g.2.0 ≡ Some r = sym g.2.1 ∙ named in cc) in
      let is : given_by table n k ≡ g.0 = ap (λ o. option_map_or (λ given. given.items) (option_and_then (λ p. slice_get p.given.items k) o) []) p.1 ∙ ap (λ o. option_map_or (λ given. given.items) o []) v.1 ∙ v.2 in
      subst (λ l. AllZip (IsGiven o r) i.given l) (sym is) (subst (λ q. AllZip (IsGiven o q) i.given g.0) same g.2.2)

  valued : (x : Inside) (p : ℕ × List ℕ) (k m : ℕ) (i : InstanceTree) (r : ReactorTree) → HasValues rs x p → slice_get (instances_of x.reactor) k ≡ Some i → reactor_named rs i.reactor ≡ Some r → slice_get rs m ≡ Some r → values_in p.1 (given_by table p.0 k) (defaults_of table m) ≡ map (given_in x i.given) r.parameters
  valued x p k m i r has e named at =
      ap (λ v. values_in v (given_by table p.0 k) (defaults_of table m)) has.1
      ∙ ap (values_in x.values (given_by table p.0 k)) (defaults_are m r at)
      ∙ values_given x r (parameters_once rs m r first at) i.given (given_by table p.0 k)
      (λ j a f. given_short x.reactor k j i a (λ l. short (Any-at HasLongTime rs p.0 x.reactor has.0 l)) e f)
      (given_are p.0 k x.reactor i r has.0 e named)

-- the tree and the numbers with values go side by side
module _ (tree : FileTree) (contents : List Contents) (table : List Parameters) (are_contents : AreContents (reactors_of tree) contents) (are : AreParameters (reactors_of tree) table) (first : NoneHolds (first_causes (reactors_of tree))) (short : Any HasLongTime (reactors_of tree) → ⊥) where
  values_forth : (x : Inside) (p : ℕ × List ℕ) (k : ℕ) (y : Inside) → HasValues (reactors_of tree) x p → entered tree x k ≡ Some y → (q : ℕ × List ℕ) × (entered_by_number contents table p k ≡ Some q) × HasValues (reactors_of tree) y q
  values_forth x p k y has e =
      let s = entered_by tree x k y e in
      let b = step_forth tree contents are_contents x p.0 k y has.0 e in
      let v : List ℕ = values_in p.1 (given_by table p.0 k) (defaults_of table b.0) in
      let at : slice_get (reactors_of tree) b.0 ≡ Some s.r = b.2 ∙ ap (λ z. Some z.reactor) (sym s.is_made) in
      ((b.0, v), ap (option_map (λ r. (r, values_in p.1 (given_by table p.0 k) (defaults_of table r)))) b.1, (b.2, valued (reactors_of tree) table are first short x p k b.0 s.i s.r has s.is_instance s.is_reactor at ∙ ap (λ z. z.values) s.is_made))

  values_back : (x : Inside) (p : ℕ × List ℕ) (k : ℕ) (q : ℕ × List ℕ) → HasValues (reactors_of tree) x p → entered_by_number contents table p k ≡ Some q → (y : Inside) × (entered tree x k ≡ Some y) × HasValues (reactors_of tree) y q
  values_back x p k q has e =
      let step : ℕ → ℕ × List ℕ = λ r. (r, values_in p.1 (given_by table p.0 k) (defaults_of table r)) in
      let m = option_map_some step (contained contents p.0 k) q e in
      let i = inner_at (reactors_of tree) contents are_contents p.0 k m.0 x.reactor has.0 m.1 in
      let is = valued (reactors_of tree) table are first short x p k m.0 i.0 i.2.0 has i.1 i.2.1 i.2.2 in
      (made_in x i.0 i.2.0, enters tree x k i.0 i.2.0 i.1 i.2.1, subst (HasValues (reactors_of tree) (made_in x i.0 i.2.0)) m.2 (i.2.2, is))

  pub values_go_along : Simulates (HasValues (reactors_of tree)) (entered tree) (entered_by_number contents table)
  values_go_along = record {
    forth = λ x p k y has e. values_forth x p k y has e;
    back = λ x p k q has e. values_back x p k q has e;
  }
