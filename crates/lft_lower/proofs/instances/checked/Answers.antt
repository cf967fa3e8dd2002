use Rattle.std.proofs.Common.{◌≡◌, ◌≤◌, ℕ, List, [], Some, map, slice_get, subst, sym, ap, ◌∙◌}
use Rattle.std.specs.Prelude.{option_map, unwrap_or}
use Rattle.std.{specs.{Option.option_and_then, List.flat_map}, proofs.lemmas.Option.slice_get-map}
use Rattle.lft_classes.specs.declared.shapes.{Shape.Shape, Child.Child}
use Rattle.lft_elaborate.specs.{inner.Meanings.shape_inside, declared.settings.Settings.Settings}
use Rattle.lft_lower.{specs.inner.{Meanings.Meanings.{here, token_in}, Needed.{needed_given, needed_in}, Standing.given_token}, proofs.Needing.none_lacks}
use Rattle.lft_lower.proofs.instances.checked.Goals as goal

-- so many parameters of the shape in an instance have to be given
is_count : (made now : Settings) (counts : List ℕ) (number count : ℕ) (inner : Shape) → counts ≡ map needed_in made.shapes.items → made ≡ now → slice_get now.shapes.items number ≡ Some inner → count ≡ unwrap_or (slice_get counts number) 0 → count ≡ needed_in inner
is_count made now counts number count inner counted same there is =
    let at : slice_get counts number ≡ Some (needed_in inner) =
    ap (λ ns. slice_get ns number) counted
    ∙ ap (λ s. slice_get (map needed_in s.shapes.items) number) same
    ∙ slice_get-map needed_in now.shapes.items number
    ∙ ap (option_map needed_in) there in
    is ∙ ap (λ o. unwrap_or o 0) at

pub returns-clause-given : goal.returns-clause-given
returns-clause-given c same =
    let child = c.in-Some.child.now in
    let inner = c.in-Some-inner_shape.inner.now in
    let now = c.args.within.settings.now in
    let there : slice_get now.shapes.items child.shape ≡ Some inner = ap (option_and_then (λ ch. slice_get now.shapes.items ch.shape)) c.in-Some.ensures ∙ sym c.in-Some-inner_shape.ensures in
    let is = is_count c.args.maker.settings.now now c.args.maker.needed.now child.shape c.needed_of-needed.result inner c.args.maker.counted same there c.needed_of-needed.ensures in
    let enough = subst (λ n. n ≤ needed_given inner child) is (c.gives_needed.ensures.enough c.if-not-gives_needed.false) in
    (child, inner, sym c.in-Some.ensures, sym c.in-Some-inner_shape.ensures, none_lacks inner child enough, c.in_ok-given.ensures.read, c.in_ok-given.ensures.given)

pub returns-clause-at : goal.returns-clause-at
returns-clause-at c =
    let number = token_in c.args.within in
    let h = here c.args.within in
    let child = c.in-Some.child.now in
    c.in_ok-given.ensures.at
    ∙ ap (λ o. unwrap_or (option_map (λ (s : Shape). flat_map (given_token number s) child.given.items) o) []) c.in-Some-inner_shape.ensures
    ∙ ap (λ o. unwrap_or (option_and_then (λ (ch : Child). option_map (λ (s : Shape). flat_map (given_token number s) ch.given.items) (shape_inside h.settings.shapes.items h.shape c.args.member)) o) []) c.in-Some.ensures
