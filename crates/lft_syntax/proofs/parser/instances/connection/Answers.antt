use Rattle.std.proofs.Common.{◌≡◌, ℕ, ◌+◌, ap, subst, ◌∙◌}
use Rattle.std.specs.Prelude.{IfSome}
use Rattle.lft_syntax.specs.{Placed.{ReferencesStand, TimeStands, references_tokens}, inner.Parsing.words}
use Rattle.lft_syntax.proofs.parser.instances.connection.Goals as goal

pub returns-clause-stands : goal.returns-clause-stands
returns-clause-stands c =
    let ws = words c.args.input.now in
    let destinations = c.in_ok-destinations.destinations.items in
    let at_after : c.in_ok-destinations.behind ≡ c.in_ok-sources.arrow_at + 1 + references_tokens destinations = c.in_ok-destinations.ensures.stand.1 ∙ ap (λ (k : ℕ). k + references_tokens destinations) c.in_ok-first.ensures.next.0 in (
      c.in_ok-sources.ensures.stand.0,
      c.in_ok-sources.ensures.stand.1,
      c.in_ok-first.ensures.next.1,
      subst (λ (k : ℕ). ReferencesStand ws k destinations) c.in_ok-first.ensures.next.0 c.in_ok-destinations.ensures.stand.0,
      subst (λ (k : ℕ). IfSome c.in_ok-delay.delay (TimeStands (k + 1))) at_after c.in_ok-delay.ensures.stands,
    )
