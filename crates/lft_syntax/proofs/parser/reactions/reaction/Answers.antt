use Rattle.std.proofs.Common.{◌≡◌, ℕ, ◌+◌, refl, ap, subst, ◌∙◌}
use Rattle.lft_syntax.specs.Placed.{TriggersStand, ReferencesStand, EffectsStand, past_name, row_tokens, references_tokens, trigger_tokens}
use Rattle.lft_syntax.specs.inner.Parsing.{words}
use Rattle.lft_syntax.proofs.parser.reactions.reaction.Goals as goal

pub returns-clause-stands : goal.returns-clause-stands
returns-clause-stands c =
    let ws = words c.args.input.now in
    let triggers = c.in_ok-triggers.triggers.items in
    let uses = c.in_ok-uses.uses.items in
    let opening : ℕ = past_name ws (c.args.at + 1) in
    let at_opening : c.in_ok-opening.opening ≡ opening = c.in_ok-opening.ensures.next ∙ ap (past_name ws) c.in_ok-own.ensures.next in
    let at_uses : c.in_ok-triggers.behind ≡ opening + row_tokens trigger_tokens triggers + 2 = c.in_ok-triggers.ensures.stand.1 ∙ ap (λ (k : ℕ). k + row_tokens trigger_tokens triggers + 2) at_opening in
    let at_arrow : c.in_ok-uses.arrow ≡ opening + row_tokens trigger_tokens triggers + 2 + references_tokens uses = c.in_ok-uses.ensures.stand.1 ∙ ap (λ (k : ℕ). k + references_tokens uses) at_uses in (
      refl,
      (
        subst (λ (k : ℕ). TriggersStand ws (k + 1) triggers) at_opening c.in_ok-triggers.ensures.stand.0,
        subst (λ (k : ℕ). ReferencesStand ws k uses) at_uses c.in_ok-uses.ensures.stand.0,
        subst (λ (k : ℕ). EffectsStand ws k c.in_ok-effects.effects.items) at_arrow c.in_ok-effects.ensures.stand,
      ),
    )
