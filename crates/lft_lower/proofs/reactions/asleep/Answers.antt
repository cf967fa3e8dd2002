use Rattle.std.proofs.Common.{◌≡◌, Some, None, string_bytes, refl, rules}
use Rattle.std.specs.Prelude.{option_map}
use Rattle.lft_lower.{specs.inner.Meanings.Meanings.here, proofs.{Adding.{asleep_added, asleep_known}, Standing.at_none}}
use Rattle.lft_lower.proofs.reactions.asleep.Goals as goal

pub returns-in-Some-clause-added : goal.returns-in-Some-clause-added
returns-in-Some-clause-added c =
    let is : option_map (λ x. string_bytes x) c.args.name.now ≡ Some (string_bytes c.in_ok-known.known) = search rules in
    asleep_known (here c.args.within) (string_bytes c.in_ok-known.known) _ c.args.list.now.items is

pub returns-clause-added : goal.returns-clause-added
returns-clause-added c =
    let none : option_map (λ x. string_bytes x) c.args.name.now ≡ None = search rules in
    asleep_added (here c.args.within) (string_bytes c.in_ok-free.free) _ c.args.list.now.items _ none c.in_ok-free.ensures.free c.in_ok-free.ensures.name c.in_ok-free.ensures.added

pub returns-in-Some-clause-at : goal.returns-in-Some-clause-at
returns-in-Some-clause-at c = at_none c.args.list.now.items c.args.at _ refl

pub returns-clause-at : goal.returns-clause-at
returns-clause-at c = c.in_ok-free.ensures.at
