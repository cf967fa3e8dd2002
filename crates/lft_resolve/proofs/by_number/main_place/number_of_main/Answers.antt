use Rattle.std.proofs.Common.{◌≡◌, Any, true, take, sym, subst, arith}
use Rattle.std.proofs.lemmas.Grind.{common_steps}
use Rattle.lft_lists.proofs.Mapped.{mapped_at}
use Rattle.lft_tree.specs.View.{reactor_view}
use Rattle.lft_resolve.{specs.{Causes.NoMain, inner.References.reactor_trees}, proofs.Firsts.{first_found, none_passes}}
use Rattle.lft_resolve.proofs.by_number.main_place.number_of_main.Goals as goal

pub returns-then-reactor : goal.returns-then-reactor
returns-then-reactor c =
    let here = c.index-reactors-number.result in (
      reactor_view here.now,
      first_found (λ r. reactor_view r.now) (λ r. r.is_main) c.args.reactors.now c.loop-number.number here c.loop-number-test.true (sym c.index-reactors-number.is) c.loop-number.invariant c.if-reactor.true,
      mapped_at (λ r. reactor_view r.now) c.args.reactors.now c.loop-number.number here c.loop-number-test.true (sym c.index-reactors-number.is),
    )

pub returns : goal.returns
unfolding NoMain
returns c =
    let whole : take c.loop-number.number c.args.reactors.now ≡ c.args.reactors.now = grind (arith, common_steps) in
    none_passes (λ r. r.is_main) (reactor_trees c.args.reactors.now) (subst (λ l. Any (λ r. r.is_main ≡ true) (reactor_trees l) → ⊥) whole c.loop-number.invariant)
