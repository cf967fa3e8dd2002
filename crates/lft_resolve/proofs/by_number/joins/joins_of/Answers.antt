use Rattle.std.proofs.Common.{◌≡◌, Any, map, filter_map, flat_map, take, sym, ap, subst, ◌∙◌, arith}
use Rattle.std.{specs.List.AllZip, proofs.lemmas.{Grind.common_steps, Result.err_from_is_err_and}}
use Rattle.lft_tree.specs.{Tree.{ReactorTree, connection_in, connections_of}, View.{connection_view, member_view}}
use Rattle.lft_resolve.specs.inner.{Lost.LosesIn, References.connection_trees, Sheets.{IsJoin, singles_in}, Tables.IsOwn}
use Rattle.lft_resolve.proofs.{Joined.lost_among, Somes.some_here, by_number.joins.joins_of.Goals.After-deref-connection-items}
use Rattle.lft_resolve.proofs.by_number.joins.joins_of.Goals as goal

all : (c : After-deref-connection-items) (r : ReactorTree) → IsOwn r c.args.own.now → connection_trees c.deref-connection-items.result.now ≡ connections_of r
all c r own = ap connection_trees c.deref-connection-items.ensures.value ∙ c.in_ok-declared.ensures ∙ ap (λ ms. filter_map connection_in (map member_view ms)) c.deref.ensures.value ∙ ap connections_of own.reactor

pub returns-in_err-push_joins-clause-lost : goal.returns-in_err-push_joins-clause-lost
returns-in_err-push_joins-clause-lost c =
    let p = err_from_is_err_and c.from_residual-in_err-push_joins.result c.from_residual-in_err-push_joins.ensures.1 in
    rw (p.1, p.2)
    (λ other rs r file own. lost_among rs r (subst (Any (LosesIn rs r)) (all ((goal.at.returns-in_err-push_joins-clause-lost c).After-deref-connection-items) r own) (some_here (λ x. connection_view x.now) (LosesIn rs r) c.deref-connection-items.result.now c.loop-connection.connection-index c.connection-item.result c.loop-connection-test.true (sym c.connection-item.is) (c.in_err-push_joins.ensures.lost other rs r file own))))

pub returns-clause-ok : goal.returns-clause-ok
returns-clause-ok c rs r file own =
    let whole : take c.loop-connection.connection-index c.deref-connection-items.result.now ≡ c.deref-connection-items.result.now = grind (arith, common_steps) in
    subst (λ l. AllZip (IsJoin rs r) (flat_map singles_in l) c.loop-connection.joins.items) (ap connection_trees whole ∙ all ((goal.at.returns-clause-ok c).After-deref-connection-items) r own) (c.loop-connection.invariant rs r file own)
