use Rattle.std.proofs.Common.{◌++◌, take, length, inl, inr, option_map, append-nil, sym, ap, subst, ◌∙◌, rules}
use Rattle.std.{specs.List.AllZip, proofs.lemmas.{List.length_push, Result.err_from_is_err_and, Slice.Zip.{zip_turn, zip_end}}}
use Rattle.lft_tree.specs.View.{connection_view, ref_view, ref_views, time_view}
use Rattle.lft_resolve.specs.{inner.{Lost.{IsLost, is_port_kind}, Sheets.{IsJoin, singles_in}}, Kinds.in_role}
use Rattle.lft_resolve.specs.declared.kinds.Role.TheVariants.{Source, Destination}
use Rattle.lft_resolve.proofs.{Joined.{singles_more, singles_all, single, joined_more, Any-role, some_at}, Lost.{lost, source_port, destination_port}}
use Rattle.lft_resolve.proofs.Somes.{Any-left, Any-right}
use Rattle.lft_resolve.proofs.by_number.joins.push_joins.Goals as goal

pub returns-in_err-delay-clause-lost : goal.returns-in_err-delay-clause-lost
returns-in_err-delay-clause-lost c =
    let p = err_from_is_err_and c.from_residual.result c.from_residual.ensures.1 in
    rw (p.1, p.2) (λ other rs r file own. inr (c.in_err-delay.ensures.lost other r own))

pub loop-from-init : goal.loop-from-init
loop-from-init c rs r file own before all = subst (λ l. AllZip (IsJoin rs r) l c.args.joins.now.items) (sym (append-nil before)) all

pub returns-in_err-from-clause-lost : goal.returns-in_err-from-clause-lost
returns-in_err-from-clause-lost c =
    let from = c.args.connection.now.sources.items in
    let to = c.args.connection.now.destinations.items in
    let turn = zip_turn from to c.loop-from.yielded _ _ c.next.new.self c.next.result (search rules) (search rules) c.loop-from.yielded_by (c.in-Some.from, c.in-Some.to) c.in-Some.is c.next.ensures.steps in
    let p = err_from_is_err_and c.from_residual-in_err-from.result c.from_residual-in_err-from.ensures.1 in
    rw (p.1, p.2)
    (λ other rs r file own. inl (Any-left (IsLost rs r) (in_role Source (ref_views from)) (in_role Destination (ref_views to))
    (Any-role rs r Source (ref_views from) (some_at ref_view (λ ref. IsLost rs r (Source, ref)) from (length c.loop-from.yielded) c.in-Some.from.now turn.0 turn.2
    (lost is_port_kind rs r Source (ref_view c.in-Some.from.now) source_port (c.in_err-from.ensures.lost other rs r file own))))))

pub returns-in_err-to-clause-lost : goal.returns-in_err-to-clause-lost
returns-in_err-to-clause-lost c =
    let from = c.args.connection.now.sources.items in
    let to = c.args.connection.now.destinations.items in
    let turn = zip_turn from to c.loop-from.yielded _ _ c.next.new.self c.next.result (search rules) (search rules) c.loop-from.yielded_by (c.in-Some.from, c.in-Some.to) c.in-Some.is c.next.ensures.steps in
    let p = err_from_is_err_and c.from_residual-in_err-to.result c.from_residual-in_err-to.ensures.1 in
    rw (p.1, p.2)
    (λ other rs r file own. inl (Any-right (IsLost rs r) (in_role Source (ref_views from)) (in_role Destination (ref_views to))
    (Any-role rs r Destination (ref_views to) (some_at ref_view (λ ref. IsLost rs r (Destination, ref)) to (length c.loop-from.yielded) c.in-Some.to.now turn.1 turn.3
    (lost is_port_kind rs r Destination (ref_view c.in-Some.to.now) destination_port (c.in_err-to.ensures.lost other rs r file own))))))

pub loop-from-preserved : goal.loop-from-preserved
loop-from-preserved c rs r file own before all =
    let from = c.args.connection.now.sources.items in
    let to = c.args.connection.now.destinations.items in
    let delay = option_map time_view c.args.connection.now.delay in
    let turn = zip_turn from to c.loop-from.yielded _ _ c.next.new.self c.next.result (search rules) (search rules) c.loop-from.yielded_by (c.in-Some.from, c.in-Some.to) c.in-Some.is c.next.ensures.steps in
    let all_singles = singles_in (connection_view c.args.connection.now) in
    let more = ap (λ k. take k all_singles) (length_push c.loop-from.yielded (c.in-Some.from, c.in-Some.to)) ∙ singles_more ref_view delay from to (length c.loop-from.yielded) c.in-Some.from.now c.in-Some.to.now turn.0 turn.1 turn.2 turn.3 in
    rw c.in_ok-push.ensures.items
    (joined_more (IsJoin rs r) before (take (length c.loop-from.yielded) all_singles) _ (single ref_view delay c.in-Some.from.now c.in-Some.to.now) c.loop-from.joins.items _ more (c.loop-from.invariant rs r file own before all)
    (record { from = c.in_ok-from.ensures.ok rs r file own; to = c.in_ok-to.ensures.ok rs r file own; delay = c.in_ok-delay.ensures.ok r own }))

pub returns-clause-ok : goal.returns-clause-ok
returns-clause-ok c rs r file own before all =
    let from = c.args.connection.now.sources.items in
    let to = c.args.connection.now.destinations.items in
    let whole = zip_end from to c.loop-from.yielded _ _ c.next.new.self c.next.result (search rules) (search rules) c.loop-from.yielded_by c.in-None.is c.next.ensures.steps in
    subst (λ l. AllZip (IsJoin rs r) (before ++ l) c.loop-from.joins.items) (singles_all ref_view (option_map time_view c.args.connection.now.delay) from to (length c.loop-from.yielded) whole) (c.loop-from.invariant rs r file own before all)
