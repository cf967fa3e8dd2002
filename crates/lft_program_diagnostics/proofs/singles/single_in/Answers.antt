use Rattle.std.proofs.Common.{◌≡◌, ◌<◌, Some, None, length, take, ap, arith, sym, subst, slice_get, ◌∙◌}
use Rattle.std.{specs.{Option.option_map, Borrow.Bor}, proofs.lemmas.{Option.slice_get-get_or, List.{length-map, take_all}}}
use Rattle.lft_lists.proofs.Mapped.{mapped}
use Rattle.lft_tree.specs.{Tree.connection_in, View.{connection_view, member_view, member_views, ref_view}, declared.tree.Connection.Connection}
use Rattle.lft_program_diagnostics.proofs.Numbered.{found_here, other_member, singles_among, this_member}
use Rattle.lft_program_diagnostics.proofs.singles.single_in.Goals.{in-Some+else-left-width, in_default}
use Rattle.lft_program_diagnostics.proofs.singles.single_in.Goals as goal

pub returns-then-left-width-clause-some : goal.returns-then-left-width-clause-some
returns-then-left-width-clause-some c =
    let items = c.args.reactor.now.members.items in
    let views = member_views items in
    let k = c.loop-member.member in
    let x = c.index.result.now in
    let t = c.loop-member-test.true in
    let e = c.len-member-end.ensures ∙ c.args.reactor.now.members.ok.0 in
    let low : k < length items = omega (arith, t, e) in
    let at : slice_get views k ≡ Some (member_view x) = mapped member_view items k x (slice_get-get_or items k x low ∙ ap Some (sym c.index.ensures)) in
    let cv = connection_view c.in-Some.connection.now in
    let is : Some cv ≡ connection_in (member_view x) = sym (ap (option_map (λ (y : Bor Connection). connection_view y.now)) c.in-Some.is) ∙ c.as_connection.ensures in
    let from = length-map c.in-Some.connection.now.sources.items ref_view in
    let to = length-map c.in-Some.connection.now.destinations.items ref_view in
    let w = c.min-width.ensures in
    let a = c.len.ensures in
    let b = c.len-in-Some.ensures in
    let less = c.if-left-width.true in
    let found = found_here views k (member_view x) at cv is c.loop-member.left (omega (arith, from, w, a, b, less)) (omega (arith, to, w, a, b, less)) in
    (found.0, subst (λ n. slice_get (singles_among views) n ≡ Some found.0) c.loop-member.invariant found.1, found.2)

pub loop-member-preserved : goal.loop-member-preserved
loop-member-preserved c =
    let items = c.args.reactor.now.members.items in
    let views = member_views items in
    let k = c.loop-member.member in
    let x = c.index.result.now in
    let t = c.loop-member-test.true in
    let e = c.len-member-end.ensures ∙ c.args.reactor.now.members.ok.0 in
    let low : k < length items = omega (arith, t, e) in
    let at : slice_get views k ≡ Some (member_view x) = mapped member_view items k x (slice_get-get_or items k x low ∙ ap Some (sym c.index.ensures)) in
    let so_far = c.loop-member.invariant in
    elim c.match-as_connection.branch [
      | in-Some+else-left-width w ↦ (
          let cv = connection_view w.in-Some.connection.now in
          let is : Some cv ≡ connection_in (member_view x) = sym (ap (option_map (λ (y : Bor Connection). connection_view y.now)) w.in-Some.is) ∙ c.as_connection.ensures in
          let from = length-map w.in-Some.connection.now.sources.items ref_view in
          let to = length-map w.in-Some.connection.now.destinations.items ref_view in
          let more = this_member views k (member_view x) at cv is in
          let v = w.min-width.ensures in
          let a = w.len.ensures in
          let b = w.len-in-Some.ensures in
          let past = w.if-left-width.false in
          let left = w.left-is in
          omega (arith, more, from, to, v, a, b, past, left, so_far)
          )
      | in_default w ↦ (
          let is : None ≡ connection_in (member_view x) = sym (ap (option_map (λ (y : Bor Connection). connection_view y.now)) w.in_default.is) ∙ c.as_connection.ensures in
          let same = other_member views k (member_view x) at is in
          let left = w.left-is in
          omega (arith, same, left, so_far)
          )
    ]

pub returns-clause-none : goal.returns-clause-none
returns-clause-none c =
    let views = member_views c.args.reactor.now.members.items in
    let past = c.loop-member-test.false in
    let e = c.len-member-end.ensures ∙ c.args.reactor.now.members.ok.0 in
    let long = length-map c.args.reactor.now.members.items member_view in
    let all : take c.loop-member.member views ≡ views = take_all c.loop-member.member views (omega (arith, past, e, long)) in
    let same : length (singles_among (take c.loop-member.member views)) ≡ length (singles_among views) = ap (λ l. length (singles_among l)) all in
    let so_far = c.loop-member.invariant in
    omega (arith, same, so_far)
