use Rattle.std.proofs.Common.{◌<◌, List, ℕ, Some, length, sym, ap, ◌∙◌}
use Rattle.std.proofs.lemmas.Option.{slice_get-get_or}
use Rattle.lft_graph.proofs.Ancestry.{union_more}
use Rattle.lft_graph.proofs.ancestors.union_of.Goals as goal

pub loop-place-preserved : goal.loop-place-preserved
loop-place-preserved c =
    let sets : List (List ℕ) = c.args.sets.now in
    let own : List ℕ = c.index-sets-member.result in
    let there : c.item_at-member.result < length sets = c.requires.list c.loop-place.place c.item_at-member.result c.item_at-member.ensures in
    record {
      room = c.add_all.ensures.room ∙ c.insert.ensures.room ∙ c.loop-place.invariant.room;
      members = union_more c.args.list.now sets c.loop-place.place c.item_at-member.result own c.loop-place.union c.insert.new.self c.add_all.new.self c.item_at-member.ensures (slice_get-get_or sets c.item_at-member.result own there ∙ ap Some (sym c.index-sets-member.is)) c.insert.ensures.members c.add_all.ensures.members c.loop-place.invariant.members;
    }
