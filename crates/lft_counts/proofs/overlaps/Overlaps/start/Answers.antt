use Rattle.std.proofs.Common.{◌≡◌, ◌+◌, length, List, ℕ, Some, slice_get, sym, ap, ◌∙◌, subst, arith}
use Rattle.std.proofs.lemmas.Option.{slice_get-get_or}
use Rattle.lft_lists.proofs.Places.{get_there}
use Rattle.lft_counts.{specs.Overlaps.AreWidthCounts, proofs.{Going.started, Overlapping.{open_more, met_more, widths_more}}}
use Rattle.lft_graph.proofs.Counting.{count_within}
use Rattle.lft_counts.proofs.overlaps.Overlaps.start.Goals as goal

pub overflow_add-self : goal.overflow_add-self
overflow_add-self g c = omega (arith, c.requires.1.0.met.as_long, count_within c.requires.1.0.running.number)

pub add-requires-clause-number : goal.add-requires-clause-number
add-requires-clause-number g c =
    let so = c.requires.1.0 in
    let here = started g.here.trace g.here.place c.args.row c.requires.1.1.1.1.1 c.requires.1.1.0 in
    let running = open_more g.here.trace (length g.here.program.reactions) g.here.place c.requires.0 c.args.row.worker c.args.row.tag c.args.row.reaction here c.requires.1.1.1.1.0 c.args.self.now.running c.toggle.new.self c.args.self.now.many so.running c.toggle.ensures.room c.toggle.ensures.others c.toggle.ensures.put in
    omega (arith, so.widths.as_long, count_within running.number)

pub add-requires-clause-few : goal.add-requires-clause-few
add-requires-clause-few g c n e = omega (arith, count_within (c.requires.1.0.widths.right (c.args.self.now.many + 1) n e), c.requires.1.1.1.0)

pub returns : goal.returns
returns g c =
    let t = g.here.trace in
    let m = length g.here.program.reactions in
    let i = g.here.place in
    let row = c.args.row in
    let old = c.args.self.now in
    let so = c.requires.1.0 in
    let known = c.requires.1.1.1.1.0 in
    let here = started t i row c.requires.1.1.1.1.1 c.requires.1.1.0 in
    let met = old.met.items in
    let set = c.index_mut.result.now in
    let was : slice_get c.args.self.now.met.items c.args.row.reaction ≡ Some c.index_mut.result.now = slice_get-get_or met row.reaction set (let l = so.met.as_long in omega (arith, l, known)) ∙ ap Some (sym c.index_mut.ensures.value) in
    let running = open_more t m i c.requires.0 row.worker row.tag row.reaction here known old.running c.toggle.new.self old.many so.running c.toggle.ensures.room c.toggle.ensures.others c.toggle.ensures.put in
    let n = get_there old.widths (old.many + 1) (let l = so.widths.as_long in let w = count_within running.number in omega (arith, l, w)) in
    record {
      running = running;
      met = met_more t m i c.requires.0 row.worker row.tag row.reaction here known old.running old.many met set c.add_all.new.self was c.add_all.ensures.room c.add_all.ensures.members so.running so.met;
      widths = subst (λ (z : List ℕ). AreWidthCounts t m (i + 1) z) (sym (c.add.ensures n.0 n.1)) (widths_more t m i c.requires.0 row.worker row.tag row.reaction here known old.widths (old.many + 1) n.0 n.1 running.number so.widths);
    }
