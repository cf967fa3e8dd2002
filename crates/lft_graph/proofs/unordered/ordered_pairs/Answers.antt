use Rattle.std.proofs.Common.{◌≡◌, length, subst, arith}
use Rattle.lft_graph.specs.{Counts.Count, Precedence.Precedes}
use Rattle.lft_graph.proofs.{Counting.count_within, Numbered.{count_precede, one_way}, Once.{Rows, no_rows, and_row, rows_within, once}}
use Rattle.lft_graph.proofs.unordered.ordered_pairs.Goals as goal

pub loop-reaction-init : goal.loop-reaction-init
loop-reaction-init c = no_rows

pub count-many-requires : goal.count-many-requires
count-many-requires c =
    let room = c.requires.ancestors.room c.loop-reaction.reaction c.of.result.now c.of.ensures in
    let long = c.requires.ancestors.as_long in
    let few = c.reactions-reaction-end.ensures.sound.limits.reactions in
    omega (arith, room, long, few)

-- as many as precede the reaction
preceding : (c : goal.After-count-many) → Count (λ a. Precedes c.args.program.now a c.loop-reaction.reaction) (length c.args.program.now.reactions) c.count-many.result
preceding c = count_precede c.args.program.now c.args.ancestors.now c.requires.ancestors c.loop-reaction.reaction c.count-many.result c.of.result.now c.of.ensures c.count-many.ensures

pub overflow_add-many : goal.overflow_add-many
overflow_add-many c =
    let few = c.reactions-reaction-end.ensures.sound.limits.reactions in
    let so_far = rows_within few c.loop-reaction.invariant in
    let more = count_within (preceding c) in
    omega (arith, few, so_far, more)

pub loop-reaction-preserved : goal.loop-reaction-preserved
loop-reaction-preserved c = and_row c.loop-reaction.invariant (preceding c)

pub returns : goal.returns
returns c =
    let program = c.args.program.now in
    let n = length c.args.program.now.reactions in
    let all : c.loop-reaction.reaction ≡ length c.args.program.now.reactions = omega arith in
    once (Precedes program) c.requires.no_loop (one_way program c.requires.no_loop) n c.loop-reaction.many (subst (λ k. Rows (Precedes c.args.program.now) (length c.args.program.now.reactions) k c.loop-reaction.many) all c.loop-reaction.invariant)
