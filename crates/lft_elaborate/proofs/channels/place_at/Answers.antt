use Rattle.std.proofs.Common.{◌*◌, ◌<◌, slice_get, ap, ◌∙◌, arith}
use Rattle.lft_elaborate.{specs.inner.Channels.Channels.places, proofs.ChannelsLemmas.Grids.cell_at}
use Rattle.lft_elaborate.proofs.channels.place_at.Goals as goal

-- src/lib.rt:30:1
pub returns-then-interleaved : goal.returns-then-interleaved
returns-then-interleaved c =
    let there : c.args.place < c.args.channels * c.args.members = grind (arith, c.requires) in
    ap (λ b. slice_get (places c.args.members c.args.channels b) c.args.place) c.if-interleaved.true ∙ cell_at (λ channel member. (member, channel)) c.args.channels c.args.members c.args.place there

-- src/lib.rt:30:1
pub returns-else-interleaved : goal.returns-else-interleaved
returns-else-interleaved c =
    ap (λ b. slice_get (places c.args.members c.args.channels b) c.args.place) c.if-interleaved.false ∙ cell_at (λ member channel. (member, channel)) c.args.members c.args.channels c.args.place c.requires
