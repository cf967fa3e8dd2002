use Rattle.std.proofs.Common.{refl, arith}
use Rattle.lft_rows.proofs.PresenceLemmas.{Paired.{scan_begins, scan_over, scan_past, scan_finds, scan_goes_on}, Lists.not_true}
use Rattle.lft_rows.proofs.presence.pairs.first_pair.Goals as goal

pub loop-place-init : goal.loop-place-init
loop-place-init c = scan_begins c.args.causes.now c.args.ports c.args.name c.position-place.result (c.none.result.time, c.none.result.steps) c.position-place.ensures

pub returns-then-is_pair : goal.returns-then-is_pair
returns-then-is_pair c = scan_finds c.args.causes.now c.requires.ascending c.args.ports c.args.name c.loop-place.place c.loop-place.invariant c.item_at.result c.item_at-next.result c.item_at.ensures c.item_at-next.ensures (c.if-is_pair.ensures.0 refl)

pub loop-place-preserved : goal.loop-place-preserved
loop-place-preserved c = scan_goes_on c.args.causes.now c.requires.ascending c.args.ports c.args.name c.loop-place.place c.loop-place.invariant c.item_at.result c.item_at-next.result c.item_at.ensures c.item_at-next.ensures (λ p. not_true (c.if-is_pair.ensures.1 p))

pub returns : goal.returns
returns c = scan_over c.args.causes.now c.requires.ascending c.args.ports c.args.name c.loop-place.place c.loop-place.invariant (omega arith)

pub returns-then-next-name : goal.returns-then-next-name
returns-then-next-name c = scan_past c.args.causes.now c.requires.ascending c.args.ports c.args.name c.loop-place.place c.loop-place.invariant c.item_at-next.result c.item_at-next.ensures c.if-next-name.true
