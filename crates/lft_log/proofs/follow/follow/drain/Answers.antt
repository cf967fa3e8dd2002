use Rattle.std.proofs.Common.{◌≡◌, ◌<◌, ◌∙◌, ap, arith, length}
use Rattle.lft_log.proofs.follow.follow.drain.Goals as goal

pub returns-in-Ok-eq0 : goal.returns-in-Ok-eq0
returns-in-Ok-eq0 g c ok =
    let long : length c.as_mut_slice.result.now ≡ 262144 = ap length c.as_mut_slice.ensures.value ∙ c.loop.invariant in
    let room : 0 < length c.read.new.buf = omega (arith, long, c.read.auto.buf) in
    c.in-Ok-eq0.ensures.bytes.1 c.in-Ok-eq0.field-0-test room
