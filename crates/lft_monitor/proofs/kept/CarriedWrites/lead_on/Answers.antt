use Rattle.std.proofs.Common.{◌≡◌, ◌<◌, IsTrue, length, arith}
use Rattle.lft_monitor.proofs.Furthest.{leads_of, ways_long}
use Rattle.lft_monitor.proofs.kept.CarriedWrites.lead_on.Goals as goal

pub leads_on-requires-clause-port : goal.leads_on-requires-clause-port
leads_on-requires-clause-port c =
    let a : length c.of.result.now ≡ length c.args.program.now.ports = ways_long c.args.program.now c.args.self.now c.requires.ways c.is_over.result c.of.result.now c.of.ensures in
    let b = c.requires.port in
    omega (arith, a, b)

pub returns : goal.returns
returns c = λ late p delays way.
    let f = c.leads_on.ensures late in
    leads_of c.args.program.now c.ports.ensures.sound c.args.self.now c.requires.ways c.is_over.result (IsTrue c.args.is_apart) (c.args.tag.time < c.args.low.time) c.is_over.ensures c.of.result.now c.of.ensures c.args.origin f.0 c.args.tag c.args.low f.1 f.2 p delays way
