use Rattle.std.proofs.Common.{◌≡◌, refl, arith, true, false}
use Rattle.lft_lists.proofs.Places.{get_there}
use Rattle.lft_counts.proofs.Tallied.{counted_start, counted_write, counted_none, is_port}
use Rattle.lft_graph.proofs.Counting.{count_within}
use Rattle.lft_counts.proofs.cover.Counting.add.Goals as goal

pub add-requires-clause-few : goal.add-requires-clause-few
add-requires-clause-few g c n e = omega (arith, count_within (c.requires.1.1.1.runs c.args.row.reaction n e), c.requires.1.0)

pub begin-requires : goal.begin-requires
begin-requires g c = omega (arith, count_within (c.requires.1.1.1.workers c.args.row.worker), c.requires.1.0)

pub returns-then-is_start : goal.returns-then-is_start
returns-then-is_start g c =
    let so = c.requires.1.1.1 in
    let row = c.args.row in
    let old = c.args.self.now in
    let n = get_there old.runs row.reaction (let a = so.reactions in let b = c.requires.1.1.0.reaction in omega (arith, a, b)) in
    counted_start g.here.trace g.here.place row c.requires.0 g.here.program old so n.0 _ (c.if-is_start.ensures.0 refl) n.1 (c.add.ensures n.0 n.1) refl c.in_ok-begin.ensures.more c.in_ok-begin.ensures.listed

pub add-requires-in-Some-clause-few : goal.add-requires-in-Some-clause-few
add-requires-in-Some-clause-few g c n e = omega (arith, count_within (c.requires.1.1.1.writes c.in-Some.port n e), c.requires.1.0)

pub returns-in-Some : goal.returns-in-Some
returns-in-Some g c =
    let so = c.requires.1.1.1 in
    let row = c.args.row in
    let old = c.args.self.now in
    let s = c.in-Some.ensures.some in
    let n = get_there old.writes c.in-Some.port (let a = so.ports in let b = is_port g.here.program row c.in-Some.port s.0 s.1 c.requires.1.1.0 in omega (arith, a, b)) in
    counted_write g.here.trace g.here.place row c.requires.0 g.here.program old so c.in-Some.port n.0 s.0 _ s.1 n.1 (c.add-in-Some.ensures n.0 n.1) refl refl

pub returns : goal.returns
returns g c = counted_none g.here.trace g.here.place c.args.row c.requires.0 g.here.program c.args.self.now c.requires.1.1.1 (λ e. let z : ◌≡◌ false true = c.if-is_start.ensures.1 e in absurd (cc)) c.in_default.ensures.none
