use Rattle.std.proofs.Common.{◌≡◌, ◌+◌, inl, List, length, length-append, ap, arith, ◌∙◌}
use Rattle.std.proofs.lemmas.List.{length-take-le}
use Rattle.lft_ir.specs.declared.steps.row.Row.{Row}
use Rattle.lft_monitor.{specs.inner.Follows.{done_of, held_of}, proofs.Following.judged_so_far}
use Rattle.lft_monitor.proofs.follower.Follower.unjudged.Goals as goal

pub returns : goal.returns
returns c = λ plan t is.
    let f = c.args.self.now in
    let long : length t ≡ length (done_of t f) + length (held_of f) = ap (λ (x : List Row). length x) is.parts ∙ length-append (done_of t f) (held_of f) in
    let counted = is.held.judged.counted in
    let held = length-take-le f.held f.rows.items is.within in
    (inl (judged_so_far plan t f is), omega (arith, long, counted, held))
