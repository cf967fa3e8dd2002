use Rattle.std.proofs.Common.{◌≡◌, ◌+◌, ◌≤◌, List, slice_range, ap, arith, refl}
use Rattle.lft_ir.specs.declared.steps.row.Row.{Row}
use Rattle.lft_monitor.{specs.inner.Follows.done_of, proofs.Onward.{hand_fit, hand_going, hand_held, hand_hitch, hand_on, next_left, up_to_end}}
use Rattle.lft_monitor.proofs.follower.Follower.go_to.Goals as goal

pub go_past-requires : goal.go_past-requires
go_past-requires c =
    let plan = c.args.plan.now in
    let old = c.args.self.now in
    let count = c.args.count in
    let t = c.requires.stands.0 in
    let is = c.requires.stands.1 in
    let within = c.requires.count in
    let s = slice_range c.as_slice.result.now 0 (old.held + count) in
    let hand : s ≡ slice_range old.rows.items 0 (old.held + count) = ap (λ (u : List Row). slice_range u 0 (old.held + count)) c.as_slice.ensures.value in
    let fit = hand_fit plan t old is count within s hand c.requires.short c.requires.fit in
    record {
      few = (let a = fit.few in let b = c.requires.few in omega (arith, a, b));
      fit = fit;
      stands = (done_of t old, hand_held plan t old is count within s hand c.requires.short c.requires.fit, hand_going plan t old is count within s hand);
    }

pub returns-in-Ok-clause-on : goal.returns-in-Ok-clause-on
returns-in-Ok-clause-on c = λ t is.
    let plan = c.args.plan.now in
    let old = c.args.self.now in
    let count = c.args.count in
    let within = c.requires.count in
    let s = slice_range c.as_slice.result.now 0 (old.held + count) in
    let hand : s ≡ slice_range old.rows.items 0 (old.held + count) = ap (λ (u : List Row). slice_range u 0 (old.held + count)) c.as_slice.ensures.value in
    let to = (rw c.in-Ok.is at c.in_ok-begin.ensures.judged) (done_of t old) (hand_held plan t old is count within s hand c.requires.short c.requires.fit) (hand_going plan t old is count within s hand) in
    hand_on plan t old is count within s hand _ c.in-Ok.begin to refl c.drop_first.ensures

pub returns-in-Ok-clause-next : goal.returns-in-Ok-clause-next
returns-in-Ok-clause-next c =
    let plan = c.args.plan.now in
    let old = c.args.self.now in
    let count = c.args.count in
    let t = c.requires.stands.0 in
    let is = c.requires.stands.1 in
    let within = c.requires.count in
    let s = slice_range c.as_slice.result.now 0 (old.held + count) in
    let hand : s ≡ slice_range old.rows.items 0 (old.held + count) = ap (λ (u : List Row). slice_range u 0 (old.held + count)) c.as_slice.ensures.value in
    let up : c.in-Ok.begin ≤ old.held + count = up_to_end plan t old is count within s hand c.in-Ok.begin (rw c.in-Ok.is at c.in_ok-begin.ensures.within) in
    next_left plan t old is count within c.in-Ok.begin c.drop_first.new.rows.items up c.drop_first.ensures

pub returns-in-Err-clause-on : goal.returns-in-Err-clause-on
returns-in-Err-clause-on c = λ t is.
    let plan = c.args.plan.now in
    let old = c.args.self.now in
    let count = c.args.count in
    let within = c.requires.count in
    let s = slice_range c.as_slice.result.now 0 (old.held + count) in
    let hand : s ≡ slice_range old.rows.items 0 (old.held + count) = ap (λ (u : List Row). slice_range u 0 (old.held + count)) c.as_slice.ensures.value in
    let held = hand_held plan t old is count within s hand c.requires.short c.requires.fit in
    hand_hitch plan t old is count within s hand c.in-Err.hitch ((rw c.in-Err.is at c.in_ok-begin.ensures.hitch) (done_of t old) held (hand_going plan t old is count within s hand))
