use Rattle.std.proofs.Common.{◌≡◌, ◌+◌, ◌-◌, ◌<◌, ◌++◌, ◌∙◌, inr, ℕ, length, slice_range, sym, subst, arith}
use Rattle.lft_ir.proofs.Ranges.{length-range}
use Rattle.lft_stream.proofs.Parting.{range_fits}
use Rattle.lft_model.specs.declared.breach.Breach.{Breach}
use Rattle.lft_monitor.specs.{declared.past.Past.Past, inner.{Kept.IsPastOfRows, Follows.IsOddBehind}, Follows.IsFirstBehind}
use Rattle.lft_monitor.proofs.{First.first_behind, Following.odd_of}
use Rattle.lft_monitor.proofs.follower.judge_before.Goals as goal

pub judge-requires-clause-fit : goal.judge-requires-clause-fit
judge-requires-clause-fit c = range_fits c.args.rows.now 0 c.args.begin (omega arith) (let l = c.requires.begin in omega arith) c.args.plan.now.program c.requires.fit

pub judge-requires-clause-kept : goal.judge-requires-clause-kept
judge-requires-clause-kept c = λ yes. c.requires.kept

pub judge-requires-clause-few : goal.judge-requires-clause-few
judge-requires-clause-few c =
    let long : length (slice_range c.args.rows.now 0 c.args.begin) ≡ c.args.begin - 0 = length-range c.args.rows.now 0 c.args.begin (let l = c.requires.begin in omega arith) in
    omega (arith, long, c.requires.few, c.requires.begin)

pub first_breach-requires-clause-fit : goal.first_breach-requires-clause-fit
first_breach-requires-clause-fit c = range_fits c.args.rows.now 0 c.args.begin (omega arith) (let l = c.requires.begin in omega arith) c.args.plan.now.program c.requires.fit

pub first_breach-requires-clause-stands : goal.first_breach-requires-clause-stands
first_breach-requires-clause-stands c = (c.requires.stands.0, subst (λ (p : Past). IsPastOfRows c.args.plan.now c.requires.stands.0 p) (sym (c.in_ok-is_clean.ensures.past c.if-is_clean.false)) c.requires.stands.1.past)

pub returns-then-is_clean : goal.returns-then-is_clean
returns-then-is_clean c = λ done is. c.in_ok-is_clean.ensures.stands c.if-is_clean.true done is

pub returns-in-Some : goal.returns-in-Some
returns-in-Some c = λ done is end turn.
    let plan = c.args.plan.now in
    let rows = c.args.rows.now in
    let begin = c.args.begin in
    let past = subst (λ (p : Past). IsPastOfRows plan done p) (sym (c.in_ok-is_clean.ensures.past c.if-is_clean.false)) is.past in
    let long : length (slice_range rows 0 begin) ≡ begin - 0 = length-range rows 0 begin (let l = c.requires.begin in omega arith) in
    let some : 0 < length (slice_range rows 0 begin) = c.in_ok-is_clean.ensures.some c.if-is_clean.false in
    let first = first_behind plan done rows begin end c.row_at.result c.in-Some.breach turn.begins (omega (arith, long, some)) turn.gone.within c.row_at.ensures (λ v later. c.in-Some.ensures done v past later) turn.kept in
    (length done + end, inr (subst (λ (b : Breach). IsFirstBehind plan (done ++ rows) b (length done + end)) (sym c.found_of.ensures) first))

pub returns-in-None : goal.returns-in-None
returns-in-None c = λ done is end turn.
    let rows = c.args.rows.now in
    let begin = c.args.begin in
    let long : length (slice_range rows 0 begin) ≡ begin - 0 = length-range rows 0 begin (let l = c.requires.begin in omega arith) in
    let some : 0 < length (slice_range rows 0 begin) = c.in_ok-is_clean.ensures.some c.if-is_clean.false in
    let same = sym is.counted ∙ sym (c.in_ok-is_clean.ensures.count c.if-is_clean.false) in
    subst (λ (n : ℕ). IsOddBehind (done ++ rows) (length done) (n + begin + 1)) same (odd_of c.args.plan.now done rows begin end turn (omega (arith, long, some)) c.requires.begin)
