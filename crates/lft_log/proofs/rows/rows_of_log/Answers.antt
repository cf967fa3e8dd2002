use Rattle.std.proofs.Common.{[], ◌∷◌, ◌++◌, refl}
use Rattle.lft_log.proofs.Gathering.{read_none}
use Rattle.lft_log.proofs.rows.rows_of_log.Goals as goal

pub add_last-requires : goal.add_last-requires
add_last-requires c = (c.args.plan.now, c.args.log.now ++ 10 ∷ [], read_none c.args.plan.now c.args.log.now c.in-Some.body.now (10 ∷ []) _ c.keeps.ensures.sound.in_order c.in-Some.ensures.some c.new-2.ensures.items refl c.in_ok-new-2.ensures)

pub returns-clause-told : goal.returns-clause-told
returns-clause-told c = (c.in_ok-add_last.ensures.read c.args.plan.now (c.args.log.now ++ 10 ∷ []) (read_none c.args.plan.now c.args.log.now c.in-Some.body.now (10 ∷ []) _ c.keeps.ensures.sound.in_order c.in-Some.ensures.some c.new-2.ensures.items refl c.in_ok-new-2.ensures)).0

pub returns-clause-fit : goal.returns-clause-fit
returns-clause-fit c = (c.in_ok-add_last.ensures.read c.args.plan.now (c.args.log.now ++ 10 ∷ []) (read_none c.args.plan.now c.args.log.now c.in-Some.body.now (10 ∷ []) _ c.keeps.ensures.sound.in_order c.in-Some.ensures.some c.new-2.ensures.items refl c.in_ok-new-2.ensures)).1

pub returns-clause-cut : goal.returns-clause-cut
returns-clause-cut c = (c.in_ok-add_last.ensures.read c.args.plan.now (c.args.log.now ++ 10 ∷ []) (read_none c.args.plan.now c.args.log.now c.in-Some.body.now (10 ∷ []) _ c.keeps.ensures.sound.in_order c.in-Some.ensures.some c.new-2.ensures.items refl c.in_ok-new-2.ensures)).2
