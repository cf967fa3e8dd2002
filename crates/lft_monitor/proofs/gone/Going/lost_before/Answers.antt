use Rattle.std.proofs.Common.{refl, arith}
use Rattle.std.proofs.lemmas.Bool.{false≢true}
use Rattle.lft_monitor.proofs.Passing.{all_gone, lost_or_none, none_rises}
use Rattle.lft_monitor.proofs.gone.Going.lost_before.Goals as goal

pub returns-then-not-rises_at : goal.returns-then-not-rises_at
returns-then-not-rises_at c = λ plan done is. none_rises c.args.rows.now c.args.place c.requires.place plan done c.args.self.now c.requires.passed is (let n = c.if-place-eq0.false in omega arith) (λ x y e f b. false≢true ((c.if-not-rises_at.ensures x y e f).1 b))

pub first_open-requires-clause-passed : goal.first_open-requires-clause-passed
first_open-requires-clause-passed c = (c.args.self.now.stop, c.requires.stands.0, all_gone c.args.rows.now c.args.place c.requires.place c.requires.stands.0 c.requires.stands.1 c.args.self.now c.requires.passed c.requires.stands.2)

pub returns : goal.returns
returns c = λ plan done is. lost_or_none c.args.rows.now c.args.place c.requires.place plan done c.args.self.now c.requires.passed is (let n = c.if-place-eq0.false in omega arith) (λ x y e f. (c.if-not-rises_at.ensures x y e f).0 refl) c.first_open.result c.first_open.ensures
