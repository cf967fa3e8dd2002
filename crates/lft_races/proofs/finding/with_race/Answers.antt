use Rattle.std.proofs.Common.{◌≡◌, Bool, false, true, sym, ◌∙◌}
use Rattle.lft_races.proofs.Racing.{first_here, first_later}
use Rattle.lft_races.proofs.finding.with_race.Goals as goal

pub returns-then-is_race : goal.returns-then-is_race
returns-then-is_race c program are = first_here program c.args.rows.now c.args.place c.args.slice.end c.requires.before ((c.is_race.ensures program are).0 c.if-is_race.true)

pub returns-else-is_race : goal.returns-else-is_race
returns-else-is_race c program are = first_later program c.args.rows.now c.args.place c.args.slice.end c.args.later (λ r. let z : ◌≡◌ {A = Bool} false true = sym c.if-is_race.false ∙ (c.is_race.ensures program are).1 r in absurd (cc)) (c.requires.later program are)
