use Rattle.std.proofs.Common.{◌≡◌, Bool, false, true, sym, ◌∙◌}
use Rattle.lft_races.proofs.Racing.{no_race, to_race, from_race}
use Rattle.lft_races.proofs.finding.is_race.Goals as goal

pub returns-then-not-is_start : goal.returns-then-not-is_start
returns-then-not-is_start c program are = (λ z. absurd (cc), λ r. absurd (no_race program c.args.rows.now c.args.place c.row_at-row.result c.row_at-row.ensures (λ d. let z : ◌≡◌ {A = Bool} false true = sym c.if-not-is_start.true ∙ c.is_start.ensures.1 d in absurd (cc)) r))

pub returns : goal.returns
returns c program are =
    let tag = c.requires.slice.at_tag c.args.place c.row_at-row.result c.row_at-row.ensures c.requires.from c.requires.before in (
      λ z. to_race program c.args.rows.now c.args.place c.row_at-row.result c.row_at-row.ensures c.args.slice.tag tag (c.is_start.ensures.0 c.if-not-is_start.false) c.args.ancestors.now c.of.result.now c.args.unfinished.now are c.of.ensures c.requires.unfinished (c.meets.ensures.0 z),
      λ r. c.meets.ensures.1 (from_race program c.args.rows.now c.args.place c.row_at-row.result c.row_at-row.ensures c.args.slice.tag tag c.args.ancestors.now c.of.result.now c.args.unfinished.now are c.of.ensures c.requires.unfinished r),
    )
