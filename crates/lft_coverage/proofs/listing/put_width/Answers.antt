use Rattle.std.proofs.Common.{sym, ap, eq-eqb}
use Rattle.std.specs.Prelude.{[], ◌++◌, codes, decimal, if◌then◌else◌}
use Rattle.std.proofs.lemmas.Bool.{ne_eqb}
use Rattle.lft_coverage.proofs.Taking.{took_both, took_nothing, took_so}
use Rattle.lft_coverage.proofs.listing.put_width.Goals as goal

pub returns-then-starts-ne0 : goal.returns-then-starts-ne0
returns-then-starts-ne0 g c = took_so (ap (λ b. if b then [] else codes "open " ++ decimal c.args.width ++ codes " starts=" ++ decimal c.args.starts ++ codes "\n") (sym (ne_eqb c.args.starts 0 c.if-starts-ne0.true))) (took_both (took_both (took_both (took_both c.put-whole.ensures c.put_number-whole.ensures) c.put-whole-then-starts-ne0.ensures) c.put_number-whole-then-starts-ne0.ensures) c.put.ensures)

pub returns : goal.returns
returns g c = took_so (ap (λ b. if b then [] else codes "open " ++ decimal c.args.width ++ codes " starts=" ++ decimal c.args.starts ++ codes "\n") (sym (eq-eqb c.args.starts 0 c.if-starts-ne0.false))) (took_nothing _ _)
