use Rattle.std.proofs.Common.{◌≡◌, ◌-◌, ℕ, List, subst, arith}
use Rattle.lft_ir.specs.declared.steps.row.Row.{Row}
use Rattle.lft_model.specs.declared.breach.Breach.{Breach}
use Rattle.lft_races.specs.{Across.IsAcross, Hints.Hints.IsOfOpen}
use Rattle.lft_races.proofs.hints.guessing.is_of_open.Goals as goal

-- a row that the breach is of stands where it says
across_there : (t : List Row) (b : Breach) → IsOfOpen t b → IsAcross t (b.row - 2)
across_there t b o = let e = o.1 in let q : o.0 ≡ b.row - 2 = omega arith in subst (λ (n : ℕ). IsAcross t n) q o.2

pub returns : goal.returns
returns c = (λ e. (c.args.breach.row - 2, (let r = c.requires.1 in omega arith), c.is_open_across.ensures.0 e), λ o. c.is_open_across.ensures.1 (across_there c.args.rows.now c.args.breach o))
