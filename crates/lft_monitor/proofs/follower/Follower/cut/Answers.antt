use Rattle.std.proofs.Common.{◌∙◌, ◌+◌, ◌≤◌, List, drop, length, take, ap, arith, refl, subst, sym}
use Rattle.std.proofs.lemmas.List.{drop-take, length-drop, length-take-le, take-take}
use Rattle.lft_ir.specs.declared.steps.row.Row.{Row}
use Rattle.lft_monitor.proofs.Following.{follower_as}
use Rattle.lft_monitor.proofs.follower.Follower.cut.Goals as goal

pub returns-clause-next : goal.returns-clause-next
returns-clause-next c =
    let old = c.args.self.now in
    ap (λ (u : List Row). drop old.held u) c.truncate.ensures.items ∙ drop-take old.held c.args.count old.rows.items

pub returns-clause-stands : goal.returns-clause-stands
returns-clause-stands c = λ plan t is.
    let old = c.args.self.now in
    let items = old.rows.items in
    let end = old.held + c.args.count in
    let long = length-take-le end items (let a = c.requires.count in let b = length-drop old.held items in let e = is.within in omega (arith, a, b, e)) in
    follower_as plan t old _ refl refl
    (subst (λ (u : List Row). old.held ≤ length u) (sym c.truncate.ensures.items) (omega (arith, long)))
    (ap (λ (u : List Row). take old.held u) c.truncate.ensures.items ∙ take-take old.held end items (omega arith))
    is
