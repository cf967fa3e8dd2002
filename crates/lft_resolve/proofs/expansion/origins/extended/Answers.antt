use Rattle.std.proofs.Common.{◌<◌, ◌++◌, sym, subst, Some, option_to_list}
use Rattle.std.specs.Prelude.{IfSome}
use Rattle.lft_resolve.{specs.inner.Expansion.Sources.IsFolded, proofs.ExpansionLemmas.Folding.folded_then}
use Rattle.lft_resolve.proofs.expansion.origins.extended.Goals as goal

pub returns-in-Some-delay : goal.returns-in-Some-delay
returns-in-Some-delay c delays f =
    let few : c.in-Some.shift.steps < 100000 = subst (λ o. IfSome o (λ s. s.steps < 100000)) c.in-Some.is c.requires in
    let g : IsFolded delays (Some c.in-Some.shift) = subst (λ o. IsFolded delays o) c.in-Some.is f in
    subst (λ o. IsFolded (delays ++ option_to_list o) c.then.result) (sym c.in-Some-delay.is) (folded_then c.in-Some.shift c.in-Some-delay.delay c.then.result delays few g c.then.ensures)
