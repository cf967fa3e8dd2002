use Rattle.std.proofs.Common.{◌≡◌, None, string_bytes, sym, ap, subst, ◌∙◌}
use Rattle.lft_tree.specs.View.{time_view}
use Rattle.lft_resolve.{specs.inner.{Lost.IsLostTime, Sheets.parameter_place}, proofs.Lost.lost_time}
use Rattle.lft_resolve.proofs.by_number.joins.clock.Goals as goal

pub returns-in-None-clause-lost : goal.returns-in-None-clause-lost
returns-in-None-clause-lost c other r own =
    let none : parameter_place r (string_bytes c.in-Parameter.name) ≡ None = ap (parameter_place r) (sym c.as_str.ensures.value) ∙ sym (own.parameters _) ∙ sym c.get.ensures ∙ c.in-None.is in
    subst (λ t. IsLostTime r (time_view t)) (sym c.in-Parameter.is) (lost_time r (string_bytes c.in-Parameter.name) none)
