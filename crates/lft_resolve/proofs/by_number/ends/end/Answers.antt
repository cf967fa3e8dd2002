use Rattle.std.proofs.Common.{◌≡◌, None, Some, option_map, string_bytes, sym, ap, ◌∙◌}
use Rattle.lft_resolve.{specs.{Kinds.{kind_inside, own_kind}, inner.Sheets.port_place}, proofs.Lost.own_portless}
use Rattle.lft_resolve.proofs.by_number.ends.end.Goals as goal

pub returns-in-None-get-clause-lost : goal.returns-in-None-get-clause-lost
returns-in-None-get-clause-lost c other rs r file own kind is =
    let head = string_bytes c.args.reference.now.head in
    let none : port_place r head ≡ None = ap (port_place r) (sym c.as_str.ensures.value) ∙ sym (own.ports _) ∙ sym c.get.ensures ∙ c.in-None-get.is in
    let plain : own_kind r head ≡ Some kind = sym (ap (λ o. kind_inside rs r head (option_map string_bytes o)) c.in-None.is) ∙ is in
    own_portless r head kind none plain
