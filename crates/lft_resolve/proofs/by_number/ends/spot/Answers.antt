use Rattle.std.proofs.Common.{◌≡◌, None, Some, option_map, string_bytes, sym, ap, ◌∙◌}
use Rattle.lft_resolve.{specs.{Kinds.{kind_inside, own_kind}, inner.Sheets.{action_place, port_place}}, proofs.Lost.own_spotless}
use Rattle.lft_resolve.proofs.by_number.ends.spot.Goals as goal

pub returns-in-None-get-2-clause-lost : goal.returns-in-None-get-2-clause-lost
returns-in-None-get-2-clause-lost c other rs r file own kind is =
    let head = string_bytes c.args.reference.now.head in
    let none : port_place r head ≡ None = ap (port_place r) (sym c.as_str.ensures.value) ∙ sym (own.ports _) ∙ sym c.get.ensures ∙ c.in-None-get.is in
    let nor : action_place r head ≡ None = ap (action_place r) (sym c.as_str-in-None-get.ensures.value) ∙ sym (own.actions _) ∙ sym c.get-in-None-get.ensures ∙ c.in-None-get-2.is in
    let plain : own_kind r head ≡ Some kind = sym (ap (λ o. kind_inside rs r head (option_map string_bytes o)) c.in-None.is) ∙ is in
    own_spotless r head kind none nor plain
