use Rattle.std.proofs.Common.{◌≡◌, option_map, find, string_bytes, bytes_eq, sym, ap, subst, ◌∙◌}
use Rattle.std.specs.Option.{option_and_then}
use Rattle.lft_tree.specs.Tree.{instances_of, ports_of}
use Rattle.lft_resolve.specs.{Instances.reactor_named, Kinds.{inner_port, kind_inside}, inner.Tables.IsInstanceTable}
use Rattle.lft_resolve.proofs.Directed.{inner_nowhere, inner_shown}
use Rattle.lft_resolve.proofs.file.kind_of.Goals as goal

pub returns-in-Some-inside : goal.returns-in-Some-inside
returns-in-Some-inside c rs r file own =
    let head = string_bytes c.args.reference.now.head in
    let name = string_bytes c.in-Some.port in
    let held : IsInstanceTable rs r head c.in-Some-inside.field-0-0 c.in-Some-inside.inner.now = subst (λ h. IsInstanceTable rs r h c.in-Some-inside.field-0-0 c.in-Some-inside.inner.now) c.as_str-in-Some.ensures.value (c.in-Some-inside.ensures rs r file own) in
    subst (λ o. c.shown.result ≡ kind_inside rs r head (option_map string_bytes o)) (sym c.in-Some.is)
    (inner_shown rs r head name c.in-Some-inside.field-0-0 c.in-Some-inside.inner.now held c.shown.result
    (c.shown.ensures held.inner held.is_own ∙ ap (λ n. option_map (λ x. inner_port x.is_input) (find (λ x. bytes_eq n x.name) (ports_of held.inner))) c.as_str-in-Some-inside.ensures.value))

pub returns-in-None-inside : goal.returns-in-None-inside
returns-in-None-inside c rs r file own =
    let head = string_bytes c.args.reference.now.head in
    let none = ap (λ h. option_and_then (λ i. reactor_named rs i.reactor) (find (λ i. bytes_eq h i.name) (instances_of r))) (sym c.as_str-in-Some.ensures.value) ∙ c.in-None-inside.ensures rs r file own in
    sym (ap (λ o. kind_inside rs r head (option_map string_bytes o)) c.in-Some.is ∙ inner_nowhere rs r head (string_bytes c.in-Some.port) none)
