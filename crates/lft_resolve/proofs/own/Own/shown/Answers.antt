use Rattle.std.proofs.Common.{◌≡◌, Some, find, option_map, bytes_eq, sym, ap, ◌∙◌}
use Rattle.lft_tree.specs.{Tree.ports_of, View.port_view}
use Rattle.lft_resolve.specs.Kinds.{inner_port}
use Rattle.lft_resolve.proofs.own.Own.shown.Goals as goal

pub returns-in-Some : goal.returns-in-Some
returns-in-Some c r is =
    let found : Some (port_view c.in-Some.port.now) ≡ find (λ x. bytes_eq c.args.name.now x.name) (ports_of r) = ap (option_map (λ p. port_view p.now)) (sym c.in-Some.is) ∙ c.port.ensures r is in
    ap (λ b. Some (inner_port b)) (sym c.if-port.true) ∙ ap (option_map (λ x. inner_port x.is_input)) found

pub returns-in-Some-2 : goal.returns-in-Some-2
returns-in-Some-2 c r is =
    let found : Some (port_view c.in-Some.port.now) ≡ find (λ x. bytes_eq c.args.name.now x.name) (ports_of r) = ap (option_map (λ p. port_view p.now)) (sym c.in-Some.is) ∙ c.port.ensures r is in
    ap (λ b. Some (inner_port b)) (sym c.if-port.false) ∙ ap (option_map (λ x. inner_port x.is_input)) found

pub returns-in-None : goal.returns-in-None
returns-in-None c r is = ap (option_map (λ x. inner_port x.is_input)) (ap (option_map (λ p. port_view p.now)) (sym c.in-None.is) ∙ c.port.ensures r is)
