use Rattle.std.proofs.Common.{◌*◌, length, sym, ap, ◌∙◌}
use Rattle.lft_lower.specs.inner.Meanings.{Meanings.{places_of, port_of, thing_in, here}, Places.count_of}
use Rattle.lft_lower.proofs.MeaningsLemmas.Cuts.{length_inner, length_own}
use Rattle.lft_classes.specs.declared.shapes.OwnThing.TheVariants as things
use Rattle.lft_lower.proofs.meanings.places.Within.count.Goals as goal

pub returns-in-Own-clause-count : goal.returns-in-Own-clause-count
returns-in-Own-clause-count c = λ b.
    let h = here c.args.self in
    c.count.ensures ∙ ap count_of c.thing.ensures ∙ sym (length_own (thing_in h c.in-Own.thing)) ∙ ap (λ m. length (places_of h b m)) (sym c.in-Own.is)

pub returns-in_ok-count-in-Port-clause-count : goal.returns-in_ok-count-in-Port-clause-count
returns-in_ok-count-in-Port-clause-count c = λ b.
    let h = here c.args.self in
    let members = thing_in h (things.Member c.in-Port.instance) in
    let ports = port_of h c.in-Port.instance c.in-Port.port in
    c.in_ok-count-in-Port.ensures.product
    ∙ ap (λ m. m * c.count-ports.result) (c.count-members.ensures ∙ ap count_of c.member.ensures)
    ∙ ap (λ p. count_of members * p) (c.count-ports.ensures ∙ ap count_of c.port.ensures)
    ∙ sym (length_inner members ports b)
    ∙ ap (λ m. length (places_of h b m)) (sym c.in-Port.is)
