use Rattle.std.proofs.Common.{rules, ◌≡◌, None, length, sym, ap, ◌∙◌, subst}
use Rattle.lft_lists.proofs.Places.{length_same, written_back}
use Rattle.lft_facts.{specs.inner.Ways.{AreSteps, IsMarking}, proofs.Upstream.{list_there, steps_marked}}
use Rattle.lft_facts.proofs.ways.steps.Goals as goal

pub mark-requires : goal.mark-requires
mark-requires c = list_there c.requires.graph.0 c.args.graph.now c.requires.graph.1 c.args.last c.before-2.result.now c.before-2.ensures (length c.as_mut_slice.result.now) (ap length c.as_mut_slice.ensures.value ∙ ap length (c.in_ok-near.ensures.items_if_clones_equal (search rules)) ∙ length_same c.args.reactions None ∙ c.requires.reactions)

pub returns : goal.returns
returns c =
    let marking : IsMarking c.before-2.result.now c.args.last c.in_ok-near.near.items c.mark.new.next = subst (λ ns. IsMarking c.before-2.result.now c.args.last ns c.mark.new.next) c.as_mut_slice.ensures.value c.mark.ensures in
    let whole : length c.mark.new.next ≡ length c.as_mut_slice.result.now = c.mark.ensures.as_long in
    subst (λ ns. AreSteps c.args.graph.now c.args.last ns) (sym (written_back c.mark.new.next _ c.in_ok-near.near.len (sym (whole ∙ c.as_mut_slice.ensures.len)))) (steps_marked c.args.graph.now c.args.last c.before-2.result.now c.before-2.ensures c.args.reactions c.requires.reactions c.in_ok-near.near.items c.mark.new.next (c.in_ok-near.ensures.items_if_clones_equal (search rules)) marking)
