use Rattle.lft_model.proofs.plan.Plan.with_graph.Goals as goal

pub invariant_of-result : goal.invariant_of-result
invariant_of-result c = (
  record {
    sound = c.keeps.ensures.sound;
    levels = c.requires.levels;
    in_order = c.keeps-2.ensures.order;
    fit = c.requires.fit;
  },
  c.requires.graph,
)
