use Rattle.std.proofs.Common.{◌≡◌, ◌++◌, ◌∷◌, [], sym, ap, ◌∙◌, subst}
use Rattle.std.proofs.Common.{List}
use Rattle.lft_facts.specs.{inner.Ways.{IsMarked, AreSteps, AreWays}, declared.facts.Fact.Fact, Facts.{AreFacts, IsChosen}, Enough.{GivesChain, AreOwn}}
use Rattle.lft_facts.proofs.{Giving.{late_gives, late_there, late_holds, late_own}, Choosing.{chosen, ends_behind_start}, Upstream.{all_marked, step_leads}}
use Rattle.lft_facts.specs.declared.facts.Fact.TheVariants as fact
use Rattle.lft_facts.proofs.early.early_chain.Goals as goal

pub late_end-earlier-requires-clause-some : goal.late_end-earlier-requires-clause-some
late_end-earlier-requires-clause-some c = late_there c.args.plan.now c.args.rows.now c.requires.kept c.args.tag c.args.reaction c.start_of-start.result c.start_of-start.ensures c.requires.early c.as_slice-2.result.now (λ a p. subst (λ ns. IsMarked ns a) (sym c.as_slice-2.ensures.value) (all_marked c.args.plan.now.program c.graph-graph.result.now c.graph-graph.ensures.graph c.args.reaction c.in_ok-next.next.items c.in_ok-next.ensures a p))

pub late_end-earlier-requires-clause-leads : goal.late_end-earlier-requires-clause-leads
late_end-earlier-requires-clause-leads c a m = subst (λ ns. IsMarked ns a) (sym c.as_slice-2.ensures.value) (step_leads c.graph-graph.result.now c.args.reaction c.in_ok-near.near.items c.in_ok-next.next.items c.in_ok-near.ensures c.in_ok-next.ensures a (subst (λ ns. IsMarked ns a) c.as_slice.ensures.value m))

-- all facts: the start before the end, and the steps
all : (c : goal.After-drop-next-2) → c.extend_from_slice.new.self.items ≡ (fact.StartsEarly c.args.tag c.late_end-earlier.result.0 c.args.reaction c.start_of-start.result c.late_end-earlier.result.1 ∷ []) ++ c.as_slice-4.result.now
all c = c.in_ok-extend_from_slice.ensures.items ∙ ap (λ fs. fs ++ c.as_slice-4.result.now) (c.in_ok-push.ensures.items ∙ ap (λ fs. fs ++ fact.StartsEarly c.args.tag c.late_end-earlier.result.0 c.args.reaction c.start_of-start.result c.late_end-earlier.result.1 ∷ []) c.new-facts.ensures.items)

-- which reaction is named
named : (c : goal.After-drop-next-2) → IsChosen c.args.plan.now.program c.args.rows.now c.args.tag c.late_end-earlier.result.0 c.args.reaction c.start_of-start.result
named c =
    let program = c.args.plan.now.program in
    let graph = c.graph-graph.result.now in
    let near : AreSteps graph c.args.reaction c.as_slice.result.now = subst (λ ns. AreSteps graph c.args.reaction ns) (sym c.as_slice.ensures.value) c.in_ok-near.ensures in
    let next : AreWays graph c.args.reaction c.as_slice-2.result.now = subst (λ ns. AreWays graph c.args.reaction ns) (sym c.as_slice-2.ensures.value) c.in_ok-next.ensures in
    chosen program graph c.graph-graph.ensures.graph c.args.rows.now c.args.rows.now c.args.tag c.late_end-earlier.result.0 c.args.reaction c.start_of-start.result c.as_slice.result.now c.as_slice-2.result.now
    (λ b u. ends_behind_start c.args.plan.now c.args.rows.now c.requires.kept c.args.tag b c.args.reaction c.start_of-start.result c.start_of-start.ensures u)
    (λ b u m. (near.marked b).1 m)
    (λ b m. (near.marked b).0 m)
    (λ b u p. all_marked program graph c.graph-graph.ensures.graph c.args.reaction c.as_slice-2.result.now next b p)
    c.late_end-earlier.ensures.nearest
    c.late_end-earlier.ensures.least

pub returns-clause-holds : goal.returns-clause-holds
returns-clause-holds c = late_holds c.args.plan.now c.args.rows.now c.requires.kept c.args.tag c.late_end-earlier.result.0 c.args.reaction c.start_of-start.result c.late_end-earlier.result.1 c.as_slice-4.result.now c.extend_from_slice.new.self.items (all c) c.start_of-start.ensures c.late_end-earlier.ensures.ends c.late_end-earlier.ensures.after (named c) (subst (λ (fs : List Fact). AreFacts c.args.plan.now c.args.rows.now fs) (sym c.as_slice-4.ensures.value) (c.in_ok-way.ensures.holds c.args.rows.now)) (subst (λ (fs : List Fact). GivesChain fs c.late_end-earlier.result.0 c.args.reaction) (sym c.as_slice-4.ensures.value) c.in_ok-way.ensures.gives)

pub returns-clause-enough : goal.returns-clause-enough
returns-clause-enough c = late_gives c.args.tag c.late_end-earlier.result.0 c.args.reaction c.start_of-start.result c.late_end-earlier.result.1 c.as_slice-4.result.now c.extend_from_slice.new.self.items (all c) (subst (λ (fs : List Fact). GivesChain fs c.late_end-earlier.result.0 c.args.reaction) (sym c.as_slice-4.ensures.value) c.in_ok-way.ensures.gives)

pub returns-clause-own : goal.returns-clause-own
returns-clause-own c = late_own c.args.tag c.late_end-earlier.result.0 c.args.reaction c.start_of-start.result c.late_end-earlier.result.1 c.as_slice-4.result.now c.extend_from_slice.new.self.items (all c) (λ b. subst (λ (fs : List Fact). AreOwn b fs) (sym c.as_slice-4.ensures.value) (c.in_ok-way.ensures.own b))
