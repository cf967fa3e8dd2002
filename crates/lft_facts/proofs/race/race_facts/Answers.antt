use Rattle.std.proofs.Common.{◌≡◌, ℕ, ◌++◌, ◌∷◌, [], List, ◌<◌, take, sym, ap, ◌∙◌, subst, Option, Some}
use Rattle.lft_races.proofs.Standing.{unfinished_whole, start_there}
use Rattle.lft_facts.specs.{inner.Ways.{IsMarked, EndsMarked, IsLeastOfAll, AreSteps}, declared.facts.Fact.Fact, Facts.AreFacts, Enough.{GivesChain, AreOwn}}
use Rattle.lft_facts.proofs.{Choosing.{chosen, ends_behind_race}, Upstream.{all_marked, step_leads}, Running.{all_end, all_none}}
use Rattle.lft_facts.proofs.FirstRace.{IsOnly, only_of, only_leads, row_starts, late_some, race_holds, race_own, race_ends, is_before}
use Rattle.lft_facts.specs.declared.facts.Fact.TheVariants as fact
use Rattle.lft_facts.proofs.race.race_facts.Goals as goal

pub late_end-earlier-requires-clause-leads : goal.late_end-earlier-requires-clause-leads
late_end-earlier-requires-clause-leads c a m =
    let next = c.in_ok-next.next.items in
    let near = c.in_ok-near.near.items in
    let these = c.in_ok-unfinished.unfinished.items in
    let late : IsOnly next these c.in_ok-late.late.items = only_of c.as_slice.result.now next c.in_ok-late.late.items c.as_slice-2.result.now these c.as_slice.ensures.value c.as_slice-2.ensures.value c.in_ok-late.ensures.left in
    let late_near : IsOnly near these c.in_ok-late_near.late_near.items = only_of c.as_slice-3.result.now near c.in_ok-late_near.late_near.items c.as_slice-4.result.now these c.as_slice-3.ensures.value c.as_slice-4.ensures.value c.in_ok-late_near.ensures.left in
    subst (λ ns. IsMarked ns a) (sym c.as_slice-7.ensures.value) (only_leads near next c.in_ok-late_near.late_near.items c.in_ok-late.late.items these late_near late (λ b n. step_leads c.graph-graph.result.now c.row_at-row.result.reaction near next c.in_ok-near.ensures c.in_ok-next.ensures b n) a (subst (λ ns. IsMarked ns a) c.as_slice-6.ensures.value m))

pub returns-in_default-clause-race : goal.returns-in_default-clause-race
returns-in_default-clause-race c later =
    let program = c.args.plan.now.program in
    let t = c.args.rows.now in
    let row = c.row_at-row.result in
    let next = c.in_ok-next.next.items in
    let these = c.in_ok-unfinished.unfinished.items in
    let marks = c.as_slice-5.result.now in
    let late : IsOnly next these c.in_ok-late.late.items = only_of c.as_slice.result.now next c.in_ok-late.late.items c.as_slice-2.result.now these c.as_slice.ensures.value c.as_slice-2.ensures.value c.in_ok-late.ensures.left in
    let e = late_some program t c.args.before c.args.start c.requires.race row c.row_at-row.ensures later marks (λ a p u. subst (λ ns. IsMarked ns a) (sym c.as_slice-5.ensures.value) ((late a).1 (all_marked program c.graph-graph.result.now c.graph-graph.ensures.graph row.reaction next c.in_ok-next.ensures a p, (c.in_ok-unfinished.ensures.marked a).1 u))) in
    absurd (all_none t row.tag marks c.args.start (subst (λ (o : Option (ℕ × ℕ)). IsLeastOfAll t row.tag marks c.args.start o) c.in_default.is c.least_end-least.ensures) e.0 e.2.0 e.1 e.2.1 e.2.2)

pub late_end-earlier-requires-clause-some : goal.late_end-earlier-requires-clause-some
late_end-earlier-requires-clause-some c =
    let t = c.args.rows.now in
    let tag = c.row_at-row.result.tag in
    let marks = c.as_slice-5.result.now in
    let least : IsLeastOfAll t tag marks c.args.start (Some c.in-Some.field-0) = subst (λ (o : Option (ℕ × ℕ)). IsLeastOfAll t tag marks c.args.start o) c.in-Some.is c.least_end-least.ensures in
    subst (λ ns. (i : ℕ) × (c.args.start < i) × EndsMarked t tag ns i) (c.as_slice-5.ensures.value ∙ sym c.as_slice-7.ensures.value) (all_end t tag marks c.args.start c.in-Some.field-0 least)

pub chain-requires-clause-first : goal.chain-requires-clause-first
chain-requires-clause-first c =
    let next = c.in_ok-next.next.items in
    let these = c.in_ok-unfinished.unfinished.items in
    let late : IsOnly next these c.in_ok-late.late.items = only_of c.as_slice.result.now next c.in_ok-late.late.items c.as_slice-2.result.now these c.as_slice.ensures.value c.as_slice-2.ensures.value c.in_ok-late.ensures.left in
    subst (λ ns. IsMarked ns c.late_end-earlier.result.0) (sym c.as_slice-8.ensures.value) ((late c.late_end-earlier.result.0).0 (subst (λ ns. IsMarked ns c.late_end-earlier.result.0) c.as_slice-7.ensures.value c.late_end-earlier.ensures.marked)).0

-- all facts: the race, and the steps
all : (c : goal.After-drop-next-2) → c.extend_from_slice.new.self.items ≡ (fact.Race c.row_at-row.result.tag c.late_end-earlier.result.0 c.row_at-row.result.reaction c.args.start c.late_end-earlier.result.1 ∷ []) ++ c.as_slice-9.result.now
all c = c.in_ok-extend_from_slice.ensures.items ∙ ap (λ fs. fs ++ c.as_slice-9.result.now) (c.in_ok-push.ensures.items ∙ ap (λ fs. fs ++ fact.Race c.row_at-row.result.tag c.late_end-earlier.result.0 c.row_at-row.result.reaction c.args.start c.late_end-earlier.result.1 ∷ []) c.new-facts.ensures.items)

-- the race is before the bound
before : (c : goal.After-drop-next-2) → c.args.start < c.args.before
before c = (start_there c.args.plan.now.program c.args.rows.now c.args.before c.args.start c.requires.race).0

pub returns-clause-holds : goal.returns-clause-holds
returns-clause-holds c =
    let t = c.args.rows.now in
    let row = c.row_at-row.result in
    let earlier = c.late_end-earlier.result.0 in
    let next = c.in_ok-next.next.items in
    let these = c.in_ok-unfinished.unfinished.items in
    let late : IsOnly next these c.in_ok-late.late.items = only_of c.as_slice.result.now next c.in_ok-late.late.items c.as_slice-2.result.now these c.as_slice.ensures.value c.as_slice-2.ensures.value c.in_ok-late.ensures.left in
    let kept = ((late earlier).0 (subst (λ ns. IsMarked ns earlier) c.as_slice-7.ensures.value c.late_end-earlier.ensures.marked)).1 in
    race_holds row.tag earlier row.reaction c.args.start c.late_end-earlier.result.1 c.as_slice-9.result.now c.extend_from_slice.new.self.items (all c) c.args.plan.now t
    (row_starts c.args.plan.now.program t c.args.before c.args.start c.requires.race row c.row_at-row.ensures)
    c.late_end-earlier.ensures.ends c.late_end-earlier.ensures.after
    (unfinished_whole t c.args.before c.args.start (before c) row.tag earlier ((c.in_ok-unfinished.ensures.marked earlier).0 kept))
    (subst (λ (fs : List Fact). AreFacts c.args.plan.now t fs) (sym c.as_slice-9.ensures.value) (c.in_ok-way.ensures.holds t))
    (subst (λ (fs : List Fact). GivesChain fs earlier row.reaction) (sym c.as_slice-9.ensures.value) c.in_ok-way.ensures.gives)

pub returns-clause-own : goal.returns-clause-own
returns-clause-own c b stand =
    let row = c.row_at-row.result in
    race_own row.tag c.late_end-earlier.result.0 row.reaction c.args.start c.late_end-earlier.result.1 c.as_slice-9.result.now c.extend_from_slice.new.self.items (all c) b
    (is_before c.args.rows.now b c.args.before c.args.start row stand (before c) c.row_at-row.ensures)
    (subst (λ (fs : List Fact). AreOwn b fs) (sym c.as_slice-9.ensures.value) (c.in_ok-way.ensures.own b))

pub returns-clause-race : goal.returns-clause-race
returns-clause-race c later =
    let program = c.args.plan.now.program in
    let t = c.args.rows.now in
    let row = c.row_at-row.result in
    let earlier = c.late_end-earlier.result.0 in
    let graph = c.graph-graph.result.now in
    let near = c.in_ok-near.near.items in
    let next = c.in_ok-next.next.items in
    let these = c.in_ok-unfinished.unfinished.items in
    let late : IsOnly next these c.as_slice-7.result.now = subst (λ ns. IsOnly next these ns) (sym c.as_slice-7.ensures.value) (only_of c.as_slice.result.now next c.in_ok-late.late.items c.as_slice-2.result.now these c.as_slice.ensures.value c.as_slice-2.ensures.value c.in_ok-late.ensures.left) in
    let late_near : IsOnly near these c.as_slice-6.result.now = subst (λ ns. IsOnly near these ns) (sym c.as_slice-6.ensures.value) (only_of c.as_slice-3.result.now near c.in_ok-late_near.late_near.items c.as_slice-4.result.now these c.as_slice-3.ensures.value c.as_slice-4.ensures.value c.in_ok-late_near.ensures.left) in
    let steps : AreSteps graph row.reaction near = c.in_ok-near.ensures in
    let marked = c.in_ok-unfinished.ensures.marked in
    let starts = row_starts program t c.args.before c.args.start c.requires.race row c.row_at-row.ensures in
    let named = chosen program graph c.graph-graph.ensures.graph t (take c.args.before t) row.tag earlier row.reaction c.args.start c.as_slice-6.result.now c.as_slice-7.result.now
    (λ b u. ends_behind_race t c.args.before later row.tag row.tag b row.reaction c.args.start (before c) starts u)
    (λ b u m. (late_near b).1 ((steps.marked b).1 m, (marked b).1 u))
    (λ b m. (steps.marked b).0 ((late_near b).0 m).0)
    (λ b u p. (late b).1 (all_marked program graph c.graph-graph.ensures.graph row.reaction next c.in_ok-next.ensures b p, (marked b).1 u))
    c.late_end-earlier.ensures.nearest
    c.late_end-earlier.ensures.least in
    race_ends row.tag earlier row.reaction c.args.start c.late_end-earlier.result.1 c.as_slice-9.result.now c.extend_from_slice.new.self.items (all c) program (take c.args.before t) named
    (subst (λ (fs : List Fact). GivesChain fs earlier row.reaction) (sym c.as_slice-9.ensures.value) c.in_ok-way.ensures.gives)
