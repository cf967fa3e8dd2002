use Rattle.std.proofs.Common.{inl, sym, ap, ◌∙◌, subst}
use Rattle.lft_ir.specs.Parts.{Parts}
use Rattle.lft_model.specs.Recorded.{instance_of}
use Rattle.lft_pair.{specs.Counts.{Counts, StartsEarlier}, proofs.Added.{adds_one, adds_both}}
use Rattle.lft_pair.specs.declared.contrasting.contrasts.Contrast.TheVariants as contrast
use Rattle.lft_pair.proofs.contrasting.finding.add_reasons.Goals as goal

pub returns-clause-holds : goal.returns-clause-holds
returns-clause-holds c =
    let plan = c.args.plan.now in
    let t = c.args.rows.now in
    let s = c.args.others.now in
    let g = c.args.tag in
    let r = c.args.reaction in
    let d = c.requires.difference in
    let l0 = c.args.told.now.items in
    let l1 = c.push.new.self.items in
    let l2 = c.add_reads.new.told.items in
    let l3 = c.push-2.new.self.items in
    let l4 = c.push-3.new.self.items in
    let own = c.program-program.ensures.value in
    let a1 = adds_one plan t s g r l0 l1 (contrast.Starts c.start_of-first.result c.start_of-second.result) c.in_ok-push.ensures.items (c.start_of-first.ensures, c.start_of-second.ensures) in
    let a3 = adds_one plan t s g r l2 l3 (contrast.Earlier c.instance_of.result c.count_earlier.result) c.in_ok-push-2.ensures.items (record { same = d.same_history; is_instance = sym (c.instance_of.ensures ∙ ap (λ (p : Parts). instance_of p r) own); counted = subst (λ (p : Parts). Counts (StartsEarlier p g r) t c.count_earlier.result) own c.count_earlier.ensures }) in
    let a4 = adds_one plan t s g r l3 l4 (contrast.Before c.count_before.result) c.in_ok-push-3.ensures.items (record { same = λ h a b. d.same_before h a (inl b); counted = c.count_before.ensures }) in
    adds_both plan t s g r l0 l1 l4 a1 (adds_both plan t s g r l1 l2 l4 c.in_ok-add_reads.ensures.holds (adds_both plan t s g r l2 l3 l4 a3 a4))
