use Rattle.std.proofs.Common.{ℕ, refl, sym, subst}
use Rattle.lft_tag.{specs.{declared.Tag.Tag, Tags.{Before, UpTo}}, proofs.Order.UpTo-refl}
use Rattle.lft_ir.specs.{Parts.Parts, declared.parts.Trigger.{Trigger, TheVariants.{Startup, Shutdown, Timer, On}}}
use Rattle.lft_scheduler.proofs.{Fed.some_there, NextTags.{none_before_first, value_there}, FirstFirings.{first_up_to, least_covers}, LedFirings.live_fires}
use Rattle.lft_scheduler.specs.inner.{Listeners.IsListener, Waits.IsFoundUpTo, Telling.OccursBy, Firings.{tag_of_firing, AreFirstFirings}}
use Rattle.lft_queue.specs.Pending.{Pending, value_of}
use Rattle.lft_scheduler.proofs.advancing.next_tag.Goals as goal

pub returns-clause-covers : goal.returns-clause-covers
returns-clause-covers c = λ program are h r o later u. by program are h r later u o.0 o.1 o.2
  where
    by : (program : Parts) → AreFirstFirings program (λ h. Before c.args.from h) c.args.firings.now → (h : Tag) (r : ℕ) → Before c.args.from h → UpTo h c.args.stop → (x : Trigger) → OccursBy program c.args.queue.now c.args.stop h x → IsListener program x r → IsFoundUpTo c.sooner.result h
    by program are h r later u Startup e l = absurd (none_before_first c.args.from h e later)
    by program are h r later u Shutdown e l = c.sooner.ensures.more h (c.sooner-by_events.ensures.more h (subst (λ (k : Tag). IsFoundUpTo c.sooner-by_stop.result k) (sym e) (c.sooner-by_stop.ensures.covers c.args.stop refl (subst (λ (k : Tag). Before c.args.from k) e later, UpTo-refl c.args.stop))))
    by program are h r later u (Timer n) e l =
        let live = live_fires program h r n e l in
        let k = are.all live.0 h live.1 live.3 later in
        least_covers tag_of_firing c.args.firings.now c.first_tag-2.result c.sooner.result c.args.from c.args.stop h k.0 c.first_tag-2.ensures.some c.first_tag-2.ensures.least c.first_tag-2.ensures.none (λ f m. (are.only f m).1.2.holds) c.sooner.ensures.covers k.1 (first_up_to program (λ h. Before c.args.from h) k.0 live.0 h (are.only k.0 k.1).1 k.2 live.3 later) u
    by program are h r later u (On n) e l =
        let v = some_there (value_of h n c.args.queue.now) e in
        let k = value_there h n v.0 c.args.queue.now v.1 in
        let up : UpTo k.0.tag h = subst (λ (g : Tag). UpTo k.0.tag g) k.2 (UpTo-refl k.0.tag) in
        c.sooner.ensures.more h (least_covers (λ (d : Pending). d.tag) c.args.queue.now c.first_tag.result c.sooner-by_events.result c.args.from c.args.stop h k.0 c.first_tag.ensures.some c.first_tag.ensures.least c.first_tag.ensures.none c.requires.later c.sooner-by_events.ensures.covers k.1 up u)
