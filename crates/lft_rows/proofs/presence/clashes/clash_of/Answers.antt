use Rattle.std.proofs.Common.{Option, sym, subst, refl}
use Rattle.lft_tag.specs.{declared.Tag.Tag, Tags.{Before, UpTo}}
use Rattle.lft_rows.specs.Presence.Clashes.{IsClash}
use Rattle.lft_rows.proofs.PresenceLemmas.{Collisions.{clash_none, clash_late, clash_some}, Twice.action_known, Skips.up_to_stop, Lists.not_true}
use Rattle.lft_rows.proofs.presence.clashes.clash_of.Goals.{then-is_before, else-is_before}
use Rattle.lft_rows.proofs.presence.clashes.clash_of.Goals as goal

pub returns-in-Some : goal.returns-in-Some
returns-in-Some c =
    let plan = c.args.plan.now in
    let t = c.args.rows.now in
    let g = c.in-Some.tag in
    elim c.if-is_before.branch [
      | then-is_before w ↦ subst (λ (z : Option Tag). IsClash (record { plan = plan; rows = t }) z) (sym w.result-is) (clash_late plan t c.sooner.result c.ports_clash-ports.result c.actions_clash.result c.ports_clash-ports.ensures c.actions_clash.ensures c.sooner.ensures (λ g a. action_known plan t c.requires.fit g a c.keeps.ensures.sound) g c.in-Some.is (subst (λ (z : Tag). Before z g) c.requires.stop (w.if-is_before.ensures.0 refl)))
      | else-is_before w ↦ subst (λ (z : Option Tag). IsClash (record { plan = plan; rows = t }) z) (sym w.result-is) (clash_some plan t c.sooner.result c.ports_clash-ports.result c.actions_clash.result c.ports_clash-ports.ensures c.actions_clash.ensures c.sooner.ensures (λ g a. action_known plan t c.requires.fit g a c.keeps.ensures.sound) g c.in-Some.is (subst (λ (z : Tag). UpTo g z) c.requires.stop (up_to_stop c.args.stop g (λ b. not_true (w.if-is_before.ensures.1 b)))))
    ]

pub returns : goal.returns
returns c = clash_none c.args.plan.now c.args.rows.now c.sooner.result c.ports_clash-ports.result c.actions_clash.result c.ports_clash-ports.ensures c.actions_clash.ensures c.sooner.ensures (λ g a. action_known c.args.plan.now c.args.rows.now c.requires.fit g a c.keeps.ensures.sound) c.in-None.is
