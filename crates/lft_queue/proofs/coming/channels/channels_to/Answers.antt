use Rattle.std.proofs.Common.{◌≡◌, ◌<◌, inl, inr, ℕ, length, Some, Contains, slice_get, sym, ap, ◌∙◌, subst, arith}
use Rattle.std.proofs.lemmas.Bool.{cases_eq}
use Rattle.lft_ir.{specs.declared.parts.Port.Port as PortOf, proofs.Origins.origin_inside}
use Rattle.lft_lists.proofs.Places.{same_at}
use Rattle.lft_model.proofs.Places.{slice_get_within}
use Rattle.lft_queue.specs.inner.Coming.AtOnce.{is_undelayed, HaveGrown}
use Rattle.lft_queue.proofs.ComingLemmas.AtOnce.{still_there, pushed_grows, pushed_there}
use Rattle.lft_queue.proofs.coming.channels.channels_to.Goals.{then-is_channel+in_ok-push, else-is_channel}
use Rattle.lft_queue.proofs.coming.channels.channels_to.Goals as goal

pub push-requires : goal.push-requires
push-requires c =
    let a = origin_inside (c.port.ensures.sound.origins c.loop-number.number c.port.result.now c.port.ensures.value).1 in
    let b = c.loop-number.invariant.as_long in
    omega arith

pub loop-number-preserved : goal.loop-number-preserved
loop-number-preserved c = elim c.if-is_channel.branch [
  | then-is_channel+in_ok-push w ↦
      let old = c.loop-number.channels in
      let new = w.push.new.self in
      let own = w.port.result.now in
      let within : own.origin < length old = let a = origin_inside (w.port.ensures.sound.origins c.loop-number.number own w.port.ensures.value).1 in let b = c.loop-number.invariant.as_long in omega arith in
      let grown : HaveGrown old new = pushed_grows old new own.origin c.loop-number.number within w.in_ok-push.ensures in
      rw w.channels-is (record {
        as_long = grown.as_long ∙ c.loop-number.invariant.as_long;
        each = λ p port list l m e f h. elim (cases_eq p c.loop-number.number) [
          | inl q ↦
              let same : port ≡ own = same_at c.args.program.now.ports p c.loop-number.number port own e w.port.ensures.value q in
              subst (λ (k : ℕ). Contains list k) (sym q) (pushed_there old new own.origin c.loop-number.number within w.in_ok-push.ensures list (ap (λ (z : PortOf). slice_get new z.origin) (sym same) ∙ h))
          | inr d ↦ still_there old new grown port.origin p list h (λ own h. c.loop-number.invariant.each p port own (omega (arith, l, d)) m e f h)
        ];
      })
  | else-is_channel w ↦
      rw w.channels-is (record {
        as_long = c.loop-number.invariant.as_long;
        each = λ p port list l m e f h. elim (cases_eq p c.loop-number.number) [
          | inl q ↦ absurd (c.is_channel.ensures w.if-is_channel.false (ap (λ (k : ℕ). slice_get c.args.marked.now k) (sym q) ∙ m) (ap (λ (k : ℕ). is_undelayed c.args.program.now k) (sym q) ∙ f))
          | inr d ↦ c.loop-number.invariant.each p port list (omega (arith, l, d)) m e f h
        ];
      })
]

pub is_channel-requires-clause-marked : goal.is_channel-requires-clause-marked
is_channel-requires-clause-marked c = let a = c.requires in let b = c.loop-number-test.true in let d = c.ports-number-end.ensures.count in omega arith

pub returns : goal.returns
returns c = λ test same. record {
  as_long = c.loop-number.invariant.as_long;
  each = λ p port list k e f h.
      let a = slice_get_within c.args.program.now.ports p port e in
      let b = c.loop-number-test.false in
      let d = c.ports-number-end.ensures.count in
      c.loop-number.invariant.each p port list (omega arith) (same p a ∙ ap Some k) e f h;
}
