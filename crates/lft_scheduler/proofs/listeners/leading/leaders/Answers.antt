use Rattle.std.proofs.Common.{◌≡◌, ℕ, take, Option, Some, slice_get, subst, sym, ◌∙◌, cond, rules}
use Rattle.std.{proofs.lemmas.Bool.false≢true, specs.{BTreeMap.get, Ordering.is_eq}}
use Rattle.lft_ir.specs.declared.parts.Trigger.{Trigger, TheVariants.Timer}
use Rattle.lft_lists.proofs.Places.{contains_at}
use Rattle.lft_scheduler.specs.inner.{Listeners.beat, Filling.{beat_cmp, TimerStartsBefore}}
use Rattle.lft_scheduler.proofs.Leaders.{leaders_same, leaders_stay, leaders_new, leaders_within}
use Rattle.lft_scheduler.proofs.listeners.leading.leaders.Goals.{in-Timer+then-starts_before+in_ok-_before, in-Timer+else-starts_before, in_default}
use Rattle.lft_scheduler.proofs.listeners.leading.leaders.Goals as goal

pub timer-requires : goal.timer-requires
timer-requires c = c.requires c.in-Timer.number (contains_at c.args.triggers.now c.triggers.place (Timer c.in-Timer.number) (subst (λ (t : Trigger). slice_get c.args.triggers.now c.triggers.place ≡ Some t) c.in-Timer.is c.item_at.ensures))

pub starts_before-requires-clause-number : goal.starts_before-requires-clause-number
starts_before-requires-clause-number c = c.requires c.in-Timer.number (contains_at c.args.triggers.now c.triggers.place (Timer c.in-Timer.number) (subst (λ (t : Trigger). slice_get c.args.triggers.now c.triggers.place ≡ Some t) c.in-Timer.is c.item_at.ensures))

pub starts_before-requires-clause-other : goal.starts_before-requires-clause-other
starts_before-requires-clause-other c =
    let leads : get beat_cmp c.triggers.leaders c.beat-its_beat.result ≡ c.copied-leader.result = search rules in
    leaders_within c.args.program.now (take c.triggers.place c.args.triggers.now) c.triggers.leaders c.beat-its_beat.result c.copied-leader.result c.triggers.invariant leads

pub triggers-preserved : goal.triggers-preserved
triggers-preserved c =
    let program = c.args.program.now in
    let triggers = c.args.triggers.now in
    let i = c.triggers.place in
    elim c.match-item_at.branch [
      | in-Timer+then-starts_before+in_ok-_before w ↦
          let timer = w.timer.result.now in
          let n = w.in-Timer.number in
          let leads : get beat_cmp c.triggers.leaders (beat timer) ≡ w.copied-leader.result = search rules in
          let before : TimerStartsBefore program n (get beat_cmp c.triggers.leaders (beat timer)) = subst (λ (o : Option ℕ). TimerStartsBefore program n o) (sym leads) (w.starts_before.ensures.0 w.if-starts_before.true) in
          rw w.leaders-is (leaders_new program triggers i c.item_at.result c.item_at.ensures n timer (sym w.in-Timer.is) w.timer.ensures.value c.triggers.leaders _ before (λ q. subst (λ (b : ℕ × ℕ). get beat_cmp w.insert.new.self q ≡ cond (is_eq (beat_cmp b q)) (Some n) (get beat_cmp c.triggers.leaders q)) w.beat-its_beat.ensures (w.in_ok-_before.ensures.updates.0 q)) c.triggers.invariant)
      | in-Timer+else-starts_before w ↦
          let timer = w.timer.result.now in
          let n = w.in-Timer.number in
          let leads : get beat_cmp c.triggers.leaders (beat timer) ≡ w.copied-leader.result = search rules in
          let not : ¬ TimerStartsBefore program n w.copied-leader.result = λ s. false≢true (sym w.if-starts_before.false ∙ w.starts_before.ensures.1 s) in
          rw w.leaders-is (leaders_stay program triggers i c.item_at.result c.item_at.ensures n timer (sym w.in-Timer.is) w.timer.ensures.value c.triggers.leaders w.copied-leader.result leads not c.triggers.invariant)
      | in_default w ↦ rw w.leaders-is (leaders_same program triggers i c.item_at.result c.item_at.ensures c.triggers.leaders (λ n e. w.in_default.not-Timer n (sym e)) c.triggers.invariant)
    ]
