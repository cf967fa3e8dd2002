use Rattle.std.proofs.Common.{◌≡◌, ℕ, Some, slice_get, subst, sym, ◌∙◌, arith}
use Rattle.std.{proofs.lemmas.Bool.false≢true, specs.BTreeMap.get}
use Rattle.lft_ir.specs.declared.parts.Trigger.{Trigger, TheVariants.Timer}
use Rattle.lft_lists.proofs.Places.{contains_at}
use Rattle.lft_scheduler.specs.inner.{Listeners.{beat, IsLeader}, Filling.beat_cmp}
use Rattle.lft_scheduler.proofs.Leaders.{equal_some, some_equal, leader_within, leads_its_beat, marked_start, marked_other, marked_leader, marked_all}
use Rattle.lft_scheduler.proofs.listeners.leading.mark_leaders.Goals.{in-Timer+then-eq, in-Timer+else-eq, in_default}
use Rattle.lft_scheduler.proofs.listeners.leading.mark_leaders.Goals as goal

pub triggers-init : goal.triggers-init
triggers-init c = marked_start c.args.program.now c.args.triggers.now c.args.marked.now

pub timer-requires : goal.timer-requires
timer-requires c = c.requires.known c.in-Timer.number (contains_at c.args.triggers.now c.triggers.place (Timer c.in-Timer.number) (subst (λ (t : Trigger). slice_get c.args.triggers.now c.triggers.place ≡ Some t) c.in-Timer.is c.item_at.ensures))

pub bounds-marked-number : goal.bounds-marked-number
bounds-marked-number c =
    let n = c.requires.known c.in-Timer.number (contains_at c.args.triggers.now c.triggers.place (Timer c.in-Timer.number) (subst (λ (t : Trigger). slice_get c.args.triggers.now c.triggers.place ≡ Some t) c.in-Timer.is c.item_at.ensures)) in
    let a = c.triggers.invariant.as_long in
    let b = c.requires.as_long in
    omega (arith, n, a, b)

pub triggers-preserved : goal.triggers-preserved
triggers-preserved c =
    let program = c.args.program.now in
    let triggers = c.args.triggers.now in
    let i = c.triggers.place in
    elim c.match-item_at.branch [
      | in-Timer+then-eq w ↦
          let n = w.in-Timer.number in
          let timer = w.timer.result.now in
          let leads : get beat_cmp c.in_ok-leaders.leaders (beat timer) ≡ Some n = subst (λ (b : ℕ × ℕ). get beat_cmp c.in_ok-leaders.leaders b ≡ Some n) w.beat.ensures (sym w.get.ensures.value ∙ sym w.copied-leader.ensures ∙ equal_some w.copied-leader.result n (sym w.eq.ensures ∙ w.if-eq.true)) in
          let leader = (c.in_ok-leaders.ensures.each (beat timer) n leads).0 in
          let within = c.triggers.invariant.as_long ∙ c.requires.as_long in
          let l = leader_within program triggers n leader in
          rw w.marked-is (marked_leader program triggers i c.item_at.result c.item_at.ensures c.args.marked.now c.triggers.marked c.triggers.invariant n (sym w.in-Timer.is) leader (omega arith))
      | in-Timer+else-eq w ↦
          let n = w.in-Timer.number in
          let timer = w.timer.result.now in
          let none : (m : ℕ) → Timer m ≡ c.item_at.result → ¬ IsLeader program triggers m = λ m e leader.
          let same : m ≡ n = (let q : Timer m ≡ Timer n = e ∙ w.in-Timer.is in cc) in
          let leads : get beat_cmp c.in_ok-leaders.leaders (beat timer) ≡ Some n = leads_its_beat program triggers c.in_ok-leaders.leaders n timer w.timer.ensures.value c.in_ok-leaders.ensures (subst (λ (k : ℕ). IsLeader program triggers k) same leader) in
          let found : w.copied-leader.result ≡ Some n = w.copied-leader.ensures ∙ w.get.ensures.value ∙ subst (λ (b : ℕ × ℕ). get beat_cmp c.in_ok-leaders.leaders b ≡ Some n) (sym w.beat.ensures) leads in
          false≢true (sym w.if-eq.false ∙ w.eq.ensures ∙ some_equal w.copied-leader.result n found) in
          rw w.marked-is (marked_other program triggers i c.item_at.result c.item_at.ensures c.args.marked.now c.triggers.marked c.triggers.invariant none)
      | in_default w ↦ rw w.marked-is (marked_other program triggers i c.item_at.result c.item_at.ensures c.args.marked.now c.triggers.marked c.triggers.invariant (λ n e. absurd (w.in_default.not-Timer n (sym e))))
    ]

pub returns-clause-each : goal.returns-clause-each
returns-clause-each c = marked_all c.args.program.now c.args.triggers.now c.triggers.place c.args.marked.now c.triggers.marked (let z = c.triggers-test.false in omega arith) c.triggers.invariant
