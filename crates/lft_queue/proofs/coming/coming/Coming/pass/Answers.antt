use Rattle.std.proofs.Common.{◌≡◌, ◌<◌, ◌⊎◌, inl, inr, List, [], length, refl, sym, subst, rules}
use Rattle.std.{specs.List.filter, proofs.lemmas.Bool.false≢true}
use Rattle.lft_tag.{specs.Tags.{Before, UpTo}, proofs.Order.{order_cases, UpTo-trans}}
use Rattle.lft_lists.proofs.Members.{Mem, mem_contains, contains_mem}
use Rattle.lft_queue.{specs.Pending.{Pending, is_after}, proofs.ComingLemmas.ToCome.{OnTheWay, none_passed, all_passed, one_passed, dropped_fewer}}
use Rattle.lft_queue.proofs.coming.coming.Coming.pass.Goals as goal

pub loop-first-init : goal.loop-first-init
loop-first-init c = record { next = refl; clash = refl; way = none_passed c.args.listeners.now c.args.tag c.args.self.now.queue }

pub loop-first-preserved : goal.loop-first-preserved
loop-first-preserved c =
    let f = c.in-Some.first in
    let mid = c.loop-first.self.queue in
    record {
      next = c.loop-first.invariant.next;
      clash = c.loop-first.invariant.clash;
      way = subst (λ (q : List Pending). OnTheWay c.args.listeners.now c.args.tag c.args.self.now.queue q) (sym c.drop_until.ensures) (one_passed c.args.listeners.now c.args.tag f c.args.self.now.queue mid (c.if-not-is_before.ensures.0 refl) (λ e m. c.in-Some.ensures.least e (mem_contains e mid m)) (c.if-not-are_unheard.ensures refl) c.loop-first.invariant.way);
    }

pub loop-first-smaller : goal.loop-first-smaller
loop-first-smaller c =
    let f = c.in-Some.first in
    let x = c.in-Some.ensures.some in
    let l : length (filter (λ e. is_after f e) c.loop-first.self.queue) < length c.loop-first.self.queue = dropped_fewer f x.0 c.loop-first.self.queue (contains_mem x.0 c.loop-first.self.queue x.1) x.2 in
    subst (λ (q : List Pending). length q < length c.loop-first.self.queue) (sym c.drop_until.ensures) l

pub returns-then-not-is_before-clause-passed : goal.returns-then-not-is_before-clause-passed
returns-then-not-is_before-clause-passed c = λ z. all_passed c.args.listeners.now c.args.tag c.args.self.now.queue c.loop-first.self.queue (λ e m. UpTo-trans c.args.tag c.in-Some.first e.tag (late (order_cases c.in-Some.first c.args.tag)) (c.in-Some.ensures.least e (mem_contains e c.loop-first.self.queue m))) c.loop-first.invariant.way
  where
    late : Before c.in-Some.first c.args.tag ⊎ UpTo c.args.tag c.in-Some.first → UpTo c.args.tag c.in-Some.first
    late (inl b) = absurd (false≢true (c.if-not-is_before.ensures.1 b))
    late (inr up) = up

pub returns-clause-passed : goal.returns-clause-passed
returns-clause-passed c = λ z. all_passed c.args.listeners.now c.args.tag c.args.self.now.queue c.loop-first.self.queue (λ e m. absurd (subst (λ (q : List Pending). Mem e q) none m)) c.loop-first.invariant.way
  where
    none : c.loop-first.self.queue ≡ []
    none = search rules
