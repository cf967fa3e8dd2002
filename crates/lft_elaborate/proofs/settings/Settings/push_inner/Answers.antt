use Rattle.std.proofs.Common.{List, inl, subst, arith}
use Rattle.lft_classes.specs.declared.shapes.Shape.{Shape}
use Rattle.lft_elaborate.{specs.inner.{Used.IsIn, Noted.table}, proofs.{Keeping.{goes_further, goes_nowhere}, Using.{inner_step, only_step}}}
use Rattle.lft_elaborate.proofs.settings.Settings.push_inner.Goals as goal

pub loop-member-init : goal.loop-member-init
loop-member-init c = record {
  goes = goes_nowhere _;
  marked = λ a. a;
  stay = λ i k e. e;
  all = λ t made at a m u low is. absurd (omega (arith, low));
  only = λ t made at k h. inl h;
}

pub loop-member-preserved : goal.loop-member-preserved
loop-member-preserved c =
    let was = c.loop-member.invariant in
    let now = c.in_ok-push_inside.ensures in
    record {
      goes = goes_further _ _ _ was.goes now.goes;
      marked = λ a. now.marked (was.marked a);
      stay = λ i k e. now.stay i k (was.stay i k e);
      all = λ t made at a. inner_step (table c.args.self.now) (table c.loop-member.self) (table c.push_inside.new.self) was.goes now.goes c.loop-member.used.items c.push_inside.new.used.items t c.loop-member.member now.stay (was.all t made at a) (λ u is. now.has t u (was.goes.made made) (was.goes.stays c.args.setting t at) (was.marked a) is);
      only = λ t made at. only_step (table c.args.self.now) (table c.loop-member.self) (table c.push_inside.new.self) was.goes now.goes c.args.used.now.items c.loop-member.used.items c.push_inside.new.used.items t c.loop-member.member (was.only t made at) (now.only t (was.goes.made made) (was.goes.stays c.args.setting t at));
    }

pub returns-clause-all : goal.returns-clause-all
returns-clause-all c t made at a m u is =
    let here = subst (λ (shapes : List Shape). IsIn shapes t m u) c.loop-member.invariant.goes.shapes is in
    let low = c.members-member-end.ensures t m at here.instance in
    let end = c.loop-member-test.false in
    c.loop-member.invariant.all t made at a m u (omega (arith, low, end)) here
