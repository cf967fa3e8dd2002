use Rattle.std.proofs.Common.{[], refl, sym, subst, arith}
use Rattle.lft_log.{specs.Logs.HasNoEnd, proofs.Plans.told_none}
use Rattle.lft_log.proofs.log.Log.new.Goals as goal

pub returns : goal.returns
returns c = record {
  kept = record {
    lines = [];
    told = told_none c.args.plan.now c.keeps.ensures.sound.in_order;
    timely = tt;
    follower = c.in_ok-new-2.ensures;
    counted = refl;
    few = omega arith;
    numbered = refl;
    until_is = c.new-4.ensures.until;
    asked = c.new-4.ensures.asked;
    begun = λ e. absurd (cc e);
    fresh = λ e. (sym c.new-3.ensures.items, refl);
  };
  open_line = subst HasNoEnd (sym c.new-3.ensures.items) (λ i e. absurd (cc e));
}
