-- Finished tags stay as they are.
use Rattle.std.proofs.Common.{◌⊎◌, inl, inr, List, ◌++◌}
use Rattle.lft_tag.{specs.{declared.Tag.Tag, Tags.{Before, UpTo}}, proofs.Order.{order_cases, Before-UpTo}}
use Rattle.lft_lists.proofs.Members.{Mem, get_mem}
use Rattle.lft_ir.specs.declared.steps.row.Row.{Row}
use Rattle.lft_model.specs.{declared.breach.Breach.Breach, Plans.PlanParts, Presence.stop, Breaches.{TagBreach, TagOrder}}
use Rattle.lft_monitor.{specs.Sure.{AreRowsFrom, FinishedLaw, ToldLaw}, proofs.Same.{SameAt, same_breach}}
use Rattle.lft_stream.proofs.Behind.{ran_added, ran_back, too_early_added, too_early_back, reads_added, reads_back, in_time_added, in_time_back, triggered_added, triggered_back, collision_added, collision_back}

module _ (plan : PlanParts) (d u : List Row) (low : Tag) (from : AreRowsFrom u low) (h : Tag) (before : Before h low) where
  later : (x : Row) → Mem x u → Before h x.tag
  later x m = let p = get_mem x u m in Before-UpTo h low x.tag before (from p.0 x p.1)

  same_back : SameAt plan plan (stop plan (d ++ u)) (stop plan d) (d ++ u) d h
  same_back = record {
    in_time = in_time_back plan d u h later;
    triggered = triggered_back plan d u h later;
    triggered_back = triggered_added plan d u h later;
    ran = ran_back plan d u h later;
    ran_back = ran_added plan d u h later;
    early = too_early_back plan d u h later;
    reads_back = reads_added plan d u h later;
    collision = collision_back plan d u h later;
  }

  same_added : SameAt plan plan (stop plan d) (stop plan (d ++ u)) d (d ++ u) h
  same_added = record {
    in_time = in_time_added plan d u h later;
    triggered = triggered_added plan d u h later;
    triggered_back = triggered_back plan d u h later;
    ran = ran_added plan d u h later;
    ran_back = ran_back plan d u h later;
    early = too_early_added plan d u h later;
    reads_back = reads_back plan d u h later;
    collision = collision_added plan d u h later;
  }

pub finished_law : (plan : PlanParts) → FinishedLaw plan
finished_law plan d u low b from before = (same_breach plan plan (stop plan (d ++ u)) (stop plan d) (d ++ u) d b (same_back plan d u low from b.tag before), same_breach plan plan (stop plan d) (stop plan (d ++ u)) d (d ++ u) b (same_added plan d u low from b.tag before))

pub told_law : (plan : PlanParts) → ToldLaw plan
told_law plan d u low b from first kept = inr (kept, (finished_law plan d u low b from first.before).1 first.breaks, least)
  where
    least : (c : Breach) → TagBreach plan (d ++ u) c → TagOrder b c
    least c x = go (order_cases c.tag low)
      where
        go : Before c.tag low ⊎ UpTo low c.tag → TagOrder b c
        go (inl l) = first.least c ((finished_law plan d u low c from l).0 x) l
        go (inr l) = inl (Before-UpTo b.tag low c.tag first.before l)
