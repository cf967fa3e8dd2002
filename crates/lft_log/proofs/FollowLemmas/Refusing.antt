-- Why nothing is told, and what was written then.
use Rattle.std.proofs.Common.{◌≡◌, inl, inr, ℕ, Bool, List, Option, subst}
use Rattle.lft_tag.specs.declared.Tag.{Tag}
use Rattle.lft_model.specs.Plans.{PlanParts}
use Rattle.lft_load.specs.{Written.AppendsFront, declared.fault.Fault.Fault}
use Rattle.lft_driver.specs.inner.Explained.{WriteRefusal}
use Rattle.lft_log.specs.declared.told.Final.{Final}
use Rattle.lft_log.specs.Follow.{Followed.IsRead, Lines.line_of_log}
use Rattle.lft_log.specs.Follow.Refusals.{FollowRefusalUnder, FollowRefusalUnder.{by_reading, by_writer}, ReadRefusal.by_outside}

-- the line of what is told wasn't written
pub unwritten : (plan : PlanParts) (path : List ℕ) (until : Option Tag) (whole : Bool) (bytes : List ℕ) (old new out_old out_new : Option (List ℕ)) (told : Final) (line : List ℕ) (f : Fault) → IsRead plan until whole bytes old new told → line ≡ line_of_log plan.program told → WriteRefusal (λ text. text ≡ line) out_old out_new f → FollowRefusalUnder plan path until whole old new out_old out_new f
unwritten plan path until whole bytes old new out_old out_new told line f read same (inl x) = by_reading (by_outside (inl (x.0, x.1))) x.2
unwritten plan path until whole bytes old new out_old out_new told line f read same (inr (p, n, (text, is, front))) = by_writer bytes told p n read (subst (AppendsFront out_old out_new) same (subst (AppendsFront out_old out_new) is front))
