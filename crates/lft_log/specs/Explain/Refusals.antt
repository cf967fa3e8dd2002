-- Why a log isn't explained: it isn't followed, or the writer fails behind the line of what is told.
use Rattle.std.specs.Prelude.{◌≡◌, ℕ, Bool, List, ◌++◌, take, Option}
use Rattle.std.specs.Io.KnownBytes.{Appends}
use Rattle.lft_tag.specs.declared.Tag.{Tag}
use Rattle.lft_model.specs.Plans.{PlanParts}
use Rattle.lft_load.specs.declared.fault.Fault.{Fault}
use Rattle.lft_log.specs.{declared.told.Final.Final, Follow.{Followed.IsRead, Lines.line_of_log, Refusals.FollowRefusalUnder}, Explain.Explained.IsToStand}
use Rattle.lft_load.specs.declared.fault.Part.TheVariants as part

-- a log isn't explained under a plan: it isn't followed; or the writer took the line of what is told, and failed on what stands behind it
pub data ExplainLogRefusalUnder (plan : PlanParts) (path : List ℕ) (until : Option Tag) (whole all : Bool) (old new out_old out_new : Option (List ℕ)) (f : Fault) : Type 0 where
  by_log : FollowRefusalUnder plan path until whole old new out_old out_new f → ExplainLogRefusalUnder plan path until whole all old new out_old out_new f
  by_writer_behind : (log : List ℕ) (told : Final) (rest : List ℕ) (n : ℕ) → f.part ≡ part.Write → f.number ≡ 1 → IsRead plan until whole log old new told → IsToStand all plan log told rest → Appends out_old out_new (line_of_log plan.program told ++ take n rest) → ExplainLogRefusalUnder plan path until whole all old new out_old out_new f
