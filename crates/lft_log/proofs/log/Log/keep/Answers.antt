use Rattle.std.proofs.Common.{refl, subst, sym}
use Rattle.lft_log.{specs.Logs.HasNoEnd, proofs.Keeping.kept_all}
use Rattle.lft_log.proofs.log.Log.keep.Goals as goal

pub returns-in-Ok-clause-told : goal.returns-in-Ok-clause-told
returns-in-Ok-clause-told c = λ base plan until bytes is none. record {
  kept = kept_all base plan until bytes c.args.self.now.rest.items c.args.more.now c.extend_from_slice.new.self.items c.args.self.now _ c.in-Ok.ensures.items refl refl refl refl refl is;
  open_line = subst HasNoEnd (sym c.in-Ok.ensures.items) none;
}
