use Rattle.std.proofs.Common.{List, refl, sym, subst}
use Rattle.lft_ir.specs.declared.steps.row.Row.{Row}
use Rattle.lft_model.specs.{Fitting.EachFits, Presence.stop}
use Rattle.lft_monitor.proofs.{Keeping.kept_fit, Behind.past_less}
use Rattle.lft_monitor.proofs.past.Past.drop_some.Goals as goal

pub keep_rows-requires : goal.keep_rows-requires
keep_rows-requires c =
    let p = c.args.self.now in
    let plan = c.args.plan.now in
    let t = c.requires.0 in
    let is = c.requires.1 in
    record {
      fit = subst (λ (x : List Row). EachFits plan.program x) (sym c.as_slice-rows.ensures.value) (kept_fit (stop plan t) plan t p.kept.items p.low is.kept is.fit);
      ways = is.ways;
    }

pub returns : goal.returns
returns c = λ t is apart. past_less c.args.plan.now t c.args.self.now _ is ((rw c.as_slice-rows.ensures.value at c.in_ok-kept.ensures) (stop c.args.plan.now t) t apart) refl refl refl
