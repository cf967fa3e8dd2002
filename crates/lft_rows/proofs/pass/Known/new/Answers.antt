use Rattle.std.proofs.Common.{◌∙◌, sym, subst, arith}
use Rattle.lft_rows.{specs.inner.Passes.{LastStart, OpenPlace}, proofs.{Early.latest_none, Marked.marks_begin}}
use Rattle.lft_rows.proofs.pass.Known.new.Goals as goal

pub returns : goal.returns
returns c t =
    record {
      many = c.in_ok-starts.ensures.count ∙ c.reactions.ensures.count;
      latest = latest_none t;
      started = λ r. subst (λ o. LastStart t 0 r o) (sym (c.in_ok-starts.ensures.none r)) (λ j w g l e. absurd (omega arith));
      held = λ w. subst (λ o. OpenPlace t 0 0 w o) (sym (c.in_ok-runs.ensures w)) (λ j g r l u. absurd (omega arith));
      marked = marks_begin c.args.program.now t 0 c.in_ok-marks.marks c.in_ok-marks.ensures;
    }
