use Rattle.std.proofs.Common.{◌≡◌, ◌++◌, codes, string_bytes, sym, subst}
use Rattle.lft_ir.specs.{declared.parts.Trigger.Trigger, Words.Words.{tag_words, timer_words}}
use Rattle.lft_report.{specs.Runs.absent_words, proofs.Texts.five}
use Rattle.lft_report.proofs.runs.push_absent.Goals as goal

pub returns-in_ok-push_str-in-Timer-3 : goal.returns-in_ok-push_str-in-Timer-3
returns-in_ok-push_str-in-Timer-3 c = subst (λ (x : Trigger). string_bytes c.push_str-in-Timer-3.new.self ≡ string_bytes c.args.text.now ++ absent_words c.args.program.now c.args.tag x) (sym c.in-Timer.is) (five _ _ _ _ _ _ (codes "  timer ") (timer_words c.args.program.now c.in-Timer.number) (codes " does not fire at ") (tag_words c.args.tag) (codes ".\n") c.in_ok-push_str-in-Timer.ensures.bytes c.in_ok-push_timer-in-Timer.ensures c.in_ok-push_str-in-Timer-2.ensures.bytes c.in_ok-push_tag-in-Timer.ensures c.in_ok-push_str-in-Timer-3.ensures.bytes)
