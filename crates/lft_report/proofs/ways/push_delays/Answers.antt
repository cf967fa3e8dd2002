use Rattle.std.proofs.Common.{◌≡◌, ◌++◌, codes, string_bytes, subst}
use Rattle.lft_ir.{specs.Words.Words.{time_words, tag_words}, proofs.WordsLemmas.Steps.also}
use Rattle.lft_report.specs.Ways.{least_delay, extra_at}
use Rattle.lft_report.proofs.ways.push_delays.Goals as goal

pub returns : goal.returns
returns c =
    let least : string_bytes c.push_time.new.text ≡ string_bytes c.push_str.new.self ++ time_words (least_delay c.args.program.now c.args.action) = subst (λ n. string_bytes c.push_time.new.text ≡ string_bytes c.push_str.new.self ++ time_words n) c.least_delay.ensures c.in_ok-push_time.ensures in
    let extra : string_bytes c.push_time-2.new.text ≡ string_bytes c.push_str-2.new.self ++ time_words (extra_at c.args.rows.now c.args.row) = subst (λ n. string_bytes c.push_time-2.new.text ≡ string_bytes c.push_str-2.new.self ++ time_words n) c.extra_at.ensures c.in_ok-push_time-2.ensures in
    also _ _ _ (codes "    least delay " ++ time_words (least_delay c.args.program.now c.args.action) ++ codes " + extra delay " ++ time_words (extra_at c.args.rows.now c.args.row) ++ codes " --> " ++ tag_words c.args.tag) (codes "\n") (also _ _ _ (codes "    least delay " ++ time_words (least_delay c.args.program.now c.args.action) ++ codes " + extra delay " ++ time_words (extra_at c.args.rows.now c.args.row) ++ codes " --> ") (tag_words c.args.tag) (also _ _ _ (codes "    least delay " ++ time_words (least_delay c.args.program.now c.args.action) ++ codes " + extra delay " ++ time_words (extra_at c.args.rows.now c.args.row)) (codes " --> ") (also _ _ _ (codes "    least delay " ++ time_words (least_delay c.args.program.now c.args.action) ++ codes " + extra delay ") (time_words (extra_at c.args.rows.now c.args.row)) (also _ _ _ (codes "    least delay " ++ time_words (least_delay c.args.program.now c.args.action)) (codes " + extra delay ") (also _ _ _ (codes "    least delay ") (time_words (least_delay c.args.program.now c.args.action)) (c.in_ok-push_str.ensures.bytes) least) c.in_ok-push_str-2.ensures.bytes) extra) c.in_ok-push_str-3.ensures.bytes) c.in_ok-push_tag.ensures) c.in_ok-push_str-4.ensures.bytes
