use Rattle.std.specs.Prelude.{codes, string_bytes}
use Rattle.std.proofs.Common.{◌++◌, ap, ◌∙◌, append_assoc}
use Rattle.lft_load.specs.Words.{field}
use Rattle.lft_log.proofs.follow.line.push_tag.Goals as goal

pub returns : goal.returns
returns c =
    let old = string_bytes c.args.line.now in
    let time = field (codes " time=") c.args.tag.time in
    c.in_ok-push_field-2.ensures
    ∙ ap (λ s. s ++ field (codes " microstep=") c.from.result) c.in_ok-push_field.ensures
    ∙ ap (λ n. (old ++ time) ++ field (codes " microstep=") n) c.from.ensures
    ∙ append_assoc old time (field (codes " microstep=") c.args.tag.micro)
