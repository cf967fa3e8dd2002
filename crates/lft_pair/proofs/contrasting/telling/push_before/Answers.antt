use Rattle.std.proofs.Common.{codes, decimal, ◌++◌, string_bytes, ap, ◌∙◌}
use Rattle.lft_pair.proofs.Texts.{three}
use Rattle.lft_pair.proofs.contrasting.telling.push_before.Goals as goal

pub returns : goal.returns
returns c = three _ _ _ _ (codes "  Runs at earlier tags, the same in both: ") (decimal c.args.count) (codes "\n") c.in_ok-push_str.ensures.bytes (c.in_ok-push_number.ensures ∙ ap (λ n. string_bytes c.push_str.new.self ++ decimal n) c.from.ensures) c.in_ok-push_str-2.ensures.bytes
