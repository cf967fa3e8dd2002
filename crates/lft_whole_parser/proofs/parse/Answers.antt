use Rattle.lft_whole.proofs.Between.{each_token}
use Rattle.lft_whole_parser.proofs.parse.Goals as goal

pub invariant_of-input : goal.invariant_of-input
invariant_of-input c = rw c.as_slice.ensures (record { in_text = each_token c.args.text.now c.args.tokens.now c.requires.lexed })
