use Rattle.std.proofs.Common.{ℕ, length, subst, arith}
use Rattle.std.specs.Prelude.{option_map}
use Rattle.lft_tree.specs.View.{range_view}
use Rattle.lft_syntax.{specs.{Language.many, inner.Parsing.words}, proofs.{Loop.known, Files.right_maybe_target}}
use Rattle.lft_syntax.specs.Placed as Placed
use Rattle.lft_syntax.proofs.parser.file.file.Goals as goal

pub items-requires : goal.items-requires
items-requires c = (known right_maybe_target (words c.args.input.now) 0 (omega arith) (option_map range_view c.in_ok-target.target) c.in_ok-target.first c.in_ok-target.ensures.gives).within

pub returns-clause-stand : goal.returns-clause-stand
returns-clause-stand c =
    let ws = words c.args.input.now in
    subst (λ (k : ℕ). many Placed.item ws k (length ws) c.in_ok-items.items.items) c.in_ok-target.ensures.next c.in_ok-items.ensures.stand
