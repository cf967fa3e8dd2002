use Rattle.std.proofs.Common.{◌<◌, length, arith}
use Rattle.lft_classes.proofs.Marking.{marks_one, marks_out}
use Rattle.lft_classes.proofs.deciding.mark.Goals as goal

pub returns-then-parameter-len : goal.returns-then-parameter-len
returns-then-parameter-len c =
    let within : c.args.parameter < length c.args.list.now.items = omega arith in
    marks_one c.args.list.now.items c.args.parameter within

pub returns-else-parameter-len : goal.returns-else-parameter-len
returns-else-parameter-len c = marks_out c.args.list.now.items c.args.parameter (λ within. omega arith)
