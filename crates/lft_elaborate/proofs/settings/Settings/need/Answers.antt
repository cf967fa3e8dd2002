use Rattle.std.proofs.Common.{Some, sym}
use Rattle.lft_elaborate.proofs.Standing.{found_is_width, width_many}
use Rattle.lft_elaborate.proofs.settings.Settings.need.Goals as goal

pub returns-in-Some : goal.returns-in-Some
returns-in-Some c =
    let s = c.args.self.now in
    let n = c.in-Some.width in
    record { many = λ t made at. width_many s.shapes.items t c.args.needed.member (Some n) (found_is_width s c.args.needed.setting c.args.needed.member n t made at (sym c.in-Some.ensures)) }
