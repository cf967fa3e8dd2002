use Rattle.std.proofs.Common.{None, Some, ◌∙◌}
use Rattle.lft_elaborate.proofs.Using.{instance_there}
use Rattle.lft_elaborate.proofs.settings.Settings.has_instance.Goals as goal

pub returns-in-Some : goal.returns-in-Some
returns-in-Some c t at = c.is_instance.ensures ∙ instance_there c.args.self.now c.args.setting c.args.member t at (Some c.in-Some.found.now) c.in-Some.ensures

pub returns-in-None : goal.returns-in-None
returns-in-None c t at = instance_there c.args.self.now c.args.setting c.args.member t at None c.in-None.ensures
