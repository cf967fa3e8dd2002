use Rattle.lft_lists.proofs.Options.{lacking}
use Rattle.lft_text_diagnostics.proofs.tables.tables.tell_record.Goals as goal

pub returns-in_default : goal.returns-in_default
returns-in_default c fields there = absurd (lacking _ c.in_ok-fields.field-0 c.in_ok-fields.ensures.none c.in_default.is fields there)
