use Rattle.std.proofs.Common.{refl}
use Rattle.lft_whole_driver.{specs.inner.Unlowered.IsImportRefusedAt, proofs.Saying.told_this}
use Rattle.lft_whole_driver.proofs.reading.unread.Goals as goal

pub returns-in-Ok : goal.returns-in-Ok
returns-in-Ok c = told_this (IsImportRefusedAt c.args.sources.now.files.items c.args.place) c.files.result.now c.as_str.result.now _ c.at-stop.result c.unlowered_by.result c.at-stop.ensures (c.files.ensures.files, refl, refl) c.unlowered_by.ensures
