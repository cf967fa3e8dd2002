use Rattle.lft_same.proofs.FitsLemmas.Found.{widths_law}
use Rattle.lft_same.proofs.fits.law_of_widths.Goals as goal

pub returns : goal.returns
returns c = λ scopes n t depth is set found. widths_law c.args.files.now scopes n is t depth set found
