use Rattle.lft_same.proofs.FitsLemmas.{ClassNames.names_law, Nested.{inside_law, main_law}}
use Rattle.lft_same.proofs.fits.laws_of_settings.Goals as goal

pub returns : goal.returns
returns c = record {
  names = names_law c.args.files.now;
  main = λ scopes n t is set. main_law c.args.files.now scopes n is t set;
  inside = λ scopes n t u x m file i is fits at set. inside_law c.args.files.now scopes n is t u x m file i fits at set;
}
