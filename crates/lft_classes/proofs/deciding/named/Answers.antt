use Rattle.std.proofs.Common.{string_bytes, refl, subst}
use Rattle.std.proofs.lemmas.Option.{IfSome_then}
use Rattle.lft_classes.specs.inner.Needs.{IsParameter}
use Rattle.lft_classes.proofs.deciding.named.Goals as goal

pub returns-in-Word-clause-some : goal.returns-in-Word-clause-some
returns-in-Word-clause-some c = IfSome_then c.parameter.result c.parameter.ensures.some (λ n is. (string_bytes c.in-Word.word, record { word = c.in-Word.word; is_word = c.in-Word.is; is_name = refl }, subst (λ q. IsParameter c.args.shape.now q n) c.as_str.ensures.value is))
