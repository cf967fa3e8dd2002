use Rattle.std.proofs.Common.{[], ◌∷◌, None, sym, ap, subst, ◌∙◌, string_bytes}
use Rattle.std.specs.Prelude.{option_map}
use Rattle.std.proofs.lemmas.List.{map-append}
use Rattle.lft_lower.{specs.inner.Meanings.Names.texts, proofs.MeaningsLemmas.Apart.{AreNone, none_first, none_more}}
use Rattle.lft_lower.proofs.meanings.naming.CoreNames.of.Goals as goal

pub loop-init : goal.loop-init
loop-init c = subst AreNone (sym (ap texts c.new-found.ensures.items)) none_first

pub loop-preserved : goal.loop-preserved
loop-preserved c = subst AreNone (sym (ap texts c.in_ok-push.ensures.items ∙ map-append (λ name. option_map (λ text. string_bytes text) name) c.loop.found.items (None ∷ []))) (none_more (texts c.loop.found.items) c.loop.invariant)

pub returns : goal.returns
returns c = record {
  apart = λ i j q at_i at_j. absurd (c.loop.invariant i q at_i);
  taken = λ i q at. absurd (c.loop.invariant i q at);
}
