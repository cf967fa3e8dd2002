use Rattle.std.proofs.Common.{◌≡◌, sym, ◌∙◌}
use Rattle.lft_ir.{specs.inner.Places.names_from, proofs.Ranges.{same_texts, same_starts}}
use Rattle.lft_ir.proofs.names.NameTable.same.Goals as goal

pub returns-then-not-same : goal.returns-then-not-same
returns-then-not-same c = (
  λ clash. absurd (cc clash),
  λ same. (
      let names = c.self.view_is ∙ same ∙ sym c.other.view_is in
      let yes = c.same.ensures.1 (same_starts c.self.inside.texts c.other.inside.texts c.self.inside.starts c.other.inside.starts c.self.invariant.0 c.other.invariant.0 names) in
      sym c.if-not-same.true ∙ yes),
)

pub returns : goal.returns
returns c = (
  λ yes. (
      let texts = c.same-2.ensures.0 yes in
      let starts = c.same.ensures.0 c.if-not-same.false in
      let names : names_from c.self.inside.texts c.self.inside.starts ≡ names_from c.other.inside.texts c.other.inside.starts = λ j. names_from (texts j) (starts j) in
      sym c.self.view_is ∙ names ∙ c.other.view_is),
  λ same. (
      let names = c.self.view_is ∙ same ∙ sym c.other.view_is in
      c.same-2.ensures.1 (same_texts c.self.inside.texts c.other.inside.texts c.self.inside.starts c.other.inside.starts c.self.invariant.0 c.other.invariant.0 names)),
)
