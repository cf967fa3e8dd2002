use Rattle.std.proofs.Common.{refl, ap, ◌∙◌}
use Rattle.lft_elaborate.{specs.inner.Noted.{noted_at, table}, proofs.Keeping.none_noted}
use Rattle.lft_elaborate.proofs.settings.Settings.add_setting.Goals as goal

pub returns-clause-adds : goal.returns-clause-adds
returns-clause-adds c = record {
  fresh = record { shape = c.args.shape; values = c.args.values; widths = c.in_ok-widths.widths; inner = c.in_ok-inner.inner };
  settings = ap (λ xs. record (table c.args.self.now) { settings = xs }) c.in_ok-push.ensures.items;
  shape_is = refl;
  values_are = refl;
  no_widths = λ m. ap (λ l. noted_at l m) c.in_ok-widths.ensures ∙ none_noted c.match-get.count.0 m;
  no_inner = λ m. ap (λ l. noted_at l m) c.in_ok-inner.ensures ∙ none_noted c.match-get.count.0 m;
}
