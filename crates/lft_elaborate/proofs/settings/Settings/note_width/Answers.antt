use Rattle.std.proofs.Common.{◌≡◌, length, Some, inl, inr, refl, sym, ap, subst, ◌∙◌, arith, slice_get, slice_set}
use Rattle.std.{proofs.lemmas.{List.with_items_is, Option.slice_get_read}, specs.Vec.with_items}
use Rattle.lft_lists.proofs.Places.{length_written}
use Rattle.lft_elaborate.specs.{declared.settings.Setting.Setting, inner.{Noted.{noted_at, table}, Places.IsWidth, Settings.valued}}
use Rattle.lft_elaborate.proofs.Keeping.{goes_written, noted_put, setting_of_number}
use Rattle.lft_elaborate.proofs.settings.Settings.note_width.Goals as goal

pub returns-then-wanted-len-clause-goes : goal.returns-then-wanted-len-clause-goes
returns-then-wanted-len-clause-goes c =
    let old = table c.args.self.now in
    let s = c.index_mut.result.now in
    let member = c.args.wanted.member in
    let width = c.args.width in
    let list : c.note.new.list ≡ slice_set s.widths.items member (Some width) = c.note.ensures ∙ ap (λ l. slice_set l member (Some width)) c.deref_mut.ensures.value in
    let long : length c.note.new.list ≡ length s.widths.items = ap length list ∙ length_written s.widths.items member (Some width) in
    let new_s : Setting = record s { widths = with_items s.widths c.note.new.list } in
    let items : new_s.widths.items ≡ slice_set s.widths.items member (Some width) = with_items_is s.widths c.note.new.list (let ok = s.widths.ok.0 in omega (arith, long, ok)) ∙ list in
    let is : slice_get old.settings c.args.wanted.setting ≡ Some s = slice_get_read old.settings (length old.settings) c.args.wanted.setting s refl (omega arith) c.index_mut.ensures.value in
    goes_written _ old c.args.wanted.setting s new_s is refl refl (λ holds n. record {
      widths = λ m k e. elim (noted_put s.widths.items member width m k (ap (λ l. noted_at l m) (sym items) ∙ e)) [
        | inl same ↦ subst (λ j. IsWidth old.shapes (valued s) m j) same.1 (subst (λ i. IsWidth old.shapes (valued s) i width) (sym same.0) (holds (valued s) (setting_of_number old.settings c.args.wanted.setting s is)))
        | inr was ↦ n.widths m k was
      ];
      inner = n.inner;
    })
