use Rattle.std.proofs.Common.{◌≡◌, length, Some, inl, inr, refl, sym, ap, subst, ◌∙◌, arith, slice_get, slice_set}
use Rattle.std.{proofs.lemmas.{List.with_items_is, Option.slice_get_read}, specs.Vec.with_items}
use Rattle.lft_lists.proofs.Places.{length_written}
use Rattle.lft_elaborate.specs.{declared.settings.Setting.Setting, inner.{Noted.{IsNumberOf, noted_at, table}, Settings.valued, Values.inside}}
use Rattle.lft_elaborate.proofs.Keeping.{goes_written, noted_put, setting_of_number}
use Rattle.lft_elaborate.proofs.settings.Settings.note_inside.Goals as goal

pub returns-then-setting-len-clause-goes : goal.returns-then-setting-len-clause-goes
returns-then-setting-len-clause-goes c =
    let old = table c.args.self.now in
    let s = c.index_mut.result.now in
    let list : c.note.new.list ≡ slice_set s.inner.items c.args.member (Some c.args.inner) = c.note.ensures ∙ ap (λ l. slice_set l c.args.member (Some c.args.inner)) c.deref_mut.ensures.value in
    let long : length c.note.new.list ≡ length s.inner.items = ap length list ∙ length_written s.inner.items c.args.member (Some c.args.inner) in
    let new_s : Setting = record s { inner = with_items s.inner c.note.new.list } in
    let items : new_s.inner.items ≡ slice_set s.inner.items c.args.member (Some c.args.inner) = with_items_is s.inner c.note.new.list (let ok = s.inner.ok.0 in omega (arith, long, ok)) ∙ list in
    let is : slice_get old.settings c.args.setting ≡ Some s = slice_get_read old.settings (length old.settings) c.args.setting s refl (omega arith) c.index_mut.ensures.value in
    goes_written _ old c.args.setting s new_s is refl refl (λ holds n. record {
      widths = n.widths;
      inner = λ m k e. elim (noted_put s.inner.items c.args.member c.args.inner m k (ap (λ l. noted_at l m) (sym items) ∙ e)) [
        | inl same ↦ subst (λ j. IsNumberOf old.settings (inside old.shapes (valued s) m) (Some j)) same.1 (subst (λ i. IsNumberOf old.settings (inside old.shapes (valued s) i) (Some c.args.inner)) (sym same.0) (holds (valued s) (setting_of_number old.settings c.args.setting s is)))
        | inr was ↦ n.inner m k was
      ];
    })
