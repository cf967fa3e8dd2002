use Rattle.std.proofs.Common.{◌≡◌, ◌≢◌, ◌∙◌, ◌<◌, ℕ, List, Some, Vec, Bool, true, false, ap, length, subst, sym}
use Rattle.std.specs.{declared.alloc.Global.Global, Io.KnownBytes.{IsAtEnd, Keeps, prepend_known}}
use Rattle.std.proofs.lemmas.{Bool.{eqb-false, false≢true}, Option.IfSome_then}
use Rattle.lft_tables.specs.inner.{Parts.IsCut, TableLines.text_left}
use Rattle.lft_tables.proofs.{Lining.{next_lines, split}, Together.at_some}
use Rattle.lft_tables.proofs.table_lines.TableLines.next.Goals.{else-more-via-then-more+else-is_empty, else-more-via-else-more}
use Rattle.lft_tables.proofs.table_lines.TableLines.next.Goals as goal

pub returns : goal.returns
returns g c =
    let remaining = g.R.Read.remaining in
    let text = text_left remaining c.args.self.now in
    let read = c.fill.new.self.read.items in
    let left = remaining c.fill.new.self.reader in
    let more = c.in-Some.more in
    let lines = c.first_lines.result.0.now in
    let behind = c.first_lines.result.1.now in
    let first = c.replace.result.items in
    let rest = c.replace.new.dest.items in
    let kept = at_some (λ (m : Bool). Keeps text (text_left remaining c.fill.new.self)) c.in_ok-more.field-0 more c.in-Some.is c.in_ok-more.ensures.kept in
    let end = at_some (λ (m : Bool). m ≡ false → IsAtEnd left) c.in_ok-more.field-0 more c.in-Some.is c.in_ok-more.ensures.end in
    let cut : IsCut read lines behind = subst (λ (t : List ℕ). IsCut t lines behind) c.as_slice.ensures.value c.first_lines.ensures.cut in
    let shorter : 0 < length read → length behind < length read = subst (λ (t : List ℕ). 0 < length t → length behind < length t) c.as_slice.ensures.value c.first_lines.ensures.shorter in
    let within : more ≡ true → length behind ≢ 0 = λ yes. elim c.else-more.branch [
      | else-more-via-then-more+else-is_empty w ↦ eqb-false (length behind) 0 (sym w.is_empty.ensures ∙ w.if-is_empty.false)
      | else-more-via-else-more w ↦ absurd (false≢true (sym w.if-more.false ∙ yes))
    ] in
    let is = split read lines behind first rest cut (ap (λ (v : Vec ℕ Global). v.items) c.replace.ensures.value ∙ c.in-Ok.ensures.items) (ap (λ (v : Vec ℕ Global). v.items) c.replace.ensures.after ∙ c.in-Ok.ensures.tail) in
    IfSome_then text (next_lines read lines behind cut shorter text left more kept end within) (λ whole next. record {
      behind = next.0;
      cut = subst (λ (t : List ℕ). IsCut whole t next.0) (sym is.0) next.1;
      left = subst (λ (t : List ℕ). prepend_known t left ≡ Some next.0) (sym is.1) next.2;
      none = λ none. next.3 (ap (λ (t : List ℕ). length t) (sym is.0) ∙ none);
    })
