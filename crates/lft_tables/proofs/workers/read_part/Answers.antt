use Rattle.std.proofs.Common.{rules, ◌≡◌, ◌∙◌, ◌++◌, ◌∷◌, [], append_assoc, append-nil, sym, ap, subst}
use Rattle.std.{specs.List.AllZip, proofs.lemmas.Slice.Zip.all_zipped_more}
use Rattle.lft_tables.{specs.inner.Records.{fields_at_hand, in_memory, IsNext, records_left}, proofs.TableFacts.{Texts, fewer}}
use Rattle.lft_tables.proofs.workers.read_part.Goals as goal

pub lines-init : goal.lines-init
lines-init g c = record {
  plain = c.new-records.ensures.unread.plain;
  read = ([], sym c.new-records.ensures.unread.left, rw c.new-items.ensures.items tt);
  guess = c.first_guess-guess.ensures;
}

pub read-requires : goal.read-requires
read-requires g c = c.lines.invariant.guess

pub returns-in-Ok-false : goal.returns-in-Ok-false
returns-in-Ok-false g c =
    let tells = g.K.TableReader.tells c.args.table.now in
    let (first, is, each) = c.lines.invariant.read in
    let none = c.in-Ok-false.ensures.none c.in-Ok-false.field-0-test c.lines.invariant.plain in
    subst (λ (t : Texts). AllZip tells t c.lines.items.items) (sym (is ∙ ap (λ (t : Texts). first ++ t) none ∙ append-nil first)) each

pub lines-smaller : goal.lines-smaller
lines-smaller g c = fewer c.lines.records c.next.new.self (c.in-Ok-true.ensures.counted c.in-Ok-true.field-0-test)

pub lines-preserved : goal.lines-preserved
lines-preserved g c =
    let next : IsNext in_memory c.lines.records c.next.new.self = c.in-Ok-true.ensures.found c.in-Ok-true.field-0-test c.lines.invariant.plain in
    let read = c.lines.invariant.read in
    let fields = fields_at_hand c.next.new.self in
    let items : c.push.new.self.items ≡ c.lines.items.items ++ (c.in-Some.item ∷ []) = search rules in
    record {
      plain = next.plain;
      read = rw items (read.0 ++ (fields ∷ []), read.1 ∙ ap (λ (t : Texts). read.0 ++ t) next.left ∙ sym (append_assoc read.0 (fields ∷ []) (records_left in_memory c.next.new.self)), all_zipped_more (g.K.TableReader.tells c.args.table.now) read.0 c.lines.items.items fields c.in-Some.item read.2 (rw c.fields.ensures at c.in-Some.ensures.item));
      guess = c.in-Some.ensures.guess;
    }
