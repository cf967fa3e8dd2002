use Rattle.std.proofs.Common.{◌≡◌, ◌∷◌, ℕ, List, [], IfSome, Vec, refl, subst}
use Rattle.std.{specs.{declared.alloc.Global.Global, Io.KnownBytes.prepend_known}, proofs.lemmas.Option.IfSome_then}
use Rattle.lft_tables.{specs.{Parts.HasNoQuote, Records.records_of, inner.TableLines.AreNextLines}, proofs.{Lining.none_read, Together.{at_some, under_line}}}
use Rattle.lft_tables.proofs.table_lines.TableLines.below.Goals as goal

pub returns : goal.returns
returns g c =
    let remaining = g.R.Read.remaining in
    let left = prepend_known c.new.result.items (remaining c.args.reader) in
    let new = c.next.new.self in
    let first = c.in-Some.first.items in
    let lines = at_some (λ (v : Vec ℕ Global). IfSome left (AreNextLines remaining new v.items)) c.in_ok-first.field-0 c.in-Some.first c.in-Some.is c.in_ok-first.ensures in
    let one = subst (λ (t : List ℕ). records_of t ≡ g.K.TableReader.header ∷ []) c.as_slice.ensures.value (c.if-not-is_header_line.ensures.one refl) in
    let quiet = subst HasNoQuote c.as_slice.ensures.value (c.if-not-is_header_line.ensures.quiet refl) in
    IfSome_then (remaining c.args.reader) (none_read c.new.result.items (remaining c.args.reader) c.new.ensures.items) (λ text is.
    let next = at_some (AreNextLines remaining new first) left text is lines in
    (next.behind, next.left, under_line g.K.TableReader.header text first next.behind quiet one next.cut))
