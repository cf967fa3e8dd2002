use Rattle.std.proofs.Common.{◌≡◌, ◌++◌, Vec, subst, sym, arith}
use Rattle.std.{proofs.lemmas.{Grind.{common_steps, flat_map-append}, List.Elements.All-append}, specs.declared.alloc.Global.Global}
use Rattle.lft_ir.specs.{Steps.Fits.RowsFit, declared.steps.row.Row.Row}
use Rattle.lft_trace.specs.inner.Parts.{HoldsRows}
use Rattle.lft_tables.{specs.inner.Parts.items_of, proofs.Together.at_some}
use Rattle.lft_stream.{specs.inner.Batches.Parted.PartsFit, proofs.BatchesLemmas.Sharing.{holds_cut, parts_fit}}
use Rattle.lft_stream.proofs.batches.shared.read_rest.Goals as goal

pub returns-clause-rows : goal.returns-clause-rows
returns-clause-rows g c = λ lines cut.
    let names = c.args.names.now in
    let first = c.args.first.now in
    let read = c.in_ok-read.read.items in
    let more = c.in_ok-more.more.items in
    let held = at_some (λ (p : Vec (Vec Row Global) Global). HoldsRows names first (items_of p.items) × RowsFit names (items_of p.items)) c.args.read c.in_ok-read.read c.in_ok-read.was c.requires in
    let both = holds_cut names lines first c.args.rest.now (items_of read) (items_of more) cut held.0 c.in_ok-more.ensures.rows in
    let all : c.append.new.self.items ≡ read ++ more = grind (arith, common_steps, c.append.ensures.items, c.is_err.ensures.value, c.if-is_err.false) in
    rw (all, flat_map-append (λ (part : Vec Row Global). part.items) read more) both

pub returns-clause-fit : goal.returns-clause-fit
returns-clause-fit g c =
    let names = c.args.names.now in
    let read = c.in_ok-read.read.items in
    let more = c.in_ok-more.more.items in
    let held = at_some (λ (p : Vec (Vec Row Global) Global). HoldsRows names c.args.first.now (items_of p.items) × RowsFit names (items_of p.items)) c.args.read c.in_ok-read.read c.in_ok-read.was c.requires in
    let all : c.append.new.self.items ≡ read ++ more = grind (arith, common_steps, c.append.ensures.items, c.is_err.ensures.value, c.if-is_err.false) in
    subst (PartsFit names) (sym all) (All-append (λ (part : Vec Row Global). RowsFit names part.items) read more (parts_fit names read held.1) (parts_fit names more c.in_ok-more.ensures.fit))
