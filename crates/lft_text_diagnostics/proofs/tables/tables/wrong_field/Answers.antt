use Rattle.std.proofs.Common.{length, ◌+◌, subst}
use Rattle.csv.specs.Records.{fields_of}
use Rattle.lft_trace.specs.Traces.{FaultAt}
use Rattle.lft_text_diagnostics.specs.{inner.Tables.Tables.FailsThere, declared.tables.tables.Table.TheVariants.{Trace, Externals}}
use Rattle.lft_lists.proofs.Options.{none_weaker}
use Rattle.lft_trace.specs.declared.fault.TraceFault.TheVariants as fault
use Rattle.lft_text_diagnostics.proofs.tables.tables.wrong_field.Goals as goal

pub returns-in-BadNumber-Trace-clause-none : goal.returns-in-BadNumber-Trace-clause-none
returns-in-BadNumber-Trace-clause-none c = none_weaker _ _ c.number_of_trace.result (λ none n records line there.
    let program = c.args.program.now in
    let fields = fields_of c.args.fields.now in
    let k = c.in-BadNumber-Trace.field-0-0 in
    let here : FailsThere program (Trace c.in-BadNumber-Trace.field-0-1) records fields (fault.BadNumber k) = subst (λ e. FailsThere program (Trace c.in-BadNumber-Trace.field-0-1) records fields e) c.in-BadNumber-Trace.is-0 (subst (λ t. FailsThere program t records fields c.args.fault) c.in-BadNumber-Trace.is-1 there) in
    none program k (length here.0.items + 2) (subst (λ f. FaultAt program (length here.0.items + 2) f (fault.BadNumber k)) here.1 here.0.is)) c.number_of_trace.ensures.none

pub returns-in-BadNumber-Externals-clause-none : goal.returns-in-BadNumber-Externals-clause-none
returns-in-BadNumber-Externals-clause-none c = none_weaker _ _ c.number_of_externals.result (λ none n records line there.
    let program = c.args.program.now in
    let fields = fields_of c.args.fields.now in
    let k = c.in-BadNumber-Externals.field-0-0 in
    let here : FailsThere program Externals records fields (fault.BadNumber k) = subst (λ e. FailsThere program Externals records fields e) c.in-BadNumber-Externals.is-0 (subst (λ t. FailsThere program t records fields c.args.fault) c.in-BadNumber-Externals.is-1 there) in
    none program records k here.0 here.1) c.number_of_externals.ensures.none

pub returns-in-UnknownName-Trace-clause-none : goal.returns-in-UnknownName-Trace-clause-none
returns-in-UnknownName-Trace-clause-none c = none_weaker _ _ c.name_of_trace.result (λ none n records line there.
    let program = c.args.program.now in
    let fields = fields_of c.args.fields.now in
    let k = c.in-UnknownName-Trace.field-0-0 in
    let here : FailsThere program (Trace c.in-UnknownName-Trace.field-0-1) records fields (fault.UnknownName k) = subst (λ e. FailsThere program (Trace c.in-UnknownName-Trace.field-0-1) records fields e) c.in-UnknownName-Trace.is-0 (subst (λ t. FailsThere program t records fields c.args.fault) c.in-UnknownName-Trace.is-1 there) in
    none k (length here.0.items + 2) (subst (λ f. FaultAt program (length here.0.items + 2) f (fault.UnknownName k)) here.1 here.0.is)) c.name_of_trace.ensures.none
