use Rattle.std.proofs.Common.{◌≡◌, ◌≤◌, ◌<◌, ◌+◌, ◌++◌, ℕ, slice_index, List, Option, Some, None, length, length-append, length-set, slice_get, refl, sym, ap, ◌∙◌, subst, arith, rules, unwrap_or, option_map, []}
use Rattle.std.proofs.lemmas.{Int.to_z-of_z, Slice.Zip.AllZip-long}
use Rattle.lft_tag.specs.Tags.{IsRecorded}
use Rattle.lft_ir.specs.{declared.{steps.row.Row.Row, parts.Reaction.Reaction}, Parts.inputs}
use Rattle.lft_model.specs.{Presence.{Inputs, Shows}, Runs.{Run, by_ends}, OneWorker.{IsPending, rows}, Recorded.{begun_rows, word_after}}
use Rattle.lft_model.proofs.{Places.slice_get_within, Quiet.inputs_to_ended}
use Rattle.lft_scheduler.specs.{Starts.{MayStartFirst, IsBusy}, inner.Agendas.IsAgenda}
use Rattle.lft_pool.specs.declared.{bodies.ticket.Ticket.Ticket, stop.Stop.{Stop, TheVariants.{NoBody, TooManyRuns, NoMemory, TooManyRows, LimitTag}}}
use Rattle.lft_pool.specs.{Begun.Started, Causes.{HasAllRuns, HasNoRoom, StartCause}, Books.{BookParts, IsRecording}, inner.Books.{IsKept, AgendaHolds}}
use Rattle.lft_pool.specs.Reasons.{StopHolds, ReasonHolds}
use Rattle.lft_pool.proofs.{Refusals.{memory_holds, holds_by_start}, BegunRun.{same, begun_recording, begun_count}}
use Rattle.lft_pool.proofs.book.Book.start.Goals as goal

pub begun-requires-clause-reads : goal.begun-requires-clause-reads
begun-requires-clause-reads g c =
    let i : Inputs c.self.inside.plan c.self.inside.rows c.args.tag c.args.reaction c.in-Ok.reads = search rules in
    AllZip-long (Shows c.self.inside.plan c.self.inside.rows c.args.tag) (inputs i.reaction) c.in-Ok.reads i.each ∙ ap (λ (o : Option Reaction). length (unwrap_or (option_map inputs o) [])) (sym i.is_reaction)

pub word_at-state-requires : goal.word_at-state-requires
word_at-state-requires g c =
    let plan = c.self.inside.plan in
    let x = c.reaction.result.now in
    let e : slice_get plan.program.reactions c.args.reaction ≡ Some x = search rules in
    let l : x.instance < length c.self.inside.words.items = slice_get_within c.self.inside.words.items x.instance (word_after plan.program x.instance (by_ends plan c.self.inside.rows) c.self.inside.states) (c.self.invariant.1.words_are c.args.reaction x e) in
    search rules

pub invariant_of-self-2 : goal.invariant_of-self-2
invariant_of-self-2 g c =
    let plan = c.self.inside.plan in
    let t = c.self.inside.rows in
    let first : MayStartFirst plan t c.args.tag c.args.reaction = subst (λ (b : BookParts). MayStartFirst b.plan b.rows c.args.tag c.args.reaction) (sym c.self.view_is) c.requires.first in
    let idle : ¬ IsBusy t c.args.worker = subst (λ (b : BookParts). ¬ IsBusy b.rows c.args.worker) (sym c.self.view_is) c.requires.idle in
    let i : Inputs plan t c.args.tag c.args.reaction c.in-Ok.reads = search rules in
    let reads : Inputs plan (rows plan (by_ends plan t)) c.args.tag c.args.reaction c.in-Ok.reads = inputs_to_ended plan c.program.ensures.sound t c.self.invariant.0.so_far c.self.invariant.0.quiet c.args.tag c.args.reaction c.in-Ok.reads i in
    let more : c.append.new.self ≡ t ++ c.as_slice-2.result.now = search rules in
    let part : c.as_slice-2.result.now ≡ c.in-Ok-begun.added.items = search rules in
    let its : c.in-Ok-begun.added.items ≡ begun_rows plan c.args.worker c.args.tag c.args.reaction c.in-Ok.reads = search rules in
    let sum : length t + length c.in-Ok-begun.added.items ≤ 4000000 = search rules in
    let grown : c.append.new.self ≡ t ++ begun_rows plan c.args.worker c.args.tag c.args.reaction c.in-Ok.reads = more ∙ ap (λ (xs : List Row). t ++ xs) (part ∙ its) in
    let recorded : IsRecorded c.args.tag = search rules in
    let few : length (t ++ begun_rows plan c.args.worker c.args.tag c.args.reaction c.in-Ok.reads) ≤ 4000000 = subst (λ (xs : List Row). length (t ++ xs) ≤ 4000000) its (omega (arith, length-append t c.in-Ok-begun.added.items)) in
    let all = begun_recording g.L.Law.holds plan c.program.ensures.sound t c.self.inside.states c.self.invariant.0 c.args.worker c.args.tag c.args.reaction c.in-Ok.reads first.may reads idle recorded few in
    let none : c.self.inside.reason ≡ None = ap (λ (b : BookParts). b.reason) c.self.view_is ∙ c.requires.going in
    let agenda : IsAgenda plan t c.self.inside.agenda = subst (λ (o : Option Stop). AgendaHolds o plan t c.self.inside.agenda) none c.self.invariant.2 in
    let now : IsAgenda plan (t ++ begun_rows plan c.args.worker c.args.tag c.args.reaction c.in-Ok.reads) c.begin.new.self = c.in-Ok-begin.ensures.ok plan t c.program.ensures.sound agenda (record { so_far = c.self.invariant.0.so_far; quiet = c.self.invariant.0.quiet; may = first.may; reads_are = reads; idle = idle }) in
    let book : List Row → BookParts = λ ts. record { plan = plan; rows = ts; states = c.self.inside.states; left = c.take-body.new.self; max_runs = c.self.inside.max_runs; reason = None } in
    let kept : IsKept plan (t ++ begun_rows plan c.args.worker c.args.tag c.args.reaction c.in-Ok.reads) c.self.inside.states c.self.inside.words.items (c.self.inside.started + 1) c.take-body.new.self = record {
      words_are = λ r x e. subst (λ (us : List Run). slice_get c.self.inside.words.items x.instance ≡ Some (word_after plan.program x.instance us c.self.inside.states)) (sym (same g.L.Law.holds plan c.program.ensures.sound t c.self.inside.states c.self.invariant.0 c.args.worker c.args.tag c.args.reaction c.in-Ok.reads first.may reads idle)) (c.self.invariant.1.words_are r x e);
      started_is = ap (λ (n : ℕ). n + 1) c.self.invariant.1.started_is ∙ sym (begun_count plan t c.args.worker c.args.tag c.args.reaction c.in-Ok.reads);
      lists = let e = ap length c.take-body.ensures.fewer in let k = c.self.invariant.1.lists in search (rules, length-set);
      few_runs = omega arith;
    } in
    subst (λ (ts : List Row). IsRecording g.L.Law.holds plan ts c.self.inside.states × IsKept plan ts c.self.inside.states c.self.inside.words.items (c.self.inside.started + 1) c.take-body.new.self × AgendaHolds c.self.inside.reason plan ts c.begin.new.self × ReasonHolds g.L.Law.holds (book ts) c.self.inside.reason) (sym grown) (subst (λ (o : Option Stop). IsRecording g.L.Law.holds plan (t ++ begun_rows plan c.args.worker c.args.tag c.args.reaction c.in-Ok.reads) c.self.inside.states × IsKept plan (t ++ begun_rows plan c.args.worker c.args.tag c.args.reaction c.in-Ok.reads) c.self.inside.states c.self.inside.words.items (c.self.inside.started + 1) c.take-body.new.self × AgendaHolds o plan (t ++ begun_rows plan c.args.worker c.args.tag c.args.reaction c.in-Ok.reads) c.begin.new.self × ReasonHolds g.L.Law.holds (book (t ++ begun_rows plan c.args.worker c.args.tag c.args.reaction c.in-Ok.reads)) o) (sym none) (all, kept, now, tt))

pub returns-clause-ok : goal.returns-clause-ok
returns-clause-ok g c =
    let old : BookParts = record { plan = c.self.inside.plan; rows = c.self.inside.rows; states = c.self.inside.states; left = c.self.inside.bodies; max_runs = c.self.inside.max_runs; reason = c.self.inside.reason } in
    let new : BookParts = record { plan = c.self.inside.plan; rows = c.append.new.self; states = c.self.inside.states; left = c.take-body.new.self; max_runs = c.self.inside.max_runs; reason = c.self.inside.reason } in
    let v : old ≡ c.args.self.now = c.self.view_is in
    let i : Inputs c.self.inside.plan c.self.inside.rows c.args.tag c.args.reaction c.in-Ok.reads = search rules in
    let reads : Inputs c.self.inside.plan (rows c.self.inside.plan (by_ends c.self.inside.plan c.self.inside.rows)) c.args.tag c.args.reaction c.in-Ok.reads = inputs_to_ended c.self.inside.plan c.program.ensures.sound c.self.inside.rows c.self.invariant.0.so_far c.self.invariant.0.quiet c.args.tag c.args.reaction c.in-Ok.reads i in
    let more : c.append.new.self ≡ c.self.inside.rows ++ c.as_slice-2.result.now = search rules in
    let part : c.as_slice-2.result.now ≡ c.in-Ok-begun.added.items = search rules in
    let its : c.in-Ok-begun.added.items ≡ begun_rows c.self.inside.plan c.args.worker c.args.tag c.args.reaction c.in-Ok.reads = search rules in
    let grown : c.append.new.self ≡ c.self.inside.rows ++ begun_rows c.self.inside.plan c.args.worker c.args.tag c.args.reaction c.in-Ok.reads = more ∙ ap (λ (xs : List Row). c.self.inside.rows ++ xs) (part ∙ its) in
    let plan = c.self.inside.plan in
    let x = c.reaction.result.now in
    let of : slice_get plan.program.reactions c.args.reaction ≡ Some x = search rules in
    let word = word_after plan.program x.instance (by_ends plan c.self.inside.rows) c.self.inside.states in
    let w : slice_get c.self.inside.words.items x.instance ≡ Some c.word_at-state.result = search rules in
    let q : Some c.word_at-state.result ≡ Some word = sym w ∙ c.self.invariant.1.words_are c.args.reaction x of in
    let z : c.word_at-state.result ≡ word = cc in
    let n : c.args.reaction < length plan.program.reactions = slice_get_within plan.program.reactions c.args.reaction x of in
    let lists : length c.self.inside.bodies ≡ length plan.program.reactions = c.self.invariant.1.lists in
    let b : c.args.reaction < length c.self.inside.bodies = omega arith in
    let h = c.left.ensures.there b in
    let ticket : Ticket = record { worker = c.args.worker; tag = c.args.tag; reaction = c.args.reaction; state = c.word_at-state.result; reads = c.in-Ok.reads } in
    let started : Started old new c.args.worker ticket c.take-body.result = record {
      first = subst (λ (b : BookParts). MayStartFirst b.plan b.rows c.args.tag c.args.reaction) (sym v) c.requires.first;
      by_worker = refl;
      body_is = c.take-body.ensures.body;
      word_is = z ∙ ap (λ (i : ℕ). word_after plan.program i (by_ends plan c.self.inside.rows) c.self.inside.states) (ap (λ (o : Option Reaction). unwrap_or (option_map (λ y. y.instance) o) 0) (sym of));
      reads = reads;
      had_body = omega arith;
      book_is = λ k. record { plan = c.self.inside.plan; rows = grown k; states = c.self.inside.states; left = c.take-body.ensures.fewer k; max_runs = c.self.inside.max_runs; reason = c.self.inside.reason };
    } in
    let id : c.ticket_of-ticket.result ≡ ticket = search (rules, to_z-of_z) in
    subst (λ (k : Ticket). Started c.args.self.now new c.args.worker k c.take-body.result) (sym id) (subst (λ (b : BookParts). Started b new c.args.worker ticket c.take-body.result) v started)

pub returns-then-as_slice-len-gt-MAX_ROWS-clause-cause : goal.returns-then-as_slice-len-gt-MAX_ROWS-clause-cause
returns-then-as_slice-len-gt-MAX_ROWS-clause-cause g c =
    let plan = c.self.inside.plan in
    let t = c.self.inside.rows in
    let i : Inputs plan t c.args.tag c.args.reaction c.in-Ok.reads = search rules in
    let reads : Inputs plan (rows plan (by_ends plan t)) c.args.tag c.args.reaction c.in-Ok.reads = inputs_to_ended plan c.program.ensures.sound t c.self.invariant.0.so_far c.self.invariant.0.quiet c.args.tag c.args.reaction c.in-Ok.reads i in
    let its : c.in-Ok-begun.added.items ≡ begun_rows plan c.args.worker c.args.tag c.args.reaction c.in-Ok.reads = search rules in
    let sum : 4000000 < length t + length c.in-Ok-begun.added.items = search rules in
    let many : 4000000 < length (t ++ begun_rows plan c.args.worker c.args.tag c.args.reaction c.in-Ok.reads) = subst (λ (xs : List Row). 4000000 < length (t ++ xs)) its (omega (arith, length-append t c.in-Ok-begun.added.items)) in
    let old : BookParts = record { plan = plan; rows = t; states = c.self.inside.states; left = c.self.inside.bodies; max_runs = c.self.inside.max_runs; reason = c.self.inside.reason } in
    let v : old ≡ c.args.self.now = c.self.view_is in
    let room : HasNoRoom c.args.self.now c.args.worker c.args.tag c.args.reaction = subst (λ (b : BookParts). HasNoRoom b c.args.worker c.args.tag c.args.reaction) v (c.in-Ok.reads, reads, many) in
    let recorded : IsRecorded c.args.tag = search rules in
    let going : ¬ HasAllRuns c.args.self.now = search rules in
    let some : 0 < slice_index c.args.self.now.left c.args.reaction = search rules in
    subst (λ (s : Stop). StartCause c.args.self.now c.args.worker c.args.tag c.args.reaction s) (sym c.stop-then-as_slice-len-gt-MAX_ROWS.ensures.same) (recorded, going, some, room)

pub returns-clause-left : goal.returns-clause-left
returns-clause-left g c =
    let plan = c.self.inside.plan in
    let t = c.self.inside.rows in
    let first : MayStartFirst plan t c.args.tag c.args.reaction = subst (λ (b : BookParts). MayStartFirst b.plan b.rows c.args.tag c.args.reaction) (sym c.self.view_is) c.requires.first in
    let idle : ¬ IsBusy t c.args.worker = subst (λ (b : BookParts). ¬ IsBusy b.rows c.args.worker) (sym c.self.view_is) c.requires.idle in
    let i : Inputs plan t c.args.tag c.args.reaction c.in-Ok.reads = search rules in
    let reads : Inputs plan (rows plan (by_ends plan t)) c.args.tag c.args.reaction c.in-Ok.reads = inputs_to_ended plan c.program.ensures.sound t c.self.invariant.0.so_far c.self.invariant.0.quiet c.args.tag c.args.reaction c.in-Ok.reads i in
    let more : c.append.new.self ≡ t ++ c.as_slice-2.result.now = search rules in
    let part : c.as_slice-2.result.now ≡ c.in-Ok-begun.added.items = search rules in
    let its : c.in-Ok-begun.added.items ≡ begun_rows plan c.args.worker c.args.tag c.args.reaction c.in-Ok.reads = search rules in
    let grown : c.append.new.self ≡ t ++ begun_rows plan c.args.worker c.args.tag c.args.reaction c.in-Ok.reads = more ∙ ap (λ (xs : List Row). t ++ xs) (part ∙ its) in
    let e = same g.L.Law.holds plan c.program.ensures.sound t c.self.inside.states c.self.invariant.0 c.args.worker c.args.tag c.args.reaction c.in-Ok.reads first.may reads idle in
    (c.args.tag, c.args.reaction, subst (λ (ts : List Row). IsPending plan (by_ends plan ts) c.args.tag c.args.reaction) (sym grown) (subst (λ (us : List Run). IsPending plan us c.args.tag c.args.reaction) (sym e) first.may.ready.pending))

pub stop-requires-clause-holds : goal.stop-requires-clause-holds
stop-requires-clause-holds g c =
    let cause : ¬ IsRecorded c.args.tag = search rules in
    holds_by_start g.L.Law.holds c.args.self.now c.args.worker c.args.tag c.args.reaction LimitTag c.requires.idle c.requires.first cause

pub stop-requires-then-self-clause-holds : goal.stop-requires-then-self-clause-holds
stop-requires-then-self-clause-holds g c =
    let recorded : IsRecorded c.args.tag = search rules in
    let full : HasAllRuns c.args.self.now = search rules in
    holds_by_start g.L.Law.holds c.args.self.now c.args.worker c.args.tag c.args.reaction TooManyRuns c.requires.idle c.requires.first (recorded, full)

pub stop-requires-then-left-eq0-clause-holds : goal.stop-requires-then-left-eq0-clause-holds
stop-requires-then-left-eq0-clause-holds g c =
    let recorded : IsRecorded c.args.tag = search rules in
    let going : ¬ HasAllRuns c.args.self.now = search rules in
    let x = c.reaction.result.now in
    let of : slice_get c.self.inside.plan.program.reactions c.args.reaction ≡ Some x = search rules in
    let n : c.args.reaction < length c.self.inside.plan.program.reactions = slice_get_within c.self.inside.plan.program.reactions c.args.reaction x of in
    let lists : length c.self.inside.bodies ≡ length c.self.inside.plan.program.reactions = c.self.invariant.1.lists in
    let there : c.left.result ≡ slice_index c.self.inside.bodies c.args.reaction = c.left.ensures.there (omega arith) in
    let zero : c.left.result ≡ 0 = search rules in
    let none : slice_index c.args.self.now.left c.args.reaction ≡ 0 = subst (λ (b : BookParts). slice_index b.left c.args.reaction ≡ 0) c.self.view_is (sym there ∙ zero) in
    holds_by_start g.L.Law.holds c.args.self.now c.args.worker c.args.tag c.args.reaction (NoBody c.args.reaction) c.requires.idle c.requires.first (recorded, going, refl, none)

pub returns-then-left-eq0-clause-cause : goal.returns-then-left-eq0-clause-cause
returns-then-left-eq0-clause-cause g c =
    let recorded : IsRecorded c.args.tag = search rules in
    let going : ¬ HasAllRuns c.args.self.now = search rules in
    let x = c.reaction.result.now in
    let of : slice_get c.self.inside.plan.program.reactions c.args.reaction ≡ Some x = search rules in
    let n : c.args.reaction < length c.self.inside.plan.program.reactions = slice_get_within c.self.inside.plan.program.reactions c.args.reaction x of in
    let lists : length c.self.inside.bodies ≡ length c.self.inside.plan.program.reactions = c.self.invariant.1.lists in
    let there : c.left.result ≡ slice_index c.self.inside.bodies c.args.reaction = c.left.ensures.there (omega arith) in
    let zero : c.left.result ≡ 0 = search rules in
    let none : slice_index c.args.self.now.left c.args.reaction ≡ 0 = subst (λ (b : BookParts). slice_index b.left c.args.reaction ≡ 0) c.self.view_is (sym there ∙ zero) in
    subst (λ (s : Stop). StartCause c.args.self.now c.args.worker c.args.tag c.args.reaction s) (sym c.stop-then-left-eq0.ensures.same) (recorded, going, refl, none)

pub stop-requires-in_default-clause-holds : goal.stop-requires-in_default-clause-holds
stop-requires-in_default-clause-holds g c = memory_holds g.L.Law.holds c.args.self.now

pub stop-requires-in_default-begun-clause-holds : goal.stop-requires-in_default-begun-clause-holds
stop-requires-in_default-begun-clause-holds g c = memory_holds g.L.Law.holds c.args.self.now

pub stop-requires-then-as_slice-len-gt-MAX_ROWS-clause-holds : goal.stop-requires-then-as_slice-len-gt-MAX_ROWS-clause-holds
stop-requires-then-as_slice-len-gt-MAX_ROWS-clause-holds g c =
    let plan = c.self.inside.plan in
    let t = c.self.inside.rows in
    let i : Inputs plan t c.args.tag c.args.reaction c.in-Ok.reads = search rules in
    let reads : Inputs plan (rows plan (by_ends plan t)) c.args.tag c.args.reaction c.in-Ok.reads = inputs_to_ended plan c.program.ensures.sound t c.self.invariant.0.so_far c.self.invariant.0.quiet c.args.tag c.args.reaction c.in-Ok.reads i in
    let its : c.in-Ok-begun.added.items ≡ begun_rows plan c.args.worker c.args.tag c.args.reaction c.in-Ok.reads = search rules in
    let sum : 4000000 < length t + length c.in-Ok-begun.added.items = search rules in
    let many : 4000000 < length (t ++ begun_rows plan c.args.worker c.args.tag c.args.reaction c.in-Ok.reads) = subst (λ (xs : List Row). 4000000 < length (t ++ xs)) its (omega (arith, length-append t c.in-Ok-begun.added.items)) in
    let room : HasNoRoom c.args.self.now c.args.worker c.args.tag c.args.reaction = subst (λ (b : BookParts). HasNoRoom b c.args.worker c.args.tag c.args.reaction) c.self.view_is (c.in-Ok.reads, reads, many) in
    let recorded : IsRecorded c.args.tag = search rules in
    let going : ¬ HasAllRuns c.args.self.now = search rules in
    let some : 0 < slice_index c.args.self.now.left c.args.reaction = search rules in
    holds_by_start g.L.Law.holds c.args.self.now c.args.worker c.args.tag c.args.reaction TooManyRows c.requires.idle c.requires.first (recorded, going, some, room)

pub invariant_of-self : goal.invariant_of-self
invariant_of-self g c = (c.self.invariant.0, c.self.invariant.1, tt, memory_holds g.L.Law.holds (record { plan = c.self.inside.plan; rows = c.self.inside.rows; states = c.self.inside.states; left = c.self.inside.bodies; max_runs = c.self.inside.max_runs; reason = None }))

pub invariant_of-self-in_default-append : goal.invariant_of-self-in_default-append
invariant_of-self-in_default-append g c =
    let same : c.append.new.self ≡ c.self.inside.rows = search rules in
    let book : List Row → BookParts = λ ts. record { plan = c.self.inside.plan; rows = ts; states = c.self.inside.states; left = c.self.inside.bodies; max_runs = c.self.inside.max_runs; reason = None } in
    subst (λ (ts : List Row). IsRecording g.L.Law.holds c.self.inside.plan ts c.self.inside.states × IsKept c.self.inside.plan ts c.self.inside.states c.self.inside.words.items c.self.inside.started c.self.inside.bodies × Unit {0} × StopHolds g.L.Law.holds (book ts) NoMemory) (sym same) (c.self.invariant.0, c.self.invariant.1, tt, memory_holds g.L.Law.holds (book c.self.inside.rows))
