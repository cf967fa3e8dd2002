use Rattle.std.proofs.Common.{◌≡◌, ◌∙◌, ◌<◌, ◌≤◌, ◌++◌, ◌∷◌, [], ℕ, ℤ, List, Option, Some, None, length, take, slice_get, slice_set, refl, sym, ap, subst, rules, unwrap_or, option_map, cond, ◌==◌}
use Rattle.std.proofs.Math.Seq.{take-append_seam}
use Rattle.lft_lists.proofs.{Members.mem_get, Options.found}
use Rattle.lft_ir.specs.declared.{steps.row.{Row.Row, Step.Step}, parts.{Value.Value, Reaction.Reaction}}
use Rattle.lft_scheduler.specs.{inner.Agendas.{IsAgenda, EndsWith}, Answering.{MayAll, HasLongDelay}, Collisions.IsClean}
use Rattle.lft_model.{specs.{Runs.{by_ends, reads_at}, Recorded.{committed_rows, instance_of, word_after}}, proofs.Places.slice_get_within}
use Rattle.lft_pool.specs.{declared.stop.Stop.{Stop, TheVariants.{NoMemory, UndeclaredEffect, LimitTag}}, Books.{BookParts, IsRecording}}
use Rattle.lft_pool.specs.{inner.{Books.{IsKept, AgendaHolds}, Answers.{HasClash, RefusalCause}}, Reasons.{StopHolds, ReasonHolds}}
use Rattle.lft_pool.specs.Answers.{HasTicket, KeepsOpenRuns, EndCause, Committed, with_answer}
use Rattle.lft_pool.proofs.Refusals.{memory_holds, before_it, holds_by_end, end_cause, may_mem, short_mem, answer_fits, set_words, ends_clash, ends_clean}
use Rattle.lft_pool.proofs.{Commuting.keeps_open_runs, CommittedRun.{committed_recording, word_more, committed_count}}
use Rattle.lft_pool.proofs.book.Book.end.Goals as goal

pub end-requires-clause-fit : goal.end-requires-clause-fit
end-requires-clause-fit g c = λ i s e.
    let k = c.args.ticket in
    let d = c.args.done in
    let plan = c.self.inside.plan in
    let t = c.self.inside.rows in
    let states = c.self.inside.states in
    let good = c.program-program.ensures.sound in
    let old : BookParts = record { plan = plan; rows = t; states = states; left = c.self.inside.bodies; max_runs = c.self.inside.max_runs; reason = c.self.inside.reason } in
    let v : old ≡ c.args.self.now = c.self.view_is in
    let has : HasTicket old k = subst (λ (b : BookParts). HasTicket b k) (sym v) c.requires.ticket in
    let ss = c.as_slice-steps.result.now in
    let may0 : MayAll plan k.reaction ss = search rules in
    let short0 : ¬ HasLongDelay ss = search rules in
    let x = c.reaction.result.now in
    let of : slice_get plan.program.reactions k.reaction ≡ Some x = search rules in
    let m = mem_get ss i s e in
    answer_fits plan good.sound k.reaction x of s (may_mem plan k.reaction ss may0 s m) (short_mem ss short0 s m)

pub end-requires-clause-of : goal.end-requires-clause-of
end-requires-clause-of g c =
    let plan = c.self.inside.plan in
    let t = c.self.inside.rows in
    let none : c.self.inside.reason ≡ None = ap (λ (b : BookParts). b.reason) c.self.view_is ∙ c.requires.going in
    let agenda : IsAgenda plan t c.self.inside.agenda = subst (λ (o : Option Stop). AgendaHolds o plan t c.self.inside.agenda) none c.self.invariant.2 in
    agenda.of

pub invariant_of-self-in_default-end : goal.invariant_of-self-in_default-end
invariant_of-self-in_default-end g c =
    let plan = c.self.inside.plan in
    let t = c.self.inside.rows in
    let more : c.append.new.self ≡ t ++ c.as_slice.result.now = search rules in
    let back : c.truncate.new.self ≡ t = c.truncate.ensures ∙ ap (λ (xs : List Row). take (length xs) c.append.new.self) c.as_slice-before.ensures ∙ ap (λ (xs : List Row). take (length t) xs) more ∙ take-append_seam t c.as_slice.result.now in
    let kept : IsKept plan t c.self.inside.states c.self.inside.words.items c.self.inside.started c.self.inside.bodies = record { words_are = c.self.invariant.1.words_are; started_is = c.self.invariant.1.started_is; few_runs = c.self.invariant.1.few_runs; lists = c.self.invariant.1.lists } in
    let book : List Row → List (ℤ × ℤ) → BookParts = λ ts us. record { plan = plan; rows = ts; states = us; left = c.self.inside.bodies; max_runs = c.self.inside.max_runs; reason = None } in
    subst (λ (ts : List Row). IsRecording g.L.Law.holds plan ts c.self.inside.states × IsKept plan ts c.self.inside.states c.self.inside.words.items c.self.inside.started c.self.inside.bodies × Unit {0} × StopHolds g.L.Law.holds (book ts c.self.inside.states) NoMemory) (sym back) (c.self.invariant.0, kept, tt, memory_holds g.L.Law.holds (book t c.self.inside.states))

pub invariant_of-self-in-Some : goal.invariant_of-self-in-Some
invariant_of-self-in-Some g c =
    let k = c.args.ticket in
    let d = c.args.done in
    let plan = c.self.inside.plan in
    let t = c.self.inside.rows in
    let states = c.self.inside.states in
    let good = c.program-program.ensures.sound in
    let old : BookParts = record { plan = plan; rows = t; states = states; left = c.self.inside.bodies; max_runs = c.self.inside.max_runs; reason = c.self.inside.reason } in
    let v : old ≡ c.args.self.now = c.self.view_is in
    let has : HasTicket old k = subst (λ (b : BookParts). HasTicket b k) (sym v) c.requires.ticket in
    let ss = c.as_slice-steps.result.now in
    let may0 : MayAll plan k.reaction ss = search rules in
    let short0 : ¬ HasLongDelay ss = search rules in
    let st : ss ≡ d.steps = search rules in
    let none : c.self.inside.reason ≡ None = ap (λ (b : BookParts). b.reason) v ∙ c.requires.going in
    let agenda : IsAgenda plan t c.self.inside.agenda = subst (λ (o : Option Stop). AgendaHolds o plan t c.self.inside.agenda) none c.self.invariant.2 in
    let more : c.append.new.self ≡ t ++ c.as_slice.result.now = search rules in
    let part : c.as_slice.result.now ≡ c.in-Ok.added.items = search rules in
    let its : c.in-Ok.added.items ≡ committed_rows k.worker k.tag k.reaction ss = search rules in
    let grown0 : c.append.new.self ≡ t ++ committed_rows k.worker k.tag k.reaction ss = more ∙ ap (λ (xs : List Row). t ++ xs) (part ∙ its) in
    let grown : c.append.new.self ≡ with_answer old k d = grown0 ∙ ap (λ (us : List Step). t ++ committed_rows k.worker k.tag k.reaction us) st in
    let ending : EndsWith plan t k.worker k.tag k.reaction ss c.end.new.self c.in-Ok-end.clash = c.in-Ok-end.ensures t agenda (record { so_far = c.self.invariant.0.so_far; quiet = c.self.invariant.0.quiet; open_run = has.open_run; may = may0 }) in
    let clash : HasClash plan c.append.new.self c.in-Ok-end.clash = subst (λ (ts : List Row). HasClash plan ts c.in-Ok-end.clash) (sym grown0) (ends_clash plan t k.worker k.tag k.reaction ss c.end.new.self c.in-Ok-end.clash ending) in
    let cause0 : RefusalCause plan c.append.new.self c.in-Some.reason = found (λ s. RefusalCause plan c.append.new.self s) c.refusal.result c.in-Some.reason (c.refusal.ensures.some plan clash) c.in-Some.is in
    let back : c.truncate-in-Some.new.self ≡ t = c.truncate-in-Some.ensures ∙ ap (λ (xs : List Row). take (length xs) c.append.new.self) c.as_slice-before.ensures ∙ ap (λ (xs : List Row). take (length t) xs) more ∙ take-append_seam t c.as_slice.result.now in
    let may : MayAll plan k.reaction d.steps = subst (λ (us : List Step). MayAll plan k.reaction us) st may0 in
    let short : ¬ HasLongDelay d.steps = subst (λ (us : List Step). ¬ HasLongDelay us) st short0 in
    let cause : RefusalCause plan (with_answer old k d) c.in-Some.reason = subst (λ (ts : List Row). RefusalCause plan ts c.in-Some.reason) grown cause0 in
    let book : List Row → BookParts = λ ts. record { plan = plan; rows = ts; states = states; left = c.self.inside.bodies; max_runs = c.self.inside.max_runs; reason = None } in
    let why : StopHolds g.L.Law.holds (book t) c.in-Some.reason = before_it g.L.Law.holds old c.in-Some.reason none (holds_by_end g.L.Law.holds old k d c.in-Some.reason c.requires.lawful has (end_cause old k d c.in-Some.reason may short cause)) in
    let kept : IsKept plan t states c.self.inside.words.items c.self.inside.started c.self.inside.bodies = record { words_are = c.self.invariant.1.words_are; started_is = c.self.invariant.1.started_is; few_runs = c.self.invariant.1.few_runs; lists = c.self.invariant.1.lists } in
    subst (λ (ts : List Row). IsRecording g.L.Law.holds plan ts states × IsKept plan ts states c.self.inside.words.items c.self.inside.started c.self.inside.bodies × Unit {0} × StopHolds g.L.Law.holds (book ts) c.in-Some.reason) (sym back) (c.self.invariant.0, kept, tt, why)

pub returns-in-Some-clause-cause : goal.returns-in-Some-clause-cause
returns-in-Some-clause-cause g c =
    let k = c.args.ticket in
    let d = c.args.done in
    let plan = c.self.inside.plan in
    let t = c.self.inside.rows in
    let states = c.self.inside.states in
    let good = c.program-program.ensures.sound in
    let old : BookParts = record { plan = plan; rows = t; states = states; left = c.self.inside.bodies; max_runs = c.self.inside.max_runs; reason = c.self.inside.reason } in
    let v : old ≡ c.args.self.now = c.self.view_is in
    let has : HasTicket old k = subst (λ (b : BookParts). HasTicket b k) (sym v) c.requires.ticket in
    let ss = c.as_slice-steps.result.now in
    let may0 : MayAll plan k.reaction ss = search rules in
    let short0 : ¬ HasLongDelay ss = search rules in
    let st : ss ≡ d.steps = search rules in
    let none : c.self.inside.reason ≡ None = ap (λ (b : BookParts). b.reason) v ∙ c.requires.going in
    let agenda : IsAgenda plan t c.self.inside.agenda = subst (λ (o : Option Stop). AgendaHolds o plan t c.self.inside.agenda) none c.self.invariant.2 in
    let more : c.append.new.self ≡ t ++ c.as_slice.result.now = search rules in
    let part : c.as_slice.result.now ≡ c.in-Ok.added.items = search rules in
    let its : c.in-Ok.added.items ≡ committed_rows k.worker k.tag k.reaction ss = search rules in
    let grown0 : c.append.new.self ≡ t ++ committed_rows k.worker k.tag k.reaction ss = more ∙ ap (λ (xs : List Row). t ++ xs) (part ∙ its) in
    let grown : c.append.new.self ≡ with_answer old k d = grown0 ∙ ap (λ (us : List Step). t ++ committed_rows k.worker k.tag k.reaction us) st in
    let ending : EndsWith plan t k.worker k.tag k.reaction ss c.end.new.self c.in-Ok-end.clash = c.in-Ok-end.ensures t agenda (record { so_far = c.self.invariant.0.so_far; quiet = c.self.invariant.0.quiet; open_run = has.open_run; may = may0 }) in
    let clash : HasClash plan c.append.new.self c.in-Ok-end.clash = subst (λ (ts : List Row). HasClash plan ts c.in-Ok-end.clash) (sym grown0) (ends_clash plan t k.worker k.tag k.reaction ss c.end.new.self c.in-Ok-end.clash ending) in
    let cause0 : RefusalCause plan c.append.new.self c.in-Some.reason = found (λ s. RefusalCause plan c.append.new.self s) c.refusal.result c.in-Some.reason (c.refusal.ensures.some plan clash) c.in-Some.is in
    let may : MayAll plan k.reaction d.steps = subst (λ (us : List Step). MayAll plan k.reaction us) st may0 in
    let short : ¬ HasLongDelay d.steps = subst (λ (us : List Step). ¬ HasLongDelay us) st short0 in
    let cause : RefusalCause plan (with_answer old k d) c.in-Some.reason = subst (λ (ts : List Row). RefusalCause plan ts c.in-Some.reason) grown cause0 in
    subst (λ (b : BookParts). EndCause b k d c.in-Some.reason) v (end_cause old k d c.in-Some.reason may short cause)

pub invariant_of-self-in_default-push : goal.invariant_of-self-in_default-push
invariant_of-self-in_default-push g c =
    let plan = c.self.inside.plan in
    let t = c.self.inside.rows in
    let more : c.append.new.self ≡ t ++ c.as_slice.result.now = search rules in
    let back : c.truncate-in_default-push.new.self ≡ t = c.truncate-in_default-push.ensures ∙ ap (λ (xs : List Row). take (length xs) c.append.new.self) c.as_slice-before.ensures ∙ ap (λ (xs : List Row). take (length t) xs) more ∙ take-append_seam t c.as_slice.result.now in
    let same : c.push.new.self ≡ c.self.inside.states = search rules in
    let kept : IsKept plan t c.self.inside.states c.self.inside.words.items c.self.inside.started c.self.inside.bodies = record { words_are = c.self.invariant.1.words_are; started_is = c.self.invariant.1.started_is; few_runs = c.self.invariant.1.few_runs; lists = c.self.invariant.1.lists } in
    let book : List Row → List (ℤ × ℤ) → BookParts = λ ts us. record { plan = plan; rows = ts; states = us; left = c.self.inside.bodies; max_runs = c.self.inside.max_runs; reason = None } in
    subst (λ (ws : List (ℤ × ℤ)). IsRecording g.L.Law.holds plan c.truncate-in_default-push.new.self ws × IsKept plan c.truncate-in_default-push.new.self ws c.self.inside.words.items c.self.inside.started c.self.inside.bodies × Unit {0} × StopHolds g.L.Law.holds (book c.truncate-in_default-push.new.self ws) NoMemory) (sym same) (subst (λ (ts : List Row). IsRecording g.L.Law.holds plan ts c.self.inside.states × IsKept plan ts c.self.inside.states c.self.inside.words.items c.self.inside.started c.self.inside.bodies × Unit {0} × StopHolds g.L.Law.holds (book ts c.self.inside.states) NoMemory) (sym back) (c.self.invariant.0, kept, tt, memory_holds g.L.Law.holds (book t c.self.inside.states)))

pub set_word-requires : goal.set_word-requires
set_word-requires g c =
    let plan = c.self.inside.plan in
    let x = c.reaction.result.now in
    let of : slice_get plan.program.reactions c.args.ticket.reaction ≡ Some x = search rules in
    slice_get_within c.self.inside.words.items x.instance (word_after plan.program x.instance (by_ends plan c.self.inside.rows) c.self.inside.states) (c.self.invariant.1.words_are c.args.ticket.reaction x of)

pub invariant_of-self-2 : goal.invariant_of-self-2
invariant_of-self-2 g c =
    let k = c.args.ticket in
    let d = c.args.done in
    let plan = c.self.inside.plan in
    let t = c.self.inside.rows in
    let states = c.self.inside.states in
    let good = c.program-program.ensures.sound in
    let old : BookParts = record { plan = plan; rows = t; states = states; left = c.self.inside.bodies; max_runs = c.self.inside.max_runs; reason = c.self.inside.reason } in
    let v : old ≡ c.args.self.now = c.self.view_is in
    let has : HasTicket old k = subst (λ (b : BookParts). HasTicket b k) (sym v) c.requires.ticket in
    let ss = c.as_slice-steps.result.now in
    let may0 : MayAll plan k.reaction ss = search rules in
    let short0 : ¬ HasLongDelay ss = search rules in
    let st : ss ≡ d.steps = search rules in
    let none : c.self.inside.reason ≡ None = ap (λ (b : BookParts). b.reason) v ∙ c.requires.going in
    let agenda : IsAgenda plan t c.self.inside.agenda = subst (λ (o : Option Stop). AgendaHolds o plan t c.self.inside.agenda) none c.self.invariant.2 in
    let more : c.append.new.self ≡ t ++ c.as_slice.result.now = search rules in
    let part : c.as_slice.result.now ≡ c.in-Ok.added.items = search rules in
    let its : c.in-Ok.added.items ≡ committed_rows k.worker k.tag k.reaction ss = search rules in
    let grown0 : c.append.new.self ≡ t ++ committed_rows k.worker k.tag k.reaction ss = more ∙ ap (λ (xs : List Row). t ++ xs) (part ∙ its) in
    let grown : c.append.new.self ≡ with_answer old k d = grown0 ∙ ap (λ (us : List Step). t ++ committed_rows k.worker k.tag k.reaction us) st in
    let ending : EndsWith plan t k.worker k.tag k.reaction ss c.end.new.self c.in-Ok-end.clash = c.in-Ok-end.ensures t agenda (record { so_far = c.self.invariant.0.so_far; quiet = c.self.invariant.0.quiet; open_run = has.open_run; may = may0 }) in
    let may : MayAll plan k.reaction d.steps = subst (λ (us : List Step). MayAll plan k.reaction us) st may0 in
    let short : ¬ HasLongDelay d.steps = subst (λ (us : List Step). ¬ HasLongDelay us) st short0 in
    let none_clash : c.in-Ok-end.clash ≡ None = search rules in
    let ending2 : EndsWith plan t k.worker k.tag k.reaction d.steps c.end.new.self c.in-Ok-end.clash = subst (λ (us : List Step). EndsWith plan t k.worker k.tag k.reaction us c.end.new.self c.in-Ok-end.clash) st ending in
    let ended = ends_clean plan t k.worker k.tag k.reaction d.steps c.end.new.self c.in-Ok-end.clash none_clash ending2 in
    let clean : IsClean plan (t ++ committed_rows k.worker k.tag k.reaction d.steps) = ended.0 in
    let few0 : length c.append.new.self ≤ 4000000 = search rules in
    let few : length (t ++ committed_rows k.worker k.tag k.reaction d.steps) ≤ 4000000 = subst (λ (ts : List Row). length ts ≤ 4000000) grown few0 in
    let x = c.reaction.result.now in
    let of : slice_get plan.program.reactions k.reaction ≡ Some x = search rules in
    let lawful : g.L.Law.holds k.reaction k.tag k.state (reads_at plan t k.tag k.reaction) d = subst (λ (os : List (Option Value)). g.L.Law.holds k.reaction k.tag k.state os d) has.reads_are c.requires.lawful in
    let all = committed_recording g.L.Law.holds plan good t states c.self.invariant.0 k.worker k.tag k.reaction has.open_run d.steps (may_mem plan k.reaction d.steps may) k.state d.state has.word_is lawful clean (λ s m. answer_fits plan good.sound k.reaction x of s (may_mem plan k.reaction d.steps may s m) (short_mem d.steps short s m)) few in
    let pushed : c.push.new.self ≡ states ++ (k.state, d.state) ∷ [] = search rules in
    let place : instance_of plan.program k.reaction ≡ x.instance = ap (λ (o : Option Reaction). unwrap_or (option_map (λ u. u.instance) o) 0) of in
    let l : x.instance < length c.self.inside.words.items = slice_get_within c.self.inside.words.items x.instance (word_after plan.program x.instance (by_ends plan t) states) (c.self.invariant.1.words_are k.reaction x of) in
    let words : c.set_word.new.words.items ≡ slice_set c.self.inside.words.items x.instance d.state = search rules in
    let kept : IsKept plan (t ++ committed_rows k.worker k.tag k.reaction d.steps) (states ++ (k.state, d.state) ∷ []) (slice_set c.self.inside.words.items x.instance d.state) c.self.inside.started c.self.inside.bodies = record {
      words_are = λ r y e. set_words c.self.inside.words.items x.instance y.instance d.state (word_after plan.program y.instance (by_ends plan t) states) l (c.self.invariant.1.words_are r y e) ∙ ap (λ (i : ℕ). Some (cond (i == y.instance) d.state (word_after plan.program y.instance (by_ends plan t) states))) (sym place) ∙ ap (λ z. Some z) (sym (word_more g.L.Law.holds plan good t states c.self.invariant.0 k.worker k.tag k.reaction has.open_run d.steps (may_mem plan k.reaction d.steps may) k.state d.state has.word_is lawful y.instance));
      started_is = c.self.invariant.1.started_is ∙ sym (committed_count plan t k.worker k.tag k.reaction d.steps (may_mem plan k.reaction d.steps may));
      few_runs = c.self.invariant.1.few_runs;
      lists = c.self.invariant.1.lists;
    } in
    let book : List Row → List (ℤ × ℤ) → BookParts = λ ts us. record { plan = plan; rows = ts; states = us; left = c.self.inside.bodies; max_runs = c.self.inside.max_runs; reason = None } in
    subst (λ (o : Option Stop). IsRecording g.L.Law.holds plan c.append.new.self c.push.new.self × IsKept plan c.append.new.self c.push.new.self c.set_word.new.words.items c.self.inside.started c.self.inside.bodies × AgendaHolds o plan c.append.new.self c.end.new.self × ReasonHolds g.L.Law.holds (book c.append.new.self c.push.new.self) o) (sym none)
    (subst (λ (ws : List ℤ). IsRecording g.L.Law.holds plan c.append.new.self c.push.new.self × IsKept plan c.append.new.self c.push.new.self ws c.self.inside.started c.self.inside.bodies × IsAgenda plan c.append.new.self c.end.new.self × Unit {0}) (sym words)
    (subst (λ (us : List (ℤ × ℤ)). IsRecording g.L.Law.holds plan c.append.new.self us × IsKept plan c.append.new.self us (slice_set c.self.inside.words.items x.instance d.state) c.self.inside.started c.self.inside.bodies × IsAgenda plan c.append.new.self c.end.new.self × Unit {0}) (sym pushed)
    (subst (λ (ts : List Row). IsRecording g.L.Law.holds plan ts (states ++ (k.state, d.state) ∷ []) × IsKept plan ts (states ++ (k.state, d.state) ∷ []) (slice_set c.self.inside.words.items x.instance d.state) c.self.inside.started c.self.inside.bodies × IsAgenda plan ts c.end.new.self × Unit {0}) (sym grown) (all, kept, ended.1 all.so_far, tt))))

pub returns-clause-ok : goal.returns-clause-ok
returns-clause-ok g c =
    let k = c.args.ticket in
    let d = c.args.done in
    let plan = c.self.inside.plan in
    let t = c.self.inside.rows in
    let states = c.self.inside.states in
    let good = c.program-program.ensures.sound in
    let old : BookParts = record { plan = plan; rows = t; states = states; left = c.self.inside.bodies; max_runs = c.self.inside.max_runs; reason = c.self.inside.reason } in
    let v : old ≡ c.args.self.now = c.self.view_is in
    let has : HasTicket old k = subst (λ (b : BookParts). HasTicket b k) (sym v) c.requires.ticket in
    let ss = c.as_slice-steps.result.now in
    let may0 : MayAll plan k.reaction ss = search rules in
    let short0 : ¬ HasLongDelay ss = search rules in
    let st : ss ≡ d.steps = search rules in
    let may : MayAll plan k.reaction d.steps = subst (λ (us : List Step). MayAll plan k.reaction us) st may0 in
    let more : c.append.new.self ≡ t ++ c.as_slice.result.now = search rules in
    let part : c.as_slice.result.now ≡ c.in-Ok.added.items = search rules in
    let its : c.in-Ok.added.items ≡ committed_rows k.worker k.tag k.reaction ss = search rules in
    let grown : c.append.new.self ≡ with_answer old k d = more ∙ ap (λ (xs : List Row). t ++ xs) (part ∙ its ∙ ap (λ (us : List Step). committed_rows k.worker k.tag k.reaction us) st) in
    let pushed : c.push.new.self ≡ states ++ (k.state, d.state) ∷ [] = search rules in
    let new : BookParts = record { plan = plan; rows = c.append.new.self; states = c.push.new.self; left = c.self.inside.bodies; max_runs = c.self.inside.max_runs; reason = c.self.inside.reason } in
    let committed : Committed old new k d = record { had_ticket = has; may = may; book_is = λ i. record { plan = plan; rows = grown i; states = pushed i; left = c.self.inside.bodies; max_runs = c.self.inside.max_runs; reason = c.self.inside.reason } } in
    subst (λ (b : BookParts). Committed b new k d) v committed

pub returns-clause-commuting : goal.returns-clause-commuting
returns-clause-commuting g c =
    let k = c.args.ticket in
    let d = c.args.done in
    let plan = c.self.inside.plan in
    let t = c.self.inside.rows in
    let states = c.self.inside.states in
    let good = c.program-program.ensures.sound in
    let old : BookParts = record { plan = plan; rows = t; states = states; left = c.self.inside.bodies; max_runs = c.self.inside.max_runs; reason = c.self.inside.reason } in
    let v : old ≡ c.args.self.now = c.self.view_is in
    let has : HasTicket old k = subst (λ (b : BookParts). HasTicket b k) (sym v) c.requires.ticket in
    let ss = c.as_slice-steps.result.now in
    let may0 : MayAll plan k.reaction ss = search rules in
    let short0 : ¬ HasLongDelay ss = search rules in
    let st : ss ≡ d.steps = search rules in
    let may : MayAll plan k.reaction d.steps = subst (λ (us : List Step). MayAll plan k.reaction us) st may0 in
    let more : c.append.new.self ≡ t ++ c.as_slice.result.now = search rules in
    let part : c.as_slice.result.now ≡ c.in-Ok.added.items = search rules in
    let its : c.in-Ok.added.items ≡ committed_rows k.worker k.tag k.reaction ss = search rules in
    let grown : c.append.new.self ≡ with_answer old k d = more ∙ ap (λ (xs : List Row). t ++ xs) (part ∙ its ∙ ap (λ (us : List Step). committed_rows k.worker k.tag k.reaction us) st) in
    let kept : KeepsOpenRuns plan t (t ++ committed_rows k.worker k.tag k.reaction d.steps) = keeps_open_runs plan good t k.worker k.tag k.reaction d.steps (record { so_far = c.self.invariant.0.so_far; quiet = c.self.invariant.0.quiet; open_run = has.open_run; may = may }) in
    subst (λ (b : BookParts). KeepsOpenRuns b.plan b.rows c.append.new.self) v (subst (λ (ts : List Row). KeepsOpenRuns plan t ts) (sym grown) kept)

pub stop-requires-clause-holds : goal.stop-requires-clause-holds
stop-requires-clause-holds g c =
    let k = c.args.ticket in
    let d = c.args.done in
    let never : ¬ MayAll c.args.self.now.plan k.reaction d.steps = search rules in
    holds_by_end g.L.Law.holds c.args.self.now k d (UndeclaredEffect k.reaction) c.requires.lawful c.requires.ticket (refl, never)

pub stop-requires-then-has_long_delay-clause-holds : goal.stop-requires-then-has_long_delay-clause-holds
stop-requires-then-has_long_delay-clause-holds g c =
    let k = c.args.ticket in
    let d = c.args.done in
    let may : MayAll c.args.self.now.plan k.reaction d.steps = search rules in
    let long : HasLongDelay d.steps = search rules in
    holds_by_end g.L.Law.holds c.args.self.now k d LimitTag c.requires.lawful c.requires.ticket (may, long)

pub stop-requires-in_default-clause-holds : goal.stop-requires-in_default-clause-holds
stop-requires-in_default-clause-holds g c = memory_holds g.L.Law.holds c.args.self.now

pub invariant_of-self : goal.invariant_of-self
invariant_of-self g c =
    let same : c.append.new.self ≡ c.self.inside.rows = search rules in
    let book : List Row → BookParts = λ ts. record { plan = c.self.inside.plan; rows = ts; states = c.self.inside.states; left = c.self.inside.bodies; max_runs = c.self.inside.max_runs; reason = None } in
    subst (λ (ts : List Row). IsRecording g.L.Law.holds c.self.inside.plan ts c.self.inside.states × IsKept c.self.inside.plan ts c.self.inside.states c.self.inside.words.items c.self.inside.started c.self.inside.bodies × Unit {0} × StopHolds g.L.Law.holds (book ts) NoMemory) (sym same) (c.self.invariant.0, c.self.invariant.1, tt, memory_holds g.L.Law.holds (book c.self.inside.rows))
