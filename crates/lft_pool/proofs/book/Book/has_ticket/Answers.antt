use Rattle.std.proofs.Common.{◌≡◌, ◌∙◌, ◌<◌, ◌↔◌, ℕ, Option, Some, None, IsTrue, false, length, slice_get, sym, ap, subst, arith, rules, unwrap_or, option_map}
use Rattle.std.proofs.lemmas.{Bool.false≢true, Int.to_z-of_z}
use Rattle.lft_ir.specs.{declared.parts.Reaction.Reaction, Parts.Parts}
use Rattle.lft_model.{specs.{Runs.{start_row, by_ends}, Breaches.IsOpen, Recorded.word_after}, proofs.Places.slice_get_within}
use Rattle.lft_scheduler.specs.inner.{Agendas.IsAgenda, OpenRuns.HasReads}
use Rattle.lft_pool.specs.{declared.stop.Stop.Stop, Books.{BookParts, word_now}, inner.Books.AgendaHolds, Answers.HasTicket}
use Rattle.lft_pool.proofs.book.Book.has_ticket.Goals as goal

pub returns-then-not-has_reads : goal.returns-then-not-has_reads
returns-then-not-has_reads g c =
    let k = c.args.ticket.now in
    let plan = c.self.inside.plan in
    let t = c.self.inside.rows in
    let going : c.self.inside.reason ≡ None = ap (λ (b : BookParts). b.reason) c.self.view_is ∙ c.requires.going in
    let agenda : IsAgenda plan t c.self.inside.agenda = subst (λ (o : Option Stop). AgendaHolds o plan t c.self.inside.agenda) going c.self.invariant.2 in
    let iff : IsTrue c.has_reads.result ↔ HasReads plan t k.worker k.tag k.reaction c.as_slice.result.now = c.has_reads.ensures plan t agenda in
    let old : BookParts = record { plan = plan; rows = t; states = c.self.inside.states; left = c.self.inside.bodies; max_runs = c.self.inside.max_runs; reason = c.self.inside.reason } in
    let never : ¬ HasTicket old k = λ h. false≢true (sym c.if-not-has_reads.true ∙ iff.1 (h.open_run, c.as_slice.ensures ∙ h.reads_are)) in
    subst (λ (y : BookParts). IsTrue false ↔ HasTicket y k) c.self.view_is (λ e. absurd (false≢true e), λ h. absurd (never h))

pub reaction-requires : goal.reaction-requires
reaction-requires g c =
    let k = c.args.ticket.now in
    let plan = c.self.inside.plan in
    let t = c.self.inside.rows in
    let going : c.self.inside.reason ≡ None = ap (λ (b : BookParts). b.reason) c.self.view_is ∙ c.requires.going in
    let agenda : IsAgenda plan t c.self.inside.agenda = subst (λ (o : Option Stop). AgendaHolds o plan t c.self.inside.agenda) going c.self.invariant.2 in
    let iff : IsTrue c.has_reads.result ↔ HasReads plan t k.worker k.tag k.reaction c.as_slice.result.now = c.has_reads.ensures plan t agenda in
    let o : IsOpen t (length t) k.worker k.tag k.reaction = (iff.0 c.if-not-has_reads.false).0 in
    subst (λ (p : Parts). k.reaction < length p.reactions) (sym c.program.ensures.value) (c.self.invariant.0.fit.each o.start (start_row k.worker k.tag k.reaction) o.starts).reaction

pub word_at-requires : goal.word_at-requires
word_at-requires g c =
    let plan = c.self.inside.plan in
    let x = c.reaction.result.now in
    let of : slice_get plan.program.reactions c.args.ticket.now.reaction ≡ Some x = search rules in
    let l : x.instance < length c.self.inside.words.items = slice_get_within c.self.inside.words.items x.instance (word_after plan.program x.instance (by_ends plan c.self.inside.rows) c.self.inside.states) (c.self.invariant.1.words_are c.args.ticket.now.reaction x of) in
    let e = ap length c.as_slice-2.ensures.value in
    omega arith

pub returns : goal.returns
returns g c =
    let k = c.args.ticket.now in
    let plan = c.self.inside.plan in
    let t = c.self.inside.rows in
    let states = c.self.inside.states in
    let going : c.self.inside.reason ≡ None = ap (λ (b : BookParts). b.reason) c.self.view_is ∙ c.requires.going in
    let agenda : IsAgenda plan t c.self.inside.agenda = subst (λ (o : Option Stop). AgendaHolds o plan t c.self.inside.agenda) going c.self.invariant.2 in
    let iff : IsTrue c.has_reads.result ↔ HasReads plan t k.worker k.tag k.reaction c.as_slice.result.now = c.has_reads.ensures plan t agenda in
    let has : HasReads plan t k.worker k.tag k.reaction c.as_slice.result.now = iff.0 c.if-not-has_reads.false in
    let x = c.reaction.result.now in
    let of : slice_get plan.program.reactions k.reaction ≡ Some x = search rules in
    let words : c.as_slice-2.result.now ≡ c.self.inside.words.items = c.as_slice-2.ensures.value in
    let w : slice_get c.as_slice-2.result.now x.instance ≡ Some c.word_at.result = c.word_at.ensures in
    let q : Some c.word_at.result ≡ Some (word_after plan.program x.instance (by_ends plan t) states) = sym w ∙ ap (λ xs. slice_get xs x.instance) words ∙ c.self.invariant.1.words_are k.reaction x of in
    let z : c.word_at.result ≡ word_after plan.program x.instance (by_ends plan t) states = cc in
    let its : c.word_at.result ≡ word_now plan t states k.reaction = z ∙ ap (λ (j : ℕ). word_after plan.program j (by_ends plan t) states) (ap (λ (y : Option Reaction). unwrap_or (option_map (λ u. u.instance) y) 0) (sym of)) in
    let old : BookParts = record { plan = plan; rows = t; states = states; left = c.self.inside.bodies; max_runs = c.self.inside.max_runs; reason = c.self.inside.reason } in
    let same : IsTrue c.is_same.result ↔ (c.word_at.result ≡ k.state) = search (rules, to_z-of_z) in
    let to : IsTrue c.is_same.result → HasTicket old k = λ e. record { open_run = has.0; word_is = sym (same.0 e) ∙ its; reads_are = sym c.as_slice.ensures ∙ has.1 } in
    let back : HasTicket old k → IsTrue c.is_same.result = λ h. same.1 (its ∙ sym h.word_is) in
    subst (λ (y : BookParts). IsTrue c.is_same.result ↔ HasTicket y k) c.self.view_is (to, back)
