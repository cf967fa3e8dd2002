use Rattle.std.proofs.Common.{◌≡◌, arith, ◌∙◌, [], ℕ, ℤ, pos, List, Some, slice_get, refl, sym, subst, rules}
use Rattle.lft_ir.specs.{Parts.Parts, declared.{parts.Reaction.Reaction, steps.row.Row.Row}}
use Rattle.lft_pool.{specs.{Books.IsRecording, inner.Books.IsKept}, proofs.Known.empty_recording}
use Rattle.lft_scheduler.specs.inner.Agendas.{IsAgenda}
use Rattle.lft_pool.proofs.book.Book.new.Goals as goal

pub invariant_of-result : goal.invariant_of-result
invariant_of-result g c =
    let plan = c.args.plan in
    let r : c.from_vec-rows.result ≡ [] = c.from_vec-rows.ensures ∙ c.new.ensures.items in
    let s : c.new-states.result ≡ [] = c.new-states.ensures in
    let w0 : (r : ℕ) (x : Reaction) → slice_get c.program.result.now.reactions r ≡ Some x → slice_get c.in-Ok-Ok.words.items x.instance ≡ Some (pos 0) = search rules in
    let w : (r : ℕ) (x : Reaction) → slice_get plan.program.reactions r ≡ Some x → slice_get c.in-Ok-Ok.words.items x.instance ≡ Some (pos 0) = subst (λ (p : Parts). (r : ℕ) (x : Reaction) → slice_get p.reactions r ≡ Some x → slice_get c.in-Ok-Ok.words.items x.instance ≡ Some (pos 0)) c.program.ensures.value w0 in
    let kept : IsKept plan [] [] c.in-Ok-Ok.words.items 0 c.args.bodies = record { words_are = w; started_is = refl; few_runs = omega arith; lists = c.requires } in
    let agenda : IsAgenda plan [] c.in-Ok-Ok.agenda = search rules in
    subst (λ (ts : List Row). IsRecording g.L.Law.holds plan ts c.new-states.result × IsKept plan ts c.new-states.result c.in-Ok-Ok.words.items 0 c.args.bodies × IsAgenda plan ts c.in-Ok-Ok.agenda × Unit {0}) (sym r) (subst (λ (ss : List (ℤ × ℤ)). IsRecording g.L.Law.holds plan [] ss × IsKept plan [] ss c.in-Ok-Ok.words.items 0 c.args.bodies × IsAgenda plan [] c.in-Ok-Ok.agenda × Unit {0}) (sym s) (empty_recording g.L.Law.holds plan c.program.ensures.sound, kept, agenda, tt))
