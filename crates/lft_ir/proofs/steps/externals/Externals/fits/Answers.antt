use Rattle.std.proofs.Common.{rules, arith, ◌≡◌, ◌∙◌, ◌≤◌, ℕ, length, Some, slice_get, true, refl, sym, ap, subst}
use Rattle.std.proofs.lemmas.Option.{slice_get_read, slice_get_within}
use borrow.Author.Count.{below_more}
use Rattle.lft_tag.specs.Tags.{IsRecorded}
use Rattle.lft_ir.specs.{Steps.{Fits.EventFits, Inputs.ExternalInputs}, declared.steps.externals.Event.Event}
use Rattle.lft_ir.proofs.steps.externals.Externals.fits.Goals as goal

pub loop-at-preserved : goal.loop-at-preserved
loop-at-preserved c =
    let v : c.self.inside.events.items ≡ c.args.self.now.events = ap (λ (x : ExternalInputs). x.events) c.self.view_is in
    let e : slice_get c.self.inside.events.items c.loop-at.at ≡ Some c.index.result.now = slice_get_read c.self.inside.events.items (length c.self.inside.events.items) c.loop-at.at c.index.result.now refl (omega arith) c.index.ensures in
    let t : c.event_fits.result ≡ true = search rules in
    let f : EventFits c.args.program.now c.index.result.now = search rules in
    let here = λ (event : Event) (h : slice_get c.args.self.now.events c.loop-at.at ≡ Some event).
    let s : Some c.index.result.now ≡ Some event = sym e ∙ rw v h in
    let q : c.index.result.now ≡ event = cc (s) in
    subst (λ (x : Event). EventFits c.args.program.now x) q f in
    λ k event lt h. below_more (λ (j : ℕ). (x : Event) → slice_get c.args.self.now.events j ≡ Some x → EventFits c.args.program.now x) c.loop-at.at (λ j l x g. c.loop-at.invariant j x l g) here k lt event h

pub returns : goal.returns
returns c =
    let v : c.self.inside.events.items ≡ c.args.self.now.events = ap (λ (x : ExternalInputs). x.events) c.self.view_is in
    let r : IsRecorded c.args.self.now.stop = search rules in
    let few : length c.args.self.now.events ≤ 4000000 = rw (← v) (omega arith) in
    let end : length c.args.self.now.events ≤ c.loop-at.at = rw (← v) (omega arith) in
    (λ _. record { stop = r; few = few; each = λ i event at. c.loop-at.invariant i event (let w = slice_get_within c.args.self.now.events i event at in omega arith) at }, λ _. refl)
