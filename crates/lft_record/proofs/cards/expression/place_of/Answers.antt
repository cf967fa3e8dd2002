use Rattle.std.proofs.Common.{rules, arith, ◌≡◌, ◌+◌, ◌∙◌, sym, ap, Some, slice_get, get_or, length, take, filter_map}
use Rattle.std.proofs.lemmas.{List.take_all, Option.slice_get-get_or}
use Rattle.lft_ir.specs.{Naming.named, declared.parts.{Name.TheVariants.Port, Trigger.TheVariants.{Startup, On}}}
use Rattle.lft_record.proofs.Places.{behind, named_more, no_input, none_up_to, nothing_more, trigger_input}
use Rattle.lft_record.proofs.cards.expression.place_of.Goals.{in-On+else-eq, in_default}
use Rattle.lft_record.proofs.cards.expression.place_of.Goals as goal

pub returns-then-eq-clause-some : goal.returns-then-eq-clause-some
returns-then-eq-clause-some c =
    let xs = c.as_slice-triggers.result.now in
    let same : c.in-On.input ≡ c.args.name = search rules in
    let here : slice_get xs c.loop-at.at ≡ Some (On c.args.name) = slice_get-get_or xs c.loop-at.at Startup (omega arith) ∙ ap (λ x. Some x) (c.in-On.is ∙ ap On same) in
    trigger_input c.args.reaction.now xs c.loop-at.at c.loop-at.place c.args.name c.as_slice-triggers.ensures c.loop-at.invariant.place here

pub loop-at-preserved : goal.loop-at-preserved
loop-at-preserved c =
    let xs = c.as_slice-triggers.result.now in
    let at = c.loop-at.at in
    let here : slice_get xs at ≡ Some (get_or xs at Startup) = slice_get-get_or xs at Startup (omega arith) in
    elim c.match-triggers-at.branch [
      | in-On+else-eq w ↦
          let other : w.in-On.input ≡ c.args.name → ⊥ = search rules in
          let more = named_more xs at c.loop-at.place w.in-On.input c.args.name (here ∙ ap (λ x. Some x) w.in-On.is) c.loop-at.invariant.place c.loop-at.invariant.none other in
          let e = w.place-is in
          let few = c.loop-at.invariant.few in
          record { few = omega (arith, e, few); place = e ∙ more.0; none = more.1 }
      | in_default w ↦
          let more = nothing_more xs at (get_or xs at Startup) here w.in_default.not-On in
          let e = w.place-is in
          let few = c.loop-at.invariant.few in
          record { few = omega (arith, e, few); place = e ∙ c.loop-at.invariant.place ∙ ap length (sym more); none = rw more c.loop-at.invariant.none }
    ]

pub returns-then-eq-2-clause-some : goal.returns-then-eq-2-clause-some
returns-then-eq-2-clause-some c =
    let xs = c.as_slice-triggers.result.now in
    let us = c.as_slice-uses.result.now in
    let same : get_or us c.loop-at-2.at (Port 0) ≡ c.args.name = search rules in
    let here : slice_get us c.loop-at-2.at ≡ Some c.args.name = slice_get-get_or us c.loop-at-2.at (Port 0) (omega arith) ∙ ap (λ x. Some x) same in
    let all : take c.loop-at.at xs ≡ xs = take_all c.loop-at.at xs (omega arith) in
    let place : c.loop-at.place ≡ length (filter_map named c.args.reaction.now.triggers) = c.loop-at.invariant.place ∙ ap (λ ts. length (filter_map named ts)) (all ∙ c.as_slice-triggers.ensures) in
    rw (← c.as_slice-uses.ensures) (behind (filter_map named c.args.reaction.now.triggers) us c.loop-at-2.at (c.loop-at.place + c.loop-at-2.at) c.args.name (omega (arith, place)) here)

pub loop-at-2-preserved : goal.loop-at-2-preserved
loop-at-2-preserved c =
    let us = c.as_slice-uses.result.now in
    let here : slice_get us c.loop-at-2.at ≡ Some (get_or us c.loop-at-2.at (Port 0)) = slice_get-get_or us c.loop-at-2.at (Port 0) (omega arith) in
    let other : get_or us c.loop-at-2.at (Port 0) ≡ c.args.name → ⊥ = search rules in
    none_up_to us c.loop-at-2.at c.args.name c.loop-at-2.invariant (λ h. let e : Some (get_or us c.loop-at-2.at (Port 0)) ≡ Some c.args.name = sym here ∙ h in other (cc e))

pub returns-clause-none : goal.returns-clause-none
returns-clause-none c = no_input c.args.reaction.now c.as_slice-triggers.result.now c.as_slice-uses.result.now c.loop-at.at c.loop-at-2.at c.args.name c.as_slice-triggers.ensures c.as_slice-uses.ensures c.loop-at-test.false c.loop-at-2-test.false c.loop-at.invariant.none c.loop-at-2.invariant
