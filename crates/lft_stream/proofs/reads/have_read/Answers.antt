use Rattle.std.proofs.Common.{◌≡◌, ◌++◌, ℕ, inl, inr, refl, sym, subst, arith}
use Rattle.std.proofs.lemmas.Bool.{cases_eq}
use Rattle.lft_lists.proofs.{Members.{mem_get, get_mem, mem_contains, contains_mem}, Places.same_at}
use Rattle.lft_model.{specs.{Presence.Inputs, Runs.reads_at}, proofs.Places.slice_get_within}
use Rattle.lft_stream.proofs.reads.have_read.Goals as goal

pub has_read-requires-clause-reaction : goal.has_read-requires-clause-reaction
has_read-requires-clause-reaction c = c.requires.exist c.item_at-reaction.result (mem_contains c.item_at-reaction.result c.args.started.now (mem_get c.args.started.now c.loop-place.place c.item_at-reaction.result c.item_at-reaction.ensures))

pub loop-place-preserved : goal.loop-place-preserved
loop-place-preserved c = λ d u shown known k r low e. elim (cases_eq k c.loop-place.place) [
  | inl q ↦
      let same : r ≡ c.item_at-reaction.result = same_at c.args.started.now k c.loop-place.place r c.item_at-reaction.result e c.item_at-reaction.ensures q in
      subst (λ (a : ℕ). Inputs c.args.plan.now (d ++ u) c.args.slice.tag a (reads_at c.args.plan.now c.args.rows.now c.args.slice.tag a)) (sym same) (c.if-not-has_read.ensures refl d u shown known (λ z. c.if-not-are_reads_shown.ensures refl z d u shown))
  | inr m ↦ c.loop-place.invariant d u shown known k r (omega (arith, low, m)) e
]

pub returns : goal.returns
returns c = λ z d u shown known r has.
    let at = get_mem r c.args.started.now (contains_mem r c.args.started.now has) in
    let l = slice_get_within c.args.started.now at.0 r at.1 in
    let past = c.loop-place-test.false in
    c.loop-place.invariant d u shown known at.0 r (omega (arith, l, past)) at.1
