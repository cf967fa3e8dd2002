use Rattle.std.proofs.Common.{◌≡◌, ◌∙◌, ◌++◌, List, ap, append-nil, arith, length, length-append, subst, sym, take}
use Rattle.std.proofs.Math.Seq.{take-length}
use Rattle.lft_trace.{specs.{inner.SeenExternals.AreKept, declared.external_table.Entry.Entry}, proofs.ExternalFacts.kept_next}
use Rattle.lft_trace.proofs.reading.externals.keep_part.Goals as goal

pub loop-place-init : goal.loop-place-init
loop-place-init c = record { keeps = λ before k. subst (λ (t : List Entry). AreKept t c.args.kept.stop c.args.kept.events) (sym (append-nil before)) k }

pub loop-place-preserved : goal.loop-place-preserved
loop-place-preserved c = record {
  keeps = λ before k. kept_next c.args.entries.now c.loop-place.place _ before c.loop-place.stop c.in-Ok.now c.loop-place.events c.keep.new.events c.loop-place-test.true (c.loop-place.invariant.keeps before k) c.in-Ok.ensures.kept;
}

pub returns : goal.returns
returns c = λ before k.
    let entries = c.args.entries.now in
    let all : c.loop-place.place ≡ length entries = (let end = c.loop-place.auto.place-end in let test = c.loop-place-test.false in omega (arith, end, test)) in
    let keeps = subst (λ (t : List Entry). AreKept (before ++ t) c.loop-place.stop c.loop-place.events) (ap (λ n. take n entries) all ∙ take-length entries) (c.loop-place.invariant.keeps before k.0) in
    (keeps, let count = k.1 in let enough = c.if-left-entries.false in let long = length-append before entries in omega (arith, count, enough, long))
