use Rattle.std.proofs.Common.{◌≡◌, ◌∙◌, ◌++◌, List, Vec, ap, append-nil, arith, length, refl, subst, sym, take}
use Rattle.std.{specs.declared.alloc.Global.Global, proofs.{lemmas.{List.append_assoc, Option.slice_get_read}, Math.Seq.take-length}}
use Rattle.lft_trace.specs.{inner.ExternalLines.AreKeptIn, declared.external_table.Entry.Entry}
use Rattle.lft_tables.{specs.inner.Parts.items_of, proofs.Parts.items_more}
use Rattle.lft_trace.proofs.reading.externals.keep_lines.Goals as goal

pub loop-place-init : goal.loop-place-init
loop-place-init g c = record { keeps = λ before k. subst (λ (t : List Entry). AreKeptIn t c.args.kept) (sym (append-nil before)) k }

pub loop-place-preserved : goal.loop-place-preserved
loop-place-preserved g c =
    let parts = c.in_ok-parts.parts.items in
    let n = c.loop-place.place in
    let part = c.index.result.now in
    let at = slice_get_read parts (length parts) n part refl (omega arith) c.index.ensures in
    let on = subst (λ (t : List Entry). (before : List Entry) → AreKeptIn before c.loop-place.kept → AreKeptIn (before ++ t) c.in_ok-on.on) c.as_slice.ensures.value c.in_ok-on.ensures in
    record {
      keeps = λ before k. subst (λ (t : List Entry). AreKeptIn t c.in_ok-on.on) (append_assoc before (items_of (take n parts)) part.items ∙ ap (λ (t : List Entry). before ++ t) (sym (items_more parts n part at))) (on (before ++ items_of (take n parts)) (c.loop-place.invariant.keeps before k));
    }

pub returns : goal.returns
returns g c =
    let parts = c.in_ok-parts.parts.items in
    let all : c.loop-place.place ≡ length parts = (let end = c.loop-place.auto.place-end in let test = c.loop-place-test.false in let long = c.len-place-end.ensures in omega (arith, end, test, long)) in
    let keeps = subst (λ (t : List (Vec Entry Global)). (before : List Entry) → AreKeptIn before c.args.kept → AreKeptIn (before ++ items_of t) c.loop-place.kept) (ap (λ n. take n parts) all ∙ take-length parts) c.loop-place.invariant.keeps in
    (items_of parts, c.in_ok-parts.ensures, keeps)
