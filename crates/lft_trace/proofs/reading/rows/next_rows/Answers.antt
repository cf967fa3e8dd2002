use Rattle.std.proofs.Common.{rules, ◌≡◌, ◌∙◌, ◌≤◌, ◌++◌, ◌∷◌, [], List, length, append_assoc, append-nil, length-append, refl, sym, ap, subst, arith}
use Rattle.std.{specs.List.AllZip, proofs.lemmas.Slice.Zip.all_zipped_more}
use Rattle.lft_ir.specs.declared.steps.row.Row.{Row}
use Rattle.lft_tables.{specs.inner.Records.{fields_at_hand, records_left}, proofs.TableFacts.Texts}
use Rattle.lft_trace.{specs.Traces.{IsRow, header}, proofs.TraceFacts.table_fits}
use Rattle.lft_trace.proofs.reading.rows.next_rows.Goals as goal

pub loop-place-init : goal.loop-place-init
loop-place-init g c = record {
  next = record {
    first = [];
    each = subst (λ (t : List Row). AllZip (IsRow c.args.names.now) [] t) (sym c.clear.ensures.items) tt;
    left = λ p. (p, refl);
  };
  long = ap (λ (t : List Row). length t) c.clear.ensures.items;
  last = tt;
}

pub returns-in-Ok-false-clause-rows : goal.returns-in-Ok-false-clause-rows
returns-in-Ok-false-clause-rows g c =
    let next = c.loop-place.invariant.next in
    record {
      first = next.first;
      each = next.each;
      left = λ p. let now = next.left p in now.1 ∙ ap (λ (t : Texts). next.first ++ t) (c.in-Ok-false.ensures.none c.in-Ok-false.field-0-test now.0) ∙ append-nil next.first;
    }

pub returns-in-Ok-false-clause-fit : goal.returns-in-Ok-false-clause-fit
returns-in-Ok-false-clause-fit g c =
    let next = c.loop-place.invariant.next in
    let few : length c.loop-place.rows.items ≤ 4000000 = (let long = c.loop-place.invariant.long in let up = c.loop-place-test.true in let most = c.requires in omega (arith, long, up, most)) in
    table_fits c.args.names.now (header ∷ next.first) c.loop-place.rows.items c.program-program.ensures.sound (record { rest = next.first; under = refl; each = next.each; few = few })

pub read_row-requires : goal.read_row-requires
read_row-requires g c = c.loop-place.invariant.last

pub loop-place-preserved : goal.loop-place-preserved
loop-place-preserved g c =
    let next = c.loop-place.invariant.next in
    let rows = c.loop-place.rows.items in
    let row = c.in-Ok.row in
    let fields = fields_at_hand c.next.new.self in
    let items : c.push.new.self.items ≡ rows ++ (row ∷ []) = search rules in
    record {
      next = record {
        first = next.first ++ (fields ∷ []);
        each = subst (λ (t : List Row). AllZip (IsRow c.args.names.now) (next.first ++ (fields ∷ [])) t) (sym items) (all_zipped_more (IsRow c.args.names.now) next.first rows fields row next.each (rw c.fields.ensures at c.in-Ok.ensures.row));
        left = λ p.
            let now = next.left p in
            let found = c.in-Ok-true.ensures.found c.in-Ok-true.field-0-test now.0 in
            (found.plain, now.1 ∙ ap (λ (t : Texts). next.first ++ t) found.left ∙ sym (append_assoc next.first (fields ∷ []) (records_left g.R.Read.remaining c.next.new.self)));
      };
      long = let l = ap (λ (t : List Row). length t) items in let a = length-append rows (row ∷ []) in let long = c.loop-place.invariant.long in omega (arith, l, a, long);
      last = c.in-Ok.ensures.within;
    }

pub returns-clause-rows : goal.returns-clause-rows
returns-clause-rows g c = c.loop-place.invariant.next

pub returns-clause-fit : goal.returns-clause-fit
returns-clause-fit g c =
    let next = c.loop-place.invariant.next in
    let few : length c.loop-place.rows.items ≤ 4000000 = (let long = c.loop-place.invariant.long in let end = c.loop-place.auto._place-end in let most = c.requires in omega (arith, long, end, most)) in
    table_fits c.args.names.now (header ∷ next.first) c.loop-place.rows.items c.program-program.ensures.sound (record { rest = next.first; under = refl; each = next.each; few = few })
