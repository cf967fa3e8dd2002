use Rattle.std.proofs.Common.{rules, ◌≡◌, ◌∙◌, ◌++◌, ◌+◌, true, map, take, ap, sym, subst, arith, ℕ}
use Rattle.csv.specs.Records.{fields_of}
use Rattle.lft_tables.{specs.inner.Records.records_unread, proofs.Ahead.put-behind}
use Rattle.lft_tables.proofs.records.read_ahead.Goals as goal

pub loop-place-preserved : goal.loop-place-preserved
loop-place-preserved g c =
    let read = c.in_ok-read_to.ensures in
    let there = read.there in
    let found : c.in_ok-read_to.field-0 ≡ true = search rules in
    record {
      within = omega (arith, there);
      read = λ p.
          let before = c.loop-place.invariant.read p in
          let more = read.found found before.0 in
          (more.0, before.1 ∙ ap (λ t. map fields_of (take c.loop-place.place c.loop-place.ahead.items) ++ t) more.1.2 ∙ sym (put-behind (take c.loop-place.place c.loop-place.ahead.items) more.1.0 (take (c.loop-place.place + 1) c.read_to.new.ahead.items) (records_unread g.R.Read.remaining c.read_to.new.reader) more.1.1));
    }

pub returns-clause-read : goal.returns-clause-read
returns-clause-read g c p =
    let end : c.loop-place.place ≡ 32 = (let most = c.loop-place.auto.place-end in let test = c.loop-place-test.false in omega (arith, most, test)) in
    let read = c.loop-place.invariant.read p in
    record {
      all = λ _. (read.0, subst (λ (n : ℕ). records_unread g.R.Read.remaining c.args.reader.now ≡ map fields_of (take n c.loop-place.ahead.items) ++ records_unread g.R.Read.remaining c.loop-place.reader) end read.1);
      fewer = λ lt. absurd (omega (arith, lt));
    }
