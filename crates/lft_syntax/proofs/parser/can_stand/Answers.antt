use Rattle.std.proofs.Common.{◌≡◌, ◌<◌, ◌≤◌, take, Err, sym, ap, ◌∙◌, arith}
use Rattle.std.proofs.lemmas.Bool.Decides.{nat_tests}
use Rattle.lft_tree.specs.View.{file_view}
use Rattle.lft_syntax.specs.{inner.{Seen.seen_as, Reading.whole_at}, View.lexemes}
use Rattle.lft_syntax.proofs.Behind.{trial_words, trial_fits, front_length, stands, stands_if, stands_not}
use Rattle.lft_syntax.proofs.parser.can_stand.Goals as goal

pub invariant_of-input : goal.invariant_of-input
invariant_of-input c =
    let fits = trial_fits c.args.text.now c.kind_and_letters-kind.result.1.now c.args.tokens.now c.kind_and_letters-kind.result.0 c.args.count
    c.in_ok-longer.ensures.items (c.as_slice-2.ensures.value ∙ c.in_ok-extend_from_slice.ensures.items) c.as_slice.ensures c.in_ok-tried.ensures.items
    (c.len.ensures ∙ sym c.as_slice-2.ensures.len) c.in_ok-push.ensures.items c.as_slice-3.ensures.value
    c.requires.lexed c.kind_and_letters-kind.ensures.letters in
    record { in_text = λ i t there. let f = fits i t there in (f.0, f.1); names = λ i t there. let f = fits i t there in f.2 }

pub returns-in-Ok-clause-can : goal.returns-in-Ok-clause-can
returns-in-Ok-clause-can c =
    let front = take c.args.count (lexemes c.args.text.now c.args.tokens.now) in
    let words = trial_words c.args.text.now c.kind_and_letters-kind.result.1.now c.args.tokens.now c.kind_and_letters-kind.result.0 c.args.count
    c.in_ok-longer.ensures.items (c.as_slice-2.ensures.value ∙ c.in_ok-extend_from_slice.ensures.items) c.as_slice.ensures c.in_ok-tried.ensures.items
    (c.len.ensures ∙ sym c.as_slice-2.ensures.len) c.in_ok-push.ensures.items c.as_slice-3.ensures.value
    c.requires.lexed c.kind_and_letters-kind.ensures.same in
    λ yes. stands front (seen_as c.args.token) (file_view c.in-Ok.field-0.target c.in-Ok.field-0.items.items) (ap whole_at (sym words) ∙ c.in-Ok.ensures.gives)

pub returns-clause-can : goal.returns-clause-can
returns-clause-can c =
    let front = take c.args.count (lexemes c.args.text.now c.args.tokens.now) in
    let words = trial_words c.args.text.now c.kind_and_letters-kind.result.1.now c.args.tokens.now c.kind_and_letters-kind.result.0 c.args.count
    c.in_ok-longer.ensures.items (c.as_slice-2.ensures.value ∙ c.in_ok-extend_from_slice.ensures.items) c.as_slice.ensures c.in_ok-tried.ensures.items
    (c.len.ensures ∙ sym c.as_slice-2.ensures.len) c.in_ok-push.ensures.items c.as_slice-3.ensures.value
    c.requires.lexed c.kind_and_letters-kind.ensures.same in
    let read : whole_at (lexemes c.as_slice-2.result.now c.as_slice-3.result.now) ≡ Err c.in-Err-Unexpected.at = rw c.in-Err-Unexpected.field-0-is at c.in-Err-Unexpected.ensures.gives in
    let long = front_length c.args.text.now c.args.tokens.now c.args.count c.requires.count in
    λ yes. let past : c.args.count < c.in-Err-Unexpected.at = grind (arith, nat_tests, yes) in
    stands_if front (seen_as c.args.token) c.in-Err-Unexpected.at (ap whole_at (sym words) ∙ read) (omega (arith, long, past))

pub returns-clause-cannot : goal.returns-clause-cannot
returns-clause-cannot c =
    let front = take c.args.count (lexemes c.args.text.now c.args.tokens.now) in
    let words = trial_words c.args.text.now c.kind_and_letters-kind.result.1.now c.args.tokens.now c.kind_and_letters-kind.result.0 c.args.count
    c.in_ok-longer.ensures.items (c.as_slice-2.ensures.value ∙ c.in_ok-extend_from_slice.ensures.items) c.as_slice.ensures c.in_ok-tried.ensures.items
    (c.len.ensures ∙ sym c.as_slice-2.ensures.len) c.in_ok-push.ensures.items c.as_slice-3.ensures.value
    c.requires.lexed c.kind_and_letters-kind.ensures.same in
    let read : whole_at (lexemes c.as_slice-2.result.now c.as_slice-3.result.now) ≡ Err c.in-Err-Unexpected.at = rw c.in-Err-Unexpected.field-0-is at c.in-Err-Unexpected.ensures.gives in
    let long = front_length c.args.text.now c.args.tokens.now c.args.count c.requires.count in
    λ no. let short : c.in-Err-Unexpected.at ≤ c.args.count = grind (arith, nat_tests, no) in
    stands_not front (seen_as c.args.token) c.in-Err-Unexpected.at (ap whole_at (sym words) ∙ read) (omega (arith, long, short))
