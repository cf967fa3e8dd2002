use Rattle.std.proofs.Common.{◌-◌, Option, Some, None, IfSome, Result, Ok, Err, IfOk, inr, refl}
use Rattle.std.proofs.lemmas.Option.{slice_get-get_or}
use Rattle.lft_text_diagnostics.specs.inner.Refusals.{IsRefusedFrom}
use Rattle.lft_text_diagnostics.proofs.program_text.way_among.Goals as goal

-- what holds at all events holds where something is found
held : {X E : Type 0} (r : Result (Option X) E) (P : Type 0) → P → IfOk r (λ o. IfSome o (λ _. P))
held (Ok None) P p = tt
held (Ok (Some x)) P p = p
held (Err e) P p = tt

pub returns : goal.returns
returns c =
    let number = c.in-Err-Unexpected.number in
    let token = c.in-Some.token.now in
    let there = c.in-Some.ensures.lookup in
    let item = slice_get-get_or c.as_slice.result.now (number - 1) token there.3.0 in
    let none = c.in-Err-Unexpected.ensures.unexpected number (cc) in
    held c.way_behind.result (IsRefusedFrom c.args.text.now c.args.from c.args.to) (inr (token.start, c.if-token-from.false, c.if-to-token.false, (c.args.tokens.now, number, token, record { lexes = c.requires.lexed; none = none.2 }, let same = there.1 in cc, refl)))
