use Rattle.std.proofs.Common.{[], List, Result, Ok, Err, IfOk, IsErr, string_bytes, subst}
use Rattle.lft_program.specs.inner.Refusals.{cause_of}
use Rattle.lft_syntax.specs.declared.token.Token.{Token}
use Rattle.lft_program_diagnostics.specs.Reasons.{IsToldIn, IsToldOf}
use Rattle.lft_program_diagnostics.proofs.tell.tell_refusal.Goals as goal

told_if : {T E X : Type 0} {P Q : T → Type 0} (r : Result T E) → (X → IsErr r) → ((X → ⊥) → (x : T) → P x → Q x) → IfOk r P → IfOk r Q
told_if (Ok x) none f p = f (λ is. let e = none is in absurd (cc)) x p
told_if (Err e) none f p = tt

pub returns : goal.returns
returns c =
    let text = c.args.text.now in
    let parts = c.args.ast.now.items.items in
    let cause = cause_of c.args.refusal.now in
    told_if {P = λ words. IsToldIn text c.as_slice.result.now [] parts cause (string_bytes words)} {Q = λ words. IsToldOf text cause (string_bytes words)} c.tell_refusal_in.result c.tell_refusal_in.ensures.memory
    (λ known words told. record {
      tokens = c.args.tokens.now;
      lexed = c.requires.lexed;
      target = c.args.ast.now.target;
      parts = parts;
      spelled = c.requires.spelled;
      stand = c.requires.places;
      first = c.requires.first known;
      told = subst (λ (ts : List Token). IsToldIn text ts [] parts cause (string_bytes words)) c.as_slice.ensures told;
    })
    c.tell_refusal_in.ensures.told
