use Rattle.std.proofs.Common.{◌≡◌, slice_get, Some, None, sym, ap, ◌∙◌}
use Rattle.std.specs.Option.{option_and_then}
use Rattle.lft_resolve.{specs.inner.Places.place, proofs.{Files.named-place, Numbered.number_named, NamedReactors.{named, with_name}, Placing.lent}}
use Rattle.lft_resolve.proofs.file.ReactorTable.number.Goals as goal

pub returns-in-Some : goal.returns-in-Some
returns-in-Some c rs is =
    let at : place c.args.name.now (named rs) ≡ Some c.in-Some.place = sym (is.names c.args.name.now) ∙ sym c.get.ensures ∙ c.in-Some.is in
    number_named rs c.args.name.now c.in-Some.place c.copied.result at (c.copied.ensures ∙ lent c.deref.result.now c.in-Some.place c.get-in-Some.result c.get-in-Some.ensures.lookup ∙ ap (λ l. slice_get l c.in-Some.place) (c.deref.ensures.value ∙ is.numbers))

pub returns-in-None : goal.returns-in-None
returns-in-None c rs is =
    let at : place c.args.name.now (named rs) ≡ None = sym (is.names c.args.name.now) ∙ sym c.get.ensures ∙ c.in-None.is in
    named-place rs c.args.name.now ∙ ap (option_and_then (slice_get (with_name rs))) at
