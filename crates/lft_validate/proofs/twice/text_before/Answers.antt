use Rattle.std.proofs.Common.{◌≡◌, ℕ, ◌<◌, true, List, [], Some, Bor, length, get_or, slice_get, sym, ap, ◌∙◌, arith}
use Rattle.std.proofs.lemmas.Slice.Eq.{bytes_eq-Decides}
use Rattle.lft_resolve.{specs.inner.Tests.texts, proofs.{Somes.none_more, Twice.get_or-itself}}
use Rattle.lft_lists.proofs.Mapped.{mapped_at}
use Rattle.lft_validate.proofs.twice.text_before.Goals as goal

abbrev text : List ℕ → Bor (List ℕ)
text q = record { ref_ptr = (0, 0); now = q }

pub returns-then-eq-clause-some : goal.returns-then-eq-clause-some
returns-then-eq-clause-some c =
    let names = c.args.names.now in
    let lt = c.loop-before-test.true in
    let end = c.requires in
    let within : c.loop-before.before < length names = omega (arith, lt, end) in
    let one = get_or names c.loop-before.before (text []) in
    let other = get_or names c.args.place (text []) in
    let same : one.now ≡ other.now = (bytes_eq-Decides one.now other.now).0 (sym c.eq.ensures ∙ c.if-eq.true) in
    (one.now, lt, mapped_at (λ t. t.now) names c.loop-before.before one within (get_or-itself names c.loop-before.before (text []) within), mapped_at (λ t. t.now) names c.args.place other end (get_or-itself names c.args.place (text []) end) ∙ ap Some (sym same))

pub loop-before-preserved : goal.loop-before-preserved
loop-before-preserved c x at =
    let names = c.args.names.now in
    let lt = c.loop-before-test.true in
    let end = c.requires in
    let within : c.loop-before.before < length names = omega (arith, lt, end) in
    let one = get_or names c.loop-before.before (text []) in
    let other = get_or names c.args.place (text []) in
    let there : slice_get (texts names) c.args.place ≡ Some other.now = mapped_at (λ t. t.now) names c.args.place other end (get_or-itself names c.args.place (text []) end) in
    let named : other.now ≡ x = (let e : Some other.now ≡ Some x = sym there ∙ at in cc) in
    none_more (λ t. t.now) (λ y. y ≡ x) names c.loop-before.before one within (get_or-itself names c.loop-before.before (text []) within) (c.loop-before.invariant x at) (λ e. (
    let t : c.eq.result ≡ true = c.eq.ensures ∙ (bytes_eq-Decides one.now other.now).1 (e ∙ sym named) in
    absurd (cc)
    ))
