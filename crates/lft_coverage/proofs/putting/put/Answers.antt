use Rattle.std.proofs.Common.{List, ℕ, length, take, sym, ap, ◌∙◌, subst, eqb-true, false, nat_eq}
use Rattle.std.specs.Io.KnownBytes.{Appends}
use Rattle.lft_coverage.{specs.inner.Taking.TookMore, proofs.Taking.{took_given, took_no_more}}
use Rattle.lft_coverage.proofs.putting.put.Goals as goal

pub returns-then-whole : goal.returns-then-whole
returns-then-whole g c =
    let piece = c.args.piece.now in
    let same = c.as_bytes-text.ensures.value in
    let bytes = subst (λ (s : List ℕ). Appends (g.W.Write.contents c.args.out.now) (g.W.Write.contents c.bytes_taken.new.out) (take c.bytes_taken.result s)) same c.bytes_taken.ensures.bytes in
    subst (λ b. TookMore (g.W.Write.contents c.args.out.now) b (g.W.Write.contents c.bytes_taken.new.out) (nat_eq c.bytes_taken.result (length c.as_bytes-text.result.now)) piece) (sym c.if-whole.true)
    (took_given _ _ piece c.bytes_taken.result (nat_eq c.bytes_taken.result (length c.as_bytes-text.result.now)) (λ e. eqb-true c.bytes_taken.result (length c.as_bytes-text.result.now) e ∙ ap (λ (s : List ℕ). length s) same) bytes)

pub returns : goal.returns
returns g c = subst (λ b. TookMore (g.W.Write.contents c.args.out.now) b (g.W.Write.contents c.args.out.now) false c.args.piece.now) (sym c.if-whole.false) (took_no_more _ c.args.piece.now)
