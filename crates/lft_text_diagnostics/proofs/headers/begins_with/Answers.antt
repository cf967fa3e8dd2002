use Rattle.std.proofs.Common.{◌++◌, drop, length, ap, ◌∙◌}
use Rattle.std.proofs.lemmas.{Bool.Decides.Decides-eqb, Slice.Eq.starts_is}
use Rattle.lft_text_diagnostics.proofs.headers.begins_with.Goals as goal

pub returns : goal.returns
returns c =
    let t = c.args.text.now in
    let header = c.as_bytes.result.now in
    λ yes. (drop (length header) t, (starts_is Decides-eqb t header c.starts_with.result c.starts_with.ensures.value).0 yes ∙ ap (λ h. h ++ drop (length header) t) c.as_bytes.ensures.value)
