-- What is counted of a text's rows, batch by batch.
use Rattle.std.proofs.Common.{◌≡◌, ◌∙◌, ℕ, ◌+◌, ◌≤◌, List, ◌++◌, length, take, drop, slice_get, Some, sym, ap, subst, arith}
use Rattle.std.proofs.{lemmas.List.{length-append, length-take-le, take-append-drop}, Math.Seq.take-append_seam}
use Rattle.lft_ir.specs.{Parts.Parts, declared.steps.row.Row.Row}
use Rattle.lft_lists.proofs.Places.{get_right}
use Rattle.lft_model.specs.Plans.{PlanParts}
use Rattle.lft_stream.specs.{inner.Kept.IsAcceptorOf, declared.acceptor.Acceptor.Acceptor}
use Rattle.lft_counts.{specs.{inner.Counts.KeepsRows, Cover.CoversRows, declared.cover.Cover.Cover}, proofs.Agreeing.{covers_more, covers_front}}

-- rows that the judge went over keep the rules 1 to 5
pub keeps : (plan : PlanParts) (t : List Row) (acceptor : Acceptor) → IsAcceptorOf plan t acceptor → KeepsRows t
keeps plan t acceptor so = (plan, so.stands.state.settled.rows)

module _ (program : Parts) (all rows more : List Row) (judged : ℕ) (within : judged ≤ length all) (next : all ≡ (take judged all ++ rows) ++ more) where
  as_long : length (take judged all ++ rows) ≡ judged + length rows
  as_long = length-append (take judged all) rows ∙ ap (λ n. n + length rows) (length-take-le judged all within)

  -- with the next rows, so many more are judged
  pub judged_more : take (judged + length rows) all ≡ take judged all ++ rows
  judged_more = ap (λ n. take n all) (sym as_long) ∙ ap (λ (t : List Row). take (length (take judged all ++ rows)) t) next ∙ take-append_seam (take judged all ++ rows) more

  pub within_more : judged + length rows ≤ length all
  within_more = let e = as_long in let l = ap (λ (t : List Row). length t) next ∙ length-append (take judged all ++ rows) more in omega (arith, e, l)

  -- the counts so far are those of the rows up to the next ones
  pub counts_before : (cover : Cover) → CoversRows program all judged cover → CoversRows program (take judged all ++ rows) judged cover
  counts_before cover so = covers_front program (take judged all ++ rows) more judged cover (let e = as_long in omega (arith, e)) (subst (λ (t : List Row). CoversRows program t judged cover) next so)

  pub comes_next : (k : ℕ) (row : Row) → slice_get rows k ≡ Some row → slice_get (take judged all ++ rows) (judged + k) ≡ Some row
  comes_next k row e = ap (λ m. slice_get (take judged all ++ rows) (m + k)) (sym (length-take-le judged all within)) ∙ get_right (take judged all) rows k ∙ e

  -- the counts with the next rows are those of the text's rows
  pub counts_behind : (cover : Cover) → CoversRows program (take judged all ++ rows) (judged + length rows) cover → CoversRows program all (judged + length rows) cover
  counts_behind cover so = subst (λ (t : List Row). CoversRows program t (judged + length rows) cover) (sym next) (covers_more program (take judged all ++ rows) more (judged + length rows) cover (let e = as_long in omega (arith, e)) so)

-- the counts of all rows that are judged
pub counts_whole : (program : Parts) (all : List Row) (judged : ℕ) (cover : Cover) → judged ≤ length all → CoversRows program all judged cover → CoversRows program (take judged all) (length (take judged all)) cover
counts_whole program all judged cover within so =
    let e = length-take-le judged all within in
    subst (λ n. CoversRows program (take judged all) n cover) (sym e) (covers_front program (take judged all) (drop judged all) judged cover (omega (arith, e)) (subst (λ (t : List Row). CoversRows program t judged cover) (sym (take-append-drop judged all)) so))
