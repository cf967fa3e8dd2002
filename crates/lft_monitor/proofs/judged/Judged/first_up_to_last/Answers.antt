use Rattle.std.proofs.Common.{◌+◌, ◌-◌, ◌∙◌, ⊎_elim, length}
use Rattle.std.proofs.lemmas.Bool.{false≢true}
use Rattle.lft_tag.proofs.Order.{order_cases}
use Rattle.lft_lists.proofs.Places.{get_right}
use Rattle.lft_monitor.proofs.judged.Judged.first_up_to_last.Goals as goal

pub returns : goal.returns
returns c = λ t are earlier.
    let rows = c.args.rows.now in
    record {
      first = c.in_ok-found.ensures t are earlier;
      place = length t + (length rows - 1);
      row = c.row_at.result;
      is_row = get_right t rows (length rows - 1) ∙ c.row_at.ensures;
      up = ⊎_elim (λ b. absurd (false≢true (c.if-is_before.ensures.1 b))) (λ u. u) (order_cases c.row_at.result.tag c.in_ok-found.found.tag);
    }
