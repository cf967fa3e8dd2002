use Rattle.std.proofs.Common.{sym, ◌∙◌}
use Rattle.lft_whole.proofs.piece.piece.Goals as goal

pub returns-then-letter_stands-clause-piece : goal.returns-then-letter_stands-clause-piece
returns-then-letter_stands-clause-piece c =
    let name = c.past_word.ensures.name (sym c.letter_stands.ensures.is ∙ c.if-letter_stands.true) in
    (name.0, c.past_word.ensures.within, λ e. name.1)

pub returns-then-digit_stands-clause-piece : goal.returns-then-digit_stands-clause-piece
returns-then-digit_stands-clause-piece c = c.number_piece-kind.ensures.piece
