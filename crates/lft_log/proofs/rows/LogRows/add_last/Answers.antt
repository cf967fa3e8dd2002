use Rattle.std.proofs.Common.{◌∙◌, ℕ, List, [], ◌∷◌, ◌++◌, ap}
use Rattle.lft_log.proofs.Gathering.{either_read, read_last}
use Rattle.lft_log.proofs.rows.LogRows.add_last.Goals as goal

pub add_text-requires : goal.add_text-requires
add_text-requires c = (c.requires.0, c.requires.1, 10 ∷ [], c.requires.2)

pub returns-in_default-clause-read : goal.returns-in_default-clause-read
returns-in_default-clause-read c = λ base bytes is. either_read base c.add_text.new.plan bytes c.args.text.now (10 ∷ []) c.add_text.new.self c.in_ok-end.field-0 (c.in_ok-end.ensures.read base bytes (10 ∷ []) is)

pub returns-then-not-is_whole-clause-read : goal.returns-then-not-is_whole-clause-read
returns-then-not-is_whole-clause-read c = λ base bytes is. either_read base c.add_text.new.plan bytes c.args.text.now (10 ∷ []) c.add_text.new.self c.in_ok-end.field-0 (c.in_ok-end.ensures.read base bytes (10 ∷ []) is)

pub add_text-requires-2 : goal.add_text-requires-2
add_text-requires-2 c = (c.requires.0, c.requires.1, [], read_last c.requires.0 c.add_text.new.plan c.requires.1 c.args.text.now c.as_slice.result.now c.in-Some.end c.add_text.new.self (c.as_slice.ensures.value ∙ c.in_ok-push.ensures.items ∙ ap (λ (x : List ℕ). x ++ 10 ∷ []) c.in_ok-line.ensures.items) (rw c.in-Some.is at (c.in_ok-end.ensures.read c.requires.0 c.requires.1 (10 ∷ []) c.requires.2)))

pub returns-clause-read : goal.returns-clause-read
returns-clause-read c = λ base bytes is. either_read base c.add_text-2.new.plan bytes c.as_slice.result.now [] c.add_text-2.new.self c.in_ok-add_text.field-0 (c.in_ok-add_text.ensures.read base bytes [] (read_last base c.add_text.new.plan bytes c.args.text.now c.as_slice.result.now c.in-Some.end c.add_text.new.self (c.as_slice.ensures.value ∙ c.in_ok-push.ensures.items ∙ ap (λ (x : List ℕ). x ++ 10 ∷ []) c.in_ok-line.ensures.items) (rw c.in-Some.is at (c.in_ok-end.ensures.read base bytes (10 ∷ []) is))))
