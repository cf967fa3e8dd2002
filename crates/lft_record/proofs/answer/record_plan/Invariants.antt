use Rattle.lft_record.proofs.answer.record_plan.Given as goal

abbrev pub ghosts-record_cards : goal.ghosts-record_cards
ghosts-record_cards g a = record { scripts = a.cards.now }
