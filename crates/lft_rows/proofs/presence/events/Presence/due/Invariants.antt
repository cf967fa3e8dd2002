use Rattle.lft_rows.proofs.PresenceLemmas.Dues.{AreDueTo}
use Rattle.lft_rows.proofs.presence.events.Presence.due.Given as goal

abbrev pub invariant-loop-reaction : goal.invariant-loop-reaction
invariant-loop-reaction l = AreDueTo l.self l.tag l.reaction l.due.items
