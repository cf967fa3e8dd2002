use Rattle.std.proofs.Common.{take}
use Rattle.lft_rows.specs.inner.Effects.{AreSetsOf}
use Rattle.lft_rows.proofs.effects.EffectSets.new.Given as goal

abbrev pub invariant-loop-place : goal.invariant-loop-place
invariant-loop-place l = AreSetsOf (take l.place l.names) (record { ports = l.ports; actions = l.actions })
