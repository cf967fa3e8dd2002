use Rattle.std.proofs.Common.{take}
use Rattle.lft_tree.specs.ItemView.{item_views}
use Rattle.lft_lower.specs.inner.{Meanings.Names.texts, Reactors.AreReactors, Standing.ArePlaced}
use Rattle.lft_lower.proofs.reactors.reactors.Given as goal

abbrev pub invariant-loop-place : goal.invariant-loop-place
invariant-loop-place l = AreReactors l.maker.settings.now (texts l.maker.names.now) (take l.place l.settings) (item_views l.items.items) × ArePlaced l.maker.files.now l.maker.settings.now (take l.place l.settings) l.items.items
