use Rattle.std.proofs.Common.{◌≡◌, ◌+◌, ◌≤◌, ◌++◌, max, length, take}
use Rattle.lft_tree.specs.View.{ref_views}
use Rattle.lft_lower.specs.inner.Meanings.{Places.{inner_places, several}, Standing.AddsAt}
use Rattle.lft_lower.proofs.meanings.places.push_inner.Given as goal

abbrev pub invariant-loop-place : goal.invariant-loop-place
invariant-loop-place l = record {
  many : length l.list.items ≡ length (ref_views l.fn.list.items) + l.place;
  few : length l.list.items ≤ max l.most (length (ref_views l.fn.list.items));
  made : ref_views l.list.items ≡ ref_views l.fn.list.items ++ take l.place (inner_places (several l.members) (several l.channels) l.is_interleaved);
  stand : AddsAt l.fn.list.items l.list.items l.at;
}
