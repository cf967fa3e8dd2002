use Rattle.std.proofs.Common.{◌≡◌, ◌<◌, ◌∙◌, ap, ℕ, List, Bool, Some, length, slice_get}
use Rattle.lft_queue.specs.inner.Reading.{is_read}
use Rattle.lft_queue.proofs.coming.channels.Channels.new.Goals as goal

pub returns : goal.returns
returns c = record {
  at_once = c.in_ok-at_once.ensures (is_read c.args.program.now) (λ p l. ap (λ (ms : List Bool). slice_get ms p) c.as_slice.ensures.value ∙ c.in_ok-marked.ensures.read p l);
  delayed = c.in_ok-delayed.ensures (is_read c.args.program.now) (λ p l. ap (λ (ms : List Bool). slice_get ms p) c.as_slice-2.ensures.value ∙ c.in_ok-marked.ensures.read p l);
}
