use Rattle.std.proofs.Common.{None, [], refl, ap, ◌∙◌, subst}
use Rattle.lft_tag.specs.declared.Tag.{Tag}
use Rattle.lft_ir.specs.{Parts.Parts, Steps.Inputs.ExternalInputs}
use Rattle.lft_queue.specs.inner.Coming.{Channels.AreReadChannels, Unread.AreUnread, Writes.AreEarlierWrites}
use Rattle.lft_stream.{specs.inner.StartTags.AreStartTags, proofs.Keeping.begins_kept}
use Rattle.lft_stream.proofs.stream.Stream.new.Goals as goal

pub returns : goal.returns
returns c =
    let plan = c.args.plan.now in
    let is = c.program-program.ensures.value in
    let starts = subst (λ (p : Parts). AreStartTags p [] c.in_ok-starts.starts) is c.in_ok-starts.ensures in
    let writes = subst (λ (p : Parts). (g : Tag) → AreEarlierWrites p g c.in_ok-writes.writes) is c.in_ok-writes.ensures in
    let channels = subst (λ (p : Parts). AreReadChannels p c.in_ok-channels.channels) is c.in_ok-channels.ensures in
    let unread = subst (λ (p : Parts). AreUnread p [] c.in_ok-unread.unread) is c.in_ok-unread.ensures in
    begins_kept plan (record { stop = c.stop.result; tag = None; runs = 0; tags = 0; dues = c.in_ok-new.field-0; starts = c.in_ok-starts.starts; writes = c.in_ok-writes.writes; listeners = c.in_ok-listeners.listeners; channels = c.in_ok-channels.channels; coming = c.new-7.result; unread = c.in_ok-unread.unread; effort = c.of_program.result; presence = c.new-8.result; outline = c.new-9.result }) c.most_events.result (c.stop.ensures ∙ ap (λ (x : ExternalInputs). x.stop) c.externals.ensures.value) refl refl refl c.in_ok-new.ensures starts writes c.in_ok-listeners.ensures channels c.new-7.ensures unread
