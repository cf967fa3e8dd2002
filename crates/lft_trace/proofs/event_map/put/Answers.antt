use Rattle.std.proofs.Common.{◌≡◌, ◌∙◌, Option, Some, None, true, false, map, List, ap, not}
use Rattle.std.specs.Prelude.{is_some}
use Rattle.std.specs.{BTreeMap.{insert_entry, is_at}, Map.lookup}
use Rattle.lft_ir.specs.declared.{parts.Value.Value, steps.externals.Event.Event}
use Rattle.lft_trace.{specs.{ExternalTables.{Clash, Has}, inner.Keys.event_at}, proofs.EventFacts.{Key, apart, found, inserted, key_cmp}}
use Rattle.lft_trace.proofs.event_map.put.Goals as goal

there : (es : List (Key × Value)) (e : Event) (old : Option Value) → old ≡ lookup (is_at (key_cmp (e.tag.time, e.tag.micro, e.action))) es → is_some old ≡ true → (d : Event) × Has (map event_at es) d × Clash d e
there es e None is h = absurd (cc (h))
there es e (Some w) is h = found es e w (cc (is))

missing : (es : List (Key × Value)) (e : Event) (old : Option Value) → old ≡ lookup (is_at (key_cmp (e.tag.time, e.tag.micro, e.action))) es → is_some old ≡ false → lookup (is_at (key_cmp (e.tag.time, e.tag.micro, e.action))) es ≡ None
missing es e None is h = cc (is)
missing es e (Some w) is h = absurd (cc (h))

pub returns-clause-there : goal.returns-clause-there
returns-clause-there c = λ h.
    let es = c.args.values.now.entries in
    let is : c.in-Ok.old ≡ lookup (is_at (key_cmp (c.args.event.tag.time, c.args.event.tag.micro, c.args.event.action))) es = c.in-Ok.ensures.old in
    let s : is_some c.in-Ok.old ≡ true = c.is_none.ensures ∙ ap not h in
    there es c.args.event c.in-Ok.old is s

pub returns-clause-apart : goal.returns-clause-apart
returns-clause-apart c = λ h d has same.
    let es = c.args.values.now.entries in
    let is : c.in-Ok.old ≡ lookup (is_at (key_cmp (c.args.event.tag.time, c.args.event.tag.micro, c.args.event.action))) es = c.in-Ok.ensures.old in
    let s : is_some c.in-Ok.old ≡ false = c.is_none.ensures ∙ ap not h in
    apart es c.args.event d (missing es c.args.event c.in-Ok.old is s) has same

pub returns-clause-added : goal.returns-clause-added
returns-clause-added c = λ h.
    let es = c.args.values.now.entries in
    let k : Key = (c.args.event.tag.time, c.args.event.tag.micro, c.args.event.action) in
    let is : c.in-Ok.old ≡ lookup (is_at (key_cmp k)) es = c.in-Ok.ensures.old in
    let s : is_some c.in-Ok.old ≡ false = c.is_none.ensures ∙ ap not h in
    let n : c.insert.new.self.entries ≡ insert_entry key_cmp es k c.args.event.value = c.in-Ok.ensures.entries in
    rw n (inserted es k c.args.event.value (missing es c.args.event c.in-Ok.old is s))
