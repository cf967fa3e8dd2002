use Rattle.std.proofs.Common.{◌≡◌, ◌++◌, true, false, refl, sym, ap, ◌∙◌, subst}
use Rattle.lft_ir.specs.declared.parts.Name.TheVariants.{Port}
use Rattle.lft_tag.specs.{declared.Tag.Tag, Shifts.shifted}
use Rattle.lft_queue.specs.{declared.coming.coming.Coming.Coming, inner.Coming.{Coming.{to_come, put_at, IsClear}, Channels.is_behind}}
use Rattle.lft_queue.proofs.{ComingLemmas.Carried.{carried_on, passed_by}, coming.channels.carry.Goals.{then-is_behind+else-not-put_until, else-is_behind}}
use Rattle.lft_queue.proofs.coming.channels.carry.Goals as goal

pub loop-place-preserved : goal.loop-place-preserved
loop-place-preserved c = elim c.if-is_behind.branch [
  | then-is_behind+else-not-put_until w ↦
      let here : (h : Tag) → IsClear c.if-is_behind.coming.clash h → IsClear w.put_until.new.self.clash h = λ h clear. subst (λ (k : Coming). IsClear k.clash h) w.coming-is clear in
      let made = w.if-not-put_until.ensures in
      record {
        next = ap (λ (k : Coming). k.next) w.coming-is ∙ made.next ∙ c.loop-place.invariant.next;
        no_later = λ h clear. c.loop-place.invariant.no_later h (made.no_later h (here h clear));
        put = λ events h n up clear.
            let mid = c.loop-place.coming in
            let p = c.item_at-target.result in
            let tag : w.plus-arrives.result ≡ shifted c.args.tag (w.port.result.now.shift.time, w.port.result.now.shift.steps) = w.plus-arrives.ensures.folded in
            let behind : is_behind c.args.program.now c.args.origin p ≡ true = sym c.is_behind.ensures ∙ w.if-is_behind.true in
            let put : to_come events w.put_until.new.self h n ≡ to_come events mid h n ++ put_at w.plus-arrives.result (Port p) c.args.value h n = made.put refl events h n up (here h clear) in
            carried_on c.args.program.now c.args.origin c.args.tag c.args.value c.args.targets.now c.loop-place.place p c.item_at-target.ensures h n (to_come events c.args.coming.now h n) (to_come events mid h n) (to_come events c.if-is_behind.coming h n) (c.loop-place.invariant.put events h n up (made.no_later h (here h clear))) w.port.result.now w.port.ensures.value behind (ap (λ (k : Coming). to_come events k h n) w.coming-is ∙ put ∙ ap (λ (k : Tag). to_come events mid h n ++ put_at k (Port p) c.args.value h n) tag);
      }
  | else-is_behind w ↦
      let here : (h : Tag) → IsClear c.if-is_behind.coming.clash h → IsClear c.loop-place.coming.clash h = λ h clear. subst (λ (k : Coming). IsClear k.clash h) w.coming-is clear in
      record {
        next = ap (λ (k : Coming). k.next) w.coming-is ∙ c.loop-place.invariant.next;
        no_later = λ h clear. c.loop-place.invariant.no_later h (here h clear);
        put = λ events h n up clear.
            let apart : is_behind c.args.program.now c.args.origin c.item_at-target.result ≡ false = sym c.is_behind.ensures ∙ w.if-is_behind.false in
            passed_by c.args.program.now c.args.origin c.args.tag c.args.value c.args.targets.now c.loop-place.place c.item_at-target.result c.item_at-target.ensures h n (to_come events c.args.coming.now h n) (to_come events c.loop-place.coming h n) (to_come events c.if-is_behind.coming h n) (c.loop-place.invariant.put events h n up (here h clear)) apart (ap (λ (k : Coming). to_come events k h n) w.coming-is);
      }
]
