use Rattle.std.proofs.Common.{◌≡◌, ◌<◌, ◌⊎◌, inl, inr, ◌+◌, ℕ, Bool, List, true, None, replicate, length, refl, sym, ap, ◌∙◌, subst, arith, rules, slice_get}
use Rattle.std.proofs.lemmas.Option.{slice_get_read}
use Rattle.lft_ir.proofs.Origins.{origin_inside}
use Rattle.lft_lists.proofs.Places.{Some_same}
use Rattle.lft_queue.specs.inner.{Reading.is_read, Coming.Unread.AreSoonest}
use Rattle.lft_queue.proofs.{ComingLemmas.Meeting.{soonest_first, soonest_stays, soonest_set}, coming.unread.soonest_of.Goals.{then-is_unread, else-is_unread}}
use Rattle.lft_queue.proofs.coming.unread.soonest_of.Goals as goal

pub ports-init : goal.ports-init
ports-init c = (let same : c.in_ok-soonest.soonest.items ≡ replicate c.ports-2.result None = search rules in soonest_first c.args.program.now c.ports-2.result c.in_ok-soonest.soonest.items same c.ports-2.ensures.count)

pub index-requires : goal.index-requires
index-requires c = let o = origin_inside (c.port-port.ensures.sound.origins c.ports.number c.port-port.result.now c.port-port.ensures.value).1 in let a = c.ports.invariant.as_long in omega arith

pub index_mut-requires : goal.index_mut-requires
index_mut-requires c = let o = origin_inside (c.port-port.ensures.sound.origins c.ports.number c.port-port.result.now c.port-port.ensures.value).1 in let a = c.ports.invariant.as_long in omega arith

pub ports-preserved : goal.ports-preserved
ports-preserved c =
    let program = c.args.program.now in
    let n = c.ports.number in
    let port = c.port-port.result.now in
    let here = c.port-port.ensures.value in
    let inside = origin_inside (c.port-port.ensures.sound.origins n port here).1 in
    let a = c.ports.invariant.as_long in
    let there = slice_get_read c.ports.soonest.items (length c.ports.soonest.items) port.origin c.index.result.now refl (omega arith) c.index.ensures in
    let within : n < length program.ports = let t = c.ports-test.true in let e = c.ports-number-end.ensures.count in omega arith in
    let read : c.item_at.result ≡ is_read program n = Some_same c.item_at.result (is_read program n) (sym c.item_at.ensures ∙ ap (λ (ms : List Bool). slice_get ms n) c.as_slice.ensures.value ∙ c.in_ok-read.ensures.read n within) in
    elim c.if-is_unread.branch [
      | then-is_unread w ↦ (let y = soonest_set program n port here c.ports.soonest.items c.ports.invariant c.index.result.now c.nearer_of-least.result there c.nearer_of-least.ensures.way c.nearer_of-least.ensures.other in subst (λ fs. AreSoonest program (n + 1) fs.items) (sym w.soonest-is) y)
      | else-is_unread w ↦ (let why : (is_read program n ≡ true) ⊎ ¬ (0 < port.shift.time) = by (c.is_unread.ensures w.if-is_unread.false) read in let y = soonest_stays program n port here c.ports.soonest.items c.ports.invariant why in subst (λ fs. AreSoonest program (n + 1) fs.items) (sym w.soonest-is) y)
    ]
  where
    by : {P : Type 0} {b d : Bool} → (b ≡ true) ⊎ P → b ≡ d → (d ≡ true) ⊎ P
    by (inl e) q = inl (sym q ∙ e)
    by (inr n) q = inr n

pub returns : goal.returns
returns c = subst (λ (k : ℕ). AreSoonest c.args.program.now k c.ports.soonest.items) (let a = c.ports-test.false in let b = c.ports.auto.number-end in let e = c.ports-number-end.ensures.count in let z : c.ports.number ≡ length c.args.program.now.ports = omega arith in z) c.ports.invariant
