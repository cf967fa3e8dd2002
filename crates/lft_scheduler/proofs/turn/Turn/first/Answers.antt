use Rattle.std.proofs.Common.{◌<◌, ◌≤◌, ◌⊎◌, ℕ, length, sym, ◌∙◌, subst, arith}
use Rattle.std.proofs.lemmas.List.{length-map}
use Rattle.lft_graph.specs.Graph.{IsGraphOf}
use Rattle.lft_scheduler.specs.{declared.turn.seats.Seat.Seat, inner.{Turns.{TurnParts, IsReady, IsLeastReady, NoRunOpen, NonePending}, Seats.phases_of}}
use Rattle.lft_scheduler.proofs.{Blocked.IsFree, Blocking.{least_ready, ready_free, none_pending}, Spreading.{IsHeld, spreads, has_free, free_has, held_or_not}}
use Rattle.lft_scheduler.proofs.turn.Turn.first.Goals as goal

pub returns-clause-ready : goal.returns-clause-ready
returns-clause-ready c program r is e =
    let k = c.self.invariant in
    let p = phases_of c.self.inside.seats.items in
    let g = subst (λ (t : TurnParts). IsGraphOf program t.graph) (sym c.self.view_is) is in
    let s = spreads c.self.inside.graph.before c.self.inside.after c.self.inside.seats.items k.rest k.mirror in
    let n = length-map c.self.inside.seats.items (λ (x : Seat). x.phase) ∙ k.rest.as_long ∙ k.mirror.as_long in
    let h = c.least_below.ensures.found r e in
    let w = h.0 in
    let f = has_free c.self.inside.seats.items c.self.inside.frees k.frees r (omega arith) h.1 in
    let l : (b : ℕ) → IsFree p (IsHeld c.self.inside.seats.items) b → r ≤ b = λ b i. c.least_below.ensures.least r b e (free_has c.self.inside.seats.items c.self.inside.frees k.frees b i).1 in
    subst (λ (t : TurnParts). IsLeastReady program t.phases r) c.self.view_is (least_ready program c.self.inside.graph g p (IsHeld c.self.inside.seats.items) s n r f l)

pub returns-clause-none : goal.returns-clause-none
returns-clause-none c program r is e d =
    let k = c.self.invariant in
    let p = phases_of c.self.inside.seats.items in
    let g = subst (λ (t : TurnParts). IsGraphOf program t.graph) (sym c.self.view_is) is in
    let s = spreads c.self.inside.graph.before c.self.inside.after c.self.inside.seats.items k.rest k.mirror in
    let n = length-map c.self.inside.seats.items (λ (x : Seat). x.phase) ∙ k.rest.as_long ∙ k.mirror.as_long in
    let h = subst (λ (t : TurnParts). IsReady program t.phases r) (sym c.self.view_is) d in
    let f = free_has c.self.inside.seats.items c.self.inside.frees k.frees r (ready_free program c.self.inside.graph g p (IsHeld c.self.inside.seats.items) s n r h) in
    let w = f.0 in
    c.least_below.ensures.none r e (omega arith) f.1

pub returns-clause-over : goal.returns-clause-over
returns-clause-over c program is e closed =
    let k = c.self.invariant in
    let p = phases_of c.self.inside.seats.items in
    let g = subst (λ (t : TurnParts). IsGraphOf program t.graph) (sym c.self.view_is) is in
    let s = spreads c.self.inside.graph.before c.self.inside.after c.self.inside.seats.items k.rest k.mirror in
    let n = length-map c.self.inside.seats.items (λ (x : Seat). x.phase) ∙ k.rest.as_long ∙ k.mirror.as_long in
    let d : (a : ℕ) → a < length c.self.inside.graph.before → IsHeld c.self.inside.seats.items a ⊎ (¬ IsHeld c.self.inside.seats.items a) = λ a l. held_or_not c.self.inside.seats.items a (let x = k.rest.as_long in let y = k.mirror.as_long in omega arith) in
    let f : (b : ℕ) → ¬ IsFree p (IsHeld c.self.inside.seats.items) b = λ b i. (let x = free_has c.self.inside.seats.items c.self.inside.frees k.frees b i in let w = x.0 in c.least_below.ensures.none b e (omega arith) x.1) in
    let h = subst (λ (t : TurnParts). NoRunOpen t.phases) (sym c.self.view_is) closed in
    subst (λ (t : TurnParts). NonePending t.phases) c.self.view_is (none_pending program c.self.inside.graph g p (IsHeld c.self.inside.seats.items) s n d f h)
