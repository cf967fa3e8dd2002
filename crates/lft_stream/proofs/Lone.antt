-- The events of ports that no reaction reads: nobody waits for them, and each is alone at its tag.
use Rattle.std.proofs.Common.{◌≡◌, ℕ, ◌<◌, inl, true, false, List, [], ◌∷◌, ◌++◌, length, refl, sym, ap, ◌∙◌, subst, Some, slice_get, filter_map}
use Rattle.std.proofs.lemmas.{Bool.false≢true, List.append-nil}
use Rattle.lft_tag.{specs.{declared.Tag.Tag, Tags.{Before, UpTo, after_all}, Shifts.shifted}, proofs.{Order.UpTo-not, Chains.shifted_chain}}
use Rattle.lft_lists.proofs.Members.{Mem, get_mem, mem_contains, contains_mem, mem_filter, mem_from_filter, mem_left, last_mem}
use Rattle.lft_ir.specs.{Naming.named, Origins.Origin, Parts.inputs, Sound.IsSound}
use Rattle.lft_ir.specs.declared.{parts.{Port.Port as PortOf, Value.Value, Name.TheVariants.Port, Trigger.TheVariants.On}, steps.row.Row.Row}
use Rattle.lft_ir.proofs.Origins.{origin_unique, port_of}
use Rattle.lft_model.{specs.{Plans.PlanParts, Presence.{written, Last}}, proofs.{Ended.written_by, Steps.written_some}}
use Rattle.lft_queue.specs.inner.{Reading.is_read, Coming.{Lanes.{held, carried, IsLane, IsMetAt}, Listens.Listens, Unread.{IsWrittenAt, AreFree}}}
use Rattle.lft_queue.specs.Coming.AtTag.{AreBefore}
use Rattle.lft_queue.proofs.Marking.{of_reads}
use Rattle.lft_stream.proofs.Lanes.{held_append, held_mem, of_carried}

-- who listens to a port reads it
listener_reads : (plan : PlanParts) (r p : ℕ) → Listens plan r (On (Port p)) → is_read plan.program p ≡ true
listener_reads plan r p l =
    let m : Mem (Port p) (filter_map named l.reaction.triggers) = mem_filter named (On (Port p)) (Port p) l.reaction.triggers (contains_mem (On (Port p)) l.reaction.triggers l.is_trigger) refl in
    of_reads plan.program r p (l.reaction, l.is_reaction, mem_contains (Port p) (inputs l.reaction) (mem_left (Port p) (filter_map named l.reaction.triggers) l.reaction.uses m))

-- an event of an unread port is met where it is alone
pub unread_met : (plan : PlanParts) (t : List Row) (h : Tag) (p : ℕ) (lane : List (Tag × Value)) → is_read plan.program p ≡ false → length (held lane h) < 2 → IsMetAt plan t (Port p) h lane
unread_met plan t h p lane un alone = record { alone = alone; met = λ v k r l. absurd (false≢true (sym un ∙ listener_reads plan r p l)) }

-- a last write is a write
wrote : (t : List Row) (o : ℕ) (g : Tag) (v : Value) → Last t g o v → IsWrittenAt t o g
wrote t o g v e =
    let m = mem_from_filter (written g o) t v (last_mem (filter_map (written g o) t) v e) in
    let i = get_mem m.0 t m.1 in
    let w = written_by g o m.0 v m.2 in
    record { place = i.0; row = m.0; value = v; is_row = i.1; writes = written_some o m.0.step v w.1; tag_is = w.0 }

-- one more event of an unread port is alone too, where its origin is free of earlier writes
pub still_alone : (plan : PlanParts) → IsSound plan.program → (d u : List Row) (g last low : Tag) (p o : ℕ) (ds : List ℕ) (lane : List (Tag × Value)) → Origin plan.program p o ds → is_read plan.program p ≡ false → AreBefore d g → AreFree plan.program d u g last → IsLane plan d (Port p) low lane → (h : Tag) → UpTo low h → UpTo h last → length (held lane h) < 2 → length (held (carried u g o ds) h) < 2 → length (held (lane ++ carried u g o ds) h) < 2
still_alone plan good d u g last low p o ds lane way un before free is h up near few one = subst (λ (vs : List Value). length vs < 2) (sym (held_append lane (carried u g o ds) h)) (go (held lane h) (held (carried u g o ds) h) refl refl few one)
  where
    port : (x : PortOf) × (slice_get plan.program.ports p ≡ Some x)
    port = port_of way

    shift : ℕ × ℕ
    shift = (port.0.shift.time, port.0.shift.steps)

    own : port.0.origin ≡ o
    own = let kept = good.origins p port.0 port.1 in (origin_unique kept.1 way).0

    leads : (k : Tag) → shifted k shift ≡ after_all k ds
    leads k = let kept = good.origins p port.0 port.1 in ap (λ (s : ℕ × ℕ). shifted k s) (sym kept.2) ∙ shifted_chain k kept.0 ∙ ap (λ (es : List ℕ). after_all k es) (origin_unique kept.1 way).1

    meet : (w v : Value) → Mem w (held lane h) → Mem v (held (carried u g o ds) h) → ⊥
    meet w v a b =
        let x = (is.ahead h up).back w (mem_contains w (held lane h) a) in
        let c = held_mem (carried u g o ds) h v b in
        let n = of_carried u g o ds c.0 c.1 in
        let same = origin_unique x.1.is_origin way in
        let old : IsWrittenAt d o x.0 = wrote d o x.0 w (subst (λ (q : ℕ). Last d x.0 q w) same.0 x.1.is_last) in
        let there : after_all x.0 ds ≡ h = sym (ap (λ (es : List ℕ). after_all x.0 es) same.1) ∙ x.1.arrives in
        let here : shifted g shift ≡ h = leads g ∙ n.1 ∙ c.2 in
        let past : Before last (shifted g shift) = free o (wrote u o g c.0.1 n.0) p port.0 x.0 port.1 own un old (subst (λ (k : Tag). Before k g) old.tag_is (before old.place old.row old.is_row)) (leads x.0 ∙ there ∙ sym here) in
        UpTo-not h last near (subst (λ (k : Tag). Before last k) here past)

    go : (xs ys : List Value) → held lane h ≡ xs → held (carried u g o ds) h ≡ ys → length xs < 2 → length ys < 2 → length (xs ++ ys) < 2
    go [] ys e f l m = m
    go (x ∷ xs) [] e f l m = subst (λ (vs : List Value). length vs < 2) (sym (append-nil (x ∷ xs))) l
    go (x ∷ xs) (y ∷ ys) e f l m = absurd (meet x y (subst (λ (vs : List Value). Mem x vs) (sym e) (inl refl)) (subst (λ (vs : List Value). Mem y vs) (sym f) (inl refl)))
