-- The least tag of two kinds, and what triggers a reaction.
use Rattle.std.proofs.Common.{◌≡◌, ℕ, ◌<◌, ◌⊎◌, inl, inr, List, length, sym, ap, ◌∙◌, subst, arith, Option, Some, None, slice_get, Contains}
use Rattle.lft_tag.{specs.{declared.Tag.Tag, Tags.UpTo}, proofs.Order.{UpTo-trans, Before-weaken}}
use Rattle.lft_lists.proofs.Members.{mem_get, get_mem, mem_contains, contains_mem}
use Rattle.lft_ir.specs.{Parts.Parts, Sound.{IsSound, IsTriggerOf}, declared.parts.{Trigger.Trigger, Reaction.Reaction}}
use Rattle.lft_model.{specs.Presence.{Occurs, Triggered}, proofs.Places.slice_get_within}
use Rattle.lft_rows.specs.{Presence.Traces.{TraceParts, LeastTag}, inner.Presence.Traces.IsSooner}

pub at_reaction : (p q : Parts) (r : ℕ) (x : Reaction) → p ≡ q → slice_get p.reactions r ≡ Some x → slice_get q.reactions r ≡ Some x
at_reaction p q r x e h = subst (λ (z : Parts). slice_get z.reactions r ≡ Some x) e h

pub trigger_of : (program : Parts) → IsSound program → (r : ℕ) (x : Reaction) (xs : List Trigger) (k : ℕ) (trigger : Trigger) → slice_get program.reactions r ≡ Some x → xs ≡ x.triggers → slice_get xs k ≡ Some trigger → IsTriggerOf program trigger
trigger_of program sound r x xs k trigger e q p = (sound.exist r x e).triggers trigger (subst (λ ys. Contains ys trigger) q (mem_contains trigger xs (mem_get xs k trigger p)))

-- one kind of tags stands for another
pub least_as : (P Q : Tag → Type 0) (o : Option Tag) → LeastTag P o → ((g : Tag) → P g → Q g) → ((g : Tag) → Q g → P g) → LeastTag Q o
least_as P Q None h to from = λ g q. h g (from g q)
least_as P Q (Some g) h to from = (to g h.0, λ k q. h.1 k (from k q))

-- the least of two kinds
pub least_of_both : (P Q : Tag → Type 0) (a b r : Option Tag) → LeastTag P a → LeastTag Q b → IsSooner a b r → LeastTag (λ g. P g ⊎ Q g) r
least_of_both P Q None b r p q e = subst (λ o. LeastTag (λ g. P g ⊎ Q g) o) (sym e) (go b q)
  where
    go : (b : Option Tag) → LeastTag Q b → LeastTag (λ g. P g ⊎ Q g) b
    go None n = λ g x. neither g x
      where
        neither : (g : Tag) → P g ⊎ Q g → ⊥
        neither g (inl x) = p g x
        neither g (inr x) = n g x
    go (Some b) n = (inr n.0, λ h x. either h x)
      where
        either : (h : Tag) → P h ⊎ Q h → UpTo b h
        either h (inl x) = absurd (p h x)
        either h (inr x) = n.1 h x
least_of_both P Q (Some a) None r p q e = subst (λ o. LeastTag (λ g. P g ⊎ Q g) o) (sym e) (inl p.0, λ h x. either h x)
  where
    either : (h : Tag) → P h ⊎ Q h → UpTo a h
    either h (inl x) = p.1 h x
    either h (inr x) = absurd (q h x)
least_of_both P Q (Some a) (Some b) r p q (inl e) = subst (λ o. LeastTag (λ g. P g ⊎ Q g) o) (sym e.0) (inl p.0, λ h x. either h x)
  where
    either : (h : Tag) → P h ⊎ Q h → UpTo a h
    either h (inl x) = p.1 h x
    either h (inr x) = UpTo-trans a b h e.1 (q.1 h x)
least_of_both P Q (Some a) (Some b) r p q (inr e) = subst (λ o. LeastTag (λ g. P g ⊎ Q g) o) (sym e.0) (inr q.0, λ h x. either h x)
  where
    either : (h : Tag) → P h ⊎ Q h → UpTo b h
    either h (inl x) = UpTo-trans b a h (Before-weaken b a e.1) (p.1 h x)
    either h (inr x) = q.1 h x

-- the trigger at a place that is present triggers the reaction
pub triggered_by : (cut : TraceParts) (g : Tag) (r : ℕ) (x : Reaction) (xs : List Trigger) (k : ℕ) (trigger : Trigger) → slice_get cut.plan.program.reactions r ≡ Some x → xs ≡ x.triggers → slice_get xs k ≡ Some trigger → Occurs cut.plan cut.rows g trigger → Triggered cut.plan cut.rows g r
triggered_by cut g r x xs k trigger e q p o = record { reaction = x; trigger = trigger; is_reaction = e; is_trigger = subst (λ ys. Contains ys trigger) q (mem_contains trigger xs (mem_get xs k trigger p)); occurs = o }

pub not_triggered : (cut : TraceParts) (g : Tag) (r k : ℕ) (x : Reaction) (xs : List Trigger) → slice_get cut.plan.program.reactions r ≡ Some x → xs ≡ x.triggers → k ≡ length xs → ((j : ℕ) (trigger : Trigger) → j < k → slice_get xs j ≡ Some trigger → ¬ Occurs cut.plan cut.rows g trigger) → ¬ Triggered cut.plan cut.rows g r
not_triggered cut g r k x xs e q l n m =
    let y : Some m.reaction ≡ Some x = sym m.is_reaction ∙ e in
    let z : m.reaction ≡ x = cc in
    let c : Contains xs m.trigger = subst (λ ys. Contains ys m.trigger) (ap (λ (v : Reaction). v.triggers) z ∙ sym q) m.is_trigger in
    let p = get_mem m.trigger xs (contains_mem m.trigger xs c) in
    let b : p.0 < length xs = slice_get_within xs p.0 m.trigger p.1 in
    let d : p.0 < k = omega arith in
    n p.0 m.trigger d p.1 m.occurs
