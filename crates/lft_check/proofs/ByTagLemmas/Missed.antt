-- The least missed tag: over triggers, then over reactions.
use Rattle.std.proofs.Common.{◌≡◌, ℕ, ◌+◌, ◌*◌, ◌<◌, ◌≤◌, ◌⊎◌, inl, inr, List, length, sym, ap, ◌∙◌, subst, arith, Option, Some, None, slice_get, Contains, MatchOption}
use native.Mathlib.Decide.{ℕ_discrete}
use Rattle.lft_tag.{specs.{declared.Tag.Tag, Tags.Before}, proofs.Order.{from_first, UpTo-trans, Before-weaken, Before-UpTo, split_up}}
use Rattle.lft_ir.specs.declared.parts.{Trigger.{Trigger, TheVariants.{Startup, Shutdown, Timer, On}}, Timer.Timer as TimerOf, Name.Name, Reaction.Reaction}
use Rattle.lft_model.{specs.Presence.{stop, Occurs, Triggered}, proofs.Places.slice_get_within}
use Rattle.lft_lists.proofs.Places.{at_contains}
use Rattle.lft_rows.specs.{Presence.Traces.{TraceParts, LeastTag}, inner.Presence.{Traces.IsSooner, Needed.AreNeededOf}}
use Rattle.lft_rows.proofs.PresenceLemmas.{Leasts.{least_as, least_of_both}, Needing.{stands_occurs, needed_triggers}}
use Rattle.lft_check.specs.ByTag.Slices.{LeastPair}
use Rattle.lft_check.specs.inner.ByTag.{Slices.{IsFirstMissing, IsFirstMissingFrom}, Least.{IsEarlierLack, LacksAt, LacksFiring, LacksTriggerAt, Lacks}}

-- one of the triggers before place k is lacked at g
pub record LacksBefore (cut : TraceParts) (xs : List Trigger) (k : ℕ) (low : Tag) (tags : List Tag) (g : Tag) : Type 0 where
  pub place : ℕ
  pub trigger : Trigger
  pub before : place < k
  pub is_trigger : slice_get xs place ≡ Some trigger
  pub lacks : LacksTriggerAt cut trigger low tags g

pub lacked_more : (cut : TraceParts) (xs : List Trigger) (k : ℕ) (low : Tag) (tags : List Tag) (trigger : Trigger) (a b o : Option Tag) → slice_get xs k ≡ Some trigger → LeastTag (LacksBefore cut xs k low tags) a → LeastTag (LacksTriggerAt cut trigger low tags) b → IsSooner a b o → LeastTag (LacksBefore cut xs (k + 1) low tags) o
lacked_more cut xs k low tags trigger a b o e p q s = least_as (λ g. LacksBefore cut xs k low tags g ⊎ LacksTriggerAt cut trigger low tags g) (LacksBefore cut xs (k + 1) low tags) o (least_of_both (LacksBefore cut xs k low tags) (LacksTriggerAt cut trigger low tags) a b o p q s) to (λ g x. from g x (ℕ_discrete x.place k))
  where
    to : (g : Tag) → LacksBefore cut xs k low tags g ⊎ LacksTriggerAt cut trigger low tags g → LacksBefore cut xs (k + 1) low tags g
    to g (inl x) = let l : x.place < k = x.before in record { place = x.place; trigger = x.trigger; before = omega arith; is_trigger = x.is_trigger; lacks = x.lacks }
    to g (inr x) = record { place = k; trigger = trigger; before = omega arith; is_trigger = e; lacks = x }

    from : (g : Tag) (x : LacksBefore cut xs (k + 1) low tags g) → Dec (x.place ≡ k) → LacksBefore cut xs k low tags g ⊎ LacksTriggerAt cut trigger low tags g
    from g x (yes d) = let y : Some x.trigger ≡ Some trigger = sym x.is_trigger ∙ ap (λ j. slice_get xs j) d ∙ e in let z : x.trigger ≡ trigger = cc in inr (subst (λ t. LacksTriggerAt cut t low tags g) z x.lacks)
    from g x (no n) = let l : x.place < k + 1 = x.before in inl (record { place = x.place; trigger = x.trigger; before = omega arith; is_trigger = x.is_trigger; lacks = x.lacks })

-- over triggers that stand for all of a reaction
pub lacked_all : (cut : TraceParts) (r k : ℕ) (low : Tag) (tags : List Tag) (ys : List Trigger) (o : Option Tag) → AreNeededOf cut.plan.program r ys → k ≡ length ys → LeastTag (LacksBefore cut ys k low tags) o → LeastTag (Lacks cut low tags r) o
lacked_all cut r k low tags ys o needed l h = least_as (LacksBefore cut ys k low tags) (Lacks cut low tags r) o h to from
  where
    to : (g : Tag) → LacksBefore cut ys k low tags g → Lacks cut low tags r g
    to g m = record { triggered = needed_triggers cut g r m.place ys m.trigger needed m.is_trigger m.lacks.occurs; in_time = m.lacks.in_time; not_there = m.lacks.not_there }

    from : (g : Tag) → Lacks cut low tags r g → LacksBefore cut ys k low tags g
    from g m =
        let y : Some m.triggered.reaction ≡ Some needed.0 = sym m.triggered.is_reaction ∙ needed.1 in
        let z : m.triggered.reaction ≡ needed.0 = cc in
        let c : Contains needed.0.triggers m.triggered.trigger = subst (λ (v : Reaction). Contains v.triggers m.triggered.trigger) z m.triggered.is_trigger in
        let p = at_contains needed.0.triggers m.triggered.trigger c in
        let q = needed.2.each p.0 m.triggered.trigger p.1 in
        let b : q.0 < length ys = slice_get_within ys q.0 q.1 q.2 in
        record { place = q.0; trigger = q.1; before = omega arith; is_trigger = q.2; lacks = record { occurs = stands_occurs cut g q.1 m.triggered.trigger q.3 m.triggered.occurs; in_time = m.in_time; not_there = m.not_there } }

-- the pair comes before what is missed by a
abbrev pub FirstBelow : (ℕ → Tag → Type 0) → ℕ → Option (Tag × ℕ) → Type 0
FirstBelow P n o = MatchOption o ((g : Tag) (r : ℕ) → r < n → ¬ P r g) (λ x. P x.1 x.0 × ((h : Tag) (a : ℕ) → a < n → P a h → Before x.0 h ⊎ ((x.0 ≡ h) × (x.1 ≤ a))) × (x.1 < n))

last_or_less : (a n : ℕ) → a < n + 1 → Dec (a ≡ n) → (a < n) ⊎ (a ≡ n)
last_or_less a n l (yes e) = inr e
last_or_less a n l (no m) = inl (omega arith)

pub first_more : (P : ℕ → Tag → Type 0) (n : ℕ) (x : Option (Tag × ℕ)) (o : Option Tag) (r : Option (Tag × ℕ)) → FirstBelow P n x → LeastTag (P n) o → IsEarlierLack x o n r → FirstBelow P (n + 1) r
first_more P n None None r h p e = subst (λ z. FirstBelow P (n + 1) z) (sym e) (λ g a l m. go g a m (last_or_less a n l (ℕ_discrete a n)))
  where
    go : (g : Tag) (a : ℕ) → P a g → (a < n) ⊎ (a ≡ n) → ⊥
    go g a m (inl l) = h g a l m
    go g a m (inr q) = p g (subst (λ z. P z g) q m)
first_more P n None (Some b) r h p e = subst (λ z. FirstBelow P (n + 1) z) (sym e) (p.0, λ k a l m. go k a m (last_or_less a n l (ℕ_discrete a n)), omega arith)
  where
    go : (k : Tag) (a : ℕ) → P a k → (a < n) ⊎ (a ≡ n) → Before b k ⊎ ((b ≡ k) × (n ≤ a))
    go k a m (inl l) = absurd (h k a l m)
    go k a m (inr q) = by (split_up b k (p.1 k (subst (λ z. P z k) q m)))
      where
        by : Before b k ⊎ (b ≡ k) → Before b k ⊎ ((b ≡ k) × (n ≤ a))
        by (inl u) = inl u
        by (inr u) = inr (u, omega arith)
first_more P n (Some x) None r h p e = subst (λ z. FirstBelow P (n + 1) z) (sym e) (h.0, λ k a l m. go k a m (last_or_less a n l (ℕ_discrete a n)), let l : x.1 < n = h.2 in omega arith)
  where
    go : (k : Tag) (a : ℕ) → P a k → (a < n) ⊎ (a ≡ n) → Before x.0 k ⊎ ((x.0 ≡ k) × (x.1 ≤ a))
    go k a m (inl l) = h.1 k a l m
    go k a m (inr q) = absurd (p k (subst (λ z. P z k) q m))
first_more P n (Some x) (Some b) r h p (inl e) = subst (λ z. FirstBelow P (n + 1) z) (sym e.0) (h.0, λ k a l m. go k a m (last_or_less a n l (ℕ_discrete a n)), let l : x.1 < n = h.2 in omega arith)
  where
    go : (k : Tag) (a : ℕ) → P a k → (a < n) ⊎ (a ≡ n) → Before x.0 k ⊎ ((x.0 ≡ k) × (x.1 ≤ a))
    go k a m (inl l) = h.1 k a l m
    go k a m (inr q) = by (split_up x.0 k (UpTo-trans x.0 b k e.1 (p.1 k (subst (λ z. P z k) q m))))
      where
        by : Before x.0 k ⊎ (x.0 ≡ k) → Before x.0 k ⊎ ((x.0 ≡ k) × (x.1 ≤ a))
        by (inl u) = inl u
        by (inr u) = let l : x.1 < n = h.2 in inr (u, omega arith)
first_more P n (Some x) (Some b) r h p (inr e) = subst (λ z. FirstBelow P (n + 1) z) (sym e.0) (p.0, λ k a l m. go k a m (last_or_less a n l (ℕ_discrete a n)), omega arith)
  where
    go : (k : Tag) (a : ℕ) → P a k → (a < n) ⊎ (a ≡ n) → Before b k ⊎ ((b ≡ k) × (n ≤ a))
    go k a m (inl l) = inl (by (h.1 k a l m))
      where
        by : Before x.0 k ⊎ ((x.0 ≡ k) × (x.1 ≤ a)) → Before b k
        by (inl u) = Before-UpTo b x.0 k e.1 (Before-weaken x.0 k u)
        by (inr u) = subst (λ (z : Tag). Before b z) u.0 e.1
    go k a m (inr q) = by (split_up b k (p.1 k (subst (λ z. P z k) q m)))
      where
        by : Before b k ⊎ (b ≡ k) → Before b k ⊎ ((b ≡ k) × (n ≤ a))
        by (inl u) = inl u
        by (inr u) = inr (u, omega arith)

-- over all reactions, where one of a kind is one of them
pub first_all : (P : ℕ → Tag → Type 0) (n : ℕ) (o : Option (Tag × ℕ)) → ((r : ℕ) (g : Tag) → P r g → r < n) → FirstBelow P n o → LeastPair P o
first_all P n None below h = λ g r x. h g r (below r g x) x
first_all P n (Some x) below h = (h.0, λ k a m. h.1 k a (below a k m) m)

-- from the first tag on
pub missing_all : (cut : TraceParts) (o : Option (Tag × ℕ)) → IsFirstMissingFrom cut (record { time = 0; micro = 0 }) o → IsFirstMissing cut o
missing_all cut None h = λ g r x. h g r (x, from_first g)
missing_all cut (Some x) h = (h.0.0, λ g a m. h.1 g a (m, from_first g))

pub known_reaction : (cut : TraceParts) (g : Tag) (r n : ℕ) → n ≡ length cut.plan.program.reactions → Triggered cut.plan cut.rows g r → r < n
known_reaction cut g r n e x = let l : r < length cut.plan.program.reactions = slice_get_within cut.plan.program.reactions r x.reaction x.is_reaction in omega arith

-- where the trigger is at one tag
pub lacked_once : (cut : TraceParts) (x : Trigger) (low : Tag) (tags : List Tag) (tag : Tag) (o : Option Tag) → ((g : Tag) → Occurs cut.plan cut.rows g x → g ≡ tag) → ((g : Tag) → g ≡ tag → Occurs cut.plan cut.rows g x) → LeastTag (LacksAt cut low tags tag) o → LeastTag (LacksTriggerAt cut x low tags) o
lacked_once cut x low tags tag o to from h = least_as (LacksAt cut low tags tag) (LacksTriggerAt cut x low tags) o h (λ g m. record { occurs = from g m.same; in_time = m.in_time; not_there = m.not_there }) (λ g m. record { same = to g m.occurs; in_time = m.in_time; not_there = m.not_there })

pub lacked_startup : (cut : TraceParts) (x : Trigger) (low : Tag) (tags : List Tag) (o : Option Tag) → x ≡ Startup → LeastTag (LacksAt cut low tags (record { time = 0; micro = 0 })) o → LeastTag (LacksTriggerAt cut x low tags) o
lacked_startup cut x low tags o e h = subst (λ z. LeastTag (LacksTriggerAt cut z low tags) o) (sym e) (lacked_once cut Startup low tags (record { time = 0; micro = 0 }) o (λ g q. q) (λ g q. q) h)

pub lacked_shutdown : (cut : TraceParts) (x : Trigger) (low : Tag) (tags : List Tag) (last : Tag) (o : Option Tag) → x ≡ Shutdown → last ≡ stop cut.plan cut.rows → LeastTag (LacksAt cut low tags last) o → LeastTag (LacksTriggerAt cut x low tags) o
lacked_shutdown cut x low tags last o e s h = subst (λ z. LeastTag (LacksTriggerAt cut z low tags) o) (sym e) (lacked_once cut Shutdown low tags last o (λ g q. q ∙ sym s) (λ g q. q ∙ s) h)

pub lacked_timer : (cut : TraceParts) (x : Trigger) (low : Tag) (tags : List Tag) (n : ℕ) (timer : TimerOf) (o : Option Tag) → x ≡ Timer n → slice_get cut.plan.program.timers n ≡ Some timer → LeastTag (LacksFiring cut timer low tags) o → LeastTag (LacksTriggerAt cut x low tags) o
lacked_timer cut x low tags n timer o e t h = subst (λ z. LeastTag (LacksTriggerAt cut z low tags) o) (sym e) (least_as (LacksFiring cut timer low tags) (LacksTriggerAt cut (Timer n) low tags) o h (λ g m. record { occurs = (timer, t, m.fires); in_time = m.in_time; not_there = m.not_there }) from)
  where
    from : (g : Tag) → LacksTriggerAt cut (Timer n) low tags g → LacksFiring cut timer low tags g
    from g m = let y : Some m.occurs.0 ≡ Some timer = sym m.occurs.1 ∙ t in let z : m.occurs.0 ≡ timer = cc in record { fires = subst (λ (v : TimerOf). (k : ℕ) × (g ≡ record { time = v.offset + k * v.period; micro = 0 }) × (v.period ≡ 0 → k ≡ 0)) z m.occurs.2; in_time = m.in_time; not_there = m.not_there }

pub lacked_trigger_name : (cut : TraceParts) (x : Trigger) (n : Name) (low : Tag) (tags : List Tag) (o : Option Tag) → x ≡ On n → LeastTag (LacksTriggerAt cut (On n) low tags) o → LeastTag (LacksTriggerAt cut x low tags) o
lacked_trigger_name cut x n low tags o e h = subst (λ z. LeastTag (LacksTriggerAt cut z low tags) o) (sym e) h
