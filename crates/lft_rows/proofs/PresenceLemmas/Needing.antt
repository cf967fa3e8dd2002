-- Triggers that stand for the others of a reaction.
use Rattle.std.proofs.Common.{◌≡◌, ℕ, ◌+◌, ◌-◌, ◌*◌, ◌/◌, ◌%◌, ◌<◌, ◌≤◌, ◌⊎◌, inl, inr, List, ◌∷◌, [], ◌++◌, length, refl, sym, ap, ◌∙◌, subst, arith, Option, Some, slice_get}
use Rattle.std.{specs.List.Sorted.IsPermutation, proofs.lemmas.{List.Sorted.{IsPermutation-sym, Contains-permutation}, Nat.{div-add-mod', mod-mul-add}}}
use native.Mathlib.Decide.{ℕ_discrete}
use Rattle.lft_tag.{specs.declared.Tag.Tag, proofs.Chains.tag_of}
use Rattle.lft_ir.specs.{Parts.Parts, Sound.{IsSound, IsTriggerOf}, declared.parts.{Timer.Timer as TimerOf, Trigger.{Trigger, TheVariants.Timer}}}
use Rattle.lft_lists.proofs.Places.{contains_at, at_contains, get_push, get_last, get_push_cases, same_some, same_at}
use Rattle.lft_model.{specs.Presence.{Fires, Occurs, Triggered}, proofs.{Firings.{firing, time_of}, Places.slice_get_within}}
use Rattle.lft_rows.specs.{Presence.Traces.TraceParts, declared.presence.needed.Beat.Beat}
use Rattle.lft_rows.specs.inner.Presence.Needed.{Covers, StandsFor, AreNeeded, AreNeededOf, IsMultiple, IsBeatOf, InStep, IsMade, AreAdded}
use Rattle.lft_rows.proofs.PresenceLemmas.Leasts.{trigger_of, triggered_by}

-- what stands for a trigger is present wherever that one is
pub stands_occurs : (cut : TraceParts) (g : Tag) (y x : Trigger) → StandsFor cut.plan.program y x → Occurs cut.plan cut.rows g x → Occurs cut.plan cut.rows g y
stands_occurs cut g y x (inl e) o = subst (λ z. Occurs cut.plan cut.rows g z) (sym e) o
stands_occurs cut g y x (inr (m, n, e, f, c)) o = subst (λ z. Occurs cut.plan cut.rows g z) (sym e) (covered (subst (λ z. Occurs cut.plan cut.rows g z) f o))
  where
    covered : Occurs cut.plan cut.rows g (Timer n) → Occurs cut.plan cut.rows g (Timer m)
    covered p =
        let q : p.0 ≡ c.second = same_some (slice_get cut.plan.program.timers n) p.0 c.second p.1 c.is_second in
        (c.first, c.is_first, c.fires g (subst (λ (v : TimerOf). Fires v g) q p.2))

-- all triggers stand for themselves
pub needed_all : (program : Parts) (xs : List Trigger) → AreNeeded program xs xs
needed_all program xs = record { only = λ k y e. (k, e); each = λ j x e. (j, x, e, inl refl) }

-- a trigger that is needed is of the program
pub needed_known : (program : Parts) → IsSound program → (r k : ℕ) (ys : List Trigger) (y : Trigger) → AreNeededOf program r ys → slice_get ys k ≡ Some y → IsTriggerOf program y
needed_known program sound r k ys y h e = let j = h.2.only k y e in trigger_of program sound r h.0 h.0.triggers j.0 y h.1 refl j.1

-- where it is present, its reaction is triggered
pub needed_triggers : (cut : TraceParts) (g : Tag) (r k : ℕ) (ys : List Trigger) (y : Trigger) → AreNeededOf cut.plan.program r ys → slice_get ys k ≡ Some y → Occurs cut.plan cut.rows g y → Triggered cut.plan cut.rows g r
needed_triggers cut g r k ys y h e o = let j = h.2.only k y e in triggered_by cut g r h.0 h.0.triggers j.0 y h.1 refl j.1 o

-- of two beats in step the first makes all firings of the second
in_step_covers : (program : Parts) (a b : Beat) → IsBeatOf program a → IsBeatOf program b → InStep a b → Covers program a.number b.number
in_step_covers program a b p q s = record { first = p.timer; second = q.timer; is_first = p.is_timer; is_second = q.is_timer; fires = λ g f. fires g f }
  where
    period : q.timer.period ≡ p.timer.period
    period = sym q.period ∙ sym s.same ∙ p.period

    time : (k : ℕ) → q.timer.offset + k * q.timer.period ≡ p.timer.offset + (s.count + k) * p.timer.period
    time k =
        let a1 : a.offset ≡ p.timer.offset = p.offset in
        let a2 : b.offset ≡ q.timer.offset = q.offset in
        let a3 : b.offset ≡ a.offset + s.count * a.period = s.later in
        let a4 : s.count * a.period ≡ s.count * p.timer.period = ap (λ z. s.count * z) p.period in
        let a5 : k * q.timer.period ≡ k * p.timer.period = ap (λ z. k * z) period in
        let a6 : (s.count + k) * p.timer.period ≡ s.count * p.timer.period + k * p.timer.period = grind arith in
        omega arith

    fires : (g : Tag) → Fires q.timer g → Fires p.timer g
    fires g f =
        let t = time_of g (firing q.timer f.0) f.1 in
        (s.count + f.0, tag_of (t.0 ∙ time f.0) t.1, λ z. once f z)
      where
        once : (f : Fires q.timer g) → p.timer.period ≡ 0 → s.count + f.0 ≡ 0
        once f z =
            let c : s.count ≡ 0 = s.once (p.period ∙ z) in
            let k : f.0 ≡ 0 = f.2 (period ∙ z) in
            omega arith

-- whole numbers of periods
pub multiple_once : (time period : ℕ) → period ≡ 0 → time ≡ 0 → IsMultiple time period
multiple_once time period p e = (0, omega arith, λ z. refl)

pub multiple_of : (time period : ℕ) → ¬ (period ≡ 0) → time % period ≡ 0 → IsMultiple time period
multiple_of time period n e =
    let split : time / period * period + time % period ≡ time = div-add-mod' time period in
    (time / period, omega arith, λ z. absurd (n z))

pub multiple_zero : (time period : ℕ) → IsMultiple time period → period ≡ 0 → time ≡ 0
multiple_zero time period (n, e, once) p = let z : n * period ≡ 0 * period = ap (λ k. k * period) (once p) in omega arith

pub multiple_rest : (time period : ℕ) → IsMultiple time period → ¬ (period ≡ 0) → time % period ≡ 0
multiple_rest time period (n, e, once) p = let z : time ≡ n * period + 0 = omega arith in ap (λ t. t % period) z ∙ mod-mul-add n period 0 (omega arith)

pub in_step : (a b : Beat) → a.period ≡ b.period → a.offset ≤ b.offset → IsMultiple (b.offset - a.offset) b.period → InStep a b
in_step a b e l (n, q, once) =
    let same : n * b.period ≡ n * a.period = ap (λ k. n * k) (sym e) in
    let gap : b.offset - a.offset ≡ n * b.period = q in
    record { same = e; count = n; later = omega arith; once = λ z. once (sym e ∙ z) }

-- the triggers before place k are parted into timers, as beats, and others
pub record AreParted (program : Parts) (xs : List Trigger) (k : ℕ) (beats : List Beat) (ys : List Trigger) : Type 0 where
  pub is_beat : (i : ℕ) (b : Beat) → slice_get beats i ≡ Some b → ((j : ℕ) × (slice_get xs j ≡ Some (Timer b.number))) × IsBeatOf program b
  pub only : (i : ℕ) (y : Trigger) → slice_get ys i ≡ Some y → (j : ℕ) × (slice_get xs j ≡ Some y)
  pub each : (j : ℕ) (x : Trigger) → j < k → slice_get xs j ≡ Some x → ((i : ℕ) × (slice_get ys i ≡ Some x)) ⊎ ((i : ℕ) × (b : Beat) × (slice_get beats i ≡ Some b) × (x ≡ Timer b.number))

module _ (program : Parts) (xs : List Trigger) (k : ℕ) (beats : List Beat) (ys : List Trigger) (h : AreParted program xs k beats ys) (x : Trigger) (is_x : slice_get xs k ≡ Some x) where
  pub parted_timer : (b : Beat) → x ≡ Timer b.number → IsBeatOf program b → AreParted program xs (k + 1) (beats ++ b ∷ []) ys
  parted_timer b e is = record { is_beat = λ i c f. is_beat i c (get_push_cases beats b i c f); only = h.only; each = λ j y l f. each j y l f (ℕ_discrete j k) }
    where
      is_beat : (i : ℕ) (c : Beat) → (slice_get beats i ≡ Some c) ⊎ ((i ≡ length beats) × (b ≡ c)) → ((j : ℕ) × (slice_get xs j ≡ Some (Timer c.number))) × IsBeatOf program c
      is_beat i c (inl f) = h.is_beat i c f
      is_beat i c (inr f) = subst (λ (z : Beat). ((j : ℕ) × (slice_get xs j ≡ Some (Timer z.number))) × IsBeatOf program z) f.1 ((k, is_x ∙ ap Some e), is)

      each : (j : ℕ) (y : Trigger) → j < k + 1 → slice_get xs j ≡ Some y → Dec (j ≡ k) → ((i : ℕ) × (slice_get ys i ≡ Some y)) ⊎ ((i : ℕ) × (c : Beat) × (slice_get (beats ++ b ∷ []) i ≡ Some c) × (y ≡ Timer c.number))
      each j y l f (yes d) = inr (length beats, b, get_last beats b, same_at xs j k y x f is_x d ∙ e)
      each j y l f (no n) = go (h.each j y (omega arith) f)
        where
          go : ((i : ℕ) × (slice_get ys i ≡ Some y)) ⊎ ((i : ℕ) × (c : Beat) × (slice_get beats i ≡ Some c) × (y ≡ Timer c.number)) → ((i : ℕ) × (slice_get ys i ≡ Some y)) ⊎ ((i : ℕ) × (c : Beat) × (slice_get (beats ++ b ∷ []) i ≡ Some c) × (y ≡ Timer c.number))
          go (inl z) = inl z
          go (inr (i, c, z, q)) = inr (i, c, get_push beats b i c z, q)

  pub parted_other : AreParted program xs (k + 1) beats (ys ++ x ∷ [])
  parted_other = record { is_beat = h.is_beat; only = λ i y f. only i y (get_push_cases ys x i y f); each = λ j y l f. each j y l f (ℕ_discrete j k) }
    where
      only : (i : ℕ) (y : Trigger) → (slice_get ys i ≡ Some y) ⊎ ((i ≡ length ys) × (x ≡ y)) → (j : ℕ) × (slice_get xs j ≡ Some y)
      only i y (inl f) = h.only i y f
      only i y (inr f) = (k, is_x ∙ ap Some f.1)

      each : (j : ℕ) (y : Trigger) → j < k + 1 → slice_get xs j ≡ Some y → Dec (j ≡ k) → ((i : ℕ) × (slice_get (ys ++ x ∷ []) i ≡ Some y)) ⊎ ((i : ℕ) × (c : Beat) × (slice_get beats i ≡ Some c) × (y ≡ Timer c.number))
      each j y l f (yes d) = inl (length ys, get_last ys x ∙ ap Some (sym (same_at xs j k y x f is_x d)))
      each j y l f (no n) = go (h.each j y (omega arith) f)
        where
          go : ((i : ℕ) × (slice_get ys i ≡ Some y)) ⊎ ((i : ℕ) × (c : Beat) × (slice_get beats i ≡ Some c) × (y ≡ Timer c.number)) → ((i : ℕ) × (slice_get (ys ++ x ∷ []) i ≡ Some y)) ⊎ ((i : ℕ) × (c : Beat) × (slice_get beats i ≡ Some c) × (y ≡ Timer c.number))
          go (inl (i, z)) = inl (i, get_push ys x i y z)
          go (inr z) = inr z

-- the beats in another order
parted_sorted : (program : Parts) (xs : List Trigger) (k : ℕ) (beats sorted : List Beat) (ys : List Trigger) → IsPermutation beats sorted → AreParted program xs k beats ys → AreParted program xs k sorted ys
parted_sorted program xs k beats sorted ys moves h = record { is_beat = λ i b e. let j = from i b e in h.is_beat j.0 b j.1; only = h.only; each = λ j x l e. go x (h.each j x l e) }
  where
    from : (i : ℕ) (b : Beat) → slice_get sorted i ≡ Some b → (j : ℕ) × (slice_get beats j ≡ Some b)
    from i b e = at_contains beats b (Contains-permutation sorted beats b (IsPermutation-sym beats sorted moves) (contains_at sorted i b e))

    to : (i : ℕ) (b : Beat) → slice_get beats i ≡ Some b → (j : ℕ) × (slice_get sorted j ≡ Some b)
    to i b e = at_contains sorted b (Contains-permutation beats sorted b moves (contains_at beats i b e))

    go : (x : Trigger) → ((i : ℕ) × (slice_get ys i ≡ Some x)) ⊎ ((i : ℕ) × (b : Beat) × (slice_get beats i ≡ Some b) × (x ≡ Timer b.number)) → ((i : ℕ) × (slice_get ys i ≡ Some x)) ⊎ ((i : ℕ) × (b : Beat) × (slice_get sorted i ≡ Some b) × (x ≡ Timer b.number))
    go x (inl z) = inl z
    go x (inr (i, b, z, q)) = let j = to i b z in inr (j.0, b, j.1, q)

-- the beat that was added last
abbrev pub IsLast : List Beat → List Trigger → Option Beat → Type 0
IsLast beats ys last = (c : Beat) → last ≡ Some c → ((j : ℕ) × (slice_get beats j ≡ Some c)) × ((i : ℕ) × (slice_get ys i ≡ Some (Timer c.number)))

made_on : (beats : List Beat) (ys : List Trigger) (y : Trigger) (b : Beat) → IsMade beats ys b → IsMade beats (ys ++ y ∷ []) b
made_on beats ys y b h = record { place = h.place; first = h.first; is_first = h.is_first; there = (h.there.0, get_push ys y h.there.0 (Timer h.first.number) h.there.1); in_step = h.in_step }

module _ (beats : List Beat) (k : ℕ) (old new : List Trigger) (h : AreAdded beats k old new) (b : Beat) (is_b : slice_get beats k ≡ Some b) where
  pub added_stays : (last : Option Beat) → IsLast beats new last → (first : Beat) × (last ≡ Some first) × InStep first b → AreAdded beats (k + 1) old new
  added_stays last is (first, e, s) = record { kept = h.kept; only = h.only; each = λ j c l f. each j c l f (ℕ_discrete j k) }
    where
      each : (j : ℕ) (c : Beat) → j < k + 1 → slice_get beats j ≡ Some c → Dec (j ≡ k) → IsMade beats new c
      each j c l f (yes d) = subst (λ (z : Beat). IsMade beats new z) (same_at beats k j b c is_b f (sym d)) (record { place = (is first e).0.0; first = first; is_first = (is first e).0.1; there = (is first e).1; in_step = s })
      each j c l f (no n) = h.each j c (omega arith) f

  pub added_more : AreAdded beats (k + 1) old (new ++ Timer b.number ∷ [])
  added_more = record { kept = λ i y e. get_push new (Timer b.number) i y (h.kept i y e); only = λ i y e. only i y (get_push_cases new (Timer b.number) i y e); each = λ j c l f. each j c l f (ℕ_discrete j k) }
    where
      only : (i : ℕ) (y : Trigger) → (slice_get new i ≡ Some y) ⊎ ((i ≡ length new) × (Timer b.number ≡ y)) → (slice_get old i ≡ Some y) ⊎ ((j : ℕ) × (c : Beat) × (slice_get beats j ≡ Some c) × (y ≡ Timer c.number))
      only i y (inl e) = h.only i y e
      only i y (inr e) = inr (k, b, is_b, sym e.1)

      itself : IsMade beats (new ++ Timer b.number ∷ []) b
      itself = record { place = k; first = b; is_first = is_b; there = (length new, get_last new (Timer b.number)); in_step = record { same = refl; count = 0; later = omega arith; once = λ z. refl } }

      each : (j : ℕ) (c : Beat) → j < k + 1 → slice_get beats j ≡ Some c → Dec (j ≡ k) → IsMade beats (new ++ Timer b.number ∷ []) c
      each j c l f (yes d) = subst (λ (z : Beat). IsMade beats (new ++ Timer b.number ∷ []) z) (same_at beats k j b c is_b f (sym d)) itself
      each j c l f (no n) = made_on beats new (Timer b.number) c (h.each j c (omega arith) f)

  pub last_more : IsLast beats (new ++ Timer b.number ∷ []) (Some b)
  last_more c e = let q : b ≡ c = cc in subst (λ (z : Beat). ((j : ℕ) × (slice_get beats j ≡ Some z)) × ((i : ℕ) × (slice_get (new ++ Timer b.number ∷ []) i ≡ Some (Timer z.number)))) q ((k, is_b), (length new, get_last new (Timer b.number)))

-- others and timers together
pub needed_of : (program : Parts) (xs : List Trigger) (k : ℕ) (beats sorted : List Beat) (ys new : List Trigger) → length xs ≤ k → AreParted program xs k beats ys → IsPermutation beats sorted → AreAdded sorted (length sorted) ys new → AreNeeded program xs new
needed_of program xs k beats sorted ys new l parts moves added = record { only = λ i y e. only i y (added.only i y e); each = λ j x e. each j x e (h.each j x (let w : j < length xs = slice_get_within xs j x e in omega arith) e) }
  where
    h : AreParted program xs k sorted ys
    h = parted_sorted program xs k beats sorted ys moves parts

    only : (i : ℕ) (y : Trigger) → (slice_get ys i ≡ Some y) ⊎ ((j : ℕ) × (b : Beat) × (slice_get sorted j ≡ Some b) × (y ≡ Timer b.number)) → (j : ℕ) × (slice_get xs j ≡ Some y)
    only i y (inl e) = h.only i y e
    only i y (inr (j, b, e, q)) = let a = (h.is_beat j b e).0 in (a.0, a.1 ∙ ap Some (sym q))

    each : (j : ℕ) (x : Trigger) → slice_get xs j ≡ Some x → ((i : ℕ) × (slice_get ys i ≡ Some x)) ⊎ ((i : ℕ) × (b : Beat) × (slice_get sorted i ≡ Some b) × (x ≡ Timer b.number)) → (i : ℕ) × (y : Trigger) × (slice_get new i ≡ Some y) × StandsFor program y x
    each j x e (inl (i, f)) = (i, x, added.kept i x f, inl refl)
    each j x e (inr (i, b, f, q)) =
        let made = added.each i b (slice_get_within sorted i b f) f in
        (made.there.0, Timer made.first.number, made.there.1, inr (made.first.number, b.number, refl, q, in_step_covers program made.first b (h.is_beat made.place made.first made.is_first).1 (h.is_beat i b f).1 made.in_step))
