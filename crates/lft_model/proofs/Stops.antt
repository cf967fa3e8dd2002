-- The stop tag of some rows: the external one, or the least that a stop row asks for.
use Rattle.std.proofs.Common.{◌≡◌, ◌≢◌, ◌⊎◌, inl, inr, List, [], ◌∷◌, ◌++◌, refl, sym, ap, ◌∙◌, subst, Some, Contains}
use Rattle.std.proofs.lemmas.List.Elements.{filter_map-append}
use Rattle.lft_tag.{specs.{declared.Tag.Tag, Tags.{UpTo, after, earlier, earliest}}, proofs.Order.{UpTo-refl, UpTo-trans, UpTo_antisym, earlier_cases}}
use Rattle.lft_lists.proofs.Members.{Mem, mem_left, mem_cases, mem_filter, mem_from_filter, nil_of_none, mem_contains}
use Rattle.lft_ir.specs.declared.steps.row.{Row.Row, Step.{Step, TheVariants.{Start, Read, Write, Schedule, Stop, End}}}
use Rattle.lft_model.specs.{Plans.PlanParts, Presence.{asked, requests, stop}, Breaches.{LegalUntil, FirstUntil, NoRequestLaw}}

earliest_first : (g : Tag) (hs : List Tag) → UpTo (earliest g hs) g
earliest_first g [] = UpTo-refl g
earliest_first g (h ∷ hs) = go (earlier_cases h (earliest g hs)) (earliest_first g hs)
  where
    go : ((earlier h (earliest g hs) ≡ h) × UpTo h (earliest g hs)) ⊎ ((earlier h (earliest g hs) ≡ earliest g hs) × UpTo (earliest g hs) h) → UpTo (earliest g hs) g → UpTo (earlier h (earliest g hs)) g
    go (inl p) u = subst (λ (k : Tag). UpTo k g) (sym p.0) (UpTo-trans h (earliest g hs) g p.1 u)
    go (inr p) u = subst (λ (k : Tag). UpTo k g) (sym p.0) u

earliest_mem : (g : Tag) (hs : List Tag) (k : Tag) → Mem k hs → UpTo (earliest g hs) k
earliest_mem g [] k m = absurd m
earliest_mem g (h ∷ hs) k m = go (earlier_cases h (earliest g hs)) m (λ n. earliest_mem g hs k n)
  where
    go : ((earlier h (earliest g hs) ≡ h) × UpTo h (earliest g hs)) ⊎ ((earlier h (earliest g hs) ≡ earliest g hs) × UpTo (earliest g hs) h) → (h ≡ k) ⊎ Mem k hs → (Mem k hs → UpTo (earliest g hs) k) → UpTo (earlier h (earliest g hs)) k
    go (inl p) (inl e) rest = subst (λ (j : Tag). UpTo j k) (sym p.0) (subst (λ (j : Tag). UpTo h j) e (UpTo-refl h))
    go (inl p) (inr n) rest = subst (λ (j : Tag). UpTo j k) (sym p.0) (UpTo-trans h (earliest g hs) k p.1 (rest n))
    go (inr p) (inl e) rest = subst (λ (j : Tag). UpTo j k) (sym p.0) (subst (λ (j : Tag). UpTo (earliest g hs) j) e p.1)
    go (inr p) (inr n) rest = subst (λ (j : Tag). UpTo j k) (sym p.0) (rest n)

earliest_cases : (g : Tag) (hs : List Tag) → (earliest g hs ≡ g) ⊎ Mem (earliest g hs) hs
earliest_cases g [] = inl refl
earliest_cases g (h ∷ hs) = go (earlier_cases h (earliest g hs)) (earliest_cases g hs)
  where
    go : ((earlier h (earliest g hs) ≡ h) × UpTo h (earliest g hs)) ⊎ ((earlier h (earliest g hs) ≡ earliest g hs) × UpTo (earliest g hs) h) → (earliest g hs ≡ g) ⊎ Mem (earliest g hs) hs → (earlier h (earliest g hs) ≡ g) ⊎ Mem (earlier h (earliest g hs)) (h ∷ hs)
    go (inl p) r = inr (inl (sym p.0))
    go (inr p) (inl e) = inl (p.0 ∙ e)
    go (inr p) (inr m) = inr (inr (subst (λ (k : Tag). Mem k hs) (sym p.0) m))

pub asked_some : (g : Tag) (s : Step) (h : Tag) → asked g s ≡ Some h → (s ≡ Stop) × (after g 0 ≡ h)
asked_some g Start h e = absurd (cc)
asked_some g (Read n v) h e = absurd (cc)
asked_some g (Write n v) h e = absurd (cc)
asked_some g (Schedule n v d) h e = absurd (cc)
asked_some g Stop h e = (refl, cc)
asked_some g End h e = absurd (cc)

-- the stop rows and what they ask for
pub ask : (t : List Row) (x : Row) → Mem x t → x.step ≡ Stop → Mem (after x.tag 0) (requests t)
ask t x m e = mem_filter (λ (row : Row). asked row.tag row.step) x (after x.tag 0) t m (ap (λ (s : Step). asked x.tag s) e)

pub asker : (t : List Row) (h : Tag) → Mem h (requests t) → (x : Row) × Mem x t × (x.step ≡ Stop) × (after x.tag 0 ≡ h)
asker t h m =
    let r = mem_from_filter (λ (row : Row). asked row.tag row.step) t h m in
    let p = asked_some r.0.tag r.0.step h r.2 in
    (r.0, r.1, p.0, p.1)

module _ (plan : PlanParts) where
  pub stop_external : (t : List Row) → UpTo (stop plan t) plan.externals.stop
  stop_external t = earliest_first plan.externals.stop (requests t)

  pub stop_asked : (t : List Row) (h : Tag) → Mem h (requests t) → UpTo (stop plan t) h
  stop_asked t h m = earliest_mem plan.externals.stop (requests t) h m

  pub stop_cases : (t : List Row) → (stop plan t ≡ plan.externals.stop) ⊎ Mem (stop plan t) (requests t)
  stop_cases t = earliest_cases plan.externals.stop (requests t)

  -- more requests make no later stop
  pub stop_more : (s t : List Row) → ((h : Tag) → Mem h (requests s) → Mem h (requests t)) → UpTo (stop plan t) (stop plan s)
  stop_more s t more = go (stop_cases s)
    where
      go : (stop plan s ≡ plan.externals.stop) ⊎ Mem (stop plan s) (requests s) → UpTo (stop plan t) (stop plan s)
      go (inl e) = subst (λ (k : Tag). UpTo (stop plan t) k) (sym e) (stop_external t)
      go (inr m) = stop_asked t (stop plan s) (more (stop plan s) m)

  requests_append : (s t : List Row) → requests (s ++ t) ≡ requests s ++ requests t
  requests_append s t = filter_map-append (λ (row : Row). asked row.tag row.step) s t

  pub stop_append : (s t : List Row) → UpTo (stop plan (s ++ t)) (stop plan s)
  stop_append s t = stop_more s (s ++ t) (λ h m. subst (λ (hs : List Tag). Mem h hs) (sym (requests_append s t)) (mem_left h (requests s) (requests t) m))

  -- rows that are added keep the stop or ask for it
  pub stop_added : (s t : List Row) → (stop plan (s ++ t) ≡ stop plan s) ⊎ Mem (stop plan (s ++ t)) (requests t)
  stop_added s t = go (stop_cases (s ++ t))
    where
      same : UpTo (stop plan s) (stop plan (s ++ t)) → stop plan (s ++ t) ≡ stop plan s
      same u = UpTo_antisym (stop plan (s ++ t)) (stop plan s) (stop_append s t) u

      split : Mem (stop plan (s ++ t)) (requests s) ⊎ Mem (stop plan (s ++ t)) (requests t) → (stop plan (s ++ t) ≡ stop plan s) ⊎ Mem (stop plan (s ++ t)) (requests t)
      split (inl m) = inl (same (stop_asked s (stop plan (s ++ t)) m))
      split (inr m) = inr m

      go : (stop plan (s ++ t) ≡ plan.externals.stop) ⊎ Mem (stop plan (s ++ t)) (requests (s ++ t)) → (stop plan (s ++ t) ≡ stop plan s) ⊎ Mem (stop plan (s ++ t)) (requests t)
      go (inl e) = inl (same (subst (λ (k : Tag). UpTo (stop plan s) k) (sym e) (stop_external s)))
      go (inr m) = split (mem_cases (stop plan (s ++ t)) (requests s) (requests t) (subst (λ (hs : List Tag). Mem (stop plan (s ++ t)) hs) (requests_append s t) m))

  -- without a stop row the stop is the external one
  pub stop_unasked : (t : List Row) → ((x : Row) → Contains t x → x.step ≢ Stop) → stop plan t ≡ plan.externals.stop
  stop_unasked t none = ap (λ (hs : List Tag). earliest plan.externals.stop hs) (nil_of_none (requests t) (λ h m. let a = asker t h m in none a.0 (mem_contains a.0 t a.1) a.2))

  pub no_request : NoRequestLaw plan
  no_request t none =
      let e : stop plan t ≡ plan.externals.stop = stop_unasked t none in (
        (λ l. subst (λ (k : Tag). LegalUntil k plan t) e l, λ l. subst (λ (k : Tag). LegalUntil k plan t) (sym e) l),
        λ b. (λ f. subst (λ (k : Tag). FirstUntil k plan t b) e f, λ f. subst (λ (k : Tag). FirstUntil k plan t b) (sym e) f),
      )
