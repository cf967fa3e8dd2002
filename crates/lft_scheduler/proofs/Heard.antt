-- One event more in the queue: what it has then.
use Rattle.std.proofs.Common.{◌≡◌, ◌↔◌, inl, inr, List, refl, sym, ap, ◌∙◌, subst, Option, Some, None, IsSome, Bool, true, false, cond, ◌&&◌}
use Rattle.lft_tag.{specs.{declared.Tag.Tag, Tags.{Before, UpTo, same_tag}}, proofs.Order.{Before-trans, Before-irrefl, same_tag_refl, same_tag_true}}
use Rattle.lft_ir.{specs.{declared.{parts.{Value.Value, Name.Name}, steps.row.Row.Row}, Naming.same_name}, proofs.Naming.{name_same, name_self}}
use Rattle.lft_queue.specs.Pending.{Pending, value_of, same_key}
use Rattle.lft_model.{specs.{Plans.PlanParts, Presence.{At, ClashesAt}}, proofs.Steps.both_true}
use Rattle.lft_scheduler.specs.inner.Events.{IsEarlier, IsWanted, IsEventPut, IsWatchedName, HasEventsOf}

pub iff_trans : {A B C : Type 0} → A ↔ B → B ↔ C → A ↔ C
iff_trans f g = (λ a. g.0 (f.0 a), λ c. f.1 (g.1 c))

pub iff_sym : {A B : Type 0} → A ↔ B → B ↔ A
iff_sym f = (f.1, f.0)

-- what is earlier than an earlier tag
pub earlier_down : (clash : Option Tag) (h k : Tag) → IsEarlier clash h → Before k h → IsEarlier clash k
earlier_down None h k e b = tt
earlier_down (Some c) h k e b = Before-trans k h c b e

-- the events stay where each port and action has the events from its new rows that it had from its old ones
pub unheard : (plan : PlanParts) (seen now : Name → List Row) (from last : Tag) (clash : Option Tag) (q : List Pending) → ((n : Name) (k : Tag) (u : Value) → At plan (now n) k n u ↔ At plan (seen n) k n u) → ((n : Name) (k : Tag) → ClashesAt plan (now n) k n ↔ ClashesAt plan (seen n) k n) → HasEventsOf plan seen from last clash q → HasEventsOf plan now from last clash q
unheard plan seen now from last clash q ats clashes is = record {
  values = λ h n v w a b e. iff_trans (is.values h n v w a b e) (iff_sym (ats n h v));
  clean = λ h n b e c. is.clean h n b e ((clashes n h).0 c);
  found = λ c e. (let f = is.found c e in (f.0, f.1, (f.2.0, (clashes f.2.0 c).1 f.2.1)));
}

-- one event of one port or action, at h with the value v
module _ (plan : PlanParts) (seen now : Name → List Row) (from last : Tag) (clash found : Option Tag) (q0 q1 q2 : List Pending) (is : HasEventsOf plan seen from last clash q0) (n : Name) (h : Tag) (v : Value)
    (others : (m : Name) → same_name n m ≡ false → now m ≡ seen m)
    (old new : List Row) (old_is : seen n ≡ old) (new_is : now n ≡ new)
    (elsewhere_old : (k : Tag) (u : Value) → ¬ (k ≡ h) → At plan new k n u ↔ At plan old k n u)
    (clash_elsewhere_old : (k : Tag) → ¬ (k ≡ h) → ClashesAt plan new k n → ClashesAt plan old k n)
    (more_old : (k : Tag) → ClashesAt plan old k n → ClashesAt plan new k n)
    (taken : (k : Tag) (m : Name) → same_key h n k m ≡ false → value_of k m q1 ≡ value_of k m q0)
    (put : IsEventPut last clash h n v q1 q2 found)
    (fresh_old : IsWanted last clash h → value_of h n q1 ≡ None → ((u : Value) → At plan new h n u ↔ (u ≡ v)) × ¬ ClashesAt plan new h n)
    (twice_old : IsWanted last clash h → IsSome (value_of h n q1) → Before from h × ClashesAt plan new h n) where
  elsewhere : (k : Tag) (u : Value) → ¬ (k ≡ h) → At plan (now n) k n u ↔ At plan (seen n) k n u
  elsewhere k u d = subst (λ (t : List Row). At plan t k n u ↔ At plan (seen n) k n u) (sym new_is) (subst (λ (t : List Row). At plan new k n u ↔ At plan t k n u) (sym old_is) (elsewhere_old k u d))

  clash_elsewhere : (k : Tag) → ¬ (k ≡ h) → ClashesAt plan (now n) k n → ClashesAt plan (seen n) k n
  clash_elsewhere k d = subst (λ (t : List Row). ClashesAt plan t k n → ClashesAt plan (seen n) k n) (sym new_is) (subst (λ (t : List Row). ClashesAt plan new k n → ClashesAt plan t k n) (sym old_is) (clash_elsewhere_old k d))

  more : (k : Tag) → ClashesAt plan (seen n) k n → ClashesAt plan (now n) k n
  more k = subst (λ (t : List Row). ClashesAt plan (seen n) k n → ClashesAt plan t k n) (sym new_is) (subst (λ (t : List Row). ClashesAt plan t k n → ClashesAt plan new k n) (sym old_is) (more_old k))

  fresh : IsWanted last clash h → value_of h n q1 ≡ None → ((u : Value) → At plan (now n) h n u ↔ (u ≡ v)) × ¬ ClashesAt plan (now n) h n
  fresh = subst (λ (t : List Row). IsWanted last clash h → value_of h n q1 ≡ None → ((u : Value) → At plan t h n u ↔ (u ≡ v)) × ¬ ClashesAt plan t h n) (sym new_is) fresh_old

  twice : IsWanted last clash h → IsSome (value_of h n q1) → Before from h × ClashesAt plan (now n) h n
  twice = subst (λ (t : List Row). IsWanted last clash h → IsSome (value_of h n q1) → Before from h × ClashesAt plan t h n) (sym new_is) twice_old

  not_same : (k : Tag) → same_tag h k ≡ false → ¬ (k ≡ h)
  not_same k e q = let z : same_tag h k ≡ true = same_tag_refl h k (sym q) in absurd (cc)

  both : (a b : Bool) → a && b ≡ false → b ≡ true → a ≡ false
  both true b e q = absurd (cc)
  both false b e q = refl

  -- another port or action, or another tag
  at_other : (k : Tag) (m : Name) (u : Value) → same_key h n k m ≡ false → At plan (now m) k m u ↔ At plan (seen m) k m u
  at_other k m u e = go (same_name n m) refl
    where
      go : (b : Bool) → same_name n m ≡ b → At plan (now m) k m u ↔ At plan (seen m) k m u
      go true q = subst (λ (x : Name). At plan (now x) k x u ↔ At plan (seen x) k x u) (name_same n m q) (elsewhere k u (not_same k (both (same_tag h k) (same_name n m) e q)))
      go false q = let z : now m ≡ seen m = others m q in subst (λ (t : List Row). At plan t k m u ↔ At plan (seen m) k m u) (sym z) (λ x. x, λ x. x)

  clash_other : (k : Tag) (m : Name) → same_key h n k m ≡ false → ClashesAt plan (now m) k m → ClashesAt plan (seen m) k m
  clash_other k m e = go (same_name n m) refl
    where
      go : (b : Bool) → same_name n m ≡ b → ClashesAt plan (now m) k m → ClashesAt plan (seen m) k m
      go true q = subst (λ (x : Name). ClashesAt plan (now x) k x → ClashesAt plan (seen x) k x) (name_same n m q) (clash_elsewhere k (not_same k (both (same_tag h k) (same_name n m) e q)))
      go false q = subst (λ (t : List Row). ClashesAt plan t k m → ClashesAt plan (seen m) k m) (sym (others m q)) (λ x. x)

  clash_stays : (k : Tag) (m : Name) → ClashesAt plan (seen m) k m → ClashesAt plan (now m) k m
  clash_stays k m = go (same_name n m) refl
    where
      go : (b : Bool) → same_name n m ≡ b → ClashesAt plan (seen m) k m → ClashesAt plan (now m) k m
      go true q = subst (λ (x : Name). ClashesAt plan (seen x) k x → ClashesAt plan (now x) k x) (name_same n m q) (more k)
      go false q = subst (λ (t : List Row). ClashesAt plan (seen m) k m → ClashesAt plan t k m) (sym (others m q)) (λ x. x)

  -- what the queue has of it, and that its tag was wanted before
  queue_other : (k : Tag) (m : Name) → same_key h n k m ≡ false → IsEarlier found k → (value_of k m q2 ≡ value_of k m q0) × IsEarlier clash k
  queue_other k m e earlier = go put
    where
      go : IsEventPut last clash h n v q1 q2 found → (value_of k m q2 ≡ value_of k m q0) × IsEarlier clash k
      go (inl p) = (ap (λ (q : List Pending). value_of k m q) p.1 ∙ taken k m e, subst (λ (o : Option Tag). IsEarlier o k) p.2 earlier)
      go (inr (inl p)) = (p.2 k m ∙ ap (λ (b : Bool). cond b (Some v) (value_of k m q1)) e ∙ taken k m e, subst (λ (o : Option Tag). IsEarlier o k) p.3 earlier)
      go (inr (inr p)) = (ap (λ (q : List Pending). value_of k m q) p.2 ∙ taken k m e, earlier_down clash h k p.0.1 (subst (λ (o : Option Tag). IsEarlier o k) p.3 earlier))

  -- the event itself
  at_event : (u : Value) → UpTo h last → IsEarlier found h → (value_of h n q2 ≡ Some u) ↔ At plan (now n) h n u
  at_event u b earlier = go put
    where
      go : IsEventPut last clash h n v q1 q2 found → (value_of h n q2 ≡ Some u) ↔ At plan (now n) h n u
      go (inl p) = absurd (p.0 (b, subst (λ (o : Option Tag). IsEarlier o h) p.2 earlier))
      go (inr (inl p)) =
          let a : same_tag h h ≡ true = same_tag_refl h h refl in
          let c : same_name n n ≡ true = name_self n in
          let s : same_key h n h n ≡ true = rw (a, c) refl in
          let own : value_of h n q2 ≡ Some v = p.2 h n ∙ ap (λ (x : Bool). cond x (Some v) (value_of h n q1)) s in
          let f = (fresh p.0 p.1).0 u in
          (λ e. f.1 (let z : Some v ≡ Some u = sym own ∙ e in let y : u ≡ v = cc in y), λ a. own ∙ ap Some (sym (f.0 a)))
      go (inr (inr p)) = absurd (Before-irrefl h (subst (λ (o : Option Tag). IsEarlier o h) p.3 earlier))

  clean_event : UpTo h last → IsEarlier found h → ¬ ClashesAt plan (now n) h n
  clean_event b earlier = go put
    where
      go : IsEventPut last clash h n v q1 q2 found → ¬ ClashesAt plan (now n) h n
      go (inl p) = absurd (p.0 (b, subst (λ (o : Option Tag). IsEarlier o h) p.2 earlier))
      go (inr (inl p)) = (fresh p.0 p.1).1
      go (inr (inr p)) = absurd (Before-irrefl h (subst (λ (o : Option Tag). IsEarlier o h) p.3 earlier))

  pub heard : HasEventsOf plan now from last found q2
  heard = record { values = values; clean = clean; found = founds }
    where
      values : (k : Tag) (m : Name) (u : Value) → IsWatchedName plan.program m → UpTo from k → UpTo k last → IsEarlier found k → (value_of k m q2 ≡ Some u) ↔ At plan (now m) k m u
      values k m u w a b e = go (same_key h n k m) refl
        where
          go : (x : Bool) → same_key h n k m ≡ x → (value_of k m q2 ≡ Some u) ↔ At plan (now m) k m u
          go true q =
              let z = both_true (same_tag h k) (same_name n m) q in
              let same : (h ≡ k) = same_tag_true h k z.0 in
              subst (λ (y : Name). (value_of k y q2 ≡ Some u) ↔ At plan (now y) k y u) (name_same n m z.1) (subst (λ (g : Tag). (value_of g n q2 ≡ Some u) ↔ At plan (now n) g n u) same (at_event u (subst (λ (g : Tag). UpTo g last) (sym same) b) (subst (λ (g : Tag). IsEarlier found g) (sym same) e)))
          go false q =
              let o = queue_other k m q e in
              subst (λ (y : Option Value). (y ≡ Some u) ↔ At plan (now m) k m u) (sym o.0) (iff_trans (is.values k m u w a b o.1) (iff_sym (at_other k m u q)))

      clean : (k : Tag) (m : Name) → UpTo k last → IsEarlier found k → ¬ ClashesAt plan (now m) k m
      clean k m b e = go (same_key h n k m) refl
        where
          go : (x : Bool) → same_key h n k m ≡ x → ¬ ClashesAt plan (now m) k m
          go true q =
              let z = both_true (same_tag h k) (same_name n m) q in
              let same : (h ≡ k) = same_tag_true h k z.0 in
              subst (λ (y : Name). ¬ ClashesAt plan (now y) k y) (name_same n m z.1) (subst (λ (g : Tag). ¬ ClashesAt plan (now n) g n) same (clean_event (subst (λ (g : Tag). UpTo g last) (sym same) b) (subst (λ (g : Tag). IsEarlier found g) (sym same) e)))
          go false q = λ c. is.clean k m b (queue_other k m q e).1 (clash_other k m q c)

      founds : (c : Tag) → found ≡ Some c → Before from c × UpTo c last × ((m : Name) × ClashesAt plan (now m) c m)
      founds c e = go put
        where
          before : found ≡ clash → Before from c × UpTo c last × ((m : Name) × ClashesAt plan (now m) c m)
          before s = let f = is.found c (sym s ∙ e) in (f.0, f.1, (f.2.0, clash_stays c f.2.0 f.2.1))

          go : IsEventPut last clash h n v q1 q2 found → Before from c × UpTo c last × ((m : Name) × ClashesAt plan (now m) c m)
          go (inl p) = before p.2
          go (inr (inl p)) = before p.3
          go (inr (inr p)) =
              let z : Some h ≡ Some c = sym p.3 ∙ e in
              let same : h ≡ c = cc in
              let t = twice p.0 p.1 in
              subst (λ (g : Tag). Before from g × UpTo g last × ((m : Name) × ClashesAt plan (now m) g m)) same (t.0, p.0.0, (n, t.1))
