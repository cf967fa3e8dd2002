-- Facts that are put behind others.
use Rattle.std.proofs.Common.{◌≡◌, ◌⊎◌, inl, inr, ℕ, Contains, filter_map, List, [], ◌∷◌, ◌++◌, append-nil, append_assoc, length, ◌+◌, ◌<◌, ◌≤◌, arith, refl, Some, slice_get, sym, ap, ◌∙◌, subst, Option}
use Rattle.std.proofs.lemmas.List.Elements.{All-nil, All-cons, All-push, All-append, All-weaker, All-contains, All-contains_itself, Contains-append_cases, Contains-append_left, Contains-append_right}
use native.Mathlib.Decide.{ℕ_discrete}
use Rattle.lft_lists.proofs.Places.{contains_at, at_contains, same_at}
use Rattle.lft_model.{proofs.Places.slice_get_within, specs.{declared.breach.Breach.Breach, Plans.PlanParts}}
use Rattle.lft_tag.specs.declared.Tag.{Tag}
use Rattle.lft_ir.specs.{Parts.inputs, Naming.named, Sound.{IsSound, IsNameOf, IsTriggerOf}}
use Rattle.lft_ir.specs.declared.{parts.{Name.Name, Value.Value, Trigger.{Trigger, TheVariants.On}}, steps.row.Row.Row}
use Rattle.lft_graph.proofs.Feeding.{to_trigger}
use Rattle.lft_facts.specs.{declared.facts.Fact.Fact, Facts.{IsFact, IsShown, AreFacts, AreShown, IsRead, IsUntriggered}, inner.Enough.{Adds, Extends, Gives}}
use Rattle.lft_facts.specs.Enough.{ProvesTag, ProvesRow, IsOwn, AreOwn}
use Rattle.lft_facts.proofs.Lists.{all_left}

module _ {b : Breach} (plan : PlanParts) (t : List Row) where
  pub adds_none : (facts : List Fact) → Adds b plan t facts facts
  adds_none facts = record { more = []; is = sym (append-nil facts); holds = All-nil (IsFact plan t); own = All-nil (IsOwn b) }

  pub adds_one : (facts new : List Fact) (f : Fact) → new ≡ facts ++ f ∷ [] → IsFact plan t f → IsOwn b f → Adds b plan t facts new
  adds_one facts new f e holds own = record { more = f ∷ []; is = e; holds = All-cons (IsFact plan t) f [] holds (All-nil (IsFact plan t)); own = All-cons (IsOwn b) f [] own (All-nil (IsOwn b)) }

  pub adds_both : (first second third : List Fact) → Adds b plan t first second → Adds b plan t second third → Adds b plan t first third
  adds_both first second third x y = record { more = x.more ++ y.more; is = y.is ∙ ap (λ fs. fs ++ y.more) x.is ∙ append_assoc first x.more y.more; holds = All-append (IsFact plan t) x.more y.more x.holds y.holds; own = All-append (IsOwn b) x.more y.more x.own y.own }

  -- more facts hold and give as much
  pub adds_holds : (old new : List Fact) → Adds b plan t old new → AreFacts plan t old → AreFacts plan t new
  adds_holds old new a all = subst (λ (fs : List Fact). AreFacts plan t fs) (sym a.is) (All-append (IsFact plan t) old a.more all a.holds)

  -- more facts are of the breach
  pub adds_own : (old new : List Fact) → Adds b plan t old new → AreOwn b old → AreOwn b new
  adds_own old new a all = subst (λ (fs : List Fact). AreOwn b fs) (sym a.is) (All-append (IsOwn b) old a.more all a.own)

-- more facts give the same breach
pub adds_row : (plan : PlanParts) (t : List Row) (old new : List Fact) (b : Breach) → Adds b plan t old new → ProvesRow old b → ProvesRow new b
adds_row plan t old new b a gives other s all = gives other s (all_left (IsShown other s) old a.more (subst (λ (fs : List Fact). AreShown other s fs) a.is all))

pub adds_gives : {b : Breach} (plan : PlanParts) (t : List Row) (old new : List Fact) (g : Tag) (o : Option ℕ) (k : ℕ) → Adds b plan t old new → Gives old g o k → Gives new g o k
adds_gives plan t old new g o k a gives other s all = gives other s (all_left (IsShown other s) old a.more (subst (λ (fs : List Fact). AreShown other s fs) a.is all))

-- facts so far, among them the first of some others
pub record ExtendsTo (b : Breach) (plan : PlanParts) (t : List Row) (old : List Fact) (n : ℕ) (new : List Fact) : Type 0 where
  pub holds : AreFacts plan t new
  pub kept : (k : ℕ) (f : Fact) → k < n → slice_get old k ≡ Some f → Contains new f
  pub own : AreOwn b new

module _ {b : Breach} (plan : PlanParts) (t : List Row) (old : List Fact) where
  pub extends_more : (n : ℕ) (new last : List Fact) → ExtendsTo b plan t old n new → Adds b plan t new last → ExtendsTo b plan t old n last
  extends_more n new last h a = record { holds = adds_holds plan t new last a h.holds; kept = λ k f l e. subst (λ (fs : List Fact). Contains fs f) (sym a.is) (Contains-append_left new a.more f (h.kept k f l e)); own = adds_own plan t new last a h.own }

  pub extends_next : (n : ℕ) (new next : List Fact) (f : Fact) → slice_get old n ≡ Some f → IsFact plan t f → IsOwn b f → next ≡ new ++ f ∷ [] → ExtendsTo b plan t old n new → ExtendsTo b plan t old (n + 1) next
  extends_next n new next f is holds own e h = record { holds = subst (λ (fs : List Fact). AreFacts plan t fs) (sym e) (All-push (IsFact plan t) new f h.holds holds); kept = λ k x l q. subst (λ (fs : List Fact). Contains fs x) (sym e) (go k x l q (ℕ_discrete k n)); own = subst (λ (fs : List Fact). AreOwn b fs) (sym e) (All-push (IsOwn b) new f h.own own) }
    where
      go : (k : ℕ) (x : Fact) → k < n + 1 → slice_get old k ≡ Some x → Dec (k ≡ n) → Contains (new ++ f ∷ []) x
      go k x l q (yes p) = Contains-append_right new (f ∷ []) x (subst (λ (z : Fact). Contains (f ∷ []) z) (same_at old n k f x is q (sym p)) (contains_at (f ∷ []) 0 f refl))
      go k x l q (no d) = Contains-append_left new (f ∷ []) x (h.kept k x (omega arith) q)

  pub extends_all : (n : ℕ) (new : List Fact) → length old ≤ n → ExtendsTo b plan t old n new → Extends b plan t old new
  extends_all n new l h = record { holds = h.holds; kept = All-weaker (Contains old) (Contains new) (λ f c. let i = at_contains old f c in let m : i.0 < length old = slice_get_within old i.0 f i.1 in h.kept i.0 f (omega arith) i.1) old (All-contains_itself old); own = h.own }

  pub extends_further : (new last : List Fact) → Extends b plan t old new → Adds b plan t new last → Extends b plan t old last
  extends_further new last x a = record { holds = adds_holds plan t new last a x.holds; kept = All-weaker (Contains new) (Contains last) (λ f c. subst (λ (fs : List Fact). Contains fs f) (sym a.is) (Contains-append_left new a.more f c)) old x.kept; own = adds_own plan t new last a x.own }

  -- more facts give as much
  pub extends_proves : (new : List Fact) (c : Breach) → Extends b plan t old new → ProvesTag old c → ProvesTag new c
  extends_proves new c x proves other s all kept up = proves other s (All-weaker (Contains new) (IsShown other s) (λ f c. All-contains (IsShown other s) new f all c) old x.kept) kept up

-- what a fact names is of the program
pub read_known : (plan : PlanParts) (sound : IsSound plan.program) (t : List Row) (g : Tag) (r k : ℕ) (n : Name) (read present : Option Value) → IsRead plan t g r k n read present → IsNameOf plan.program n
read_known plan sound t g r k n read present f = go (Contains-append_cases (filter_map named f.reaction.triggers) f.reaction.uses n (contains_at (inputs f.reaction) k n f.is_input))
  where
    go : Contains (filter_map named f.reaction.triggers) n ⊎ Contains f.reaction.uses n → IsNameOf plan.program n
    go (inl m) = let i = to_trigger f.reaction.triggers n m in (sound.exist r f.reaction f.is_reaction).triggers (On n) (contains_at f.reaction.triggers i.0 (On n) i.1)
    go (inr m) = (sound.exist r f.reaction f.is_reaction).uses n m

pub trigger_known : (plan : PlanParts) (sound : IsSound plan.program) (t : List Row) (g : Tag) (r k : ℕ) (x : Trigger) → IsUntriggered plan t g r k x → IsTriggerOf plan.program x
trigger_known plan sound t g r k x f = (sound.exist r f.reaction f.is_reaction).triggers x (contains_at f.reaction.triggers k x f.is_trigger)
