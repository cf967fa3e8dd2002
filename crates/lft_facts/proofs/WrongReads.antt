-- Rule 10.
use Rattle.std.proofs.Common.{◌≡◌, ℕ, zero, suc, ◌+◌, ◌<◌, ◌≤◌, inr, List, [], ◌∷◌, ◌++◌, length, map, refl, sym, ap, ◌∙◌, subst, arith, Option, Some, slice_get, slice_set, Contains, option_map, unwrap_or}
use native.Mathlib.Decide.{ℕ_discrete}
use Rattle.std.{specs.List.AllZip, proofs.lemmas.List.{length-map, Elements.{All-push, All-contains, All-cons, All-nil, Contains-append_left, Contains-push}}}
use Rattle.lft_lists.proofs.{Places.{get_there, same_at, get_written, same_items}, Mapped.mapped, Zips.long}
use Rattle.lft_tag.specs.declared.Tag.{Tag}
use Rattle.lft_ir.specs.{Parts.inputs, declared.{parts.{Name.Name, Reaction.Reaction, Value.Value}, steps.row.Row.Row}}
use Rattle.lft_model.{specs.{Plans.PlanParts, Presence.{Shows, Inputs}, Runs.{inputs_of, reads_at, read_of, steps_of}}, proofs.Places.slice_get_within}
use Rattle.lft_facts.specs.{declared.facts.Fact.Fact, Facts.{IsFact, IsShown, AreFacts, IsRead}, inner.Enough.{Gives, AreOwnAt}, Enough.IsOwn}
use Rattle.lft_facts.proofs.Giving.{ran_there, same_reaction}
use Rattle.lft_races.specs.Runs.{StartsAt}
use Rattle.lft_facts.specs.declared.facts.Fact.TheVariants as fact

-- two lists side by side, at a place
zip_at : {A B : Type 0} (R : A → B → Type 0) (xs : List A) (ys : List B) (k : ℕ) (x : A) (y : B) → AllZip R xs ys → slice_get xs k ≡ Some x → slice_get ys k ≡ Some y → R x y
zip_at R [] [] k x y z e f = absurd (cc)
zip_at R [] (b ∷ ys) k x y z e f = absurd z
zip_at R (a ∷ xs) [] k x y z e f = absurd z
zip_at {A} {B} R (a ∷ xs) (b ∷ ys) zero x y z e f = let p : a ≡ x = cc in let q : b ≡ y = cc in subst (λ (w : A). R w y) p (subst (λ (w : B). R a w) q z.0)
zip_at R (a ∷ xs) (b ∷ ys) (suc k) x y z e f = zip_at R xs ys k x y z.1 e f

zip_set : {A B : Type 0} (R : A → B → Type 0) (xs : List A) (ys : List B) (k : ℕ) (x : A) (y : B) → AllZip R xs ys → slice_get xs k ≡ Some x → R x y → AllZip R xs (slice_set ys k y)
zip_set R [] [] k x y z e r = absurd (cc)
zip_set R [] (b ∷ ys) k x y z e r = absurd z
zip_set R (a ∷ xs) [] k x y z e r = absurd z
zip_set {A} R (a ∷ xs) (b ∷ ys) zero x y z e r = let p : x ≡ a = cc in (subst (λ (w : A). R w y) p r, z.1)
zip_set R (a ∷ xs) (b ∷ ys) (suc k) x y z e r = (z.0, zip_set R xs ys k x y z.1 e r)

-- the inputs by number are those of the reaction
own_inputs : (plan : PlanParts) (r : ℕ) (x : Reaction) → slice_get plan.program.reactions r ≡ Some x → inputs_of plan.program r ≡ inputs x
own_inputs plan r x e = ap (λ (o : Option Reaction). unwrap_or (option_map inputs o) []) e

-- the facts of rule 10, with the inputs at the places below one
pub record Told (plan : PlanParts) (t : List Row) (g : Tag) (r start : ℕ) (names : List Name) (read present : List (Option Value)) (place : ℕ) (facts : List Fact) : Type 0 where
  pub holds : AreFacts plan t facts
  pub runs : Contains facts (fact.Runs g r start)
  pub each : (k : ℕ) (n : Name) (o u : Option Value) → k < place → slice_get names k ≡ Some n → slice_get read k ≡ Some o → slice_get present k ≡ Some u → Contains facts (fact.Reads g r k n o u)
  pub own : AreOwnAt g (Some r) facts

pub told_begin : (plan : PlanParts) (t : List Row) (g : Tag) (r start : ℕ) (names : List Name) (read present : List (Option Value)) (facts : List Fact) → facts ≡ fact.Runs g r start ∷ [] → StartsAt t g r start → Told plan t g r start names read present 0 facts
told_begin plan t g r start names read present facts is starts = subst (λ (fs : List Fact). Told plan t g r start names read present 0 fs) (sym is) (record { holds = All-cons (IsFact plan t) (fact.Runs g r start) [] starts (All-nil (IsFact plan t)); runs = (0, omega arith, refl); each = λ k n o u l. absurd (omega arith); own = λ b p q. All-cons (IsOwn b) (fact.Runs g r start) [] (p, q) (All-nil (IsOwn b)) })

-- a run of a plan's reaction, what it read and what is present
module _ (plan : PlanParts) (t : List Row) (g : Tag) (r start : ℕ) (x : Reaction) (is_reaction : slice_get plan.program.reactions r ≡ Some x) (names : List Name) (are : names ≡ inputs x) (read : List (Option Value)) (was_read : read ≡ reads_at plan t g r) (present : List (Option Value)) (is_present : Inputs plan t g r present) (only : (other : List (Option Value)) → Inputs plan t g r other → other ≡ present) where
  reads_are : read ≡ map (read_of (steps_of t g r)) names
  reads_are = was_read ∙ ap (λ ns. map (read_of (steps_of t g r)) ns) (own_inputs plan r x is_reaction ∙ sym are)

  shown : AllZip (Shows plan t g) names present
  shown = subst (λ (ns : List Name). AllZip (Shows plan t g) ns present) (ap inputs (same_reaction plan.program.reactions r is_present.reaction x is_present.is_reaction is_reaction) ∙ sym are) is_present.each

  as_shown : (other : List (Option Value)) → AllZip (Shows plan t g) names other → other ≡ present
  as_shown other z = only other (record { reaction = x; is_reaction = is_reaction; each = subst (λ (ns : List Name). AllZip (Shows plan t g) ns other) are z })

  pub read_long : length read ≡ length names
  read_long = ap length reads_are ∙ length-map names (read_of (steps_of t g r))

  pub present_long : length present ≡ length names
  present_long = sym (long (Shows plan t g) names present shown)

  -- the fact of one input holds
  is_read : (k : ℕ) (n : Name) (o u : Option Value) → slice_get names k ≡ Some n → slice_get read k ≡ Some o → slice_get present k ≡ Some u → IsRead plan t g r k n o u
  is_read k n o u e f h = record { reaction = x; is_reaction = is_reaction; is_input = ap (λ (ns : List Name). slice_get ns k) (sym are) ∙ e; was_read = read_one; shown = λ w. (one_only w, λ q. subst (λ v. Shows plan t g n v) (sym q) here) }
    where
      read_one : read_of (steps_of t g r) n ≡ o
      read_one = let z : Some (read_of (steps_of t g r) n) ≡ Some o = sym (mapped (read_of (steps_of t g r)) names k n e) ∙ ap (λ (os : List (Option Value)). slice_get os k) (sym reads_are) ∙ f in cc

      here : Shows plan t g n u
      here = zip_at (Shows plan t g) names present k n u shown e h

      one_only : (w : Option Value) → Shows plan t g n w → w ≡ u
      one_only w s =
          let a : slice_set present k w ≡ present = as_shown (slice_set present k w) (zip_set (Shows plan t g) names present k n w shown e s) in
          let b : slice_get (slice_set present k w) k ≡ Some w = get_written present k w (slice_get_within present k u h) in
          let z : Some w ≡ Some u = sym b ∙ ap (λ (os : List (Option Value)). slice_get os k) a ∙ h in
          cc

  -- one more input
  pub told_more : (place : ℕ) (facts new : List Fact) (n : Name) (o u : Option Value) → Told plan t g r start names read present place facts → slice_get names place ≡ Some n → slice_get read place ≡ Some o → slice_get present place ≡ Some u → new ≡ facts ++ fact.Reads g r place n o u ∷ [] → Told plan t g r start names read present (place + 1) new
  told_more place facts new n o u so_far e f h is = subst (λ (fs : List Fact). Told plan t g r start names read present (place + 1) fs) (sym is) (record { holds = All-push (IsFact plan t) facts (fact.Reads g r place n o u) so_far.holds (is_read place n o u e f h); runs = Contains-append_left facts (fact.Reads g r place n o u ∷ []) (fact.Runs g r start) so_far.runs; each = each; own = λ b p q. All-push (IsOwn b) facts (fact.Reads g r place n o u) (so_far.own b p q) (p, q) })
    where
      each : (k : ℕ) (m : Name) (p q : Option Value) → k < place + 1 → slice_get names k ≡ Some m → slice_get read k ≡ Some p → slice_get present k ≡ Some q → Contains (facts ++ fact.Reads g r place n o u ∷ []) (fact.Reads g r k m p q)
      each k m p q l a b c = go (ℕ_discrete k place)
        where
          go : Dec (k ≡ place) → Contains (facts ++ fact.Reads g r place n o u ∷ []) (fact.Reads g r k m p q)
          go (yes s) =
              let x1 : m ≡ n = same_at names k place m n a e s in
              let x2 : p ≡ o = same_at read k place p o b f s in
              let x3 : q ≡ u = same_at present k place q u c h s in
              let z : fact.Reads g r place n o u ≡ fact.Reads g r k m p q = cc in
              subst (λ (y : Fact). Contains (facts ++ fact.Reads g r place n o u ∷ []) y) z (Contains-push facts (fact.Reads g r place n o u))
          go (no s) = Contains-append_left facts (fact.Reads g r place n o u ∷ []) (fact.Reads g r k m p q) (so_far.each k m p q (omega arith) a b c)

  -- the facts of all inputs give the breach, where what was read isn't what is present
  pub told_gives : (place : ℕ) (facts : List Fact) → length names ≤ place → Told plan t g r start names read present place facts → ¬ Inputs plan t g r (reads_at plan t g r) → Gives facts g (Some r) 10
  told_gives place facts l told wrong other s all kept = inr (inr (inr (refl, ran_there s g r start (All-contains (IsShown other s) facts (fact.Runs g r start) all told.runs), right)))
    where
      right : ¬ Inputs other s g r (reads_at other s g r)
      right o = wrong (subst (λ (os : List (Option Value)). Inputs plan t g r os) (sym same ∙ was_read) is_present)
        where
          one : (k : ℕ) (p q : Option Value) → slice_get read k ≡ Some p → slice_get present k ≡ Some q → p ≡ q
          one k p q e f = sym is.was_read ∙ (is.shown (read_of (steps_of s g r) n.0)).0 shows
            where
              n : (y : Name) × (slice_get names k ≡ Some y)
              n = let m : k < length read = slice_get_within read k p e in let w : length read ≡ length names = read_long in get_there names k (omega arith)

              is : IsRead other s g r k n.0 p q
              is = All-contains (IsShown other s) facts (fact.Reads g r k n.0 p q) all (told.each k n.0 p q (let m : k < length names = slice_get_within names k n.0 n.1 in omega arith) n.1 e f)

              its : slice_get (inputs o.reaction) k ≡ Some n.0
              its = ap (λ (y : Reaction). slice_get (inputs y) k) (same_reaction other.program.reactions r o.reaction is.reaction o.is_reaction is.is_reaction) ∙ is.is_input

              shows : Shows other s g n.0 (read_of (steps_of s g r) n.0)
              shows = zip_at (Shows other s g) (inputs o.reaction) (reads_at other s g r) k n.0 (read_of (steps_of s g r) n.0) o.each its (ap (λ ns. slice_get (map (read_of (steps_of s g r)) ns) k) (own_inputs other r o.reaction o.is_reaction) ∙ mapped (read_of (steps_of s g r)) (inputs o.reaction) k n.0 its)

          same : read ≡ present
          same = same_items read present (read_long ∙ sym present_long) one
