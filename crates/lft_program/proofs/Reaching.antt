-- How ports are linked, against the tree.
use Rattle.std.proofs.Common.{◌≡◌, ℕ, suc, ◌+◌, ◌<◌, ◌≤◌, inl, inr, List, [], ◌∷◌, ◌++◌, length, length-append, refl, sym, ap, ◌∙◌, subst, arith, Option, Some, None, slice_get, map}
use Rattle.std.proofs.lemmas.{Option.slice_get_within, List.length-map}
use Rattle.lft_lists.proofs.{Mapped.mapped_from, Places.{get_there, get_push_cases}}
use Rattle.lft_tree.specs.Tree.{FileTree}
use Rattle.lft_tag.specs.declared.{Shift.Shift, Source.Source}
use Rattle.lft_resolve.specs.{inner.Expansion.Sources.{AreReached, LeadsBackwards, ChainOrigin}, declared.expansion.origins.Reached.Reached}
use Rattle.lft_resolve.specs.{Causes.{DelayTooLong as HasLongDelay, IsFirst, NoneHolds}, Instances.{Thing, Connects}}
use Rattle.lft_program.specs.{inner.{Linking.{IsLinked, IsTooLong, AreLinked}, Links.{AreLinks, last_causes}}, Links.IsSource, Located.{Located, ports_in}}
use Rattle.lft_program.specs.declared.nesting.linking.Linked.{Linked}
use Rattle.lft_program.proofs.{Connected.{NoLongTime, TreeSources}, Cycles.{cycle_is_cause, no_cycle_no_cause}, Lengths.{long_is_cause, no_long_no_cause}}

-- the ports so far are linked
pub record Linking (sources : List (Option Source)) (reached : List Reached) (number : ℕ) (links : List Linked) : Type 0 where
  pub within : number ≤ length sources
  pub as_long : length links ≡ number
  pub each : (p : ℕ) (l : Linked) → slice_get links p ≡ Some l → IsLinked sources reached p l

pub linking_start : (sources : List (Option Source)) (reached : List Reached) → Linking sources reached 0 []
linking_start sources reached = record { within = omega arith; as_long = refl; each = λ p l e. absurd (cc) }

pub linking_more : (sources : List (Option Source)) (reached : List Reached) (number : ℕ) (links : List Linked) (l : Linked) → Linking sources reached number links → number < length sources → IsLinked sources reached number l → Linking sources reached (number + 1) (links ++ l ∷ [])
linking_more sources reached number links l w within is = record {
  within = omega arith;
  as_long = length-append links (l ∷ []) ∙ ap (λ k. k + 1) w.as_long;
  each = λ p m e. elim (get_push_cases links l p m e) [ inl old ↦ w.each p m old | inr new ↦ subst (λ (x : Linked). IsLinked sources reached p x) new.1 (subst (λ k. IsLinked sources reached k l) (sym (new.0 ∙ w.as_long)) is) ];
}

pub linking_end : (sources : List (Option Source)) (reached : List Reached) (number : ℕ) (links : List Linked) → Linking sources reached number links → length sources ≤ number → AreLinked sources reached links
linking_end sources reached number links w past = record { as_long = (let s = w.as_long in let i = w.within in omega arith); each = w.each }

same_list : {X : Type 0} (xs ys : List X) → length xs ≡ length ys → ((p : ℕ) (x : X) → slice_get xs p ≡ Some x → slice_get ys p ≡ Some x) → xs ≡ ys
same_list [] [] e h = refl
same_list [] (y ∷ ys) e h = absurd (omega arith)
same_list (x ∷ xs) [] e h = absurd (omega arith)
same_list (x ∷ xs) (y ∷ ys) e h =
    let z : Some y ≡ Some x = h 0 x refl in
    let a : x ≡ y = cc in
    ap (λ w. w ∷ xs) a ∙ ap (λ l. y ∷ l) (same_list xs ys (omega arith) (λ p v f. h (suc p) v f))

module _ {tree : FileTree} (located : List Located) {sources : List (Option Source)} (w : TreeSources tree (ports_in located) sources) where
  -- the answer for a cycle
  pub first_cycle : (p : ℕ) → LeadsBackwards sources p p → IsFirst (last_causes tree) 10
  first_cycle p l = inl (refl, cycle_is_cause tree (ports_in located) sources w p l)

  module _ (ends : (p : ℕ) → LeadsBackwards sources p p → ⊥) where
    -- and for what is too long
    pub first_long : HasLongDelay tree → IsFirst (last_causes tree) 14
    first_long long = inr (no_cycle_no_cause tree (ports_in located) sources w ends, inl (refl, long))

    module _ (short : NoLongTime tree) (all : List Reached) (reached : AreReached sources all) where
      pub first_sum : (p : ℕ) → IsTooLong all p → IsFirst (last_causes tree) 14
      first_sum p long = first_long (long_is_cause tree (ports_in located) sources w short all reached p long)

      module _ (links : List Linked) (linked : AreLinked sources all links) where
        pub no_cause : NoneHolds (last_causes tree)
        no_cause = (no_cycle_no_cause tree (ports_in located) sources w ends, (no_long_no_cause tree (ports_in located) sources w short all reached folded, tt))
          where
            folded : (p : ℕ) (r : Reached) → slice_get all p ≡ Some r → (s : Shift) × (r.shift ≡ Some s)
            folded p r e =
                let l = get_there links p (let a = slice_get_within all p r e in let s = reached.as_long in let i = linked.as_long in omega arith) in
                let is : slice_get all p ≡ Some (record { origin = l.0.origin; shift = Some l.0.shift }) = (linked.each p l.0 l.1).1 in
                let z : Some r ≡ Some (record { origin = l.0.origin; shift = Some l.0.shift }) = sym e ∙ is in
                let y : r ≡ record { origin = l.0.origin; shift = Some l.0.shift } = cc in
                (l.0.shift, ap (λ (x : Reached). x.shift) y)

        sources_are : map (λ (k : Linked). k.source) links ≡ sources
        sources_are = same_list (map (λ (k : Linked). k.source) links) sources (length-map links (λ (k : Linked). k.source) ∙ linked.as_long) (λ p x e. let m = mapped_from (λ (k : Linked). k.source) links p x e in (linked.each p m.0 m.1).0 ∙ ap Some m.2)

        source : (p : ℕ) (t : Thing) → slice_get (ports_in located) p ≡ Some t → (o : Option Source) → slice_get sources p ≡ Some o → IsSource tree (ports_in located) t o
        source p t e None f = λ from delay c.
            let j = w.complete from t delay c in
            let same : j.0 ≡ p = w.distinct j.0 p t j.2 e in
            let z : Some (Some j.1) ≡ Some None = sym j.3 ∙ ap (slice_get sources) same ∙ f in
            cc
        source p t e (Some s) f =
            let j = w.joined p t s e f in
            (j.0, j.2, subst (λ d. Connects tree j.0 t d) (j.4 short) j.3)

        pub are_links : AreLinks tree located links
        are_links = record {
          as_long = linked.as_long ∙ sym w.as_long;
          sources = λ p t l e f. source p t e l.source (linked.each p l f).0;
          origins = λ p l f.
              let r = reached.each p (record { origin = l.origin; shift = Some l.shift }) (linked.each p l f).1 in
              (r.delays, subst (λ ss. ChainOrigin ss p l.origin r.delays) (sym sources_are) r.origin, r.folded);
        }
