-- Contrasts that are put behind others.
use Rattle.std.proofs.Common.{◌≡◌, ℕ, ◌+◌, ◌<◌, ◌≤◌, List, [], ◌∷◌, ◌++◌, Contains, append-nil, append_assoc, length, map, sym, ap, ◌∙◌, refl, subst, arith, Option, Some, slice_get, option_map, unwrap_or}
use Rattle.std.proofs.lemmas.List.{length-map, Elements.{All-nil, All-cons, All-append, Contains-append_left, Contains-append_right}}
use native.Mathlib.Decide.{ℕ_discrete}
use Rattle.lft_lists.proofs.Mapped.{mapped}
use Rattle.lft_tag.specs.declared.Tag.{Tag}
use Rattle.lft_ir.specs.{Parts.inputs, declared.{parts.{Name.Name, Reaction.Reaction, Value.Value}, steps.row.Row.Row}}
use Rattle.lft_model.{specs.{Plans.PlanParts, Runs.{inputs_of, reads_at, read_of, steps_of}}, proofs.Places.slice_get_within}
use Rattle.lft_pair.specs.{declared.contrasting.contrasts.Contrast.Contrast, Contrasts.{IsContrast, AreContrasts, IsRead}, inner.Enough.Adds, Enough.TellsReads}
use Rattle.lft_pair.specs.declared.contrasting.contrasts.Contrast.TheVariants as contrast

module _ (plan : PlanParts) (t s : List Row) (g : Tag) (r : ℕ) where
  pub adds_none : (told : List Contrast) → Adds plan t s g r told told
  adds_none told = record { more = []; is = sym (append-nil told); holds = All-nil (IsContrast plan t s g r) }

  pub adds_one : (told new : List Contrast) (c : Contrast) → new ≡ told ++ c ∷ [] → IsContrast plan t s g r c → Adds plan t s g r told new
  adds_one told new c e holds = record { more = c ∷ []; is = e; holds = All-cons (IsContrast plan t s g r) c [] holds (All-nil (IsContrast plan t s g r)) }

  pub adds_both : (first second third : List Contrast) → Adds plan t s g r first second → Adds plan t s g r second third → Adds plan t s g r first third
  adds_both first second third a b = record { more = a.more ++ b.more; is = b.is ∙ ap (λ cs. cs ++ b.more) a.is ∙ append_assoc first a.more b.more; holds = All-append (IsContrast plan t s g r) a.more b.more a.holds b.holds }

  pub adds_holds : (old new : List Contrast) → Adds plan t s g r old new → AreContrasts plan t s g r old → AreContrasts plan t s g r new
  adds_holds old new a all = subst (λ (cs : List Contrast). AreContrasts plan t s g r cs) (sym a.is) (All-append (IsContrast plan t s g r) old a.more all a.holds)

  pub adds_keeps : (old new : List Contrast) → Adds plan t s g r old new → (c : Contrast) → Contains old c → Contains new c
  adds_keeps old new a c m = subst (λ (cs : List Contrast). Contains cs c) (sym a.is) (Contains-append_left old a.more c m)

pub last_contained : (told new : List Contrast) (c : Contrast) → new ≡ told ++ c ∷ [] → Contains new c
last_contained told new c e = subst (λ (cs : List Contrast). Contains cs c) (sym e) (Contains-append_right told (c ∷ []) c (0, omega arith, refl))

same_at : {X : Type 0} (f h : Name → X) (ns : List Name) (k : ℕ) (n : Name) → map f ns ≡ map h ns → slice_get ns k ≡ Some n → f n ≡ h n
same_at f h ns k n e at = let z : Some (f n) ≡ Some (h n) = sym (mapped f ns k n at) ∙ ap (λ l. slice_get l k) e ∙ mapped h ns k n at in cc

-- what two runs read of the first inputs is told
pub record ReadTo (plan : PlanParts) (t s : List Row) (g : Tag) (r : ℕ) (names : List Name) (old : List Contrast) (place : ℕ) (new : List Contrast) : Type 0 where
  pub adds : Adds plan t s g r old new
  pub each : (k : ℕ) (n : Name) → k < place → slice_get names k ≡ Some n → (read : Option Value) × Contains new (contrast.Read k n read)

module _ (plan : PlanParts) (t s : List Row) (g : Tag) (r : ℕ) (x : Reaction) (is_reaction : slice_get plan.program.reactions r ≡ Some x) (names : List Name) (are : names ≡ inputs x) (read : List (Option Value)) (was_read : read ≡ reads_at plan t g r) (same : reads_at plan t g r ≡ reads_at plan s g r) (old : List Contrast) where
  own : inputs_of plan.program r ≡ names
  own = ap (λ (o : Option Reaction). unwrap_or (option_map inputs o) []) is_reaction ∙ sym are

  reads_are : read ≡ map (read_of (steps_of t g r)) names
  reads_are = was_read ∙ ap (λ ns. map (read_of (steps_of t g r)) ns) own

  pub read_long : length read ≡ length names
  read_long = ap length reads_are ∙ length-map names (read_of (steps_of t g r))

  pub read_none : ReadTo plan t s g r names old 0 old
  read_none = record { adds = adds_none plan t s g r old; each = λ k n l. absurd (omega arith) }

  is_read : (k : ℕ) (n : Name) (o : Option Value) → slice_get names k ≡ Some n → slice_get read k ≡ Some o → IsRead plan t s g r k n o
  is_read k n o e f = record { is_input = ap (λ (ns : List Name). slice_get ns k) own ∙ e; first = one; second = sym (same_at (read_of (steps_of t g r)) (read_of (steps_of s g r)) (inputs_of plan.program r) k n same (ap (λ (ns : List Name). slice_get ns k) own ∙ e)) ∙ one }
    where
      one : read_of (steps_of t g r) n ≡ o
      one = let z : Some (read_of (steps_of t g r) n) ≡ Some o = sym (mapped (read_of (steps_of t g r)) names k n e) ∙ ap (λ (os : List (Option Value)). slice_get os k) (sym reads_are) ∙ f in cc

  pub read_more : (place : ℕ) (told new : List Contrast) (n : Name) (o : Option Value) → ReadTo plan t s g r names old place told → slice_get names place ≡ Some n → slice_get read place ≡ Some o → new ≡ told ++ contrast.Read place n o ∷ [] → ReadTo plan t s g r names old (place + 1) new
  read_more place told new n o so_far e f is = record { adds = adds_both plan t s g r old told new so_far.adds one; each = λ k m l q. go k m l q (ℕ_discrete k place) }
    where
      one : Adds plan t s g r told new
      one = adds_one plan t s g r told new (contrast.Read place n o) is (is_read place n o e f)

      go : (k : ℕ) (m : Name) → k < place + 1 → slice_get names k ≡ Some m → Dec (k ≡ place) → (v : Option Value) × Contains new (contrast.Read k m v)
      go k m l q (yes d) =
          let z : Some n ≡ Some m = sym e ∙ ap (λ i. slice_get names i) (sym d) ∙ q in
          let y : n ≡ m = cc in
          (o, subst (λ (i : ℕ). Contains new (contrast.Read i m o)) (sym d) (subst (λ (w : Name). Contains new (contrast.Read place w o)) y (last_contained told new (contrast.Read place n o) is)))
      go k m l q (no d) = let z = so_far.each k m (omega arith) q in (z.0, adds_keeps plan t s g r told new one (contrast.Read k m z.0) z.1)

  pub read_end : (place : ℕ) (new : List Contrast) → length names ≤ place → ReadTo plan t s g r names old place new → TellsReads plan r new
  read_end place new l so_far k n e = let q : slice_get names k ≡ Some n = ap (λ (ns : List Name). slice_get ns k) (sym own) ∙ e in so_far.each k n (let z = slice_get_within names k n q in omega arith) q
