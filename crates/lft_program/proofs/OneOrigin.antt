-- Ports with the same sources have the same origins and shifts.
use Rattle.std.proofs.Common.{◌≡◌, ◌≤◌, ℕ, List, ◌++◌, map, slice_get, Some, None, option_to_list, refl, sym, ap, subst, ◌∙◌}
use Rattle.std.proofs.Math.{Bridge.le_prop, Path.to_path_p}
use Rattle.lft_lists.proofs.{Places.Some_same, Mapped.mapped}
use Rattle.lft_tag.specs.{Shifts.{join_all, none}, declared.{Shift.Shift, Source.Source}}
use Rattle.lft_ir.specs.{Origins.{Origin, itself, over}, Parts.Parts, Sound.KeepsOrigins, declared.parts.Port.Port as PortOf}

-- a shift is known by its time and steps
same_shift : (s t : Shift) → s.time ≡ t.time → s.steps ≡ t.steps → s ≡ t
same_shift s t time steps = λ j. record {
  time = time j;
  steps = steps j;
  in_time = to_path_p (λ k. time k ≤ 1000000000000000000) {a = s.in_time} (le_prop _ t.in_time) j;
  in_steps = to_path_p (λ k. steps k ≤ 100000) {a = s.in_steps} (le_prop _ t.in_steps) j;
}

module _ (a b : Parts) (same : map (λ (x : PortOf). x.source) a.ports ≡ map (λ (x : PortOf). x.source) b.ports) where
  one_source : (p : ℕ) (x y : PortOf) → slice_get a.ports p ≡ Some x → slice_get b.ports p ≡ Some y → x.source ≡ y.source
  one_source p x y e f = Some_same x.source y.source (sym (mapped (λ (z : PortOf). z.source) a.ports p x e) ∙ ap (λ l. slice_get l p) same ∙ mapped (λ (z : PortOf). z.source) b.ports p y f)

  one_origin : {p o q : ℕ} {ds es : List ℕ} → Origin a p o ds → Origin b p q es → (o ≡ q) × (ds ≡ es)
  one_origin {p} (itself x e n) (itself y f m) = (refl, refl)
  one_origin {p} (itself x e n) (over y s first f m way l) = let c : None ≡ Some s = sym n ∙ one_source p x y e f ∙ m in absurd (cc)
  one_origin {p} (over x s first e n way l) (itself y f m) = let c : Some s ≡ None = sym n ∙ one_source p x y e f ∙ m in absurd (cc)
  one_origin {p} (over x s first e n way l) (over y u second f m road k) =
      let d : s ≡ u = Some_same s u (sym n ∙ one_source p x y e f ∙ m) in
      let rest = one_origin way (through d road) in
      (rest.0, l ∙ ap (λ z. z ++ option_to_list s.delay) rest.1 ∙ ap (λ (z : Source). second ++ option_to_list z.delay) d ∙ sym k)
    where
      through : {s u : Source} {q : ℕ} {es : List ℕ} → s ≡ u → Origin b u.port q es → Origin b s.port q es
      through {s} {u} {q} {es} d road = subst (λ (z : Source). Origin b z.port q es) (sym d) road

  pub one_end : KeepsOrigins a → KeepsOrigins b → (p : ℕ) (x y : PortOf) → slice_get a.ports p ≡ Some x → slice_get b.ports p ≡ Some y → (x.origin ≡ y.origin) × (x.shift ≡ y.shift)
  one_end keeps keeps_too p x y e f =
      let c = keeps p x e in
      let d = keeps_too p y f in
      let r = one_origin c.1 d.1 in
      let folded : (x.shift.time, x.shift.steps) ≡ (y.shift.time, y.shift.steps) = sym c.2 ∙ ap (join_all none) r.1 ∙ d.2 in
      (r.0, same_shift x.shift y.shift (ap (λ w. w.0) folded) (ap (λ w. w.1) folded))
