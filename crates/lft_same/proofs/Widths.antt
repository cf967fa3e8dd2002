-- A lowered program that isn't refused has widths, and they are those that lowering found.
use Rattle.std.proofs.Common.{◌≡◌, ℕ, zero, suc, ◌<◌, ◌≤◌, max, ◌⊎◌, inl, inr, List, length, Option, Some, None, slice_get, refl, sym, ap, subst, ◌∙◌, arith, eq-or-lt_of_le}
use Rattle.std.proofs.{lemmas.Option.slice_get_within, Math.Nat.{le-max_left, le-max_right}}
use Rattle.lft_lists.proofs.{Places.{Some_same, get_there, same_at, same_some}, Mapped.mapped_from}
use Rattle.lft_tree.specs.{View.tree_view, declared.ast.Ast.Ast}
use Rattle.lft_resolve.specs.Causes.{NoneHolds, causes}
use Rattle.lft_whole.specs.declared.{sources.source.SourceFile.SourceFile, tree.{Member.Member, Width.Width}}
use Rattle.lft_classes.specs.{declared.shapes.{Shape.Shape, Inherited.Inherited}, Shapes.width_of}
use Rattle.lft_elaborate.specs.inner.{Places.{width_in, written_width}, Settings.setting_at, Used.IsReached, Values.{Valued, main_setting}, Widths.found_width}
use Rattle.lft_lower.specs.inner.Reactors.{AreShapesOfFiles, IsLowering}
use Rattle.lft_same.specs.Expanded.{Instances.{Widths, Inside}, Whole.AreWidths, Reactors.members_of, Taken.widths_from}
use Rattle.lft_same.specs.inner.Fits.Widths.{AreFound, AreThose, small}
use Rattle.lft_same.proofs.{FitsLemmas.{Found.widths_law, Widths.{width_is, width_is_written}}, Instances.AreWidthsFound}
use Rattle.lft_same.proofs.{Settings.{HasSetting, nested, reached}, Reached.{HasInstance, found_at, found_small, found_written, reached_instance}}

-- what holds of each at some depth, and at each greater one, holds of all at one depth
most : (n : ℕ) (P : ℕ → ℕ → Type 0) → ((i d e : ℕ) → d ≤ e → P i d → P i e) → ((i : ℕ) → i < n → (d : ℕ) × P i d) → (d : ℕ) × ((i : ℕ) → i < n → P i d)
most zero P grows each = (0, λ i l. absurd (omega (arith, l)))
most (suc n) P grows each = let rest = most n P grows (λ i l. each i (omega (arith, l))) in let last = each n (omega arith) in (max rest.0 last.0, λ i l. all rest.0 rest.1 last.0 last.1 i (eq-or-lt_of_le (omega (arith, l))))
  where
    all : (d : ℕ) → ((i : ℕ) → i < n → P i d) → (e : ℕ) → P n e → (i : ℕ) → (i ≡ n) ⊎ (i < n) → P i (max d e)
    all d rest e last i (inl q) = grows i e (max d e) (le-max_right d e) (subst (λ k. P k e) (sym q) last)
    all d rest e last i (inr l) = grows i d (max d e) (le-max_left d e) (rest i l)

-- the law of widths, of the shapes of a program
widths_at : (files : List SourceFile) (shapes : List Shape) → AreShapesOfFiles files shapes → (t : Valued) (depth : ℕ) → main_setting shapes ≡ Some t → AreFound shapes depth → (w : Widths) × AreWidths files w × AreThose files shapes depth w
widths_at files shapes (scopes, n, is, same) = subst (λ l. (t : Valued) (depth : ℕ) → main_setting l ≡ Some t → AreFound l depth → (w : Widths) × AreWidths files w × AreThose files l depth w) same (widths_law files scopes n is)

module _ (files : List SourceFile) (tree : Ast) (low : IsLowering files tree) (none : NoneHolds (causes (tree_view tree))) where
  -- a width that was found is found in so many steps, and it is small
  abbrev pub IsDeep : ℕ → ℕ → Valued → ℕ → Type 0
  IsDeep k m t depth = (c : ℕ) → found_width low.settings k m ≡ Some c → (d : ℕ) × (d ≤ depth) × (width_in low.settings.shapes.items d t m ≡ Some c) × (c < small)

  -- so is each of a setting that instances have
  abbrev pub AreDeep : ℕ → Valued → ℕ → Type 0
  AreDeep k t depth = (m : ℕ) → IsDeep k m t depth

  deep_one : (k m : ℕ) (t : Valued) (h : HasInstance files tree low none t) → h.is.number ≡ k → (d : ℕ) × IsDeep k m t d
  deep_one k m t h same = go (found_width low.settings k m) refl
    where
      go : (o : Option ℕ) → found_width low.settings k m ≡ o → (d : ℕ) × IsDeep k m t d
      go None e = (0, λ c f. absurd (let q : None ≡ Some c = sym e ∙ f in cc))
      go (Some b) e =
          let at = found_at files tree low t h.core.reactor h.is m b (ap (λ k. found_width low.settings k m) same ∙ e) in
          let l = found_small files tree low none t h m b (ap (λ k. found_width low.settings k m) same ∙ e) in
          (at.1.0, λ c f. let q : b ≡ c = Some_same b c (sym e ∙ f) in (at.1.0, omega arith, at.1.1 ∙ ap Some q, subst (λ c. c < small) q l))

  -- settings that instances have stand once among them
  same_number : (i k : ℕ) (t : Valued) (h : HasInstance files tree low none t) → slice_get low.used i ≡ Some k → setting_at low.settings k ≡ Some t → h.is.number ≡ k
  same_number i k t h at is_setting = same_at low.used h.is.used.0 i h.is.number k h.is.used.1 at (low.program.are_used.once h.is.used.0 i h.is.number k t h.is.used.1 at h.is.is_setting is_setting)

  all_deep : (i k : ℕ) (t : Valued) → slice_get low.used i ≡ Some k → setting_at low.settings k ≡ Some t → (d : ℕ) × AreDeep k t d
  all_deep i k t at is_setting = (deep.0, λ m c e. deep.1 m (known m c e) c e)
    where
      reached : IsReached low.settings.shapes.items t
      reached = let r = low.program.are_used.reached k (i, at) in subst (IsReached low.settings.shapes.items) (same_some (setting_at low.settings k) r.0 t r.1 is_setting) r.2

      h : HasInstance files tree low none t
      h = reached_instance files tree low none t reached

      same : h.is.number ≡ k
      same = same_number i k t h at is_setting

      deep : (d : ℕ) × ((m : ℕ) → m < length h.is.shape.members.items → IsDeep k m t d)
      deep = most (length h.is.shape.members.items) (λ m. IsDeep k m t) (λ m d e l one c f. let g = one c f in (g.0, (let u = g.1 in omega (arith, l, u)), g.2, g.3)) (λ m l. deep_one k m t h same)

      known : (m c : ℕ) → found_width low.settings k m ≡ Some c → m < length h.is.shape.members.items
      known m c e = (found_at files tree low t h.core.reactor h.is m c (ap (λ k. found_width low.settings k m) same ∙ e)).0

  abbrev pub AllDeep : ℕ → ℕ → Type 0
  AllDeep i depth = (k : ℕ) (t : Valued) → slice_get low.used i ≡ Some k → setting_at low.settings k ≡ Some t → AreDeep k t depth

  -- all are found in so many steps
  pub depth : (d : ℕ) × ((i : ℕ) → i < length low.used → AllDeep i d)
  depth = most (length low.used) AllDeep grows each
    where
      grows : (i d e : ℕ) → d ≤ e → AllDeep i d → AllDeep i e
      grows i d e l all k t at is_setting m c f = let g = all k t at is_setting m c f in (g.0, (let u = g.1 in omega (arith, l, u)), g.2, g.3)

      each : (i : ℕ) → i < length low.used → (d : ℕ) × AllDeep i d
      each i l =
          let k = get_there low.used i l in
          let r = low.program.are_used.reached k.0 (i, k.1) in
          let d = all_deep i k.0 r.0 k.1 r.1 in
          (d.0, λ j t at is_setting. let same : k.0 ≡ j = same_some (slice_get low.used i) k.0 j k.1 at in let also : r.0 ≡ t = same_some (setting_at low.settings k.0) r.0 t r.1 (ap (setting_at low.settings) same ∙ is_setting) in subst (λ j. AreDeep j t d.0) same (subst (λ t. AreDeep k.0 t d.0) also d.1))

  deep_at : (i k : ℕ) (t : Valued) → slice_get low.used i ≡ Some k → setting_at low.settings k ≡ Some t → AreDeep k t depth.0
  deep_at i k t at is_setting = depth.1 i (slice_get_within low.used i k at) k t at is_setting

  are_found : AreFound low.settings.shapes.items depth.0
  are_found t m width reached written =
      let h = reached_instance files tree low none t reached in
      let c = found_written files tree low t h.core.reactor h.is m width written in
      let d = deep_at h.is.used.0 h.is.number t h.is.used.1 h.is.is_setting m c.0 c.1 in
      (d.0, c.0, d.1, d.2, d.3)

  -- the program has widths, and they are those that were found
  pub has_widths : (w : Widths) × AreWidths files w × AreWidthsFound files tree low w
  has_widths =
      let main = low.program.settings.main in
      let w = widths_at files low.settings.shapes.items low.program.shapes main.0 depth.0 main.1 are_found in
      (w.0, w.1, λ k t y m c used is_setting fits e. let d = deep_at used.0 k t used.1 is_setting m c e in w.2 t y m d.0 c fits d.1 d.2 d.3)

  -- and each is found in so many steps, whatever widths there are to begin with
  pub in_steps : (w : Widths) → AreWidthsFound files tree low w → (v : Widths) (x : Inside) (s : HasSetting files tree low x) (k : ℕ) (m : ℕ × Member) (width : Width) → slice_get (members_of files x.class) k ≡ Some m → width_of m.1 ≡ Some width → widths_from files v depth.0 x k ≡ w x k
  in_steps w found v x s k m width at wide =
      let own = mapped_from (λ (i : Inherited). (i.file, i.member.now)) s.fits.shape.members.items k m (ap (λ l. slice_get l k) s.fits.of_class.members ∙ at) in
      let written : written_width low.settings.shapes.items s.setting k ≡ Some width = width_is_written files low.settings.shapes.items s.setting x s.fits k own.0 own.1 ∙ ap (λ (q : ℕ × Member). width_of q.1) own.2 ∙ wide in
      let h = reached_instance files tree low none s.setting (reached files tree low x s) in
      let c = found_written files tree low s.setting h.core.reactor h.is k width written in
      let d = deep_at h.is.used.0 h.is.number s.setting h.is.used.1 h.is.is_setting k c.0 c.1 in
      width_is files low.settings.shapes.items (nested files tree low) v d.0 depth.0 d.1 s.setting x s.fits k c.0 d.2 d.3 ∙ sym (found h.is.number s.setting x k c.0 h.is.used h.is.is_setting s.fits c.1)
