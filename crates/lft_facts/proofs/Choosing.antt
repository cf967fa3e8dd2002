-- Which reaction is named of those that hadn't ended at a start.
use Rattle.std.proofs.Common.{◌≡◌, ◌⊎◌, inl, inr, ℕ, ◌<◌, ◌≤◌, List, take, sym, ap, ◌∙◌, arith, Option, slice_get}
use native.Mathlib.Decide.{ℕ_discrete, dec_lt}
use Rattle.lft_lists.proofs.Places.{Some_same}
use Rattle.lft_tag.specs.declared.Tag.{Tag}
use Rattle.lft_ir.specs.{Parts.Parts, declared.steps.row.{Row.Row, Step.TheVariants.{Start, End}}}
use Rattle.lft_graph.specs.{Graph.{GraphParts, IsGraphOf}, Precedence.Precedes}
use Rattle.lft_model.{specs.{Plans.PlanParts, Runs.{start_row, end_row}}, proofs.{Legality.ended, Places.slice_get_take}}
use Rattle.lft_rows.specs.Answers.Answers.{KeepsRows}
use Rattle.lft_races.{specs.{Runs.{StartsAt, EndsAt}, Races.{EndLater, NotEnded, IsUnfinished}}, proofs.Standing.unfinished_whole}
use Rattle.lft_facts.{specs.{Facts.{IsJustBefore, IsChosen}, inner.Ways.{IsMarked, InList}}, proofs.Upstream.{direct_of, in_list}}

-- what hasn't ended before a start ends behind it, if it ends
pub end_after : (t : List Row) (g h : Tag) (a r start e : ℕ) → StartsAt t h r start → NotEnded t g a start → EndsAt t g a e → start < e
end_after t g h a r start e s u q = go (dec_lt e start) (ℕ_discrete e start)
  where
    go : Dec (e < start) → Dec (e ≡ start) → start < e
    go (yes l) d = absurd (u e l q)
    go (no n) (yes z) =
        let y : end_row q.0 g a ≡ start_row s.0 h r = Some_same (end_row q.0 g a) (start_row s.0 h r) (sym q.1 ∙ ap (slice_get t) z ∙ s.1) in
        let x : End ≡ Start = ap (λ (row : Row). row.step) y in
        absurd (cc)
    go (no n) (no m) = omega arith

-- where no row breaks one of the rules 1 to 5, each run that hasn't ended at a start ends behind it
pub ends_behind_start : (plan : PlanParts) (t : List Row) → KeepsRows plan t → (g : Tag) (a r start : ℕ) → StartsAt t g r start → IsUnfinished t g a start → (i : ℕ) × (start < i) × EndsAt t g a i
ends_behind_start plan t kept g a r start s u =
    let e = ended plan t kept u.ran.place u.ran.worker g a u.ran.starts in
    (e.0, end_after t g g a r start e.0 s u.not_ended (u.ran.worker, e.2), (u.ran.worker, e.2))

-- the same of the rows before a breach, and of a start among them
pub ends_behind_race : (t : List Row) (n : ℕ) → EndLater t n → (g h : Tag) (a r start : ℕ) → start < n → StartsAt t h r start → IsUnfinished (take n t) g a start → (i : ℕ) × (start < i) × EndsAt t g a i
ends_behind_race t n later g h a r start l s u =
    let ran = slice_get_take n t u.ran.place (start_row u.ran.worker g a) u.ran.starts in
    let e = later u.ran.place a g ran.0 (u.ran.worker, ran.1) in
    (e.0, end_after t g h a r start e.0 s (unfinished_whole t n start l g a u).not_ended e.2, e.2)

-- of marked reactions that end behind a start: one just before it, if there is one, and else one that precedes it
module _ (program : Parts) (graph : GraphParts) (is_graph : IsGraphOf program graph) (t rows : List Row) (g : Tag) (a r start : ℕ) (near next : List (Option ℕ)) where
  pub chosen : ((b : ℕ) → IsUnfinished rows g b start → (i : ℕ) × (start < i) × EndsAt t g b i) → ((b : ℕ) → IsUnfinished rows g b start → InList graph b r → IsMarked near b) → ((b : ℕ) → IsMarked near b → InList graph b r) → ((b : ℕ) → IsUnfinished rows g b start → Precedes program b r → IsMarked next b) → ((i b : ℕ) → start < i → EndsAt t g b i → IsMarked near b → IsMarked near a × (a ≤ b)) → ((i b : ℕ) → start < i → EndsAt t g b i → IsMarked next b → IsMarked near a ⊎ (a ≤ b)) → IsChosen program rows g a r start
  chosen behind marked listed all nearest least = record { near = by_near; far = by_far }
    where
      by_near : (b : ℕ) → IsJustBefore program b r → IsUnfinished rows g b start → IsJustBefore program a r × (a ≤ b)
      by_near b j u =
          let i = behind b u in
          let x = nearest i.0 b i.1 i.2 (marked b u (in_list program graph is_graph b r j)) in
          (direct_of program graph is_graph a r (listed a x.0), x.1)

      go : (b : ℕ) → IsMarked near a ⊎ (a ≤ b) → IsJustBefore program a r ⊎ (a ≤ b)
      go b (inl m) = inl (direct_of program graph is_graph a r (listed a m))
      go b (inr l) = inr l

      by_far : (b : ℕ) → Precedes program b r → IsUnfinished rows g b start → IsJustBefore program a r ⊎ (a ≤ b)
      by_far b p u = let i = behind b u in go b (least i.0 b i.1 i.2 (all b u p))
