-- Rows of lines that are read to their place, behind those that a follower holds.
use Rattle.std.proofs.Common.{◌≡◌, ◌∙◌, ℕ, List, ◌++◌, take, refl, sym, ap, subst}
use Rattle.std.specs.Global.{Vec}
use Rattle.lft_ir.specs.{Parts.Parts, declared.steps.row.Row.Row}
use Rattle.lft_model.{specs.{Fitting.EachFits, Plans.PlanParts}, proofs.Places.slice_get_take}
use Rattle.lft_monitor.{specs.{declared.follower.Follower.Follower, inner.Follows.{HasGonePast, IsFollowerOf, next_of}}, proofs.Following.more_next}

-- the first of rows fit
pub each_first : (program : Parts) (t : List Row) (n : ℕ) → EachFits program t → EachFits program (take n t)
each_first program t n fits i row q = fits i row (slice_get_take n t i row q).1

-- the follower with other rows
abbrev pub with_rows : Follower → Vec Row → Follower
with_rows f v = record f { rows = v }

module _ (old : PlanParts) (t read : List Row) (f : Follower) (v : Vec Row) (rows_are : v.items ≡ f.rows.items ++ read) (is : HasGonePast old t f) where
  -- it goes past these next
  pub read_behind : IsFollowerOf old t (with_rows f v)
  read_behind = (more_next old t read f (with_rows f v) refl refl refl rows_are is.0).0

  pub next_read : next_of (with_rows f v) ≡ read
  next_read = (more_next old t read f (with_rows f v) refl refl refl rows_are is.0).1 ∙ ap (λ (u : List Row). u ++ read) is.1

  -- the external inputs among them are told, and the rows behind those that are taken are left out
  module _ (new : PlanParts) (n : ℕ) (told cut : Follower) (stands : (u : List Row) → IsFollowerOf old u (with_rows f v) → IsFollowerOf new u told) (same : next_of told ≡ next_of (with_rows f v)) (left : next_of cut ≡ take n (next_of told)) (stays : (p : PlanParts) (u : List Row) → IsFollowerOf p u told → IsFollowerOf p u cut) where
    pub cut_behind : IsFollowerOf new t cut
    cut_behind = stays new t (stands t read_behind)

    pub next_cut : next_of cut ≡ take n read
    next_cut = left ∙ ap (λ (u : List Row). take n u) (same ∙ next_read)

    pub cut_fit : new.program ≡ old.program → EachFits old.program read → EachFits new.program (next_of cut)
    cut_fit program fits = subst (λ (u : List Row). EachFits new.program u) (sym next_cut) (each_first new.program read n (subst (λ (p : Parts). EachFits p read) (sym program) fits))
