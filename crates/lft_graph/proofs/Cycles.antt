-- A causality loop is a reaction that precedes itself, and where there are levels there is none.
use Rattle.std.proofs.Common.{◌≡◌, ℕ, zero, suc, ◌+◌, ◌-◌, ◌<◌, ◌⊎◌, inl, inr, List, length, sym, ◌∙◌, subst, arith, Some, slice_get}
use Rattle.std.proofs.lemmas.Option.{slice_get_within}
use native.Mathlib.Decide.{dec_lt}
use Rattle.lft_ir.specs.Parts.{Parts}
use Rattle.lft_graph.{specs.{Precedence.{Direct, Precedes, HasNoLoop, IsLevelled, Precedes.{one, more}}, Loops.IsLoop}, proofs.Chains.snoc}
use Rattle.lft_lists.proofs.Places.{get_there}

-- what precedes is a reaction
pub from_there : (program : Parts) (a r : ℕ) → Direct program a r → a < length program.reactions
from_there program a r (inl d) = slice_get_within program.reactions a d.first d.is_first
from_there program a r (inr d) = slice_get_within program.reactions a d.writer d.is_writer

rises : (program : Parts) (w : IsLevelled program) (a b : ℕ) → Precedes program a b → w.level a < w.level b
rises program w a b (one d) = w.rises a b d
rises program w a b (more {b = m} d p) = let l : w.level a < w.level m = w.rises a m d in let k : w.level m < w.level b = rises program w m b p in omega arith

pub no_loop : (program : Parts) → IsLevelled program → HasNoLoop program
no_loop program w r p = let l : w.level r < w.level r = rises program w r r p in absurd (omega arith)

module _ (program : Parts) (loop : List ℕ) (is : IsLoop program loop) where
  -- one step more along the loop
  further : (first b a : ℕ) → (first ≡ b) ⊎ Precedes program first b → Direct program b a → (first ≡ a) ⊎ Precedes program first a
  further first b a (inl q) d = inr (one (subst (λ k. Direct program k a) (sym q) d))
  further first b a (inr p) d = inr (snoc program first b a p d)

  step : (i a b : ℕ) → slice_get loop i ≡ Some b → slice_get loop (suc i) ≡ Some a → Direct program b a
  step i a b e f = is.circle.steps i b a e (let k : suc i ≡ i + 1 = omega arith in subst (λ j. slice_get loop j ≡ Some a) k f)

  -- the first precedes each other one
  reached : (i first a : ℕ) → slice_get loop 0 ≡ Some first → slice_get loop i ≡ Some a → (first ≡ a) ⊎ Precedes program first a
  reached zero first a e f = inl (let q : Some first ≡ Some a = sym e ∙ f in cc)
  reached (suc i) first a e f =
      let l : suc i < length loop = slice_get_within loop (suc i) a f in
      let t = get_there loop i (omega arith) in
      further first t.0 a (reached i first t.0 e t.1) (step i a t.0 t.1 f)

  pub is_cycle : (r : ℕ) × Precedes program r r
  is_cycle =
      let some : 0 < length loop = is.circle.some in
      let s = get_there loop 0 some in
      let t = get_there loop (length loop - 1) (omega arith) in
      let last : Direct program t.0 s.0 = is.circle.closes (length loop - 1) t.0 s.0 (omega arith) t.1 s.1 in
      (s.0, closed s.0 t.0 (reached (length loop - 1) s.0 t.0 s.1 t.1) last)
    where
      closed : (a b : ℕ) → (a ≡ b) ⊎ Precedes program a b → Direct program b a → Precedes program a a
      closed a b (inl q) d = one (subst (λ k. Direct program k a) (sym q) d)
      closed a b (inr p) d = snoc program a b a p d

  -- each is a reaction of the program
  pub member_within : (i a : ℕ) → slice_get loop i ≡ Some a → a < length program.reactions
  member_within i a f = go (dec_lt (suc i) (length loop))
    where
      go : Dec (suc i < length loop) → a < length program.reactions
      go (yes l) = let t = get_there loop (suc i) l in from_there program a t.0 (step i t.0 a f t.1)
      go (no n) =
          let l : i < length loop = slice_get_within loop i a f in
          let some : 0 < length loop = omega arith in
          let t = get_there loop 0 some in
          from_there program a t.0 (is.circle.closes i a t.0 (omega arith) f t.1)
