-- The last writers so far.
use Rattle.std.proofs.Common.{◌≡◌, ℕ, ◌+◌, ◌<◌, ◌≤◌, ◌⊎◌, inl, inr, List, length, sym, ap, ◌∙◌, subst, arith, Option, Some, slice_get, slice_set, Contains}
use Rattle.std.proofs.lemmas.Bool.{cases_lt, cases_eq}
use Rattle.lft_ir.specs.{Parts.Parts, declared.parts.{Reaction.Reaction, Name.{Name, TheVariants.Port}}}
use Rattle.lft_graph.specs.{Before.Writes, inner.Walks.KnowsWriters}
use Rattle.lft_lists.proofs.Places.{contains_at, get_written, get_unwritten, length_written}

-- the effects at the places below one are noted
pub record Noted (effects : List Name) (reaction : ℕ) (old new : List (Option ℕ)) (place : ℕ) : Type 0 where
  pub as_long : length new ≡ length old
  pub noted : (k p : ℕ) → k < place → slice_get effects k ≡ Some (Port p) → slice_get new p ≡ Some (Some reaction)
  pub others : (p : ℕ) → (slice_get new p ≡ slice_get old p) ⊎ (Contains effects (Port p) × (slice_get new p ≡ Some (Some reaction)))

pub noted_port : (effects : List Name) (reaction : ℕ) (old new : List (Option ℕ)) (place q : ℕ) → Noted effects reaction old new place → slice_get effects place ≡ Some (Port q) → q < length new → Noted effects reaction old (slice_set new q (Some reaction)) (place + 1)
noted_port effects reaction old new place q w e l = record {
  as_long = length_written new q (Some reaction) ∙ w.as_long;
  noted = λ k p b f. at k p b f (cases_eq p q);
  others = λ p. other p (cases_eq p q);
}
  where
    here : (p : ℕ) → p ≡ q → slice_get (slice_set new q (Some reaction)) p ≡ Some (Some reaction)
    here p s = ap (slice_get (slice_set new q (Some reaction))) s ∙ get_written new q (Some reaction) l

    at : (k p : ℕ) → k < place + 1 → slice_get effects k ≡ Some (Port p) → (p ≡ q) ⊎ (p ≡ q → ⊥) → slice_get (slice_set new q (Some reaction)) p ≡ Some (Some reaction)
    at k p b f (inl s) = here p s
    at k p b f (inr n) = get_unwritten new q p (Some reaction) n ∙ w.noted k p (below (cases_eq k place)) f
      where
        below : (k ≡ place) ⊎ (k ≡ place → ⊥) → k < place
        below (inl s) = absurd (let g : slice_get effects place ≡ Some (Port p) = subst (λ i. slice_get effects i ≡ Some (Port p)) s f in let x : p ≡ q = cc in n x)
        below (inr m) = omega arith

    other : (p : ℕ) → (p ≡ q) ⊎ (p ≡ q → ⊥) → (slice_get (slice_set new q (Some reaction)) p ≡ slice_get old p) ⊎ (Contains effects (Port p) × (slice_get (slice_set new q (Some reaction)) p ≡ Some (Some reaction)))
    other p (inl s) = inr (contains_at effects place (Port p) (e ∙ ap (λ k. Some (Port k)) (sym s)), here p s)
    other p (inr n) = elim (w.others p) [ inl a ↦ inl (get_unwritten new q p (Some reaction) n ∙ a) | inr a ↦ inr (a.0, get_unwritten new q p (Some reaction) n ∙ a.1) ]

pub noted_other : (effects : List Name) (reaction : ℕ) (old new : List (Option ℕ)) (place : ℕ) → Noted effects reaction old new place → ((p : ℕ) → slice_get effects place ≡ Some (Port p) → ⊥) → Noted effects reaction old new (place + 1)
noted_other effects reaction old new place w n = record {
  as_long = w.as_long;
  noted = λ k p b f. elim (cases_eq k place) [ inl s ↦ absurd (n p (subst (λ i. slice_get effects i ≡ Some (Port p)) s f)) | inr m ↦ w.noted k p (omega arith) f ];
  others = w.others;
}

pub writers_more : (program : Parts) (old new : List (Option ℕ)) (r : ℕ) (x : Reaction) → KnowsWriters program r old → slice_get program.reactions r ≡ Some x → length new ≡ length old → ((p : ℕ) → Contains x.effects (Port p) → slice_get new p ≡ Some (Some r)) → ((p : ℕ) → (slice_get new p ≡ slice_get old p) ⊎ (Contains x.effects (Port p) × (slice_get new p ≡ Some (Some r)))) → KnowsWriters program (r + 1) new
writers_more program old new r x w is same noted others = record {
  as_long = same ∙ w.as_long;
  right = λ p a e. right p a e (others p);
  last = λ p a l u. last p a u (cases_lt a r) l;
}
  where
    right : (p a : ℕ) → slice_get new p ≡ Some (Some a) → (slice_get new p ≡ slice_get old p) ⊎ (Contains x.effects (Port p) × (slice_get new p ≡ Some (Some r))) → Writes program a p
    right p a e (inl s) = w.right p a (sym s ∙ e)
    right p a e (inr s) = let f = s.1 in let q : r ≡ a = cc in subst (λ k. Writes program k p) q (record { writer = x; is_writer = is; is_effect = s.0 })

    old_last : (p a b : ℕ) → a < r → slice_get old p ≡ Some (Some b) → a ≤ b → (slice_get new p ≡ slice_get old p) ⊎ (Contains x.effects (Port p) × (slice_get new p ≡ Some (Some r))) → (b : ℕ) × (slice_get new p ≡ Some (Some b)) × (a ≤ b)
    old_last p a b l e g (inl s) = (b, s ∙ e, g)
    old_last p a b l e g (inr s) = (r, s.1, omega arith)

    last : (p a : ℕ) → Writes program a p → (a < r) ⊎ (r ≤ a) → a < r + 1 → (b : ℕ) × (slice_get new p ≡ Some (Some b)) × (a ≤ b)
    last p a u (inl l) _ = let o = w.last p a l u in old_last p a o.0 l o.1 o.2 (others p)
    last p a u (inr g) l =
        let q : a ≡ r = omega arith in
        let f : slice_get program.reactions a ≡ Some u.writer = u.is_writer in
        let h : slice_get program.reactions a ≡ Some x = subst (λ k. slice_get program.reactions k ≡ Some x) (sym q) is in
        let s : u.writer ≡ x = cc in
        (r, noted p (subst (λ (y : Reaction). Contains y.effects (Port p)) s u.is_effect), omega arith)
