-- What is told behind the marked line.
use Rattle.std.proofs.Common.{◌≡◌, ℕ, ◌≤◌, Bool, true, false, List, [], ◌++◌, append-nil, length, Option, None, refl, sym, ap, subst, ◌∙◌, arith, cond, inl}
use Rattle.std.specs.Prelude.{nat_lt}
use Rattle.std.{specs.List.All, proofs.lemmas.{Bool.Decides.nat_tests, List.Elements.{All-nil, All-weaker}}}
use Rattle.lft_ir.proofs.WordsLemmas.Steps.{also}
use Rattle.lft_text_diagnostics.specs.{Candidates.{CanStandAt, IsHelp, IsLeftOut, IsWholeHelp, could_words}, inner.Candidates.few, Quotes.way_through_words}
use Rattle.lft_text_diagnostics.specs.{Told.{IsToldAt, SaysAt}, declared.{refusal.TextRefusal.TextRefusal, candidate.Candidate.Candidate}}

-- ---- few candidates

few_if : (P : Candidate → Type 0) (b : Bool) (candidates : List Candidate) → All P candidates → All P (cond b [] candidates)
few_if P true candidates each = All-nil P
few_if P false candidates each = each

pub all_few : (P : Candidate → Type 0) (most : ℕ) (candidates : List Candidate) → All P candidates → All P (few most candidates)
all_few P most candidates each = few_if P (nat_lt most (length candidates)) candidates each

pub few_all : (most : ℕ) (candidates : List Candidate) → length candidates ≤ most → few most candidates ≡ candidates
few_all most candidates le = let t : nat_lt most (length candidates) ≡ false = grind (arith, nat_tests) in rw t refl

-- ---- help

module _ (Can : Candidate → Type 0) where
  -- a text ends with help
  abbrev pub PutsHelp : List ℕ → List ℕ → Type 0
  PutsHelp old new = (help : List ℕ) × IsHelp Can help × (new ≡ old ++ help)

  pub helps : (candidates : List Candidate) → All Can candidates → (way : Option (List ℕ)) (old mid new : List ℕ) → mid ≡ old ++ could_words candidates → new ≡ mid ++ way_through_words way → PutsHelp old new
  helps candidates each way old mid new e f = (could_words candidates ++ way_through_words way, (candidates, each, (way, refl)), also old mid new (could_words candidates) (way_through_words way) e f)

  pub helps_by_way : (way : Option (List ℕ)) (old new : List ℕ) → new ≡ old ++ way_through_words way → PutsHelp old new
  helps_by_way way old new f = helps [] (All-nil Can) way old old new (sym (append-nil old)) f

  pub helps_by_list : (candidates : List Candidate) → All Can candidates → (old new : List ℕ) → new ≡ old ++ could_words candidates → PutsHelp old new
  helps_by_list candidates each old new e = helps candidates each None old new new e (sym (append-nil new))

  -- and with what is left out further on
  abbrev pub PutsAll : List ℕ → List ℕ → Type 0
  PutsAll old new = (help : List ℕ) × IsWholeHelp Can help × (new ≡ old ++ help)

  pub puts_all : (old mid new : List ℕ) → PutsHelp old mid → (more : List ℕ) × IsLeftOut more × (new ≡ mid ++ more) → PutsAll old new
  puts_all old mid new h l = (h.0 ++ l.0, (h.0, h.1, (l.0, l.1, refl)), also old mid new h.0 l.0 h.2 l.2)

  pub puts_help : (old new : List ℕ) → PutsHelp old new → PutsAll old new
  puts_help old new h = puts_all old new new h ([], inl refl, sym (append-nil new))

-- what is told where the help stands in a text of its own
pub told_at : (t : List ℕ) (r : TextRefusal) (help words : List ℕ) → SaysAt t r help words → (Can : Candidate → Type 0) → ((x : Candidate) → Can x → CanStandAt t r.why x) → (old new : List ℕ) → old ≡ [] → PutsAll Can old new → help ≡ new → IsToldAt t r words
told_at t r help words says Can so old new empty puts same =
    let each = All-weaker Can (CanStandAt t r.why) so puts.1.1.0 puts.1.1.1 in
    (puts.0, (puts.1.0, (puts.1.1.0, each, puts.1.1.2), puts.1.2), subst (λ s. SaysAt t r s words) (same ∙ puts.2 ∙ ap (λ s. s ++ puts.0) empty) says)
