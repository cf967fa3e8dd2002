-- Rows at hand behind rows that are done, where no more come: the first breach of all.
use Rattle.std.proofs.Common.{◌≡◌, ℕ, ◌+◌, ◌^◌, ◌<◌, ◌≤◌, ◌⊎◌, inl, inr, List, [], ◌++◌, length, refl, sym, ap, ◌∙◌, subst, arith, Some, None, slice_get}
use Rattle.std.proofs.lemmas.List.{append-nil}
use Rattle.lft_tag.{specs.{declared.Tag.Tag, Tags.{Before, UpTo}}, proofs.Order.{Before-UpTo, UpTo-refl, order_cases}}
use Rattle.lft_lists.proofs.{Members.get_mem, Places.{get_append_cases, get_right, get_there}}
use Rattle.lft_ir.specs.declared.steps.row.Row.{Row}
use Rattle.lft_model.specs.{declared.breach.Breach.Breach, Plans.PlanParts, Presence.stop}
use Rattle.lft_model.specs.Breaches.{BreaksRowUntil, RowBreach, TagBreach, TagOrder, RowOrder, First}
use Rattle.lft_model.proofs.Places.{slice_get_within}
use Rattle.lft_rows.{specs.{inner.{Firsts.FirstRow, Parts.AreEarlier}, Answers.Answers.KeepsRows}, proofs.Together.together}
use Rattle.lft_stream.proofs.{Behind.in_time_added, Settling.{rows_in_time, rows_until}}
use Rattle.lft_monitor.specs.{Sure.IsFirstBefore, declared.{follower.Follower.Follower, judged.Judged.Judged, past.Past.Past}}
use Rattle.lft_monitor.specs.{inner.{Kept.IsPastOfRows, Follows.{AreJudged, done_of, held_of, IsFollowerOf, IsJudgedOf}}, Follows.IsJudged}
use Rattle.lft_monitor.proofs.{Following.judged_so_far, Hand.{breaks_own, breaks_whole, unended_whole}, Rows.breaks_back}

module _ (plan : PlanParts) (d v : List Row) (settled : FirstRow (stop plan d) plan d None) (earlier : AreEarlier d v) where
  abbrev pub all : List Row
  all = d ++ v

  abbrev pub last : Tag
  last = stop plan all

  settled_all : FirstRow last plan d None
  settled_all = rows_until plan d (stop plan d) last (λ i x e. in_time_added plan d v x.tag (λ y m. let p = get_mem y v m in earlier i p.0 x y e p.1) (rows_in_time plan d (stop plan d) settled i x e)) settled

  -- where none of them breaks one of the rules 1 to 5, no row does
  pub keeps_both : FirstRow last plan v None → KeepsRows plan all
  keeps_both kept = together last plan d v settled_all kept earlier

  -- what one of them breaks it breaks in the whole
  in_whole : (j k : ℕ) (x : Row) → BreaksRowUntil last plan v j x k → BreaksRowUntil last plan all (length d + j) x k
  in_whole j k x b = go b
    where
      less : k < 5 → BreaksRowUntil last plan all (length d + j) x k
      less l = breaks_whole plan d v last settled_all j last last (UpTo-refl last) x k l b

      few : (n : ℕ) → k ≡ n → n < 5 → k < 5
      few n is l = omega arith

      go : BreaksRowUntil last plan v j x k → BreaksRowUntil last plan all (length d + j) x k
      go (inl y) = less (few 1 y.0 (omega arith))
      go (inr (inl y)) = less (few 2 y.0 (omega arith))
      go (inr (inr (inl y))) = less (few 3 y.0 (omega arith))
      go (inr (inr (inr (inl y)))) = less (few 4 y.0 (omega arith))
      go (inr (inr (inr (inr y)))) = inr (inr (inr (inr (y.0, unended_whole d v j x y.1))))

  -- the first of them that breaks one is the first of all
  pub first_of_rows : (o : Breach) → FirstRow last plan v (Some o) → First plan all (record o { row = length d + o.row })
  first_of_rows o first = inl (record { place = length d + first.breaks.place; row = first.breaks.row; is_row = get_right d v first.breaks.place ∙ first.breaks.is_row; breaks = in_whole first.breaks.place o.rule first.breaks.row first.breaks.breaks; tag_is = first.breaks.tag_is; reaction_is = first.breaks.reaction_is; row_is = let a : o.row ≡ first.breaks.place + 2 = first.breaks.row_is in omega arith }, λ c b. least c b (get_append_cases d v b.place b.row b.is_row))
    where
      least : (c : Breach) (b : RowBreach plan all c) → (slice_get d b.place ≡ Some b.row) ⊎ ((j : ℕ) × (b.place ≡ length d + j) × (slice_get v j ≡ Some b.row)) → RowOrder (record o { row = length d + o.row }) c
      least c b (inl e) = absurd (settled_all c (record { place = b.place; row = b.row; is_row = e; breaks = breaks_back d v plan last b.place b.row c.rule e b.breaks; tag_is = b.tag_is; reaction_is = b.reaction_is; row_is = b.row_is }))
      least c b (inr (j, q, e)) = go (first.least own (record { place = j; row = b.row; is_row = e; breaks = breaks_own plan d v last settled_all j earlier b.row e last c.rule (subst (λ (n : ℕ). BreaksRowUntil last plan all n b.row c.rule) q b.breaks); tag_is = b.tag_is; reaction_is = b.reaction_is; row_is = refl }))
        where
          own : Breach
          own = record c { row = j + 2 }

          at : c.row ≡ length d + (j + 2)
          at = let a : c.row ≡ b.place + 2 = b.row_is in let p : b.place ≡ length d + j = q in omega arith

          go : (o.row < j + 2) ⊎ ((o.row ≡ j + 2) × (o.rule ≤ c.rule)) → RowOrder (record o { row = length d + o.row }) c
          go (inl l) = let a : c.row ≡ length d + (j + 2) = at in inl (omega arith)
          go (inr (p, r)) = let a : c.row ≡ length d + (j + 2) = at in let s : o.row ≡ j + 2 = p in inr (omega arith, r)

-- what is known of judged rows where the acceptor went on alone
pub still_judged : (plan : PlanParts) (d : List Row) (old new : Judged) → IsJudgedOf plan d old → new.past ≡ old.past → new.count ≡ old.count → AreJudged plan d new
still_judged plan d old new is past count = record { past = subst (λ (p : Past). IsPastOfRows plan d p) (sym past) is.past; counted = count ∙ is.counted; few = subst (λ (n : ℕ). n ≤ 2 ^ 62 + 4000000) (sym count) is.few; rows = is.acceptor.stands.state.settled.rows }

-- the rows that a follower holds are later than those that it has judged
pub hand_later : (plan : PlanParts) (t : List Row) (f : Follower) → IsFollowerOf plan t f → AreEarlier (done_of t f) (held_of f)
hand_later plan t f is i j x y p q =
    let z = get_there (held_of f) 0 (let l : j < length (held_of f) = slice_get_within (held_of f) j y q in omega arith) in
    subst (λ (k : Tag). Before x.tag k) (is.at_one.1 0 z.0 z.1 ∙ sym (is.at_one.1 j y q)) (is.held.earlier z.0 z.1 i x p)

-- the first breach of the rules 6 to 10 before some tag is the first of all, where no row breaks another rule
pub first_of_tags : (plan : PlanParts) (t : List Row) (high : Tag) (b : Breach) → IsFirstBefore plan (t ++ []) high b → KeepsRows plan t → First plan t b
first_of_tags plan t high b before keeps = inr (keeps, first.breaks, least)
  where
    first : IsFirstBefore plan t high b
    first = subst (λ (u : List Row). IsFirstBefore plan u high b) (append-nil t) before

    least : (c : Breach) → TagBreach plan t c → TagOrder b c
    least c x = go (order_cases c.tag high)
      where
        go : Before c.tag high ⊎ UpTo high c.tag → TagOrder b c
        go (inl l) = first.least c x l
        go (inr up) = inl (Before-UpTo b.tag high c.tag first.before up)

-- what is so of the rows at hand behind those that are judged is so of all
pub at_end : (plan : PlanParts) (t : List Row) (f : Follower) → IsFollowerOf plan t f → (s : List Row) → s ≡ held_of f → (P : List Row → Type 0) → ((d : List Row) → IsJudgedOf plan d f.judged → AreEarlier d s → IsJudged plan (d ++ s) f.judged.reach → P (d ++ s)) → P t
at_end plan t f is s rows P ends = subst P same (ends (done_of t f) is.held.judged (subst (λ (u : List Row). AreEarlier (done_of t f) u) (sym rows) (hand_later plan t f is)) (subst (λ (u : List Row). IsJudged plan u f.judged.reach) (sym same) (judged_so_far plan t f is)))
  where
    same : done_of t f ++ s ≡ t
    same = ap (λ (u : List Row). done_of t f ++ u) rows ∙ sym is.parts
