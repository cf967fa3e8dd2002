use Rattle.std.proofs.Common.{ℕ, refl, sym, ◌∙◌, subst, Option}
use Rattle.lft_tag.{specs.{declared.Tag.Tag, Tags.{Before, UpTo}}, proofs.Order.{Before-weaken, UpTo-refl, UpTo-trans}}
use Rattle.lft_rows.proofs.PresenceLemmas.{Lists.not_true, Skips.up_to_stop}
use Rattle.lft_races.specs.Runs.{StartsAt}
use Rattle.lft_facts.{specs.inner.Neighbours.IsNearestStart, proofs.Beside.{tag_here, start_stays, start_kept, start_first, start_here}}
use Rattle.lft_facts.proofs.neighbours.earlier.Goals as goal

pub returns-then-not-is_start_at : goal.returns-then-not-is_start_at
returns-then-not-is_start_at c = start_stays (λ (k : Tag). Before c.args.tag k) (λ (k h : Tag). UpTo h k) c.args.rows.now c.args.reaction c.args.place c.row_at.result c.row_at.ensures c.args.so_far (λ k s q. not_true (sym c.if-not-is_start_at.true ∙ c.is_start_at.ensures.1 (subst (λ (h : Tag). StartsAt c.args.rows.now h c.args.reaction c.args.place) (tag_here (λ (k : Tag). Before c.args.tag k) (λ (k h : Tag). UpTo h k) c.args.rows.now c.args.reaction c.args.place c.row_at.result c.row_at.ensures k s) s))) c.requires.so_far

pub returns-then-not-is_before : goal.returns-then-not-is_before
returns-then-not-is_before c = start_stays (λ (k : Tag). Before c.args.tag k) (λ (k h : Tag). UpTo h k) c.args.rows.now c.args.reaction c.args.place c.row_at.result c.row_at.ensures c.args.so_far (λ k s q. not_true (sym c.if-not-is_before.true ∙ c.is_before.ensures.1 (subst (λ (h : Tag). Before c.args.tag h) (tag_here (λ (k : Tag). Before c.args.tag k) (λ (k h : Tag). UpTo h k) c.args.rows.now c.args.reaction c.args.place c.row_at.result c.row_at.ensures k s) q))) c.requires.so_far

pub returns-then-is_before : goal.returns-then-is_before
returns-then-is_before c = start_here (λ (k : Tag). Before c.args.tag k) (λ (k h : Tag). UpTo h k) c.args.rows.now c.args.reaction c.args.place c.row_at.result c.row_at.ensures UpTo-refl (λ f g h a b. UpTo-trans h g f b a) (c.is_start_at.ensures.0 c.if-not-is_start_at.false) (c.is_before.ensures.0 c.if-not-is_before.false) c.in-Some.run' (Before-weaken c.row_at.result.tag c.in-Some.run'.0 (c.if-is_before.ensures.0 refl)) (subst (λ (o : Option (Tag × ℕ)). IsNearestStart (λ (k : Tag). Before c.args.tag k) (λ (k h : Tag). UpTo h k) c.args.rows.now c.args.reaction c.args.place o) c.in-Some.is c.requires.so_far)

pub returns-else-is_before : goal.returns-else-is_before
returns-else-is_before c = start_kept (λ (k : Tag). Before c.args.tag k) (λ (k h : Tag). UpTo h k) c.args.rows.now c.args.reaction c.args.place c.row_at.result c.row_at.ensures c.in-Some.run' (up_to_stop c.row_at.result.tag c.in-Some.run'.0 (λ b. not_true (c.if-is_before.ensures.1 b))) (subst (λ (o : Option (Tag × ℕ)). IsNearestStart (λ (k : Tag). Before c.args.tag k) (λ (k h : Tag). UpTo h k) c.args.rows.now c.args.reaction c.args.place o) c.in-Some.is c.requires.so_far)

pub returns-in-None : goal.returns-in-None
returns-in-None c = start_first (λ (k : Tag). Before c.args.tag k) (λ (k h : Tag). UpTo h k) c.args.rows.now c.args.reaction c.args.place c.row_at.result c.row_at.ensures UpTo-refl (c.is_start_at.ensures.0 c.if-not-is_start_at.false) (c.is_before.ensures.0 c.if-not-is_before.false) (subst (λ (o : Option (Tag × ℕ)). IsNearestStart (λ (k : Tag). Before c.args.tag k) (λ (k h : Tag). UpTo h k) c.args.rows.now c.args.reaction c.args.place o) c.in-None.is c.requires.so_far)
