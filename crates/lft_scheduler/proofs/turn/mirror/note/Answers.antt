use Rattle.std.proofs.Common.{◌≡◌, ◌+◌, ◌++◌, ◌∷◌, [], List, ℕ, sym, ap, subst, arith, slice_set, drop, unwrap_or, Option}
use Rattle.lft_lists.proofs.Places.{get_there}
use Rattle.lft_queue.specs.inner.Coming.NumberLists.{list_at}
use Rattle.lft_scheduler.{specs.inner.Seats.IsNoted, proofs.Mirroring.noted_more}
use Rattle.lft_scheduler.proofs.turn.mirror.note.Goals as goal

pub members-preserved : goal.members-preserved
members-preserved c =
    let i = c.requires.inside c.members.place c.item_at-member.result c.item_at-member.ensures in
    let s = c.members.invariant.as_long in
    let g = get_there c.members.after c.item_at-member.result (omega arith) in
    let q : list_at c.members.after c.item_at-member.result ≡ g.0 = ap (λ (o : Option (List ℕ)). unwrap_or o []) g.1 in
    let m = noted_more c.args.reaction c.members.place c.item_at-member.result c.args.mine.now g.0 c.args.after.now c.members.after c.members.invariant c.item_at-member.ensures g.1 in
    let n = subst (λ (l : List ℕ). IsNoted c.args.reaction c.args.mine.now (drop (c.members.place + 1) c.args.mine.now) c.args.after.now (slice_set c.members.after c.item_at-member.result (l ++ c.args.reaction ∷ []))) (sym q) m in
    subst (λ (ls : List (List ℕ)). IsNoted c.args.reaction c.args.mine.now (drop (c.members.place + 1) c.args.mine.now) c.args.after.now ls) (sym c.in_ok-push.ensures) n
