use Rattle.std.proofs.Common.{◌≡◌, ◌+◌, ◌∷◌, ◌++◌, [], ℕ, List, Some, take, refl, sym, ap, ◌∙◌, subst, arith, append_assoc, slice_get}
use Rattle.std.proofs.lemmas.{List.{append-nil, take_all}, Option.get_or_from_slice_get}
use Rattle.lft_tag.specs.{declared.Tag.Tag, Tags.UpTo}
use Rattle.lft_lists.proofs.Picked.{take_one_more}
use Rattle.lft_ir.specs.declared.steps.row.Row.{Row}
use Rattle.lft_model.proofs.Places.{slice_get_take}
use Rattle.lft_queue.specs.inner.Coming.{Coming.IsClear, Unread.{UnreadParts, AreUnread, AreFree}}
use Rattle.lft_queue.proofs.ComingLemmas.Meeting.{all_up_to, unread_nothing, free_all, free_none, free_more}
use Rattle.lft_queue.proofs.coming.unread.UnreadPorts.pass_all.Goals as goal

pub loop-place-init : goal.loop-place-init
loop-place-init c = record { any = ap (λ (u : UnreadParts). u.any) (sym c.self.view_is) ∙ c.if-not-self.false; soonest = refl; written = refl; passed = λ t before are. (subst (λ (s : List Row). AreUnread c.args.program.now s c.args.self.now) (sym (append-nil t)) are, λ h clear. free_none c.args.program.now t c.args.tag h) }

pub loop-place-preserved : goal.loop-place-preserved
loop-place-preserved c =
    let program = c.args.program.now in
    let rows = c.args.rows.now in
    let i = c.loop-place.place in
    let row = c.row_at.result in
    let tag = c.args.tag in
    let here : row.tag ≡ tag = c.requires.at i row c.row_at.ensures in
    let next : take (i + 1) rows ≡ take i rows ++ row ∷ [] = take_one_more rows i row c.loop-place-test.true (get_or_from_slice_get rows i row row c.row_at.ensures) in
    let step = c.pass-met.ensures in
    record {
      any = step.any;
      soonest = step.soonest ∙ c.loop-place.invariant.soonest;
      written = step.written ∙ c.loop-place.invariant.written;
      passed = λ t before are.
          let so = c.loop-place.invariant.passed t before are in
          let up : (j : ℕ) (x : Row) → slice_get (t ++ take i rows) j ≡ Some x → UpTo x.tag row.tag = λ j x e. subst (λ (k : Tag). UpTo x.tag k) (sym here) (all_up_to t (take i rows) tag before (λ m y f. c.requires.at m y (slice_get_take i rows m y f).1) j x e) in
          let unread : AreUnread program ((t ++ take i rows) ++ row ∷ []) c.pass-met.new.self = step.unread (t ++ take i rows) up so.0 in
          let free : (h : Tag) → IsClear c.earlier_of-clash.result h → AreFree program t (take i rows ++ row ∷ []) tag h = λ h clear. (let both = (c.earlier_of-clash.ensures.clear h).0 clear in free_more program t (take i rows) tag h row before here (so.1 h both.0) (λ o v s. step.free (t ++ take i rows) o v h both.1 up so.0 s)) in
          (subst (λ (s : List Row). AreUnread program s c.pass-met.new.self) (append_assoc t (take i rows) (row ∷ []) ∙ ap (λ (s : List Row). t ++ s) (sym next)) unread, λ h clear. subst (λ (s : List Row). AreFree program t s tag h) (sym next) (free h clear));
    }

pub returns-clause-unread : goal.returns-clause-unread
returns-clause-unread c = λ t before are. subst (λ (s : List Row). AreUnread c.args.program.now (t ++ s) c.loop-place.self) (take_all c.loop-place.place c.args.rows.now (let a = c.loop-place-test.false in omega arith)) ((c.loop-place.invariant.passed t before are).0)

pub returns-clause-free : goal.returns-clause-free
returns-clause-free c = λ t h clear before are. subst (λ (s : List Row). AreFree c.args.program.now t s c.args.tag h) (take_all c.loop-place.place c.args.rows.now (let a = c.loop-place-test.false in omega arith)) ((c.loop-place.invariant.passed t before are).1 h clear)

pub returns-then-not-self-clause-unread : goal.returns-then-not-self-clause-unread
returns-then-not-self-clause-unread c = λ t before are. unread_nothing t c.args.rows.now c.args.program.now c.args.self.now (ap (λ (u : UnreadParts). u.any) (sym c.self.view_is) ∙ c.if-not-self.true) are

pub returns-then-not-self-clause-free : goal.returns-then-not-self-clause-free
returns-then-not-self-clause-free c = λ t h clear before are. free_all c.args.program.now t c.args.rows.now c.args.tag h c.args.self.now c.requires.fit (ap (λ (u : UnreadParts). u.any) (sym c.self.view_is) ∙ c.if-not-self.true) are
