use Rattle.std.proofs.Common.{◌++◌, ◌∷◌, inl, inr, ℕ, List, [], refl, subst, sym}
use Rattle.std.proofs.lemmas.{Bool.false≢true, Result.{IfOk-weaker, IfErr-weaker}}
use Rattle.lft_log.specs.{Logs.{HasNoEnd, IsWholeLine}, Told.{IsEnded, TellsOpen}, declared.told.Final.{Final, TheVariants.Soon}}
use Rattle.lft_log.proofs.{Finishing.{ended_left, ended_whole, has_last, open_left, open_whole, some_bytes}, Pieces.log_again}
use Rattle.lft_log.proofs.log.Log.finish.Goals as goal

pub returns-then-not-is_whole-clause-ended : goal.returns-then-not-is_whole-clause-ended
returns-then-not-is_whole-clause-ended c = IfOk-weaker c.told_at_end.result _ _ (λ e final base until bytes is.
    let left = subst (λ (x : List ℕ). ¬ IsWholeLine x) c.as_slice.ensures.value (λ whole. false≢true (c.if-not-is_whole.ensures.1 whole)) in
    ended_left base until c.args.whole bytes e.told (c.args.self.now.rest.items, has_last base c.args.plan.now until bytes c.args.self.now is, left) (final base until bytes is)) c.told_at_end.ensures.ended

pub returns-then-not-is_whole-clause-fault : goal.returns-then-not-is_whole-clause-fault
returns-then-not-is_whole-clause-fault c = IfErr-weaker c.told_at_end.result _ _ (λ f no_header base until bytes is.
    let left = subst (λ (x : List ℕ). ¬ IsWholeLine x) c.as_slice.ensures.value (λ whole. false≢true (c.if-not-is_whole.ensures.1 whole)) in
    let none = subst HasNoEnd (sym (is.kept.fresh no_header.1).0) is.open_line in
    inr ((c.args.self.now.rest.items, has_last base c.args.plan.now until bytes c.args.self.now is, left), none, no_header.0)) c.told_at_end.ensures.fault

pub told_at_end-requires-in-Ok-None : goal.told_at_end-requires-in-Ok-None
told_at_end-requires-in-Ok-None c =
    let whole = rw c.in-Ok-None.field-0-is at (c.in-Ok-None.ensures.told c.requires.0 c.requires.1 c.requires.2 c.requires.3) in
    (c.requires.0, c.requires.1, c.requires.2 ++ 10 ∷ [], log_again c.requires.0 c.add_whole.new.plan c.requires.1 (c.requires.2 ++ 10 ∷ []) c.add_whole.new.self whole)

pub returns-in-Ok-None-clause-ended : goal.returns-in-Ok-None-clause-ended
returns-in-Ok-None-clause-ended c = IfOk-weaker c.told_at_end-in-Ok-None.result _ _ (λ e final base until bytes is.
    let last = subst (λ (x : List ℕ). IsWholeLine x) c.as_slice.ensures.value (c.if-not-is_whole.ensures.0 refl) in
    let whole = rw c.in-Ok-None.field-0-is at (c.in-Ok-None.ensures.told base until bytes is) in
    ended_whole base until c.args.whole bytes e.told (c.args.self.now.rest.items, has_last base c.args.plan.now until bytes c.args.self.now is, last) (final base until (bytes ++ 10 ∷ []) (log_again base c.add_whole.new.plan until (bytes ++ 10 ∷ []) c.add_whole.new.self whole))) c.told_at_end-in-Ok-None.ensures.ended

pub returns-in-Ok-None-clause-fault : goal.returns-in-Ok-None-clause-fault
returns-in-Ok-None-clause-fault c = IfErr-weaker c.told_at_end-in-Ok-None.result _ _ (λ f no_header base until bytes is.
    let whole = rw c.in-Ok-None.field-0-is at (c.in-Ok-None.ensures.told base until bytes is) in
    absurd (some_bytes bytes 10 (whole.0.fresh no_header.1).0)) c.told_at_end-in-Ok-None.ensures.fault

pub returns-in-Err-clause-fault : goal.returns-in-Err-clause-fault
returns-in-Err-clause-fault c = λ base until bytes is.
    let last = subst (λ (x : List ℕ). IsWholeLine x) c.as_slice.ensures.value (c.if-not-is_whole.ensures.0 refl) in
    inl ((c.args.self.now.rest.items, has_last base c.args.plan.now until bytes c.args.self.now is, last), c.in-Err.ensures.fault base until bytes is)

pub returns-in-Ok-Some-clause-ended : goal.returns-in-Ok-Some-clause-ended
returns-in-Ok-Some-clause-ended c = λ base until bytes is.
    let last = subst (λ (x : List ℕ). IsWholeLine x) c.as_slice.ensures.value (c.if-not-is_whole.ensures.0 refl) in
    subst (λ (t : Final). IsEnded base until c.args.whole bytes t) (sym c.soon.ensures) (ended_whole base until c.args.whole bytes (Soon c.in-Ok-Some.told) (c.args.self.now.rest.items, has_last base c.args.plan.now until bytes c.args.self.now is, last) (rw c.in-Ok-Some.field-0-is at (c.in-Ok-Some.ensures.told base until bytes is)))

pub returns-then-not-is_whole-clause-still_open : goal.returns-then-not-is_whole-clause-still_open
returns-then-not-is_whole-clause-still_open c = IfOk-weaker c.told_at_end.result _ _ (λ e still base until bytes is.
    let left = subst (λ (x : List ℕ). ¬ IsWholeLine x) c.as_slice.ensures.value (λ whole. false≢true (c.if-not-is_whole.ensures.1 whole)) in
    open_left base bytes e.told e.still_open (c.args.self.now.rest.items, has_last base c.args.plan.now until bytes c.args.self.now is, left) (still base until bytes is)) c.told_at_end.ensures.still_open

pub returns-in-Ok-None-clause-still_open : goal.returns-in-Ok-None-clause-still_open
returns-in-Ok-None-clause-still_open c = IfOk-weaker c.told_at_end-in-Ok-None.result _ _ (λ e still base until bytes is.
    let last = subst (λ (x : List ℕ). IsWholeLine x) c.as_slice.ensures.value (c.if-not-is_whole.ensures.0 refl) in
    let whole = rw c.in-Ok-None.field-0-is at (c.in-Ok-None.ensures.told base until bytes is) in
    open_whole base bytes e.told e.still_open (c.args.self.now.rest.items, has_last base c.args.plan.now until bytes c.args.self.now is, last) (still base until (bytes ++ 10 ∷ []) (log_again base c.add_whole.new.plan until (bytes ++ 10 ∷ []) c.add_whole.new.self whole))) c.told_at_end-in-Ok-None.ensures.still_open

pub returns-in-Ok-Some-clause-still_open : goal.returns-in-Ok-Some-clause-still_open
returns-in-Ok-Some-clause-still_open c = λ base until bytes is. subst (λ (t : Final). TellsOpen base bytes t c.soon.result.still_open) (sym c.soon.ensures) tt
