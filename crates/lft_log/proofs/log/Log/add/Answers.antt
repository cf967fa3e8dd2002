use Rattle.std.proofs.Common.{ℕ, ◌++◌, List, drop, length, refl, slice_range, subst}
use Rattle.std.proofs.lemmas.Result.{IfOk-weaker, IfErr-weaker}
use Rattle.lft_log.specs.{Logs.HasNoEnd, Told.{IsFaultOf, IsSoon}}
use Rattle.lft_log.proofs.{Ends.never_both, Keeping.{fault_longer, long_fault, none_told, soon_longer}, Pieces.{kept_behind, whole_piece}}
use Rattle.lft_log.proofs.log.Log.add.Goals as goal

pub returns-then-end-eq0-clause-told : goal.returns-then-end-eq0-clause-told
returns-then-end-eq0-clause-told c = IfOk-weaker c.keep.result _ _ (λ o told base until bytes is.
    let piece = c.args.piece.now in
    let none = subst (λ (n : ℕ). HasNoEnd (drop n piece)) c.if-end-eq0.true c.whole_lines-end.ensures.rest in
    none_told _ _ o (told base c.args.plan.now until bytes is.kept (never_both 10 c.args.self.now.rest.items piece is.open_line none))) c.keep.ensures.told

pub returns-then-end-eq0-clause-fault : goal.returns-then-end-eq0-clause-fault
returns-then-end-eq0-clause-fault c = IfErr-weaker c.keep.result _ _ (λ f any base until bytes is. any base (bytes ++ c.args.piece.now)) c.keep.ensures.fault

pub returns-in-Ok-None-clause-told : goal.returns-in-Ok-None-clause-told
returns-in-Ok-None-clause-told c = IfOk-weaker c.keep-in-Ok-None.result _ _ (λ o told base until bytes is.
    let piece = c.args.piece.now in
    let end = c.whole_lines-end.result in
    let whole = rw c.in-Ok-None.field-0-is at (c.in-Ok-None.ensures.told base until bytes is) in
    kept_behind base c.add_whole.new.plan until bytes piece end c.add_whole.new.self _ o _ whole c.whole_lines-end.ensures.rest (told base c.add_whole.new.plan until (bytes ++ slice_range piece 0 end))) c.keep-in-Ok-None.ensures.told

pub returns-in-Ok-None-clause-fault : goal.returns-in-Ok-None-clause-fault
returns-in-Ok-None-clause-fault c = IfErr-weaker c.keep-in-Ok-None.result _ _ (λ f any base until bytes is. any base (bytes ++ c.args.piece.now)) c.keep-in-Ok-None.ensures.fault

pub returns-in-Ok-Some-clause-told : goal.returns-in-Ok-Some-clause-told
returns-in-Ok-Some-clause-told c = λ base until bytes is.
    let piece = c.args.piece.now in
    let end = c.whole_lines-end.result in
    let told = rw c.in-Ok-Some.field-0-is at (c.in-Ok-Some.ensures.told base until bytes is) in
    subst (λ (x : List ℕ). IsSoon base until x c.in-Ok-Some.told) (whole_piece bytes piece end) (soon_longer base until (bytes ++ slice_range piece 0 end) (slice_range piece end (length piece)) c.in-Ok-Some.told told)

pub returns-in-Err-clause-fault : goal.returns-in-Err-clause-fault
returns-in-Err-clause-fault c = λ base until bytes is.
    let piece = c.args.piece.now in
    let end = c.whole_lines-end.result in
    subst (λ (x : List ℕ). IsFaultOf base x c.in-Err.fault) (whole_piece bytes piece end) (fault_longer base (bytes ++ slice_range piece 0 end) (slice_range piece end (length piece)) c.in-Err.fault (c.in-Err.ensures.fault base until bytes is))

pub next_line-requires : goal.next_line-requires
next_line-requires c = c.requires.3.kept.few

pub returns-then-is_long-clause-fault : goal.returns-then-is_long-clause-fault
returns-then-is_long-clause-fault c = λ base until bytes is. long_fault base c.args.plan.now until bytes c.args.self.now c.args.piece.now c.next_line.result is c.next_line.ensures.begun c.next_line.ensures.fresh (c.if-is_long.ensures refl is.open_line)
