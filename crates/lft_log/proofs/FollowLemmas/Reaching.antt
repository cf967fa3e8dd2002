-- What is told of a log while it comes, over more bytes.
use Rattle.std.proofs.Common.{◌≡◌, ◌<◌, ◌≤◌, ◌/◌, ◌*◌, ℕ, Bool, true, false, Result, Ok, Err, List, [], ◌∷◌, ◌++◌, inl, inr, Option, length, append-nil, refl, sym, ap, subst, arith}
use Rattle.std.specs.Prelude.{flat_map}
use Rattle.std.specs.Io.KnownBytes.{Appends}
use Rattle.std.proofs.{KnownBytes.{Appends-kept, Appends-nil, Appends-trans}, Math.Nat.{le-div_iff_mul-le, le_refl}}
use Rattle.std.proofs.lemmas.{Grind.flat_map-append, List.{take_all, Elements.{All-append, All-cons, All-nil, All-weaker}}}
use Rattle.lft_tag.specs.declared.Tag.{Tag}
use Rattle.lft_trace.specs.declared.log_table.Line.{Line}
use Rattle.lft_ir.specs.declared.steps.row.Row.{Row}
use Rattle.lft_model.specs.Plans.{PlanParts}
use Rattle.lft_load.specs.{Written.AppendsFront, declared.fault.Fault.Fault}
use Rattle.lft_monitor.specs.{inner.Follows.IsFollowerOf, Follows.IsJudged, declared.reach.Reach.Reach}
use Rattle.lft_driver.{specs.inner.Explained.WriteRefusal, proofs.Behind.front_both}
use Rattle.lft_log.specs.{Logs.rows, inner.Told.IsLog, declared.log.Log.Log, Follow.{Lines.unbroken_words, Reaches.{IsReachOf, OfReaches, WritesOrFails}}}
use Rattle.lft_log.proofs.{Finishing.tells_plan, Holding.hold_longer}

-- no line is told
pub none_told : (base : PlanParts) (bytes : List ℕ) (every : ℕ) (P : List ℕ → Type 0) → P [] → OfReaches base bytes every P
none_told base bytes every P p = ([], All-nil (IsReachOf base bytes every), p)

-- one is
pub one_told : (base : PlanParts) (bytes : List ℕ) (every : ℕ) (r : Reach) (P : List ℕ → Type 0) → IsReachOf base bytes every r → P (unbroken_words r) → OfReaches base bytes every P
one_told base bytes every r P is p = (r ∷ [], All-cons (IsReachOf base bytes every) r [] is (All-nil (IsReachOf base bytes every)), subst P (sym (append-nil (unbroken_words r))) p)

-- nothing is written where nothing is told
pub writes_none : {X : Type 0} (r : Result X Fault) (o : Option (List ℕ)) → WritesOrFails r o o []
writes_none (Ok x) o = Appends-nil o
writes_none (Err f) o = ((λ n. Appends-nil o), (0, Appends-nil o))

-- a log that has rows has its header
pub is_begun : (base plan : PlanParts) (until : Option Tag) (bytes : List ℕ) (log : Log) → IsLog base plan until bytes log → 0 < log.rows → log.is_begun ≡ true
is_begun base plan until bytes log is some = go log.is_begun refl
  where
    go : (b : Bool) → log.is_begun ≡ b → log.is_begun ≡ true
    go true e = e
    go false e =
        let none : length (rows is.kept.lines) ≡ 0 = ap (λ (l : List Line). length (rows l)) (is.kept.fresh e).1 in
        let counted = is.kept.counted in
        absurd (omega (arith, none, counted, some))

-- how far the rows of a log are judged
pub reach_of : (base plan : PlanParts) (until : Option Tag) (bytes : List ℕ) (every : ℕ) (log : Log) (r : Reach) → IsLog base plan until bytes log → ((t : List Row) → IsFollowerOf plan t log.follower → IsJudged plan t r) → 0 < every → 0 < log.rows / every → IsReachOf base bytes every r
reach_of base plan until bytes every log r is judged asked some = record {
  plan = plan;
  t = rows is.kept.lines;
  others = [];
  rest = log.rest.items;
  tells = tells_plan base plan until bytes log.rest.items log.rest.items log is.kept (is.kept.begun (is_begun base plan until bytes log is (omega (arith, least, asked))));
  judged = judged (rows is.kept.lines) is.kept.follower.0;
  asked = asked;
  many = many;
}
  where
    least : 1 * every ≤ log.rows
    least = (le-div_iff_mul-le asked).0 some

    many : every ≤ length (rows is.kept.lines)
    many = let n = is.kept.counted in omega (arith, least, n)

-- of more bytes it is so still
reach_longer : (base : PlanParts) (bytes more : List ℕ) (every : ℕ) (r : Reach) → IsReachOf base bytes every r → IsReachOf base (bytes ++ more) every r
reach_longer base bytes more every r is = record {
  plan = is.plan;
  t = is.t;
  others = is.others;
  rest = is.rest ++ more;
  tells = record {
    lines = is.tells.lines;
    held = hold_longer base.program bytes is.rest more is.tells.lines is.others is.tells.held;
    rows_are = is.tells.rows_are;
    timely = is.tells.timely;
    told = is.tells.told;
  };
  judged = is.judged;
  asked = is.asked;
  many = is.many;
}

pub longer : (base : PlanParts) (bytes more : List ℕ) (every : ℕ) (P : List ℕ → Type 0) → OfReaches base bytes every P → OfReaches base (bytes ++ more) every P
longer base bytes more every P (rs, each, p) = (rs, All-weaker (IsReachOf base bytes every) (IsReachOf base (bytes ++ more) every) (λ r. reach_longer base bytes more every r) rs each, p)

-- some lines and then others
writes_both : {X : Type 0} (r : Result X Fault) (old mid new : Option (List ℕ)) (a b : List ℕ) → Appends old mid a → WritesOrFails r mid new b → WritesOrFails r old new (a ++ b)
writes_both (Ok x) old mid new a b first more = Appends-trans old mid new a b first more
writes_both (Err f) old mid new a b first more =
    let both = front_both (λ x. x ≡ b) (λ x. x ≡ a ++ b) a (λ x e. ap (λ y. a ++ y) e) old mid new first b refl more.1 in
    ((λ n. Appends-trans old mid new a b first (more.0 n)), subst (AppendsFront old new) both.1 both.2)

pub told_both : {X : Type 0} (r : Result X Fault) (base : PlanParts) (bytes piece : List ℕ) (every : ℕ) (old mid new : Option (List ℕ)) → OfReaches base bytes every (Appends old mid) → OfReaches base (bytes ++ piece) every (WritesOrFails r mid new) → OfReaches base (bytes ++ piece) every (WritesOrFails r old new)
told_both r base bytes piece every old mid new first (bs, more, q) =
    let x = longer base bytes piece every (Appends old mid) first in (
      x.0 ++ bs,
      All-append (IsReachOf base (bytes ++ piece) every) x.0 bs x.1 more,
      subst (WritesOrFails r old new) (sym (flat_map-append unbroken_words x.0 bs)) (writes_both r old mid new (flat_map unbroken_words x.0) (flat_map unbroken_words bs) x.2 q),
    )

-- nothing was written, and nothing was told
pub none_written : {X : Type 0} (r : Result X Fault) (base : PlanParts) (bytes : List ℕ) (every : ℕ) (o : Option (List ℕ)) → OfReaches base bytes every (WritesOrFails r o o)
none_written r base bytes every o = none_told base bytes every (WritesOrFails r o o) (writes_none r o)

-- what was written so far is all, whatever the answer
pub told_all : {X : Type 0} (r : Result X Fault) (base : PlanParts) (bytes : List ℕ) (every : ℕ) (old new : Option (List ℕ)) → OfReaches base bytes every (Appends old new) → OfReaches base bytes every (WritesOrFails r old new)
told_all (Ok x) base bytes every old new told = told
told_all (Err f) base bytes every old new (rs, each, p) = (rs, each, ((λ n. p), all))
  where
    all : AppendsFront old new (flat_map unbroken_words rs)
    all = (length (flat_map unbroken_words rs), subst (Appends old new) (sym (take_all (length (flat_map unbroken_words rs)) (flat_map unbroken_words rs) (le_refl _))) p)

-- a line that wasn't written: nothing of it was, or a front
pub told_cut : (X : Type 0) (base : PlanParts) (bytes : List ℕ) (every : ℕ) (r : Reach) (old new : Option (List ℕ)) (f : Fault) → IsReachOf base bytes every r → WriteRefusal (λ text. text ≡ unbroken_words r) old new f → OfReaches base bytes every (WritesOrFails {X = X} (Err f) old new)
told_cut X base bytes every r old new f is (inl x) =
    let none = Appends-kept old old new [] (Appends-nil old) x.2 in
    none_told base bytes every (WritesOrFails {X = X} (Err f) old new) ((λ n. none), (0, none))
told_cut X base bytes every r old new f is (inr (p, n, (text, e, front))) = one_told base bytes every r (WritesOrFails {X = X} (Err f) old new) is ((λ other. absurd (other p)), subst (AppendsFront old new) e front)

-- what is more than some number isn't 0
pub some_more : (a b : ℕ) → a < b → 0 < b
some_more a b l = omega (arith, l)
