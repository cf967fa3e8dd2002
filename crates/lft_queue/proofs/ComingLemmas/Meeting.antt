-- Writes that meet at ports that no reaction reads.
use Rattle.std.proofs.Common.{◌≡◌, ◌≢◌, ◌⊎◌, inl, inr, ◌<◌, ◌+◌, ℕ, Bool, true, false, List, [], ◌∷◌, ◌++◌, length, replicate, refl, sym, ap, ◌∙◌, subst, arith, Option, Some, None, MatchOption, slice_get, slice_set}
use Rattle.std.proofs.lemmas.{Bool.{cases_eq, false≢true}, Option.none-some}
use Rattle.lft_tag.specs.{declared.{Tag.Tag, Shift.Shift}, Tags.{Before, UpTo}, Shifts.shifted}
use Rattle.lft_tag.proofs.Order.{Before-irrefl, Before-UpTo, UpTo-refl, split_up}
use Rattle.lft_lists.proofs.Places.{get_there, get_same, length_same, get_push, get_last, get_push_cases, get_left, get_append_cases, get_write_cases, length_written, same_at}
use Rattle.lft_ir.specs.Parts.{Parts}
use Rattle.lft_ir.specs.declared.{parts.{Port.Port as PortOf, Value.Value, Name.TheVariants.Port}, steps.row.{Row.Row, Step.{Step, TheVariants.Write}}}
use Rattle.lft_ir.specs.Steps.Fits.{StepFits, RowsFit}
use Rattle.lft_model.{specs.Presence.value_written, proofs.{Places.slice_get_within, Steps.some_written}}
use Rattle.lft_queue.specs.inner.Reading.{is_read}
use Rattle.lft_queue.specs.inner.Coming.Unread.{GoesAsFar, UnreadParts, AreSoonest, IsWrittenAt, IsLastTag, AreUnread, MeetsPastLast, AreFree}
use Rattle.lft_queue.specs.Coming.AtTag.{AreBefore, AreAt}
use Rattle.lft_queue.proofs.{Tests.together, ComingLemmas.Ways.{moved_up, far_trans}}

-- how soon a write arrives, port by port
pub soonest_first : (program : Parts) (n : ℕ) (soonest : List (Option Shift)) → soonest ≡ replicate n None → n ≡ length program.ports → AreSoonest program 0 soonest
soonest_first program n soonest same count = record { as_long = ap length same ∙ length_same n None ∙ count; each = λ p port time l e un some there. absurd (omega (arith, l)) }

module _ (program : Parts) (n : ℕ) (port : PortOf) (here : slice_get program.ports n ≡ Some port) (soonest : List (Option Shift)) (before : AreSoonest program n soonest) where
  same_port : (p : ℕ) (other : PortOf) → p ≡ n → slice_get program.ports p ≡ Some other → other ≡ port
  same_port p other q e = same_at program.ports p n other port e here q

  -- a port that is read, or is reached at once, changes nothing
  pub soonest_stays : (is_read program n ≡ true) ⊎ ¬ (0 < port.shift.time) → AreSoonest program (n + 1) soonest
  soonest_stays why = record { as_long = before.as_long; each = each }
    where
      each : (p : ℕ) (other : PortOf) (time : Option Shift) → p < n + 1 → slice_get program.ports p ≡ Some other → is_read program p ≡ false → 0 < other.shift.time → slice_get soonest other.origin ≡ Some time → MatchOption time ⊥ (λ s. GoesAsFar s other.shift)
      each p other time l e un some there = go (cases_eq p n)
        where
          none : p ≡ n → (is_read program n ≡ true) ⊎ ¬ (0 < port.shift.time) → ⊥
          none q (inl r) = false≢true (sym un ∙ ap (λ (k : ℕ). is_read program k) q ∙ r)
          none q (inr z) = z (subst (λ (x : PortOf). 0 < x.shift.time) (same_port p other q e) some)

          go : (p ≡ n) ⊎ (p ≡ n → ⊥) → MatchOption time ⊥ (λ s. GoesAsFar s other.shift)
          go (inl q) = absurd (none q why)
          go (inr d) = before.each p other time (omega (arith, l, d)) e un some there

  at_most : (s m : Shift) (time : Option Shift) → Some s ≡ time → GoesAsFar s m → MatchOption time ⊥ (λ k. GoesAsFar k m)
  at_most s m time e l = subst (λ (o : Option Shift). MatchOption o ⊥ (λ k. GoesAsFar k m)) e l

  -- another one does where a write arrives there sooner
  pub soonest_set : (old : Option Shift) (s : Shift) → slice_get soonest port.origin ≡ Some old → GoesAsFar s port.shift → MatchOption old (Unit {0}) (λ k. GoesAsFar s k) → AreSoonest program (n + 1) (slice_set soonest port.origin (Some s))
  soonest_set old s there l less = record { as_long = length_written soonest port.origin (Some s) ∙ before.as_long; each = each }
    where
      within : port.origin < length soonest
      within = slice_get_within soonest port.origin old there

      lesser : (o : Option Shift) (m : Shift) → MatchOption o (Unit {0}) (λ k. GoesAsFar s k) → MatchOption o ⊥ (λ k. GoesAsFar k m) → GoesAsFar s m
      lesser None m a b = absurd b
      lesser (Some k) m a b = far_trans s k m a b

      each : (p : ℕ) (other : PortOf) (time : Option Shift) → p < n + 1 → slice_get program.ports p ≡ Some other → is_read program p ≡ false → 0 < other.shift.time → slice_get (slice_set soonest port.origin (Some s)) other.origin ≡ Some time → MatchOption time ⊥ (λ k. GoesAsFar k other.shift)
      each p other time m e un some f = go (cases_eq p n) (get_write_cases soonest port.origin other.origin (Some s) time within f)
        where
          go : (p ≡ n) ⊎ (p ≡ n → ⊥) → ((other.origin ≡ port.origin) × (Some s ≡ time)) ⊎ ((other.origin ≢ port.origin) × (slice_get soonest other.origin ≡ Some time)) → MatchOption time ⊥ (λ k. GoesAsFar k other.shift)
          go (inl q) (inl x) = at_most s other.shift time x.1 (subst (λ (z : PortOf). GoesAsFar s z.shift) (sym (same_port p other q e)) l)
          go (inl q) (inr x) = absurd (x.0 (ap (λ (z : PortOf). z.origin) (same_port p other q e)))
          go (inr d) (inl x) = at_most s other.shift time x.1 (lesser old other.shift less (before.each p other old (omega (arith, m, d)) e un some (ap (λ (k : ℕ). slice_get soonest k) x.0 ∙ there)))
          go (inr d) (inr x) = before.each p other time (omega (arith, m, d)) e un some x.1

-- no row writes anything
pub unread_first : (program : Parts) (n : ℕ) (soonest : List (Option Shift)) (any : Bool) (written : List (Option Tag)) → AreSoonest program (length program.ports) soonest → (any ≡ false → (o : ℕ) (way : Option Shift) → slice_get soonest o ≡ Some way → way ≡ None) → written ≡ replicate n None → n ≡ length program.ports → AreUnread program [] (record { soonest = soonest; any = any; written = written })
unread_first program n soonest any written are none_is same count = record { soonest = are; none = none_is; as_long = ap length same ∙ length_same n None ∙ count; last = λ z. last }
  where
    none : (o : ℕ) (k : Option Tag) → k ≡ None → IsLastTag [] o k
    none o None e = λ g w. absurd (let l : w.place < 0 = slice_get_within [] w.place w.row w.is_row in omega arith)
    none o (Some k) e = absurd (cc)

    last : (o : ℕ) (k : Option Tag) → slice_get written o ≡ Some k → IsLastTag [] o k
    last o k e = none o k (get_same n o None k (ap (λ (ws : List (Option Tag)). slice_get ws o) (sym same) ∙ e))

-- one more row
module _ (t : List Row) (row : Row) where
  pub written_still : (o : ℕ) (g : Tag) → IsWrittenAt t o g → IsWrittenAt (t ++ row ∷ []) o g
  written_still o g w = record { place = w.place; row = w.row; value = w.value; is_row = get_push t row w.place w.row w.is_row; writes = w.writes; tag_is = w.tag_is }

  pub written_here : (o : ℕ) (v : Value) → row.step ≡ Write (Port o) v → IsWrittenAt (t ++ row ∷ []) o row.tag
  written_here o v s = record { place = length t; row = row; value = v; is_row = get_last t row; writes = s; tag_is = refl }

  -- a write is an earlier one, or that of the row
  written_cases : (o : ℕ) (g : Tag) → IsWrittenAt (t ++ row ∷ []) o g → IsWrittenAt t o g ⊎ ((v : Value) × (row.step ≡ Write (Port o) v) × (row.tag ≡ g))
  written_cases o g w = go (get_push_cases t row w.place w.row w.is_row)
    where
      go : (slice_get t w.place ≡ Some w.row) ⊎ ((w.place ≡ length t) × (row ≡ w.row)) → IsWrittenAt t o g ⊎ ((v : Value) × (row.step ≡ Write (Port o) v) × (row.tag ≡ g))
      go (inl e) = inl (record { place = w.place; row = w.row; value = w.value; is_row = e; writes = w.writes; tag_is = w.tag_is })
      go (inr p) = inr (w.value, ap (λ (x : Row). x.step) p.1 ∙ w.writes, ap (λ (x : Row). x.tag) p.1 ∙ w.tag_is)

  -- a row that doesn't write the port leaves what is kept of it
  last_stays : (o : ℕ) (k : Option Tag) → ((v : Value) → row.step ≢ Write (Port o) v) → IsLastTag t o k → IsLastTag (t ++ row ∷ []) o k
  last_stays o None other none = λ g w. go g (written_cases o g w)
    where
      go : (g : Tag) → IsWrittenAt t o g ⊎ ((v : Value) × (row.step ≡ Write (Port o) v) × (row.tag ≡ g)) → ⊥
      go g (inl x) = none g x
      go g (inr x) = other x.0 x.1
  last_stays o (Some k) other last = (written_still o k last.0, λ g w. go g (written_cases o g w))
    where
      go : (g : Tag) → IsWrittenAt t o g ⊎ ((v : Value) × (row.step ≡ Write (Port o) v) × (row.tag ≡ g)) → UpTo g k
      go g (inl x) = last.1 g x
      go g (inr x) = absurd (other x.0 x.1)

  pub unread_stays : (program : Parts) (unread : UnreadParts) → ((p : ℕ) → value_written p row.step ≡ None) → AreUnread program t unread → AreUnread program (t ++ row ∷ []) unread
  unread_stays program unread none are = record { soonest = are.soonest; none = are.none; as_long = are.as_long; last = λ z o k e. last_stays o k (λ v s. none-some v (sym (none o) ∙ ap (λ (z : Step). value_written o z) s ∙ some_written o v)) (are.last z o k e) }

  -- a row that writes a port
  module _ (program : Parts) (o : ℕ) (v : Value) (step : row.step ≡ Write (Port o) v) (earlier : (i : ℕ) (x : Row) → slice_get t i ≡ Some x → UpTo x.tag row.tag) (soonest : List (Option Shift)) (any : Bool) (written : List (Option Tag)) (some : any ≡ true) (within : o < length program.ports) (are : AreUnread program t (record { soonest = soonest; any = any; written = written })) where
    no_later : (g : Tag) → IsWrittenAt t o g → UpTo g row.tag
    no_later g w = subst (λ (k : Tag). UpTo k row.tag) w.tag_is (earlier w.place w.row w.is_row)

    pub unread_set : AreUnread program (t ++ row ∷ []) (record { soonest = soonest; any = any; written = slice_set written o (Some row.tag) })
    unread_set = record { soonest = are.soonest; none = are.none; as_long = length_written written o (Some row.tag) ∙ are.as_long; last = λ z. last }
      where
        own : IsLastTag (t ++ row ∷ []) o (Some row.tag)
        own = (written_here o v step, λ g w. go g (written_cases o g w))
          where
            go : (g : Tag) → IsWrittenAt t o g ⊎ ((w : Value) × (row.step ≡ Write (Port o) w) × (row.tag ≡ g)) → UpTo g row.tag
            go g (inl x) = no_later g x
            go g (inr x) = subst (λ (k : Tag). UpTo k row.tag) x.2 (UpTo-refl row.tag)

        last : (q : ℕ) (k : Option Tag) → slice_get (slice_set written o (Some row.tag)) q ≡ Some k → IsLastTag (t ++ row ∷ []) q k
        last q k e = go (get_write_cases written o q (Some row.tag) k (let a = are.as_long in omega (arith, within, a)) e)
          where
            go : ((q ≡ o) × (Some row.tag ≡ k)) ⊎ ((q ≢ o) × (slice_get written q ≡ Some k)) → IsLastTag (t ++ row ∷ []) q k
            go (inl x) = subst (λ (z : Option Tag). IsLastTag (t ++ row ∷ []) q z) x.1 (subst (λ (z : ℕ). IsLastTag (t ++ row ∷ []) z (Some row.tag)) (sym x.0) own)
            go (inr x) = last_stays q k (λ w s. x.0 (let both : Write (Port o) v ≡ Write (Port q) w = sym step ∙ s in let same : o ≡ q = cc in sym same)) (are.last some q k x.1)

    -- where the test says so, it is free of earlier ones, or the port is written at the tag already
    module _ (last : Tag) (test : (s : Shift) (k : Tag) → slice_get soonest o ≡ Some (Some s) → slice_get written o ≡ Some (Some k) → k.time ≡ row.tag.time → k.micro ≢ row.tag.micro → Before last (shifted row.tag (s.time, s.steps))) where
      -- an earlier tag of the same time
      other_micro : (k g : Tag) → Before k g → k.time ≡ g.time → k.micro ≢ g.micro
      other_micro k g (inl l) e m = omega (arith, l, e)
      other_micro k g (inr p) e m = let l : k.micro < g.micro = p.1 in omega (arith, l, m)

      between : (h k g : Tag) → UpTo h k → Before k g → h.time ≡ g.time → k.time ≡ g.time
      between h k g (inl l) (inl m) e = absurd (omega (arith, l, m, e))
      between h k g (inl l) (inr m) e = m.0
      between h k g (inr l) (inl m) e = let z : h.time ≡ k.time = l.0 in absurd (omega (arith, z, m, e))
      between h k g (inr l) (inr m) e = m.0

      free_of : (k : Tag) → slice_get written o ≡ Some (Some k) → ((g : Tag) → IsWrittenAt t o g → UpTo g k) → Before k row.tag → MeetsPastLast program t row.tag last o
      free_of k there upto before p port h is own un w b same =
          let both = together h row.tag (port.shift.time, port.shift.steps) same (λ e. Before-irrefl row.tag (subst (λ (z : Tag). Before z row.tag) e b)) in
          let time : k.time ≡ row.tag.time = between h k row.tag (upto h w) before both.1 in
          let long = are.soonest.as_long in
          let soon = get_there soonest o (omega (arith, within, long)) in
          go soon.0 soon.1 both.0 time (are.soonest.each p port soon.0 (slice_get_within program.ports p port is) is un both.0 (ap (λ (z : ℕ). slice_get soonest z) own ∙ soon.1))
        where
          go : (z : Option Shift) → slice_get soonest o ≡ Some z → 0 < port.shift.time → k.time ≡ row.tag.time → MatchOption z ⊥ (λ s. GoesAsFar s port.shift) → Before last (shifted row.tag (port.shift.time, port.shift.steps))
          go None e l f less = absurd less
          go (Some s) e l f less =
              Before-UpTo last (shifted row.tag (s.time, s.steps)) (shifted row.tag (port.shift.time, port.shift.steps)) (test s k e there f (other_micro k row.tag before f)) (moved_up row.tag s.time s.steps port.shift.time port.shift.steps less)

      pub free_or_written : MeetsPastLast program t row.tag last o ⊎ IsWrittenAt t o row.tag
      free_or_written = let long = are.as_long in let k = get_there written o (omega (arith, within, long)) in go k.0 k.1 (are.last some o k.0 k.1)
        where
          by : (k : Tag) → slice_get written o ≡ Some (Some k) → IsLastTag t o (Some k) → Before k row.tag ⊎ (k ≡ row.tag) → MeetsPastLast program t row.tag last o ⊎ IsWrittenAt t o row.tag
          by k e is (inl b) = inl (free_of k e is.1 b)
          by k e is (inr q) = inr (subst (λ (z : Tag). IsWrittenAt t o z) q is.0)

          go : (z : Option Tag) → slice_get written o ≡ Some z → IsLastTag t o z → MeetsPastLast program t row.tag last o ⊎ IsWrittenAt t o row.tag
          go None e none = inl (λ p port h is own un w b same. absurd (none h w))
          go (Some k) e is = by k e is (split_up k row.tag (no_later k is.0))

-- rows so far, of which none is behind a tag, with some of a tag
pub all_up_to : (t u : List Row) (g : Tag) → AreBefore t g → AreAt u g → (i : ℕ) (x : Row) → slice_get (t ++ u) i ≡ Some x → UpTo x.tag g
all_up_to t u g before at i x e = go (get_append_cases t u i x e)
  where
    go : (slice_get t i ≡ Some x) ⊎ ((j : ℕ) × (i ≡ length t + j) × (slice_get u j ≡ Some x)) → UpTo x.tag g
    go (inl p) = weaken (before i x p)
      where
        weaken : Before x.tag g → UpTo x.tag g
        weaken (inl l) = inl l
        weaken (inr q) = let l : x.tag.micro < g.micro = q.1 in inr (q.0, omega arith)
    go (inr (j, q, p)) = subst (λ (k : Tag). UpTo k g) (sym (at j x p)) (UpTo-refl g)

-- what is free of more rows is free of these
free_fewer : (program : Parts) (t u : List Row) (g last : Tag) (o : ℕ) → MeetsPastLast program (t ++ u) g last o → MeetsPastLast program t g last o
free_fewer program t u g last o free p port h is own un w b same = free p port h is own un (record { place = w.place; row = w.row; value = w.value; is_row = get_left t u w.place w.row w.is_row; writes = w.writes; tag_is = w.tag_is }) b same

-- a write at the tag is none of earlier rows
in_second : (t u : List Row) (g : Tag) (o : ℕ) → AreBefore t g → IsWrittenAt (t ++ u) o g → IsWrittenAt u o g
in_second t u g o before w = go (get_append_cases t u w.place w.row w.is_row)
  where
    go : (slice_get t w.place ≡ Some w.row) ⊎ ((j : ℕ) × (w.place ≡ length t + j) × (slice_get u j ≡ Some w.row)) → IsWrittenAt u o g
    go (inl e) = absurd (Before-irrefl g (subst (λ (k : Tag). Before k g) w.tag_is (before w.place w.row e)))
    go (inr (j, q, e)) = record { place = j; row = w.row; value = w.value; is_row = e; writes = w.writes; tag_is = w.tag_is }

-- one more row of the tag
pub free_more : (program : Parts) (t u : List Row) (g last : Tag) (row : Row) → AreBefore t g → row.tag ≡ g → AreFree program t u g last → ((o : ℕ) (v : Value) → row.step ≡ Write (Port o) v → MeetsPastLast program (t ++ u) row.tag last o ⊎ IsWrittenAt (t ++ u) o row.tag) → AreFree program t (u ++ row ∷ []) g last
free_more program t u g last row before here free own o w = go (written_cases u row o g w)
  where
    by : MeetsPastLast program (t ++ u) row.tag last o ⊎ IsWrittenAt (t ++ u) o row.tag → MeetsPastLast program t g last o
    by (inl f) = subst (λ (k : Tag). MeetsPastLast program t k last o) here (free_fewer program t u row.tag last o f)
    by (inr x) = free o (in_second t u g o before (subst (λ (k : Tag). IsWrittenAt (t ++ u) o k) here x))

    go : IsWrittenAt u o g ⊎ ((v : Value) × (row.step ≡ Write (Port o) v) × (row.tag ≡ g)) → MeetsPastLast program t g last o
    go (inl x) = free o x
    go (inr x) = by (own o x.0 x.1)

-- where no write arrives later than at once at a port that no reaction reads, nothing is kept of more rows
pub unread_nothing : (t u : List Row) (program : Parts) (unread : UnreadParts) → unread.any ≡ false → AreUnread program t unread → AreUnread program (t ++ u) unread
unread_nothing t u program unread nothing are = record { soonest = are.soonest; none = are.none; as_long = are.as_long; last = λ some. absurd (false≢true (sym nothing ∙ some)) }

-- and none meet there
pub free_all : (program : Parts) (t u : List Row) (g last : Tag) (unread : UnreadParts) → RowsFit program u → unread.any ≡ false → AreUnread program t unread → AreFree program t u g last
free_all program t u g last unread fit none are o here p port h is own un w before same =
    let both = together h g (port.shift.time, port.shift.steps) same (λ e. Before-irrefl g (subst (λ (z : Tag). Before z g) e before)) in
    let within : o < length program.ports = subst (λ (s : Step). StepFits program s) here.writes (fit.each here.place here.row here.is_row).step in
    let long = are.soonest.as_long in
    let soon = get_there unread.soonest o (omega (arith, within, long)) in
    go soon.0 (are.none none o soon.0 soon.1) (are.soonest.each p port soon.0 (slice_get_within program.ports p port is) is un both.0 (ap (λ (z : ℕ). slice_get unread.soonest z) own ∙ soon.1))
  where
    go : (z : Option Shift) → z ≡ None → MatchOption z ⊥ (λ s. GoesAsFar s port.shift) → Before last (shifted g (port.shift.time, port.shift.steps))
    go None e less = absurd less
    go (Some s) e less = absurd (cc)

-- no row, none that writes
pub free_none : (program : Parts) (t : List Row) (g last : Tag) → AreFree program t [] g last
free_none program t g last o w = let l : w.place < 0 = slice_get_within [] w.place w.row w.is_row in absurd (omega arith)

-- a row writes one port
pub same_write : (t : List Row) (row : Row) (program : Parts) (last : Tag) (q : ℕ) (w : Value) (o : ℕ) (v : Value) → row.step ≡ Write (Port q) w → row.step ≡ Write (Port o) v → MeetsPastLast program t row.tag last q ⊎ IsWrittenAt t q row.tag → MeetsPastLast program t row.tag last o ⊎ IsWrittenAt t o row.tag
same_write t row program last q w o v e f x = let both : Write (Port q) w ≡ Write (Port o) v = sym e ∙ f in let same : q ≡ o = cc in subst (λ (k : ℕ). MeetsPastLast program t row.tag last k ⊎ IsWrittenAt t k row.tag) same x
