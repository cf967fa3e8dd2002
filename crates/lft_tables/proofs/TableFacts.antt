-- What one more record does to a table of any kind, and that records are one table or have a fault.
use Rattle.std.proofs.Common.{◌≡◌, ◌≢◌, ◌∙◌, inl, inr, ◌+◌, ◌-◌, ◌<◌, ◌≤◌, ◌++◌, ℕ, List, [], ◌∷◌, length, Option, refl, sym, ap, arith, append_assoc, append-nil, length-append}
use Rattle.std.proofs.lemmas.Slice.Zip.{all_zipped_more}
use Rattle.lft_tables.specs.{inner.Records.{fields_at_hand, IsCounted, IsNext, IsPast, IsPlain, IsUnread, records_left}, Records.records_of}
use Rattle.lft_tables.specs.{Tables.{Begins, FailsAt, Fails, HasTooMany, Holds, TableKind}, declared.records.Records.Records}
use Rattle.lft_lists.proofs.Zips.{Parted, long, parted, same, same_rest}

abbrev pub Texts : Type 0
Texts = List (List (List ℕ))

-- what is read of a reader up to a line: the header and the records of these items, with the others left
pub record Read {R Item Fault : Type 0} (remaining : R → Option (List ℕ)) (kind : TableKind Item Fault) (records : Texts) (items : List Item) (r : Records R) : Type 0 where
  pub plain : IsPlain remaining r
  pub begins : Begins kind records items (records_left remaining r)
  pub line : r.line ≡ length items + 1
  pub few : length items ≤ 4000000
  pub last : r.last ≡ 4000001

-- fewer lines may come
pub fewer : {R : Type 0} (old new : Records R) → IsCounted old new → new.last - new.line < old.last - old.line
fewer old new n = let line = n.line in let last = n.last in let within = n.within in omega (arith, line, last, within)

module _ {R Item Fault : Type 0} {remaining : R → Option (List ℕ)} (kind : TableKind Item Fault) (text : List ℕ) (old new : Records R) (unread : IsUnread remaining old text 4000001) where
  pub start : IsNext remaining old new → fields_at_hand new ≡ kind.header → kind.Together [] → Read remaining kind (records_of text) [] new
  start g top together = record {
    plain = g.plain;
    begins = record { first = []; under = sym unread.left ∙ g.left ∙ ap (λ (f : List (List ℕ)). f ∷ records_left remaining new) top; each = tt; together = together };
    line = let a = g.line in let b = unread.line in omega (arith, a, b);
    few = omega arith;
    last = g.last ∙ unread.last;
  }

  pub without_records : records_left remaining old ≡ [] → Fails kind (records_of text) kind.no_header
  without_records none = inl (refl, λ rest under. let q : ◌≡◌ {A = Texts} [] (kind.header ∷ rest) = sym none ∙ unread.left ∙ under in cc (q))

  pub without_header : IsNext remaining old new → fields_at_hand new ≢ kind.header → Fails kind (records_of text) kind.no_header
  without_header g other = inl (
    refl,
    λ rest under. let q : ◌≡◌ {A = Texts} (fields_at_hand new ∷ records_left remaining new) (kind.header ∷ rest) = sym g.left ∙ unread.left ∙ under in other (cc (q)),
  )

  pub not_past : IsPast remaining old new → ⊥
  not_past p = let full = p.full in let a = unread.line in let b = unread.last in omega (arith, full, a, b)

module _ {Item Fault : Type 0} (kind : TableKind Item Fault) (records : Texts) (items : List Item) where
  pub begins_more : (f : List (List ℕ)) (rest : Texts) (item : Item) → Begins kind records items (f ∷ rest) → kind.Tells f item → kind.Together (items ++ (item ∷ [])) → Begins kind records (items ++ (item ∷ [])) rest
  begins_more f rest item b is together = record {
    first = b.first ++ (f ∷ []);
    under = b.under ∙ ap (λ (t : Texts). kind.header ∷ t) (sym (append_assoc b.first (f ∷ []) rest));
    each = all_zipped_more kind.Tells b.first items f item b.each is;
    together = together;
  }

  module _ {R : Type 0} {remaining : R → Option (List ℕ)} where
    pub one_more : (old new : Records R) (item : Item) → Read remaining kind records items old → IsNext remaining old new → kind.Tells (fields_at_hand new) item → kind.Together (items ++ (item ∷ [])) → Read remaining kind records (items ++ (item ∷ [])) new
    one_more old new item r g is together =
        let e = length-append items (item ∷ []) in
        let here = r.line in
        record {
          plain = g.plain;
          begins = begins_more (fields_at_hand new) (records_left remaining new) item (rw g.left at r.begins) is together;
          line = let next = g.line in omega (arith, e, here, next);
          few = let inside = g.within in let last = r.last in omega (arith, e, here, inside, last);
          last = g.last ∙ r.last;
        }

    pub ended : (r : Records R) → Read remaining kind records items r → records_left remaining r ≡ [] → Holds kind records items
    ended r read none = record {
      rest = read.begins.first;
      under = read.begins.under ∙ ap (λ (t : Texts). kind.header ∷ (read.begins.first ++ t)) none ∙ ap (λ (t : Texts). kind.header ∷ t) (append-nil read.begins.first);
      each = read.begins.each;
      few = read.few;
    }

    pub bad : (old new : Records R) (e : Fault) → Read remaining kind records items old → IsNext remaining old new → kind.FaultAt items new.line (fields_at_hand new) e → Fails kind records e
    bad old new e r g is =
        let here = r.line in
        let next = g.line in
        let line : new.line ≡ length items + 2 = omega (arith, here, next) in
        inr (inl (record {
          items = items;
          bad = fields_at_hand new;
          more = records_left remaining new;
          begins = rw g.left at r.begins;
          within = let inside = g.within in let last = r.last in omega (arith, here, inside, last);
          is = rw line at is;
        }))

    pub past : (old new : Records R) → Read remaining kind records items old → IsPast remaining old new → Fails kind records kind.too_many
    past old new r p = inr (inr (
      refl,
      record {
        items = items;
        next = fields_at_hand new;
        more = records_left remaining new;
        begins = rw p.left at r.begins;
        full = let full = p.full in let here = r.line in let last = r.last in let few = r.few in omega (arith, full, here, last, few);
      },
    ))

-- a record tells one item
abbrev IsTold : {Item Fault : Type 0} → TableKind Item Fault → Type 0
IsTold {Item} kind = (f : List (List ℕ)) (a b : Item) → kind.Tells f a → kind.Tells f b → a ≡ b

-- no record of these items has a fault
abbrev IsFaultless : {Item Fault : Type 0} → TableKind Item Fault → List Item → Type 0
IsFaultless {Item} {Fault} kind items = (front back : List Item) (here : Item) (line : ℕ) (bad : List (List ℕ)) (e : Fault) → items ≡ front ++ (here ∷ back) → kind.Tells bad here → kind.FaultAt front line bad e → ⊥

module _ {Item Fault : Type 0} (kind : TableKind Item Fault) (records : Texts) (one : IsTold kind) where
  pub one_reading : (a b : List Item) → Holds kind records a → Holds kind records b → a ≡ b
  one_reading a b h k = same kind.Tells one k.rest a b (rw (same_rest kind.header records h.rest k.rest h.under k.under) at h.each) k.each

  fails_nowhere : (items : List Item) (e : Fault) → IsFaultless kind items → Holds kind records items → FailsAt kind records e → ⊥
  fails_nowhere items e none h f =
      let first = f.begins.first in
      let rest = same_rest kind.header records h.rest (first ++ (f.bad ∷ f.more)) h.under f.begins.under in
      let p : Parted kind.Tells first f.bad items = parted kind.Tells first f.bad f.more items (rw rest at h.each) in
      let front : f.items ≡ p.front = same kind.Tells one first f.items p.front f.begins.each p.each in
      none p.front p.back p.here (length p.front + 2) f.bad e p.whole p.is (rw front at f.is)

  not_more : (items : List Item) → Holds kind records items → HasTooMany kind records → ⊥
  not_more items h f =
      let first = f.begins.first in
      let l = ap length (same_rest kind.header records h.rest (first ++ (f.next ∷ f.more)) h.under f.begins.under) in
      let a = length-append first (f.next ∷ f.more) in
      let z = long kind.Tells h.rest items h.each in
      let y = long kind.Tells first f.items f.begins.each in
      let few = h.few in
      let full = f.full in
      omega (arith, l, a, z, y, few, full)

  pub holds_no_fault : (items : List Item) (e : Fault) → IsFaultless kind items → Holds kind records items → Fails kind records e → ⊥
  holds_no_fault items e none h (inl f) = f.1 h.rest h.under
  holds_no_fault items e none h (inr (inl f)) = fails_nowhere items e none h f
  holds_no_fault items e none h (inr (inr f)) = not_more items h f.1
