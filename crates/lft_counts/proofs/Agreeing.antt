-- Counts of the first rows of a trace are those of every trace that begins with these rows.
use Rattle.std.proofs.Common.{◌≡◌, ℕ, ◌+◌, ◌<◌, ◌≤◌, ◌++◌, length, List, Option, Some, None, sym, ◌∙◌, arith, slice_get}
use Rattle.lft_lists.proofs.Places.{get_left, get_there}
use Rattle.lft_tag.specs.declared.Tag.{Tag}
use Rattle.lft_ir.specs.{Parts.Parts, declared.steps.row.Row.Row}
use Rattle.lft_model.specs.Breaches.{IsOpen}
use Rattle.lft_counts.specs.declared.{orders.{Last.Last, Orders.Orders}, overlaps.Overlaps.Overlaps, cover.{Counting.Counting, Cover.Cover}}
use Rattle.lft_counts.specs.{Counts.{StartsRun, StartsBy, WritesAt, Runs, MeetsRun, Widens}, Orders.{MeetsAt, ApartAt, IsLast, NoStart, Stands}}
use Rattle.lft_counts.specs.{Overlaps.Overlap, Cover.{CoversRows, IsCounting, IsCover}}
use Rattle.lft_graph.proofs.Counting.{count_same}

-- two traces have the same rows before a place
abbrev pub AreAlike : List Row → List Row → ℕ → Type 0
AreAlike t s i = (k : ℕ) → k < i → slice_get t k ≡ slice_get s k

back : (t s : List Row) (i : ℕ) → AreAlike t s i → AreAlike s t i
back t s i alike k l = sym (alike k l)

-- what holds of the one holds of the other
module _ (t s : List Row) (i : ℕ) (alike : AreAlike t s i) where
  starts_too : (r j : ℕ) → j < i → StartsRun t r j → StartsRun s r j
  starts_too r j l x = (x.0, x.1, sym (alike j l) ∙ x.2)

  by_too : (w j : ℕ) → j < i → StartsBy t w j → StartsBy s w j
  by_too w j l x = (x.0, x.1, sym (alike j l) ∙ x.2)

  writes_too : (p j : ℕ) → j < i → WritesAt t p j → WritesAt s p j
  writes_too p j l x = (x.0, x.1, sym (alike j l) ∙ x.2, x.3)

  meets_too : (a r j : ℕ) → j < i → MeetsAt t a r j → MeetsAt s a r j
  meets_too a r j l x = let y = x.ran in let m = y.2 in record { worker = x.worker; tag = x.tag; starts = sym (alike j l) ∙ x.starts; ran = (y.0, y.1, m, sym (alike y.0 (omega (arith, m, l))) ∙ y.3) }

  apart_too : (a r j : ℕ) → j < i → ApartAt t a r j → ApartAt s a r j
  apart_too a r j l x = let m = x.before in record { worker = x.worker; tag = x.tag; place = x.place; other = x.other; starts = sym (alike j l) ∙ x.starts; before = m; earlier = sym (alike x.place (omega (arith, m, l))) ∙ x.earlier; apart = x.apart }

  open_too : (j w : ℕ) (g : Tag) (r : ℕ) → j ≤ i → IsOpen t j w g r → IsOpen s j w g r
  open_too j w g r l o = let m = o.before in record { start = o.start; before = m; starts = sym (alike o.start (omega (arith, m, l))) ∙ o.starts; not_ended = λ k n q e. o.not_ended k n q (alike k (omega (arith, q, l)) ∙ e) }

  runs_too : (j r : ℕ) → j ≤ i → Runs t j r → Runs s j r
  runs_too j r l x = (x.0, x.1, open_too j x.0 x.1 r l x.2)

  met_too : (a b : ℕ) → MeetsRun t i a b → MeetsRun s i a b
  met_too a b x = let l = x.3 in (x.0, starts_too b x.0 l x.1, runs_too x.0 a (omega (arith, l)) x.2, l)

  none_too : (from to a : ℕ) → to ≤ i → NoStart t from to a → NoStart s from to a
  none_too from to a l none k w g m n e = none k w g m n (alike k (omega (arith, n, l)) ∙ e)

  last_too : (a : ℕ) (o : Option Last) → IsLast t i a o → IsLast s i a o
  last_too a None is = none_too 0 i a (omega arith) is
  last_too a (Some l) is = let m = is.1 in (is.0, m, sym (alike is.0 m) ∙ is.2, none_too (is.0 + 1) i a (omega arith) is.3)

module _ (t s : List Row) (i : ℕ) (alike : AreAlike t s i) where
  widens_too : (m n j : ℕ) → j < i → Widens t m n j → Widens s m n j
  widens_too m n j l x = (x.0, starts_too t s i alike x.0 j l x.1, count_same (λ r k. runs_too t s i alike (j + 1) r (omega (arith, l))) (λ r k. runs_too s t i (back t s i alike) (j + 1) r (omega (arith, l))) x.2)

module _ (t s : List Row) (i : ℕ) (alike : AreAlike t s i) where
  counting_too : (program : Parts) (c : Counting) → IsCounting program t i c → IsCounting program s i c
  counting_too program c so = record {
    reactions = so.reactions;
    runs = λ x n e. count_same (λ j. starts_too t s i alike x j) (λ j. starts_too s t i (back t s i alike) x j) (so.runs x n e);
    ports = so.ports;
    writes = λ x n e. count_same (λ j. writes_too t s i alike x j) (λ j. writes_too s t i (back t s i alike) x j) (so.writes x n e);
    workers = λ w. count_same (λ j. by_too t s i alike w j) (λ j. by_too s t i (back t s i alike) w j) (so.workers w);
    listed = so.listed;
  }

  orders_too : (n : ℕ) (o : Orders) → Stands t n i o → Stands s n i o
  orders_too n o so = record {
    as_long = so.as_long;
    laid = so.laid;
    kept = λ a l e. last_too t s i alike a l (so.kept a l e);
    counted = λ k x e. let c = so.counted k x e in record {
      both = count_same (λ j. meets_too t s i alike x.first x.then j) (λ j. meets_too s t i (back t s i alike) x.first x.then j) c.both;
      apart = count_same (λ j. apart_too t s i alike x.first x.then j) (λ j. apart_too s t i (back t s i alike) x.first x.then j) c.apart;
    };
  }

  overlaps_too : (m : ℕ) (o : Overlaps) → Overlap t m i o → Overlap s m i o
  overlaps_too m o so = record {
    running = record {
      room = so.running.room;
      right = λ r. (λ h. runs_too t s i alike i r (omega arith) ((so.running.right r).0 h), λ x. (so.running.right r).1 (runs_too s t i (back t s i alike) i r (omega arith) x));
      number = count_same (λ r k. runs_too t s i alike i r (omega arith)) (λ r k. runs_too s t i (back t s i alike) i r (omega arith)) so.running.number;
    };
    met = record {
      as_long = so.met.as_long;
      room = so.met.room;
      right = λ b set e a. (λ h. met_too t s i alike a b ((so.met.right b set e a).0 h), λ x. (so.met.right b set e a).1 (met_too s t i (back t s i alike) a b x));
    };
    widths = record {
      as_long = so.widths.as_long;
      right = λ x n e. count_same (λ j. widens_too t s i alike m x j) (λ j. widens_too s t i (back t s i alike) m x j) (so.widths.right x n e);
    };
  }

-- the counts of one are those of the other
pub cover_too : (program : Parts) (t s : List Row) (cover : Cover) → AreAlike t s cover.rows → IsCover program t cover → IsCover program s cover
cover_too program t s cover alike so = record {
  counted = counting_too t s cover.rows alike program cover.counting so.counted;
  met = orders_too t s cover.rows alike _ cover.orders so.met;
  overlapped = overlaps_too t s cover.rows alike _ cover.overlaps so.overlapped;
  inputs = so.inputs;
}

-- rows that come behind change no counts of the rows before
same_front : (t more : List Row) (n : ℕ) → n ≤ length t → AreAlike t (t ++ more) n
same_front t more n within k l = let x = get_there t k (omega (arith, l, within)) in x.1 ∙ sym (get_left t more k x.0 x.1)

pub covers_more : (program : Parts) (t more : List Row) (n : ℕ) (cover : Cover) → n ≤ length t → CoversRows program t n cover → CoversRows program (t ++ more) n cover
covers_more program t more n cover within so = record {
  counts = cover_too program t (t ++ more) cover (same_front t more cover.rows (let e = so.rows in omega (arith, e, within))) so.counts;
  rows = so.rows;
  graph = so.graph;
  is_graph = so.is_graph;
  listed = so.listed;
}

pub covers_front : (program : Parts) (t more : List Row) (n : ℕ) (cover : Cover) → n ≤ length t → CoversRows program (t ++ more) n cover → CoversRows program t n cover
covers_front program t more n cover within so = record {
  counts = cover_too program (t ++ more) t cover (back t (t ++ more) cover.rows (same_front t more cover.rows (let e = so.rows in omega (arith, e, within)))) so.counts;
  rows = so.rows;
  graph = so.graph;
  is_graph = so.is_graph;
  listed = so.listed;
}
