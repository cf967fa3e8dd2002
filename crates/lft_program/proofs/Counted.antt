-- How many things the tables have of each reactor, and how many it declares.
use Rattle.std.proofs.Common.{◌≡◌, ◌≢◌, ℕ, suc, ◌+◌, ◌⊎◌, inl, inr, true, false, eqb, List, [], ◌∷◌, Any, length, length-append, refl, sym, ap, ◌∙◌, arith, map, flat_map}
use Rattle.std.{specs.List.{AllZip, zip}, proofs.lemmas.{Bool.Decides.eqb_tells, Slice.Zip.AllZip-long, List.length-map}}
use Rattle.lft_tree.specs.Tree.{ReactorTree, ConnectionTree, actions_of, connections_of, ports_of, reactions_of, timers_of}
use Rattle.lft_resolve.specs.declared.{expansion.joins.Connections.Connections, by_number.sheets.{Declarations.Declarations, Reactions.Reactions}}
use Rattle.lft_resolve.specs.Causes.{DiffersInWidth, NoneHolds, WidthMismatch, joins_of, later_causes}
use Rattle.lft_resolve.specs.inner.Sheets.{AreConnections, AreCues, AreDeclarations, AreReactions, IsActionSheet, IsDeclarations, IsJoin, IsReactions, IsTimerSheet, singles_in, singles_of}
use Rattle.lft_resolve.proofs.Somes.{Any-head, Any-tail}

same_counts : {A B : Type 0} (R : A → B → Type 0) (f : A → ℕ) (g : B → ℕ) → ((x : A) (y : B) → R x y → g y ≡ f x) → (xs : List A) (ys : List B) → AllZip R xs ys → map g ys ≡ map f xs
same_counts R f g e [] [] all = refl
same_counts R f g e [] (y ∷ ys) all = absurd all
same_counts R f g e (x ∷ xs) [] all = absurd all
same_counts R f g e (x ∷ xs) (y ∷ ys) all = let a : g y ≡ f x = e x y all.0 in let b : map g ys ≡ map f xs = same_counts R f g e xs ys all.1 in cc

pub ports_counted : (rs : List ReactorTree) (table : List Declarations) → AreDeclarations rs table → map (λ x. length x.inputs.items) table ≡ map (λ r. length (ports_of r)) rs
ports_counted rs table all = same_counts IsDeclarations (λ r. length (ports_of r)) (λ x. length x.inputs.items) (λ r x is. ap length is.inputs ∙ length-map (ports_of r) (λ p. p.is_input)) rs table all

pub timers_counted : (rs : List ReactorTree) (table : List Declarations) → AreDeclarations rs table → map (λ x. length x.timers.items) table ≡ map (λ r. length (timers_of r)) rs
timers_counted rs table all = same_counts IsDeclarations (λ r. length (timers_of r)) (λ x. length x.timers.items) (λ r x is. (AllZip-long (IsTimerSheet r) (timers_of r) x.timers.items is.timers)) rs table all

pub actions_counted : (rs : List ReactorTree) (table : List Declarations) → AreDeclarations rs table → map (λ x. length x.actions.items) table ≡ map (λ r. length (actions_of r)) rs
actions_counted rs table all = same_counts IsDeclarations (λ r. length (actions_of r)) (λ x. length x.actions.items) (λ r x is. (AllZip-long (IsActionSheet r) (actions_of r) x.actions.items is.actions)) rs table all

pub reactions_counted : (rs : List ReactorTree) (table : List Reactions) → AreReactions rs table → map (λ x. length x.reactions.items) table ≡ map (λ r. length (reactions_of r)) rs
reactions_counted rs table all = same_counts (IsReactions rs) (λ r. length (reactions_of r)) (λ x. length x.reactions.items) (λ r x is. (AllZip-long (AreCues rs r) (reactions_of r) x.reactions.items is)) rs table all

-- ---- single connections: as many as their sources, where no two lists differ in length

length_zip : {X Y : Type 0} (xs : List X) (ys : List Y) → length xs ≡ length ys → length (zip xs ys) ≡ length xs
length_zip [] ys e = refl
length_zip (x ∷ xs) [] e = absurd (omega arith)
length_zip (x ∷ xs) (y ∷ ys) e = ap suc (length_zip xs ys (omega arith))

same_number : (m n : ℕ) → (m ≢ n → ⊥) → m ≡ n
same_number m n e = by (eqb_tells m n)
  where
    by : ((eqb m n ≡ true) × (m ≡ n)) ⊎ ((eqb m n ≡ false) × (m ≢ n)) → m ≡ n
    by (inl t) = t.1
    by (inr f) = absurd (e f.1)

length_singles : (cs : List ConnectionTree) → (Any (λ c. length c.sources ≢ length c.destinations) cs → ⊥) → length (flat_map singles_in cs) ≡ length (flat_map (λ c. c.sources) cs)
length_singles [] even = refl
length_singles (c ∷ cs) even =
    let P : ConnectionTree → Type 0 = λ c. length c.sources ≢ length c.destinations in
    let same : length c.sources ≡ length c.destinations = same_number (length c.sources) (length c.destinations) (λ d. even (Any-head P c cs d)) in
    let a : length (singles_in c) ≡ length c.sources = length-map (zip c.sources c.destinations) _ ∙ length_zip c.sources c.destinations same in
    let b = length_singles cs (λ d. even (Any-tail P c cs d)) in
    length-append (singles_in c) (flat_map singles_in cs) ∙ (let s : length (singles_in c) + length (flat_map singles_in cs) ≡ length c.sources + length (flat_map (λ c. c.sources) cs) = omega arith in s) ∙ sym (length-append c.sources (flat_map (λ c. c.sources) cs))

joins_counted_in : (all rs : List ReactorTree) (table : List Connections) → (Any DiffersInWidth rs → ⊥) → AllZip (λ r c. AllZip (IsJoin all r) (singles_of r) c.joins.items) rs table → map (λ x. length x.joins.items) table ≡ map (λ r. length (joins_of r)) rs
joins_counted_in all [] [] even zipped = refl
joins_counted_in all [] (c ∷ table) even zipped = absurd zipped
joins_counted_in all (r ∷ rs) [] even zipped = absurd zipped
joins_counted_in all (r ∷ rs) (c ∷ table) even zipped =
    let a : length c.joins.items ≡ length (joins_of r) = (AllZip-long (IsJoin all r) (singles_of r) c.joins.items zipped.0) ∙ length_singles (connections_of r) (λ d. even (Any-head DiffersInWidth r rs d)) in
    let b : map (λ x. length x.joins.items) table ≡ map (λ r. length (joins_of r)) rs = joins_counted_in all rs table (λ d. even (Any-tail DiffersInWidth r rs d)) zipped.1 in
    cc

pub joins_counted : (rs : List ReactorTree) (table : List Connections) → NoneHolds (later_causes rs) → AreConnections rs table → map (λ x. length x.joins.items) table ≡ map (λ r. length (joins_of r)) rs
unfolding WidthMismatch
joins_counted rs table none all = joins_counted_in rs rs table (λ d. none.1.1.1.1.0 d) all
