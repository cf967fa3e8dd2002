-- Single connections against the connections that they are of, and places of names.
use Rattle.std.proofs.Common.{◌≡◌, ℕ, suc, ◌+◌, Bool, true, false, cond, not, List, [], ◌∷◌, ◌++◌, length, refl, sym, ap, ◌∙◌, subst, arith, Option, Some, None, option_map, slice_get, map, flat_map, position, bytes_eq, nat_lt, inl, inr}
use Rattle.std.{specs.List.{zip, prefix_len}, proofs.lemmas.{Bool.{cases_lt, lt-ltb, le-ltb}, List.map-append, Slice.Eq.bytes_eq-Decides}}
use Rattle.lft_lists.proofs.Mapped.{mapped, mapped_from, pair_at}
use Rattle.lft_tree.specs.Tree.{ReactorTree, ConnectionTree, RefTree, TimeTree, connections_of}
use Rattle.lft_resolve.specs.{Kinds.destinations_in, inner.{Places.place, Sheets.{Single, singles_in, singles_of}}}
use Rattle.lft_program.proofs.{Counting.{total, flat_at}, Elements.{From, flat_back, pair_back}}

-- the connection that a single one is of
pub record IsOf (r : ReactorTree) (s : Single) : Type 0 where
  pub number : ℕ
  pub connection : ConnectionTree
  pub place : ℕ
  pub is_connection : slice_get (connections_of r) number ≡ Some connection
  pub is_from : slice_get connection.sources place ≡ Some s.from
  pub is_to : slice_get connection.destinations place ≡ Some s.to
  pub is_delay : connection.delay ≡ s.delay

pub single_back : (r : ReactorTree) (k : ℕ) (s : Single) → slice_get (singles_of r) k ≡ Some s → IsOf r s
single_back r k s e =
    let f : From singles_in (connections_of r) k s = flat_back singles_in (connections_of r) k s e in
    let m = mapped_from (λ (p : RefTree × RefTree). record { from = p.0; to = p.1; delay = f.element.delay }) (zip f.element.sources f.element.destinations) f.place s f.is_piece in
    let p = pair_back f.element.sources f.element.destinations f.place m.0 m.1 in
    record {
      number = f.number;
      connection = f.element;
      place = f.place;
      is_connection = f.is_element;
      is_from = p.0 ∙ ap (λ (x : Single). Some x.from) m.2;
      is_to = p.1 ∙ ap (λ (x : Single). Some x.to) m.2;
      is_delay = ap (λ (x : Single). x.delay) m.2;
    }

pub single_forth : (r : ReactorTree) (number : ℕ) (c : ConnectionTree) (k : ℕ) (from to : RefTree) → slice_get (connections_of r) number ≡ Some c → slice_get c.sources k ≡ Some from → slice_get c.destinations k ≡ Some to → (j : ℕ) × (slice_get (singles_of r) j ≡ Some (record { from = from; to = to; delay = c.delay }))
single_forth r number c k from to e f g = (
  total singles_in number (connections_of r) + k,
  flat_at singles_in (connections_of r) number k c (record { from = from; to = to; delay = c.delay }) e
      (mapped (λ (p : RefTree × RefTree). record { from = p.0; to = p.1; delay = c.delay }) (zip c.sources c.destinations) k (from, to) (pair_at c.sources c.destinations k from to f g)),
)

-- where all lists are as long as each other, the single ones have all destinations in order
seconds : (delay : Option TimeTree) (xs ys : List RefTree) → length xs ≡ length ys → map (λ (s : Single). s.to) (map (λ (p : RefTree × RefTree). record { from = p.0; to = p.1; delay = delay }) (zip xs ys)) ≡ ys
seconds delay [] [] e = refl
seconds delay [] (y ∷ ys) e = absurd (omega arith)
seconds delay (x ∷ xs) [] e = absurd (omega arith)
seconds delay (x ∷ xs) (y ∷ ys) e = ap (λ l. y ∷ l) (seconds delay xs ys (omega arith))

tos : (cs : List ConnectionTree) → ((k : ℕ) (c : ConnectionTree) → slice_get cs k ≡ Some c → length c.sources ≡ length c.destinations) → map (λ (s : Single). s.to) (flat_map singles_in cs) ≡ flat_map (λ c. c.destinations) cs
tos [] h = refl
tos (c ∷ cs) h = map-append (λ s. s.to) (singles_in c) (flat_map singles_in cs) ∙ ap (λ l. l ++ map (λ (s : Single). s.to) (flat_map singles_in cs)) (seconds c.delay c.sources c.destinations (h 0 c refl)) ∙ ap (λ l. c.destinations ++ l) (tos cs (λ k d e. h (suc k) d e))

pub to_at : (r : ReactorTree) → ((k : ℕ) (c : ConnectionTree) → slice_get (connections_of r) k ≡ Some c → length c.sources ≡ length c.destinations) → (k : ℕ) (s : Single) → slice_get (singles_of r) k ≡ Some s → slice_get (destinations_in r) k ≡ Some s.to
to_at r even k s e = subst (λ l. slice_get l k ≡ Some s.to) (tos (connections_of r) even) (mapped (λ x. x.to) (singles_of r) k s e)

-- what stands at the first place of a name has it
pub place_forth : {X : Type 0} (name : X → List ℕ) (q : List ℕ) (xs : List X) (k : ℕ) → place q (map name xs) ≡ Some k → (x : X) × (slice_get xs k ≡ Some x) × (name x ≡ q)
place_forth name q [] k e = absurd (cc)
place_forth {X} name q (x ∷ xs) k e = by (bytes_eq q (name x)) refl (place q (map name xs)) (λ j f. place_forth name q xs j f) e
  where
    by : (b : Bool) → bytes_eq q (name x) ≡ b → (o : Option ℕ) → ((j : ℕ) → o ≡ Some j → (y : X) × (slice_get xs j ≡ Some y) × (name y ≡ q)) → cond b (Some 0) (option_map suc o) ≡ Some k → (y : X) × (slice_get (x ∷ xs) k ≡ Some y) × (name y ≡ q)
    by true t o more e = let z : 0 ≡ k = cc in (x, subst (λ j. slice_get (x ∷ xs) j ≡ Some x) z refl, sym ((bytes_eq-Decides q (name x)).0 t))
    by false t None more e = absurd (cc)
    by false t (Some j) more e = let z : suc j ≡ k = cc in let r = more j refl in (r.0, subst (λ i. slice_get (x ∷ xs) i ≡ Some r.0) z r.1, r.2)

-- the first place of a name is where a search for it ends
pub place_found : {X : Type 0} (name : X → List ℕ) (q : List ℕ) (xs : List X) → position (λ x. bytes_eq q (name x)) xs ≡ place q (map name xs)
place_found name q [] = refl
place_found {X} name q (x ∷ xs) = by (bytes_eq q (name x)) (place_found name q xs)
  where
    n : ℕ
    n = prefix_len (λ x. not (bytes_eq q (name x))) xs

    past : (a b : ℕ) → cond (nat_lt (1 + a) (suc b)) (Some (1 + a)) None ≡ option_map suc (cond (nat_lt a b) (Some a) None)
    past a b = ap (λ t. cond t (Some (1 + a)) None) same ∙ up (nat_lt a b)
      where
        same : nat_lt (1 + a) (suc b) ≡ nat_lt a b
        same = elim (cases_lt a b) [ inl l ↦ lt-ltb (1 + a) (suc b) (omega arith) ∙ sym (lt-ltb a b l) | inr g ↦ le-ltb (1 + a) (suc b) (omega arith) ∙ sym (le-ltb a b g) ]

        one_more : 1 + a ≡ suc a
        one_more = omega arith

        up : (t : Bool) → cond t (Some (1 + a)) None ≡ option_map suc (cond t (Some a) None)
        up true = ap Some one_more
        up false = refl

    by : (b : Bool) → position (λ x. bytes_eq q (name x)) xs ≡ place q (map name xs) → cond (nat_lt (cond (not b) (1 + n) 0) (suc (length xs))) (Some (cond (not b) (1 + n) 0)) None ≡ cond b (Some 0) (option_map suc (place q (map name xs)))
    by true e = ap (λ t. cond t (Some 0) None) (lt-ltb 0 (suc (length xs)) (omega arith))
    by false e = past n (length xs) ∙ ap (option_map suc) e
