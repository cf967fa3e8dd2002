-- The ports that reactions read, marked one after another.
use Rattle.std.proofs.Common.{◌≡◌, ◌≢◌, ◌↔◌, ◌⊎◌, inl, inr, ◌<◌, ◌+◌, eqb-true, eq-eqb, ℕ, List, [], ◌∷◌, ◌++◌, length, take, replicate, filter_map, refl, sym, ap, ◌∙◌, subst, arith, Some, slice_get, slice_set, Contains, Bool, true, false}
use Rattle.std.specs.List.{list_any}
use Rattle.std.proofs.lemmas.{Bool.{cases_eq, false≢true}, List.{Elements.{Contains-append_left, Contains-push, Contains-push_cases}, Folds.Any-from_list_any}}
use Rattle.std.proofs.lemmas.{Map.Keys.any_passes_from_place, Option.{slice_get_within, slice_get-get_or, get_or_from_slice_get}}
use Rattle.lft_ir.specs.{Parts.{Parts, inputs}, Naming.{named, is_port}, Sound.IsSound}
use Rattle.lft_ir.specs.declared.parts.{Name.{Name, TheVariants.{Port, Action}}, Reaction.Reaction, Trigger.{Trigger, TheVariants.On}}
use Rattle.lft_ir.proofs.Naming.{named_on}
use Rattle.lft_lists.proofs.{Members.{Mem, mem_cases, mem_left, mem_right, mem_contains, contains_mem, mem_from_filter}, Picked.take_one_more}
use Rattle.lft_lists.proofs.Places.{get_there, at_contains, get_same, length_same, get_written, get_unwritten, get_write_cases, same_at}
use Rattle.lft_queue.specs.inner.Reading.{ReadsPort, is_read, AreReadPortsMarked}

-- the members of a list with one more at its end
pub contains_pushed : {X : Type 0} (xs : List X) (y x : X) → Contains (xs ++ y ∷ []) x ↔ (Contains xs x ⊎ (x ≡ y))
contains_pushed {X} xs y x = (λ c. to (Contains-push_cases xs y x c), from)
  where
    to : Contains xs x ⊎ (y ≡ x) → Contains xs x ⊎ (x ≡ y)
    to (inl c) = inl c
    to (inr e) = inr (sym e)

    from : Contains xs x ⊎ (x ≡ y) → Contains (xs ++ y ∷ []) x
    from (inl c) = Contains-append_left xs (y ∷ []) x c
    from (inr e) = subst (λ (z : X). Contains (xs ++ y ∷ []) z) (sym e) (Contains-push xs y)

pub none_contained : {X : Type 0} (x : X) → Contains [] x → ⊥
none_contained {X} x c = let l : c.0 < length {A = X} [] = c.1 in omega arith

-- a port is marked
pub port_marked : (marked : List Bool) (q : ℕ) → q < length marked → (p : ℕ) → (slice_get (slice_set marked q true) p ≡ Some true) ↔ ((slice_get marked p ≡ Some true) ⊎ (Port q ≡ Port p))
port_marked marked q within p = (λ e. to (get_write_cases marked q p true true within e), from)
  where
    to : ((p ≡ q) × (true ≡ true)) ⊎ ((p ≢ q) × (slice_get marked p ≡ Some true)) → (slice_get marked p ≡ Some true) ⊎ (Port q ≡ Port p)
    to (inl z) = inr (ap Port (sym z.0))
    to (inr z) = inl z.1

    from : (slice_get marked p ≡ Some true) ⊎ (Port q ≡ Port p) → slice_get (slice_set marked q true) p ≡ Some true
    from (inr e) = let z : p ≡ q = cc in ap (λ (k : ℕ). slice_get (slice_set marked q true) k) z ∙ get_written marked q true within
    from (inl e) = by (cases_eq p q)
      where
        by : (p ≡ q) ⊎ (p ≡ q → ⊥) → slice_get (slice_set marked q true) p ≡ Some true
        by (inl z) = ap (λ (k : ℕ). slice_get (slice_set marked q true) k) z ∙ get_written marked q true within
        by (inr n) = get_unwritten marked q p true n ∙ e

-- an action isn't
pub action_marked : (marked : List Bool) (p : ℕ) (name : Name) → ¬ (name ≡ Port p) → (slice_get marked p ≡ Some true) ↔ ((slice_get marked p ≡ Some true) ⊎ (name ≡ Port p))
action_marked marked p name other = (λ e. inl e, from)
  where
    from : (slice_get marked p ≡ Some true) ⊎ (name ≡ Port p) → slice_get marked p ≡ Some true
    from (inl e) = e
    from (inr z) = absurd (other z)

-- no name yet
pub names_start : (names : List Name) (marked : List Bool) (p : ℕ) → (slice_get marked p ≡ Some true) ↔ ((slice_get marked p ≡ Some true) ⊎ Contains (take 0 names) (Port p))
names_start names marked p = (λ e. inl e, from)
  where
    from : (slice_get marked p ≡ Some true) ⊎ Contains (take 0 names) (Port p) → slice_get marked p ≡ Some true
    from (inl e) = e
    from (inr c) = absurd (none_contained (Port p) c)

-- one name more
pub names_more : (names : List Name) (place : ℕ) (name : Name) (old mid new : List Bool) → slice_get names place ≡ Some name → ((p : ℕ) → (slice_get mid p ≡ Some true) ↔ ((slice_get old p ≡ Some true) ⊎ Contains (take place names) (Port p))) → ((p : ℕ) → (slice_get new p ≡ Some true) ↔ ((slice_get mid p ≡ Some true) ⊎ (name ≡ Port p))) → (p : ℕ) → (slice_get new p ≡ Some true) ↔ ((slice_get old p ≡ Some true) ⊎ Contains (take (place + 1) names) (Port p))
names_more names place name old mid new here before one p = (λ e. to ((one p).0 e), from)
  where
    longer : take (place + 1) names ≡ take place names ++ name ∷ []
    longer = take_one_more names place name (slice_get_within names place name here) (get_or_from_slice_get names place name name here)

    grown : Contains (take place names) (Port p) ⊎ (Port p ≡ name) → Contains (take (place + 1) names) (Port p)
    grown c = subst (λ (ns : List Name). Contains ns (Port p)) (sym longer) ((contains_pushed (take place names) name (Port p)).1 c)

    to : (slice_get mid p ≡ Some true) ⊎ (name ≡ Port p) → (slice_get old p ≡ Some true) ⊎ Contains (take (place + 1) names) (Port p)
    to (inr e) = inr (grown (inr (sym e)))
    to (inl e) = earlier ((before p).0 e)
      where
        earlier : (slice_get old p ≡ Some true) ⊎ Contains (take place names) (Port p) → (slice_get old p ≡ Some true) ⊎ Contains (take (place + 1) names) (Port p)
        earlier (inl o) = inl o
        earlier (inr c) = inr (grown (inl c))

    from : (slice_get old p ≡ Some true) ⊎ Contains (take (place + 1) names) (Port p) → slice_get new p ≡ Some true
    from (inl e) = (one p).1 (inl ((before p).1 (inl e)))
    from (inr c) = by ((contains_pushed (take place names) name (Port p)).0 (subst (λ (ns : List Name). Contains ns (Port p)) longer c))
      where
        by : Contains (take place names) (Port p) ⊎ (Port p ≡ name) → slice_get new p ≡ Some true
        by (inl d) = (one p).1 (inl ((before p).1 (inr d)))
        by (inr e) = (one p).1 (inr (sym e))

-- the ports among the inputs of a reaction are ports of the program
pub triggers_inside : (program : Parts) → IsSound program → (n : ℕ) (x : Reaction) → slice_get program.reactions n ≡ Some x → (p : ℕ) → Contains (filter_map named x.triggers) (Port p) → p < length program.ports
triggers_inside program sound n x here p c =
    let m = mem_from_filter named x.triggers (Port p) (contains_mem (Port p) (filter_map named x.triggers) c) in
    (sound.exist n x here).triggers (On (Port p)) (subst (λ (t : Trigger). Contains x.triggers t) (named_on m.0 (Port p) m.2) (mem_contains m.0 x.triggers m.1))

-- no reaction yet
pub marked_start : (program : Parts) (n : ℕ) (marked : List Bool) → marked ≡ replicate n false → n ≡ length program.ports → AreReadPortsMarked program 0 marked
marked_start program n marked same count = record { as_long = ap length same ∙ length_same n false ∙ count; each = λ p. (λ e. absurd (none p e), λ r. (let l : r.0 < 0 = r.1 in absurd (omega arith))) }
  where
    none : (p : ℕ) → slice_get marked p ≡ Some true → ⊥
    none p e = let z : true ≡ false = get_same n p false true (subst (λ (ms : List Bool). slice_get ms p ≡ Some true) same e) in absurd (cc)

-- one reaction more
pub marked_more : (program : Parts) (n : ℕ) (x : Reaction) (old mid new : List Bool) → slice_get program.reactions n ≡ Some x → AreReadPortsMarked program n old → length new ≡ length old → ((p : ℕ) → (slice_get mid p ≡ Some true) ↔ ((slice_get old p ≡ Some true) ⊎ Contains (filter_map named x.triggers) (Port p))) → ((p : ℕ) → (slice_get new p ≡ Some true) ↔ ((slice_get mid p ≡ Some true) ⊎ Contains x.uses (Port p))) → AreReadPortsMarked program (n + 1) new
marked_more program n x old mid new here before as_long triggers uses = record { as_long = as_long ∙ before.as_long; each = λ p. (λ e. to p ((uses p).0 e), λ r. from p r (cases_eq r.0 n)) }
  where
    read : (p : ℕ) → Contains (inputs x) (Port p) → (r : ℕ) × (r < n + 1) × ReadsPort program r p
    read p c = (n, omega arith, (x, here, c))

    to : (p : ℕ) → (slice_get mid p ≡ Some true) ⊎ Contains x.uses (Port p) → (r : ℕ) × (r < n + 1) × ReadsPort program r p
    to p (inr c) = read p (mem_contains (Port p) (inputs x) (mem_right (Port p) (filter_map named x.triggers) x.uses (contains_mem (Port p) x.uses c)))
    to p (inl e) = by ((triggers p).0 e)
      where
        by : (slice_get old p ≡ Some true) ⊎ Contains (filter_map named x.triggers) (Port p) → (r : ℕ) × (r < n + 1) × ReadsPort program r p
        by (inl f) = let r = (before.each p).0 f in let l : r.0 < n = r.1 in (r.0, omega arith, r.2)
        by (inr c) = read p (mem_contains (Port p) (inputs x) (mem_left (Port p) (filter_map named x.triggers) x.uses (contains_mem (Port p) (filter_map named x.triggers) c)))

    from : (p : ℕ) → (r : (k : ℕ) × (k < n + 1) × ReadsPort program k p) → (r.0 ≡ n) ⊎ (r.0 ≡ n → ⊥) → slice_get new p ≡ Some true
    from p r (inr d) = (uses p).1 (inl ((triggers p).1 (inl ((before.each p).1 (r.0, (let l : r.0 < n + 1 = r.1 in omega arith), r.2)))))
    from p r (inl e) = by (mem_cases (Port p) (filter_map named x.triggers) x.uses (contains_mem (Port p) (inputs x) (subst (λ (y : Reaction). Contains (inputs y) (Port p)) (same_at program.reactions r.0 n r.2.0 x r.2.1 here e) r.2.2)))
      where
        by : Mem (Port p) (filter_map named x.triggers) ⊎ Mem (Port p) x.uses → slice_get new p ≡ Some true
        by (inl m) = (uses p).1 (inl ((triggers p).1 (inr (mem_contains (Port p) (filter_map named x.triggers) m))))
        by (inr m) = (uses p).1 (inr (mem_contains (Port p) x.uses m))

-- the test of a port being read finds the reaction that reads it
port_there : (p : ℕ) (n : Name) → is_port p n ≡ true → n ≡ Port p
port_there p (Port q) e = ap Port (sym (eqb-true p q e))
port_there p (Action a) e = absurd (false≢true e)

reads_of : (program : Parts) (p : ℕ) → is_read program p ≡ true → (r : ℕ) × ReadsPort program r p
reads_of program p e =
    let x = Any-from_list_any (λ y. list_any (is_port p) (inputs y)) program.reactions e in
    let n = Any-from_list_any (is_port p) (inputs x.1) x.4 in
    let here : Contains (inputs x.1) n.1 = (n.0, n.2, n.3) in
    (x.0, (x.1, slice_get-get_or program.reactions x.0 x.1 x.2 ∙ ap Some x.3, subst (λ (m : Name). Contains (inputs x.1) m) (port_there p n.1 n.4) here))

pub of_reads : (program : Parts) (r p : ℕ) → ReadsPort program r p → is_read program p ≡ true
of_reads program r p (x, is, c) = let i = at_contains (inputs x) (Port p) c in any_passes_from_place (λ y. list_any (is_port p) (inputs y)) program.reactions r x is (any_passes_from_place (is_port p) (inputs x) i.0 (Port p) i.1 (eq-eqb p p refl))

-- what is marked of a port is whether it is read
pub marked_is : (program : Parts) (marked : List Bool) → AreReadPortsMarked program (length program.reactions) marked → (p : ℕ) → p < length program.ports → slice_get marked p ≡ Some (is_read program p)
marked_is program marked are p l = go there.0 (is_read program p) there.1 refl
  where
    there : (b : Bool) × (slice_get marked p ≡ Some b)
    there = get_there marked p (let a = are.as_long in omega arith)

    go : (b c : Bool) → slice_get marked p ≡ Some b → is_read program p ≡ c → slice_get marked p ≡ Some c
    go true true e f = e
    go false false e f = e
    go true false e f = let r = (are.each p).0 e in absurd (false≢true (sym f ∙ of_reads program r.0 p r.2))
    go false true e f = let r = reads_of program p f in (are.each p).1 (r.0, slice_get_within program.reactions r.0 r.1.0 r.1.1, r.1)
