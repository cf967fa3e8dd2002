-- Parts of a list of names: what stands at a place of a part, and the thing that has a name.
use Rattle.std.proofs.Common.{◌++◌, ◌≡◌, ℕ, ◌<◌, ◌≤◌, ◌+◌, ◌-◌, zero, suc, Bool, true, false, List, [], ◌∷◌, take, drop, length, slice_get, slice_range, nat_lt, Some, refl, sym, ap, ◌∙◌, arith, zero-add, if◌then◌else◌}
use Rattle.std.proofs.lemmas.{Bool.Decides.{nat_tests, Decides-ltb}, Grind.common_steps, List.Folds.drop_split, Option.slice_get_within}
use Rattle.lft_ir.specs.{Names.{ThingNames, IsNamed, AreDistinct}, inner.{Names.HasNoTwice, Places.{AreStarts, names_from, thing_at}}}
use Rattle.lft_ir.specs.declared.{found.Found.{Found, TheVariants.{Instance, Port, Action, Timer, Reaction}}, names.Starts.Starts}

module _ {X : Type 0} where
  pub slice_get-drop : (xs : List X) (a k : ℕ) → slice_get (drop a xs) k ≡ slice_get xs (a + k)
  slice_get-drop xs zero k = ap (slice_get xs) (sym (zero-add k))
  slice_get-drop [] (suc a) k = refl
  slice_get-drop (x ∷ xs) (suc a) k = let e : suc (a + k) ≡ suc a + k = omega arith in slice_get-drop xs a k ∙ ap (slice_get (x ∷ xs)) e

  pub slice_get-take : (xs : List X) (n k : ℕ) → k < n → slice_get (take n xs) k ≡ slice_get xs k
  slice_get-take xs zero k lt = absurd (omega arith)
  slice_get-take [] (suc n) k lt = refl
  slice_get-take (x ∷ xs) (suc n) zero lt = refl
  slice_get-take (x ∷ xs) (suc n) (suc k) lt = slice_get-take xs n k (omega arith)

  pub length-range : (xs : List X) (a b : ℕ) → b ≤ length xs → length (slice_range xs a b) ≡ b - a
  length-range xs a b within = grind (arith, common_steps)

  -- an element of the part is that of the list, counted from where the part begins
  pub range-get : (xs : List X) (a b k : ℕ) → a + k < b → slice_get (slice_range xs a b) k ≡ slice_get xs (a + k)
  range-get xs a b k lt = slice_get-take (drop a xs) (b - a) k (omega arith) ∙ slice_get-drop xs a k

  pub range-within : (xs : List X) (a b k : ℕ) (x : X) → b ≤ length xs → slice_get (slice_range xs a b) k ≡ Some x → a + k < b
  range-within xs a b k x within at =
      let inside = slice_get_within (slice_range xs a b) k x at in
      omega (arith, length-range xs a b within)

module _ (texts : List (List ℕ)) (s : Starts) (starts : AreStarts s (length texts)) where
  -- the thing at a place has the name that stands there
  pub named_at : (place : ℕ) (text : List ℕ) → slice_get texts place ≡ Some text → IsNamed (names_from texts s) (thing_at s place) text
  named_at place text at = by (nat_lt place s.ports) refl (nat_lt place s.actions) refl (nat_lt place s.timers) refl (nat_lt place s.reactions) refl
    where
      inside : place < length texts
      inside = slice_get_within texts place text at

      part : (a b : ℕ) → a ≤ place → place < b → slice_get (slice_range texts a b) (place - a) ≡ Some text
      part a b low high = (let e : a + (place - a) ≡ place = omega arith in range-get texts a b (place - a) (omega arith) ∙ ap (slice_get texts) e ∙ at)

      by : (p : Bool) → nat_lt place s.ports ≡ p → (a : Bool) → nat_lt place s.actions ≡ a → (t : Bool) → nat_lt place s.timers ≡ t → (r : Bool) → nat_lt place s.reactions ≡ r
          → IsNamed (names_from texts s) (if p then Instance place else if a then Port (place - s.ports) else if t then Action (place - s.actions) else if r then Timer (place - s.timers) else Reaction (place - s.reactions)) text
      by true p a _ t _ r _ = let low : place < s.ports = (Decides-ltb place s.ports).0 p in range-get texts 0 s.ports place (omega arith) ∙ ap (slice_get texts) (zero-add place) ∙ at
      by false p true a t _ r _ = let low : s.ports ≤ place = grind (arith, nat_tests) in part s.ports s.actions low ((Decides-ltb place s.actions).0 a)
      by false p false a true t r _ = let low : s.actions ≤ place = grind (arith, nat_tests) in part s.actions s.timers low ((Decides-ltb place s.timers).0 t)
      by false p false a false t true r = let low : s.timers ≤ place = grind (arith, nat_tests) in part s.timers s.reactions low ((Decides-ltb place s.reactions).0 r)
      by false p false a false t false r = let low : s.reactions ≤ place = grind (arith, nat_tests) in part s.reactions (length texts) low inside

  -- a name stands at the place of its thing
  pub place_named : (f : Found) (text : List ℕ) → IsNamed (names_from texts s) f text → (place : ℕ) × (slice_get texts place ≡ Some text) × (f ≡ thing_at s place)
  place_named (Instance n) text at =
      let within = range-within texts 0 s.ports n text (omega arith) at in
      (n, sym (range-get texts 0 s.ports n within ∙ ap (slice_get texts) (zero-add n)) ∙ at, grind (arith, nat_tests))
  place_named (Port n) text at =
      let within = range-within texts s.ports s.actions n text (omega arith) at in
      (s.ports + n, sym (range-get texts s.ports s.actions n within) ∙ at, grind (arith, nat_tests))
  place_named (Action n) text at =
      let within = range-within texts s.actions s.timers n text (omega arith) at in
      (s.actions + n, sym (range-get texts s.actions s.timers n within) ∙ at, grind (arith, nat_tests))
  place_named (Timer n) text at =
      let within = range-within texts s.timers s.reactions n text (omega arith) at in
      (s.timers + n, sym (range-get texts s.timers s.reactions n within) ∙ at, grind (arith, nat_tests))
  place_named (Reaction n) text at =
      let within = range-within texts s.reactions (length texts) n text (omega arith) at in
      (s.reactions + n, sym (range-get texts s.reactions (length texts) n within) ∙ at, grind (arith, nat_tests))

  pub AreDistinct-names_from : HasNoTwice texts → AreDistinct (names_from texts s)
  AreDistinct-names_from once f g text a b =
      let p = place_named f text a in
      let q = place_named g text b in
      p.2 ∙ ap (thing_at s) (once p.0 q.0 text p.1 q.1) ∙ sym q.2

  -- what holds of each text of the list holds of each name
  pub each_named : (P : List ℕ → Type 0) → ((i : ℕ) (text : List ℕ) → slice_get texts i ≡ Some text → P text) → (f : Found) (text : List ℕ) → IsNamed (names_from texts s) f text → P text
  each_named P all f text a = let p = place_named f text a in all p.0 text p.1

-- the names of the kinds one after another
abbrev together : ThingNames → List (List ℕ)
together n = n.instances ++ (n.ports ++ (n.actions ++ (n.timers ++ n.reactions)))

together-names_from : (texts : List (List ℕ)) (s : Starts) → AreStarts s (length texts) → together (names_from texts s) ≡ texts
together-names_from texts s starts =
    let a : texts ≡ slice_range texts 0 s.ports ++ drop s.ports texts = drop_split texts 0 s.ports (omega arith) in
    let b = drop_split texts s.ports s.actions starts.ports in
    let c = drop_split texts s.actions s.timers starts.actions in
    let d = drop_split texts s.timers s.reactions starts.timers in
    let e : slice_range texts s.reactions (length texts) ≡ drop s.reactions texts = grind (arith, common_steps) in
    sym
    (a ∙ ap (λ l. slice_range texts 0 s.ports ++ l)
    (b ∙ ap (λ l. slice_range texts s.ports s.actions ++ l)
    (c ∙ ap (λ l. slice_range texts s.actions s.timers ++ l)
    (d ∙ ap (λ l. slice_range texts s.timers s.reactions ++ l) (sym e)))))

module _ (texts others : List (List ℕ)) (s r : Starts) (starts : AreStarts s (length texts)) (begins : AreStarts r (length others)) (same : names_from texts s ≡ names_from others r) where
  -- the same names stand in the same list
  pub same_texts : texts ≡ others
  same_texts = sym (together-names_from texts s starts) ∙ ap together same ∙ together-names_from others r begins

  -- and begin at the same places
  pub same_starts : s ≡ r
  same_starts =
      let i : length (slice_range texts 0 s.ports) ≡ length (slice_range others 0 r.ports) = ap (λ n. length n.instances) same in
      let p : length (slice_range texts s.ports s.actions) ≡ length (slice_range others r.ports r.actions) = ap (λ n. length n.ports) same in
      let a : length (slice_range texts s.actions s.timers) ≡ length (slice_range others r.actions r.timers) = ap (λ n. length n.actions) same in
      let t : length (slice_range texts s.timers s.reactions) ≡ length (slice_range others r.timers r.reactions) = ap (λ n. length n.timers) same in
      let i1 = length-range texts 0 s.ports (omega arith) in
      let i2 = length-range others 0 r.ports (omega arith) in
      let p1 = length-range texts s.ports s.actions (omega arith) in
      let p2 = length-range others r.ports r.actions (omega arith) in
      let a1 = length-range texts s.actions s.timers (omega arith) in
      let a2 = length-range others r.actions r.timers (omega arith) in
      let t1 = length-range texts s.timers s.reactions (omega arith) in
      let t2 = length-range others r.timers r.reactions (omega arith) in
      let ports : s.ports ≡ r.ports = omega arith in
      let actions : s.actions ≡ r.actions = omega arith in
      let timers : s.timers ≡ r.timers = omega arith in
      let reactions : s.reactions ≡ r.reactions = omega arith in
      λ j. record { ports = ports j; actions = actions j; timers = timers j; reactions = reactions j }
