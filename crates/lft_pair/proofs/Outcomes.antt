-- What a run answered, by its steps with their places.
use Rattle.std.proofs.Common.{◌≡◌, ℕ, zero, suc, ◌≤◌, ◌||◌, List, [], ◌∷◌, length, take, map, filter_map, sym, ap, ◌∙◌, refl, Option, Some, None, option_map, is_some, slice_get}
use Rattle.std.{proofs.lemmas.List.take_all, specs.List.{last_or, cons_option}}
use Rattle.lft_lists.proofs.{Places.Some_same, Members.filter_map-map, Picked.map-filter_map}
use Rattle.lft_ir.specs.declared.parts.{Name.TheVariants.{Port, Action}, Value.Value}
use Rattle.lft_ir.specs.declared.steps.row.Step.{Step, TheVariants.{Start, Read, Write, Schedule, Stop, End}}
use Rattle.lft_model.specs.{Presence.{value_written, value_scheduled}, Runs.{outcome_of, request_of, is_stop, Outcome.{Written, Scheduled}}}
use Rattle.lft_pair.specs.declared.contrasting.contrasts.{Placed.Placed, LastWrite.LastWrite, Scheduling.Scheduling}
use Rattle.lft_pair.specs.Runs.{write, write_of, last_write, scheduling, scheduling_of, schedulings, request_at, request_of_step as placed_request, first_request}
use Rattle.lft_pair.specs.{Contrasts.value_of, Enough.steps}

same_filter : {X Y : Type 0} (f h : X → Option Y) (xs : List X) → ((x : X) → f x ≡ h x) → filter_map f xs ≡ filter_map h xs
same_filter f h [] e = refl
same_filter f h (x ∷ xs) e = ap (λ o. cons_option o (filter_map f xs)) (e x) ∙ ap (λ l. cons_option (h x) l) (same_filter f h xs e)

last_map : {X Y : Type 0} (f : X → Y) (o : Option X) (xs : List X) → last_or (option_map f o) (map f xs) ≡ option_map f (last_or o xs)
last_map f o [] = refl
last_map f o (x ∷ xs) = last_map f (Some x) xs

written_as : (i : ℕ) (o : Option Value) → option_map (λ (w : LastWrite). w.value) (option_map (write i) o) ≡ o
written_as i None = refl
written_as i (Some v) = refl

pub write_outcome : (run : List Placed) (p : ℕ) → outcome_of (steps run) (Port p) ≡ Written (value_of (last_write run p))
write_outcome run p = ap Written (ap (λ l. last_or None l) values ∙ last_map (λ (w : LastWrite). w.value) None (filter_map (write_of p) run))
  where
    values : filter_map (value_written p) (steps run) ≡ map (λ (w : LastWrite). w.value) (filter_map (write_of p) run)
    values = filter_map-map (λ (x : Placed). x.step) (value_written p) run ∙ sym (map-filter_map (λ (w : LastWrite). w.value) (write_of p) run ∙ same_filter (λ (x : Placed). option_map (λ (w : LastWrite). w.value) (write_of p x)) (λ (x : Placed). value_written p x.step) run (λ x. written_as x.row (value_written p x.step)))

scheduled_as : (i : ℕ) (o : Option (ℕ × Value)) → option_map (λ (y : Scheduling). (y.delay, y.value)) (option_map (scheduling i) o) ≡ o
scheduled_as i None = refl
scheduled_as i (Some y) = refl

pub schedule_outcome : (run : List Placed) (a : ℕ) → outcome_of (steps run) (Action a) ≡ Scheduled (map (λ (y : Scheduling). (y.delay, y.value)) (schedulings run a))
schedule_outcome run a = ap Scheduled (filter_map-map (λ (x : Placed). x.step) (value_scheduled a) run ∙ sym (map-filter_map (λ (y : Scheduling). (y.delay, y.value)) (scheduling_of a) run ∙ same_filter (λ (x : Placed). option_map (λ (y : Scheduling). (y.delay, y.value)) (scheduling_of a x)) (λ (x : Placed). value_scheduled a x.step) run (λ x. scheduled_as x.row (value_scheduled a x.step))))

-- a stop was requested where there is a first request
requested : (run : List Placed) → is_some (slice_get (filter_map placed_request run) 0) ≡ request_of (steps run)
requested [] = refl
requested (x ∷ xs) = by x.row x.step (requested xs)
  where
    by : (i : ℕ) (s : Step) → is_some (slice_get (filter_map placed_request xs) 0) ≡ request_of (steps xs) → is_some (slice_get (cons_option (request_at i s) (filter_map placed_request xs)) 0) ≡ (is_stop s || request_of (steps xs))
    by i Stop rest = refl
    by i Start rest = rest
    by i (Read n v) rest = rest
    by i (Write n v) rest = rest
    by i (Schedule n v d) rest = rest
    by i End rest = rest

pub request_outcome : (run : List Placed) → request_of (steps run) ≡ is_some (first_request run)
request_outcome run = sym (requested run)

-- what is found first is the first, where nothing was found before
pub found_first : {X Y : Type 0} (h : X → Option Y) (xs : List X) (i : ℕ) (x : X) (y : Y) → slice_get xs i ≡ Some x → h x ≡ Some y → filter_map h (take i xs) ≡ [] → slice_get (filter_map h xs) 0 ≡ Some y
found_first h [] i x y e q none = absurd (cc)
found_first h (z ∷ zs) zero x y e q none = ap (λ o. slice_get (cons_option o (filter_map h zs)) 0) (ap h (Some_same z x e) ∙ q)
found_first {X} {Y} h (z ∷ zs) (suc i) x y e q none = go (h z) none (λ rest. found_first h zs i x y e q rest)
  where
    go : (o : Option Y) → cons_option o (filter_map h (take i zs)) ≡ [] → (filter_map h (take i zs) ≡ [] → slice_get (filter_map h zs) 0 ≡ Some y) → slice_get (cons_option o (filter_map h zs)) 0 ≡ Some y
    go None rest later = later rest
    go (Some w) rest later = absurd (cc)

pub found_none : {X Y : Type 0} (h : X → Option Y) (xs : List X) (i : ℕ) → length xs ≤ i → filter_map h (take i xs) ≡ [] → slice_get (filter_map h xs) 0 ≡ None
found_none h xs i all none = ap (λ ys. slice_get (filter_map h ys) 0) (sym (take_all i xs all)) ∙ ap (λ ys. slice_get ys 0) none
