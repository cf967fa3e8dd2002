use Rattle.std.proofs.Common.{◌≡◌, ℕ, ◌+◌, ◌<◌, List, [], ◌∷◌, ◌++◌, Bool, Some, length, length-take, take, map, get_or, sym, ap, ◌∙◌, append_assoc, arith}
use Rattle.std.specs.Prelude.{slice_get}
use Rattle.std.proofs.lemmas.{List.{length-map, take_more}, Option.{get_or_from_slice_get, slice_get-get_or}}
use Rattle.lft_lists.proofs.Mapped.{mapped}
use Rattle.lft_whole_parser.{specs.Imports.Paths.joined_path, proofs.ImportsLemmas.Walks.joined_more}
use Rattle.lft_whole_parser.proofs.imports.paths.joined.Goals as goal

-- one folder more
turn : (r : Bool) (fs : List (List ℕ)) (i : ℕ) (f a b c : List ℕ) → 0 < i → slice_get fs i ≡ Some f → i < length fs → b ≡ a ++ 47 ∷ [] → c ≡ b ++ f → a ≡ joined_path r (take i fs) → c ≡ joined_path r (take (i + 1) fs)
turn r fs i f a b c some at l p q h =
    let taken : length (take i fs) ≡ i = omega (arith, length-take i fs) in
    let more : take (i + 1) fs ≡ take i fs ++ f ∷ [] = take_more fs i f l ∙ ap (λ z. take i fs ++ z ∷ []) (get_or_from_slice_get fs i f f at) in
    q ∙ ap (λ z. z ++ f) p ∙ append_assoc a (47 ∷ []) f ∙ ap (λ z. z ++ 47 ∷ f) h ∙ sym (joined_more r (take i fs) f (omega (arith, taken))) ∙ sym (ap (joined_path r) more)

pub loop-place-preserved : goal.loop-place-preserved
loop-place-preserved c =
    let folders = c.args.folders.now in
    let place = c.loop-place.place in
    let folder = get_or folders place (record { ref_ptr = (0, 0); now = [] }) in
    let test = c.loop-place-test.true in
    turn c.args.from_root (map (λ x. x.now) folders) place folder.now _ _ _ (omega arith) (mapped (λ x. x.now) folders place folder (slice_get-get_or folders place _ (omega arith))) (omega (arith, length-map folders (λ x. x.now))) c.in_ok-push_str-2.ensures.bytes c.in_ok-push_str-3.ensures.bytes c.loop-place.invariant
