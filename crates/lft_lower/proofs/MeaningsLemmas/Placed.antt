-- Places of references, one after another.
use Rattle.std.proofs.Common.{◌≡◌, ℕ, ◌+◌, Bool, List, [], Some, take, length, sym, ◌∙◌, ap, arith, length-append}
use Rattle.std.specs.Prelude.{option_map, slice_get, unwrap_or}
use Rattle.lft_whole.specs.declared.tree.Reference.{Reference}
use Rattle.lft_elaborate.specs.declared.meanings.Meaning.{Meaning}
use Rattle.lft_lower.{specs.inner.Meanings.Meanings.{Here, all_places, meaning_of_reference, places_in, places_of}, proofs.MeaningsLemmas.Growing.flat_next}

-- the places of a reference are those of what it means
pub its_places : (h : Here) (r : Reference) (x : Meaning) → meaning_of_reference h r ≡ Some x → places_in h r ≡ places_of h r.is_interleaved x
its_places h r x is = ap (λ o. unwrap_or (option_map (places_of h r.is_interleaved) o) []) is

-- so many places there are with those of one more
pub count_next : (h : Here) (rs : List Reference) (k : ℕ) (r : Reference) (x : Meaning) (all count sum : ℕ) → slice_get rs k ≡ Some r → meaning_of_reference h r ≡ Some x → ((b : Bool) → count ≡ length (places_of h b x)) → sum ≡ all + count → all ≡ length (all_places h (take k rs)) → sum ≡ length (all_places h (take (k + 1) rs))
count_next h rs k r x all count sum at is many whole so_far =
    let here : count ≡ length (places_in h r) = many r.is_interleaved ∙ ap length (sym (its_places h r x is)) in
    let next : length (all_places h (take (k + 1) rs)) ≡ length (all_places h (take k rs)) + length (places_in h r) = ap length (flat_next (places_in h) rs k r at) ∙ length-append (all_places h (take k rs)) (places_in h r) in
    omega (arith, here, next, whole, so_far)
