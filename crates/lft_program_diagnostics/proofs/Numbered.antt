-- The single connections of a reactor, counted member by member.
use Rattle.std.proofs.Common.{◌≡◌, ℕ, ◌+◌, ◌<◌, List, [], ◌++◌, append-nil, length, length-append, min, drop, take, flat_map, filter_map, refl, sym, ap, ◌∙◌, subst, Option, Some, None, slice_get}
use Rattle.std.specs.List.{cons_option, zip}
use Rattle.std.proofs.lemmas.{Grind.flat_map-append, List.{length-map, take-append-drop, Elements.filter_map-append}, Slice.Zip.length-zip}
use Rattle.lft_lists.proofs.{Mapped.{mapped, pair_at}, Picked.kept_more, Places.{get_left, get_right, get_there}}
use Rattle.lft_tree.specs.Tree.{ConnectionTree, MemberTree, RefTree, connection_in}
use Rattle.lft_resolve.specs.inner.Sheets.{Single, singles_in}
use Rattle.lft_program_diagnostics.specs.inner.Singles.{IsSingleAt}

-- the single connections of these members
abbrev pub singles_among : List MemberTree → List Single
singles_among ms = flat_map singles_in (filter_map connection_in ms)

-- those of the members so far, with those of one more
more : (ms : List MemberTree) (k : ℕ) (m : MemberTree) (o : Option ConnectionTree) → slice_get ms k ≡ Some m → o ≡ connection_in m → singles_among (take (k + 1) ms) ≡ singles_among (take k ms) ++ flat_map singles_in (cons_option o [])
more ms k m o at is = ap (flat_map singles_in) (kept_more connection_in ms k m o at is) ∙ flat_map-append singles_in (filter_map connection_in (take k ms)) (cons_option o [])

width : (c : ConnectionTree) → length (singles_in c) ≡ min (length c.sources) (length c.destinations)
width c = length-map (zip c.sources c.destinations) _ ∙ length-zip c.sources c.destinations

module _ (ms : List MemberTree) (k : ℕ) (m : MemberTree) (at : slice_get ms k ≡ Some m) where
  -- a member that is no connection adds none
  pub other_member : None ≡ connection_in m → length (singles_among (take (k + 1) ms)) ≡ length (singles_among (take k ms))
  other_member is = ap length (more ms k m None at is ∙ append-nil (singles_among (take k ms)))

  module _ (c : ConnectionTree) (is : Some c ≡ connection_in m) where
    with_this : singles_among (take (k + 1) ms) ≡ singles_among (take k ms) ++ singles_in c
    with_this = more ms k m (Some c) at is ∙ ap (λ l. singles_among (take k ms) ++ l) (append-nil (singles_in c))

    pub this_member : length (singles_among (take (k + 1) ms)) ≡ length (singles_among (take k ms)) + min (length c.sources) (length c.destinations)
    this_member = ap length with_this ∙ length-append (singles_among (take k ms)) (singles_in c) ∙ ap (λ n. length (singles_among (take k ms)) + n) (width c)

    -- one of this connection is found at its place
    pub found_here : (place : ℕ) → place < length c.sources → place < length c.destinations → (s : Single) × (slice_get (singles_among ms) (length (singles_among (take k ms)) + place) ≡ Some s) × IsSingleAt s c place
    found_here place low less = (single, subst (λ l. slice_get l (length before + place) ≡ Some single) (sym whole) there, record { is_from = from.1; is_to = to.1; is_delay = refl })
      where
        before : List Single
        before = singles_among (take k ms)

        from : (x : RefTree) × (slice_get c.sources place ≡ Some x)
        from = get_there c.sources place low

        to : (x : RefTree) × (slice_get c.destinations place ≡ Some x)
        to = get_there c.destinations place less

        single : Single
        single = record { from = from.0; to = to.0; delay = c.delay }

        here : slice_get (singles_in c) place ≡ Some single
        here = mapped (λ (p : RefTree × RefTree). record { from = p.0; to = p.1; delay = c.delay }) (zip c.sources c.destinations) place (from.0, to.0) (pair_at c.sources c.destinations place from.0 to.0 from.1 to.1)

        rest : List Single
        rest = singles_among (drop (k + 1) ms)

        whole : singles_among ms ≡ (before ++ singles_in c) ++ rest
        whole = ap singles_among (sym (take-append-drop (k + 1) ms)) ∙ ap (flat_map singles_in) (filter_map-append connection_in (take (k + 1) ms) (drop (k + 1) ms)) ∙ flat_map-append singles_in (filter_map connection_in (take (k + 1) ms)) (filter_map connection_in (drop (k + 1) ms)) ∙ ap (λ l. l ++ rest) with_this

        there : slice_get ((before ++ singles_in c) ++ rest) (length before + place) ≡ Some single
        there = get_left (before ++ singles_in c) rest (length before + place) single (get_right before (singles_in c) place ∙ here)
