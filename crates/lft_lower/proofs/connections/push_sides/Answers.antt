use Rattle.std.proofs.Common.{◌≡◌, ℕ, Bool, true, List, length, min, take, sym, ap, ◌∙◌}
use Rattle.std.specs.Prelude.{option_map}
use Rattle.std.proofs.lemmas.List.{map-append}
use Rattle.lft_tree.specs.View.{member_view, member_views, ref_views, time_view}
use Rattle.lft_lower.specs.inner.{Meanings.{Meanings.{Here, all_places, here, token_in}, Standing.{all_tokens, ref_tokens}}, Standing.{AreSidesAt, time_tokens}}
use Rattle.lft_lower.proofs.{MeaningsLemmas.Standing.tokens_long, Joining.{connected_pairs, connected_whole}, Pairing.{AreCut, sides_each, sides_whole}}
use Rattle.lft_lower.proofs.Standing.{at_as, at_one, at_this}
use Rattle.lft_elaborate.specs.inner.Channels.Channels.{joined}
use Rattle.lft_whole.specs.declared.tree.Reference.{Reference as Written}
use Rattle.lft_lower.proofs.connections.push_sides.Goals as goal

pub returns-then-is_whole-clause-made : goal.returns-then-is_whole-clause-made
returns-then-is_whole-clause-made c =
    let h = here c.args.within in
    let w = c.args.connection.now in
    let yes : c.in_ok-is_whole.is_whole ≡ true = cc in
    let fits = c.in_ok-is_whole.ensures.plain yes in
    let lefts = c.in_ok-sources.ensures.places ∙ ap (λ xs. take c.min-most.result (all_places h xs)) c.deref.ensures.value in
    let rights = c.in_ok-destinations.ensures.places ∙ ap (λ xs. take c.joined-pairs.result (all_places h xs)) c.deref-2.ensures.value in
    (_, connected_whole (all_places h w.sources.items) (all_places h w.destinations.items) w.is_broadcast (option_map time_view c.args.delay) c.args.sides.left c.args.sides.right c.joined-pairs.result c.min-most.result _ _ c.requires.0 c.requires.1 c.joined-pairs.ensures c.min-most.ensures lefts rights fits.0 fits.1, ap member_views c.in_ok-push.ensures.items ∙ map-append member_view c.args.list.now.items _)

pub returns-clause-made : goal.returns-clause-made
returns-clause-made c =
    let h = here c.args.within in
    let w = c.args.connection.now in
    let made = c.in_ok-push_pairs.ensures.made in
    let lefts = ap ref_views c.deref-3.ensures.value ∙ c.in_ok-sources.ensures.places ∙ ap (λ xs. take c.min-most.result (all_places h xs)) c.deref.ensures.value in
    let rights = ap ref_views c.deref-4.ensures.value ∙ c.in_ok-destinations.ensures.places ∙ ap (λ xs. take c.joined-pairs.result (all_places h xs)) c.deref-2.ensures.value in
    (made.0, connected_pairs (all_places h w.sources.items) (all_places h w.destinations.items) w.is_broadcast (option_map time_view c.args.delay) c.args.sides.left c.args.sides.right c.joined-pairs.result c.min-most.result (ref_views c.deref-3.result.now) (ref_views c.deref-4.result.now) made.0 c.requires.0 c.requires.1 c.joined-pairs.ensures c.min-most.ensures lefts rights made.1, made.2)

-- the tokens of the places of both sides, of which as many are made as are joined
tokens_cut : (number : ℕ → ℕ) (h : Here) (from to froms tos : List Written) (b : Bool) (l r pairs most : ℕ) (ls rs : List ℕ) → l ≡ length (all_places h from) → r ≡ length (all_places h to) → pairs ≡ joined l r b → most ≡ min pairs l → ls ≡ take most (all_tokens number h froms) → rs ≡ take pairs (all_tokens number h tos) → froms ≡ from → tos ≡ to → AreCut (all_tokens number h from) (all_tokens number h to) b pairs ls rs
tokens_cut number h from to froms tos b l r pairs most ls rs many far all cut lefts rights same_from same_to =
    let long : l ≡ length (all_tokens number h from) = many ∙ sym (tokens_long number h from) in
    let wide : r ≡ length (all_tokens number h to) = far ∙ sym (tokens_long number h to) in
    record {
      all = all ∙ ap (λ n. joined n r b) long ∙ ap (λ n. joined (length (all_tokens number h from)) n b) wide;
      lefts = lefts ∙ ap (λ xs. take most (all_tokens number h xs)) same_from ∙ ap (λ n. take n (all_tokens number h from)) (cut ∙ ap (min pairs) long);
      rights = rights ∙ ap (λ xs. take pairs (all_tokens number h xs)) same_to;
    }

pub returns-then-is_whole-clause-at : goal.returns-then-is_whole-clause-at
returns-then-is_whole-clause-at c =
    let number = token_in c.args.within in
    let h = here c.args.within in
    let w = c.args.connection.now in
    let left = all_tokens number h w.sources.items in
    let right = all_tokens number h w.destinations.items in
    let yes : c.in_ok-is_whole.is_whole ≡ true = cc in
    let fits = c.in_ok-is_whole.ensures.plain yes in
    let cut = tokens_cut number h w.sources.items w.destinations.items _ _ w.is_broadcast c.args.sides.left c.args.sides.right c.joined-pairs.result c.min-most.result _ _ c.requires.0 c.requires.1 c.joined-pairs.ensures c.min-most.ensures c.in_ok-sources.ensures.tokens c.in_ok-destinations.ensures.tokens c.deref.ensures.value c.deref-2.ensures.value in
    let same : length left ≡ length right = tokens_long number h w.sources.items ∙ sym c.requires.0 ∙ fits.1 ∙ c.requires.1 ∙ sym (tokens_long number h w.destinations.items) in
    at_one c.args.list.now.items _ _ _ _ c.in_ok-push.ensures.items c.token-arrow.ensures (sides_whole left right (time_tokens c.args.delay) w.is_broadcast c.joined-pairs.result _ _ cut fits.0 same)

pub returns-clause-at : goal.returns-clause-at
returns-clause-at c =
    let number = token_in c.args.within in
    let h = here c.args.within in
    let w = c.args.connection.now in
    let left = all_tokens number h w.sources.items in
    let right = all_tokens number h w.destinations.items in
    let delay = time_tokens c.args.delay in
    let lefts = ap ref_tokens c.deref-3.ensures.value ∙ c.in_ok-sources.ensures.tokens in
    let rights = ap ref_tokens c.deref-4.ensures.value ∙ c.in_ok-destinations.ensures.tokens in
    let cut = tokens_cut number h w.sources.items w.destinations.items _ _ w.is_broadcast c.args.sides.left c.args.sides.right c.joined-pairs.result c.min-most.result _ _ c.requires.0 c.requires.1 c.joined-pairs.ensures c.min-most.ensures lefts rights c.deref.ensures.value c.deref-2.ensures.value in
    let adds = at_as c.args.list.now.items _ _ _ (AreSidesAt left right w.is_broadcast delay) c.in_ok-push_pairs.ensures.at (λ parts made. sides_each left right delay w.is_broadcast c.joined-pairs.result _ _ parts cut made) in
    at_this c.args.list.now.items _ _ _ _ c.token-arrow.ensures adds
