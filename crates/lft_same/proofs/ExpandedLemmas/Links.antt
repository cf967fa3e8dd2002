-- The links of the connections that stand in place of one.
use Rattle.std.proofs.Common.{◌≡◌, inl, inr, ℕ, Bool, true, false, List, [], ◌∷◌, ◌++◌, map, flat_map, filter_map, Option, Some, option_map, refl, sym, ap, ◌∙◌}
use Rattle.std.{specs.{List.{zip, cons_option}, Option.option_and_then}, proofs.lemmas.List.append-nil}
use Rattle.lft_lists.proofs.Members.{Mem, mem_from_flat, mem_get}
use Rattle.lft_elaborate.specs.inner.Channels.Lowered.{AreJoinedPlaces, single}
use Rattle.lft_tree.specs.Tree.{RefTree, TimeTree, ConnectionTree}
use Rattle.lft_resolve.specs.Instances.{Inside, Thing, stands_for, time_in}
use Rattle.lft_same.specs.{Expanded.{Expanded.Link, Whole.pairs}, inner.Expanded.Core.{link_of, core_links}}
use Rattle.lft_same.proofs.ExpandedLemmas.{Pairs.{joined_pairs, pairs_map}, Flattened.{linked, map_twice, unzip}}

zip_mem : {X Y : Type 0} (xs : List X) (ys : List Y) (p : X × Y) → Mem p (zip xs ys) → Mem p.0 xs × Mem p.1 ys
zip_mem xs ys p m = let k = unzip xs ys p.0 p.1 m in (mem_get xs k.0 p.0 k.1, mem_get ys k.0 p.1 k.2)

-- the ends of a pair are of the two sides
pub pairs_mem : {X : Type 0} (broadcast : Bool) (left right : List X) (p : X × X) → Mem p (pairs broadcast left right) → Mem p.0 left × Mem p.1 right
pairs_mem false left right p m = zip_mem left right p m
pairs_mem true left right p m = let r = zip_mem (flat_map (λ r. left) right) right p m in let s = mem_from_flat (λ r. left) right p.0 r.0 in (s.2, r.1)

-- names in the instance at a path stand for things
module _ (path : List ℕ) (x : Inside) (delay : Option TimeTree) (th : RefTree → Thing) where
  abbrev pub Stand : List RefTree → Type 0
  Stand refs = (ref : RefTree) → Mem ref refs → stands_for x.reactor path ref ≡ Some (th ref)

  abbrev pub link_at : RefTree × RefTree → Link
  link_at p = linked (option_map (time_in x) delay) (th p.0) (th p.1)

  of_pair : (a b : RefTree) → stands_for x.reactor path a ≡ Some (th a) → stands_for x.reactor path b ≡ Some (th b) → link_of path x delay (a, b) ≡ Some (link_at (a, b))
  of_pair a b f t =
      ap (option_and_then (λ s. option_map (λ t. linked (option_map (time_in x) delay) s t) (stands_for x.reactor path b))) f
      ∙ ap (option_map (λ t. linked (option_map (time_in x) delay) (th a) t)) t

  zip_linked : (ls rs : List RefTree) → Stand ls → Stand rs → filter_map (link_of path x delay) (zip ls rs) ≡ map link_at (zip ls rs)
  zip_linked [] rs f t = refl
  zip_linked (a ∷ ls) [] f t = refl
  zip_linked (a ∷ ls) (b ∷ rs) f t =
      ap (λ o. cons_option o (filter_map (link_of path x delay) (zip ls rs))) (of_pair a b (f a (inl refl)) (t b (inl refl)))
      ∙ ap (λ (l : List Link). link_at (a, b) ∷ l) (zip_linked ls rs (λ r m. f r (inr m)) (λ r m. t r (inr m)))

  singles_linked : (ps : List (RefTree × RefTree)) → ((p : RefTree × RefTree) → Mem p ps → (stands_for x.reactor path p.0 ≡ Some (th p.0)) × (stands_for x.reactor path p.1 ≡ Some (th p.1))) → flat_map (core_links path x) (map (λ p. single delay p.0 p.1) ps) ≡ map link_at ps
  singles_linked [] stand = refl
  singles_linked (p ∷ ps) stand =
      ap (λ o. cons_option o [] ++ flat_map (core_links path x) (map (λ p. single delay p.0 p.1) ps)) (of_pair p.0 p.1 (stand p (inl refl)).0 (stand p (inl refl)).1)
      ∙ ap (λ (l : List Link). link_at p ∷ l) (singles_linked ps (λ q m. stand q (inr m)))

  -- as many connections as pairs have the links of the pairs, in order
  pub joined_links : (left right : List RefTree) (broadcast : Bool) (cs : List ConnectionTree) → AreJoinedPlaces left right broadcast delay cs → Stand left → Stand right → flat_map (core_links path x) cs ≡ map (λ (p : Thing × Thing). linked (option_map (time_in x) delay) p.0 p.1) (pairs broadcast (map th left) (map th right))
  joined_links left right broadcast cs joins f t =
      ap (flat_map (core_links path x)) (joined_pairs left right broadcast delay cs joins)
      ∙ singles_linked (pairs broadcast left right) (λ p m. let r = pairs_mem broadcast left right p m in (f p.0 r.0, t p.1 r.1))
      ∙ sym (map_twice (λ p. (th p.0, th p.1)) (λ (p : Thing × Thing). linked (option_map (time_in x) delay) p.0 p.1) (pairs broadcast left right))
      ∙ ap (map (λ (p : Thing × Thing). linked (option_map (time_in x) delay) p.0 p.1)) (sym (pairs_map th broadcast left right))

  -- so has one that joins them all
  pub whole_links : (left right : List RefTree) → Stand left → Stand right → flat_map (core_links path x) ((record { sources = left; destinations = right; delay = delay }) ∷ []) ≡ map (λ (p : Thing × Thing). linked (option_map (time_in x) delay) p.0 p.1) (pairs false (map th left) (map th right))
  whole_links left right f t =
      append-nil (filter_map (link_of path x delay) (zip left right))
      ∙ zip_linked left right f t
      ∙ sym (map_twice (λ p. (th p.0, th p.1)) (λ (p : Thing × Thing). linked (option_map (time_in x) delay) p.0 p.1) (zip left right))
      ∙ ap (map (λ (p : Thing × Thing). linked (option_map (time_in x) delay) p.0 p.1)) (sym (pairs_map th false left right))
