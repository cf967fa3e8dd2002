-- A reactor and all that it extends are listed in the order of the language.
use Rattle.std.proofs.Common.{◌≡◌, ◌≢◌, ◌⊎◌, inl, inr, ℕ, zero, suc, ◌<◌, ◌≤◌, Bool, true, false, not, List, [], ◌∷◌, ◌++◌, length, map, filter, flat_map, Some, slice_get, refl, sym, ap, append_assoc, subst, ◌∙◌, arith}
use Rattle.std.specs.Prelude.{if◌then◌else◌}
use Rattle.std.proofs.lemmas.{Bool.not-true, List.{append-nil, map-append}, Option.slice_get_within}
use Rattle.lft_lists.proofs.Members.{Mem, get_mem, mem_cases, mem_from_flat, mem_from_map, mem_get, mem_left, mem_map, mem_right}
use Rattle.lft_resolve.proofs.ExpansionLemmas.Pairs.{Pairs}
use Rattle.lft_whole.specs.declared.sources.source.SourceFile.{SourceFile}
use Rattle.lft_classes.specs.inner.Walks.{Has, Lists, no_more, again, new}
use Rattle.lft_same.specs.Expanded.Reactors.{Class, bases_of, each_once, lineage_to, same_class}

-- ---- lists of numbers, in which each stands once

-- what is put behind a list one by one, where what stands already isn't put again
pub data Puts : List ℕ → List ℕ → List ℕ → Type 0 where
  done : (before : List ℕ) → Puts before [] before
  old : (before after : List ℕ) (x : ℕ) (xs : List ℕ) → Mem x before → Puts before xs after → Puts before (x ∷ xs) after
  fresh : (before after : List ℕ) (x : ℕ) (xs : List ℕ) → (Mem x before → ⊥) → Puts (before ++ x ∷ []) xs after → Puts before (x ∷ xs) after

puts_more : (a xs b ys c : List ℕ) → Puts a xs b → Puts b ys c → Puts a (xs ++ ys) c
puts_more _ _ _ ys c (done a) more = more
puts_more _ _ _ ys c (old a b x xs m rest) more = old a c x (xs ++ ys) m (puts_more a xs b ys c rest more)
puts_more _ _ _ ys c (fresh a b x xs n rest) more = fresh a c x (xs ++ ys) n (puts_more (a ++ x ∷ []) xs b ys c rest more)

-- what stands all already is put nowhere
stay : (before ys : List ℕ) → ((y : ℕ) → Mem y ys → Mem y before) → Puts before ys before
stay before [] all = done before
stay before (y ∷ ys) all = old before before y ys (all y (inl refl)) (stay before ys (λ z m. all z (inr m)))

-- ---- reactors and their numbers

-- what a test lets through
kept : (p : Class → Bool) (xs : List Class) (y : Class) → Mem y (filter p xs) → Mem y xs × (p y ≡ true)
kept p [] y m = absurd m
kept p (x ∷ xs) y m = go (p x) refl (kept p xs y) m
  where
    go : (b : Bool) → p x ≡ b → (Mem y (filter p xs) → Mem y xs × (p y ≡ true)) → Mem y (if b then x ∷ filter p xs else filter p xs) → Mem y (x ∷ xs) × (p y ≡ true)
    go true e rest (inl s) = (inl s, ap p (sym s) ∙ e)
    go true e rest (inr n) = let r = rest n in (inr r.0, r.1)
    go false e rest n = let r = rest n in (inr r.0, r.1)

pairs_kept : (R : Class → Class → Type 0) (p : Class → Bool) (xs : List Class) → Pairs R xs → Pairs R (filter p xs)
pairs_kept R p [] h = tt
pairs_kept R p (x ∷ xs) h = go (p x) (pairs_kept R p xs h.1)
  where
    go : (b : Bool) → Pairs R (filter p xs) → Pairs R (if b then x ∷ filter p xs else filter p xs)
    go true rest = (λ y m. h.0 y (kept p xs y m).0, rest)
    go false rest = rest

-- each one stands once
abbrev pub Apart : Class → Class → Type 0
Apart c d = same_class c d ≡ false

once_from : (zs : List Class) (y : Class) → Mem y (each_once zs) → Mem y zs
once_from [] y m = m
once_from (z ∷ zs) y (inl e) = inl e
once_from (z ∷ zs) y (inr m) = inr (once_from zs y (kept (λ d. not (same_class z d)) (each_once zs) y m).0)

once_apart : (zs : List Class) → Pairs Apart (each_once zs)
once_apart [] = tt
once_apart (z ∷ zs) = (λ y m. not-true (same_class z y) (kept (λ d. not (same_class z d)) (each_once zs) y m).1, pairs_kept Apart (λ d. not (same_class z d)) (each_once zs) (once_apart zs))

module _ (num : Class → ℕ) (alike : (c d : Class) → same_class c d ≡ true → num c ≡ num d) where
  -- one that stands already may be left out
  left_out : (before after : List ℕ) (z : Class) (ws : List Class) (l : List ℕ) → Mem (num z) before → l ≡ map num ws → Puts before l after → Puts before (map num (filter (λ d. not (same_class z d)) ws)) after
  left_out before after z [] l m q puts = subst (λ l. Puts before l after) q puts
  left_out _ _ z (w ∷ ws) _ m q (done _) = absurd (cc)
  left_out _ _ z (w ∷ ws) _ m q (old b a x xs k rest) = go (same_class z w) (left_out b a z ws xs m (cc) rest)
    where
      go : (t : Bool) → Puts b (map num (filter (λ d. not (same_class z d)) ws)) a → Puts b (map num (if not t then w ∷ filter (λ d. not (same_class z d)) ws else filter (λ d. not (same_class z d)) ws)) a
      go true r = r
      go false r = let s : x ≡ num w = cc in old b a (num w) _ (subst (λ n. Mem n b) s k) r
  left_out _ _ z (w ∷ ws) _ m q (fresh b a x xs n rest) = go (same_class z w) refl (left_out (b ++ x ∷ []) a z ws xs (mem_left (num z) b (x ∷ []) m) (cc) rest)
    where
      go : (t : Bool) → same_class z w ≡ t → Puts (b ++ x ∷ []) (map num (filter (λ d. not (same_class z d)) ws)) a → Puts b (map num (if not t then w ∷ filter (λ d. not (same_class z d)) ws else filter (λ d. not (same_class z d)) ws)) a
      go true e r = let s : x ≡ num w = cc in absurd (n (subst (λ k. Mem k b) (alike z w e ∙ sym s) m))
      go false e r = let s : x ≡ num w = cc in subst (λ v. Puts b (v ∷ map num (filter (λ d. not (same_class z d)) ws)) a) s (fresh b a x _ n r)

  -- so may each one but the first of its kind
  thin : (before after : List ℕ) (zs : List Class) (l : List ℕ) → l ≡ map num zs → Puts before l after → Puts before (map num (each_once zs)) after
  thin before after [] l q puts = subst (λ l. Puts before l after) q puts
  thin _ _ (z ∷ zs) _ q (done _) = absurd (cc)
  thin _ _ (z ∷ zs) _ q (old b a x xs k rest) = let s : x ≡ num z = cc in let m = subst (λ n. Mem n b) s k in old b a (num z) _ m (left_out b a z (each_once zs) _ m refl (thin b a zs xs (cc) rest))
  thin _ _ (z ∷ zs) _ q (fresh b a x xs n rest) = let s : x ≡ num z = cc in subst (λ v. Puts b (v ∷ map num (filter (λ d. not (same_class z d)) (each_once zs))) a) s (fresh b a x _ n (left_out (b ++ x ∷ []) a z (each_once zs) _ (mem_right (num z) b (x ∷ []) (inl s)) refl (thin (b ++ x ∷ []) a zs xs (cc) rest)))

  -- what is new is put all
  pub all_put : (before after : List ℕ) (zs : List Class) (l : List ℕ) → Pairs (λ c d. num c ≢ num d) zs → ((c : Class) → Mem c zs → Mem (num c) before → ⊥) → l ≡ map num zs → Puts before l after → after ≡ before ++ map num zs
  all_put _ _ [] _ p none q (done b) = sym (append-nil b)
  all_put _ _ (z ∷ zs) _ p none q (done b) = absurd (cc)
  all_put _ _ [] _ p none q (old b a x xs m rest) = absurd (cc)
  all_put _ _ (z ∷ zs) _ p none q (old b a x xs m rest) = let s : x ≡ num z = cc in absurd (none z (inl refl) (subst (λ k. Mem k b) s m))
  all_put _ _ [] _ p none q (fresh b a x xs m rest) = absurd (cc)
  all_put _ _ (z ∷ zs) _ p none q (fresh b a x xs m rest) =
      let s : x ≡ num z = cc in
      all_put (b ++ x ∷ []) a zs xs p.1 (λ c n k. later s c n (mem_cases (num c) b (x ∷ []) k)) (cc) rest ∙ append_assoc b (x ∷ []) (map num zs) ∙ ap (λ v. b ++ v ∷ map num zs) s
    where
      later : x ≡ num z → (c : Class) → Mem c zs → Mem (num c) b ⊎ Mem (num c) (x ∷ []) → ⊥
      later s c n (inl k) = none c (inr n) k
      later s c n (inr (inl e)) = p.0 c n (sym s ∙ e)
      later s c n (inr (inr e)) = absurd e

-- ---- the walk over bases

module _ (files : List SourceFile) (num : Class → ℕ) (alike : (c d : Class) → same_class c d ≡ true → num c ≡ num d) (Here : Class → Type 0) (ways : ℕ → List ℕ) (bases_num : (c : Class) → Here c → map num (bases_of files c) ≡ ways (num c)) (bases_here : (c d : Class) → Here c → Mem d (bases_of files c) → Here d) where
  -- all that a reactor extends is here
  pub lineage_here : (depth : ℕ) (c d : Class) → Here c → Mem d (lineage_to files depth c) → Here d
  lineage_here zero c d here m = absurd m
  lineage_here (suc depth) c d here m = by (λ b n k. lineage_here depth b d (bases_here c b here n) k) (mem_cases d (flat_map (lineage_to files depth) (bases_of files c)) (c ∷ []) (once_from (flat_map (lineage_to files depth) (bases_of files c) ++ c ∷ []) d m))
    where
      by : ((b : Class) → Mem b (bases_of files c) → Mem d (lineage_to files depth b) → Here d) → Mem d (flat_map (lineage_to files depth) (bases_of files c)) ⊎ Mem d (c ∷ []) → Here d
      by rest (inl n) = let b = mem_from_flat (lineage_to files depth) (bases_of files c) d n in rest b.0 b.1 b.2
      by rest (inr (inl e)) = subst Here e here
      by rest (inr (inr e)) = absurd e

  -- each one stands there once
  pub lineage_apart : (depth : ℕ) (c : Class) → Pairs Apart (lineage_to files depth c)
  lineage_apart zero c = tt
  lineage_apart (suc depth) c = once_apart (flat_map (lineage_to files depth) (bases_of files c) ++ c ∷ [])

  -- the list has all that its numbers lead to
  abbrev pub Closed : List ℕ → Type 0
  Closed b = (r s : ℕ) → Mem r b → Mem s (ways r) → Mem s b

  below : (depth : ℕ) (b : List ℕ) (c d : Class) → Closed b → Here c → Mem (num c) b → Mem d (lineage_to files depth c) → Mem (num d) b
  below zero b c d closed here m n = absurd n
  below (suc depth) b c d closed here m n = by (λ e k l. below depth b e d closed (bases_here c e here k) (closed (num c) (num e) m (subst (Mem (num e)) (bases_num c here) (mem_map num e (bases_of files c) k))) l) (mem_cases d (flat_map (lineage_to files depth) (bases_of files c)) (c ∷ []) (once_from (flat_map (lineage_to files depth) (bases_of files c) ++ c ∷ []) d n))
    where
      by : ((e : Class) → Mem e (bases_of files c) → Mem d (lineage_to files depth e) → Mem (num d) b) → Mem d (flat_map (lineage_to files depth) (bases_of files c)) ⊎ Mem d (c ∷ []) → Mem (num d) b
      by rest (inl k) = let e = mem_from_flat (lineage_to files depth) (bases_of files c) d k in rest e.0 e.1 e.2
      by rest (inr (inl e)) = subst (λ k. Mem (num k) b) e m
      by rest (inr (inr e)) = absurd e

  in_closed : (depth : ℕ) (b : List ℕ) (c : Class) → Closed b → Here c → Mem (num c) b → (y : ℕ) → Mem y (map num (lineage_to files depth c)) → Mem y b
  in_closed depth b c closed here m y n = let d = mem_from_map num (lineage_to files depth c) y n in subst (λ k. Mem k b) d.2 (below depth b c d.0 closed here m d.1)

  module _ (list : List ℕ) (lower : (i x s : ℕ) → slice_get list i ≡ Some x → Mem s (ways x) → (j : ℕ) × (j < i) × (slice_get list j ≡ Some s)) (alone : (i j x : ℕ) → slice_get list i ≡ Some x → slice_get list j ≡ Some x → i ≡ j) where
    -- it stands in the list before this place
    abbrev pub StandsBefore : ℕ → ℕ → Type 0
    StandsBefore n x = (i : ℕ) × (i < n) × (slice_get list i ≡ Some x)

    pub record IsWalked (depth n : ℕ) (before xs : List ℕ) (cs : List Class) (after : List ℕ) : Type 0 where
      pub puts : Puts before (map num (flat_map (lineage_to files depth) cs)) after
      pub closed : Closed after
      pub keeps : (y : ℕ) → Mem y before → Mem y after
      pub gets : (y : ℕ) → Mem y xs → Mem y after
      pub from : (y : ℕ) → Mem y after → Mem y before ⊎ StandsBefore n y

    put_first : (depth : ℕ) (before mid after : List ℕ) (c : Class) (cs : List Class) → Puts before (map num (lineage_to files depth c)) mid → Puts mid (map num (flat_map (lineage_to files depth) cs)) after → Puts before (map num (flat_map (lineage_to files depth) (c ∷ cs))) after
    put_first depth before mid after c cs one rest = subst (λ l. Puts before l after) (sym (map-append num (lineage_to files depth c) (flat_map (lineage_to files depth) cs))) (puts_more before (map num (lineage_to files depth c)) mid (map num (flat_map (lineage_to files depth) cs)) after one rest)

    -- one that is new stands behind all that it extends
    one_more : (depth n : ℕ) (b inner a : List ℕ) (x : ℕ) (xs : List ℕ) (c : Class) (cs : List Class) → num c ≡ x → (i : StandsBefore n x) → (Has b x → ⊥) → Closed b → IsWalked depth i.0 b (ways x) (bases_of files c) inner → (Closed (inner ++ x ∷ []) → IsWalked (suc depth) n (inner ++ x ∷ []) xs cs a) → IsWalked (suc depth) n b (x ∷ xs) (c ∷ cs) a
    one_more depth n b inner a x xs c cs s i none closed f go =
        record {
          puts = put_first (suc depth) b (inner ++ x ∷ []) a c cs mine r.puts;
          closed = r.closed;
          keeps = λ y m. r.keeps y (mem_left y inner (x ∷ []) (f.keeps y m));
          gets = λ y k. (elim k [ inl e ↦ r.keeps y (mem_right y inner (x ∷ []) (inl e)) | inr k ↦ r.gets y k ]);
          from = λ y m. by y (r.from y m);
        }
      where
        fresh_x : Mem x inner → ⊥
        fresh_x m = elim (f.from x m) [
          | inl o ↦ none (get_mem x b o)
          | inr there ↦ (let e = alone i.0 there.0 x i.2 there.2 in let l = there.1 in absurd (omega (arith, e, l)))
        ]

        with_x : Closed (inner ++ x ∷ [])
        with_x u v m k = by (mem_cases u inner (x ∷ []) m)
          where
            by : Mem u inner ⊎ Mem u (x ∷ []) → Mem v (inner ++ x ∷ [])
            by (inl o) = mem_left v inner (x ∷ []) (f.closed u v o k)
            by (inr (inl e)) = mem_left v inner (x ∷ []) (f.gets v (subst (λ w. Mem v (ways w)) (sym e) k))
            by (inr (inr e)) = absurd e

        mine : Puts b (map num (lineage_to files (suc depth) c)) (inner ++ x ∷ [])
        mine = thin num alike b (inner ++ x ∷ []) (flat_map (lineage_to files depth) (bases_of files c) ++ c ∷ []) (map num (flat_map (lineage_to files depth) (bases_of files c)) ++ x ∷ []) (ap (λ v. map num (flat_map (lineage_to files depth) (bases_of files c)) ++ v ∷ []) (sym s) ∙ sym (map-append num (flat_map (lineage_to files depth) (bases_of files c)) (c ∷ []))) (puts_more b (map num (flat_map (lineage_to files depth) (bases_of files c))) inner (x ∷ []) (inner ++ x ∷ []) f.puts (fresh inner (inner ++ x ∷ []) x [] fresh_x (done (inner ++ x ∷ []))))

        r : IsWalked (suc depth) n (inner ++ x ∷ []) xs cs a
        r = go with_x

        further : (y : ℕ) → StandsBefore i.0 y → StandsBefore n y
        further y t = (t.0, (let l = t.1 in let k = i.1 in omega (arith, l, k)), t.2)

        by : (y : ℕ) → Mem y (inner ++ x ∷ []) ⊎ StandsBefore n y → Mem y b ⊎ StandsBefore n y
        by y (inr there) = inr there
        by y (inl m) = of (mem_cases y inner (x ∷ []) m)
          where
            of : Mem y inner ⊎ Mem y (x ∷ []) → Mem y b ⊎ StandsBefore n y
            of (inl o) = elim (f.from y o) [ inl p ↦ inl p | inr t ↦ inr (further y t) ]
            of (inr (inl e)) = inr (subst (StandsBefore n) e i)
            of (inr (inr e)) = absurd e

    pub walked : (before xs after : List ℕ) → Lists ways before xs after → (depth n : ℕ) (cs : List Class) → n ≤ depth → map num cs ≡ xs → ((c : Class) → Mem c cs → Here c) → ((x : ℕ) → Mem x xs → StandsBefore n x) → Closed before → IsWalked depth n before xs cs after
    walked _ _ _ (no_more b) depth n [] le q here stands closed = record { puts = done b; closed = closed; keeps = λ y m. m; gets = λ y m. absurd m; from = λ y m. inl m }
    walked _ _ _ (no_more b) depth n (c ∷ cs) le q here stands closed = absurd (cc)
    walked _ _ _ (again b a x xs had rest) depth n [] le q here stands closed = absurd (cc)
    walked _ _ _ (again b a x xs had rest) depth n (c ∷ cs) le q here stands closed =
        let s : num c ≡ x = cc in
        let t : map num cs ≡ xs = cc in
        let m : Mem x b = mem_get b had.0 x had.1 in
        let r = walked b xs a rest depth n cs le t (λ d k. here d (inr k)) (λ y k. stands y (inr k)) closed in
        record {
          puts = put_first depth b b a c cs (stay b (map num (lineage_to files depth c)) (in_closed depth b c closed (here c (inl refl)) (subst (λ k. Mem k b) (sym s) m))) r.puts;
          closed = r.closed;
          keeps = r.keeps;
          gets = λ y k. (elim k [ inl e ↦ subst (λ v. Mem v a) e (r.keeps x m) | inr k ↦ r.gets y k ]);
          from = r.from;
        }
    walked _ _ _ (new b inner a x xs none first rest) depth n [] le q here stands closed = absurd (cc)
    walked _ _ _ (new b inner a x xs none first rest) zero n (c ∷ cs) le q here stands closed = absurd (let i = stands x (inl refl) in let l = i.1 in omega (arith, l, le))
    walked _ _ _ (new b inner a x xs none first rest) (suc depth) n (c ∷ cs) le q here stands closed =
        let s : num c ≡ x = cc in
        let i = stands x (inl refl) in
        let h = here c (inl refl) in
        let f = walked b (ways x) inner first depth i.0 (bases_of files c) (let l = i.1 in omega (arith, l, le)) (bases_num c h ∙ ap ways s) (λ d m. bases_here c d h m) (λ y m. lower i.0 x y i.2 m) closed in
        one_more depth n b inner a x xs c cs s i none closed f (λ with_x. walked (inner ++ x ∷ []) xs a rest (suc depth) n cs le (cc) (λ d k. here d (inr k)) (λ y k. stands y (inr k)) with_x)

    -- the reactor and all that it extends, as they are listed
    pub lineage_listed : (c : Class) (depth : ℕ) → Here c → Lists ways [] (num c ∷ []) list → Has list (num c) → length list ≤ depth → Puts [] (map num (lineage_to files depth c)) list
    lineage_listed c depth here lists has le = subst (λ l. Puts [] (map num l) list) (append-nil (lineage_to files depth c)) w.puts
      where
        heres : (d : Class) → Mem d (c ∷ []) → Here d
        heres d (inl e) = subst Here e here
        heres d (inr e) = absurd e

        some : (x : ℕ) → Mem x (num c ∷ []) → StandsBefore (length list) x
        some x (inl e) = subst (StandsBefore (length list)) e (has.0, slice_get_within list has.0 (num c) has.1, has.1)
        some x (inr e) = absurd e

        w : IsWalked depth (length list) [] (num c ∷ []) (c ∷ []) list
        w = walked [] (num c ∷ []) list lists depth (length list) (c ∷ []) le refl heres some (λ r s m k. absurd m)
