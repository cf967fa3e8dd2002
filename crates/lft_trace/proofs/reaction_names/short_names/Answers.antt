use Rattle.std.proofs.Common.{rules, ◌≡◌, ◌∙◌, ◌<◌, ◌≤◌, ◌++◌, ◌∷◌, [], ℕ, inl, inr, List, Some, ap, arith, length, length-append, slice_get, take}
use Rattle.lft_lists.proofs.Places.{get_push_cases}
use Rattle.lft_trace.specs.{inner.ShortNames.AreShort, declared.short_name.ShortName.ShortName}
use Rattle.lft_trace.proofs.reaction_names.short_names.Goals as goal

few : (n len : ℕ) → 0 < len → (31 < n → len ≡ 0) → n ≤ 31
few n len some long = grind arith

-- with the name of the next number behind them
one_more : (texts : List (List ℕ)) (old : List ShortName) (new : ShortName) (name : List ℕ) → slice_get texts (length old) ≡ Some name → (length name ≤ 31 → name ≡ take new.len new.bytes) → (31 < length name → new.len ≡ 0) → AreShort texts old
    → AreShort texts (old ++ new ∷ [])
one_more texts old new name is short long kept n s e some = elim (get_push_cases old new n s e) [
  | inl a ↦ kept n s a some
  | inr b ↦
      ap (slice_get texts) b.0 ∙ is ∙ ap (λ t. Some t) (short (few (length name) new.len (rw b.1 some) long)) ∙ ap (λ (x : ShortName). Some (take x.len x.bytes)) b.1
]

pub loop-number-preserved : goal.loop-number-preserved
loop-number-preserved c =
    let old = c.loop-number.names.items in
    let new = c.of.result in
    let name = c.as_bytes.result.now in
    let texts = c.args.program.now.names.reactions in
    let items : c.push.new.self.items ≡ old ++ (new ∷ []) = search rules in
    let is : slice_get texts c.loop-number.number ≡ Some name = search rules in
    record {
      as_many = rw (items, length-append) (let many = c.loop-number.invariant.as_many in omega arith);
      short = rw items (one_more texts old new name (ap (slice_get texts) c.loop-number.invariant.as_many ∙ is) c.of.ensures.short c.of.ensures.long c.loop-number.invariant.short);
    }
