use Rattle.std.proofs.Common.{◌≡◌, ℕ, true, List, [], ◌∷◌, ◌++◌, codes, string_bytes, refl, subst, sym, rules}
use Rattle.std.proofs.lemmas.List.Elements.{All-cons, All-nil, All-push}
use Rattle.lft_lists.specs.Bytes.{is_part}
use Rattle.lft_tree.specs.Identifiers.{IsName}
use Rattle.lft_lower.proofs.reactions.never.Goals as goal

abbrev IsPart : ℕ → Type 0
IsPart b = is_part b ≡ true

is_name : IsName (codes "never")
is_name = (refl, All-cons IsPart 101 (118 ∷ 101 ∷ 114 ∷ []) refl (All-cons IsPart 118 (101 ∷ 114 ∷ []) refl (All-cons IsPart 101 (114 ∷ []) refl (All-cons IsPart 114 [] refl (All-nil IsPart)))))

longer : (name : List ℕ) → IsName name → IsName (name ++ codes "_")
longer [] is = absurd is
longer (c ∷ cs) is = (is.0, All-push IsPart cs 95 is.1 refl)

pub loop-init : goal.loop-init
loop-init c =
    let is : string_bytes c.in_ok-name.name ≡ codes "never" = search rules in
    subst IsName (sym is) is_name

pub loop-preserved : goal.loop-preserved
loop-preserved c =
    subst IsName (sym c.in_ok-push_str.ensures.bytes) (longer (string_bytes c.loop.name) c.loop.invariant)
