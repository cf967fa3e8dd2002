-- The test of two names being the same.
use Rattle.std.proofs.Common.{◌≡◌, ℕ, true, List, Option, Some, None, refl, ap, subst, bytes_eq, Decides}
use Rattle.std.proofs.lemmas.{Bool.and_parts, Slice.Eq.bytes_eq-Decides}
use Rattle.lft_tree.specs.Tree.{RefTree}
use Rattle.lft_validate.specs.inner.Seen.{same_ref, same_inside}

made : (h h' : List ℕ) (p p' : Option (List ℕ)) → h ≡ h' → p ≡ p' → Path RefTree (record { head = h; port = p }) (record { head = h'; port = p' })
made h h' p p' a b = cc

same_parts : (h : List ℕ) (p : Option (List ℕ)) (h' : List ℕ) (p' : Option (List ℕ)) → same_inside h p h' p' ≡ true → (h ≡ h') × (p ≡ p')
same_parts h None h' None e = ((bytes_eq-Decides h h').0 e, refl)
same_parts h None h' (Some q) e = absurd (cc)
same_parts h (Some p) h' None e = absurd (cc)
same_parts h (Some p) h' (Some q) e = let b = and_parts (bytes_eq h h') (bytes_eq p q) e in ((bytes_eq-Decides h h').0 b.0, ap Some ((bytes_eq-Decides p q).0 b.1))

same_self : (h : List ℕ) (p : Option (List ℕ)) → same_inside h p h p ≡ true
same_self h None = (bytes_eq-Decides h h).1 refl
same_self h (Some p) = let a : bytes_eq h h ≡ true = (bytes_eq-Decides h h).1 refl in let b : bytes_eq p p ≡ true = (bytes_eq-Decides p p).1 refl in rw a b

pub same_from : (a b : RefTree) → same_ref a b ≡ true → a ≡ b
same_from a b e = let p = same_parts a.head a.port b.head b.port e in made a.head b.head a.port b.port p.0 p.1

pub from_same : (a b : RefTree) → a ≡ b → same_ref a b ≡ true
from_same a b e = subst (λ c. same_ref a c ≡ true) e (same_self a.head a.port)

pub ref_decides : (a b : RefTree) → Decides (same_ref a b) (a ≡ b)
ref_decides a b = (same_from a b, from_same a b)
