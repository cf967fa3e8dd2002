-- What an answer says that found something, or found nothing.
use Rattle.std.proofs.Common.{◌≡◌, Option, Some, None, Result, Ok, Err, IfOk, IfNone, IfSome, subst}

-- what is so of what was found
pub found : {X : Type 0} (P : X → Type 0) (o : Option X) (x : X) → IfSome o P → o ≡ Some x → P x
found P None x p e = absurd (cc)
found P (Some y) x p e = subst P (let same : y ≡ x = cc in same) p

-- what is so where nothing was found
pub lacking : {X : Type 0} (P : Type 0) (o : Option X) → IfNone o P → o ≡ None → P
lacking P None p e = p
lacking P (Some x) p e = absurd (cc)

-- what follows from what an answer says is said of it too
pub none_weaker : {X : Type 0} (P Q : Type 0) (o : Option X) → (P → Q) → IfNone o P → IfNone o Q
none_weaker P Q None follows p = follows p
none_weaker P Q (Some x) follows p = p

pub ok_none : {X E : Type 0} (P Q : Type 0) (r : Result (Option X) E) → (P → Q) → IfOk r (λ o. IfNone o P) → IfOk r (λ o. IfNone o Q)
ok_none P Q (Ok o) follows p = none_weaker P Q o follows p
ok_none P Q (Err e) follows p = p
