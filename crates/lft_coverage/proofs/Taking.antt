-- What a writer takes of a text that it gets piece by piece.
use Rattle.std.proofs.Common.{IsTrue, ◌≡◌, ℕ, zero, suc, ◌+◌, Bool, true, false, List, [], ◌∷◌, ◌++◌, length, take, Option, refl, sym, ap, subst, arith, append_assoc, append-nil, ◌-◌}
use Rattle.std.proofs.{Math.Seq.take-append-add, lemmas.List.take_all, KnownBytes.{Appends-kept, Appends-nil, Appends-trans}}
use Rattle.std.specs.Io.KnownBytes.{Appends, Keeps}
use Rattle.lft_coverage.specs.inner.Taking.{Took, TookMore}

-- a front of a text is one of a longer text
front_more : (text more : List ℕ) (n : ℕ) → (k : ℕ) × (take k (text ++ more) ≡ take n text)
front_more text more zero = (0, refl)
front_more [] more (suc n) = (0, refl)
front_more (x ∷ xs) more (suc n) = let r = front_more xs more n in (suc r.0, ap (λ s. x ∷ s) r.1)

-- nothing is given to a writer that failed
pub took_no_more : (mid : Option (List ℕ)) (more : List ℕ) → TookMore mid false mid false more
took_no_more mid more = record { behind = λ old text h. let f = front_more text more h.0 in (f.0, subst (Appends old mid) (sym f.1) h.1) }

-- all of what was given
pub took_all : (mid new : Option (List ℕ)) (more : List ℕ) (n : ℕ) → n ≡ length more → Appends mid new (take n more) → TookMore mid true new true more
took_all mid new more n e took = record { behind = λ old text h. Appends-trans old mid new text more h (subst (Appends mid new) (take_all n more (omega (arith, e))) took) }

-- a front of what was given
pub took_some : (mid new : Option (List ℕ)) (more : List ℕ) (n : ℕ) → Appends mid new (take n more) → TookMore mid true new false more
took_some mid new more n took = record { behind = λ old text h. (length text + n, subst (Appends old new) (sym (take-append-add text more n)) (Appends-trans old mid new text (take n more) h took)) }

-- more, and then more again
pub took_both : {a b c : Option (List ℕ)} {x y z : Bool} {m n : List ℕ} → TookMore a x b y m → TookMore b y c z n → TookMore a x c z (m ++ n)
took_both {a} {b} {c} {x} {y} {z} {m} {n} first second = record { behind = λ old text h. subst (Took old c z) (append_assoc text m n) (second.behind old (text ++ m) (first.behind old text h)) }

-- nothing more
pub took_nothing : (a : Option (List ℕ)) (x : Bool) → TookMore a x a x []
took_nothing a x = record { behind = λ old text h. subst (Took old a x) (sym (append-nil text)) h }

-- what was taken since a moment
pub took_since : {a b : Option (List ℕ)} {x : Bool} {m : List ℕ} → TookMore a true b x m → Took a b x m
took_since {a} so = so.behind a [] (Appends-nil a)

-- the same text by another name
pub took_so : {a b : Option (List ℕ)} {x y : Bool} {m n : List ℕ} → m ≡ n → TookMore a x b y m → TookMore a x b y n
took_so {a} {b} {x} {y} e took = subst (TookMore a x b y) e took

-- the same writer by another name
pub took_at : {a b d : Option (List ℕ)} {x y z : Bool} {m : List ℕ} → b ≡ d → y ≡ z → TookMore a x b y m → TookMore a x d z m
took_at {a} {b} {d} {x} {y} {z} {m} e f took = subst (λ k. TookMore a x d k m) f (subst (λ o. TookMore a x o y m) e took)

-- what was given to a writer that had taken all, or not
pub took_given : (mid new : Option (List ℕ)) (more : List ℕ) (n : ℕ) (whole : Bool) → (whole ≡ true → n ≡ length more) → Appends mid new (take n more) → TookMore mid true new whole more
took_given mid new more n true e took = took_all mid new more n (e refl) took
took_given mid new more n false e took = took_some mid new more n took

-- what the writer kept back it took all the same
pub took_kept : (old mid new : Option (List ℕ)) (whole is : Bool) (text : List ℕ) → (IsTrue is → IsTrue whole) → Took old mid whole text → Keeps mid new → Took old new is text
took_kept old mid new true true text so h k = Appends-kept old mid new text h k
took_kept old mid new true false text so h k = (length text, Appends-kept old mid new (take (length text) text) (subst (Appends old mid) (sym (take_all (length text) text (omega arith))) h) k)
took_kept old mid new false true text so h k = let z : ◌≡◌ false true = so refl in absurd (cc)
took_kept old mid new false false text so h k = (h.0, Appends-kept old mid new (take h.0 text) h.1 k)
