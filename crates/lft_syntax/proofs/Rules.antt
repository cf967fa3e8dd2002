-- The rules, with what the premises show left out.
use Rattle.std.proofs.Common.{◌≡◌, ℕ, suc, ◌+◌, ◌≤◌, Bool, true, false, List, [], ◌∷◌, Option, Some, None, refl, ap, subst, arith, cond, ◌∙◌, sym, inl, inr}
use Rattle.std.specs.Prelude.{slice_get, codes}
use Rattle.lft_syntax.proofs.Options.{some}
use Rattle.lft_syntax.proofs.Algebra.{Follow, Horizon, near, Right, Leads, Any, Test, Starts, right_both, right_second, right_first, right_made, right_ignored, right_token, right_maybe, right_choice, right_repeated, same-true, this_self, loosen}
use Rattle.lft_syntax.specs.Lexeme.{Lexeme, Letters, Number, same, is_reserved, name_in, number_in}
use Rattle.lft_syntax.specs.{Language.{Spelling, look, this, one, ◌&◌, ◌>>◌, ◌<<◌, ◌or◌, optional, many, made, ignored, range}, Grammar.{name, number}}
use Rattle.lft_syntax.specs.inner.Reading.{Reading, one_at, name_at, number_at, both, second, first, apply, maybe, choice, repeated}

pub near_looks : (ws : List Lexeme) (i : ℕ) → i + 1 ≤ near ws i
near_looks ws i = omega arith

pub anything : {B : Type 0} (Q : Spelling B) (G : Follow) → Leads Q G Any
anything Q G vs m j y s after = tt

-- P then Q, where anything may follow P
pub and : {A B : Type 0} {P : Spelling A} {Q : Spelling B} {G : Follow} {e h g : Horizon} {n m : ℕ} {p : Reading A} {q : Reading B}
    → Right P Any e h n p → Right Q G h g m q → Right (P & Q) G e g (n + m) (both p q)
and {P = P} {Q = Q} {G = G} {e = e} {h = h} {g = g} {n = n} {m = m} {p = p} {q = q} one two = right_both P Q Any G e h g n m (anything Q G) p q one two

-- P then Q, where Q begins with what may follow P
pub and_if : {A B : Type 0} {P : Spelling A} {Q : Spelling B} {F G : Follow} {e h g : Horizon} {n m : ℕ} {p : Reading A} {q : Reading B}
    → Leads Q G F → Right P F e h n p → Right Q G h g m q → Right (P & Q) G e g (n + m) (both p q)
and_if {P = P} {Q = Q} {F = F} {G = G} {e = e} {h = h} {g = g} {n = n} {m = m} {p = p} {q = q} leads one two = right_both P Q F G e h g n m leads p q one two

pub skip : {B : Type 0} {P : Spelling (Unit {0})} {Q : Spelling B} {G : Follow} {e h g : Horizon} {n m : ℕ} {p : Reading (Unit {0})} {q : Reading B}
    → Right P Any e h n p → Right Q G h g m q → Right (P >> Q) G e g (n + m) (second p q)
skip {P = P} {Q = Q} {G = G} {e = e} {h = h} {g = g} {n = n} {m = m} {p = p} {q = q} one two = right_second P Q Any G e h g n m (anything Q G) p q one two

pub before : {A : Type 0} {P : Spelling A} {Q : Spelling (Unit {0})} {G : Follow} {e h g : Horizon} {n m : ℕ} {p : Reading A} {q : Reading (Unit {0})}
    → Right P Any e h n p → Right Q G h g m q → Right (P << Q) G e g (n + m) (first p q)
before {P = P} {Q = Q} {G = G} {e = e} {h = h} {g = g} {n = n} {m = m} {p = p} {q = q} one two = right_first P Q Any G e h g n m (anything Q G) p q one two

pub before_if : {A : Type 0} {P : Spelling A} {Q : Spelling (Unit {0})} {F G : Follow} {e h g : Horizon} {n m : ℕ} {p : Reading A} {q : Reading (Unit {0})}
    → Leads Q G F → Right P F e h n p → Right Q G h g m q → Right (P << Q) G e g (n + m) (first p q)
before_if {P = P} {Q = Q} {F = F} {G = G} {e = e} {h = h} {g = g} {n = n} {m = m} {p = p} {q = q} leads one two = right_first P Q F G e h g n m leads p q one two

pub making : {A B : Type 0} (f : A → B) {P : Spelling A} {F : Follow} {e h : Horizon} {n : ℕ} {p : Reading A} → Right P F e h n p → Right (made f P) F e h n (apply f p)
making f {P = P} {F = F} {e = e} {h = h} {n = n} {p = p} right = right_made f P F e h n p right

pub ignoring : {A : Type 0} {P : Spelling A} {F : Follow} {e h : Horizon} {n : ℕ} {p : Reading A} → Right P F e h n p → Right (ignored P) F e h n (apply (λ _. tt) p)
ignoring {P = P} {F = F} {e = e} {h = h} {n = n} {p = p} right = right_ignored P F e h n p right

pub this_one : (w : Lexeme) → Right (one w) Any near near 1 (one_at w)
this_one w = right_token (this w) w tt (this_self w)

pub right_name : Right name Any near near 1 name_at
unfolding is_reserved
right_name = right_token name_in (Letters (codes "x")) (codes "x") refl

pub right_number : Right number Any near near 1 number_at
right_number = right_token number_in (Number 0) 0 refl

pub perhaps : {A : Type 0} {P : Spelling A} {F : Follow} {n : ℕ} {p : Reading A} (G : Follow) (go : Test) → Starts P go true
    → ((vs : List Lexeme) (m : ℕ) → G vs m → go (slice_get vs m) ≡ false) → ((vs : List Lexeme) (m : ℕ) → G vs m → F vs m)
    → Right P F near near n p → Right (optional P) G near near 0 (maybe go p)
perhaps {P = P} {F = F} {n = n} {p = p} G go starts stops leads right = right_maybe P F G near near n go near_looks (λ ws i. omega arith) starts stops leads p right

-- what stands there is w
abbrev pub Here : Lexeme → Follow
Here w vs m = slice_get vs m ≡ Some w

same_is : (w v : Lexeme) (x : Unit {0}) (b : Bool) → same w v ≡ b → cond b (some tt) None ≡ Some x → ◌≡◌ {A = Option Lexeme} (Some v) (Some w)
same_is w v x true e s = ap some (sym (same-true w v e))
same_is w v x false e s = absurd cc

this-from : (w : Lexeme) (o : Option Lexeme) (x : Unit {0}) → look (this w) o ≡ Some x → ◌≡◌ {A = Option Lexeme} o (Some w)
this-from w None x s = absurd cc
this-from w (Some v) x s = same_is w v x (same w v) refl s

pub leads_one : (w : Lexeme) (G : Follow) → Leads (one w) G (Here w)
leads_one w G vs m j y s after = this-from w (slice_get vs m) y s.0

pub here : (w : Lexeme) (go : Test) (b : Bool) → go (Some w) ≡ b → (vs : List Lexeme) (m : ℕ) → Here w vs m → go (slice_get vs m) ≡ b
here w go b e vs m h = ap go h ∙ e

pub starts_skip : {B : Type 0} {P : Spelling (Unit {0})} (Q : Spelling B) {go : Test} {b : Bool} → Starts P go b → Starts (P >> Q) go b
starts_skip Q starts = record { at = λ vs i j y s. starts.at vs i s.0 tt s.1 }

pub starts_and : {A B : Type 0} {P : Spelling A} (Q : Spelling B) {go : Test} {b : Bool} → Starts P go b → Starts (P & Q) go b
starts_and Q starts = record { at = λ vs i j y s. starts.at vs i s.0 y.0 s.1 }

pub starts_before : {A : Type 0} {P : Spelling A} (Q : Spelling (Unit {0})) {go : Test} {b : Bool} → Starts P go b → Starts (P << Q) go b
starts_before Q starts = record { at = λ vs i j y s. starts.at vs i s.0 y s.1 }

pub starts_made : {A B : Type 0} (f : A → B) {P : Spelling A} {go : Test} {b : Bool} → Starts P go b → Starts (made f P) go b
starts_made f starts = record { at = λ vs i j y s. starts.at vs i j s.0 s.1 }

pub starts_or : {A : Type 0} {P Q : Spelling A} {go : Test} {b : Bool} → Starts P go b → Starts Q go b → Starts (P or Q) go b
starts_or left right = record { at = λ vs i j y s. elim s [ inl p ↦ left.at vs i j y p | inr q ↦ right.at vs i j y q ] }

pub leads_optional : {A : Type 0} (P : Spelling A) (G F : Follow) → ((vs : List Lexeme) (m : ℕ) → G vs m → F vs m) → ((vs : List Lexeme) (i j : ℕ) (x : A) → P vs i j x → F vs i) → Leads (optional P) G F
leads_optional P G F stays begins vs m j None s after = stays vs m (subst (λ (k : ℕ). G vs k) s after)
leads_optional P G F stays begins vs m j (Some x) s after = begins vs m j x s

pub leads_many : {A : Type 0} (P : Spelling A) (G F : Follow) → ((vs : List Lexeme) (m : ℕ) → G vs m → F vs m) → ((vs : List Lexeme) (i j : ℕ) (x : A) → P vs i j x → F vs i) → Leads (many P) G F
leads_many P G F stays begins vs m j [] s after = stays vs m (subst (λ (k : ℕ). G vs k) s after)
leads_many P G F stays begins vs m j (x ∷ xs) s after = begins vs m s.0 x s.1

pub repeat : {A : Type 0} {P : Spelling A} {F : Follow} {h : Horizon} {n : ℕ} {p : Reading A} (G : Follow) (g : Horizon) (go : Test) (looks : (ws : List Lexeme) (i : ℕ) → i + 1 ≤ h ws i)
    → ((ws : List Lexeme) (i : ℕ) → go (slice_get ws i) ≡ false → h ws i ≤ g ws i) → Starts P go true
    → ((vs : List Lexeme) (m : ℕ) → G vs m → go (slice_get vs m) ≡ false) → ((vs : List Lexeme) (m : ℕ) → G vs m → F vs m) → ((vs : List Lexeme) (i j : ℕ) (x : A) → P vs i j x → F vs i)
    → Right P F h h (suc n) p → Right (many P) G h g 0 (repeated go p)
repeat {P = P} {F = F} {h = h} {n = n} {p = p} G g go looks shuts starts stops leads again right = right_repeated P F G h g n go looks shuts starts stops leads again p right

-- P then Q, where Q begins with what may follow P
pub skip_if : {B : Type 0} {P : Spelling (Unit {0})} {Q : Spelling B} {F G : Follow} {e h g : Horizon} {n m : ℕ} {p : Reading (Unit {0})} {q : Reading B}
    → Leads Q G F → Right P F e h n p → Right Q G h g m q → Right (P >> Q) G e g (n + m) (second p q)
skip_if {P = P} {Q = Q} {F = F} {G = G} {e = e} {h = h} {g = g} {n = n} {m = m} {p = p} {q = q} leads one two = right_second P Q F G e h g n m leads p q one two

pub same_follow : (F : Follow) (vs : List Lexeme) (m : ℕ) → F vs m → F vs m
same_follow F vs m h = h

-- there or not, with a further look at the end
pub perhaps_to : {A : Type 0} {P : Spelling A} {F : Follow} {h : Horizon} {n : ℕ} {p : Reading A} (G : Follow) (go : Test) → ((ws : List Lexeme) (i : ℕ) → i + 1 ≤ h ws i) → Starts P go true
    → ((vs : List Lexeme) (m : ℕ) → G vs m → go (slice_get vs m) ≡ false) → ((vs : List Lexeme) (m : ℕ) → G vs m → F vs m)
    → Right P F near h n p → Right (optional P) G near h 0 (maybe go p)
perhaps_to {P = P} {F = F} {h = h} {n = n} {p = p} G go looks starts stops leads right = right_maybe P F G near h n go near_looks looks starts stops leads p right

-- the first token decides
pub choose : {A : Type 0} {P Q : Spelling A} {F : Follow} {h : Horizon} {n : ℕ} {p q : Reading A} (go : Test) → Starts P go true → Starts Q go false
    → Right P F near h n p → Right Q F near h n q → Right (P or Q) F near h n (choice go p q)
choose {P = P} {Q = Q} {F = F} {h = h} {n = n} {p = p} {q = q} go starts others one two =
    right_choice P Q F near near near h n go near_looks (λ ws i e. omega arith) (λ ws i e. omega arith) starts others p q one two

-- a reading at whose end one token is seen, where more may be, and after which less may stand
pub ended : {A : Type 0} {P : Spelling A} {F : Follow} {n : ℕ} {p : Reading A} (G : Follow) (h : Horizon) (m : ℕ) → ((vs : List Lexeme) (i : ℕ) → G vs i → F vs i)
    → ((ws : List Lexeme) (i : ℕ) → i + 1 ≤ h ws i) → m ≤ n → Right P F near near n p → Right P G near h m p
ended G h m leads looks fewer right = loosen G near h m leads (λ ws i. omega arith) looks fewer right

pub taking : {A : Type 0} {P : Spelling A} {F : Follow} {e h : Horizon} {n : ℕ} {p : Reading A} (m : ℕ) → m ≤ n → Right P F e h n p → Right P F e h m p
taking {F = F} {e = e} {h = h} m fewer right = loosen F e h m (same_follow F) (λ ws i. omega arith) (λ ws i. omega arith) fewer right

pub starts_ignored : {A : Type 0} {P : Spelling A} {go : Test} {b : Bool} → Starts P go b → Starts (ignored P) go b
starts_ignored starts = record { at = λ vs i j x s. starts.at vs i j s.0 s.1 }

pub starts_range : {P : Spelling (Unit {0})} {go : Test} {b : Bool} → Starts P go b → Starts (range P) go b
starts_range starts = record { at = λ vs i j x s. starts.at vs i j tt s.0 }

-- what begins with one test begins with another
pub starts_by : {A : Type 0} {P : Spelling A} {go to : Test} {b c : Bool} → ((o : Option Lexeme) → go o ≡ b → to o ≡ c) → Starts P go b → Starts P to c
starts_by change starts = record { at = λ vs i j x s. change (slice_get vs i) (starts.at vs i j x s) }

either_at : {B : Type 0} (P : Spelling (Unit {0})) (Q : Spelling B) (go : Test) (b : Bool) → Starts P go b → Starts Q go b → (vs : List Lexeme) (i m j : ℕ) (y : B) (o : Option (Unit {0})) → optional P vs i m o → Q vs m j y → go (slice_get vs i) ≡ b
either_at P Q go b one two vs i m j y None s t = subst (λ (k : ℕ). go (slice_get vs k) ≡ b) s (two.at vs m j y t)
either_at P Q go b one two vs i m j y (Some x) s t = one.at vs i m x s

-- it is left out, or not, and then something else
pub starts_either : {B : Type 0} {P : Spelling (Unit {0})} {Q : Spelling B} {go : Test} {b : Bool} → Starts P go b → Starts Q go b → Starts (ignored (optional P) >> Q) go b
starts_either {P = P} {Q = Q} {go = go} {b = b} one two = record { at = λ vs i j y s. either_at P Q go b one two vs i s.0 j y s.1.0 s.1.1 s.2 }

pub leads_ignored : {A : Type 0} {P : Spelling A} {G F : Follow} → Leads P G F → Leads (ignored P) G F
leads_ignored leads vs m j y s after = leads vs m j s.0 s.1 after
