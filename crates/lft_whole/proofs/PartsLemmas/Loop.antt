-- A loop that reads one step after the other.
use Rattle.std.proofs.Common.{◌≡◌, ℕ, zero, suc, ◌+◌, ◌≤◌, ◌<◌, true, false, length, Result, Ok, Err, refl, sym, ◌∙◌, arith}
use Rattle.lft_whole.specs.{declared.fault.TreeFault.TreeFault, Parts.{Lexeme.Source, Language.{Reader, ◌>>=◌, Test, steps, repeat}}, inner.Parts.View.Fails}
use Rattle.lft_whole.specs.declared.fault.TreeFault.TheVariants as faults

-- the steps that are left, and what is read behind them, give the whole
pub record Loop {B C : Type 0} (t : B → Test) (P : B → Reader B) (s : Source) (behind : B × ℕ → Result C TreeFault) (b : B) (i : ℕ) (total : Result C TreeFault) : Type 0 where
  pub left : ℕ
  pub enough : length s.tokens < i + suc left
  pub rest : (steps t P (suc left) b s i >>= behind) ≡ total

-- a fault stays
pub bind_fails : {A B : Type 0} (e : TreeFault) (r : Result A TreeFault) (f : A → Result B TreeFault) → Fails e r → Fails e (r >>= f)
bind_fails faults.NoMemory r f h = tt
bind_fails (faults.Unexpected k) r f h = rw h refl
bind_fails (faults.Package k) r f h = rw h refl

pub read_all : {A : Type 0} (r : Result (A × ℕ) TreeFault) → (r >>= λ a. Ok (a.0, a.1)) ≡ r
read_all (Ok a) = refl
read_all (Err e) = refl

pub loop_begins : {B C : Type 0} (t : B → Test) (P : B → Reader B) (s : Source) (behind : B × ℕ → Result C TreeFault) (b : B) (i : ℕ) (total : Result C TreeFault)
    → (repeat t P b s i >>= behind) ≡ total → Loop t P s behind b i total
loop_begins t P s behind b i total e = record { left = length s.tokens; enough = omega arith; rest = e }

-- a loop with nothing behind it
pub loop_opens : {B : Type 0} (t : B → Test) (P : B → Reader B) (s : Source) (b : B) (i : ℕ) (total : Result (B × ℕ) TreeFault)
    → repeat t P b s i ≡ total → Loop t P s (λ a. Ok (a.0, a.1)) b i total
loop_opens t P s b i total e = loop_begins t P s (λ a. Ok (a.0, a.1)) b i total (read_all (repeat t P b s i) ∙ e)

module _ {B C : Type 0} (t : B → Test) (P : B → Reader B) (s : Source) (behind : B × ℕ → Result C TreeFault) where
  turn : (left : ℕ) (b : B) (i : ℕ) (total : Result C TreeFault) (c : B) (j : ℕ) → length s.tokens < i + suc left → (steps t P (suc left) b s i >>= behind) ≡ total
      → t b s i ≡ true → P b s i ≡ Ok (c, j) → i < j → j ≤ length s.tokens → Loop t P s behind c j total
  unfolding steps
  turn zero b i total c j enough so_far test r lt within = absurd (omega arith)
  turn (suc left) b i total c j enough so_far test r lt within =
      let here : (steps t P (suc (suc left)) b s i >>= behind) ≡ (steps t P (suc left) c s j >>= behind) = rw (test, r) refl in
      record { left = left; enough = omega arith; rest = sym here ∙ so_far }

  fails : (left : ℕ) (b : B) (i : ℕ) (total : Result C TreeFault) (e : TreeFault) → (steps t P (suc left) b s i >>= behind) ≡ total → t b s i ≡ true → Fails e (P b s i) → Fails e total
  unfolding steps
  fails left b i total faults.NoMemory so_far test r = tt
  fails left b i total (faults.Unexpected k) so_far test r =
      let here : (steps t P (suc left) b s i >>= behind) ≡ Err (faults.Unexpected k) = rw (test, r) refl in
      sym so_far ∙ here
  fails left b i total (faults.Package k) so_far test r =
      let here : (steps t P (suc left) b s i >>= behind) ≡ Err (faults.Package k) = rw (test, r) refl in
      sym so_far ∙ here

  done : (left : ℕ) (b : B) (i : ℕ) (total : Result C TreeFault) → (steps t P (suc left) b s i >>= behind) ≡ total → t b s i ≡ false → total ≡ behind (b, i)
  unfolding steps
  done left b i total so_far test =
      let here : (steps t P (suc left) b s i >>= behind) ≡ behind (b, i) = rw test refl in
      sym so_far ∙ here

pub loop_turns : {B C : Type 0} {t : B → Test} {P : B → Reader B} {s : Source} {behind : B × ℕ → Result C TreeFault} {b : B} {i : ℕ} {total : Result C TreeFault} {c : B} {j : ℕ}
    → Loop t P s behind b i total → t b s i ≡ true → P b s i ≡ Ok (c, j) → i < j → j ≤ length s.tokens → Loop t P s behind c j total
loop_turns {t = t} {P = P} {s = s} {behind = behind} {b = b} {i = i} {total = total} {c = c} {j = j} l test r lt within = turn t P s behind l.left b i total c j l.enough l.rest test r lt within

pub loop_fails : {B C : Type 0} {t : B → Test} {P : B → Reader B} {s : Source} {behind : B × ℕ → Result C TreeFault} {b : B} {i : ℕ} {total : Result C TreeFault} (e : TreeFault)
    → Loop t P s behind b i total → t b s i ≡ true → Fails e (P b s i) → Fails e total
loop_fails {t = t} {P = P} {s = s} {behind = behind} {b = b} {i = i} {total = total} e l test r = fails t P s behind l.left b i total e l.rest test r

pub loop_done : {B C : Type 0} {t : B → Test} {P : B → Reader B} {s : Source} {behind : B × ℕ → Result C TreeFault} {b : B} {i : ℕ} {total : Result C TreeFault}
    → Loop t P s behind b i total → t b s i ≡ false → total ≡ behind (b, i)
loop_done {t = t} {P = P} {s = s} {behind = behind} {b = b} {i = i} {total = total} l test = done t P s behind l.left b i total l.rest test
