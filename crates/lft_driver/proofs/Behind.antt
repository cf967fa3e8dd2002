-- What is written behind a line that was written.
use Rattle.std.proofs.Common.{◌≡◌, ◌≢◌, inl, inr, ℕ, ◌+◌, Result, Ok, Err, OnOk, OnErr, IfErr, List, ◌++◌, Option, length, take, sym, ◌∙◌, subst}
use Rattle.std.{proofs.{KnownBytes.{Appends-trans, Keeps-refl}, Math.Seq.take-append-add}, specs.Io.KnownBytes.{Appends, Keeps}}
use Rattle.lft_load.specs.{Written.AppendsFront, declared.fault.Fault.Fault}
use Rattle.lft_driver.specs.{Explained.Writes, inner.Explained.WriteRefusal, Refusals.IsRefusedGrowth}
use Rattle.lft_load.specs.declared.fault.Part.TheVariants as part

module _ (P Q : List ℕ → Type 0) (line : List ℕ) (joins : (rest : List ℕ) → P rest → Q (line ++ rest)) (old mid new : Option (List ℕ)) (first : Appends old mid line) where
  -- a line, and what stands behind it
  pub writes_both : Writes P mid new → Writes Q old new
  writes_both (rest, is, h) = (line ++ rest, joins rest is, Appends-trans old mid new line rest first h)

  -- a line, and a front of what stands behind it
  pub front_both : (rest : List ℕ) → P rest → AppendsFront mid new rest → (text : List ℕ) × Q text × AppendsFront old new text
  front_both rest is (n, h) = (line ++ rest, joins rest is, (length line + n, subst (Appends old new) (sym (take-append-add line rest n)) (Appends-trans old mid new line (take n rest) first h)))

-- a refused growth is no fault of the writer
pub growth_kept : (f : Fault) (old new : Option (List ℕ)) → IsRefusedGrowth f → (f.part ≢ part.Write → Keeps old new) → Keeps old new
growth_kept f old new (inl x) h = h (λ w. let z : part.Check ≡ part.Write = sym x.0 ∙ w in cc z)
growth_kept f old new (inr x) h = h (λ w. let z : part.Memory ≡ part.Write = sym x.0 ∙ w in cc z)

module _ (P : List ℕ → Type 0) (text : List ℕ) (is : P text) (old new : Option (List ℕ)) {X : Type 0} where
  -- a text of which this holds was written
  pub text_written : (r : Result X Fault) → OnOk r (Appends old new text) → OnOk r (Writes P old new)
  text_written (Ok x) h = (text, is, h)
  text_written (Err f) h = h

  -- the writer failed on it
  pub text_refused : (r : Result X Fault) → OnErr r (AppendsFront old new text) → IfErr r (λ f. f.part ≡ part.Write) → IfErr r (λ f. f.number ≡ 1) → IfErr r (WriteRefusal P old new)
  text_refused (Ok x) front p n = p
  text_refused (Err f) front p n = inr (p, n, (text, is, front))

-- there was no memory for a text, and nothing was written
pub no_text : (P : List ℕ → Type 0) (o : Option (List ℕ)) (f : Fault) → f.part ≡ part.Memory → f.number ≡ 1 → WriteRefusal P o o f
no_text P o f p n = inl (p, n, Keeps-refl o)

-- without a fault of the writer nothing was written
pub unwritten_kept : (P : List ℕ → Type 0) (old new : Option (List ℕ)) (f : Fault) → WriteRefusal P old new f → f.part ≢ part.Write → Keeps old new
unwritten_kept P old new f (inl x) other = x.2
unwritten_kept P old new f (inr x) other = absurd (other x.0)
