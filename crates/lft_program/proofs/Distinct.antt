-- Names that begin with `main`, each made from one before it: no two are the same where no instance has an ending twice.
use Rattle.std.proofs.Common.{◌≡◌, ℕ, ◌+◌, ◌<◌, zero, suc, List, [], ◌∷◌, ◌++◌, length, get_or, slice_get, Some, codes, refl, sym, ap, subst, ◌∙◌, arith, append_assoc, append-nil}
use Rattle.std.proofs.lemmas.Option.{slice_get_within, slice_get-get_or}
use Rattle.lft_lists.proofs.Places.{get_left, Some_same}
use Rattle.lft_ir.{specs.inner.Names.HasNoTwice, proofs.Positions.HasNoTwice-push}
use Rattle.lft_program.specs.inner.Extended.{Ending, name_after, extended, AreAfter}
use Rattle.lft_program.proofs.Extending.{extended-append, length-extended, extended-keeps, extended-at}
use Rattle.lft_program.proofs.Separators.{HasNoSeparator, IsEnding, HasNoSeparator-main, separator_inside, same_ending}
use Rattle.lft_resolve.proofs.Twice.{slice_get-middle}

abbrev pub main : List (List ℕ)
main = codes "main" ∷ []

-- endings that make names of which none is the same as another
pub record ArePaths (es : List Ending) : Type 0 where
  pub after : AreAfter 1 es
  pub endings : (k : ℕ) (e : Ending) → slice_get es k ≡ Some e → IsEnding e.1
  pub once : (i j : ℕ) (e : Ending) → slice_get es i ≡ Some e → slice_get es j ≡ Some e → i ≡ j

main_has_none : (c s : List ℕ) → IsEnding s → codes "main" ≡ c ++ s → ⊥
main_has_none c s is same =
    let whole : codes "main" ≡ c ++ is.separator ∷ is.rest = same ∙ ap (λ l. c ++ l) is.whole in
    separator_inside c is.rest is.separator is.separates (subst HasNoSeparator whole HasNoSeparator-main)

module _ (ds rest : List Ending) (e : Ending) (paths : ArePaths (ds ++ e ∷ rest)) (once : HasNoTwice (extended main ds)) where
  here : slice_get (ds ++ e ∷ rest) (length ds) ≡ Some e
  here = slice_get-middle ds rest e

  new_name : (i : ℕ) → slice_get (extended main ds) i ≡ Some (name_after (extended main ds) e) → ⊥
  new_name zero at =
      let first : slice_get (extended main ds) 0 ≡ Some (codes "main") = extended-keeps main ds 0 (codes "main") refl in
      main_has_none (get_or (extended main ds) e.0 []) e.1 (paths.endings (length ds) e here) (Some_same (codes "main") (name_after (extended main ds) e) (sym first ∙ at))
  new_name (suc k) at =
      let t = extended main ds in
      let long : length t ≡ 1 + length ds = length-extended main ds in
      let low = slice_get_within t (suc k) (name_after t e) at in
      let inside : k < length ds = omega arith in
      let d = get_or ds k e in
      let at_d : slice_get ds k ≡ Some d = slice_get-get_or ds k e inside in
      let in_all : slice_get (ds ++ e ∷ rest) k ≡ Some d = get_left ds (e ∷ rest) k d at_d in
      let stands = extended-at main ds (λ i x there. paths.after i x (get_left ds (e ∷ rest) i x there)) k d at_d in
      let place : 1 + k ≡ suc k = omega arith in
      let named : slice_get t (suc k) ≡ Some (stands.container ++ d.1) = subst (λ n. slice_get t n ≡ Some (stands.container ++ d.1)) place stands.name in
      let after = paths.after (length ds) e here in
      let e_low : e.0 < length t = omega arith in
      let c = get_or t e.0 [] in
      let there : slice_get t e.0 ≡ Some c = slice_get-get_or t e.0 [] e_low in
      let same : stands.container ++ d.1 ≡ c ++ e.1 = Some_same _ _ (sym named ∙ at) in
      let parts = same_ending stands.container c d.1 e.1 (paths.endings k d in_all) (paths.endings (length ds) e here) same in
      let instance : d.0 ≡ e.0 = once d.0 e.0 c (stands.there ∙ ap Some parts.0) there in
      let ending : d ≡ e = λ j. (instance j, parts.1 j) in
      let twice : k ≡ length ds = paths.once k (length ds) e (in_all ∙ ap Some ending) here in
      omega arith

  pub one_more : HasNoTwice (extended main (ds ++ e ∷ []))
  one_more = rw (extended-append main ds (e ∷ [])) (HasNoTwice-push (extended main ds) (name_after (extended main ds) e) once new_name)

all_more : (ds es : List Ending) → ArePaths (ds ++ es) → HasNoTwice (extended main ds) → HasNoTwice (extended main (ds ++ es))
all_more ds [] paths once = rw (append-nil ds) once
all_more ds (e ∷ es) paths once =
    let split : (ds ++ e ∷ []) ++ es ≡ ds ++ e ∷ es = append_assoc ds (e ∷ []) es in
    let more = all_more (ds ++ e ∷ []) es (subst ArePaths (sym split) paths) (one_more ds es e paths once) in
    subst (λ l. HasNoTwice (extended main l)) split more

main_once : HasNoTwice main
main_once zero zero text a b = refl
main_once zero (suc j) text a b = absurd (cc)
main_once (suc i) j text a b = absurd (cc)

pub HasNoTwice-extended : (es : List Ending) → ArePaths es → HasNoTwice (extended main es)
HasNoTwice-extended es paths = all_more [] es paths main_once
