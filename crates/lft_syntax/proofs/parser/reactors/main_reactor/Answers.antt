use Rattle.std.proofs.Common.{◌≡◌, ℕ, ◌+◌, List, Option, Some, None, true, refl, sym, subst, ap, ◌∙◌, arith}
use Rattle.std.specs.Prelude.{option_map, string_bytes}
use Rattle.lft_syntax.specs.{Lexeme.Lexeme, Placed.{BodyStands, HeadStands, ParametersStand, past_head, past_parameters}}
use Rattle.lft_syntax.specs.inner.{Placed.{MainNameStands, place_or}, Parsing.words}
use Rattle.lft_syntax.proofs.parser.reactors.main_reactor.Goals as goal

head_stands : (ws : List Lexeme) (i j : ℕ) (name : Option (List ℕ)) → MainNameStands ws (i + 2) name j → HeadStands ws i (place_or name (i + 2) i) true name
head_stands ws i j None s = refl
head_stands ws i j (Some name) s = (refl, s.0)

past_name : (ws : List Lexeme) (i j : ℕ) (name : Option (List ℕ)) → MainNameStands ws (i + 2) name j → j ≡ past_head i true name
past_name ws i j None s = s
past_name ws i j (Some name) s = omega (arith, s.1)

pub returns-clause-stands : goal.returns-clause-stands
returns-clause-stands c =
    let ws = words c.args.input.now in
    let i = c.args.at in
    let name = option_map string_bytes c.in_ok-name.name in
    let parameters = c.in_ok-parameters.parameters.items in
    let at_name : c.in_ok-name_at.name_at ≡ i + 2 = omega (arith, c.in_ok-word.ensures.next, c.in_ok-name_at.ensures.next) in
    let named : MainNameStands ws (i + 2) name c.in_ok-name.opening = subst (λ (k : ℕ). MainNameStands ws k name c.in_ok-name.opening) at_name c.in_ok-name.ensures.stands in
    let at_place : c.main_place-place.result ≡ place_or name (i + 2) i = c.main_place-place.ensures ∙ ap (λ (k : ℕ). place_or name k i) at_name in
    let at_parameters : c.in_ok-name.opening ≡ past_head i true name = past_name ws i c.in_ok-name.opening name named in
    let at_body : c.in_ok-parameters.brace ≡ past_parameters ws (past_head i true name) parameters = c.in_ok-parameters.ensures.stand.1 ∙ ap (λ (k : ℕ). past_parameters ws k parameters) at_parameters in (
      subst (λ (k : ℕ). HeadStands ws i k true name) (sym at_place) (head_stands ws i c.in_ok-name.opening name named),
      subst (λ (k : ℕ). ParametersStand ws k parameters) at_parameters c.in_ok-parameters.ensures.stand.0,
      subst (λ (k : ℕ). BodyStands ws k c.in_ok-members.end c.in_ok-members.members.items) at_body c.in_ok-members.ensures.stand,
    )
