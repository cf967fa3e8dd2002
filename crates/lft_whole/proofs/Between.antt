-- Tokens between two places.
use Rattle.std.proofs.Common.{◌≡◌, ℕ, ◌<◌, ◌≤◌, List, [], ◌∷◌, ◌++◌, length, Bor, Some, subst, sym, ap, ◌∙◌, arith}
use Rattle.std.specs.Prelude.{slice_get}
use Rattle.std.specs.{List.All, Slice.IsItemAt}
use Rattle.std.proofs.lemmas.{List.Elements.{All-nil, All-cons, All-get_or}, Option.{slice_get_within, get_or_from_slice_get, slice_get-get_or}}
use Rattle.lft_syntax.specs.declared.token.Token.{Token}
use Rattle.lft_whole.specs.inner.Tokens.{IsToken, StandBetween, AreTokens, EachIsToken}

-- white space and remarks stand behind them
pub between_blank : (text : List ℕ) (i : ℕ) (tokens : List Token) (j k : ℕ) → j ≤ k → StandBetween text i tokens j → StandBetween text i tokens k
between_blank text i [] j k more h = omega (arith, more, h)
between_blank text i (t ∷ ts) j k more h = (h.0, h.1, between_blank text t.end ts j k more h.2)

-- one more token stands behind them
pub between_push : (text : List ℕ) (i : ℕ) (tokens : List Token) (j : ℕ) (t : Token) → j ≤ t.start → IsToken text t → StandBetween text i tokens j → StandBetween text i (tokens ++ t ∷ []) t.end
between_push text i [] j t more here h = (omega (arith, more, h), here, omega arith)
between_push text i (u ∷ us) j t more here h = (h.0, h.1, between_push text u.end us j t more here h.2)

all_between : (text : List ℕ) (i : ℕ) (tokens : List Token) (j : ℕ) → StandBetween text i tokens j → All (IsToken text) tokens
all_between text i [] j h = All-nil (IsToken text)
all_between text i (t ∷ ts) j h = All-cons (IsToken text) t ts h.1 (all_between text t.end ts j h.2)

-- each of them is a token
pub each_token : (text : List ℕ) (tokens : List Token) → AreTokens text tokens → EachIsToken text tokens
each_token text tokens whole n t there =
    subst (λ (x : Token). IsToken text x) (get_or_from_slice_get tokens n t t there) (All-get_or (IsToken text) tokens n t (slice_get_within tokens n t there) (all_between text 0 tokens (length text) whole))

-- what is lent of them is a token
pub token_there : (text : List ℕ) (tokens : List Token) (i : ℕ) (lent : Bor Token) → EachIsToken text tokens → IsItemAt tokens i (Some lent) → IsToken text lent.now
token_there text tokens i lent each is = each i lent.now (slice_get-get_or tokens i lent.now is.3.0 ∙ ap Some (sym is.1))
