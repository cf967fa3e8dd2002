-- One more token behind those of a text.
use Rattle.std.proofs.Common.{◌≡◌, ℕ, ◌+◌, ◌-◌, ◌<◌, ◌≤◌, List, [], ◌∷◌, ◌++◌, length, length-append, length-drop, length-take-le, append-nil, map, take, take_all, drop, Some, Ok, Err, IsAscii, refl, sym, ap, subst, ◌∙◌, arith}
use Rattle.std.specs.Prelude.{slice_get, slice_range}
use Rattle.std.specs.List.{All}
use Rattle.std.proofs.lemmas.List.{length-map, drop_at, drop-append-le, map-append, take-append-le, take-map}
use Rattle.std.proofs.lemmas.List.Elements.{All-tail, All-head, All-take, All-push, All-weaker, All-get_or}
use Rattle.std.proofs.lemmas.Option.{slice_get_within, get_or_from_slice_get}
use Rattle.lft_syntax.specs.{declared.token.{Token.Token, TokenKind.TokenKind}, Lexeme.Lexeme, Grammar.{Spells, BeginsTree, CanFollow}, inner.Reading.whole_at}
use Rattle.lft_syntax.specs.{View.{lexeme_of, lexeme_from, lexemes}, Lexes.Lexes}
use Rattle.lft_syntax.proofs.{TokenFacts.{InText, in_text_ascii, cut_tokens}, Whole.{read_tree, read_begun, read_fault}}
use Rattle.lft_tree.specs.Tree.{FileTree}
use Rattle.lft_syntax.specs.declared.token.TokenKind.TheVariants as kinds

-- ---- bytes behind a text

module _ (t more : List ℕ) where
  range_behind : (i j : ℕ) → i ≤ j → j ≤ length t → slice_range (t ++ more) i j ≡ slice_range t i j
  range_behind i j order within = ap (take (j - i)) (drop-append-le i t more (omega arith)) ∙ take-append-le (j - i) (drop i t) more (omega (arith, length-drop i t))

  range_more : slice_range (t ++ more) (length t) (length (t ++ more)) ≡ more
  range_more = ap (take (length (t ++ more) - length t)) (drop_at t more (length t) refl) ∙ take_all (length (t ++ more) - length t) more (omega (arith, length-append t more))

  -- ---- lexemes

  lexemes_behind : (ks : List Token) → All (InText t) ks → lexemes (t ++ more) ks ≡ lexemes t ks
  unfolding lexemes
  lexemes_behind [] each = refl
  lexemes_behind (k ∷ ks) each =
      let h = All-head (InText t) k ks each in
      let order = h.order in
      ap (λ w. lexeme_from k.kind w ∷ map (lexeme_of (t ++ more)) ks) (range_behind k.start k.end (omega arith) h.within)
      ∙ ap (λ ws. lexeme_of t k ∷ ws) (lexemes_behind ks (All-tail (InText t) k ks each))

  abbrev behind : TokenKind → Token
  behind kind = record { kind = kind; start = length t; end = length (t ++ more) }

  -- those of some tokens of the text and one more
  lexemes_tried : (ks : List Token) (count : ℕ) (kind : TokenKind) (w : Lexeme) → All (InText t) ks → lexeme_from kind more ≡ w → lexemes (t ++ more) (take count ks ++ behind kind ∷ []) ≡ take count (lexemes t ks) ++ w ∷ []
  unfolding lexemes
  lexemes_tried ks count kind w each seen =
      map-append (lexeme_of (t ++ more)) (take count ks) (behind kind ∷ [])
      ∙ ap (λ ws. ws ++ lexeme_of (t ++ more) (behind kind) ∷ []) (lexemes_behind (take count ks) (All-take (InText t) count ks each) ∙ sym (take-map (lexeme_of t) count ks))
      ∙ ap (λ v. take count (map (lexeme_of t) ks) ++ v ∷ []) (ap (lexeme_from kind) range_more ∙ seen)

-- ---- what is known of each token

-- it lies in the text, and a name is ASCII
abbrev pub Fits : List ℕ → Token → Type 0
Fits u k = (k.start ≤ k.end) × (k.end ≤ length u) × (k.kind ≡ kinds.Name → IsAscii (slice_range u k.start k.end))

fits_behind : (t more : List ℕ) (k : Token) → InText t k → Fits (t ++ more) k
fits_behind t more k h =
    let order = h.order in
    (omega arith, omega (arith, h.within, length-append t more), λ e. subst IsAscii (sym (range_behind t more k.start k.end (omega arith) h.within)) (in_text_ascii t k h e))

tried_fits : (t more : List ℕ) (ks : List Token) (count : ℕ) (kind : TokenKind) → All (InText t) ks → IsAscii more → (i : ℕ) (k : Token) → slice_get (take count ks ++ behind t more kind ∷ []) i ≡ Some k → Fits (t ++ more) k
tried_fits t more ks count kind each ascii i k there =
    let tried = take count ks ++ behind t more kind ∷ [] in
    let last : Fits (t ++ more) (behind t more kind) = (omega (arith, length-append t more), omega arith, λ e. subst IsAscii (sym (range_more t more)) ascii) in
    let all : All (Fits (t ++ more)) tried = All-push (Fits (t ++ more)) (take count ks) (behind t more kind) (All-take (Fits (t ++ more)) count ks (All-weaker (InText t) (Fits (t ++ more)) (fits_behind t more) ks each)) last in
    subst (λ (x : Token). Fits (t ++ more) x) (get_or_from_slice_get tried i k k there) (All-get_or (Fits (t ++ more)) tried i k (slice_get_within tried i k there) all)

-- ---- whether a token can stand

pub lexemes_length : (text : List ℕ) (tokens : List Token) → length (lexemes text tokens) ≡ length tokens
unfolding lexemes
lexemes_length text tokens = length-map tokens (lexeme_of text)

-- those before it are as many
pub front_length : (text : List ℕ) (tokens : List Token) (count : ℕ) → count ≤ length tokens → length (take count (lexemes text tokens)) ≡ count
front_length text tokens count le = length-take-le count (lexemes text tokens) (omega (arith, lexemes_length text tokens))

module _ (front : List Lexeme) (w : Lexeme) where
  pub stands : (tree : FileTree) → whole_at (front ++ w ∷ []) ≡ Ok tree → CanFollow front w
  stands tree e = ([], tree, subst (Spells tree) (sym (append-nil (front ++ w ∷ []))) (read_tree (front ++ w ∷ []) tree e).0)

  pub stands_if : (k : ℕ) → whole_at (front ++ w ∷ []) ≡ Err k → length front < k → CanFollow front w
  stands_if k e past = subst BeginsTree (take_all k (front ++ w ∷ []) (omega (arith, length-append front (w ∷ [])))) (read_begun (front ++ w ∷ []) k e)

  pub stands_not : (k : ℕ) → whole_at (front ++ w ∷ []) ≡ Err k → k ≤ length front → CanFollow front w → ⊥
  stands_not k e le can =
      let ws = front ++ w ∷ [] in
      (read_fault ws k e).2 (ws ++ can.0) can.1 (take-append-le (k + 1) ws can.0 (omega (arith, length-append front (w ∷ [])))) can.2

-- ---- what a trial reads

module _ (t more : List ℕ) (ks : List Token) (kind : TokenKind) (count : ℕ) {longer text : List ℕ} {given tried pushed tokens : List Token} {n : ℕ} (text_kept : longer ≡ t) (text_is : text ≡ longer ++ more)
    (tokens_kept : given ≡ ks) (front : tried ≡ take count given) (ends : n ≡ length text) (last : pushed ≡ tried ++ record { kind = kind; start = length t; end = n } ∷ []) (tokens_are : tokens ≡ pushed) where
  text_same : text ≡ t ++ more
  text_same = text_is ∙ ap (λ (l : List ℕ). l ++ more) text_kept

  tokens_same : tokens ≡ take count ks ++ behind t more kind ∷ []
  tokens_same =
      tokens_are ∙ last
      ∙ ap (λ (l : List Token). l ++ record { kind = kind; start = length t; end = n } ∷ []) (front ∙ ap (take count) tokens_kept)
      ∙ ap (λ (m : ℕ). take count ks ++ record { kind = kind; start = length t; end = m } ∷ []) (ends ∙ ap length text_same)

  pub trial_words : {w : Lexeme} → Lexes t ks → lexeme_from kind more ≡ w → lexemes text tokens ≡ take count (lexemes t ks) ++ w ∷ []
  trial_words {w = w} lexed seen = rw (text_same, tokens_same) (lexemes_tried t more ks count kind w (cut_tokens t lexed) seen)

  pub trial_fits : Lexes t ks → IsAscii more → (i : ℕ) (k : Token) → slice_get tokens i ≡ Some k → Fits text k
  trial_fits lexed ascii i k there =
      subst (λ (l : List ℕ). Fits l k) (sym text_same) (tried_fits t more ks count kind (cut_tokens t lexed) ascii i k (ap (λ (l : List Token). slice_get l i) (sym tokens_same) ∙ there))
