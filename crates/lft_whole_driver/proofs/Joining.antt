-- Files as one text.
use Rattle.std.proofs.Common.{◌≡◌, ℕ, ◌+◌, ◌≤◌, ◌<◌, List, [], ◌∷◌, ◌++◌, Ok, Some, length, map, take, get_or, slice_get, sym, ap, subst, ◌∙◌, add-one, arith, string_bytes}
use Rattle.std.{specs.List.All, proofs.lemmas.{List.{append_assoc, length-append, Elements.{All-append, All-cons, All-nil}}, Option.slice_get-get_or}}
use Rattle.lft_lists.proofs.Picked.{take_next}
use Rattle.lft_program_diagnostics.specs.{inner.Pages.ArePages, declared.pages.Page.Page}
use Rattle.lft_whole.specs.{Sources.Shown.shown_path, declared.sources.source.SourceFile.SourceFile, Pieces.tokens_of, inner.Tokens.{AreTokens, IsToken}}
use Rattle.lft_whole.proofs.Between.{each_token}
use Rattle.lft_syntax.specs.declared.token.Token.{Token}
use Rattle.lft_whole_driver.specs.Pages.{AreJoined, Join, cut, end_at, end_of, file_tokens, is_page, token_moved, Join.{no_files, file_more}}
use Rattle.lft_whole_driver.specs.{inner.Pages.JoinsFile, declared.pages.Joined.Joined}

-- a token of a text
pub token_at : (t : List ℕ) (tokens these : List Token) (at : ℕ) (d : Token) → AreTokens t tokens → these ≡ tokens → at < length these → IsToken t (get_or these at d)
token_at t tokens these at d are same lt =
    each_token t these (subst (AreTokens t) (sym same) are) at (get_or these at d) (slice_get-get_or these at d lt)

-- a file behind those that are there: its text, its tokens with its end, and a line feed
pub joins_file : (file : SourceFile) (old new : Joined) (page : Page) (tokens : List Token) (text : List ℕ) (moved_tokens : List Token) → tokens_of file.text.items ≡ Ok tokens → text ≡ old.text.items ++ file.text.items → new.text.items ≡ text ++ 10 ∷ [] → moved_tokens ≡ old.tokens.items ++ map (token_moved page.start) tokens → new.tokens.items ≡ moved_tokens ++ end_at page.end ∷ [] → string_bytes page.path ≡ shown_path (string_bytes file.path) → page.start ≡ length old.text.items → page.end ≡ length text → new.pages.items ≡ old.pages.items ++ page ∷ [] → JoinsFile file old new
joins_file file old new page tokens text moved_tokens read behind feed moved_are end_more path start end pages =
    let n = length old.text.items in
    let end_is : page.end ≡ end_of n file = end ∙ ap length behind ∙ length-append old.text.items file.text.items in
    let these : map (token_moved page.start) tokens ++ end_at page.end ∷ [] ≡ file_tokens n file = ap (λ s. map (token_moved s) tokens ++ end_at page.end ∷ []) start ∙ ap (λ e. map (token_moved n) tokens ++ end_at e ∷ []) end_is ∙ ap (λ r. map (token_moved n) (cut r) ++ end_at (end_of n file) ∷ []) (sym read) in
    record {
      page = page;
      is_page = (path, start, end_is);
      text = feed ∙ ap (λ t. t ++ 10 ∷ []) behind ∙ append_assoc old.text.items file.text.items (10 ∷ []);
      tokens = end_more ∙ ap (λ ts. ts ++ end_at page.end ∷ []) moved_are ∙ append_assoc old.tokens.items (map (token_moved page.start) tokens) (end_at page.end ∷ []) ∙ ap (λ ts. old.tokens.items ++ ts) these;
      pages = pages;
    }

-- a file more
pub joined_next : (files : List SourceFile) (i : ℕ) (file : SourceFile) (old new : Joined) → slice_get files i ≡ Some file → AreJoined (take i files) old → JoinsFile file old new → AreJoined (take (i + 1) files) new
joined_next files i file old new at is more =
    let front : take (i + 1) files ≡ take i files ++ file ∷ [] = ap (λ k. take k files) (add-one i) ∙ take_next files i file at in
    let made = file_more file more.page is more.is_page in
    subst (λ fs. AreJoined fs new) (sym front)
    (subst (λ t. Join (take i files ++ file ∷ []) t new.tokens.items new.pages.items) (sym more.text)
    (subst (λ ts. Join (take i files ++ file ∷ []) (old.text.items ++ (file.text.items ++ 10 ∷ [])) ts new.pages.items) (sym more.tokens)
    (subst (λ ps. Join (take i files ++ file ∷ []) (old.text.items ++ (file.text.items ++ 10 ∷ [])) (old.tokens.items ++ file_tokens (length old.text.items) file) ps) (sym more.pages) made)))

abbrev Within : ℕ → Page → Type 0
Within n page = (page.start ≤ page.end) × (page.end ≤ n)

longer : (n m : ℕ) → n ≤ m → (pages : List Page) → All (Within n) pages → All (Within m) pages
longer n m le pages all k d lt = let one = all k d lt in (one.0, omega (arith, one.1, le))

new_page : (n m : ℕ) (file : SourceFile) (page : Page) → is_page n file page → n + length file.text.items ≤ m → Within m page
new_page n m file page is le =
    let start = is.1 in
    let end = is.2 in
    (omega (arith, start, end), omega (arith, end, le))

-- each file is a part of the text
pub pages_in : {files : List SourceFile} {t : List ℕ} {tokens : List Token} {pages : List Page} → Join files t tokens pages → ArePages t pages
pages_in no_files = All-nil (Within 0)
pages_in (file_more {t = t} {pages = pages} file page rest is) =
    let whole : length (t ++ (file.text.items ++ 10 ∷ [])) ≡ length t + (length file.text.items + 1) = length-append t (file.text.items ++ 10 ∷ []) ∙ ap (λ n. length t + n) (length-append file.text.items (10 ∷ [])) in
    let long = length (t ++ (file.text.items ++ 10 ∷ [])) in
    All-append (Within long) pages (page ∷ []) (longer (length t) long (omega (arith, whole)) pages (pages_in rest)) (All-cons (Within long) page [] (new_page (length t) long file page is (omega (arith, whole))) (All-nil (Within long)))
