use Rattle.std.proofs.Common.{◌≡◌, ℕ, [], ◌∷◌, ◌++◌, List, length, map, string_bytes, refl, sym, ap, ◌∙◌, arith}
use Rattle.std.specs.Prelude.{option_map}
use Rattle.std.{specs.List.flat_map, proofs.lemmas.{Grind.flat_map-append, List.{length-map, map-append}}}
use Rattle.lft_tree.specs.{Tree.{TriggerTree, OnRef}, View.trigger_view, declared.tree.Trigger.Trigger}
use Rattle.lft_elaborate.specs.inner.Channels.Lowered.{own}
use Rattle.lft_lower.specs.inner.{Meanings.Meanings.{here, token_in}, Lowered.all_triggers, Standing.{or_at, tokens_of_trigger, token_of_trigger}}
use Rattle.lft_lower.proofs.{Adding.{triggers_run, triggers_sleep}, Standing.{at_none, at_this}}
use Rattle.lft_lower.proofs.reactions.some_triggers.Goals as goal

pub returns-then-count-ne0-clause-triggers : goal.returns-then-count-ne0-clause-triggers
returns-then-count-ne0-clause-triggers c =
    let items = c.in_ok-triggers.triggers.items in
    triggers_run (here c.args.within) c.args.reaction.now (option_map string_bytes c.args.never.now) c.args.list.now.items (map trigger_view items) c.in_ok-triggers.ensures.places (λ e. absurd (omega (arith, ap length e, length-map items trigger_view)))

none_of : (items : List Trigger) (ts : List TriggerTree) → map trigger_view items ≡ ts → length items ≡ 0 → ts ≡ []
none_of [] ts is none = sym is
none_of (x ∷ xs) ts is none = absurd (omega arith)

pub returns-clause-triggers : goal.returns-clause-triggers
returns-clause-triggers c =
    let items = c.in_ok-triggers.triggers.items in
    let zero : length items ≡ 0 = omega arith in
    let empty : map trigger_view items ≡ [] = none_of items (map trigger_view items) refl zero in
    triggers_sleep (here c.args.within) c.args.reaction.now (string_bytes c.in_ok-head.head) (option_map string_bytes c.args.never.now) _ c.args.list.now.items _ _ c.in_ok-triggers.ensures.some (none_of items _ c.in_ok-triggers.ensures.places zero) c.in_ok-head.ensures.added c.in_ok-head.ensures.name (ap (map trigger_view) c.in_ok-push.ensures.items ∙ map-append trigger_view items _ ∙ ap (λ ts. ts ++ OnRef (own (string_bytes c.in_ok-head.head)) ∷ []) empty)

pub returns-then-count-ne0-clause-at : goal.returns-then-count-ne0-clause-at
returns-then-count-ne0-clause-at c = at_none c.args.list.now.items _ _ refl

pub returns-clause-at : goal.returns-clause-at
returns-clause-at c = at_this c.args.list.now.items _ _ _ _ c.token-at.ensures c.in_ok-head.ensures.at

triggers_stand : (at : ℕ) (ts : List TriggerTree) (tokens : List ℕ) → (ts ≡ [] → ⊥) → or_at at ts tokens ≡ tokens
triggers_stand at [] tokens some = absurd (some refl)
triggers_stand at (t ∷ ts) tokens some = refl

pub returns-then-count-ne0-clause-tokens : goal.returns-then-count-ne0-clause-tokens
returns-then-count-ne0-clause-tokens c =
    let items = c.in_ok-triggers.triggers.items in
    let number = token_in c.args.within in
    let h = here c.args.within in
    let r = c.args.reaction.now in
    let some = λ (e : all_triggers h r ≡ []). absurd (omega (arith, ap length (c.in_ok-triggers.ensures.places ∙ e), length-map items trigger_view)) in
    c.in_ok-triggers.ensures.at ∙ sym (triggers_stand (number r.at) (all_triggers h r) (flat_map (tokens_of_trigger number h) r.triggers.items) some)

no_tokens : (items : List Trigger) → length items ≡ 0 → flat_map token_of_trigger items ≡ []
no_tokens [] none = refl
no_tokens (x ∷ xs) none = absurd (omega arith)

pub returns-clause-tokens : goal.returns-clause-tokens
returns-clause-tokens c =
    let items = c.in_ok-triggers.triggers.items in
    let zero : length items ≡ 0 = omega arith in
    let h = here c.args.within in
    let r = c.args.reaction.now in
    let all = flat_map (tokens_of_trigger (token_in c.args.within) h) r.triggers.items in
    let none : all_triggers h r ≡ [] = none_of items _ c.in_ok-triggers.ensures.places zero in
    ap (flat_map token_of_trigger) c.in_ok-push.ensures.items
    ∙ flat_map-append token_of_trigger items _
    ∙ ap (λ ts. ts ++ c.token-at.result ∷ []) (no_tokens items zero)
    ∙ ap (λ at. at ∷ []) c.token-at.ensures
    ∙ ap (λ ts. or_at (token_in c.args.within r.at) ts all) (sym none)
