use Rattle.std.proofs.Common.{◌≡◌, ℕ, ◌-◌, Bool, List, [], ◌∷◌, Bor, take, map, length, sym, ap, ◌∙◌}
use Rattle.std.specs.Prelude.{slice_get}
use Rattle.std.proofs.lemmas.List.{map-append, take-map, length-map}
use Rattle.lft_whole_parser.{specs.Imports.Paths.is_folder, proofs.ImportsLemmas.Walks.{back_off, back_root, back_kept}}
use Rattle.lft_whole_parser.proofs.imports.paths.push_back.Goals as goal

folder_is : (b : Bool) (xs ys : List (Bor (List ℕ))) → xs ≡ ys → b ≡ is_folder (slice_get (map (λ x. x.now) xs) (length xs - 1)) → is_folder (slice_get (map (λ x. x.now) ys) (length (map (λ x. x.now) ys) - 1)) ≡ b
folder_is b xs ys e h = sym (h ∙ ap (λ z. is_folder (slice_get (map (λ x. x.now) z) (length z - 1))) e ∙ ap (λ (n : ℕ). is_folder (slice_get (map (λ x. x.now) ys) (n - 1))) (sym (length-map ys (λ x. x.now))))

pub returns-then-goes_back : goal.returns-then-goes_back
returns-then-goes_back c =
    let old = c.args.folders.now.items in
    let many = sym c.deref.ensures.len ∙ ap length c.deref.ensures.value ∙ sym (length-map old (λ x. x.now)) in
    ap (map (λ x. x.now)) c.pop-last.ensures.rest
    ∙ sym (take-map (λ x. x.now) _ old)
    ∙ ap (λ (n : ℕ). take (n - 1) (map (λ x. x.now) old)) many
    ∙ sym (back_off c.args.from_root (map (λ x. x.now) old) c.args.part.now (folder_is _ c.deref.result.now old c.deref.ensures.value c.if-goes_back.ensures))

pub returns-then-from_root : goal.returns-then-from_root
returns-then-from_root c =
    let old = c.args.folders.now.items in
    sym (back_root c.args.from_root (map (λ x. x.now) old) c.args.part.now (folder_is _ c.deref.result.now old c.deref.ensures.value c.if-goes_back.ensures) c.if-from_root.true)

pub returns : goal.returns
returns c =
    let old = c.args.folders.now.items in
    ap (map (λ x. x.now)) c.in_ok-push.ensures.items
    ∙ map-append (λ x. x.now) old (c.args.part ∷ [])
    ∙ sym (back_kept c.args.from_root (map (λ x. x.now) old) c.args.part.now (folder_is _ c.deref.result.now old c.deref.ensures.value c.if-goes_back.ensures) c.if-from_root.false)
