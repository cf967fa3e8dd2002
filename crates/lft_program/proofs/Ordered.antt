-- The reactions of an instance stand in the order of their declaration, one right after another.
use Rattle.std.proofs.Common.{◌≡◌, ℕ, ◌+◌, ◌-◌, ◌<◌, length, get_or, slice_get, Some, sym, ap, ◌∙◌, arith}
use Rattle.std.proofs.lemmas.Option.{slice_get_within, slice_get-get_or}
use Rattle.lft_tree.specs.Tree.{FileTree, ReactionTree, reactions_of}
use Rattle.lft_program.specs.{Located.{Declared, declared}, Flattening.{IsReaction, Flat}}
use Rattle.lft_program.proofs.{Counting.{base, declared_at}, Listing.{Stands, declared_from}}
use Rattle.lft_ir.specs.{Parts.Parts, Sound.{IsNumbered, IsConsecutive}, declared.parts.Reaction.Reaction}
use Rattle.lft_resolve.proofs.{Directed.AllZip-to, Files.AllZip-from}

module _ (tree : FileTree) (program : Parts) (flat : Flat tree program) where
  -- what a reaction is declared as
  pub record IsOf (a : ℕ) (x : Reaction) : Type 0 where
    pub declaration : Declared ReactionTree
    pub at : Stands reactions_of flat.instances a declaration
    pub is : IsReaction flat.instances declaration x

  pub reaction_at : (a : ℕ) (x : Reaction) → slice_get program.reactions a ≡ Some x → IsOf a x
  reaction_at a x at =
      let d = AllZip-from (IsReaction flat.instances) (declared reactions_of flat.instances) program.reactions flat.reactions a x at in
      record { declaration = d.0; at = declared_from reactions_of flat.instances a d.0 d.1; is = d.2 }

  pub is_numbered : IsNumbered program
  is_numbered a b x y at_a at_b same low =
      let d = reaction_at a x at_a in
      let e = reaction_at b y at_b in
      let one : d.declaration.instance ≡ e.declaration.instance = sym d.is.instance ∙ same ∙ e.is.instance in
      let begin : base reactions_of flat.instances d.declaration.instance ≡ base reactions_of flat.instances e.declaration.instance = ap (base reactions_of flat.instances) one in
      let m = d.at.number in
      let n = e.at.number in
      let p = d.is.place in
      let q = e.is.place in
      omega arith

  pub is_consecutive : IsConsecutive program
  is_consecutive a x at low =
      let d = (reaction_at a x at).declaration in
      let here = (reaction_at a x at).at in
      let is = (reaction_at a x at).is in
      let rs = reactions_of d.located.inside.reactor in
      let place : x.place ≡ d.place = is.place in
      let inside : d.place < length rs = slice_get_within rs d.place d.item here.place in
      let item = get_or rs (d.place - 1) d.item in
      let before : slice_get rs (d.place - 1) ≡ Some item = slice_get-get_or rs (d.place - 1) d.item (omega arith) in
      let n = base reactions_of flat.instances d.instance + (d.place - 1) in
      let there = declared_at reactions_of flat.instances d.instance (d.place - 1) d.located item here.instance before in
      let y = AllZip-to (IsReaction flat.instances) (declared reactions_of flat.instances) program.reactions flat.reactions n _ there in
      let number : a ≡ base reactions_of flat.instances d.instance + d.place = here.number in
      let next : y.0.place ≡ d.place - 1 = y.2.place in
      (n, y.0, y.1, (omega arith), (y.2.instance ∙ sym is.instance), (omega arith))
