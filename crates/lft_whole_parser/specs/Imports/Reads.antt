-- What is read of a text: its tree, or why it has none.
use Rattle.std.specs.Prelude.{◌≡◌, ℕ, List, IfErr, IsSomeAnd, Result, Ok, Err, slice_get}
use Rattle.lft_whole.specs.{Pieces.tokens_of, Places.IsAmong}
use Rattle.lft_whole.specs.declared.{fault.{TextFault.TheVariants.BadText, TreeFault.TreeFault}, tree.File.File, sources.{source.Spot.Spot, why.Why.Why}}
use Rattle.lft_whole.specs.Parts.{Tree.FileTree, View.file_view}
use Rattle.lft_syntax.specs.declared.token.Token.{Token}
use Rattle.lft_whole_parser.specs.{Files.reads, Imports.Places.{AreSpots, IsSpotOfByte}}
use Rattle.lft_whole.specs.declared.fault.TreeFault.TheVariants as faults
use Rattle.lft_whole.specs.declared.sources.why.Why.TheVariants as why

-- The text is cut into tokens, which have these spots, and the grammar reads this from them: a tree, or a fault at one of them or at their end.
pub record ReadsAs (t : List ℕ) (spots : List Spot) (read : Result FileTree TreeFault) : Type 0 where
  pub tokens : List Token
  pub cut : tokens_of t ≡ Ok tokens
  pub are_spots : AreSpots t tokens spots
  pub is_read : reads t tokens ≡ read
  pub among : IfErr read (IsAmong tokens)

-- The text reads as this tree, and its tokens have these spots.
abbrev pub HasTree : List ℕ → List Spot → File → Type 0
HasTree t spots tree = ReadsAs t spots (Ok (file_view tree))

-- A byte of the text begins no token, and stands at this spot.
abbrev pub IsNotCut : List ℕ → Spot → Type 0
IsNotCut t spot = (at : ℕ) × (tokens_of t ≡ Err (BadText at)) × IsSpotOfByte t at spot

-- The text has no tree: a byte begins no token, a token can't stand where it does, or it is the `<` of a package.
abbrev pub HasNoFileTree : List ℕ → List Spot → ℕ → Why → Type 0
HasNoFileTree t spots token why.NotText = IsSomeAnd (slice_get spots token) (IsNotCut t)
HasNoFileTree t spots token why.Unexpected = ReadsAs t spots (Err (faults.Unexpected token))
HasNoFileTree t spots token why.Package = ReadsAs t spots (Err (faults.Package token))
HasNoFileTree t spots token _ = ⊥
