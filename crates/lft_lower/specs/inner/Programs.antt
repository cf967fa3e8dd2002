-- What a program says of itself.
use Rattle.std.specs.Prelude.{◌≡◌, ℕ, true, IfSome, List, [], ◌∷◌, Option, None}
use Rattle.lft_whole.specs.declared.sources.source.SourceFile.{SourceFile}
use Rattle.lft_elaborate.specs.{declared.settings.Settings.Settings, inner.Settings.shape_at}

-- where the first file says that the coordination is decentralized
abbrev pub decentralized_in : List SourceFile → Option ℕ
decentralized_in [] = None
decentralized_in (file ∷ rest) = file.tree.decentralized

-- where the main reactor is federated, the first file doesn't say that the coordination is decentralized
abbrev pub IsCentralized : List SourceFile → Settings → Type 0
IsCentralized files s = IfSome (shape_at s 0) (λ main. main.class.reactor.now.is_federated ≡ true → decentralized_in files ≡ None)
