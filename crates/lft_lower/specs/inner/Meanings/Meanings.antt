-- Inside: what references mean in a setting.
use Rattle.std.specs.Prelude.{◌≡◌, ℕ, Bool, true, is_some, List, Option, None, flat_map, option_map, slice_get, string_bytes, unwrap_or, [], ◌||◌}
use Rattle.std.specs.Option.{option_and_then}
use Rattle.lft_tree.specs.Tree.{RefTree}
use Rattle.lft_whole.specs.{declared.tree.Reference.Reference, inner.Sources.Tokens.number_at}
use Rattle.lft_classes.specs.declared.shapes.{Shape.Shape, OwnThing.OwnThing}
use Rattle.lft_elaborate.specs.inner.{Meanings.{meaning_of, shape_inside}, Names.name_in, Noted.found_inside, Widths.found_width}
use Rattle.lft_elaborate.specs.declared.{meanings.Meaning.Meaning, settings.Settings.Settings}
use Rattle.lft_lower.specs.{inner.Meanings.Places.{Several, inner_places, own_places}, declared.meanings.places.Within.Within}
use Rattle.lft_elaborate.specs.declared.meanings.Meaning.TheVariants as meaning
use Rattle.lft_classes.specs.declared.shapes.OwnThing.TheVariants as things

-- a setting of a program, by its number, and its shape
pub record Here : Type 0 where
  pub settings : Settings
  pub setting : ℕ
  pub shape : Shape

-- the name of the member of this number of a shape
abbrev pub member_name : Shape → ℕ → List ℕ
member_name shape n = unwrap_or (option_map (λ m. name_in m.member.now) (slice_get shape.members.items n)) []

-- the member of this number of a shape, with its width
abbrev pub member_with_width : Shape → ℕ → Option ℕ → Several
member_with_width shape n width = record { name = member_name shape n; width = width }

-- the parameter of this number of a shape
abbrev pub parameter_alone : Shape → ℕ → Several
parameter_alone shape n = record { name = unwrap_or (option_map (λ p. string_bytes p.parameter.now.name.text) (slice_get shape.parameters.items n)) []; width = None }

-- a thing of the reactor of a setting, with its width there
abbrev pub thing_in : Here → OwnThing → Several
thing_in h (things.Parameter n) = parameter_alone h.shape n
thing_in h (things.Member n) = member_with_width h.shape n (found_width h.settings h.setting n)

-- the member of this number by its name, with its width there
abbrev pub named_in : Here → List ℕ → ℕ → Several
named_in h name n = record { name = name; width = found_width h.settings h.setting n }

-- the width of a port of an instance, in the setting of that one
abbrev pub inner_width : Here → ℕ → ℕ → Option ℕ
inner_width h instance port = option_and_then (λ inner. found_width h.settings inner port) (found_inside h.settings h.setting instance)

-- a port of an instance, by their numbers, with its width there
abbrev pub port_of : Here → ℕ → ℕ → Several
port_of h instance port = record { name = unwrap_or (option_map (λ inner. member_name inner port) (shape_inside h.settings.shapes.items h.shape instance)) []; width = inner_width h instance port }

-- the places of what is meant, in order
abbrev pub places_of : Here → Bool → Meaning → List RefTree
places_of h interleaved (meaning.Own thing) = own_places (thing_in h thing)
places_of h interleaved (meaning.Port instance port) = inner_places (thing_in h (things.Member instance)) (port_of h instance port) interleaved

-- what a reference means
abbrev pub meaning_of_reference : Here → Reference → Option Meaning
meaning_of_reference h r = meaning_of h.settings.shapes.items h.shape r

-- a reference means something
abbrev pub Means : Here → Reference → Type 0
Means h r = is_some (meaning_of_reference h r) ≡ true

-- the places of a reference, in order
abbrev pub places_in : Here → Reference → List RefTree
places_in h r = unwrap_or (option_map (places_of h r.is_interleaved) (meaning_of_reference h r)) []

-- the places of references, one after another
abbrev pub all_places : Here → List Reference → List RefTree
all_places h rs = flat_map (places_in h) rs

-- whether a width is written in what is meant
abbrev pub is_wide : Here → Meaning → Bool
is_wide h (meaning.Own thing) = is_some (thing_in h thing).width
is_wide h (meaning.Port instance port) = is_some (thing_in h (things.Member instance)).width || is_some (port_of h instance port).width

-- ---- what the crate has of it
-- such a setting, of where references are looked up
abbrev pub here : Within → Here
here w = record { settings = w.settings.now; setting = w.setting; shape = w.shape.now }

-- the number of a token of the file there among those of all files
abbrev pub token_in : Within → ℕ → ℕ
token_in w token = number_at w.files.now (record { file = w.file; token = token })
