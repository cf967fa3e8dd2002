-- The way back along joins: from a port to the one from which a join leads into it, and so on.
use Rattle.std.specs.Prelude.{◌≡◌, ◌≢◌, ℕ, ◌⊎◌, List, [], ◌∷◌, Option, Some, None, slice_get}
use Rattle.lft_tag.specs.declared.Source.{Source}
use Rattle.lft_resolve.specs.declared.expansion.joins.Site.{Site}

-- beside each source there is a site
abbrev pub HaveSites : List (Option Source) → List Site → Type 0
HaveSites sources sites = (p : ℕ) (s : Source) → slice_get sources p ≡ Some (Some s) → (x : Site) × (slice_get sites p ≡ Some x)

-- back along the joins at these sites, one after another, one comes from port p to port q
abbrev pub LeadsBack : List (Option Source) → List Site → ℕ → List Site → ℕ → Type 0
LeadsBack sources sites p [] q = p ≡ q
LeadsBack sources sites p (x ∷ way) q = (s : Source) × (slice_get sources p ≡ Some (Some s)) × (slice_get sites p ≡ Some x) × LeadsBack sources sites s.port way q

-- the whole way back from port p: to a port into which no join leads, or to port p again
pub record IsWayBack (sources : List (Option Source)) (sites : List Site) (p : ℕ) (way : List Site) : Type 0 where
  pub last : ℕ
  pub leads : LeadsBack sources sites p way last
  pub ends : (slice_get sources last ≡ Some None) ⊎ ((last ≡ p) × (way ≢ []))
