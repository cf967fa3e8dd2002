-- Origins of ports.
use Rattle.std.proofs.Common.{◌≡◌, ℕ, ◌<◌, List, ◌++◌, length, refl, sym, ap, ◌∙◌, subst, Some, None, slice_get, option_to_list}
use Rattle.std.proofs.lemmas.Option.{slice_get_within}
use Rattle.lft_ir.specs.{Parts.Parts, Origins.{Origin, Origin.{itself, over}}, declared.parts.Port.Port as PortOf}
use Rattle.lft_tag.specs.declared.Source.{Source}

-- a port has one origin and one list of delays
pub origin_unique : {program : Parts} {p o q : ℕ} {ds es : List ℕ} → Origin program p o ds → Origin program p q es → (o ≡ q) × (ds ≡ es)
origin_unique (itself x e n) (itself y f m) = (refl, refl)
origin_unique (itself x e n) (over y s first f m way l) = let a : Some x ≡ Some y = sym e ∙ f in let b : x ≡ y = cc in let c : None ≡ Some s = sym n ∙ ap (λ z. z.source) b ∙ m in absurd (cc)
origin_unique (over y s first f m way l) (itself x e n) = let a : Some x ≡ Some y = sym e ∙ f in let b : x ≡ y = cc in let c : None ≡ Some s = sym n ∙ ap (λ z. z.source) b ∙ m in absurd (cc)
origin_unique {program} (over x s first e n way l) (over y u second f m road k) =
    let a : Some x ≡ Some y = sym e ∙ f in
    let b : x ≡ y = cc in
    let c : Some s ≡ Some u = sym n ∙ ap (λ z. z.source) b ∙ m in
    let d : s ≡ u = cc in
    let rest = origin_unique way (same d road) in
    (rest.0, l ∙ ap (λ z. z ++ option_to_list s.delay) rest.1 ∙ ap (λ (z : Source). second ++ option_to_list z.delay) d ∙ sym k)
  where
    same : {s u : Source} {q : ℕ} {es : List ℕ} → s ≡ u → Origin program u.port q es → Origin program s.port q es
    same {s} {u} {q} {es} d road = subst (λ (z : Source). Origin program z.port q es) (sym d) road

-- an origin is a port
pub origin_inside : {program : Parts} {p o : ℕ} {ds : List ℕ} → Origin program p o ds → o < length program.ports
origin_inside {program} {p} (itself x e n) = slice_get_within program.ports p x e
origin_inside (over x s first e n way l) = origin_inside way

-- so is what has one
pub origin_within : {program : Parts} {p o : ℕ} {ds : List ℕ} → Origin program p o ds → p < length program.ports
origin_within {program} {p} (itself x e n) = slice_get_within program.ports p x e
origin_within {program} {p} (over x s first e n way l) = slice_get_within program.ports p x e

-- and is one of the program's
pub port_of : {program : Parts} {p o : ℕ} {ds : List ℕ} → Origin program p o ds → (port : PortOf) × (slice_get program.ports p ≡ Some port)
port_of (itself port e n) = (port, e)
port_of (over port source first e s way d) = (port, e)
