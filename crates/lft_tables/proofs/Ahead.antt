-- Records that were read before they are asked for.
use Rattle.std.proofs.Common.{◌≡◌, ◌∙◌, ◌+◌, ◌<◌, ◌∷◌, ◌++◌, ℕ, suc, [], List, Option, length, map, take, get_or, sym, ap, arith}
use Rattle.std.proofs.lemmas.List.{append_assoc, drop_more, get_or-take, length-take-le, map-append}
use Rattle.csv.specs.{Records.fields_of, declared.record.ByteRecord.ByteRecord}
use Rattle.lft_tables.specs.{inner.Records.{IsPlain, records_left, unread_unless}, declared.records.Records.Records}

-- the next of them is the first that is left
pub next-left : {R : Type 0} (remaining : R → Option (List ℕ)) (r : Records R) → IsPlain remaining r → r.next < r.end
    → records_left remaining r ≡ fields_of (get_or (r.none ∷ r.ahead.items) (r.next + 1) r.none) ∷ records_left remaining (record r { next = r.next + 1 })
next-left remaining r p lt =
    let xs = take r.end r.ahead.items in
    let long : length xs ≡ r.end = length-take-le r.end r.ahead.items p.0 in
    let on : r.next + 1 ≡ suc r.next = omega arith in
    let here : get_or (r.none ∷ r.ahead.items) (r.next + 1) r.none ≡ get_or xs r.next r.none = ap (λ n. get_or (r.none ∷ r.ahead.items) n r.none) on ∙ sym (get_or-take r.end r.ahead.items r.next r.none lt) in
    ap (λ t. map fields_of t ++ unread_unless r.is_last remaining r.reader) (drop_more xs r.next r.none (omega (arith, long, lt)))
    ∙ ap (λ x. fields_of x ∷ records_left remaining (record r { next = r.next + 1 })) (sym here)

-- a record more behind those that were read
pub put-behind : (front : List ByteRecord) (row : ByteRecord) (more : List ByteRecord) (rest : List (List (List ℕ))) → more ≡ front ++ row ∷ []
    → map fields_of more ++ rest ≡ map fields_of front ++ fields_of row ∷ rest
put-behind front row more rest e =
    ap (λ t. map fields_of t ++ rest) e ∙ ap (λ t. t ++ rest) (map-append fields_of front (row ∷ [])) ∙ append_assoc (map fields_of front) (fields_of row ∷ []) rest
