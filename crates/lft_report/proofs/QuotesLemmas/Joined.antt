-- The text of a row, piece by piece.
use Rattle.std.proofs.Common.{◌≡◌, List, [], ◌∷◌, ◌++◌, ℕ, ap, ◌∙◌, refl, decimal, slice_index_or}
use Rattle.std.specs.List.{join_with_byte}
use Rattle.lft_ir.specs.{Parts.Parts, declared.steps.row.{Row.Row, Step.{Step, TheVariants.{Start, Read, Write, Schedule, Stop, End}}}}
use Rattle.lft_ir.proofs.WordsLemmas.Steps.{also}
use Rattle.lft_trace.specs.{Traces.word, Written.{event_of, step_fields, row_fields}}

-- a field before those of a step
step_joined : (program : Parts) (x : List ℕ) (s : Step) → join_with_byte 44 (x ∷ step_fields program s) ≡ x ++ (44 ∷ join_with_byte 44 (step_fields program s))
step_joined program x Start = refl
step_joined program x (Read n v) = refl
step_joined program x (Write n v) = refl
step_joined program x (Schedule n v d) = refl
step_joined program x Stop = refl
step_joined program x End = refl

pub row_joined : (program : Parts) (row : Row) → word (event_of row.step) ++ (44 ∷ (decimal row.worker ++ (44 ∷ (decimal row.tag.time ++ (44 ∷ (decimal row.tag.micro ++ (44 ∷ (slice_index_or program.names.reactions row.reaction [] ++ (44 ∷ join_with_byte 44 (step_fields program row.step)))))))))) ≡ join_with_byte 44 (row_fields program row)
row_joined program row = rw (step_joined program (slice_index_or program.names.reactions row.reaction []) row.step) refl

-- the pieces of a row behind a text
pub row_written : (program : Parts) (row : Row) (s0 s1 s2 s3 s4 s5 s6 a : List ℕ) (worker micro : ℕ) → a ≡ word (event_of row.step) → worker ≡ row.worker → micro ≡ row.tag.micro → s1 ≡ s0 ++ a → s2 ≡ s1 ++ (44 ∷ decimal worker) → s3 ≡ s2 ++ (44 ∷ decimal row.tag.time) → s4 ≡ s3 ++ (44 ∷ decimal micro) → s5 ≡ s4 ++ (44 ∷ slice_index_or program.names.reactions row.reaction []) → s6 ≡ s5 ++ (44 ∷ join_with_byte 44 (step_fields program row.step)) → s6 ≡ s0 ++ join_with_byte 44 (row_fields program row)
row_written program row s0 s1 s2 s3 s4 s5 s6 a worker micro same_a same_w same_m p q r s t u =
    let f : List ℕ = join_with_byte 44 (step_fields program row.step) in
    let e : List ℕ = slice_index_or program.names.reactions row.reaction [] in
    let d : List ℕ = decimal row.tag.micro in
    let c : List ℕ = decimal row.tag.time in
    let b : List ℕ = decimal row.worker in
    let q' : s2 ≡ s1 ++ (44 ∷ b) = q ∙ ap (λ n. s1 ++ (44 ∷ decimal n)) same_w in
    let s' : s4 ≡ s3 ++ (44 ∷ d) = s ∙ ap (λ n. s3 ++ (44 ∷ decimal n)) same_m in
    let p' : s1 ≡ s0 ++ word (event_of row.step) = p ∙ ap (λ z. s0 ++ z) same_a in
    let r5 : s6 ≡ s4 ++ (44 ∷ (e ++ (44 ∷ f))) = also s4 s5 s6 (44 ∷ e) (44 ∷ f) t u in
    let r4 : s6 ≡ s3 ++ (44 ∷ (d ++ (44 ∷ (e ++ (44 ∷ f))))) = also s3 s4 s6 (44 ∷ d) (44 ∷ (e ++ (44 ∷ f))) s' r5 in
    let r3 : s6 ≡ s2 ++ (44 ∷ (c ++ (44 ∷ (d ++ (44 ∷ (e ++ (44 ∷ f))))))) = also s2 s3 s6 (44 ∷ c) (44 ∷ (d ++ (44 ∷ (e ++ (44 ∷ f))))) r r4 in
    let r2 : s6 ≡ s1 ++ (44 ∷ (b ++ (44 ∷ (c ++ (44 ∷ (d ++ (44 ∷ (e ++ (44 ∷ f))))))))) = also s1 s2 s6 (44 ∷ b) (44 ∷ (c ++ (44 ∷ (d ++ (44 ∷ (e ++ (44 ∷ f))))))) q' r3 in
    also s0 s1 s6 (word (event_of row.step)) (44 ∷ (b ++ (44 ∷ (c ++ (44 ∷ (d ++ (44 ∷ (e ++ (44 ∷ f))))))))) p' r2
    ∙ ap (λ z. s0 ++ z) (row_joined program row)
