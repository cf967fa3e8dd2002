use Rattle.std.proofs.Common.{◌≡◌, ℕ, ◌+◌, ◌∷◌, [], ◌++◌, List, length, sym, ap, ◌∙◌, subst, arith}
use Rattle.lft_ir.specs.{Parts.inputs, declared.parts.Name.Name}
use Rattle.lft_rows.proofs.Marked.{AreLaidTo, laid_more, laid_all}
use Rattle.lft_rows.proofs.marks.Marks.new.Goals as goal

pub loop-number-preserved : goal.loop-number-preserved
loop-number-preserved c =
    let program = c.args.program.now in
    let n = c.loop-number.number in
    let x = c.reaction.result.now in
    let firsts = c.loop-number.firsts.items in
    let places = c.loop-number.places.items in
    let names = c.loop-number.inputs.items in
    let own : c.in_ok-names.names.items ≡ inputs x = c.in_ok-names.ensures in
    let first : c.len.result ≡ length places = omega (arith, c.len.ensures, c.loop-number.places.ok.0) in
    let seats : c.len-in-loop-number.result ≡ length (inputs x) = omega (arith, c.len-in-loop-number.ensures, c.in_ok-names.names.ok.0, ap length own) in
    let count : length c.add_marks.new.places.items ≡ length places + length (inputs x) = c.in_ok-add_marks.ensures.count ∙ ap (λ k. length places + k) seats in
    let more = laid_more program.reactions n names firsts places c.add_marks.new.places.items x c.reaction.ensures.value c.loop-number.invariant count c.in_ok-add_marks.ensures.none in
    subst (λ (ns : List (List Name)). AreLaidTo program.reactions (n + 1) ns c.push.new.self.items c.add_marks.new.places.items) (sym (c.in_ok-push-2.ensures.items ∙ ap (λ (z : List Name). names ++ z ∷ []) (c.in_ok-new.ensures ∙ c.from_vec.ensures ∙ own))) (subst (λ (fs : List ℕ). AreLaidTo program.reactions (n + 1) (names ++ inputs x ∷ []) fs c.add_marks.new.places.items) (sym (c.in_ok-push.ensures.items ∙ ap (λ k. firsts ++ k ∷ []) first)) more)

pub returns : goal.returns
returns c = laid_all c.args.program.now c.loop-number.number (record { inputs = c.loop-number.inputs; firsts = c.loop-number.firsts; places = c.loop-number.places; guess = 0 }) (let n = c.reactions-number-end.ensures.count in let t = c.loop-number-test.false in omega arith) (let n = c.reactions-number-end.ensures.count in let t = c.loop-number.auto.number-end in omega arith) c.loop-number.invariant
