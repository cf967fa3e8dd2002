use Rattle.std.proofs.Common.{◌≡◌, ◌+◌, ◌-◌, ◌≤◌, length, arith, take, drop, sym, subst}
use Rattle.std.{proofs.{lemmas.List.length-drop, KnownBytes.Appends-kept}, specs.Io.KnownBytes.Appends}
use Rattle.lft_coverage.proofs.putting.bytes_taken.Goals.{in-Ok, in-Err+else-ne}
use Rattle.lft_load.proofs.Texts.{rest_from, took}
use Rattle.lft_coverage.proofs.putting.bytes_taken.Goals as goal

pub loop-preserved : goal.loop-preserved
loop-preserved g c =
    elim c.match-write.branch [
      | in-Ok w ↦
          let text = c.args.text.now in
          let n = c.loop.taken in
          let e : length (take (length text - n) (drop n text)) ≡ length text - n = subst (λ x. length x ≡ length text - n) (sym (rest_from text n)) (omega (arith, length-drop n text)) in
          let room : w.in-Ok.more ≤ length (take (length text - n) (drop n text)) = w.in-Ok.ensures.bound in
          let within : n ≤ length text = c.loop.invariant.0 in
          let is : c.match-write.taken ≡ n + w.in-Ok.more = w.taken-is in
          (omega arith, subst (λ k. Appends (g.W.Write.contents c.args.out.now) (g.W.Write.contents c.write.new.self) (take k text)) (sym is) (took _ _ _ text n w.in-Ok.more c.loop.invariant.1 w.in-Ok.ensures.bytes))
      | in-Err+else-ne w ↦ (subst (λ k. k ≤ length c.args.text.now) (sym w.taken-is) c.loop.invariant.0, subst (λ k. Appends (g.W.Write.contents c.args.out.now) (g.W.Write.contents c.write.new.self) (take k c.args.text.now)) (sym w.taken-is) (Appends-kept _ _ _ _ c.loop.invariant.1 w.in-Err.ensures.bytes))
    ]
