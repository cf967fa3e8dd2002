use Rattle.std.proofs.Common.{◌≡◌, ℕ, Some, None, arith, rules}
use Rattle.lft_elaborate.specs.inner.{Noted.{AreMade, table}, Settings.setting_at, Used.{IsNumberIn, IsIn}, Values.Valued}
use Rattle.lft_elaborate.proofs.Using.{has_inside, number_or}
use Rattle.lft_lists.proofs.Options.{found, lacking}
use Rattle.lft_elaborate.proofs.settings.Settings.push_inside.Goals as goal

pub returns-in_default-clause-has : goal.returns-in_default-clause-has
returns-in_default-clause-has c t u made at marked is =
    let e : c.in_ok-inner.field-0 ≡ None = first_of (cc, search rules) in
    absurd (lacking ((t u : Valued) → AreMade (table c.args.self.now) → setting_at c.args.self.now c.args.setting ≡ Some t → IsIn c.args.self.now.shapes.items t c.args.member u → ⊥) c.in_ok-inner.field-0 c.in_ok-inner.ensures.none e t u made at is)

pub returns-clause-has : goal.returns-clause-has
returns-clause-has c t u made at marked is =
    let s0 = c.args.self.now in
    let s1 = c.used_inside.new.self in
    let e : c.in_ok-inner.field-0 ≡ Some c.in-Some.inner = first_of (cc, search rules) in
    let n = found (λ (k : ℕ). (t : Valued) → AreMade (table s0) → setting_at s0 c.args.setting ≡ Some t → IsNumberIn s0.shapes.items s1.settings.items t c.args.member k) c.in_ok-inner.field-0 c.in-Some.inner c.in_ok-inner.ensures.some e in
    has_inside (table s0) (table s1) t u c.args.member c.in-Some.inner c.push_new.new.used.items (n t made at) is (λ low. c.in_ok-push_new.ensures.has marked (omega (arith, low)))

pub returns-clause-only : goal.returns-clause-only
returns-clause-only c t made at k h =
    let s0 = c.args.self.now in
    let s1 = c.used_inside.new.self in
    let e : c.in_ok-inner.field-0 ≡ Some c.in-Some.inner = first_of (cc, search rules) in
    let n = found (λ (k : ℕ). (t : Valued) → AreMade (table s0) → setting_at s0 c.args.setting ≡ Some t → IsNumberIn s0.shapes.items s1.settings.items t c.args.member k) c.in_ok-inner.field-0 c.in-Some.inner c.in_ok-inner.ensures.some e in
    number_or s0.shapes.items s1.settings.items t c.args.member c.in-Some.inner k c.args.used.now.items (n t made at) (c.in_ok-push_new.ensures.only k h)
