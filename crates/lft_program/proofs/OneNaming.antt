-- The things of a program have full names in one way only.
use Rattle.std.proofs.Common.{◌≡◌, ℕ, ◌+◌, ◌<◌, zero, suc, List, ◌++◌, drop, slice_get, Some, codes, sym, ap, subst, ◌∙◌, arith, length-drop}
use Rattle.std.{specs.{Fmt.decimal, List.AllZip}, proofs.lemmas.Option.slice_get_within}
use Rattle.lft_lists.proofs.{Places.{Some_same, same_items}, Zips.{same as zip_same, long as zip_long}}
use Rattle.lft_ir.{specs.Names.ThingNames, proofs.Ranges.slice_get-drop}
use Rattle.lft_program.specs.{inner.FullNames.{IsDotted, IsHashed, AreFullNames, AreNested}, declared.naming.{OwnName.OwnName, PlacedReaction.PlacedReaction}}
use Rattle.lft_resolve.proofs.Files.{AllZip-from}

-- a name as it is made from a container's
dotted_by : (c e x : List ℕ) (d : OwnName) → c ≡ e → x ≡ c ++ codes "." ++ d.name.now → x ≡ e ++ codes "." ++ d.name.now
dotted_by c e x d same is = is ∙ ap (λ l. l ++ codes "." ++ d.name.now) same

module _ (instances : List OwnName) (nested : AreNested instances) (ns ms : List (List ℕ))
    (main_n : slice_get ns 0 ≡ Some (codes "main")) (main_m : slice_get ms 0 ≡ Some (codes "main"))
    (all_n : AllZip (IsDotted ns) (drop 1 instances) (drop 1 ns)) (all_m : AllZip (IsDotted ms) (drop 1 instances) (drop 1 ms)) where
  same_below : (n k : ℕ) (x y : List ℕ) → k < n → slice_get ns k ≡ Some x → slice_get ms k ≡ Some y → x ≡ y
  same_below zero k x y low a b = absurd (omega arith)
  same_below (suc n) zero x y low a b = Some_same x y (sym a ∙ main_n ∙ sym main_m ∙ b)
  same_below (suc n) (suc k) x y low a b =
      let place : 1 + k ≡ suc k = omega arith in
      let from = AllZip-from (IsDotted ns) (drop 1 instances) (drop 1 ns) all_n k x (slice_get-drop ns 1 k ∙ ap (slice_get ns) place ∙ a) in
      let other = AllZip-from (IsDotted ms) (drop 1 instances) (drop 1 ms) all_m k y (slice_get-drop ms 1 k ∙ ap (slice_get ms) place ∙ b) in
      let d : OwnName = from.0 in
      let c = from.2.0 in
      let e = other.2.0 in
      let one : other.0 ≡ d = Some_same other.0 d (sym other.1 ∙ from.1) in
      let at : slice_get instances (1 + k) ≡ Some d = sym (slice_get-drop instances 1 k) ∙ from.1 in
      let before = nested.order (1 + k) d at (omega arith) in
      let there : slice_get ms d.instance ≡ Some e = subst (λ (z : OwnName). slice_get ms z.instance ≡ Some e) one other.2.1 in
      let named : y ≡ e ++ codes "." ++ d.name.now = subst (λ (z : OwnName). y ≡ e ++ codes "." ++ z.name.now) one other.2.2 in
      let containers : c ≡ e = same_below n d.instance c e (omega arith) from.2.1 there in
      dotted_by c e x d containers from.2.2 ∙ sym named

  same_instances : ns ≡ ms
  same_instances =
      let a = zip_long (IsDotted ns) (drop 1 instances) (drop 1 ns) all_n in
      let b = zip_long (IsDotted ms) (drop 1 instances) (drop 1 ms) all_m in
      let c = length-drop 1 ns in
      let d = length-drop 1 ms in
      let e = slice_get_within ns 0 (codes "main") main_n in
      let f = slice_get_within ms 0 (codes "main") main_m in
      same_items ns ms (omega arith) (λ k x y at_x at_y. same_below (suc k) k x y (omega arith) at_x at_y)

one_dotted : (ns : List (List ℕ)) (d : OwnName) (y z : List ℕ) → IsDotted ns d y → IsDotted ns d z → y ≡ z
one_dotted ns d y z a b =
    let same = Some_same a.0 b.0 (sym a.1 ∙ b.1) in
    dotted_by a.0 b.0 y d same a.2 ∙ sym b.2

one_hashed : (ns : List (List ℕ)) (r : PlacedReaction) (y z : List ℕ) → IsHashed ns r y → IsHashed ns r z → y ≡ z
one_hashed ns r y z a b =
    let same = Some_same a.0 b.0 (sym a.1 ∙ b.1) in
    a.2 ∙ ap (λ l. l ++ codes "#" ++ decimal (r.place + 1)) same ∙ sym b.2

pub one_naming : (instances ports actions timers : List OwnName) (reactions : List PlacedReaction) → AreNested instances → (names other : ThingNames)
    → AreFullNames instances ports actions timers reactions names → AreFullNames instances ports actions timers reactions other → other ≡ names
one_naming instances ports actions timers reactions nested names other a b =
    let i : other.instances ≡ names.instances = same_instances instances nested other.instances names.instances b.main_name a.main_name b.instance_names a.instance_names in
    let p : other.ports ≡ names.ports = zip_same (IsDotted names.instances) (one_dotted names.instances) ports other.ports names.ports (subst (λ l. AllZip (IsDotted l) ports other.ports) i b.port_names) a.port_names in
    let c : other.actions ≡ names.actions = zip_same (IsDotted names.instances) (one_dotted names.instances) actions other.actions names.actions (subst (λ l. AllZip (IsDotted l) actions other.actions) i b.action_names) a.action_names in
    let t : other.timers ≡ names.timers = zip_same (IsDotted names.instances) (one_dotted names.instances) timers other.timers names.timers (subst (λ l. AllZip (IsDotted l) timers other.timers) i b.timer_names) a.timer_names in
    let r : other.reactions ≡ names.reactions = zip_same (IsHashed names.instances) (one_hashed names.instances) reactions other.reactions names.reactions (subst (λ l. AllZip (IsHashed l) reactions other.reactions) i b.reaction_names) a.reaction_names in
    λ j. record { instances = i j; ports = p j; actions = c j; timers = t j; reactions = r j }
