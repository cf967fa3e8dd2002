-- Which triggers name a port or an action.
use Rattle.std.proofs.Common.{◌≡◌, refl, ap, Some, None, ◌⊎◌, inl, inr, ℕ, true, eqb-true, eq-eqb, slice_get, filter_map, subst}
use Rattle.lft_ir.specs.Naming.{named, same_name}
use Rattle.lft_ir.specs.declared.parts.{Name.{Name, TheVariants.{Port, Action}}, Trigger.{Trigger, TheVariants.{Startup, Shutdown, Timer, On}}}
use Rattle.lft_ir.specs.declared.parts.Reaction.{Reaction}
use Rattle.lft_ir.specs.{Parts.{Parts, inputs}, Sound.{IsSound, IsNameOf, IsTriggerOf}}
use Rattle.lft_lists.proofs.Members.{Mem, mem_cases, mem_from_filter, mem_contains}

-- a trigger that is no port and no action names none
pub named_none : (x : Trigger) → ((n : Name) → ¬ (x ≡ On n)) → named x ≡ None
named_none Startup other = refl
named_none Shutdown other = refl
named_none (Timer k) other = refl
named_none (On n) other = absurd (other n refl)

-- one that names something is that port or action
pub named_on : (x : Trigger) (n : Name) → named x ≡ Some n → x ≡ On n
named_on Startup n e = absurd (cc)
named_on Shutdown n e = absurd (cc)
named_on (Timer k) n e = absurd (cc)
named_on (On m) n e = let q : m ≡ n = cc in ap On q

-- an input of a reaction is a port or action of the program
pub input_known : (program : Parts) → IsSound program → (r : ℕ) (x : Reaction) → slice_get program.reactions r ≡ Some x → (n : Name) → Mem n (inputs x) → IsNameOf program n
input_known program sound r x e n m = go (mem_cases n (filter_map named x.triggers) x.uses m)
  where
    go : Mem n (filter_map named x.triggers) ⊎ Mem n x.uses → IsNameOf program n
    go (inl q) =
        let p = mem_from_filter named x.triggers n q in
        subst (λ (y : Trigger). IsTriggerOf program y) (named_on p.0 n p.2) ((sound.exist r x e).triggers p.0 (mem_contains p.0 x.triggers p.1))
    go (inr q) = (sound.exist r x e).uses n (mem_contains n x.uses q)

pub name_same : (m n : Name) → same_name m n ≡ true → m ≡ n
name_same (Port p) (Port q) e = ap Port (eqb-true p q e)
name_same (Port p) (Action b) e = absurd (cc)
name_same (Action a) (Port q) e = absurd (cc)
name_same (Action a) (Action b) e = ap Action (eqb-true a b e)

pub name_self : (n : Name) → same_name n n ≡ true
name_self (Port p) = eq-eqb p p refl
name_self (Action a) = eq-eqb a a refl
