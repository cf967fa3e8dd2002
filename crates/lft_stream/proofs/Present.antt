-- What was written last at the tag at hand, and what a run read there.
use Rattle.std.proofs.Common.{◌≡◌, ℕ, inl, inr, List, [], ◌∷◌, refl, sym, ap, subst, map, Option, Some, None, true, slice_get, Contains, unwrap_or, option_map, filter_map}
use Rattle.std.specs.{List.AllZip, Option.is_some}
use Rattle.lft_tag.specs.declared.Tag.{Tag}
use Rattle.lft_lists.proofs.Members.{Mem, get_mem, mem_contains, mem_from_filter}
use Rattle.lft_ir.specs.{Naming.named, Parts.inputs}
use Rattle.lft_ir.specs.declared.parts.{Value.Value, Name.Name, Reaction.Reaction, Trigger.{Trigger, TheVariants.{Startup, Shutdown, Timer, On}}}
use Rattle.lft_ir.specs.declared.steps.row.Row.{Row}
use Rattle.lft_model.specs.{Plans.PlanParts, Presence.{Shows, Inputs, Triggered}, Runs.{steps_of, inputs_of, read_of, reads_at}}

-- a trigger that names something is that name's
names_it : (n : Name) (x : Trigger) → named x ≡ Some n → x ≡ On n
names_it n Startup e = absurd (cc)
names_it n Shutdown e = absurd (cc)
names_it n (Timer t) e = absurd (cc)
names_it n (On m) e = let q : m ≡ n = cc in ap On q

module _ (plan : PlanParts) (t : List Row) (g : Tag) (r : ℕ) (x : Reaction) (is_reaction : slice_get plan.program.reactions r ≡ Some x) where
  -- a reaction is triggered where one of the names among its triggers shows a value
  pub woken : (n : Name) → Mem n (filter_map named x.triggers) → (shown : Option Value) → true ≡ is_some shown → Shows plan t g n shown → Triggered plan t g r
  woken n m None e shown = absurd (cc)
  woken n m (Some v) e shown =
      let y = mem_from_filter named x.triggers n m in
      let q : y.0 ≡ On n = names_it n y.0 y.2 in
      record { reaction = x; trigger = On n; is_reaction = is_reaction; is_trigger = subst (λ (z : Trigger). Contains x.triggers z) q (mem_contains y.0 x.triggers y.1); occurs = (v, shown) }

  each_shown : (f : Name → Option Value) (ns : List Name) → ((n : Name) → Mem n ns → Shows plan t g n (f n)) → AllZip (Shows plan t g) ns (map f ns)
  each_shown f [] h = tt
  each_shown f (n ∷ ns) h = (h n (inl refl), each_shown f ns (λ m k. h m (inr k)))

  -- its inputs are read as they are, where each one is
  pub read_all : (u : List Row) → ((k : ℕ) (n : Name) → slice_get (inputs x) k ≡ Some n → Shows plan t g n (read_of (steps_of u g r) n)) → Inputs plan t g r (reads_at plan u g r)
  read_all u each = record {
    reaction = x;
    is_reaction = is_reaction;
    each = subst (λ (ns : List Name). AllZip (Shows plan t g) (inputs x) (map (read_of (steps_of u g r)) ns)) (sym own) (each_shown (read_of (steps_of u g r)) (inputs x) (λ n m. let i = get_mem n (inputs x) m in each i.0 n i.1));
  }
    where
      own : inputs_of plan.program r ≡ inputs x
      own = ap (λ (o : Option Reaction). unwrap_or (option_map inputs o) []) is_reaction
