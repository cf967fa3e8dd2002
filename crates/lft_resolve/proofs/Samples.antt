-- Facts about a small tree: parameters given at `new`, what names are and stand for, and a cause.
use Rattle.std.proofs.Common.{◌≡◌, ℕ, zero, suc, length, inl, ap, sym, ◌∙◌, arith, List, [], ◌∷◌, refl, true, false, Some, None, map, option_map, codes}
use Rattle.lft_tree.specs.Tree.{FileTree, ReactorTree, RefTree, Written, Named, PortMember, TimerMember, ReactionMember, InstanceMember, ConnectionMember, OnRef, ReactorItem, reactors_of}
use Rattle.lft_tree.specs.declared.tree.{Time.Time, TimeUnit.TheVariants.Millisecond}
use Rattle.lft_resolve.specs.{Expansion.Paths.along, Instances.{main_instance, main_of, entered, stands_for, thing_at, time_in}}
use Rattle.lft_resolve.specs.Kinds.{kind_of, may_stand, own_kind, refs_in, times_in, names_in}
use Rattle.lft_resolve.specs.declared.kinds.Kind.TheVariants.{OwnParameter, OwnTimer, InnerOutput, OwnOutput, OwnInstance}
use Rattle.lft_resolve.specs.declared.kinds.Role.TheVariants.{Read, Source, Destination}
use Rattle.lft_resolve.specs.Causes.{mains, TwoMains, WritesTwice, DiffersInWidth, LacksReactor, GivesUnknown}

abbrev own : List ℕ → RefTree
own x = record { head = x; port = None }

abbrev inner : List ℕ → List ℕ → RefTree
inner x y = record { head = x; port = Some y }

abbrev milliseconds : ℕ → Time
milliseconds n = record { count = n; unit = Some Millisecond }

-- reactor A(p: time = 10 ms) { output out  timer t(0, p)  reaction(t) -> out }
abbrev a : ReactorTree
a = record {
  is_main = false;
  name = Some (codes "A");
  parameters = record { name = codes "p"; default = milliseconds 10 } ∷ [];
  members =
      PortMember (record { name = codes "out"; is_input = false })
      ∷ TimerMember (record { name = codes "t"; offset = Some (Written (record { count = 0; unit = None })); period = Some (Named (codes "p")) })
      ∷ ReactionMember (record { triggers = OnRef (own (codes "t")) ∷ []; uses = []; effects = own (codes "out") ∷ [] }) ∷ [];
}

-- reactor B { input x  reaction(x) }
abbrev b : ReactorTree
b = record {
  is_main = false;
  name = Some (codes "B");
  parameters = [];
  members =
      PortMember (record { name = codes "x"; is_input = true })
      ∷ ReactionMember (record { triggers = OnRef (own (codes "x")) ∷ []; uses = []; effects = [] }) ∷ [];
}

-- main reactor(q: time = 3 ms) { a = new A(p = q)  b = new B()  a.out -> b.x after q }
abbrev top : ReactorTree
top = record {
  is_main = true;
  name = None;
  parameters = record { name = codes "q"; default = milliseconds 3 } ∷ [];
  members =
      InstanceMember (record { name = codes "a"; reactor = codes "A"; given = record { name = codes "p"; value = Named (codes "q") } ∷ [] })
      ∷ InstanceMember (record { name = codes "b"; reactor = codes "B"; given = [] })
      ∷ ConnectionMember (record { sources = inner (codes "a") (codes "out") ∷ []; destinations = inner (codes "b") (codes "x") ∷ []; delay = Some (Named (codes "q")) }) ∷ [];
}

abbrev tree : FileTree
tree = record { target = None; items = ReactorItem a ∷ ReactorItem b ∷ ReactorItem top ∷ [] }

abbrev all : List ReactorTree
all = reactors_of tree

main : (main_of tree ≡ Some top) × (mains all ≡ top ∷ [])
main = (refl, refl)

given : option_map (λ x. x.values) (along (entered tree) (main_instance top) (0 ∷ [])) ≡ Some (3000000 ∷ [])
given = refl

period : option_map (λ x. time_in x (Named (codes "p"))) (along (entered tree) (main_instance top) (0 ∷ [])) ≡ Some 3000000
period = refl

nothing_there : along (entered tree) (main_instance top) (2 ∷ []) ≡ None
nothing_there = refl

inner_port : stands_for top [] (inner (codes "b") (codes "x")) ≡ Some (thing_at (1 ∷ []) (codes "x"))
inner_port = refl

kinds : (kind_of all top (inner (codes "a") (codes "out")) ≡ Some InnerOutput) × (kind_of all top (own (codes "q")) ≡ Some OwnParameter) × (kind_of all top (own (codes "z")) ≡ None) × (kind_of all top (inner (codes "q") (codes "x")) ≡ None) × (kind_of all top (inner (codes "a") (codes "t")) ≡ None)
kinds = (refl, refl, refl, refl, refl)

own_kinds : (own_kind a (codes "t") ≡ Some OwnTimer) × (own_kind a (codes "out") ≡ Some OwnOutput) × (own_kind top (codes "b") ≡ Some OwnInstance)
own_kinds = (refl, refl, refl)

places : (may_stand Read OwnTimer ≡ true) × (may_stand Source InnerOutput ≡ true) × (may_stand Destination InnerOutput ≡ false) × (may_stand Read OwnParameter ≡ false)
places = (refl, refl, refl, refl)

refs : refs_in top ≡ (Source, inner (codes "a") (codes "out")) ∷ (Destination, inner (codes "b") (codes "x")) ∷ []
refs = refl

times : times_in top ≡ Named (codes "q") ∷ Named (codes "q") ∷ []
times = refl

names : names_in a ≡ codes "p" ∷ codes "out" ∷ codes "t" ∷ []
names = refl

-- x, written by two connections in one reactor
abbrev twice : ReactorTree
twice = record top {
  members =
      InstanceMember (record { name = codes "b"; reactor = codes "B"; given = [] })
      ∷ ConnectionMember (record { sources = []; destinations = inner (codes "b") (codes "x") ∷ inner (codes "b") (codes "y") ∷ []; delay = None })
      ∷ ConnectionMember (record { sources = []; destinations = inner (codes "b") (codes "x") ∷ []; delay = None }) ∷ [];
}

written_twice : WritesTwice twice
written_twice = inl (0, 2, inner (codes "b") (codes "x"), omega arith, refl, refl)

uneven : DiffersInWidth twice
uneven = (0, record { sources = []; destinations = inner (codes "b") (codes "x") ∷ inner (codes "b") (codes "y") ∷ []; delay = None }, omega arith, refl, λ e. cc)

even : DiffersInWidth top → ⊥
even (zero, c, within, is, differs) = differs (ap (λ x. length x.sources) (sym is) ∙ ap (λ x. length x.destinations) is)
even (suc k, c, within, is, differs) = absurd (omega arith)

second_main : TwoMains (top ∷ a ∷ twice ∷ [])
unfolding TwoMains
second_main = omega arith

lacking : LacksReactor (a ∷ []) top
lacking = (1, record { name = codes "b"; reactor = codes "B"; given = [] }, omega arith, refl, refl)

gives_unknown : GivesUnknown all (record { name = codes "a"; reactor = codes "A"; given = record { name = codes "z"; value = Named (codes "q") } ∷ [] })
gives_unknown = (a, refl, (0, record { name = codes "z"; value = Named (codes "q") }, omega arith, refl, refl))
