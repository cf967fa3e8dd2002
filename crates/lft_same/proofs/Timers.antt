-- What a core reaction uses stands for what the reaction uses; a timer is no input in both.
use Rattle.std.proofs.Common.{◌≡◌, ℕ, suc, ◌+◌, arith, length, length-append, inl, ⊎_elim, Bool, true, false, List, [], ◌∷◌, ◌++◌, map, filter_map, Option, Some, None, option_map, slice_get, refl, sym, ap, subst, ◌∙◌, append-nil}
use Rattle.std.specs.Prelude.{bytes_eq, decimal, find, if◌then◌else◌, is_some, not, string_bytes}
use Rattle.std.{specs.Option.{option_and_then, option_map_or}, proofs.lemmas.{List.{get_or_at, Elements.filter_map-append}, Slice.Eq.bytes_eq-Decides}}
use Rattle.lft_lists.{proofs.{Mapped.{mapped, option_map_some}, Members.{Mem, mem_cases, mem_filter, mem_from_map}, Places.Some_same}, specs.Bytes.is_word}
use Rattle.lft_tree.specs.{Identifiers.IsIdentifier, Tree.{MemberTree, RefTree, TimerTree, PortMember, TimerMember, timer_in, timers_of}, declared.ast.Ast.Ast}
use Rattle.lft_resolve.specs.{Instances.Inside as CoreInside, Sheets.{is_timer as is_core_timer, without_timers}}
use Rattle.lft_whole.specs.declared.{sources.source.SourceFile.SourceFile, tree.{Member.Member, Name.Name, Reference.Reference, Timer.Timer}}
use Rattle.lft_elaborate.specs.inner.{Channels.Lowered.{inner, own}, Meanings.meaning_named}
use Rattle.lft_classes.specs.{declared.shapes.{Inherited.Inherited, OwnThing.OwnThing as ShapeThing}, Shapes.{name_of, width_of}, inner.Shapes.thing_named}
use Rattle.lft_lower.specs.inner.{Meanings.{Meanings.{Means, named_in, places_in}, Places.names_of}, Lowered.{IsLowered, time_at, timer_tree}}
use Rattle.lft_lower.specs.inner.Reactors.{IsLowering}
use Rattle.lft_same.specs.inner.Expanded.Core.{things_for}
use Rattle.lft_same.specs.Expanded.{Instances.{Inside, Widths, numbers, numbers_named, name_with_number}, Reactors.members_of}
use Rattle.lft_same.specs.Expanded.Whole.{channels, crossed, is_timer_member, names_timer, uses_in}
use Rattle.lft_same.proofs.{FitsLemmas.{Giving.{find_none, find_some}, MemberNames.{member_found, member_lost}}, Instances.{AreWidthsFound, StandsFor}}
use Rattle.lft_same.proofs.{Inners.names_alike, Kept.all_pass, Listed.none_mapped}
use Rattle.lft_same.proofs.{Lowered.{Appends, Becomes, all_become, made_at, of_connection, of_instance, of_reaction}, Members.{here, never_of, of_class}}
use Rattle.lft_same.proofs.{References.{inner_numbers, numbers_there, places_channels, places_refs, refs_named, meaning_is}, Settings.its_setting}
use Rattle.lft_elaborate.specs.declared.meanings.Meaning.TheVariants as meaning
use Rattle.lft_whole.specs.declared.tree.Member.TheVariants as member
use Rattle.lft_classes.specs.declared.shapes.OwnThing.TheVariants as thing

-- a name with a number is no identifier
bracketed : (q rest : List ℕ) → IsIdentifier (q ++ 91 ∷ rest) → ⊥
bracketed [] rest is = absurd (let e : false ≡ true = is.0 in cc)
bracketed (c ∷ cs) rest is =
    let long : length (cs ++ 91 ∷ rest) ≡ length cs + suc (length rest) = length-append cs (91 ∷ rest) in
    let e : false ≡ true = ap is_word (sym (get_or_at cs 91 rest 0 (length cs) refl)) ∙ is.1 (length cs) 0 (omega (arith, long)) in absurd (cc)

-- a member that isn't a timer
untimed : (y : Member) (t : Timer) → is_timer_member y ≡ false → y ≡ member.Timer t → ⊥
untimed y t other is = let e : false ≡ true = sym other ∙ ap is_timer_member is in cc

timer_is : (y : Member) → is_timer_member y ≡ true → (t : Timer) × (y ≡ member.Timer t)
timer_is (member.Timer t) e = (t, refl)
timer_is (member.Port p) e = absurd (cc)
timer_is (member.Action a) e = absurd (cc)
timer_is (member.Reaction r) e = absurd (cc)
timer_is (member.Instance i) e = absurd (cc)
timer_is (member.Connection c) e = absurd (cc)
timer_is (member.Foreign what at) e = absurd (cc)

module _ (files : List SourceFile) (tree : Ast) (low : IsLowering files tree) (x : Inside) (core : CoreInside) (s : StandsFor files tree low x core) where
  -- a timer of the reactor has the name
  pub record IsTimerNamed (q : List ℕ) : Type 0 where
    pub number : ℕ
    pub item : Inherited
    pub at : slice_get s.shape.members.items number ≡ Some item
    pub timer : Timer
    pub is : item.member.now ≡ member.Timer timer
    pub name : string_bytes timer.name.text ≡ q

  -- timers of the core reactor are timers of the reactor
  abbrev AreTimers : List MemberTree → List (ℕ × (ℕ × Member)) → Type 0
  AreTimers some members = (t : TimerTree) → Mem t (filter_map timer_in some) → IsTimerNamed t.name

  timers_append : Appends AreTimers
  timers_append = record {
    nothing = λ t m. absurd m;
    append = λ some more left right before behind t m. ⊎_elim (before t) (behind t) (mem_cases t (filter_map timer_in some) (filter_map timer_in more) (subst (Mem t) (filter_map-append timer_in some more) m));
  }

  timer_from : (n : ℕ) (m : Inherited) (new : List MemberTree) → Becomes low.names (here files tree low x core s) core.reactor.members (never_of files tree low x core s) n m new → AreTimers new ((n, (m.file, m.member.now)) ∷ [])
  timer_from n m new made = of m.member.now refl made.lowered
    where
      lost : filter_map timer_in new ≡ [] → AreTimers new ((n, (m.file, m.member.now)) ∷ [])
      lost e t k = absurd (subst (Mem t) e k)

      of : (y : Member) → m.member.now ≡ y → IsLowered low.names (here files tree low x core s) n made.before new made.after y → AreTimers new ((n, (m.file, m.member.now)) ∷ [])
      of (member.Timer z) is l = λ t k. ⊎_elim (λ same. record { number = n; item = m; at = made.at; timer = z; is = is; name = ap (λ (t : TimerTree). t.name) same }) (λ none. absurd none) (subst (Mem t) (ap (filter_map timer_in) l.3) k)
      of (member.Port p) is l = lost (ap (filter_map timer_in) l.1 ∙ none_mapped timer_in (λ name. PortMember (record { name = name; is_input = p.is_input })) (λ name. refl) (names_of (named_in (here files tree low x core s) (string_bytes p.name.text) n)))
      of (member.Action a) is l = lost (ap (filter_map timer_in) l.3)
      of (member.Reaction r) is l = lost (of_reaction timer_in (λ q. refl) (here files tree low x core s) r made.before new made.after l.1).1
      of (member.Instance i) is l = lost (of_instance timer_in (λ i. refl) low.names (here files tree low x core s) n (string_bytes i.name.text) new l.1)
      of (member.Connection c) is l = lost (of_connection timer_in (λ c. refl) _ _ c.is_broadcast (time_at c.delay) new l.4)
      of (member.Foreign what at) is l = absurd l

  timers_from : (t : TimerTree) → Mem t (timers_of core.reactor) → IsTimerNamed t.name
  timers_from = all_become low.names (here files tree low x core s) core.reactor.members (never_of files tree low x core s) AreTimers timers_append timer_from s.reactor.members.1

  -- what is a timer's name in the core is one in the reactor
  timer_named : (q : List ℕ) → is_core_timer core.reactor q None ≡ true → IsTimerNamed q
  timer_named q e = go (find (λ t. bytes_eq q t.name) (timers_of core.reactor)) refl
    where
      go : (o : Option TimerTree) → find (λ t. bytes_eq q t.name) (timers_of core.reactor) ≡ o → IsTimerNamed q
      go None f = absurd (let g : false ≡ true = sym (ap is_some f) ∙ e in cc)
      go (Some t) f =
          let g = find_some (λ (t : TimerTree). bytes_eq q t.name) (timers_of core.reactor) t f in
          subst IsTimerNamed (sym ((bytes_eq-Decides q t.name).0 g.1)) (timers_from t g.0)

  -- and the other way round
  timer_stands : (n : ℕ) (m : Inherited) (t : Timer) → slice_get s.shape.members.items n ≡ Some m → m.member.now ≡ member.Timer t → is_core_timer core.reactor (string_bytes t.name.text) None ≡ true
  timer_stands n m t at is = go (find (λ (z : TimerTree). bytes_eq (string_bytes t.name.text) z.name) (timers_of core.reactor)) refl
    where
      made : (new : List MemberTree) × Becomes low.names (here files tree low x core s) core.reactor.members (never_of files tree low x core s) n m new
      made = made_at low.names (here files tree low x core s) core.reactor.members (never_of files tree low x core s) s.reactor.members.1 n m at

      new_is : made.0 ≡ TimerMember (timer_tree t) ∷ []
      new_is = (subst (IsLowered low.names (here files tree low x core s) n made.1.before made.0 made.1.after) is made.1.lowered).3

      stands : Mem (timer_tree t) (timers_of core.reactor)
      stands = mem_filter timer_in (TimerMember (timer_tree t)) (timer_tree t) core.reactor.members (made.1.among (TimerMember (timer_tree t)) (subst (Mem (TimerMember (timer_tree t))) (sym new_is) (inl refl))) refl

      go : (o : Option TimerTree) → find (λ (z : TimerTree). bytes_eq (string_bytes t.name.text) z.name) (timers_of core.reactor) ≡ o → is_some o ≡ true
      go None f = absurd (find_none (λ (z : TimerTree). bytes_eq (string_bytes t.name.text) z.name) (timers_of core.reactor) (timer_tree t) f stands ((bytes_eq-Decides (string_bytes t.name.text) (string_bytes t.name.text)).1 refl))
      go (Some z) f = refl

  -- the name of nothing else is a timer's in the core
  not_timer : (q : List ℕ) (th : ShapeThing) → thing_named s.shape q ≡ Some th → ((n : ℕ) (m : Inherited) (t : Timer) → th ≡ thing.Member n → slice_get s.shape.members.items n ≡ Some m → m.member.now ≡ member.Timer t → ⊥) → (n : Option ℕ) → is_core_timer core.reactor (name_with_number q n) None ≡ true → ⊥
  not_timer q th named other None e =
      let t = timer_named (q ++ []) e in
      let called : option_map (λ (n : Name). string_bytes n.text) (name_of t.item.member.now) ≡ Some (q ++ []) = ap (λ (y : Member). option_map (λ (n : Name). string_bytes n.text) (name_of y)) t.is ∙ ap Some t.name in
      let there : thing_named s.shape (q ++ []) ≡ Some (thing.Member t.number) = ((of_class files tree low x core s).names (q ++ []) (thing.Member t.number)).1 (t.item, t.at, called) in
      other t.number t.item t.timer (Some_same th (thing.Member t.number) (sym named ∙ ap (thing_named s.shape) (sym (append-nil q)) ∙ there)) t.at t.is
  not_timer q th named other (Some k) e =
      let t = timer_named (name_with_number q (Some k)) e in
      bracketed q (decimal k ++ 93 ∷ []) (subst IsIdentifier t.name t.timer.name.free.0)

  module _ (w : Widths) (found : AreWidthsFound files tree low w) (path : List ℕ) (ref : Reference) (means : Means (here files tree low x core s) ref) where
    abbrev q : List ℕ
    q = string_bytes ref.head.text

    -- its places that aren't timers
    abbrev inputs : List RefTree
    inputs = without_timers core.reactor (places_in (here files tree low x core s) ref)

    -- where no place is a timer's name, all stand for something
    all_used : ((p : RefTree) → Mem p (places_in (here files tree low x core s) ref) → is_core_timer core.reactor p.head p.port ≡ false) → things_for path core.reactor inputs ≡ channels files w path x ref
    all_used none =
        ap (things_for path core.reactor) (all_pass (λ (p : RefTree). not (is_core_timer core.reactor p.head p.port)) (places_in (here files tree low x core s) ref) (λ p k. ap not (none p k)))
        ∙ places_channels files tree low w found x (its_setting files tree low x core s) path core.reactor (names_alike files tree low x core s w found) ref means

    -- its places by its names
    by_names : (o : Option Name) → ref.port ≡ o → places_in (here files tree low x core s) ref ≡ refs_named files w x ref.is_interleaved q (option_map (λ (p : Name). string_bytes p.text) o)
    by_names o e =
        places_refs files tree low w found x (its_setting files tree low x core s) path core.reactor (names_alike files tree low x core s w found) ref means
        ∙ ap (λ o. refs_named files w x ref.is_interleaved q (option_map (λ (p : Name). string_bytes p.text) o)) e

    -- a port of an instance is no timer
    inner_used : (p : Name) → ref.port ≡ Some p → things_for path core.reactor inputs ≡ uses_in files w path x ref
    inner_used p e = all_used none ∙ sym (ap (λ o. if names_timer files x q o then [] else channels files w path x ref) e)
      where
        none : (z : RefTree) → Mem z (places_in (here files tree low x core s) ref) → is_core_timer core.reactor z.head z.port ≡ false
        none z k =
            let n = mem_from_map (λ (n : Option ℕ × Option ℕ). inner (name_with_number q n.0) (name_with_number (string_bytes p.text) n.1)) (crossed ref.is_interleaved (numbers_named files w x q) (inner_numbers files w x q (string_bytes p.text))) z (subst (Mem z) (by_names (Some p) e) k) in
            ap (λ (r : RefTree). is_core_timer core.reactor r.head r.port) (sym n.2)

    module _ (plain : ref.port ≡ None) where
      uses_are : (b : Bool) → names_timer files x q None ≡ b → uses_in files w path x ref ≡ (if b then [] else channels files w path x ref)
      uses_are b f = ap (λ o. if names_timer files x q o then [] else channels files w path x ref) plain ∙ ap (λ (b : Bool). if b then [] else channels files w path x ref) f

      -- a name of something else than a timer
      input_used : (th : ShapeThing) → thing_named s.shape q ≡ Some th → ((n : ℕ) (m : Inherited) (t : Timer) → th ≡ thing.Member n → slice_get s.shape.members.items n ≡ Some m → m.member.now ≡ member.Timer t → ⊥) → names_timer files x q None ≡ false → things_for path core.reactor inputs ≡ uses_in files w path x ref
      input_used th named other f = all_used none ∙ sym (uses_are false f)
        where
          none : (z : RefTree) → Mem z (places_in (here files tree low x core s) ref) → is_core_timer core.reactor z.head z.port ≡ false
          none z k =
              let n = mem_from_map (λ n. own (name_with_number q n)) (numbers_named files w x q) z (subst (Mem z) (by_names None plain) k) in
              ap (λ (r : RefTree). is_core_timer core.reactor r.head r.port) (sym n.2) ∙ go n.0 (is_core_timer core.reactor (name_with_number q n.0) None) refl
            where
              go : (n : Option ℕ) (b : Bool) → is_core_timer core.reactor (name_with_number q n) None ≡ b → is_core_timer core.reactor (name_with_number q n) None ≡ false
              go n true g = absurd (not_timer q th named other n g)
              go n false g = g

      parameter_used : (p : ℕ) → thing_named s.shape q ≡ Some (thing.Parameter p) → things_for path core.reactor inputs ≡ uses_in files w path x ref
      parameter_used p named =
          input_used (thing.Parameter p) named
          (λ n m t same at is. let f : thing.Parameter p ≡ thing.Member n = same in cc)
          (ap (λ o. option_map_or (λ (m : ℕ × Member). is_timer_member m.1) (option_and_then (slice_get (members_of files x.class)) o) false) (member_lost files s.shape x (of_class files tree low x core s) q (λ n g. let f : Some (thing.Parameter p) ≡ Some (thing.Member n) = sym named ∙ g in cc)))

      module _ (n : ℕ) (named : thing_named s.shape q ≡ Some (thing.Member n)) (m : Inherited) (at : slice_get s.shape.members.items n ≡ Some m) where
        timer_or : names_timer files x q None ≡ is_timer_member m.member.now
        timer_or =
            ap (λ o. option_map_or (λ (m : ℕ × Member). is_timer_member m.1) (option_and_then (slice_get (members_of files x.class)) o) false) (member_found files s.shape x (of_class files tree low x core s) q n named)
            ∙ ap (λ o. option_map_or (λ (m : ℕ × Member). is_timer_member m.1) o false) (ap (λ l. slice_get l n) (sym (of_class files tree low x core s).members) ∙ mapped (λ (m : Inherited). (m.file, m.member.now)) s.shape.members.items n m at)

        other_used : is_timer_member m.member.now ≡ false → things_for path core.reactor inputs ≡ uses_in files w path x ref
        other_used f =
            input_used (thing.Member n) named
            (λ k z t same there is.
            let one : n ≡ k = cc in
            let both : m ≡ z = Some_same m z (sym at ∙ ap (slice_get s.shape.members.items) one ∙ there) in
            untimed m.member.now t f (ap (λ (i : Inherited). i.member.now) both ∙ is))
            (timer_or ∙ f)

        -- a timer is no input
        timer_used : (t : Timer) → m.member.now ≡ member.Timer t → string_bytes t.name.text ≡ q → things_for path core.reactor inputs ≡ uses_in files w path x ref
        timer_used t is called =
            ap (λ ps. things_for path core.reactor (without_timers core.reactor ps)) (by_names None plain ∙ ap (map (λ n. own (name_with_number q n))) alone)
            ∙ ap (λ (b : Bool). things_for path core.reactor (if not b then own (name_with_number q None) ∷ [] else [])) stands
            ∙ sym (uses_are true (timer_or ∙ ap is_timer_member is))
          where
            alone : numbers_named files w x q ≡ None ∷ []
            alone = numbers_there files tree low w found x (its_setting files tree low x core s) q n m named at ∙ ap (λ y. numbers (width_of y) (w x n)) is

            stands : is_core_timer core.reactor (name_with_number q None) None ≡ true
            stands = ap (λ z. is_core_timer core.reactor z None) (append-nil q ∙ sym called) ∙ timer_stands n m t at is

      plain_used : (th : ShapeThing) → thing_named s.shape q ≡ Some th → things_for path core.reactor inputs ≡ uses_in files w path x ref
      plain_used (thing.Parameter p) named = parameter_used p named
      plain_used (thing.Member n) named = go (is_timer_member m.0.member.now) refl
        where
          m : (m : Inherited) × (slice_get s.shape.members.items n ≡ Some m) × (option_map (λ (z : Name). string_bytes z.text) (name_of m.member.now) ≡ Some q)
          m = ((of_class files tree low x core s).names q (thing.Member n)).0 named

          go : (b : Bool) → is_timer_member m.0.member.now ≡ b → things_for path core.reactor inputs ≡ uses_in files w path x ref
          go false f = other_used n named m.0 m.1 f
          go true f =
              let t = timer_is m.0.member.now f in
              timer_used n named m.0 m.1 t.0 t.1 (Some_same (string_bytes t.0.name.text) q (sym (ap (λ (y : Member). option_map (λ (z : Name). string_bytes z.text) (name_of y)) t.1) ∙ m.2))

    -- what a use stands for
    pub use_alike : things_for path core.reactor (without_timers core.reactor (places_in (here files tree low x core s) ref)) ≡ uses_in files w path x ref
    use_alike = by_port ref.port refl
      where
        by_port : (o : Option Name) → ref.port ≡ o → things_for path core.reactor inputs ≡ uses_in files w path x ref
        by_port (Some p) e = inner_used p e
        by_port None e =
            let z = meaning_is files tree low w found x (its_setting files tree low x core s) path core.reactor (names_alike files tree low x core s w found) ref means in
            let t = option_map_some (λ th. meaning.Own th) (thing_named s.shape q) z.0 (ap (λ o. meaning_named low.settings.shapes.items s.shape q (option_map (λ (p : Name). string_bytes p.text) o)) (sym e) ∙ z.1) in
            plain_used e t.0 t.1
