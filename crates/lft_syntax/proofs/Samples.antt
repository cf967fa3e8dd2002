-- The readings of small texts, as a check of the definitions.
use Rattle.std.proofs.Common.{◌≡◌, ℕ, true, false, List, [], ◌∷◌, ◌++◌, Some, None, Result, Ok, Err, refl}
use Rattle.std.specs.Prelude.{codes}
use Rattle.lft_syntax.specs.Lexeme.{Lexeme, Code, Letters, Number, Arrow, Symbol, is_reserved, unit_of}
use Rattle.lft_syntax.specs.inner.Reading.{many_at, inside_at, group_at, time_at, delay_at, ptime_at, pdelay_at, ref_at, refs_at, type_part_at, type_parts_at, stars_at, array_part_at, array_parts_at, type_at, typed_at, signed_at, suffix_at, quantity_at, dot_name_at, dot_names_at, path_at, value_at, input_at, output_at, port_at, period_at, times_at, timer_at, min_delay_at, origin_at, action_at, initial_at, state_at, scope_at, preamble_at, trigger_at, triggers_at, uses_at, effects_at, reaction_at, given_value_at, assign_at, assigns_at, instance_at, after_at, connection_at, member_at, members_at, body_at, default_at, param_at, params_at, reactor_at, target_at, item_at, items_at, file_at, whole_at}
use Rattle.lft_tree.specs.Tree.{Written, Named, OnRef, MemberTree, TimerMember, StateMember, ReactionMember, InstanceMember, ConnectionMember, ReactorItem, FileTree}
use Rattle.lft_tree.specs.declared.tree.TimeUnit.TheVariants as units

abbrev main_with : List Lexeme → List Lexeme
main_with inside = Letters (codes "main") ∷ Letters (codes "reactor") ∷ Symbol 123 ∷ inside ++ Symbol 125 ∷ []

abbrev main_tree : List MemberTree → FileTree
main_tree members = record { target = None; items = ReactorItem (record { is_main = true; name = None; parameters = []; members = members }) ∷ [] }

abbrev ok : FileTree → Result FileTree ℕ
ok t = Ok t

abbrev refused_at : ℕ → Result FileTree ℕ
refused_at k = Err k

-- a.out -> b.x after
abbrev joined : List Lexeme → List Lexeme
joined rest = Letters (codes "a") ∷ Symbol 46 ∷ Letters (codes "out") ∷ Arrow ∷ Letters (codes "b") ∷ Symbol 46 ∷ Letters (codes "x") ∷ Letters (codes "after") ∷ rest

-- main reactor { timer t(0, 1 ns)  reaction(t) {= =} }
tick : whole_at (main_with (Letters (codes "timer") ∷ Letters (codes "t") ∷ Symbol 40 ∷ Number 0 ∷ Symbol 44 ∷ Number 1 ∷ Letters (codes "ns") ∷ Symbol 41 ∷ Letters (codes "reaction") ∷ Symbol 40 ∷ Letters (codes "t") ∷ Symbol 41 ∷ Code ∷ []))
    ≡ ok (main_tree (
    TimerMember (record { name = codes "t"; offset = Some (Written (record { count = 0; unit = None })); period = Some (Written (record { count = 1; unit = Some units.Nanosecond })) })
    ∷ ReactionMember (record { triggers = OnRef (record { head = codes "t"; port = None }) ∷ []; uses = []; effects = [] }) ∷ []))
unfolding is_reserved unit_of many_at inside_at group_at time_at delay_at ptime_at pdelay_at ref_at refs_at type_part_at type_parts_at stars_at array_part_at array_parts_at type_at typed_at signed_at suffix_at quantity_at dot_name_at dot_names_at path_at value_at input_at output_at port_at period_at times_at timer_at min_delay_at origin_at action_at initial_at state_at scope_at preamble_at trigger_at triggers_at uses_at effects_at reaction_at given_value_at assign_at assigns_at instance_at after_at connection_at member_at members_at body_at default_at param_at params_at reactor_at target_at item_at items_at file_at whole_at
tick = refl

-- an empty text
empty : whole_at [] ≡ ok (record { target = None; items = [] })
unfolding is_reserved unit_of many_at inside_at group_at time_at delay_at ptime_at pdelay_at ref_at refs_at type_part_at type_parts_at stars_at array_part_at array_parts_at type_at typed_at signed_at suffix_at quantity_at dot_name_at dot_names_at path_at value_at input_at output_at port_at period_at times_at timer_at min_delay_at origin_at action_at initial_at state_at scope_at preamble_at trigger_at triggers_at uses_at effects_at reaction_at given_value_at assign_at assigns_at instance_at after_at connection_at member_at members_at body_at default_at param_at params_at reactor_at target_at item_at items_at file_at whole_at
empty = refl

-- main reactor { a.out -> b.x after 0 d = new D() }
instance_after_zero : whole_at (main_with (joined (Number 0 ∷ Letters (codes "d") ∷ Symbol 61 ∷ Letters (codes "new") ∷ Letters (codes "D") ∷ Symbol 40 ∷ Symbol 41 ∷ [])))
    ≡ ok (main_tree (
    ConnectionMember (record { sources = record { head = codes "a"; port = Some (codes "out") } ∷ []; destinations = record { head = codes "b"; port = Some (codes "x") } ∷ []; delay = Some (Written (record { count = 0; unit = None })) })
    ∷ InstanceMember (record { name = codes "d"; reactor = codes "D"; given = [] }) ∷ []))
unfolding is_reserved unit_of many_at inside_at group_at time_at delay_at ptime_at pdelay_at ref_at refs_at type_part_at type_parts_at stars_at array_part_at array_parts_at type_at typed_at signed_at suffix_at quantity_at dot_name_at dot_names_at path_at value_at input_at output_at port_at period_at times_at timer_at min_delay_at origin_at action_at initial_at state_at scope_at preamble_at trigger_at triggers_at uses_at effects_at reaction_at given_value_at assign_at assigns_at instance_at after_at connection_at member_at members_at body_at default_at param_at params_at reactor_at target_at item_at items_at file_at whole_at
instance_after_zero = refl

-- main reactor { a.out -> b.x after 5 d = new D() }: the 14th token
instance_after_days : whole_at (main_with (joined (Number 5 ∷ Letters (codes "d") ∷ Symbol 61 ∷ Letters (codes "new") ∷ Letters (codes "D") ∷ Symbol 40 ∷ Symbol 41 ∷ []))) ≡ refused_at 13
unfolding is_reserved unit_of many_at inside_at group_at time_at delay_at ptime_at pdelay_at ref_at refs_at type_part_at type_parts_at stars_at array_part_at array_parts_at type_at typed_at signed_at suffix_at quantity_at dot_name_at dot_names_at path_at value_at input_at output_at port_at period_at times_at timer_at min_delay_at origin_at action_at initial_at state_at scope_at preamble_at trigger_at triggers_at uses_at effects_at reaction_at given_value_at assign_at assigns_at instance_at after_at connection_at member_at members_at body_at default_at param_at params_at reactor_at target_at item_at items_at file_at whole_at
instance_after_days = refl

-- main reactor { a.out -> b.x after 5 d }
five_days : whole_at (main_with (joined (Number 5 ∷ Letters (codes "d") ∷ [])))
    ≡ ok (main_tree (ConnectionMember (record { sources = record { head = codes "a"; port = Some (codes "out") } ∷ []; destinations = record { head = codes "b"; port = Some (codes "x") } ∷ []; delay = Some (Written (record { count = 5; unit = Some units.Day })) }) ∷ []))
unfolding is_reserved unit_of many_at inside_at group_at time_at delay_at ptime_at pdelay_at ref_at refs_at type_part_at type_parts_at stars_at array_part_at array_parts_at type_at typed_at signed_at suffix_at quantity_at dot_name_at dot_names_at path_at value_at input_at output_at port_at period_at times_at timer_at min_delay_at origin_at action_at initial_at state_at scope_at preamble_at trigger_at triggers_at uses_at effects_at reaction_at given_value_at assign_at assigns_at instance_at after_at connection_at member_at members_at body_at default_at param_at params_at reactor_at target_at item_at items_at file_at whole_at
five_days = refl

-- main reactor { a.out -> b.x after 0 foo }: the bracket, since foo could begin a member
zero_then_name : whole_at (main_with (joined (Number 0 ∷ Letters (codes "foo") ∷ []))) ≡ refused_at 13
unfolding is_reserved unit_of many_at inside_at group_at time_at delay_at ptime_at pdelay_at ref_at refs_at type_part_at type_parts_at stars_at array_part_at array_parts_at type_at typed_at signed_at suffix_at quantity_at dot_name_at dot_names_at path_at value_at input_at output_at port_at period_at times_at timer_at min_delay_at origin_at action_at initial_at state_at scope_at preamble_at trigger_at triggers_at uses_at effects_at reaction_at given_value_at assign_at assigns_at instance_at after_at connection_at member_at members_at body_at default_at param_at params_at reactor_at target_at item_at items_at file_at whole_at
zero_then_name = refl

-- main reactor { timer t(5) }: the 8th token
no_unit : whole_at (main_with (Letters (codes "timer") ∷ Letters (codes "t") ∷ Symbol 40 ∷ Number 5 ∷ Symbol 41 ∷ [])) ≡ refused_at 7
unfolding is_reserved unit_of many_at inside_at group_at time_at delay_at ptime_at pdelay_at ref_at refs_at type_part_at type_parts_at stars_at array_part_at array_parts_at type_at typed_at signed_at suffix_at quantity_at dot_name_at dot_names_at path_at value_at input_at output_at port_at period_at times_at timer_at min_delay_at origin_at action_at initial_at state_at scope_at preamble_at trigger_at triggers_at uses_at effects_at reaction_at given_value_at assign_at assigns_at instance_at after_at connection_at member_at members_at body_at default_at param_at params_at reactor_at target_at item_at items_at file_at whole_at
no_unit = refl

-- reactor A(p: int = 1) { }: the 6th token
no_time : whole_at (Letters (codes "reactor") ∷ Letters (codes "A") ∷ Symbol 40 ∷ Letters (codes "p") ∷ Symbol 58 ∷ Letters (codes "int") ∷ Symbol 61 ∷ Number 1 ∷ Symbol 41 ∷ Symbol 123 ∷ Symbol 125 ∷ []) ≡ refused_at 5
unfolding is_reserved unit_of many_at inside_at group_at time_at delay_at ptime_at pdelay_at ref_at refs_at type_part_at type_parts_at stars_at array_part_at array_parts_at type_at typed_at signed_at suffix_at quantity_at dot_name_at dot_names_at path_at value_at input_at output_at port_at period_at times_at timer_at min_delay_at origin_at action_at initial_at state_at scope_at preamble_at trigger_at triggers_at uses_at effects_at reaction_at given_value_at assign_at assigns_at instance_at after_at connection_at member_at members_at body_at default_at param_at params_at reactor_at target_at item_at items_at file_at whole_at
no_time = refl

-- main reactor { state s = 5 d -> x }
value_then_connection : whole_at (main_with (Letters (codes "state") ∷ Letters (codes "s") ∷ Symbol 61 ∷ Number 5 ∷ Letters (codes "d") ∷ Arrow ∷ Letters (codes "x") ∷ []))
    ≡ ok (main_tree (StateMember (3, 7) ∷ ConnectionMember (record { sources = record { head = codes "d"; port = None } ∷ []; destinations = record { head = codes "x"; port = None } ∷ []; delay = None }) ∷ []))
unfolding is_reserved unit_of many_at inside_at group_at time_at delay_at ptime_at pdelay_at ref_at refs_at type_part_at type_parts_at stars_at array_part_at array_parts_at type_at typed_at signed_at suffix_at quantity_at dot_name_at dot_names_at path_at value_at input_at output_at port_at period_at times_at timer_at min_delay_at origin_at action_at initial_at state_at scope_at preamble_at trigger_at triggers_at uses_at effects_at reaction_at given_value_at assign_at assigns_at instance_at after_at connection_at member_at members_at body_at default_at param_at params_at reactor_at target_at item_at items_at file_at whole_at
value_then_connection = refl

-- main reactor { state s: int[2] = 5 d - 3 }
value_with_suffix : whole_at (main_with (Letters (codes "state") ∷ Letters (codes "s") ∷ Symbol 58 ∷ Letters (codes "int") ∷ Symbol 91 ∷ Number 2 ∷ Symbol 93 ∷ Symbol 61 ∷ Number 5 ∷ Letters (codes "d") ∷ Symbol 45 ∷ Number 3 ∷ []))
    ≡ ok (main_tree (StateMember (3, 15) ∷ []))
unfolding is_reserved unit_of many_at inside_at group_at time_at delay_at ptime_at pdelay_at ref_at refs_at type_part_at type_parts_at stars_at array_part_at array_parts_at type_at typed_at signed_at suffix_at quantity_at dot_name_at dot_names_at path_at value_at input_at output_at port_at period_at times_at timer_at min_delay_at origin_at action_at initial_at state_at scope_at preamble_at trigger_at triggers_at uses_at effects_at reaction_at given_value_at assign_at assigns_at instance_at after_at connection_at member_at members_at body_at default_at param_at params_at reactor_at target_at item_at items_at file_at whole_at
value_with_suffix = refl

-- reactor A(p: time = 10 ms) { timer t(0, p) }, and an instance of it: a = new A(p(3 ms))
parameters : whole_at (Letters (codes "reactor") ∷ Letters (codes "A") ∷ Symbol 40 ∷ Letters (codes "p") ∷ Symbol 58 ∷ Letters (codes "time") ∷ Symbol 61 ∷ Number 10 ∷ Letters (codes "ms") ∷ Symbol 41 ∷ Symbol 123
    ∷ Letters (codes "timer") ∷ Letters (codes "t") ∷ Symbol 40 ∷ Number 0 ∷ Symbol 44 ∷ Letters (codes "p") ∷ Symbol 41
    ∷ Letters (codes "a") ∷ Symbol 61 ∷ Letters (codes "new") ∷ Letters (codes "A") ∷ Symbol 40 ∷ Letters (codes "p") ∷ Symbol 40 ∷ Number 3 ∷ Letters (codes "ms") ∷ Symbol 41 ∷ Symbol 41 ∷ Symbol 125 ∷ [])
    ≡ ok (record {
      target = None;
      items = ReactorItem (record {
        is_main = false;
        name = Some (codes "A");
        parameters = record { name = codes "p"; default = record { count = 10; unit = Some units.Millisecond } } ∷ [];
        members = TimerMember (record { name = codes "t"; offset = Some (Written (record { count = 0; unit = None })); period = Some (Named (codes "p")) })
            ∷ InstanceMember (record { name = codes "a"; reactor = codes "A"; given = record { name = codes "p"; value = Written (record { count = 3; unit = Some units.Millisecond }) } ∷ [] }) ∷ [];
      }) ∷ [];
    })
unfolding is_reserved unit_of many_at inside_at group_at time_at delay_at ptime_at pdelay_at ref_at refs_at type_part_at type_parts_at stars_at array_part_at array_parts_at type_at typed_at signed_at suffix_at quantity_at dot_name_at dot_names_at path_at value_at input_at output_at port_at period_at times_at timer_at min_delay_at origin_at action_at initial_at state_at scope_at preamble_at trigger_at triggers_at uses_at effects_at reaction_at given_value_at assign_at assigns_at instance_at after_at connection_at member_at members_at body_at default_at param_at params_at reactor_at target_at item_at items_at file_at whole_at
parameters = refl
