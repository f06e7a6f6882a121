-- Small circuits, computed by the definitions.
use Rattle.std.proofs.Common.{◌≡◌, ℕ, true, false, List, [], ◌∷◌, refl, Some, None, length, Result, Ok, Err}
use Rattle.std.specs.Prelude.{codes}
use Rattle.bs_bits.specs.Lines.{lines_of}
use Rattle.bs_scan.specs.declared.seen.Seen.{Seen}
use Rattle.bs_scan.specs.Seen.{whole}
use Rattle.bs_net.specs.declared.net.NetId.{NetId}
use Rattle.bs_net.specs.declared.net.Flop.{Flop}
use Rattle.bs_net.specs.declared.net.Mode.TheVariants.{Plain}
use Rattle.bs_net.specs.declared.gate.Kind.TheVariants.{Not}
use Rattle.bs_net.specs.declared.net.Mode.TheVariants.{Plain}
use Rattle.bs_net.specs.Circuit.{Circuit, next, settled, all_bits}
use Rattle.bs_scan.specs.declared.dump.Dump.{Dump}
use Rattle.bs_scan.specs.declared.fault.DumpFault.{DumpFault}
use Rattle.bs_scan.specs.declared.fault.DumpFault.TheVariants.{Line, Width, NotReset}
use Rattle.bs_scan.specs.Choice.{Chosen}
use Rattle.bs_scan.specs.Crash.{dump_at}
use Rattle.bs_scan.specs.ChoiceText.{choice_of, flops_of, item_of, items_of}
use Rattle.bs_scan.specs.DumpText.{dump_of}
use Rattle.bs_net.specs.Parts.{Parts}
use Rattle.bs_scan.specs.declared.fault.ChoiceFault.{ChoiceFault}
use Rattle.bs_scan.specs.declared.fault.ChoiceFault.TheVariants as faults
use Rattle.bs_scan.specs.Moments.{Run, state_at, moments, first_moment}
use Rattle.bs_scan.specs.Signature.{signature, stored_at, predecessors}

abbrev net : ℕ → NetId
net n = record { 0 = n }

abbrev flop_at : ℕ → ℕ → Flop
flop_at q d = record { q = net q; d = net d; ck = net 0; reset = false; mode = Plain }

-- a shift register: net 0 is the clock, net 1 the input, net 2 the first flip-flop and net 3 the second
abbrev register : Circuit
register =
    record {
      nets = 4;
      clock = net 0;
      inputs = net 1 ∷ [];
      flops = flop_at 2 1 ∷ flop_at 3 2 ∷ [];
      gates = [];
      constants = [];
    }

-- a flip-flop that toggles: net 0 is the clock, net 1 its output and net 2 its input
abbrev toggle : Circuit
toggle =
    record {
      nets = 3;
      clock = net 0;
      inputs = [];
      flops = flop_at 1 2 ∷ [];
      gates = record { kind = Not; out = net 2; ins = net 1 ∷ [] } ∷ [];
      constants = [];
    }

-- the second flip-flop alone, no item, and an item that names both and the first one twice
abbrev second : Chosen
second = record { width = 2; depth = 1; items = (1 ∷ []) ∷ [] }

abbrev none : Chosen
none = record { width = 2; depth = 1; items = [] }

abbrev doubled : Chosen
doubled = record { width = 2; depth = 1; items = (0 ∷ 1 ∷ 0 ∷ []) ∷ [] }

-- the same in a register that keeps two signatures, and one item that is the first flip-flop
abbrev second_twice : Chosen
second_twice = record { width = 2; depth = 2; items = (1 ∷ []) ∷ [] }

abbrev none_twice : Chosen
none_twice = record { width = 2; depth = 2; items = [] }

abbrev first : Chosen
first = record { width = 2; depth = 1; items = (0 ∷ []) ∷ [] }

abbrev first_twice : Chosen
first_twice = record { width = 2; depth = 2; items = (0 ∷ []) ∷ [] }

abbrev ones : Run
ones = (true ∷ []) ∷ (true ∷ []) ∷ (true ∷ []) ∷ []

shifts_in : state_at register ones 2 ≡ true ∷ true ∷ []
unfolding state_at next settled all_bits
shifts_in = refl

begins_at_reset : state_at register ones 0 ≡ false ∷ false ∷ []
unfolding state_at
begins_at_reset = refl

toggles : state_at toggle ([] ∷ []) 1 ≡ true ∷ []
unfolding state_at next settled all_bits
toggles = refl

doubled_counts_twice : signature doubled (true ∷ false ∷ []) ≡ false ∷ []
doubled_counts_twice = refl

none_at_reset : stored_at register second ones 0 ≡ []
none_at_reset = refl

stored_of_the_state_before : stored_at register second ones 2 ≡ (false ∷ []) ∷ []
unfolding state_at next settled all_bits
stored_of_the_state_before = refl

one_predecessor : predecessors register second (whole (true ∷ true ∷ [])) ((true ∷ []) ∷ []) ≡ (true ∷ true ∷ []) ∷ []
unfolding predecessors next settled all_bits
one_predecessor = refl

two_predecessors : predecessors register none (whole (true ∷ true ∷ [])) ([] ∷ []) ≡ (true ∷ false ∷ []) ∷ (true ∷ true ∷ []) ∷ []
unfolding predecessors next settled all_bits
two_predecessors = refl

none_before_reset : predecessors register none (whole (true ∷ true ∷ [])) [] ≡ []
unfolding predecessors next settled all_bits
none_before_reset = refl

toggle_comes_from : predecessors toggle (record { width = 1; depth = 1; items = [] }) (whole (true ∷ [])) ([] ∷ []) ≡ (false ∷ []) ∷ []
unfolding predecessors next settled all_bits
toggle_comes_from = refl

-- ---- two signatures

none_kept_at_reset : stored_at register second_twice ones 0 ≡ []
none_kept_at_reset = refl

one_kept_after_one_cycle : stored_at register second_twice ones 1 ≡ (false ∷ []) ∷ []
unfolding state_at next settled all_bits
one_kept_after_one_cycle = refl

two_kept_after_two_cycles : stored_at register second_twice ones 2 ≡ (false ∷ []) ∷ (false ∷ []) ∷ []
unfolding state_at next settled all_bits
two_kept_after_two_cycles = refl

two_kept_after_three_cycles : stored_at register second_twice ones 3 ≡ (true ∷ []) ∷ (false ∷ []) ∷ []
unfolding state_at next settled all_bits
two_kept_after_three_cycles = refl

dumped_with_both : dump_at (record { circuit = register; choice = second_twice; runs = ones ∷ [] }) (record { run = 1; cycle = 3 })
    ≡ record { state = whole (true ∷ true ∷ []); stored = Some (true ∷ []); older = Some (false ∷ []); depth = 2 }
unfolding state_at next settled all_bits
dumped_with_both = refl

first_step : predecessors register second_twice (whole (true ∷ true ∷ [])) ((true ∷ []) ∷ (false ∷ []) ∷ []) ≡ (true ∷ true ∷ []) ∷ []
unfolding predecessors next settled all_bits
first_step = refl

second_step : predecessors register second_twice (whole (true ∷ true ∷ [])) ((false ∷ []) ∷ (false ∷ []) ∷ []) ≡ (true ∷ false ∷ []) ∷ []
unfolding predecessors next settled all_bits
second_step = refl

third_step : predecessors register second_twice (whole (true ∷ false ∷ [])) ((false ∷ []) ∷ []) ≡ (false ∷ false ∷ []) ∷ []
unfolding predecessors next settled all_bits
third_step = refl

-- the older signature alone cuts the list
weak_signature : predecessors register first (whole (true ∷ true ∷ [])) ((true ∷ []) ∷ []) ≡ (true ∷ false ∷ []) ∷ (true ∷ true ∷ []) ∷ []
unfolding predecessors next settled all_bits
weak_signature = refl

cut_by_the_older : predecessors register first_twice (whole (true ∷ true ∷ [])) ((true ∷ []) ∷ (true ∷ []) ∷ []) ≡ (true ∷ true ∷ []) ∷ []
unfolding predecessors next settled all_bits
cut_by_the_older = refl

no_items_cut_nothing : predecessors register none_twice (whole (true ∷ true ∷ [])) ([] ∷ [] ∷ []) ≡ (true ∷ false ∷ []) ∷ (true ∷ true ∷ []) ∷ []
unfolding predecessors next settled all_bits
no_items_cut_nothing = refl

-- with one signature of two, the state before is the reset state alone
reset_alone_without_an_older : predecessors register none_twice (whole (true ∷ false ∷ [])) ([] ∷ []) ≡ (false ∷ false ∷ []) ∷ []
unfolding predecessors next settled all_bits
reset_alone_without_an_older = refl

any_state_with_one_kept : predecessors register none (whole (true ∷ false ∷ [])) ([] ∷ []) ≡ (false ∷ false ∷ []) ∷ (false ∷ true ∷ []) ∷ []
unfolding predecessors next settled all_bits
any_state_with_one_kept = refl

nothing_before_reset : predecessors register none_twice (whole (true ∷ true ∷ [])) [] ≡ []
unfolding predecessors next settled all_bits
nothing_before_reset = refl

-- ---- what is known of the state in part

-- the first flip-flop alone
abbrev one_known : Seen
one_known = record { bits = true ∷ false ∷ []; free = false ∷ true ∷ [] }

abbrev none_known : Seen
none_known = record { bits = false ∷ false ∷ []; free = true ∷ true ∷ [] }

before_one_bit : predecessors register none one_known ([] ∷ [])
    ≡ (false ∷ false ∷ []) ∷ (false ∷ true ∷ []) ∷ (true ∷ false ∷ []) ∷ (true ∷ true ∷ []) ∷ []
unfolding predecessors next settled all_bits
before_one_bit = refl

before_one_bit_with_a_signature : predecessors register second one_known ((true ∷ []) ∷ []) ≡ (false ∷ true ∷ []) ∷ (true ∷ true ∷ []) ∷ []
unfolding predecessors next settled all_bits
before_one_bit_with_a_signature = refl

before_nothing_known : predecessors register second none_known ((true ∷ []) ∷ []) ≡ (false ∷ true ∷ []) ∷ (true ∷ true ∷ []) ∷ []
unfolding predecessors next settled all_bits
before_nothing_known = refl

-- the second flip-flop is 1, the signature says that the first was 0 before
before_a_contradiction : predecessors register first (record { bits = false ∷ true ∷ []; free = true ∷ false ∷ [] }) ((false ∷ []) ∷ []) ≡ []
unfolding predecessors next settled all_bits
before_a_contradiction = refl

-- ---- the texts of dumps of two flip-flops and one item

abbrev read_as : ℕ → List ℕ → Result Dump DumpFault
read_as depth text = dump_of (false ∷ false ∷ []) depth 1 (lines_of text)

two_signatures : read_as 2 (codes "state 11\nsig 1\nold 0\nend\n")
    ≡ Ok (record { state = whole (true ∷ true ∷ []); stored = Some (true ∷ []); older = Some (false ∷ []); depth = 2 })
unfolding dump_of
two_signatures = refl

older_none : read_as 2 (codes "state 11\nsig 1\nold none\nend") ≡ Ok (record { state = whole (true ∷ true ∷ []); stored = Some (true ∷ []); older = None; depth = 2 })
unfolding dump_of
older_none = refl

none_at_all : read_as 2 (codes "state 00\nsig none\nold none\nend\n") ≡ Ok (record { state = whole (false ∷ false ∷ []); stored = None; older = None; depth = 2 })
unfolding dump_of
none_at_all = refl

partly_known : read_as 1 (codes "state 1-\nsig 1\nend\n") ≡ Ok (record { state = one_known; stored = Some (true ∷ []); older = None; depth = 1 })
unfolding dump_of
partly_known = refl

reset_shows_it : read_as 1 (codes "state -0\nsig none\nend\n")
    ≡ Ok (record { state = record { bits = false ∷ false ∷ []; free = true ∷ false ∷ [] }; stored = None; older = None; depth = 1 })
unfolding dump_of
reset_shows_it = refl

reset_does_not_show_it : read_as 1 (codes "state 1-\nsig none\nend\n") ≡ Err NotReset
unfolding dump_of
reset_does_not_show_it = refl

too_many_unknown : read_as 1 (codes "state ---\nsig 1\nend\n") ≡ Err (Width 1)
unfolding dump_of
too_many_unknown = refl

unknown_signature : read_as 1 (codes "state 11\nsig -\nend\n") ≡ Err (Line 2)
unfolding dump_of
unknown_signature = refl

older_behind_none : read_as 2 (codes "state 00\nsig none\nold 1\nend\n") ≡ Err (Line 3)
unfolding dump_of
older_behind_none = refl

older_not_said : read_as 2 (codes "state 11\nsig 1\nend\n") ≡ Err (Line 3)
unfolding dump_of
older_not_said = refl

older_too_wide : read_as 2 (codes "state 11\nsig 1\nold 00\nend\n") ≡ Err (Width 3)
unfolding dump_of
older_too_wide = refl

older_without_bits : read_as 2 (codes "state 11\nsig 1\nold .\nend\n") ≡ Err (Width 3)
unfolding dump_of
older_without_bits = refl

five_lines : read_as 2 (codes "state 11\nsig 1\nold 0\nend\n\n") ≡ Err (Line 5)
unfolding dump_of
five_lines = refl

no_end : read_as 2 (codes "state 11\nsig 1\nold 0\n") ≡ Err (Line 4)
unfolding dump_of
no_end = refl

not_at_reset : read_as 2 (codes "state 11\nsig none\nold none\nend\n") ≡ Err NotReset
unfolding dump_of
not_at_reset = refl

older_where_one_is_kept : read_as 1 (codes "state 11\nsig 1\nold 0\nend\n") ≡ Err (Line 3)
unfolding dump_of
older_where_one_is_kept = refl

four_lines_where_one_is_kept : read_as 1 (codes "state 11\nsig 1\nend\nold 0\n") ≡ Err (Line 4)
unfolding dump_of
four_lines_where_one_is_kept = refl

one_signature : read_as 1 (codes "state 11\nsig 1\nend\n") ≡ Ok (record { state = whole (true ∷ true ∷ []); stored = Some (true ∷ []); older = None; depth = 1 })
unfolding dump_of
one_signature = refl

-- ---- the texts of signature files, of two flip-flops `a` and `b`

abbrev parts : Parts
parts =
    record {
      names = codes "ck" ∷ codes "i" ∷ codes "a" ∷ codes "b" ∷ [];
      inputs = [];
      outputs = [];
      consts = [];
      gates = [];
      flops = flop_at 2 1 ∷ flop_at 3 2 ∷ [];
    }

abbrev chosen_by : List ℕ → Result Chosen ChoiceFault
chosen_by text = choice_of parts (lines_of text)

one_cycle : chosen_by (codes "bit b\nxor a b\n") ≡ Ok (record { width = 2; depth = 1; items = (1 ∷ []) ∷ (0 ∷ 1 ∷ []) ∷ [] })
unfolding items_of flops_of
one_cycle = refl

two_cycles : chosen_by (codes "cycles 2\nbit b\n") ≡ Ok second_twice
unfolding items_of flops_of
two_cycles = refl

two_cycles_of_nothing : chosen_by (codes "cycles 2") ≡ Ok none_twice
unfolding items_of flops_of
two_cycles_of_nothing = refl

nothing : chosen_by [] ≡ Ok none
unfolding items_of flops_of
nothing = refl

cycles_in_a_later_line : chosen_by (codes "bit b\ncycles 2\n") ≡ Err (faults.Line 2)
unfolding items_of flops_of
cycles_in_a_later_line = refl

cycles_twice : chosen_by (codes "cycles 2\ncycles 2\n") ≡ Err (faults.Line 2)
unfolding items_of flops_of
cycles_twice = refl

one_is_not_said : chosen_by (codes "cycles 1\n") ≡ Err (faults.Line 1)
unfolding items_of flops_of
one_is_not_said = refl

space_behind : chosen_by (codes "cycles 2 \n") ≡ Err (faults.Line 1)
unfolding items_of flops_of
space_behind = refl

unknown_behind : chosen_by (codes "cycles 2\nbit i\n") ≡ Err (faults.UnknownFlop 2)
unfolding items_of flops_of
unknown_behind = refl

-- one netlist wrote `t[8]` as an escaped name, the other a bit of a vector of an instance
abbrev spelled : Parts
spelled =
    record {
      names = codes "ck" ∷ codes "i" ∷ codes "\\t[8]" ∷ codes "[1]\\u.q" ∷ [];
      inputs = [];
      outputs = [];
      consts = [];
      gates = [];
      flops = flop_at 2 1 ∷ flop_at 3 2 ∷ [];
    }

other_spellings : choice_of spelled (lines_of (codes "xor t[8] u.q[1] [8]\\t \\u.q[1]")) ≡ Ok (record { width = 2; depth = 1; items = (0 ∷ 1 ∷ 0 ∷ 1 ∷ []) ∷ [] })
unfolding items_of flops_of
other_spellings = refl

another_bit : choice_of spelled (lines_of (codes "bit t[9]")) ≡ Err (faults.UnknownFlop 1)
unfolding items_of flops_of
another_bit = refl

-- a bit of a vector and an escaped name that are one name as RTL writes it
abbrev doubled_name : Parts
doubled_name =
    record {
      names = codes "ck" ∷ codes "i" ∷ codes "\\t[8]" ∷ codes "t[8]" ∷ [];
      inputs = [];
      outputs = [];
      consts = [];
      gates = [];
      flops = flop_at 2 1 ∷ flop_at 3 2 ∷ [];
    }

keys_go_first : choice_of doubled_name (lines_of (codes "xor t[8] \\t[8]")) ≡ Ok (record { width = 2; depth = 1; items = (1 ∷ 0 ∷ []) ∷ [] })
unfolding items_of flops_of
keys_go_first = refl

two_are_called_so : choice_of doubled_name (lines_of (codes "bit [8]\\t")) ≡ Err (faults.UnknownFlop 1)
unfolding items_of flops_of
two_are_called_so = refl

-- a net that is no flip-flop's has the key
abbrev other_net : Parts
other_net =
    record {
      names = codes "ck" ∷ codes "t[8]" ∷ codes "\\t[8]" ∷ [];
      inputs = [];
      outputs = [];
      consts = [];
      gates = [];
      flops = flop_at 2 1 ∷ [];
    }

the_net_is_meant : choice_of other_net (lines_of (codes "bit t[8]")) ≡ Err (faults.UnknownFlop 1)
unfolding items_of flops_of
the_net_is_meant = refl

one_item_too_many : item_of parts 258 257 (Some (codes "b" ∷ [])) ≡ Err (faults.TooMany 258)
one_item_too_many = refl

-- ---- first moments

first_in_one_run : first_moment register (ones ∷ []) ((true ∷ true ∷ []) ∷ []) ≡ Some (record { run = 1; cycle = 2 })
unfolding first_moment state_at next settled all_bits
first_in_one_run = refl

abbrev two_runs : List Run
two_runs = ((true ∷ []) ∷ (true ∷ []) ∷ []) ∷ ((true ∷ []) ∷ (true ∷ []) ∷ []) ∷ []

lower_run_first : first_moment register two_runs ((true ∷ false ∷ []) ∷ []) ≡ Some (record { run = 1; cycle = 1 })
unfolding first_moment state_at next settled all_bits
lower_run_first = refl

-- the first run ends after one cycle
abbrev short_and_long : List Run
short_and_long = ((true ∷ []) ∷ []) ∷ ((false ∷ []) ∷ (false ∷ []) ∷ (true ∷ []) ∷ (false ∷ []) ∷ (false ∷ []) ∷ []) ∷ []

ended_run_is_passed : first_moment register short_and_long ((false ∷ true ∷ []) ∷ []) ≡ Some (record { run = 2; cycle = 4 })
unfolding first_moment state_at next settled all_bits
ended_run_is_passed = refl

never_reached : first_moment register ([] ∷ []) ((true ∷ true ∷ []) ∷ []) ≡ None
unfolding first_moment state_at next settled all_bits
never_reached = refl

eight_moments : length (moments short_and_long) ≡ 8
eight_moments = refl
