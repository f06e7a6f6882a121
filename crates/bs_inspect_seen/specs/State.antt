-- The state in which flip-flops with names have their values, and nothing is known of the others.
use Rattle.std.specs.Prelude.{ℕ, ◌-◌, not, Bool, false, List, [], ◌∷◌, ◌++◌, codes, find, map, slice_index_or, Option, Some, None, if◌then◌else◌}
use Rattle.std.specs.List.{list_any}
use Rattle.bs_bits.specs.Lines.{line}
use Rattle.bs_net.specs.Parts.{Parts}
use Rattle.bs_net_names.specs.Keys.{KeyParts}
use Rattle.bs_net_names.specs.Naming.{is_named}
use Rattle.bs_scan.specs.declared.seen.Seen.{Seen}
use Rattle.bs_scan.specs.ChoiceText.{flop_parts}
use Rattle.bs_scan.specs.SeenText.{seen_text}
use Rattle.bs_inspect_seen.specs.Given.{Given, is_given, number_of}

-- the name that a flip-flop has, with its value
abbrev pub given_for : List Given → KeyParts → Option Given
given_for givens p = find (λ g. is_named p g.name) givens

-- the bit of a value at the place of a flip-flop, counted from the lowest that has the name
abbrev pub bit_in : KeyParts → Option Given → Bool
bit_in p None = false
bit_in p (Some g) = slice_index_or g.bits (number_of p - g.low) false

abbrev pub given_bit : List Given → KeyParts → Bool
given_bit givens p = bit_in p (given_for givens p)

-- nothing is known of a flip-flop
abbrev pub is_open : List Given → KeyParts → Bool
is_open givens p = not (is_given givens p)

-- which flip-flops are not known, where one is not
abbrev pub free_among : List Given → List KeyParts → List Bool
free_among givens flops = if list_any (is_open givens) flops then map (is_open givens) flops else []

-- the flip-flops with a name have the bits of its value, and nothing is known of the others
abbrev pub seen_among : List Given → List KeyParts → Seen
seen_among givens flops = record { bits = map (given_bit givens) flops; free = free_among givens flops }

abbrev pub seen_by : Parts → List Given → Seen
seen_by r givens = seen_among givens (flop_parts r)

-- the first line of a dump of it
abbrev pub state_line : Parts → List Given → List ℕ
state_line r givens = line (codes "state " ++ seen_text (seen_by r givens))
