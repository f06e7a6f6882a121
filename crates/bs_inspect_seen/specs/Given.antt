-- Names of flip-flops with their values, word by word (docs/FORMATS.md, "Values of flip-flops").
use Rattle.std.specs.Prelude.{ℕ, ◌+◌, ◌-◌, ◌&&◌, not, min, max, fold, Bool, List, [], ◌∷◌, ◌++◌, drop, length, map, Option, Some, None, Result, Ok, Err, if◌then◌else◌}
use Rattle.std.specs.List.{flat_map, list_any}
use Rattle.std.specs.Option.{unwrap_or}
use Rattle.bs_bits.specs.Reading.{◌>>=◌}
use Rattle.bs_net.specs.Parts.{Parts, key_at}
use Rattle.bs_net_names.specs.Keys.{KeyParts, key_parts}
use Rattle.bs_net_names.specs.Naming.{is_named}
use Rattle.bs_net_names.specs.Splits.{Halves, last_split}
use Rattle.bs_scan.specs.ChoiceText.{flop_parts}
use Rattle.bs_inspect_seen.specs.declared.fault.GivenFault.{GivenFault}
use Rattle.bs_inspect_seen.specs.declared.fault.GivenFault.TheVariants.{Form, Unknown, Wide, Twice}
use Rattle.bs_inspect_seen.specs.declared.given.Given.{Given as CodeGiven}
use Rattle.bs_inspect_seen.specs.Value.{value_in}

-- a name, the bits of its value, the lowest first, and the lowest number of a bit that has the name
pub record Given : Type 0 where
  pub name : List ℕ
  pub bits : List Bool
  pub low : ℕ

abbrev pub given_in : CodeGiven → Given
given_in g = record { name = g.name.now; bits = g.bits.items; low = g.low }

-- ---- the bits that have a name

-- what the keys of the nets say
abbrev pub net_parts : Parts → List KeyParts
net_parts r = map key_parts r.names

-- the keys of the flip-flops
abbrev pub flop_keys : Parts → List (List ℕ)
flop_keys r = map (λ f. key_at r f.q.0) r.flops

-- the number of a bit in its vector, 0 where there is none
abbrev pub number_of : KeyParts → ℕ
number_of p = unwrap_or p.bit 0

-- the number of a net, where it has a name
abbrev pub number_if : List ℕ → KeyParts → List ℕ
number_if name p = if is_named p name then number_of p ∷ [] else []

-- the numbers of the nets that have a name
abbrev pub numbers_of : List KeyParts → List ℕ → List ℕ
numbers_of nets name = flat_map (number_if name) nets

-- the least and the greatest of some numbers, 0 where there are none
abbrev pub least : List ℕ → ℕ
least [] = 0
least (n ∷ ns) = fold min n ns

abbrev pub greatest : List ℕ → ℕ
greatest numbers = fold max 0 numbers

-- the value has a 1 above the bits with these numbers
abbrev pub is_wide : List ℕ → List Bool → Bool
is_wide numbers bits = list_any (λ b. b) (drop (greatest numbers - least numbers + 1) bits)

-- ---- words

-- some flip-flop has a name
abbrev pub has_flop : List KeyParts → List ℕ → Bool
has_flop flops name = list_any (λ p. is_named p name) flops

-- a flip-flop has a value
abbrev pub is_given : List Given → KeyParts → Bool
is_given givens p = list_any (λ g. is_named p g.name) givens

-- some flip-flop with a name has a value already
abbrev pub is_twice : List KeyParts → List Given → List ℕ → Bool
is_twice flops givens name = list_any (λ p. is_named p name && is_given givens p) flops

-- a name with the bits of a value, behind these, where nets with these numbers have the name
abbrev pub given_with : List ℕ → List KeyParts → List Given → List ℕ → List Bool → Result Given GivenFault
given_with numbers flops earlier name bits =
    if not (has_flop flops name) then Err (Unknown (length earlier + 1))
    else (if is_wide numbers bits then Err (Wide (length earlier + 1))
    else (if is_twice flops earlier name then Err (Twice (length earlier + 1))
    else Ok record { name = name; bits = bits; low = least numbers }))

abbrev pub given_by : List KeyParts → List KeyParts → List Given → List ℕ → List Bool → Result Given GivenFault
given_by nets flops earlier name bits = given_with (numbers_of nets name) flops earlier name bits

abbrev pub given_of : List KeyParts → List KeyParts → List Given → List ℕ → Option (List Bool) → Result Given GivenFault
given_of nets flops earlier name None = Err (Form (length earlier + 1))
given_of nets flops earlier name (Some bits) = given_by nets flops earlier name bits

abbrev pub given_at : List KeyParts → List KeyParts → List Given → Option Halves → Result Given GivenFault
given_at nets flops earlier None = Err (Form (length earlier + 1))
given_at nets flops earlier (Some h) = given_of nets flops earlier h.before (value_in h.behind)

-- a name and a value for each word, parted at its last `=`, behind these; or the first fault
abbrev pub givens_from : List KeyParts → List KeyParts → List Given → List (List ℕ) → Result (List Given) GivenFault
givens_from nets flops earlier [] = Ok earlier
givens_from nets flops earlier (word ∷ words) =
    given_at nets flops earlier (last_split 61 word) >>= λ g. givens_from nets flops (earlier ++ g ∷ []) words

-- the names with their values: each names a flip-flop, none of which has two, and no value is wider than its name
abbrev pub givens_in : Parts → List (List ℕ) → Result (List Given) GivenFault
givens_in r words = givens_from (net_parts r) (flop_parts r) [] words
