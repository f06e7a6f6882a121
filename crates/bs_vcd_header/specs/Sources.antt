-- Which bits of which variables a clock and inputs are (docs/FORMATS.md, "Value changes (VCD)").
use Rattle.std.specs.Prelude.{ℕ, ◌+◌, ◌-◌, ◌==◌, nat_lt, Bool, false, ◌&&◌, List, [], ◌∷◌, ◌++◌, take, drop, length, slice_index, slice_index_or, Option, Some, None, Result, Ok, Err, if◌then◌else◌}
use Rattle.std.specs.Str.{bytes_eq}
use Rattle.bs_bits.specs.Reading.{◌>>=◌}
use Rattle.bs_net_names.specs.Splits.{Halves, last_split}
use Rattle.bs_net_names.specs.Keys.{KeyParts, key_parts}
use Rattle.bs_net_names.specs.Naming.{plain}
use Rattle.bs_net_names.specs.Ranges.{place_in, range, range_behind}
use Rattle.bs_net_names.specs.declared.range.Range.{Range}
use Rattle.bs_vcd_header.specs.declared.fault.VcdFault.{VcdFault}
use Rattle.bs_vcd_header.specs.declared.fault.VcdFault.TheVariants.{NoInput}
use Rattle.bs_vcd_header.specs.declared.sources.BitSource.{BitSource}
use Rattle.bs_vcd_header.specs.declared.range.NameWithBits.{NameWithBits as CodeNameWithBits}
use Rattle.bs_vcd_header.specs.Header.{Shape, Variable, HeaderDeclarations}

-- ---- the bits of a variable

-- `[7:0]`, or `[3]`
abbrev pub range_in : List ℕ → Option Range
range_in [] = None
range_in (b ∷ bs) = if b == 91 then range_behind bs else None

-- so many bits, from bit 0 on
abbrev pub of_width : ℕ → Range
of_width width = range (width - 1) 0

abbrev pub or_width : ℕ → Option Range → Range
or_width width None = of_width width
or_width width (Some r) = r

-- a name without the `\` that it may begin with, and its bits
pub record NameWithBits : Type 0 where
  pub name : List ℕ
  pub bits : Range

abbrev pub named : List ℕ → Range → NameWithBits
named name bits = record { name = plain name; bits = bits }

abbrev pub whole_or : ℕ → List ℕ → List ℕ → Option Range → NameWithBits
whole_or width name base None = named name (of_width width)
whole_or width name base (Some r) = named base r

abbrev pub split_name : ℕ → List ℕ → Option Halves → NameWithBits
split_name width name None = named name (of_width width)
split_name width name (Some h) = whole_or width name h.before (range_behind h.behind)

-- The name and the bits of a variable: the range is the word behind the name, or else stands at the name's end. Without one the
-- bits are as many as the variable has, from 0 on.
abbrev pub named_in : Shape → NameWithBits
named_in s = if length s.range == 0 then split_name s.width s.name (last_split 91 s.name) else named s.name (or_width s.width (range_in s.range))

-- ---- a bit

abbrev pub source_at : ℕ → Option ℕ → Option BitSource
source_at id None = None
source_at id (Some place) = Some record { id = id; place = place }

abbrev pub source_if : KeyParts → ℕ → NameWithBits → Option BitSource
source_if key id v = if bytes_eq v.name (plain key.base) then source_at id (place_in v.bits key.bit) else None

-- the bit of this name, if it is one of the variable's
abbrev pub source_of : KeyParts → Shape → Option BitSource
source_of key s = source_if key s.id (named_in s)

-- ---- in a scope

abbrev pub path_of : List (List ℕ) → Variable → List ℕ
path_of paths v = slice_index_or paths v.scope []

-- a text begins with a path and a point, and goes on behind them
abbrev pub lies_in : List ℕ → List ℕ → Bool
lies_in outer text =
    if nat_lt (length outer) (length text)
    then (slice_index text (length outer) == 46) && bytes_eq (take (length outer) text) outer
    else false

abbrev pub behind : List ℕ → List ℕ → List ℕ
behind outer text = drop (length outer + 1) text

-- `tx.level` is `level` in `tx`
abbrev pub is_local : (inner name base : List ℕ) → Bool
is_local inner name base = lies_in inner base && bytes_eq (behind inner base) name

-- In the scope with a path a variable of that scope has its own name, and one of a scope in it that path's rest before it: in `tb` the
-- variable `level` of `tb.tx` is `tx.level`.
abbrev pub names_variable : (path own name base : List ℕ) → Bool
names_variable path own name base =
    if bytes_eq own path then bytes_eq name base
    else (if length path == 0 then is_local own name base else lies_in path own && is_local (behind path own) name base)

abbrev pub source_named : (own path : List ℕ) → KeyParts → ℕ → NameWithBits → Option BitSource
source_named own path key id v = if names_variable path own v.name (plain key.base) then source_at id (place_in v.bits key.bit) else None

-- the bit of this name in the scope with a path, if it is one of the variable's
abbrev pub source_here : List (List ℕ) → List ℕ → KeyParts → Variable → Option BitSource
source_here paths path key v = source_named (path_of paths v) path key v.shape.id (named_in v.shape)

abbrev pub or_next : {A : Type 0} → Option A → Option A → Option A
or_next None next = next
or_next (Some x) next = Some x

-- the bit of this name of the first variable that has one in the scope with a path
abbrev pub source_in : List (List ℕ) → List ℕ → KeyParts → List Variable → Option BitSource
source_in paths path key [] = None
source_in paths path key (v ∷ vs) = or_next (source_here paths path key v) (source_in paths path key vs)

abbrev pub path_if : List ℕ → Option BitSource → Option (List ℕ)
path_if path None = None
path_if path (Some s) = Some path

-- the path of the scope of the first variable that has a bit of this name
abbrev pub first_path : List (List ℕ) → KeyParts → List Variable → Option (List ℕ)
first_path paths key [] = None
first_path paths key (v ∷ vs) = or_next (path_if (path_of paths v) (source_of key v.shape)) (first_path paths key vs)

-- the scope: the one that is asked for, or that of the first variable that has the clock
abbrev pub scope_of : Option (List ℕ) → KeyParts → HeaderDeclarations → Option (List ℕ)
scope_of (Some path) clock d = Some path
scope_of None clock d = first_path d.paths clock d.variables

abbrev pub or_fault : {A : Type 0} → VcdFault → Option A → Result A VcdFault
or_fault fault None = Err fault
or_fault fault (Some x) = Ok x

-- the bit of the input with this number
abbrev pub input_at : ℕ → HeaderDeclarations → List ℕ → List ℕ → Result BitSource VcdFault
input_at k d path key = or_fault (NoInput k) (source_in d.paths path (key_parts key) d.variables)

-- the bit of each input, the first of which has this number, or the first input without one
abbrev pub inputs_from : ℕ → HeaderDeclarations → List ℕ → List (List ℕ) → Result (List BitSource) VcdFault
inputs_from k d path [] = Ok []
inputs_from k d path (key ∷ keys) =
    input_at k d path key >>= λ s. inputs_from (k + 1) d path keys >>= λ more. Ok (s ∷ more)

-- the same behind others
abbrev pub inputs_behind : List BitSource → ℕ → HeaderDeclarations → List ℕ → List (List ℕ) → Result (List BitSource) VcdFault
inputs_behind before k d path keys = inputs_from k d path keys >>= λ more. Ok (before ++ more)

abbrev pub named_at : CodeNameWithBits → NameWithBits
named_at v = record { name = v.name.now; bits = v.bits }
