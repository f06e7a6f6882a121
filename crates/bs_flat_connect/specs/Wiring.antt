-- The nets of a module with those of its connections, and those of a term.
use Rattle.std.specs.Prelude.{◌≡◌, ℕ, ◌+◌, ◌<◌, ◌==◌, Bool, false, List, [], map, length, All, Option, Some, None, slice_index_or, nat_eq, if◌then◌else◌}
use Rattle.std.specs.Map.{lookup}
use Rattle.std.specs.List.{range_with_len}
use Rattle.bs_net.specs.declared.net.NetId.{NetId}
use Rattle.bs_net.specs.Names.{number_of}
use Rattle.bs_verilog_syntax.specs.declared.tree.Declared.{Declared}
use Rattle.bs_verilog_syntax.specs.declared.tree.Range.{Range}
use Rattle.bs_verilog_syntax.specs.declared.tree.Says.{Says}
use Rattle.bs_verilog_syntax.specs.declared.tree.Term.{Term}
use Rattle.bs_verilog_scope.specs.Checking.{looked}
use Rattle.bs_verilog_scope.specs.Keys.{keys, width}
use Rattle.bs_verilog_scope.specs.Nets.{nets_of}
use Rattle.bs_flat_meaning.specs.declared.statements.Written.{Written}
use Rattle.bs_flat_meaning.specs.Connecting.{ReadModule, scope_of, term_keys, declared_keys, whole_parts}
use Rattle.bs_flat_meaning.specs.Reading.{gathered}
use Rattle.bs_flat_modules.specs.declared.owns.Own.{Own}
use Rattle.bs_flat_modules.specs.Owns.{module_and_parts}
use Rattle.bs_flat_connect.specs.declared.terms.NetRange.{NetRange}
use Rattle.bs_flat_connect.specs.declared.wiring.Wiring.{Wiring}

-- how many bits a declared name has
abbrev pub bit_count : Option Range → ℕ
bit_count (Some r) = width r
bit_count None = 1

-- a module as it was read
abbrev pub read_of : Own → List Written → ReadModule
read_of own ws = gathered (module_and_parts own, ws)

-- nets side by side
abbrev pub side_by_side : ℕ → ℕ → List NetId
side_by_side first width = map (λ k. record { 0 = first + k }) (range_with_len 0 width)

-- the net so far behind another
abbrev pub net_at : ℕ → ℕ → NetId
net_at first k = record { 0 = first + k }

-- the keys of the bits of the name with a number, by its range
abbrev pub keys_by : List (List ℕ) → ℕ → Says → List (List ℕ)
keys_by table id s = keys (slice_index_or table id []) s.range

-- the first net of the name with a number, among those of names whose nets stand side by side
abbrev pub spanned : List (ℕ × ℕ) → ℕ → Option ℕ
spanned firsts id = lookup (nat_eq id) firsts

-- the same with one name more
abbrev pub with_span : (ℕ → Option ℕ) → ℕ → ℕ → ℕ → Option ℕ
with_span spans id first k = if nat_eq id k then Some first else spans k

-- the nets of keys stand side by side from one on
abbrev pub StandFrom : List (List ℕ) → List (List ℕ) → ℕ → Type 0
StandFrom names ks first = nets_of names ks ≡ side_by_side first (length ks)

-- each key is there, and their numbers follow one another from one on
pub record AreInTurn (names ks : List (List ℕ)) (first : ℕ) : Type 0 where
  pub each : (k : ℕ) → k < length ks → number_of names (slice_index_or ks k []) ≡ Some (first + k)

-- they do so from no number on
pub record AreInNoTurn (names ks : List (List ℕ)) : Type 0 where
  pub none : (first : ℕ) → AreInTurn names ks first → ⊥

-- whether a number is the one that was found
abbrev pub is_number : Option ℕ → ℕ → Bool
is_number (Some m) n = m == n
is_number None n = false

-- what is said of the name with a number, if anything, has its nets side by side from one on
abbrev pub IsSpan : List (List ℕ) → List (List ℕ) → Option Says → ℕ → ℕ → Type 0
IsSpan table names says id first = (s : Says) → says ≡ Some s → StandFrom names (keys_by table id s) first

-- a name of which something is said has no span: its keys are not in turn
abbrev pub IsNoSpan : List (List ℕ) → List (List ℕ) → Option Says → ℕ → Type 0
IsNoSpan table names says id = (s : Says) → says ≡ Some s → AreInNoTurn names (keys_by table id s)

-- the nets of each name with a span stand side by side from there
pub record AreSpans (table names : List (List ℕ)) (scope : ℕ → Option Says) (spans : List (ℕ × ℕ)) : Type 0 where
  pub is : (id first : ℕ) (s : Says) → scope id ≡ Some s → spanned spans id ≡ Some first → StandFrom names (keys_by table id s) first

-- the name with a number has a span where its keys are in turn
pub record HasSpan (table names : List (List ℕ)) (scope : ℕ → Option Says) (spans : List (ℕ × ℕ)) (id : ℕ) : Type 0 where
  pub is : (s : Says) (first : ℕ) → scope id ≡ Some s → AreInTurn names (keys_by table id s) first → spanned spans id ≡ Some first

-- each of these names has
pub record HaveSpans (table names : List (List ℕ)) (scope : ℕ → Option Says) (ids : List ℕ) (spans : List (ℕ × ℕ)) : Type 0 where
  pub have : All (HasSpan table names scope spans) ids

-- the numbers of declared names
abbrev pub ids_of : List Declared → List ℕ
ids_of ds = map (λ d. d.name.id) ds

-- the wiring is that of a module
pub record IsWiringOf (table : List (List ℕ)) (m : ReadModule) (w : Wiring) : Type 0 where
  pub names : w.keys ≡ (whole_parts table m).names
  pub consts : w.consts ≡ (whole_parts table m).consts
  pub scope : looked w.scope ≡ scope_of m
  pub spans : AreSpans table w.keys (scope_of m) w.spans
  pub turns : HaveSpans table w.keys (scope_of m) (ids_of m.says.declared) w.spans

-- the nets of keys side by side; none where there are no keys
abbrev pub AreNets : List (List ℕ) → Option (List (List ℕ)) → Option NetRange → Type 0
AreNets names found None = found ≡ None
AreNets names found (Some s) =
    (ks : List (List ℕ)) × (found ≡ Some ks) × (length ks ≡ s.width) × (nets_of names ks ≡ side_by_side s.first s.width)

-- the stretch of a declared name's nets, from the first on
abbrev pub IsStretch : Option Range → Option ℕ → Option NetRange → Type 0
IsStretch range span None = ⊥
IsStretch range span (Some s) = (span ≡ Some s.first) × (s.width ≡ bit_count range)

-- the nets of a declared name, whole or of one bit, where those of the name stand side by side from its span on
pub record TellsDeclared (names : List (List ℕ)) (name : List ℕ) (range : Option Range) (index span : Option ℕ) (s : Option NetRange) : Type 0 where
  pub is : ((first : ℕ) → span ≡ Some first → StandFrom names (keys name range) first) → AreNets names (declared_keys name range index) s

-- the nets for which a term stands, side by side; none where its index names no bit
abbrev pub StandsFor : List (List ℕ) → ReadModule → Term → Option NetRange → Type 0
StandsFor table m t s = AreNets (whole_parts table m).names (term_keys table (scope_of m) t) s

-- the same in each module with this wiring
pub record TellsTerm (table : List (List ℕ)) (w : Wiring) (t : Term) (s : Option NetRange) : Type 0 where
  pub is : (m : ReadModule) → IsWiringOf table m w → StandsFor table m t s
