-- The third pass: which names a module declares, and the nets that they stand for.
use Rattle.std.specs.Prelude.{ℕ, ◌+◌, Bool, true, false, not, ◌&&◌, ◌||◌, ◌==◌, nat_lt, if◌then◌else◌, List, [], ◌∷◌, ◌++◌, length, map, filter, find}
use Rattle.std.specs.Prelude.{Option, Some, None, is_some, option_map}
use Rattle.std.specs.List.{list_any}
use Rattle.bs_lex.specs.declared.lexeme.Name.{Name}
use Rattle.bs_verilog_syntax.specs.declared.tree.Range.{Range}
use Rattle.bs_verilog_syntax.specs.declared.tree.Says.{Says}
use Rattle.bs_verilog_syntax.specs.declared.tree.Declared.{Declared}
use Rattle.bs_verilog_syntax.specs.declared.tree.Module.{Module}
use Rattle.bs_verilog_syntax.specs.declared.tree.Direction as code
use Rattle.bs_verilog_syntax.specs.declared.tree.Net as code_net
use Rattle.bs_verilog_syntax.specs.declared.tree.Net.TheVariants.{Supply0, Supply1}
use Rattle.bs_verilog_scope.specs.declared.numbering.Known.{Known}
use Rattle.bs_verilog_syntax.specs.declared.fault.VerilogFault.{VerilogFault}
use Rattle.bs_verilog_syntax.specs.declared.fault.VerilogFault.TheVariants.{Redeclared, Port, Index, TooManyNets}
use Rattle.bs_net.specs.declared.limits.TheConstants.{MAX_NETS}
use Rattle.bs_lex.specs.declared.number_limits.TheConstants.{MAX_INDEX}
use Rattle.bs_verilog_scope.specs.Keys.{keys, text}

-- What is said of a name.

-- the earlier of two parts that may be missing
abbrev pub or_later : {A : Type 0} → Option A → Option A → Option A
or_later (Some x) later = Some x
or_later None later = later

-- what two declarations of one name say together; their ranges are equal where both are allowed
abbrev pub together : Option Says → Option Says → Option Says
together None later = later
together (Some a) None = Some a
together (Some a) (Some b) =
    Some (record { direction = or_later a.direction b.direction; net = or_later a.net b.net; range = a.range })

abbrev pub says_of : Declared → ℕ → Option Says
says_of d id = if d.name.id == id then Some d.says else None

-- what the declarations say of the name with this number, if any declares it
unfoldable pub said : List Declared → ℕ → Option Says
said [] id = None
said (d ∷ ds) id = together (says_of d id) (said ds id)

abbrev pub direction_of : Option Says → Option code.Direction
direction_of (Some s) = s.direction
direction_of None = None

abbrev pub range_of : Option Says → Option Range
range_of (Some s) = s.range
range_of None = None

abbrev pub is_supply : Option code_net.Net → Bool
is_supply (Some Supply0) = true
is_supply (Some Supply1) = true
is_supply _ = false

-- bounds are compared as the numbers that they stand for, of any length (TellsNumbersApart); no range differs from `[0:0]`
abbrev pub range_eq : Option Range → Option Range → Bool
range_eq None None = true
range_eq (Some a) (Some b) = a.left == b.left && a.right == b.right
range_eq _ _ = false

-- two directions; two net words; a direction and a supply; or two ranges that differ
abbrev pub is_clash : Says → Says → Bool
is_clash a b =
    is_some a.direction && is_some b.direction
    || is_some a.net && is_some b.net
    || is_supply a.net
    || is_supply b.net
    || not (range_eq a.range b.range)

-- a declaration does not go with what was said of its name before
abbrev pub clashes : Option Says → Says → Bool
clashes None b = false
clashes (Some a) b = is_clash a b

-- The faults.

-- no fault goes on
infixl 10 ◌or_else◌
abbrev pub ◌or_else◌ : Option VerilogFault → Option VerilogFault → Option VerilogFault
(Some fault) or_else later = Some fault
None or_else later = later

-- the fault of what was found
abbrev pub fault : {A : Type 0} → (A → VerilogFault) → Option A → Option VerilogFault
fault f found = option_map f found

-- the first that breaks a rule about those before it
unfoldable pub first_after : {A : Type 0} → (List A → A → Bool) → List A → List A → Option A
first_after breaks before [] = None
first_after breaks before (x ∷ xs) = if breaks before x then Some x else first_after breaks (before ++ x ∷ []) xs

-- the name with this number is among these
abbrev pub is_in : List Name → ℕ → Bool
is_in names id = list_any (λ n. n.id == id) names

abbrev pub stands_before : List Name → Name → Bool
stands_before before n = is_in before n.id

abbrev pub is_redeclared : List Declared → Declared → Bool
is_redeclared before d = clashes (said before d.name.id) d.says

abbrev pub has_direction : Declared → Bool
has_direction d = is_some d.says.direction

-- a direction for a name that is not in the header
abbrev pub is_stray : (ℕ → Bool) → Declared → Bool
is_stray header d = has_direction d && not (header d.name.id)

-- a name of the header without a direction
abbrev pub is_bare : (ℕ → Option Says) → Name → Bool
is_bare scope n = not (is_some (direction_of (scope n.id)))

abbrev pub is_too_wide : Declared → Bool
is_too_wide d = elim d.says.range [ Some r ↦ nat_lt MAX_INDEX r.left || nat_lt MAX_INDEX r.right | None ↦ false ]

abbrev pub range_place : Declared → ℕ
range_place d = elim d.says.range [ Some r ↦ r.at | None ↦ d.name.at ]

abbrev pub repeated_fault : List Name → Option VerilogFault
repeated_fault header = fault (λ n. Redeclared n.at) (first_after stands_before [] header)

abbrev pub redeclared_fault : List Declared → Option VerilogFault
redeclared_fault declared = fault (λ d. Redeclared d.name.at) (first_after is_redeclared [] declared)

abbrev pub stray_fault : (ℕ → Bool) → List Declared → Option VerilogFault
stray_fault header declared = fault (λ d. Port d.name.at) (find (is_stray header) declared)

abbrev pub bare_fault : (ℕ → Option Says) → List Name → Option VerilogFault
bare_fault scope header = fault (λ n. Port n.at) (find (is_bare scope) header)

abbrev pub wide_fault : List Declared → Option VerilogFault
wide_fault declared = fault (λ d. Index (range_place d)) (find is_too_wide declared)

-- The nets that a module declares.

abbrev pub known : (ℕ → Option Says) → Name → Known
known scope n = record { name = n; range = range_of (scope n.id) }

-- the header's ports in header order, and then the other declared names in file order
abbrev pub nets_in : (ℕ → Option Says) → (ℕ → Bool) → List Name → List Declared → List Known
nets_in scope ports header declared =
    map (known scope) header ++ map (λ d. known scope d.name) (filter (λ d. not (ports d.name.id)) declared)

unfoldable pub known_nets : Module → List Known
known_nets m = nets_in (said m.declared) (is_in m.header) m.header m.declared

abbrev pub keys_of : List (List ℕ) → Known → List (List ℕ)
keys_of table k = keys (text table k.name) k.range

-- the net by which the count passes `MAX_NETS`
unfoldable pub first_over : List (List ℕ) → ℕ → List Known → Option Known
first_over table count [] = None
first_over table count (k ∷ ks) =
    let more = count + length (keys_of table k) in
    if nat_lt MAX_NETS more then Some k else first_over table more ks

abbrev pub many_fault : List (List ℕ) → List Known → Option VerilogFault
many_fault table nets = fault (λ k. TooManyNets k.name.at) (first_over table 0 nets)

-- the first fault of names that are declared at most once each: ports, bounds, and the count of nets
unfoldable pub naming_fault : List (List ℕ) → (ℕ → Bool) → (ℕ → Option Says) → List Name → List Declared → Option VerilogFault
naming_fault table ports scope header declared =
    stray_fault ports declared
    or_else bare_fault scope header
    or_else wide_fault declared
    or_else many_fault table (nets_in scope ports header declared)

-- the first fault of declarations behind a header with these names
abbrev pub declared_fault : List (List ℕ) → (ℕ → Bool) → List Name → List Declared → Option VerilogFault
declared_fault table ports header declared =
    redeclared_fault declared or_else naming_fault table ports (said declared) header declared

-- the first fault of the third pass
unfoldable pub declaring_fault : List (List ℕ) → Module → Option VerilogFault
declaring_fault table m =
    repeated_fault m.header
    or_else redeclared_fault m.declared
    or_else naming_fault table (is_in m.header) (said m.declared) m.header m.declared
