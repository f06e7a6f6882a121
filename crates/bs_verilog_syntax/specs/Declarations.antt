-- Ranges, declarations, and the header of a module.
use Rattle.std.specs.Prelude.{Bool, true, false, if◌then◌else◌, List, [], ◌∷◌, map, Option, Some, None, is_some, unwrap_or, Ok, Err}
use Rattle.bs_lex.specs.declared.lexeme.Sort.{Sort}
use Rattle.bs_lex.specs.declared.lexeme.Word.TheVariants as words
use Rattle.bs_lex.specs.declared.lexeme.Sort.TheVariants as sorts
use Rattle.bs_lex.specs.declared.lexeme.Name.{Name}
use Rattle.bs_verilog_syntax.specs.declared.tree.Range.{Range}
use Rattle.bs_verilog_syntax.specs.declared.tree.Says.{Says}
use Rattle.bs_verilog_syntax.specs.declared.tree.Declared.{Declared}
use Rattle.bs_verilog_syntax.specs.declared.tree.HeaderPort.{HeaderPort}
use Rattle.bs_verilog_syntax.specs.declared.tree.Ports.{Ports}
use Rattle.bs_verilog_syntax.specs.declared.tree.Direction.TheVariants as directions
use Rattle.bs_verilog_syntax.specs.declared.tree.Direction as code
use Rattle.bs_verilog_syntax.specs.declared.tree.Net.TheVariants as nets
use Rattle.bs_verilog_syntax.specs.declared.tree.Net as code_net
use Rattle.bs_bits.specs.Reading.{◌>>=◌}
use Rattle.bs_verilog_syntax.specs.Reading.{Rest, Read, at, sort, rest, name, is_at, refused, expect, expect_name, expect_digits, listed}
use Rattle.bs_lex.specs.Lexemes.{is_name}
use Rattle.bs_verilog_syntax.specs.Terms.{attributes}
use Rattle.bs_verilog_syntax.specs.declared.reading.Due.TheVariants as due
use Rattle.bs_verilog_syntax.specs.Unsupported.{after_direction}

-- [ "[" digits ":" digits "]" ]
unfoldable pub range : Rest → Read (Option Range)
range ts =
    if is_at "[" ts then (do
      left ← expect_digits (rest ts)
      colon ← expect ":" due.Nothing left.1
      right ← expect_digits colon
      after ← expect "]" due.Nothing right.1
      Ok (Some (record { at = at ts; left = left.0; right = right.0 }), after))
    else Ok (None, ts)

-- "input" | "output"
abbrev pub direction : Sort → Option code.Direction
direction (sorts.Word words.Input) = Some directions.Input
direction (sorts.Word words.Output) = Some directions.Output
direction _ = None

-- "wire" | "supply0" | "supply1"
abbrev pub net : Sort → Option code_net.Net
net (sorts.Word words.Wire) = Some nets.Wire
net (sorts.Word words.Supply0) = Some nets.Supply0
net (sorts.Word words.Supply1) = Some nets.Supply1
net _ = None

-- "wire"
abbrev pub is_wire : Sort → Bool
is_wire (sorts.Word words.Wire) = true
is_wire _ = false

-- [ range ], with what else is said
abbrev pub ranged : Option code.Direction → Option code_net.Net → Rest → Read Says
ranged d n ts = do
  r ← range ts
  Ok (record { direction = d; net = n; range = r.0 }, r.1)

-- what follows a direction, up to the first name: [ "wire" ] [ range ]
unfoldable pub port_says : code.Direction → Rest → Read Says
port_says d ts =
    if is_some (after_direction (sort ts)) then Err (refused due.AfterDirection ts)
    else if is_wire (sort ts) then (do
      r ← range (rest ts)
      Ok (record { direction = Some d; net = Some nets.Wire; range = r.0 }, r.1))
    else (do
      r ← range ts
      Ok (record { direction = Some d; net = None; range = r.0 }, r.1))

-- what follows a net word, up to the first name: [ range ]
unfoldable pub net_says : code_net.Net → Rest → Read Says
net_says n ts = do
  r ← range ts
  Ok (record { direction = None; net = Some n; range = r.0 }, r.1)

-- a NAME of which something is said
unfoldable pub declared_name : Says → Rest → Read Declared
declared_name says ts = do
  n ← expect_name ts
  Ok (record { says = says; name = n.0 }, n.1)

-- NAME { "," NAME } ";"
unfoldable pub names : Says → Rest → Read (List Declared)
names says ts = do
  listing ← listed (declared_name says) ts
  after ← expect ";" due.AfterDeclared listing.1
  Ok (listing.0, after)

-- The header's ports. In the second form each is declared there.

-- NAME after attributes
unfoldable pub plain_port : Rest → Read Name
plain_port ts = do
  here ← attributes ts
  expect_name here

-- dir or NAME, after attributes
unfoldable pub header_port : Rest → Read HeaderPort
header_port ts = do
  here ← attributes ts
  elim (direction (sort here)) [
    | Some d ↦ (do
      says ← port_says d (rest here)
      n ← expect_name says.1
      Ok (record { says = Some says.0; name = n.0 }, n.1))
    | None ↦
        if is_name (sort here) then Ok (record { says = None; name = name here }, rest here)
        else Err (refused due.Port here)
  ]

-- a name without a direction takes the direction and range before it, and not the `wire`
abbrev pub passed_on : Says → Says
passed_on says = record { direction = says.direction; net = None; range = says.range }

-- what is said before the first port
abbrev pub nothing_said : Says
nothing_said = record { direction = None; net = None; range = None }

-- what the ports declare, after what was said before them
unfoldable pub carried : Says → List HeaderPort → List Declared
carried before [] = []
carried before (p ∷ ps) =
    let says = unwrap_or p.says (passed_on before) in
    record { says = says; name = p.name } ∷ carried says ps

-- ports that a header declares: their names, and what it says of them
abbrev pub ports_of : List HeaderPort → Ports
ports_of ports = record { header = map (λ p. p.name) ports; declared = carried nothing_said ports }

-- the ports of a header that declares nothing, up to and with `)`
abbrev pub plain_ports : Rest → Read Ports
plain_ports ts = do
  listing ← listed plain_port ts
  after ← expect ")" due.Nothing listing.1
  Ok (record { header = listing.0; declared = [] }, after)

-- the ports of a header that declares them, up to and with `)`
abbrev pub declared_ports : Rest → Read Ports
declared_ports ts = do
  listing ← listed header_port ts
  after ← expect ")" due.AfterDeclared listing.1
  Ok (ports_of listing.0, after)

-- the ports after `(`, up to and with `)`
unfoldable pub ports : Rest → Read Ports
ports ts =
    if is_at ")" ts then Ok (record { header = []; declared = [] }, rest ts)
    else (do
      here ← attributes ts
      if is_name (sort here) then plain_ports ts else declared_ports ts)

-- [ "(" [ ports ] ")" ] ";"
unfoldable pub header : Rest → Read Ports
header ts =
    if is_at "(" ts then (do
      listing ← ports (rest ts)
      after ← expect ";" due.Nothing listing.1
      Ok (listing.0, after))
    else (do
      after ← expect ";" due.AfterModule ts
      Ok (record { header = []; declared = [] }, after))
