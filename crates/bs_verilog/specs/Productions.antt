-- The grammar of a netlist text, production by production (docs/FORMATS.md, "Netlists"; after IEEE 1364-2005, annex A). `IsX from to x`
-- says: what stands in a text between `from` and `to`, where each is a text up to its end, is an X, and it says x.
use Rattle.std.specs.Prelude.{◌≡◌, ◌==◌, ℕ, Bool, true, false, List, [], ◌∷◌, ◌++◌, map, Option, Some, None, is_some, unwrap_or}
use Rattle.bs_net.specs.declared.gate.Kind.{Kind}
use Rattle.bs_lex.specs.declared.lexeme.Cell.{Cell}
use Rattle.bs_lex.specs.declared.lexeme.Word.TheVariants as words
use Rattle.bs_verilog_syntax.specs.declared.tree.Direction as code
use Rattle.bs_verilog_syntax.specs.declared.tree.Direction.TheVariants as directions
use Rattle.bs_verilog_syntax.specs.declared.tree.Net as code_net
use Rattle.bs_verilog_syntax.specs.declared.tree.Net.TheVariants as nets
use Rattle.bs_verilog_syntax.specs.declared.tree.Shape.TheVariants as shapes
use Rattle.bs_verilog.specs.Symbols.{Symbol, Text, keyword, name, bit, digits, mark, opens, closes, finish}
use Rattle.bs_verilog.specs.Written.{Range, Says, Declared, Term, constant, named, Connection, empty, place, pin, Component, HeaderPort, Ports, Adds, Module}

-- The marks.

abbrev pub comma : Symbol
comma = mark 44

abbrev pub semicolon : Symbol
semicolon = mark 59

abbrev pub colon : Symbol
colon = mark 58

abbrev pub dot : Symbol
dot = mark 46

abbrev pub equals : Symbol
equals = mark 61

abbrev pub sharp : Symbol
sharp = mark 35

abbrev pub left_round : Symbol
left_round = mark 40

abbrev pub right_round : Symbol
right_round = mark 41

abbrev pub left_square : Symbol
left_square = mark 91

abbrev pub right_square : Symbol
right_square = mark 93

-- this mark is next
abbrev pub begins_with : ℕ → Text → Bool
begins_with c (mark d ∷ text) = d == c
begins_with c _ = false

-- Lists and attributes.

-- one { "," one }
pub data IsListed {A : Type 0} (one : Text → Text → A → Type 0) : Text → Text → List A → Type 0 where
  last : {from to : Text} {x : A} → one from to x → IsListed one from to (x ∷ [])
  more : {from next to : Text} {x : A} {xs : List A} → one from (comma ∷ next) x → IsListed one next to xs → IsListed one from to (x ∷ xs)

-- any symbol but `*)` and the end of the text may stand inside an attribute
abbrev pub is_inside : Symbol → Bool
is_inside closes = false
is_inside finish = false
is_inside _ = true

-- { symbol } "*)"
pub data IsInside : Text → Text → Type 0 where
  closed : {to : Text} → IsInside (closes ∷ to) to
  on : {s : Symbol} {from to : Text} → is_inside s ≡ true → IsInside from to → IsInside (s ∷ from) to

-- { "(*" { symbol } "*)" }
pub data AreAttributes : Text → Text → Type 0 where
  no_more : {to : Text} → AreAttributes to to
  one_more : {from next to : Text} → IsInside from next → AreAttributes next to → AreAttributes (opens ∷ from) to

-- Terms and delays.

-- NAME | NAME "[" digits "]" | ONE-BIT
pub data IsTerm : Text → Text → Term → Type 0 where
  scalar : {cell : Option Cell} {n : List ℕ} {to : Text} → IsTerm (name cell n ∷ to) to (named n None)
  indexed : {cell : Option Cell} {n : List ℕ} {i : ℕ} {to : Text}
      → IsTerm (name cell n ∷ left_square ∷ digits i ∷ right_square ∷ to) to (named n (Some i))
  one_bit : {b : Bool} {to : Text} → IsTerm (bit b ∷ to) to (constant b)

-- digits [ "." digits ]
pub data IsNum : Text → Text → Type 0 where
  whole : {n : ℕ} {to : Text} → IsNum (digits n ∷ to) to
  fraction : {n part : ℕ} {to : Text} → IsNum (digits n ∷ dot ∷ digits part ∷ to) to

-- num [ ":" num ":" num ]
pub data IsTime : Text → Text → Type 0 where
  single : {from to : Text} → IsNum from to → IsTime from to
  triple : {from typical greatest to : Text} → IsNum from (colon ∷ typical) → IsNum typical (colon ∷ greatest) → IsNum greatest to → IsTime from to

-- a time, as a member of a list
abbrev pub IsTimed : Text → Text → Unit {0} → Type 0
IsTimed from to says = IsTime from to

-- [ "#" time | "#" "(" time { "," time } ")" ]
pub data IsDelay : Text → Text → Type 0 where
  undelayed : {to : Text} → IsDelay to to
  by_time : {from to : Text} → IsTime from to → IsDelay (sharp ∷ from) to
  by_times : {from to : Text} {times : List (Unit {0})} → IsListed IsTimed from (right_round ∷ to) times → IsDelay (sharp ∷ left_round ∷ from) to

-- Declarations.

-- [ "[" digits ":" digits "]" ]
pub data IsRange : Text → Text → Option Range → Type 0 where
  unranged : {to : Text} → IsRange to to None
  ranged : {left right : ℕ} {to : Text}
      → IsRange (left_square ∷ digits left ∷ colon ∷ digits right ∷ right_square ∷ to) to (Some (record { left = left; right = right }))

-- the keyword of a direction
abbrev pub direction_word : code.Direction → Symbol
direction_word directions.Input = keyword words.Input
direction_word directions.Output = keyword words.Output

-- the keyword of a kind of net
abbrev pub net_word : code_net.Net → Symbol
net_word nets.Wire = keyword words.Wire
net_word nets.Supply0 = keyword words.Supply0
net_word nets.Supply1 = keyword words.Supply1

-- what a port's declaration says behind its direction
abbrev pub port_said : code.Direction → Option code_net.Net → Option Range → Says
port_said d net range = record { direction = Some d; net = net; range = range }

-- what the declaration of a net says
abbrev pub net_said : code_net.Net → Option Range → Says
net_said net range = record { direction = None; net = Some net; range = range }

-- [ "wire" ] [ range ], behind a direction
pub data IsPortSays (d : code.Direction) : Text → Text → Says → Type 0 where
  plain : {from to : Text} {r : Option Range} → IsRange from to r → IsPortSays d from to (port_said d None r)
  wire : {from to : Text} {r : Option Range} → IsRange from to r → IsPortSays d (keyword words.Wire ∷ from) to (port_said d (Some nets.Wire) r)

-- NAME, of which something is said
pub data IsDeclared (says : Says) : Text → Text → Declared → Type 0 where
  declares : {cell : Option Cell} {n : List ℕ} {to : Text} → IsDeclared says (name cell n ∷ to) to (record { says = says; name = n })

-- NAME, of a header that declares nothing
pub data IsPlainPort : Text → Text → List ℕ → Type 0 where
  bare_port : {cell : Option Cell} {n : List ℕ} {from to : Text} → AreAttributes from (name cell n ∷ to) → IsPlainPort from to n

-- dir | NAME, of a header that declares its ports
pub data IsHeaderPort : Text → Text → HeaderPort → Type 0 where
  with_direction : {d : code.Direction} {cell : Option Cell} {n : List ℕ} {from next to : Text} {says : Says} → AreAttributes from (direction_word d ∷ next)
      → IsPortSays d next (name cell n ∷ to) says → IsHeaderPort from to (record { says = Some says; name = n })
  without : {cell : Option Cell} {n : List ℕ} {from to : Text} → AreAttributes from (name cell n ∷ to) → IsHeaderPort from to (record { says = None; name = n })

-- a NAME without a direction takes over the direction and the range before it, and not the `wire`
abbrev pub taken_over : Says → Says
taken_over before = record { direction = before.direction; net = None; range = before.range }

-- what the ports of a header declare, after what is said before them
pub data AreCarried : Says → List HeaderPort → List Declared → Type 0 where
  carried_all : {before : Says} → AreCarried before [] []
  carried_on : {before : Says} {p : HeaderPort} {ps : List HeaderPort} {ds : List Declared} → AreCarried (unwrap_or p.says (taken_over before)) ps ds
      → AreCarried before (p ∷ ps) (record { says = unwrap_or p.says (taken_over before); name = p.name } ∷ ds)

-- nothing is said before the first port
abbrev pub nothing_said : Says
nothing_said = record { direction = None; net = None; range = None }

-- no port at all
abbrev pub no_ports : Ports
no_ports = record { header = []; declared = [] }

-- [ NAME { "," NAME } | dir { "," ( dir | NAME ) } ] ")"
pub data ArePorts : Text → Text → Ports → Type 0 where
  no_port : {to : Text} → ArePorts (right_round ∷ to) to no_ports
  plain_ports : {from to : Text} {names : List (List ℕ)} → IsListed IsPlainPort from (right_round ∷ to) names
      → ArePorts from to (record { header = names; declared = [] })
  declaring_ports : {from to : Text} {p : HeaderPort} {ps : List HeaderPort} {ds : List Declared} → IsListed IsHeaderPort from (right_round ∷ to) (p ∷ ps)
      → is_some p.says ≡ true → AreCarried nothing_said (p ∷ ps) ds →
      ArePorts from to (record { header = map (λ (q : HeaderPort). q.name) (p ∷ ps); declared = ds })

-- [ "(" [ ports ] ")" ] ";"
pub data IsHeader : Text → Text → Ports → Type 0 where
  portless : {to : Text} → IsHeader (semicolon ∷ to) to no_ports
  with_ports : {from to : Text} {ports : Ports} → ArePorts from (semicolon ∷ to) ports → IsHeader (left_round ∷ from) to ports

-- Gates, cells and assignments.

-- [ NAME ], the name of an instance, which says nothing
pub data IsLabel : Text → Text → Type 0 where
  unlabelled : {to : Text} → IsLabel to to
  labelled : {cell : Option Cell} {n : List ℕ} {to : Text} → IsLabel (name cell n ∷ to) to

-- term, by its place
pub data IsByPlace : Text → Text → Connection → Type 0 where
  by_place : {from to : Text} {t : Term} → IsTerm from to t → IsByPlace from to (place t)

-- [ term ], by its place
pub data IsPlace : Text → Text → Connection → Type 0 where
  nothing : {to : Text} → IsPlace to to empty
  something : {from to : Text} {t : Term} → IsTerm from to t → IsPlace from to (place t)

-- "." NAME "(" [ term ] ")"
pub data IsPin : Text → Text → Connection → Type 0 where
  unconnected : {cell : Option Cell} {n : List ℕ} {to : Text} → IsPin (dot ∷ name cell n ∷ left_round ∷ right_round ∷ to) to (pin n None)
  connected : {cell : Option Cell} {n : List ℕ} {from to : Text} {t : Term} → IsTerm from (right_round ∷ to) t
      → IsPin (dot ∷ name cell n ∷ left_round ∷ from) to (pin n (Some t))

-- [ conns ] ")", with conns = [ term ] { "," [ term ] } | pin { "," pin }. Where nothing stands there, there is no connection.
pub data AreConnections : Text → Text → List Connection → Type 0 where
  no_connection : {to : Text} → AreConnections (right_round ∷ to) to []
  places : {from to : Text} {cs : List Connection} → begins_with 41 from ≡ false → IsListed IsPlace from (right_round ∷ to) cs → AreConnections from to cs
  pins : {from to : Text} {cs : List Connection} → IsListed IsPin from (right_round ∷ to) cs → AreConnections from to cs

-- [ NAME ] "(" term { "," term } ")"
pub data IsGate (kind : Kind) : Text → Text → Component → Type 0 where
  gate : {from inside to : Text} {cs : List Connection} → IsLabel from (left_round ∷ inside) → IsListed IsByPlace inside (right_round ∷ to) cs
      → IsGate kind from to (record { shape = shapes.Gate kind; connections = cs })

-- [ NAME ] "(" [ conns ] ")"
pub data IsInstance (cell : Cell) : Text → Text → Component → Type 0 where
  instance : {from inside to : Text} {cs : List Connection} → IsLabel from (left_round ∷ inside) → AreConnections inside to cs
      → IsInstance cell from to (record { shape = shapes.Cell cell; connections = cs })

-- term "=" term
pub data IsAssignment : Text → Text → Component → Type 0 where
  assignment : {from next to : Text} {left right : Term} → IsTerm from (equals ∷ next) left → IsTerm next to right
      → IsAssignment from to (record { shape = shapes.Assign; connections = place left ∷ place right ∷ [] })

-- Items and modules.

-- what declarations add, and what components add
abbrev pub declaring : List Declared → Adds
declaring ds = record { declared = ds; parts = [] }

abbrev pub placing : List Component → Adds
placing ps = record { declared = []; parts = ps }

-- dir { "," NAME } ";" | net [ range ] NAME { "," NAME } ";" | "assign" [ delay ] assignment { "," assignment } ";"
-- | KIND [ delay ] gate { "," gate } ";" | CELLNAME inst { "," inst } ";"
pub data IsItem : Text → Text → Adds → Type 0 where
  port_item : {d : code.Direction} {from next to : Text} {says : Says} {ds : List Declared} → IsPortSays d from next says
      → IsListed (IsDeclared says) next (semicolon ∷ to) ds → IsItem (direction_word d ∷ from) to (declaring ds)
  net_item : {net : code_net.Net} {from next to : Text} {r : Option Range} {ds : List Declared} → IsRange from next r
      → IsListed (IsDeclared (net_said net r)) next (semicolon ∷ to) ds → IsItem (net_word net ∷ from) to (declaring ds)
  assign_item : {from next to : Text} {ps : List Component} → IsDelay from next → IsListed IsAssignment next (semicolon ∷ to) ps
      → IsItem (keyword words.Assign ∷ from) to (placing ps)
  gate_item : {kind : Kind} {from next to : Text} {ps : List Component} → IsDelay from next → IsListed (IsGate kind) next (semicolon ∷ to) ps
      → IsItem (keyword (words.Gate kind) ∷ from) to (placing ps)
  cell_item : {cell : Cell} {n : List ℕ} {from to : Text} {ps : List Component} → IsListed (IsInstance cell) from (semicolon ∷ to) ps
      → IsItem (name (Some cell) n ∷ from) to (placing ps)

-- what two items add, one after the other
abbrev pub together : Adds → Adds → Adds
together a b = record { declared = a.declared ++ b.declared; parts = a.parts ++ b.parts }

-- { attributes item } "endmodule"
pub data AreItems : Text → Text → Adds → Type 0 where
  no_item : {to : Text} → AreItems (keyword words.Endmodule ∷ to) to (declaring [])
  one_item : {from here next to : Text} {x xs : Adds} → AreAttributes from here → IsItem here next x → AreItems next to xs
      → AreItems from to (together x xs)

-- what a module says
abbrev pub module_said : Ports → Adds → Module
module_said ports adds = record { header = ports.header; declared = ports.declared ++ adds.declared; parts = adds.parts }

-- NAME header { item } "endmodule", behind a `module`. A cell's name is no top module's.
pub data IsTop : Text → Text → Module → Type 0 where
  top : {n : List ℕ} {from next to : Text} {ports : Ports} {adds : Adds} → IsHeader from next ports → AreItems next to adds
      → IsTop (name None n ∷ from) to (module_said ports adds)

-- any symbol but `endmodule` and the end of the text may stand in a cell's module
abbrev pub is_passed : Symbol → Bool
is_passed (keyword words.Endmodule) = false
is_passed finish = false
is_passed _ = true

-- { symbol } "endmodule"
pub data IsPassed : Text → Text → Type 0 where
  ended : {to : Text} → IsPassed (keyword words.Endmodule ∷ to) to
  passing : {s : Symbol} {from to : Text} → is_passed s ≡ true → IsPassed from to → IsPassed (s ∷ from) to

-- { attributes "module" CELLNAME { symbol } "endmodule" }
pub data AreCells : Text → Text → Type 0 where
  no_cell : {to : Text} → AreCells to to
  one_cell : {cell : Cell} {n : List ℕ} {from inside next to : Text} → AreAttributes from (keyword words.Module ∷ name (Some cell) n ∷ inside)
      → IsPassed inside next → AreCells next to → AreCells from to

-- cells, attributes "module" top, cells, up to the end of the text
pub data IsNetlistText : Text → Module → Type 0 where
  netlist : {from here next after : Text} {m : Module} → AreCells from here → AreAttributes here (keyword words.Module ∷ next) → IsTop next after m
      → AreCells after (finish ∷ []) → IsNetlistText from m
