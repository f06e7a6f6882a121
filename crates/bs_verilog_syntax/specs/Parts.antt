-- Gates, cells and assignments.
use Rattle.std.specs.Prelude.{Bool, true, false, ◌&&◌, if◌then◌else◌, List, [], ◌∷◌, Some, None, Ok, Err}
use Rattle.bs_net.specs.declared.gate.Kind.{Kind}
use Rattle.bs_lex.specs.declared.lexeme.Cell.{Cell}
use Rattle.bs_lex.specs.declared.lexeme.Name.{Name}
use Rattle.bs_lex.specs.declared.lexeme.Sort.{Sort}
use Rattle.bs_lex.specs.declared.lexeme.Word.TheVariants as words
use Rattle.bs_lex.specs.declared.lexeme.Sort.TheVariants as sorts
use Rattle.bs_verilog_syntax.specs.declared.tree.Component.{Component}
use Rattle.bs_verilog_syntax.specs.declared.tree.Shape.TheVariants as shapes
use Rattle.bs_verilog_syntax.specs.declared.tree.Connection as code_connection
use Rattle.bs_verilog_syntax.specs.declared.tree.Connection.TheVariants.{Empty, Place, Pin}
use Rattle.bs_verilog_syntax.specs.declared.fault.What.TheVariants as what
use Rattle.bs_verilog_syntax.specs.declared.fault.VerilogFault.TheVariants.{Unsupported}
use Rattle.bs_bits.specs.Reading.{◌>>=◌}
use Rattle.bs_verilog_syntax.specs.Reading.{Rest, Read, Skip, at, sort, rest, is_at, expect, expect_name, listed}
use Rattle.bs_lex.specs.Lexemes.{is_name}
use Rattle.bs_verilog_syntax.specs.Terms.{term, delay}
use Rattle.bs_verilog_syntax.specs.declared.reading.Due.TheVariants as due

-- a term, by place
unfoldable pub by_place : Rest → Read code_connection.Connection
by_place ts = do
  t ← term ts
  Ok (Place t.0, t.1)

-- an instance name, if there is one
abbrev pub instance_name : Rest → Rest
instance_name ts = if is_name (sort ts) then rest ts else ts

-- its `(`
abbrev pub opened : Rest → Rest → Skip
opened ts here = expect "(" (if is_name (sort ts) then due.AfterInstance else due.Nothing) here

-- [ NAME ] "(" term { "," term } ")"
unfoldable pub gate : Kind → Rest → Read Component
gate kind ts = do
  inside ← opened ts (instance_name ts)
  terms ← listed by_place inside
  after ← expect ")" due.AfterTerm terms.1
  Ok (record { shape = shapes.Gate kind; at = at (instance_name ts); connections = terms.0 }, after)

-- [ term ]
unfoldable pub place : Rest → Read code_connection.Connection
place ts = if is_at ",)" ts then Ok (Empty, ts) else by_place ts

-- [ term ] ")" of a pin with a name
abbrev pub pin_term : Name → Rest → Read code_connection.Connection
pin_term n inside =
    if is_at ")" inside then Ok (Pin n None, rest inside)
    else (do
      t ← term inside
      after ← expect ")" due.AfterTerm t.1
      Ok (Pin n (Some t.0), after))

-- "." NAME "(" [ term ] ")"
unfoldable pub pin : Rest → Read code_connection.Connection
pin ts = do
  dot ← expect "." due.Nothing ts
  n ← expect_name dot
  inside ← expect "(" due.Nothing n.1
  pin_term n.0 inside

-- pin { "," pin } ")"
abbrev pub pins : Rest → Read (List code_connection.Connection)
pins ts = do
  all ← listed pin ts
  after ← expect ")" due.Nothing all.1
  Ok (all.0, after)

-- place { "," place } ")"
abbrev pub places : Rest → Read (List code_connection.Connection)
places ts = do
  all ← listed place ts
  after ← expect ")" due.AfterTerm all.1
  Ok (all.0, after)

-- [ conns ] ")"
unfoldable pub connections : Rest → Read (List code_connection.Connection)
connections ts = if is_at ")" ts then Ok ([], rest ts) else if is_at "." ts then pins ts else places ts

-- [ NAME ] "(" [ conns ] ")"
unfoldable pub instance : Cell → Rest → Read Component
instance cell ts = do
  inside ← opened ts (instance_name ts)
  all ← connections inside
  Ok (record { shape = shapes.Cell cell; at = at (instance_name ts); connections = all.0 }, all.1)

-- term "=" term
unfoldable pub assignment : Rest → Read Component
assignment ts = do
  left ← term ts
  equals ← expect "=" due.AfterTerm left.1
  right ← term equals
  Ok (record { shape = shapes.Assign; at = at ts; connections = Place left.0 ∷ Place right.0 ∷ [] }, right.1)

-- a drive strength
abbrev pub is_strength : Sort → Bool
is_strength (sorts.Word words.Strength) = true
is_strength (sorts.Word words.Supply0) = true
is_strength (sorts.Word words.Supply1) = true
is_strength _ = false

-- The statements after their first word, up to and with `;`.

-- [ delay ] gate { "," gate } ";"
unfoldable pub gates : Kind → Rest → Read (List Component)
gates kind ts =
    if is_at "(" ts && is_strength (sort (rest ts)) then Err (Unsupported (at (rest ts)) what.Strength)
    else (do
      first ← delay ts
      parts ← listed (gate kind) first
      after ← expect ";" due.Nothing parts.1
      Ok (parts.0, after))

-- inst { "," inst } ";"
unfoldable pub instances : Cell → Rest → Read (List Component)
instances cell ts =
    if is_at "#" ts then Err (Unsupported (at ts) what.Parameter)
    else (do
      parts ← listed (instance cell) ts
      after ← expect ";" due.Nothing parts.1
      Ok (parts.0, after))

-- [ delay ] term "=" term { "," term "=" term } ";"
unfoldable pub assignments : Rest → Read (List Component)
assignments ts = do
  first ← delay ts
  parts ← listed assignment first
  after ← expect ";" due.AfterTerm parts.1
  Ok (parts.0, after)
