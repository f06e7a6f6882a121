-- Items, modules, and the whole text: the second pass.
use Rattle.std.specs.Prelude.{ℕ, zero, suc, ◌+◌, Bool, true, false, if◌then◌else◌, List, [], ◌∷◌, ◌++◌, length, Some, None, Result, Ok, Err}
use Rattle.bs_lex.specs.declared.lexeme.Sort.{Sort}
use Rattle.bs_lex.specs.declared.lexeme.Word.TheVariants as words
use Rattle.bs_lex.specs.declared.lexeme.Sort.TheVariants as sorts
use Rattle.bs_verilog_syntax.specs.declared.tree.Module.{Module}
use Rattle.bs_verilog_syntax.specs.declared.tree.Declared.{Declared}
use Rattle.bs_verilog_syntax.specs.declared.tree.Adds.{Adds}
use Rattle.bs_verilog_syntax.specs.declared.tree.Component.{Component}
use Rattle.bs_verilog_syntax.specs.declared.fault.What.TheVariants as what
use Rattle.bs_verilog_syntax.specs.declared.fault.VerilogFault.{VerilogFault}
use Rattle.bs_verilog_syntax.specs.declared.fault.VerilogFault.TheVariants.{Syntax, Unsupported}
use Rattle.bs_bits.specs.Reading.{◌>>=◌}
use Rattle.bs_verilog_syntax.specs.Reading.{Rest, Read, Skip, at, sort, rest, refused, expect_name}
use Rattle.bs_lex.specs.Lexemes.{is_name}
use Rattle.bs_verilog_syntax.specs.Terms.{attributes}
use Rattle.bs_verilog_syntax.specs.Declarations.{direction, net, port_says, net_says, names, header}
use Rattle.bs_verilog_syntax.specs.Parts.{gates, instances, assignments}
use Rattle.bs_verilog_syntax.specs.declared.reading.Due.TheVariants as due

-- what an item adds
abbrev pub declares : Read (List Declared) → Read Adds
declares ds = ds >>= λ x. Ok (record { declared = x.0; parts = [] }, x.1)

-- what a statement of parts adds
abbrev pub places : Read (List Component) → Read Adds
places ps = ps >>= λ x. Ok (record { declared = []; parts = x.0 }, x.1)

-- an assignment, gates or cells
abbrev pub statement : Sort → Rest → Read Adds
statement (sorts.Word words.Assign) ts = places (assignments (rest ts))
statement (sorts.Word (words.Gate kind)) ts = places (gates kind (rest ts))
statement (sorts.Name (Some cell)) ts = places (instances cell (rest ts))
statement _ ts = Err (refused due.Item ts)

-- a declaration or a statement
unfoldable pub item : Rest → Read Adds
item ts =
    elim (direction (sort ts)) [
      | Some d ↦ port_says d (rest ts) >>= (λ says. declares (names says.0 says.1))
      | None ↦
          elim (net (sort ts)) [
            | Some n ↦ net_says n (rest ts) >>= (λ says. declares (names says.0 says.1))
            | None ↦ statement (sort ts) ts
          ]
    ]

-- "endmodule"
abbrev pub is_endmodule : Sort → Bool
is_endmodule (sorts.Word words.Endmodule) = true
is_endmodule _ = false

-- what two items add, one after the other
abbrev pub together : Adds → Adds → Adds
together a b = record { declared = a.declared ++ b.declared; parts = a.parts ++ b.parts }

-- items up to and with `endmodule`; the number is a bound that is never met
unfoldable pub items : ℕ → Rest → Read Adds
items zero ts = Err (refused due.Nothing ts)
items (suc n) ts =
    if is_endmodule (sort ts) then Ok (record { declared = []; parts = [] }, rest ts)
    else (do
      here ← attributes ts
      first ← item here
      others ← items n first.1
      Ok (together first.0 others.0, others.1))

-- a module after its `module`
unfoldable pub top : Rest → Read Module
top ts = do
  n ← expect_name ts
  head ← header n.1
  body ← items (length head.1 + 1) head.1
  Ok (record { header = head.0.header; declared = head.0.declared ++ body.0.declared; parts = body.0.parts }, body.1)

-- the end of the text
abbrev pub is_end : Sort → Bool
is_end sorts.End = true
is_end _ = false

-- after the next `endmodule`, whatever stands before it
unfoldable pub skipped : Rest → Skip
skipped [] = Ok []
skipped (t ∷ ts) = if is_endmodule t.sort then Ok ts else if is_end t.sort then Err (Syntax t.at) else skipped ts

-- a cell's name is next
abbrev pub is_cell : Sort → Bool
is_cell (sorts.Name (Some cell)) = true
is_cell _ = false

-- "module"
abbrev pub is_module : Sort → Bool
is_module (sorts.Word words.Module) = true
is_module _ = false

-- attributes and `module`
unfoldable pub begun : Rest → Skip
begun ts = do
  here ← attributes ts
  if is_module (sort here) then Ok (rest here) else Err (refused due.Module here)

-- a cell after the top module
unfoldable pub further : Rest → Skip
further ts = do
  here ← attributes ts
  inside ← begun here
  if is_cell (sort inside)
      then skipped inside
      else if is_name (sort inside) then Err (Unsupported (at here) what.Hierarchy)
      else Err (refused due.Nothing inside)

-- cells up to the end of the text; the number is a bound that is never met
unfoldable pub cells : ℕ → Rest → Skip
cells zero ts = Err (refused due.Nothing ts)
cells (suc n) ts = if is_end (sort ts) then Ok ts else further ts >>= cells n

-- cells up to the top module, and its `module`
unfoldable pub leading : ℕ → Rest → Skip
leading zero ts = Err (refused due.Nothing ts)
leading (suc n) ts = begun ts >>= λ inside. if is_cell (sort inside) then skipped inside >>= leading n else Ok inside

-- What a text's lexemes say, or the first fault of the second pass: { cell } top { cell }
unfoldable pub syntax_of : Rest → Result Module VerilogFault
syntax_of ts = do
  inside ← leading (length ts + 1) ts
  m ← top inside
  after ← cells (length m.1 + 1) m.1
  Ok m.0
