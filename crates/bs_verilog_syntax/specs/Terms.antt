-- Terms, delays and attributes.
use Rattle.std.specs.Prelude.{ℕ, Bool, true, false, if◌then◌else◌, [], ◌∷◌, Option, Some, None, Ok, Err}
use Rattle.bs_lex.specs.declared.lexeme.Sort.{Sort}
use Rattle.bs_lex.specs.declared.lexeme.Sort.TheVariants as sorts
use Rattle.bs_verilog_syntax.specs.declared.reading.AttributeStep.{AttributeStep}
use Rattle.bs_verilog_syntax.specs.declared.reading.AttributeStep.TheVariants.{On, Over, Unclosed}
use Rattle.bs_verilog_syntax.specs.declared.tree.Term as code
use Rattle.bs_verilog_syntax.specs.declared.tree.Term.TheVariants.{Constant, Named}
use Rattle.bs_verilog_syntax.specs.declared.fault.VerilogFault.TheVariants.{Syntax}
use Rattle.bs_bits.specs.Reading.{◌>>=◌}
use Rattle.bs_verilog_syntax.specs.Reading.{Rest, Read, Skip, at, sort, rest, name, bit, is_at, refused, expect, expect_digits, listed}
use Rattle.bs_lex.specs.Lexemes.{is_name}
use Rattle.bs_verilog_syntax.specs.declared.reading.Due.TheVariants as due

-- [ "[" digits "]" ]
unfoldable pub index : Rest → Read (Option ℕ)
index ts =
    if is_at "[" ts then (do
      number ← expect_digits (rest ts)
      after ← expect "]" due.AfterIndex number.1
      Ok (Some number.0, after))
    else Ok (None, ts)

-- NAME [ "[" digits "]" ] | ONE-BIT
unfoldable pub term : Rest → Read code.Term
term ts =
    elim (bit (sort ts)) [
      | Some b ↦ Ok (Constant (at ts) b, rest ts)
      | None ↦
          if is_name (sort ts) then (do
            i ← index (rest ts)
            Ok (Named (name ts) i.0, i.1))
          else Err (refused due.Term ts)
    ]

-- digits [ "." digits ]
unfoldable pub num : Rest → Skip
num ts = do
  whole ← expect_digits ts
  if is_at "." whole.1
      then (do
        part ← expect_digits (rest whole.1)
        Ok part.1)
      else Ok whole.1

-- num [ ":" num ":" num ]
unfoldable pub time : Rest → Skip
time ts = do
  low ← num ts
  if is_at ":" low
      then (do
        typical ← num (rest low)
        colon ← expect ":" due.Nothing typical
        num colon)
      else Ok low

-- the same, as a member of a list
unfoldable pub timed : Rest → Read Bool
timed ts = do
  after ← time ts
  Ok (true, after)

-- [ "#" time | "#" "(" time { "," time } ")" ]
unfoldable pub delay : Rest → Skip
delay ts =
    if is_at "#" ts then
    (if is_at "(" (rest ts) then (do
      times ← listed timed (rest (rest ts))
      expect ")" due.Nothing times.1)
    else time (rest ts))
    else Ok ts

-- what one lexeme is to attributes; the flag says that one is open. Any lexemes but the end and `*)` may stand inside.
abbrev pub attribute_step : Bool → Sort → AttributeStep
attribute_step true sorts.AttrClose = On false
attribute_step true sorts.End = Unclosed
attribute_step true _ = On true
attribute_step false sorts.AttrOpen = On true
attribute_step false _ = Over

-- after attributes, of which one may be open
unfoldable pub attributes_from : Bool → Rest → Skip
attributes_from inside [] = Ok []
attributes_from inside (t ∷ ts) = elim (attribute_step inside t.sort) [ On next ↦ attributes_from next ts | Over ↦ Ok (t ∷ ts) | Unclosed ↦ Err (Syntax t.at) ]

-- after attributes
abbrev pub attributes : Rest → Skip
attributes ts = attributes_from false ts
