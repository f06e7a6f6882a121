-- Instance statements.
use Rattle.std.specs.Prelude.{if◌then◌else◌, List, Ok, Err}
use Rattle.bs_lex.specs.declared.lexeme.Name.{Name}
use Rattle.bs_flat_meaning.specs.declared.statements.Written.{Written}
use Rattle.bs_verilog_syntax.specs.declared.fault.What.TheVariants as what
use Rattle.bs_verilog_syntax.specs.declared.fault.VerilogFault.TheVariants.{Unsupported}
use Rattle.bs_verilog_syntax.specs.declared.reading.Due.TheVariants as due
use Rattle.bs_bits.specs.Reading.{◌>>=◌}
use Rattle.bs_verilog_syntax.specs.Reading.{Rest, Read, at, rest, name, is_at, expect, expect_name, listed}
use Rattle.bs_verilog_syntax.specs.Parts.{connections}

-- NAME "(" [ conns ] ")"
unfoldable pub one_instance : Name → Rest → Read Written
one_instance of ts = do
  n ← expect_name ts
  inside ← expect "(" due.AfterInstance n.1
  all ← connections inside
  Ok (record { of = of; name = n.0; connections = all.0 }, all.1)

-- NAME inst { "," inst } ";"
unfoldable pub instancing : Rest → Read (List Written)
instancing ts =
    if is_at "#" (rest ts) then Err (Unsupported (at (rest ts)) what.Parameter)
    else (do
      all ← listed (one_instance (name ts)) (rest ts)
      after ← expect ";" due.Nothing all.1
      Ok (all.0, after))
