use Rattle.std.proofs.Common.{◌≡◌, ◌≤◌, drop, min}
use Rattle.bs_lex.specs.Lexemes.{decimal_from}
use Rattle.bs_lex.proofs.words.saturated.Given as goal

abbrev pub invariant-digits : goal.invariant-digits
invariant-digits l = record {
  so_far : min (decimal_from l.number (drop l.digit-index l.digits)) 65536 ≡ min (decimal_from 0 l.digits) 65536;
  bound : l.number ≤ 65536;
}
