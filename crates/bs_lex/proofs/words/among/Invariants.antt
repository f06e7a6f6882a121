use Rattle.std.proofs.Common.{◌≡◌, drop}
use Rattle.std.specs.Str.{bytes_eq}
use Rattle.bs_lex.specs.Lexemes.{first_by}
use Rattle.bs_lex.proofs.words.among.Given as goal

abbrev pub invariant-entries : goal.invariant-entries
invariant-entries g l = record {
  left : first_by (λ e. bytes_eq l.name e.0.now) (λ e. e.1) (drop l.entry-index l.table) ≡ first_by (λ e. bytes_eq l.name e.0.now) (λ e. e.1) l.table;
}
