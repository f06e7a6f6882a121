use Rattle.bs_bits.specs.Lines.{lines_of}
use Rattle.bs_scan.proofs.ItemLemmas.{bytes_behind}
use Rattle.bs_scan.proofs.choice_text.rest_behind_two.Goals as goal

pub returns-then-is_same-clause-short : goal.returns-then-is_same-clause-short
returns-then-is_same-clause-short c =
    bytes_behind c.args.bytes.now c.in-Some.line.now (lines_of c.in-Some.rest.now) c.in-Some.ensures
