use Rattle.std.proofs.Common.{◌≡◌, map}
use Rattle.std.specs.List.{range_with_len}
use Rattle.bs_inspect_html.specs.Reads.{is_read}
use Rattle.bs_inspect_html.proofs.reads.reads_of.Given as goal

abbrev pub invariant-flops : goal.invariant-flops
invariant-flops l = l.bits ≡ map (is_read l.choice.items) (range_with_len 0 l.place)
