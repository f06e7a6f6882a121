use Rattle.std.proofs.Common.{◌≡◌, ℕ, ◌<◌, get_or, length, take, None}
use Rattle.bs_scan.specs.ChoiceText.{flop_of_net}
use Rattle.bs_scan.proofs.flops.flops_by_net.Given as goal

abbrev pub invariant-flops : goal.invariant-flops
invariant-flops l = record {
  every_net : length l.table.items ≡ length l.net.raw.names;
  noted : (n : ℕ) → n < length l.net.raw.names → get_or l.table.items n None ≡ flop_of_net (take l.i l.net.raw.flops) n;
}
