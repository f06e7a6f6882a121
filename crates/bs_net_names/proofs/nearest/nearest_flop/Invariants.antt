use Rattle.std.proofs.Common.{◌≡◌, ℕ, ◌<◌, ◌≤◌, length}
use Rattle.bs_net.specs.Netlist.{parts_of}
use Rattle.bs_net_names.specs.Nearest.{flop_apart}
use Rattle.bs_net_names.proofs.nearest.nearest_flop.Given as goal

abbrev pub invariant-flops : goal.invariant-flops
invariant-flops l = record {
  there : l.nearest < length l.raw.flops;
  least : l.least ≡ flop_apart (parts_of l.raw) l.name l.nearest;
  lowest : (flop : ℕ) → flop < l.flop → l.least ≤ flop_apart (parts_of l.raw) l.name flop;
  first : (flop : ℕ) → flop < l.nearest → l.least < flop_apart (parts_of l.raw) l.name flop;
  seen : l.nearest < l.flop;
}
