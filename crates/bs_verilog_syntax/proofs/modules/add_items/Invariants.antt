use Rattle.std.proofs.Common.{◌-◌}
use Rattle.bs_verilog_syntax.proofs.BodyLemmas.{AreItems}
use Rattle.bs_verilog_syntax.proofs.modules.add_items.Given as goal

abbrev pub invariant-items : goal.invariant-items
invariant-items l = AreItems l.adds (l.bound - l.counter) l.rest l.ts
