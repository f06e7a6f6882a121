use Rattle.std.proofs.Common.{◌≡◌, ◌++◌}
use Rattle.bs_gen.specs.Each.{each}
use Rattle.bs_gen.specs.Gates.{feed_line}
use Rattle.bs_gen.proofs.gates.push_feeds.Given as goal

abbrev pub invariant-loop-register : goal.invariant-loop-register
invariant-loop-register l = l.text.items ≡ l.initial.text.items ++ each feed_line 0 l.register
