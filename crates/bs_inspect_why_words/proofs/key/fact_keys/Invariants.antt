use Rattle.std.proofs.Common.{◌≡◌, map, take}
use Rattle.bs_net.specs.Netlist.{parts_of}
use Rattle.bs_inspect_why_words.specs.Facts.{fact_keys}
use Rattle.bs_inspect_why_words.proofs.key.fact_keys.Given as goal

abbrev pub invariant-facts : goal.invariant-facts
invariant-facts l = map (λ s. s.now) l.keys.items ≡ fact_keys (parts_of l.raw) (take l.fact-index l.facts)
