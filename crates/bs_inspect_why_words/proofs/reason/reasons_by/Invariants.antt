use Rattle.bs_net.specs.Netlist.{parts_of}
use Rattle.bs_inspect_why_words.specs.Reasons.{AreReasons}
use Rattle.bs_inspect_why_words.proofs.reason.reasons_by.Given as goal

abbrev pub invariant-stretches : goal.invariant-stretches
invariant-stretches l = AreReasons (parts_of l.raw) l.most l.facts l.begins l.j l.reasons.items
