use Rattle.bs_inspect_why_words.specs.Blocks.{Appends}
use Rattle.bs_inspect_why_words.proofs.BlockLemmas.{TellsSome}
use Rattle.bs_inspect_why_words.proofs.block.push_stretches.Given as goal

abbrev pub invariant-stretches : goal.invariant-stretches
invariant-stretches l = Appends (TellsSome l.moments l.limits l.facts l.begins l.j) l.initial.text.items l.text.items
