use Rattle.bs_stim.specs.Packing.{HasWritten}
use Rattle.bs_stim.proofs.packed.write_bits.Given as goal

abbrev pub invariant-characters : goal.invariant-characters
invariant-characters l = HasWritten l.start l.characters l.place l.initial.words.items l.words.items
