use Rattle.bs_encode.proofs.CycleLemmas.{encodes_cycles}
use Rattle.bs_encode.proofs.law.encodings_are_cycles.Goals as goal

pub returns : goal.returns
returns c = encodes_cycles c.args.net.now.raw c.raw-raw.ensures.placed c.raw-raw.ensures.checked
