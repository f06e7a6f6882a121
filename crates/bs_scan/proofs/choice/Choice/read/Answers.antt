use Rattle.std.proofs.Common.{arith}
use Rattle.bs_scan.proofs.ItemLemmas.{bytes_within}
use Rattle.bs_scan.proofs.choice.Choice.read.Goals as goal

pub read_from-requires-in-None-clause-bytes : goal.read_from-requires-in-None-clause-bytes
read_from-requires-in-None-clause-bytes c = omega (arith, bytes_within c.args.bytes.now, c.requires)
