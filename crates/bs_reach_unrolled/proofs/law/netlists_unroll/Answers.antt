use Rattle.std.proofs.Common.{[]}
use Rattle.bs_net.specs.Netlist.{circuit}
use Rattle.bs_encode.specs.Encoded.{encoding_of}
use Rattle.bs_reach_unrolled.proofs.UnrolledLemmas.{transition_unrolls, one_frame}
use Rattle.bs_reach_unrolled.proofs.law.netlists_unroll.Goals as goal

pub returns : goal.returns
returns c =
    transition_unrolls (circuit c.args.net.now) (encoding_of (circuit c.args.net.now) []) c.args.k
    (one_frame (circuit c.args.net.now) c.encodings_are_cycles.ensures) c.requires.cycles c.requires.room
