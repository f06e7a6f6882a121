use Rattle.bs_net.specs.Netlist.{circuit}
use Rattle.bs_stim.specs.Runs.{inputs_of}
use Rattle.bs_inspect_near.proofs.NearLemmas.{count_small}
use Rattle.bs_inspect_near.proofs.near.other_text.Goals as goal

pub push_hints-requires : goal.push_hints-requires
push_hints-requires c =
    count_small (circuit c.args.net.now) (inputs_of c.args.runs.now) c.args.near c.args.seen.now c.raw-raw.ensures.bounded c.requires.nearest
    c.requires.size
