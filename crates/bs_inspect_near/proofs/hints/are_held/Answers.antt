use Rattle.std.proofs.Common.{get_or, refl, arith}
use Rattle.std.specs.Prelude.{◌==◌}
use Rattle.std.proofs.lemmas.List.{get_or_default}
use Rattle.bs_net.specs.Circuit.{reset_state}
use Rattle.bs_net.specs.Netlist.{circuit}
use Rattle.bs_stim.specs.Runs.{inputs_of}
use Rattle.bs_inspect_near.specs.Nearest.{no_near}
use Rattle.bs_inspect_near.proofs.HintLemmas.{asked_there, held_told}
use Rattle.bs_inspect_near.proofs.hints.are_held.Goals as goal

pub returns : goal.returns
returns c =
    held_told (circuit c.args.net.now) (inputs_of c.args._runs.now) c.args._seen.now c.args.nears.now (get_or c.args.nears.now 6 no_near)
    c.width.result ((get_or c.args.nears.now 6 no_near).count == c.width.result) c.requires
    (get_or_default c.args.nears.now 6 no_near (get_or c.args.nears.now 6 no_near)
    (asked_there (circuit c.args.net.now) (inputs_of c.args._runs.now) (reset_state (circuit c.args.net.now)) c.args._seen.now c.args.nears.now 6
    c.requires (omega arith)))
    c.width.ensures refl
