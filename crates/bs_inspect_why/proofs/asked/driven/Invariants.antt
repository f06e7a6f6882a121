use Rattle.std.proofs.Common.{◌≡◌, map, take}
use Rattle.std.specs.List.{flat_map}
use Rattle.bs_net.specs.Netlist.{circuit}
use Rattle.bs_inspect_view.specs.Signals.{member_in}
use Rattle.bs_inspect_why.specs.Question.{asked_net}
use Rattle.bs_inspect_why.proofs.asked.driven.Given as goal

abbrev pub invariant-members : goal.invariant-members
invariant-members l = l.nets.items ≡ flat_map (asked_net (circuit l.net)) (map member_in (take l.member-index l.members))
