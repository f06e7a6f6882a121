use Rattle.std.proofs.Common.{◌≡◌, map, drop}
use Rattle.bs_net.specs.Netlist.{parts_of}
use Rattle.bs_inspect_names.specs.Called.{first_unnamed}
use Rattle.bs_inspect_names.proofs.called.unnamed_among.Given as goal

abbrev pub invariant-names : goal.invariant-names
invariant-names l =
    first_unnamed (parts_of l.raw) (map (λ s. s.now) l.names) ≡ first_unnamed (parts_of l.raw) (map (λ s. s.now) (drop l.name-index l.names))
