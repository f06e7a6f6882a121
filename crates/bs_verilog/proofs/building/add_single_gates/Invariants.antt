use Rattle.std.proofs.Common.{◌≡◌, ◌++◌, [], ◌∷◌, map, take}
use Rattle.bs_verilog.proofs.building.add_single_gates.Given as goal

abbrev pub invariant-outputs : goal.invariant-outputs
invariant-outputs l =
    l.gates ≡ l.initial.gates ++ map (λ out. record { kind = l.kind; out = out; ins = l.input ∷ [] }) (take l.out-index l.outputs)
