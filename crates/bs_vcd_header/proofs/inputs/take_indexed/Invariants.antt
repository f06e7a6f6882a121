use Rattle.std.proofs.Common.{◌≡◌, map, drop}
use Rattle.bs_vcd_header.specs.Header.{declared_in}
use Rattle.bs_vcd_header.specs.Sources.{inputs_behind}
use Rattle.bs_vcd_header.proofs.inputs.take_indexed.Given as goal

abbrev pub invariant-keys : goal.invariant-keys
invariant-keys l =
    inputs_behind l.initial.into.items 0 (declared_in l.declared) l.path (map (λ key. key.now) l.keys)
    ≡ inputs_behind l.into.items l.i (declared_in l.declared) l.path (map (λ key. key.now) (drop l.i l.keys))
