-- What the fields of a checked netlist keep.
use Rattle.std.specs.Prelude.{◌≡◌, map}
use Rattle.bs_net.specs.declared.netlist.Netlist.TheInside.{Inside}
use Rattle.bs_net.specs.Netlist.{parts_of, circuit_of}
use Rattle.bs_net.specs.Parts.{PartsArePlaced}
use Rattle.bs_net.specs.Order.{IsChecked, IsBounded, IsOrder}

-- the fields beside the parts are what the parts say, the parts are placed, the circuit is checked and within the limits, and the order is one
pub record IsCheckedInside (n : Inside) : Type 0 where
  pub clock : n.clock ≡ (circuit_of (parts_of n.raw)).clock
  pub inputs : n.data_inputs ≡ (circuit_of (parts_of n.raw)).inputs
  pub reset : n.reset ≡ map (λ f. f.reset) n.raw.flops
  pub placed : PartsArePlaced (parts_of n.raw)
  pub checked : IsChecked (circuit_of (parts_of n.raw))
  pub bounded : IsBounded (circuit_of (parts_of n.raw))
  pub ordered : IsOrder n.raw.gates n.order
