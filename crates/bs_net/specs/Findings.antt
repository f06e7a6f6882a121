-- What the check finds beside the parts.
use Rattle.std.specs.Prelude.{◌≡◌, map}
use Rattle.bs_net.specs.Parts.{Parts}
use Rattle.bs_net.specs.declared.netlist.Findings.{Findings}
use Rattle.bs_net.specs.Netlist.{clock_of, without}
use Rattle.bs_net.specs.Order.{IsOrder}

-- the clock, the other input port bits, an order of the gates, and the reset state
pub record Finds (r : Parts) (f : Findings) : Type 0 where
  pub clock : f.clock ≡ clock_of r.flops
  pub inputs : f.data_inputs ≡ without (clock_of r.flops) r.inputs
  pub ordered : IsOrder r.gates f.order
  pub reset : f.reset ≡ map (λ k. k.reset) r.flops
