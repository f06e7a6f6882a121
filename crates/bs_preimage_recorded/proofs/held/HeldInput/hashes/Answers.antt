use Rattle.std.proofs.Common.{◌≤◌, ◌*◌, ℕ, List, ap, subst, sym}
use Rattle.bs_net.specs.Netlist.{circuit}
use Rattle.bs_lanes.specs.Lanes.{AreStepped}
use Rattle.bs_lanes.specs.Planes.{lane}
use Rattle.bs_chip.specs.Hashes.{hash_of, ListsEach}
use Rattle.bs_preimage_recorded.specs.Forward.{Holding, TellLeads}
use Rattle.bs_preimage_recorded.specs.Groups.{parities_of}
use Rattle.bs_preimage_recorded.proofs.ForwardLemmas.{leads_told}
use Rattle.bs_preimage_recorded.proofs.held.HeldInput.hashes.Goals as goal

pub returns-clause-hashes : goal.returns-clause-hashes
returns-clause-hashes c =
    let i = c.self.inside in
    let h : Holding = record { circuit = circuit i.lanes.net; wide = i.lanes.wide; input = i.input; value = i.value; groups = i.groups } in
    let hashes = c.in_ok-hashes.hashes in
    subst (λ (h : Holding). TellLeads h c.args.planes.now hashes c.args.lanes) c.self.view_is
    (leads_told h c.load.new.self c.step.new.self i.inputs.words c.args.planes.now hashes c.args.lanes c.wide-wide.result i.width c.self.invariant
    (ap circuit c.load.ensures.same.net) c.load.ensures.same.wide c.load.ensures.flops c.step.ensures.same
    (subst (λ (ws : List ℕ). AreStepped c.load.new.self c.step.new.self ws) c.words.ensures c.step.ensures.stepped) c.wide-wide.ensures
    (subst (λ (h : Holding). c.args.lanes ≤ 64 * h.wide) (sym c.self.view_is) c.requires.lanes)
    (subst (λ (ps : List ℕ). ListsEach (λ r. hash_of (parities_of i.groups (lane c.wide-wide.result i.width ps r))) hashes c.args.lanes)
    c.flops-flops.ensures.planes c.in_ok-hashes.ensures))
