use Rattle.std.proofs.Common.{◌∙◌, ◌≡◌, ℕ, List, subst, sym}
use Rattle.std.specs.Prelude.{MatchOption, length}
use Rattle.bs_net.specs.Netlist.{circuit}
use Rattle.bs_stim.specs.Runs.{inputs_of}
use Rattle.bs_chip.specs.Lockstep.{Passing, IsLowest, NoneAmong, ShowsCycle}
use Rattle.bs_chip.proofs.LookLemmas.{found_in}
use Rattle.bs_chip.proofs.lockstep.Pass.lowest.Goals as goal

pub returns-clause-lowest : goal.returns-clause-lowest
returns-clause-lowest g c =
    let i = c.self.inside in
    let p : Passing = record { circuit = circuit i.lanes.net; runs = inputs_of i.runs.now; cycle = i.at } in
    let states = c.args.bank.now.states in
    let live : c.go_to.new.self ≡ record { runs = p.runs; cycle = i.at } =
    c.go_to.ensures ∙ (λ k. record { runs = c.self.invariant.lives k; cycle = i.at }) in
    subst
    (λ (q : Passing). MatchOption c.lowest_run.result (NoneAmong q.circuit q.runs states q.cycle 0 (length q.runs))
    (IsLowest q.circuit q.runs states q.cycle 0))
    c.self.view_is
    (found_in p.circuit p.runs c.args.bank.now c.go_to.new.self c.flops.result.now i.at c.wide.result c.lowest_run.result
    (subst (λ (q : Passing). c.args.bank.now.width ≡ length q.circuit.flops) (sym c.self.view_is) c.requires.width) c.self.invariant.lockstep.room
    (subst (λ (planes : List ℕ). ShowsCycle p.circuit p.runs planes i.at) (sym c.flops.ensures.planes) c.self.invariant.shows) live
    (c.wide.ensures ∙ c.self.invariant.lockstep.wide) c.lowest_run.ensures)
