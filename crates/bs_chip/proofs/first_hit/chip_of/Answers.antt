use Rattle.bs_scan.specs.Crash.{Recording}
use Rattle.bs_chip.proofs.TrackLemmas.{new_chip}
use Rattle.bs_chip.proofs.first_hit.chip_of.Goals as goal

pub invariant_of-result : goal.invariant_of-result
invariant_of-result c =
    let p = c.args.player in
    let made : Recording = record { circuit = p.circuit; choice = c.args.register.choice; runs = p.runs } in
    let s = c.args.started in
    new_chip made c.args.choice.now s.pass s.track c.new.result c.requires.recording c.requires.choice c.requires.circuit c.requires.runs
    c.requires.track c.new.ensures.cycles c.new.ensures.none
