use Rattle.std.proofs.Common.{◌≡◌, ap, sym, subst}
use Rattle.bs_scan.specs.Crash.{Recording, IsRecording, recording_of}
use Rattle.bs_scan.specs.Register.{Register}
use Rattle.bs_scan.proofs.CrashLemmas.{recording_is}
use Rattle.bs_chip.specs.Replay.{Played}
use Rattle.bs_chip.proofs.first_hit.Chip.with_bound.Goals as goal

pub equipped-requires-clause-recording : goal.equipped-requires-clause-recording
equipped-requires-clause-recording c =
    let net = c.args.net.now in
    let p = c.in-Ok.player in
    let made : Recording = recording_of net.raw c.args.choice.now c.args.runs.now in
    let here : Recording = record { circuit = p.circuit; choice = c.in_ok-register.register.choice; runs = p.runs } in
    let circuits : p.circuit ≡ made.circuit = ap (λ (p : Played). p.circuit) c.in-Ok.ensures in
    let choices : here.choice ≡ made.choice = ap (λ (r : Register). r.choice) c.in_ok-register.ensures in
    let runs : p.runs ≡ made.runs = ap (λ (p : Played). p.runs) c.in-Ok.ensures in
    let same : here ≡ made = (λ i. record { circuit = circuits i; choice = choices i; runs = runs i }) in
    subst IsRecording (sym same)
    (recording_is net.raw c.args.choice.now c.args.runs.now c.order-order.ensures.checked c.depth-depth.ensures.sound.kept
    c.count-count.ensures.sound c.requires.states c.requires.inputs)
