use Rattle.std.proofs.Common.{◌≡◌, ◌∙◌, ℕ, List, ap, ap₂, subst, sym, length, ◌*◌}
use Rattle.bs_scan.specs.Crash.{Recording, recording_of}
use Rattle.bs_scan.proofs.CrashLemmas.{recording_is}
use Rattle.bs_chip.specs.Lockstep.{wide_of, Passing}
use Rattle.bs_chip.specs.SignatureHashes.{recorded_by, AreSignatureHashes}
use Rattle.bs_chip.proofs.SignatureHashLemmas.{new_signature_hashes}
use Rattle.bs_chip.proofs.signature_hashes.SignatureHashes.new.Goals as goal

pub invariant_of-result : goal.invariant_of-result
invariant_of-result c =
    let net = c.args.net.now in
    let p = c.in_ok-pass.pass in
    let of : Recording = recording_of net.raw c.args.choice.now c.args.runs.now in
    let made : Recording = recorded_by p c.args.choice.now in
    let circuits : p.circuit ≡ of.circuit = ap (λ (p : Passing). p.circuit) c.in_ok-pass.ensures in
    let runs : p.runs ≡ of.runs = ap (λ (p : Passing). p.runs) c.in_ok-pass.ensures in (
      subst (λ (signature_hashes : List (List ℕ)). AreSignatureHashes made p signature_hashes) (sym c.new-2.ensures)
          (new_signature_hashes made of p
          (recording_is net.raw c.args.choice.now c.args.runs.now c.order-order.ensures.checked c.depth-depth.ensures.sound.kept
          c.count-count.ensures.sound c.requires.states c.requires.inputs)
          circuits runs (ap (λ (p : Passing). p.cycle) c.in_ok-pass.ensures)
          (λ i. record { circuit = circuits i; choice = c.args.choice.now; runs = runs i })),
      c.in_ok-items.ensures
          ∙ ap₂ (λ (a b : ℕ). a * b) c.items.ensures.count (c.wide_for.ensures.value ∙ ap (λ (n : ℕ). wide_of n) (ap length (sym runs))),
    )
