use Rattle.std.proofs.Common.{◌≡◌, ℕ, length, All, ap, subst, sym}
use Rattle.bs_scan.specs.Choice.{Chosen, depth_of, IsDepth}
use Rattle.bs_scan.specs.Crash.{Crash}
use Rattle.bs_report.specs.declared.report.Cand.{Cand}
use Rattle.bs_audit.proofs.Follows.{lent_widths}
use Rattle.bs_audit.proofs.HitLemmas.{lines_leave, looks_leave}
use Rattle.bs_audit.proofs.replay.Replay.hit.Goals as goal

pub first-requires : goal.first-requires
first-requires c =
    subst (λ (n : ℕ). All (λ (cand : Cand). length cand.state ≡ n) c.args.cands.now) (sym (ap (λ (k : Crash). length k.circuit.flops) c.self.view_is))
    (lent_widths (length c.args.self.now.circuit.flops) c.args.cands.now c.requires)

pub returns-clause-first : goal.returns-clause-first
returns-clause-first c =
    lines_leave c.self.inside.chip.recording c.self.inside.dump.now c.args.self.now c.self.view_is c.args.cands.now c.first.result
    c.first.ensures.first c.first.ensures.dump

pub returns-clause-dump : goal.returns-clause-dump
returns-clause-dump c =
    looks_leave c.self.inside.chip.recording c.self.inside.dump.now c.args.self.now c.self.view_is c.args.cands.now
    (subst (λ (choice : Chosen). IsDepth (depth_of choice)) (sym c.self.invariant.2) c.depth-depth.ensures.sound.kept) c.first.result
    c.first.ensures.first c.first.ensures.dump
