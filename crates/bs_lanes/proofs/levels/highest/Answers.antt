use Rattle.std.proofs.Common.{◌≡◌, ◌+◌, ◌∙◌, ℕ, ap, arith, max, get_or, drop, sym}
use Rattle.bs_lanes.specs.Levels.{level_at, highest}
use Rattle.bs_lanes.proofs.LevelLemmas.{highest_more, highest_end}
use Rattle.bs_lanes.proofs.levels.highest.Goals as goal
use Rattle.bs_lanes.proofs.levels.highest.Goals.{then-top-level, else-top-level}

pub ins-preserved : goal.ins-preserved
ins-preserved c =
    let level : ℕ = level_at c.args.levels.now (get_or c.args.ins.now c.ins.i (record { 0 = 0 })).0 in
    let top : c.if-top-level.top ≡ max c.ins.top level =
    elim c.if-top-level.branch [
      | then-top-level w ↦ omega (arith, w.if-top-level, w.top-is)
      | else-top-level w ↦ omega
          (arith, w.if-top-level, w.top-is)
    ] in
    ap (λ t. max t (highest c.args.levels.now (drop (c.ins.i + 1) c.args.ins.now))) top
    ∙ (highest_more c.args.levels.now c.args.ins.now c.ins.i c.ins.top (record { 0 = 0 }) c.ins-test.true ∙ c.ins.invariant)

pub returns : goal.returns
returns c = sym (highest_end c.args.levels.now c.args.ins.now c.ins.i c.ins.top c.ins-test.false) ∙ c.ins.invariant
