use Rattle.std.proofs.Common.{◌≡◌, drop}
use Rattle.std.specs.Prelude.{option_map}
use Rattle.std.specs.Option.{option_or}
use Rattle.bs_log.specs.Steps.{last_solve}
use Rattle.bs_audit.proofs.step_lines.last_solve.Given as goal

abbrev pub invariant-lines : goal.invariant-lines
invariant-lines l = last_solve l.lines ≡ option_or (last_solve (drop l.i l.lines)) (option_map (λ lines. lines.now) l.found)
