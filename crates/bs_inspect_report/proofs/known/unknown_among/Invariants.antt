use Rattle.std.proofs.Common.{◌≡◌, not, ◌||◌, map, drop}
use Rattle.std.specs.List.{find}
use Rattle.bs_inspect_report.specs.Known.{has_named}
use Rattle.bs_inspect_report.proofs.known.unknown_among.Given as goal

abbrev pub invariant-names : goal.invariant-names
invariant-names l =
    find (λ name. not (has_named (map (λ s. s.now) l.flops) name || has_named (map (λ s. s.now) l.inputs) name)) (map (λ s. s.now) l.only)
    ≡ find (λ name. not (has_named (map (λ s. s.now) l.flops) name || has_named (map (λ s. s.now) l.inputs) name)) (map (λ s. s.now) (drop l.name-index l.only))
