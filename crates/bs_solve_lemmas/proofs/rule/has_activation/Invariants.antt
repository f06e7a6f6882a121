use Rattle.std.proofs.Common.{◌≡◌, ◌+◌, ◌&&◌, false, map, take, ltb, leb}
use Rattle.std.specs.List.{list_any}
use Rattle.bs_arena.specs.Arena.{literal_of}
use Rattle.bs_solve_lemmas.proofs.rule.has_activation.Given as goal

abbrev pub invariant-loop-place : goal.invariant-loop-place
invariant-loop-place l =
    list_any (λ m. ltb l.activations.own m.variable && leb m.variable (l.activations.own + l.activations.steps)) (take l.place (map literal_of l.codes)) ≡ false
