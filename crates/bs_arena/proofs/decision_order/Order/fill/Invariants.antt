use Rattle.std.proofs.Common.{◌≡◌, ◌<◌, ◌≤◌, ℕ, length, true, false}
use Rattle.bs_arena.specs.Open.{is_in, is_assigned}
use Rattle.bs_arena.proofs.decision_order.Order.fill.Given as goal

abbrev pub invariant-variables : goal.invariant-variables
invariant-variables l = record {
  width : length l.self ≡ length l.initial.self;
  so_far : (v : ℕ) → 1 ≤ v → v < l.variable → is_assigned l.values v ≡ false → is_in l.self v ≡ true;
}
