use Rattle.std.proofs.Common.{◌≡◌, ℕ, take, length, get_or, false}
use Rattle.bs_flat_meaning.specs.Rings.{is_instanced}
use Rattle.bs_flat_meaning.proofs.marks.instanced.Given as goal

abbrev pub invariant-modules : goal.invariant-modules
invariant-modules l = record {
  wide : length l.marks.items ≡ length l.below;
  each : (k : ℕ) → get_or l.marks.items k false ≡ is_instanced (take l.modules-index l.below) k;
}
