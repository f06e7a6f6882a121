use Rattle.std.proofs.Common.{◌≡◌, map, take}
use Rattle.bs_inspect_check.proofs.inputs.bytes_of.Given as goal

abbrev pub invariant-texts : goal.invariant-texts
invariant-texts l = map (λ s. s.now) l.bytes.items ≡ map (λ s. s.now) (take l.text-index l.texts)
