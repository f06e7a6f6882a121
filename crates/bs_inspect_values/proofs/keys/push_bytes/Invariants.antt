use Rattle.std.proofs.Common.{◌≡◌, ◌++◌, map, take}
use Rattle.bs_inspect_values.proofs.keys.push_bytes.Given as goal

abbrev pub invariant-texts : goal.invariant-texts
invariant-texts l = map (λ s. s.now) l.into.items ≡ map (λ s. s.now) l.initial.into.items ++ map (λ s. s.now) (take l.text-index l.texts)
