use Rattle.std.proofs.Common.{◌≡◌, ◌++◌, ◌∷◌, [], map, take}
use Rattle.std.specs.List.{flat_map}
use Rattle.bs_log.specs.Clauses.{clause_text}
use Rattle.bs_evidence.proofs.parts.push_guarded.Given as goal

abbrev pub invariant-literals : goal.invariant-literals
invariant-literals l = l.text.items ≡ l.initial.text.items ++ flat_map clause_text (map (λ a. l.off ∷ a ∷ []) (take l.literal-index l.literals))
