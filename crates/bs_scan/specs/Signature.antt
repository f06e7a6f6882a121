-- Signatures, and the predecessors that agree with them (docs/DEFINITIONS.md, "Signature" and "Predecessors").
use Rattle.std.specs.Prelude.{ℕ, zero, suc, ◌-◌, Bool, true, false, ◌&&◌, List, [], ◌∷◌, map, filter, length}
use Rattle.std.specs.List.{list_any}
use Rattle.bs_bits.specs.Bits.{bits_eq}
use Rattle.bs_scan.specs.declared.seen.Seen.{Seen}
use Rattle.bs_scan.specs.Seen.{is_shown, whole}
use Rattle.bs_net.specs.Circuit.{Circuit, reset_state, next, all_bits, bit_at}
use Rattle.bs_net.specs.Gate.{is_odd}
use Rattle.bs_scan.specs.Choice.{Chosen, depth_of}
use Rattle.bs_scan.specs.Moments.{Run, state_at}

-- the parity of the bits of some flip-flops in a state: one that is named twice counts twice
abbrev pub parity_of : List Bool → List ℕ → Bool
parity_of s item = is_odd (map (λ flop. bit_at s flop) item)

-- the signature of a state: the parity of each item
abbrev pub signature : Chosen → List Bool → List Bool
signature choice s = map (parity_of s) choice.items

-- the signatures of so many states before a cycle, the last one first, as far as the run goes back
abbrev pub signatures_before : Circuit → Chosen → Run → ℕ → ℕ → List (List Bool)
signatures_before c choice run zero cycle = []
signatures_before c choice run (suc count) zero = []
signatures_before c choice run (suc count) (suc cycle) =
    signature choice (state_at c run cycle) ∷ signatures_before c choice run count cycle

-- what the register holds at a moment: none at reset
abbrev pub stored_at : Circuit → Chosen → Run → ℕ → List (List Bool)
stored_at c choice run cycle = signatures_before c choice run (depth_of choice) cycle

-- whether some input leads from s to a state that shows p
abbrev pub some_input_shows : Circuit → List Bool → Seen → Bool
some_input_shows c s p = list_any (λ x. is_shown p (next c s x)) (all_bits (length c.inputs))

-- whether some input leads from s to p
abbrev pub some_input_leads : Circuit → List Bool → List Bool → Bool
some_input_leads c s p = some_input_shows c s (whole p)

-- whether a register that keeps so many signatures may hold these in a state: none in the reset state alone, and otherwise the
-- last one is of a state that leads to it, in which the register may hold the others
abbrev pub may_hold : Circuit → Chosen → ℕ → List (List Bool) → List Bool → Bool
may_hold c choice zero stored p = true
may_hold c choice (suc count) [] p = bits_eq p (reset_state c)
may_hold c choice (suc count) (last ∷ older) p =
    list_any (λ s. (bits_eq (signature choice s) last && may_hold c choice count older s) && some_input_leads c s p) (all_bits (length c.flops))

-- whether a state may stand directly before a moment at which the register holds these signatures: it has the last one, and the
-- register may have held the others in it
abbrev pub agrees : Circuit → Chosen → List (List Bool) → List Bool → Bool
agrees c choice [] s = false
agrees c choice (last ∷ older) s = bits_eq (signature choice s) last && may_hold c choice (depth_of choice - 1) older s

-- The predecessors of what is known of a state that agree with the stored signatures, ascending: under some input each leads to a state
-- that shows it.
unfoldable pub predecessors : Circuit → Chosen → Seen → List (List Bool) → List (List Bool)
predecessors c choice p stored =
    filter (λ s. agrees c choice stored s && some_input_shows c s p) (all_bits (length c.flops))
