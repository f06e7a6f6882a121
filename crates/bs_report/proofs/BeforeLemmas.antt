-- The state that is named before a candidate shows that the register may have held the older signature.
use Rattle.std.proofs.Common.{◌≡◌, ℕ, ◌-◌, Bool, true, false, List, ◌∷◌, length, refl, ap, subst, sym, ◌∙◌, ◌⊎◌, inl, inr, Option, Some, None, arith}
use Rattle.std.specs.Prelude.{◌&&◌, ◌||◌, ◌==◌}
use Rattle.std.specs.Option.{option_to_list}
use Rattle.std.specs.List.{list_any}
use Rattle.std.proofs.lemmas.Bool.{false≢true, and_from, and_parts, eqb-true}
use Rattle.bs_bits.specs.Bits.{bits_eq}
use Rattle.bs_net.specs.Circuit.{Circuit, next, reset_state, all_bits}
use Rattle.bs_net.proofs.NextLemmas.{Member, all_bits_member}
use Rattle.bs_scan.specs.Choice.{Chosen, depth_of, IsDepth}
use Rattle.bs_scan.specs.Signature.{signature, may_hold, agrees, some_input_leads}
use Rattle.bs_scan.proofs.SignatureLemmas.{any_member, some_input, bits_same_is}
use Rattle.bs_report.specs.declared.report.Before.{Before}
use Rattle.bs_report.specs.Valid.{is_right_before}

-- a state of the width that has the signature and leads to s
may_hold_one : (c : Circuit) (choice : Chosen) (older s u x : List Bool) → length u ≡ length c.flops → length x ≡ length c.inputs →
    bits_eq (signature choice u) older ≡ true → next c u x ≡ s → may_hold c choice 1 (option_to_list (Some older)) s ≡ true
may_hold_one c choice older s u x wu wx sig leads =
    let P : ℕ → Type 0 = λ n. Member u (all_bits n) in
    any_member (λ (u : List Bool). (bits_eq (signature choice u) older && true) && some_input_leads c u s) u (all_bits (length c.flops))
    (subst P wu (all_bits_member u))
    (and_from _ _ (and_from _ _ sig refl) (subst (λ (s : List Bool). some_input_leads c u s ≡ true) leads (some_input c u x wx)))

at_two : (c : Circuit) (choice : Chosen) (older : Option (List Bool)) (s : List Bool) (before : Option Before) → depth_of choice ≡ 2 →
    is_right_before c choice older s before ≡ true → may_hold c choice 1 (option_to_list older) s ≡ true
at_two c choice None s None two right = by (depth_of choice == 1) refl right
  where
    by : (one : Bool) → (depth_of choice == 1) ≡ one → (one || bits_eq s (reset_state c)) ≡ true → bits_eq s (reset_state c) ≡ true
    by true e h = let same : 2 ≡ 1 = sym two ∙ eqb-true (depth_of choice) 1 e in absurd (omega (arith, same))
    by false e h = h
at_two c choice None s (Some before) two right = absurd (false≢true right)
at_two c choice (Some older) s None two right = absurd (false≢true right)
at_two c choice (Some older) s (Some before) two right =
    let leads = and_parts _ (bits_eq (next c before.state before.input) s) right in
    let sig = and_parts _ (bits_eq (signature choice before.state) older) leads.0 in
    let widths = and_parts (length before.state == length c.flops) (length before.input == length c.inputs) sig.0 in
    may_hold_one c choice older s before.state before.input (eqb-true _ _ widths.0) (eqb-true _ _ widths.1) sig.1 (bits_same_is _ _ leads.1)

-- a state with the stored signature, before which the right state is named
pub agrees_where_right : (c : Circuit) (choice : Chosen) (stored : List Bool) (older : Option (List Bool)) (s : List Bool) (before : Option Before) →
    IsDepth (depth_of choice) → bits_eq (signature choice s) stored ≡ true → is_right_before c choice older s before ≡ true →
    agrees c choice (stored ∷ option_to_list older) s ≡ true
agrees_where_right c choice stored older s before (inl one) sig right =
    and_from _ _ sig (ap (λ (d : ℕ). may_hold c choice (d - 1) (option_to_list older) s) one)
agrees_where_right c choice stored older s before (inr two) sig right =
    and_from _ _ sig (ap (λ (d : ℕ). may_hold c choice (d - 1) (option_to_list older) s) two ∙ at_two c choice older s before two right)
