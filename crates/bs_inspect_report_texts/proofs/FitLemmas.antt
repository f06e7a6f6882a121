-- Why a report does not fit a netlist.
use Rattle.std.proofs.Common.{◌≡◌, ℕ, suc, ◌<◌, ◌≤◌, ◌+◌, ◌==◌, Bool, true, false, not, List, [], ◌∷◌, length, Option, Some, None, arith, refl, ap, ◌∙◌}
use Rattle.std.specs.Prelude.{All, nat_lt, option_map}
use Rattle.std.specs.List.{position_or_len}
use Rattle.std.specs.Option.{option_or}
use Rattle.std.proofs.lemmas.Bool.{ltb-false, eqb-true}
use Rattle.std.proofs.lemmas.Option.{none-some}
use Rattle.std.proofs.lemmas.List.Elements.{All-cons, All-nil}
use Rattle.bs_net.specs.Circuit.{Circuit}
use Rattle.bs_net.specs.Netlist.{Checked, circuit, circuit_of}
use Rattle.bs_net.specs.Parts.{Parts}
use Rattle.bs_report.specs.declared.report.Report.{Report}
use Rattle.bs_inspect_report_texts.specs.declared.misfit.FitFault.{FitFault}
use Rattle.bs_inspect_report_texts.specs.declared.misfit.FitFault.TheVariants.{State, Input, Astray}
use Rattle.bs_inspect_report_texts.specs.Fits.{break_in, fit_fault, leads_at, list_fault, misfit, way_fault, width_fault}
use Rattle.bs_inspect_report_texts.proofs.LeadLemmas.{all_lead}

-- ---- where no list has another length, each has this one

abbrev other : ℕ → List Bool → Bool
other width bits = not (length bits == width)

all_from : (width : ℕ) (lists : List (List Bool)) → length lists ≤ position_or_len (other width) lists → All (λ bits. length bits ≡ width) lists
all_from width [] h = All-nil (λ (bits : List Bool). length bits ≡ width)
all_from width (b ∷ bs) h = by (length b == width) refl (all_from width bs)
  where
    by : (z : Bool) → length b == width ≡ z → (length bs ≤ position_or_len (other width) bs → All (λ bits. length bits ≡ width) bs) →
        All (λ bits. length bits ≡ width) (b ∷ bs)
    by true e rest =
        let le : suc (length bs) ≤ 1 + position_or_len (other width) bs = rw e at h in
        All-cons (λ (bits : List Bool). length bits ≡ width) b bs (eqb-true (length b) width e) (rest (omega (arith, le)))
    by false e rest =
        let le : suc (length bs) ≤ 0 = rw e at h in
        absurd (omega (arith, le))

pub all_fit : (width : ℕ) (lists : List (List Bool)) → None ≡ misfit width lists → All (λ bits. length bits ≡ width) lists
all_fit width lists e = by (nat_lt (position_or_len (other width) lists) (length lists)) refl
  where
    by : (z : Bool) → nat_lt (position_or_len (other width) lists) (length lists) ≡ z → All (λ bits. length bits ≡ width) lists
    by true is = absurd (none-some (position_or_len (other width) lists) (rw is at e))
    by false is = all_from width lists (ltb-false _ _ is)

-- ---- which fault it is

no_first : {A : Type 0} (first second : Option A) → None ≡ option_or first second → None ≡ first
no_first None second e = refl
no_first (Some x) second e = absurd (none-some x e)

no_second : {A : Type 0} (first second : Option A) → None ≡ option_or first second → None ≡ second
no_second None second e = e
no_second (Some x) second e = absurd (none-some x e)

no_value : {A B : Type 0} (f : A → B) (o : Option A) → None ≡ option_map f o → None ≡ o
no_value f None e = refl
no_value f (Some x) e = absurd (none-some (f x) e)

-- the widths
pub other_state : (r : Parts) (report : Report) (place : ℕ) → Some place ≡ misfit (length r.flops) report.states → Some (State place) ≡ width_fault r report
other_state r report place e =
    ap (λ (o : Option ℕ). option_or (option_map State o) (option_map Input (misfit (length (circuit_of r).inputs) report.inputs))) e

pub other_input : (r : Parts) (report : Report) (place : ℕ) → None ≡ misfit (length r.flops) report.states →
    Some place ≡ misfit (length (circuit_of r).inputs) report.inputs → Some (Input place) ≡ width_fault r report
other_input r report place none e =
    ap (λ (o : Option ℕ). option_or (option_map State None) (option_map Input o)) e
    ∙ ap (λ (o : Option ℕ). option_or (option_map State o) (option_map Input (misfit (length (circuit_of r).inputs) report.inputs))) none

pub wide : (r : Parts) (report : Report) → None ≡ misfit (length r.flops) report.states → None ≡ misfit (length (circuit_of r).inputs) report.inputs →
    None ≡ width_fault r report
wide r report none e =
    ap (λ (o : Option ℕ). option_or (option_map State None) (option_map Input o)) e
    ∙ ap (λ (o : Option ℕ). option_or (option_map State o) (option_map Input (misfit (length (circuit_of r).inputs) report.inputs))) none

states_wide : (r : Parts) (report : Report) → None ≡ width_fault r report → All (λ s. length s ≡ length r.flops) report.states
states_wide r report e =
    all_fit (length r.flops) report.states
    (no_value State (misfit (length r.flops) report.states)
    (no_first (option_map State (misfit (length r.flops) report.states)) (option_map Input (misfit (length (circuit_of r).inputs) report.inputs)) e))

inputs_wide : (r : Parts) (report : Report) → None ≡ width_fault r report → All (λ x. length x ≡ length (circuit_of r).inputs) report.inputs
inputs_wide r report e =
    all_fit (length (circuit_of r).inputs) report.inputs
    (no_value Input (misfit (length (circuit_of r).inputs) report.inputs)
    (no_second (option_map State (misfit (length r.flops) report.states)) (option_map Input (misfit (length (circuit_of r).inputs) report.inputs)) e))

pub fault_narrow : (r : Parts) (report : Report) (fault : FitFault) → Some fault ≡ width_fault r report → Some fault ≡ fit_fault r report
fault_narrow r report fault e = ap (λ (o : Option FitFault). option_or o (way_fault (circuit_of r) report)) e

pub fault_wide : (net : Checked) (report : Report) (fault : Option FitFault) → None ≡ width_fault net.raw report → fault ≡ way_fault (circuit net) report →
    fault ≡ fit_fault net.raw report
fault_wide net report fault none e = e ∙ ap (λ (o : Option FitFault). option_or o (way_fault (circuit net) report)) none

pub states_fit : (net : Checked) (report : Report) → None ≡ fit_fault net.raw report → All (λ s. length s ≡ length (circuit net).flops) report.states
states_fit net report e = states_wide net.raw report (no_first (width_fault net.raw report) (way_fault (circuit net) report) e)

pub inputs_fit : (net : Checked) (report : Report) → None ≡ fit_fault net.raw report → All (λ x. length x ≡ length (circuit net).inputs) report.inputs
inputs_fit net report e = inputs_wide net.raw report (no_first (width_fault net.raw report) (way_fault (circuit net) report) e)

pub way_states : (net : Checked) (report : Report) → None ≡ width_fault net.raw report → All (λ s. length s ≡ length (circuit net).flops) report.states
way_states net report e = states_wide net.raw report e

pub way_inputs : (net : Checked) (report : Report) → None ≡ width_fault net.raw report → All (λ x. length x ≡ length (circuit net).inputs) report.inputs
way_inputs net report e = inputs_wide net.raw report e

-- ---- the trace

pub goes_astray : (c : Circuit) (report : Report) (t : ℕ) → Some t ≡ break_in c report.states report.inputs → Some (Astray t) ≡ way_fault c report
goes_astray c report t e = ap (λ (o : Option ℕ). option_or (option_map Astray o) (list_fault c report)) e

pub goes_on : (c : Circuit) (report : Report) (fault : Option FitFault) → None ≡ break_in c report.states report.inputs → fault ≡ list_fault c report →
    fault ≡ way_fault c report
goes_on c report fault none e = e ∙ ap (λ (o : Option ℕ). option_or (option_map Astray o) (list_fault c report)) none

-- each state of a report that fits leads to the one behind it
pub fit_leads : (net : Checked) (report : Report) → None ≡ fit_fault net.raw report → (t : ℕ) → t < length report.inputs →
    leads_at (circuit net) report.states report.inputs t ≡ true
fit_leads net report e =
    all_lead (circuit net) report.states report.inputs
    (no_value Astray (break_in (circuit net) report.states report.inputs)
    (no_first (option_map Astray (break_in (circuit net) report.states report.inputs)) (list_fault (circuit net) report)
    (no_second (width_fault net.raw report) (way_fault (circuit net) report) e)))
