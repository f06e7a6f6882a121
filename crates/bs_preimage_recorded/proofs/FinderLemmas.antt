-- Where recorded states lead, as far as it is known.
use Rattle.std.proofs.Common.{◌≡◌, ℕ, arith, Bool, true, false, List, length, ap, subst, sym, ◌∙◌, Option, Some, None}
use Rattle.std.specs.Prelude.{◌==◌, Result, Ok, Err, IfOk, IfSome}
use Rattle.bs_scan.specs.declared.seen.Seen.{Seen}
use Rattle.bs_scan.specs.Seen.{Shows}
use Rattle.bs_scan.proofs.SeenLemmas.{whole_where}
use Rattle.bs_net.specs.Circuit.{Circuit, next}
use Rattle.bs_scan.specs.Crash.{Recording}
use Rattle.bs_scan.specs.Moments.{Run, moment, IsMoment, run_of, state_at}
use Rattle.bs_preimage_recorded.specs.declared.forward.PresentHashes.{PresentHashes}
use Rattle.bs_preimage_recorded.specs.Forward.{Ahead, IsAim, LeadsNowhere, NoneLeadBefore}
use Rattle.bs_preimage_recorded.specs.Finder.{IsAimed, LeadsAway, LeadsPast, NonePassBefore, StartsBy}

-- the present is as wide as the states
pub aimed_wide : (r : Recording) (present other : List Bool) (aim : PresentHashes) (forward : Option Ahead) → IfSome forward (IsAimed r present aim) →
    length other ≡ length r.circuit.flops → IfSome forward (λ f. length other ≡ length f.circuit.flops)
aimed_wide r present other aim None is wide = tt
aimed_wide r present other aim (Some f) is wide = subst (λ (c : Circuit). length other ≡ length c.flops) (sym is.circuit) wide

pub aimed_moment : (r : Recording) (present : List Bool) (aim : PresentHashes) (forward : Option Ahead) (run cycle : ℕ) → IfSome forward (IsAimed r present aim) →
    IsMoment r.runs (moment run cycle) → IfSome forward (λ f. IsMoment f.runs (moment run cycle))
aimed_moment r present aim None run cycle is there = tt
aimed_moment r present aim (Some f) run cycle is there = subst (λ (runs : List Run). IsMoment runs (moment run cycle)) (sym is.runs) there

pub aimed_at : (r : Recording) (present : List Bool) (aim : PresentHashes) (forward : Option Ahead) → IfSome forward (IsAimed r present aim) →
    IfSome forward (λ f. IsAim f present aim)
aimed_at r present aim None is = tt
aimed_at r present aim (Some f) is = is.aim_is

-- it is where the states of a recording lead
pub aimed_in : (r other : Recording) (present : List Bool) (aim : PresentHashes) (forward : Option Ahead) → IfSome forward (IsAimed r present aim) → r ≡ other →
    IfSome forward (λ f. (f.circuit ≡ other.circuit) × (f.runs ≡ other.runs))
aimed_in r other present aim None is same = tt
aimed_in r other present aim (Some f) is same =
    (is.circuit ∙ ap (λ (r : Recording). r.circuit) same, is.runs ∙ ap (λ (r : Recording). r.runs) same)

-- it is aimed at another present
pub aimed_anew : (r : Recording) (present other : List Bool) (aim next : PresentHashes) (forward : Option Ahead) → IfSome forward (IsAimed r present aim) →
    IfSome forward (λ f. IsAim f other next) → IfSome forward (IsAimed r other next)
aimed_anew r present other aim next None is new = tt
aimed_anew r present other aim next (Some f) is new = record { circuit = is.circuit; runs = is.runs; aim_is = new }

away : (r : Recording) (present : Seen) (aim : PresentHashes) (forward : Option Ahead) (run cycle : ℕ) → IfSome forward (IsAimed r present.bits aim) →
    LeadsAway forward run cycle present → LeadsPast r.circuit (state_at r.circuit (run_of r.runs run) cycle) present
away r present aim None run cycle is gone = absurd gone
away r present aim (Some f) run cycle is gone =
    subst (λ (c : Circuit). LeadsPast c (state_at c (run_of r.runs run) cycle) present) is.circuit
    (subst (λ (runs : List Run). LeadsPast f.circuit (state_at f.circuit (run_of runs run) cycle) present) is.runs gone)

pub leads_away : {E : Type 0} (r : Recording) (present : Seen) (aim : PresentHashes) (forward : Option Ahead) (run cycle : ℕ) (result : Result Bool E) →
    IfSome forward (IsAimed r present.bits aim) → IfOk result (λ may. may ≡ false → LeadsAway forward run cycle present) →
    IfOk result (λ may. may ≡ false → LeadsPast r.circuit (state_at r.circuit (run_of r.runs run) cycle) present)
leads_away r present aim forward run cycle (Ok may) is lead = λ no. away r present aim forward run cycle is (lead no)
leads_away r present aim forward run cycle (Err want) is lead = tt

pub starts_at : {E : Type 0} (r : Recording) (present : Seen) (aim : PresentHashes) (forward : Option Ahead) (result : Result ℕ E) →
    IfSome forward (IsAimed r present.bits aim) → IfOk result (StartsBy forward present) → IfOk result (NonePassBefore r.circuit r.runs present)
starts_at r present aim None (Ok from) is none = record { each = λ run cycle lt there. absurd (omega (arith, none, lt)) }
starts_at r present aim (Some f) (Ok from) is none =
    subst (λ (c : Circuit). NonePassBefore c r.runs present from) is.circuit
    (subst (λ (runs : List Run). NonePassBefore f.circuit runs present from) is.runs none)
starts_at r present aim forward (Err want) is none = tt

-- ---- a present of which all is known

past : (c : Circuit) (s : List Bool) (present : Seen) → (length present.free == 0) ≡ true → LeadsNowhere c s present.bits → LeadsPast c s present
past c s present known nowhere =
    record { each = λ x wide shows. nowhere.each x wide (subst (λ (p : Seen). Shows p (next c s x)) (whole_where present known) shows) }

pub past_if_whole : {E : Type 0} (c : Circuit) (s : List Bool) (present : Seen) (result : Result Bool E) → (length present.free == 0) ≡ true →
    IfOk result (λ may. may ≡ false → LeadsNowhere c s present.bits) → IfOk result (λ may. may ≡ false → LeadsPast c s present)
past_if_whole c s present (Ok may) known lead = λ no. past c s present known (lead no)
past_if_whole c s present (Err want) known lead = tt

pub before_if_whole : {E : Type 0} (c : Circuit) (runs : List Run) (present : Seen) (result : Result ℕ E) → (length present.free == 0) ≡ true →
    IfOk result (NoneLeadBefore c runs present.bits) → IfOk result (NonePassBefore c runs present)
before_if_whole c runs present (Ok from) known none =
    record { each = λ run cycle lt there. past c (state_at c (run_of runs run) cycle) present known (none.each run cycle lt there) }
before_if_whole c runs present (Err want) known none = tt

-- nothing is before the first cycle
pub none_before_first : (c : Circuit) (runs : List Run) (present : Seen) → NonePassBefore c runs present 0
none_before_first c runs present = record { each = λ run cycle lt there. absurd (omega (arith, lt)) }
