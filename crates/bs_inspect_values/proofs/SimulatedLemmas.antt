-- The files of values, one after another.
use Rattle.std.proofs.Common.{◌≡◌, ℕ, Bool, List, [], ◌∷◌, ◌||◌, length, map, Option, Bor, Result, Ok, Err, refl, ap, sym, subst, ◌∙◌, arith}
use Rattle.std.specs.List.{list_any}
use Rattle.bs_outside.specs.Calls.{FetchCall}
use Rattle.bs_net_names.specs.Keys.{KeyParts, key_parts}
use Rattle.bs_net_names.specs.Rtl.{same_name}
use Rattle.bs_outside.specs.declared.diagnostic.WalkStop.{WalkStop}
use Rattle.bs_outside.specs.Plan.{Tells, Counts, Plan}
use Rattle.bs_outside.specs.Telling.{WalksDiagnosed}
use Rattle.bs_outside.proofs.TellingLemmas.{diagnosed_stop, diagnosed_then}
use Rattle.bs_top_files.specs.Causes.{Case, CheckSays, NoteSays}
use Rattle.bs_inspect_values.specs.SimulatedRun.{SimulatedRun, is_data}
use Rattle.bs_inspect_values.specs.Simulated.{Clocked, run_behind, runs_behind}
use Rattle.bs_inspect_values.proofs.WalkLemmas.{diagnosed_ends}

abbrev Texts : Type 0
Texts = List (Bor (List ℕ))

abbrev shown : Texts → List (List ℕ)
shown texts = map (λ s. s.now) texts

-- a walk over these files
abbrev pub Follows : {S U : Type 0} (held : S → Tells) (faults : S → Counts) (leads : S → FetchCall → S → Type 0) (before now : S)
    (keys names : List (List ℕ)) → Clocked → (old new : List SimulatedRun) → List (List ℕ) → Result U WalkStop → Type 0
Follows held faults leads before now keys names at old new vcds result =
    WalksDiagnosed CheckSays NoteSays held faults leads before now (runs_behind keys names at old vcds) (λ _. new) result

-- no file is left
pub none_left : {S U : Type 0} {held : S → Tells} {faults : S → Counts} {leads : S → FetchCall → S → Type 0} {before : S} (keys names : List (List ℕ))
    (at : Clocked) (runs : List SimulatedRun) (vcds : Texts) (u : U) → vcds ≡ [] → Follows held faults leads before before keys names at runs runs (map (λ s. s.now) vcds) (Ok u)
unfolding runs_behind
none_left {U = U} {held = held} {faults = faults} {leads = leads} {before = before} keys names at runs vcds u none =
    subst (λ (vs : Texts). Follows held faults leads before before keys names at runs runs (shown vs) (Ok u)) (sym none)
    (diagnosed_ends (λ (x : U). runs) runs u refl)

pub no_texts : (vcds : Texts) → length vcds ≡ 0 → vcds ≡ []
no_texts [] e = refl
no_texts (v ∷ vs) e = absurd (omega (arith, e))

-- a file, and then the others
pub one_more : {S U T : Type 0} {held : S → Tells} {faults : S → Counts} {leads : S → FetchCall → S → Type 0} {before mid now : S}
    (keys names : List (List ℕ)) (at : Clocked) (old some new : List SimulatedRun) (vcds rest : Texts) (vcd : Bor (List ℕ)) (u : T) (result : Result U WalkStop) →
    vcds ≡ vcd ∷ rest →
    WalksDiagnosed CheckSays NoteSays held faults leads before mid (run_behind keys names at old vcd.now) (λ _. some) (Ok u) →
    Follows held faults leads mid now keys names at some new (map (λ s. s.now) rest) result →
    Follows held faults leads before now keys names at old new (map (λ s. s.now) vcds) result
unfolding runs_behind
one_more {held = held} {faults = faults} {leads = leads} {before = before} {now = now} keys names at old some new vcds rest vcd u result e first later =
    let f : List SimulatedRun → Plan Case (List SimulatedRun) = λ more. runs_behind keys names at more (shown rest) in
    subst (λ (vs : Texts). Follows held faults leads before now keys names at old new (shown vs) result) (sym e) (diagnosed_then f first later)

-- a file that stops the walk
pub one_stops : {S U T : Type 0} {held : S → Tells} {faults : S → Counts} {leads : S → FetchCall → S → Type 0} {before now : S}
    (keys names : List (List ℕ)) (at : Clocked) (old some new : List SimulatedRun) (vcds rest : Texts) (vcd : Bor (List ℕ)) (stop : WalkStop) →
    vcds ≡ vcd ∷ rest →
    WalksDiagnosed {T = T} CheckSays NoteSays held faults leads before now (run_behind keys names at old vcd.now) (λ _. some) (Err stop) →
    Follows {U = U} held faults leads before now keys names at old new (map (λ s. s.now) vcds) (Err stop)
unfolding runs_behind
one_stops {U = U} {held = held} {faults = faults} {leads = leads} {before = before} {now = now} keys names at old some new vcds rest vcd stop e first =
    let f : List SimulatedRun → Plan Case (List SimulatedRun) = λ more. runs_behind keys names at more (shown rest) in
    subst (λ (vs : Texts). Follows {U = U} held faults leads before now keys names at old new (shown vs) (Err stop)) (sym e) (diagnosed_stop f first)

-- ---- the clock

any_by : (clock : KeyParts) (names : Texts) →
    list_any (λ n. same_name (key_parts n.now) clock) names ≡ list_any (λ n. same_name (key_parts n) clock) (map (λ n. n.now) names)
any_by clock [] = refl
any_by clock (n ∷ names) = ap (λ (b : Bool). same_name (key_parts n.now) clock || b) (any_by clock names)

pub data_by : (clock bytes : List ℕ) (parts : KeyParts) (names : Texts) (b : Bool) → bytes ≡ clock → parts ≡ key_parts bytes →
    b ≡ list_any (λ n. same_name (key_parts n.now) parts) names → b ≡ is_data clock (map (λ n. n.now) names)
data_by clock bytes parts names b read is e =
    e ∙ (any_by parts names ∙ ap (λ (k : KeyParts). list_any (λ n. same_name (key_parts n) k) (shown names)) (is ∙ ap key_parts read))
