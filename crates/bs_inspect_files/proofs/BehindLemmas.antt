-- The VCDs, one after another.
use Rattle.std.proofs.Common.{◌≡◌, ℕ, List, [], ◌∷◌, length, map, Bor, Result, Ok, Err, refl, sym, subst, arith}
use Rattle.bs_outside.specs.Calls.{FetchCall}
use Rattle.bs_outside.specs.declared.diagnostic.WalkStop.{WalkStop}
use Rattle.bs_outside.specs.Plan.{Tells, Counts, Plan}
use Rattle.bs_outside.specs.Telling.{WalksDiagnosed}
use Rattle.bs_outside.proofs.TellingLemmas.{diagnosed_stop, diagnosed_then}
use Rattle.bs_top_files.specs.Causes.{Case, CheckSays, NoteSays}
use Rattle.bs_inspect_check.specs.declared.comparison.Comparison.{Comparison}
use Rattle.bs_inspect_values.proofs.WalkLemmas.{diagnosed_ends}
use Rattle.bs_inspect_files.specs.Checked.{all_behind, Beside, next_of}

abbrev Texts : Type 0
Texts = List (Bor (List ℕ))

abbrev shown : Texts → List (List ℕ)
shown texts = map (λ s. s.now) texts

-- a walk over these files
abbrev pub Follows : {S U : Type 0} (held : S → Tells) (faults : S → Counts) (leads : S → FetchCall → S → Type 0) (before now : S)
    (keys names : List (List ℕ)) → Beside → (old new : List Comparison) → List (List ℕ) → Result U WalkStop → Type 0
Follows held faults leads before now keys names at old new vcds result =
    WalksDiagnosed CheckSays NoteSays held faults leads before now (all_behind keys names at old vcds)
    (λ _. new) result

-- no file is left
pub none_left : {S U : Type 0} {held : S → Tells} {faults : S → Counts} {leads : S → FetchCall → S → Type 0} {before : S} (keys names : List (List ℕ))
    (at : Beside) (ms : List Comparison) (vcds : Texts) (u : U) → vcds ≡ [] → Follows held faults leads before before keys names at ms ms (map (λ s. s.now) vcds) (Ok u)
unfolding all_behind
none_left {U = U} {held = held} {faults = faults} {leads = leads} {before = before} keys names at ms vcds u none =
    subst (λ (vs : Texts). Follows held faults leads before before keys names at ms ms (shown vs) (Ok u)) (sym none)
    (diagnosed_ends (λ (x : U). ms) ms u refl)

pub no_texts : (vcds : Texts) → length vcds ≡ 0 → vcds ≡ []
no_texts [] e = refl
no_texts (v ∷ vs) e = absurd (omega (arith, e))

-- a file, and then the others
pub one_more : {S U T : Type 0} {held : S → Tells} {faults : S → Counts} {leads : S → FetchCall → S → Type 0} {before mid now : S}
    (keys names : List (List ℕ)) (at : Beside) (old some new : List Comparison) (vcds rest : Texts) (vcd : Bor (List ℕ)) (u : T) (result : Result U WalkStop) →
    vcds ≡ vcd ∷ rest →
    WalksDiagnosed CheckSays NoteSays held faults leads before mid (next_of keys names at old vcd.now) (λ _. some) (Ok u) →
    Follows held faults leads mid now keys names at some new (map (λ s. s.now) rest) result →
    Follows held faults leads before now keys names at old new (map (λ s. s.now) vcds) result
unfolding all_behind
one_more {held = held} {faults = faults} {leads = leads} {before = before} {now = now} keys names at old some new vcds rest vcd u result e first later =
    let f : List Comparison → Plan Case (List Comparison) = λ more. all_behind keys names at more (shown rest) in
    subst (λ (vs : Texts). Follows held faults leads before now keys names at old new (shown vs) result) (sym e) (diagnosed_then f first later)

-- a file that stops the walk
pub one_stops : {S U T : Type 0} {held : S → Tells} {faults : S → Counts} {leads : S → FetchCall → S → Type 0} {before now : S}
    (keys names : List (List ℕ)) (at : Beside) (old some new : List Comparison) (vcds rest : Texts) (vcd : Bor (List ℕ)) (stop : WalkStop) →
    vcds ≡ vcd ∷ rest →
    WalksDiagnosed {T = T} CheckSays NoteSays held faults leads before now (next_of keys names at old vcd.now)
    (λ _. some) (Err stop) → Follows {U = U} held faults leads before now keys names at old new (map (λ s. s.now) vcds) (Err stop)
unfolding all_behind
one_stops {U = U} {held = held} {faults = faults} {leads = leads} {before = before} {now = now} keys names at old some new vcds rest vcd stop e first =
    let f : List Comparison → Plan Case (List Comparison) = λ more. all_behind keys names at more (shown rest) in
    subst (λ (vs : Texts). Follows {U = U} held faults leads before now keys names at old new (shown vs) (Err stop)) (sym e) (diagnosed_stop f first)
