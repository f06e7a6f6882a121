-- As many VCDs as runs, or not.
use Rattle.std.proofs.Common.{◌≡◌, ℕ, Bool, true, List, length, map, Bor, Ok, Err, Result, sym, subst, ap, ◌∙◌}
use Rattle.std.specs.Prelude.{◌==◌, if◌then◌else◌}
use Rattle.std.specs.Result.{IfOk}
use Rattle.std.proofs.lemmas.Bool.{eq-eqb, ne_eqb}
use Rattle.std.proofs.lemmas.List.{length-map}
use Rattle.bs_stim.specs.Runs.{Stimulus}
use Rattle.bs_outside.specs.declared.diagnostic.Unread.{Unread}
use Rattle.bs_outside.specs.declared.diagnostic.WalkStop.{WalkStop}
use Rattle.bs_outside.specs.declared.file.File.{File}
use Rattle.bs_outside.specs.declared.file_fetch.Refusal.{Refusal}
use Rattle.bs_outside.specs.Diagnostic.{settled_diagnostic}
use Rattle.bs_outside.specs.Plan.{any_of, exactly}
use Rattle.bs_outside.specs.Walks.{Reads}
use Rattle.bs_top_files.specs.Causes.{Case, CheckSays, HasNote, NoteSays, stated}
use Rattle.bs_top_files.specs.Refusals.{HasWords}
use Rattle.bs_inspect_values.proofs.WalkLemmas.{settled_if}
use Rattle.bs_inspect_files.specs.VcdReadings.{count_in, count_text, count_words}
use Rattle.bs_inspect_files.proofs.FitLemmas.{note_diagnostic, words_diagnostic}

abbrev Texts : Type 0
Texts = List (Bor (List ℕ))

abbrev shown : Texts → List (List ℕ)
shown texts = map (λ s. s.now) texts

counts : (runs : Stimulus) (vcds : Texts) (n m : ℕ) → n ≡ length runs.runs → m ≡ length vcds → (length runs.runs == length (shown vcds)) ≡ (n == m)
counts runs vcds n m e f =
    λ i. sym e i == (length-map vcds (λ (s : Bor (List ℕ)). s.now) ∙ sym f) i

abbrev counted : {T : Type 0} → (Case → List ℕ → Type 0) → (T → Bool) → List ℕ → ℕ → ℕ → Bool → Result T Refusal → Type 0
counted {T = T} says view path n m b r =
    Reads {R = Case} {T = T} says view (if b then Ok true else Err (any_of (stated (count_words n) (count_text path n m)))) r

pub same_count : {T : Type 0} (view : T → Bool) (runs : Stimulus) (path : List ℕ) (vcds : List (Bor (List ℕ))) (n m : ℕ) (x : T) → n ≡ length runs.runs →
    m ≡ length vcds → n ≡ m → view x ≡ true → Reads CheckSays view (count_in runs path (map (λ s. s.now) vcds)) (Ok x)
same_count view runs path vcds n m x e f same is =
    subst (λ (b : Bool). counted CheckSays view path (length runs.runs) (length (shown vcds)) b (Ok x)) (sym (counts runs vcds n m e f ∙ eq-eqb n m same)) (ap Ok (sym is))

pub same_noted : {T : Type 0} (view : T → Bool) (runs : Stimulus) (path : List ℕ) (vcds : List (Bor (List ℕ))) (n m : ℕ) (x : T) → n ≡ length runs.runs →
    m ≡ length vcds → n ≡ m → view x ≡ true → Reads NoteSays view (count_in runs path (map (λ s. s.now) vcds)) (Ok x)
same_noted view runs path vcds n m x e f same is =
    subst (λ (b : Bool). counted NoteSays view path (length runs.runs) (length (shown vcds)) b (Ok x)) (sym (counts runs vcds n m e f ∙ eq-eqb n m same)) (ap Ok (sym is))

-- the words and the note on these numbers
case_of : (runs : Stimulus) (path : List ℕ) (vcds : Texts) (n m : ℕ) → n ≡ length runs.runs → m ≡ length vcds →
    stated (count_words n) (count_text path n m) ≡ stated (count_words (length runs.runs)) (count_text path (length runs.runs) (length (shown vcds)))
case_of runs path vcds n m e f =
    λ i. stated (count_words (e i)) (count_text path (e i) ((f ∙ sym (length-map vcds (λ (s : Bor (List ℕ)). s.now))) i))

pub other_count : {T : Type 0} (view : T → Bool) (runs : Stimulus) (path : List ℕ) (vcds : List (Bor (List ℕ))) (n m : ℕ) (q : Refusal) → n ≡ length runs.runs →
    m ≡ length vcds → (n ≡ m → ⊥) → HasWords (count_words n) q → Reads {T = T} CheckSays view (count_in runs path (map (λ s. s.now) vcds)) (Err q)
other_count {T = T} view runs path vcds n m q e f other h =
    subst (λ (b : Bool). counted {T = T} CheckSays view path (length runs.runs) (length (shown vcds)) b (Err q)) (sym (counts runs vcds n m e f ∙ ne_eqb n m other))
    (subst (λ (c : Case). Reads {R = Case} {T = T} CheckSays view (Err (any_of c)) (Err q)) (case_of runs path vcds n m e f)
    (words_diagnostic view (count_words n) (count_text path n m) q h))

pub other_noted : {T : Type 0} (view : T → Bool) (runs : Stimulus) (path : List ℕ) (vcds : List (Bor (List ℕ))) (n m : ℕ) (q : Refusal) → n ≡ length runs.runs →
    m ≡ length vcds → (n ≡ m → ⊥) → HasNote (exactly (count_text path n m)) q → Reads {T = T} NoteSays view (count_in runs path (map (λ s. s.now) vcds)) (Err q)
other_noted {T = T} view runs path vcds n m q e f other h =
    subst (λ (b : Bool). counted {T = T} NoteSays view path (length runs.runs) (length (shown vcds)) b (Err q)) (sym (counts runs vcds n m e f ∙ ne_eqb n m other))
    (subst (λ (c : Case). Reads {R = Case} {T = T} NoteSays view (Err (any_of c)) (Err q)) (case_of runs path vcds n m e f)
    (note_diagnostic view (count_words n) (count_text path n m) q h))

-- what holds of a reader's answer holds where the walk goes on
pub settled_holds : {T : Type 0} (P : Type 0) (file : File) (r : Result T Unread) (x : T) → Ok x ≡ settled_diagnostic file r → IfOk r (λ _. P) → P
settled_holds {T = T} P file r x e h = subst (λ (s : Result T WalkStop). IfOk s (λ _. P)) (sym e) (settled_if (λ (y : T). P) file r h)
