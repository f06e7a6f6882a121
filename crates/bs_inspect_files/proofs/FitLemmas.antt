-- The words and notes of what is refused.
use Rattle.std.proofs.Common.{◌≡◌, ℕ, Bool, List, Option, Some, Err, subst}
use Rattle.bs_inspect_notes.specs.Names.{name_text}
use Rattle.bs_outside.specs.declared.file_fetch.Refusal.{Refusal}
use Rattle.bs_outside.specs.Plan.{any_of, exactly}
use Rattle.bs_outside.specs.Walks.{Reads}
use Rattle.bs_top_files.specs.Causes.{Case, CheckSays, HasNote, NoteSays, stated}
use Rattle.bs_top_files.specs.Refusals.{HasWords}
use Rattle.bs_inspect_report_texts.specs.declared.misfit.FitFault.{FitFault}
use Rattle.bs_inspect_values.proofs.ReadLemmas.{refused_reads, stated_note, stated_words}
use Rattle.bs_inspect_files.specs.Fits.{fault_words as words_of, fit_of, known_of}
use Rattle.bs_inspect_files.specs.Saying.{fault_text}
use Rattle.bs_inspect_files.specs.Words.{name_words}

-- the words and the note of one refusal
pub words_diagnostic : {T V : Type 0} (view : T → V) (these text : List ℕ) (q : Refusal) → HasWords these q →
    Reads {R = Case} {T = T} CheckSays view (Err (any_of (stated these text))) (Err q)
words_diagnostic view these text q h = refused_reads CheckSays view (any_of (stated these text)) q (stated_words these text q h)

pub note_diagnostic : {T V : Type 0} (view : T → V) (these text : List ℕ) (q : Refusal) → HasNote (exactly text) q →
    Reads {R = Case} {T = T} NoteSays view (Err (any_of (stated these text))) (Err q)
note_diagnostic view these text q h = refused_reads NoteSays view (any_of (stated these text)) q (stated_note these text q h)

-- a name that is not known
pub known_words : {T : Type 0} (view : T → Bool) (keys : List (List ℕ)) (first : Option (List ℕ)) (name : List ℕ) (q : Refusal) → Some name ≡ first →
    HasWords (name_words name) q → Reads CheckSays view (known_of keys first) (Err q)
known_words {T = T} view keys first name q e h =
    subst (λ (o : Option (List ℕ)). Reads {T = T} CheckSays view (known_of keys o) (Err q)) e
    (words_diagnostic view (name_words name) (name_text name keys) q h)

pub known_note : {T : Type 0} (view : T → Bool) (keys : List (List ℕ)) (first : Option (List ℕ)) (name : List ℕ) (q : Refusal) → Some name ≡ first →
    HasNote (exactly (name_text name keys)) q → Reads NoteSays view (known_of keys first) (Err q)
known_note {T = T} view keys first name q e h =
    subst (λ (o : Option (List ℕ)). Reads {T = T} NoteSays view (known_of keys o) (Err q)) e
    (note_diagnostic view (name_words name) (name_text name keys) q h)

-- a report that does not fit
pub fault_words : {T : Type 0} (view : T → Bool) (path : List ℕ) (found : Option FitFault) (fault : FitFault) (q : Refusal) → Some fault ≡ found →
    HasWords (words_of fault) q → Reads CheckSays view (fit_of path found) (Err q)
fault_words {T = T} view path found fault q e h =
    subst (λ (o : Option FitFault). Reads {T = T} CheckSays view (fit_of path o) (Err q)) e
    (words_diagnostic view (words_of fault) (fault_text path fault) q h)

pub fault_note : {T : Type 0} (view : T → Bool) (path : List ℕ) (found : Option FitFault) (fault : FitFault) (q : Refusal) → Some fault ≡ found →
    HasNote (exactly (fault_text path fault)) q → Reads NoteSays view (fit_of path found) (Err q)
fault_note {T = T} view path found fault q e h =
    subst (λ (o : Option FitFault). Reads {T = T} NoteSays view (fit_of path o) (Err q)) e
    (note_diagnostic view (words_of fault) (fault_text path fault) q h)
