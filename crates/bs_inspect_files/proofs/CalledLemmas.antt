-- The diagnostic of a name that no net has.
use Rattle.std.proofs.Common.{◌≡◌, ℕ, ◌+◌, Bool, List, [], ◌∷◌, ◌++◌, map, take, Option, Some, Err, ap, sym, ◌∙◌, subst, slice_get}
use Rattle.std.specs.Borrow.{Bor}
use Rattle.std.proofs.lemmas.List.{map-append, take_more}
use Rattle.std.proofs.lemmas.Option.{get_or_from_slice_get, slice_get_within}
use Rattle.bs_outside.specs.declared.file_fetch.Refusal.{Refusal}
use Rattle.bs_outside.specs.Plan.{exactly}
use Rattle.bs_outside.specs.Walks.{Reads}
use Rattle.bs_top_files.specs.Causes.{CheckSays, HasNote, NoteSays}
use Rattle.bs_top_files.specs.Refusals.{HasWords}
use Rattle.bs_inspect_notes.specs.Names.{net_text}
use Rattle.bs_inspect_files.specs.Readings.{called_of}
use Rattle.bs_inspect_files.specs.FlopWords.{unnamed_words}
use Rattle.bs_inspect_files.proofs.FitLemmas.{note_diagnostic, words_diagnostic}

pub called_words : {T : Type 0} (view : T → Bool) (keys : List (List ℕ)) (first : Option (List ℕ)) (name : List ℕ) (q : Refusal) → Some name ≡ first →
    HasWords (unnamed_words name) q → Reads CheckSays view (called_of keys first) (Err q)
called_words {T = T} view keys first name q e h =
    subst (λ (o : Option (List ℕ)). Reads {T = T} CheckSays view (called_of keys o) (Err q)) e
    (words_diagnostic view (unnamed_words name) (net_text name keys) q h)

pub called_note : {T : Type 0} (view : T → Bool) (keys : List (List ℕ)) (first : Option (List ℕ)) (name : List ℕ) (q : Refusal) → Some name ≡ first →
    HasNote (exactly (net_text name keys)) q → Reads NoteSays view (called_of keys first) (Err q)
called_note {T = T} view keys first name q e h =
    subst (λ (o : Option (List ℕ)). Reads {T = T} NoteSays view (called_of keys o) (Err q)) e
    (note_diagnostic view (unnamed_words name) (net_text name keys) q h)

-- ---- the keys of the nets

pub key_more : (names : List (List ℕ)) (keys : List (Bor (List ℕ))) (bytes : Bor (List ℕ)) (key : List ℕ) (n : ℕ) →
    map (λ s. s.now) keys ≡ take n names → slice_get names n ≡ Some key → bytes.now ≡ key →
    map (λ s. s.now) (keys ++ bytes ∷ []) ≡ take (n + 1) names
key_more names keys bytes key n e is same =
    let more : take (n + 1) names ≡ take n names ++ key ∷ [] =
    take_more names n [] (slice_get_within names n key is)
    ∙ ap (λ (k : List ℕ). take n names ++ k ∷ []) (get_or_from_slice_get names n key [] is) in
    map-append (λ (s : Bor (List ℕ)). s.now) keys (bytes ∷ []) ∙ ((λ i. e i ++ same i ∷ []) ∙ sym more)
