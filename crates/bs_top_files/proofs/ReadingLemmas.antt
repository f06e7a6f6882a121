-- What a reading of a netlist answers.
use Rattle.std.proofs.Common.{◌≡◌, inl, inr, ℕ, List, Result, Ok, Err, refl, sym, subst}
use Rattle.std.specs.Prelude.{◌⊎◌}
use Rattle.bs_net.specs.Parts.{Parts}
use Rattle.bs_net.specs.Check.{Passes}
use Rattle.bs_net.proofs.CallerLemmas.{passes_is, refused_fails}
use Rattle.bs_flat_meaning.specs.declared.fault.FlatFault.{FlatFault}
use Rattle.bs_flat_meaning.specs.declared.fault.FlatFault.TheVariants as flat
use Rattle.bs_flat_meaning.specs.Reading.{IsAnswer}
use Rattle.bs_outside.specs.declared.file_fetch.Refusal.{Refusal}
use Rattle.bs_outside.specs.declared.file_fetch.Refusal.TheVariants as Q
use Rattle.bs_outside.specs.Walks.{Reads}
use Rattle.bs_outside.specs.Plan.{Reason}
use Rattle.bs_top_files.specs.Causes.{Case, CheckSays, text_reason, with_reason}
use Rattle.bs_top_files.specs.Refusals.{HasCheckWords, HasWords, TextFault, flat_words, in_rings, with_one}
use Rattle.bs_top_files.specs.Readings.{checked_in, checked_of, netlist_in, text_in}
use Rattle.bs_top_files.proofs.TextLemmas.{IsRightFault, right_parts, right_faults}

-- parts that pass are the value
pub reads_passing : {T : Type 0} (says : Case → List ℕ → Type 0) (view : T → Parts) (path text : List ℕ) (raw : Parts) (net : T) → view net ≡ raw →
    Passes raw → Reads says view (checked_in path text raw) (Ok net)
reads_passing says view path text raw net is passing = rw ((passes_is raw).1 passing, sym is) refl

-- parts of a text are what the check looks at
pub reads_parts : {T : Type 0} (says : Case → List ℕ → Type 0) (view : T → Parts) (path text : List ℕ) (raw : Parts) (result : Result T Refusal) →
    IsAnswer text (Ok raw) → Reads says view (checked_in path text raw) result → Reads says view (netlist_in path text) result
reads_parts {T = T} says view path text raw result is h =
    subst (λ (t : Result Parts TextFault). Reads {T = T} says view (checked_of path text (with_reason (text_reason path text) t)) result)
    (sym (right_parts text raw is)) h

-- the words of a fault of the check are those of its cause
pub reads_refused : {T : Type 0} (view : T → Parts) (path text : List ℕ) (raw given : Parts) (refusal : Refusal) → given ≡ raw →
    HasCheckWords given refusal → Reads CheckSays view (checked_in path text raw) (Err refusal)
reads_refused view path text raw given refusal same told = by refusal (subst (λ r. HasCheckWords r refusal) same told)
  where
    by : (refusal : Refusal) → HasCheckWords raw refusal → Reads CheckSays view (checked_in path text raw) (Err refusal)
    by Q.NoMemory told = tt
    by (Q.Why why) told = rw (refused_fails raw told.fault told.told told.is) told

-- the words of a fault of the text are those of its cause
pub reads_failing : {T : Type 0} (view : T → Parts) (path text : List ℕ) (fault : FlatFault) (refusal : Refusal) →
    (fault ≡ flat.NoMemory) ⊎ IsAnswer text (Err fault) → HasWords (flat_words fault) refusal → (fault ≡ flat.NoMemory → refusal ≡ Q.NoMemory) →
    Reads CheckSays view (netlist_in path text) (Err refusal)
reads_failing view path text fault refusal (inl none) words want = rw (want none) tt
reads_failing {T = T} view path text fault refusal (inr is) words want = by (right_faults text fault is)
  where
    read : Result Parts TextFault → Result Parts (Reason Case)
    read t = checked_of path text (with_reason (text_reason path text) t)

    told : (refusal : Refusal) → HasWords (flat_words fault) refusal → Reads {T = T} CheckSays view (read (Err (with_one fault))) (Err refusal)
    told Q.NoMemory words = tt
    told (Q.Why why) words = words

    ringed : (names : List (List ℕ)) → fault ≡ flat.Recursion names → (refusal : Refusal) → HasWords (flat_words fault) refusal →
        Reads {T = T} CheckSays view (read (Err in_rings)) (Err refusal)
    ringed names e Q.NoMemory words = tt
    ringed names e (Q.Why why) words =
        record { names = names; is = subst (λ f. IsAnswer text (Err f)) e is; words = subst (λ f. why.items ≡ flat_words f) e words }

    along : (t : Result Parts TextFault) → t ≡ text_in text → Reads {T = T} CheckSays view (read t) (Err refusal) →
        Reads {T = T} CheckSays view (netlist_in path text) (Err refusal)
    along t e h = subst (λ (t : Result Parts TextFault). Reads {T = T} CheckSays view (read t) (Err refusal)) e h

    by : IsRightFault text fault → Reads {T = T} CheckSays view (netlist_in path text) (Err refusal)
    by (inl e) = along _ (sym e) (told refusal words)
    by (inr r) = along _ (sym r.0) (ringed r.1.0 r.1.1 refusal words)
