-- The readings of a search: what they make of a word or a number, with the words and the note of a refusal.
use Rattle.std.proofs.Common.{◌≡◌, ℕ, Bool, true, false, List, [], length, codes, Option, Some, None, Result, Ok, Err, Vec, refl, sym, subst}
use Rattle.std.specs.Prelude.{IfOk, ◌==◌, if◌then◌else◌}
use Rattle.std.specs.declared.alloc.Global.{Global}
use Rattle.bs_bits.specs.declared.memory.NoMemory.{NoMemory}
use Rattle.bs_scan.specs.declared.seen.Seen.{Seen}
use Rattle.bs_scan.specs.SeenText.{seen_of}
use Rattle.bs_outside.specs.declared.diagnostic.Unread.{Unread}
use Rattle.bs_outside.specs.declared.file_fetch.Refusal.{Refusal}
use Rattle.bs_outside.specs.declared.file_fetch.Refusal.TheVariants as Q
use Rattle.bs_outside.specs.Plan.{Reason, exactly, any_of, Says}
use Rattle.bs_outside.specs.Diagnostic.{both_of, note_refusal, word_refusal}
use Rattle.bs_outside.specs.Walks.{Reads}
use Rattle.bs_outside.proofs.TellingLemmas.{word_both}
use Rattle.bs_top_files.specs.Causes.{Case, CheckSays, NoteSays, stated}
use Rattle.bs_net.specs.Netlist.{circuit_of}
use Rattle.bs_net.specs.Parts.{Parts}
use Rattle.bs_encode.specs.Transition.{variables}
use Rattle.bs_note_calls.specs.Searches.{room_text, state_text}
use Rattle.bs_top_reach.specs.Target.{fitting, has_room, room_in, state_in, state_reason}

-- ---- what is refused in these words, with this note

-- where it is refused, the reason is these words and this note
abbrev IsStated : {V : Type 0} → (these text : List ℕ) → Result V (Reason Case) → Type 0
IsStated these text (Ok v) = Unit {0}
IsStated these text (Err reason) = reason ≡ any_of (stated these text)

-- the words of a refusal are those that were made
said_words : {T V : Type 0} (view : T → V) (wanted : Result V (Reason Case)) (result : Result T Refusal) (words : Refusal)
    (note : Result (Vec ℕ Global) NoMemory) (unread : Unread) → result ≡ Err words → unread ≡ both_of words note → Reads CheckSays view wanted result →
    Reads CheckSays view wanted (Err (word_refusal unread))
said_words {T} {V} view wanted result words note unread is e h =
    subst (λ (u : Unread). Reads {T = T} CheckSays view wanted (Err (word_refusal u))) (sym e)
    (subst (λ (q : Refusal). Reads {T = T} CheckSays view wanted (Err q)) (sym (word_both words note))
    (subst (Reads CheckSays view wanted) is h))

said_both : {T V : Type 0} (view : T → V) (these text : List ℕ) (wanted : Result V (Reason Case)) (words : Refusal)
    (note : Result (Vec ℕ Global) NoMemory) → IsStated these text wanted → Reads {T = T} CheckSays view wanted (Err words) →
    IfOk note (λ n. n.items ≡ text) → Reads {T = T} NoteSays view wanted (Err (note_refusal (both_of words note)))
said_both view these text wanted Q.NoMemory note stands h says = tt
said_both view these text (Ok v) (Q.Why why) note stands h says = absurd h
said_both view these text (Err reason) (Q.Why why) (Ok n) stands h says = subst (λ (r : Reason Case). Says NoteSays r n.items) (sym stands) says
said_both view these text (Err reason) (Q.Why why) (Err want) stands h says = tt

-- the note is the one that was made
said_note : {T V : Type 0} (view : T → V) (these text : List ℕ) (wanted : Result V (Reason Case)) (result : Result T Refusal) (words : Refusal)
    (note : Result (Vec ℕ Global) NoMemory) (unread : Unread) → IsStated these text wanted → result ≡ Err words → unread ≡ both_of words note →
    Reads CheckSays view wanted result → IfOk note (λ n. n.items ≡ text) → Reads NoteSays view wanted (Err (note_refusal unread))
said_note {T} {V} view these text wanted result words note unread stands is e h says =
    subst (λ (u : Unread). Reads {T = T} NoteSays view wanted (Err (note_refusal u))) (sym e)
    (said_both view these text wanted words note stands (subst (Reads CheckSays view wanted) is h) says)

-- ---- the state

-- the width of the bits decides, whatever the reason
fits_case : (says : Case → List ℕ → Type 0) (is : Bool) (seen state : Seen) (one other : Reason Case) →
    Reads says (λ (s : Seen). s) (if is then Ok seen else Err one) (Ok state) → Reads says (λ (s : Seen). s) (if is then Ok seen else Err other) (Ok state)
fits_case says true seen state one other h = h
fits_case says false seen state one other h = absurd cc

fits_as : (says : Case → List ℕ → Type 0) (r : Parts) (found : Option Seen) (state : Seen) (one other : Reason Case) →
    Reads says (λ (s : Seen). s) (fitting r one found) (Ok state) → Reads says (λ (s : Seen). s) (fitting r other found) (Ok state)
fits_as says r None state one other h = absurd cc
fits_as says r (Some seen) state one other h = fits_case says (length seen.bits == length (circuit_of r).flops) seen state one other h

refused_case : (is : Bool) (seen : Seen) (these text : List ℕ) (refusal : Refusal) →
    Reads {T = Seen} CheckSays (λ (s : Seen). s) (if is then Ok seen else Err (exactly these)) (Err refusal) →
    Reads {T = Seen} CheckSays (λ (s : Seen). s) (if is then Ok seen else Err (any_of (stated these text))) (Err refusal)
refused_case is seen these text Q.NoMemory h = tt
refused_case true seen these text (Q.Why why) h = absurd h
refused_case false seen these text (Q.Why why) h = h

refused_as : (r : Parts) (found : Option Seen) (these text : List ℕ) (refusal : Refusal) →
    Reads {T = Seen} CheckSays (λ (s : Seen). s) (fitting r (exactly these) found) (Err refusal) →
    Reads {T = Seen} CheckSays (λ (s : Seen). s) (fitting r (any_of (stated these text)) found) (Err refusal)
refused_as r None these text Q.NoMemory h = tt
refused_as r None these text (Q.Why why) h = h
refused_as r (Some seen) these text refusal h = refused_case (length seen.bits == length (circuit_of r).flops) seen these text refusal h

-- a reading whose words are right reads the state
state_words_of : (r : Parts) (word : List ℕ) (result : Result Seen Refusal) →
    Reads CheckSays (λ (s : Seen). s) (fitting r (exactly (codes "Width")) (seen_of word)) result →
    Reads CheckSays (λ (s : Seen). s) (state_in r word) result
state_words_of r word (Ok state) h = fits_as CheckSays r (seen_of word) state (exactly (codes "Width")) (state_reason r word) h
state_words_of r word (Err refusal) h =
    refused_as r (seen_of word) (codes "Width") (state_text word (length (circuit_of r).flops)) refusal h

stated_case : (is : Bool) (seen : Seen) (these text : List ℕ) → IsStated these text (if is then Ok seen else Err (any_of (stated these text)))
stated_case true seen these text = tt
stated_case false seen these text = refl

state_stated : (r : Parts) (found : Option Seen) (these text : List ℕ) → IsStated these text (fitting r (any_of (stated these text)) found)
state_stated r None these text = refl
state_stated r (Some seen) these text = stated_case (length seen.bits == length (circuit_of r).flops) seen these text

pub state_fits : (says : Case → List ℕ → Type 0) (r : Parts) (word : List ℕ) (result : Result Seen Refusal) (state : Seen) → result ≡ Ok state →
    Reads CheckSays (λ (s : Seen). s) (fitting r (exactly (codes "Width")) (seen_of word)) result → Reads says (λ (s : Seen). s) (state_in r word) (Ok state)
state_fits says r word result state is h =
    state_words_of r word (Ok state) (subst (Reads CheckSays (λ (s : Seen). s) (fitting r (exactly (codes "Width")) (seen_of word))) is h)

pub state_words : (r : Parts) (word : List ℕ) (result : Result Seen Refusal) (words : Refusal) (note : Result (Vec ℕ Global) NoMemory)
    (unread : Unread) → result ≡ Err words → unread ≡ both_of words note →
    Reads CheckSays (λ (s : Seen). s) (fitting r (exactly (codes "Width")) (seen_of word)) result →
    Reads CheckSays (λ (s : Seen). s) (state_in r word) (Err (word_refusal unread))
state_words r word result words note unread is e h =
    said_words (λ (s : Seen). s) (state_in r word) result words note unread is e (state_words_of r word result h)

pub state_fails : (r : Parts) (word : List ℕ) (result : Result Seen Refusal) (words : Refusal) (note : Result (Vec ℕ Global) NoMemory)
    (unread : Unread) → result ≡ Err words → unread ≡ both_of words note →
    Reads CheckSays (λ (s : Seen). s) (fitting r (exactly (codes "Width")) (seen_of word)) result →
    IfOk note (λ n. n.items ≡ state_text word (length (circuit_of r).flops)) →
    Reads NoteSays (λ (s : Seen). s) (state_in r word) (Err (note_refusal unread))
state_fails r word result words note unread is e h says =
    let text = state_text word (length (circuit_of r).flops) in
    said_note (λ (s : Seen). s) (codes "Width") text (state_in r word) result words note unread (state_stated r (seen_of word) (codes "Width") text)
    is e (state_words_of r word result h) says

-- ---- the size

room_stated : (is : Bool) (these text : List ℕ) → IsStated these text (if is then Ok true else Err (any_of (stated these text)))
room_stated true these text = tt
room_stated false these text = refl

pub room_fits : (r : Parts) (cycles : ℕ) (result : Result (Unit {0}) Refusal) (u : Unit {0}) → result ≡ Ok u →
    Reads CheckSays (λ (_ : Unit {0}). true) (room_in r cycles) result → Reads NoteSays (λ (_ : Unit {0}). true) (room_in r cycles) (Ok tt)
room_fits r cycles result u is h = subst (Reads CheckSays (λ (_ : Unit {0}). true) (room_in r cycles)) is h

pub room_words : (r : Parts) (cycles : ℕ) (result : Result (Unit {0}) Refusal) (words : Refusal) (note : Result (Vec ℕ Global) NoMemory)
    (unread : Unread) → result ≡ Err words → unread ≡ both_of words note → Reads CheckSays (λ (_ : Unit {0}). true) (room_in r cycles) result →
    Reads CheckSays (λ (_ : Unit {0}). true) (room_in r cycles) (Err (word_refusal unread))
room_words r cycles result words note unread is e h =
    said_words (λ (_ : Unit {0}). true) (room_in r cycles) result words note unread is e h

pub room_fails : (r : Parts) (cycles : ℕ) (result : Result (Unit {0}) Refusal) (words : Refusal) (note : Result (Vec ℕ Global) NoMemory)
    (unread : Unread) → result ≡ Err words → unread ≡ both_of words note → Reads CheckSays (λ (_ : Unit {0}). true) (room_in r cycles) result →
    IfOk note (λ n. n.items ≡ room_text (variables (circuit_of r) [])) →
    Reads NoteSays (λ (_ : Unit {0}). true) (room_in r cycles) (Err (note_refusal unread))
room_fails r cycles result words note unread is e h says =
    let text = room_text (variables (circuit_of r) []) in
    said_note (λ (_ : Unit {0}). true) (codes "TooLarge") text (room_in r cycles) result words note unread
    (room_stated (has_room r cycles) (codes "TooLarge") text) is e h says
