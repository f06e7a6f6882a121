-- What a reading of a file answers: the words of its refusal, and the note on it.
use Rattle.std.proofs.Common.{◌≡◌, ◌⊎◌, inl, inr, ◌≢◌, ℕ, List, Bool, true, false, Option, Some, None, Result, Ok, Err, Vec, refl, sym, subst}
use Rattle.std.specs.Prelude.{IfOk, if◌then◌else◌}
use Rattle.std.specs.declared.alloc.Global.{Global}
use Rattle.bs_bits.specs.declared.memory.NoMemory.{NoMemory}
use Rattle.bs_net.specs.Parts.{Parts}
use Rattle.bs_net.specs.Check.{IsFault}
use Rattle.bs_net.specs.declared.fault.NetFault.{NetFault}
use Rattle.bs_net.specs.declared.fault.NetFault.TheVariants as net
use Rattle.bs_net.proofs.CallerLemmas.{refused_fails}
use Rattle.bs_flat_meaning.specs.declared.fault.FlatFault.{FlatFault}
use Rattle.bs_flat_meaning.specs.declared.fault.FlatFault.TheVariants as flat
use Rattle.bs_flat_meaning.specs.Reading.{IsAnswer}
use Rattle.bs_outside.specs.declared.file.File.{File}
use Rattle.bs_outside.specs.declared.file.File.TheVariants as files
use Rattle.bs_outside.specs.declared.file_fetch.Refusal.{Refusal}
use Rattle.bs_outside.specs.declared.file_fetch.Refusal.TheVariants as Q
use Rattle.bs_outside.specs.Diagnostic.{made, both_of, word_refusal, refusal_in, note_refusal}
use Rattle.bs_outside.specs.Plan.{Reason, exactly, any_of, Says}
use Rattle.bs_outside.specs.Walks.{Reads}
use Rattle.bs_outside.specs.declared.diagnostic.Unread.{Unread}
use Rattle.bs_outside.specs.declared.diagnostic.Unread.TheVariants as U
use Rattle.bs_outside.proofs.TellingLemmas.{word_both, both_want as want_both}
use Rattle.bs_note_files.specs.Checks.{IsCheckNote}
use Rattle.bs_note_files.specs.Designs.{IsDesignNote}
use Rattle.bs_note_files.specs.Kinds.{mistaken, mistaken_text}
use Rattle.bs_top_files.specs.Causes.{Case, stated, CheckSays, NoteSays, IsNoteOnRing, seems_as, HasNote, check_reason, text_reason, with_reason}
use Rattle.bs_top_files.specs.Refusals.{HasCheckWords, HasWords, TextFault, with_one, in_rings}
use Rattle.bs_top_files.specs.Readings.{checked_in, checked_of, netlist_in, text_in}
use Rattle.bs_top_files.proofs.TextLemmas.{IsRightFault, right_faults}

-- ---- the note

pub says_mistaken : (file kind : File) (path : List ℕ) (seems : Option File) (ordinary : List ℕ → Type 0) (note : Result (Vec ℕ Global) NoMemory) →
    seems ≡ Some kind → IfOk note (λ n. n.items ≡ mistaken_text file kind path) → IfOk note (λ n. seems_as file path seems ordinary n.items)
says_mistaken file kind path seems ordinary note e says =
    subst (λ (s : Option File). IfOk note (λ n. seems_as file path s ordinary n.items)) (sym e) says

pub says_case : (file : File) (path : List ℕ) (seems : Option File) (ordinary : List ℕ → Type 0) (note : Result (Vec ℕ Global) NoMemory) →
    seems ≡ None → IfOk note (λ n. ordinary n.items) → IfOk note (λ n. seems_as file path seems ordinary n.items)
says_case file path seems ordinary note e says =
    subst (λ (s : Option File). IfOk note (λ n. seems_as file path s ordinary n.items)) (sym e) says

-- ---- both

-- the words are those that were made
pub both_words : (these : List ℕ) (words : Refusal) (note : Result (Vec ℕ Global) NoMemory) (unread : Unread) → unread ≡ both_of words note →
    HasWords these words → HasWords these (word_refusal unread)
both_words these words note unread e has =
    subst (λ (u : Unread). HasWords these (word_refusal u)) (sym e) (subst (HasWords these) (sym (word_both words note)) has)

has_made : (reason : Reason Case) (note : Result (Vec ℕ Global) NoMemory) → IfOk note (λ n. Says NoteSays reason n.items) →
    HasNote reason (refusal_in (made note))
has_made reason (Ok n) says = says
has_made reason (Err want) says = tt

note_both : (reason : Reason Case) (words : Refusal) (note : Result (Vec ℕ Global) NoMemory) → IfOk note (λ n. Says NoteSays reason n.items) →
    HasNote reason (note_refusal (both_of words note))
note_both reason Q.NoMemory note says = tt
note_both reason (Q.Why why) note says = has_made reason note says

-- the note is the one that was made
pub both_note : (reason : Reason Case) (words : Refusal) (note : Result (Vec ℕ Global) NoMemory) (unread : Unread) → unread ≡ both_of words note →
    IfOk note (λ n. Says NoteSays reason n.items) → HasNote reason (note_refusal unread)
both_note reason words note unread e says = subst (λ (u : Unread). HasNote reason (note_refusal u)) (sym e) (note_both reason words note says)

-- where memory ran out, both say so
pub both_want : (words : Refusal) (note : Result (Vec ℕ Global) NoMemory) (unread : Unread) → unread ≡ both_of words note → words ≡ Q.NoMemory →
    unread ≡ U.NoMemory
both_want words note unread e want = want_both words note unread e want

-- the note is these very words
pub both_these : (text : List ℕ) (words : Refusal) (note : Result (Vec ℕ Global) NoMemory) (unread : Unread) → unread ≡ both_of words note →
    IfOk note (λ n. n.items ≡ text) → HasNote (exactly text) (note_refusal unread)
both_these text words note unread e says = both_note (exactly text) words note unread e says

-- ---- a reader's test

-- where it holds, what is wanted there is
pub reads_where : {T V : Type 0} (says : Case → List ℕ → Type 0) (view : T → V) (holds : Bool) (wanted other : Result V (Reason Case))
    (result : Result T Refusal) → holds ≡ true → Reads says view wanted result → Reads says view (if holds then wanted else other) result
reads_where says view holds wanted other result e h = subst (λ (b : Bool). Reads says view (if b then wanted else other) result) (sym e) h

-- and where it does not, it is refused in these words and with this note, whatever is wanted else
pub words_not : {T V : Type 0} (view : T → V) (holds : Bool) (wanted : Result V (Reason Case)) (these note : List ℕ) (refusal : Refusal) →
    holds ≡ false → HasWords these refusal → Reads {T = T} CheckSays view (if holds then wanted else Err (any_of (stated these note))) (Err refusal)
words_not {T} {V} view holds wanted these note refusal e has =
    subst (λ (b : Bool). Reads {T = T} CheckSays view (if b then wanted else Err (any_of (stated these note))) (Err refusal)) (sym e) (by refusal has)
  where
    refused : Result V (Reason Case)
    refused = Err (any_of (stated these note))

    by : (refusal : Refusal) → HasWords these refusal → Reads {T = T} CheckSays view refused (Err refusal)
    by Q.NoMemory has = tt
    by (Q.Why why) has = has

pub note_not : {T V : Type 0} (view : T → V) (holds : Bool) (wanted : Result V (Reason Case)) (these note : List ℕ) (refusal : Refusal) →
    holds ≡ false → HasNote (exactly note) refusal → Reads {T = T} NoteSays view (if holds then wanted else Err (any_of (stated these note))) (Err refusal)
note_not {T} {V} view holds wanted these note refusal e has =
    subst (λ (b : Bool). Reads {T = T} NoteSays view (if b then wanted else Err (any_of (stated these note))) (Err refusal)) (sym e) (by refusal has)
  where
    refused : Result V (Reason Case)
    refused = Err (any_of (stated these note))

    by : (refusal : Refusal) → HasNote (exactly note) refusal → Reads {T = T} NoteSays view refused (Err refusal)
    by Q.NoMemory has = tt
    by (Q.Why why) has = has

-- the words and the note of a fault of the check
pub check_words : (r : Parts) (words : Refusal) (note : Result (Vec ℕ Global) NoMemory) (unread : Unread) → unread ≡ both_of words note →
    HasCheckWords r words → HasCheckWords r (word_refusal unread)
check_words r words note unread e has =
    subst (λ (u : Unread). HasCheckWords r (word_refusal u)) (sym e) (subst (HasCheckWords r) (sym (word_both words note)) has)

pub check_diagnostic : (r : Parts) (path text : List ℕ) (fault : NetFault) (words : Refusal) (note : Result (Vec ℕ Global) NoMemory) (unread : Unread) →
    IsFault r fault → fault ≢ net.NoMemory → unread ≡ both_of words note → IfOk note (λ n. IsCheckNote r path text fault n.items) →
    HasNote (check_reason path text r) (note_refusal unread)
check_diagnostic r path text fault words note unread is told same says = both_note (check_reason path text r) words note unread same (by note says)
  where
    by : (n : Result (Vec ℕ Global) NoMemory) → IfOk n (λ n. IsCheckNote r path text fault n.items) →
        IfOk n (λ n. Says NoteSays (check_reason path text r) n.items)
    by (Ok n) says = record { fault = fault; told = told; is = is; written = says }
    by (Err want) says = tt

-- ---- a netlist

-- the note on a fault of the check is one on its cause
pub reads_refused : {T : Type 0} (view : T → Parts) (path text : List ℕ) (r given : Parts) (refusal : Refusal) → given ≡ r →
    HasNote (check_reason path text given) refusal → Reads NoteSays view (checked_in path text r) (Err refusal)
reads_refused view path text r given refusal same has = by refusal (subst (λ x. HasNote (check_reason path text x) refusal) same has)
  where
    by : (refusal : Refusal) → HasNote (check_reason path text r) refusal → Reads NoteSays view (checked_in path text r) (Err refusal)
    by Q.NoMemory told = tt
    by (Q.Why why) told = rw (refused_fails r told.fault told.told told.is) told

-- a note on a ring is one on any of them
ringed_says : (path text : List ℕ) (names : List (List ℕ)) (seems : Option File) (note : List ℕ) → IsAnswer text (Err (flat.Recursion names)) →
    seems_as files.Netlist path seems (IsDesignNote path text (flat.Recursion names)) note →
    seems_as files.Netlist path seems (IsNoteOnRing path text) note
ringed_says path text names (Some kind) note is says = says
ringed_says path text names None note is says = record { names = names; is = is; written = says }

ringed : (path text : List ℕ) (names : List (List ℕ)) (refusal : Refusal) → IsAnswer text (Err (flat.Recursion names)) →
    HasNote (text_reason path text (with_one (flat.Recursion names))) refusal → HasNote (text_reason path text in_rings) refusal
ringed path text names Q.NoMemory is has = tt
ringed path text names (Q.Why note) is has = ringed_says path text names (mistaken files.Netlist text) note.items is has

-- a refusal with a note on a fault
noted_of : {T : Type 0} (view : T → Parts) (path text : List ℕ) (fault : TextFault) (refusal : Refusal) → HasNote (text_reason path text fault) refusal →
    Reads NoteSays view (checked_of path text (with_reason (text_reason path text) (Err fault))) (Err refusal)
noted_of view path text fault Q.NoMemory has = tt
noted_of view path text fault (Q.Why note) has = has

-- the note on a fault of the text is one on its cause
pub reads_failing : {T : Type 0} (view : T → Parts) (path text : List ℕ) (fault : FlatFault) (refusal : Refusal) →
    (fault ≡ flat.NoMemory) ⊎ IsAnswer text (Err fault) → HasNote (text_reason path text (with_one fault)) refusal →
    (fault ≡ flat.NoMemory → refusal ≡ Q.NoMemory) → Reads NoteSays view (netlist_in path text) (Err refusal)
reads_failing {T = T} view path text fault refusal (inl none) has want =
    subst (λ (q : Refusal). Reads {T = T} NoteSays view (netlist_in path text) (Err q)) (sym (want none)) tt
reads_failing {T = T} view path text fault refusal (inr is) has want = by (right_faults text fault is)
  where
    along : (f : TextFault) → text_in text ≡ Err f → HasNote (text_reason path text f) refusal →
        Reads {T = T} NoteSays view (netlist_in path text) (Err refusal)
    along f e h =
        subst (λ (t : Result Parts TextFault). Reads {T = T} NoteSays view (checked_of path text (with_reason (text_reason path text) t)) (Err refusal))
        (sym e) (noted_of view path text f refusal h)

    by : IsRightFault text fault → Reads {T = T} NoteSays view (netlist_in path text) (Err refusal)
    by (inl e) = along (with_one fault) e has
    by (inr r) =
        along in_rings r.0
        (ringed path text r.1.0 refusal (subst (λ f. IsAnswer text (Err f)) r.1.1 is)
        (subst (λ f. HasNote (text_reason path text (with_one f)) refusal) r.1.1 has))
