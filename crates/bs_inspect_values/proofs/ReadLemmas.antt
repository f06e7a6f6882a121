-- What a reader answers, where its definition gives each fault a reason: the same for the words of a refusal and for the note on it.
use Rattle.std.proofs.Common.{◌≡◌, ◌⊎◌, inl, inr, ℕ, List, Result, Ok, Err, refl, sym, subst}
use Rattle.bs_outside.specs.declared.file_fetch.Refusal.{Refusal}
use Rattle.bs_outside.specs.declared.file_fetch.Refusal.TheVariants as Q
use Rattle.bs_outside.specs.Plan.{Reason, Says, any_of, exactly}
use Rattle.bs_outside.specs.Walks.{Reads}
use Rattle.bs_top_files.specs.Causes.{Case, CheckSays, HasNote, NoteSays, stated, with_reason}
use Rattle.bs_top_files.specs.Refusals.{HasWords}

-- the refusal has a text that goes with the reason, unless memory ran out
abbrev pub Has : (Case → List ℕ → Type 0) → Reason Case → Refusal → Type 0
Has says reason Q.NoMemory = Unit {0}
Has says reason (Q.Why why) = Says says reason why.items

-- ---- the words

-- where each text with these words goes with the case
pub has_words : (case : Case) (words : List ℕ) → ((why : List ℕ) → why ≡ words → CheckSays case why) → (q : Refusal) → HasWords words q →
    Has CheckSays (any_of case) q
has_words case words goes Q.NoMemory h = tt
has_words case words goes (Q.Why why) h = goes why.items h

pub stated_words : (words note : List ℕ) (q : Refusal) → HasWords words q → Has CheckSays (any_of (stated words note)) q
stated_words words note q h = has_words (stated words note) words (λ why e. e) q h

-- ---- the note

pub has_note : (reason : Reason Case) (q : Refusal) → HasNote reason q → Has NoteSays reason q
has_note reason Q.NoMemory h = tt
has_note reason (Q.Why note) h = h

pub stated_note : (words note : List ℕ) (q : Refusal) → HasNote (exactly note) q → Has NoteSays (any_of (stated words note)) q
stated_note words note Q.NoMemory h = tt
stated_note words note (Q.Why why) h = h

-- ---- the answer

-- a refusal for this reason
pub refused_reads : {T V : Type 0} (says : Case → List ℕ → Type 0) (view : T → V) (reason : Reason Case) (q : Refusal) → Has says reason q →
    Reads {T = T} says view (Err reason) (Err q)
refused_reads says view reason Q.NoMemory h = tt
refused_reads says view reason (Q.Why why) h = h

-- a value
pub value_reads : {T V F : Type 0} (says : Case → List ℕ → Type 0) (view : T → V) (reason : F → Reason Case) (wanted : Result V F) (v : T) →
    wanted ≡ Ok (view v) → Reads says view (with_reason reason wanted) (Ok v)
value_reads {V = V} {F = F} says view reason wanted v e =
    subst (λ (x : Result V F). Reads says view (with_reason reason x) (Ok v)) (sym e) refl

-- a fault, or out of memory
pub fault_reads : {T V F : Type 0} (says : Case → List ℕ → Type 0) (view : T → V) (reason : F → Reason Case) (wanted : Result V F) (none fault : F)
    (q : Refusal) → (fault ≡ none) ⊎ (wanted ≡ Err fault) → Has says (reason fault) q → (fault ≡ none → q ≡ Q.NoMemory) →
    Reads {T = T} says view (with_reason reason wanted) (Err q)
fault_reads {T = T} says view reason wanted none fault q (inl want) has wants =
    subst (λ (x : Refusal). Reads {T = T} says view (with_reason reason wanted) (Err x)) (sym (wants want)) tt
fault_reads {T = T} {V = V} {F = F} says view reason wanted none fault q (inr e) has wants =
    subst (λ (x : Result V F). Reads {T = T} says view (with_reason reason x) (Err q)) (sym e) (refused_reads says view (reason fault) q has)
