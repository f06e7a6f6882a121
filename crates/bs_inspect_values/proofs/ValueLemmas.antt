-- What a reader of values answers.
use Rattle.std.proofs.Common.{◌≡◌, ◌⊎◌, inl, inr, ℕ, Bool, true, List, length, Option, Some, None, Result, Ok, Err, Vec, map, ap, sym, subst, ◌∙◌}
use Rattle.std.specs.Borrow.{Bor}
use Rattle.std.specs.Prelude.{IfOk, nat_lt, if◌then◌else◌}
use Rattle.std.specs.declared.alloc.Global.{Global}
use Rattle.bs_bits.specs.declared.memory.NoMemory.{NoMemory}
use Rattle.bs_stim.specs.declared.limits.TheConstants.{MAX_CYCLES}
use Rattle.bs_net_names.specs.Keys.{KeyParts, key_parts}
use Rattle.bs_vcd_header.specs.declared.fault.VcdFault.{VcdFault}
use Rattle.bs_vcd_header.specs.declared.fault.VcdFault.TheVariants as vcd
use Rattle.bs_vcd_header.specs.Header.{HeaderDeclarations}
use Rattle.bs_vcd_header.specs.Scopes.{declared_of, names_of, scopes_of}
use Rattle.bs_vcd_header.specs.Sources.{scope_of}
use Rattle.bs_vcd.specs.declared.clock_edges.SampledLines.{SampledLines}
use Rattle.bs_vcd.specs.Stimulus.{stimulus_in}
use Rattle.bs_note_files.specs.Notes.{Saying, file_text}
use Rattle.bs_inspect_notes.specs.declared.name.Subject.{Subject}
use Rattle.bs_inspect_notes.specs.declared.name.Subject.TheVariants.{Inputs}
use Rattle.bs_inspect_notes.specs.Simulations.{clock_text, cycles_text, foreign, input_text}
use Rattle.bs_inspect_names.specs.declared.fault.MapFault.{MapFault}
use Rattle.bs_inspect_names.specs.declared.fault.MapFault.TheVariants as mapping
use Rattle.bs_outside.specs.declared.file_fetch.Refusal.{Refusal}
use Rattle.bs_outside.specs.declared.file_fetch.Refusal.TheVariants as Q
use Rattle.bs_outside.specs.Plan.{exactly}
use Rattle.bs_outside.specs.Walks.{Reads}
use Rattle.bs_top_files.specs.Causes.{Case, CheckSays, HasNote, IsNoteAtLine, NoteSays, with_reason}
use Rattle.bs_top_files.specs.Refusals.{HasWords}
use Rattle.bs_inspect_values.specs.Saying.{clock_said, cycles_reason, declarations, declared_or, fault_case, foreign_or, input_said, map_case, map_reason, vcd_case, vcd_reason}
use Rattle.bs_inspect_values.specs.Simulated.{few_lines, lines_read}
use Rattle.bs_inspect_values.specs.Words.{cycles_words, map_words, vcd_words}
use Rattle.bs_inspect_values.proofs.ReadLemmas.{Has, has_words, refused_reads, stated_note, stated_words}

abbrev Timed : Type 0
Timed = Result SampledLines VcdFault

-- ---- the words of a fault

map_says : (words : List ℕ) (subject : Subject) (path text : List ℕ) (keys : List (List ℕ)) (fault : MapFault) (why : List ℕ) → why ≡ words →
    CheckSays (map_case words subject path text keys fault) why
map_says words subject path text keys (mapping.Line number) why e = e
map_says words subject path text keys (mapping.Unknown number) why e = e
map_says words subject path text keys (mapping.Twice number) why e = e
map_says words subject path text keys (mapping.Range number) why e = e
map_says words subject path text keys mapping.NoMemory why e = e

-- the words of a fault of the names go with its reason
pub map_worded : (subject : Subject) (path text : List ℕ) (keys : List (List ℕ)) (fault : MapFault) (q : Refusal) → HasWords (map_words fault) q →
    Has CheckSays (map_reason subject path text keys fault) q
map_worded subject path text keys fault q h =
    has_words (map_case (map_words fault) subject path text keys fault) (map_words fault) (map_says (map_words fault) subject path text keys fault) q h

fault_says : (words : List ℕ) (subject : Subject) (path text : List ℕ) (keys names : List (List ℕ)) (scope : Option (List ℕ)) (clock : List ℕ)
    (fault : VcdFault) (why : List ℕ) → why ≡ words → CheckSays (fault_case words subject path text keys names scope clock fault) why
fault_says words subject path text keys names scope clock (vcd.Line number) why e = e
fault_says words subject path text keys names scope clock vcd.Ended why e = e
fault_says words subject path text keys names scope clock vcd.NoClock why e = e
fault_says words subject path text keys names scope clock (vcd.NoInput i) why e = e
fault_says words subject path text keys names scope clock (vcd.Unknown i time) why e = e
fault_says words subject path text keys names scope clock (vcd.NoCycle count) why e = e
fault_says words subject path text keys names scope clock (vcd.DumpOff number) why e = e
fault_says words subject path text keys names scope clock (vcd.NoTime last) why e = e
fault_says words subject path text keys names scope clock (vcd.Late begin) why e = e
fault_says words subject path text keys names scope clock vcd.NoMemory why e = e

foreign_says : (words path why : List ℕ) (seems : Option (List ℕ)) (other : Case) → why ≡ words → CheckSays other why →
    CheckSays (foreign_or words path seems other) why
foreign_says words path why (Some sentence) other e h = e
foreign_says words path why None other e h = h

pub vcd_told : (words : List ℕ) (subject : Subject) (path text : List ℕ) (keys names : List (List ℕ)) (scope : Option (List ℕ)) (clock why : List ℕ)
    (fault : VcdFault) → why ≡ words → CheckSays (vcd_case words subject path text keys names scope clock fault) why
vcd_told words subject path text keys names scope clock why fault e =
    foreign_says words path why (foreign text) (fault_case words subject path text keys names scope clock fault) e
    (fault_says words subject path text keys names scope clock fault why e)

-- the words of a fault of the values go with its reason
pub vcd_worded : (subject : Subject) (path text : List ℕ) (keys names : List (List ℕ)) (scope : Option (List ℕ)) (clock : List ℕ) (fault : VcdFault)
    (q : Refusal) → HasWords (vcd_words keys fault) q → Has CheckSays (vcd_reason subject path text keys names scope clock fault) q
vcd_worded subject path text keys names scope clock fault q h =
    let words : List ℕ = vcd_words keys fault in
    has_words (vcd_case words subject path text keys names scope clock fault) words
    (λ why e. vcd_told words subject path text keys names scope clock why fault e) q h

-- ---- lines

-- the lines of the values, where there are few enough
pub lines_ok : {T : Type 0} (says : Case → List ℕ → Type 0) (view : T → SampledLines) (path : List ℕ) (keys names : List (List ℕ))
    (scope : Option (List ℕ)) (clock text : List ℕ) (sampled : SampledLines) (r : Result T Refusal) → stimulus_in text scope clock names ≡ Ok sampled →
    Reads says view (few_lines path (Ok sampled)) r → Reads says view (lines_read path keys names scope clock text) r
lines_ok says view path keys names scope clock text sampled r e h =
    subst (λ (x : Timed). Reads says view (few_lines path (with_reason (vcd_reason Inputs path text keys names scope clock) x)) r) (sym e) h

-- a fault of the values
pub lines_err : {T : Type 0} (says : Case → List ℕ → Type 0) (view : T → SampledLines) (path : List ℕ) (keys names : List (List ℕ))
    (scope : Option (List ℕ)) (clock text : List ℕ) (fault : VcdFault) (q : Refusal) →
    (fault ≡ vcd.NoMemory) ⊎ (stimulus_in text scope clock names ≡ Err fault) → Has says (vcd_reason Inputs path text keys names scope clock fault) q →
    (fault ≡ vcd.NoMemory → q ≡ Q.NoMemory) → Reads says view (lines_read path keys names scope clock text) (Err q)
lines_err {T = T} says view path keys names scope clock text fault q (inl want) has wants =
    subst (λ (x : Refusal). Reads {T = T} says view (lines_read path keys names scope clock text) (Err x)) (sym (wants want)) tt
lines_err {T = T} says view path keys names scope clock text fault q (inr e) has wants =
    subst (λ (x : Timed). Reads {T = T} says view (few_lines path (with_reason (vcd_reason Inputs path text keys names scope clock) x)) (Err q)) (sym e)
    (refused_reads says view (vcd_reason Inputs path text keys names scope clock fault) q has)

-- too many lines
few_else : {T : Type 0} (says : Case → List ℕ → Type 0) (view : T → SampledLines) (path : List ℕ) (sampled : SampledLines) (q : Refusal) →
    nat_lt MAX_CYCLES (length sampled.lines) ≡ true → Has says (cycles_reason path) q → Reads says view (few_lines path (Ok sampled)) (Err q)
few_else {T = T} says view path sampled q many has =
    subst (λ (b : Bool). Reads {T = T} says view (if b then Err (cycles_reason path) else Ok sampled) (Err q)) (sym many)
    (refused_reads says view (cycles_reason path) q has)

pub few_worded : {T : Type 0} (view : T → SampledLines) (path : List ℕ) (sampled : SampledLines) (q : Refusal) →
    nat_lt MAX_CYCLES (length sampled.lines) ≡ true → HasWords cycles_words q → Reads CheckSays view (few_lines path (Ok sampled)) (Err q)
few_worded view path sampled q many h = few_else CheckSays view path sampled q many (stated_words cycles_words (cycles_text path) q h)

pub few_said : {T : Type 0} (view : T → SampledLines) (path : List ℕ) (sampled : SampledLines) (q : Refusal) →
    nat_lt MAX_CYCLES (length sampled.lines) ≡ true → HasNote (exactly (cycles_text path)) q → Reads NoteSays view (few_lines path (Ok sampled)) (Err q)
few_said view path sampled q many h = few_else NoteSays view path sampled q many (stated_note cycles_words (cycles_text path) q h)

-- ---- what is declared

declared_is : (text : List ℕ) (d : HeaderDeclarations) → declared_of text ≡ Ok d → declarations text ≡ d
declared_is text d e = ap declared_or e

pub clock_by_declared : (path text : List ℕ) (scope : Option (List ℕ)) (clock : List ℕ) (d : HeaderDeclarations) (r : Result (Vec ℕ Global) NoMemory) →
    declared_of text ≡ Ok d → IfOk r (λ n. n.items ≡ clock_said path scope clock d) → IfOk r (λ n. n.items ≡ clock_said path scope clock (declarations text))
clock_by_declared path text scope clock d r e says =
    subst (λ (x : HeaderDeclarations). IfOk r (λ n. n.items ≡ clock_said path scope clock x)) (sym (declared_is text d e)) says

pub input_by_declared : (subject : Subject) (path text key name one other : List ℕ) (scope : Option (List ℕ)) (clock : List ℕ) (d : HeaderDeclarations) (r : Result (Vec ℕ Global) NoMemory) →
    declared_of text ≡ Ok d → key ≡ one → name ≡ other → IfOk r (λ n. n.items ≡ input_said subject path key name scope clock d) →
    IfOk r (λ n. n.items ≡ input_said subject path one other scope clock (declarations text))
input_by_declared subject path text key name one other scope clock d r e same alike says =
    subst (λ (x : HeaderDeclarations). IfOk r (λ n. n.items ≡ input_said subject path one other scope clock x)) (sym (declared_is text d e))
    (subst (λ (k : List ℕ). IfOk r (λ n. n.items ≡ input_said subject path k other scope clock d)) same
    (subst (λ (m : List ℕ). IfOk r (λ n. n.items ≡ input_said subject path key m scope clock d)) alike says))

-- ---- the parts of a note

abbrev Texts : Type 0
Texts = List (Bor (List ℕ))

abbrev shown : Texts → List (List ℕ)
shown texts = map (λ t. t.now) texts

pub clock_of_parts : (path clock : List ℕ) (scope given : Option (List ℕ)) (d : HeaderDeclarations) (scopes names paths all : Texts) (note : List ℕ) → given ≡ scope →
    map (λ t. t.now) scopes ≡ scopes_of d → map (λ t. t.now) names ≡ names_of given d → paths ≡ scopes → all ≡ names →
    note ≡ clock_text path scope clock (map (λ t. t.now) paths) (map (λ t. t.now) all) → note ≡ clock_said path scope clock d
clock_of_parts path clock scope given d scopes names paths all note same are these some every e =
    e ∙ (λ i. clock_text path scope clock ((ap shown some ∙ are) i) ((ap shown every ∙ (these ∙ ap (λ (o : Option (List ℕ)). names_of o d) same)) i))

pub input_of_parts : (subject : Subject) (path key name clock bytes : List ℕ) (scope given found : Option (List ℕ)) (parts : KeyParts) (d : HeaderDeclarations) (names all : Texts)
    (note : List ℕ) → bytes ≡ clock → parts ≡ key_parts bytes → given ≡ scope → found ≡ scope_of given parts d → map (λ t. t.now) names ≡ names_of found d →
    all ≡ names → note ≡ input_text subject path key name (map (λ t. t.now) all) → note ≡ input_said subject path key name scope clock d
input_of_parts subject path key name clock bytes scope given found parts d names all note read is same at these every e =
    e ∙ ap (input_text subject path key name)
    (ap shown every ∙ (these ∙ ap (λ (o : Option (List ℕ)). names_of o d) (at ∙ (λ i. scope_of (same i) ((is ∙ ap key_parts read) i) d))))

-- ---- at sight

pub says_foreign : (words path sentence : List ℕ) (seems : Option (List ℕ)) (other : Case) (r : Result (Vec ℕ Global) NoMemory) → Some sentence ≡ seems →
    IfOk r (λ n. n.items ≡ file_text path sentence) → IfOk r (λ n. NoteSays (foreign_or words path seems other) n.items)
says_foreign words path sentence seems other r e says =
    subst (λ (o : Option (List ℕ)). IfOk r (λ n. NoteSays (foreign_or words path o other) n.items)) e says

pub says_fault : (words path : List ℕ) (seems : Option (List ℕ)) (other : Case) (r : Result (Vec ℕ Global) NoMemory) → None ≡ seems →
    IfOk r (λ n. NoteSays other n.items) → IfOk r (λ n. NoteSays (foreign_or words path seems other) n.items)
says_fault words path seems other r e says = subst (λ (o : Option (List ℕ)). IfOk r (λ n. NoteSays (foreign_or words path o other) n.items)) e says

-- ---- a line

pub line_said : (path text note : List ℕ) (number : ℕ) (says other : Saying) → says ≡ other → IsNoteAtLine path text number says note →
    IsNoteAtLine path text number other note
line_said path text note number says other e h = subst (λ (s : Saying). IsNoteAtLine path text number s note) e h
