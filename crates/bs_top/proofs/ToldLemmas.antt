-- A shelf of three texts tells each under its name.
use Rattle.std.proofs.Common.{◌≡◌, ℕ, Bool, true, false, List, [], ◌∷◌, refl, ap, subst, sym, ◌∙◌, Some, None, Result, Err}
use Rattle.bs_bits.specs.declared.memory.NoMemory.{NoMemory as NoMem}
use Rattle.std.specs.Prelude.{codes, IfOk, Vec, String, string_bytes, slice_get, if◌then◌else◌, option_map}
use Rattle.std.specs.Option.{option_and_then}
use Rattle.std.specs.List.{position}
use Rattle.std.specs.Str.{bytes_eq}
use Rattle.std.specs.declared.alloc.Global.{Global}
use Rattle.bs_outside.specs.Files.{Files, held_in}
use Rattle.bs_net.specs.Parts.{Parts}
use Rattle.bs_outside.specs.declared.file_fetch.JobFault.{JobFault}
use Rattle.bs_outside.specs.declared.file_fetch.JobFault.TheVariants.{NoMemory}
use Rattle.bs_outside.specs.declared.file.File.TheVariants as files
use Rattle.bs_outside.specs.Plan.{Tells, Plan, Reason, AllTold, with_texts, end, fetched, read_as, ◌>>=◌}
use Rattle.bs_outside.specs.Walks.{Walks, WalksAlone}
use Rattle.bs_outside.proofs.AskingLemmas.{along_none}
use Rattle.bs_outside.proofs.Walking.{told_then, told_fetched, told_read, walks_alone, sure_shelf}
use Rattle.bs_outside.specs.Memory.{sure_files, sure_held, sure_faults, sure_leads}
use Rattle.bs_outside.specs.declared.never_failing.SureShelf.{SureShelf}
use Rattle.bs_stim.specs.Runs.{Stimulus}
use Rattle.bs_scan.specs.Choice.{Chosen}
use Rattle.bs_scan.specs.Moments.{Moment}
use Rattle.bs_gen.specs.Job.{netlist_for, signature_text, stimulus_for}
use Rattle.bs_top_files.specs.Entry.{Setup, MomentFiles, moment_files_of, input_width}
use Rattle.bs_top_files.specs.Readings.{netlist_in, signature_in, stimulus_in, moment_in}
use Rattle.bs_top.specs.declared.budgets.TheConstants.{DEMO_RUN, DEMO_CYCLE}
use Rattle.bs_top.specs.Demo.{demo_names, demo_told, told_of}
use Rattle.bs_top.specs.Texts.{AreTexts}

abbrev CodeFile : Type 0
CodeFile = String Global × Vec ℕ Global

-- which of three files has the name, by a test of each
pick : (a b c : CodeFile) (p : CodeFile → Bool) (x y z : Bool) → p a ≡ x → p b ≡ y → p c ≡ z →
    option_and_then (λ (at : ℕ). option_map (λ (file : CodeFile). file.1.items) (slice_get (a ∷ b ∷ c ∷ []) at)) (position p (a ∷ b ∷ c ∷ []))
    ≡ (if x then Some a.1.items else (if y then Some b.1.items else (if z then Some c.1.items else None)))
pick a b c p true y z ea eb ec = rw ea refl
pick a b c p false true z ea eb ec = rw (ea, eb) refl
pick a b c p false false true ea eb ec = rw (ea, eb, ec) refl
pick a b c p false false false ea eb ec = rw (ea, eb, ec) refl

held_three : (files : Files) (netlist signature stimulus : List ℕ) → AreTexts files netlist signature stimulus → (name : List ℕ) →
    held_in files name ≡ told_of netlist signature stimulus name
held_three files netlist signature stimulus are name =
    ap (λ (l : Files). held_in l name) are.is
    ∙ pick are.first are.second are.third (λ (file : CodeFile). bytes_eq (string_bytes file.0) name)
    (bytes_eq (codes "netlist") name) (bytes_eq (codes "signature") name) (bytes_eq (codes "stimulus") name)
    (ap (λ (n : List ℕ). bytes_eq n name) are.names.0) (ap (λ (n : List ℕ). bytes_eq n name) are.names.1) (ap (λ (n : List ℕ). bytes_eq n name) are.names.2)
    ∙ (λ i. if bytes_eq (codes "netlist") name then Some (are.texts.0 i)
    else (if bytes_eq (codes "signature") name then Some (are.texts.1 i)
    else (if bytes_eq (codes "stimulus") name then Some (are.texts.2 i) else None)))

-- a walk over three files and a moment, by what reads each
abbrev moment_files_by : {Q : Type 0} → (List ℕ → Result Parts (Reason Q)) → (Parts → List ℕ → Result Chosen (Reason Q)) →
    (Parts → List ℕ → Result Stimulus (Reason Q)) → (Stimulus → Result Moment (Reason Q)) → Plan Q MomentFiles
moment_files_by nets items runs moments =
    (fetched files.Netlist (codes "netlist") >>= (λ bytes. read_as files.Netlist (nets bytes)))
    >>= (λ raw. (fetched files.Signature (codes "signature") >>= (λ bytes. read_as files.Signature (items raw bytes)))
    >>= (λ choice. (fetched files.Stimulus (codes "stimulus") >>= (λ bytes. read_as files.Stimulus (runs raw bytes)))
    >>= (λ r. end (record { raw = raw; choice = choice; runs = r }))))
    >>= (λ (setup : Setup). read_as files.Dump (moments setup.runs) >>= (λ (m : Moment). end record { setup = setup; moment = m }))

all_told : {Q : Type 0} (nets : List ℕ → Result Parts (Reason Q)) (items : Parts → List ℕ → Result Chosen (Reason Q))
    (runs : Parts → List ℕ → Result Stimulus (Reason Q)) (moments : Stimulus → Result Moment (Reason Q)) (netlist signature stimulus : List ℕ) →
    AllTold (told_of netlist signature stimulus) (moment_files_by nets items runs moments)
all_told {Q} nets items runs moments netlist signature stimulus =
    told_then told setup_by (λ (setup : Setup). read_as files.Dump (moments setup.runs) >>= (λ (m : Moment). end record { setup = setup; moment = m })) setup
    (λ setup. told_then told (read_as files.Dump (moments setup.runs)) (λ (m : Moment). end record { setup = setup; moment = m })
    (told_read told files.Dump (moments setup.runs)) (λ m. tt))
  where
    told : Tells
    told = told_of netlist signature stimulus

    nets_by : Plan Q Parts
    nets_by = fetched files.Netlist (codes "netlist") >>= (λ bytes. read_as files.Netlist (nets bytes))

    items_by : Parts → Plan Q Chosen
    items_by raw = fetched files.Signature (codes "signature") >>= (λ bytes. read_as files.Signature (items raw bytes))

    runs_by : Parts → Plan Q Stimulus
    runs_by raw = fetched files.Stimulus (codes "stimulus") >>= (λ bytes. read_as files.Stimulus (runs raw bytes))

    setup_by : Plan Q Setup
    setup_by = nets_by >>= (λ raw. items_by raw >>= (λ choice. runs_by raw >>= (λ r. end (record { raw = raw; choice = choice; runs = r }))))

    net : AllTold told nets_by
    net = told_then told (fetched files.Netlist (codes "netlist")) (λ bytes. read_as files.Netlist (nets bytes))
        (told_fetched Q told files.Netlist (codes "netlist") refl) (λ bytes. told_read told files.Netlist (nets bytes))

    item : (raw : Parts) → AllTold told (items_by raw)
    item raw = told_then told (fetched files.Signature (codes "signature")) (λ bytes. read_as files.Signature (items raw bytes))
        (told_fetched Q told files.Signature (codes "signature") refl) (λ bytes. told_read told files.Signature (items raw bytes))

    run : (raw : Parts) → AllTold told (runs_by raw)
    run raw = told_then told (fetched files.Stimulus (codes "stimulus")) (λ bytes. read_as files.Stimulus (runs raw bytes))
        (told_fetched Q told files.Stimulus (codes "stimulus") refl) (λ bytes. told_read told files.Stimulus (runs raw bytes))

    setup : AllTold told setup_by
    setup =
        told_then told nets_by
        (λ (raw : Parts). items_by raw >>=
        (λ (choice : Chosen). runs_by raw >>= (λ (r : Stimulus). end record { raw = raw; choice = choice; runs = r }))) net
        (λ raw. told_then told (items_by raw)
        (λ (choice : Chosen). runs_by raw >>= (λ (r : Stimulus). end record { raw = raw; choice = choice; runs = r })) (item raw)
        (λ choice. told_then told (runs_by raw) (λ (r : Stimulus). end record { raw = raw; choice = choice; runs = r })
        (run raw) (λ r. tt)))

-- the texts of a generated job are told to the plan over them
pub texts_told : (number : ℕ) → AllTold (demo_told number) (moment_files_of demo_names DEMO_RUN DEMO_CYCLE)
texts_told number =
    all_told (λ bytes. netlist_in (codes "netlist") bytes) (λ raw bytes. signature_in raw (codes "signature") bytes)
    (λ raw bytes. stimulus_in (input_width raw) (codes "stimulus") bytes) (λ runs. moment_in runs DEMO_RUN DEMO_CYCLE)
    (netlist_for number) signature_text (stimulus_for number)

-- a walk over a shelf of the texts is one that asks no shelf
pub alone_of : {R T V : Type 0} {allows : R → List ℕ → Type 0} {plan : Plan R V} {view : T → V} {result : Result T JobFault} (number : ℕ)
    (before now : SureShelf) → AllTold (demo_told number) plan →
    AreTexts (sure_files before) (netlist_for number) signature_text (stimulus_for number) →
    Walks allows sure_held sure_faults sure_leads before now plan view result → WalksAlone allows (with_texts (demo_told number) plan) view result
alone_of {R} {T} {V} {allows} {plan} {view} {result} number before now all are walks =
    let tells : sure_held before ≡ demo_told number =
    λ i name. held_three (sure_files before) (netlist_for number) signature_text (stimulus_for number) are name i in
    subst (λ (t : Tells). WalksAlone allows (with_texts t plan) view result) tells
    (walks_alone (subst (λ (t : Tells). AllTold t plan) (sym tells) all) (sure_shelf before now) walks)

-- the same texts
pub texts_are : {n n' s s' t t' : List ℕ} (r : Result SureShelf NoMem) → n ≡ n' → s ≡ s' → t ≡ t' → IfOk r (λ shelf. AreTexts (sure_files shelf) n s t) →
    IfOk r (λ shelf. AreTexts (sure_files shelf) n' s' t')
texts_are {n' = n'} {s = s} {s' = s'} {t = t} r en es et are =
    subst (λ (l : List ℕ). IfOk r (λ shelf. AreTexts (sure_files shelf) n' s' l)) et
    (subst (λ (l : List ℕ). IfOk r (λ shelf. AreTexts (sure_files shelf) n' l t)) es
    (subst (λ (l : List ℕ). IfOk r (λ shelf. AreTexts (sure_files shelf) l s t)) en are))

-- memory ran out before the first text
pub alone_short : {R T V : Type 0} {allows : R → List ℕ → Type 0} (plan : Plan R V) (view : T → V) → WalksAlone allows plan view (Err NoMemory)
alone_short plan view = record { is = λ told before. record { told = λ name. refl; counts = λ name. refl }; along = along_none plan }
