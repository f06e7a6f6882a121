-- A waveform is read back: the netlist of told files was read, so that its nets have names that may stand in a waveform.
use Rattle.std.proofs.Common.{◌≡◌, ℕ, ◌+◌, ◌<◌, ◌≤◌, Bool, true, false, List, [], length, Option, Some, None}
use Rattle.std.proofs.Common.{get_or, ◌⊎◌, inl, inr, Result, Ok, Err, refl, sym, subst, ap, ◌∙◌, arith}
use Rattle.std.specs.Prelude.{⊤, nat_lt, if◌then◌else◌, codes}
use Rattle.std.proofs.lemmas.Bool.{cond_both, cases_lt}
use Rattle.std.proofs.lemmas.List.{length-map}
use Rattle.std.proofs.lemmas.List.Elements.{All-from_get_or}
use Rattle.bs_net.specs.Decided.{passes}
use Rattle.bs_net.specs.Netlist.{circuit_of}
use Rattle.bs_net.specs.Parts.{Parts}
use Rattle.bs_outside.specs.declared.file.File.TheVariants as files
use Rattle.bs_outside.specs.declared.status.Status.TheVariants.{Done}
use Rattle.bs_outside.specs.PlanFiles.{limit_of}
use Rattle.bs_outside.specs.Plan.{Tells, Wanted, Reason, exactly, Plan, fetch, refuse, end, ◌>>=◌, read_as, PlanOutcome, refused, told_next, told_end}
use Rattle.bs_outside.proofs.Plans.{ready_in, refused_in}
use Rattle.bs_verilog.specs.Law.{AreNames}
use Rattle.bs_flat_meaning.proofs.NamedLemmas.{flat_nets_are_named}
use Rattle.bs_top_files.specs.Entry.{FileNames, Setup, CrashFiles, AuditFiles, netlist_of, signature_of, stimulus_of, dump_of, setup_of, crash_files_of, report_of}
use Rattle.bs_top_files.specs.Entry.{audit_files_of, drawn_of}
use Rattle.bs_top_files.specs.Readings.{checked_of, netlist_in, size_in, text_in}
use Rattle.bs_top_files.specs.Causes.{Case, check_reason, text_reason, with_reason}
use Rattle.bs_top_files.proofs.TextLemmas.{parts_answer}
use Rattle.bs_report.specs.declared.part.Part.{Part}
use Rattle.bs_report.specs.declared.report.Report.{Report}
use Rattle.bs_wave.specs.declared.value.Value.{Value}
use Rattle.bs_wave.specs.declared.wave.Wave.{Wave}
use Rattle.bs_wave.specs.Wave.{value_of, IsSettledMoment, IsWaveOf}
use Rattle.bs_wave.specs.WaveText.{HasWaveText}
use Rattle.bs_wave.specs.WaveReading.{wave_in}
use Rattle.bs_wave.proofs.ReadBackLemmas.{waves_read_back}
use Rattle.bs_top_words.specs.Job.{AuditJob, Wave as WaveWords}
use Rattle.bs_top.specs.Drawn.{IsDrawn}
use Rattle.bs_top.specs.Law.{IsReadBack, WaveformsReadBack}
use Rattle.bs_top.specs.Rejected.{finding_status}
use Rattle.bs_top.specs.Work.{Work, to_wave, plan_of, audit_names}

-- ---- what holds wherever a plan ends

abbrev EndsIn : {R V : Type 0} → (V → Type 0) → Plan R V → Type 0
EndsIn P (end v) = P v
EndsIn P (refuse file why) = ⊤
EndsIn P (fetch w next) = (bytes : List ℕ) → EndsIn P (next bytes)

ends_then : {R A B : Type 0} (P : A → Type 0) (Q : B → Type 0) (plan : Plan R A) (f : A → Plan R B) → EndsIn P plan →
    ((a : A) → P a → EndsIn Q (f a)) → EndsIn Q (plan >>= f)
ends_then P Q (end v) f h on = on v h
ends_then P Q (refuse file why) f h on = tt
ends_then P Q (fetch w next) f h on = λ bytes. ends_then P Q (next bytes) f (h bytes) on

anywhere : {R V : Type 0} (plan : Plan R V) → EndsIn (λ _. ⊤) plan
anywhere (end v) = tt
anywhere (refuse file why) = tt
anywhere (fetch w next) = λ bytes. anywhere (next bytes)

-- whatever comes first
ends_after : {R A B : Type 0} (Q : B → Type 0) (plan : Plan R A) (f : A → Plan R B) → ((a : A) → EndsIn Q (f a)) → EndsIn Q (plan >>= f)
ends_after Q plan f on = ends_then (λ _. ⊤) Q plan f (anywhere plan) (λ a _. on a)

next_ends : {R V : Type 0} (P : Type 0) (w : Wanted) (t : Option (List ℕ)) (go : List ℕ → Option (PlanOutcome R V)) (v : V) →
    told_next w t go ≡ Some (ready_in R V v) → ((bytes : List ℕ) → go bytes ≡ Some (ready_in R V v) → P) → P
next_ends {R} {V} P w None go v h step = absurd (wrong h)
  where
    wrong : None ≡ Some (ready_in R V v) → ⊥
    wrong e = cc
next_ends {R} {V} P w (Some bytes) go v h step = by (nat_lt (limit_of w.file) (length bytes)) h
  where
    wrong : Some (refused_in R V w.file (exactly (codes "TooLong"))) ≡ Some (ready_in R V v) → ⊥
    wrong e = cc

    by : (long : Bool) → (if long then Some (refused w.file (exactly (codes "TooLong"))) else go bytes) ≡ Some (ready_in R V v) → P
    by true e = absurd (wrong e)
    by false e = step bytes e

same_end : (R V : Type 0) (x y : V) → Some (ready_in R V x) ≡ Some (ready_in R V y) → x ≡ y
same_end R V x y e = cc

told_ends : {R V : Type 0} (P : V → Type 0) (told : Tells) (plan : Plan R V) (v : V) → EndsIn P plan → told_end told plan ≡ Some (ready_in R V v) → P v
told_ends {R} {V} P told (end x) v h e = subst P (same_end R V x v e) h
told_ends {R} {V} P told (refuse file why) v h e = absurd (wrong e)
  where
    wrong : Some (refused_in R V file why) ≡ Some (ready_in R V v) → ⊥
    wrong e = cc
told_ends P told (fetch w next) v h e =
    next_ends (P v) w (told w.name) (λ bytes. told_end told (next bytes)) v e (λ bytes s. told_ends P told (next bytes) v (h bytes) s)

-- ---- the names of a netlist that a walk comes to

abbrev PartsNamed : Parts → Type 0
PartsNamed raw = AreNames raw.names

abbrev SetupNamed : Setup → Type 0
SetupNamed setup = PartsNamed setup.raw

abbrev CrashFilesNamed : CrashFiles → Type 0
CrashFilesNamed crash_files = SetupNamed crash_files.setup

abbrev AuditFilesNamed : AuditFiles → Type 0
AuditFilesNamed audit_files = CrashFilesNamed audit_files.crash_files

abbrev WorkNamed : Work → Type 0
WorkNamed (to_wave audit_files) = AuditFilesNamed audit_files
WorkNamed _ = ⊤

checked_named : {F : Type 0} (path text : List ℕ) (reason : F → Reason Case) (r : Result Parts F) → ((raw : Parts) → r ≡ Ok raw → PartsNamed raw) →
    EndsIn PartsNamed (read_as files.Netlist (checked_of path text (with_reason reason r)))
checked_named path text reason (Ok raw) named =
    cond_both (passes raw) (Ok raw) (Err (check_reason path text raw)) (λ (x : Result Parts (Reason Case)). EndsIn PartsNamed (read_as files.Netlist x))
    (λ _. named raw refl) (λ _. tt)
checked_named path text reason (Err fault) named = tt

read_named : (path text : List ℕ) → EndsIn PartsNamed (read_as files.Netlist (netlist_in path text))
read_named path text = checked_named path text (text_reason path text) (text_in text) (λ raw e. flat_nets_are_named text raw (parts_answer text raw e))

setup_named : (names : FileNames) → EndsIn SetupNamed (setup_of names)
setup_named names =
    ends_then PartsNamed SetupNamed (netlist_of names.netlist)
    (λ raw. signature_of raw names.signature
    >>= (λ choice. stimulus_of raw names.stimulus >>= (λ runs. end record { raw = raw; choice = choice; runs = runs })))
    (λ text. read_named names.netlist text)
    (λ raw h. ends_after SetupNamed (signature_of raw names.signature)
    (λ choice. stimulus_of raw names.stimulus >>= (λ runs. end record { raw = raw; choice = choice; runs = runs }))
    (λ choice. ends_after SetupNamed (stimulus_of raw names.stimulus) (λ runs. end record { raw = raw; choice = choice; runs = runs }) (λ runs. h)))

crash_files_named : (names : FileNames) (dump : List ℕ) → EndsIn CrashFilesNamed (crash_files_of names dump)
crash_files_named names dump =
    ends_then SetupNamed CrashFilesNamed (setup_of names) (λ setup. dump_of setup dump >>= (λ dumped. end record { setup = setup; dump = dumped }))
    (setup_named names)
    (λ setup h. ends_after CrashFilesNamed (dump_of setup dump) (λ dumped. end record { setup = setup; dump = dumped }) (λ dumped. h))

audit_files_named : (names : FileNames) (dump report : List ℕ) → EndsIn AuditFilesNamed (audit_files_of names dump report)
audit_files_named names dump report =
    ends_then CrashFilesNamed AuditFilesNamed (crash_files_of names dump)
    (λ crash_files. report_of report >>= (λ audit_files. end record { crash_files = crash_files; report = audit_files })) (crash_files_named names dump)
    (λ crash_files h. ends_after AuditFilesNamed (report_of report) (λ audit_files. end record { crash_files = crash_files; report = audit_files }) (λ audit_files. h))

drawn_named : (names : FileNames) (dump report : List ℕ) → EndsIn AuditFilesNamed (drawn_of names dump report)
drawn_named names dump report =
    ends_then AuditFilesNamed AuditFilesNamed (audit_files_of names dump report)
    (λ audit_files. read_as files.Report (size_in report audit_files.crash_files.setup.raw audit_files.report) >>= (λ fits. end audit_files)) (audit_files_named names dump report)
    (λ audit_files h. ends_after AuditFilesNamed (read_as files.Report (size_in report audit_files.crash_files.setup.raw audit_files.report)) (λ fits. end audit_files) (λ fits. h))

work_named : (job : AuditJob) → EndsIn WorkNamed (plan_of (WaveWords job))
work_named job =
    ends_then AuditFilesNamed WorkNamed (drawn_of (audit_names job) job.dump job.report) (λ audit_files. end (to_wave audit_files))
    (drawn_named (audit_names job) job.dump job.report) (λ audit_files h. h)

-- ---- waves

wave_has_text : (raw : Parts) (states inputs : List (List Bool)) (w : Wave) → PartsNamed raw → IsWaveOf raw states inputs w → HasWaveText w
wave_has_text raw states inputs w named is =
    record {
      names = subst AreNames (sym is.keys) named;
      widths = All-from_get_or (λ (values : List Value). length values ≡ length w.keys) w.moments [] (λ i h. wide i h ∙ sym (ap length is.keys));
      some = let count = is.moments.count in omega (arith, count);
    }
  where
    settled : (s x : List Bool) (values : List Value) → IsSettledMoment (circuit_of raw) s x values → length values ≡ length raw.names
    settled s x values m = ap length m.shows ∙ (length-map m.valuation value_of ∙ m.fits.sources.every_net)

    wide : (i : ℕ) → i < length w.moments → length (get_or w.moments i []) ≡ length raw.names
    wide i h = by (cases_lt i (length inputs))
      where
        by : (i < length inputs) ⊎ (length inputs ≤ i) → length (get_or w.moments i []) ≡ length raw.names
        by (inl before) = settled _ _ _ (is.moments.settled i before)
        by (inr past) =
            let count : length w.moments ≡ length inputs + 1 = is.moments.count in
            let last : i ≡ length inputs = omega (arith, h, past, count) in
            rw last is.moments.last.every_net

drawn_back : (raw : Parts) (report : Report) (part : Option Part) (text : List ℕ) → PartsNamed raw → Done ≡ finding_status part →
    IsDrawn raw report part text → IsReadBack raw report text
drawn_back raw report None text named done drawn =
    record {
      wave = drawn.wave;
      is = drawn.is;
      read = ap wave_in drawn.written ∙ waves_read_back drawn.wave (wave_has_text raw report.states report.inputs drawn.wave named drawn.is);
    }
drawn_back raw report (Some part) text named done drawn = absurd cc

pub waveforms_read_back : WaveformsReadBack
waveforms_read_back told job audit_files text comes draws =
    let named : AuditFilesNamed audit_files = told_ends WorkNamed told (plan_of (WaveWords job)) (to_wave audit_files) (work_named job) comes in
    drawn_back audit_files.crash_files.setup.raw audit_files.report draws.part text named draws.answered draws.written
