-- The job that words spell is the one that is read of them.
use Rattle.std.proofs.Common.{◌≡◌, ◌⊎◌, inl, inr, ⊎_elim, ℕ, ◌^◌, ◌-◌, Bool, true, false, cond, ◌||◌, List, [], ◌∷◌, ◌++◌, map, refl, arith, ap, sym}
use Rattle.std.proofs.Common.{subst, ◌∙◌}
use Rattle.std.proofs.Common.{Option, Some, None, append-nil}
use Rattle.std.specs.Prelude.{codes, decimal, ◌==◌, ◌≢◌, MatchOption}
use Rattle.std.specs.List.{flat_map, list_all}
use Rattle.std.specs.Option.{option_map, option_and_then, unwrap_or}
use Rattle.std.specs.Str.{bytes_eq}
use Rattle.std.proofs.lemmas.Slice.Eq.{bytes_eq-Decides}
use Rattle.std.proofs.lemmas.Bool.{and_from, and_parts, eqb-true}
use Rattle.bs_bits.specs.Text.{bits_of, digit_of, bits_text}
use Rattle.bs_bits.proofs.TextLemmas.{bits_again}
use Rattle.bs_scan.specs.declared.seen.Seen.{Seen}
use Rattle.bs_scan.specs.SeenText.{filled, filled_in, free_in, marked, seen_of, seen_text}
use Rattle.bs_scan.proofs.TextLemmas.{partly_text, seen_exact}
use Rattle.bs_stim.specs.declared.limits.TheConstants.{MAX_RUNS, MAX_CYCLES}
use Rattle.bs_top_words.specs.declared.limits.TheConstants.{DEFAULT_STEPS, DEFAULT_CANDIDATES, DEFAULT_CONFLICTS, MAX_BOUND}
use Rattle.bs_top_words.specs.declared.options.BudgetKind.{BudgetKind}
use Rattle.bs_top_words.specs.declared.options.BudgetKind.TheVariants.{Steps, Candidates, Conflicts}
use Rattle.bs_top_words.specs.Options.{number_between}
use Rattle.bs_top_words.specs.CommandLine.{CommandLine, plain, read_line}
use Rattle.bs_top_words.proofs.Taking.{Plain, state, read_all, start, same_line}
use Rattle.bs_top_words.specs.Job.{RunJob, AuditJob, DumpJob, ReachJob, Job, Run, Audit, Dump, Demo, Wave, Reach}
use Rattle.bs_top_words.specs.Job.{is_bit, is_mark, is_state, reach_of, reach_at, reach_if, reach_job, wave_at, wave_job, run_at, run_job, audit_at, audit_job}
use Rattle.bs_top_words.specs.Job.{dump_of, dump_at}
use Rattle.bs_top_words.specs.Job.{dump_job, demo_at, demo_job, job_of}
use Rattle.bs_top_words.specs.Spelling.{spelling, positions_of, options_of, given, values_of, listed, IsLine, IsRun, IsDump, IsDemo}
use Rattle.bs_top_words.specs.Spelling.{IsStateWord, IsReach, IsJob}
use Rattle.bs_top_words.specs.Spelling.{IsNoJob, SpelledJobsAreRead}
use Rattle.bs_top_words.proofs.SpellingLemmas.{Rest, Once, Fresh, after, read_sound, read_pieces, read_names, after_positions, after_given}
use Rattle.bs_top_words.proofs.SpellingLemmas.{fresh_from, listed_same, own_values, between_is, between_again}

-- ---- lines

start_gives_none : (kind : BudgetKind) → listed (given start.line kind) ≡ []
start_gives_none Steps = refl
start_gives_none Candidates = refl
start_gives_none Conflicts = refl

line_same : (a b : CommandLine) → a.positions ≡ b.positions → ((kind : BudgetKind) → listed (given a kind) ≡ listed (given b kind)) → a ≡ b
line_same a b p g =
    let s : a.steps ≡ b.steps = listed_same a.steps b.steps (g Steps) in
    let c : a.candidates ≡ b.candidates = listed_same a.candidates b.candidates (g Candidates) in
    let m : a.conflicts ≡ b.conflicts = listed_same a.conflicts b.conflicts (g Conflicts) in
    λ i. record { positions = p i; steps = s i; candidates = c i; conflicts = m i }

-- the line that is read is spelled
line_is : (options : Bool) (words : List (List ℕ)) (line : CommandLine) → Rest options start.line words line → IsLine words line
line_is options words line r =
    record {
      pieces = r.pieces;
      behind = r.behind;
      spelled = r.spelled;
      right = r.right;
      positions = r.positions;
      options = λ kind. r.given_more kind ∙ ap (λ xs. xs ++ values_of kind (options_of r.pieces)) (start_gives_none kind);
    }

-- a line without options
plain_is : (words : List (List ℕ)) (line : CommandLine) → Rest false start.line words line → line ≡ plain line.positions
plain_is words line r =
    line_same line (plain line.positions) refl
    (λ kind. r.given_more kind
    ∙ (ap (λ xs. xs ++ values_of kind (options_of r.pieces)) (start_gives_none kind) ∙ (ap (values_of kind) (r.none_here refl) ∙ none kind)))
  where
    none : (kind : BudgetKind) → values_of kind [] ≡ listed (given (plain line.positions) kind)
    none Steps = refl
    none Candidates = refl
    none Conflicts = refl

no_options : (options : List (BudgetKind × ℕ)) → ((kind : BudgetKind) → values_of kind options ≡ []) → options ≡ []
no_options [] h = refl
no_options (option ∷ options) h =
    let clash : option.1 ∷ values_of option.0 options ≡ [] = sym (own_values option.0 option.1 (values_of option.0 options)) ∙ h option.0 in
    absurd cc

-- a line that is spelled is read
line_read : (options : Bool) (words : List (List ℕ)) (line : CommandLine) → IsLine words line →
    (options ≡ true) ⊎ ((kind : BudgetKind) → listed (given line kind) ≡ []) → read_line options words ≡ Some line
line_read options words line h allowed =
    let once : Once start.line h.pieces =
    λ kind. (given line kind, h.options kind ∙ ap (λ xs. xs ++ values_of kind (options_of h.pieces)) (sym (start_gives_none kind))) in
    let fresh : Fresh start.line h.pieces = fresh_from h.pieces start.line once in
    let allows : (options ≡ true) ⊎ (options_of h.pieces ≡ []) =
    ⊎_elim (λ (on : options ≡ true). inl on)
    (λ (none : (kind : BudgetKind) → listed (given line kind) ≡ []). inr (no_options (options_of h.pieces) (λ kind. sym (h.options kind) ∙ none kind))) allowed in
    let end : CommandLine = after start.line h.pieces in
    let gives : (kind : BudgetKind) → listed (given end kind) ≡ listed (given line kind) =
    λ kind. after_given h.pieces start.line kind fresh
    ∙ (ap (λ xs. xs ++ values_of kind (options_of h.pieces)) (start_gives_none kind) ∙ sym (h.options kind)) in
    let read : (rest : List (List ℕ)) → read_all options (flat_map spelling h.pieces ++ rest) start ≡ read_all options rest (state Plain end) =
    λ rest. read_pieces options h.pieces start.line rest h.right fresh allows in
    same_line options words
    ∙ ⊎_elim
    (λ (k : (words ≡ flat_map spelling h.pieces) × (h.behind ≡ [])).
    ap (λ ws. read_all options ws start) (k.0 ∙ sym (append-nil (flat_map spelling h.pieces)))
    ∙ (read []
    ∙ ap (λ l. Some l) (line_same end line
    (after_positions h.pieces start.line
    ∙ (sym (append-nil (positions_of h.pieces)) ∙ (ap (λ b. positions_of h.pieces ++ b) (sym k.1) ∙ sym h.positions))) gives)))
    (λ (k : words ≡ flat_map spelling h.pieces ++ (codes "--" ∷ h.behind)).
    ap (λ ws. read_all options ws start) k
    ∙ (read (codes "--" ∷ h.behind)
    ∙ (read_names options h.behind end
    ∙ ap (λ l. Some l) (line_same (record end { positions = end.positions ++ h.behind }) line
    (ap (λ ps. ps ++ h.behind) (after_positions h.pieces start.line) ∙ sym h.positions) (λ kind. same end h.behind kind ∙ gives kind)))))
    h.spelled
  where
    same : (l : CommandLine) (behind : List (List ℕ)) (kind : BudgetKind) → listed (given (record l { positions = l.positions ++ behind }) kind) ≡ listed (given l kind)
    same l behind Steps = refl
    same l behind Candidates = refl
    same l behind Conflicts = refl

plain_gives_none : (positions : List (List ℕ)) (kind : BudgetKind) → listed (given (plain positions) kind) ≡ []
plain_gives_none positions Steps = refl
plain_gives_none positions Candidates = refl
plain_gives_none positions Conflicts = refl

-- ---- states

digit : (c : ℕ) → is_bit c ≡ true → c ≡ digit_of (c == 49)
digit c e = by (c == 49) refl (c == 48) refl e
  where
    by : (one : Bool) → (c == 49) ≡ one → (nought : Bool) → (c == 48) ≡ nought → (nought || one) ≡ true → c ≡ digit_of one
    by true is nought was e = eqb-true c 49 is
    by false is true was e = eqb-true c 48 was
    by false is false was e = absurd cc

digits : (word : List ℕ) → list_all is_bit word ≡ true → word ≡ map digit_of (map (λ (c : ℕ). c == 49) word)
digits [] e = refl
digits (c ∷ cs) e =
    let parts = and_parts (is_bit c) (list_all is_bit cs) e in
    let first : c ≡ digit_of (c == 49) = digit c parts.0 in
    let others : cs ≡ map digit_of (map (λ (c : ℕ). c == 49) cs) = digits cs parts.1 in
    λ i. first i ∷ others i

-- with 0 in place of each -
filled_digit : (c : ℕ) → is_mark c ≡ true → is_bit (filled_in c) ≡ true
filled_digit c e = by (c == 45) refl e
  where
    or_nothing : (b : Bool) → (b || false) ≡ b
    or_nothing true = refl
    or_nothing false = refl

    by : (dash : Bool) → (c == 45) ≡ dash → (is_bit c || dash) ≡ true → is_bit (cond dash 48 c) ≡ true
    by true is e = refl
    by false is e = sym (or_nothing (is_bit c)) ∙ e

filled_digits : (word : List ℕ) → list_all is_mark word ≡ true → list_all is_bit (filled word) ≡ true
filled_digits [] e = refl
filled_digits (c ∷ cs) e =
    let parts = and_parts (is_mark c) (list_all is_mark cs) e in
    and_from (is_bit (filled_in c)) (list_all is_bit (filled cs)) (filled_digit c parts.0) (filled_digits cs parts.1)

state_word : (word : List ℕ) → is_state word ≡ true → IsStateWord word
state_word [] e = absurd cc
state_word (c ∷ cs) e =
    let bits : List Bool = map (λ (c : ℕ). c == 49) (filled (c ∷ cs)) in
    let seen : Seen = record { bits = bits; free = free_in (c ∷ cs) } in
    let text : filled (c ∷ cs) ≡ bits_text bits = digits (filled (c ∷ cs)) (filled_digits (c ∷ cs) e) in
    let read : seen_of (c ∷ cs) ≡ Some seen =
    ap (option_map (λ (bits : List Bool). record { bits = bits; free = free_in (c ∷ cs) })) (ap bits_of text ∙ bits_again bits) in
    let exact = seen_exact (c ∷ cs) seen read in
    record { seen = seen; some = λ none. cc; sound = exact.0; spelled = sym exact.1 }

all_marks : (bits : List Bool) → list_all is_mark (map digit_of bits) ≡ true
all_marks [] = refl
all_marks (true ∷ bits) = all_marks bits
all_marks (false ∷ bits) = all_marks bits

marked_marks : (free bits : List Bool) → list_all is_mark (marked free (map digit_of bits)) ≡ true
marked_marks [] bits = all_marks bits
marked_marks (f ∷ free) [] = refl
marked_marks (true ∷ free) (b ∷ bits) = marked_marks free bits
marked_marks (false ∷ free) (true ∷ bits) = marked_marks free bits
marked_marks (false ∷ free) (false ∷ bits) = marked_marks free bits

state_again : (word : List ℕ) → IsStateWord word → is_state word ≡ true
state_again word h = ap is_state h.spelled ∙ again h.seen.free h.seen.bits h.some
  where
    again : (free bits : List Bool) → bits ≢ [] → is_state (seen_text (record { bits = bits; free = free })) ≡ true
    again free [] some = absurd (some refl)
    again [] (b ∷ bits) some = all_marks (b ∷ bits)
    again (f ∷ free) (b ∷ bits) some = ap is_state (partly_text f free (b ∷ bits)) ∙ marked_marks (f ∷ free) (b ∷ bits)

-- ---- from what is read to the job

run_said : (words : List (List ℕ)) (line : CommandLine) (positions : List (List ℕ)) (job : Job) → line.positions ≡ positions → IsLine words line →
    run_at line positions ≡ Some job → IsJob (codes "run" ∷ words) job
run_said words line (netlist ∷ signature ∷ stimulus ∷ dump ∷ []) job p is e =
    let run : RunJob = record {
      netlist = netlist;
      signature = signature;
      stimulus = stimulus;
      dump = dump;
      steps = unwrap_or line.steps DEFAULT_STEPS;
      candidates = unwrap_or line.candidates DEFAULT_CANDIDATES;
      conflicts = unwrap_or line.conflicts DEFAULT_CONFLICTS;
    } in
    let same : Run run ≡ job = cc in
    subst (IsJob (codes "run" ∷ words)) same (words, refl, record { line = line; is = is; files = p; steps = refl; candidates = refl; conflicts = refl })
run_said words line [] job p is e = absurd cc
run_said words line (a ∷ []) job p is e = absurd cc
run_said words line (a ∷ b ∷ []) job p is e = absurd cc
run_said words line (a ∷ b ∷ c ∷ []) job p is e = absurd cc
run_said words line (a ∷ b ∷ c ∷ d ∷ x ∷ xs) job p is e = absurd cc

audit_said : (words positions : List (List ℕ)) (job : Job) → IsLine words (plain positions) → audit_at positions ≡ Some job → IsJob (codes "audit" ∷ words) job
audit_said words (a ∷ b ∷ c ∷ d ∷ x ∷ []) job is e =
    let audit : AuditJob = record { netlist = a; signature = b; stimulus = c; dump = d; report = x } in
    let same : Audit audit ≡ job = cc in
    subst (IsJob (codes "audit" ∷ words)) same (words, refl, is)
audit_said words [] job is e = absurd cc
audit_said words (a ∷ []) job is e = absurd cc
audit_said words (a ∷ b ∷ []) job is e = absurd cc
audit_said words (a ∷ b ∷ c ∷ []) job is e = absurd cc
audit_said words (a ∷ b ∷ c ∷ d ∷ []) job is e = absurd cc
audit_said words (a ∷ b ∷ c ∷ d ∷ x ∷ y ∷ ys) job is e = absurd cc

wave_said : (words positions : List (List ℕ)) (job : Job) → IsLine words (plain positions) → wave_at positions ≡ Some job → IsJob (codes "wave" ∷ words) job
wave_said words (a ∷ b ∷ c ∷ d ∷ x ∷ []) job is e =
    let audit : AuditJob = record { netlist = a; signature = b; stimulus = c; dump = d; report = x } in
    let same : Wave audit ≡ job = cc in
    subst (IsJob (codes "wave" ∷ words)) same (words, refl, is)
wave_said words [] job is e = absurd cc
wave_said words (a ∷ []) job is e = absurd cc
wave_said words (a ∷ b ∷ []) job is e = absurd cc
wave_said words (a ∷ b ∷ c ∷ []) job is e = absurd cc
wave_said words (a ∷ b ∷ c ∷ d ∷ []) job is e = absurd cc
wave_said words (a ∷ b ∷ c ∷ d ∷ x ∷ y ∷ ys) job is e = absurd cc

dump_said : (words positions : List (List ℕ)) (job : Job) → IsLine words (plain positions) → dump_at positions ≡ Some job → IsJob (codes "dump" ∷ words) job
dump_said words (a ∷ b ∷ c ∷ r ∷ k ∷ []) job is e = by (number_between 1 MAX_RUNS r) refl (number_between 0 MAX_CYCLES k) refl e
  where
    by : (run : Option ℕ) → number_between 1 MAX_RUNS r ≡ run → (cycle : Option ℕ) → number_between 0 MAX_CYCLES k ≡ cycle →
        dump_of a b c run cycle ≡ Some job → IsJob (codes "dump" ∷ words) job
    by (Some run) f (Some cycle) g e =
        let x = between_is 1 MAX_RUNS r run f in
        let y = between_is 0 MAX_CYCLES k cycle g in
        let dump : DumpJob = record { netlist = a; signature = b; stimulus = c; run = run; cycle = cycle } in
        let same : Dump dump ≡ job = cc in
        let spelled : IsLine words (plain (a ∷ b ∷ c ∷ decimal run ∷ decimal cycle ∷ [])) = rw (x.0, y.0) is in
        subst (IsJob (codes "dump" ∷ words)) same (words, refl, record { is = spelled; from_one = x.1; few_runs = x.2; few_cycles = y.2 })
    by (Some run) f None g e = absurd cc
    by None f cycle g e = absurd cc
dump_said words [] job is e = absurd cc
dump_said words (a ∷ []) job is e = absurd cc
dump_said words (a ∷ b ∷ []) job is e = absurd cc
dump_said words (a ∷ b ∷ c ∷ []) job is e = absurd cc
dump_said words (a ∷ b ∷ c ∷ d ∷ []) job is e = absurd cc
dump_said words (a ∷ b ∷ c ∷ d ∷ x ∷ y ∷ ys) job is e = absurd cc

demo_said : (words positions : List (List ℕ)) (job : Job) → IsLine words (plain positions) → demo_at positions ≡ Some job → IsJob (codes "demo" ∷ words) job
demo_said words (a ∷ []) job is e = by (number_between 0 (2 ^ 64 - 1) a) refl e
  where
    by : (o : Option ℕ) → number_between 0 (2 ^ 64 - 1) a ≡ o → option_map (λ (n : ℕ). Demo n) o ≡ Some job → IsJob (codes "demo" ∷ words) job
    by (Some n) f e =
        let x = between_is 0 (2 ^ 64 - 1) a n f in
        let same : Demo n ≡ job = cc in
        let spelled : IsLine words (plain (decimal n ∷ [])) = rw x.0 is in
        subst (IsJob (codes "demo" ∷ words)) same (words, refl, (spelled, x.3))
    by None f e = absurd cc
demo_said words [] job is e = absurd cc
demo_said words (a ∷ b ∷ bs) job is e = absurd cc

reach_said : (words : List (List ℕ)) (line : CommandLine) (positions : List (List ℕ)) (job : Job) → line.positions ≡ positions → IsLine words line →
    line.steps ≡ None → line.candidates ≡ None → reach_at line positions ≡ Some job → IsJob (codes "reach" ∷ words) job
reach_said words line (netlist ∷ state ∷ k ∷ []) job p is steps candidates e = by (is_state state) refl (number_between 0 MAX_BOUND k) refl e
  where
    by : (b : Bool) → is_state state ≡ b → (cycles : Option ℕ) → number_between 0 MAX_BOUND k ≡ cycles →
        reach_of netlist state (unwrap_or line.conflicts DEFAULT_CONFLICTS) b cycles ≡ Some job → IsJob (codes "reach" ∷ words) job
    by true bits (Some cycles) f e =
        let x = between_is 0 MAX_BOUND k cycles f in
        let reach : ReachJob =
        record { netlist = netlist; state = state; cycles = cycles; conflicts = unwrap_or line.conflicts DEFAULT_CONFLICTS } in
        let same : Reach reach ≡ job = cc in
        let places : line.positions ≡ netlist ∷ state ∷ decimal cycles ∷ [] = p ∙ ap (λ c. netlist ∷ state ∷ c ∷ []) (sym x.0) in
        let is_reach : IsReach words reach = record {
          line = line;
          is = is;
          places = places;
          state = state_word state bits;
          few_cycles = x.2;
          conflicts = refl;
          no_steps = steps;
          no_candidates = candidates;
        } in
        subst (IsJob (codes "reach" ∷ words)) same (words, refl, is_reach)
    by true bits None f e = absurd cc
    by false bits cycles f e = absurd cc
reach_said words line [] job p is steps candidates e = absurd cc
reach_said words line (a ∷ []) job p is steps candidates e = absurd cc
reach_said words line (a ∷ b ∷ []) job p is steps candidates e = absurd cc
reach_said words line (a ∷ b ∷ c ∷ d ∷ ds) job p is steps candidates e = absurd cc

reach_asked : (words : List (List ℕ)) (line : CommandLine) (job : Job) → IsLine words line → (steps : Option ℕ) → line.steps ≡ steps →
    (candidates : Option ℕ) → line.candidates ≡ candidates → reach_if line steps candidates ≡ Some job → IsJob (codes "reach" ∷ words) job
reach_asked words line job is None s None c e = reach_said words line line.positions job refl is s c e
reach_asked words line job is None s (Some n) c e = absurd cc
reach_asked words line job is (Some n) s candidates c e = absurd cc

job_said : (words : List (List ℕ)) (job : Job) → job_of words ≡ Some job → IsJob words job
job_said [] job e = absurd cc
job_said (command ∷ words) job e =
    by (bytes_eq command (codes "run")) refl (bytes_eq command (codes "reach")) refl e
  where
    named : (name : List ℕ) → bytes_eq command name ≡ true → IsJob (name ∷ words) job → IsJob (command ∷ words) job
    named name is h = subst (λ (c : List ℕ). IsJob (c ∷ words) job) (sym ((bytes_eq-Decides command name).0 is)) h

    read : (options : Bool) (line : CommandLine) → read_line options words ≡ Some line → Rest options start.line words line
    read options line e = read_sound options words Plain start.line line (sym (same_line options words) ∙ e)

    bare : (line : CommandLine) → read_line false words ≡ Some line → IsLine words (plain line.positions)
    bare line e = subst (IsLine words) (plain_is words line (read false line e)) (line_is false words line (read false line e))

    others : (line : CommandLine) → read_line false words ≡ Some line → (a : Bool) → bytes_eq command (codes "audit") ≡ a → (d : Bool) →
        bytes_eq command (codes "dump") ≡ d → (m : Bool) → bytes_eq command (codes "demo") ≡ m → (v : Bool) → bytes_eq command (codes "wave") ≡ v →
        cond a (audit_job line) (cond d (dump_job line) (cond m (demo_job line) (cond v (wave_job line) None))) ≡ Some job → IsJob (command ∷ words) job
    others line is true a d f m g v h e = named (codes "audit") a (audit_said words line.positions job (bare line is) e)
    others line is false a true f m g v h e = named (codes "dump") f (dump_said words line.positions job (bare line is) e)
    others line is false a false f true g v h e = named (codes "demo") g (demo_said words line.positions job (bare line is) e)
    others line is false a false f false g true h e = named (codes "wave") h (wave_said words line.positions job (bare line is) e)
    others line is false a false f false g false h e = absurd cc

    on_run : (o : Option CommandLine) → read_line true words ≡ o → option_and_then run_job o ≡ Some job → IsJob (codes "run" ∷ words) job
    on_run None is e = absurd cc
    on_run (Some line) is e = run_said words line line.positions job refl (line_is true words line (read true line is)) e

    on_reach : (o : Option CommandLine) → read_line true words ≡ o → option_and_then reach_job o ≡ Some job → IsJob (codes "reach" ∷ words) job
    on_reach None is e = absurd cc
    on_reach (Some line) is e =
        reach_asked words line job (line_is true words line (read true line is)) line.steps refl line.candidates refl e

    on_others : (o : Option CommandLine) → read_line false words ≡ o →
        option_and_then (λ (line : CommandLine). cond (bytes_eq command (codes "audit")) (audit_job line)
        (cond (bytes_eq command (codes "dump")) (dump_job line)
        (cond (bytes_eq command (codes "demo")) (demo_job line)
        (cond (bytes_eq command (codes "wave")) (wave_job line) None)))) o ≡ Some job →
        IsJob (command ∷ words) job
    on_others None is e = absurd cc
    on_others (Some line) is e =
        others line is (bytes_eq command (codes "audit")) refl (bytes_eq command (codes "dump")) refl
        (bytes_eq command (codes "demo")) refl (bytes_eq command (codes "wave")) refl e

    by : (r : Bool) → bytes_eq command (codes "run") ≡ r → (h : Bool) → bytes_eq command (codes "reach") ≡ h →
        option_and_then (λ (line : CommandLine). cond r (run_job line)
        (cond h (reach_job line)
        (cond (bytes_eq command (codes "audit")) (audit_job line)
        (cond (bytes_eq command (codes "dump")) (dump_job line)
        (cond (bytes_eq command (codes "demo")) (demo_job line)
        (cond (bytes_eq command (codes "wave")) (wave_job line) None))))))
        (read_line (r || h) words) ≡ Some job →
        IsJob (command ∷ words) job
    by true r h k e = named (codes "run") r (on_run (read_line true words) refl e)
    by false r true k e = named (codes "reach") k (on_reach (read_line true words) refl e)
    by false r false k e = on_others (read_line false words) refl e

-- ---- from the job to what is read

job_again : (words : List (List ℕ)) (job : Job) → IsJob words job → job_of words ≡ Some job
job_again words (Run job) h =
    let rest = h.0 in
    let r : IsRun rest job = h.2 in
    ap job_of h.1
    ∙ (ap (option_and_then run_job) (line_read true rest r.line r.is (inl refl))
    ∙ (ap (run_at r.line) r.files
    ∙ (λ i. Some (Run (record {
      netlist = job.netlist;
      signature = job.signature;
      stimulus = job.stimulus;
      dump = job.dump;
      steps = sym r.steps i;
      candidates = sym r.candidates i;
      conflicts = sym r.conflicts i;
    })))))
job_again words (Audit job) h =
    let positions : List (List ℕ) = job.netlist ∷ job.signature ∷ job.stimulus ∷ job.dump ∷ job.report ∷ [] in
    ap job_of h.1 ∙ ap (option_and_then audit_job) (line_read false h.0 (plain positions) h.2 (inr (plain_gives_none positions)))
job_again words (Reach job) h =
    let r : IsReach h.0 job = h.2 in
    let conflicts : ℕ = unwrap_or r.line.conflicts DEFAULT_CONFLICTS in
    ap job_of h.1
    ∙ (ap (option_and_then reach_job) (line_read true h.0 r.line r.is (inl refl))
    ∙ (ap (λ o. reach_if r.line o r.line.candidates) r.no_steps
    ∙ (ap (reach_if r.line None) r.no_candidates
    ∙ (ap (reach_at r.line) r.places
    ∙ (ap (λ b. reach_of job.netlist job.state conflicts b (number_between 0 MAX_BOUND (decimal job.cycles))) (state_again job.state r.state)
    ∙ (ap (λ o. reach_of job.netlist job.state conflicts true o)
    (between_again 0 MAX_BOUND job.cycles (omega arith) r.few_cycles (omega (arith, r.few_cycles)))
    ∙ ap (λ n. Some (Reach (record { netlist = job.netlist; state = job.state; cycles = job.cycles; conflicts = n }))) (sym r.conflicts)))))))
job_again words (Wave job) h =
    let positions : List (List ℕ) = job.netlist ∷ job.signature ∷ job.stimulus ∷ job.dump ∷ job.report ∷ [] in
    ap job_of h.1 ∙ ap (option_and_then wave_job) (line_read false h.0 (plain positions) h.2 (inr (plain_gives_none positions)))
job_again words (Dump job) h =
    let d : IsDump h.0 job = h.2 in
    let positions : List (List ℕ) = job.netlist ∷ job.signature ∷ job.stimulus ∷ decimal job.run ∷ decimal job.cycle ∷ [] in
    ap job_of h.1
    ∙ (ap (option_and_then dump_job) (line_read false h.0 (plain positions) d.is (inr (plain_gives_none positions)))
    ∙ (ap (λ o. dump_of job.netlist job.signature job.stimulus o (number_between 0 MAX_CYCLES (decimal job.cycle)))
    (between_again 1 MAX_RUNS job.run d.from_one d.few_runs (omega (arith, d.few_runs)))
    ∙ ap (λ o. dump_of job.netlist job.signature job.stimulus (Some job.run) o)
    (between_again 0 MAX_CYCLES job.cycle (omega arith) d.few_cycles (omega (arith, d.few_cycles)))))
job_again words (Demo number) h =
    let d : IsDemo h.0 number = h.2 in
    let positions : List (List ℕ) = decimal number ∷ [] in
    ap job_of h.1
    ∙ (ap (option_and_then demo_job) (line_read false h.0 (plain positions) d.0 (inr (plain_gives_none positions)))
    ∙ ap (option_map (λ (n : ℕ). Demo n)) (between_again 0 (2 ^ 64 - 1) number (omega arith) (omega (arith, d.1)) d.1))

pub spelled_jobs_are_read : SpelledJobsAreRead
spelled_jobs_are_read words job = (job_said words job, job_again words job)

-- what is read of words is the job that they spell, and nothing where they spell none
pub job_spelled : (words : List (List ℕ)) (read : Option Job) → read ≡ job_of words → MatchOption read (IsNoJob words) (IsJob words)
job_spelled words None e = record { none = λ job is. let clash : None ≡ Some job = e ∙ job_again words job is in cc }
job_spelled words (Some job) e = job_said words job (sym e)
