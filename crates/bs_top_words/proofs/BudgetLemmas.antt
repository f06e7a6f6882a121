-- The budgets of a job are in their ranges.
use Rattle.std.proofs.Common.{◌≡◌, ℕ, ◌≤◌, ◌-◌, ◌^◌, Bool, true, false, List, [], ◌∷◌, Option, Some, None, refl, sym, subst, ◌∙◌, codes, if◌then◌else◌, arith}
use Rattle.std.specs.Prelude.{nat_le, ◌&&◌, IfSome}
use Rattle.std.specs.Option.{option_map, option_and_then, unwrap_or}
use Rattle.std.specs.Str.{bytes_eq}
use Rattle.std.proofs.lemmas.Bool.{leb-true, and_parts}
use Rattle.bs_bits.specs.Lines.{number_in}
use Rattle.bs_stim.specs.declared.limits.TheConstants.{MAX_RUNS, MAX_CYCLES}
use Rattle.bs_top_words.specs.declared.limits.TheConstants.{MAX_STEPS, MAX_CANDIDATES, MAX_CONFLICTS, MAX_BOUND}
use Rattle.bs_top_words.specs.declared.limits.TheConstants.{DEFAULT_STEPS, DEFAULT_CANDIDATES, DEFAULT_CONFLICTS}
use Rattle.bs_top_words.specs.declared.options.BudgetKind.{BudgetKind}
use Rattle.bs_top_words.specs.declared.options.BudgetKind.TheVariants.{Steps, Candidates, Conflicts}
use Rattle.bs_top_words.specs.Options.{number_between, value_in, has_dash, is_option}
use Rattle.bs_top_words.specs.CommandLine.{CommandLine, once, set_to, read_line}
use Rattle.bs_top_words.proofs.Taking.{Mode, Plain, Wants, Names, State, behind, kind_of, set_if, set_by, add_to, in_mode, option_step, plain_step, step}
use Rattle.bs_top_words.proofs.Taking.{finish, read_all, start, same_line}
use Rattle.bs_top_words.specs.Job.{RunJob, ReachJob, Job, Run, Audit, Dump, Demo, Wave, Reach, run_job, run_at, audit_at, audit_job, dump_of, dump_at}
use Rattle.bs_top_words.specs.Job.{dump_job, demo_at, demo_job, wave_at, wave_job, is_state, reach_of, reach_at, reach_if, reach_job, has_budget, command_job}
use Rattle.bs_top_words.specs.Job.{job_of}
use Rattle.bs_top_words.proofs.SpellingLemmas.{between_is}

-- ---- equations of options

abbrev some_in : (A : Type 0) → A → Option A
some_in A a = Some a

some_same : (A : Type 0) (a b : A) → some_in A a ≡ some_in A b → a ≡ b
some_same A a b e = cc

no_some : (A : Type 0) (a : A) → None ≡ some_in A a → ⊥
no_some A a e = cc

-- the value behind a map
pub record Mapped (A B : Type 0) (f : A → B) (o : Option A) (b : B) : Type 0 where
  pub value : A
  pub there : o ≡ Some value
  pub is : f value ≡ b

mapped : (A B : Type 0) (f : A → B) (o : Option A) (b : B) → option_map f o ≡ Some b → Mapped A B f o b
mapped A B f None b e = absurd (no_some B b e)
mapped A B f (Some a) b e = record { value = a; there = refl; is = some_same B (f a) b e }

-- ---- numbers in a range

pub record InRange (high n : ℕ) : Type 0 where
  pub low : 1 ≤ n
  pub most : n ≤ high

abbrev InRangeIf : ℕ → Option ℕ → Type 0
InRangeIf high o = (n : ℕ) → o ≡ Some n → InRange high n

value_fits : (high : ℕ) (word : List ℕ) → InRangeIf high (number_between 1 high word)
value_fits high word n e = by (number_in word) e
  where
    test : (m : ℕ) (b : Bool) → (nat_le 1 m && nat_le m high) ≡ b → (if b then Some m else None) ≡ some_in ℕ n → InRange high n
    test m true holds k =
        let parts = and_parts (nat_le 1 m) (nat_le m high) holds in
        subst (InRange high) (some_same ℕ m n k) (record { low = leb-true 1 m parts.0; most = leb-true m high parts.1 })
    test m false holds k = absurd (no_some ℕ n k)

    by : (o : Option ℕ) → option_and_then (λ (m : ℕ). if nat_le 1 m && nat_le m high then Some m else None) o ≡ Some n → InRange high n
    by None k = absurd (no_some ℕ n k)
    by (Some m) k = test m (nat_le 1 m && nat_le m high) refl k

-- ---- lines

pub record Fits (l : CommandLine) : Type 0 where
  pub steps : InRangeIf MAX_STEPS l.steps
  pub candidates : InRangeIf MAX_CANDIDATES l.candidates
  pub conflicts : InRangeIf MAX_CONFLICTS l.conflicts

once_fits : (high : ℕ) (o v p : Option ℕ) → InRangeIf high v → once o v ≡ Some p → InRangeIf high p
once_fits high (Some m) v p fits e n k = absurd (no_some (Option ℕ) p e)
once_fits high None v p fits e n k =
    let m = mapped ℕ (Option ℕ) (λ (n : ℕ). Some n) v p e in
    fits n (subst (λ (a : ℕ). v ≡ Some a) (some_same ℕ m.value n (subst (λ (x : Option ℕ). x ≡ Some n) (sym m.is) k)) m.there)

set_fits : (l : CommandLine) (kind : BudgetKind) (word : List ℕ) (new : CommandLine) → Fits l → set_to l kind word ≡ Some new → Fits new
set_fits l Steps word new fits e =
    let m = mapped (Option ℕ) CommandLine (λ (o : Option ℕ). record l { steps = o }) (once l.steps (value_in Steps word)) new e in
    subst Fits m.is (record {
      steps = once_fits MAX_CANDIDATES l.steps (value_in Steps word) m.value
          (value_fits MAX_CANDIDATES word) m.there;
      candidates = fits.candidates;
      conflicts = fits.conflicts;
    })
set_fits l Candidates word new fits e =
    let m = mapped (Option ℕ) CommandLine (λ (o : Option ℕ). record l { candidates = o }) (once l.candidates (value_in Candidates word)) new e in
    subst Fits m.is (record {
      steps = fits.steps;
      candidates = once_fits MAX_CANDIDATES l.candidates (value_in Candidates word) m.value
          (value_fits MAX_CANDIDATES word) m.there;
      conflicts = fits.conflicts;
    })
set_fits l Conflicts word new fits e =
    let m = mapped (Option ℕ) CommandLine (λ (o : Option ℕ). record l { conflicts = o }) (once l.conflicts (value_in Conflicts word)) new e in
    subst Fits m.is (record {
      steps = fits.steps;
      candidates = fits.candidates;
      conflicts = once_fits MAX_CONFLICTS l.conflicts
          (value_in Conflicts word) m.value (value_fits MAX_CONFLICTS word) m.there;
    })

if_fits : (l : CommandLine) (kind : BudgetKind) (o : Option (List ℕ)) (other : Option CommandLine) (new : CommandLine) → Fits l → (other ≡ Some new → Fits new) →
    set_if l kind o other ≡ Some new → Fits new
if_fits l kind None other new fits rest e = rest e
if_fits l kind (Some word) other new fits rest e = set_fits l kind word new fits e

by_fits : (l : CommandLine) (word : List ℕ) (new : CommandLine) → Fits l → set_by l word ≡ Some new → Fits new
by_fits l word new fits e =
    if_fits l Steps (behind Steps word) _ new fits
    (if_fits l Candidates (behind Candidates word) _ new fits
    (if_fits l Conflicts (behind Conflicts word) None new fits (λ k. absurd (no_some CommandLine new k)))) e

-- ---- states

moded_fits : (mode : Mode) (o : Option CommandLine) (s : State) → ((new : CommandLine) → o ≡ Some new → Fits new) → in_mode mode o ≡ Some s → Fits s.line
moded_fits mode o s fits e =
    let m = mapped CommandLine State (λ (l : CommandLine). record { mode = mode; line = l }) o s e in
    subst (λ (t : State). Fits t.line) m.is (fits m.value m.there)

option_fits : (l : CommandLine) (word : List ℕ) (kind : Option BudgetKind) (s : State) → Fits l → option_step l word kind ≡ Some s → Fits s.line
option_fits l word None s fits e = moded_fits Plain (set_by l word) s (λ new k. by_fits l word new fits k) e
option_fits l word (Some kind) s fits e = subst (λ (t : State). Fits t.line) (some_same State (record { mode = Wants kind; line = l }) s e) fits

added_fits : (l : CommandLine) (word : List ℕ) → Fits l → Fits (add_to l word)
added_fits l word fits = record { steps = fits.steps; candidates = fits.candidates; conflicts = fits.conflicts }

plain_fits : (options : Bool) (l : CommandLine) (word : List ℕ) (s : State) → Fits l → plain_step options l word ≡ Some s → Fits s.line
plain_fits options l word s fits e = dashes (bytes_eq word (codes "--")) e
  where
    inner : (b : Bool) → (if b then option_step l word (kind_of word) else None) ≡ some_in State s → Fits s.line
    inner true k = option_fits l word (kind_of word) s fits k
    inner false k = absurd (no_some State s k)

    outer : (b : Bool) → (if b then (if options then option_step l word (kind_of word) else None) else Some record {
      mode = Plain;
      line =
          add_to l word;
    }) ≡ some_in State s → Fits s.line
    outer true k = inner options k
    outer false k = subst (λ (t : State). Fits t.line) (some_same State (record { mode = Plain; line = add_to l word }) s k) (added_fits l word fits)

    dashes : (b : Bool) →
        (if b then Some record { mode = Names; line = l } else
        (if is_option word then
        (if options then option_step l word (kind_of word) else None) else Some record { mode = Plain; line = add_to l word })) ≡ some_in State s → Fits s.line
    dashes true k = subst (λ (t : State). Fits t.line) (some_same State (record { mode = Names; line = l }) s k) fits
    dashes false k = outer (is_option word) k

step_fits : (options : Bool) (mode : Mode) (l : CommandLine) (word : List ℕ) (s : State) → Fits l → step options mode l word ≡ Some s → Fits s.line
step_fits options Plain l word s fits e = plain_fits options l word s fits e
step_fits options (Wants kind) l word s fits e = by (has_dash word) e
  where
    by : (b : Bool) → (if b then None else in_mode Plain (set_to l kind word)) ≡ some_in State s → Fits s.line
    by true k = absurd (no_some State s k)
    by false k = moded_fits Plain (set_to l kind word) s (λ new h. set_fits l kind word new fits h) k
step_fits options Names l word s fits e =
    subst (λ (t : State). Fits t.line) (some_same State (record { mode = Names; line = add_to l word }) s e) (added_fits l word fits)

finish_fits : (mode : Mode) (l new : CommandLine) → Fits l → finish mode l ≡ Some new → Fits new
finish_fits Plain l new fits e = subst Fits (some_same CommandLine l new e) fits
finish_fits (Wants kind) l new fits e = absurd (no_some CommandLine new e)
finish_fits Names l new fits e = subst Fits (some_same CommandLine l new e) fits

all_fits : (options : Bool) (words : List (List ℕ)) (s : State) (new : CommandLine) → Fits s.line → read_all options words s ≡ Some new → Fits new
all_fits options [] s new fits e = finish_fits s.mode s.line new fits e
all_fits options (word ∷ words) s new fits e =
    by (step options s.mode s.line word) (λ t k. step_fits options s.mode s.line word t fits k) (λ t f k. all_fits options words t new f k) e
  where
    by : (o : Option State) → ((t : State) → o ≡ Some t → Fits t.line) → ((t : State) → Fits t.line → read_all options words t ≡ Some new → Fits new) →
        option_and_then (λ (t : State). read_all options words t) o ≡ Some new → Fits new
    by None h rest k = absurd (no_some CommandLine new k)
    by (Some t) h rest k = rest t (h t refl) k

start_fits : Fits start.line
start_fits = record { steps = λ n e. absurd (no_some ℕ n e); candidates = λ n e. absurd (no_some ℕ n e); conflicts = λ n e. absurd (no_some ℕ n e) }

-- ---- jobs

-- the budgets of a run are at least 1 and not too great
pub record FitsRun (job : RunJob) : Type 0 where
  pub steps : InRange MAX_STEPS job.steps
  pub candidates : InRange MAX_CANDIDATES job.candidates
  pub conflicts : InRange MAX_CONFLICTS job.conflicts

-- so is the budget of a search, and its cycles are not too many
pub record FitsReach (job : ReachJob) : Type 0 where
  pub cycles : job.cycles ≤ MAX_BOUND
  pub conflicts : InRange MAX_CONFLICTS job.conflicts

abbrev pub FitsJob : Job → Type 0
FitsJob (Run job) = FitsRun job
FitsJob (Audit job) = Unit {0}
FitsJob (Dump job) = Unit {0}
FitsJob (Demo number) = Unit {0}
FitsJob (Wave job) = Unit {0}
FitsJob (Reach job) = FitsReach job

or_default : (high default : ℕ) (o : Option ℕ) → InRange high default → InRangeIf high o → InRange high (unwrap_or o default)
or_default high default None fits h = fits
or_default high default (Some n) fits h = h n refl

abbrev FitsIf : Option Job → Type 0
FitsIf o = IfSome o FitsJob

run_fits : (l : CommandLine) (positions : List (List ℕ)) → Fits l → FitsIf (run_at l positions)
run_fits l (netlist ∷ signature ∷ stimulus ∷ dump ∷ []) fits = record {
  steps = or_default MAX_STEPS DEFAULT_STEPS l.steps (record { low = omega arith; most = omega arith }) fits.steps;
  candidates = or_default MAX_CANDIDATES DEFAULT_CANDIDATES l.candidates (record { low = omega arith; most = omega arith }) fits.candidates;
  conflicts = or_default MAX_CONFLICTS DEFAULT_CONFLICTS l.conflicts (record { low = omega arith; most = omega arith }) fits.conflicts;
}
run_fits l [] fits = tt
run_fits l (a ∷ []) fits = tt
run_fits l (a ∷ b ∷ []) fits = tt
run_fits l (a ∷ b ∷ c ∷ []) fits = tt
run_fits l (a ∷ b ∷ c ∷ d ∷ x ∷ xs) fits = tt

reach_fits : (l : CommandLine) (positions : List (List ℕ)) → Fits l → FitsIf (reach_at l positions)
reach_fits l (netlist ∷ state ∷ cycles ∷ []) fits = by (is_state state) (number_between 0 MAX_BOUND cycles) refl
  where
    by : (b : Bool) (o : Option ℕ) → number_between 0 MAX_BOUND cycles ≡ o → FitsIf (reach_of netlist state (unwrap_or l.conflicts DEFAULT_CONFLICTS) b o)
    by true (Some n) e = record {
      cycles = (between_is 0 MAX_BOUND cycles n e).2;
      conflicts = or_default MAX_CONFLICTS DEFAULT_CONFLICTS l.conflicts (record { low = omega arith; most = omega arith }) fits.conflicts;
    }
    by true None e = tt
    by false o e = tt
reach_fits l [] fits = tt
reach_fits l (a ∷ []) fits = tt
reach_fits l (a ∷ b ∷ []) fits = tt
reach_fits l (a ∷ b ∷ c ∷ d ∷ ds) fits = tt

asked_fits : (l : CommandLine) (steps candidates : Option ℕ) → Fits l → FitsIf (reach_if l steps candidates)
asked_fits l None None fits = reach_fits l l.positions fits
asked_fits l None (Some n) fits = tt
asked_fits l (Some n) candidates fits = tt

audit_fits : (positions : List (List ℕ)) → FitsIf (audit_at positions)
audit_fits (a ∷ b ∷ c ∷ d ∷ x ∷ []) = tt
audit_fits [] = tt
audit_fits (a ∷ []) = tt
audit_fits (a ∷ b ∷ []) = tt
audit_fits (a ∷ b ∷ c ∷ []) = tt
audit_fits (a ∷ b ∷ c ∷ d ∷ []) = tt
audit_fits (a ∷ b ∷ c ∷ d ∷ x ∷ y ∷ ys) = tt

wave_fits : (positions : List (List ℕ)) → FitsIf (wave_at positions)
wave_fits (a ∷ b ∷ c ∷ d ∷ x ∷ []) = tt
wave_fits [] = tt
wave_fits (a ∷ []) = tt
wave_fits (a ∷ b ∷ []) = tt
wave_fits (a ∷ b ∷ c ∷ []) = tt
wave_fits (a ∷ b ∷ c ∷ d ∷ []) = tt
wave_fits (a ∷ b ∷ c ∷ d ∷ x ∷ y ∷ ys) = tt

dumped_fits : (a b c : List ℕ) (run cycle : Option ℕ) → FitsIf (dump_of a b c run cycle)
dumped_fits a b c (Some run) (Some cycle) = tt
dumped_fits a b c (Some run) None = tt
dumped_fits a b c None cycle = tt

dump_fits : (positions : List (List ℕ)) → FitsIf (dump_at positions)
dump_fits (a ∷ b ∷ c ∷ d ∷ x ∷ []) = dumped_fits a b c (number_between 1 MAX_RUNS d) (number_between 0 MAX_CYCLES x)
dump_fits [] = tt
dump_fits (a ∷ []) = tt
dump_fits (a ∷ b ∷ []) = tt
dump_fits (a ∷ b ∷ c ∷ []) = tt
dump_fits (a ∷ b ∷ c ∷ d ∷ []) = tt
dump_fits (a ∷ b ∷ c ∷ d ∷ x ∷ y ∷ ys) = tt

numbered_fits : (o : Option ℕ) → FitsIf (option_map (λ (n : ℕ). Demo n) o)
numbered_fits None = tt
numbered_fits (Some n) = tt

demo_fits : (positions : List (List ℕ)) → FitsIf (demo_at positions)
demo_fits (a ∷ []) = numbered_fits (number_between 0 (2 ^ 64 - 1) a)
demo_fits [] = tt
demo_fits (a ∷ b ∷ bs) = tt

command_fits : (command : List ℕ) (l : CommandLine) → Fits l → FitsIf (command_job command l)
command_fits command l fits =
    by (bytes_eq command (codes "run")) (bytes_eq command (codes "reach")) (bytes_eq command (codes "audit")) (bytes_eq command (codes "dump"))
    (bytes_eq command (codes "demo")) (bytes_eq command (codes "wave"))
  where
    by : (r h a d m v : Bool) →
        FitsIf (if r then run_job l else (if h then reach_job l else (if a then audit_job l else (if d then dump_job l else
        (if m then demo_job l else (if v then wave_job l else None))))))
    by true h a d m v = run_fits l l.positions fits
    by false true a d m v = asked_fits l l.steps l.candidates fits
    by false false true d m v = audit_fits l.positions
    by false false false true m v = dump_fits l.positions
    by false false false false true v = demo_fits l.positions
    by false false false false false true = wave_fits l.positions
    by false false false false false false = tt

job_fits_if : (words : List (List ℕ)) → FitsIf (job_of words)
job_fits_if [] = tt
job_fits_if (command ∷ words) =
    by (read_line (has_budget command) words)
    (λ l k. all_fits (has_budget command) words start l start_fits (sym (same_line (has_budget command) words) ∙ k))
  where
    by : (o : Option CommandLine) → ((l : CommandLine) → o ≡ Some l → Fits l) → FitsIf (option_and_then (command_job command) o)
    by None h = tt
    by (Some l) h = command_fits command l (h l refl)

-- the budgets of each job that words ask for
pub job_fits : (words : List (List ℕ)) (job : Job) → job_of words ≡ Some job → FitsJob job
job_fits words job e = subst FitsIf e (job_fits_if words)
