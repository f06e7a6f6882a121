-- The text of runs stands for them.
use Rattle.std.proofs.Common.{◌≡◌, ℕ, ◌<◌, ◌≤◌, ◌+◌, Bool, true, false, cond, not, List, [], ◌∷◌, ◌++◌, map, length, refl, arith, ap, sym, ◌∙◌, Some}
use Rattle.std.proofs.Common.{None, append_assoc, append-nil}
use Rattle.std.specs.Prelude.{◌==◌, codes, decimal, nat_le, nat_lt, Result, Ok, Err, All}
use Rattle.std.specs.List.{flat_map}
use Rattle.std.specs.Str.{bytes_eq}
use Rattle.std.proofs.lemmas.Bool.{and_parts, and_from, le-leb, eq-eqb, lt-leb, le-ltb}
use Rattle.std.proofs.lemmas.List.Elements.{All-head, All-tail}
use Rattle.std.proofs.lemmas.List.{append_cancel_right}
use Rattle.bs_bits.specs.Text.{bits_text, bits_of}
use Rattle.bs_bits.specs.Reading.{◌>>=◌}
use Rattle.bs_stim.specs.declared.limits.TheConstants.{MAX_RUNS, MAX_CYCLES, MAX_NAME}
use Rattle.bs_bits.specs.Lines.{line, lines_of, onto_first, words_of, is_name, is_visible, number_of}
use Rattle.bs_bits.proofs.TextLemmas.{bits_again}
use Rattle.bs_stim.specs.declared.fault.StimFault.{StimFault}
use Rattle.bs_stim.specs.declared.fault.StimFault.TheVariants.{Line, Width, Count, TooManyRuns, TooManyCycles}
use Rattle.bs_stim.specs.Runs.{Recorded, Stimulus, IsRecorded}
use Rattle.bs_stim.specs.StimulusText.{First, Head, Rest, head, first, head_of, is_head, first_of, input_of, of_width, rest_of, stimulus_of}
use Rattle.bs_stim.specs.StimulusText.{head_text, inputs_text, run_text}
use Rattle.bs_stim.specs.Law.{StimuliReadBack, UnendedStimuliReadBack}
use Rattle.bs_stim.proofs.RunLemmas.{onto, named}
use Rattle.bs_bits.proofs.LineTextLemmas.{Lacks, lacks_append, line_first, bits_lack_feed, word_first, word_only, visible_lacks, digits_lack, canonical_digits}
use Rattle.bs_bits.proofs.NumberLemmas.{decimal_canonical, number_of_decimal}

abbrev only_runs : Rest → Result (List Recorded) StimFault
only_runs rest = Ok rest.runs

abbrev of_runs : ℕ → List Recorded → Result Stimulus StimFault
of_runs width runs = Ok (record { width = width; runs = runs })

-- ---- the lines of the text

lines_of_inputs : (xs : List (List Bool)) (rest : List ℕ) → lines_of (inputs_text xs ++ rest) ≡ map bits_text xs ++ lines_of rest
lines_of_inputs [] rest = refl
lines_of_inputs (x ∷ xs) rest =
    ap lines_of (append_assoc (line (bits_text x)) (inputs_text xs) rest)
    ∙ (line_first (bits_text x) (inputs_text xs ++ rest) (bits_lack_feed x) ∙ ap (λ ls. bits_text x ∷ ls) (lines_of_inputs xs rest))

name_visible : (name : List ℕ) → is_name name ≡ true → is_visible name ≡ true
name_visible name e = (and_parts (nat_lt 0 (length name)) (is_visible name) e).1

head_lacks_feed : (run : Recorded) → is_name run.name ≡ true → length run.inputs ≤ MAX_CYCLES → Lacks 10 (head_text run)
head_lacks_feed run e few =
    lacks_append 10 (codes "run ") (run.name ++ (codes " " ++ decimal (length run.inputs))) (refl, (refl, (refl, (refl, tt))))
    (lacks_append 10 run.name (codes " " ++ decimal (length run.inputs)) (visible_lacks 10 run.name (omega arith) (name_visible run.name e))
    (lacks_append 10 (codes " ") (decimal (length run.inputs)) (refl, tt)
    (digits_lack 10 (decimal (length run.inputs)) (omega arith)
    (canonical_digits (decimal (length run.inputs)) (decimal_canonical (length run.inputs) (omega (arith, few)))))))

lines_of_run : (run : Recorded) (rest : List ℕ) → is_name run.name ≡ true → length run.inputs ≤ MAX_CYCLES →
    lines_of (run_text run ++ rest) ≡ head_text run ∷ (map bits_text run.inputs ++ codes "end" ∷ lines_of rest)
lines_of_run run rest e few =
    ap lines_of (append_assoc (line (head_text run)) (inputs_text run.inputs ++ line (codes "end")) rest)
    ∙ (line_first (head_text run) ((inputs_text run.inputs ++ line (codes "end")) ++ rest) (head_lacks_feed run e few)
    ∙ ap (λ ls. head_text run ∷ ls)
    (ap lines_of (append_assoc (inputs_text run.inputs) (line (codes "end")) rest)
    ∙ (lines_of_inputs run.inputs (line (codes "end") ++ rest)
    ∙ ap (λ ls. map bits_text run.inputs ++ ls) (line_first (codes "end") rest (refl, (refl, (refl, tt)))))))

-- ---- the first line

words_of_head : (run : Recorded) → is_name run.name ≡ true → length run.inputs ≤ MAX_CYCLES →
    words_of (head_text run) ≡ codes "run" ∷ run.name ∷ decimal (length run.inputs) ∷ []
words_of_head run e few =
    let number : List ℕ = decimal (length run.inputs) in
    let last : words_of number ≡ number ∷ [] =
    word_only number (digits_lack 32 number (omega arith) (canonical_digits number (decimal_canonical (length run.inputs) (omega (arith, few))))) in
    let name : words_of (run.name ++ 32 ∷ number) ≡ run.name ∷ words_of number =
    word_first run.name number (visible_lacks 32 run.name (omega arith) (name_visible run.name e)) in
    word_first (codes "run") (run.name ++ 32 ∷ number) (refl, (refl, (refl, tt))) ∙ ap (λ ws. codes "run" ∷ ws) (name ∙ ap (λ ws. run.name ∷ ws) last)

head_is : (name : List ℕ) (n : ℕ) → is_name name ≡ true → length name ≤ MAX_NAME → n ≤ MAX_CYCLES → is_head (head (codes "run") name (decimal n)) ≡ true
head_is name n e short few =
    and_from _ _ (and_from _ _ (and_from (bytes_eq (codes "run") (codes "run")) (is_name name) refl e) (le-leb (length name) MAX_NAME short))
    (decimal_canonical n (omega (arith, few)))

first_back : (number begun : ℕ) (run : Recorded) → begun < MAX_RUNS → is_name run.name ≡ true → length run.name ≤ MAX_NAME → length run.inputs ≤ MAX_CYCLES →
    first_of number begun (head_of (words_of (head_text run))) ≡ Ok (first run.name (length run.inputs))
first_back number begun run room e short few =
    let n : ℕ = length run.inputs in
    let words : Head = head (codes "run") run.name (decimal n) in
    let same : number_of (decimal n) ≡ n = number_of_decimal n (omega (arith, few)) in
    ap (λ ws. first_of number begun (head_of ws)) (words_of_head run e few)
    ∙ (ap (λ b. cond {A = Result First StimFault} (not b) (Err (Line number))
    (cond (nat_le MAX_RUNS begun) (Err (TooManyRuns number))
    (cond (nat_lt MAX_CYCLES (number_of (decimal n))) (Err (TooManyCycles number)) (Ok (first run.name (number_of (decimal n)))))))
    (head_is run.name n e short few)
    ∙ (ap (λ b. cond {A = Result First StimFault} b (Err (TooManyRuns number))
    (cond (nat_lt MAX_CYCLES (number_of (decimal n))) (Err (TooManyCycles number)) (Ok (first run.name (number_of (decimal n)))))) (lt-leb MAX_RUNS begun room)
    ∙ (ap (λ m. cond {A = Result First StimFault} (nat_lt MAX_CYCLES m) (Err (TooManyCycles number)) (Ok (first run.name m))) same
    ∙ ap (λ b. cond {A = Result First StimFault} b (Err (TooManyCycles number)) (Ok (first run.name n))) (le-ltb MAX_CYCLES n few))))

-- ---- inputs

no_end_word : (bits : List Bool) → bytes_eq (bits_text bits) (codes "end") ≡ false
no_end_word [] = refl
no_end_word (false ∷ bits) = refl
no_end_word (true ∷ bits) = refl

input_back : (width number : ℕ) (bits : List Bool) → length bits ≡ width → input_of width number (bits_text bits) ≡ Ok bits
input_back width number bits e =
    ap (λ b. cond {A = Result (List Bool) StimFault} b (Err (Count number)) (of_width width number (bits_of (bits_text bits)))) (no_end_word bits)
    ∙ (ap (of_width width number) (bits_again bits)
    ∙ ap (λ b. cond {A = Result (List Bool) StimFault} b (Ok bits) (Err (Width number))) (eq-eqb (length bits) width e))

inputs_back : (width n m begun : ℕ) (xs : List (List Bool)) (more : List (List ℕ)) (runs : List Recorded) → All (λ x. length x ≡ width) xs →
    m ≡ n + length xs + 1 →
    rest_of width m begun None more ≡ Ok (record { inputs = []; runs = runs }) →
    rest_of width n begun (Some (length xs)) (map bits_text xs ++ codes "end" ∷ more) ≡ Ok (record { inputs = xs; runs = runs })
unfolding rest_of
inputs_back width n m begun [] more runs all e back =
    let here : m ≡ n + 1 = omega (arith, e) in
    ap (λ k. rest_of width k begun None more) (sym here) ∙ back
inputs_back width n m begun (x ∷ xs) more runs all e back =
    ap (λ o. o >>= λ input. rest_of width (n + 1) begun (Some (length xs)) (map bits_text xs ++ codes "end" ∷ more) >>= onto input)
    (input_back width n x (All-head (λ x. length x ≡ width) x xs all))
    ∙ ap (λ o. o >>= onto x) (inputs_back width (n + 1) m begun xs more runs (All-tail (λ x. length x ≡ width) x xs all) (omega (arith, e)) back)

-- ---- runs

run_back : (width number m begun : ℕ) (run : Recorded) (runs : List Recorded) (more : List (List ℕ)) → begun < MAX_RUNS → IsRecorded width run →
    m ≡ number + length run.inputs + 2 →
    rest_of width m (begun + 1) None more ≡ Ok (record { inputs = []; runs = runs }) →
    rest_of width number begun None (head_text run ∷ (map bits_text run.inputs ++ codes "end" ∷ more)) ≡ Ok (record { inputs = []; runs = run ∷ runs })
unfolding rest_of
run_back width number m begun run runs more room h e back =
    let texts : List (List ℕ) = map bits_text run.inputs ++ codes "end" ∷ more in
    ap (λ o. o >>= λ first. rest_of width (number + 1) (begun + 1) (Some first.cycles) texts >>= named first.name)
    (first_back number begun run room h.named h.short_name h.few_cycles)
    ∙ ap (λ o. o >>= named run.name) (inputs_back width (number + 1) m (begun + 1) run.inputs more runs h.widths (omega (arith, e)) back)

runs_back : (width number begun : ℕ) (runs : List Recorded) → begun + length runs ≤ MAX_RUNS → All (IsRecorded width) runs →
    rest_of width number begun None (lines_of (flat_map run_text runs)) ≡ Ok (record { inputs = []; runs = runs })
unfolding rest_of
runs_back width number begun [] few all = refl
runs_back width number begun (run ∷ runs) few all =
    let h : IsRecorded width run = All-head (IsRecorded width) run runs all in
    ap (λ ls. rest_of width number begun None ls) (lines_of_run run (flat_map run_text runs) h.named h.few_cycles)
    ∙ run_back width number (number + length run.inputs + 2) begun run runs (lines_of (flat_map run_text runs)) (omega (arith, few)) h refl
    (runs_back width (number + length run.inputs + 2) (begun + 1) runs (omega (arith, few)) (All-tail (IsRecorded width) run runs all))

some_back : (width : ℕ) (runs : List Recorded) → 1 ≤ length runs → length runs ≤ MAX_RUNS → All (IsRecorded width) runs →
    stimulus_of width (lines_of (flat_map run_text runs)) ≡ Ok (record { width = width; runs = runs })
some_back width [] some few all = absurd (omega arith)
some_back width (run ∷ runs) some few all =
    let h : IsRecorded width run = All-head (IsRecorded width) run runs all in
    let texts : List (List ℕ) = map bits_text run.inputs ++ codes "end" ∷ lines_of (flat_map run_text runs) in
    let lines : lines_of (flat_map run_text (run ∷ runs)) ≡ head_text run ∷ texts = lines_of_run run (flat_map run_text runs) h.named h.few_cycles in
    let back : rest_of width 1 0 None (head_text run ∷ texts) ≡ Ok (record { inputs = []; runs = run ∷ runs }) =
    ap (λ ls. rest_of width 1 0 None ls) (sym lines) ∙ runs_back width 1 0 (run ∷ runs) (omega (arith, few)) all in
    ap (stimulus_of width) lines ∙ ap (λ o. (o >>= only_runs) >>= of_runs width) back

pub stimuli_read_back : StimuliReadBack
stimuli_read_back stimulus h = some_back stimulus.width stimulus.runs h.some_run h.few_runs h.recorded

-- ---- the text without its last line feed

ends_so : (runs : List Recorded) → 1 ≤ length runs → (front : List ℕ) × (flat_map run_text runs ≡ line (front ++ codes "end"))
ends_so [] some = absurd (omega arith)
ends_so (run ∷ []) some =
    let head : List ℕ = line (head_text run) in
    let inputs : List ℕ = inputs_text run.inputs in (
      head ++ inputs,
      append-nil (run_text run)
          ∙ (sym (append_assoc head inputs (line (codes "end")))
          ∙ sym (append_assoc (head ++ inputs) (codes "end") (10 ∷ []))),
    )
ends_so (run ∷ next ∷ runs) some =
    let later = ends_so (next ∷ runs) (omega arith) in (
      run_text run ++ later.0,
      ap (λ t. run_text run ++ t) later.1
          ∙ (sym (append_assoc (run_text run) (later.0 ++ codes "end") (10 ∷ []))
          ∙ ap line (sym (append_assoc (run_text run) later.0 (codes "end")))),
    )

-- a line feed behind a last word begins no line
unended : (front : List ℕ) → lines_of (front ++ codes "end") ≡ lines_of (line (front ++ codes "end"))
unended [] = refl
unended (b ∷ bs) = ap (λ ls. cond (b == 10) ([] ∷ ls) (onto_first b ls)) (unended bs)

pub unended_stimuli_read_back : UnendedStimuliReadBack
unended_stimuli_read_back stimulus h text e =
    let last = ends_so stimulus.runs h.some_run in
    let same : text ≡ last.0 ++ codes "end" = append_cancel_right text (last.0 ++ codes "end") (10 ∷ []) (e ∙ last.1) in
    ap (λ t. stimulus_of stimulus.width (lines_of t)) same
    ∙ (ap (stimulus_of stimulus.width) (unended last.0 ∙ ap lines_of (sym last.1)) ∙ stimuli_read_back stimulus h)
