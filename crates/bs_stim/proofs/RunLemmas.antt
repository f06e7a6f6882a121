-- The lines of a stimulus, run by run.
use Rattle.std.proofs.Common.{◌≡◌, ◌⊎◌, inl, inr, ℕ, suc, zero, ◌<◌, ◌≤◌, ◌+◌, ◌-◌, Bool, true, false, List, [], ◌∷◌, ◌++◌, length, refl, arith, ap}
use Rattle.std.proofs.Common.{sym, ◌∙◌, Some, None, append-nil, append_assoc}
use Rattle.std.specs.Prelude.{◌==◌, cond, Result, Ok, Err}
use Rattle.bs_bits.specs.Lines.{words_of, lines_of, onto_first}
use Rattle.bs_bits.specs.Reading.{◌>>=◌}
use Rattle.bs_stim.specs.declared.fault.StimFault.{StimFault}
use Rattle.bs_stim.specs.declared.fault.StimFault.TheVariants.{Count, NoRun, NoMemory}
use Rattle.bs_stim.specs.Runs.{Recorded}
use Rattle.bs_stim.specs.StimulusText.{First, Rest, head_of, first_of, input_of, end_of, rest_of, runs_of}
use Rattle.bs_stim.specs.RunText.{AreShort, Taken, taken, inputs_from, end_from, run_from, with_runs, with_inputs}

-- ---- inputs

abbrev Inputs : Type 0
Inputs = Result (Taken (List (List Bool))) StimFault

abbrev more_of : List Bool → Taken (List (List Bool)) → Inputs
more_of x more = Ok (taken (x ∷ more.value) more.rest)

split_due : (cycles done : ℕ) → done < cycles → (due : ℕ) × (cycles - done ≡ suc due) × (cycles - (done + 1) ≡ due)
split_due cycles done h = (cycles - (done + 1), omega arith, refl)

-- one input more
pub input_step : (whole : Inputs) (w n c i : ℕ) (xs : List (List Bool)) (lines : List (List ℕ)) (text : List ℕ) (texts : List (List ℕ)) (x : List Bool) →
    i < c → whole ≡ with_inputs xs (inputs_from w (n + i) (c - i) lines) → lines ≡ text ∷ texts → input_of w (n + i) text ≡ Ok x →
    whole ≡ with_inputs (xs ++ x ∷ []) (inputs_from w (n + (i + 1)) (c - (i + 1)) texts)
unfolding inputs_from
input_step whole w n c i xs lines text texts x lt e l r =
    let d = split_due c i lt in
    let next : n + i + 1 ≡ n + (i + 1) = omega arith in
    e ∙ (ap (λ t. with_inputs xs (inputs_from w (n + i) (c - i) t)) l
    ∙ (ap (λ k. with_inputs xs (inputs_from w (n + i) k (text ∷ texts))) d.1
    ∙ (ap (λ o. with_inputs xs (o >>= λ input. inputs_from w (n + i + 1) d.0 texts >>= more_of input)) r
    ∙ (ap (λ m. with_inputs xs (inputs_from w m d.0 texts >>= more_of x)) next
    ∙ (by (inputs_from w (n + (i + 1)) d.0 texts) ∙ ap (λ k. with_inputs (xs ++ x ∷ []) (inputs_from w (n + (i + 1)) k texts)) (sym d.2))))))
  where
    by : (o : Inputs) → with_inputs xs (o >>= more_of x) ≡ with_inputs (xs ++ x ∷ []) o
    by (Err f) = refl
    by (Ok t) = ap (λ v. Ok (taken v t.rest)) (sym (append_assoc xs (x ∷ []) t.value))

-- a refused input
pub input_fault : (whole : Inputs) (w n c i : ℕ) (xs : List (List Bool)) (lines : List (List ℕ)) (text : List ℕ) (texts : List (List ℕ)) (f : StimFault) →
    i < c → whole ≡ with_inputs xs (inputs_from w (n + i) (c - i) lines) → lines ≡ text ∷ texts → input_of w (n + i) text ≡ Err f → whole ≡ Err f
unfolding inputs_from
input_fault whole w n c i xs lines text texts f lt e l r =
    let d = split_due c i lt in
    e ∙ (ap (λ t. with_inputs xs (inputs_from w (n + i) (c - i) t)) l
    ∙ (ap (λ k. with_inputs xs (inputs_from w (n + i) k (text ∷ texts))) d.1
    ∙ ap (λ o. with_inputs xs (o >>= λ input. inputs_from w (n + i + 1) d.0 texts >>= more_of input)) r))

-- out of memory, or a refused input
pub input_refused : (whole : Inputs) (w n c i : ℕ) (xs : List (List Bool)) (lines : List (List ℕ)) (text : List ℕ) (texts : List (List ℕ)) (f : StimFault) →
    i < c → whole ≡ with_inputs xs (inputs_from w (n + i) (c - i) lines) → lines ≡ text ∷ texts → (f ≡ NoMemory) ⊎ (input_of w (n + i) text ≡ Err f) →
    (f ≡ NoMemory) ⊎ (whole ≡ Err f)
input_refused whole w n c i xs lines text texts f lt e l (inl none) = inl none
input_refused whole w n c i xs lines text texts f lt e l (inr r) = inr (input_fault whole w n c i xs lines text texts f lt e l r)

-- no line where an input is due
pub input_missing : (whole : Inputs) (w n c i : ℕ) (xs : List (List Bool)) (lines : List (List ℕ)) →
    i < c → whole ≡ with_inputs xs (inputs_from w (n + i) (c - i) lines) → lines ≡ [] → whole ≡ Err (Count (n + i))
unfolding inputs_from
input_missing whole w n c i xs lines lt e l =
    let d = split_due c i lt in
    e ∙ (ap (λ t. with_inputs xs (inputs_from w (n + i) (c - i) t)) l ∙ ap (λ k. with_inputs xs (inputs_from w (n + i) k [])) d.1)

-- before the first input
pub inputs_begin : (w n c : ℕ) (lines : List (List ℕ)) → inputs_from w n c lines ≡ with_inputs [] (inputs_from w (n + 0) (c - 0) lines)
inputs_begin w n c lines =
    let here : n + 0 ≡ n = omega arith in
    let all : c - 0 ≡ c = omega arith in
    rw (here, all) (by (inputs_from w n c lines))
  where
    by : (o : Inputs) → o ≡ with_inputs [] o
    by (Ok t) = refl
    by (Err f) = refl

-- behind the last input
pub inputs_end : (whole : Inputs) (w n c i : ℕ) (xs : List (List Bool)) (lines : List (List ℕ)) →
    c ≤ i → whole ≡ with_inputs xs (inputs_from w (n + i) (c - i) lines) → whole ≡ Ok (taken xs lines)
unfolding inputs_from
inputs_end whole w n c i xs lines le e =
    let none : c - i ≡ 0 = omega arith in
    e ∙ (ap (λ k. with_inputs xs (inputs_from w (n + i) k lines)) none ∙ ap (λ v. Ok (taken v lines)) (append-nil xs))

-- ---- a whole run

abbrev bare : Rest → Result Rest StimFault
bare rest = Ok (record { inputs = []; runs = rest.runs })

abbrev pub named : List ℕ → Rest → Result Rest StimFault
named name rest = Ok (record { inputs = []; runs = record { name = name; inputs = rest.inputs } ∷ rest.runs })

abbrev under : List (List Bool) → Rest → Result Rest StimFault
under inputs rest = Ok (record { inputs = inputs; runs = rest.runs })

abbrev pub onto : List Bool → Rest → Result Rest StimFault
onto x rest = Ok (record { inputs = x ∷ rest.inputs; runs = rest.runs })

abbrev first_run : Recorded → Rest → Result Rest StimFault
first_run run rest = Ok (record { inputs = []; runs = run ∷ rest.runs })

-- behind a run no input is left
no_inputs : (w n b : ℕ) (lines : List (List ℕ)) → rest_of w n b None lines ≡ (rest_of w n b None lines >>= bare)
unfolding rest_of
no_inputs w n b [] = refl
no_inputs w n b (text ∷ texts) = by (first_of n b (head_of (words_of text)))
  where
    tail : (name : List ℕ) (o : Result Rest StimFault) → (o >>= named name) ≡ ((o >>= named name) >>= bare)
    tail name (Ok r) = refl
    tail name (Err f) = refl

    by : (o : Result First StimFault) →
        (o >>= λ first. rest_of w (n + 1) (b + 1) (Some first.cycles) texts >>= named first.name) ≡
        ((o >>= λ first. rest_of w (n + 1) (b + 1) (Some first.cycles) texts >>= named first.name) >>= bare)
    by (Err f) = refl
    by (Ok first) = tail first.name (rest_of w (n + 1) (b + 1) (Some first.cycles) texts)

abbrev behind_inputs : ℕ → ℕ → ℕ → Inputs → Result Rest StimFault
behind_inputs w m b o = o >>= λ t. end_from m t.rest >>= λ rest. rest_of w (m + 1) b None rest >>= under t.value

-- an input before the others, through what comes behind them
input_under : (w m b : ℕ) (x : List Bool) (o : Inputs) → (behind_inputs w m b o >>= onto x) ≡ behind_inputs w m b (o >>= more_of x)
input_under w m b x (Err f) = refl
input_under w m b x (Ok t) = by_end (end_from m t.rest)
  where
    by_rest : (q : Result Rest StimFault) → ((q >>= under t.value) >>= onto x) ≡ (q >>= under (x ∷ t.value))
    by_rest (Err f) = refl
    by_rest (Ok r) = refl

    by_end : (q : Result (List (List ℕ)) StimFault) →
        ((q >>= λ rest. rest_of w (m + 1) b None rest >>= under t.value) >>= onto x) ≡ (q >>= λ rest. rest_of w (m + 1) b None rest >>= under (x ∷ t.value))
    by_end (Err f) = refl
    by_end (Ok rest) = by_rest (rest_of w (m + 1) b None rest)

abbrev behind_end : List (List ℕ) → Result (List (List ℕ)) StimFault
behind_end texts = Ok texts

after_end : (w n b : ℕ) (texts : List (List ℕ)) (o : Result Bool StimFault) → (o >>= λ ended. rest_of w (n + 1) b None texts) ≡
    ((o >>= λ ended. behind_end texts) >>= λ rest. rest_of w (n + 1) b None rest >>= under [])
after_end w n b texts (Err f) = refl
after_end w n b texts (Ok t) = no_inputs w (n + 1) b texts

after_input : (w n m b due : ℕ) (texts : List (List ℕ)) (o : Result (List Bool) StimFault) →
    rest_of w (n + 1) b (Some due) texts ≡ behind_inputs w m b (inputs_from w (n + 1) due texts) →
    (o >>= λ input. rest_of w (n + 1) b (Some due) texts >>= onto input) ≡
    behind_inputs w m b (o >>= λ input. inputs_from w (n + 1) due texts >>= more_of input)
after_input w n m b due texts (Err f) rest = refl
after_input w n m b due texts (Ok x) rest = ap (λ r. r >>= onto x) rest ∙ input_under w m b x (inputs_from w (n + 1) due texts)

after_inputs : (w n m b due : ℕ) (lines : List (List ℕ)) → m ≡ n + due → rest_of w n b (Some due) lines ≡ behind_inputs w m b (inputs_from w n due lines)
unfolding rest_of inputs_from
after_inputs w n m b zero [] e = ap {B = Result Rest StimFault} (λ k. Err (Count k)) (sym (omega (arith, e)))
after_inputs w n m b (suc due) [] e = refl
after_inputs w n m b zero (text ∷ texts) e =
    let here : n ≡ m = omega (arith, e) in
    after_end w n b texts (end_of n text) ∙ ap (λ k. behind_inputs w k b (Ok (taken [] (text ∷ texts)))) here
after_inputs w n m b (suc due) (text ∷ texts) e =
    after_input w n m b due texts (input_of w n text) (after_inputs w (n + 1) m b due texts (omega (arith, e)))

count_more : (due : ℕ) (o : Result (List Bool) StimFault) (q : Inputs) → ((more : Taken (List (List Bool))) → q ≡ Ok more → length more.value ≡ due) →
    (t : Taken (List (List Bool))) → (o >>= λ input. q >>= more_of input) ≡ Ok t → length t.value ≡ suc due
count_more due (Err f) q rec t e = cc
count_more due (Ok x) (Err f) rec t e = cc
count_more due (Ok x) (Ok more) rec t e =
    let same : taken (x ∷ more.value) more.rest ≡ t = cc in
    ap (λ t. length t.value) (sym same) ∙ ap suc (rec more refl)

inputs_count : (w n due : ℕ) (lines : List (List ℕ)) (t : Taken (List (List Bool))) → inputs_from w n due lines ≡ Ok t → length t.value ≡ due
unfolding inputs_from
inputs_count w n zero lines t e = let same : taken [] lines ≡ t = cc in ap (λ t. length t.value) (sym same)
inputs_count w n (suc due) [] t e = cc
inputs_count w n (suc due) (text ∷ texts) t e =
    count_more due (input_of w n text) (inputs_from w (n + 1) due texts) (λ more h. inputs_count w (n + 1) due texts more h) t e

abbrev behind_run : ℕ → ℕ → ℕ → Result (Taken Recorded) StimFault → Result Rest StimFault
behind_run w n b o = o >>= λ t. rest_of w (n + (length t.value.inputs + 2)) (b + 1) None t.rest >>= first_run t.value

abbrev run_of : List ℕ → List (List Bool) → List (List ℕ) → Result (Taken Recorded) StimFault
run_of name inputs rest = Ok (taken (record { name = name; inputs = inputs }) rest)

run_end : (w n b : ℕ) (first : First) (t : Taken (List (List Bool))) → length t.value ≡ first.cycles → (q : Result (List (List ℕ)) StimFault) →
    ((q >>= λ rest. rest_of w (n + 1 + first.cycles + 1) (b + 1) None rest >>= under t.value) >>= named first.name) ≡ behind_run w n b
    (q >>= run_of first.name t.value)
run_end w n b first t h (Err f) = refl
run_end w n b first t h (Ok rest) =
    let here : n + 1 + first.cycles + 1 ≡ n + (length t.value + 2) = omega (arith, h) in
    ap (λ k. (rest_of w k (b + 1) None rest >>= under t.value) >>= named first.name) here ∙ last (rest_of w (n + (length t.value + 2)) (b + 1) None rest)
  where
    last : (q : Result Rest StimFault) → ((q >>= under t.value) >>= named first.name) ≡ (q >>= first_run (record { name = first.name; inputs = t.value }))
    last (Err f) = refl
    last (Ok r) = refl

run_inputs : (w n b : ℕ) (first : First) (o : Inputs) → ((t : Taken (List (List Bool))) → o ≡ Ok t → length t.value ≡ first.cycles) →
    (behind_inputs w (n + 1 + first.cycles) (b + 1) o >>= named first.name) ≡
    behind_run w n b (o >>= λ inputs. end_from (n + 1 + first.cycles) inputs.rest >>= run_of first.name inputs.value)
run_inputs w n b first (Err f) h = refl
run_inputs w n b first (Ok t) h = run_end w n b first t (h t refl) (end_from (n + 1 + first.cycles) t.rest)

run_first : (w n b : ℕ) (texts : List (List ℕ)) (o : Result First StimFault) →
    (o >>= λ first. rest_of w (n + 1) (b + 1) (Some first.cycles) texts >>= named first.name) ≡
    behind_run w n b (o >>= λ first. inputs_from w (n + 1) first.cycles texts >>= λ inputs. end_from
    (n + 1 + first.cycles) inputs.rest >>= run_of first.name inputs.value)
run_first w n b texts (Err f) = refl
run_first w n b texts (Ok first) =
    ap (λ r. r >>= named first.name) (after_inputs w (n + 1) (n + 1 + first.cycles) (b + 1) first.cycles texts refl)
    ∙ run_inputs w n b first (inputs_from w (n + 1) first.cycles texts) (λ t h. inputs_count w (n + 1) first.cycles texts t h)

-- the lines that begin with a first line are a run and the lines behind it
run_split : (w n b : ℕ) (text : List ℕ) (texts : List (List ℕ)) → rest_of w n b None (text ∷ texts) ≡ behind_run w n b (run_from w n b text texts)
unfolding rest_of
run_split w n b text texts = run_first w n b texts (first_of n b (head_of (words_of text)))

-- ---- runs one after another

abbrev Listed : Type 0
Listed = Result (List Recorded) StimFault

-- one run more
pub run_step : (whole : Listed) (w n : ℕ) (runs : List Recorded) (lines : List (List ℕ)) (text : List ℕ) (texts : List (List ℕ)) (run : Recorded)
    (left : List (List ℕ)) →
    whole ≡ with_runs runs (rest_of w n (length runs) None lines) → lines ≡ text ∷ texts → run_from w n (length runs) text texts ≡ Ok (taken run left) →
    whole ≡ with_runs (runs ++ run ∷ []) (rest_of w (n + (length run.inputs + 2)) (length runs + 1) None left)
run_step whole w n runs lines text texts run left e l r =
    e ∙ (ap (λ t. with_runs runs (rest_of w n (length runs) None t)) l
    ∙ (ap (with_runs runs) (run_split w n (length runs) text texts)
    ∙ (ap (λ o. with_runs runs (behind_run w n (length runs) o)) r
    ∙ by (rest_of w (n + (length run.inputs + 2)) (length runs + 1) None left))))
  where
    by : (o : Result Rest StimFault) → with_runs runs (o >>= first_run run) ≡ with_runs (runs ++ run ∷ []) o
    by (Err f) = refl
    by (Ok r) = ap Ok (sym (append_assoc runs (run ∷ []) r.runs))

-- a refused run
pub run_fault : (whole : Listed) (w n : ℕ) (runs : List Recorded) (lines : List (List ℕ)) (text : List ℕ) (texts : List (List ℕ)) (f : StimFault) →
    whole ≡ with_runs runs (rest_of w n (length runs) None lines) → lines ≡ text ∷ texts → run_from w n (length runs) text texts ≡ Err f → whole ≡ Err f
run_fault whole w n runs lines text texts f e l r =
    e ∙ (ap (λ t. with_runs runs (rest_of w n (length runs) None t)) l
    ∙ (ap (with_runs runs) (run_split w n (length runs) text texts)
    ∙ ap (λ o. with_runs runs (behind_run w n (length runs) o)) r))

-- out of memory, or a refused run
pub run_refused : (whole : Listed) (w n : ℕ) (runs : List Recorded) (lines : List (List ℕ)) (text : List ℕ) (texts : List (List ℕ)) (f : StimFault) →
    whole ≡ with_runs runs (rest_of w n (length runs) None lines) → lines ≡ text ∷ texts → (f ≡ NoMemory) ⊎ (run_from w n (length runs) text texts ≡ Err f) →
    (f ≡ NoMemory) ⊎ (whole ≡ Err f)
run_refused whole w n runs lines text texts f e l (inl none) = inl none
run_refused whole w n runs lines text texts f e l (inr r) = inr (run_fault whole w n runs lines text texts f e l r)

-- no line is left
pub runs_end : (whole : Listed) (w n : ℕ) (runs : List Recorded) (lines : List (List ℕ)) →
    whole ≡ with_runs runs (rest_of w n (length runs) None lines) → lines ≡ [] → whole ≡ Ok runs
unfolding rest_of
runs_end whole w n runs lines e l =
    e ∙ (ap (λ t. with_runs runs (rest_of w n (length runs) None t)) l ∙ ap Ok (append-nil runs))

abbrev pub all_runs : ℕ → List (List ℕ) → Listed
all_runs w lines = rest_of w 1 0 None lines >>= λ rest. Ok rest.runs

pub some_lines : (w : ℕ) (lines : List (List ℕ)) → 0 < length lines → runs_of w lines ≡ all_runs w lines
some_lines w [] h = absurd (omega arith)
some_lines w (text ∷ texts) h = refl

pub no_lines : (w : ℕ) (lines : List (List ℕ)) → length lines ≡ 0 → runs_of w lines ≡ Err NoRun
no_lines w [] h = refl
no_lines w (text ∷ texts) h = absurd (omega arith)

-- a text has no more lines than bytes
pub lines_within : (bs : List ℕ) → length (lines_of bs) ≤ length bs
lines_within [] = omega arith
lines_within (b ∷ bs) = by (b == 10) (lines_of bs) (lines_within bs)
  where
    by : (z : Bool) (ls : List (List ℕ)) → length ls ≤ length bs → length (cond z ([] ∷ ls) (onto_first b ls)) ≤ suc (length bs)
    by true ls h = omega arith
    by false [] h = omega arith
    by false (l ∷ ls) h = omega arith

shorter : (m n : ℕ) → m ≤ n → (lines : List (List ℕ)) → AreShort m lines → AreShort n lines
shorter m n le [] h = tt
shorter m n le (l ∷ ls) h = (omega (arith, le, h.0), shorter m n le ls h.1)

-- no line is longer than the text
pub lines_short : (bs : List ℕ) (n : ℕ) → length bs ≤ n → AreShort n (lines_of bs)
lines_short [] n le = tt
lines_short (b ∷ bs) zero le = absurd (omega (arith, le))
lines_short (b ∷ bs) (suc n) le = by (b == 10) (lines_of bs) (lines_short bs n (omega (arith, le)))
  where
    by : (z : Bool) (ls : List (List ℕ)) → AreShort n ls → AreShort (suc n) (cond z ([] ∷ ls) (onto_first b ls))
    by true ls h = (omega arith, shorter n (suc n) (omega arith) ls h)
    by false [] h = (omega arith, tt)
    by false (l ∷ ls) h = (omega (arith, h.0), shorter n (suc n) (omega arith) ls h.1)
