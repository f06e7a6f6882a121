-- The lines of a cycle and of those before it.
use Rattle.std.proofs.Common.{◌≡◌, ℕ, zero, suc, ◌<◌, ◌≤◌, ◌+◌, ◌-◌, Bool, true, false, cond, nat_lt, nat_le, List, [], ◌∷◌, ◌++◌, length, map, take, drop, slice_get, slice_index_or, Option, Some, None, Result, Ok, Err, refl, arith, subst, ap, sym, ◌∙◌}
use Rattle.std.specs.Borrow.{Bor}
use Rattle.std.specs.List.{All, position}
use Rattle.std.proofs.lemmas.Bool.{le-leb, le-ltb, lt-ltb, ltb-true, and_from}
use Rattle.std.proofs.lemmas.List.{drop_all, drop-append-le, length-drop, length-map, length-take, length-take-le, take_more}
use Rattle.std.proofs.lemmas.List.Elements.{All-cons, All-nil}
use Rattle.std.proofs.lemmas.Option.{get_or_from_slice_get, slice_get_within}
use Rattle.bs_bits.specs.Reading.{◌>>=◌}
use Rattle.bs_net_names.specs.Keys.{key_parts}
use Rattle.bs_vcd_header.specs.declared.fault.VcdFault.{VcdFault}
use Rattle.bs_vcd_header.specs.declared.fault.VcdFault.TheVariants.{Late, NoClock, NoCycle, NoInput}
use Rattle.bs_vcd_header.specs.declared.sources.BitSource.{BitSource}
use Rattle.bs_vcd_header.specs.Header.{HeaderDeclarations, header_of}
use Rattle.bs_vcd_header.specs.Sources.{input_at, inputs_from, or_fault, scope_of, source_in}
use Rattle.bs_vcd_header.specs.Tokens.{tokens_from}
use Rattle.bs_vcd.specs.declared.cycles.When.{When}
use Rattle.bs_vcd.specs.declared.clock_edges.SampledLines.{SampledLines}
use Rattle.bs_vcd.specs.declared.clock_edges.Unknowns.{Unknowns}
use Rattle.bs_vcd.specs.declared.clock_edges.Unknowns.TheVariants.{Refused, Low, Marked}
use Rattle.bs_vcd.specs.History.{History, history_of}
use Rattle.bs_vcd.specs.Levels.{Known, is_bit, is_unknown, known_by, level}
use Rattle.bs_vcd.specs.Sampled.{SamplingRequest, Cut, asked_line, is_within, line_by, line_or, lines_asked, numbered_lines, stops_of, timed_lines, unknowns_of, or_fault as or_end}
use Rattle.bs_vcd.specs.Found.{found_inputs, none_found, or_nowhere, some_found, sources_of}
use Rattle.bs_vcd.specs.Stimulus.{ClockAndInputs, found_sampling, sampling_of}
use Rattle.bs_vcd.specs.Cycles.{begin_in, cycle_ends, cycle_in, is_late, sampling_by, states_at, states_by, states_of, states_when, window, window_of}

abbrev Lines : Type 0
Lines = List (List Bool)

-- ---- a copy of some lines

pub between_none : (lines : Lines) (first : ℕ) → [] ≡ drop first (take first lines)
between_none lines first = sym (drop_all first (take first lines) (omega (arith, length-take first lines)))

pub between_more : (lines own : Lines) (line : List Bool) (first i : ℕ) → first ≤ i → own ≡ drop first (take i lines) → slice_get lines i ≡ Some line →
    own ++ line ∷ [] ≡ drop first (take (i + 1) lines)
between_more lines own line first i le e is =
    let within : i < length lines = slice_get_within lines i line is in
    ap (λ (xs : Lines). xs ++ line ∷ []) e
    ∙ (sym (drop-append-le first (take i lines) (line ∷ []) (omega (arith, le, within, length-take-le i lines (omega (arith, within)))))
    ∙ (ap (λ (x : List Bool). drop first (take i lines ++ x ∷ [])) (sym (get_or_from_slice_get lines i line line is))
    ∙ ap (drop first) (sym (take_more lines i line within))))

-- the first of some lines
pub first_of : (lines : Lines) (line : List Bool) → slice_get lines 0 ≡ Some line → line ≡ slice_index_or lines 0 []
first_of lines line e = sym (get_or_from_slice_get lines 0 line [] e)

-- ---- the lines of a cycle

-- where there are that many
abbrev there : (cycle back : ℕ) → SampledLines → Bool → Result Lines VcdFault
there cycle back s b = cond b (Err (Late (begin_in s))) (Ok (window_of cycle back s))

abbrev windows : (cycle back : ℕ) → SampledLines → Bool → Result Lines VcdFault
windows cycle back s b = cond b (there cycle back s (is_late cycle back s)) (Err (NoCycle (length s.lines - 1)))

pub window_there : (cycle back first behind : ℕ) (s : SampledLines) (own : Lines) → cycle < length s.lines → is_late cycle back s ≡ false →
    first ≡ cycle - back → behind ≡ cycle + 1 → own ≡ drop first (take behind s.lines) → window cycle back s ≡ Ok own
window_there cycle back first behind s own lt early one two e =
    ap (windows cycle back s) (lt-ltb cycle (length s.lines) lt)
    ∙ (ap (there cycle back s) early ∙ ap Ok (sym (e ∙ (λ i. drop (one i) (take (two i) s.lines)))))

pub window_late : (cycle back begin : ℕ) (s : SampledLines) → cycle < length s.lines → is_late cycle back s ≡ true → begin ≡ begin_in s →
    window cycle back s ≡ Err (Late begin)
window_late cycle back begin s lt late e =
    ap (windows cycle back s) (lt-ltb cycle (length s.lines) lt) ∙ (ap (there cycle back s) late ∙ ap (λ n. Err (Late n)) (sym e))

pub window_short : (cycle back count : ℕ) (s : SampledLines) → length s.lines ≤ cycle → count ≡ length s.lines - 1 →
    window cycle back s ≡ Err (NoCycle count)
window_short cycle back count s le e = ap (windows cycle back s) (le-ltb cycle (length s.lines) le) ∙ ap (λ n. Err (NoCycle n)) (sym e)

-- ---- what a value keeps

-- the value, if there is one, keeps this
pub record Gives {A : Type 0} (P : A → Type 0) (r : Result A VcdFault) : Type 0 where
  pub is : (x : A) → r ≡ Ok x → P x

gives_ok : {A : Type 0} (P : A → Type 0) (x : A) → P x → Gives P (Ok x)
gives_ok P x p = record { is = λ y e. let same : x ≡ y = cc in subst P same p }

gives_err : {A : Type 0} (P : A → Type 0) (fault : VcdFault) → Gives P (Err fault)
gives_err P fault = record { is = λ x e. absurd cc }

gives_then : {A B : Type 0} (P : A → Type 0) (R : B → Type 0) (r : Result A VcdFault) (f : A → Result B VcdFault) → Gives P r →
    ((x : A) → P x → Gives R (f x)) → Gives R (r >>= f)
gives_then P R (Ok x) f g h = h x (g.is x refl)
gives_then P R (Err fault) f g h = gives_err R fault

gives_any : {A : Type 0} (r : Result A VcdFault) → Gives (λ _. Unit {0}) r
gives_any r = record { is = λ x e. tt }

-- ---- what the states are

-- a list of so many
abbrev IsLong : {A : Type 0} → ℕ → List A → Type 0
IsLong n xs = length xs ≡ n

-- states of so many bits, one at least
abbrev AreStates : ℕ → Lines → Type 0
AreStates width lines = (0 < length lines) × All (λ s. length s ≡ width) lines

-- a line has a bit for each source
line_wide : (time : ℕ) (known : Known) (inputs : List BitSource) (o : Option ℕ) → Gives (IsLong (length inputs)) (line_or time known inputs o)
line_wide time known inputs (Some k) = gives_err (IsLong (length inputs)) _
line_wide time known inputs None = gives_ok (IsLong (length inputs)) _ (length-map inputs (λ s. is_bit true (level known s)))

line_by_wide : (u : Unknowns) (time : ℕ) (known : Known) (inputs : List BitSource) → Gives (IsLong (length inputs)) (line_by u time known inputs)
line_by_wide Refused time known inputs = line_wide time known inputs (position (is_unknown known) inputs)
line_by_wide Low time known inputs = gives_ok (IsLong (length inputs)) _ (length-map inputs (λ s. is_bit true (level known s)))
line_by_wide Marked time known inputs = gives_ok (IsLong (length inputs)) _ (length-map inputs (is_unknown known))

-- lines from one number on up to another
abbrev WideIn : ℕ → ℕ → ℕ → Lines → Type 0
WideIn width first behind lines = All (λ s. length s ≡ width) (drop first (take behind lines))

-- the numbers of these lie in the span
record Within (a : SamplingRequest) (n first behind : ℕ) : Type 0 where
  is : (j : ℕ) → first ≤ j → j < behind → is_within a.span (n + j) ≡ true

here_wide : (a : SamplingRequest) (n : ℕ) (c : Cut) → is_within a.span n ≡ true → Gives (IsLong (length a.inputs)) (asked_line a n c)
here_wide a n c e =
    let u : Unknowns = unknowns_of a n in
    subst (λ (b : Bool). Gives (IsLong (length a.inputs)) (line_by u c.moment.time (known_by c.earlier) (cond b a.inputs []))) (sym e)
    (line_by_wide u c.moment.time (known_by c.earlier) a.inputs)

none_wide : (width first behind : ℕ) → WideIn width first behind []
none_wide width zero zero = All-nil (λ (s : List Bool). length s ≡ width)
none_wide width zero (suc behind) = All-nil (λ (s : List Bool). length s ≡ width)
none_wide width (suc first) zero = All-nil (λ (s : List Bool). length s ≡ width)
none_wide width (suc first) (suc behind) = All-nil (λ (s : List Bool). length s ≡ width)

up_to_none : (width first : ℕ) (lines : Lines) → WideIn width first zero lines
up_to_none width zero lines = All-nil (λ (s : List Bool). length s ≡ width)
up_to_none width (suc first) lines = All-nil (λ (s : List Bool). length s ≡ width)

-- the same one line on
next_within : (a : SamplingRequest) (n first behind : ℕ) → Within a n (suc first) (suc behind) → Within a (n + 1) first behind
next_within a n first behind w = record {
  is = λ j le lt. subst (λ (k : ℕ). is_within a.span k ≡ true) (omega arith) (w.is (suc j) (omega (arith, le)) (omega (arith, lt)));
}

after_within : (a : SamplingRequest) (n behind : ℕ) → Within a n zero (suc behind) → Within a (n + 1) zero behind
after_within a n behind w = record {
  is = λ j le lt. subst (λ (k : ℕ). is_within a.span k ≡ true) (omega arith) (w.is (suc j) (omega arith) (omega (arith, lt)));
}

abbrev later : SamplingRequest → ℕ → List Cut → List Bool → Result Lines VcdFault
later a n cs x = numbered_lines a (n + 1) cs >>= λ xs. Ok (x ∷ xs)

lines_wide : (a : SamplingRequest) (cuts : List Cut) (n first behind : ℕ) → Within a n first behind →
    Gives (WideIn (length a.inputs) first behind) (numbered_lines a n cuts)
lines_wide a [] n first behind w = gives_ok (WideIn (length a.inputs) first behind) [] (none_wide (length a.inputs) first behind)
lines_wide a (c ∷ cs) n first zero w =
    let P = WideIn (length a.inputs) first zero in
    gives_then (λ _. Unit {0}) P (asked_line a n c) (later a n cs) (gives_any (asked_line a n c))
    (λ x u.
    gives_then (λ _. Unit {0}) P (numbered_lines a (n + 1) cs) (λ xs. Ok (x ∷ xs)) (gives_any (numbered_lines a (n + 1) cs))
    (λ xs v. gives_ok P (x ∷ xs) (up_to_none (length a.inputs) first (x ∷ xs))))
lines_wide a (c ∷ cs) n zero (suc behind) w =
    let width : ℕ = length a.inputs in
    let here : is_within a.span n ≡ true = subst (λ (k : ℕ). is_within a.span k ≡ true) (omega arith) (w.is 0 (omega arith) (omega arith)) in
    gives_then (IsLong width) (WideIn width zero (suc behind)) (asked_line a n c) (later a n cs) (here_wide a n c here)
    (λ x one.
    gives_then (WideIn width zero behind) (WideIn width zero (suc behind)) (numbered_lines a (n + 1) cs) (λ xs. Ok (x ∷ xs))
    (lines_wide a cs (n + 1) zero behind (after_within a n behind w))
    (λ xs all. gives_ok (WideIn width zero (suc behind)) (x ∷ xs) (All-cons (λ (s : List Bool). length s ≡ width) x (take behind xs) one all)))
lines_wide a (c ∷ cs) n (suc first) (suc behind) w =
    let width : ℕ = length a.inputs in
    gives_then (λ _. Unit {0}) (WideIn width (suc first) (suc behind)) (asked_line a n c) (later a n cs) (gives_any (asked_line a n c))
    (λ x u.
    gives_then (WideIn width first behind) (WideIn width (suc first) (suc behind)) (numbered_lines a (n + 1) cs) (λ xs. Ok (x ∷ xs))
    (lines_wide a cs (n + 1) first behind (next_within a n first behind w))
    (λ xs all. gives_ok (WideIn width (suc first) (suc behind)) (x ∷ xs) all))

end_wide : (P : SampledLines → Type 0) (fault : Option VcdFault) (s : SampledLines) → P s → Gives P (or_end fault s)
end_wide P None s p = gives_ok P s p
end_wide P (Some fault) s p = gives_err P fault

-- the lines of a cycle and of so many before it
asked_wide : (u : Unknowns) (s : ClockAndInputs) (h : History) (cycle back : ℕ) →
    Gives (λ (t : SampledLines). WideIn (length s.inputs) (cycle - back) (cycle + 1) t.lines) (lines_asked (cycle_ends u s cycle back) h)
asked_wide u s h cycle back =
    let a : SamplingRequest = cycle_ends u s cycle back in
    let P : Lines → Type 0 = WideIn (length s.inputs) (cycle - back) (cycle + 1) in
    let Q : SampledLines → Type 0 = λ (t : SampledLines). P t.lines in
    let cuts : List Cut = stops_of a [] 0 h in
    gives_then P Q (numbered_lines a 0 cuts) (λ lines. or_end h.fault (timed_lines h lines))
    (lines_wide a cuts 0 (cycle - back) (cycle + 1)
    (record {
      is = λ j le lt.
          and_from (nat_le (cycle - back) (0 + j)) (nat_le (0 + j) cycle) (le-leb (cycle - back) (0 + j) (omega (arith, le)))
          (le-leb (0 + j) cycle (omega (arith, lt)));
    }))
    (λ lines all. end_wide Q h.fault (timed_lines h lines) all)

there_wide : (width cycle back : ℕ) (s : SampledLines) → AreStates width (window_of cycle back s) → (b : Bool) →
    Gives (AreStates width) (there cycle back s b)
there_wide width cycle back s are true = gives_err (AreStates width) (Late (begin_in s))
there_wide width cycle back s are false = gives_ok (AreStates width) (window_of cycle back s) are

window_wide : (width cycle back : ℕ) (s : SampledLines) → WideIn width (cycle - back) (cycle + 1) s.lines → Gives (AreStates width) (window cycle back s)
window_wide width cycle back s all = by (nat_lt cycle (length s.lines)) refl
  where
    by : (b : Bool) → nat_lt cycle (length s.lines) ≡ b → Gives (AreStates width) (windows cycle back s b)
    by true e =
        let lt : cycle < length s.lines = ltb-true cycle (length s.lines) e in
        let some : 0 < length (drop (cycle - back) (take (cycle + 1) s.lines)) =
        omega (arith, length-drop (cycle - back) (take (cycle + 1) s.lines), length-take-le (cycle + 1) s.lines (omega (arith, lt))) in
        there_wide width cycle back s (some, all) (is_late cycle back s)
    by false e = gives_err (AreStates width) (NoCycle (length s.lines - 1))

when_wide : (u : Unknowns) (s : ClockAndInputs) (h : History) (at : When) (back : ℕ) → Gives (AreStates (length s.inputs)) (states_when u s h at back)
when_wide u s h at back =
    let R = AreStates (length s.inputs) in
    gives_then (λ _. Unit {0}) R (cycle_in s.clock h at) (λ cycle. states_at u s h back cycle) (gives_any (cycle_in s.clock h at))
    (λ cycle w.
    gives_then (λ (t : SampledLines). WideIn (length s.inputs) (cycle - back) (cycle + 1) t.lines) R (lines_asked (cycle_ends u s cycle back) h)
    (λ t. window cycle back t) (asked_wide u s h cycle back)
    (λ t all. window_wide (length s.inputs) cycle back t all))

-- a source for each name
abbrev more_sources : ℕ → HeaderDeclarations → List ℕ → List (List ℕ) → BitSource → Result (List BitSource) VcdFault
more_sources k d path keys s = inputs_from (k + 1) d path keys >>= λ more. Ok (s ∷ more)

sources_each : (k : ℕ) (d : HeaderDeclarations) (path : List ℕ) (keys : List (List ℕ)) → Gives (IsLong (length keys)) (inputs_from k d path keys)
sources_each k d path [] = gives_ok (IsLong 0) [] refl
sources_each k d path (key ∷ keys) =
    let R : List BitSource → Type 0 = λ (sources : List BitSource). length sources ≡ suc (length keys) in
    gives_then (λ _. Unit {0}) R (input_at k d path key) (more_sources k d path keys) (gives_any (input_at k d path key))
    (λ s u.
    gives_then (IsLong (length keys)) R (inputs_from (k + 1) d path keys) (λ more. Ok (s ∷ more)) (sources_each (k + 1) d path keys)
    (λ more e. gives_ok R (s ∷ more) (ap suc e)))

sampling_each : (d : HeaderDeclarations) (scope : Option (List ℕ)) (clock : List ℕ) (keys : List (List ℕ)) →
    Gives (λ (s : ClockAndInputs). length s.inputs ≡ length keys) (sampling_of d scope clock keys)
sampling_each d scope clock keys =
    let R : ClockAndInputs → Type 0 = λ (s : ClockAndInputs). length s.inputs ≡ length keys in
    gives_then (λ _. Unit {0}) R (or_fault NoClock (scope_of scope (key_parts clock) d)) _ (gives_any (or_fault NoClock (scope_of scope (key_parts clock) d)))
    (λ path u.
    gives_then (λ _. Unit {0}) R (or_fault NoClock (source_in d.paths path (key_parts clock) d.variables)) _
    (gives_any (or_fault NoClock (source_in d.paths path (key_parts clock) d.variables)))
    (λ source v.
    gives_then (IsLong (length keys)) R (inputs_from 0 d path keys) _ (sources_each 0 d path keys)
    (λ inputs e. gives_ok R (record { clock = source; inputs = inputs }) e)))

-- of names of which some may be missing
some_each : (d : HeaderDeclarations) (path : List ℕ) (keys : List (List ℕ)) →
    Gives (λ (xs : List (Option BitSource)). length xs ≡ length keys) (some_found (sources_of d path keys))
some_each d path keys = by (none_found (sources_of d path keys))
  where
    by : (b : Bool) → Gives (λ (xs : List (Option BitSource)). length xs ≡ length keys) (cond b (Err (NoInput 0)) (Ok (sources_of d path keys)))
    by true = gives_err (λ (xs : List (Option BitSource)). length xs ≡ length keys) (NoInput 0)
    by false =
        gives_ok (λ (xs : List (Option BitSource)). length xs ≡ length keys) (sources_of d path keys)
        (length-map keys (λ key. source_in d.paths path (key_parts key) d.variables))

found_each : (d : HeaderDeclarations) (path : List ℕ) (keys : List (List ℕ)) → Gives (IsLong (length keys)) (found_inputs d path keys)
found_each d path keys =
    gives_then (λ (xs : List (Option BitSource)). length xs ≡ length keys) (IsLong (length keys)) (some_found (sources_of d path keys))
    (λ sources. Ok (map or_nowhere sources)) (some_each d path keys)
    (λ sources e. gives_ok (IsLong (length keys)) (map or_nowhere sources) (length-map sources or_nowhere ∙ e))

found_sampling_each : (d : HeaderDeclarations) (scope : Option (List ℕ)) (clock : List ℕ) (keys : List (List ℕ)) →
    Gives (λ (s : ClockAndInputs). length s.inputs ≡ length keys) (found_sampling d scope clock keys)
found_sampling_each d scope clock keys =
    let R : ClockAndInputs → Type 0 = λ (s : ClockAndInputs). length s.inputs ≡ length keys in
    gives_then (λ _. Unit {0}) R (or_fault NoClock (scope_of scope (key_parts clock) d)) _ (gives_any (or_fault NoClock (scope_of scope (key_parts clock) d)))
    (λ path u.
    gives_then (λ _. Unit {0}) R (or_fault NoClock (source_in d.paths path (key_parts clock) d.variables)) _
    (gives_any (or_fault NoClock (source_in d.paths path (key_parts clock) d.variables)))
    (λ source v.
    gives_then (IsLong (length keys)) R (found_inputs d path keys) _ (found_each d path keys)
    (λ inputs e. gives_ok R (record { clock = source; inputs = inputs }) e)))

sampling_by_each : (u : Unknowns) (d : HeaderDeclarations) (scope : Option (List ℕ)) (clock : List ℕ) (keys : List (List ℕ)) →
    Gives (λ (s : ClockAndInputs). length s.inputs ≡ length keys) (sampling_by u d scope clock keys)
sampling_by_each Refused d scope clock keys = sampling_each d scope clock keys
sampling_by_each Low d scope clock keys = found_sampling_each d scope clock keys
sampling_by_each Marked d scope clock keys = found_sampling_each d scope clock keys

states_are : (u : Unknowns) (text : List ℕ) (scope : Option (List ℕ)) (clock : List ℕ) (keys : List (List ℕ)) (at : When) (back : ℕ) →
    Gives (AreStates (length keys)) (states_by u text scope clock keys at back)
states_are u text scope clock keys at back =
    let R = AreStates (length keys) in
    gives_then (λ _. Unit {0}) R (header_of (tokens_from 1 text)) (λ h. states_of u h scope clock keys at back) (gives_any (header_of (tokens_from 1 text)))
    (λ h w.
    gives_then (λ (s : ClockAndInputs). length s.inputs ≡ length keys) R (sampling_by u h.declared scope clock keys) (λ s. states_when u s (history_of h.rest) at back)
    (sampling_by_each u h.declared scope clock keys)
    (λ s e. subst (λ (n : ℕ). Gives (AreStates n) (states_when u s (history_of h.rest) at back)) e (when_wide u s (history_of h.rest) at back)))

pub states_some : (u : Unknowns) (text : List ℕ) (scope : Option (List ℕ)) (clock : List ℕ) (keys : List (List ℕ)) (at : When) (back : ℕ) (states : List (List Bool)) →
    states_by u text scope clock keys at back ≡ Ok states → 0 < length states
states_some u text scope clock keys at back states e = ((states_are u text scope clock keys at back).is states e).0

pub states_wide : (u : Unknowns) (text : List ℕ) (scope : Option (List ℕ)) (clock : List ℕ) (keys : List (Bor (List ℕ))) (at : When) (back : ℕ)
    (states : List (List Bool)) → states_by u text scope clock (map (λ key. key.now) keys) at back ≡ Ok states → All (λ s. length s ≡ length keys) states
states_wide u text scope clock keys at back states e =
    let shown : List (List ℕ) = map (λ key. key.now) keys in
    subst (λ (n : ℕ). All (λ s. length s ≡ n) states) (length-map keys (λ (key : Bor (List ℕ)). key.now))
    ((states_are u text scope clock shown at back).is states e).1
