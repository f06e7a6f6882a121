-- What the code makes of the words is what their moments give.
use Rattle.std.proofs.Common.{◌≡◌, ℕ, ◌+◌, Bool, true, false, cond, nat_lt, List, [], ◌∷◌, ◌++◌, length, map, filter, Option, Some, None, Result, Ok, Err, refl, ap, sym, ◌∙◌, ◌⊎◌, inl, inr}
use Rattle.std.specs.Prelude.{◌==◌, ◌&&◌}
use Rattle.std.specs.Option.{option_or}
use Rattle.std.proofs.lemmas.List.{append_assoc, append-nil, length-append}
use Rattle.bs_bits.specs.Reading.{◌>>=◌}
use Rattle.bs_vcd_header.specs.declared.fault.VcdFault.{VcdFault}
use Rattle.bs_vcd_header.specs.declared.fault.VcdFault.TheVariants.{Line, NoMemory}
use Rattle.bs_vcd_header.specs.declared.sources.BitSource.{BitSource}
use Rattle.bs_vcd_header.specs.Tokens.{VcdToken}
use Rattle.bs_vcd.specs.declared.clock_edges.SampledLines.{SampledLines}
use Rattle.bs_vcd.specs.History.{ValueChange, Moment, History, WordPlace, Plain, Value, Skip, Remark, WordEffect, Goes, Changes, Begins, Stops, begin_of, last_of, step, stepped, history_from, history_of, before, stopped, moment, time_if}
use Rattle.bs_vcd.specs.Levels.{Known, known_by}
use Rattle.bs_vcd.specs.Sampled.{SamplingRequest, Cut, all_edges, all_ok, asked_line, cuts_from, is_edge, is_stop, is_until, line_at, line_by, lines_asked, numbered_lines, or_fault, rises, sampled, stops_of, tail_of, timed_lines, unknowns_of, wanted}
use Rattle.bs_vcd.specs.Watching.{SamplingState, with_line, closed, lined, tailed, next_watch, moved, took, watched_from, nothing_watched}
use Rattle.bs_vcd.proofs.LevelLemmas.{known_append}

abbrev Lines : Type 0
Lines = Result (List (List Bool)) VcdFault

abbrev Timed : Type 0
Timed = Result SampledLines VcdFault

abbrev put_times : Option ℕ → ℕ → List (List Bool) → SampledLines
put_times first last lines = record { first = first; last = last; lines = lines }

-- the times of moments with lines, where the first change and this time were before
abbrev pub spanned : Option ℕ → ℕ → List Moment → List (List Bool) → SampledLines
spanned first time moments lines = put_times (option_or first (begin_of moments)) (last_of time moments) lines

-- lines so far, and then those of a history, before which the first change and this time were
abbrev pub goes_on : SamplingRequest → Option ℕ → List ValueChange → ℕ → List (List Bool) → History → Timed
goes_on a first earlier time lines h =
    numbered_lines a (length lines) (stops_of a earlier time h) >>= λ later. or_fault h.fault (spanned first time h.moments (lines ++ later))

-- a line before the others
line_first : (a : SamplingRequest) (line : Result (List Bool) VcdFault) (cuts : List Cut) (fault : Option VcdFault) (put : List (List Bool) → SampledLines)
    (lines : List (List Bool)) →
    ((line >>= λ x. numbered_lines a (length lines + 1) cuts >>= λ xs. Ok (x ∷ xs)) >>= λ later. or_fault fault (put (lines ++ later)))
    ≡ ((line >>= λ x. Ok (with_line lines x)) >>= λ more. numbered_lines a (length more) cuts >>= λ later. or_fault fault (put (more ++ later)))
line_first a (Err f) cuts fault put lines = refl
line_first a (Ok x) cuts fault put lines =
    moved_in (numbered_lines a (length lines + 1) cuts)
    ∙ ap (λ n. numbered_lines a n cuts >>= λ later. or_fault fault (put ((lines ++ x ∷ []) ++ later))) (sym (length-append lines (x ∷ [])))
  where
    moved_in : (rest : Lines) → ((rest >>= λ xs. Ok (x ∷ xs)) >>= λ later. or_fault fault (put (lines ++ later)))
        ≡ (rest >>= λ later. or_fault fault (put ((lines ++ x ∷ []) ++ later)))
    moved_in (Err f) = refl
    moved_in (Ok xs) = ap (λ (ls : List (List Bool)). or_fault fault (put ls)) (sym (append_assoc lines (x ∷ []) xs))

abbrev cut : List ValueChange → Moment → Cut
cut earlier now = record { earlier = earlier; moment = now }

abbrev stops : SamplingRequest → List ValueChange → List Moment → List Cut
stops a earlier moments = filter (is_stop a) (cuts_from earlier moments)

-- the first change up to the end of a moment
abbrev noted : Option ℕ → Moment → Option ℕ
noted first now = option_or first (time_if now.changes now.time)

-- the end of a moment, by whether its line is asked for
ends_by : (a : SamplingRequest) (first : Option ℕ) (earlier : List ValueChange) (now : Moment) (lines : List (List Bool)) (h : History) (b : Bool) →
    (numbered_lines a (length lines)
    (cond b (cut earlier now ∷ stops a (earlier ++ now.changes) h.moments) (stops a (earlier ++ now.changes) h.moments)
    ++ tail_of a h.fault (earlier ++ now.changes) now.time h.moments)
    >>= λ later. or_fault h.fault (spanned first now.time h.moments (lines ++ later)))
    ≡ ((cond b (lined a now.time (known_by earlier) lines) (Ok lines)) >>= λ more. goes_on a first (earlier ++ now.changes) now.time more h)
ends_by a first earlier now lines h false = refl
ends_by a first earlier now lines h true =
    line_first a (asked_line a (length lines) (cut earlier now)) (stops_of a (earlier ++ now.changes) now.time h) h.fault
    (spanned first now.time h.moments) lines

or_assoc : (x y z : Option ℕ) → option_or x (option_or y z) ≡ option_or (option_or x y) z
or_assoc None y z = refl
or_assoc (Some n) y z = refl

-- the end of a moment
moment_ends : (a : SamplingRequest) (first : Option ℕ) (earlier : List ValueChange) (now : Moment) (time : ℕ) (lines : List (List Bool)) (h : History) →
    goes_on a first earlier time lines (before now h)
    ≡ (closed a now.time (known_by earlier) now.changes lines >>= λ more. goes_on a (noted first now) (earlier ++ now.changes) now.time more h)
moment_ends a first earlier now time lines h =
    ap (λ (o : Option ℕ). numbered_lines a (length lines) (stops_of a earlier time (before now h)) >>= λ later.
    or_fault h.fault (put_times o (last_of now.time h.moments) (lines ++ later)))
    (or_assoc first (time_if now.changes now.time) (begin_of h.moments))
    ∙ (ends_by a (noted first now) earlier now lines h (is_until a.until now.time && rises a.clock (known_by earlier) (known_by (earlier ++ now.changes)))
    ∙ ap (λ (k : Known).
    (cond (is_until a.until now.time && rises a.clock (known_by earlier) k) (lined a now.time (known_by earlier) lines) (Ok lines))
    >>= λ more. goes_on a (noted first now) (earlier ++ now.changes) now.time more h) (sym (known_append earlier now.changes)))

-- what the code knows by a history
abbrev here : Option ℕ → List ValueChange → Moment → List (List Bool) → SamplingState
here first earlier now lines =
    record { time = now.time; first = noted first now; known = known_by earlier; changes = now.changes; lines = lines }

-- the line of the text's end
tail_line : (lines : List (List Bool)) (r : Result (List Bool) VcdFault) →
    (r >>= λ line. Ok (with_line lines line)) ≡ ((r >>= λ x. Ok (x ∷ [])) >>= λ later. Ok (lines ++ later))
tail_line lines (Err f) = refl
tail_line lines (Ok x) = refl

tail_by : (a : SamplingRequest) (earlier : List ValueChange) (time : ℕ) (lines : List (List Bool)) (b : Bool) →
    (cond b (lined a time (known_by earlier) lines) (Ok lines))
    ≡ (numbered_lines a (length lines) (cond b (cut earlier (moment time) ∷ []) []) >>= λ later. Ok (lines ++ later))
tail_by a earlier time lines false = ap Ok (sym (append-nil lines))
tail_by a earlier time lines true = tail_line lines (line_by (unknowns_of a (length lines)) time (known_by earlier) (wanted a (length lines)))

put_behind : (lines : List (List Bool)) (put : List (List Bool) → SampledLines) (r : Lines) →
    ((r >>= λ later. Ok (lines ++ later)) >>= λ all. Ok (put all)) ≡ (r >>= λ later. Ok (put (lines ++ later)))
put_behind lines put (Err f) = refl
put_behind lines put (Ok later) = refl

or_none : (o : Option ℕ) → option_or o None ≡ o
or_none None = refl
or_none (Some n) = refl

-- the end of the text
tail_ends : (a : SamplingRequest) (first : Option ℕ) (earlier : List ValueChange) (changes : List ValueChange) (time : ℕ) (known : Known) (r : Lines) →
    known ≡ known_by (earlier ++ changes) →
    ((r >>= λ lines. tailed a time known lines) >>= λ lines. Ok (put_times first time lines))
    ≡ (r >>= λ more. goes_on a first (earlier ++ changes) time more record { moments = []; fault = None })
tail_ends a first earlier changes time known (Err f) e = refl
tail_ends a first earlier changes time known (Ok lines) e =
    let rest : Lines = numbered_lines a (length lines) (cond a.tail (cut (earlier ++ changes) (moment time) ∷ []) []) in
    ap (λ (k : Known). tailed a time k lines >>= λ ls. Ok (put_times first time ls)) e
    ∙ (ap (λ (r : Lines). r >>= λ ls. Ok (put_times first time ls)) (tail_by a (earlier ++ changes) time lines a.tail)
    ∙ (put_behind lines (put_times first time) rest
    ∙ ap (λ (o : Option ℕ). rest >>= λ later. Ok (put_times o time (lines ++ later))) (sym (or_none first))))

abbrev go : List VcdToken → WordPlace → Moment → History
go ts m n = history_from m n ts

-- the code's words are those of a history, from any place on
abbrev Same : SamplingRequest → List VcdToken → Type 0
Same a ts =
    (mode : WordPlace) (first : Option ℕ) (earlier : List ValueChange) (now : Moment) (time : ℕ) (lines : List (List Bool)) →
    watched_from a mode (here first earlier now lines) ts ≡ goes_on a first earlier time lines (history_from mode now ts)

-- what comes behind a word
abbrev behind : SamplingRequest → List VcdToken → Result (WordPlace × SamplingState) VcdFault → Timed
behind a ts r = r >>= λ next. watched_from a next.0 next.1 ts

abbrev plain : Result SamplingState VcdFault → Result (WordPlace × SamplingState) VcdFault
plain r = r >>= λ next. Ok (Plain, next)

next_moment : (a : SamplingRequest) (first : Option ℕ) (earlier : List ValueChange) (now : Moment) (lines : List (List Bool)) (ts : List VcdToken) → Same a ts →
    (time : ℕ) (r : Lines) →
    behind a ts (plain (r >>= λ more. Ok (next_watch time (here first earlier now lines) more)))
    ≡ (r >>= λ more. goes_on a (noted first now) (earlier ++ now.changes) now.time more (go ts Plain (moment time)))
next_moment a first earlier now lines ts same time (Err f) = refl
next_moment a first earlier now lines ts same time (Ok more) =
    ap (λ (k : Known). watched_from a Plain (record { time = time; first = noted first now; known = k; changes = []; lines = more }) ts)
    (known_append earlier now.changes)
    ∙ (ap (λ (o : Option ℕ). watched_from a Plain (record { time = time; first = o; known = known_by (earlier ++ now.changes); changes = []; lines = more }) ts)
    (sym (or_none (noted first now)))
    ∙ same Plain (noted first now) (earlier ++ now.changes) (moment time) now.time more)

when_same : (a : SamplingRequest) (first : Option ℕ) (earlier : List ValueChange) (now : Moment) (at : ℕ) (lines : List (List Bool)) (ts : List VcdToken) →
    Same a ts → (time : ℕ) (b : Bool) →
    behind a ts (plain (cond b (Ok (here first earlier now lines)) (moved a time (here first earlier now lines))))
    ≡ goes_on a first earlier at lines (cond b (go ts Plain now) (before now (go ts Plain (moment time))))
when_same a first earlier now at lines ts same time true = same Plain first earlier now at lines
when_same a first earlier now at lines ts same time false =
    next_moment a first earlier now lines ts same time (closed a now.time (known_by earlier) now.changes lines)
    ∙ sym (moment_ends a first earlier now at lines (go ts Plain (moment time)))

when_less : (a : SamplingRequest) (first : Option ℕ) (earlier : List ValueChange) (now : Moment) (at : ℕ) (lines : List (List Bool)) (line : ℕ)
    (ts : List VcdToken) → Same a ts → (time : ℕ) (b : Bool) →
    behind a ts (plain (cond b (Err (Line line))
    (cond (time == now.time) (Ok (here first earlier now lines)) (moved a time (here first earlier now lines)))))
    ≡ goes_on a first earlier at lines (cond b (stopped (Line line)) (cond (time == now.time) (go ts Plain now) (before now (go ts Plain (moment time)))))
when_less a first earlier now at lines line ts same time true = refl
when_less a first earlier now at lines line ts same time false = when_same a first earlier now at lines ts same time (time == now.time)

-- a change more
noted_more : (first : Option ℕ) (time : ℕ) (changes : List ValueChange) (c : ValueChange) →
    option_or (option_or first (time_if changes time)) (Some time) ≡ option_or first (time_if (changes ++ c ∷ []) time)
noted_more (Some n) time changes c = refl
noted_more None time [] c = refl
noted_more None time (d ∷ ds) c = refl

-- one word
by_step : (a : SamplingRequest) (first : Option ℕ) (earlier : List ValueChange) (now : Moment) (at : ℕ) (lines : List (List Bool)) (line : ℕ)
    (ts : List VcdToken) → Same a ts → (s : Option WordEffect) →
    behind a ts (took a line s (here first earlier now lines)) ≡ goes_on a first earlier at lines (stepped s now line (go ts))
by_step a first earlier now at lines line ts same None = refl
by_step a first earlier now at lines line ts same (Some (Goes m)) = same m first earlier now at lines
by_step a first earlier now at lines line ts same (Some (Changes c)) =
    ap (λ (o : Option ℕ).
    watched_from a Plain (record { time = now.time; first = o; known = known_by earlier; changes = now.changes ++ c ∷ []; lines = lines }) ts)
    (noted_more first now.time now.changes c)
    ∙ same Plain first earlier (record { time = now.time; changes = now.changes ++ c ∷ [] }) at lines
by_step a first earlier now at lines line ts same (Some (Begins time)) =
    when_less a first earlier now at lines line ts same time (nat_lt time now.time)
by_step a first earlier now at lines line ts same (Some Stops) = refl

pub same_watch : (a : SamplingRequest) (ts : List VcdToken) → Same a ts
same_watch a [] Plain first earlier now time lines =
    tail_ends a (noted first now) earlier now.changes now.time _ (closed a now.time (known_by earlier) now.changes lines) (known_append earlier now.changes)
    ∙ sym (moment_ends a first earlier now time lines record { moments = []; fault = None })
same_watch a [] (Value bits) first earlier now time lines = refl
same_watch a [] Skip first earlier now time lines = refl
same_watch a [] Remark first earlier now time lines = refl
same_watch a (t ∷ ts) mode first earlier now time lines =
    by_step a first earlier now time lines t.line ts (same_watch a ts) (step mode t.text)

-- the words behind the declarations, from the first
pub watched_whole : (a : SamplingRequest) (ts : List VcdToken) → watched_from a Plain nothing_watched ts ≡ lines_asked a (history_of ts)
watched_whole a ts = same_watch a ts Plain None [] (moment 0) 0 []

-- the answer of the code, whose words are those from the first
pub lines_whole : (a : SamplingRequest) (ts : List VcdToken) (w : SamplingState) (sampled : SampledLines) → w ≡ nothing_watched →
    watched_from a Plain w ts ≡ Ok sampled → lines_asked a (history_of ts) ≡ Ok sampled
lines_whole a ts w sampled e f = sym (watched_whole a ts) ∙ (ap (λ (w : SamplingState). watched_from a Plain w ts) (sym e) ∙ f)

pub lines_faulty : (a : SamplingRequest) (ts : List VcdToken) (w : SamplingState) (fault : VcdFault) → w ≡ nothing_watched →
    (fault ≡ NoMemory) ⊎ (watched_from a Plain w ts ≡ Err fault) → (fault ≡ NoMemory) ⊎ (lines_asked a (history_of ts) ≡ Err fault)
lines_faulty a ts w fault e (inl want) = inl want
lines_faulty a ts w fault e (inr f) = inr (sym (watched_whole a ts) ∙ (ap (λ (w : SamplingState). watched_from a Plain w ts) (sym e) ∙ f))

-- ---- all edges

no_tail : (clock : BitSource) (inputs : List BitSource) (fault : Option VcdFault) (earlier : List ValueChange) (time : ℕ) (ms : List Moment) →
    tail_of (all_edges clock inputs) fault earlier time ms ≡ []
no_tail clock inputs None earlier time [] = refl
no_tail clock inputs (Some fault) earlier time [] = refl
no_tail clock inputs fault earlier time (m ∷ ms) = no_tail clock inputs fault (earlier ++ m.changes) m.time ms

each_line : (clock : BitSource) (inputs : List BitSource) (n : ℕ) (cuts : List Cut) →
    numbered_lines (all_edges clock inputs) n cuts ≡ all_ok (map (line_at inputs) cuts)
each_line clock inputs n [] = refl
each_line clock inputs n (c ∷ cs) = ap (λ r. line_at inputs c >>= λ x. r >>= λ xs. Ok (x ∷ xs)) (each_line clock inputs (n + 1) cs)

pub all_sampled : (clock : BitSource) (inputs : List BitSource) (h : History) → lines_asked (all_edges clock inputs) h ≡ sampled clock inputs h
all_sampled clock inputs h =
    let edges : List Cut = filter (is_edge clock) (cuts_from [] h.moments) in
    let put : Lines → Timed = λ r. r >>= λ lines. or_fault h.fault (timed_lines h lines) in
    ap (λ (cs : List Cut). put (numbered_lines (all_edges clock inputs) 0 (edges ++ cs))) (no_tail clock inputs h.fault [] 0 h.moments)
    ∙ (ap (λ (cs : List Cut). put (numbered_lines (all_edges clock inputs) 0 cs)) (append-nil edges)
    ∙ ap put (each_line clock inputs 0 edges))
