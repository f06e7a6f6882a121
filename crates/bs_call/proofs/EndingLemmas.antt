-- The moments of recorded runs, and the notes on work that is done.
use Rattle.std.proofs.Common.{◌≡◌, ◌≢◌, ℕ, suc, ◌+◌, ◌<◌, Bool, true, false, cond, List, [], ◌∷◌, ◌++◌, length, take, Option, Some, None, sym, subst, ◌∙◌, ap, get_or, arith}
use Rattle.std.specs.Prelude.{◌==◌, option_map, sum_by}
use Rattle.std.specs.Option.{unwrap_or}
use Rattle.std.proofs.Math.Seq.{take-suc}
use Rattle.std.proofs.lemmas.List.Sums.{sum_by-append}
use Rattle.bs_report.specs.declared.report.Stop.{Stop}
use Rattle.bs_stim.specs.Runs.{Recorded, Stimulus, no_run}
use Rattle.bs_scan.specs.declared.dump.Dump.{Dump}
use Rattle.bs_scan.specs.Crash.{Recording}
use Rattle.bs_call.specs.Looks.{looked_text}
use Rattle.bs_note_calls.specs.Faults.{rejected_text}
use Rattle.bs_note_calls.specs.Searches.{miss_text}
use Rattle.bs_note_calls.specs.Stops.{text_of}
use Rattle.bs_note_calls.specs.declared.miss.Miss.{Miss}
use Rattle.bs_call.specs.declared.note.Note.{Note}
use Rattle.bs_call.specs.declared.note.Note.TheVariants.{Silent, Brief, Wanting}
use Rattle.bs_call.specs.Note.{Due, DueText, SureText}
use Rattle.bs_call.specs.Endings.{followed_text, is_hit, is_searched, miss_text_of, own_text, partly_text, rejected_text_if, run_text, stopped_text, whole_text}

-- the moments of one run
abbrev pub moments_in : Recorded → ℕ
moments_in run = length run.inputs + 1

-- one run more
pub one_more : (runs : List Recorded) (at : ℕ) → at < length runs →
    sum_by moments_in (take (at + 1) runs) ≡ sum_by moments_in (take at runs) + (length (get_or runs at no_run).inputs + 1)
one_more runs at there =
    let next : at + 1 ≡ suc at = omega arith in
    let e : take (suc at) runs ≡ take at runs ++ (get_or runs at no_run ∷ []) = take-suc runs at no_run there in
    ap (λ (k : ℕ). sum_by moments_in (take k runs)) next ∙ ap (sum_by moments_in) e ∙
    sum_by-append moments_in (take at runs) (get_or runs at no_run ∷ []) ∙ omega arith

-- a text that the runs are searched for
pub looked_so : (r : Recording) (dump : Dump) (steps : ℕ) (stop : Stop) (said text : List ℕ) (note : Note) → is_searched steps stop ≡ true → said ≡ text →
    Due (λ n. n ≡ looked_text r dump said) note → Due (λ n. n ≡ stopped_text r dump steps stop text) note
looked_so r dump steps stop said text note is same says =
    let e : looked_text r dump said ≡ stopped_text r dump steps stop text =
    ap (looked_text r dump) same ∙ ap (λ (b : Bool). cond b (looked_text r dump text) text) (sym is)
    in subst (λ (t : List ℕ). Due (λ n. n ≡ t) note) e says

-- and one that they are not
pub unlooked_so : (r : Recording) (dump : Dump) (steps : ℕ) (stop : Stop) (text : List ℕ) (note : Note) → is_searched steps stop ≡ false →
    note ≡ Brief text → Due (λ n. n ≡ stopped_text r dump steps stop text) note
unlooked_so r dump steps stop text note is same =
    subst (Due (λ n. n ≡ stopped_text r dump steps stop text)) (sym same)
    (ap (λ (b : Bool). cond b (looked_text r dump text) text) (sym is))

-- memory may run out where the runs are searched
pub searched_wants : (steps : ℕ) (stop : Stop) (note : Note) → is_searched steps stop ≡ true → is_searched steps stop ≡ false → note ≢ Wanting
searched_wants steps stop note is not =
    let e : true ≡ false = sym is ∙ not in
    absurd cc

-- and for no note that is there
pub brief_sure : (steps : ℕ) (stop : Stop) (said : List ℕ) (note : Note) → note ≡ Brief said → is_searched steps stop ≡ false → note ≢ Wanting
brief_sure steps stop said note same not = λ is. let e : Brief said ≡ Wanting = sym same ∙ is in absurd cc

pub silent_sure : (steps : ℕ) (stop : Stop) (note : Note) → note ≡ Silent → is_searched steps stop ≡ false → note ≢ Wanting
silent_sure steps stop note same not = λ is. let e : Silent ≡ Wanting = sym same ∙ is in absurd cc

-- nothing is said of a run that came to reset, from a dump of which all is known
pub run_silent : (r : Recording) (dump : Dump) (runs : Stimulus) (steps : ℕ) (stop : Stop) (cut : Bool) (lists : ℕ) (note : Note) → text_of steps stop cut lists ≡ None →
    note ≡ Silent → DueText (whole_text r dump runs steps stop cut lists) note
run_silent r dump runs steps stop cut lists note none silent =
    subst (λ (t : Option (List ℕ)). DueText (option_map (λ (text : List ℕ). stopped_text r dump steps stop (followed_text runs stop text)) t) note)
    (sym none) silent

-- the note on a stop, from the text of its own
pub run_due : (r : Recording) (dump : Dump) (runs : Stimulus) (steps : ℕ) (stop : Stop) (cut : Bool) (lists : ℕ) (text : List ℕ) (note : Note) →
    text_of steps stop cut lists ≡ Some text → Due (λ n. n ≡ stopped_text r dump steps stop (followed_text runs stop text)) note →
    DueText (whole_text r dump runs steps stop cut lists) note
run_due r dump runs steps stop cut lists text note some says =
    subst (λ (t : Option (List ℕ)). DueText (option_map (λ (text : List ℕ). stopped_text r dump steps stop (followed_text runs stop text)) t) note)
    (sym some) says

-- the text of a stop, and what follows it, if there is one
pub own_some : (runs : Stimulus) (steps : ℕ) (stop : Stop) (cut : Bool) (lists : ℕ) (text said : List ℕ) → text_of steps stop cut lists ≡ Some text →
    said ≡ followed_text runs stop text → said ≡ own_text runs steps stop cut lists
own_some runs steps stop cut lists text said some is =
    is ∙ ap (λ (t : Option (List ℕ)). unwrap_or (option_map (followed_text runs stop) t) []) (sym some)

pub own_none : (runs : Stimulus) (steps : ℕ) (stop : Stop) (cut : Bool) (lists : ℕ) (said : List ℕ) → text_of steps stop cut lists ≡ None → said ≡ [] →
    said ≡ own_text runs steps stop cut lists
own_none runs steps stop cut lists said none is =
    is ∙ ap (λ (t : Option (List ℕ)). unwrap_or (option_map (followed_text runs stop) t) []) (sym none)

-- the note from a dump of which all is known, or is not
pub run_whole : (r : Recording) (dump : Dump) (runs : Stimulus) (steps : ℕ) (stop : Stop) (cut : Bool) (lists : ℕ) (note : Note) →
    (length dump.state.free == 0) ≡ true → DueText (whole_text r dump runs steps stop cut lists) note → DueText (run_text r dump runs steps stop cut lists) note
run_whole r dump runs steps stop cut lists note all says =
    subst (λ (b : Bool). DueText (cond b (whole_text r dump runs steps stop cut lists) (Some (own_text runs steps stop cut lists ++ partly_text dump (is_hit steps stop)))) note)
    (sym all) says

pub run_partly : (r : Recording) (dump : Dump) (runs : Stimulus) (steps : ℕ) (stop : Stop) (cut : Bool) (lists : ℕ) (said : List ℕ) (note : Note) →
    (length dump.state.free == 0) ≡ false → note ≡ Brief said → said ≡ own_text runs steps stop cut lists ++ partly_text dump (is_hit steps stop) →
    DueText (run_text r dump runs steps stop cut lists) note
run_partly r dump runs steps stop cut lists said note some same is =
    subst (λ (n : Note). DueText (run_text r dump runs steps stop cut lists) n) (sym same)
    (subst (λ (b : Bool). DueText (cond b (whole_text r dump runs steps stop cut lists) (Some (own_text runs steps stop cut lists ++ partly_text dump (is_hit steps stop)))) (Brief said))
    (sym some) is)

pub miss_made : (miss : Option Miss) (one : Miss) (said : List ℕ) (note : Note) → miss ≡ Some one → note ≡ Brief said → said ≡ miss_text one →
    SureText (miss_text_of miss) note
miss_made miss one said note is same says = rw (is, same) says

pub rejected_made : (rejected : Bool) (said : List ℕ) (note : Note) → rejected ≡ true → note ≡ Brief said → said ≡ rejected_text →
    SureText (rejected_text_if rejected) note
rejected_made rejected said note is same says = rw (is, same) says
