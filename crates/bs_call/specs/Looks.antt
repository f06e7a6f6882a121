-- What recorded runs tell of a dump, as a note says it.
use Rattle.std.specs.Prelude.{ℕ, ◌==◌, Bool, List, [], ◌∷◌, ◌++◌, reverse, codes, decimal, Option, Some, None, if◌then◌else◌}
use Rattle.bs_scan.specs.declared.dump.Dump.{Dump}
use Rattle.bs_scan.specs.Crash.{Recording, dump_at}
use Rattle.bs_scan.specs.DumpText.{signature_text}
use Rattle.bs_scan.specs.Moments.{Moment, first_moment}
use Rattle.bs_note_files.specs.Notes.{pair_text, plain_text}
use Rattle.bs_call.specs.declared.fit.Fit.{Fit}
use Rattle.bs_call.specs.declared.fit.Fit.TheVariants.{Same, Turned, Other}
use Rattle.bs_call.specs.Fits.{fit_of}

-- the first moment of the runs in a state
abbrev pub moment_in : Recording → List Bool → Option Moment
moment_in r state = first_moment r.circuit r.runs (state ∷ [])

-- ---- what is said

-- the end of a quoted signature, and the older one behind it where two are kept
abbrev pub behind_text : Dump → List ℕ
behind_text there = if there.depth == 2 then codes "` and `old " ++ (signature_text there.older ++ codes "`") else codes "`"

abbrev pub moment_text : Moment → List ℕ
moment_text m = codes "the dump's state is that of run " ++ (decimal m.run ++ (codes " at cycle " ++ decimal m.cycle))

-- the signatures of a moment's dump
abbrev pub held_text : Dump → List ℕ
held_text there = codes ", whose dump has `sig " ++ (signature_text there.stored ++ behind_text there)

abbrev pub place_text : Moment → Dump → List ℕ
place_text m there = moment_text m ++ held_text there

-- the state stands there as it is
abbrev pub recorded_text : List ℕ → Moment → Dump → Fit → List ℕ
recorded_text said m there Same = said ++ plain_text (place_text m there)
recorded_text said m there Turned =
    pair_text (place_text m there)
    (codes "this dump has it read backwards: turn it around, so that the bit of the signature's first line is the first on the left")
recorded_text said m there Other =
    pair_text (place_text m there)
    (codes "this dump has another: were state and `sig` read at the same cycle, and is the signature file the chip's?")

-- what to do with a state that stands there read backwards
abbrev pub turned_advice : Fit → List ℕ
turned_advice Same = codes "turn the state around: its bits are in the order of the netlist's flip-flops, the first on the left"
turned_advice Turned =
    codes "turn state and `sig` around: bits are in the order of the netlist's flip-flops and of the signature's lines, the first on the left"
turned_advice Other =
    codes "turn the state around: its bits are in the order of the netlist's flip-flops, the first on the left; this dump has another `sig`"

abbrev pub turned_text : Moment → Dump → Fit → List ℕ
turned_text m there fit = pair_text (codes "read backwards, " ++ place_text m there) (turned_advice fit)

abbrev pub never_text : List ℕ → List ℕ
never_text said =
    said ++ plain_text (codes "the dump's state itself was never recorded, nor that state read backwards; this alone is no fault: a crash need not be in a run")

-- ---- what is found

-- by the first moment in the state read backwards
abbrev pub turned_or : Recording → Dump → List ℕ → Option Moment → List ℕ
turned_or r dump said (Some m) = turned_text m (dump_at r m) (fit_of (dump_at r m) dump)
turned_or r dump said None = never_text said

-- by the first moment in the state as it stands
abbrev pub recorded_or : Recording → Dump → List ℕ → Option Moment → List ℕ
recorded_or r dump said (Some m) = recorded_text said m (dump_at r m) (fit_of (dump_at r m) dump)
recorded_or r dump said None = turned_or r dump said (moment_in r (reverse dump.state.bits))

-- The note on a stop, which says this, once the runs were looked at: where a run was in the dump's state, its first such moment and the
-- signatures there; where none was, the same of the state read backwards; and where none was in that either, that the state was never
-- recorded. The note's own text stays, unless the dump is found to be read in another order or to have other signatures than the moment.
abbrev pub looked_text : Recording → Dump → List ℕ → List ℕ
looked_text r dump said = recorded_or r dump said (moment_in r dump.state.bits)
