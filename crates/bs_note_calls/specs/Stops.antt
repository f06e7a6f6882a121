-- Notes on the stops of a run.
use Rattle.std.specs.Prelude.{◌==◌, ℕ, Bool, true, false, List, [], ◌++◌, codes, decimal, Option, Some, None, if◌then◌else◌}
use Rattle.std.specs.List.{count_by}
use Rattle.bs_report.specs.declared.report.ListEnd.{ListEnd}
use Rattle.bs_report.specs.declared.report.ListEnd.TheVariants as E
use Rattle.bs_report.specs.declared.report.Step.{Step}
use Rattle.bs_report.specs.declared.report.Stop.{Stop}
use Rattle.bs_report.specs.declared.report.Stop.TheVariants as S
use Rattle.bs_note_files.specs.Notes.{pair_text, plain_text}

-- a list that met a budget
abbrev pub met_budget : ListEnd → Bool
met_budget (E.Finished id) = false
met_budget E.Candidates = true
met_budget E.Conflicts = true

-- a step whose list was cut
abbrev pub is_cut : Step → Bool
is_cut step = met_budget step.end

-- how many of these steps' lists were cut
abbrev pub cut_lists : List Step → ℕ
cut_lists steps = count_by is_cut steps

-- two sentences, the first with the number of a step behind it
abbrev pub step_text : List ℕ → ℕ → List ℕ → List ℕ
step_text first steps second = pair_text (first ++ (codes " " ++ decimal steps)) second

-- a stop for want of a candidate: at the first step the dump itself is in question
abbrev pub empty_text : ℕ → List ℕ
empty_text steps =
    if steps == 1 then pair_text (codes "no state with the stored signature leads to the dumped state")
    (codes "look at the dump: its bits are in the order of the netlist's flip-flops, the first on the left; is it of this netlist, and `sig` of this signature?")
    else step_text (codes "no state with the stored signature leads to the state of the hit before step") steps
    (codes "a recorded run reached that state another way: are the netlist and the signature those of the chip?")

-- a stop behind a list that was cut: the search for a recorded moment was cut as well, or no such moment is there
abbrev pub cut_text : ℕ → Bool → List ℕ
cut_text steps cut =
    if cut then step_text (codes "the list was cut, and so was the search for a recorded moment that leads to the state in one cycle, in step") steps
    (codes "ask for more with --candidates K, up to 65536, or --conflicts B, up to 2^40, or choose a signature that tells more states apart")
    else step_text (codes "the list was cut, and no recorded moment with the stored signature leads to the state in one cycle, in step") steps
    (codes "record more or longer runs of what the chip did, or choose a signature that tells more states apart")

-- how many lists were cut, where some were, and what helps
abbrev pub lists_text : ℕ → List ℕ
lists_text lists =
    if lists == 0 then []
    else plain_text (codes "so many of the lists were cut: " ++ (decimal lists
    ++ codes "; ask for more with --candidates K, up to 65536, or --conflicts B, up to 2^40, or choose a signature of more parities"))

-- a stop at the budget of steps
abbrev pub length_text : ℕ → ℕ → List ℕ
length_text steps lists =
    step_text (codes "the budget of steps is spent: this many were made:") steps
    (codes "ask for more with --steps L, up to 65536; the trace so far is right")
    ++ lists_text lists

-- why a run stopped, after so many steps, the last one with a search that was cut or was not, and which budget to raise; none where it
-- came to reset. So many of the steps' lists were cut.
abbrev pub text_of : ℕ → Stop → Bool → (lists : ℕ) → Option (List ℕ)
text_of steps S.Reset cut lists = None
text_of steps S.Length cut lists = Some (length_text steps lists)
text_of steps S.Nohit cut lists =
    Some (step_text (codes "no recorded run comes to a state that is listed in step") steps
    (codes "record more or longer runs of what the chip did, or choose a signature that tells more states apart"))
text_of steps S.Empty cut lists = Some (empty_text steps)
text_of steps S.Candidates cut lists = Some (cut_text steps cut)
text_of steps S.Conflicts cut lists =
    Some (step_text (codes "the budget of conflicts is spent, and no run comes to a listed state, in step") steps
    (codes "ask for more with --conflicts B, up to 2^40, or choose a signature that tells more states apart"))
