-- The lists of a report with the names of a netlist: what all candidates of a list share, and where they differ (docs/FORMATS.md, "Texts
-- of `backspace_inspect`").
use Rattle.std.specs.Prelude.{◌≡◌, ℕ, ◌+◌, ◌==◌, Bool, List, [], ◌∷◌, ◌++◌, length, codes, decimal, slice_get, Option, Some, None, if◌then◌else◌}
use Rattle.std.specs.List.{flat_map, list_any, range_with_len}
use Rattle.bs_bits.specs.Lines.{line}
use Rattle.bs_inspect_view.specs.Signals.{AreSignals, Signal, name_text}
use Rattle.bs_inspect_view.specs.Values.{value_text}
use Rattle.bs_net.specs.Parts.{Parts}
use Rattle.bs_report.specs.declared.report.Cand.{Cand}
use Rattle.bs_report.specs.declared.report.Report.{Report}
use Rattle.bs_report.specs.declared.report.Step.{Step}
use Rattle.bs_inspect_report.specs.Keys.{flop_keys}
use Rattle.bs_inspect_report.specs.Lemmas.{lemmas_logged}
use Rattle.bs_inspect_report.specs.Signal.{bit_at, signal_bits, signal_line}
use Rattle.bs_inspect_report.specs.Steps.{differs_at, step_at}

-- a bit in which candidates differ, and one that all share
abbrev pub mark_of : (differs bit : Bool) → List ℕ
mark_of differs bit = if differs then codes "?" else (if bit then codes "1" else codes "0")

-- the same of the first candidate's state and the other candidates
abbrev pub mark_at : List Bool → List Cand → ℕ → List ℕ
mark_at first rest p = mark_of (differs_at first rest p) (bit_at first p)

abbrev pub marks_of : List Bool → List Cand → List ℕ → List ℕ
marks_of first rest places = flat_map (mark_at first rest) places

-- the bits of a signal, the greatest first
unfoldable pub pattern_text : List Bool → List Cand → List ℕ → List ℕ
pattern_text first rest places = if length places == 1 then marks_of first rest places else codes "0b" ++ marks_of first rest places

-- the value of a signal in a state, behind a space
abbrev pub value_in : List ℕ → List Bool → List ℕ
value_in places state = codes " " ++ value_text (signal_bits state places)

-- its value in each of these candidates
abbrev pub values_in : List ℕ → List Cand → List ℕ
values_in places cands = flat_map (λ c. value_in places c.state) cands

-- its value in each candidate of a list
unfoldable pub each_words : List Bool → List Cand → List ℕ → List ℕ
each_words first rest places = codes " in" ++ (value_in places first ++ values_in places rest)

-- what stands before a pattern: the number of the step, and the name of the signal
unfoldable pub differ_words : ℕ → Signal → List ℕ
differ_words number s = decimal number ++ (codes " differ " ++ (name_text s ++ codes " = "))

-- a signal in which candidates differ
abbrev pub differ_line : ℕ → List Bool → List Cand → Signal → List ℕ
differ_line number first rest s = line (differ_words number s ++ (pattern_text first rest s.places ++ each_words first rest s.places))

-- a signal of the list of the step with a number: all candidates share its value, or they differ in one of its bits
abbrev pub list_piece : ℕ → List Bool → List Cand → Signal → List ℕ
list_piece number first rest s =
    if list_any (differs_at first rest) s.places then differ_line number first rest s else signal_line (codes " same ") number None first s

-- all signals of a list, none where there is no candidate
abbrev pub list_lines : ℕ → List Cand → List Signal → List ℕ
list_lines number [] flops = []
list_lines number (c ∷ cs) flops = flat_map (list_piece number c.state cs) flops

abbrev pub list_of : ℕ → List Signal → Option Step → List ℕ
list_of i flops None = []
list_of i flops (Some step) = list_lines (i + 1) step.cands flops

-- the line of a step, and its list
abbrev pub list_at : Report → List ℕ → List Signal → ℕ → List ℕ
list_at r lemmas flops i = step_at r lemmas i ++ list_of i flops (slice_get r.steps i)

-- each step once, in order
abbrev pub lists_lines : Report → List ℕ → List Signal → List ℕ
lists_lines r lemmas flops = flat_map (list_at r lemmas flops) (range_with_len 0 (length r.steps))

abbrev pub lists_text : Report → List Signal → List ℕ
lists_text r flops = lists_lines r (lemmas_logged r.log) flops

-- the text tells the list of each step, with the names of the netlist's flip-flops; where names are given, these alone
pub record TellsLists (raw : Parts) (r : Report) (only : List (List ℕ)) (text : List ℕ) : Type 0 where
  pub flops : List Signal
  pub are : AreSignals only (flop_keys raw) flops
  pub says : text ≡ lists_text r flops
