-- Notes on searches for a state.
use Rattle.std.specs.Prelude.{ℕ, List, ◌++◌, length, codes, decimal}
use Rattle.bs_net_names.specs.Quotes.{shown_line}
use Rattle.bs_note_files.specs.Notes.{pair_text}
use Rattle.bs_note_files.specs.Sayings.{width_text}
use Rattle.bs_note_calls.specs.declared.miss.Miss.{Miss}
use Rattle.bs_note_calls.specs.declared.miss.Miss.TheVariants as M

-- a search that has no execution
abbrev pub miss_text : Miss → List ℕ
miss_text M.Unreached =
    pair_text
    (codes "no execution of so many cycles from reset, or of fewer, ends in a state with these bits, whatever the inputs")
    (codes "ask for more cycles, up to 1024; the state's bits are in the order of the netlist's flip-flops, the first on the left")
miss_text M.Unknown =
    pair_text (codes "the budget of conflicts is spent on this number of cycles, and each smaller one is refuted")
    (codes "ask for more with --conflicts B, up to 2^40")

-- a word of characters 0, 1 and - that is no state of a netlist with so many flip-flops
abbrev pub state_sentence : List ℕ → ℕ → List ℕ
state_sentence word flops =
    codes "the state `" ++ (shown_line word ++ (codes "`: " ++ width_text (length word) flops (codes "flip-flop of the netlist")))

abbrev pub state_text : List ℕ → ℕ → List ℕ
state_text word flops =
    pair_text (state_sentence word flops) (codes "the bits stand in the order of the netlist's flip-flops, the first on the left")

-- a netlist that takes so many variables for each cycle of a search
abbrev pub room_sentence : ℕ → List ℕ
room_sentence variables = codes "the search is too large: this netlist takes so many variables for each cycle: " ++ decimal variables

abbrev pub room_text : ℕ → List ℕ
room_text variables = pair_text (room_sentence variables) (codes "ask for fewer cycles: there may be 4194304 variables in all")
