-- A window of a trace: which of its states are told (docs/FORMATS.md, "Texts of `backspace_inspect`").
use Rattle.std.specs.Prelude.{ℕ, ◌-◌, nat_le, Bool, true, ◌&&◌, List, [], Option, Some, None, if◌then◌else◌}
use Rattle.bs_inspect_report.specs.declared.window.Window.{Window}

-- a state is not behind the last one that is told, where one is given
abbrev pub is_up_to : Option ℕ → ℕ → Bool
is_up_to None i = true
is_up_to (Some to) i = nat_le i to

-- of so many states there are, from this one on, no more than are told, where a number is given
abbrev pub is_late : Option ℕ → (count i : ℕ) → Bool
is_late None count i = true
is_late (Some last) count i = nat_le (count - i) last

-- whether a state, by its number from 0, is in the window of so many states
abbrev pub is_shown : Window → (count i : ℕ) → Bool
is_shown w count i = nat_le w.from i && (is_up_to w.to i && is_late w.last count i)

-- what is told of a state, where it is in the window
abbrev pub shown_piece : Window → (count : ℕ) → (ℕ → List ℕ) → ℕ → List ℕ
shown_piece w count piece i = if is_shown w count i then piece i else []
