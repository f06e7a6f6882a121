-- What stands before a place of a netlist's text: the word in front of it, and the module that it lies in.
use Rattle.std.specs.Prelude.{ℕ, ◌+◌, ◌-◌, ◌==◌, nat_le, nat_lt, Bool, false, true, ◌&&◌, ◌||◌, List, codes, find, length, reverse, take, drop, slice_index, Option, Some, None, if◌then◌else◌}
use Rattle.std.specs.List.{prefix_len, range_with_len}
use Rattle.std.specs.Str.{bytes_eq}
use Rattle.bs_lex.specs.Bytes.{is_of_name}
use Rattle.bs_verilog_scope.specs.Standing.{stands_at}

-- ---- words

-- the word stands at a place of a text
abbrev pub is_word : List ℕ → ℕ → List ℕ → Bool
is_word text at word = nat_lt at (length text) && stands_at text word at

-- white space: a space, a tab, or the end of a line or a page
abbrev pub is_white : ℕ → Bool
is_white b = b == 32 || (nat_lt 8 b && nat_lt b 14)

-- a blank: a space or a tab
abbrev pub is_blank : ℕ → Bool
is_blank b = b == 32 || b == 9

-- where the text before a place ends, without the blanks behind it: a comment on the line before is no word in front
abbrev pub ink_end : List ℕ → ℕ → ℕ
ink_end text at = at - prefix_len is_blank (reverse (take at text))

-- the word ends there
abbrev pub ends_at : List ℕ → List ℕ → ℕ → Bool
ends_at text word end = nat_le (length word) end && is_word text (end - length word) word

-- a word with which RTL declares, and which a netlist takes for a name, ends there
abbrev pub declares_to : List ℕ → ℕ → Bool
declares_to text end =
    (ends_at text (codes "logic") end || (ends_at text (codes "bit") end || ends_at text (codes "var") end))
    || (ends_at text (codes "signed") end || ends_at text (codes "int") end)

-- one that no netlist takes for a name stands there
abbrev pub declares_from : List ℕ → ℕ → Bool
declares_from text at = is_word text at (codes "reg") || is_word text at (codes "integer")

-- a word of RTL stands at a place, or in front of it
abbrev pub declares_near : List ℕ → ℕ → Bool
declares_near text at = nat_le at (length text) && (declares_from text at || declares_to text (ink_end text at))

-- ---- the module that a place lies in

-- a line, or the text, begins at a place
abbrev pub begins_line : List ℕ → ℕ → Bool
begins_line text at = if nat_lt 0 at then slice_index text (at - 1) == 10 else true

-- a module begins at a place: the word is the first of its line, so it is in no comment behind `//`
abbrev pub is_module : List ℕ → ℕ → Bool
is_module text at = stands_at text (codes "module") at && begins_line text (ink_end text at)

-- the greatest place below another that passes
abbrev pub greatest_below : (ℕ → Bool) → ℕ → Option ℕ
greatest_below passes below = find passes (reverse (range_with_len 0 below))

-- the last place before another at which a module begins
abbrev pub last_module : List ℕ → ℕ → Option ℕ
last_module text below = greatest_below (is_module text) below

-- the name at the front of a text
abbrev pub front_name : List ℕ → List ℕ
front_name text = take (prefix_len is_of_name text) text

-- a text without the white space at its front
abbrev pub inked : List ℕ → List ℕ
inked text = drop (prefix_len is_white text) text

-- the name behind `module` at a place
abbrev pub module_name : List ℕ → ℕ → List ℕ
module_name text at = front_name (inked (drop (at + 6) text))

abbrev pub is_named_at : List ℕ → ℕ → Option ℕ → Bool
is_named_at text at None = false
is_named_at text at (Some place) = bytes_eq (module_name text place) (front_name (drop at text))

-- the name at a place is that of the module in which it stands
abbrev pub is_own : List ℕ → ℕ → Bool
is_own text at = nat_lt at (length text) && is_named_at text at (last_module text at)
