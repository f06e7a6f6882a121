-- Names as a note lists them.
use Rattle.std.specs.Prelude.{ℕ, ◌==◌, nat_lt, List, [], ◌++◌, codes, decimal, length, take, if◌then◌else◌}
use Rattle.std.specs.List.{flat_map}
use Rattle.bs_net_names.specs.Quotes.{shown_line}
use Rattle.bs_net_names.specs.declared.nearest.TheConstants.{NAMED}
use Rattle.bs_note_files.specs.Notes.{plain_text}
use Rattle.bs_inspect_notes.specs.Nearest.{nearest, offered}
use Rattle.bs_inspect_notes.specs.declared.listing.TheConstants.{LISTED}

-- a name in quotes, as it is shown
unfoldable pub quoted : List ℕ → List ℕ
quoted name = codes "`" ++ (shown_line name ++ codes "`")

-- a word of a command line, behind its number from 1
unfoldable pub word_piece : ℕ → List ℕ → List ℕ
word_piece number word = codes "word " ++ (decimal number ++ (codes ", " ++ quoted word))

abbrev pub name_piece : List ℕ → List ℕ
name_piece name = codes " " ++ quoted name

-- the nearest of these names, a few of them
abbrev pub near_text : List ℕ → List (List ℕ) → List ℕ
near_text name names = codes "; the nearest:" ++ flat_map name_piece (take NAMED (nearest name names))

-- the same, where there are names
abbrev pub near_or : List ℕ → List (List ℕ) → List ℕ
near_or name names = if length names == 0 then [] else near_text name names

-- the same of those names that are offered for this one
abbrev pub some_near : List ℕ → List (List ℕ) → List ℕ
some_near name names = near_or name (offered name names)

abbrev pub more_piece : (most count : ℕ) → List ℕ
more_piece most count = if nat_lt most count then codes " .." else []

-- the first of these names, so many at most, and that there are more
abbrev pub listed : (most : ℕ) → List (List ℕ) → List ℕ
listed most names = flat_map name_piece (take most names) ++ more_piece most (length names)

-- a line of such names behind a title
abbrev pub listing : (most : ℕ) → List ℕ → List (List ℕ) → List ℕ
listing most title names = plain_text (title ++ listed most names)

-- the same, where there are names
abbrev pub some_listing : List ℕ → List (List ℕ) → List ℕ
some_listing title names = if length names == 0 then [] else listing LISTED title names
