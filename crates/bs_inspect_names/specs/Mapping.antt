-- The names that inputs or flip-flops have in a simulation (docs/FORMATS.md, "Names in a simulation").
use Rattle.std.specs.Prelude.{ℕ, ◌+◌, Bool, false, not, ◌&&◌, ◌||◌, List, [], ◌∷◌, ◌++◌, codes, decimal, length, map, Option, Some, None, Result, Ok, Err, if◌then◌else◌}
use Rattle.std.specs.List.{find, list_any}
use Rattle.std.specs.Option.{option_map, unwrap_or}
use Rattle.std.specs.Str.{bytes_eq}
use Rattle.bs_bits.specs.Lines.{is_name, lines_of, words_of}
use Rattle.bs_bits.specs.Reading.{◌>>=◌}
use Rattle.bs_net_names.specs.Keys.{key_parts}
use Rattle.bs_net_names.specs.Naming.{plain}
use Rattle.bs_net_names.specs.Rtl.{same_name}
use Rattle.bs_inspect_names.specs.declared.entry.MapEntry.{MapEntry as CodeEntry}
use Rattle.bs_inspect_names.specs.declared.fault.MapFault.{MapFault}
use Rattle.bs_inspect_names.specs.declared.fault.MapFault.TheVariants as M
use Rattle.bs_inspect_names.specs.Vectors.{Vector, covers, has_number, vector_of}

-- ---- a line

-- the two words of a line: the name of an input or of a vector of them, and its name in the simulation
pub record MapEntry : Type 0 where
  pub key : List ℕ
  pub name : List ℕ

abbrev pub entry_in : CodeEntry → MapEntry
entry_in e = record { key = e.key.now; name = e.name.now }

abbrev pub shown_entry : Option CodeEntry → Option MapEntry
shown_entry None = None
shown_entry (Some e) = Some (entry_in e)

-- each has one or more bytes 33 to 126
abbrev pub named : (key name : List ℕ) → Option MapEntry
named key name = if is_name key && is_name name then Some record { key = key; name = name } else None

abbrev pub entry_of : List (List ℕ) → Option MapEntry
entry_of (key ∷ name ∷ []) = named key name
entry_of _ = None

-- whether two keys are one name, as RTL writes it
abbrev pub same_key : List ℕ → List ℕ → Bool
same_key one other = same_name (key_parts one) (key_parts other)

-- whether a line's first word is the name of a key
abbrev pub has_key : List ℕ → MapEntry → Bool
has_key key e = same_key e.key key

-- whether it is the name of a vector, and the key that of one of its bits
abbrev pub has_bit : List ℕ → MapEntry → Bool
has_bit key e = covers (vector_of e.key) (key_parts key)

-- ---- the lines that are refused

-- whether a line is that of a key, by itself or as a bit
abbrev pub names_key : MapEntry → List ℕ → Bool
names_key e key = has_key key e || has_bit key e

-- whether one of these keys is that of a bit of both vectors
abbrev pub are_both : Vector → Vector → List ℕ → Bool
are_both one other key = covers one (key_parts key) && covers other (key_parts key)

abbrev pub share : List (List ℕ) → Vector → Vector → Bool
share keys one other = if bytes_eq (plain one.base) (plain other.base) then list_any (are_both one other) keys else false

-- whether an earlier line has the same first word, or names a vector with a bit of this line's
abbrev pub is_double : List (List ℕ) → MapEntry → MapEntry → Bool
is_double keys e earlier = same_key earlier.key e.key || share keys (vector_of earlier.key) (vector_of e.key)

-- whether a key is that of a bit whose number stands outside the range behind the name in the simulation
abbrev pub is_beyond : MapEntry → List ℕ → Bool
is_beyond e key = has_bit key e && not (has_number (vector_of e.name) (key_parts key).bit)

-- the entry of the line with this number, by the keys and the lines before it
abbrev pub judged : List (List ℕ) → List MapEntry → ℕ → MapEntry → Result MapEntry MapFault
judged keys earlier number e =
    if not (list_any (names_key e) keys) then Err (M.Unknown number)
    else (if list_any (is_double keys e) earlier then Err (M.Twice number)
    else (if list_any (is_beyond e) keys then Err (M.Range number) else Ok e))

-- the entry of a line behind these, one a line
abbrev pub entry_at : List (List ℕ) → List MapEntry → Option MapEntry → Result MapEntry MapFault
entry_at keys earlier None = Err (M.Line (length earlier + 1))
entry_at keys earlier (Some e) = judged keys earlier (length earlier + 1) e

-- an entry for each line, behind these; or the first fault
abbrev pub entries_from : List (List ℕ) → List MapEntry → List (List ℕ) → Result (List MapEntry) MapFault
entries_from keys earlier [] = Ok earlier
entries_from keys earlier (text ∷ texts) = entry_at keys earlier (entry_of (words_of text)) >>= λ e. entries_from keys (earlier ++ e ∷ []) texts

-- ---- the names

-- the bit with a number of a vector of the simulation
abbrev pub bit_name : List ℕ → ℕ → List ℕ
bit_name name n = (vector_of name).base ++ (codes "[" ++ (decimal n ++ codes "]"))

abbrev pub numbered_name : List ℕ → Option ℕ → List ℕ
numbered_name name None = name
numbered_name name (Some n) = bit_name name n

-- by the line of a vector with the key's bit: the bit with the same number; or else the key itself
abbrev pub name_by_vector : List MapEntry → List ℕ → List ℕ
name_by_vector entries key =
    unwrap_or (option_map (λ e. numbered_name e.name (key_parts key).bit) (find (has_bit key) entries)) key

-- the name of a key: by its own line, or else by that of its vector
abbrev pub name_of : List MapEntry → List ℕ → List ℕ
name_of entries key = unwrap_or (option_map (λ e. e.name) (find (has_key key) entries)) (name_by_vector entries key)

abbrev pub names_of : List MapEntry → List (List ℕ) → List (List ℕ)
names_of entries keys = map (name_of entries) keys

-- the names of inputs with these keys, in their order, or the first fault of the text
abbrev pub map_in : List (List ℕ) → List ℕ → Result (List (List ℕ)) MapFault
map_in keys text = entries_from keys [] (lines_of text) >>= λ entries. Ok (names_of entries keys)
