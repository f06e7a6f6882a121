-- The text of what a signature is taken of (docs/FORMATS.md, "Signature"): each line is `bit NAME`, or `xor NAME ..` with one name or more,
-- but that the first one may be `cycles 2`.
use Rattle.std.specs.Prelude.{ℕ, ◌+◌, ◌==◌, nat_le, nat_lt, Bool, ◌&&◌, ◌||◌, List, [], ◌∷◌, length, codes, Option, Some, None, Result, Ok, Err}
use Rattle.std.specs.Prelude.{false, drop, map, count_by, if◌then◌else◌}
use Rattle.std.specs.List.{list_all, position}
use Rattle.std.specs.Str.{bytes_eq}
use Rattle.bs_bits.specs.Reading.{◌>>=◌}
use Rattle.bs_bits.specs.Lines.{words_of, is_name}
use Rattle.bs_net.specs.declared.net.Flop.{Flop}
use Rattle.bs_net.specs.Names.{number_of}
use Rattle.bs_net.specs.Parts.{Parts, key_at}
use Rattle.bs_net_names.specs.Keys.{KeyParts, key_parts}
use Rattle.bs_net_names.specs.Rtl.{same_name}
use Rattle.bs_scan.specs.declared.fault.ChoiceFault.{ChoiceFault}
use Rattle.bs_scan.specs.declared.fault.ChoiceFault.TheVariants.{Line, TooMany, UnknownFlop}
use Rattle.bs_scan.specs.declared.choice.TheConstants.{MAX_ITEMS}
use Rattle.bs_scan.specs.Choice.{Chosen}

-- the flip-flop whose output is a net
abbrev pub flop_of_net : List Flop → ℕ → Option ℕ
flop_of_net flops n = position (λ flop. flop.q.0 == n) flops

-- what the key of each flip-flop says
abbrev pub flop_parts : Parts → List KeyParts
flop_parts net = map (λ f. key_parts (key_at net f.q.0)) net.flops

-- the place of what alone has a property
abbrev pub only_place : {A : Type 0} → (A → Bool) → List A → Option ℕ
only_place has xs = if count_by has xs == 1 then position has xs else None

-- the flip-flop whose key alone is a name as RTL writes it: of `[3]\u1.q` and `\u1.q[3]` each is found by the other
abbrev pub flop_called : List KeyParts → List ℕ → Option ℕ
flop_called keys name = only_place (λ key. same_name key (key_parts name)) keys

-- the flip-flop of a net, or of a name that is no net's key
abbrev pub flop_at : Parts → List ℕ → Option ℕ → Option ℕ
flop_at net name None = flop_called (flop_parts net) name
flop_at net name (Some n) = flop_of_net net.flops n

-- the flip-flop with a name: the key of its output net, or where no net has that key, the flip-flop that alone is called so
abbrev pub flop_named : Parts → List ℕ → Option ℕ
flop_named net name = flop_at net name (number_of net.names name)

-- whether a line's first word and its other words are an item
abbrev pub is_item : List ℕ → List (List ℕ) → Bool
is_item word names =
    list_all is_name names
    && ((bytes_eq word (codes "xor") && nat_le 1 (length names)) || (bytes_eq word (codes "bit") && (length names == 1)))

-- the names that a line's words list, where they are an item
abbrev pub names_of : List (List ℕ) → Option (List (List ℕ))
names_of [] = None
names_of (word ∷ names) = if is_item word names then Some names else None

-- the flip-flop of a name in the line with this number
abbrev pub known : ℕ → Option ℕ → Result ℕ ChoiceFault
known number None = Err (UnknownFlop number)
known number (Some flop) = Ok flop

-- the flip-flops of the names, in order
unfoldable pub flops_of : Parts → ℕ → List (List ℕ) → Result (List ℕ) ChoiceFault
flops_of net number [] = Ok []
flops_of net number (name ∷ names) = do
  flop ← known number (flop_named net name)
  flops ← flops_of net number names
  Ok (flop ∷ flops)

-- the item with this number, in the line with that one, or the line's fault
abbrev pub item_of : Parts → ℕ → ℕ → Option (List (List ℕ)) → Result (List ℕ) ChoiceFault
item_of net at number None = Err (Line at)
item_of net at number (Some names) = if nat_lt MAX_ITEMS number then Err (TooMany at) else flops_of net at names

-- the items of the lines from this number on, the first of which has that number, or the first fault
unfoldable pub items_of : Parts → ℕ → ℕ → List (List ℕ) → Result (List (List ℕ)) ChoiceFault
items_of net at number [] = Ok []
items_of net at number (text ∷ texts) = do
  item ← item_of net at number (names_of (words_of text))
  items ← items_of net (at + 1) (number + 1) texts
  Ok (item ∷ items)

abbrev pub chosen : ℕ → ℕ → List (List ℕ) → Chosen
chosen width depth items = record { width = width; depth = depth; items = items }

-- whether the first line says that two signatures are kept
abbrev pub keeps_two : List (List ℕ) → Bool
keeps_two [] = false
keeps_two (first ∷ texts) = bytes_eq first (codes "cycles 2")

-- what the lines say where they are those of items, from the line with this number on, in a file of this depth
abbrev pub choice_from : Parts → ℕ → ℕ → List (List ℕ) → Result Chosen ChoiceFault
choice_from net first depth texts = items_of net first 1 texts >>= λ items. Ok (chosen (length net.flops) depth items)

-- what the lines of a signature file say
abbrev pub choice_of : Parts → List (List ℕ) → Result Chosen ChoiceFault
choice_of net texts = if keeps_two texts then choice_from net 2 2 (drop 1 texts) else choice_from net 1 1 texts
