-- The flip-flops that names stand for, through every net that shows their values (docs/FORMATS.md, "Texts of `backspace_inspect`").
use Rattle.std.specs.Prelude.{◌≡◌, ℕ, ◌==◌, Bool, true, false, List, [], ◌∷◌, ◌++◌, length, codes, slice_index_or, Option, if◌then◌else◌}
use Rattle.std.specs.List.{find, flat_map, list_any, range_with_len}
use Rattle.bs_bits.specs.Lines.{line}
use Rattle.bs_net.specs.declared.net.Flop.{Flop}
use Rattle.bs_net.specs.Parts.{Parts, key_at}
use Rattle.bs_net_names.specs.Keys.{key_parts}
use Rattle.bs_net_names.specs.Naming.{is_named}
use Rattle.bs_inspect_netlist.specs.declared.mark.Measure.TheVariants.{Source}
use Rattle.bs_inspect_names.specs.Cone.{IsCone, cone_line}
use Rattle.bs_inspect_netlist.specs.Marks.{AreMarks, mark_at}
use Rattle.bs_inspect_netlist.specs.Lines.{no_flop}

-- a net where a name is its own, or its vector's
abbrev pub net_named : Parts → List ℕ → ℕ → List ℕ
net_named r name m = if is_named (key_parts (key_at r m)) name then m ∷ [] else []

-- the nets with a name
abbrev pub nets_named : Parts → List ℕ → List ℕ
nets_named r name = flat_map (net_named r name) (range_with_len 0 (length r.names))

-- whether one of these nets shows the value of that one through `buf` and `assign` alone
abbrev pub is_shown : List ℕ → List ℕ → ℕ → Bool
is_shown sources nets n = list_any (λ m. mark_at sources m == n) nets

-- the key of a flip-flop behind a space, where one of these nets shows its value
abbrev pub called_key : Parts → List ℕ → List ℕ → Flop → List ℕ
called_key r sources nets f = if is_shown sources nets f.q.0 then codes " " ++ key_at r f.q.0 else []

abbrev pub called_at : Parts → List ℕ → List ℕ → ℕ → List ℕ
called_at r sources nets i = called_key r sources nets (slice_index_or r.flops i no_flop)

-- the keys of the flip-flops whose values these nets show, in the order of a state's bits, as an item of a signature
abbrev pub item_line : Parts → List ℕ → List ℕ → List ℕ
item_line r sources nets = line (codes "xor" ++ flat_map (called_at r sources nets) (range_with_len 0 (length r.flops)))

-- whether one of these nets shows a flip-flop's value
abbrev pub shows_some : Parts → List ℕ → List ℕ → Bool
shows_some r sources nets = list_any (λ f. is_shown sources nets f.q.0) r.flops

-- the text is the line of what the nets with a name are computed from
pub record TellsCone (r : Parts) (name text : List ℕ) : Type 0 where
  pub cone : List Bool
  pub is : IsCone r name cone
  pub says : text ≡ cone_line r cone

-- the text is the line of these nets, which have a name: an item, or where none shows a flip-flop what they are computed from
pub record TellsNets (r : Parts) (sources name nets text : List ℕ) : Type 0 where
  pub item : shows_some r sources nets ≡ true → text ≡ item_line r sources nets
  pub others : shows_some r sources nets ≡ false → TellsCone r name text

-- the text is the line of a name
abbrev pub TellsName : (r : Parts) → (sources name text : List ℕ) → Type 0
TellsName r sources name text = TellsNets r sources name (nets_named r name) text

-- the text is a line for each name
abbrev pub TellsNames : Parts → List ℕ → List (List ℕ) → List ℕ → Type 0
TellsNames r sources [] text = text ≡ []
TellsNames r sources (name ∷ names) text =
    (first : List ℕ) × (rest : List ℕ) × TellsName r sources name first × TellsNames r sources names rest × (text ≡ first ++ rest)

-- the first of these names that no net has
abbrev pub first_unnamed : Parts → List (List ℕ) → Option (List ℕ)
first_unnamed r names = find (λ name. length (nets_named r name) == 0) names

-- the text tells for each name the flip-flops whose values nets with it show, or those that these are computed from
pub record TellsKeys (r : Parts) (names : List (List ℕ)) (text : List ℕ) : Type 0 where
  pub sources : List ℕ
  pub are : AreMarks Source r sources
  pub says : TellsNames r sources names text

-- ---- what inner functions promise

-- the line of what the nets with a name are computed from was put behind a text
pub record AddsCone (r : Parts) (name old new : List ℕ) : Type 0 where
  pub more : List ℕ
  pub tells : TellsCone r name more
  pub put : new ≡ old ++ more

-- the line of these nets was
pub record AddsNets (r : Parts) (sources name nets old new : List ℕ) : Type 0 where
  pub more : List ℕ
  pub tells : TellsNets r sources name nets more
  pub put : new ≡ old ++ more

-- the line of a name was
abbrev pub AddsName : (r : Parts) → (sources name old new : List ℕ) → Type 0
AddsName r sources name old new = AddsNets r sources name (nets_named r name) old new

-- a line for each name was
pub record AddsNames (r : Parts) (sources : List ℕ) (names : List (List ℕ)) (old new : List ℕ) : Type 0 where
  pub more : List ℕ
  pub tells : TellsNames r sources names more
  pub put : new ≡ old ++ more
