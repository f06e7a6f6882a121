-- The text of what is near to what is seen of a state (docs/FORMATS.md, "Texts of `backspace_inspect`").
use Rattle.std.specs.Prelude.{◌≡◌, ℕ, ◌<◌, ◌*◌, ◌-◌, ◌==◌, ◌&&◌, nat_lt, nat_le, Bool, List, [], ◌++◌, take, codes, decimal, slice_index_or, Option, Some, None, if◌then◌else◌}
use Rattle.std.specs.List.{flat_map}
use Rattle.bs_bits.specs.Lines.{line}
use Rattle.bs_net.specs.Circuit.{bit_at}
use Rattle.bs_net.specs.Netlist.{circuit_of}
use Rattle.bs_net.specs.Parts.{Parts}
use Rattle.bs_scan.specs.declared.seen.Seen.{Seen}
use Rattle.bs_scan.specs.Seen.{known_count}
use Rattle.bs_scan.specs.Moments.{Run, state_of}
use Rattle.bs_inspect_report.specs.Keys.{flop_keys}
use Rattle.bs_inspect_near.specs.Counters.{one_if}
use Rattle.bs_inspect_near.specs.Distance.{differing}
use Rattle.bs_inspect_near.specs.Hints.{AreHints}
use Rattle.bs_inspect_near.specs.Nearest.{IsNearest, moment_of}
use Rattle.bs_inspect_near.specs.declared.hints.Hints.{Hints}
use Rattle.bs_inspect_near.specs.declared.search.Near.{Near}
use Rattle.bs_inspect_near.specs.declared.text.TheConstants.{MAX_PLACES}

-- ---- the moment

abbrev pub place_words : Near → List ℕ
place_words near = codes "run " ++ (decimal near.run ++ (codes " cycle " ++ decimal near.cycle))

-- the moment, and how many of so many known bits differ
abbrev pub near_line : ℕ → Near → List ℕ
near_line known near = line (place_words near ++ (codes " differ " ++ (decimal near.count ++ (codes " of " ++ decimal known))))

-- ---- what differs

-- a flip-flop, with its bit at the moment and in the dump
abbrev pub flop_line : List ℕ → (recorded dumped : Bool) → List ℕ
flop_line key recorded dumped =
    line (key ++ (codes " run " ++ (decimal (one_if recorded) ++ (codes " dump " ++ decimal (one_if dumped)))))

abbrev pub differing_line : List (List ℕ) → List Bool → Seen → ℕ → List ℕ
differing_line keys recorded seen place = flop_line (slice_index_or keys place []) (bit_at recorded place) (bit_at seen.bits place)

-- how many have no line
abbrev pub more_text : ℕ → List ℕ
more_text count = if nat_lt MAX_PLACES count then line (codes "and " ++ (decimal (count - MAX_PLACES) ++ codes " more")) else []

-- the first flip-flops that differ
abbrev pub differing_text : List (List ℕ) → List Bool → Seen → ℕ → List ℕ
differing_text keys recorded seen count =
    flat_map (differing_line keys recorded seen) (take MAX_PLACES (differing recorded seen)) ++ more_text count

-- ---- what it hints at

-- one bit
abbrev pub cell_text : ℕ → List ℕ
cell_text count = if count == 1 then line (codes "hint cell") else []

-- several bits, and at least a quarter of the known ones
abbrev pub order_text : (known count : ℕ) → List ℕ
order_text known count = if nat_lt 1 count && nat_le known (4 * count) then line (codes "hint order") else []

abbrev pub held_text : Bool → List ℕ
held_text held = if held then line (codes "hint held") else []

abbrev pub found_text : List ℕ → Option Near → List ℕ
found_text word None = []
found_text word (Some near) = line (codes "hint " ++ (word ++ (codes " " ++ place_words near)))

abbrev pub hints_text : (known count : ℕ) → Hints → List ℕ
hints_text known count hints =
    cell_text count ++ (held_text hints.held ++ (found_text (codes "inverted") hints.inverted ++ (found_text (codes "shifted") hints.shifted ++
    order_text known count)))

-- ---- the whole text

-- no moment has all the known bits: which differ, and what that hints at
pub record TellsOther (raw : Parts) (runs : List Run) (seen : Seen) (near : Near) (text : List ℕ) : Type 0 where
  pub hints : Hints
  pub are : AreHints (circuit_of raw) runs seen hints
  pub says : text ≡ near_line (known_count seen) near ++ (differing_text (flop_keys raw) (state_of (circuit_of raw) runs (moment_of near)) seen near.count ++
      hints_text (known_count seen) near.count hints)

-- The text tells the recorded moment whose state differs in the fewest known bits from what is seen; and where some bit differs the first
-- flip-flops that do, and what that hints at.
pub record TellsNear (raw : Parts) (runs : List Run) (seen : Seen) (text : List ℕ) : Type 0 where
  pub near : Near
  pub nearest : IsNearest (circuit_of raw) runs seen near
  pub same : near.count ≡ 0 → text ≡ near_line (known_count seen) near
  pub other : 0 < near.count → TellsOther raw runs seen near text
