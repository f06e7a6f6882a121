-- A deck of items, from which each flip-flop draws its own (docs/FORMATS.md, "Texts of `backspace_inspect`").
use Rattle.std.specs.Prelude.{ℕ, zero, suc, List, [], length, map, nat_lt, remove, slice_index_or, if◌then◌else◌}
use Rattle.std.specs.List.{range_with_len}
use Rattle.rand_pcg.specs.Lcg.{Lcg}
use Rattle.bs_gen.specs.Draws.{after, draws_of, pick}
use Rattle.bs_inspect_signature.specs.declared.deck.Deck.{Deck as CodeDeck}
use Rattle.bs_inspect_signature.specs.declared.deck.TheConstants.{FEW_ITEMS, SEED, WEIGHT}

-- the items that are left, in ascending order, and the draws that are left
pub record Deck : Type 0 where
  pub left : List ℕ
  pub draws : Lcg

abbrev pub deck_in : CodeDeck → Deck
deck_in d = record { left = d.left.items; draws = d.draws }

-- how many items a flip-flop draws, of so many
abbrev pub weight_of : ℕ → ℕ
weight_of count = if nat_lt count FEW_ITEMS then 1 else WEIGHT

-- the place that the next draw names among the items that are left, and the item there
abbrev pub place_of : Deck → ℕ
place_of deck = pick deck.draws (length deck.left)

abbrev pub top_of : Deck → ℕ
top_of deck = slice_index_or deck.left (place_of deck) 0

-- the deck without it
abbrev pub rest_of : Deck → Deck
rest_of deck = record { left = remove deck.left (place_of deck); draws = after 1 deck.draws }

-- the deck behind so many draws
unfoldable pub behind : ℕ → Deck → Deck
behind zero deck = deck
behind (suc n) deck = rest_of (behind n deck)

-- the items of so many draws
abbrev pub hand : ℕ → Deck → List ℕ
hand weight deck = map (λ i. top_of (behind i deck)) (range_with_len 0 weight)

-- a new deck of so many items, where fewer are left than a flip-flop draws
abbrev pub filled : ℕ → Deck → Deck
filled count deck = if nat_lt (length deck.left) (weight_of count) then record { left = range_with_len 0 count; draws = deck.draws } else deck

-- the deck that a flip-flop finds: all those before it have drawn
unfoldable pub deck_before : (count flop : ℕ) → Deck
deck_before count zero = record { left = []; draws = draws_of SEED }
deck_before count (suc flop) = behind (weight_of count) (filled count (deck_before count flop))

-- the items of a flip-flop, of so many
abbrev pub hand_of : (count flop : ℕ) → List ℕ
hand_of count flop = hand (weight_of count) (filled count (deck_before count flop))
