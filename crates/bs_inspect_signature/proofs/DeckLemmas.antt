-- Decks, draw by draw.
use Rattle.std.proofs.Common.{◌≡◌, ℕ, zero, suc, ◌<◌, ◌≤◌, ◌+◌, Bool, true, false, cond, List, [], ◌∷◌, ◌++◌, length, get_or, refl, ap, sym, subst, ◌∙◌, arith, add-one}
use Rattle.std.specs.Prelude.{nat_lt, remove}
use Rattle.std.specs.List.{range_with_len}
use Rattle.std.proofs.lemmas.Bool.{ltb-false}
use Rattle.std.proofs.lemmas.List.{get_or_default}
use Rattle.std.proofs.lemmas.Nat.{mod_below}
use Rattle.std.proofs.lemmas.List.Edits.{length-remove}
use Rattle.std.proofs.lemmas.List.FromFn.{length-range_with_len}
use Rattle.rand_pcg.specs.Lcg.{Lcg}
use Rattle.bs_gen.specs.Draws.{after, draw, draws_of, pick}
use Rattle.bs_inspect_signature.specs.Deck.{Deck, behind, deck_before, filled, hand, place_of, rest_of, top_of, weight_of}
use Rattle.bs_inspect_signature.specs.declared.deck.TheConstants.{FEW_ITEMS, SEED, WEIGHT}
use Rattle.bs_inspect_signature.proofs.MixedLemmas.{mapped_place}

-- ---- a draw

pub top_drawn : (left : List ℕ) (draws : Lcg) (place item d : ℕ) → place ≡ pick draws (length left) → place < length left → item ≡ get_or left place d →
    item ≡ top_of (record { left = left; draws = draws })
top_drawn left draws place item d e lt is = is ∙ (get_or_default left place d 0 lt ∙ ap (λ (p : ℕ). get_or left p 0) e)

pub rest_left : (left rest : List ℕ) (draws later : Lcg) (place : ℕ) → place ≡ pick draws (length left) → later ≡ after 1 draws → rest ≡ remove left place →
    record { left = rest; draws = later } ≡ rest_of (record { left = left; draws = draws })
rest_left left rest draws later place e goes is = λ i. record { left = (is ∙ ap (remove left) e) i; draws = goes i }

pub place_there : (deck : Deck) → 0 < length deck.left → place_of deck < length deck.left
place_there deck some = mod_below (draw deck.draws) (length deck.left) some

-- ---- some draws

-- so many draws were made
pub record IsDrawn (first deck : Deck) (n : ℕ) (items : List ℕ) : Type 0 where
  pub items_are : items ≡ hand n first
  pub is : deck ≡ behind n first
  pub fewer : length deck.left + n ≡ length first.left

pub none_drawn : (first : Deck) (items : List ℕ) → items ≡ [] → IsDrawn first first 0 items
unfolding behind
none_drawn first items e = record { items_are = e; is = refl; fewer = omega arith }

behind_more : (n : ℕ) (deck : Deck) → rest_of (behind n deck) ≡ behind (n + 1) deck
unfolding behind
behind_more n deck = ap (λ (k : ℕ). behind k deck) (sym (add-one n))

pub one_drawn : (first deck rest : Deck) (n item : ℕ) (items more : List ℕ) → IsDrawn first deck n items → place_of deck < length deck.left →
    item ≡ top_of deck → rest ≡ rest_of deck → more ≡ items ++ item ∷ [] → IsDrawn first rest (n + 1) more
one_drawn first deck rest n item items more so lt is left e = record {
  items_are = mapped_place (λ (i : ℕ). top_of (behind i first)) n items more item so.items_are (is ∙ ap top_of so.is) e;
  is = left ∙ (ap rest_of so.is ∙ behind_more n first);
  fewer = omega (arith, ap (λ (d : Deck). length d.left) left, length-remove deck.left (place_of deck) lt, so.fewer);
}

-- ---- a flip-flop's draws

few_items : (count : ℕ) → 0 < count → weight_of count ≤ count
few_items count some = by (nat_lt count FEW_ITEMS) refl
  where
    by : (b : Bool) → nat_lt count FEW_ITEMS ≡ b → cond b 1 WEIGHT ≤ count
    by true e = omega (arith, some)
    by false e = omega (arith, ltb-false count FEW_ITEMS e)

pub record IsFilled (count : ℕ) (deck : Deck) : Type 0 where
  pub enough : weight_of count ≤ length deck.left
  pub few : length deck.left ≤ count

pub is_filled : (count : ℕ) (deck : Deck) → 0 < count → length deck.left ≤ count → IsFilled count (filled count deck)
is_filled count deck some few = by (nat_lt (length deck.left) (weight_of count)) refl
  where
    by : (b : Bool) → nat_lt (length deck.left) (weight_of count) ≡ b →
        IsFilled count (cond b (record { left = range_with_len 0 count; draws = deck.draws }) deck)
    by true e = record {
      enough = omega (arith, few_items count some, length-range_with_len 0 count);
      few = omega (arith, length-range_with_len 0 count);
    }
    by false e = record { enough = ltb-false (length deck.left) (weight_of count) e; few = few }

-- ---- decks in a row

behind_left : (n : ℕ) (deck : Deck) → n ≤ length deck.left → length (behind n deck).left + n ≡ length deck.left
unfolding behind
behind_left zero deck le = omega arith
behind_left (suc n) deck le =
    let rest : length (behind n deck).left + n ≡ length deck.left = behind_left n deck (omega (arith, le)) in
    let some : 0 < length (behind n deck).left = omega (arith, rest, le) in
    omega (arith, rest, length-remove (behind n deck).left (place_of (behind n deck)) (place_there (behind n deck) some))

pub behind_few : (count : ℕ) (deck rest : Deck) (weight : ℕ) → IsFilled count deck → weight ≡ weight_of count → rest ≡ behind weight deck →
    length rest.left ≤ count
behind_few count deck rest weight filled w e =
    omega (
      arith,
      ap (λ (d : Deck). length d.left) e,
      behind_left weight deck (omega (arith, w, filled.enough)),
      filled.few,
    )

pub filled_is : (count : ℕ) (deck full : Deck) → 0 < count → length deck.left ≤ count → full ≡ filled count deck → IsFilled count full
filled_is count deck full some few e = subst (IsFilled count) (sym e) (is_filled count deck some few)

pub filled_enough : (count : ℕ) (deck full : Deck) → 0 < count → length deck.left ≤ count → full ≡ filled count deck → weight_of count ≤ length full.left
filled_enough count deck full some few e = (filled_is count deck full some few e).enough

pub filled_few : (count : ℕ) (deck full : Deck) → 0 < count → length deck.left ≤ count → full ≡ filled count deck → length full.left ≤ count
filled_few count deck full some few e = (filled_is count deck full some few e).few

-- nothing is left in front of the first flip-flop
pub first_left : (count : ℕ) (deck : Deck) → deck ≡ deck_before count 0 → length deck.left ≤ count
unfolding deck_before
first_left count deck e = omega (arith, ap (λ (d : Deck). length d.left) e)

pub first_is : (count : ℕ) (left : List ℕ) (draws : Lcg) → left ≡ [] → draws ≡ draws_of SEED → record { left = left; draws = draws } ≡ deck_before count 0
unfolding deck_before
first_is count left draws e is = λ i. record { left = e i; draws = is i }

pub next_is : (count flop : ℕ) (deck rest : Deck) → deck ≡ deck_before count flop → rest ≡ behind (weight_of count) (filled count deck) →
    rest ≡ deck_before count (flop + 1)
unfolding deck_before
next_is count flop deck rest e is =
    is
    ∙ (ap (λ (d : Deck). behind (weight_of count) (filled count d)) e ∙ ap (deck_before count) (sym (add-one flop)))
