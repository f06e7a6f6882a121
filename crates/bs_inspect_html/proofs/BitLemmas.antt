-- The bits of a signal, one after another, and the pieces of its name.
use Rattle.std.proofs.Common.{◌≡◌, ℕ, zero, suc, arith, refl, Bool, false, ◌<◌, ◌≤◌, ◌+◌, slice_get, Some, List, [], ◌∷◌, ◌++◌, length, map, take, get_or, ap, sym, ◌∙◌}
use Rattle.std.proofs.lemmas.Option.{get_or_from_slice_get}
use Rattle.std.proofs.lemmas.List.{take_more, map-append}
use Rattle.bs_inspect_view.specs.Signals.{Signal}
use Rattle.bs_inspect_html.specs.Cells.{bit_of, is_signed}
use Rattle.bs_inspect_html.specs.Names.{name_cell, name_end, name_front, shown_name}
use Rattle.bs_inspect_html.proofs.PutLemmas.{three_put}

-- a bit of a signal more
pub bits_more : (moments : List (List Bool)) (places : List ℕ) (at i d : ℕ) (own : List Bool) → i < length places →
    own ≡ map (bit_of moments at) (take i places) → own ++ bit_of moments at (get_or places i d) ∷ [] ≡ map (bit_of moments at) (take (i + 1) places)
bits_more moments places at i d own lt e =
    ap (λ (bs : List Bool). bs ++ bit_of moments at (get_or places i d) ∷ []) e
    ∙ (sym (map-append (bit_of moments at) (take i places) (get_or places i d ∷ []))
    ∙ ap (λ (ps : List ℕ). map (bit_of moments at) ps) (sym (take_more places i d lt)))

-- a bit of a moment that is there
pub bit_there : (moments : List (List Bool)) (i place : ℕ) (bits : List Bool) → slice_get moments i ≡ Some bits →
    get_or bits place false ≡ bit_of moments i place
bit_there moments i place bits e = ap (λ (bs : List Bool). get_or bs place false) (sym (get_or_from_slice_get moments i bits [] e))

past : (moments : List (List Bool)) (i : ℕ) → length moments ≤ i → get_or moments i [] ≡ []
past [] i le = refl
past (m ∷ ms) zero le = absurd (omega (arith, le))
past (m ∷ ms) (suc i) le = past ms i (omega (arith, le))

-- behind the last moment there is none
pub bit_past : (moments : List (List Bool)) (i place : ℕ) → length moments ≤ i → false ≡ bit_of moments i place
bit_past moments i place le = sym (ap (λ (bs : List Bool). get_or bs place false) (past moments i le))

-- ---- the pieces of a name

pub name_put : (signed : List Bool) (s : Signal) (places : List ℕ) (marked : Bool) (old a b c : List ℕ) → places ≡ s.places →
    marked ≡ is_signed signed places → a ≡ old ++ name_front marked → b ≡ a ++ shown_name s → c ≡ b ++ name_end marked → c ≡ old ++ name_cell signed s
unfolding name_cell
name_put signed s places marked old a b c same is e f g =
    let own : marked ≡ is_signed signed s.places = is ∙ ap (λ (ps : List ℕ). is_signed signed ps) same in
    three_put old (name_front (is_signed signed s.places)) (shown_name s) (name_end (is_signed signed s.places)) a b c
    (e ∙ ap (λ (m : Bool). old ++ name_front m) own) f (g ∙ ap (λ (m : Bool). b ++ name_end m) own)
