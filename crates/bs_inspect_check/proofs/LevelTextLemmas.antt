-- What a VCD has of a signal, bit by bit.
use Rattle.std.proofs.Common.{◌≡◌, ℕ, ◌<◌, ◌≤◌, ◌+◌, ◌^◌, Bool, List, [], ◌∷◌, ◌++◌, length, map, take, get_or, ap, sym, ◌∙◌, arith, append_assoc}
use Rattle.std.proofs.lemmas.List.{get_or_default, get_or_past, length-map, map_more}
use Rattle.bs_inspect_check.specs.declared.level.FlopLevel.{FlopLevel}
use Rattle.bs_inspect_check.specs.declared.level.FlopLevel.TheVariants.{Missing}
use Rattle.bs_inspect_check.specs.Text.{known_bit, known_bits, level_at, level_char, level_chars}

pub level_there : (levels : List FlopLevel) (place : ℕ) (l : FlopLevel) → place < length levels → l ≡ get_or levels place l → l ≡ level_at levels place
level_there levels place l lt at = at ∙ get_or_default levels place l Missing lt

pub level_past : (levels : List FlopLevel) (place n : ℕ) → n ≡ length levels → n ≤ place → Missing ≡ level_at levels place
level_past levels place n e le = sym (get_or_past levels place Missing (omega (arith, e, le)))

pub bits_more : (levels : List FlopLevel) (places : List ℕ) (i d : ℕ) (bits after : List Bool) (l : FlopLevel) (b : Bool) → i < length places →
    bits ≡ known_bits levels (take i places) → l ≡ level_at levels (get_or places i d) → b ≡ known_bit l → after ≡ bits ++ b ∷ [] →
    after ≡ known_bits levels (take (i + 1) places)
bits_more levels places i d bits after l b lt e at is goes =
    goes
    ∙ ((λ j. e j ++ (is ∙ ap known_bit at) j ∷ []) ∙ sym (map_more (λ (p : ℕ). known_bit (level_at levels p)) places i d lt))

pub bits_narrow : (levels : List FlopLevel) (places : List ℕ) (bits : List Bool) → bits ≡ known_bits levels places → length places < 2 ^ 32 →
    length bits < 2 ^ 32
bits_narrow levels places bits e few =
    let same : length bits ≡ length (known_bits levels places) = ap length e in
    omega (arith, same, few, length-map places (λ (p : ℕ). known_bit (level_at levels p)))

pub chars_more : (levels : List FlopLevel) (places : List ℕ) (i d : ℕ) (old text after : List ℕ) (l : FlopLevel) (b : ℕ) → i < length places →
    text ≡ old ++ level_chars levels (take i places) → l ≡ level_at levels (get_or places i d) → b ≡ level_char l → after ≡ text ++ b ∷ [] →
    after ≡ old ++ level_chars levels (take (i + 1) places)
chars_more levels places i d old text after l b lt e at is goes =
    let char : ℕ → ℕ = λ (p : ℕ). level_char (level_at levels p) in
    goes
    ∙ ((λ j. e j ++ (is ∙ ap level_char at) j ∷ [])
    ∙ (append_assoc old (level_chars levels (take i places)) (char (get_or places i d) ∷ [])
    ∙ ap (λ (t : List ℕ). old ++ t) (sym (map_more char places i d lt))))
