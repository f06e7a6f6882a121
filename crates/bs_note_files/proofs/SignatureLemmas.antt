-- The words of a line, one after another, and the first that is a name and no flip-flop's.
use Rattle.std.proofs.Common.{◌≡◌, ◌⊎◌, inl, inr, ℕ, ◌+◌, ◌-◌, ◌<◌, ◌≤◌, Bool, true, false, List, length, take, drop, get_or, max, Result, Ok, Err, Vec, refl, arith}
use Rattle.std.proofs.Common.{sym, subst, ◌∙◌, codes}
use Rattle.std.specs.Prelude.{◌==◌, nat_lt, Option, Some, None, IfNone, IfOk}
use Rattle.std.specs.declared.alloc.Global.{Global}
use Rattle.std.proofs.lemmas.Bool.{ltb-true, ltb-false, true≢false}
use Rattle.bs_bits.specs.declared.memory.NoMemory.{NoMemory}
use Rattle.bs_net.specs.Parts.{Parts}
use Rattle.bs_note_files.specs.Notes.{file_text}
use Rattle.bs_note_files.specs.Parts.{IsNumbered}
use Rattle.bs_note_files.specs.Signatures.{word_in, is_unknown, IsWord, IsUnknownWord, AreKnown, IsUnknownNote}

-- no space stands from one place up to another
abbrev pub NoSpace : List ℕ → ℕ → ℕ → Type 0
NoSpace line from to = (k : ℕ) → from ≤ k → k < to → (get_or line k 0 == 32) ≡ false

-- a space, or the end of the line
abbrev pub IsEnd : List ℕ → ℕ → Type 0
IsEnd line at = (at ≡ length line) ⊎ ((get_or line at 0 == 32) ≡ true)

-- no word that begins at a place or before it is a name and no flip-flop's
abbrev pub AreKnownTo : Parts → List ℕ → ℕ → Type 0
AreKnownTo r line at = (word : ℕ × ℕ) → IsWord line word → word.0 ≤ at → is_unknown r (word_in line word) ≡ false

-- no word begins behind the first byte of a piece without a space
none_inside : (line : List ℕ) (from to : ℕ) → NoSpace line from to → (word : ℕ × ℕ) → IsWord line word → from < word.0 → word.0 ≤ to → ⊥
none_inside line from to clear word w after before =
    true≢false (sym w.space ∙ clear (word.0 - 1) (omega (arith, after)) (omega (arith, w.behind, before)))

pub known_start : (r : Parts) (line : List ℕ) (end : ℕ) → NoSpace line 0 end → AreKnownTo r line end
known_start r line end clear word w before = absurd (none_inside line 0 end clear word w w.behind before)

pub is_word : (line : List ℕ) (end to : ℕ) → end < length line → IsEnd line end → end + 1 ≤ to → to ≤ length line → IsEnd line to →
    NoSpace line (end + 1) to → IsWord line (end + 1, to)
is_word line end to inside space from within ends clear = record {
  behind = omega arith;
  space =
      let here : end ≡ end + 1 - 1 = omega arith in
      subst (λ (k : ℕ). (get_or line k 0 == 32) ≡ true) here (spaced space);
  from = from;
  to = within;
  inside = clear;
  ends = ends;
}
  where
    spaced : IsEnd line end → (get_or line end 0 == 32) ≡ true
    spaced (inl same) = absurd (omega (arith, inside, same))
    spaced (inr is) = is

-- a word ends where another does that begins at the same place
ends_there : (line : List ℕ) (from to : ℕ) → to ≤ length line → IsEnd line to → NoSpace line from to → from ≤ to → (word : ℕ × ℕ) → IsWord line word →
    word.0 ≡ from → word.1 ≡ to
ends_there line from to within ends clear after word w same = by (nat_lt word.1 to) refl (nat_lt to word.1) refl
  where
    shorter : word.1 < to → IsEnd line word.1 → ⊥
    shorter lt (inl whole) = omega (arith, lt, whole, within)
    shorter lt (inr space) = true≢false (sym space ∙ clear word.1 (omega (arith, w.from, same)) lt)

    longer : to < word.1 → IsEnd line to → ⊥
    longer lt (inl whole) = omega (arith, lt, whole, w.to)
    longer lt (inr space) = true≢false (sym space ∙ w.inside to (omega (arith, same, after)) lt)

    by : (b : Bool) → nat_lt word.1 to ≡ b → (c : Bool) → nat_lt to word.1 ≡ c → word.1 ≡ to
    by true less c d = absurd (shorter (ltb-true word.1 to less) w.ends)
    by false less true more = absurd (longer (ltb-true to word.1 more) ends)
    by false less false more = omega (arith, ltb-false word.1 to less, ltb-false to word.1 more)

pub known_more : (r : Parts) (line : List ℕ) (end to : ℕ) → AreKnownTo r line end → end + 1 ≤ to → to ≤ length line → IsEnd line to →
    NoSpace line (end + 1) to → is_unknown r (take (to - (end + 1)) (drop (end + 1) line)) ≡ false → AreKnownTo r line to
known_more r line end to keys from within ends clear key word w before = by (nat_lt end word.0) refl (nat_lt (end + 1) word.0) refl
  where
    here : word.0 ≡ end + 1 → is_unknown r (word_in line word) ≡ false
    here same =
        let to_same : word.1 ≡ to = ends_there line (end + 1) to within ends clear from word w same in
        subst (λ (p : ℕ). is_unknown r (take (word.1 - p) (drop p line)) ≡ false) (sym same)
        (subst (λ (q : ℕ). is_unknown r (take (q - (end + 1)) (drop (end + 1) line)) ≡ false) (sym to_same) key)

    by : (b : Bool) → nat_lt end word.0 ≡ b → (c : Bool) → nat_lt (end + 1) word.0 ≡ c → is_unknown r (word_in line word) ≡ false
    by false early c d = keys word w (ltb-false end word.0 early)
    by true behind true later = absurd (none_inside line (end + 1) to clear word w (ltb-true (end + 1) word.0 later) before)
    by true behind false at = here (omega (arith, ltb-true end word.0 behind, ltb-false (end + 1) word.0 at))

pub unknown_is : (r : Parts) (line : List ℕ) (end to : ℕ) → IsWord line (end + 1, to) → AreKnownTo r line end →
    is_unknown r (take (to - (end + 1)) (drop (end + 1) line)) ≡ true → IsUnknownWord r line (end + 1, to)
unknown_is r line end to word keys unknown =
    record { is = word; unknown = unknown; first = λ other w lt. keys other w (omega (arith, lt)) }

pub all_known : (r : Parts) (line : List ℕ) (end : ℕ) → AreKnownTo r line end → length line ≤ end → AreKnown r line
all_known r line end keys over = record { each = λ word w. keys word w (omega (arith, w.from, w.to, over)) }

-- a note on the file, where there is no such word
pub known_note : (r : Parts) (path text : List ℕ) (number start : ℕ) (line : List ℕ) (word : Option (ℕ × ℕ)) (note : Result (Vec ℕ Global) NoMemory) →
    IsNumbered text (max number 1) start line → word ≡ None → IfNone word (AreKnown r line) →
    IfOk note (λ n. n.items ≡ file_text path (codes "a name is no flip-flop's key")) → IfOk note (λ n. IsUnknownNote r path text number n.items)
known_note r path text number start line None (Ok n) numbered none known is =
    inr (record { start = start; line = line; numbered = numbered; known = known; written = is })
known_note r path text number start line None (Err want) numbered none known is = tt
known_note r path text number start line (Some word) (Ok n) numbered none known is = absurd cc
known_note r path text number start line (Some word) (Err want) numbered none known is = tt
