-- The first word that says what an option before it says, and what is said by it.
use Rattle.std.proofs.Common.{◌≡◌, ◌≤◌, ◌<◌, ◌+◌, ◌-◌, ◌++◌, ℕ, Bool, true, false, List, [], ◌∷◌, length, map, take, drop, Option, Some, None, Result, Vec, ap, sym, ◌∙◌, subst, codes}
use Rattle.std.specs.Prelude.{IfOk, slice_index_or, if◌then◌else◌, String, string_bytes}
use Rattle.std.specs.Str.{bytes_eq}
use Rattle.std.specs.declared.alloc.Global.{Global}
use Rattle.std.proofs.lemmas.List.{drop_more, drop_all, take-map}
use Rattle.bs_bits.specs.declared.memory.NoMemory.{NoMemory}
use Rattle.bs_inspect_notes.specs.Listings.{word_piece}
use Rattle.bs_inspect_usages.specs.Usages.{again_text, again_words, first_again, is_again, once_text, option_name, stand_of}
use Rattle.bs_inspect_usages.proofs.ReasonLemmas.{Said, index_is}

-- ---- the word at a place

pub again_at : (words front : List (String Global)) (at : ℕ) (w : List ℕ) (b : Bool) → front ≡ take at words → w ≡ slice_index_or (map string_bytes words) at [] →
    b ≡ is_again (map string_bytes front) w → b ≡ is_again (take at (map string_bytes words)) (slice_index_or (map string_bytes words) at [])
again_at words front at w b cut is e =
    e ∙ (λ i. is_again ((ap (map string_bytes) cut ∙ sym (take-map string_bytes at words)) i) (is i))

-- ---- the first one

-- what is found from a word on
abbrev from_word : List (List ℕ) → ℕ → List ℕ → Option ℕ
from_word ws at w =
    if bytes_eq w (codes "--") then None else (if is_again (take at ws) w then Some (at + 1) else first_again ws (at + 1) (drop (at + 1) ws))

word_step : (ws : List (List ℕ)) (at : ℕ) (w : List ℕ) (goal : Option ℕ) → at < length ws → w ≡ slice_index_or ws at [] →
    first_again ws at (drop at ws) ≡ goal → from_word ws at w ≡ goal
word_step ws at w goal lt is e =
    (λ i. from_word ws at ((is ∙ index_is ws at) i)) ∙ (sym (ap (first_again ws at) (drop_more ws at [] lt)) ∙ e)

pub again_stop : (ws : List (List ℕ)) (at : ℕ) (w : List ℕ) (goal : Option ℕ) → at < length ws → w ≡ slice_index_or ws at [] →
    first_again ws at (drop at ws) ≡ goal → bytes_eq w (codes "--") ≡ true → None ≡ goal
again_stop ws at w goal lt is e stops =
    subst (λ (b : Bool). (if b then None else (if is_again (take at ws) w then Some (at + 1) else first_again ws (at + 1) (drop (at + 1) ws))) ≡ goal) stops
    (word_step ws at w goal lt is e)

goes_on : (ws : List (List ℕ)) (at : ℕ) (w : List ℕ) (goal : Option ℕ) → at < length ws → w ≡ slice_index_or ws at [] →
    first_again ws at (drop at ws) ≡ goal → bytes_eq w (codes "--") ≡ false →
    (if is_again (take at ws) (slice_index_or ws at []) then Some (at + 1) else first_again ws (at + 1) (drop (at + 1) ws)) ≡ goal
goes_on ws at w goal lt is e goes =
    subst (λ (v : List ℕ). (if is_again (take at ws) v then Some (at + 1) else first_again ws (at + 1) (drop (at + 1) ws)) ≡ goal) is
    (subst (λ (b : Bool). (if b then None else (if is_again (take at ws) w then Some (at + 1) else first_again ws (at + 1) (drop (at + 1) ws))) ≡ goal) goes
    (word_step ws at w goal lt is e))

pub again_found : (ws : List (List ℕ)) (at : ℕ) (w : List ℕ) (b : Bool) (goal : Option ℕ) → at < length ws → w ≡ slice_index_or ws at [] →
    first_again ws at (drop at ws) ≡ goal → bytes_eq w (codes "--") ≡ false → b ≡ is_again (take at ws) (slice_index_or ws at []) → b ≡ true →
    Some (at + 1) ≡ goal
again_found ws at w b goal lt is e goes given held =
    subst (λ (c : Bool). (if c then Some (at + 1) else first_again ws (at + 1) (drop (at + 1) ws)) ≡ goal) (sym given ∙ held) (goes_on ws at w goal lt is e goes)

pub again_next : (ws : List (List ℕ)) (at : ℕ) (w : List ℕ) (b : Bool) (goal : Option ℕ) → at < length ws → w ≡ slice_index_or ws at [] →
    first_again ws at (drop at ws) ≡ goal → bytes_eq w (codes "--") ≡ false → b ≡ is_again (take at ws) (slice_index_or ws at []) → b ≡ false →
    first_again ws (at + 1) (drop (at + 1) ws) ≡ goal
again_next ws at w b goal lt is e goes given failed =
    subst (λ (c : Bool). (if c then Some (at + 1) else first_again ws (at + 1) (drop (at + 1) ws)) ≡ goal) (sym given ∙ failed) (goes_on ws at w goal lt is e goes)

pub again_none : (ws : List (List ℕ)) (at : ℕ) (goal : Option ℕ) → length ws ≤ at → first_again ws at (drop at ws) ≡ goal → None ≡ goal
again_none ws at goal le e = sym (ap (first_again ws at) (drop_all at ws le)) ∙ e

-- ---- what is said

pub again_is : (number : ℕ) (word name says said : List ℕ) → name ≡ option_name word → says ≡ again_words name → said ≡ word_piece number word ++ says →
    said ≡ word_piece number word ++ again_words (option_name word)
again_is number word name says said is e goes =
    goes ∙ ap (λ (t : List ℕ). word_piece number word ++ t) (e ∙ ap again_words is)

pub once_found : (command : List ℕ) (words : List (List ℕ)) (number : ℕ) (found : Option ℕ) (r : Said) → Some number ≡ found →
    IfOk r (λ n. n.items ≡ again_text number (slice_index_or words (number - 1) [])) → IfOk r (λ n. n.items ≡ once_text command words found)
once_found command words number found r e says = subst (λ (o : Option ℕ). IfOk r (λ n. n.items ≡ once_text command words o)) e says

pub once_none : (command : List ℕ) (words : List (List ℕ)) (found : Option ℕ) (r : Said) → None ≡ found →
    IfOk r (λ n. n.items ≡ stand_of command words) → IfOk r (λ n. n.items ≡ once_text command words found)
once_none command words found r e says = subst (λ (o : Option ℕ). IfOk r (λ n. n.items ≡ once_text command words o)) e says
