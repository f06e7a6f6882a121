-- The first word that is wrong, and the note on the words by the first of them.
use Rattle.std.proofs.Common.{◌≡◌, ◌==◌, ◌≤◌, ◌<◌, ◌+◌, ◌-◌, ℕ, zero, suc, arith, Bool, true, false, List, [], ◌∷◌, ◌++◌, length, map, drop, get_or, Option, Some, None, Result, Ok, Err, Vec, refl, ap, sym, ◌∙◌, subst, codes}
use Rattle.std.specs.Prelude.{IfOk, slice_index_or, if◌then◌else◌, String, string_bytes}
use Rattle.std.proofs.lemmas.Bool.{eqb-true}
use Rattle.std.specs.Borrow.{Bor}
use Rattle.std.specs.Str.{bytes_eq}
use Rattle.std.specs.declared.alloc.Global.{Global}
use Rattle.std.proofs.lemmas.List.{drop_more, drop_all}
use Rattle.bs_bits.specs.declared.memory.NoMemory.{NoMemory}
use Rattle.bs_note_files.specs.Notes.{plain_text, pair_text}
use Rattle.bs_inspect_usages.specs.Usages.{behind_text, budget_text, command_text, commands, first_wrong, hint, is_budget, is_others, is_wrong, line_among, option_name, options, others_hint, others_text, reason_of}
use Rattle.bs_inspect_usages.specs.Usages.{unknown_text, usages, word_text, words_text, wrong_text}

index_is : (ws : List (List ℕ)) (i : ℕ) → slice_index_or ws i [] ≡ get_or ws i []
index_is [] i = refl
index_is (w ∷ ws) zero = refl
index_is (w ∷ ws) (suc i) = index_is ws i

-- what is found from a word on
abbrev from_word : ℕ → List ℕ → List (List ℕ) → Option ℕ
from_word number w ws = if bytes_eq w (codes "--") then None else (if is_wrong w then Some number else first_wrong (number + 1) ws)

word_step : (ws : List (List ℕ)) (at : ℕ) (w : List ℕ) (goal : Option ℕ) → at < length ws → w ≡ slice_index_or ws at [] →
    first_wrong (at + 1) (drop at ws) ≡ goal → from_word (at + 1) w (drop (at + 1) ws) ≡ goal
word_step ws at w goal lt is e =
    ap (λ (v : List ℕ). from_word (at + 1) v (drop (at + 1) ws)) (is ∙ index_is ws at) ∙ (sym (ap (first_wrong (at + 1)) (drop_more ws at [] lt)) ∙ e)

pub wrong_stop : (ws : List (List ℕ)) (at : ℕ) (w : List ℕ) (goal : Option ℕ) → at < length ws → w ≡ slice_index_or ws at [] →
    first_wrong (at + 1) (drop at ws) ≡ goal → bytes_eq w (codes "--") ≡ true → None ≡ goal
wrong_stop ws at w goal lt is e stops =
    subst (λ (b : Bool). (if b then None else (if is_wrong w then Some (at + 1) else first_wrong (at + 1 + 1) (drop (at + 1) ws))) ≡ goal) stops
    (word_step ws at w goal lt is e)

goes_on : (ws : List (List ℕ)) (at : ℕ) (w : List ℕ) (goal : Option ℕ) → at < length ws → w ≡ slice_index_or ws at [] →
    first_wrong (at + 1) (drop at ws) ≡ goal → bytes_eq w (codes "--") ≡ false →
    (if is_wrong w then Some (at + 1) else first_wrong (at + 1 + 1) (drop (at + 1) ws)) ≡ goal
goes_on ws at w goal lt is e goes =
    subst (λ (b : Bool). (if b then None else (if is_wrong w then Some (at + 1) else first_wrong (at + 1 + 1) (drop (at + 1) ws))) ≡ goal) goes
    (word_step ws at w goal lt is e)

pub wrong_found : (ws : List (List ℕ)) (at : ℕ) (w : List ℕ) (goal : Option ℕ) → at < length ws → w ≡ slice_index_or ws at [] →
    first_wrong (at + 1) (drop at ws) ≡ goal → bytes_eq w (codes "--") ≡ false → is_wrong w ≡ true → Some (at + 1) ≡ goal
wrong_found ws at w goal lt is e goes wrong =
    subst (λ (b : Bool). (if b then Some (at + 1) else first_wrong (at + 1 + 1) (drop (at + 1) ws)) ≡ goal) wrong (goes_on ws at w goal lt is e goes)

pub wrong_next : (ws : List (List ℕ)) (at : ℕ) (w : List ℕ) (goal : Option ℕ) → at < length ws → w ≡ slice_index_or ws at [] →
    first_wrong (at + 1) (drop at ws) ≡ goal → bytes_eq w (codes "--") ≡ false → is_wrong w ≡ false →
    first_wrong (at + 1 + 1) (drop (at + 1) ws) ≡ goal
wrong_next ws at w goal lt is e goes right =
    subst (λ (b : Bool). (if b then Some (at + 1) else first_wrong (at + 1 + 1) (drop (at + 1) ws)) ≡ goal) right (goes_on ws at w goal lt is e goes)

pub wrong_none : (ws : List (List ℕ)) (at : ℕ) (goal : Option ℕ) → length ws ≤ at → first_wrong (at + 1) (drop at ws) ≡ goal → None ≡ goal
wrong_none ws at goal le e = sym (ap (first_wrong (at + 1)) (drop_all at ws le)) ∙ e

-- ---- the note

abbrev by_program : List ℕ → Bool → Result (Vec ℕ Global) NoMemory → Type 0
by_program command b r =
    IfOk r (λ n. n.items ≡ (if b then plain_text (others_text command) ++ plain_text others_hint
    else plain_text (word_text 1 command command (codes "command") commands) ++ plain_text hint))

pub others_said : (command : List ℕ) (b : Bool) (r : Result (Vec ℕ Global) NoMemory) → b ≡ is_others command → b ≡ true →
    IfOk r (λ n. n.items ≡ plain_text (others_text command) ++ plain_text others_hint) → IfOk r (λ n. n.items ≡ unknown_text command)
others_said command b r e is says = subst (λ (c : Bool). by_program command c r) (sym is ∙ e) says

pub misspelt_said : (command : List ℕ) (b : Bool) (r : Result (Vec ℕ Global) NoMemory) → b ≡ is_others command → b ≡ false →
    IfOk r (λ n. n.items ≡ plain_text (word_text 1 command command (codes "command") commands) ++ plain_text hint) → IfOk r (λ n. n.items ≡ unknown_text command)
misspelt_said command b r e is says = subst (λ (c : Bool). by_program command c r) (sym is ∙ e) says

abbrev by_option : ℕ → List ℕ → Bool → Result (Vec ℕ Global) NoMemory → Type 0
by_option number word b r =
    IfOk r (λ n. n.items ≡ (if b then budget_text number word else word_text number word (option_name word) (codes "option") options))

pub budget_said : (number : ℕ) (word : List ℕ) (b : Bool) (r : Result (Vec ℕ Global) NoMemory) → b ≡ is_budget word → b ≡ true →
    IfOk r (λ n. n.items ≡ budget_text number word) → IfOk r (λ n. n.items ≡ wrong_text number word)
budget_said number word b r e is says = subst (λ (c : Bool). by_option number word c r) (sym is ∙ e) says

pub no_budget_said : (number : ℕ) (word : List ℕ) (b : Bool) (r : Result (Vec ℕ Global) NoMemory) → b ≡ is_budget word → b ≡ false →
    IfOk r (λ n. n.items ≡ word_text number word (option_name word) (codes "option") options) → IfOk r (λ n. n.items ≡ wrong_text number word)
no_budget_said number word b r e is says = subst (λ (c : Bool). by_option number word c r) (sym is ∙ e) says

pub known_command : (command : List ℕ) (words : List (List ℕ)) (line : Bor (List ℕ)) (found : Option (List ℕ)) (r : Result (Vec ℕ Global) NoMemory) →
    Some line.now ≡ found → IfOk r (λ n. n.items ≡ behind_text words line.now (first_wrong 2 (drop 1 words))) →
    IfOk r (λ n. n.items ≡ command_text command words found)
known_command command words line found r e says = subst (λ (o : Option (List ℕ)). IfOk r (λ n. n.items ≡ command_text command words o)) e says

pub no_command : (command : List ℕ) (words : List (List ℕ)) (found : Option (List ℕ)) (r : Result (Vec ℕ Global) NoMemory) → None ≡ found →
    IfOk r (λ n. n.items ≡ unknown_text command) → IfOk r (λ n. n.items ≡ command_text command words found)
no_command command words found r e says = subst (λ (o : Option (List ℕ)). IfOk r (λ n. n.items ≡ command_text command words o)) e says

abbrev Words : Type 0
Words = List (String Global)

pub no_words : (words : Words) (count : ℕ) (r : Result (Vec ℕ Global) NoMemory) → count ≡ length words → (count == 0) ≡ true →
    IfOk r (λ n. n.items ≡ pair_text (codes "there are no words") hint) → IfOk r (λ n. n.items ≡ words_text (map string_bytes words))
no_words [] count r e none says = says
no_words (w ∷ ws) count r e none says = let z : count ≡ 0 = eqb-true count 0 none in absurd (omega (arith, z, e))

pub some_words : (words : Words) (command : List ℕ) (count : ℕ) (r : Result (Vec ℕ Global) NoMemory) → count ≡ length words → (count == 0) ≡ false →
    command ≡ slice_index_or (map string_bytes words) 0 [] →
    IfOk r (λ n. n.items ≡ command_text command (map string_bytes words) (line_among command usages)) →
    IfOk r (λ n. n.items ≡ words_text (map string_bytes words))
some_words [] command count r e some is says = absurd (none count e some)
  where
    none : (k : ℕ) → k ≡ 0 → (k == 0) ≡ false → ⊥
    none k z f = let t : (0 == 0) ≡ false = subst (λ (n : ℕ). (n == 0) ≡ false) z f in absurd cc
some_words (w ∷ ws) command count r e some is says =
    subst (λ (c : List ℕ). IfOk r (λ n. n.items ≡ command_text c (map string_bytes (w ∷ ws)) (line_among c usages))) is says

pub behind_found : (words : List (List ℕ)) (line word : List ℕ) (number : ℕ) (found : Option ℕ) (r : Result (Vec ℕ Global) NoMemory) → Some number ≡ found →
    word ≡ slice_index_or words (number - 1) [] →
    IfOk r (λ n. n.items ≡ plain_text (wrong_text number word) ++ plain_text line) →
    IfOk r (λ n. n.items ≡ behind_text words line found)
behind_found words line word number found r e is says =
    subst (λ (o : Option ℕ). IfOk r (λ n. n.items ≡ behind_text words line o)) e
    (subst (λ (w : List ℕ). IfOk r (λ n. n.items ≡ plain_text (wrong_text number w) ++ plain_text line)) is says)

pub behind_none : (words : List (List ℕ)) (line : List ℕ) (found : Option ℕ) (r : Result (Vec ℕ Global) NoMemory) → None ≡ found →
    IfOk r (λ n. n.items ≡ plain_text (reason_of words) ++ plain_text line) → IfOk r (λ n. n.items ≡ behind_text words line found)
behind_none words line found r e says = subst (λ (o : Option ℕ). IfOk r (λ n. n.items ≡ behind_text words line o)) e says

-- two sentences of which the first is this
pub paired : (first said second line : List ℕ) (r : Result (Vec ℕ Global) NoMemory) → said ≡ first → second ≡ line →
    IfOk r (λ n. n.items ≡ pair_text said second) → IfOk r (λ n. n.items ≡ plain_text first ++ plain_text line)
paired first said second line r is same says =
    subst (λ (f : List ℕ). IfOk r (λ n. n.items ≡ pair_text f line)) is (subst (λ (l : List ℕ). IfOk r (λ n. n.items ≡ pair_text said l)) same says)
