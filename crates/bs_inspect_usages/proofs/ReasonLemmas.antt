-- The first word whose option takes another value, an option that is missing, and what is said by them.
use Rattle.std.proofs.Common.{◌≡◌, ◌≤◌, ◌<◌, ◌+◌, ◌||◌, ◌&&◌, ℕ, zero, suc, arith, Bool, true, false, List, [], ◌∷◌, length, map, drop, get_or, Option, Some, None, Result, Vec, refl, ap, sym, ◌∙◌, subst, codes}
use Rattle.std.specs.Prelude.{IfOk, slice_index_or, if◌then◌else◌, String, string_bytes}
use Rattle.std.specs.List.{list_any}
use Rattle.std.specs.Str.{bytes_eq}
use Rattle.std.specs.Borrow.{Bor}
use Rattle.std.specs.declared.alloc.Global.{Global}
use Rattle.std.proofs.lemmas.List.{drop_more, drop_all}
use Rattle.bs_bits.specs.declared.memory.NoMemory.{NoMemory}
use Rattle.bs_inspect_usages.specs.declared.reason.Bounds.{Bounds}
use Rattle.bs_inspect_usages.specs.Usages.{bad_text, bad_word_text, bound_text, bounds_in, bounds_or, first_bad, foreign_text, given_of, gives, has_needless, is_bad, is_foreign, is_misplaced, is_worded}
use Rattle.bs_inspect_usages.specs.Usages.{lack_text, needless_text, number_text, once_of, option_name, reason_text, stand_by, stand_of, value_text}

abbrev Words : Type 0
Words = List (String Global)

-- ---- the word at a place

pub word_there : (words : Words) (i : ℕ) (word : String Global) (bytes : List ℕ) → i < length words → word ≡ get_or words i word → bytes ≡ string_bytes word →
    bytes ≡ slice_index_or (map string_bytes words) i []
word_there [] i word bytes lt e is = absurd (omega (arith, lt))
word_there (w ∷ ws) zero word bytes lt e is = is ∙ ap string_bytes e
word_there (w ∷ ws) (suc i) word bytes lt e is = word_there ws i word bytes (omega (arith, lt)) e is

pub word_past : (words : Words) (i : ℕ) → length words ≤ i → [] ≡ slice_index_or (map string_bytes words) i []
word_past [] i le = refl
word_past (w ∷ ws) zero le = absurd (omega (arith, le))
word_past (w ∷ ws) (suc i) le = word_past ws i (omega (arith, le))

-- ---- the first entry of a table that has two names

abbrev Entry : Type 0
Entry = (Bor (List ℕ) × Bor (List ℕ)) × Bounds

-- what is found from an entry on
entry_step : (command name : List ℕ) (table : List Entry) (i : ℕ) (d : Entry) (named b : Bool) (goal : Option Bounds) → i < length table →
    named ≡ (bytes_eq command (get_or table i d).0.0.now && bytes_eq name (get_or table i d).0.1.now) → named ≡ b →
    bounds_in command name (drop i table) ≡ goal → (if b then Some (get_or table i d).1 else bounds_in command name (drop (i + 1) table)) ≡ goal
entry_step command name table i d named b goal lt is same e =
    subst (λ (c : Bool). (if c then Some (get_or table i d).1 else bounds_in command name (drop (i + 1) table)) ≡ goal) (sym is ∙ same)
    (sym (ap (bounds_in command name) (drop_more table i d lt)) ∙ e)

pub entry_found : (command name : List ℕ) (table : List Entry) (i : ℕ) (d : Entry) (named : Bool) (goal : Option Bounds) → i < length table →
    named ≡ (bytes_eq command (get_or table i d).0.0.now && bytes_eq name (get_or table i d).0.1.now) → named ≡ true →
    bounds_in command name (drop i table) ≡ goal → Some (get_or table i d).1 ≡ goal
entry_found command name table i d named goal lt is held e = entry_step command name table i d named true goal lt is held e

pub entry_next : (command name : List ℕ) (table : List Entry) (i : ℕ) (d : Entry) (named : Bool) (goal : Option Bounds) → i < length table →
    named ≡ (bytes_eq command (get_or table i d).0.0.now && bytes_eq name (get_or table i d).0.1.now) → named ≡ false →
    bounds_in command name (drop i table) ≡ goal → bounds_in command name (drop (i + 1) table) ≡ goal
entry_next command name table i d named goal lt is failed e = entry_step command name table i d named false goal lt is failed e

pub entry_none : (command name : List ℕ) (table : List Entry) (i : ℕ) (goal : Option Bounds) → length table ≤ i →
    bounds_in command name (drop i table) ≡ goal → None ≡ goal
entry_none command name table i goal le e = sym (ap (bounds_in command name) (drop_all i table le)) ∙ e

-- ---- the first word whose option takes another value

pub index_is : (ws : List (List ℕ)) (i : ℕ) → slice_index_or ws i [] ≡ get_or ws i []
index_is [] i = refl
index_is (w ∷ ws) zero = refl
index_is (w ∷ ws) (suc i) = index_is ws i

front_is : (ws : List (List ℕ)) (i : ℕ) → slice_index_or ws i [] ≡ slice_index_or (drop i ws) 0 []
front_is [] zero = refl
front_is [] (suc i) = refl
front_is (w ∷ ws) zero = refl
front_is (w ∷ ws) (suc i) = front_is ws i

-- what is found from a word on, behind which another stands
abbrev from_word : List ℕ → ℕ → (word next : List ℕ) → List (List ℕ) → Option ℕ
from_word command number w next ws = if bytes_eq w (codes "--") then None else (if is_bad command w next then Some number else first_bad command (number + 1) ws)

word_step : (command : List ℕ) (ws : List (List ℕ)) (at : ℕ) (w next : List ℕ) (goal : Option ℕ) → at < length ws → w ≡ slice_index_or ws at [] →
    next ≡ slice_index_or ws (at + 1) [] → first_bad command (at + 1) (drop at ws) ≡ goal → from_word command (at + 1) w next (drop (at + 1) ws) ≡ goal
word_step command ws at w next goal lt is other e =
    (λ i. from_word command (at + 1) ((is ∙ index_is ws at) i) ((other ∙ front_is ws (at + 1)) i) (drop (at + 1) ws))
    ∙ (sym (ap (first_bad command (at + 1)) (drop_more ws at [] lt)) ∙ e)

pub bad_stop : (command : List ℕ) (ws : List (List ℕ)) (at : ℕ) (w next : List ℕ) (goal : Option ℕ) → at < length ws → w ≡ slice_index_or ws at [] →
    next ≡ slice_index_or ws (at + 1) [] → first_bad command (at + 1) (drop at ws) ≡ goal → bytes_eq w (codes "--") ≡ true → None ≡ goal
bad_stop command ws at w next goal lt is other e stops =
    subst (λ (b : Bool). (if b then None else (if is_bad command w next then Some (at + 1) else first_bad command (at + 1 + 1) (drop (at + 1) ws))) ≡ goal) stops
    (word_step command ws at w next goal lt is other e)

goes_on : (command : List ℕ) (ws : List (List ℕ)) (at : ℕ) (w next : List ℕ) (goal : Option ℕ) → at < length ws → w ≡ slice_index_or ws at [] →
    next ≡ slice_index_or ws (at + 1) [] → first_bad command (at + 1) (drop at ws) ≡ goal → bytes_eq w (codes "--") ≡ false →
    (if is_bad command w next then Some (at + 1) else first_bad command (at + 1 + 1) (drop (at + 1) ws)) ≡ goal
goes_on command ws at w next goal lt is other e goes =
    subst (λ (b : Bool). (if b then None else (if is_bad command w next then Some (at + 1) else first_bad command (at + 1 + 1) (drop (at + 1) ws))) ≡ goal) goes
    (word_step command ws at w next goal lt is other e)

pub bad_found : (command : List ℕ) (ws : List (List ℕ)) (at : ℕ) (w next : List ℕ) (goal : Option ℕ) → at < length ws → w ≡ slice_index_or ws at [] →
    next ≡ slice_index_or ws (at + 1) [] → first_bad command (at + 1) (drop at ws) ≡ goal → bytes_eq w (codes "--") ≡ false → is_bad command w next ≡ true →
    Some (at + 1) ≡ goal
bad_found command ws at w next goal lt is other e goes bad =
    subst (λ (b : Bool). (if b then Some (at + 1) else first_bad command (at + 1 + 1) (drop (at + 1) ws)) ≡ goal) bad (goes_on command ws at w next goal lt is other e goes)

pub bad_next : (command : List ℕ) (ws : List (List ℕ)) (at : ℕ) (w next : List ℕ) (goal : Option ℕ) → at < length ws → w ≡ slice_index_or ws at [] →
    next ≡ slice_index_or ws (at + 1) [] → first_bad command (at + 1) (drop at ws) ≡ goal → bytes_eq w (codes "--") ≡ false → is_bad command w next ≡ false →
    first_bad command (at + 1 + 1) (drop (at + 1) ws) ≡ goal
bad_next command ws at w next goal lt is other e goes right =
    subst (λ (b : Bool). (if b then Some (at + 1) else first_bad command (at + 1 + 1) (drop (at + 1) ws)) ≡ goal) right (goes_on command ws at w next goal lt is other e goes)

pub bad_none : (command : List ℕ) (ws : List (List ℕ)) (at : ℕ) (goal : Option ℕ) → length ws ≤ at → first_bad command (at + 1) (drop at ws) ≡ goal → None ≡ goal
bad_none command ws at goal le e = sym (ap (first_bad command (at + 1)) (drop_all at ws le)) ∙ e

-- ---- an option that is missing

pub gives_by : (option : List ℕ) (words : Words) (b : Bool) → b ≡ list_any (λ w. bytes_eq (option_name (string_bytes w)) option) words →
    b ≡ gives option (map string_bytes words)
gives_by option words b e = e ∙ each words
  where
    each : (words : Words) → list_any (λ w. bytes_eq (option_name (string_bytes w)) option) words ≡ gives option (map string_bytes words)
    each [] = refl
    each (w ∷ ws) = ap (λ (c : Bool). bytes_eq (option_name (string_bytes w)) option || c) (each ws)

-- ---- the reason

abbrev pub Said : Type 0
Said = Result (Vec ℕ Global) NoMemory

abbrev by_foreign : List ℕ → ℕ → List ℕ → Bool → Said → Type 0
by_foreign command number word b r = IfOk r (λ n. n.items ≡ (if b then foreign_text number word else value_text command number word))

pub foreign_said : (command : List ℕ) (number : ℕ) (word : List ℕ) (b : Bool) (r : Result (Vec ℕ Global) NoMemory) → b ≡ is_foreign command word → b ≡ true →
    IfOk r (λ n. n.items ≡ foreign_text number word) → IfOk r (λ n. n.items ≡ bad_word_text command number word)
foreign_said command number word b r e is says = subst (λ (c : Bool). by_foreign command number word c r) (sym is ∙ e) says

pub value_said : (command : List ℕ) (number : ℕ) (word : List ℕ) (b : Bool) (r : Result (Vec ℕ Global) NoMemory) → b ≡ is_foreign command word → b ≡ false →
    IfOk r (λ n. n.items ≡ value_text command number word) → IfOk r (λ n. n.items ≡ bad_word_text command number word)
value_said command number word b r e is says = subst (λ (c : Bool). by_foreign command number word c r) (sym is ∙ e) says

abbrev by_lack : List ℕ → ℕ → List ℕ → (worded needless : Bool) → Said → Type 0
by_lack command number word worded needless r =
    IfOk r (λ n. n.items ≡ (if worded then lack_text number word
    else (if needless then needless_text number word else bound_text number word (bounds_or command (option_name word)))))

pub lack_said : (command : List ℕ) (number : ℕ) (word : List ℕ) (b : Bool) (r : Result (Vec ℕ Global) NoMemory) → b ≡ is_worded word → b ≡ true →
    IfOk r (λ n. n.items ≡ lack_text number word) → IfOk r (λ n. n.items ≡ value_text command number word)
lack_said command number word b r e is says = subst (λ (c : Bool). by_lack command number word c (has_needless word) r) (sym is ∙ e) says

pub needless_said : (command : List ℕ) (number : ℕ) (word : List ℕ) (b c : Bool) (r : Result (Vec ℕ Global) NoMemory) → b ≡ is_worded word → b ≡ false →
    c ≡ has_needless word → c ≡ true → IfOk r (λ n. n.items ≡ needless_text number word) → IfOk r (λ n. n.items ≡ value_text command number word)
needless_said command number word b c r e is f has says =
    subst (λ (d : Bool). by_lack command number word d (has_needless word) r) (sym is ∙ e)
    (subst (λ (d : Bool). by_lack command number word false d r) (sym has ∙ f) says)

pub outside_said : (command : List ℕ) (number : ℕ) (word : List ℕ) (b c : Bool) (r : Result (Vec ℕ Global) NoMemory) → b ≡ is_worded word → b ≡ false →
    c ≡ has_needless word → c ≡ false → IfOk r (λ n. n.items ≡ bound_text number word (bounds_or command (option_name word))) →
    IfOk r (λ n. n.items ≡ value_text command number word)
outside_said command number word b c r e is f has says =
    subst (λ (d : Bool). by_lack command number word d (has_needless word) r) (sym is ∙ e)
    (subst (λ (d : Bool). by_lack command number word false d r) (sym has ∙ f) says)

abbrev misplaced : List ℕ
misplaced = codes "`--length J` stands behind the files, and J is a word of its own"

abbrev by_place : List ℕ → List (List ℕ) → Bool → Said → Type 0
by_place command words b r = IfOk r (λ n. n.items ≡ (if b then misplaced else stand_by command (given_of words)))

pub misplaced_said : (command : List ℕ) (words : List (List ℕ)) (b : Bool) (r : Result (Vec ℕ Global) NoMemory) → b ≡ is_misplaced command words → b ≡ true →
    IfOk r (λ n. n.items ≡ codes "`--length J` stands behind the files, and J is a word of its own") → IfOk r (λ n. n.items ≡ stand_of command words)
misplaced_said command words b r e is says = subst (λ (c : Bool). by_place command words c r) (sym is ∙ e) says

pub placed_said : (command : List ℕ) (words : List (List ℕ)) (b : Bool) (r : Result (Vec ℕ Global) NoMemory) → b ≡ is_misplaced command words → b ≡ false →
    IfOk r (λ n. n.items ≡ stand_by command (given_of words)) → IfOk r (λ n. n.items ≡ stand_of command words)
placed_said command words b r e is says = subst (λ (c : Bool). by_place command words c r) (sym is ∙ e) says

pub number_found : (command : List ℕ) (words : List (List ℕ)) (number : ℕ) (found : Option ℕ) (r : Said) → Some number ≡ found →
    IfOk r (λ n. n.items ≡ bad_text command words number) → IfOk r (λ n. n.items ≡ number_text command words found)
number_found command words number found r e says = subst (λ (o : Option ℕ). IfOk r (λ n. n.items ≡ number_text command words o)) e says

pub number_none : (command : List ℕ) (words : List (List ℕ)) (found : Option ℕ) (r : Said) → None ≡ found →
    IfOk r (λ n. n.items ≡ once_of command words) → IfOk r (λ n. n.items ≡ number_text command words found)
number_none command words found r e says = subst (λ (o : Option ℕ). IfOk r (λ n. n.items ≡ number_text command words o)) e says

pub reason_by : (command : List ℕ) (words : List (List ℕ)) (one other : Option (List ℕ)) (r : Said) → one ≡ other →
    IfOk r (λ n. n.items ≡ reason_text command words one) → IfOk r (λ n. n.items ≡ reason_text command words other)
reason_by command words one other r e says = subst (λ (o : Option (List ℕ)). IfOk r (λ n. n.items ≡ reason_text command words o)) e says
