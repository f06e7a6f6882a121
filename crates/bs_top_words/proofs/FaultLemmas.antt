-- What is wrong with words, from the reading of them word by word.
use Rattle.std.proofs.Common.{◌≡◌, ◌≢◌, ◌⊎◌, inl, inr, ⊎_elim, ℕ, ◌+◌, ◌<◌, Bool, true, false, cond, List, [], ◌∷◌, ◌++◌, length, refl, arith, ap, sym, subst, ◌∙◌}
use Rattle.std.proofs.Common.{Option, Some, None, Result, Ok, Err, append_assoc}
use Rattle.std.specs.Prelude.{◌==◌, codes, decimal, slice_get, IsSome}
use Rattle.std.specs.List.{AllByRecursion, flat_map}
use Rattle.std.specs.Option.{option_and_then}
use Rattle.std.specs.Str.{bytes_eq}
use Rattle.std.proofs.lemmas.Slice.Eq.{bytes_eq-Decides}
use Rattle.std.proofs.lemmas.Bool.{eqb-true, eqb-false, false≢true}
use Rattle.std.proofs.lemmas.List.{length-append}
use Rattle.bs_bits.specs.Reading.{◌>>=◌}
use Rattle.bs_top_words.specs.declared.options.BudgetKind.{BudgetKind}
use Rattle.bs_top_words.specs.declared.options.BudgetKind.TheVariants.{Steps, Candidates, Conflicts}
use Rattle.bs_top_words.specs.declared.flags.Flag.TheVariants.{Budget}
use Rattle.bs_top_words.specs.declared.fault.WordFault.{WordFault}
use Rattle.bs_top_words.specs.declared.fault.WordFault.TheVariants as W
use Rattle.bs_top_words.specs.declared.fault.NextWord.{NextWord}
use Rattle.bs_top_words.specs.declared.fault.NextWord.TheVariants as D
use Rattle.bs_top_words.specs.declared.fault.Opening.{Opening}
use Rattle.bs_top_words.specs.declared.fault.Opening.TheVariants as O
use Rattle.bs_top_words.specs.Options.{is_option, value_in}
use Rattle.bs_top_words.specs.Flags.{kind_name, value_behind}
use Rattle.bs_top_words.specs.Spelling.{Piece, Word, Apart, Joined, spelling, IsBudget, positions_of}
use Rattle.bs_top_words.specs.Faults.{taken, takes, IsPieceOf, IsReached, AreRight, IsNotOf, IsNoOption, LacksValue, IsNoValue}
use Rattle.bs_top_words.specs.Faults.{IsWordFault, opening_value, opening_behind, opening_by, opening_if, opening_of, scanned, option_word}
use Rattle.bs_top_words.specs.Faults.{any_word, value_word, scan_all, fault_if, fault_behind, fault_of}
use Rattle.bs_top_words.proofs.SpellingLemmas.{value_is, behind_is}

-- ---- what a word is that begins as an option

-- what is said of the word by an opening that is one of the command
abbrev Opens : List ℕ → List ℕ → Opening → Type 0
Opens command word (O.Waits kind) = (takes command kind ≡ true) × (word ≡ kind_name kind)
Opens command word O.Whole =
    (kind : BudgetKind) × (value : ℕ) × (takes command kind ≡ true) × IsBudget kind value × (word ≡ kind_name kind ++ (codes "=" ++ decimal value))
Opens command word O.Bad =
    (kind : BudgetKind) × (value : List ℕ) × (takes command kind ≡ true) × (word ≡ kind_name kind ++ (codes "=" ++ value)) × (value_in kind value ≡ None)
Opens command word O.Unknown = ⊥

-- it is one, or the other, and then the word is none of this budget
abbrev OpensOr : List ℕ → BudgetKind → List ℕ → Opening → Opening → Type 0
OpensOr command kind word other o = Opens command word o ⊎ ((o ≡ other) × (takes command kind ≡ true → IsNotOf kind word))

-- no budget of the command is named
abbrev NamesNone : List ℕ → List ℕ → Type 0
NamesNone command word = (kind : BudgetKind) → takes command kind ≡ true → IsNotOf kind word

opens_value : (command : List ℕ) (kind : BudgetKind) (word value : List ℕ) → takes command kind ≡ true → word ≡ kind_name kind ++ (codes "=" ++ value) →
    Opens command word (opening_value (value_in kind value))
opens_value command kind word value own is = by (value_in kind value) refl
  where
    by : (o : Option ℕ) → value_in kind value ≡ o → Opens command word (opening_value o)
    by None none = (kind, value, own, is, none)
    by (Some n) some =
        let v = value_is kind value n some in
        (kind, n, own, v.1, is ∙ ap (λ d. kind_name kind ++ (codes "=" ++ d)) v.0)

found_behind : (kind : BudgetKind) (value : List ℕ) → value_behind (Budget kind) (kind_name kind ++ (codes "=" ++ value)) ≡ Some value
found_behind Steps value = refl
found_behind Candidates value = refl
found_behind Conflicts value = refl

not_behind : (kind : BudgetKind) (word : List ℕ) → value_behind (Budget kind) word ≡ None → (value : List ℕ) → word ≢ kind_name kind ++ (codes "=" ++ value)
not_behind kind word none value is = differ (sym none ∙ (ap (value_behind (Budget kind)) is ∙ found_behind kind value))
  where
    no_value : Option (List ℕ)
    no_value = None

    differ : no_value ≡ Some value → ⊥
    differ e = cc

opens_behind : (command : List ℕ) (kind : BudgetKind) (word : List ℕ) (other : Opening) → takes command kind ≡ true → word ≢ kind_name kind →
    OpensOr command kind word other (opening_behind kind (value_behind (Budget kind) word) other)
opens_behind command kind word other own not = by (value_behind (Budget kind) word) refl
  where
    by : (o : Option (List ℕ)) → value_behind (Budget kind) word ≡ o → OpensOr command kind word other (opening_behind kind o other)
    by None none = inr (refl, λ yes. record { apart = not; joined = not_behind kind word none })
    by (Some value) some = inl (opens_value command kind word value own (behind_is kind word value some))

opens_by : (command : List ℕ) (kind : BudgetKind) (word : List ℕ) (other : Opening) → takes command kind ≡ true →
    OpensOr command kind word other (opening_by kind word other)
opens_by command kind word other own = by (bytes_eq word (kind_name kind)) refl
  where
    by : (b : Bool) → bytes_eq word (kind_name kind) ≡ b →
        OpensOr command kind word other (cond b (O.Waits kind) (opening_behind kind (value_behind (Budget kind) word) other))
    by true is = inl (own, (bytes_eq-Decides word (kind_name kind)).0 is)
    by false isnt =
        opens_behind command kind word other own (λ same. false≢true (sym isnt ∙ (bytes_eq-Decides word (kind_name kind)).1 same))

opens_if : (command : List ℕ) (kind : BudgetKind) (word : List ℕ) (other : Opening) → OpensOr command kind word other (opening_if command kind word other)
opens_if command kind word other = by (takes command kind) refl
  where
    by : (b : Bool) → takes command kind ≡ b → OpensOr command kind word other (cond b (opening_by kind word other) other)
    by true own = opens_by command kind word other own
    by false not_own = inr (refl, λ own. absurd (false≢true (sym not_own ∙ own)))

opens_of : (command word : List ℕ) →
    Opens command word (opening_of command word) ⊎ ((opening_of command word ≡ O.Unknown) × NamesNone command word)
opens_of command word = steps (opens_if command Steps word candidates)
  where
    conflicts : Opening
    conflicts = opening_if command Conflicts word O.Unknown

    candidates : Opening
    candidates = opening_if command Candidates word conflicts

    none : (takes command Steps ≡ true → IsNotOf Steps word) → (takes command Candidates ≡ true → IsNotOf Candidates word) →
        (takes command Conflicts ≡ true → IsNotOf Conflicts word) → NamesNone command word
    none s k c Steps = s
    none s k c Candidates = k
    none s k c Conflicts = c

    third : (o : Opening) → o ≡ conflicts → (takes command Steps ≡ true → IsNotOf Steps word) → (takes command Candidates ≡ true → IsNotOf Candidates word) →
        OpensOr command Conflicts word O.Unknown conflicts → Opens command word o ⊎ ((o ≡ O.Unknown) × NamesNone command word)
    third o same s k (inl h) = inl (subst (λ (p : Opening). Opens command word p) (sym same) h)
    third o same s k (inr h) = inr (same ∙ h.0, none s k h.1)

    second : (o : Opening) → o ≡ candidates → (takes command Steps ≡ true → IsNotOf Steps word) → OpensOr command Candidates word conflicts candidates →
        Opens command word o ⊎ ((o ≡ O.Unknown) × NamesNone command word)
    second o same s (inl h) = inl (subst (λ (p : Opening). Opens command word p) (sym same) h)
    second o same s (inr h) = third o (same ∙ h.0) s h.1 (opens_if command Conflicts word O.Unknown)

    steps : OpensOr command Steps word candidates (opening_of command word) →
        Opens command word (opening_of command word) ⊎ ((opening_of command word ≡ O.Unknown) × NamesNone command word)
    steps (inl h) = inl h
    steps (inr h) = second (opening_of command word) h.0 h.1 (opens_if command Candidates word conflicts)

-- ---- the words from a place on

-- all of them are right, and so many are by position together with those before
record AreRest (command : List ℕ) (count : ℕ) (words : List (List ℕ)) (all : ℕ) : Type 0 where
  pieces : List Piece
  behind : List (List ℕ)
  right : AllByRecursion (IsPieceOf command) pieces
  spelled : ((words ≡ flat_map spelling pieces) × (behind ≡ [])) ⊎ (words ≡ flat_map spelling pieces ++ (codes "--" ∷ behind))
  counted : all ≡ count + (length (positions_of pieces) + length behind)

-- those before the word at a place are right
record IsAt (command : List ℕ) (at : ℕ) (words : List (List ℕ)) (place : ℕ) (word : List ℕ) (rest : List (List ℕ)) : Type 0 where
  pieces : List Piece
  right : AllByRecursion (IsPieceOf command) pieces
  spelled : words ≡ flat_map spelling pieces ++ word ∷ rest
  placed : place ≡ at + length (flat_map spelling pieces)

record HasNoOption (command : List ℕ) (at : ℕ) (words : List (List ℕ)) (place : ℕ) : Type 0 where
  word : List ℕ
  rest : List (List ℕ)
  is : IsAt command at words place word rest
  form : is_option word ≡ true
  no_mark : word ≢ codes "--"
  none : NamesNone command word

record HasNoValue (command : List ℕ) (at : ℕ) (words : List (List ℕ)) (place : ℕ) : Type 0 where
  word : List ℕ
  rest : List (List ℕ)
  is : IsAt command at words place word rest
  kind : BudgetKind
  own : takes command kind ≡ true
  lacks : LacksValue kind word rest

abbrev Finds : List ℕ → ℕ → ℕ → List (List ℕ) → Result ℕ WordFault → Type 0
Finds command at count words (Ok all) = AreRest command count words all
Finds command at count words (Err (W.Option place)) = HasNoOption command at words place
Finds command at count words (Err (W.Value place)) = HasNoValue command at words place
Finds command at count words (Err W.Absent) = ⊥
Finds command at count words (Err W.Command) = ⊥
Finds command at count words (Err (W.Positions given)) = ⊥
Finds command at count words (Err W.Rest) = ⊥

-- one piece before the others
at_more : (command : List ℕ) (at next : ℕ) (words behind : List (List ℕ)) (piece : Piece) (place : ℕ) (word : List ℕ) (rest : List (List ℕ)) →
    IsPieceOf command piece → words ≡ spelling piece ++ behind → next ≡ at + length (spelling piece) → IsAt command next behind place word rest →
    IsAt command at words place word rest
at_more command at next words behind piece place word rest right is later h = record {
  pieces = piece ∷ h.pieces;
  right = (right, h.right);
  spelled =
      is
      ∙ (ap (λ t. spelling piece ++ t) h.spelled ∙ sym (append_assoc (spelling piece) (flat_map spelling h.pieces) (word ∷ rest)));
  placed = omega (arith, h.placed, later, length-append (spelling piece) (flat_map spelling h.pieces));
}

rest_more : (command : List ℕ) (count more : ℕ) (words behind : List (List ℕ)) (piece : Piece) (all : ℕ) → IsPieceOf command piece →
    words ≡ spelling piece ++ behind →
    ((pieces : List Piece) → more + length (positions_of pieces) ≡ count + length (positions_of (piece ∷ pieces))) → AreRest command more behind all →
    AreRest command count words all
rest_more command count more words behind piece all right is counts h = record {
  pieces = piece ∷ h.pieces;
  behind = h.behind;
  right = (right, h.right);
  spelled = ⊎_elim
      (λ (e : (behind ≡ flat_map spelling h.pieces) × (h.behind ≡ [])). inl (is ∙ ap (λ t. spelling piece ++ t) e.0, e.1))
      (λ (e : behind ≡ flat_map spelling h.pieces ++ (codes "--" ∷ h.behind)). inr
      (is ∙ (ap (λ t. spelling piece ++ t) e ∙ sym (append_assoc (spelling piece) (flat_map spelling h.pieces) (codes "--" ∷ h.behind)))))
      h.spelled;
  counted = omega (arith, h.counted, counts h.pieces);
}

finds_more : (command : List ℕ) (at next count more : ℕ) (words behind : List (List ℕ)) (piece : Piece) (r : Result ℕ WordFault) →
    IsPieceOf command piece → words ≡ spelling piece ++ behind → next ≡ at + length (spelling piece) →
    ((pieces : List Piece) → more + length (positions_of pieces) ≡ count + length (positions_of (piece ∷ pieces))) → Finds command next more behind r →
    Finds command at count words r
finds_more command at next count more words behind piece (Ok all) right is later counts h =
    rest_more command count more words behind piece all right is counts h
finds_more command at next count more words behind piece (Err (W.Option place)) right is later counts h = record {
  word = h.word;
  rest = h.rest;
  is = at_more command at next words behind piece place h.word h.rest right is later h.is;
  form = h.form;
  no_mark = h.no_mark;
  none = h.none;
}
finds_more command at next count more words behind piece (Err (W.Value place)) right is later counts h = record {
  word = h.word;
  rest = h.rest;
  is = at_more command at next words behind piece place h.word h.rest right is later h.is;
  kind = h.kind;
  own = h.own;
  lacks = h.lacks;
}
finds_more command at next count more words behind piece (Err W.Absent) right is later counts h = absurd h
finds_more command at next count more words behind piece (Err W.Command) right is later counts h = absurd h
finds_more command at next count more words behind piece (Err (W.Positions given)) right is later counts h = absurd h
finds_more command at next count more words behind piece (Err W.Rest) right is later counts h = absurd h

-- the same by what may stand next
abbrev From : List ℕ → ℕ → NextWord → ℕ → List (List ℕ) → Result ℕ WordFault → Type 0
From command at D.Any count words r = Finds command at count words r
From command at (D.Value place kind) count words r =
    ((r ≡ Err (W.Value place)) × (option_and_then (value_in kind) (slice_get words 0) ≡ None))
    ⊎ ((value : ℕ) × (rest : List (List ℕ)) × (words ≡ decimal value ∷ rest) × IsBudget kind value × Finds command (at + 1) count rest r)
From command at D.Position count words r = r ≡ Ok (count + length words)

-- what the words behind one more give
abbrev Later : List ℕ → List (List ℕ) → Type 0
Later command words = (at : ℕ) (due : NextWord) (count : ℕ) → From command at due count words (scan_all command at words (scanned due count))

here : (command : List ℕ) (at : ℕ) (word : List ℕ) (words : List (List ℕ)) → IsAt command at (word ∷ words) at word words
here command at word words = record { pieces = []; right = tt; spelled = refl; placed = omega arith }

-- the name of a budget
waits : (command : List ℕ) (at count : ℕ) (word : List ℕ) (words : List (List ℕ)) (kind : BudgetKind) (r : Result ℕ WordFault) →
    takes command kind ≡ true → word ≡ kind_name kind → From command (at + 1) (D.Value at kind) count words r → Finds command at count (word ∷ words) r
waits command at count word words kind r own is (inl h) =
    let wrong : HasNoValue command at (word ∷ words) at =
    record { word = word; rest = words; is = here command at word words; kind = kind; own = own; lacks = inl (is, h.1) } in
    subst (λ (q : Result ℕ WordFault). Finds command at count (word ∷ words) q) (sym h.0) wrong
waits command at count word words kind r own is (inr h) =
    let whole : word ∷ words ≡ kind_name kind ∷ decimal h.0 ∷ h.1 = ap (λ w. w ∷ words) is ∙ ap (λ ws. kind_name kind ∷ ws) h.2 in
    finds_more command at (at + 1 + 1) count count (word ∷ words) h.1 (Apart kind h.0) r (own, h.3) whole (omega arith) (λ pieces. refl) h.4

-- a word that begins as an option
option_scanned : (command : List ℕ) (at count : ℕ) (word : List ℕ) (words : List (List ℕ)) → is_option word ≡ true → word ≢ codes "--" →
    Later command words → (o : Opening) → Opens command word o ⊎ ((o ≡ O.Unknown) × NamesNone command word) →
    Finds command at count (word ∷ words) (option_word at count o >>= λ next. scan_all command (at + 1) words next)
option_scanned command at count word words form no_mark later (O.Waits kind) (inl h) =
    waits command at count word words kind (scan_all command (at + 1) words (scanned (D.Value at kind) count)) h.0 h.1
    (later (at + 1) (D.Value at kind) count)
option_scanned command at count word words form no_mark later (O.Waits kind) (inr h) = absurd (differ h.0)
  where
    differ : O.Waits kind ≡ O.Unknown → ⊥
    differ e = cc
option_scanned command at count word words form no_mark later O.Whole (inl h) =
    finds_more command at (at + 1) count count (word ∷ words) words (Joined h.0 h.1) (scan_all command (at + 1) words (scanned D.Any count)) (h.2, h.3)
    (ap (λ w. w ∷ words) h.4) refl (λ pieces. refl) (later (at + 1) D.Any count)
option_scanned command at count word words form no_mark later O.Whole (inr h) = absurd (differ h.0)
  where
    differ : O.Whole ≡ O.Unknown → ⊥
    differ e = cc
option_scanned command at count word words form no_mark later O.Bad (inl h) =
    record { word = word; rest = words; is = here command at word words; kind = h.0; own = h.2; lacks = inr (h.1, h.3, h.4) }
option_scanned command at count word words form no_mark later O.Bad (inr h) = absurd (differ h.0)
  where
    differ : O.Bad ≡ O.Unknown → ⊥
    differ e = cc
option_scanned command at count word words form no_mark later O.Unknown (inl h) = absurd h
option_scanned command at count word words form no_mark later O.Unknown (inr h) =
    record { word = word; rest = words; is = here command at word words; form = form; no_mark = no_mark; none = h.1 }

-- a word where neither a value is due nor `--` has come
any_scanned : (command : List ℕ) (at count : ℕ) (word : List ℕ) (words : List (List ℕ)) → Later command words →
    Finds command at count (word ∷ words) (any_word command at count word >>= λ next. scan_all command (at + 1) words next)
any_scanned command at count word words later = by (bytes_eq word (codes "--")) refl (is_option word) refl
  where
    dashes : word ≡ codes "--" → (r : Result ℕ WordFault) → r ≡ Ok (count + length words) → Finds command at count (word ∷ words) r
    dashes is r e =
        let right : AreRest command count (word ∷ words) (count + length words) =
        record { pieces = []; behind = words; right = tt; spelled = inr (ap (λ w. w ∷ words) is); counted = omega arith } in
        subst (λ (q : Result ℕ WordFault). Finds command at count (word ∷ words) q) (sym e) right

    by : (d : Bool) → bytes_eq word (codes "--") ≡ d → (o : Bool) → is_option word ≡ o →
        Finds command at count (word ∷ words)
        (cond d (Ok (scanned D.Position count)) (cond o (option_word at count (opening_of command word)) (Ok (scanned D.Any (count + 1))))
        >>= λ next. scan_all command (at + 1) words next)
    by true d o p =
        dashes ((bytes_eq-Decides word (codes "--")).0 d) (scan_all command (at + 1) words (scanned D.Position count)) (later (at + 1) D.Position count)
    by false d false p =
        finds_more command at (at + 1) count (count + 1) (word ∷ words) words (Word word) (scan_all command (at + 1) words (scanned D.Any (count + 1))) p
        refl refl (λ pieces. omega arith) (later (at + 1) D.Any (count + 1))
    by false d true p =
        option_scanned command at count word words p (λ same. false≢true (sym d ∙ (bytes_eq-Decides word (codes "--")).1 same)) later
        (opening_of command word) (opens_of command word)

value_scanned : (command : List ℕ) (at place : ℕ) (kind : BudgetKind) (count : ℕ) (word : List ℕ) (words : List (List ℕ)) → Later command words →
    From command at (D.Value place kind) count (word ∷ words)
    (value_word place count (value_in kind word) >>= λ next. scan_all command (at + 1) words next)
value_scanned command at place kind count word words later = by (value_in kind word) refl
  where
    by : (o : Option ℕ) → value_in kind word ≡ o →
        From command at (D.Value place kind) count (word ∷ words) (value_word place count o >>= λ next. scan_all command (at + 1) words next)
    by None none = inl (refl, none)
    by (Some n) some =
        let v = value_is kind word n some in
        inr (n, words, ap (λ w. w ∷ words) v.0, v.1, later (at + 1) D.Any count)

word_scanned : (command : List ℕ) (word : List ℕ) (words : List (List ℕ)) → Later command words → Later command (word ∷ words)
word_scanned command word words later at D.Any count = any_scanned command at count word words later
word_scanned command word words later at (D.Value place kind) count = value_scanned command at place kind count word words later
word_scanned command word words later at D.Position count =
    let more : count + 1 + length words ≡ count + length (word ∷ words) = omega arith in
    later (at + 1) D.Position (count + 1) ∙ ap (λ (n : ℕ). Ok n) more

none_scanned : (command : List ℕ) → Later command []
none_scanned command at D.Any count = record { pieces = []; behind = []; right = tt; spelled = inl (refl, refl); counted = omega arith }
none_scanned command at (D.Value place kind) count = inl (refl, refl)
none_scanned command at D.Position count = let same : count ≡ count + 0 = omega arith in ap (λ (n : ℕ). Ok n) same

all_scanned : (command : List ℕ) (words : List (List ℕ)) → Later command words
all_scanned command [] = none_scanned command
all_scanned command (word ∷ words) = word_scanned command word words (all_scanned command words)

-- ---- the whole

known_from : (command : List ℕ) (wanted : ℕ) → taken command ≡ Some wanted → IsSome (taken command)
known_from command wanted is = subst (λ (o : Option ℕ). IsSome o) (sym is) refl

reached_from : (command : List ℕ) (words : List (List ℕ)) (wanted place : ℕ) (word : List ℕ) (rest : List (List ℕ)) → taken command ≡ Some wanted →
    IsAt command 1 words place word rest → IsReached (command ∷ words) place word rest
reached_from command words wanted place word rest is h = record {
  known = known_from command wanted is;
  pieces = h.pieces;
  right = h.right;
  spelled = ap (λ t. command ∷ t) h.spelled;
  place = omega (arith, h.placed);
}

right_from : (command : List ℕ) (words : List (List ℕ)) (all count : ℕ) → AreRest command 0 words all → all ≡ count → AreRight (command ∷ words) count
right_from command words all count h same = record {
  pieces = h.pieces;
  behind = h.behind;
  right = h.right;
  spelled = ⊎_elim
      (λ (e : (words ≡ flat_map spelling h.pieces) × (h.behind ≡ [])). inl (ap (λ t. command ∷ t) e.0, e.1))
      (λ (e : words ≡ flat_map spelling h.pieces ++ (codes "--" ∷ h.behind)). inr (ap (λ t. command ∷ t) e))
      h.spelled;
  counted = omega (arith, h.counted, same);
}

fault_found : (command : List ℕ) (words : List (List ℕ)) (wanted : ℕ) (r : Result ℕ WordFault) → taken command ≡ Some wanted → Finds command 1 0 words r →
    IsWordFault (command ∷ words) (fault_if wanted r)
fault_found command words wanted (Ok all) is h = by (all == wanted) refl
  where
    by : (b : Bool) → (all == wanted) ≡ b → IsWordFault (command ∷ words) (cond b W.Rest (W.Positions all))
    by true same = record { wanted = wanted; known = is; right = right_from command words all wanted h (eqb-true all wanted same) }
    by false other = record { wanted = wanted; known = is; other = eqb-false all wanted other; right = right_from command words all all h refl }
fault_found command words wanted (Err (W.Option place)) is h = record {
  word = h.word;
  rest = h.rest;
  reached = reached_from command words wanted place h.word h.rest is h.is;
  form = h.form;
  no_mark = h.no_mark;
  none = h.none;
}
fault_found command words wanted (Err (W.Value place)) is h = record {
  word = h.word;
  rest = h.rest;
  reached = reached_from command words wanted place h.word h.rest is h.is;
  kind = h.kind;
  own = h.own;
  lacks = h.lacks;
}
fault_found command words wanted (Err W.Absent) is h = absurd h
fault_found command words wanted (Err W.Command) is h = absurd h
fault_found command words wanted (Err (W.Positions given)) is h = absurd h
fault_found command words wanted (Err W.Rest) is h = absurd h

fault_of_is : (words : List (List ℕ)) → IsWordFault words (fault_of words)
fault_of_is [] = refl
fault_of_is (command ∷ words) = by (taken command) refl
  where
    by : (o : Option ℕ) → taken command ≡ o → IsWordFault (command ∷ words) (fault_behind command words o)
    by None none = (omega arith, none)
    by (Some wanted) is = fault_found command words wanted (scan_all command 1 words (scanned D.Any 0)) is (all_scanned command words 1 D.Any 0)

pub fault_is : (words : List (List ℕ)) (fault : WordFault) → fault ≡ fault_of words → IsWordFault words fault
fault_is words fault is = subst (λ (f : WordFault). IsWordFault words f) (sym is) (fault_of_is words)

-- ---- what a caller cites

reached_there : (words : List (List ℕ)) (at : ℕ) (word : List ℕ) (rest : List (List ℕ)) → IsReached words at word rest → at < length words
reached_there words at word rest h = omega (arith, h.place, ap length h.spelled, length-append (flat_map spelling h.pieces) (word ∷ rest))

-- the word that is blamed is there
pub option_there : (words : List (List ℕ)) (at : ℕ) → IsNoOption words at → at < length words
option_there words at h = reached_there words at h.word h.rest h.reached

pub value_there : (words : List (List ℕ)) (at : ℕ) → IsNoValue words at → at < length words
value_there words at h = reached_there words at h.word h.rest h.reached
