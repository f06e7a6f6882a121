-- The reading of words gives exactly the job that they spell.
use Rattle.std.proofs.Common.{◌≡◌, ◌⊎◌, inl, inr, ⊎_elim, ℕ, ◌<◌, ◌≤◌, ◌^◌, Bool, true, false, cond, ◌&&◌, List, [], ◌∷◌, ◌++◌, length, drop, refl}
use Rattle.std.proofs.Common.{arith, ap, sym, subst, ◌∙◌, Option, Some, None, append_assoc, append-nil, nat_eq}
use Rattle.std.specs.Prelude.{codes, decimal, nat_le, nat_lt}
use Rattle.std.specs.List.{AllByRecursion, flat_map, starts_with}
use Rattle.std.specs.Option.{option_map, option_and_then}
use Rattle.std.specs.Str.{bytes_eq}
use Rattle.std.proofs.lemmas.Slice.Eq.{bytes_eq-Decides}
use Rattle.std.proofs.lemmas.Bool.{and_parts, and_from, eqb-true, leb-true, le-leb, lt-ltb, ltb-true, true≢false, false≢true}
use Rattle.bs_bits.specs.Lines.{is_canonical, number_of, digits_in, number_in}
use Rattle.bs_bits.proofs.NumberLemmas.{canonical, decimal_canonical, number_of_decimal}
use Rattle.bs_bits.proofs.LineTextLemmas.{Lacks, number_lacks}
use Rattle.bs_top_words.specs.declared.options.BudgetKind.{BudgetKind}
use Rattle.bs_top_words.specs.declared.options.BudgetKind.TheVariants.{Steps, Candidates, Conflicts}
use Rattle.bs_top_words.specs.Options.{number_between, greatest, value_in, has_dash, is_option, rest_of}
use Rattle.bs_top_words.specs.Flags.{kind_name}
use Rattle.bs_top_words.specs.CommandLine.{CommandLine, once, set_to}
use Rattle.bs_top_words.proofs.Taking.{Mode, Plain, Wants, Names, state, behind, kind_of, set_if, set_by, add_to, in_mode, option_step, plain_step}
use Rattle.bs_top_words.proofs.Taking.{step, finish, read_all, read_on}
use Rattle.bs_top_words.specs.Spelling.{Piece, Word, Apart, Joined, spelling, IsBudget, IsPiece, positions_of, options_of, given, values_if}
use Rattle.bs_top_words.specs.Spelling.{values_of, listed}

-- ---- numbers

number_is : (word : List ℕ) (n : ℕ) → number_in word ≡ Some n → (decimal n ≡ word) × (n < 2 ^ 64)
number_is word n e = by (is_canonical word) refl e
  where
    below : is_canonical word ≡ true → (b : Bool) → nat_lt (number_of word) (2 ^ 64) ≡ b → cond b (Some (number_of word)) None ≡ Some n →
        (decimal n ≡ word) × (n < 2 ^ 64)
    below form true lt e =
        let same : number_of word ≡ n = cc in
        let read : Some (number_of word) ≡ digits_in word = sym (ap (λ b. cond b (Some (number_of word)) None) lt) in
        (ap decimal (sym same) ∙ canonical word (Some (number_of word)) form read, omega (arith, ltb-true (number_of word) (2 ^ 64) lt, same))
    below form false lt e = absurd cc

    by : (b : Bool) → is_canonical word ≡ b → cond b (digits_in word) None ≡ Some n → (decimal n ≡ word) × (n < 2 ^ 64)
    by true form e = below form (nat_lt (number_of word) (2 ^ 64)) refl e
    by false form e = absurd cc

number_again : (n : ℕ) → n < 2 ^ 64 → number_in (decimal n) ≡ Some n
number_again n lt =
    ap (λ b. cond b (digits_in (decimal n)) None) (decimal_canonical n lt)
    ∙ (ap (λ m. cond (nat_lt m (2 ^ 64)) (Some m) None) (number_of_decimal n lt)
    ∙ ap (λ b. cond b (Some n) None) (lt-ltb n (2 ^ 64) lt))

pub between_is : (low high : ℕ) (word : List ℕ) (n : ℕ) → number_between low high word ≡ Some n → (decimal n ≡ word) × (low ≤ n) × (n ≤ high) × (n < 2 ^ 64)
between_is low high word n e = by (number_in word) refl e
  where
    test : (m : ℕ) → number_in word ≡ Some m → (b : Bool) → (nat_le low m && nat_le m high) ≡ b → cond b (Some m) None ≡ Some n →
        (decimal n ≡ word) × (low ≤ n) × (n ≤ high) × (n < 2 ^ 64)
    test m read true within e =
        let same : m ≡ n = cc in
        let parts = and_parts (nat_le low m) (nat_le m high) within in
        let is = number_is word m read in
        (ap decimal (sym same) ∙ is.0, omega (arith, leb-true low m parts.0, same), omega (arith, leb-true m high parts.1, same), omega (arith, is.1, same))
    test m read false within e = absurd cc

    by : (o : Option ℕ) → number_in word ≡ o → option_and_then (λ (m : ℕ). cond (nat_le low m && nat_le m high) (Some m) None) o ≡ Some n →
        (decimal n ≡ word) × (low ≤ n) × (n ≤ high) × (n < 2 ^ 64)
    by None read e = absurd cc
    by (Some m) read e = test m read (nat_le low m && nat_le m high) refl e

pub between_again : (low high n : ℕ) → low ≤ n → n ≤ high → n < 2 ^ 64 → number_between low high (decimal n) ≡ Some n
between_again low high n least most lt =
    ap (λ o. option_and_then (λ (m : ℕ). cond (nat_le low m && nat_le m high) (Some m) None) o) (number_again n lt)
    ∙ ap (λ b. cond b (Some n) None) (and_from _ _ (le-leb low n least) (le-leb n high most))

great : (kind : BudgetKind) → greatest kind < 2 ^ 64
great Steps = omega arith
great Candidates = omega arith
great Conflicts = omega arith

pub value_is : (kind : BudgetKind) (word : List ℕ) (n : ℕ) → value_in kind word ≡ Some n → (word ≡ decimal n) × IsBudget kind n
value_is kind word n e = let is = between_is 1 (greatest kind) word n e in (sym is.0, (is.1, is.2))

value_again : (kind : BudgetKind) (n : ℕ) → IsBudget kind n → value_in kind (decimal n) ≡ Some n
value_again kind n h = between_again 1 (greatest kind) n h.0 h.1 (omega (arith, h.1, great kind))

no_dash : (text : List ℕ) → Lacks 45 text → has_dash text ≡ false
no_dash [] h = refl
no_dash (b ∷ bs) h = h.0

value_has_no_dash : (kind : BudgetKind) (n : ℕ) → IsBudget kind n → has_dash (decimal n) ≡ false
value_has_no_dash kind n h = no_dash (decimal n) (number_lacks 45 n (omega arith) (omega (arith, h.1, great kind)))

-- ---- an option's value in a line

abbrev with : CommandLine → BudgetKind → ℕ → CommandLine
with l Steps v = record l { steps = Some v }
with l Candidates v = record l { candidates = Some v }
with l Conflicts v = record l { conflicts = Some v }

once_is : (f : Option ℕ → CommandLine) (o v : Option ℕ) (new : CommandLine) → option_map f (once o v) ≡ Some new → (n : ℕ) × (o ≡ None) × (v ≡ Some n) × (f (Some n) ≡ new)
once_is f (Some m) v new e = absurd cc
once_is f None None new e = absurd cc
once_is f None (Some n) new e = (n, refl, refl, cc)

-- what a value that is taken says
record Sets (l : CommandLine) (kind : BudgetKind) (word : List ℕ) (new : CommandLine) : Type 0 where
  value : ℕ
  word_is : word ≡ decimal value
  budget : IsBudget kind value
  free : given l kind ≡ None
  new_is : with l kind value ≡ new

set_is : (l : CommandLine) (kind : BudgetKind) (word : List ℕ) (new : CommandLine) → set_to l kind word ≡ Some new → Sets l kind word new
set_is l Steps word new e =
    let once = once_is (λ (o : Option ℕ). record l { steps = o }) l.steps (value_in Steps word) new e in
    let is = value_is Steps word once.0 once.2 in
    record { value = once.0; word_is = is.0; budget = is.1; free = once.1; new_is = once.3 }
set_is l Candidates word new e =
    let once = once_is (λ (o : Option ℕ). record l { candidates = o }) l.candidates (value_in Candidates word) new e in
    let is = value_is Candidates word once.0 once.2 in
    record { value = once.0; word_is = is.0; budget = is.1; free = once.1; new_is = once.3 }
set_is l Conflicts word new e =
    let once = once_is (λ (o : Option ℕ). record l { conflicts = o }) l.conflicts (value_in Conflicts word) new e in
    let is = value_is Conflicts word once.0 once.2 in
    record { value = once.0; word_is = is.0; budget = is.1; free = once.1; new_is = once.3 }

once_again : (f : Option ℕ → CommandLine) (o v : Option ℕ) (n : ℕ) → o ≡ None → v ≡ Some n → option_map f (once o v) ≡ Some (f (Some n))
once_again f o v n none some = rw (none, some) refl

set_again : (l : CommandLine) (kind : BudgetKind) (n : ℕ) → IsBudget kind n → given l kind ≡ None → set_to l kind (decimal n) ≡ Some (with l kind n)
set_again l Steps n h free = once_again (λ (o : Option ℕ). record l { steps = o }) l.steps (value_in Steps (decimal n)) n free (value_again Steps n h)
set_again l Candidates n h free =
    once_again (λ (o : Option ℕ). record l { candidates = o }) l.candidates (value_in Candidates (decimal n)) n free (value_again Candidates n h)
set_again l Conflicts n h free =
    once_again (λ (o : Option ℕ). record l { conflicts = o }) l.conflicts (value_in Conflicts (decimal n)) n free (value_again Conflicts n h)

-- ---- one word that is an option

wants_name : (l : CommandLine) (kind : BudgetKind) → plain_step true l (kind_name kind) ≡ Some (record { mode = Wants kind; line = l })
wants_name l Steps = refl
wants_name l Candidates = refl
wants_name l Conflicts = refl

takes_joined : (l : CommandLine) (kind : BudgetKind) (digits : List ℕ) → plain_step true l (kind_name kind ++ (codes "=" ++ digits)) ≡ in_mode Plain (set_to l kind digits)
takes_joined l Steps digits = refl
takes_joined l Candidates digits = refl
takes_joined l Conflicts digits = refl

begins : (prefix word : List ℕ) → starts_with nat_eq word prefix ≡ true → word ≡ prefix ++ drop (length prefix) word
begins [] word e = refl
begins (p ∷ ps) [] e = absurd (false≢true e)
begins (p ∷ ps) (w ∷ ws) e =
    let parts = and_parts (nat_eq p w) (starts_with nat_eq ws ps) e in
    ap (λ c. c ∷ ws) (sym (eqb-true p w parts.0)) ∙ ap (λ t. p ∷ t) (begins ps ws parts.1)

rest_is : (prefix word rest : List ℕ) → rest_of prefix word ≡ Some rest → word ≡ prefix ++ rest
rest_is prefix word rest e = by (starts_with nat_eq word prefix) refl e
  where
    by : (b : Bool) → starts_with nat_eq word prefix ≡ b → cond b (Some (drop (length prefix) word)) None ≡ Some rest → word ≡ prefix ++ rest
    by true is e = let same : drop (length prefix) word ≡ rest = cc in begins prefix word is ∙ ap (λ t. prefix ++ t) same
    by false is e = absurd cc

-- a word such as `--steps=5`
record Joins (l : CommandLine) (word : List ℕ) (new : CommandLine) : Type 0 where
  kind : BudgetKind
  digits : List ℕ
  spelled : word ≡ kind_name kind ++ (codes "=" ++ digits)
  sets : Sets l kind digits new

pub behind_is : (kind : BudgetKind) (word rest : List ℕ) → behind kind word ≡ Some rest → word ≡ kind_name kind ++ (codes "=" ++ rest)
behind_is kind word rest e = by (rest_of (kind_name kind) word) refl e
  where
    by : (o : Option (List ℕ)) → rest_of (kind_name kind) word ≡ o → option_and_then (rest_of (codes "=")) o ≡ Some rest →
        word ≡ kind_name kind ++ (codes "=" ++ rest)
    by None is e = absurd cc
    by (Some more) is e = rest_is (kind_name kind) word more is ∙ ap (λ t. kind_name kind ++ t) (rest_is (codes "=") more rest e)

joins_is : (l : CommandLine) (word : List ℕ) (new : CommandLine) → set_by l word ≡ Some new → Joins l word new
joins_is l word new e = steps (behind Steps word) refl (behind Candidates word) refl (behind Conflicts word) refl e
  where
    one : (kind : BudgetKind) (rest : List ℕ) → behind kind word ≡ Some rest → set_to l kind rest ≡ Some new → Joins l word new
    one kind rest is e = record { kind = kind; digits = rest; spelled = behind_is kind word rest is; sets = set_is l kind rest new e }

    conflicts : (o : Option (List ℕ)) → behind Conflicts word ≡ o → set_if l Conflicts o None ≡ Some new → Joins l word new
    conflicts None r e = absurd cc
    conflicts (Some rest) r e = one Conflicts rest r e

    candidates : (o : Option (List ℕ)) → behind Candidates word ≡ o → (p : Option (List ℕ)) → behind Conflicts word ≡ p →
        set_if l Candidates o (set_if l Conflicts p None) ≡ Some new → Joins l word new
    candidates None r p q e = conflicts p q e
    candidates (Some rest) r p q e = one Candidates rest r e

    steps : (s : Option (List ℕ)) → behind Steps word ≡ s → (o : Option (List ℕ)) → behind Candidates word ≡ o →
        (p : Option (List ℕ)) → behind Conflicts word ≡ p →
        set_if l Steps s (set_if l Candidates o (set_if l Conflicts p None)) ≡ Some new → Joins l word new
    steps None t o r p q e = candidates o r p q e
    steps (Some rest) t o r p q e = one Steps rest t e

kind_is : (word : List ℕ) (kind : BudgetKind) → kind_of word ≡ Some kind → word ≡ kind_name kind
kind_is word kind e = by (bytes_eq word (codes "--steps")) refl (bytes_eq word (codes "--candidates")) refl (bytes_eq word (codes "--conflicts")) refl e
  where
    one : (k : BudgetKind) → bytes_eq word (kind_name k) ≡ true → k ≡ kind → word ≡ kind_name kind
    one k is same = (bytes_eq-Decides word (kind_name k)).0 is ∙ ap kind_name same

    by : (s : Bool) → bytes_eq word (codes "--steps") ≡ s → (c : Bool) → bytes_eq word (codes "--candidates") ≡ c → (m : Bool) →
        bytes_eq word (codes "--conflicts") ≡ m →
        cond s (Some Steps) (cond c (Some Candidates) (cond m (Some Conflicts) None)) ≡ Some kind → word ≡ kind_name kind
    by true s c q m p e = one Steps s cc
    by false s true q m p e = one Candidates q cc
    by false s false q true p e = one Conflicts p cc
    by false s false q false p e = absurd cc

takes_word : (options : Bool) (l : CommandLine) (word : List ℕ) → is_option word ≡ false →
    plain_step options l word ≡ Some (record { mode = Plain; line = add_to l word })
takes_word options l word h = by (bytes_eq word (codes "--")) refl
  where
    not_dashes : bytes_eq word (codes "--") ≡ true → ⊥
    not_dashes is = true≢false (sym (ap is_option ((bytes_eq-Decides word (codes "--")).0 is)) ∙ h)

    by : (b : Bool) → bytes_eq word (codes "--") ≡ b →
        cond b (Some (record { mode = Names; line = l }))
        (cond (is_option word) (cond options (option_step l word (kind_of word)) None) (Some (record { mode = Plain; line = add_to l word }))) ≡ Some
        (record { mode = Plain; line = add_to l word })
    by true is = absurd (not_dashes is)
    by false is = ap (λ b. cond b (cond options (option_step l word (kind_of word)) None) (Some (record { mode = Plain; line = add_to l word }))) h

-- ---- what a line gives an option

pub listed_same : (a b : Option ℕ) → listed a ≡ listed b → a ≡ b
listed_same None None e = refl
listed_same None (Some n) e = absurd cc
listed_same (Some m) None e = absurd cc
listed_same (Some m) (Some n) e = let same : m ≡ n = cc in ap (λ k. Some k) same

none_listed : (o : Option ℕ) → o ≡ None → listed o ≡ []
none_listed o e = ap listed e

-- an option that is given a value has it before the values of later ones
spread : (l : CommandLine) (k : BudgetKind) (v : ℕ) (kind : BudgetKind) (vs : List ℕ) → given l k ≡ None →
    listed (given (with l k v) kind) ++ vs ≡ listed (given l kind) ++ values_if kind k v vs
spread l Steps v Steps vs free = ap (λ xs. xs ++ v ∷ vs) (sym (none_listed l.steps free))
spread l Steps v Candidates vs free = refl
spread l Steps v Conflicts vs free = refl
spread l Candidates v Steps vs free = refl
spread l Candidates v Candidates vs free = ap (λ xs. xs ++ v ∷ vs) (sym (none_listed l.candidates free))
spread l Candidates v Conflicts vs free = refl
spread l Conflicts v Steps vs free = refl
spread l Conflicts v Candidates vs free = refl
spread l Conflicts v Conflicts vs free = ap (λ xs. xs ++ v ∷ vs) (sym (none_listed l.conflicts free))

-- the values of an option's own kind
pub own_values : (kind : BudgetKind) (v : ℕ) (vs : List ℕ) → values_if kind kind v vs ≡ v ∷ vs
own_values Steps v vs = refl
own_values Candidates v vs = refl
own_values Conflicts v vs = refl

-- ---- from a line to what was read

-- the words that are left spell what a line has more than before
pub record Rest (options : Bool) (l : CommandLine) (words : List (List ℕ)) (line : CommandLine) : Type 0 where
  pub pieces : List Piece
  pub behind : List (List ℕ)
  pub spelled : ((words ≡ flat_map spelling pieces) × (behind ≡ [])) ⊎ (words ≡ flat_map spelling pieces ++ (codes "--" ∷ behind))
  pub right : AllByRecursion IsPiece pieces
  pub positions : line.positions ≡ l.positions ++ (positions_of pieces ++ behind)
  pub given_more : (kind : BudgetKind) → listed (given line kind) ≡ listed (given l kind) ++ values_of kind (options_of pieces)
  pub none_here : options ≡ false → options_of pieces ≡ []

-- one piece before the others
before : (options : Bool) (l m line : CommandLine) (piece : Piece) (words rest : List (List ℕ)) → words ≡ spelling piece ++ rest → IsPiece piece →
    (positions : (xs : List Piece) (ys : List (List ℕ)) → m.positions ++ (positions_of xs ++ ys) ≡ l.positions ++ (positions_of (piece ∷ xs) ++ ys)) →
    ((xs : List Piece) (kind : BudgetKind) →
    listed (given m kind) ++ values_of kind (options_of xs) ≡ listed (given l kind) ++ values_of kind (options_of (piece ∷ xs))) →
    (options ≡ false → (xs : List Piece) → options_of xs ≡ [] → options_of (piece ∷ xs) ≡ []) → Rest options m rest line → Rest options l words line
before options l m line piece words rest is right positions more none r =
    record {
      pieces = piece ∷ r.pieces;
      behind = r.behind;
      spelled = ⊎_elim
          (λ (h : (rest ≡ flat_map spelling r.pieces) × (r.behind ≡ [])). inl (is ∙ ap (λ t. spelling piece ++ t) h.0, h.1))
          (λ (h : rest ≡ flat_map spelling r.pieces ++ (codes "--" ∷ r.behind)). inr
          (is ∙ (ap (λ t. spelling piece ++ t) h ∙ sym (append_assoc (spelling piece) (flat_map spelling r.pieces) (codes "--" ∷ r.behind)))))
          r.spelled;
      right = (right, r.right);
      positions = r.positions ∙ positions r.pieces r.behind;
      given_more = λ kind. r.given_more kind ∙ more r.pieces kind;
      none_here = λ off. none off r.pieces (r.none_here off);
    }

before_word : (options : Bool) (l line : CommandLine) (word : List ℕ) (rest : List (List ℕ)) → is_option word ≡ false →
    Rest options (add_to l word) rest line → Rest options l (word ∷ rest) line
before_word options l line word rest h r =
    before options l (add_to l word) line (Word word) (word ∷ rest) rest refl h
    (λ xs ys. append_assoc l.positions (word ∷ []) (positions_of xs ++ ys)) (λ xs kind. same kind (values_of kind (options_of xs))) (λ off xs none. none) r
  where
    same : (kind : BudgetKind) (xs : List ℕ) → listed (given (add_to l word) kind) ++ xs ≡ listed (given l kind) ++ xs
    same Steps xs = refl
    same Candidates xs = refl
    same Conflicts xs = refl

with_positions : (l : CommandLine) (kind : BudgetKind) (v : ℕ) → (with l kind v).positions ≡ l.positions
with_positions l Steps v = refl
with_positions l Candidates v = refl
with_positions l Conflicts v = refl

before_apart : (l line : CommandLine) (kind : BudgetKind) (v : ℕ) (rest : List (List ℕ)) → IsBudget kind v → given l kind ≡ None →
    Rest true (with l kind v) rest line → Rest true l (kind_name kind ∷ decimal v ∷ rest) line
before_apart l line kind v rest h free r =
    before true l (with l kind v) line (Apart kind v) (kind_name kind ∷ decimal v ∷ rest) rest refl h
    (λ xs ys. ap (λ ps. ps ++ (positions_of xs ++ ys)) (with_positions l kind v)) (λ xs k. spread l kind v k (values_of k (options_of xs)) free)
    (λ off. absurd (true≢false off)) r

before_joined : (l line : CommandLine) (kind : BudgetKind) (v : ℕ) (rest : List (List ℕ)) → IsBudget kind v → given l kind ≡ None → Rest true (with l kind v) rest line →
    Rest true l ((kind_name kind ++ (codes "=" ++ decimal v)) ∷ rest) line
before_joined l line kind v rest h free r =
    before true l (with l kind v) line (Joined kind v) ((kind_name kind ++ (codes "=" ++ decimal v)) ∷ rest) rest refl h
    (λ xs ys. ap (λ ps. ps ++ (positions_of xs ++ ys)) (with_positions l kind v)) (λ xs k. spread l kind v k (values_of k (options_of xs)) free)
    (λ off. absurd (true≢false off)) r

-- the same by what may stand next
abbrev pub From : Bool → Mode → CommandLine → List (List ℕ) → CommandLine → Type 0
From options Plain l words line = Rest options l words line
From options (Wants kind) l words line =
    (v : ℕ) × (rest : List (List ℕ)) × (words ≡ decimal v ∷ rest) × IsBudget kind v × (given l kind ≡ None) × Rest options (with l kind v) rest line
From options Names l words line = line ≡ record l { positions = l.positions ++ words }

nothing_left : (options : Bool) (mode : Mode) (l line : CommandLine) → finish mode l ≡ Some line → From options mode l [] line
nothing_left options Plain l line e =
    let same : l ≡ line = cc in
    record {
      pieces = [];
      behind = [];
      spelled = inl (refl, refl);
      right = tt;
      positions = ap (λ k. k.positions) (sym same) ∙ sym (append-nil l.positions);
      given_more = λ kind. ap (λ k. listed (given k kind)) (sym same) ∙ sym (append-nil (listed (given l kind)));
      none_here = λ off. refl;
    }
nothing_left options (Wants kind) l line e = absurd cc
nothing_left options Names l line e =
    let same : l ≡ line = cc in
    sym same ∙ ap (λ ps. record l { positions = ps }) (sym (append-nil l.positions))

-- what the words behind one more say
abbrev Later : Bool → List (List ℕ) → CommandLine → Type 0
Later options rest line = (mode : Mode) (l : CommandLine) → read_all options rest (state mode l) ≡ Some line → From options mode l rest line

behind_dashes : (options : Bool) (l line : CommandLine) (rest : List (List ℕ)) → line ≡ record l { positions = l.positions ++ rest } →
    Rest options l (codes "--" ∷ rest) line
behind_dashes options l line rest e =
    record {
      pieces = [];
      behind = rest;
      spelled = inr refl;
      right = tt;
      positions = ap (λ k. k.positions) e;
      given_more = λ kind. ap (λ k. listed (given k kind)) e ∙ same kind;
      none_here = λ off. refl;
    }
  where
    same : (kind : BudgetKind) → listed (given (record l { positions = l.positions ++ rest }) kind) ≡ listed (given l kind) ++ []
    same Steps = sym (append-nil (listed l.steps))
    same Candidates = sym (append-nil (listed l.candidates))
    same Conflicts = sym (append-nil (listed l.conflicts))

-- the value of an option, as the next word
sound_value : (options : Bool) (kind : BudgetKind) (l line : CommandLine) (word : List ℕ) (rest : List (List ℕ)) → Later options rest line →
    read_on options rest (in_mode Plain (set_to l kind word)) ≡ Some line →
    From options (Wants kind) l (word ∷ rest) line
sound_value options kind l line word rest later e = by (set_to l kind word) refl e
  where
    by : (o : Option CommandLine) → set_to l kind word ≡ o → read_on options rest (in_mode Plain o) ≡ Some line → From options (Wants kind) l (word ∷ rest) line
    by None is e = absurd cc
    by (Some new) is e =
        let s = set_is l kind word new is in
        let r : Rest options new rest line = later Plain new e in
        (s.value, rest, ap (λ w. w ∷ rest) s.word_is, s.budget, s.free, subst (λ (k : CommandLine). Rest options k rest line) (sym s.new_is) r)

-- a word such as `--steps=5`
sound_joined : (l line : CommandLine) (word : List ℕ) (rest : List (List ℕ)) → Later true rest line →
    read_on true rest (in_mode Plain (set_by l word)) ≡ Some line → Rest true l (word ∷ rest) line
sound_joined l line word rest later e = by (set_by l word) refl e
  where
    by : (o : Option CommandLine) → set_by l word ≡ o → read_on true rest (in_mode Plain o) ≡ Some line → Rest true l (word ∷ rest) line
    by None is e = absurd cc
    by (Some new) is e =
        let j = joins_is l word new is in
        let s = j.sets in
        let r : Rest true new rest line = later Plain new e in
        let spelled : word ≡ kind_name j.kind ++ (codes "=" ++ decimal s.value) = j.spelled ∙ ap (λ d. kind_name j.kind ++ (codes "=" ++ d)) s.word_is in
        subst (λ (w : List ℕ). Rest true l (w ∷ rest) line) (sym spelled)
        (before_joined l line j.kind s.value rest s.budget s.free (subst (λ (k : CommandLine). Rest true k rest line) (sym s.new_is) r))

sound_option : (l line : CommandLine) (word : List ℕ) (rest : List (List ℕ)) → Later true rest line →
    read_on true rest (option_step l word (kind_of word)) ≡ Some line → Rest true l (word ∷ rest) line
sound_option l line word rest later e = by (kind_of word) refl e
  where
    by : (o : Option BudgetKind) → kind_of word ≡ o → read_on true rest (option_step l word o) ≡ Some line → Rest true l (word ∷ rest) line
    by None is e = sound_joined l line word rest later e
    by (Some kind) is e =
        let w = later (Wants kind) l e in
        let whole : word ∷ rest ≡ kind_name kind ∷ decimal w.0 ∷ w.1 = ap (λ t. t ∷ rest) (kind_is word kind is) ∙ ap (λ ws. kind_name kind ∷ ws) w.2 in
        subst (λ (ws : List (List ℕ)). Rest true l ws line) (sym whole) (before_apart l line kind w.0 w.1 w.3 w.4 w.5)

sound_plain : (options : Bool) (l line : CommandLine) (word : List ℕ) (rest : List (List ℕ)) → Later options rest line →
    read_on options rest (plain_step options l word) ≡ Some line → Rest options l (word ∷ rest) line
sound_plain options l line word rest later e = by (bytes_eq word (codes "--")) refl (is_option word) refl options later e
  where
    by : (d : Bool) → bytes_eq word (codes "--") ≡ d → (o : Bool) → is_option word ≡ o → (options : Bool) → Later options rest line →
        read_on options rest (cond d (Some (state Names l))
        (cond o (cond options (option_step l word (kind_of word)) None) (Some (state Plain (add_to l word))))) ≡ Some line → Rest options l (word ∷ rest) line
    by true d o p options later e =
        subst (λ (w : List ℕ). Rest options l (w ∷ rest) line) (sym ((bytes_eq-Decides word (codes "--")).0 d))
        (behind_dashes options l line rest (later Names l e))
    by false d false p options later e = before_word options l line word rest p (later Plain (add_to l word) e)
    by false d true p true later e = sound_option l line word rest later e
    by false d true p false later e = absurd cc

sound_step : (options : Bool) (mode : Mode) (l line : CommandLine) (word : List ℕ) (rest : List (List ℕ)) → Later options rest line →
    read_on options rest (step options mode l word) ≡ Some line → From options mode l (word ∷ rest) line
sound_step options Plain l line word rest later e = sound_plain options l line word rest later e
sound_step options (Wants kind) l line word rest later e = by (has_dash word) e
  where
    by : (b : Bool) → read_on options rest (cond b None (in_mode Plain (set_to l kind word))) ≡ Some line → From options (Wants kind) l (word ∷ rest) line
    by true e = absurd cc
    by false e = sound_value options kind l line word rest later e
sound_step options Names l line word rest later e =
    later Names (add_to l word) e ∙ ap (λ ps. record l { positions = ps }) (append_assoc l.positions (word ∷ []) rest)

pub read_sound : (options : Bool) (words : List (List ℕ)) (mode : Mode) (l line : CommandLine) → read_all options words (state mode l) ≡ Some line →
    From options mode l words line
read_sound options [] mode l line e = nothing_left options mode l line e
read_sound options (word ∷ rest) mode l line e = sound_step options mode l line word rest (λ m k f. read_sound options rest m k line f) e

-- ---- from words that spell a line to its reading

unfoldable pub after : CommandLine → List Piece → CommandLine
after l [] = l
after l (Word word ∷ pieces) = after (add_to l word) pieces
after l (Apart kind v ∷ pieces) = after (with l kind v) pieces
after l (Joined kind v ∷ pieces) = after (with l kind v) pieces

-- no option has a value before it is given one
abbrev pub Fresh : CommandLine → List Piece → Type 0
Fresh l [] = Unit {0}
Fresh l (Word word ∷ pieces) = Fresh (add_to l word) pieces
Fresh l (Apart kind v ∷ pieces) = (given l kind ≡ None) × Fresh (with l kind v) pieces
Fresh l (Joined kind v ∷ pieces) = (given l kind ≡ None) × Fresh (with l kind v) pieces

pub read_names : (options : Bool) (words : List (List ℕ)) (l : CommandLine) →
    read_all options words (state Names l) ≡ Some (record l { positions = l.positions ++ words })
read_names options [] l = ap (λ ps. Some (record l { positions = ps })) (sym (append-nil l.positions))
read_names options (word ∷ words) l =
    read_names options words (add_to l word) ∙ ap (λ ps. Some (record l { positions = ps })) (append_assoc l.positions (word ∷ []) words)

value_read : (l : CommandLine) (kind : BudgetKind) (v : ℕ) → IsBudget kind v → given l kind ≡ None →
    step true (Wants kind) l (decimal v) ≡ Some (state Plain (with l kind v))
value_read l kind v h free =
    ap (λ b. cond b None (in_mode Plain (set_to l kind (decimal v)))) (value_has_no_dash kind v h) ∙ ap (in_mode Plain) (set_again l kind v h free)

-- whether the command takes the options of some pieces
abbrev Allows : Bool → List Piece → Type 0
Allows options pieces = (options ≡ true) ⊎ (options_of pieces ≡ [])

pub read_pieces : (options : Bool) (pieces : List Piece) (l : CommandLine) (rest : List (List ℕ)) → AllByRecursion IsPiece pieces → Fresh l pieces →
    Allows options pieces →
    read_all options (flat_map spelling pieces ++ rest) (state Plain l) ≡ read_all options rest (state Plain (after l pieces))
unfolding after
read_pieces options [] l rest right fresh allows = refl
read_pieces options (Word word ∷ pieces) l rest right fresh allows =
    ap (read_on options (flat_map spelling pieces ++ rest)) (takes_word options l word right.0)
    ∙ read_pieces options pieces (add_to l word) rest right.1 fresh allows
read_pieces true (Apart kind v ∷ pieces) l rest right fresh allows =
    ap (read_on true (decimal v ∷ (flat_map spelling pieces ++ rest))) (wants_name l kind)
    ∙ (ap (read_on true (flat_map spelling pieces ++ rest)) (value_read l kind v right.0 fresh.0)
    ∙ read_pieces true pieces (with l kind v) rest right.1 fresh.1 (inl refl))
read_pieces false (Apart kind v ∷ pieces) l rest right fresh (inl on) = absurd (false≢true on)
read_pieces false (Apart kind v ∷ pieces) l rest right fresh (inr none) = absurd cc
read_pieces true (Joined kind v ∷ pieces) l rest right fresh allows =
    ap (read_on true (flat_map spelling pieces ++ rest)) (takes_joined l kind (decimal v) ∙ ap (in_mode Plain) (set_again l kind v right.0 fresh.0))
    ∙ read_pieces true pieces (with l kind v) rest right.1 fresh.1 (inl refl)
read_pieces false (Joined kind v ∷ pieces) l rest right fresh (inl on) = absurd (false≢true on)
read_pieces false (Joined kind v ∷ pieces) l rest right fresh (inr none) = absurd cc

pub after_positions : (pieces : List Piece) (l : CommandLine) → (after l pieces).positions ≡ l.positions ++ positions_of pieces
unfolding after
after_positions [] l = sym (append-nil l.positions)
after_positions (Word word ∷ pieces) l = after_positions pieces (add_to l word) ∙ append_assoc l.positions (word ∷ []) (positions_of pieces)
after_positions (Apart kind v ∷ pieces) l = after_positions pieces (with l kind v) ∙ ap (λ ps. ps ++ positions_of pieces) (with_positions l kind v)
after_positions (Joined kind v ∷ pieces) l = after_positions pieces (with l kind v) ∙ ap (λ ps. ps ++ positions_of pieces) (with_positions l kind v)

same_given : (l : CommandLine) (word : List ℕ) (kind : BudgetKind) → listed (given (add_to l word) kind) ≡ listed (given l kind)
same_given l word Steps = refl
same_given l word Candidates = refl
same_given l word Conflicts = refl

pub after_given : (pieces : List Piece) (l : CommandLine) (kind : BudgetKind) → Fresh l pieces →
    listed (given (after l pieces) kind) ≡ listed (given l kind) ++ values_of kind (options_of pieces)
unfolding after
after_given [] l kind fresh = sym (append-nil (listed (given l kind)))
after_given (Word word ∷ pieces) l kind fresh =
    after_given pieces (add_to l word) kind fresh ∙ ap (λ xs. xs ++ values_of kind (options_of pieces)) (same_given l word kind)
after_given (Apart k v ∷ pieces) l kind fresh = after_given pieces (with l k v) kind fresh.1 ∙ spread l k v kind (values_of kind (options_of pieces)) fresh.0
after_given (Joined k v ∷ pieces) l kind fresh = after_given pieces (with l k v) kind fresh.1 ∙ spread l k v kind (values_of kind (options_of pieces)) fresh.0

-- each option has at most one value in all
abbrev pub Once : CommandLine → List Piece → Type 0
Once l pieces = (kind : BudgetKind) → (o : Option ℕ) × (listed o ≡ listed (given l kind) ++ values_of kind (options_of pieces))

free_before : (o p : Option ℕ) (v : ℕ) (vs : List ℕ) → listed p ≡ listed o ++ v ∷ vs → o ≡ None
free_before None p v vs e = refl
free_before (Some n) None v vs e = absurd cc
free_before (Some n) (Some m) v vs e = absurd cc

first_free : (l : CommandLine) (k : BudgetKind) (v : ℕ) (options : List (BudgetKind × ℕ)) →
    ((kind : BudgetKind) → (o : Option ℕ) × (listed o ≡ listed (given l kind) ++ values_if kind k v (values_of kind options))) → given l k ≡ None
first_free l k v options once =
    let o = once k in
    free_before (given l k) o.0 v (values_of k options) (o.1 ∙ ap (λ vs. listed (given l k) ++ vs) (own_values k v (values_of k options)))

pub fresh_from : (pieces : List Piece) (l : CommandLine) → Once l pieces → Fresh l pieces
fresh_from [] l once = tt
fresh_from (Word word ∷ pieces) l once =
    fresh_from pieces (add_to l word)
    (λ kind. let o = once kind in (o.0, o.1 ∙ ap (λ xs. xs ++ values_of kind (options_of pieces)) (sym (same_given l word kind))))
fresh_from (Apart k v ∷ pieces) l once =
    let free = first_free l k v (options_of pieces) once in
    (free, fresh_from pieces (with l k v) (λ kind. let o = once kind in (o.0, o.1 ∙ sym (spread l k v kind (values_of kind (options_of pieces)) free))))
fresh_from (Joined k v ∷ pieces) l once =
    let free = first_free l k v (options_of pieces) once in
    (free, fresh_from pieces (with l k v) (λ kind. let o = once kind in (o.0, o.1 ∙ sym (spread l k v kind (values_of kind (options_of pieces)) free))))
