-- The names of a text, numbered as they come.
use Rattle.std.proofs.Common.{◌≡◌, ℕ, ◌+◌, ◌-◌, ◌<◌, ◌≤◌, Bool, true, false, cond, List, [], ◌∷◌, ◌++◌, map, length, take, drop, Option, Some, None}
use Rattle.std.proofs.Common.{Result, Ok, Err, refl, sym, ap, ◌∙◌, arith, nat_lt, length-append, append_assoc}
use Rattle.std.specs.Prelude.{if◌then◌else◌, unwrap_or, MatchResult, IsOk, zero, suc, nat_le, min, ◌==◌, slice_index}
use Rattle.std.specs.List.{list_any, list_all, position_or_len}
use Rattle.std.specs.Str.{bytes_eq, IsAscii}
use Rattle.std.proofs.lemmas.Bool.{cond_both, ne_eqb, true≢false, and_parts, leb-true}
use Rattle.std.proofs.lemmas.Bool.Decides.{nat_tests}
use Rattle.std.proofs.lemmas.List.{get_or-drop, map-append, append-nil, take_all}
use Rattle.std.proofs.lemmas.List.Folds.{position_or_len_push}
use Rattle.bs_net.specs.Names.{with_key, number_of}
use Rattle.bs_net.proofs.NamesLemmas.{kept, appended, appended_number, number_within, with_key-one_more}
use Rattle.bs_lex.specs.Bytes.{◌∈◌, is_digit}
use Rattle.bs_lex.specs.declared.token.Token.{Token}
use Rattle.bs_lex.specs.declared.token.TokenKind.{TokenKind}
use Rattle.bs_lex.specs.declared.token.TokenKind.TheVariants as kinds
use Rattle.bs_lex.specs.declared.token.Next.TheVariants.{Found, End}
use Rattle.bs_lex.specs.Tokens.{tokens_of, with_token}
use Rattle.bs_lex.specs.Placing.{token_text, IsAsciiName, IsNext, tokens_after}
use Rattle.bs_lex.specs.declared.fault.LexFault.TheVariants.{BadByte}
use Rattle.bs_lex.specs.Packed.{Lexeme}
use Rattle.bs_lex.specs.declared.lexeme.Sort.TheVariants as sorts
use Rattle.bs_lex.specs.declared.lexeme.Word as code
use Rattle.bs_lex.specs.Lexemes.{sort_of, sort_of_name, sort_of_number, word_of, cell_of, decimal_from, has_leading_zero, is_one_bit, is_escaped, spelling}
use Rattle.bs_lex.specs.Lexemes.{token_sort, name_text, is_great, without_zeros, numbered_lexeme, with_name, names_from, names_of, number_in, lexeme_of}
use Rattle.bs_lex.specs.Lexemes.{lexemes_of, lexed, end_of, is_name}

-- what is readable unless it is not UTF-8
pub is_readable : {X Y : Type 0} (r : Result X Y) (P : X → Type 0) (Q : Y → Type 0) (U : Type 0) → U → MatchResult r P (λ e. (U → ⊥) × Q e) → IsOk r
is_readable (Ok x) P Q U u h = refl
is_readable (Err e) P Q U u h = absurd (h.0 u)

-- ---- names are ASCII

rest_is_ascii : (text : List ℕ) → IsAscii text → IsAscii (drop 1 text)
rest_is_ascii text h i = rw (get_or-drop 1 text i 0) (h (1 + i))

no_number : (text : List ℕ) → is_name (sort_of_number text) ≡ false
no_number text = cond_both (list_all is_digit text) _ _ (λ s. is_name s ≡ false) (λ _. refl)
    (λ _. cond_both (is_one_bit text) _ _ (λ s. is_name s ≡ false) (λ _. refl) (λ _. refl))

pub ascii_name : (source : List ℕ) (t : Token) → IsAsciiName t.kind (token_text source t) → is_name (token_sort source t) ≡ true → IsAscii (spelling source t)
unfolding sort_of
ascii_name source t = by t.kind (token_text source t)
  where
    by : (kind : TokenKind) (text : List ℕ) → IsAsciiName kind text → is_name (sort_of kind (if is_escaped kind then drop 1 text else text)) ≡ true
        → IsAscii (if is_escaped kind then drop 1 text else text)
    by kinds.Name text h e = h
    by kinds.Escaped text h e = rest_is_ascii text h
    by kinds.Number text h e = absurd (true≢false (sym e ∙ no_number text))
    by kinds.System text h e = absurd (true≢false (sym e))
    by kinds.Text text h e = absurd (true≢false (sym e))
    by kinds.Directive text h e = absurd (true≢false (sym e))
    by kinds.AttrOpen text h e = absurd (true≢false (sym e))
    by kinds.AttrClose text h e = absurd (true≢false (sym e))
    by kinds.Sym text h e = absurd (true≢false (sym e))

-- ---- digits are ASCII

no_digits : (name : List ℕ) → is_great (sort_of_name name) ≡ false
no_digits name = by (word_of name)
  where
    by : (o : Option code.Word) → is_great (elim o [ Some word ↦ sorts.Word word | None ↦ sorts.Name (cell_of name) ]) ≡ false
    by (Some word) = refl
    by None = refl

great_number : (text : List ℕ) → is_great (sort_of_number text) ≡ true → list_all is_digit text ≡ true
great_number text = by (list_all is_digit text) (is_one_bit text)
  where
    by : (b c : Bool) → is_great (cond b (sorts.Digits (min (decimal_from 0 text) 65536)) (cond c (sorts.Bit (slice_index text 3 ∈ "1")) sorts.Number)) ≡ true
        → b ≡ true
    by true c e = refl
    by false true e = absurd (true≢false (sym e))
    by false false e = absurd (true≢false (sym e))

-- a number above 65,535 is digits alone
pub great_is_digits : (kind : TokenKind) (text : List ℕ) → is_great (sort_of kind text) ≡ true → list_all is_digit text ≡ true
unfolding sort_of
great_is_digits kinds.Number text e = great_number text e
great_is_digits kinds.Name text e = absurd (true≢false (sym e ∙ no_digits text))
great_is_digits kinds.Escaped text e = absurd (true≢false (sym e))
great_is_digits kinds.System text e = absurd (true≢false (sym e))
great_is_digits kinds.Text text e = absurd (true≢false (sym e))
great_is_digits kinds.Directive text e = absurd (true≢false (sym e))
great_is_digits kinds.AttrOpen text e = absurd (true≢false (sym e))
great_is_digits kinds.AttrClose text e = absurd (true≢false (sym e))
great_is_digits kinds.Sym text e = absurd (true≢false (sym e))

digit_is_ascii : (c : ℕ) → is_digit c ≡ true → c < 128
digit_is_ascii c e = omega (arith, leb-true c 57 (and_parts (nat_le 48 c) (nat_le c 57) e).1)

all_ascii : (ds : List ℕ) → list_all is_digit ds ≡ true → IsAscii ds
all_ascii [] e i = omega arith
all_ascii (d ∷ ds) e zero = digit_is_ascii d (and_parts (is_digit d) (list_all is_digit ds) e).0
all_ascii (d ∷ ds) e (suc i) = all_ascii ds (and_parts (is_digit d) (list_all is_digit ds) e).1 i

pub digits_are_ascii : (text : List ℕ) → list_all is_digit text ≡ true → IsAscii (without_zeros text)
unfolding without_zeros
digits_are_ascii [] e = all_ascii [] e
digits_are_ascii (c ∷ text) e =
    cond_both (c == 48) (without_zeros text) (c ∷ text) IsAscii
    (λ _. digits_are_ascii text (and_parts (is_digit c) (list_all is_digit text) e).1) (λ _. all_ascii (c ∷ text) e)

-- ---- leading zeros

pub one_zero_less : (text : List ℕ) → has_leading_zero text ≡ true → without_zeros (take (length text - 1) (drop 1 text)) ≡ without_zeros text
unfolding without_zeros
one_zero_less [] e = refl
one_zero_less (c ∷ text) e =
    let whole : take (length (c ∷ text) - 1) text ≡ text = take_all (length (c ∷ text) - 1) text (omega arith) in
    ap without_zeros whole ∙ ap (λ b. cond b (without_zeros text) (c ∷ text)) (sym e)

pub no_zero_left : (text : List ℕ) → has_leading_zero text ≡ false → text ≡ without_zeros text
unfolding without_zeros
no_zero_left [] e = refl
no_zero_left (c ∷ text) e = ap (λ b. cond b (without_zeros text) (c ∷ text)) (sym e)

pub some_digit : (text : List ℕ) → has_leading_zero text ≡ true → 1 ≤ length text
some_digit [] e = absurd (true≢false (sym e))
some_digit (c ∷ text) e = omega arith

-- ---- a number stays as further names are added

its_place : (b : Bool) (q k : ℕ) → cond b (Some q) None ≡ Some k → q ≡ k
its_place true q k e = ap (λ o. unwrap_or o q) e
its_place false q k e = absurd cc

below : (n m : ℕ) → n < m → nat_lt n m ≡ true
below n m lt = grind (arith, nat_tests)

stays_before : (names : List (List ℕ)) (key other : List ℕ) (k : ℕ) → number_of names key ≡ Some k → number_of (names ++ other ∷ []) key ≡ Some k
stays_before names key other k e =
    let q = position_or_len (bytes_eq key) names in
    let m = length (names ++ other ∷ []) in
    let within : k < length names = number_within names key k e in
    let at : q ≡ k = its_place (nat_lt q (length names)) q k e in
    let before : position_or_len (bytes_eq key) (names ++ other ∷ []) ≡ k =
    position_or_len_push (bytes_eq key) names other
    ∙ (ap (λ b. cond b (length names + cond (bytes_eq key other) 0 1) q) (ne_eqb q (length names) (λ same. omega (arith, same, at, within))) ∙ at) in
    ap (λ n. cond (nat_lt n m) (Some n) None) before
    ∙ ap (λ b. cond b (Some k) None) (below k m (omega (arith, within, length-append names (other ∷ []))))

stays : (names : List (List ℕ)) (key other : List ℕ) (k : ℕ) → number_of names key ≡ Some k → number_of (with_key names other) key ≡ Some k
stays names key other k e = cond_both (list_any (bytes_eq other) names) _ _ (λ ns. number_of ns key ≡ Some k) (λ _. e) (λ _. stays_before names key other k e)

pub stays_from : (names : List (List ℕ)) (source : List ℕ) (ts : List Token) (key : List ℕ) (k : ℕ) → number_of names key ≡ Some k
    → number_of (names_from names source ts) key ≡ Some k
unfolding names_from
stays_from names source [] key k e = e
stays_from names source (t ∷ ts) key k e = stays_from (with_name names (name_text source t)) source ts key k (by (name_text source t))
  where
    by : (o : Option (List ℕ)) → number_of (with_name names o) key ≡ Some k
    by (Some other) = stays names key other k e
    by None = e

-- a name that was added has a number
pub numbered : (names : List (List ℕ)) (key : List ℕ) → (k : ℕ) × (number_of (with_key names key) key ≡ Some k)
numbered names key = by (number_of names key) refl
  where
    by : (o : Option ℕ) → number_of names key ≡ o → (k : ℕ) × (number_of (with_key names key) key ≡ Some k)
    by (Some k) e = (k, ap (λ ns. number_of ns key) (sym (kept names key k e)) ∙ e)
    by None e = (length names, ap (λ ns. number_of ns key) (sym (appended names key e)) ∙ appended_number names key e)

-- the number at the first sight of a name is its number among all names
final_number : (names : List (List ℕ)) (source : List ℕ) (ts : List Token) (o : Option (List ℕ))
    → number_in (names_from (with_name names o) source ts) o ≡ number_in (with_name names o) o
final_number names source ts None = refl
final_number names source ts (Some key) =
    let has = numbered names key in
    ap (λ n. unwrap_or n 0) (stays_from (with_key names key) source ts key has.0 has.1 ∙ sym has.1)

-- ---- the loop over the tokens

-- the names of a list of tokens, and then of further ones
names_more : (names : List (List ℕ)) (source : List ℕ) (ts us : List Token)
    → names_from names source (ts ++ us) ≡ names_from (names_from names source ts) source us
unfolding names_from
names_more names source [] us = refl
names_more names source (t ∷ ts) us = names_more (with_name names (name_text source t)) source ts us

-- the number of a name stays as further names are added
number_stays : (names : List (List ℕ)) (source : List ℕ) (ts us : List Token) (o : Option (List ℕ))
    → number_in (names_from (names_from (with_name names o) source ts) source us) o ≡ number_in (names_from (with_name names o) source ts) o
number_stays names source ts us o =
    ap (λ all. number_in all o) (sym (names_more (with_name names o) source ts us))
    ∙ (final_number names source (ts ++ us) o ∙ sym (final_number names source ts o))

-- and with it the lexemes
lexemes_stay : (names : List (List ℕ)) (source : List ℕ) (ts us : List Token)
    → map (lexeme_of (names_from (names_from names source ts) source us) source) ts ≡ map (lexeme_of (names_from names source ts) source) ts
unfolding names_from
lexemes_stay names source [] us = refl
lexemes_stay names source (t ∷ ts) us =
    let after = with_name names (name_text source t) in
    let number = number_stays names source ts us (name_text source t) in
    let rest = lexemes_stay after source ts us in
    λ i. numbered_lexeme (number i) source t ∷ rest i

-- the tokens of a front, and what a rest answers
abbrev pub with_front : List Token → Result (List Token) ℕ → Result (List Token) ℕ
with_front front (Ok ts) = Ok (front ++ ts)
with_front front (Err at) = Err at

no_front : (r : Result (List Token) ℕ) → with_front [] r ≡ r
no_front (Ok ts) = refl
no_front (Err at) = refl

one_more : (front : List Token) (t : Token) (r : Result (List Token) ℕ) → with_front front (with_token t r) ≡ with_front (front ++ t ∷ []) r
one_more front t (Ok ts) = ap (λ (x : List Token). Ok x) (sym (append_assoc front (t ∷ []) ts))
one_more front t (Err at) = refl

-- The tokens up to a place have their lexemes, and the table has their names.
pub record HasRead (source : List ℕ) (at : ℕ) (table : List (List ℕ)) (lexemes : List Lexeme) (done : List Token) : Type 0 where
  pub within : at ≤ length source
  pub whole : with_front done (tokens_after source at) ≡ tokens_of source
  pub names : table ≡ names_of source done
  pub made : lexemes ≡ map (lexeme_of (names_of source done) source) done
  pub few : length table ≤ at

abbrev pub IsRead : List ℕ → ℕ → List (List ℕ) → List Lexeme → Type 0
IsRead source at table lexemes = (done : List Token) × HasRead source at table lexemes done

pub none_read : (source : List ℕ) → IsRead source 0 [] []
unfolding names_from
none_read source = ([], record { within = omega arith; whole = no_front (tokens_of source); names = refl; made = refl; few = omega arith })

few_more : (names : List (List ℕ)) (o : Option (List ℕ)) → length (with_name names o) ≤ length names + 1
few_more names (Some key) = with_key-one_more names key
few_more names None = omega arith

last_name : (names : List (List ℕ)) (source : List ℕ) (t : Token) → names_from names source (t ∷ []) ≡ with_name names (name_text source t)
unfolding names_from
last_name names source t = refl

pub one_read : (source : List ℕ) (at : ℕ) (table after : List (List ℕ)) (lexemes : List Lexeme) (t : Token) (l : Lexeme) → IsNext source at (Found t)
    → after ≡ with_name table (name_text source t) → l ≡ lexeme_of after source t → IsRead source at table lexemes
    → IsRead source t.stop after (lexemes ++ l ∷ [])
one_read source at table after lexemes t l next added read so_far =
    let done = so_far.0 in
    let before = so_far.1 in
    let all : after ≡ names_of source (done ++ t ∷ []) =
    added ∙ (ap (λ names. with_name names (name_text source t)) before.names
    ∙ (sym (last_name (names_of source done) source t) ∙ sym (names_more [] source done (t ∷ [])))) in
    let named = names_of source (done ++ t ∷ []) in
    let older : map (lexeme_of (names_of source done) source) done ≡ map (lexeme_of named source) done =
    sym (lexemes_stay [] source done (t ∷ [])) ∙ ap (λ names. map (lexeme_of names source) done) (sym (names_more [] source done (t ∷ []))) in
    let made : lexemes ++ l ∷ [] ≡ map (lexeme_of named source) (done ++ t ∷ []) =
    ap (λ ls. ls ++ l ∷ []) (before.made ∙ older)
    ∙ (ap (λ k. map (lexeme_of named source) done ++ k ∷ []) (read ∙ ap (λ names. lexeme_of names source t) all)
    ∙ sym (map-append (lexeme_of named source) done (t ∷ []))) in
    let whole : with_front (done ++ t ∷ []) (tokens_after source t.stop) ≡ tokens_of source =
    sym (one_more done t (tokens_after source t.stop)) ∙ (ap (with_front done) (sym next.0) ∙ before.whole) in (
      done ++ t ∷ [],
      record {
        within = next.1.1.0.1;
        whole = whole;
        names = all;
        made = made;
        few = omega (arith, few_more table (name_text source t), before.few, ap length added, next.1.0, next.1.1.0.0);
      },
    )

pub all_read : (source : List ℕ) (at : ℕ) (table : List (List ℕ)) (lexemes : List Lexeme) → IsNext source at End → IsRead source at table lexemes
    → lexed source ≡ Ok (lexemes ++ end_of source ∷ [], table)
unfolding lexemes_of
all_read source at table lexemes next so_far =
    let done = so_far.0 in
    let before = so_far.1 in
    let tokens : tokens_of source ≡ Ok done = sym before.whole ∙ (ap (with_front done) next ∙ ap (λ (ts : List Token). Ok ts) (append-nil done)) in
    ap (λ (r : Result (List Token) ℕ). elim r [ Ok ts ↦ Ok (lexemes_of source ts, names_of source ts) | Err place ↦ Err (BadByte place) ]) tokens
    ∙ λ i. Ok (sym before.made i ++ end_of source ∷ [], sym before.names i)
