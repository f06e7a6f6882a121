-- The numbers of a text's lexemes, and of the connections that are read from them, take three bytes.
use Rattle.std.proofs.Common.{◌≡◌, ℕ, ◌+◌, ◌-◌, ◌<◌, ◌≤◌, Bool, true, false, cond, ◌||◌, ◌&&◌, List, [], ◌∷◌, length, map}
use Rattle.std.proofs.Common.{Option, Some, None, All, Contains, nat_lt, refl, sym, ap, ◌∙◌, arith}
use Rattle.std.specs.Prelude.{unwrap_or, ◌==◌}
use Rattle.std.specs.List.{AllByRecursion}
use Rattle.std.proofs.lemmas.Bool.{false≢true, lt-ltb, eq-eqb, ltb-false, and_from}
use Rattle.std.proofs.lemmas.List.Elements.{All-contains, All-from_recursion, All-weaker, recursion_from_All}
use Rattle.bs_net.specs.Names.{number_of}
use Rattle.bs_net.proofs.NamesLemmas.{number_within}
use Rattle.bs_lex.specs.declared.limits.TheConstants.{MAX_BYTES}
use Rattle.bs_lex.specs.declared.token.Token.{Token}
use Rattle.bs_lex.specs.declared.number_limits.TheConstants.{GREAT, MAX_INDEX}
use Rattle.bs_lex.specs.declared.lexeme.Sort.{Sort}
use Rattle.bs_lex.specs.declared.lexeme.Sort.TheVariants as sorts
use Rattle.bs_lex.specs.Packed.{Lexeme}
use Rattle.bs_lex.specs.Lexemes.{end_of, has_number, is_great, is_name, lexeme_of, lexemes_of, name_text, names_of, number_in, numbered_sort, spelling, token_sort, without_zeros}
use Rattle.bs_verilog_syntax.specs.declared.reading.Due.TheVariants as due
use Rattle.bs_verilog_syntax.specs.declared.tree.Component.{Component}
use Rattle.bs_verilog_syntax.specs.declared.tree.Connection.{Connection}
use Rattle.bs_verilog_syntax.specs.declared.tree.Connection.TheVariants.{Empty, Place, Pin}
use Rattle.bs_verilog_syntax.specs.declared.tree.Shape.TheVariants as shapes
use Rattle.bs_verilog_syntax.specs.declared.tree.Term.{Term}
use Rattle.bs_verilog_syntax.specs.declared.tree.Term.TheVariants.{Constant, Named}
use Rattle.bs_verilog_syntax.specs.Reading.{Rest, at, bit, digits, expect}
use Rattle.bs_verilog_syntax.specs.Terms.{term}
use Rattle.bs_verilog_syntax.specs.Parts as parts
use Rattle.bs_flat_meaning.proofs.GivenLemmas.{Gives, gives_ok, gives_on}
use Rattle.bs_flat_meaning.proofs.NameLemmas.{all_append}
use Rattle.bs_flat_modules.specs.Copying.{is_numbered}
use Rattle.bs_flat_modules.specs.Texts.{IsText, StandIn, IsThreeByteName, IsThreeByteIndex, IsThreeByteTerm, IsThreeBytes, NumbersTakeThreeBytes, LexemesAreCopied}
use Rattle.bs_flat_modules.proofs.CountedTerms.{Facts, Leaving, Left, OfConnection, OfTerm, by_place_fact, expect_left, pin_fact, place_fact, term_fact}
use Rattle.bs_flat_modules.proofs.LexemeCounts.{few_names, text_in}

-- ---- lexemes

-- a lexeme of a text
record HasSmallNumbers (t : Lexeme) : Type 0 where
  within : t.at ≤ MAX_BYTES
  named : is_name t.sort ≡ true → (t.at < MAX_BYTES) × (t.name < MAX_BYTES)
  one : (b : Bool) → bit t.sort ≡ Some b → t.at < MAX_BYTES
  counts : IsThreeByteIndex (digits t.sort)
  numbered : is_numbered t.sort t.name ≡ true

-- a number that is among so few names, and is 0 where none is told by it
record IsNumber (s : Sort) (number : ℕ) : Type 0 where
  few : GREAT + number < MAX_BYTES
  none : has_number s ≡ false → number ≡ 0

abbrev IsSorted : ℕ → Sort → Type 0
IsSorted number s = IsThreeByteIndex (digits s) × (is_numbered s number ≡ true)

no_number : (s : Sort) (number : ℕ) → IsNumber s number → has_number s ≡ false → (number == 0) ≡ true
no_number s number n e = eq-eqb number 0 (n.none e)

sorted : (s : Sort) (number : ℕ) → IsNumber s number → IsSorted number (numbered_sort number s)
sorted (sorts.Word w) number n = (tt, no_number (sorts.Word w) number n refl)
sorted (sorts.Name cell) number n = (tt, lt-ltb number MAX_BYTES (omega (arith, n.few)))
sorted (sorts.Bit b) number n = (tt, no_number (sorts.Bit b) number n refl)
sorted (sorts.Digits m) number n = by (nat_lt MAX_INDEX m) refl
  where
    great : (b : Bool) → nat_lt MAX_INDEX (GREAT + number) ≡ b → cond b (GREAT + number - GREAT == number && nat_lt number MAX_BYTES) (number == 0) ≡ true
    great true e =
        and_from (GREAT + number - GREAT == number) (nat_lt number MAX_BYTES) (eq-eqb (GREAT + number - GREAT) number (omega arith))
        (lt-ltb number MAX_BYTES (omega (arith, n.few)))
    great false e = absurd (omega (arith, ltb-false MAX_INDEX (GREAT + number) e))

    by : (b : Bool) → nat_lt MAX_INDEX m ≡ b → IsSorted number (cond b (sorts.Digits (GREAT + number)) (sorts.Digits m))
    by true e = (n.few, great (nat_lt MAX_INDEX (GREAT + number)) refl)
    by false e = (
      omega (arith, ltb-false MAX_INDEX m e),
      ap (λ b. cond b (m - GREAT == number && nat_lt number MAX_BYTES) (number == 0)) e ∙ no_number (sorts.Digits m) number n e,
    )
sorted sorts.Number number n = (tt, no_number sorts.Number number n refl)
sorted (sorts.Symbol c) number n = (tt, no_number (sorts.Symbol c) number n refl)
sorted sorts.AttrOpen number n = (tt, no_number sorts.AttrOpen number n refl)
sorted sorts.AttrClose number n = (tt, no_number sorts.AttrClose number n refl)
sorted sorts.Text number n = (tt, no_number sorts.Text number n refl)
sorted sorts.System number n = (tt, no_number sorts.System number n refl)
sorted sorts.Directive number n = (tt, no_number sorts.Directive number n refl)
sorted sorts.End number n = (tt, no_number sorts.End number n refl)

number_few : (names : List (List ℕ)) (o : Option (List ℕ)) → number_in names o ≤ length names
number_few names None = omega arith
number_few names (Some key) = by (number_of names key) refl
  where
    by : (o : Option ℕ) → number_of names key ≡ o → unwrap_or o 0 ≤ length names
    by (Some k) e = omega (arith, number_within names key k e)
    by None e = omega arith

number_none : (names : List (List ℕ)) (source : List ℕ) (t : Token) → has_number (token_sort source t) ≡ false → number_in names (name_text source t) ≡ 0
unfolding name_text
number_none names source t = by (is_name (token_sort source t)) (is_great (token_sort source t))
  where
    by : (b c : Bool) → (b || c) ≡ false → number_in names (cond b (Some (spelling source t)) (cond c (Some (without_zeros (spelling source t))) None)) ≡ 0
    by true c e = absurd (false≢true (sym e))
    by false true e = absurd (false≢true (sym e))
    by false false e = refl

token_counted : (names : List (List ℕ)) (source : List ℕ) (t : Token) → length names + GREAT < MAX_BYTES → t.start < MAX_BYTES
    → HasSmallNumbers (lexeme_of names source t)
token_counted names source t few begins =
    let number = number_in names (name_text source t) in
    let low = number_few names (name_text source t) in
    let has : IsNumber (token_sort source t) number = record { few = omega (arith, few, low); none = number_none names source t } in
    let is = sorted (token_sort source t) number has in
    record {
      within = omega (arith, begins);
      named = λ e. (begins, omega (arith, few, low));
      one = λ b e. begins;
      counts = is.0;
      numbered = is.1;
    }

tokens_counted : (names : List (List ℕ)) (source : List ℕ) (ts : List Token) → length names + GREAT < MAX_BYTES → length source ≤ MAX_BYTES
    → AllByRecursion (λ (t : Token). t.start < length source) ts → AllByRecursion HasSmallNumbers (map (lexeme_of names source) ts)
tokens_counted names source [] few short b = tt
tokens_counted names source (t ∷ ts) few short b =
    (token_counted names source t few (omega (arith, short, b.0)), tokens_counted names source ts few short b.1)

end_counted : (source : List ℕ) → length source ≤ MAX_BYTES → HasSmallNumbers (end_of source)
end_counted source short = record {
  within = short;
  named = λ e. absurd (false≢true e);
  one = λ b e. absurd cc;
  counts = tt;
  numbered = refl;
}

lexemes_counted : (source : List ℕ) (tokens : List Token) → IsText source tokens → AllByRecursion HasSmallNumbers (lexemes_of source tokens)
unfolding lexemes_of
lexemes_counted source tokens text =
    let names = names_of source tokens in
    all_append HasSmallNumbers (map (lexeme_of names source) tokens) (end_of source ∷ [])
    (tokens_counted names source tokens (few_names source tokens text) text.short (text_in source tokens text.are).begin)
    (end_counted source text.short, tt)

pub lexemes_are_copied : LexemesAreCopied
lexemes_are_copied source tokens text =
    All-weaker HasSmallNumbers (λ t. (is_numbered t.sort t.name ≡ true) × (t.at ≤ MAX_BYTES)) (λ t c. (c.numbered, c.within)) (lexemes_of source tokens)
    (All-from_recursion HasSmallNumbers (lexemes_of source tokens) (lexemes_counted source tokens text))

-- ---- productions

-- each number takes three bytes
abbrev numbers : Facts
numbers = record {
  OfLexeme = HasSmallNumbers;
  OfName = IsThreeByteName;
  OfIndex = IsThreeByteIndex;
  OfPlace = λ place. place < MAX_BYTES;
  named = λ t c. c.named;
  counts = λ t c. c.counts;
  one = λ t c. c.one;
  none = tt;
}

term_small : (t : Term) → OfTerm numbers t → IsThreeByteTerm t
term_small (Constant place b) h = h
term_small (Named n index) h = h

small : (c : Connection) → OfConnection numbers c → IsThreeBytes c
small Empty h = tt
small (Place t) h = term_small t h
small (Pin n None) h = (h, tt)
small (Pin n (Some t)) h = (h.0, term_small t h.1)

abbrev AreThreeBytes : Component → Type 0
AreThreeBytes p = All IsThreeBytes p.connections

assignment_small : (ts : Rest) → Left numbers ts → Gives (Leaving numbers AreThreeBytes) (parts.assignment ts)
unfolding parts.assignment
assignment_small ts l =
    gives_on (Leaving numbers (OfTerm numbers)) (Leaving numbers AreThreeBytes) (term ts) _ (term_fact numbers ts l)
    (λ left h.
    gives_on (Left numbers) (Leaving numbers AreThreeBytes) (expect "=" due.AfterTerm left.1) _ (expect_left numbers "=" due.AfterTerm left.1 h.1)
    (λ equals e.
    gives_on (Leaving numbers (OfTerm numbers)) (Leaving numbers AreThreeBytes) (term equals) _ (term_fact numbers equals e)
    (λ right k.
    let both : List Connection = Place left.0 ∷ Place right.0 ∷ [] in
    gives_ok (Leaving numbers AreThreeBytes) (record { shape = shapes.Assign; at = at ts; connections = both }, right.1)
    (All-from_recursion IsThreeBytes both (term_small left.0 h.0, (term_small right.0 k.0, tt)), k.1))))

text_left : (source : List ℕ) (tokens : List Token) (ts : Rest) → IsText source tokens → StandIn source tokens ts → Left numbers ts
text_left source tokens ts text of =
    let all = lexemes_of source tokens in
    let counted : All HasSmallNumbers all = All-from_recursion HasSmallNumbers all (lexemes_counted source tokens text) in
    recursion_from_All HasSmallNumbers ts
    (All-weaker (Contains all) HasSmallNumbers (λ t c. All-contains HasSmallNumbers all t counted c) ts of)

pub numbers_take_three_bytes : NumbersTakeThreeBytes
numbers_take_three_bytes source tokens ts text of =
    let l = text_left source tokens ts text of in
    record {
      by_place = λ c after e. small c (((by_place_fact numbers ts l).is (c, after) e).0);
      place = λ c after e. small c (((place_fact numbers ts l).is (c, after) e).0);
      pin = λ c after e. small c (((pin_fact numbers ts l).is (c, after) e).0);
      assignment = λ p after e. ((assignment_small ts l).is (p, after) e).0;
    }
