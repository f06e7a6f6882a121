-- What holds of lexemes holds of the connections that are read from them; and the names that an instance statement reads are names of the text.
use Rattle.std.proofs.Common.{◌≡◌, ℕ, suc, Bool, true, List, [], ◌∷◌, length, Option, Some, None, Ok, Err, refl}
use Rattle.std.proofs.lemmas.Bool.{false≢true}
use Rattle.std.specs.Prelude.{if◌then◌else◌}
use Rattle.std.specs.List.{AllByRecursion}
use Prim.Native.String.{String}
use Rattle.bs_bits.specs.Reading.{◌>>=◌}
use Rattle.bs_lex.specs.declared.lexeme.Name.{Name}
use Rattle.bs_lex.specs.Packed.{Lexeme}
use Rattle.bs_lex.specs.Lexemes.{is_name}
use Rattle.bs_verilog_syntax.specs.declared.fault.VerilogFault.TheVariants.{Unsupported}
use Rattle.bs_verilog_syntax.specs.declared.fault.What.TheVariants as what
use Rattle.bs_verilog_syntax.specs.declared.reading.Due.{Due}
use Rattle.bs_verilog_syntax.specs.declared.reading.Due.TheVariants as due
use Rattle.bs_verilog_syntax.specs.declared.tree.Connection.{Connection}
use Rattle.bs_verilog_syntax.specs.declared.tree.Connection.TheVariants.{Empty, Place, Pin}
use Rattle.bs_verilog_syntax.specs.declared.tree.Term.{Term}
use Rattle.bs_verilog_syntax.specs.declared.tree.Term.TheVariants.{Constant, Named}
use Rattle.bs_verilog_syntax.specs.Reading.{Rest, Read, at, sort, rest, name, bit, digits, is_at, refused, expect, expect_name, expect_digits, listed}
use Rattle.bs_verilog_syntax.specs.Terms.{index, term}
use Rattle.bs_verilog_syntax.specs.Parts.{by_place, place, pin, connections}
use Rattle.bs_flat_meaning.specs.declared.statements.Written.{Written}
use Rattle.bs_flat_meaning.specs.Connecting.{terms_of}
use Rattle.bs_flat_meaning.specs.Instancing.{one_instance, instancing}
use Rattle.bs_flat_meaning.proofs.NameLemmas.{IsNumbered, IsSmall}
use Rattle.bs_flat_meaning.proofs.GivenLemmas.{Gives, gives_ok, gives_err, gives_on, gives_if}
use Rattle.bs_flat_meaning.proofs.HeaderLemmas.{Sound, With, rest_sound, expect_sound, expect_name_small, commas_sound}

-- ---- terms and connections

-- what holds of a lexeme, and so of a name, an index and the place of a constant
pub record Facts : Type 1 where
  pub OfLexeme : Lexeme → Type 0
  pub OfName : Name → Type 0
  pub OfIndex : Option ℕ → Type 0
  pub OfPlace : ℕ → Type 0
  pub named : (t : Lexeme) → OfLexeme t → is_name t.sort ≡ true → OfName (record { at = t.at; id = t.name })
  pub counts : (t : Lexeme) → OfLexeme t → OfIndex (digits t.sort)
  pub one : (t : Lexeme) → OfLexeme t → (b : Bool) → bit t.sort ≡ Some b → OfPlace t.at
  pub none : OfIndex None

module _ (f : Facts) where
  -- the lexemes that are left
  abbrev pub Left : Rest → Type 0
  Left ts = AllByRecursion f.OfLexeme ts

  -- a value that is read, with what is left
  abbrev pub Leaving : {A : Type 0} → (A → Type 0) → A × Rest → Type 0
  Leaving Q x = Q x.0 × Left x.1

  -- what is known of the next lexeme
  rest_left : (ts : Rest) → Left ts → Left (rest ts)
  rest_left [] l = l
  rest_left (t ∷ ts) l = l.1

  name_fact : (ts : Rest) → Left ts → is_name (sort ts) ≡ true → f.OfName (name ts)
  name_fact [] l e = absurd (false≢true e)
  name_fact (t ∷ ts) l e = f.named t l.0 e

  bit_fact : (ts : Rest) → Left ts → (b : Bool) → bit (sort ts) ≡ Some b → f.OfPlace (at ts)
  bit_fact [] l b e = absurd cc
  bit_fact (t ∷ ts) l b e = f.one t l.0 b e

  digits_fact : (ts : Rest) → Left ts → f.OfIndex (digits (sort ts))
  digits_fact [] l = f.none
  digits_fact (t ∷ ts) l = f.counts t l.0

  pub expect_left : (s : String) (d : Due) (ts : Rest) → Left ts → Gives Left (expect s d ts)
  expect_left s d ts l =
      gives_if Left (is_at s ts) (Ok (rest ts)) (Err (refused d ts)) (λ _. gives_ok Left (rest ts) (rest_left ts l)) (λ _. gives_err Left (refused d ts))

  -- what is known of what a production reads
  index_fact : (ts : Rest) → Left ts → Gives (Leaving f.OfIndex) (index ts)
  unfolding index
  index_fact ts l =
      gives_if (Leaving f.OfIndex) (is_at "[" ts) _ _
      (λ _.
      gives_on (Leaving (λ n. f.OfIndex (Some n))) (Leaving f.OfIndex) (expect_digits (rest ts)) _ (by (digits (sort (rest ts))) (digits_fact (rest ts) here))
      (λ number n.
      gives_on Left (Leaving f.OfIndex) (expect "]" due.AfterIndex number.1) _ (expect_left "]" due.AfterIndex number.1 n.1)
      (λ after a. gives_ok (Leaving f.OfIndex) (Some number.0, after) (n.0, a))))
      (λ _. gives_ok (Leaving f.OfIndex) (None, ts) (f.none, l))
    where
      here : Left (rest ts)
      here = rest_left ts l

      by : (o : Option ℕ) → f.OfIndex o
          → Gives (Leaving (λ n. f.OfIndex (Some n))) (elim o as (λ _. Read ℕ) [ Some n ↦ Ok (n, rest (rest ts)) | None ↦ Err (refused due.Nothing (rest ts)) ])
      by (Some n) h = gives_ok (Leaving (λ n. f.OfIndex (Some n))) (n, rest (rest ts)) (h, rest_left (rest ts) here)
      by None h = gives_err (Leaving (λ n. f.OfIndex (Some n))) (refused due.Nothing (rest ts))

  abbrev pub OfTerm : Term → Type 0
  OfTerm (Constant at b) = f.OfPlace at
  OfTerm (Named n index) = f.OfName n × f.OfIndex index

  pub term_fact : (ts : Rest) → Left ts → Gives (Leaving OfTerm) (term ts)
  unfolding term
  term_fact ts l = by (bit (sort ts)) refl
    where
      by : (o : Option Bool) → bit (sort ts) ≡ o
          → Gives (Leaving OfTerm)
          (elim o as (λ _. Read Term) [
            | Some b ↦ Ok (Constant (at ts) b, rest ts)
            | None ↦
                if is_name (sort ts) then (do
                  i ← index (rest ts)
                  Ok (Named (name ts) i.0, i.1))
                else Err (refused due.Term ts)
          ])
      by (Some b) e = gives_ok (Leaving OfTerm) (Constant (at ts) b, rest ts) (bit_fact ts l b e, rest_left ts l)
      by None e =
          gives_if (Leaving OfTerm) (is_name (sort ts)) _ _
          (λ named.
          gives_on (Leaving f.OfIndex) (Leaving OfTerm) (index (rest ts)) _ (index_fact (rest ts) (rest_left ts l))
          (λ i h. gives_ok (Leaving OfTerm) (Named (name ts) i.0, i.1) ((name_fact ts l named, h.0), h.1)))
          (λ _. gives_err (Leaving OfTerm) (refused due.Term ts))

  abbrev pub OfConnection : Connection → Type 0
  OfConnection Empty = Unit {0}
  OfConnection (Place t) = OfTerm t
  OfConnection (Pin n None) = f.OfName n
  OfConnection (Pin n (Some t)) = f.OfName n × OfTerm t

  pub by_place_fact : (ts : Rest) → Left ts → Gives (Leaving OfConnection) (by_place ts)
  unfolding by_place
  by_place_fact ts l =
      gives_on (Leaving OfTerm) (Leaving OfConnection) (term ts) _ (term_fact ts l) (λ t h. gives_ok (Leaving OfConnection) (Place t.0, t.1) h)

  pub place_fact : (ts : Rest) → Left ts → Gives (Leaving OfConnection) (place ts)
  unfolding place
  place_fact ts l =
      gives_if (Leaving OfConnection) (is_at ",)" ts) _ _ (λ _. gives_ok (Leaving OfConnection) (Empty, ts) (tt, l)) (λ _. by_place_fact ts l)

  pub pin_fact : (ts : Rest) → Left ts → Gives (Leaving OfConnection) (pin ts)
  unfolding pin
  pin_fact ts l =
      gives_on Left (Leaving OfConnection) (expect "." due.Nothing ts) _ (expect_left "." due.Nothing ts l)
      (λ dot d.
      gives_on (Leaving f.OfName) (Leaving OfConnection) (expect_name dot) _
      (gives_if (Leaving f.OfName) (is_name (sort dot)) _ _
      (λ e. gives_ok (Leaving f.OfName) (name dot, rest dot) (name_fact dot d e, rest_left dot d)) (λ _. gives_err (Leaving f.OfName) (refused due.Nothing dot)))
      (λ n k.
      gives_on Left (Leaving OfConnection) (expect "(" due.Nothing n.1) _ (expect_left "(" due.Nothing n.1 k.1)
      (λ inside i.
      gives_if (Leaving OfConnection) (is_at ")" inside) _ _ (λ _. gives_ok (Leaving OfConnection) (Pin n.0 None, rest inside) (k.0, rest_left inside i))
      (λ _.
      gives_on (Leaving OfTerm) (Leaving OfConnection) (term inside) _ (term_fact inside i)
      (λ t h.
      gives_on Left (Leaving OfConnection) (expect ")" due.AfterTerm t.1) _ (expect_left ")" due.AfterTerm t.1 h.1)
      (λ after a. gives_ok (Leaving OfConnection) (Pin n.0 (Some t.0), after) ((k.0, h.0), a)))))))

-- ---- instances

module _ (count : ℕ) where
  -- the number of a name is below the count; nothing is said of indices and places
  abbrev names : Facts
  names = record {
    OfLexeme = IsNumbered count;
    OfName = IsSmall count;
    OfIndex = λ _. Unit {0};
    OfPlace = λ _. Unit {0};
    named = λ t k e. k.below e;
    counts = λ t k. tt;
    one = λ t k b e. tt;
    none = tt;
  }

  abbrev pub TermSmall : Term → Type 0
  TermSmall = OfTerm names

  abbrev ConnectionsSmall : List Connection → Type 0
  ConnectionsSmall cs = AllByRecursion (OfConnection names) cs

  connections_small : (ts : Rest) → Sound count ts → Gives (With count ConnectionsSmall) (connections ts)
  unfolding connections
  connections_small ts s =
      gives_if (With count ConnectionsSmall) (is_at ")" ts) _ _ (λ _. gives_ok (With count ConnectionsSmall) ([], rest ts) (tt, rest_sound count ts s))
      (λ _.
      gives_if (With count ConnectionsSmall) (is_at "." ts) _ _
      (λ _.
      gives_on (With count ConnectionsSmall) (With count ConnectionsSmall) (listed pin ts) _ (commas_sound count (OfConnection names) pin (λ us u. pin_fact names us u) (suc (length ts)) ts s)
      (λ all a.
      gives_on (Sound count) (With count ConnectionsSmall) (expect ")" due.Nothing all.1) _ (expect_sound count ")" due.Nothing all.1 a.1)
      (λ after b. gives_ok (With count ConnectionsSmall) (all.0, after) (a.0, b))))
      (λ _.
      gives_on (With count ConnectionsSmall) (With count ConnectionsSmall) (listed place ts) _
      (commas_sound count (OfConnection names) place (λ us u. place_fact names us u) (suc (length ts)) ts s)
      (λ all a.
      gives_on (Sound count) (With count ConnectionsSmall) (expect ")" due.AfterTerm all.1) _ (expect_sound count ")" due.AfterTerm all.1 a.1)
      (λ after b. gives_ok (With count ConnectionsSmall) (all.0, after) (a.0, b)))))

  terms_small : (cs : List Connection) → ConnectionsSmall cs → AllByRecursion TermSmall (terms_of cs)
  terms_small [] a = tt
  terms_small (Empty ∷ cs) a = terms_small cs a.1
  terms_small (Place t ∷ cs) a = (a.0, terms_small cs a.1)
  terms_small (Pin n None ∷ cs) a = terms_small cs a.1
  terms_small (Pin n (Some t) ∷ cs) a = (a.0.1, terms_small cs a.1)

  -- the name of an instance, and the names of its terms
  pub record WrittenSmall (w : Written) : Type 0 where
    pub named : IsSmall count w.name
    pub terms : AllByRecursion TermSmall (terms_of w.connections)

  instance_small : (of : Name) (ts : Rest) → Sound count ts → Gives (With count WrittenSmall) (one_instance of ts)
  unfolding one_instance
  instance_small of ts s =
      gives_on (With count (IsSmall count)) (With count WrittenSmall) (expect_name ts) _ (expect_name_small count ts s)
      (λ n k.
      gives_on (Sound count) (With count WrittenSmall) (expect "(" due.AfterInstance n.1) _ (expect_sound count "(" due.AfterInstance n.1 k.1)
      (λ inside i.
      gives_on (With count ConnectionsSmall) (With count WrittenSmall) (connections inside) _ (connections_small inside i)
      (λ all a.
      gives_ok (With count WrittenSmall) (record { of = of; name = n.0; connections = all.0 }, all.1)
      (record { named = k.0; terms = terms_small all.0 a.0 }, a.1))))

  -- each name of a statement is one of the text
  pub statement_small : (ts : Rest) → Sound count ts → Gives (With count (AllByRecursion WrittenSmall)) (instancing ts)
  unfolding instancing
  statement_small ts s =
      gives_if (With count (AllByRecursion WrittenSmall)) (is_at "#" (rest ts)) _ _
      (λ _. gives_err (With count (AllByRecursion WrittenSmall)) (Unsupported (at (rest ts)) what.Parameter))
      (λ _.
      gives_on (With count (AllByRecursion WrittenSmall)) (With count (AllByRecursion WrittenSmall)) (listed (one_instance (name ts)) (rest ts)) _
      (commas_sound count WrittenSmall (one_instance (name ts)) (λ us u. instance_small (name ts) us u) (suc (length (rest ts))) (rest ts) (rest_sound count ts s))
      (λ all a.
      gives_on (Sound count) (With count (AllByRecursion WrittenSmall)) (expect ";" due.Nothing all.1) _ (expect_sound count ";" due.Nothing all.1 a.1)
      (λ after b. gives_ok (With count (AllByRecursion WrittenSmall)) (all.0, after) (a.0, b))))
