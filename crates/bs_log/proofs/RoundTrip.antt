-- Reading and writing of lines are each other's inverse.
use Rattle.std.proofs.Common.{◌≡◌, ◌≢◌, ℕ, ◌<◌, arith, Bool, true, false, ◌&&◌, cond, List, [], ◌∷◌, ◌++◌, length, map, refl, sym, ap, subst, ◌∙◌}
use Rattle.std.proofs.Common.{Option, Some, None, eqb}
use Rattle.std.specs.Prelude.{Result, Ok, Err, IfOk, nat_lt, decimal, codes, option_map, option_and_then}
use Rattle.std.specs.List.{flat_map, AllByRecursion}
use Rattle.std.proofs.lemmas.Bool.{eqb-true, ltb-true, lt-ltb}
use Rattle.std.proofs.lemmas.List.{append_assoc, append-nil}
use Rattle.bs_bits.specs.Lines.{words_of}
use Rattle.bs_clause.specs.Literal.{Literal, Clause}
use Rattle.bs_log.specs.declared.line.Line.{Line}
use Rattle.bs_log.specs.declared.line.Line.TheVariants.{Solve, Lemma, Block, Finish, Retire, Delete}
use Rattle.bs_log.specs.LineText.{line_text, literal_text, id_text}
use Rattle.bs_log.specs.LineReading.{is_letter, id_in, literal_in, onto_found, up_to_zero, some_and_end, some_to_end, solve_in, sole_id, block_in}
use Rattle.bs_log.specs.LineReading.{with_hints, lemma_in, line_of_words, line_in}
use Rattle.bs_log.specs.LineForms.{IsId, HasVariable, HasText, IsLineOf, LinesReadBack, TextsAreLines}
use Rattle.bs_log.proofs.WordLemmas.{id_is, id_of_decimal, literal_word, literal_is, literal_of_word, IsWord, id_word, literal_is_word, no_letter}
use Rattle.bs_log.proofs.WordLemmas.{joined, joined_words, words_joined, joined_onto, ending}

-- ---- the words of a line

abbrev zero_word : List ℕ
zero_word = codes "0"

abbrev line_words : Line → List (List ℕ)
line_words Solve = codes "s" ∷ []
line_words (Lemma id lits hints) = decimal id ∷ (map literal_word lits ++ zero_word ∷ (map decimal hints ++ zero_word ∷ []))
line_words (Block id lits) = codes "b" ∷ decimal id ∷ (map literal_word lits ++ zero_word ∷ [])
line_words (Finish id) = codes "e" ∷ decimal id ∷ []
line_words (Retire id) = codes "r" ∷ decimal id ∷ []
line_words (Delete ids) = codes "d" ∷ (map decimal ids ++ zero_word ∷ [])

spelled : {A : Type 0} (item text : A → List ℕ) → ((a : A) → text a ≡ item a ++ 32 ∷ []) → (xs : List A) (v : List ℕ) (vs : List (List ℕ)) →
    flat_map text xs ++ joined (v ∷ vs) ≡ joined (map item xs ++ v ∷ vs)
spelled item text is [] v vs = refl
spelled item text is (a ∷ []) v vs =
    ap (λ r. r ++ joined (v ∷ vs)) (append-nil (text a) ∙ is a) ∙ append_assoc (item a) (32 ∷ []) (joined (v ∷ vs))
spelled item text is (a ∷ b ∷ xs) v vs =
    append_assoc (text a) (flat_map text (b ∷ xs)) (joined (v ∷ vs)) ∙ ap (λ r. text a ++ r) (spelled item text is (b ∷ xs) v vs) ∙
    ap (λ t. t ++ joined (map item (b ∷ xs) ++ v ∷ vs)) (is a) ∙ append_assoc (item a) (32 ∷ []) (joined (map item (b ∷ xs) ++ v ∷ vs))

literal_spelled : (l : Literal) → literal_text l ≡ literal_word l ++ 32 ∷ []
literal_spelled l = sym (append_assoc (cond l.positive [] (codes "-")) (decimal l.variable) (32 ∷ []))

ids_spelled : (ids : List ℕ) → flat_map id_text ids ++ zero_word ≡ joined (map decimal ids ++ zero_word ∷ [])
ids_spelled ids = spelled decimal id_text (λ a. refl) ids zero_word []

literals_spelled : (lits : Clause) (v : List ℕ) (vs : List (List ℕ)) → flat_map literal_text lits ++ joined (v ∷ vs) ≡ joined (map literal_word lits ++ v ∷ vs)
literals_spelled lits v vs = spelled literal_word literal_text literal_spelled lits v vs

-- an id before the words of the rest
id_first : (id : ℕ) (ws : List (List ℕ)) → ws ≢ [] → id_text id ++ joined ws ≡ joined (decimal id ∷ ws)
id_first id ws some = append_assoc (decimal id) (32 ∷ []) (joined ws) ∙ sym (joined_onto (decimal id) ws some)

text_joined : (line : Line) → line_text line ≡ joined (line_words line)
text_joined Solve = refl
text_joined (Finish id) = refl
text_joined (Retire id) = refl
text_joined (Delete ids) =
    ap (λ r. codes "d " ++ r) (ids_spelled ids) ∙ sym (joined_onto (codes "d") (map decimal ids ++ zero_word ∷ []) (ending (map decimal ids) zero_word []))
text_joined (Block id lits) =
    let rest : List (List ℕ) = map literal_word lits ++ zero_word ∷ [] in
    ap (λ r. codes "b " ++ (id_text id ++ r)) (literals_spelled lits zero_word []) ∙
    ap (λ r. codes "b " ++ r) (id_first id rest (ending (map literal_word lits) zero_word []))
text_joined (Lemma id lits hints) =
    let last : List (List ℕ) = map decimal hints ++ zero_word ∷ [] in
    let rest : List (List ℕ) = map literal_word lits ++ zero_word ∷ last in
    ap (λ r. id_text id ++ (flat_map literal_text lits ++ (codes "0 " ++ r))) (ids_spelled hints) ∙
    ap (λ r. id_text id ++ (flat_map literal_text lits ++ r)) (sym (joined_onto zero_word last (ending (map decimal hints) zero_word []))) ∙
    ap (λ r. id_text id ++ r) (literals_spelled lits zero_word last) ∙
    id_first id rest (ending (map literal_word lits) zero_word last)

-- ---- no word of a line has a space

words_each : {A : Type 0} (P : A → Type 0) (item : A → List ℕ) → ((a : A) → P a → IsWord (item a)) → (xs : List A) → AllByRecursion P xs →
    (ws : List (List ℕ)) → AllByRecursion IsWord ws → AllByRecursion IsWord (map item xs ++ ws)
words_each P item good [] all ws rest = rest
words_each P item good (a ∷ xs) all ws rest = (good a all.0, words_each P item good xs all.1 ws rest)

ids_words : (ids : List ℕ) → AllByRecursion IsId ids → (ws : List (List ℕ)) → AllByRecursion IsWord ws → AllByRecursion IsWord (map decimal ids ++ ws)
ids_words ids all ws rest = words_each IsId decimal id_word ids all ws rest

literals_words : (lits : Clause) → AllByRecursion HasVariable lits → (ws : List (List ℕ)) → AllByRecursion IsWord ws →
    AllByRecursion IsWord (map literal_word lits ++ ws)
literals_words lits all ws rest = words_each HasVariable literal_word literal_is_word lits all ws rest

words_back : (line : Line) → HasText line → words_of (joined (line_words line)) ≡ line_words line
words_back Solve h = refl
words_back (Finish id) h = words_joined (codes "e") (decimal id ∷ []) (refl, (id_word id h, tt))
words_back (Retire id) h = words_joined (codes "r") (decimal id ∷ []) (refl, (id_word id h, tt))
words_back (Delete ids) h = words_joined (codes "d") (map decimal ids ++ zero_word ∷ []) (refl, ids_words ids h.0 (zero_word ∷ []) (refl, tt))
words_back (Block id lits) h =
    words_joined (codes "b") (decimal id ∷ (map literal_word lits ++ zero_word ∷ []))
    (refl, (id_word id h.0, literals_words lits h.1 (zero_word ∷ []) (refl, tt)))
words_back (Lemma id lits hints) h =
    words_joined (decimal id) (map literal_word lits ++ zero_word ∷ (map decimal hints ++ zero_word ∷ []))
    (id_word id h.0, literals_words lits h.1 (zero_word ∷ (map decimal hints ++ zero_word ∷ [])) (refl, ids_words hints h.2 (zero_word ∷ []) (refl, tt)))

-- ---- lists of words are read back

not_zero : {A : Type 0} (read : List ℕ → Option A) (w : List ℕ) (a : A) → read (48 ∷ []) ≡ None → read w ≡ Some a → is_letter 48 w ≡ false
not_zero read [] a z h = refl
not_zero read (b ∷ []) a z h = by (eqb b 48) refl
  where
    by : (t : Bool) → eqb b 48 ≡ t → t ≡ false
    by false e = refl
    by true e = let lost : None ≡ Some a = sym z ∙ ap (λ c. read (c ∷ [])) (sym (eqb-true b 48 e)) ∙ h in cc
not_zero read (b ∷ c ∷ cs) a z h = refl

-- how items are read: the word of each good one gives it back, and no other word does
record Reads {A : Type 0} (read : List ℕ → Option A) (item : A → List ℕ) (P : A → Type 0) : Type 0 where
  zero_is_none : read (48 ∷ []) ≡ None
  back : (a : A) → P a → read (item a) ≡ Some a
  only : (w : List ℕ) (a : A) → read w ≡ Some a → P a × (item a ≡ w)

items_back : {A : Type 0} (read : List ℕ → Option A) (item : A → List ℕ) (P : A → Type 0) → Reads read item P → (xs : List A) → AllByRecursion P xs →
    (rest : List (List ℕ)) →
    up_to_zero read (map item xs ++ zero_word ∷ rest) ≡ Some (xs, rest)
items_back read item P r [] all rest = refl
items_back {A} read item P r (a ∷ xs) all rest =
    let here : read (item a) ≡ Some a = r.back a all.0 in
    let later : Option (List A × List (List ℕ)) = up_to_zero read (map item xs ++ zero_word ∷ rest) in
    ap (λ b. cond {A = Option (List A × List (List ℕ))} b (Some ([], map item xs ++ zero_word ∷ rest)) (onto_found (read (item a)) later))
    (not_zero read (item a) a r.zero_is_none here) ∙
    ap (λ o. onto_found o later) here ∙ ap (λ o. onto_found (Some a) o) (items_back read item P r xs all.1 rest)

record AreItems {A : Type 0} (item : A → List ℕ) (P : A → Type 0) (ws : List (List ℕ)) (found : List A × List (List ℕ)) : Type 0 where
  good : AllByRecursion P found.0
  parts : ws ≡ map item found.0 ++ zero_word ∷ found.1

letter_is : (c : ℕ) (w : List ℕ) → is_letter c w ≡ true → w ≡ c ∷ []
letter_is c [] h = cc
letter_is c (b ∷ []) h = ap (λ x. x ∷ []) (eqb-true b c h)
letter_is c (b ∷ d ∷ ds) h = cc

one_item : {A : Type 0} (read : List ℕ → Option A) (item : A → List ℕ) (P : A → Type 0) → Reads read item P →
    (w : List ℕ) (ws : List (List ℕ)) (o : Option A) (u : Option (List A × List (List ℕ))) (found : List A × List (List ℕ)) →
    read w ≡ o → ((f : List A × List (List ℕ)) → u ≡ Some f → AreItems item P ws f) → onto_found o u ≡ Some found → AreItems item P (w ∷ ws) found
one_item read item P r w ws None u found is later e = cc
one_item read item P r w ws (Some a) None found is later e = cc
one_item read item P r w ws (Some a) (Some f) found is later e =
    let same : (a ∷ f.0, f.1) ≡ found = cc in
    let here : P a × (item a ≡ w) = r.only w a is in
    let rest : AreItems item P ws f = later f refl in
    let whole : AreItems item P (w ∷ ws) (a ∷ f.0, f.1) =
    record { good = (here.0, rest.good); parts = ap (λ x. x ∷ ws) (sym here.1) ∙ ap (λ xs. item a ∷ xs) rest.parts } in
    subst (AreItems item P (w ∷ ws)) same whole

items_are : {A : Type 0} (read : List ℕ → Option A) (item : A → List ℕ) (P : A → Type 0) → Reads read item P →
    (ws : List (List ℕ)) (found : List A × List (List ℕ)) →
    up_to_zero read ws ≡ Some found → AreItems item P ws found
items_are read item P r [] found e = cc
items_are {A} read item P r (w ∷ ws) found e = by (is_letter 48 w) refl e (λ f. items_are read item P r ws f)
  where
    by : (b : Bool) → is_letter 48 w ≡ b →
        cond {A = Option (List A × List (List ℕ))} b (Some ([], ws)) (onto_found (read w) (up_to_zero read ws)) ≡ Some found →
        ((f : List A × List (List ℕ)) → up_to_zero read ws ≡ Some f → AreItems item P ws f) → AreItems item P (w ∷ ws) found
    by true zero e later =
        let same : ([], ws) ≡ found = cc in
        let whole : AreItems item P (w ∷ ws) ([], ws) = record { good = tt; parts = ap (λ x. x ∷ ws) (letter_is 48 w zero) } in
        subst (AreItems item P (w ∷ ws)) same whole
    by false other e later = one_item read item P r w ws (read w) (up_to_zero read ws) found refl later e

some_back : {A : Type 0} (read : List ℕ → Option A) (item : A → List ℕ) (P : A → Type 0) → Reads read item P → (xs : List A) → AllByRecursion P xs →
    0 < length xs →
    some_to_end read (map item xs ++ zero_word ∷ []) ≡ Some xs
some_back {A} read item P r xs all some =
    ap (λ o. option_and_then (λ (found : List A × List (List ℕ)). some_and_end found.0 found.1) o) (items_back read item P r xs all []) ∙
    ap (λ b. cond {A = Option (List A)} (b && true) (Some xs) None) (lt-ltb 0 (length xs) some)

record AreSome {A : Type 0} (item : A → List ℕ) (P : A → Type 0) (ws : List (List ℕ)) (xs : List A) : Type 0 where
  good : AllByRecursion P xs
  some : 0 < length xs
  parts : ws ≡ map item xs ++ zero_word ∷ []

none_behind : (ws : List (List ℕ)) → eqb (length ws) 0 ≡ true → ws ≡ []
none_behind [] h = refl
none_behind (w ∷ ws) h = let z : length (w ∷ ws) ≡ 0 = eqb-true (length (w ∷ ws)) 0 h in absurd (omega (arith, z))

some_from : {A : Type 0} (item : A → List ℕ) (P : A → Type 0) (ws : List (List ℕ)) (found : List A × List (List ℕ)) (xs : List A) (b c : Bool) →
    AreItems item P ws found →
    nat_lt 0 (length found.0) ≡ b → eqb (length found.1) 0 ≡ c → cond {A = Option (List A)} (b && c) (Some found.0) None ≡ Some xs → AreSome item P ws xs
some_from item P ws found xs false c items is end e = cc
some_from item P ws found xs true false items is end e = cc
some_from item P ws found xs true true items is end e =
    let same : found.0 ≡ xs = cc in
    let whole : AreSome item P ws found.0 =
    record {
      good = items.good;
      some = ltb-true 0 (length found.0) is;
      parts = items.parts
          ∙ ap (λ r. map item found.0 ++ zero_word ∷ r) (none_behind found.1 end);
    } in
    subst (AreSome item P ws) same whole

some_are : {A : Type 0} (read : List ℕ → Option A) (item : A → List ℕ) (P : A → Type 0) → Reads read item P → (ws : List (List ℕ)) (xs : List A) →
    some_to_end read ws ≡ Some xs → AreSome item P ws xs
some_are {A} read item P r ws xs e = by (up_to_zero read ws) refl e
  where
    by : (o : Option (List A × List (List ℕ))) → up_to_zero read ws ≡ o →
        option_and_then (λ (found : List A × List (List ℕ)). some_and_end found.0 found.1) o ≡ Some xs → AreSome item P ws xs
    by None is e = cc
    by (Some found) is e = some_from item P ws found xs (nat_lt 0 (length found.0)) (eqb (length found.1) 0) (items_are read item P r ws found is) refl refl e

ids_read : Reads id_in decimal IsId
ids_read = record { zero_is_none = refl; back = id_of_decimal; only = id_is }

literals_read : Reads literal_in literal_word HasVariable
literals_read = record { zero_is_none = refl; back = literal_of_word; only = literal_is }

-- ---- lines are read back

skip : (b : Bool) (x y : Option Line) → b ≡ false → cond b x y ≡ y
skip b x y fails = ap (λ t. cond t x y) fails

lemma_first : (id : ℕ) (ws : List (List ℕ)) → IsId id → line_of_words (decimal id ∷ ws) ≡ lemma_in (decimal id) ws
lemma_first id ws h =
    skip (is_letter 115 (decimal id)) _ _ (no_letter 115 id (omega arith) h) ∙ skip (is_letter 98 (decimal id)) _ _ (no_letter 98 id (omega arith) h) ∙
    skip (is_letter 101 (decimal id)) _ _ (no_letter 101 id (omega arith) h) ∙ skip (is_letter 114 (decimal id)) _ _ (no_letter 114 id (omega arith) h) ∙
    skip (is_letter 100 (decimal id)) _ _ (no_letter 100 id (omega arith) h)

line_back : (line : Line) → HasText line → line_of_words (line_words line) ≡ Some line
line_back Solve h = refl
line_back (Finish id) h = ap (option_map (λ n. Finish n)) (id_of_decimal id h)
line_back (Retire id) h = ap (option_map (λ n. Retire n)) (id_of_decimal id h)
line_back (Delete ids) h = ap (option_map (λ xs. Delete xs)) (some_back id_in decimal IsId ids_read ids h.0 h.1)
line_back (Block id lits) h =
    let rest : List (List ℕ) = map literal_word lits ++ zero_word ∷ [] in
    ap (option_and_then (λ n. option_map (λ ls. Block n ls) (some_to_end literal_in rest))) (id_of_decimal id h.0) ∙
    ap (option_map (λ ls. Block id ls)) (some_back literal_in literal_word HasVariable literals_read lits h.1 h.2)
line_back (Lemma id lits hints) h =
    let last : List (List ℕ) = map decimal hints ++ zero_word ∷ [] in
    let rest : List (List ℕ) = map literal_word lits ++ zero_word ∷ last in
    lemma_first id rest h.0 ∙
    ap (option_and_then (λ n. with_hints n (up_to_zero literal_in rest))) (id_of_decimal id h.0) ∙
    ap (with_hints id) (items_back literal_in literal_word HasVariable literals_read lits h.1 last) ∙
    ap (option_map (λ hs. Lemma id lits hs)) (some_back id_in decimal IsId ids_read hints h.2 h.3)

pub lines_read_back : LinesReadBack
lines_read_back line h = ap line_in (text_joined line) ∙ ap line_of_words (words_back line h) ∙ line_back line h

-- ---- what is read has the text

record IsRead (ws : List (List ℕ)) (line : Line) : Type 0 where
  good : HasText line
  words : ws ≡ line_words line

sole_is : (ws : List (List ℕ)) (n : ℕ) → sole_id ws ≡ Some n → IsId n × (ws ≡ decimal n ∷ [])
sole_is [] n e = cc
sole_is (w ∷ []) n e = let found : IsId n × (decimal n ≡ w) = id_is w n e in (found.0, ap (λ x. x ∷ []) (sym found.1))
sole_is (w ∷ v ∷ ws) n e = cc

solve_is : (w : List ℕ) (ws : List (List ℕ)) (line : Line) → w ≡ codes "s" → solve_in ws ≡ Some line → IsRead (w ∷ ws) line
solve_is w [] line is e =
    let same : Solve ≡ line = cc in
    let here : IsRead (w ∷ []) Solve = record { good = tt; words = ap (λ x. x ∷ []) is } in
    subst (IsRead (w ∷ [])) same here
solve_is w (v ∷ vs) line is e = cc

finish_is : (w : List ℕ) (ws : List (List ℕ)) (line : Line) (o : Option ℕ) → w ≡ codes "e" → sole_id ws ≡ o →
    option_map (λ n. Finish n) o ≡ Some line → IsRead (w ∷ ws) line
finish_is w ws line None is ids e = cc
finish_is w ws line (Some n) is ids e =
    let same : Finish n ≡ line = cc in
    let found : IsId n × (ws ≡ decimal n ∷ []) = sole_is ws n ids in
    let here : IsRead (w ∷ ws) (Finish n) = record { good = found.0; words = ap (λ x. x ∷ ws) is ∙ ap (λ r. codes "e" ∷ r) found.1 } in
    subst (IsRead (w ∷ ws)) same here

retire_is : (w : List ℕ) (ws : List (List ℕ)) (line : Line) (o : Option ℕ) → w ≡ codes "r" → sole_id ws ≡ o →
    option_map (λ n. Retire n) o ≡ Some line → IsRead (w ∷ ws) line
retire_is w ws line None is ids e = cc
retire_is w ws line (Some n) is ids e =
    let same : Retire n ≡ line = cc in
    let found : IsId n × (ws ≡ decimal n ∷ []) = sole_is ws n ids in
    let here : IsRead (w ∷ ws) (Retire n) = record { good = found.0; words = ap (λ x. x ∷ ws) is ∙ ap (λ r. codes "r" ∷ r) found.1 } in
    subst (IsRead (w ∷ ws)) same here

delete_is : (w : List ℕ) (ws : List (List ℕ)) (line : Line) (o : Option (List ℕ)) → w ≡ codes "d" → some_to_end id_in ws ≡ o →
    option_map (λ xs. Delete xs) o ≡ Some line → IsRead (w ∷ ws) line
delete_is w ws line None is ids e = cc
delete_is w ws line (Some xs) is ids e =
    let same : Delete xs ≡ line = cc in
    let found : AreSome decimal IsId ws xs = some_are id_in decimal IsId ids_read ws xs ids in
    let here : IsRead (w ∷ ws) (Delete xs) = record { good = (found.good, found.some); words = ap (λ x. x ∷ ws) is ∙ ap (λ r. codes "d" ∷ r) found.parts } in
    subst (IsRead (w ∷ ws)) same here

block_from : (w v : List ℕ) (ws : List (List ℕ)) (line : Line) (o : Option ℕ) (u : Option Clause) → w ≡ codes "b" → id_in v ≡ o →
    some_to_end literal_in ws ≡ u →
    option_and_then (λ n. option_map (λ ls. Block n ls) u) o ≡ Some line → IsRead (w ∷ v ∷ ws) line
block_from w v ws line None u is id lits e = cc
block_from w v ws line (Some n) None is id lits e = cc
block_from w v ws line (Some n) (Some ls) is id lits e =
    let same : Block n ls ≡ line = cc in
    let first : IsId n × (decimal n ≡ v) = id_is v n id in
    let found : AreSome literal_word HasVariable ws ls = some_are literal_in literal_word HasVariable literals_read ws ls lits in
    let here : IsRead (w ∷ v ∷ ws) (Block n ls) =
    record {
      good = (first.0, found.good, found.some);
      words = ap (λ x. x ∷ v ∷ ws) is ∙ ap (λ x. codes "b" ∷ x ∷ ws) (sym first.1)
          ∙ ap (λ r. codes "b" ∷ decimal n ∷ r) found.parts;
    } in
    subst (IsRead (w ∷ v ∷ ws)) same here

block_is : (w : List ℕ) (ws : List (List ℕ)) (line : Line) → w ≡ codes "b" → block_in ws ≡ Some line → IsRead (w ∷ ws) line
block_is w [] line is e = cc
block_is w (v ∷ ws) line is e = block_from w v ws line (id_in v) (some_to_end literal_in ws) is refl refl e

hints_from : (w : List ℕ) (ws : List (List ℕ)) (line : Line) (n : ℕ) (found : Clause × List (List ℕ)) (o : Option (List ℕ)) →
    IsId n × (decimal n ≡ w) → AreItems literal_word HasVariable ws found →
    some_to_end id_in found.1 ≡ o → option_map (λ hs. Lemma n found.0 hs) o ≡ Some line → IsRead (w ∷ ws) line
hints_from w ws line n found None first lits ids e = cc
hints_from w ws line n found (Some hs) first lits ids e =
    let same : Lemma n found.0 hs ≡ line = cc in
    let last : AreSome decimal IsId found.1 hs = some_are id_in decimal IsId ids_read found.1 hs ids in
    let here : IsRead (w ∷ ws) (Lemma n found.0 hs) =
    record {
      good = (first.0, lits.good, last.good, last.some);
      words =
          ap (λ x. x ∷ ws) (sym first.1) ∙ ap (λ r. decimal n ∷ r) lits.parts ∙ ap (λ r. decimal n ∷ (map literal_word found.0 ++ zero_word ∷ r)) last.parts;
    } in
    subst (IsRead (w ∷ ws)) same here

lemma_from : (w : List ℕ) (ws : List (List ℕ)) (line : Line) (o : Option ℕ) (u : Option (Clause × List (List ℕ))) → id_in w ≡ o → up_to_zero literal_in ws ≡ u →
    option_and_then (λ n. with_hints n u) o ≡ Some line → IsRead (w ∷ ws) line
lemma_from w ws line None u id lits e = cc
lemma_from w ws line (Some n) None id lits e = cc
lemma_from w ws line (Some n) (Some found) id lits e =
    hints_from w ws line n found (some_to_end id_in found.1) (id_is w n id) (items_are literal_in literal_word HasVariable literals_read ws found lits) refl e

branch : {G : Type 0} (b : Bool) (x y : Option Line) (line : Line) → cond b x y ≡ Some line → (b ≡ true → x ≡ Some line → G) →
    (b ≡ false → y ≡ Some line → G) → G
branch true x y line e holds fails = holds refl e
branch false x y line e holds fails = fails refl e

words_read : (ws : List (List ℕ)) (line : Line) → line_of_words ws ≡ Some line → IsRead ws line
words_read [] line e = cc
words_read (w ∷ ws) line e =
    let last : Option Line = lemma_in w ws in
    let d : Option Line = cond (is_letter 100 w) (option_map (λ xs. Delete xs) (some_to_end id_in ws)) last in
    let r : Option Line = cond (is_letter 114 w) (option_map (λ n. Retire n) (sole_id ws)) d in
    let f : Option Line = cond (is_letter 101 w) (option_map (λ n. Finish n) (sole_id ws)) r in
    let b : Option Line = cond (is_letter 98 w) (block_in ws) f in
    branch (is_letter 115 w) (solve_in ws) b line e (λ is e. solve_is w ws line (letter_is 115 w is) e) (λ _ e.
    branch (is_letter 98 w) (block_in ws) f line e (λ is e. block_is w ws line (letter_is 98 w is) e) (λ _ e.
    branch (is_letter 101 w) (option_map (λ n. Finish n) (sole_id ws)) r line e (λ is e. finish_is w ws line (sole_id ws) (letter_is 101 w is) refl e) (λ _ e.
    branch (is_letter 114 w) (option_map (λ n. Retire n) (sole_id ws)) d line e (λ is e. retire_is w ws line (sole_id ws) (letter_is 114 w is) refl e) (λ _ e.
    branch (is_letter 100 w) (option_map (λ xs. Delete xs) (some_to_end id_in ws)) last line e
    (λ is e. delete_is w ws line (some_to_end id_in ws) (letter_is 100 w is) refl e) (λ _ e.
    lemma_from w ws line (id_in w) (up_to_zero literal_in ws) refl refl e)))))

texts_from : (text : List ℕ) (o : Option Line) → line_in text ≡ o → IsLineOf text o
texts_from text (Some line) e =
    let found : IsRead (words_of text) line = words_read (words_of text) line e in
    (found.good, text_joined line ∙ ap joined (sym found.words) ∙ joined_words text)
texts_from text None e = λ line good is.
    let read : line_in text ≡ Some line = ap line_in (sym is) ∙ lines_read_back line good in
    cc

pub reading_is_exact : {E : Type 0} (text : List ℕ) (r : Result (Option Line) E) → IfOk r (λ line. line ≡ line_in text) → IfOk r (IsLineOf text)
reading_is_exact text (Ok o) e = texts_from text o (sym e)
reading_is_exact text (Err x) e = tt

pub texts_are_lines : TextsAreLines
texts_are_lines text = texts_from text (line_in text) refl
