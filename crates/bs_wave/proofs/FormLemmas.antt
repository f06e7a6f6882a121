-- The lines of a wave's text, each by itself: what is written is read, and what is read was written.
use Rattle.std.proofs.Common.{◌≡◌, ℕ, zero, suc, ◌<◌, ◌≤◌, ◌+◌, ◌-◌, ◌/◌, ◌%◌, Bool, true, false, cond, ◌&&◌, List, [], ◌∷◌, ◌++◌, length, take, drop, get_or}
use Rattle.std.proofs.Common.{refl, arith, ap, sym, subst, ◌∙◌, Option, Some, None, nat_lt}
use Rattle.std.specs.Prelude.{◌==◌, codes, find}
use Rattle.std.specs.List.{range_with_len}
use Rattle.std.specs.Option.{option_and_then}
use Rattle.std.specs.Str.{bytes_eq}
use Rattle.std.proofs.lemmas.Slice.Eq.{bytes_eq-Decides}
use Rattle.std.proofs.lemmas.Bool.{and_parts, and_from, eqb-true, ltb-true, ltb-false}
use Rattle.std.proofs.lemmas.List.{take-append-drop}
use Rattle.bs_bits.specs.Lines.{words_of, onto_first, is_name, is_visible}
use Rattle.bs_bits.proofs.LineTextLemmas.{word_first, word_only, visible_lacks}
use Rattle.bs_wave.specs.declared.value.Value.{Value}
use Rattle.bs_wave.specs.declared.value.Value.TheVariants.{Zero, One, Unknown}
use Rattle.bs_wave.specs.WaveText.{id_of, value_code, net_line, time_line, value_line, same_value}
use Rattle.bs_wave.specs.WaveReading.{value_in, triple_of, key_of, key_in, value_for, net_with, Change, if_other, change_in}
use Rattle.bs_wave.specs.PartialWave.{behind_digit}
use Rattle.bs_wave.proofs.IdLemmas.{next_digit, same_id, id_lacks}

-- ---- texts

pub bytes_same : (t : List ℕ) → bytes_eq t t ≡ true
bytes_same t = (bytes_eq-Decides t t).1 refl

pub bytes_are : (a b : List ℕ) → bytes_eq a b ≡ true → a ≡ b
bytes_are a b e = (bytes_eq-Decides a b).0 e

-- ---- the digits of an id, one after another

pub digit_none : (left : ℕ) (text : List ℕ) → 94 ≤ left → behind_digit (33 + left % 94) text ≡ None → bytes_eq text (id_of left) ≡ false
digit_none left [] le e = ap (bytes_eq []) (next_digit left le)
digit_none left (c ∷ cs) le e = by (c == 33 + left % 94) refl e
  where
    by : (z : Bool) → (c == 33 + left % 94) ≡ z → cond z (Some cs) None ≡ None → bytes_eq (c ∷ cs) (id_of left) ≡ false
    by true is e = absurd cc
    by false is e = ap (bytes_eq (c ∷ cs)) (next_digit left le) ∙ ap (λ b. b && bytes_eq cs (id_of (left / 94))) is

pub digit_same : (left : ℕ) (text rest : List ℕ) → 94 ≤ left → behind_digit (33 + left % 94) text ≡ Some rest →
    bytes_eq rest (id_of (left / 94)) ≡ bytes_eq text (id_of left)
digit_same left [] rest le e = absurd cc
digit_same left (c ∷ cs) rest le e = by (c == 33 + left % 94) refl e
  where
    by : (z : Bool) → (c == 33 + left % 94) ≡ z → cond z (Some cs) None ≡ Some rest → bytes_eq rest (id_of (left / 94)) ≡ bytes_eq (c ∷ cs) (id_of left)
    by false is e = absurd cc
    by true is e =
        let same : cs ≡ rest = cc in
        ap (λ t. bytes_eq t (id_of (left / 94))) (sym same)
        ∙ sym (ap (bytes_eq (c ∷ cs)) (next_digit left le) ∙ ap (λ b. b && bytes_eq cs (id_of (left / 94))) is)

-- ---- the net with an id

net_step : (id : List ℕ) (n count : ℕ) → n < count → net_with n count id ≡ cond (bytes_eq id (id_of n)) (Some n) (net_with (n + 1) count id)
unfolding net_with
net_step id n count lt =
    let more : count - n ≡ suc (count - (n + 1)) = omega arith in
    ap (λ k. find (λ m. bytes_eq id (id_of m)) (range_with_len n k)) more

pub net_here : (id : List ℕ) (n count : ℕ) → n < count → bytes_eq id (id_of n) ≡ true → net_with n count id ≡ Some n
net_here id n count lt e = net_step id n count lt ∙ ap (λ b. cond b (Some n) (net_with (n + 1) count id)) e

pub net_later : (id : List ℕ) (n count : ℕ) → n < count → bytes_eq id (id_of n) ≡ false → net_with (n + 1) count id ≡ net_with n count id
net_later id n count lt e = sym (net_step id n count lt ∙ ap (λ b. cond b (Some n) (net_with (n + 1) count id)) e)

pub net_none : (id : List ℕ) (n count : ℕ) → count ≤ n → net_with n count id ≡ None
unfolding net_with
net_none id n count le =
    let none : count - n ≡ 0 = omega arith in
    ap (λ k. find (λ m. bytes_eq id (id_of m)) (range_with_len n k)) none

-- what is found is a net of so many, not below the next, with this id
pub record IsNet (next count : ℕ) (id : List ℕ) (n : ℕ) : Type 0 where
  pub from : next ≤ n
  pub below : n < count
  pub is : id ≡ id_of n

pub net_is : (k next count : ℕ) (id : List ℕ) (n : ℕ) → count ≤ next + k → net_with next count id ≡ Some n → IsNet next count id n
net_is zero next count id n le e = let clash : None ≡ Some n = sym (net_none id next count (omega (arith, le))) ∙ e in absurd cc
net_is (suc k) next count id n le e =
    by (nat_lt next count) refl (bytes_eq id (id_of next)) refl
    (λ later. net_is k (next + 1) count id n (omega (arith, le)) later)
  where
    by : (b : Bool) → nat_lt next count ≡ b → (z : Bool) → bytes_eq id (id_of next) ≡ z →
        (net_with (next + 1) count id ≡ Some n → IsNet (next + 1) count id n) → IsNet next count id n
    by false past z is rest =
        let clash : None ≡ Some n = sym (net_none id next count (ltb-false next count past)) ∙ e in absurd cc
    by true lt true is rest =
        let below : next < count = ltb-true next count lt in
        let same : Some next ≡ Some n = sym (net_here id next count below is) ∙ e in
        let here : next ≡ n = cc in
        record { from = omega (arith, here); below = omega (arith, here, below); is = bytes_are id (id_of next) is ∙ ap id_of here }
    by true lt false is rest =
        let found = rest (net_later id next count (ltb-true next count lt) is ∙ e) in
        record { from = omega (arith, found.from); below = found.below; is = found.is }

-- the net that an id was written of is found, from any net up to it on
pub net_again : (k next count n : ℕ) → next + k ≡ n → n < count → net_with next count (id_of n) ≡ Some n
net_again zero next count n e lt =
    let here : next ≡ n = omega (arith, e) in
    ap (λ m. net_with m count (id_of n)) here ∙ net_here (id_of n) n count lt (bytes_same (id_of n))
net_again (suc k) next count n e lt =
    sym (net_later (id_of n) next count (omega (arith, e, lt)) (other (bytes_eq (id_of n) (id_of next)) refl))
    ∙ net_again k (next + 1) count n (omega (arith, e)) lt
  where
    other : (b : Bool) → bytes_eq (id_of n) (id_of next) ≡ b → b ≡ false
    other false is = refl
    other true is = absurd (omega (arith, e, same_id n next (bytes_are (id_of n) (id_of next) is)))

-- ---- values

pub value_is : (code : ℕ) (v : Value) → value_in code ≡ Some v → code ≡ value_code v
value_is code v e = by (code == 48) refl (code == 49) refl (code == 120) refl v e
  where
    by : (z : Bool) → (code == 48) ≡ z → (o : Bool) → (code == 49) ≡ o → (x : Bool) → (code == 120) ≡ x → (v : Value) →
        cond z (Some Zero) (cond o (Some One) (cond x (Some Unknown) None)) ≡ Some v → code ≡ value_code v
    by true is o f x g Zero e = eqb-true code 48 is
    by true is o f x g One e = absurd cc
    by true is o f x g Unknown e = absurd cc
    by false is true f x g Zero e = absurd cc
    by false is true f x g One e = eqb-true code 49 f
    by false is true f x g Unknown e = absurd cc
    by false is false f true g Zero e = absurd cc
    by false is false f true g One e = absurd cc
    by false is false f true g Unknown e = eqb-true code 120 g
    by false is false f false g v e = absurd cc

pub value_read : (v : Value) → value_in (value_code v) ≡ Some v
value_read Zero = refl
value_read One = refl
value_read Unknown = refl

pub same_values : (a b : Value) → same_value a b ≡ true → a ≡ b
same_values Zero Zero e = refl
same_values One One e = refl
same_values Unknown Unknown e = refl
same_values Zero One e = absurd cc
same_values Zero Unknown e = absurd cc
same_values One Zero e = absurd cc
same_values One Unknown e = absurd cc
same_values Unknown Zero e = absurd cc
same_values Unknown One e = absurd cc

pub value_same : (a : Value) → same_value a a ≡ true
value_same Zero = refl
value_same One = refl
value_same Unknown = refl

-- ---- a value line of the next net

pub value_again : (n : ℕ) (v : Value) → value_for n (value_line n v) ≡ Some v
value_again n v = ap (λ b. cond b (value_in (value_code v)) None) (bytes_same (id_of n)) ∙ value_read v

pub value_line_is : (n : ℕ) (text : List ℕ) (v : Value) → value_for n text ≡ Some v → text ≡ value_line n v
value_line_is n [] v e = absurd cc
value_line_is n (code ∷ id) v e = by (bytes_eq id (id_of n)) refl e
  where
    by : (b : Bool) → bytes_eq id (id_of n) ≡ b → cond b (value_in code) None ≡ Some v → code ∷ id ≡ value_line n v
    by true is e = ap (λ c. c ∷ id) (value_is code v e) ∙ ap (λ t. value_code v ∷ t) (bytes_are id (id_of n) is)
    by false is e = absurd cc

-- ---- a change

-- what a change is: a value line of a net from the next on, whose value is another
pub record IsChange (next : ℕ) (values : List Value) (text : List ℕ) (change : Change) : Type 0 where
  pub from : next ≤ change.net
  pub below : change.net < length values
  pub other : same_value (get_or values change.net Unknown) change.value ≡ false
  pub is : text ≡ value_line change.net change.value

pub change_is : (next : ℕ) (values : List Value) (text : List ℕ) (change : Change) → change_in next values text ≡ Some change → IsChange next values text change
change_is next values [] change e = absurd cc
change_is next values (code ∷ id) change e = by (net_with next (length values) id) refl (value_in code) refl e
  where
    made : (n : ℕ) (v : Value) → net_with next (length values) id ≡ Some n → value_in code ≡ Some v → same_value (get_or values n Unknown) v ≡ false →
        IsChange next values (code ∷ id) (record { net = n; value = v })
    made n v en ev other =
        let found = net_is (length values) next (length values) id n (omega arith) en in
        record {
          from = found.from;
          below = found.below;
          other = other;
          is = ap (λ c. c ∷ id) (value_is code v ev) ∙ ap (λ t. value_code v ∷ t) found.is;
        }

    tested : (n : ℕ) (v : Value) → net_with next (length values) id ≡ Some n → value_in code ≡ Some v → (b : Bool) →
        same_value (get_or values n Unknown) v ≡ b → cond b None (Some (record { net = n; value = v })) ≡ Some change →
        IsChange next values (code ∷ id) change
    tested n v en ev true other e = absurd cc
    tested n v en ev false other e =
        let same : record { net = n; value = v } ≡ change = cc in
        subst (IsChange next values (code ∷ id)) same (made n v en ev other)

    by : (o : Option ℕ) → net_with next (length values) id ≡ o → (p : Option Value) → value_in code ≡ p →
        if_other values o p ≡ Some change → IsChange next values (code ∷ id) change
    by None en p ev e = absurd cc
    by (Some n) en None ev e = absurd cc
    by (Some n) en (Some v) ev e = tested n v en ev (same_value (get_or values n Unknown) v) refl e

pub change_again : (next n : ℕ) (values : List Value) (v : Value) → next ≤ n → n < length values → same_value (get_or values n Unknown) v ≡ false →
    change_in next values (value_line n v) ≡ Some (record { net = n; value = v })
change_again next n values v le lt other =
    ap (λ o. if_other values o (value_in (value_code v))) (net_again (n - next) next (length values) n (omega (arith, le)) lt)
    ∙ (ap (if_other values (Some n)) (value_read v)
    ∙ ap (λ b. cond b None (Some (record { net = n; value = v }))) other)

-- a value line is no line of a moment
pub no_time : (n i : ℕ) (v : Value) → bytes_eq (value_line n v) (time_line i) ≡ false
no_time n i Zero = refl
no_time n i One = refl
no_time n i Unknown = refl

-- ---- a line of a net

abbrev joined : List (List ℕ) → List ℕ
joined [] = []
joined (w ∷ []) = w
joined (w ∷ v ∷ ws) = w ++ 32 ∷ joined (v ∷ ws)

pub some_word : (bs : List ℕ) → (w : List ℕ) × (ws : List (List ℕ)) × (words_of bs ≡ w ∷ ws)
some_word [] = ([], [], refl)
some_word (b ∷ bs) = by (b == 32) refl (words_of bs) refl
  where
    by : (z : Bool) → b == 32 ≡ z → (o : List (List ℕ)) → words_of bs ≡ o →
        (w : List ℕ) × (ws : List (List ℕ)) × (cond z ([] ∷ words_of bs) (onto_first b (words_of bs)) ≡ w ∷ ws)
    by true e o f = ([], words_of bs, refl)
    by false e [] f = (b ∷ [], [], ap (onto_first b) f)
    by false e (w ∷ ws) f = (b ∷ w, ws, ap (onto_first b) f)

words_again : (text : List ℕ) → joined (words_of text) ≡ text
words_again [] = refl
words_again (b ∷ bs) = by (b == 32) refl (words_of bs) refl (words_again bs)
  where
    front : (w : List ℕ) (ws : List (List ℕ)) → joined ((b ∷ w) ∷ ws) ≡ b ∷ joined (w ∷ ws)
    front w [] = refl
    front w (v ∷ ws) = refl

    none : words_of bs ≡ [] → ⊥
    none f = let s = some_word bs in let clash : [] ≡ s.0 ∷ s.1 = sym f ∙ s.2 in cc

    by : (z : Bool) → (b == 32) ≡ z → (ws : List (List ℕ)) → words_of bs ≡ ws → joined ws ≡ bs → joined (cond z ([] ∷ ws) (onto_first b ws)) ≡ b ∷ bs
    by true e [] f h = absurd (none f)
    by true e (w ∷ ws) f h = rw (eqb-true b 32 e) (ap (λ t. 32 ∷ t) h)
    by false e [] f h = ap (λ t. b ∷ t) h
    by false e (w ∷ ws) f h = front w ws ∙ ap (λ t. b ∷ t) h

-- a text of four words or more is no triple
pub four_words : (line rest more last : List ℕ) (a b c : List ℕ) → words_of line ≡ a ∷ words_of rest → words_of rest ≡ b ∷ words_of more →
    words_of more ≡ c ∷ words_of last → None ≡ triple_of (words_of line)
four_words line rest more last a b c e f g =
    let s = some_word last in
    sym (ap triple_of (e ∙ ap (λ ws. a ∷ ws) (f ∙ ap (λ ws. b ∷ ws) (g ∙ ap (λ ws. c ∷ ws) s.2))))

pub record IsNetLine (n : ℕ) (text key : List ℕ) : Type 0 where
  pub is : text ≡ net_line n key
  pub named : is_name key ≡ true

key_words : (n : ℕ) (rest key : List ℕ) → key_of n (triple_of (words_of rest)) ≡ Some key →
    (rest ≡ id_of n ++ (codes " " ++ (key ++ codes " $end"))) × (is_name key ≡ true)
key_words n rest key e = by (words_of rest) (words_again rest) e
  where
    said : (a b c : List ℕ) → joined (a ∷ b ∷ c ∷ []) ≡ rest → (z : Bool) →
        (bytes_eq a (id_of n) && is_name b && bytes_eq c (codes "$end")) ≡ z → cond z (Some b) None ≡ Some key →
        (rest ≡ id_of n ++ (codes " " ++ (key ++ codes " $end"))) × (is_name key ≡ true)
    said a b c join false is e = absurd cc
    said a b c join true is e =
        let same : b ≡ key = cc in
        let two = and_parts (bytes_eq a (id_of n) && is_name b) (bytes_eq c (codes "$end")) is in
        let one = and_parts (bytes_eq a (id_of n)) (is_name b) two.0 in (
          sym join
              ∙ (ap (λ t. t ++ 32 ∷ (b ++ 32 ∷ c)) (bytes_are a (id_of n) one.0)
              ∙ (ap (λ t. id_of n ++ 32 ∷ (b ++ 32 ∷ t)) (bytes_are c (codes "$end") two.1)
              ∙ ap (λ t. id_of n ++ 32 ∷ (t ++ codes " $end")) same)),
          ap is_name (sym same) ∙ one.1,
        )

    by : (ws : List (List ℕ)) → joined ws ≡ rest → key_of n (triple_of ws) ≡ Some key →
        (rest ≡ id_of n ++ (codes " " ++ (key ++ codes " $end"))) × (is_name key ≡ true)
    by [] j e = absurd cc
    by (a ∷ []) j e = absurd cc
    by (a ∷ b ∷ []) j e = absurd cc
    by (a ∷ b ∷ c ∷ []) j e = said a b c j (bytes_eq a (id_of n) && is_name b && bytes_eq c (codes "$end")) refl e
    by (a ∷ b ∷ c ∷ d ∷ ws) j e = absurd cc

pub key_is : (n : ℕ) (text key : List ℕ) → key_in n text ≡ Some key → IsNetLine n text key
key_is n text key e = by (bytes_eq (take 12 text) (codes "$var wire 1 ")) refl e
  where
    by : (b : Bool) → bytes_eq (take 12 text) (codes "$var wire 1 ") ≡ b →
        option_and_then (λ rest. key_of n (triple_of (words_of rest))) (cond b (Some (drop 12 text)) None) ≡ Some key → IsNetLine n text key
    by false is e = absurd cc
    by true is e =
        let words = key_words n (drop 12 text) key e in
        record {
          is =
              sym (take-append-drop 12 text)
              ∙ (ap (λ t. t ++ drop 12 text) (bytes_are (take 12 text) (codes "$var wire 1 ") is) ∙ ap (λ t. codes "$var wire 1 " ++ t) words.0);
          named = words.1;
        }

pub key_again : (n : ℕ) (key : List ℕ) → is_name key ≡ true → key_in n (net_line n key) ≡ Some key
key_again n key named =
    let visible = (and_parts (nat_lt 0 (length key)) (is_visible key) named).1 in
    let last : List ℕ = codes "$end" in
    let words : words_of (id_of n ++ 32 ∷ (key ++ 32 ∷ last)) ≡ id_of n ∷ key ∷ last ∷ [] =
    word_first (id_of n) (key ++ 32 ∷ last) (id_lacks 32 n (omega arith))
    ∙ ap (λ ws. id_of n ∷ ws)
    (word_first key last (visible_lacks 32 key (omega arith) visible) ∙ ap (λ ws. key ∷ ws) (word_only last (refl, (refl, (refl, (refl, tt)))))) in
    ap (λ ws. key_of n (triple_of ws)) words
    ∙ ap (λ b. cond b (Some key) None)
    (and_from (bytes_eq (id_of n) (id_of n) && is_name key) true (and_from (bytes_eq (id_of n) (id_of n)) (is_name key) (bytes_same (id_of n)) named) refl)
