-- A line is compared with the keys and the lines of its numbers alone: others have other names.
use Rattle.std.proofs.Common.{◌≡◌, ◌≤◌, ◌<◌, ◌+◌, ℕ, Bool, true, false, cond, ◌||◌, List, [], ◌∷◌, ◌++◌, length, map, take, get_or, find, filter}
use Rattle.std.proofs.Common.{Option, Some, Result, refl, ap, sym, subst, ◌∙◌, ◌⊎◌, inl, inr}
use Rattle.std.specs.Prelude.{◌==◌, not, slice_index_or, if◌then◌else◌}
use Rattle.std.specs.Borrow.{Bor}
use Rattle.std.specs.List.{list_any}
use Rattle.std.specs.Option.{option_map, unwrap_or}
use Rattle.std.specs.Str.{bytes_eq}
use Rattle.std.proofs.lemmas.Bool.{and_parts, eq-eqb, false_from_ne_true, false≢true, or_cases, or_left, or_right, true≢false}
use Rattle.std.proofs.lemmas.List.{get_or-map, get_or_default, get_or_past, map-append, map_more}
use Rattle.std.proofs.lemmas.List.Elements.{filter-append}
use Rattle.std.proofs.lemmas.Slice.Eq.{bytes_eq-Decides}
use Rattle.bs_bits.specs.Reading.{Answers}
use Rattle.bs_net_names.specs.Keys.{key_parts, parts_in}
use Rattle.bs_net_names.specs.Naming.{plain}
use Rattle.bs_net_names.specs.Rtl.{equal_bit}
use Rattle.bs_net_names.specs.declared.key.KeyParts.{KeyParts}
use Rattle.bs_vcd_header.specs.TagIndex.{tag_of}
use Rattle.bs_inspect_names.specs.declared.entry.MapEntry.{MapEntry as CodeEntry}
use Rattle.bs_inspect_names.specs.declared.fault.MapFault.{MapFault}
use Rattle.bs_inspect_names.specs.declared.fault.MapFault.TheVariants.{NoMemory as Want}
use Rattle.bs_inspect_names.specs.declared.vector.Vector.{Vector as CodeVector}
use Rattle.bs_inspect_names.specs.Mapping.{MapEntry, are_both, entry_in, has_bit, has_key, is_beyond, is_double, judged, name_by_vector, name_of, names_key, numbered_name, same_key, share}
use Rattle.bs_inspect_names.specs.Tagged.{is_near_key, is_near_line, kept, key_tag, word_tag}
use Rattle.bs_inspect_names.specs.Vectors.{Vector, covers, has_number, vector_in, vector_of}
use Rattle.bs_inspect_names.proofs.MappingLemmas.{by_tests, tested}

abbrev Names : Type 0
Names = List (Bor (List ℕ))

-- ---- a number

pub key_tag_by : (key : List ℕ) (p : KeyParts) (b : List ℕ) (n : ℕ) → parts_in p ≡ key_parts key → b ≡ plain p.base.now → n ≡ tag_of b → n ≡ key_tag key
key_tag_by key p b n is base e = e ∙ ap tag_of (base ∙ ap (λ k. plain k.base) is)

pub word_tag_by : (word : List ℕ) (v : CodeVector) (b : List ℕ) (n : ℕ) → vector_in v ≡ vector_of word → b ≡ plain v.base.now → n ≡ tag_of b → n ≡ word_tag word
word_tag_by word v b n is base e = e ∙ ap tag_of (base ∙ ap (λ w. plain w.base) is)

pub tag_there : (tags : List ℕ) (i d t : ℕ) → i < length tags → t ≡ get_or tags i d → t ≡ slice_index_or tags i 0
tag_there tags i d t lt e = e ∙ get_or_default tags i d 0 lt

pub tag_past : (tags : List ℕ) (i : ℕ) → length tags ≤ i → 0 ≡ slice_index_or tags i 0
tag_past tags i le = sym (get_or_past tags i 0 le)

pub tags_more : (keys : List (Bor (List ℕ))) (tags after : List ℕ) (i t : ℕ) (d : Bor (List ℕ)) → i < length keys →
    tags ≡ map (λ k. key_tag k.now) (take i keys) → t ≡ key_tag (get_or keys i d).now → after ≡ tags ++ t ∷ [] →
    after ≡ map (λ k. key_tag k.now) (take (i + 1) keys)
tags_more keys tags after i t d lt e is goes =
    goes ∙ ((λ j. e j ++ is j ∷ []) ∙ sym (map_more (λ (k : Bor (List ℕ)). key_tag k.now) keys i d lt))

-- the numbers of lines with one more
push_is : (tag : CodeEntry → ℕ) (es after : List CodeEntry) (e : CodeEntry) (ts more : List ℕ) (t : ℕ) → ts ≡ map tag es → after ≡ es ++ e ∷ [] →
    more ≡ ts ++ t ∷ [] → t ≡ tag e → more ≡ map tag after
push_is tag es after e ts more t are goes put is =
    put ∙ ((λ j. are j ++ is j ∷ []) ∙ (sym (map-append tag es (e ∷ [])) ∙ ap (map tag) (sym goes)))

pub owns_push : (es after : List CodeEntry) (e : CodeEntry) (ts more : List ℕ) (t : ℕ) → ts ≡ map (λ e. key_tag e.key.now) es → after ≡ es ++ e ∷ [] →
    more ≡ ts ++ t ∷ [] → t ≡ key_tag e.key.now → more ≡ map (λ e. key_tag e.key.now) after
owns_push es after e ts more t are goes put is = push_is (λ (x : CodeEntry). key_tag x.key.now) es after e ts more t are goes put is

pub wholes_push : (es after : List CodeEntry) (e : CodeEntry) (ts more : List ℕ) (t : ℕ) → ts ≡ map (λ e. word_tag e.key.now) es → after ≡ es ++ e ∷ [] →
    more ≡ ts ++ t ∷ [] → t ≡ word_tag e.key.now → more ≡ map (λ e. word_tag e.key.now) after
wholes_push es after e ts more t are goes put is = push_is (λ (x : CodeEntry). word_tag x.key.now) es after e ts more t are goes put is

-- ---- those that are near

filter_one : {A : Type 0} (p : A → Bool) (x : A) → filter p (x ∷ []) ≡ kept (p x) x
filter_one {A = A} p x = by (p x)
  where
    by : (b : Bool) → cond b (x ∷ []) [] ≡ kept b x
    by true = refl
    by false = refl

-- a value more
near_more : {A B : Type 0} (p : B → Bool) (view : A → B) (xs : List A) (found after : List B) (i : ℕ) (b : Bool) (d : A) → i < length xs →
    found ≡ filter p (map view (take i xs)) → b ≡ p (view (get_or xs i d)) → after ≡ found ++ kept b (view (get_or xs i d)) →
    after ≡ filter p (map view (take (i + 1) xs))
near_more {B = B} p view xs found after i b d lt e is goes =
    let x : B = view (get_or xs i d) in
    let front : List B = map view (take i xs) in
    goes
    ∙ ((λ j. e j ++ kept (is j) x)
    ∙ sym (ap (filter p) (map_more view xs i d lt)
    ∙ (filter-append p front (x ∷ []) ∙ ap (λ (t : List B). filter p front ++ t) (filter_one p x))))

tag_is : {A : Type 0} (tag : A → ℕ) (xs : List A) (tags : List ℕ) (i t : ℕ) (d : A) → i < length xs → tags ≡ map tag xs → t ≡ slice_index_or tags i 0 →
    t ≡ tag (get_or xs i d)
tag_is tag xs tags i t d lt are at = at ∙ (ap (λ (ts : List ℕ). slice_index_or ts i 0) are ∙ get_or-map tag xs i d 0 lt)

pub near_key_more : (own whole : ℕ) (keys : List (Bor (List ℕ))) (tags : List ℕ) (found after : List (List ℕ)) (i t : ℕ) (b : Bool) (d : Bor (List ℕ)) →
    i < length keys → tags ≡ map (λ k. key_tag k.now) keys → t ≡ slice_index_or tags i 0 → b ≡ ((t == own) || (t == whole)) →
    found ≡ filter (is_near_key own whole) (map (λ k. k.now) (take i keys)) → after ≡ found ++ kept b (get_or keys i d).now →
    after ≡ filter (is_near_key own whole) (map (λ k. k.now) (take (i + 1) keys))
near_key_more own whole keys tags found after i t b d lt are at is e goes =
    let same : t ≡ key_tag (get_or keys i d).now = tag_is (λ (k : Bor (List ℕ)). key_tag k.now) keys tags i t d lt are at in
    near_more (is_near_key own whole) (λ (k : Bor (List ℕ)). k.now) keys found after i b d lt e
    (is ∙ ap (λ (n : ℕ). (n == own) || (n == whole)) same) goes

pub near_line_more : (own whole : ℕ) (es : List CodeEntry) (owns wholes : List ℕ) (found after : List MapEntry) (i t u : ℕ) (b : Bool) (d : CodeEntry) →
    i < length es → owns ≡ map (λ e. key_tag e.key.now) es → wholes ≡ map (λ e. word_tag e.key.now) es → t ≡ slice_index_or owns i 0 →
    u ≡ slice_index_or wholes i 0 → b ≡ ((t == own) || (u == whole)) →
    found ≡ filter (is_near_line own whole) (map entry_in (take i es)) → after ≡ found ++ kept b (entry_in (get_or es i d)) →
    after ≡ filter (is_near_line own whole) (map entry_in (take (i + 1) es))
near_line_more own whole es owns wholes found after i t u b d lt ones others at there is e goes =
    let one : t ≡ key_tag (get_or es i d).key.now = tag_is (λ (x : CodeEntry). key_tag x.key.now) es owns i t d lt ones at in
    let other : u ≡ word_tag (get_or es i d).key.now = tag_is (λ (x : CodeEntry). word_tag x.key.now) es wholes i u d lt others there in
    near_more (is_near_line own whole) entry_in es found after i b d lt e (is ∙ (λ j. (one j == own) || (other j == whole))) goes

-- ---- nothing else passes a test

fails : {A : Type 0} (p q : A → Bool) (x : A) → (p x ≡ true → q x ≡ true) → q x ≡ false → p x ≡ false
fails p q x near e = false_from_ne_true (p x) (λ is. true≢false (sym (near is) ∙ e))

any_filter : {A : Type 0} (p q : A → Bool) (xs : List A) → ((x : A) → p x ≡ true → q x ≡ true) → list_any p (filter q xs) ≡ list_any p xs
any_filter p q [] near = refl
any_filter p q (x ∷ xs) near = by (any_filter p q xs near) (q x) refl
  where
    by : list_any p (filter q xs) ≡ list_any p xs → (b : Bool) → q x ≡ b → list_any p (cond b (x ∷ filter q xs) (filter q xs)) ≡ (p x || list_any p xs)
    by rest true e = ap (λ (r : Bool). p x || r) rest
    by rest false e = rest ∙ sym (ap (λ (r : Bool). r || list_any p xs) (fails p q x (near x) e))

find_filter : {A : Type 0} (p q : A → Bool) (xs : List A) → ((x : A) → p x ≡ true → q x ≡ true) → find p (filter q xs) ≡ find p xs
find_filter p q [] near = refl
find_filter {A = A} p q (x ∷ xs) near = by (find_filter p q xs near) (q x) refl
  where
    by : find p (filter q xs) ≡ find p xs → (b : Bool) → q x ≡ b → find p (cond b (x ∷ filter q xs) (filter q xs)) ≡ cond (p x) (Some x) (find p xs)
    by rest true e = ap (λ (r : Option A). cond (p x) (Some x) r) rest
    by rest false e = rest ∙ sym (ap (λ (r : Bool). cond r (Some x) (find p xs)) (fails p q x (near x) e))

any_agree : {A : Type 0} (p q : A → Bool) (xs : List A) → ((x : A) → p x ≡ q x) → list_any p xs ≡ list_any q xs
any_agree p q [] same = refl
any_agree p q (x ∷ xs) same =
    ap (λ (b : Bool). b || list_any p xs) (same x) ∙ ap (λ (b : Bool). q x || b) (any_agree p q xs same)

-- equal names have one number
tags_same : (a b : List ℕ) → bytes_eq a b ≡ true → (tag_of a == tag_of b) ≡ true
tags_same a b e = eq-eqb (tag_of a) (tag_of b) (ap tag_of ((bytes_eq-Decides a b).0 e))

tags_back : (a b : List ℕ) → bytes_eq a b ≡ true → (tag_of b == tag_of a) ≡ true
tags_back a b e = eq-eqb (tag_of b) (tag_of a) (sym (ap tag_of ((bytes_eq-Decides a b).0 e)))

names_one : (one other : List ℕ) → same_key one other ≡ true → bytes_eq (plain (key_parts one).base) (plain (key_parts other).base) ≡ true
names_one one other e =
    (and_parts (bytes_eq (plain (key_parts one).base) (plain (key_parts other).base)) (equal_bit (key_parts one).bit (key_parts other).bit) e).0

covers_one : (v : Vector) (key : List ℕ) → covers v (key_parts key) ≡ true → bytes_eq (plain v.base) (plain (key_parts key).base) ≡ true
covers_one v key e = (and_parts (bytes_eq (plain v.base) (plain (key_parts key).base)) (has_number v (key_parts key).bit) e).0

key_near : (word key : List ℕ) → same_key word key ≡ true → is_near_key (key_tag word) (word_tag word) key ≡ true
key_near word key e =
    or_left (key_tag key == key_tag word) (key_tag key == word_tag word)
    (tags_back (plain (key_parts word).base) (plain (key_parts key).base) (names_one word key e))

bit_near : (word key : List ℕ) → covers (vector_of word) (key_parts key) ≡ true → is_near_key (key_tag word) (word_tag word) key ≡ true
bit_near word key e =
    or_right (key_tag key == key_tag word) (key_tag key == word_tag word)
    (tags_back (plain (vector_of word).base) (plain (key_parts key).base) (covers_one (vector_of word) key e))

names_near : (e : MapEntry) (key : List ℕ) → names_key e key ≡ true → is_near_key (key_tag e.key) (word_tag e.key) key ≡ true
names_near e key h = by (or_cases (has_key key e) (has_bit key e) h)
  where
    by : (has_key key e ≡ true) ⊎ (has_bit key e ≡ true) → is_near_key (key_tag e.key) (word_tag e.key) key ≡ true
    by (inl own) = key_near e.key key own
    by (inr bit) = bit_near e.key key bit

beyond_near : (e : MapEntry) (key : List ℕ) → is_beyond e key ≡ true → is_near_key (key_tag e.key) (word_tag e.key) key ≡ true
beyond_near e key h = bit_near e.key key (and_parts (has_bit key e) (not (has_number (vector_of e.name) (key_parts key).bit)) h).0

both_near : (e : MapEntry) (one : Vector) (key : List ℕ) → are_both one (vector_of e.key) key ≡ true → is_near_key (key_tag e.key) (word_tag e.key) key ≡ true
both_near e one key h = bit_near e.key key (and_parts (covers one (key_parts key)) (covers (vector_of e.key) (key_parts key)) h).1

double_near : (keys : List (List ℕ)) (e x : MapEntry) → is_double keys e x ≡ true → is_near_line (key_tag e.key) (word_tag e.key) x ≡ true
double_near keys e x h = by (or_cases (same_key x.key e.key) (share keys (vector_of x.key) (vector_of e.key)) h)
  where
    shared : (b both : Bool) → (if b then both else false) ≡ true → b ≡ true
    shared true both h = refl
    shared false both h = absurd (false≢true h)

    by : (same_key x.key e.key ≡ true) ⊎ (share keys (vector_of x.key) (vector_of e.key) ≡ true) → is_near_line (key_tag e.key) (word_tag e.key) x ≡ true
    by (inl same) =
        or_left (key_tag x.key == key_tag e.key) (word_tag x.key == word_tag e.key)
        (tags_same (plain (key_parts x.key).base) (plain (key_parts e.key).base) (names_one x.key e.key same))
    by (inr both) =
        or_right (key_tag x.key == key_tag e.key) (word_tag x.key == word_tag e.key)
        (tags_same (plain (vector_of x.key).base) (plain (vector_of e.key).base)
        (shared (bytes_eq (plain (vector_of x.key).base) (plain (vector_of e.key).base)) (list_any (are_both (vector_of x.key) (vector_of e.key)) keys) both))

-- ---- a line by those that are near

near_judged : (keys : List (List ℕ)) (es : List MapEntry) (n : ℕ) (e : MapEntry) →
    judged (filter (is_near_key (key_tag e.key) (word_tag e.key)) keys) (filter (is_near_line (key_tag e.key) (word_tag e.key)) es) n e ≡ judged keys es n e
near_judged keys es n e =
    let near : List ℕ → Bool = is_near_key (key_tag e.key) (word_tag e.key) in
    let some : List (List ℕ) = filter near keys in
    let earlier : List MapEntry = filter (is_near_line (key_tag e.key) (word_tag e.key)) es in
    let both : (x : MapEntry) → is_double some e x ≡ is_double keys e x =
    λ x. ap (λ (b : Bool). same_key x.key e.key || (if bytes_eq (plain (vector_of x.key).base) (plain (vector_of e.key).base) then b else false))
    (any_filter (are_both (vector_of x.key) (vector_of e.key)) near keys (both_near e (vector_of x.key))) in
    let known : list_any (names_key e) some ≡ list_any (names_key e) keys = any_filter (names_key e) near keys (names_near e) in
    let double : list_any (is_double some e) earlier ≡ list_any (is_double keys e) es =
    any_agree (is_double some e) (is_double keys e) earlier both
    ∙ any_filter (is_double keys e) (is_near_line (key_tag e.key) (word_tag e.key)) es (double_near keys e) in
    let beyond : list_any (is_beyond e) some ≡ list_any (is_beyond e) keys = any_filter (is_beyond e) near keys (beyond_near e) in
    tested some earlier n e ∙ ((λ i. by_tests n e (known i) (double i) (beyond i)) ∙ sym (tested keys es n e))

pub near_answers : (keys : List (Bor (List ℕ))) (es : List CodeEntry) (n : ℕ) (e : MapEntry) (own whole : ℕ) (near slice : List (Bor (List ℕ)))
    (earlier lines : List CodeEntry) (r : Result CodeEntry MapFault) → own ≡ key_tag e.key → whole ≡ word_tag e.key →
    map (λ k. k.now) near ≡ filter (is_near_key own whole) (map (λ k. k.now) keys) →
    map entry_in earlier ≡ filter (is_near_line own whole) (map entry_in es) → slice ≡ near → lines ≡ earlier →
    Answers Want entry_in r (judged (map (λ k. k.now) slice) (map entry_in lines) n e) → Answers Want entry_in r (judged (map (λ k. k.now) keys) (map entry_in es) n e)
near_answers keys es n e own whole near slice earlier lines r one other are come same alike says =
    let all : List (List ℕ) = map (λ k. k.now) keys in
    let some : map (λ k. k.now) slice ≡ filter (is_near_key (key_tag e.key) (word_tag e.key)) all =
    ap (λ (ks : Names). map (λ k. k.now) ks) same ∙ (are ∙ (λ i. filter (is_near_key (one i) (other i)) all)) in
    let before : map entry_in lines ≡ filter (is_near_line (key_tag e.key) (word_tag e.key)) (map entry_in es) =
    ap (map entry_in) alike ∙ (come ∙ (λ i. filter (is_near_line (one i) (other i)) (map entry_in es))) in
    subst (λ (wanted : Result MapEntry MapFault). Answers Want entry_in r wanted)
    ((λ i. judged (some i) (before i) n e) ∙ near_judged all (map entry_in es) n e) says

-- ---- a name by those that are near

own_near : (key : List ℕ) (e : MapEntry) → has_key key e ≡ true → is_near_line (key_tag key) (key_tag key) e ≡ true
own_near key e h =
    or_left (key_tag e.key == key_tag key) (word_tag e.key == key_tag key)
    (tags_same (plain (key_parts e.key).base) (plain (key_parts key).base) (names_one e.key key h))

vector_near : (key : List ℕ) (e : MapEntry) → has_bit key e ≡ true → is_near_line (key_tag key) (key_tag key) e ≡ true
vector_near key e h =
    or_right (key_tag e.key == key_tag key) (word_tag e.key == key_tag key)
    (tags_same (plain (vector_of e.key).base) (plain (key_parts key).base) (covers_one (vector_of e.key) key h))

near_name : (es : List MapEntry) (key : List ℕ) → name_of (filter (is_near_line (key_tag key) (key_tag key)) es) key ≡ name_of es key
near_name es key =
    let near : MapEntry → Bool = is_near_line (key_tag key) (key_tag key) in
    let own : find (has_key key) (filter near es) ≡ find (has_key key) es = find_filter (has_key key) near es (own_near key) in
    let vector : name_by_vector (filter near es) key ≡ name_by_vector es key =
    ap (λ (o : Option MapEntry). unwrap_or (option_map (λ (e : MapEntry). numbered_name e.name (key_parts key).bit) o) key)
    (find_filter (has_bit key) near es (vector_near key)) in
    λ i. unwrap_or (option_map (λ (e : MapEntry). e.name) (own i)) (vector i)

pub name_is : (es : List MapEntry) (key : List ℕ) (tag : ℕ) (near slice : List CodeEntry) (name : List ℕ) → tag ≡ key_tag key →
    map entry_in near ≡ filter (is_near_line tag tag) es → slice ≡ near → name ≡ name_of (map entry_in slice) key → name ≡ name_of es key
name_is es key tag near slice name is are same e =
    let some : map entry_in slice ≡ filter (is_near_line (key_tag key) (key_tag key)) es =
    ap (map entry_in) same ∙ (are ∙ ap (λ (t : ℕ). filter (is_near_line t t) es) is) in
    e ∙ (ap (λ (xs : List MapEntry). name_of xs key) some ∙ near_name es key)
