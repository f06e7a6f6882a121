-- Lines, entries and names, one by one.
use Rattle.std.proofs.Common.{◌≡◌, ℕ, ◌<◌, ◌≤◌, ◌+◌, Bool, true, false, cond, ◌||◌, List, [], ◌∷◌, ◌++◌, length, map, take, drop, get_or, find, slice_get}
use Rattle.std.proofs.Common.{Option, Some, None, Result, Ok, Err, refl, ap, sym, ◌∙◌, ◌⊎◌, inl, inr}
use Rattle.std.specs.Prelude.{not, if◌then◌else◌}
use Rattle.std.specs.Borrow.{Bor}
use Rattle.std.specs.List.{list_any}
use Rattle.std.specs.Option.{option_map, unwrap_or}
use Rattle.std.specs.Str.{bytes_eq}
use Rattle.std.proofs.lemmas.List.{take_all, take_more, map-append}
use Rattle.std.proofs.lemmas.Option.{get_or_from_slice_get, slice_get_within}
use Rattle.bs_bits.specs.Lines.{lines_of, words_of}
use Rattle.bs_bits.specs.Reading.{◌>>=◌}
use Rattle.bs_net_names.specs.Keys.{key_parts}
use Rattle.bs_net_names.specs.Naming.{plain}
use Rattle.bs_inspect_names.specs.declared.entry.MapEntry.{MapEntry as CodeEntry}
use Rattle.bs_inspect_names.specs.declared.fault.MapFault.{MapFault}
use Rattle.bs_inspect_names.specs.declared.fault.MapFault.TheVariants as M
use Rattle.bs_inspect_names.specs.Vectors.{Vector}
use Rattle.bs_inspect_names.specs.Mapping.{MapEntry, are_both, entries_from, entry_at, entry_in, entry_of, has_bit, has_key, is_beyond, is_double, judged, name_by_vector, name_of, names_key, names_of, numbered_name, share}

-- a test of keys, as bytes that are lent
pub any_key : (p : List ℕ → Bool) (keys : List (Bor (List ℕ))) → list_any (λ k. p k.now) keys ≡ list_any p (map (λ k. k.now) keys)
any_key p [] = refl
any_key p (k ∷ keys) = ap (λ (b : Bool). p k.now || b) (any_key p keys)

pub any_entry : (p : MapEntry → Bool) (entries : List CodeEntry) → list_any (λ e. p (entry_in e)) entries ≡ list_any p (map entry_in entries)
any_entry p [] = refl
any_entry p (e ∷ entries) = ap (λ (b : Bool). p (entry_in e) || b) (any_entry p entries)

-- ---- two vectors

abbrev by_name : Bool → Bool → Bool
by_name same both = if same then both else false

names_same : (one other : Vector) (b same : Bool) (p q : List ℕ) → p ≡ plain one.base → q ≡ plain other.base → same ≡ bytes_eq p q → same ≡ b →
    bytes_eq (plain one.base) (plain other.base) ≡ b
names_same one other b same p q first second is held = (λ i. bytes_eq (sym first i) (sym second i)) ∙ (sym is ∙ held)

pub share_some : (keys : List (Bor (List ℕ))) (one other : Vector) (same r : Bool) (p q : List ℕ) → p ≡ plain one.base → q ≡ plain other.base →
    same ≡ bytes_eq p q → same ≡ true → r ≡ list_any (λ k. are_both one other k.now) keys → r ≡ share (map (λ k. k.now) keys) one other
share_some keys one other same r p q first second is held both =
    both ∙ (any_key (are_both one other) keys
    ∙ ap (λ (b : Bool). by_name b (list_any (are_both one other) (map (λ k. k.now) keys))) (sym (names_same one other true same p q first second is held)))

pub share_none : (keys : List (Bor (List ℕ))) (one other : Vector) (same : Bool) (p q : List ℕ) → p ≡ plain one.base → q ≡ plain other.base →
    same ≡ bytes_eq p q → same ≡ false → false ≡ share (map (λ k. k.now) keys) one other
share_none keys one other same p q first second is failed =
    ap (λ (b : Bool). by_name b (list_any (are_both one other) (map (λ k. k.now) keys))) (sym (names_same one other false same p q first second is failed))

-- ---- the entry of a line

abbrev pub Refusal : Type 0
Refusal = Result MapEntry MapFault

-- what a line is by the three tests
abbrev pub by_tests : ℕ → MapEntry → (known double beyond : Bool) → Refusal
by_tests n e known double beyond =
    if known then (if double then Err (M.Twice n) else (if beyond then Err (M.Range n) else Ok e)) else Err (M.Unknown n)

by_known : (n : ℕ) (e : MapEntry) (known double beyond : Bool) →
    (if not known then Err (M.Unknown n) else (if double then Err (M.Twice n) else (if beyond then Err (M.Range n) else Ok e))) ≡
    by_tests n e known double beyond
by_known n e true double beyond = refl
by_known n e false double beyond = refl

pub tested : (keys : List (List ℕ)) (es : List MapEntry) (n : ℕ) (e : MapEntry) →
    judged keys es n e ≡ by_tests n e (list_any (names_key e) keys) (list_any (is_double keys e) es) (list_any (is_beyond e) keys)
tested keys es n e = by_known n e (list_any (names_key e) keys) (list_any (is_double keys e) es) (list_any (is_beyond e) keys)

pub entry_unknown : (keys : List (List ℕ)) (es : List MapEntry) (n : ℕ) (e : MapEntry) → list_any (names_key e) keys ≡ false →
    judged keys es n e ≡ Err (M.Unknown n)
entry_unknown keys es n e known =
    tested keys es n e ∙ ap (λ (b : Bool). by_tests n e b (list_any (is_double keys e) es) (list_any (is_beyond e) keys)) known

pub entry_twice : (keys : List (List ℕ)) (es : List MapEntry) (n : ℕ) (e : MapEntry) → list_any (names_key e) keys ≡ true →
    list_any (is_double keys e) es ≡ true → judged keys es n e ≡ Err (M.Twice n)
entry_twice keys es n e known double =
    tested keys es n e ∙ (λ i. by_tests n e (known i) (double i) (list_any (is_beyond e) keys))

pub entry_beyond : (keys : List (List ℕ)) (es : List MapEntry) (n : ℕ) (e : MapEntry) → list_any (names_key e) keys ≡ true →
    list_any (is_double keys e) es ≡ false → list_any (is_beyond e) keys ≡ true → judged keys es n e ≡ Err (M.Range n)
entry_beyond keys es n e known double beyond = tested keys es n e ∙ (λ i. by_tests n e (known i) (double i) (beyond i))

pub entry_new : (keys : List (List ℕ)) (es : List MapEntry) (n : ℕ) (e : MapEntry) → list_any (names_key e) keys ≡ true →
    list_any (is_double keys e) es ≡ false → list_any (is_beyond e) keys ≡ false → judged keys es n e ≡ Ok e
entry_new keys es n e known double beyond = tested keys es n e ∙ (λ i. by_tests n e (known i) (double i) (beyond i))

-- ---- lines

abbrev Read : Type 0
Read = Result (List MapEntry) MapFault

abbrev behind : List (List ℕ) → List MapEntry → List (List ℕ) → Result MapEntry MapFault → Read
behind keys earlier texts r = r >>= λ e. entries_from keys (earlier ++ e ∷ []) texts

pub entry_more : (all : Read) (keys : List (List ℕ)) (earlier : List MapEntry) (rest text more : List ℕ) (e : MapEntry) →
    all ≡ entries_from keys earlier (lines_of rest) → lines_of rest ≡ text ∷ lines_of more → entry_at keys earlier (entry_of (words_of text)) ≡ Ok e →
    all ≡ entries_from keys (earlier ++ e ∷ []) (lines_of more)
entry_more all keys earlier rest text more e is cut ok =
    is ∙ (ap (entries_from keys earlier) cut ∙ ap (behind keys earlier (lines_of more)) ok)

pub entry_faulty : (all : Read) (keys : List (List ℕ)) (earlier : List MapEntry) (rest text more : List ℕ) (fault : MapFault) →
    all ≡ entries_from keys earlier (lines_of rest) → lines_of rest ≡ text ∷ lines_of more →
    (fault ≡ M.NoMemory) ⊎ (entry_at keys earlier (entry_of (words_of text)) ≡ Err fault) → (fault ≡ M.NoMemory) ⊎ (all ≡ Err fault)
entry_faulty all keys earlier rest text more fault is cut (inl want) = inl want
entry_faulty all keys earlier rest text more fault is cut (inr err) =
    inr (is ∙ (ap (entries_from keys earlier) cut ∙ ap (behind keys earlier (lines_of more)) err))

pub entries_end : (all : Read) (keys : List (List ℕ)) (earlier : List MapEntry) (rest : List ℕ) →
    all ≡ entries_from keys earlier (lines_of rest) → lines_of rest ≡ [] → all ≡ Ok earlier
entries_end all keys earlier rest is none = is ∙ ap (entries_from keys earlier) none

-- ---- the name of a key

abbrev of_line : List ℕ → Option MapEntry → List ℕ
of_line other o = unwrap_or (option_map (λ (e : MapEntry). e.name) o) other

abbrev of_vector : List ℕ → Option MapEntry → List ℕ
of_vector key o = unwrap_or (option_map (λ (e : MapEntry). numbered_name e.name (key_parts key).bit) o) key

found_by : (p : MapEntry → Bool) (e : CodeEntry) (es : List CodeEntry) (b : Bool) →
    option_map entry_in (find (λ x. p (entry_in x)) es) ≡ find p (map entry_in es) →
    option_map entry_in (cond b (Some e) (find (λ x. p (entry_in x)) es)) ≡ cond b (Some (entry_in e)) (find p (map entry_in es))
found_by p e es true h = refl
found_by p e es false h = h

found_as : (p : MapEntry → Bool) (es : List CodeEntry) → option_map entry_in (find (λ x. p (entry_in x)) es) ≡ find p (map entry_in es)
found_as p [] = refl
found_as p (e ∷ es) = found_by p e es (p (entry_in e)) (found_as p es)

pub by_line : (key : List ℕ) (es : List CodeEntry) (e : CodeEntry) (name : List ℕ) → Some e ≡ find (λ x. has_key key (entry_in x)) es →
    name ≡ e.name.now → name ≡ name_of (map entry_in es) key
by_line key es e name is put =
    put ∙ ap (of_line (name_by_vector (map entry_in es) key)) (ap (option_map entry_in) is ∙ found_as (has_key key) es)

pub by_other : (key : List ℕ) (es : List CodeEntry) (name : List ℕ) → None ≡ find (λ (x : CodeEntry). has_key key (entry_in x)) es →
    name ≡ name_by_vector (map entry_in es) key → name ≡ name_of (map entry_in es) key
by_other key es name none put =
    put ∙ ap (of_line (name_by_vector (map entry_in es) key)) (ap (option_map entry_in) none ∙ found_as (has_key key) es)

pub by_vector : (key : List ℕ) (es : List CodeEntry) (e : CodeEntry) (name : List ℕ) → Some e ≡ find (λ x. has_bit key (entry_in x)) es →
    name ≡ numbered_name e.name.now (key_parts key).bit → name ≡ name_by_vector (map entry_in es) key
by_vector key es e name is put = put ∙ ap (of_vector key) (ap (option_map entry_in) is ∙ found_as (has_bit key) es)

pub by_none : (key : List ℕ) (es : List CodeEntry) (name : List ℕ) → None ≡ find (λ (x : CodeEntry). has_bit key (entry_in x)) es → name ≡ key →
    name ≡ name_by_vector (map entry_in es) key
by_none key es name none put = put ∙ ap (of_vector key) (ap (option_map entry_in) none ∙ found_as (has_bit key) es)

-- a name more
pub names_more : (entries : List MapEntry) (names : List (List ℕ)) (n : List ℕ) (keys : List (Bor (List ℕ))) (i : ℕ) (d : Bor (List ℕ)) → i < length keys →
    names ≡ names_of entries (map (λ k. k.now) (take i keys)) → n ≡ name_of entries (get_or keys i d).now →
    names ++ n ∷ [] ≡ names_of entries (map (λ k. k.now) (take (i + 1) keys))
names_more entries names n keys i d lt e is =
    let f : Bor (List ℕ) → List ℕ = λ (b : Bor (List ℕ)). b.now in
    (λ j. e j ++ is j ∷ [])
    ∙ (sym (map-append (name_of entries) (map f (take i keys)) (f (get_or keys i d) ∷ []))
    ∙ ap (map (name_of entries)) (sym (ap (map f) (take_more keys i d lt) ∙ map-append f (take i keys) (get_or keys i d ∷ []))))

-- ---- as slices

pub slices_more : (names : List (List ℕ)) (slices : List (Bor (List ℕ))) (slice : Bor (List ℕ)) (i : ℕ) → map (λ n. n.now) slices ≡ take i names →
    slice_get names i ≡ Some slice.now → map (λ n. n.now) (slices ++ slice ∷ []) ≡ take (i + 1) names
slices_more names slices slice i e is =
    map-append (λ (s : Bor (List ℕ)). s.now) slices (slice ∷ [])
    ∙ (ap (λ (t : List (List ℕ)). t ++ slice.now ∷ []) e
    ∙ (ap (λ (k : List ℕ). take i names ++ k ∷ []) (sym (get_or_from_slice_get names i slice.now slice.now is))
    ∙ sym (take_more names i slice.now (slice_get_within names i slice.now is))))

pub slices_end : (names : List (List ℕ)) (slices : List (Bor (List ℕ))) (i : ℕ) → length names ≤ i → map (λ n. n.now) slices ≡ take i names →
    map (λ n. n.now) slices ≡ names
slices_end names slices i le e = e ∙ take_all i names le
