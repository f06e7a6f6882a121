-- Variables looked up by the tags of their names.
use Rattle.std.proofs.Common.{◌≡◌, ℕ, zero, suc, ◌<◌, ◌≤◌, ◌+◌, Bool, true, false, cond, nat_eq, nat_lt, List, [], ◌∷◌, ◌++◌, length, map, take, get_or, Option, Some, None, refl, ap, sym, subst, ◌∙◌, arith, take_all, add-one, ◌⊎◌, inl, inr}
use Rattle.std.specs.Prelude.{◌==◌, ◌&&◌, IfSome, slice_index, slice_index_or}
use Rattle.std.specs.Str.{bytes_eq}
use Rattle.std.specs.HashMap.{HashMap, get}
use Rattle.std.specs.Map.{lookup}
use Rattle.std.proofs.Math.Nat.{eq-or-lt_of_le}
use Rattle.std.proofs.lemmas.Bool.{cond-true, cond-false, eq-eqb, eqb-true, false≢true, true≢false, ltb-true}
use Rattle.std.proofs.lemmas.List.{take_more, take-append-drop, drop_more, length-map, length-append, get_or-map, get_or_append_left, get_or_default, get_or_push}
use Rattle.std.proofs.lemmas.List.Sums.{fold-append}
use Rattle.std.proofs.lemmas.Slice.Eq.{bytes_eq-Decides}
use Rattle.bs_net_names.specs.Keys.{KeyParts}
use Rattle.bs_net_names.specs.Naming.{plain}
use Rattle.bs_net_names.specs.Ranges.{place_in}
use Rattle.bs_vcd_header.specs.declared.header.Variable.{Variable as CodeVariable}
use Rattle.bs_vcd_header.specs.declared.sources.BitSource.{BitSource}
use Rattle.bs_vcd_header.specs.Header.{Variable, variable_in}
use Rattle.bs_vcd_header.specs.TagIndex.{IsIndex, last_with, places_in, tag_here, tag_local, tag_more, tag_named, tag_of, tags_in}
use Rattle.bs_vcd_header.specs.Sources.{behind, is_local, lies_in, named_in, names_variable, or_next, path_of, source_at, source_here, source_in}

-- ---- a name and its tag

same_text : (xs ys : List ℕ) → bytes_eq xs ys ≡ true → xs ≡ ys
same_text xs ys e = (bytes_eq-Decides xs ys).0 e

left_of : (a b : Bool) → (a && b) ≡ true → a ≡ true
left_of true b e = refl
left_of false b e = e

right_of : (a b : Bool) → (a && b) ≡ true → b ≡ true
right_of true b e = e
right_of false b e = absurd (false≢true e)

abbrev begun : (inner base : List ℕ) → Bool
begun inner base = (slice_index base (length inner) == 46) && bytes_eq (take (length inner) base) inner

-- a text in a path is the path, a point, and what stands behind them
lies_whole : (inner base : List ℕ) → lies_in inner base ≡ true → base ≡ inner ++ 46 ∷ behind inner base
lies_whole inner base is = by (nat_lt (length inner) (length base)) refl
  where
    by : (b : Bool) → nat_lt (length inner) (length base) ≡ b → base ≡ inner ++ 46 ∷ behind inner base
    by false e = absurd (false≢true (sym (cond-false (nat_lt (length inner) (length base)) (begun inner base) false e) ∙ is))
    by true e =
        let both : begun inner base ≡ true = sym (cond-true (nat_lt (length inner) (length base)) (begun inner base) false e) ∙ is in
        let point : slice_index base (length inner) ≡ 46 =
        eqb-true (slice_index base (length inner)) 46 (left_of (slice_index base (length inner) == 46) (bytes_eq (take (length inner) base) inner) both) in
        let front : take (length inner) base ≡ inner =
        same_text (take (length inner) base) inner (right_of (slice_index base (length inner) == 46) (bytes_eq (take (length inner) base) inner) both) in
        sym (take-append-drop (length inner) base)
        ∙ (ap (λ xs. take (length inner) base ++ xs) (drop_more base (length inner) 0 (ltb-true (length inner) (length base) e))
        ∙ (ap (λ b. take (length inner) base ++ b ∷ behind inner base) point
        ∙ ap (λ xs. xs ++ 46 ∷ behind inner base) front))

local_tag : (inner name base : List ℕ) → is_local inner name base ≡ true → tag_local inner name ≡ tag_of base
local_tag inner name base is =
    let own : behind inner base ≡ name = same_text (behind inner base) name (right_of (lies_in inner base) (bytes_eq (behind inner base) name) is) in
    let whole : base ≡ inner ++ 46 ∷ name =
    lies_whole inner base (left_of (lies_in inner base) (bytes_eq (behind inner base) name) is) ∙ ap (λ xs. inner ++ 46 ∷ xs) own in
    sym (ap tag_of whole ∙ fold-append tag_more 0 inner (46 ∷ name))

abbrev in_path : (path own name base : List ℕ) → Bool
in_path path own name base = lies_in path own && is_local (behind path own) name base

abbrev tag_in : (path own name : List ℕ) → ℕ
tag_in path own name = cond (lies_in path own) (tag_local (behind path own) name) 0

abbrev within : (path own name base : List ℕ) → Bool
within path own name base = cond (length path == 0) (is_local own name base) (in_path path own name base)

abbrev tag_within : (path own name : List ℕ) → ℕ
tag_within path own name = cond (length path == 0) (tag_local own name) (tag_in path own name)

-- what a variable is called in a scope has its tag
named_tag : (path own name base : List ℕ) → names_variable path own name base ≡ true → tag_named path own name ≡ tag_of base
named_tag path own name base is = by (bytes_eq own path) refl
  where
    below : (b : Bool) → (length path == 0) ≡ b → (within path own name base) ≡ true → (tag_within path own name) ≡ tag_of base
    below true e h =
        cond-true (length path == 0) (tag_local own name) (tag_in path own name) e
        ∙ local_tag own name base (sym (cond-true (length path == 0) (is_local own name base) (in_path path own name base) e) ∙ h)
    below false e h =
        let both : (in_path path own name base) ≡ true = sym (cond-false (length path == 0) (is_local own name base) (in_path path own name base) e) ∙ h in
        cond-false (length path == 0) (tag_local own name) (tag_in path own name) e
        ∙ (cond-true (lies_in path own) (tag_local (behind path own) name) 0 (left_of (lies_in path own) (is_local (behind path own) name base) both)
        ∙ local_tag (behind path own) name base (right_of (lies_in path own) (is_local (behind path own) name base) both))

    by : (b : Bool) → bytes_eq own path ≡ b → tag_named path own name ≡ tag_of base
    by true e =
        cond-true (bytes_eq own path) (tag_of name) (tag_within path own name) e
        ∙ ap tag_of (same_text name base (sym (cond-true (bytes_eq own path) (bytes_eq name base) (within path own name base) e) ∙ is))
    by false e =
        cond-false (bytes_eq own path) (tag_of name) (tag_within path own name) e
        ∙ below (length path == 0) refl (sym (cond-false (bytes_eq own path) (bytes_eq name base) (within path own name base) e) ∙ is)

-- a variable with another tag is not what a key says
no_source : (paths : List (List ℕ)) (path : List ℕ) (key : KeyParts) (v : Variable) → (tag_here paths path v == tag_of (plain key.base)) ≡ false →
    source_here paths path key v ≡ None
no_source paths path key v other = by (names_variable path (path_of paths v) (named_in v.shape).name (plain key.base)) refl
  where
    by : (b : Bool) → names_variable path (path_of paths v) (named_in v.shape).name (plain key.base) ≡ b → source_here paths path key v ≡ None
    by true e =
        let same : tag_here paths path v ≡ tag_of (plain key.base) = named_tag path (path_of paths v) (named_in v.shape).name (plain key.base) e in
        absurd (true≢false (sym (eq-eqb (tag_here paths path v) (tag_of (plain key.base)) same) ∙ other))
    by false e =
        cond-false (names_variable path (path_of paths v) (named_in v.shape).name (plain key.base))
        (source_at v.shape.id (place_in (named_in v.shape).bits key.bit)) None e

-- ---- an index that is made

abbrev shown : List CodeVariable → List Variable
shown cs = map variable_in cs

abbrev tags_of : List (List ℕ) → List ℕ → List CodeVariable → List ℕ
tags_of paths path cs = tags_in paths path (shown cs)

module _ {S : Type 0} where
  pub index_none : (paths : List (List ℕ)) (path : List ℕ) (cs : List CodeVariable) (table : HashMap ℕ ℕ S) → table.entries ≡ [] →
      IsIndex (tags_in paths path (map variable_in cs)) (places_in table) [] 0
  index_none paths path cs table e = record {
    size = refl;
    ends = λ tag. ap (λ es. lookup (nat_eq tag) es) e;
    links = λ k lt. absurd (omega (arith, lt));
  }

  pub index_more : (paths : List (List ℕ)) (path : List ℕ) (cs : List CodeVariable) (i : ℕ) (d : CodeVariable) (old new : HashMap ℕ ℕ S)
      (before after : List (Option ℕ)) (tag : ℕ) → i < length cs →
      IsIndex (tags_in paths path (map variable_in cs)) (places_in old) before i →
      tag ≡ tag_here paths path (variable_in (get_or cs i d)) → after ≡ before ++ places_in old tag ∷ [] →
      ((q : ℕ) → get nat_eq new q ≡ cond (nat_eq tag q) (Some (length before)) (get nat_eq old q)) →
      IsIndex (tags_in paths path (map variable_in cs)) (places_in new) after (i + 1)
  index_more paths path cs i d old new before after tag lt is own more puts = record {
    size = ap length more ∙ (length-append before (places_in old tag ∷ []) ∙ ap (λ n. n + 1) is.size);
    ends = ends;
    links = λ k below. links k (eq-or-lt_of_le (omega (arith, below)));
  }
    where
      here : tag ≡ slice_index_or (tags_of paths path cs) i 0
      here = own ∙ sym (get_or-map (tag_here paths path) (map variable_in cs) i (variable_in d) 0 (subst (λ n. i < n) (sym (length-map cs variable_in)) lt)
          ∙ ap (tag_here paths path) (get_or-map variable_in cs i d (variable_in d) lt))

      ends : (q : ℕ) → places_in new q ≡ last_with q (tags_of paths path cs) (i + 1)
      ends q =
          puts q
          ∙ (ap (λ n. cond (nat_eq tag q) (Some n) (get nat_eq old q)) is.size
          ∙ (ap (λ o. cond (nat_eq tag q) (Some i) o) (is.ends q)
          ∙ (ap (λ t. cond (nat_eq t q) (Some i) (last_with q (tags_of paths path cs) i)) here
          ∙ ap (last_with q (tags_of paths path cs)) (sym (add-one i)))))

      links : (k : ℕ) → (k ≡ i) ⊎ (k < i) → slice_index_or after k None ≡ last_with (slice_index_or (tags_of paths path cs) k 0) (tags_of paths path cs) k
      links k (inr below) =
          ap (λ xs. slice_index_or xs k None) more
          ∙ (get_or_append_left before (places_in old tag ∷ []) None k (subst (λ n. k < n) (sym is.size) below) ∙ is.links k below)
      links k (inl e) =
          ap (λ xs. slice_index_or xs k None) more
          ∙ (get_or_push before (places_in old tag) None k (is.size ∙ sym e)
          ∙ (is.ends tag ∙ (ap (λ t. last_with t (tags_of paths path cs) i) (here ∙ ap (λ n. slice_index_or (tags_of paths path cs) n 0) (sym e)) ∙ ap (last_with (slice_index_or (tags_of paths path cs) k 0) (tags_of paths path cs)) (sym e))))

-- ---- a name that is looked up

or_first : (o : Option BitSource) → or_next o None ≡ o
or_first None = refl
or_first (Some s) = refl

or_in_turn : (a b c : Option BitSource) → or_next (or_next a b) c ≡ or_next a (or_next b c)
or_in_turn None b c = refl
or_in_turn (Some s) b c = refl

source_append : (paths : List (List ℕ)) (path : List ℕ) (key : KeyParts) (vs ws : List Variable) →
    source_in paths path key (vs ++ ws) ≡ or_next (source_in paths path key vs) (source_in paths path key ws)
source_append paths path key [] ws = refl
source_append paths path key (v ∷ vs) ws =
    ap (or_next (source_here paths path key v)) (source_append paths path key vs ws)
    ∙ sym (or_in_turn (source_here paths path key v) (source_in paths path key vs) (source_in paths path key ws))

one_more : (paths : List (List ℕ)) (path : List ℕ) (key : KeyParts) (vs : List Variable) (k : ℕ) (d : Variable) → k < length vs →
    source_in paths path key (take (k + 1) vs) ≡ or_next (source_in paths path key (take k vs)) (source_here paths path key (get_or vs k d))
one_more paths path key vs k d lt =
    ap (source_in paths path key) (take_more vs k d lt)
    ∙ (source_append paths path key (take k vs) (get_or vs k d ∷ [])
    ∙ ap (or_next (source_in paths path key (take k vs))) (or_first (source_here paths path key (get_or vs k d))))

-- the bit of a name of the variables up to a place, with the one there
abbrev pub source_to : List (List ℕ) → List ℕ → KeyParts → List Variable → Option ℕ → Option BitSource
source_to paths path key vs None = None
source_to paths path key vs (Some k) = source_in paths path key (take (k + 1) vs)

-- a place that has a tag
abbrev pub HasTag : List ℕ → ℕ → ℕ → Option ℕ → Type 0
HasTag tags tag count at = IfSome at (λ k. (k < count) × (slice_index_or tags k 0 ≡ tag))

nothing : Variable
nothing = record { scope = 0; shape = record { width = 0; id = 0; name = []; range = [] } }

abbrev last_of : List (List ℕ) → List ℕ → KeyParts → List Variable → ℕ → Option ℕ
last_of paths path key vs n = last_with (tag_of (plain key.base)) (tags_in paths path vs) n

to_more : (paths : List (List ℕ)) (path : List ℕ) (key : KeyParts) (vs : List Variable) (n : ℕ) → n < length vs →
    source_in paths path key (take n vs) ≡ source_to paths path key vs (last_of paths path key vs n) →
    (b : Bool) → (slice_index_or (tags_in paths path vs) n 0 == tag_of (plain key.base)) ≡ b →
    source_in paths path key (take (suc n) vs) ≡ source_to paths path key vs (last_of paths path key vs (suc n))
to_more paths path key vs n lt so true e =
    ap (λ k. source_in paths path key (take k vs)) (sym (add-one n))
    ∙ sym (ap (source_to paths path key vs) (cond-true (slice_index_or (tags_in paths path vs) n 0 == tag_of (plain key.base)) (Some n) (last_of paths path key vs n) e))
to_more paths path key vs n lt so false e =
    let here : slice_index_or (tags_in paths path vs) n 0 ≡ tag_here paths path (get_or vs n nothing) = get_or-map (tag_here paths path) vs n nothing 0 lt in
    ap (λ k. source_in paths path key (take k vs)) (sym (add-one n))
    ∙ (one_more paths path key vs n nothing lt
    ∙ (ap (or_next (source_in paths path key (take n vs))) (no_source paths path key (get_or vs n nothing) (ap (λ t. t == tag_of (plain key.base)) (sym here) ∙ e))
    ∙ (or_first (source_in paths path key (take n vs))
    ∙ (so
    ∙ sym (ap (source_to paths path key vs) (cond-false (slice_index_or (tags_in paths path vs) n 0 == tag_of (plain key.base)) (Some n) (last_of paths path key vs n) e))))))

-- none but those with the tag of the name have a bit of it
up_to : (paths : List (List ℕ)) (path : List ℕ) (key : KeyParts) (vs : List Variable) (n : ℕ) → n ≤ length vs →
    source_in paths path key (take n vs) ≡ source_to paths path key vs (last_of paths path key vs n)
up_to paths path key vs zero le = refl
up_to paths path key vs (suc n) le =
    to_more paths path key vs n (omega (arith, le)) (up_to paths path key vs n (omega (arith, le))) (slice_index_or (tags_in paths path vs) n 0 == tag_of (plain key.base)) refl

wider : (tags : List ℕ) (tag n : ℕ) (at : Option ℕ) → HasTag tags tag n at → HasTag tags tag (suc n) at
wider tags tag n None h = tt
wider tags tag n (Some k) h = let below : k < n = h.0 in (omega (arith, below), h.1)

has_more : (tags : List ℕ) (tag n : ℕ) → HasTag tags tag n (last_with tag tags n) → (b : Bool) → (slice_index_or tags n 0 == tag) ≡ b →
    HasTag tags tag (suc n) (last_with tag tags (suc n))
has_more tags tag n so true e =
    subst (HasTag tags tag (suc n)) (sym (cond-true (slice_index_or tags n 0 == tag) (Some n) (last_with tag tags n) e))
    (omega arith, eqb-true (slice_index_or tags n 0) tag e)
has_more tags tag n so false e =
    subst (HasTag tags tag (suc n)) (sym (cond-false (slice_index_or tags n 0 == tag) (Some n) (last_with tag tags n) e))
    (wider tags tag n (last_with tag tags n) so)

last_has : (tags : List ℕ) (tag n : ℕ) → HasTag tags tag n (last_with tag tags n)
last_has tags tag zero = tt
last_has tags tag (suc n) = has_more tags tag n (last_has tags tag n) (slice_index_or tags n 0 == tag) refl

weaker : (tags : List ℕ) (tag n m : ℕ) (at : Option ℕ) → n ≤ m → HasTag tags tag n at → HasTag tags tag m at
weaker tags tag n m None le h = tt
weaker tags tag n m (Some k) le h = let below : k < n = h.0 in (omega (arith, below, le), h.1)

-- the bit of a name, by a place behind which no variable but those found has one
pub record IsFrom (paths : List (List ℕ)) (path : List ℕ) (key : KeyParts) (cs : List CodeVariable) (at : Option ℕ) (found : Option BitSource) : Type 0 where
  pub whole : source_in paths path key (map variable_in cs) ≡ or_next (source_to paths path key (map variable_in cs) at) found
  pub there : HasTag (tags_in paths path (map variable_in cs)) (tag_of (plain key.base)) (length cs) at

pub from_last : (paths : List (List ℕ)) (path : List ℕ) (key : KeyParts) (cs : List CodeVariable) (last : ℕ → Option ℕ) (before : List (Option ℕ))
    (at : Option ℕ) → IsIndex (tags_in paths path (map variable_in cs)) last before (length cs) → at ≡ last (tag_of (plain key.base)) →
    IsFrom paths path key cs at None
from_last paths path key cs last before at is e = record {
  whole =
      sym (or_first (source_to paths path key (shown cs) at)
      ∙ (ap (source_to paths path key (shown cs)) place
      ∙ (sym (up_to paths path key (shown cs) (length cs) (omega (arith, long)))
      ∙ ap (source_in paths path key) (take_all (length cs) (shown cs) (omega (arith, long))))));
  there = subst (HasTag (tags_in paths path (shown cs)) (tag_of (plain key.base)) (length cs)) (sym place)
      (last_has (tags_in paths path (shown cs)) (tag_of (plain key.base)) (length cs));
}
  where
    long : length (shown cs) ≡ length cs
    long = length-map cs variable_in

    place : at ≡ last_with (tag_of (plain key.base)) (tags_in paths path (shown cs)) (length cs)
    place = e ∙ is.ends (tag_of (plain key.base))

-- how many places are left to look at
abbrev pub left : Option ℕ → ℕ
left None = 0
left (Some k) = suc k

fewer : (tags : List ℕ) (tag k : ℕ) (at : Option ℕ) → HasTag tags tag k at → left at < suc k
fewer tags tag k None h = omega arith
fewer tags tag k (Some j) h = let below : j < k = h.0 in omega (arith, below)

before_has : (paths : List (List ℕ)) (path : List ℕ) (key : KeyParts) (cs : List CodeVariable) (last : ℕ → Option ℕ) (before : List (Option ℕ))
    (k : ℕ) (none at : Option ℕ) (found : Option BitSource) → IsIndex (tags_in paths path (map variable_in cs)) last before (length cs) →
    IsFrom paths path key cs (Some k) found → at ≡ slice_index_or before k none → at ≡ last_of paths path key (shown cs) k
before_has paths path key cs last before k none at found is so e =
    e ∙ (get_or_default before k none None (subst (λ n. k < n) (sym is.size) so.there.0) ∙ is.links k so.there.0 ∙ ap (λ t. last_with t (tags_of paths path cs) k) so.there.1)

pub from_smaller : (paths : List (List ℕ)) (path : List ℕ) (key : KeyParts) (cs : List CodeVariable) (last : ℕ → Option ℕ) (before : List (Option ℕ))
    (k : ℕ) (none at : Option ℕ) (found : Option BitSource) → IsIndex (tags_in paths path (map variable_in cs)) last before (length cs) →
    IsFrom paths path key cs (Some k) found → at ≡ slice_index_or before k none → left at < suc k
from_smaller paths path key cs last before k none at found is so e =
    fewer (tags_of paths path cs) (tag_of (plain key.base)) k at
    (subst (HasTag (tags_of paths path cs) (tag_of (plain key.base)) k) (sym (before_has paths path key cs last before k none at found is so e))
    (last_has (tags_of paths path cs) (tag_of (plain key.base)) k))

pub from_before : (paths : List (List ℕ)) (path : List ℕ) (key : KeyParts) (cs : List CodeVariable) (last : ℕ → Option ℕ) (before : List (Option ℕ))
    (k : ℕ) (d : CodeVariable) (none at : Option ℕ) (here found next : Option BitSource) → IsIndex (tags_in paths path (map variable_in cs)) last before (length cs) →
    IsFrom paths path key cs (Some k) found → here ≡ source_here paths path key (variable_in (get_or cs k d)) → next ≡ or_next here found →
    at ≡ slice_index_or before k none → IsFrom paths path key cs at next
from_before paths path key cs last before k d none at here found next is so own more e = record {
  whole =
      so.whole
      ∙ (ap (λ o. or_next o found) (one_more paths path key (shown cs) k (variable_in d) (omega (arith, below, long))
      ∙ (ap (λ v. or_next (source_in paths path key (take k (shown cs))) (source_here paths path key v)) (get_or-map variable_in cs k d (variable_in d) below)
      ∙ (ap (or_next (source_in paths path key (take k (shown cs)))) (sym own)
      ∙ ap (λ o. or_next o here) (up_to paths path key (shown cs) k (omega (arith, below, long)) ∙ sym (ap (source_to paths path key (shown cs)) place)))))
      ∙ (or_in_turn (source_to paths path key (shown cs) at) here found ∙ ap (or_next (source_to paths path key (shown cs) at)) (sym more)));
  there = weaker (tags_in paths path (shown cs)) (tag_of (plain key.base)) k (length cs) at (omega (arith, below))
      (subst (HasTag (tags_in paths path (shown cs)) (tag_of (plain key.base)) k) (sym place) (last_has (tags_in paths path (shown cs)) (tag_of (plain key.base)) k));
}
  where
    long : length (shown cs) ≡ length cs
    long = length-map cs variable_in

    below : k < length cs
    below = so.there.0

    place : at ≡ last_with (tag_of (plain key.base)) (tags_in paths path (shown cs)) k
    place = before_has paths path key cs last before k none at found is so e

pub from_none : (paths : List (List ℕ)) (path : List ℕ) (key : KeyParts) (cs : List CodeVariable) (found : Option BitSource) →
    IsFrom paths path key cs None found → found ≡ source_in paths path key (map variable_in cs)
from_none paths path key cs found so = sym so.whole
