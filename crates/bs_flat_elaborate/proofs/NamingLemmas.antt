-- The names that keys make, and the first key that stands again later.
use Rattle.std.proofs.Common.{◌≡◌, ℕ, suc, ◌<◌, ◌≤◌, ◌+◌, ◌-◌, Bool, true, false, cond, ◌||◌, List, [], ◌∷◌, ◌++◌, map, length, get_or, take, drop, refl, arith, subst, ap}
use Rattle.std.proofs.Common.{sym, ◌∙◌, Option, Some, None, drop-cons}
use Rattle.std.specs.Prelude.{is_some, option_map, IfSome}
use Rattle.std.specs.List.{list_any, sum_by, position_or_len}
use Rattle.std.specs.Str.{bytes_eq}
use Rattle.std.specs.Cmp.Lexicographic.{bytes_decides}
use Rattle.std.proofs.Math.Seq.{drop-length}
use Rattle.std.proofs.lemmas.Bool.{true≢false, false≢true, or_parts, ltb-false}
use Rattle.std.proofs.lemmas.List.{length-append, length-map, take_more, take-map, take_all, get_or-map}
use Rattle.std.proofs.lemmas.List.Folds.{list_any-append, list_any_at, list_any_none}
use Rattle.std.proofs.lemmas.List.Sums.{sum-map, sum_by-append, sum_by-take-le, fails_before_first}
use Rattle.std.proofs.lemmas.List.Quantifiers.{position-Some}
use Rattle.bs_net.specs.Names.{net, number_of, with_key}
use Rattle.bs_net.proofs.NamesLemmas.{with_key-one_more}
use Rattle.bs_flat_meaning.specs.Flat.{flat_key}
use Rattle.bs_flat_meaning.specs.Reading.{clash_in}
use Rattle.bs_flat_meaning.specs.declared.limits.TheConstants.{MAX_KEY_BYTES}
use Rattle.bs_flat_meaning.specs.declared.paths.Node.{Node}
use Rattle.bs_flat_meaning.proofs.MemberLemmas.{map_twice}
use Rattle.bs_flat_nets.specs.Blocks.{design_of}
use Rattle.bs_flat_nets.specs.declared.blocks.FlatModule.{FlatModule}
use Rattle.bs_flat_nets.specs.declared.climbing.NetOnPath.{NetOnPath}
use Rattle.bs_flat_nets.specs.Numbering.{net_at}
use Rattle.bs_flat_nets.specs.declared.numbers.Numbering.{Numbering}
use Rattle.bs_flat_elaborate.specs.Keys.{key_of_place}
use Rattle.bs_flat_elaborate.specs.Laid.{IsLaid}
use Rattle.bs_flat_elaborate.specs.Naming.{keys_of, bytes_of, added, IsMade, IsSearched}
use Rattle.bs_flat_elaborate.specs.declared.naming.KeyList.{KeyList}

-- ---- names

not_some : {X : Type 0} (b : Bool) (x : X) → cond b (Some x) None ≡ None → b ≡ false
not_some true x e = absurd cc
not_some false x e = refl

-- a name has a number where it is there
pub has_is : (names : List (List ℕ)) (key : List ℕ) → is_some (option_map net (number_of names key)) ≡ list_any (bytes_eq key) names
has_is names key = by (number_of names key) refl
  where
    by : (o : Option ℕ) → number_of names key ≡ o → is_some (option_map net o) ≡ list_any (bytes_eq key) names
    by (Some i) e = let at = position-Some (bytes_eq key) names i [] e in sym (list_any_at (bytes_eq key) names i [] at.0 at.1)
    by None e =
        let past : length names ≤ position_or_len (bytes_eq key) names = ltb-false _ (length names) (not_some _ _ e) in
        sym (list_any_none (bytes_eq key) names (λ i d lt. fails_before_first (bytes_eq key) names i d (omega (arith, lt, past))))

same_text : (a b : List ℕ) → bytes_eq a b ≡ bytes_eq b a
same_text a b = by (bytes_eq a b) refl (bytes_eq b a) refl
  where
    by : (p : Bool) → bytes_eq a b ≡ p → (q : Bool) → bytes_eq b a ≡ q → p ≡ q
    by true e true f = refl
    by false e false f = refl
    by true e false f = absurd (true≢false (sym ((bytes_decides b a).1 (sym ((bytes_decides a b).0 e))) ∙ f))
    by false e true f = absurd (false≢true (sym e ∙ (bytes_decides a b).1 (sym ((bytes_decides b a).0 f))))

-- which names are there after a key more
has_with : (names : List (List ℕ)) (key k : List ℕ) → list_any (bytes_eq k) (with_key names key) ≡ (bytes_eq k key || list_any (bytes_eq k) names)
has_with names key k = by (list_any (bytes_eq key) names) refl
  where
    turned : (a b : Bool) → (a || (b || false)) ≡ (b || a)
    turned true true = refl
    turned true false = refl
    turned false true = refl
    turned false false = refl

    there : (b : Bool) → bytes_eq k key ≡ b → list_any (bytes_eq key) names ≡ true → list_any (bytes_eq k) names ≡ (b || list_any (bytes_eq k) names)
    there false e h = refl
    there true e h = ap (λ (t : List ℕ). list_any (bytes_eq t) names) ((bytes_decides k key).0 e) ∙ h

    by : (b : Bool) → list_any (bytes_eq key) names ≡ b →
        list_any (bytes_eq k) (cond b names (names ++ key ∷ [])) ≡ (bytes_eq k key || list_any (bytes_eq k) names)
    by true e = there (bytes_eq k key) refl e
    by false e = list_any-append (bytes_eq k) names (key ∷ []) ∙ turned (list_any (bytes_eq k) names) (bytes_eq k key)

-- ---- keys from the first on

clash_none : clash_in [] ≡ None
unfolding clash_in
clash_none = refl

clash_cons : (k : List ℕ) (ks : List (List ℕ)) → clash_in (k ∷ ks) ≡ cond (list_any (bytes_eq k) ks) (Some k) (clash_in ks)
unfolding clash_in
clash_cons k ks = refl

clash_more : (keys : List (List ℕ)) (key : List ℕ) → clash_in keys ≡ None → list_any (bytes_eq key) keys ≡ false → clash_in (keys ++ key ∷ []) ≡ None
clash_more [] key e h = clash_cons key [] ∙ clash_none
clash_more (k ∷ ks) key e h =
    clash_cons k (ks ++ key ∷ [])
    ∙ (ap (λ (b : Bool). cond b (Some k) (clash_in (ks ++ key ∷ []))) again ∙ clash_more ks key rest parts.1)
  where
    parts : (bytes_eq key k ≡ false) × (list_any (bytes_eq key) ks ≡ false)
    parts = or_parts (bytes_eq key k) (list_any (bytes_eq key) ks) h

    before : (b : Bool) → cond b (Some k) (clash_in ks) ≡ None → (b ≡ false) × (clash_in ks ≡ None)
    before true q = absurd cc
    before false q = (refl, q)

    both : (list_any (bytes_eq k) ks ≡ false) × (clash_in ks ≡ None)
    both = before (list_any (bytes_eq k) ks) (sym (clash_cons k ks) ∙ e)

    rest : clash_in ks ≡ None
    rest = both.1

    again : list_any (bytes_eq k) (ks ++ key ∷ []) ≡ false
    again =
        list_any-append (bytes_eq k) ks (key ∷ [])
        ∙ (ap (λ (b : Bool). b || (bytes_eq k key || false)) both.0 ∙ ap (λ (b : Bool). b || false) (same_text k key ∙ parts.0))

bytes_more : (keys : List (List ℕ)) (key : List ℕ) → bytes_of (keys ++ key ∷ []) ≡ bytes_of keys + length key
bytes_more keys key =
    let one : sum_by (λ (k : List ℕ). length k) (key ∷ []) ≡ length key = omega arith in
    sum-map (λ (k : List ℕ). length k) (keys ++ key ∷ [])
    ∙ (sum_by-append (λ (k : List ℕ). length k) keys (key ∷ [])
    ∙ (ap (λ (n : ℕ). sum_by (λ (k : List ℕ). length k) keys + n) one
    ∙ ap (λ (n : ℕ). n + length key) (sym (sum-map (λ (k : List ℕ). length k) keys))))

bytes_first : (keys : List (List ℕ)) (i : ℕ) → bytes_of (take i keys) ≤ bytes_of keys
bytes_first keys i =
    let le = sum_by-take-le (λ (k : List ℕ). length k) keys i in
    let all = sum-map (λ (k : List ℕ). length k) keys in
    let part = sum-map (λ (k : List ℕ). length k) (take i keys) in
    omega (arith, le, all, part)

-- nothing made of no keys
pub made_none : (m : KeyList) → m.names ≡ [] → m.bytes ≡ 0 → IsMade [] m
made_none m en eb =
    record {
      bytes = eb;
      low = omega (arith, eb);
      few = omega (arith, ap (λ (l : List (List ℕ)). length l) en);
      names = λ _. en;
      apart = λ _. clash_none;
    }

made_key : (keys : List (List ℕ)) (m : KeyList) (key : List ℕ) → IsMade keys m → m.bytes + length key ≤ MAX_KEY_BYTES → IsMade (keys ++ key ∷ []) (added m key)
made_key keys m key h le =
    let more = bytes_more keys key in
    let wide = length-append keys (key ∷ []) in
    let one = with_key-one_more m.names key in
    record {
      bytes = omega (arith, more, h.bytes);
      low = le;
      few = omega (arith, wide, one, h.few);
      names =
          λ e.
          let p = or_parts m.again (list_any (bytes_eq key) m.names) e in
          ap (λ (b : Bool). cond b m.names (m.names ++ key ∷ [])) p.1 ∙ ap (λ (l : List (List ℕ)). l ++ key ∷ []) (h.names p.0);
      apart =
          λ e.
          let p = or_parts m.again (list_any (bytes_eq key) m.names) e in
          clash_more keys key (h.apart p.0) (ap (λ (l : List (List ℕ)). list_any (bytes_eq key) l) (sym (h.names p.0)) ∙ p.1);
    }

-- one place more
pub made_more : (f : NetOnPath → List ℕ) (places : List NetOnPath) (i : ℕ) (p : NetOnPath) (key : List ℕ) (m after : KeyList) → i < length places → key ≡ f (get_or places i p) →
    IsMade (map f (take i places)) m → m.bytes + length key ≤ MAX_KEY_BYTES → after ≡ added m key → IsMade (map f (take (i + 1) places)) after
made_more f places i p key m after lt ek h le ea =
    let at : i < length (map f places) = omega (arith, lt, length-map places f) in
    let keys : map f (take (i + 1) places) ≡ map f (take i places) ++ key ∷ [] =
    sym (take-map f (i + 1) places)
    ∙ (take_more (map f places) i key at
    ∙ (ap (λ (l : List (List ℕ)). l ++ get_or (map f places) i key ∷ []) (take-map f i places)
    ∙ ap (λ (k : List ℕ). map f (take i places) ++ k ∷ []) (get_or-map f places i p key lt ∙ sym ek))) in
    subst (λ (a : KeyList). IsMade (map f (take (i + 1) places)) a) (sym ea)
    (subst (λ (l : List (List ℕ)). IsMade l (added m key)) (sym keys) (made_key (map f (take i places)) m key h le))

-- one key is too long
pub long_is : (f : NetOnPath → List ℕ) (places : List NetOnPath) (i : ℕ) (p : NetOnPath) (key : List ℕ) (m : KeyList) → i < length places → key ≡ f (get_or places i p) →
    IsMade (map f (take i places)) m → MAX_KEY_BYTES < m.bytes + length key → MAX_KEY_BYTES < bytes_of (map f places)
long_is f places i p key m lt ek h gt =
    let at : i < length (map f places) = omega (arith, lt, length-map places f) in
    let keys : take (i + 1) (map f places) ≡ map f (take i places) ++ key ∷ [] =
    take_more (map f places) i key at
    ∙ (ap (λ (l : List (List ℕ)). l ++ get_or (map f places) i key ∷ []) (take-map f i places)
    ∙ ap (λ (k : List ℕ). map f (take i places) ++ k ∷ []) (get_or-map f places i p key lt ∙ sym ek)) in
    let first = bytes_first (map f places) (i + 1) in
    let part : bytes_of (take (i + 1) (map f places)) ≡ bytes_of (map f (take i places)) + length key =
    ap (λ (l : List (List ℕ)). bytes_of l) keys ∙ bytes_more (map f (take i places)) key in
    omega (arith, first, part, gt, h.bytes)

-- all places
pub made_all : (f : NetOnPath → List ℕ) (places : List NetOnPath) (i : ℕ) (m : KeyList) → length places ≤ i → IsMade (map f (take i places)) m → IsMade (map f places) m
made_all f places i m ge h = subst (λ (l : List NetOnPath). IsMade (map f l) m) (take_all i places ge) h

-- ---- the keys of a numbering

pub keys_are : (blocks : List FlatModule) (nodes : List Node) (top : ℕ) (n : Numbering) → IsLaid blocks nodes top n →
    keys_of (design_of blocks top) ≡ map (key_of_place (design_of blocks top)) n.places
keys_are blocks nodes top n h =
    let d = design_of blocks top in
    ap (map (flat_key d)) (sym h.numbering.nets) ∙ map_twice (net_at d) (flat_key d) n.places

pub key_read : (blocks : List FlatModule) (nodes : List Node) (top : ℕ) (n : Numbering) (i : ℕ) (p : NetOnPath) → IsLaid blocks nodes top n → i < length n.places →
    get_or (keys_of (design_of blocks top)) i [] ≡ key_of_place (design_of blocks top) (get_or n.places i p)
key_read blocks nodes top n i p h lt =
    let d = design_of blocks top in
    ap (λ (l : List (List ℕ)). get_or l i []) (keys_are blocks nodes top n h) ∙ get_or-map (key_of_place d) n.places i p [] lt

pub keys_count : (blocks : List FlatModule) (nodes : List Node) (top : ℕ) (n : Numbering) → IsLaid blocks nodes top n →
    length (keys_of (design_of blocks top)) ≡ length n.places
keys_count blocks nodes top n h =
    ap (λ (l : List (List ℕ)). length l) (keys_are blocks nodes top n h) ∙ length-map n.places (key_of_place (design_of blocks top))

-- ---- keys from the last on

pub searched_none : (keys : List (List ℕ)) (at : ℕ) (later : List (List ℕ)) → at ≡ length keys → later ≡ [] → IsSearched keys at later None
searched_none keys at later e el =
    let rest : drop at keys ≡ [] = ap (λ n. drop n keys) e ∙ drop-length keys in
    record {
      few = omega (arith, e, ap (λ (l : List (List ℕ)). length l) el);
      there = tt;
      has =
          λ key. ap (λ (l : List (List ℕ)). list_any (bytes_eq key) l) el ∙ sym (ap (λ (l : List (List ℕ)). list_any (bytes_eq key) l) rest);
      clash = ap (λ (l : List (List ℕ)). clash_in l) rest ∙ clash_none;
    }

pub searched_more : (keys : List (List ℕ)) (at now : ℕ) (key : List ℕ) (later after : List (List ℕ)) (first then : Option ℕ) → 0 < at → now ≡ at - 1 →
    key ≡ get_or keys now [] → IsSearched keys at later first → after ≡ with_key later key →
    then ≡ cond (list_any (bytes_eq key) later) (Some now) first → IsSearched keys now after then
searched_more keys at now key later after first then pos en ek h ea et =
    record {
      few = omega (arith, with_key-one_more later key, ap (λ (l : List (List ℕ)). length l) ea, h.few, en, pos);
      there = subst (λ (o : Option ℕ). IfSome o (λ k. k < length keys)) (sym et) (inside (list_any (bytes_eq key) later));
      has =
          λ k.
          ap (λ (l : List (List ℕ)). list_any (bytes_eq k) l) ea
          ∙ (has_with later key k
          ∙ (ap (λ (b : Bool). bytes_eq k key || b) (h.has k ∙ ap (λ (l : List (List ℕ)). list_any (bytes_eq k) l) next)
          ∙ sym (ap (λ (l : List (List ℕ)). list_any (bytes_eq k) l) rest)));
      clash =
          ap (λ (l : List (List ℕ)). clash_in l) rest
          ∙ (clash_cons key (drop (suc now) keys)
          ∙ (ap (λ (b : Bool). cond b (Some key) (clash_in (drop (suc now) keys)))
          (sym (h.has key ∙ ap (λ (l : List (List ℕ)). list_any (bytes_eq key) l) next))
          ∙ (ap (λ (o : Option (List ℕ)). cond (list_any (bytes_eq key) later) (Some key) o)
          (sym (ap (λ (l : List (List ℕ)). clash_in l) next) ∙ h.clash)
          ∙ (told (list_any (bytes_eq key) later) ∙ ap (option_map (λ k. get_or keys k [])) (sym et)))));
    }
  where
    low : now < length keys
    low = omega (arith, h.few, en, pos)

    inside : (b : Bool) → IfSome (cond b (Some now) first) (λ k. k < length keys)
    inside true = low
    inside false = h.there

    next : drop at keys ≡ drop (suc now) keys
    next = let one : at ≡ suc now = omega (arith, en, pos) in ap (λ n. drop n keys) one

    rest : drop now keys ≡ key ∷ drop (suc now) keys
    rest = drop-cons keys now [] low ∙ ap (λ (k : List ℕ). k ∷ drop (suc now) keys) (sym ek)

    told : (b : Bool) → cond b (Some key) (option_map (λ k. get_or keys k []) first) ≡ option_map (λ k. get_or keys k []) (cond b (Some now) first)
    told true = ap Some ek
    told false = refl

pub searched_all : (keys : List (List ℕ)) (at : ℕ) (later : List (List ℕ)) (k : ℕ) (key : List ℕ) → at ≡ 0 → IsSearched keys at later (Some k) →
    key ≡ get_or keys k [] → clash_in keys ≡ Some key
searched_all keys at later k key e h ek =
    sym (ap (λ n. clash_in (drop n keys)) e) ∙ (h.clash ∙ ap Some (sym ek))
