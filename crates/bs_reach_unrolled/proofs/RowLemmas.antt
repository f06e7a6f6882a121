-- Where a time frame's clauses, the units at reset and the links stand in the unrolled list.
use Rattle.std.proofs.Common.{◌≡◌, ℕ, zero, suc, ◌+◌, ◌-◌, ◌*◌, ◌^◌, ◌<◌, ◌≤◌, arith, Bool, true, false, not, List, [], ◌∷◌, ◌++◌, map, length, refl, sym, ap, ◌∙◌, Some}
use Rattle.std.specs.Prelude.{All, Contains, slice_get, Option}
use Rattle.std.specs.List.{flat_map, range_with_len}
use Rattle.std.proofs.lemmas.List.{map-append, length-append, length-map}
use Rattle.std.proofs.lemmas.List.Elements.{All-contains}
use Rattle.std.proofs.Math.Nat.{suc-mul}
use Rattle.bs_clause.specs.Literal.{Literal, Clause}
use Rattle.bs_log.specs.Refusal.{has_distinct_variables}
use Rattle.bs_encode.specs.Tables.{lit}
use Rattle.bs_encode.specs.Encoded.{Encoded}
use Rattle.bs_encode.specs.Assuming.{signed}
use Rattle.bs_encode.specs.Frame.{raised, raised_all, links, HasRoom}
use Rattle.bs_reach_unrolled.specs.Unrolled.{base_of, frame_of, states_at, next_at, links_of, reset_units, unrolled}
use Rattle.bs_reach_unrolled.specs.Room.{IsUnrollable}
use Rattle.bs_reach_unrolled.proofs.UnrollLemmas.{frame_room, states_room, next_room}
use Rattle.bs_reach_unrolled.proofs.UnrolledLemmas.{unrolled_distinct}
use Rattle.bs_watch.proofs.Gets.{same_some, none_is_not_some, get_left, get_map, get_map_cases, get_from_Contains, Contains_from_get}
use Rattle.bs_solve_lemmas.proofs.Clauses.{all_from}
use Rattle.bs_reach_unrolled.specs.Rows.{clause_at, AreRows}

-- ---- lists

get_right : {X : Type 0} (xs ys : List X) (i : ℕ) → slice_get (xs ++ ys) (length xs + i) ≡ slice_get ys i
get_right [] ys i = ap (slice_get ys) (let e : 0 + i ≡ i = omega arith in e)
get_right (x ∷ xs) ys i =
    ap (slice_get (x ∷ (xs ++ ys))) (let e : length (x ∷ xs) + i ≡ suc (length xs + i) = omega arith in e) ∙ get_right xs ys i

get_behind : {X : Type 0} (xs ys : List X) (n i j : ℕ) (x : X) → length xs ≡ n → j ≡ n + i → slice_get ys i ≡ Some x → slice_get (xs ++ ys) j ≡ Some x
get_behind xs ys n i j x long is at =
    ap (slice_get (xs ++ ys)) (let e : j ≡ length xs + i = omega (arith, long, is) in e) ∙ (get_right xs ys i ∙ at)

-- a part of a list of parts, each as long as the others
flat_get : {X : Type 0} (f : ℕ → List X) (w a n c i : ℕ) (x : X) → ((m : ℕ) → length (f m) ≡ w) → c < n → slice_get (f (a + c)) i ≡ Some x →
    slice_get (flat_map f (range_with_len a n)) (c * w + i) ≡ Some x
flat_get f w a zero c i x each low at = absurd (omega (arith, low))
flat_get f w a (suc n) zero i x each low at =
    ap (slice_get (f a ++ flat_map f (range_with_len (a + 1) n))) (let e : 0 * w + i ≡ i = omega arith in e) ∙
    get_left (f a) (flat_map f (range_with_len (a + 1) n)) i x (ap (λ m. slice_get (f m) i) (let e : a ≡ a + 0 = omega arith in e) ∙ at)
flat_get f w a (suc n) (suc c) i x each low at =
    let more = suc-mul c w in
    get_behind (f a) (flat_map f (range_with_len (a + 1) n)) w (c * w + i) (suc c * w + i) x (each a) (omega (arith, more))
    (flat_get f w (a + 1) n c i x each (omega (arith, low)) (ap (λ m. slice_get (f m) i) (let e : a + 1 + c ≡ a + suc c = omega arith in e) ∙ at))

length_flat : {X : Type 0} (f : ℕ → List X) (w a n : ℕ) → ((m : ℕ) → length (f m) ≡ w) → length (flat_map f (range_with_len a n)) ≡ n * w
length_flat f w a zero each = omega arith
length_flat f w a (suc n) each =
    let parts = length-append (f a) (flat_map f (range_with_len (a + 1) n)) in
    let first = each a in
    let rest = length_flat f w (a + 1) n each in
    let more = suc-mul n w in
    omega (arith, parts, first, rest, more)

-- ---- the parts of the unrolled list

length_links : (ns ss : List Literal) → length ns ≡ length ss → length (links ns ss) ≡ 2 * length ss
length_links [] [] same = omega arith
length_links [] (s ∷ ss) same = absurd (omega (arith, same))
length_links (n ∷ ns) [] same = absurd (omega (arith, same))
length_links (n ∷ ns) (s ∷ ss) same = let rest = length_links ns ss (omega (arith, same)) in omega (arith, rest)

length_signed : (ls : List Literal) (bits : List Bool) → length ls ≡ length bits → length (signed ls bits) ≡ length ls
length_signed [] bits same = refl
length_signed (l ∷ ls) [] same = absurd (omega (arith, same))
length_signed (l ∷ ls) (b ∷ bits) same = let rest = length_signed ls bits (omega (arith, same)) in omega (arith, rest)

pub signed_get : (ls : List Literal) (bits : List Bool) (i : ℕ) (l : Literal) (b : Bool) → slice_get ls i ≡ Some l → slice_get bits i ≡ Some b →
    slice_get (signed ls bits) i ≡ Some (lit l.variable b)
signed_get [] bits i l b at bit = absurd (none_is_not_some l at)
signed_get (x ∷ ls) [] i l b at bit = absurd (none_is_not_some b bit)
signed_get (x ∷ ls) (y ∷ bits) zero l b at bit =
    ap (λ (m : Literal). Some (lit m.variable y)) (same_some x l at) ∙ ap (λ c. Some (lit l.variable c)) (same_some y b bit)
signed_get (x ∷ ls) (y ∷ bits) (suc i) l b at bit = signed_get ls bits i l b at bit

-- the clause that gives the state the value of the next state
abbrev pub linking : Bool → ℕ → ℕ → Clause
linking b n s = lit n (not b) ∷ lit s b ∷ []

abbrev pub second : Bool → ℕ
second true = 0
second false = 1

links_get : (ns ss : List Literal) (i : ℕ) (n s : Literal) (b : Bool) → slice_get ns i ≡ Some n → slice_get ss i ≡ Some s →
    slice_get (links ns ss) (2 * i + second b) ≡ Some (linking b n.variable s.variable)
links_get [] ss i n s b at_n at_s = absurd (none_is_not_some n at_n)
links_get (x ∷ ns) [] i n s b at_n at_s = absurd (none_is_not_some s at_s)
links_get (x ∷ ns) (y ∷ ss) zero n s true at_n at_s =
    ap (λ (m : Literal). Some (linking true m.variable y.variable)) (same_some x n at_n) ∙
    ap (λ (m : Literal). Some (linking true n.variable m.variable)) (same_some y s at_s)
links_get (x ∷ ns) (y ∷ ss) zero n s false at_n at_s =
    ap (λ (m : Literal). Some (linking false m.variable y.variable)) (same_some x n at_n) ∙
    ap (λ (m : Literal). Some (linking false n.variable m.variable)) (same_some y s at_s)
links_get (x ∷ ns) (y ∷ ss) (suc i) n s b at_n at_s =
    ap (slice_get (links (x ∷ ns) (y ∷ ss))) (let e : 2 * suc i + second b ≡ suc (suc (2 * i + second b)) = omega arith in e) ∙
    links_get ns ss i n s b at_n at_s

module _ (e : Encoded) (reset : List Bool) (k : ℕ) (u : IsUnrollable e k) where
  abbrev frames : List Clause
  frames = flat_map (frame_of e) (range_with_len 0 k)

  abbrev all_links : List Clause
  all_links = flat_map (links_of e) (range_with_len 0 (k - 1))

  frame_length : (m : ℕ) → length (frame_of e m) ≡ length e.clauses
  frame_length m = length-map e.clauses (raised_all (base_of e m))

  links_length : (m : ℕ) → length (links_of e m) ≡ 2 * length e.states
  links_length m =
      let ns = length-map e.next (raised (base_of e m)) in
      let ss = length-map e.states (raised (base_of e (m + 1))) in
      let w = u.same_width in
      let all = length_links (next_at e m) (states_at e (m + 1)) (omega (arith, ns, ss, w)) in
      omega (arith, all, ss)

  units_length : 1 ≤ k → length e.states ≡ length reset → length (reset_units e reset k) ≡ length e.states
  units_length some width = by k some
    where
      by : (n : ℕ) → 1 ≤ n → length (reset_units e reset n) ≡ length e.states
      by zero some = absurd (omega (arith, some))
      by (suc n) some = length-map (signed e.states reset) (λ (l : Literal). l ∷ []) ∙ length_signed e.states reset width

  units_get : (f : ℕ) (s : Literal) (b : Bool) → 1 ≤ k → slice_get e.states f ≡ Some s → slice_get reset f ≡ Some b →
      slice_get (reset_units e reset k) f ≡ Some (lit s.variable b ∷ [])
  units_get f s b some at bit = by k some
    where
      by : (n : ℕ) → 1 ≤ n → slice_get (reset_units e reset n) f ≡ Some (lit s.variable b ∷ [])
      by zero some = absurd (omega (arith, some))
      by (suc n) some = get_map (λ (l : Literal). l ∷ []) (signed e.states reset) f (lit s.variable b) (signed_get e.states reset f s b at bit)

  pub frame_listed : (c i id : ℕ) (d clause : Clause) → c < k → slice_get e.clauses i ≡ Some d → clause ≡ raised_all (base_of e c) d →
      id ≡ c * length e.clauses + i + 1 → clause_at (unrolled e reset k) id ≡ Some clause
  frame_listed c i id d clause low at is number =
      ap (clause_at (unrolled e reset k)) (let x : id ≡ suc (c * length e.clauses + i) = omega (arith, number) in x) ∙
      (get_left frames (reset_units e reset k ++ all_links) (c * length e.clauses + i) (raised_all (base_of e c) d)
      (flat_get (frame_of e) (length e.clauses) 0 k c i (raised_all (base_of e c) d) frame_length low
      (ap (λ m. slice_get (frame_of e m) i) (let x : 0 + c ≡ c = omega arith in x) ∙ get_map (raised_all (base_of e c)) e.clauses i d at)) ∙
      ap Some (sym is))

  pub unit_listed : (f id : ℕ) (s : Literal) (b : Bool) (clause : Clause) → 1 ≤ k → slice_get e.states f ≡ Some s → slice_get reset f ≡ Some b →
      clause ≡ lit s.variable b ∷ [] → id ≡ k * length e.clauses + f + 1 → clause_at (unrolled e reset k) id ≡ Some clause
  unit_listed f id s b clause some at bit is number =
      ap (clause_at (unrolled e reset k)) (let x : id ≡ suc (k * length e.clauses + f) = omega (arith, number) in x) ∙
      (get_behind frames (reset_units e reset k ++ all_links) (k * length e.clauses) f (k * length e.clauses + f) (lit s.variable b ∷ [])
      (length_flat (frame_of e) (length e.clauses) 0 k frame_length) refl
      (get_left (reset_units e reset k) all_links f (lit s.variable b ∷ []) (units_get f s b some at bit)) ∙
      ap Some (sym is))

  pub link_listed : (c f id : ℕ) (n s : Literal) (b : Bool) (clause : Clause) → c + 1 < k → length e.states ≡ length reset →
      slice_get e.next f ≡ Some n → slice_get e.states f ≡ Some s →
      clause ≡ lit (base_of e c + n.variable) (not b) ∷ lit (base_of e (c + 1) + s.variable) b ∷ [] →
      id ≡ k * length e.clauses + (length e.states + (c * (2 * length e.states) + (2 * f + second b))) + 1 →
      clause_at (unrolled e reset k) id ≡ Some clause
  link_listed c f id n s b clause low width at_n at_s is number =
      let place = length e.states + (c * (2 * length e.states) + (2 * f + second b)) in
      let made = linking b (base_of e c + n.variable) (base_of e (c + 1) + s.variable) in
      ap (clause_at (unrolled e reset k)) (let x : id ≡ suc (k * length e.clauses + place) = omega (arith, number) in x) ∙
      (get_behind frames (reset_units e reset k ++ all_links) (k * length e.clauses) place (k * length e.clauses + place) made
      (length_flat (frame_of e) (length e.clauses) 0 k frame_length) refl
      (get_behind (reset_units e reset k) all_links (length e.states) (c * (2 * length e.states) + (2 * f + second b)) place made
      (units_length (omega (arith, low)) width) refl
      (flat_get (links_of e) (2 * length e.states) 0 (k - 1) c (2 * f + second b) made links_length (omega (arith, low))
      (ap (λ m. slice_get (links_of e m) (2 * f + second b)) (let x : 0 + c ≡ c = omega arith in x) ∙
      links_get (next_at e c) (states_at e (c + 1)) f (raised (base_of e c) n) (raised (base_of e (c + 1)) s) b
      (get_map (raised (base_of e c)) e.next f n at_n) (get_map (raised (base_of e (c + 1))) e.states f s at_s)))) ∙
      ap Some (sym is))

  pub unrolled_length : 1 ≤ k → length e.states ≡ length reset →
      length (unrolled e reset k) ≡ k * length e.clauses + (length e.states + (k - 1) * (2 * length e.states))
  unrolled_length some width =
      let all = length-append frames (reset_units e reset k ++ all_links) in
      let rest = length-append (reset_units e reset k) all_links in
      let first = length_flat (frame_of e) (length e.clauses) 0 k frame_length in
      let units = units_length some width in
      let last = length_flat (links_of e) (2 * length e.states) 0 (k - 1) links_length in
      omega (arith, all, rest, first, units, last)

  pub row_room : (c by i : ℕ) (d : Clause) → c < k → by ≡ c * e.variables → slice_get e.clauses i ≡ Some d → HasRoom by d
  row_room c by i d low is at = All-contains (HasRoom by) e.clauses d (frame_room e k c by u low is) (Contains_from_get e.clauses i d at)

  pub state_room : (c by f : ℕ) (s : Literal) → c < k → by ≡ c * e.variables → slice_get e.states f ≡ Some s → by + s.variable < 2 ^ 30
  state_room c by f s low is at = All-contains (λ (l : Literal). by + l.variable < 2 ^ 30) e.states s (states_room e k c by u low is) (Contains_from_get e.states f s at)

  pub next_at_room : (c by f : ℕ) (s : Literal) → c < k → by ≡ c * e.variables → slice_get e.next f ≡ Some s → by + s.variable < 2 ^ 30
  next_at_room c by f s low is at = All-contains (λ (l : Literal). by + l.variable < 2 ^ 30) e.next s (next_room e k c by u low is) (Contains_from_get e.next f s at)

  -- no variable stands in a row twice
  pub rows_distinct : (ids : List ℕ) (clauses : List Clause) → AreRows (unrolled e reset k) ids clauses → All (λ c. has_distinct_variables c ≡ true) clauses
  rows_distinct ids clauses rows = all_from (λ c. has_distinct_variables c ≡ true) clauses (λ c there.
      let (i, at) = get_from_Contains clauses c there in
      let found = get_map_cases (clause_at (unrolled e reset k)) ids i (Some c)
      (ap (λ xs. slice_get xs i) rows ∙ get_map Some clauses i c at) in
      All-contains (λ d. has_distinct_variables d ≡ true) (unrolled e reset k) c (unrolled_distinct e reset k u) (in_all found.0 c found.2))
    where
      in_all : (id : ℕ) (c : Clause) → clause_at (unrolled e reset k) id ≡ Some c → Contains (unrolled e reset k) c
      in_all zero c at = absurd (none_is_not_some c at)
      in_all (suc n) c at = Contains_from_get (unrolled e reset k) n c at

-- ---- rows

pub row_more : (all : List Clause) (ids : List ℕ) (clauses : List Clause) (id : ℕ) (c : Clause) → AreRows all ids clauses → clause_at all id ≡ Some c →
    AreRows all (ids ++ id ∷ []) (clauses ++ c ∷ [])
row_more all ids clauses id c rows row =
    map-append (clause_at all) ids (id ∷ []) ∙
    (ap (λ (xs : List (Option Clause)). xs ++ clause_at all id ∷ []) rows ∙
    (ap (λ (x : Option Clause). map Some clauses ++ x ∷ []) row ∙ sym (map-append Some clauses (c ∷ []))))
