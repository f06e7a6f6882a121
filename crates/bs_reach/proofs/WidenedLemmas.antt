-- The unrolled clauses of k cycles are those of j cycles with more time frames and more links.
use Rattle.std.proofs.Common.{◌≡◌, ℕ, zero, suc, ◌+◌, ◌-◌, ◌*◌, ◌<◌, ◌≤◌, Bool, true, false, List, [], ◌∷◌, ◌++◌, map, length, refl, ap, sym, subst, ◌∙◌, ◌⊎◌, inl, inr, arith}
use Rattle.std.specs.Prelude.{Any, Contains}
use Rattle.std.specs.List.{AllByRecursion, range_with_len, flat_map}
use Rattle.std.proofs.lemmas.List.{append_assoc, length-append, length-map}
use Rattle.std.proofs.lemmas.List.Concat.{flat_map-append}
use Rattle.std.proofs.lemmas.List.Elements.{recursion_from_All, All-contains, All-from_recursion, All-head, Contains-append_cases, Contains-append_left}
use Rattle.std.proofs.lemmas.Nat.{mul-le}
use Rattle.std.proofs.Math.Nat.{suc-mul, add-mul}
use Rattle.bs_scan.specs.declared.seen.Seen.{Seen}
use Rattle.bs_clause.specs.Literal.{Literal, Clause}
use Rattle.bs_clause.specs.Range.{IsWithin, HasVariables}
use Rattle.bs_log.specs.History.{Problem}
use Rattle.bs_encode.specs.Tables.{lit}
use Rattle.bs_encode.specs.Encoded.{Encoded}
use Rattle.bs_encode.specs.Assuming.{signed, signed_seen}
use Rattle.bs_encode.specs.Frame.{raised, raised_all, links}
use Rattle.bs_encode.proofs.FrameLemmas.{raised_within, length-raised_all}
use Rattle.bs_encode.proofs.SeenSigns.{seen_all}
use Rattle.bs_encode.proofs.RangeLemmas.{InRange}
use Rattle.bs_solve_lemmas.proofs.Clauses.{nothing_in, contains_first, cons_contains, contains_cases, all_from, map_cases, map_contains, any_first, any_later}
use Rattle.bs_reach_unrolled.specs.Unrolled.{base_of, frame_of, states_at, next_at, links_of, reset_units, unrolled, length_assumes, reach_problem}
use Rattle.bs_reach_unrolled.specs.Room.{IsUnrollable}
use Rattle.bs_reach_unrolled.proofs.UnrollLemmas.{frames_fit}
use Rattle.bs_reach_unrolled.proofs.UnrolledLemmas.{unrolled_range}
use Rattle.bs_reach.specs.declared.offsets.Shift.{Shift}
use Rattle.bs_reach.specs.Renamed.{new_variable, new_literal, new_clause}
use Rattle.bs_reach.specs.Widened.{IsNewVariable, IsWidened}
use Rattle.bs_reach.proofs.ShiftLemmas.{variable_climbs}
use Rattle.bs_reach.proofs.AxiomLemmas.{clause_stays}
use Rattle.bs_clause.proofs.Literals.{literal_from_parts}
use Rattle.bs_reach.specs.Wider.{shift_between}

-- ---- numbers in a row

range_split : (a m n b t : ℕ) → b ≡ a + m → t ≡ m + n → range_with_len a t ≡ range_with_len a m ++ range_with_len b n
range_split a zero n b t at all =
    let same : b ≡ a = omega (arith, at) in
    let count : t ≡ n = omega (arith, all) in
    ap (range_with_len a) count ∙ ap (λ x. range_with_len x n) (sym same)
range_split a (suc m) n b t at all =
    let count : t ≡ suc (m + n) = omega (arith, all) in
    ap (range_with_len a) count ∙ ap (λ (r : List ℕ). a ∷ r) (range_split (a + 1) m n b (m + n) (omega (arith, at)) refl)

flat_split : {X : Type 0} (f : ℕ → List X) (a m n b t : ℕ) → b ≡ a + m → t ≡ m + n →
    flat_map f (range_with_len a t) ≡ flat_map f (range_with_len a m) ++ flat_map f (range_with_len b n)
flat_split f a m n b t at all =
    ap (flat_map f) (range_split a m n b t at all) ∙ flat_map-append f (range_with_len a m) (range_with_len b n)

length_flat : {X : Type 0} (f : ℕ → List X) (w : ℕ) → ((i : ℕ) → length (f i) ≡ w) → (a n : ℕ) → length (flat_map f (range_with_len a n)) ≡ n * w
length_flat f w each a zero = omega arith
length_flat f w each a (suc n) =
    let parts = length-append (f a) (flat_map f (range_with_len (a + 1) n)) in
    let first = each a in
    let rest = length_flat f w each (a + 1) n in
    let more = suc-mul n w in
    omega (arith, parts, first, rest, more)

record At {X : Type 0} (f : ℕ → List X) (a n : ℕ) (x : X) : Type 0 where
  place : ℕ
  low : a ≤ place
  high : place < a + n
  there : Contains (f place) x

flat_cases : {X : Type 0} (f : ℕ → List X) (a n : ℕ) (x : X) → Contains (flat_map f (range_with_len a n)) x → At f a n x
flat_cases f a zero x h = absurd (nothing_in x h)
flat_cases f a (suc n) x h = elim (Contains-append_cases (f a) (flat_map f (range_with_len (a + 1) n)) x h) [
  | inl here ↦ record { place = a; low = omega arith; high = omega arith; there = here }
  | inr later ↦
      let r = flat_cases f (a + 1) n x later in
      let low = r.low in
      let high = r.high in
      record { place = r.place; low = omega (arith, low); high = omega (arith, high); there = r.there }
]

-- ---- lengths

length_links : (ns ss : List Literal) → length ns ≡ length ss → length (links ns ss) ≡ 2 * length ss
length_links [] [] same = omega arith
length_links [] (s ∷ ss) same = absurd (omega (arith, same))
length_links (n ∷ ns) [] same = absurd (omega (arith, same))
length_links (n ∷ ns) (s ∷ ss) same = let rest = length_links ns ss (omega (arith, same)) in omega (arith, rest)

length_signed : (ls : List Literal) (bits : List Bool) → length ls ≡ length bits → length (signed ls bits) ≡ length ls
length_signed [] bits same = refl
length_signed (l ∷ ls) [] same = absurd (omega (arith, same))
length_signed (l ∷ ls) (b ∷ bits) same = let rest = length_signed ls bits (omega (arith, same)) in omega (arith, rest)

-- ---- links

-- a clause of the links has a variable of the second list
links_cases : (ns ss : List Literal) (c : Clause) → Contains (links ns ss) c → (s : Literal) × Contains ss s × Any (λ l. l.variable ≡ s.variable) c
links_cases [] ss c there = absurd (nothing_in c there)
links_cases (n ∷ ns) [] c there = absurd (nothing_in c there)
links_cases (n ∷ ns) (s ∷ ss) c there =
    elim (contains_cases (lit n.variable false ∷ lit s.variable true ∷ []) ((lit n.variable true ∷ lit s.variable false ∷ []) ∷ links ns ss) c there) [
      | inl same ↦ (
        s,
        contains_first s ss,
        subst (Any (λ l. l.variable ≡ s.variable)) same
            (any_later (λ l. l.variable ≡ s.variable) (lit n.variable false) (lit s.variable true ∷ [])
            (any_first (λ l. l.variable ≡ s.variable) (lit s.variable true) [] refl)),
      )
      | inr rest ↦ elim (contains_cases (lit n.variable true ∷ lit s.variable false ∷ []) (links ns ss) c rest) [
        | inl same ↦ (
          s,
          contains_first s ss,
          subst (Any (λ l. l.variable ≡ s.variable)) same
              (any_later (λ l. l.variable ≡ s.variable) (lit n.variable true) (lit s.variable false ∷ [])
              (any_first (λ l. l.variable ≡ s.variable) (lit s.variable false) [] refl)),
        )
        | inr later ↦ let r = links_cases ns ss c later in (r.0, cons_contains s ss r.0 r.1, r.2)
      ]
    ]

-- ---- the list of more cycles

module _ (e : Encoded) (reset : List Bool) (p : Seen) (j k count : ℕ) (u : IsUnrollable e k) (some : 1 ≤ j) (fewer : j ≤ k) (tried : count ≤ j)
    (width : length e.states ≡ length reset) where
  abbrev s : Shift
  s = shift_between e j k

  abbrev head : List Clause
  head = flat_map (frame_of e) (range_with_len 0 j)

  abbrev tail : List Clause
  tail = reset_units e reset j ++ flat_map (links_of e) (range_with_len 0 (j - 1))

  abbrev more : List Clause
  more = flat_map (frame_of e) (range_with_len j (k - j))

  abbrev later : List Clause
  later = flat_map (links_of e) (range_with_len (j - 1) (k - j))

  abbrev narrow : Problem
  narrow = reach_problem e reset j p count

  abbrev wide : Problem
  wide = reach_problem e reset k p count

  same_units : (a b : ℕ) → 1 ≤ a → 1 ≤ b → reset_units e reset a ≡ reset_units e reset b
  same_units zero b x y = absurd (omega (arith, x))
  same_units (suc a) zero x y = absurd (omega (arith, y))
  same_units (suc a) (suc b) x y = refl

  wide_is : unrolled e reset k ≡ head ++ (more ++ (tail ++ later))
  wide_is =
      let R : List Clause = reset_units e reset j in
      let L : List Clause = flat_map (links_of e) (range_with_len 0 (j - 1)) in
      let frames : flat_map (frame_of e) (range_with_len 0 k) ≡ head ++ more =
      flat_split (frame_of e) 0 j (k - j) j k (omega arith) (omega (arith, fewer)) in
      let between : flat_map (links_of e) (range_with_len 0 (k - 1)) ≡ L ++ later =
      flat_split (links_of e) 0 (j - 1) (k - j) (j - 1) (k - 1) (omega arith) (omega (arith, fewer, some)) in
      ap (λ (cs : List Clause). cs ++ (reset_units e reset k ++ flat_map (links_of e) (range_with_len 0 (k - 1)))) frames
      ∙ (ap (λ (cs : List Clause). (head ++ more) ++ (cs ++ flat_map (links_of e) (range_with_len 0 (k - 1))))
      (same_units k j (omega (arith, some, fewer)) some)
      ∙ (ap (λ (cs : List Clause). (head ++ more) ++ (R ++ cs)) between
      ∙ (append_assoc head more (R ++ (L ++ later)) ∙ ap (λ (cs : List Clause). head ++ (more ++ cs)) (sym (append_assoc R L later)))))

  -- ---- variables

  more_variables : k * e.variables ≡ j * e.variables + (k - j) * e.variables
  more_variables =
      let sum : k ≡ j + (k - j) = omega (arith, fewer) in
      ap (λ n. n * e.variables) sum ∙ add-mul j (k - j) e.variables

  fewer_unroll : IsUnrollable e j
  fewer_unroll =
      let all = u.cycles in
      let room = u.room in
      record {
        cycles = omega (arith, all, fewer);
        room = omega (arith, room, more_variables);
        same_width = u.same_width;
        clauses = u.clauses;
        states = u.states;
        next = u.next;
        inputs = u.inputs;
        clauses_distinct = u.clauses_distinct;
        states_distinct = u.states_distinct;
        next_distinct = u.next_distinct;
      }

  shown_stays : (c : ℕ) → c < j → new_clause s (signed_seen (next_at e c) p) ≡ signed_seen (next_at e c) p
  shown_stays c lt =
      clause_stays_by_recursion (signed_seen (next_at e c) p)
      (seen_all (InRange (j * e.variables)) (next_at e c) p
      (raised_within (base_of e c) e.variables (j * e.variables) e.next (recursion_from_All (IsWithin e.variables) e.next u.next)
      (frames_fit e.variables j c lt)))
    where
      clause_stays_by_recursion : (c : Clause) → AllByRecursion (IsWithin (j * e.variables)) c → new_clause s c ≡ c
      clause_stays_by_recursion c all = clause_stays s (j * e.variables) c (omega arith) (All-from_recursion (IsWithin (j * e.variables)) c all)

  step_goes : (i : ℕ) → 1 ≤ i → i ≤ j → length_assumes e k p i ≡ new_clause s (length_assumes e j p i)
  step_goes i low high =
      let above : s.vars < j * e.variables + i = omega (arith, low) in
      let climbs : new_variable s (j * e.variables + i) ≡ j * e.variables + i + (k - j) * e.variables = variable_climbs s (j * e.variables + i) above in
      let activation : lit (k * e.variables + i) true ≡ new_literal s (lit (j * e.variables + i) true) =
      literal_from_parts (lit (k * e.variables + i) true) (new_literal s (lit (j * e.variables + i) true)) (omega (arith, climbs, more_variables)) refl in
      let rest : signed_seen (next_at e (i - 1)) p ≡ new_clause s (signed_seen (next_at e (i - 1)) p) = sym (shown_stays (i - 1) (omega (arith, low, high))) in
      ap (λ (g : Literal). g ∷ signed_seen (next_at e (i - 1)) p) activation ∙ ap (λ (c : Clause). new_literal s (lit (j * e.variables + i) true) ∷ c) rest

  steps_go : (a n : ℕ) → 1 ≤ a → a + n ≤ j + 1 →
      map (length_assumes e k p) (range_with_len a n) ≡ map (new_clause s) (map (length_assumes e j p) (range_with_len a n))
  steps_go a zero low high = refl
  steps_go a (suc n) low high =
      ap (λ (c : Clause). c ∷ map (length_assumes e k p) (range_with_len (a + 1) n)) (step_goes a low (omega (arith, high)))
      ∙ ap (λ (cs : List Clause). new_clause s (length_assumes e j p a) ∷ cs) (steps_go (a + 1) n (omega arith) (omega (arith, high)))

  -- ---- clauses that are more

  above_base : (c : ℕ) → j ≤ c → j * e.variables ≤ c * e.variables
  above_base c le = mul-le j e.variables c e.variables le (omega arith)

  empty_there : (d : Clause) → Contains e.clauses d → d ≡ [] → Contains (unrolled e reset j) []
  empty_there d there is = first_frame j some
    where
      first_frame : (n : ℕ) → 1 ≤ n → Contains (unrolled e reset n) []
      first_frame zero h = absurd (omega (arith, h))
      first_frame (suc n) h =
          Contains-append_left (flat_map (frame_of e) (range_with_len 0 (suc n)))
          (reset_units e reset (suc n) ++ flat_map (links_of e) (range_with_len 0 (suc n - 1))) []
          (Contains-append_left (frame_of e 0) (flat_map (frame_of e) (range_with_len 1 n)) []
          (subst (Contains (frame_of e 0)) (ap (raised_all (base_of e 0)) is) (map_contains (raised_all (base_of e 0)) e.clauses d there)))

  abbrev IsApart : Clause → Type 0
  IsApart c = Contains narrow.clauses c ⊎ Any (IsNewVariable narrow wide) c

  raised_apart : (c : ℕ) (d : Clause) → j ≤ c → c < k → Contains e.clauses d → HasVariables e.variables d → IsApart (raised_all (base_of e c) d)
  raised_apart c [] low high there range = inl (empty_there [] there refl)
  raised_apart c (l ∷ d) low high there range =
      let first : IsWithin e.variables l = All-head (IsWithin e.variables) l d range in
      let base = above_base c low in
      let fits = frames_fit e.variables k c high in
      inr (any_first (IsNewVariable narrow wide) (raised (base_of e c) l) (raised_all (base_of e c) d)
      (omega (arith, base, first.0), omega (arith, fits, first.1)))

  frame_apart : (x : Clause) → Contains more x → IsApart x
  frame_apart x there =
      let at = flat_cases (frame_of e) j (k - j) x there in
      let low = at.low in
      let high = at.high in
      let d = map_cases (raised_all (base_of e at.place)) e.clauses x at.there in
      subst IsApart d.2
      (raised_apart at.place d.0 low (omega (arith, high, fewer)) d.1 (All-contains (HasVariables e.variables) e.clauses d.0 u.clauses d.1))

  link_apart : (x : Clause) → Contains later x → IsApart x
  link_apart x there =
      let at = flat_cases (links_of e) (j - 1) (k - j) x there in
      let low = at.low in
      let high = at.high in
      let c : ℕ = at.place in
      let r = links_cases (next_at e c) (states_at e (c + 1)) x at.there in
      let o = map_cases (raised (base_of e (c + 1))) e.states r.0 r.1 in
      let within : IsWithin e.variables o.0 = All-contains (IsWithin e.variables) e.states o.0 u.states o.1 in
      let is : (r.0).variable ≡ base_of e (c + 1) + (o.0).variable = ap (λ (l : Literal). l.variable) (sym o.2) in
      let base = above_base (c + 1) (omega (arith, low, some)) in
      let fits = frames_fit e.variables k (c + 1) (omega (arith, high, fewer, some)) in
      inr (of_variable x (r.0).variable (omega (arith, base, is, within.0)) (omega (arith, fits, is, within.1)) r.2)
    where
      of_variable : (x : Clause) (v : ℕ) → j * e.variables < v → v ≤ k * e.variables → Any (λ l. l.variable ≡ v) x → Any (IsNewVariable narrow wide) x
      of_variable x v above below a =
          let same : (a.1).variable ≡ v = a.4 in
          (a.0, a.1, a.2, a.3, (omega (arith, above, same), omega (arith, below, same)))

  -- ---- the numbers of clauses

  head_length : length head ≡ j * length e.clauses
  head_length = length_flat (frame_of e) (length e.clauses) (λ i. length-map e.clauses (raised_all (base_of e i))) 0 j

  more_length : length more ≡ (k - j) * length e.clauses
  more_length = length_flat (frame_of e) (length e.clauses) (λ i. length-map e.clauses (raised_all (base_of e i))) j (k - j)

  links_width : (i : ℕ) → length (links_of e i) ≡ 2 * length e.states
  links_width i =
      let n = length-raised_all (base_of e i) e.next in
      let t = length-raised_all (base_of e (i + 1)) e.states in
      let w = u.same_width in
      let both = length_links (next_at e i) (states_at e (i + 1)) (omega (arith, n, t, w)) in
      omega (arith, both, t)

  units_length : (a : ℕ) → 1 ≤ a → length (reset_units e reset a) ≡ length e.states
  units_length zero h = absurd (omega (arith, h))
  units_length (suc a) h = length-map (signed e.states reset) (λ (l : Literal). l ∷ []) ∙ length_signed e.states reset width

  tail_length : length tail ≡ length e.states + (j - 1) * (2 * length e.states)
  tail_length =
      let parts = length-append (reset_units e reset j) (flat_map (links_of e) (range_with_len 0 (j - 1))) in
      let units = units_length j some in
      let between = length_flat (links_of e) (2 * length e.states) links_width 0 (j - 1) in
      omega (arith, parts, units, between)

  later_length : length later ≡ (k - j) * (2 * length e.states)
  later_length = length_flat (links_of e) (2 * length e.states) links_width (j - 1) (k - j)

  pub unrolled_widened : IsWidened s narrow wide
  unrolled_widened =
      let h = head_length in
      let m = more_length in
      let t = tail_length in
      let l = later_length in
      record {
        head = head;
        tail = tail;
        more = more;
        later = later;
        narrow = refl;
        wide = wide_is;
        steps_are = steps_go 1 count (omega arith) (omega (arith, tried));
        range = unrolled_range e reset j fewer_unroll;
        apart = all_from IsApart (more ++ later) (λ x there. elim (Contains-append_cases more later x there) [
          | inl copy ↦ frame_apart x copy
          | inr last ↦ link_apart x last
        ]);
        vars_stay = refl;
        vars_go = more_variables;
        front_is = sym h;
        front_goes = sym m;
        listed_is = omega (arith, h, t);
        listed_goes = omega (arith, m, l);
      }
