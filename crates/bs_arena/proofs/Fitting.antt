-- A heap and its places, after an exchange, with one more variable and with one fewer.
use Rattle.std.proofs.Common.{◌≡◌, ℕ, ◌+◌, ◌<◌, arith, List, [], ◌∷◌, ◌++◌, length, take, set, get_or, sym, ap, ◌∙◌, inl, inr, Some, None, Option}
use Rattle.std.proofs.Common.{length-append, subst, ◌-◌}
use Rattle.std.proofs.lemmas.Grind.{get_or_default_zero}
use Rattle.std.specs.Prelude.{true, false, is_some, count_by}
use Rattle.std.proofs.Math.ListN.{get_or-map}
use Rattle.std.proofs.Math.Seq.{get_or-append_seam}
use Rattle.std.proofs.lemmas.Bool.{cases_eq, cases_lt}
use Rattle.std.proofs.lemmas.List.{get_or-set_same, get_or-set_other, get_or_past, get_or-take, get_or_append_left, length-map, length-take-le, map-set, map-append}
use Rattle.bs_arena.specs.Heap.{IsIndexed, IsRearranged, place_of, at_place, members}
use Rattle.bs_arena.proofs.Gets.{none_is_not_some, same_some, two_last, two_first, two_other, two_length, set_held, count_more, count_fewer, count_wider}

pub known_within : (ps : List (Option ℕ)) (v p : ℕ) → place_of ps v ≡ Some p → v < length ps
known_within ps v p e = elim (cases_lt v (length ps)) [
  | inl h ↦ h
  | inr past ↦ absurd (none_is_not_some p (sym (get_or_past ps v None past) ∙ e))
]

-- the variable in a place has a place
pub within_places : (h : List ℕ) (ps : List (Option ℕ)) (p : ℕ) → IsIndexed h ps → p < length h → at_place h p < length ps
within_places h ps p f at = known_within ps (at_place h p) p (f.placed p at)

pub member_at : (ps : List (Option ℕ)) (v : ℕ) → get_or (members ps) v false ≡ is_some (place_of ps v)
member_at ps v = get_or-map is_some ps v None

-- ---- an exchange

abbrev heap_after : List ℕ → ℕ → ℕ → List ℕ
heap_after h i j = set (set h i (get_or h j 0)) j (get_or h i 0)

abbrev places_after : List ℕ → List (Option ℕ) → ℕ → ℕ → List (Option ℕ)
places_after h ps i j = set (set ps (get_or h i 0) (Some j)) (get_or h j 0) (Some i)

same_place : (h : List ℕ) (ps : List (Option ℕ)) (i j : ℕ) → IsIndexed h ps → i < length h → j < length h → get_or h i 0 ≡ get_or h j 0 → i ≡ j
same_place h ps i j f first second e =
    same_some i j (sym (f.placed i first) ∙ ap (λ v. place_of ps v) e ∙ f.placed j second)

placed_after : (h : List ℕ) (ps : List (Option ℕ)) (i j : ℕ) → IsIndexed h ps → i < length h → j < length h → (p : ℕ) → p < length h →
    place_of (places_after h ps i j) (at_place (heap_after h i j) p) ≡ Some p
placed_after h ps i j f first second p within =
    let a = get_or h i 0 in
    let b = get_or h j 0 in
    let there = (λ (v : ℕ). place_of (places_after h ps i j) v) in
    let b_at : place_of (places_after h ps i j) b ≡ Some i = two_last ps a b (Some j) (Some i) None (within_places h ps j f second) in
    elim (cases_eq p j) as (λ _. place_of (places_after h ps i j) (at_place (heap_after h i j) p) ≡ Some p) [
      | inl pj ↦
          let at : at_place (heap_after h i j) p ≡ a = ap (λ (k : ℕ). get_or (heap_after h i j) k 0) pj ∙ two_last h i j b a 0 second in
          elim (cases_eq a b) as (λ _. place_of (places_after h ps i j) (at_place (heap_after h i j) p) ≡ Some p) [
            | inl ab ↦ ap there (at ∙ ab) ∙ b_at ∙ ap Some (same_place h ps i j f first second ab ∙ sym pj)
            | inr other ↦ ap there at ∙ two_first ps a b (Some j) (Some i) None (within_places h ps i f first) other ∙ ap Some (sym pj)
          ]
      | inr not_j ↦ elim (cases_eq p i) as (λ _. place_of (places_after h ps i j) (at_place (heap_after h i j) p) ≡ Some p) [
        | inl is_i ↦
            let at : at_place (heap_after h i j) p ≡ b =
            ap (λ (k : ℕ). get_or (heap_after h i j) k 0) is_i ∙ two_first h i j b a 0 first (λ e. not_j (is_i ∙ e)) in
            ap there at ∙ b_at ∙ ap Some (sym is_i)
        | inr not_i ↦
            let at : at_place (heap_after h i j) p ≡ at_place h p = two_other h i j p b a 0 not_i not_j in
            ap there at ∙
            two_other ps a b (at_place h p) (Some j) (Some i) None (λ e. not_i (same_place h ps p i f within first e))
            (λ e. not_j (same_place h ps p j f within second e)) ∙
            f.placed p within
      ]
    ]

stands_after : (h : List ℕ) (ps : List (Option ℕ)) (i j : ℕ) → IsIndexed h ps → i < length h → j < length h → (v p : ℕ) →
    place_of (places_after h ps i j) v ≡ Some p → (p < length h) × (at_place (heap_after h i j) p ≡ v)
stands_after h ps i j f first second v p e =
    let a = get_or h i 0 in
    let b = get_or h j 0 in
    let there = (λ (u : ℕ). place_of (places_after h ps i j) u) in
    let in_place = (λ (k : ℕ). get_or (heap_after h i j) k 0) in
    elim (cases_eq v b) as (λ _. (p < length h) × (at_place (heap_after h i j) p ≡ v)) [
      | inl vb ↦
          let pi : p ≡ i = same_some p i (sym e ∙ ap there vb ∙ two_last ps a b (Some j) (Some i) None (within_places h ps j f second)) in
          elim (cases_eq i j) as (λ _. (p < length h) × (at_place (heap_after h i j) p ≡ v)) [
            | inl ij ↦ (omega (arith, pi, first), ap in_place (pi ∙ ij) ∙ two_last h i j b a 0 second ∙ ap (λ k. get_or h k 0) ij ∙ sym vb)
            | inr other ↦ (omega (arith, pi, first), ap in_place pi ∙ two_first h i j b a 0 first other ∙ sym vb)
          ]
      | inr not_b ↦ elim (cases_eq v a) as (λ _. (p < length h) × (at_place (heap_after h i j) p ≡ v)) [
        | inl va ↦
            let pj : p ≡ j = same_some p j (sym e ∙ ap there va ∙ two_first ps a b (Some j) (Some i) None (within_places h ps i f first) (λ ab. not_b (va ∙ ab))) in
            (omega (arith, pj, second), ap in_place pj ∙ two_last h i j b a 0 second ∙ sym va)
        | inr not_a ↦
            let old = f.stands v p (sym (two_other ps a b v (Some j) (Some i) None not_a not_b) ∙ e) in
            (old.0, two_other h i j p b a 0 (λ e. not_a (sym old.1 ∙ ap (λ k. get_or h k 0) e)) (λ e. not_b (sym old.1 ∙ ap (λ k. get_or h k 0) e)) ∙ old.1)
      ]
    ]

members_after : (h : List ℕ) (ps : List (Option ℕ)) (i j : ℕ) → IsIndexed h ps → i < length h → j < length h →
    members (places_after h ps i j) ≡ members ps
members_after h ps i j f first second =
    let a = get_or h i 0 in
    let b = get_or h j 0 in
    let a_in : get_or (members ps) a false ≡ true = member_at ps a ∙ ap is_some (f.placed i first) in
    let b_in : get_or (members ps) b false ≡ true = member_at ps b ∙ ap is_some (f.placed j second) in
    map-set is_some (set ps a (Some j)) b (Some i) ∙
    ap (λ xs. set xs b true) (map-set is_some ps a (Some j) ∙ set_held (members ps) a true a_in) ∙
    set_held (members ps) b true b_in

pub exchanged : (h : List ℕ) (ps : List (Option ℕ)) (i j : ℕ) → IsIndexed h ps → i < length h → j < length h →
    IsRearranged h (set (set h i (get_or h j 0)) j (get_or h i 0)) ps (set (set ps (get_or h i 0) (Some j)) (get_or h j 0) (Some i))
exchanged h ps i j f first second =
    let long : length (heap_after h i j) ≡ length h = two_length h i j (get_or h j 0) (get_or h i 0) in
    let same = members_after h ps i j f first second in
    record {
      fits = record {
        stands = λ v p e. let r = stands_after h ps i j f first second v p e in (omega (arith, long, r.0), r.1);
        placed = λ p within. placed_after h ps i j f first second p (omega (arith, long, within));
        counted = ap (count_by (λ b. b)) same ∙ f.counted ∙ sym long;
      };
      same = same;
      long = long;
    }

-- ---- one more, one fewer

pub members_added : (ps : List (Option ℕ)) (v n : ℕ) → members (set ps v (Some n)) ≡ set (members ps) v true
members_added ps v n = map-set is_some ps v (Some n)

pub members_dropped : (ps : List (Option ℕ)) (v : ℕ) → members (set ps v None) ≡ set (members ps) v false
members_dropped ps v = map-set is_some ps v None

pub added : (h : List ℕ) (ps : List (Option ℕ)) (v : ℕ) → IsIndexed h ps → v < length ps → place_of ps v ≡ None → IsIndexed (h ++ v ∷ []) (set ps v (Some (length h)))
added h ps v f within out =
    let long : length (h ++ v ∷ []) ≡ length h + 1 = length-append h (v ∷ []) in
    let seam : get_or (h ++ v ∷ []) (length h) 0 ≡ v = get_or-append_seam h v [] 0 in
    let here : place_of (set ps v (Some (length h))) v ≡ Some (length h) = get_or-set_same ps v (Some (length h)) None within in
    record {
      stands = λ u p e. elim (cases_eq u v) as (λ _. (p < length (h ++ v ∷ [])) × (at_place (h ++ v ∷ []) p ≡ u)) [
        | inl uv ↦
            let last : p ≡ length h = same_some p (length h) (sym e ∙ ap (λ w. place_of (set ps v (Some (length h))) w) uv ∙ here) in
            (omega (arith, last, long), ap (λ k. get_or (h ++ v ∷ []) k 0) last ∙ seam ∙ sym uv)
        | inr other ↦
            let old = f.stands u p (sym (get_or-set_other ps v u (Some (length h)) None other) ∙ e) in
            let low = old.0 in
            (omega (arith, low, long), get_or_append_left h (v ∷ []) 0 p low ∙ old.1)
      ];
      placed = λ p at. elim (cases_lt p (length h)) as (λ _. place_of (set ps v (Some (length h))) (at_place (h ++ v ∷ []) p) ≡ Some p) [
        | inl low ↦
            let same : at_place (h ++ v ∷ []) p ≡ at_place h p = get_or_append_left h (v ∷ []) 0 p low in
            ap (λ w. place_of (set ps v (Some (length h))) w) same ∙
            get_or-set_other ps v (at_place h p) (Some (length h)) None
            (λ e. none_is_not_some p (sym out ∙ ap (λ w. place_of ps w) (sym e) ∙ f.placed p low)) ∙
            f.placed p low
        | inr past ↦
            let last : p ≡ length h = omega (arith, past, at, long) in
            ap (λ k. place_of (set ps v (Some (length h))) (at_place (h ++ v ∷ []) k)) last ∙
            ap (λ w. place_of (set ps v (Some (length h))) w) seam ∙ here ∙ ap Some (sym last)
      ];
      counted = ap (count_by (λ b. b)) (members_added ps v (length h)) ∙
          count_more (members ps) v (let e : length (members ps) ≡ length ps = length-map ps is_some in omega (arith, e, within)) (member_at ps v ∙ ap is_some out) ∙
          ap (λ n. n + 1) f.counted ∙ sym long;
    }

pub dropped : (h : List ℕ) (ps : List (Option ℕ)) (n : ℕ) → IsIndexed h ps → n + 1 ≡ length h → IsIndexed (take n h) (set ps (get_or h n 0) None)
dropped h ps n f is =
    let v = get_or h n 0 in
    let last : n < length h = omega (arith, is) in
    let long : length (take n h) ≡ n = length-take-le n h (omega (arith, is)) in
    let within : v < length ps = within_places h ps n f last in
    let was : place_of ps v ≡ Some n = f.placed n last in
    record {
      stands = λ u p e. elim (cases_eq u v) as (λ _. (p < length (take n h)) × (at_place (take n h) p ≡ u)) [
        | inl uv ↦ absurd (none_is_not_some p (sym (get_or-set_same ps v None None within) ∙ ap (λ w. place_of (set ps v None) w) (sym uv) ∙ e))
        | inr other ↦
            let old = f.stands u p (sym (get_or-set_other ps v u None None other) ∙ e) in
            let high = old.0 in
            let not_last = (λ (k : p ≡ n). other (sym old.1 ∙ ap (λ q. get_or h q 0) k)) in
            let low : p < n = elim (cases_eq p n) [ inl k ↦ absurd (not_last k) | inr k ↦ omega (arith, k, high, is) ] in
            (omega (arith, low, long), get_or-take n h p 0 low ∙ old.1)
      ];
      placed = λ p at.
          let low : p < n = omega (arith, at, long) in
          let high : p < length h = omega (arith, low, is) in
          let same : at_place (take n h) p ≡ at_place h p = get_or-take n h p 0 low in
          ap (λ w. place_of (set ps v None) w) same ∙
          get_or-set_other ps v (at_place h p) None None
          (λ e. let k : p ≡ n = same_place h ps p n f high last e in omega (arith, k, low)) ∙
          f.placed p high;
      counted =
          let fewer = count_fewer (members ps) v (let e : length (members ps) ≡ length ps = length-map ps is_some in omega (arith, e, within)) (member_at ps v ∙ ap is_some was) in
          let count = ap (count_by (λ b. b)) (members_dropped ps v) in
          let before = f.counted in
          count ∙ (let e : count_by (λ b. b) (set (members ps) v false) ≡ n = omega (arith, fewer, before, is) in e) ∙ sym long;
    }

-- the variable that comes last, as it is read
last_is : (h : List ℕ) (len v : ℕ) → len ≡ length h → 0 < length h → v ≡ get_or h (len - 1) v → v ≡ at_place h (len - 1)
last_is h len v is some e = e ∙ get_or_default_zero h (len - 1) v (omega (arith, is, some))

pub last_within : (h : List ℕ) (ps : List (Option ℕ)) (len v : ℕ) → IsIndexed h ps → len ≡ length h → 0 < length h → v ≡ get_or h (len - 1) v → v < length ps
last_within h ps len v f is some e =
    let at : at_place h (len - 1) < length ps = within_places h ps (len - 1) f (omega (arith, is, some)) in
    let same = last_is h len v is some e in
    omega (arith, same, at)

pub last_dropped : (h : List ℕ) (ps : List (Option ℕ)) (len v : ℕ) → IsIndexed h ps → len ≡ length h → 0 < length h → v ≡ get_or h (len - 1) v →
    IsIndexed (take (len - 1) h) (set ps v None)
last_dropped h ps len v f is some e =
    subst (λ x. IsIndexed (take (len - 1) h) (set ps x None)) (sym (last_is h len v is some e)) (dropped h ps (len - 1) f (omega (arith, is, some)))

-- ---- one more variable

pub widened : (h : List ℕ) (ps : List (Option ℕ)) → IsIndexed h ps → IsIndexed h (ps ++ None ∷ [])
widened h ps f = record {
  stands = λ v p e. elim (cases_lt v (length ps)) as (λ _. (p < length h) × (at_place h p ≡ v)) [
    | inl low ↦ f.stands v p (sym (get_or_append_left ps (None ∷ []) None v low) ∙ e)
    | inr past ↦ elim (cases_eq v (length ps)) as (λ _. (p < length h) × (at_place h p ≡ v)) [
      | inl last ↦ absurd (none_is_not_some p (sym (get_or-append_seam ps None [] None) ∙ ap (λ w. place_of (ps ++ None ∷ []) w) (sym last) ∙ e))
      | inr other ↦
          let high = known_within (ps ++ None ∷ []) v p e in
          let long : length (ps ++ None ∷ []) ≡ length ps + 1 = length-append ps (None ∷ []) in
          absurd (let n : length ps ≡ v = omega (arith, high, long, past) in other (sym n))
    ]
  ];
  placed = λ p at. get_or_append_left ps (None ∷ []) None (at_place h p) (within_places h ps p f at) ∙ f.placed p at;
  counted = ap (count_by (λ b. b)) (map-append is_some ps (None ∷ [])) ∙ count_wider (members ps) ∙ f.counted;
}

pub members_widened : (ps : List (Option ℕ)) → members (ps ++ None ∷ []) ≡ members ps ++ false ∷ []
members_widened ps = map-append is_some ps (None ∷ [])

-- ---- what came to the end by an exchange with the first place

pub came_last : (h now k more : List ℕ) (len i n v : ℕ) → now ≡ h → len ≡ length h → i + 1 ≡ length h →
    k ≡ set (set now 0 (at_place now i)) i (at_place now 0) → n + 1 ≡ length (take len (k ++ more)) → v ≡ at_place (take len (k ++ more)) n → v ≡ at_place h 0
came_last h now k more len i n v same len_is i_is moved long read =
    let now_long : length now ≡ length h = ap length same in
    let k_long : length k ≡ length now = ap length moved ∙ two_length now 0 i (at_place now i) (at_place now 0) in
    let all : length (k ++ more) ≡ length k + length more = length-append k more in
    let cut : length (take len (k ++ more)) ≡ len = length-take-le len (k ++ more) (omega (arith, all, k_long, now_long, len_is)) in
    let at : n ≡ i = omega (arith, cut, long, len_is, i_is) in
    read ∙ get_or-take len (k ++ more) n 0 (omega (arith, cut, long)) ∙
    get_or_append_left k more 0 n (omega (arith, cut, long, k_long, now_long, len_is)) ∙
    ap (λ p. at_place k p) at ∙ ap (λ (x : List ℕ). at_place x i) moved ∙
    two_last now 0 i (at_place now i) (at_place now 0) 0 (omega (arith, i_is, now_long)) ∙
    ap (λ (x : List ℕ). at_place x 0) same
