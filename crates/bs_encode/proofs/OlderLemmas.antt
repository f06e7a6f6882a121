-- Two time frames and their link: what an assignment that meets their clauses shows, and the assignments that do.
use Rattle.std.proofs.Common.{◌≡◌, ℕ, ◌+◌, ◌-◌, ◌*◌, ◌<◌, ◌≤◌, Bool, true, false, not, ◌||◌, cond, leb, List, [], ◌∷◌, ◌++◌, map, length, take, get_or}
use Rattle.std.proofs.Common.{refl, sym, ap, ◌∙◌, arith}
use Rattle.std.specs.Bool.{beq}
use Rattle.std.specs.List.{AllByRecursion, list_any}
use Rattle.std.proofs.lemmas.Bool.{false_from_ne_true, le-leb, leb-true, or_right}
use Rattle.std.proofs.lemmas.List.{append_assoc, map-append}
use Rattle.std.proofs.lemmas.List.Elements.{recursion_from_All, All-from_recursion, All-weaker}
use Rattle.bs_clause.specs.declared.literal.TheConstants.{VARIABLE_LIMIT}
use Rattle.bs_clause.specs.Literal.{Literal, Clause, negation, literal_value, Satisfies}
use Rattle.bs_clause.specs.Range.{IsWithin, HasVariables}
use Rattle.bs_clause.proofs.Literals.{literal_value-negation}
use Rattle.bs_log.specs.Refusal.{has_distinct_variables}
use Rattle.bs_encode.specs.Encoded.{Encoded}
use Rattle.bs_encode.specs.Frame.{raised_all, HasRoom, HasRooms, link, links, under, lowered}
use Rattle.bs_encode.specs.Depth.{link_of, linked_clauses, IsLinkable}
use Rattle.bs_encode.specs.Cycle.{bits_on}
use Rattle.bs_encode.proofs.RangeLemmas.{join}
use Rattle.bs_encode.proofs.DistinctLemmas.{left_all, right_all, weaken, distinct_cons, apart_from_each}
use Rattle.bs_encode.proofs.FrameLemmas.{lowered_met, raised_met, raised_bits, length-raised_all, links_say, links_met, links_more, raised_within, raised_range}
use Rattle.bs_encode.proofs.FrameLemmas.{raised_distinct, raised_in, IsIn, links_range, links_apart, overlay, inside, below, beyond, Agree, still_met, same_bits}

-- ---- clauses under a literal

-- one more link, as at a step of a loop
pub under_step : (l : Literal) (base into next : List Clause) (ns ss : List Literal) (i : ℕ) (n s : Literal) → length ns ≡ length ss → i < length ns →
    n ≡ get_or ns i n → s ≡ get_or ss i s → next ≡ into ++ under l (link n.variable s.variable) →
    into ≡ base ++ under l (links (take i ns) (take i ss)) → next ≡ base ++ under l (links (take (i + 1) ns) (take (i + 1) ss))
under_step l base into next ns ss i n s same lt is_n is_s grown so_far =
    let L : List Clause = links (take i ns) (take i ss) in
    let K : List Clause = link n.variable s.variable in
    grown ∙ (ap (λ u. u ++ under l K) so_far
    ∙ (append_assoc base (under l L) (under l K)
    ∙ ap (λ u. base ++ u) (sym (ap (under l) (links_more ns ss i n s same lt is_n is_s) ∙ map-append (λ (c : Clause). negation l ∷ c) L K))))

-- where the literal is true, the clauses under it say what they say
pub under_says : (a : ℕ → Bool) (l : Literal) (cs : List Clause) → literal_value a l ≡ true → AllByRecursion (Satisfies a) (under l cs) →
    AllByRecursion (Satisfies a) cs
under_says a l [] on h = tt
under_says a l (c ∷ cs) on h =
    let off : literal_value a (negation l) ≡ false = literal_value-negation a l ∙ ap not on in
    (sym (ap (λ b. b || list_any (literal_value a) c) off) ∙ h.0, under_says a l cs on h.1)

-- where they hold, or the literal is false, they hold under it
pub under_holds : (a : ℕ → Bool) (l : Literal) (cs : List Clause) → AllByRecursion (Satisfies a) cs → AllByRecursion (Satisfies a) (under l cs)
under_holds a l [] h = tt
under_holds a l (c ∷ cs) h = (or_right (literal_value a (negation l)) (list_any (literal_value a) c) h.0, under_holds a l cs h.1)

pub under_false : (a : ℕ → Bool) (l : Literal) (cs : List Clause) → literal_value a l ≡ false → AllByRecursion (Satisfies a) (under l cs)
under_false a l [] off = tt
under_false a l (c ∷ cs) off =
    let on : literal_value a (negation l) ≡ true = literal_value-negation a l ∙ ap not off in
    (ap (λ b. b || list_any (literal_value a) c) on, under_false a l cs off)

under_range : (n m : ℕ) (l : Literal) (cs : List Clause) → IsWithin m l → n ≤ m → AllByRecursion (HasVariables n) cs →
    AllByRecursion (HasVariables m) (under l cs)
under_range n m l [] own le h = tt
under_range n m l (c ∷ cs) own le h = (
  All-from_recursion (IsWithin m) (negation l ∷ c)
      (own, weaken (IsWithin n) (IsWithin m) (λ k w. (w.0, omega (arith, w.1, le))) c (recursion_from_All (IsWithin n) c h.0)),
  under_range n m l cs own le h.1,
)

under_distinct : (n : ℕ) (l : Literal) (cs : List Clause) → n < l.variable → AllByRecursion (HasVariables n) cs →
    AllByRecursion (λ (c : Clause). has_distinct_variables c ≡ true) cs → AllByRecursion (λ (c : Clause). has_distinct_variables c ≡ true) (under l cs)
under_distinct n l [] above r h = tt
under_distinct n l (c ∷ cs) above r h = (
  distinct_cons (negation l) c
      (apart_from_each l.variable c
      (weaken (IsWithin n) (λ (m : Literal). m.variable ≡ l.variable → ⊥) (λ m w same. omega (arith, w.1, above, same)) c
      (recursion_from_All (IsWithin n) c r.0))) h.0,
  under_distinct n l cs above r.1 h.1,
)

-- ---- room for a second time frame

pub frame_room : (e : Encoded) (n : ℕ) (ls : List Literal) → IsLinkable e → n ≡ e.variables → HasVariables e.variables ls → HasRoom n ls
frame_room e n ls k is h =
    All-weaker (IsWithin e.variables) (λ (l : Literal). n + l.variable < VARIABLE_LIMIT) (λ l w. omega (arith, w.1, k.room, is)) ls h

pub frames_room : (e : Encoded) (n : ℕ) → IsLinkable e → n ≡ e.variables → HasRooms n e.clauses
frames_room e n k is = All-weaker (HasVariables e.variables) (HasRoom n) (λ c h. frame_room e n c k is h) e.clauses k.clauses

-- ---- a second time frame

module _ (e : Encoded) (k : IsLinkable e) where
  abbrev n : ℕ
  n = e.variables

  abbrev frames : List Clause
  frames = map (raised_all n) e.clauses

  abbrev joins : List Clause
  joins = links (raised_all n e.next) e.states

  next_within : AllByRecursion (IsWithin (2 * n)) (raised_all n e.next)
  next_within = raised_within n n (2 * n) e.next (recursion_from_All (IsWithin n) e.next k.next) (omega arith)

  wider : (m : ℕ) → n ≤ m → (ls : List Literal) → HasVariables n ls → AllByRecursion (IsWithin m) ls
  wider m le ls h = weaken (IsWithin n) (IsWithin m) (λ l w. (w.0, omega (arith, w.1, le))) ls (recursion_from_All (IsWithin n) ls h)

  joins_within : AllByRecursion (HasVariables (2 * n)) joins
  joins_within = links_range (2 * n) (raised_all n e.next) e.states next_within (wider (2 * n) (omega arith) e.states k.states)

  joins_distinct : AllByRecursion (λ (c : Clause). has_distinct_variables c ≡ true) joins
  joins_distinct =
      links_apart (raised_all n e.next) e.states
      (weaken (IsIn n (2 * n)) (λ (m : Literal). AllByRecursion (λ (s : Literal). s.variable ≡ m.variable → ⊥) e.states)
      (λ m above.
      weaken (IsWithin n) (λ (s : Literal). s.variable ≡ m.variable → ⊥) (λ s w same. omega (arith, same, w.1, above.0)) e.states
      (recursion_from_All (IsWithin n) e.states k.states))
      (raised_all n e.next) (raised_in n n (2 * n) e.next (recursion_from_All (IsWithin n) e.next k.next) (omega arith)))

  -- the clauses of both time frames are over their variables and the link
  pub linked_range : AllByRecursion (HasVariables (2 * n + 1)) (linked_clauses e)
  linked_range =
      let m : ℕ = 2 * n + 1 in
      join (HasVariables m) e.clauses (frames ++ under (link_of e) joins)
      (weaken (HasVariables n) (HasVariables m) (λ c h. All-from_recursion (IsWithin m) c (wider m (omega arith) c h)) e.clauses
      (recursion_from_All (HasVariables n) e.clauses k.clauses))
      (join (HasVariables m) frames (under (link_of e) joins)
      (raised_range n n m e.clauses (recursion_from_All (HasVariables n) e.clauses k.clauses) (omega arith))
      (under_range (2 * n) m (link_of e) joins (omega arith, omega arith) (omega arith) joins_within))

  pub linked_distinct : AllByRecursion (λ (c : Clause). has_distinct_variables c ≡ true) e.clauses →
      AllByRecursion (λ (c : Clause). has_distinct_variables c ≡ true) (linked_clauses e)
  linked_distinct h =
      join (λ (c : Clause). has_distinct_variables c ≡ true) e.clauses (frames ++ under (link_of e) joins) h
      (join (λ (c : Clause). has_distinct_variables c ≡ true) frames (under (link_of e) joins) (raised_distinct n e.clauses h)
      (under_distinct (2 * n) (link_of e) joins (omega arith) joins_within joins_distinct))

  -- ---- every assignment that meets the clauses shows both time frames, and under the link that the second leads to the first

  module _ (a : ℕ → Bool) (met : AllByRecursion (Satisfies a) (linked_clauses e)) where
    pub first_met : AllByRecursion (Satisfies a) e.clauses
    first_met = left_all (Satisfies a) e.clauses (frames ++ under (link_of e) joins) met

    others_met : AllByRecursion (Satisfies a) (frames ++ under (link_of e) joins)
    others_met = right_all (Satisfies a) e.clauses (frames ++ under (link_of e) joins) met

    pub second_met : AllByRecursion (Satisfies (lowered a n)) e.clauses
    second_met = lowered_met a n e.clauses (left_all (Satisfies a) frames (under (link_of e) joins) others_met)

    pub second_leads : literal_value a (link_of e) ≡ true → bits_on (lowered a n) e.next ≡ bits_on a e.states
    second_leads on =
        sym (raised_bits a n e.next)
        ∙ links_say a (raised_all n e.next) e.states (length-raised_all n e.next ∙ k.same_width)
        (under_says a (link_of e) joins on (right_all (Satisfies a) frames (under (link_of e) joins) others_met))

  -- ---- two assignments that meet the clauses of one time frame give one that meets those of both

  -- f on the first time frame, g on the second, and b above
  abbrev pub both : (ℕ → Bool) → (ℕ → Bool) → Bool → ℕ → Bool
  both f g b = overlay n n g (λ v. cond (leb v n) (f v) b)

  module _ (f g : ℕ → Bool) (b : Bool) where
    pub first_is : Agree n (both f g b) f
    first_is w low high = below n n g (λ v. cond (leb v n) (f v) b) w high ∙ ap (λ t. cond t (f w) b) (le-leb w n high)

    pub second_is : Agree n (lowered (both f g b) n) g
    second_is w low high = inside n n g (λ v. cond (leb v n) (f v) b) (n + w) w refl low high

    pub link_is : literal_value (both f g b) (link_of e) ≡ b
    link_is =
        let v : ℕ = 2 * n + 1 in
        let past : leb v n ≡ false = false_from_ne_true (leb v n) (λ le. omega (arith, leb-true v n le)) in
        ap (λ t. beq t true) (beyond n n g (λ u. cond (leb u n) (f u) b) v (omega arith) ∙ ap (λ t. cond t (f v) b) past) ∙ same b
      where
        same : (t : Bool) → beq t true ≡ t
        same true = refl
        same false = refl

    pub both_met : AllByRecursion (Satisfies f) e.clauses → AllByRecursion (Satisfies g) e.clauses → (b ≡ true → bits_on g e.next ≡ bits_on f e.states) →
        AllByRecursion (Satisfies (both f g b)) (linked_clauses e)
    both_met mf mg leads =
        let a : ℕ → Bool = both f g b in
        let range : AllByRecursion (HasVariables n) e.clauses = recursion_from_All (HasVariables n) e.clauses k.clauses in
        join (Satisfies a) e.clauses (frames ++ under (link_of e) joins) (still_met n a f first_is e.clauses range mf)
        (join (Satisfies a) frames (under (link_of e) joins)
        (raised_met a n e.clauses (still_met n (lowered a n) g second_is e.clauses range mg))
        (by b refl))
      where
        by : (t : Bool) → b ≡ t → AllByRecursion (Satisfies (both f g b)) (under (link_of e) joins)
        by false off = under_false (both f g b) (link_of e) joins (link_is ∙ off)
        by true on =
            let a : ℕ → Bool = both f g b in
            under_holds a (link_of e) joins
            (links_met a (raised_all n e.next) e.states
            (raised_bits a n e.next
            ∙ (same_bits n (lowered a n) g second_is e.next (recursion_from_All (IsWithin n) e.next k.next)
            ∙ (leads on ∙ sym (same_bits n a f first_is e.states (recursion_from_All (IsWithin n) e.states k.states))))))
