-- What time frames over higher variables and links say of an assignment, and which variables they have.
use Rattle.std.proofs.Common.{◌≡◌, ℕ, zero, suc, ◌+◌, ◌-◌, ◌<◌, ◌≤◌, Bool, true, false, not, ◌&&◌, ◌||◌, cond, eqb, ltb, leb, List, [], ◌∷◌, ◌++◌, map, length}
use Rattle.std.proofs.Common.{refl, sym, ap, ◌∙◌, arith, inl, inr, take, get_or, add-one}
use Rattle.std.specs.Bool.{beq}
use Rattle.std.specs.List.{AllByRecursion, list_any}
use Rattle.std.proofs.lemmas.Bool.{false≢true, cases_eq, eq-eqb, ne_eqb, lt-ltb, le-leb, le-ltb, lt-leb, and_from, and_left, and_right, cond-true, cond-false}
use Rattle.std.proofs.lemmas.List.{append_assoc}
use Rattle.std.proofs.lemmas.List.Elements.{recursion_from_All, All-from_recursion}
use Rattle.bs_clause.specs.Literal.{Literal, Clause, literal_value, Satisfies}
use Rattle.bs_clause.specs.Range.{IsWithin, HasVariables}
use Rattle.bs_log.specs.Refusal.{has_distinct_variables}
use Rattle.bs_encode.specs.Tables.{lit}
use Rattle.bs_encode.specs.Assuming.{signed}
use Rattle.bs_encode.specs.Frame.{raised_all, link, links, lowered}
use Rattle.bs_encode.specs.Cycle.{bits_on}
use Rattle.bs_encode.proofs.DistinctLemmas.{weaken}

abbrev Distinct : Clause → Type 0
Distinct d = has_distinct_variables d ≡ true

-- ---- what a time frame says

pub raised_value : (a : ℕ → Bool) (by : ℕ) (c : Clause) → list_any (literal_value a) (raised_all by c) ≡ list_any (literal_value (lowered a by)) c
raised_value a by [] = refl
raised_value a by (l ∷ c) = ap (λ x. literal_value (lowered a by) l || x) (raised_value a by c)

pub lowered_met : (a : ℕ → Bool) (by : ℕ) (cs : List Clause) → AllByRecursion (Satisfies a) (map (raised_all by) cs) →
    AllByRecursion (Satisfies (lowered a by)) cs
lowered_met a by [] h = tt
lowered_met a by (c ∷ cs) h = (sym (raised_value a by c) ∙ h.0, lowered_met a by cs h.1)

pub raised_met : (a : ℕ → Bool) (by : ℕ) (cs : List Clause) → AllByRecursion (Satisfies (lowered a by)) cs →
    AllByRecursion (Satisfies a) (map (raised_all by) cs)
raised_met a by [] h = tt
raised_met a by (c ∷ cs) h = (raised_value a by c ∙ h.0, raised_met a by cs h.1)

pub raised_bits : (a : ℕ → Bool) (by : ℕ) (ls : List Literal) → bits_on a (raised_all by ls) ≡ bits_on (lowered a by) ls
raised_bits a by [] = refl
raised_bits a by (l ∷ ls) = ap (λ bs. lowered a by l.variable ∷ bs) (raised_bits a by ls)

pub length-bits_on : (a : ℕ → Bool) (ls : List Literal) → length (bits_on a ls) ≡ length ls
length-bits_on a [] = refl
length-bits_on a (l ∷ ls) = omega (arith, length-bits_on a ls)

pub length-raised_all : (by : ℕ) (ls : List Literal) → length (raised_all by ls) ≡ length ls
length-raised_all by [] = refl
length-raised_all by (l ∷ ls) = omega (arith, length-raised_all by ls)

-- ---- what links say

link_says : (x y : Bool) → (beq x false || (beq y true || false)) ≡ true → (beq x true || (beq y false || false)) ≡ true → x ≡ y
link_says true true h k = refl
link_says false false h k = refl
link_says true false h k = absurd (false≢true h)
link_says false true h k = absurd (false≢true k)

pub links_say : (a : ℕ → Bool) (ns ss : List Literal) → length ns ≡ length ss → AllByRecursion (Satisfies a) (links ns ss) → bits_on a ns ≡ bits_on a ss
links_say a [] [] wide h = refl
links_say a [] (s ∷ ss) wide h = absurd (omega (arith, wide))
links_say a (n ∷ ns) [] wide h = absurd (omega (arith, wide))
links_say a (n ∷ ns) (s ∷ ss) wide h =
    ap (λ b. b ∷ bits_on a ns) (link_says (a n.variable) (a s.variable) h.0 h.1.0)
    ∙ ap (λ bs. a s.variable ∷ bs) (links_say a ns ss (omega (arith, wide)) h.1.1)

link_met : (x y : Bool) → x ≡ y → ((beq x false || (beq y true || false)) ≡ true) × ((beq x true || (beq y false || false)) ≡ true)
link_met true true e = (refl, refl)
link_met false false e = (refl, refl)
link_met true false e = absurd (false≢true (sym e))
link_met false true e = absurd (false≢true e)

heads : (x y : Bool) (xs ys : List Bool) → x ∷ xs ≡ y ∷ ys → (x ≡ y) × (xs ≡ ys)
heads x y xs ys e = (cc, cc)

pub links_met : (a : ℕ → Bool) (ns ss : List Literal) → bits_on a ns ≡ bits_on a ss → AllByRecursion (Satisfies a) (links ns ss)
links_met a [] ss e = tt
links_met a (n ∷ ns) [] e = tt
links_met a (n ∷ ns) (s ∷ ss) e =
    let parts = heads (a n.variable) (a s.variable) (bits_on a ns) (bits_on a ss) e in
    let both = link_met (a n.variable) (a s.variable) parts.0 in
    (both.0, (both.1, links_met a ns ss parts.1))

-- ---- links one at a time

more : (ns ss : List Literal) (i : ℕ) (d : Literal) → i < length ns → i < length ss →
    links (take (suc i) ns) (take (suc i) ss) ≡ links (take i ns) (take i ss) ++ link (get_or ns i d).variable (get_or ss i d).variable
more [] ss i d ln ls = absurd (omega arith)
more (n ∷ ns) [] i d ln ls = absurd (omega arith)
more (n ∷ ns) (s ∷ ss) zero d ln ls = refl
more (n ∷ ns) (s ∷ ss) (suc i) d ln ls = ap (λ r. link n.variable s.variable ++ r) (more ns ss i d (omega arith) (omega arith))

-- the links up to one place more
pub links_more : (ns ss : List Literal) (i : ℕ) (n s : Literal) → length ns ≡ length ss → i < length ns → n ≡ get_or ns i n → s ≡ get_or ss i s →
    links (take (i + 1) ns) (take (i + 1) ss) ≡ links (take i ns) (take i ss) ++ link n.variable s.variable
links_more ns ss i n s same lt is_n is_s =
    let L : List Clause = links (take i ns) (take i ss) in
    let other : get_or ss i s ≡ get_or ss i n = any ss i s n (omega (arith, same, lt)) in
    rw add-one
    (more ns ss i n lt (omega (arith, same, lt))
    ∙ sym (ap (λ (m : Literal). L ++ link m.variable s.variable) is_n ∙ ap (λ (m : Literal). L ++ link (get_or ns i n).variable m.variable) (is_s ∙ other)))
  where
    any : (xs : List Literal) (k : ℕ) (a b : Literal) → k < length xs → get_or xs k a ≡ get_or xs k b
    any [] k a b h = absurd (omega arith)
    any (x ∷ xs) zero a b h = refl
    any (x ∷ xs) (suc k) a b h = any xs k a b (omega arith)

pub links_step : (base into next : List Clause) (ns ss : List Literal) (i : ℕ) (n s : Literal) → length ns ≡ length ss → i < length ns → n ≡ get_or ns i n →
    s ≡ get_or ss i s →
    next ≡ into ++ link n.variable s.variable → into ≡ base ++ links (take i ns) (take i ss) → next ≡ base ++ links (take (i + 1) ns) (take (i + 1) ss)
links_step base into next ns ss i n s same lt is_n is_s grown so_far =
    grown ∙ (ap (λ u. u ++ link n.variable s.variable) so_far
    ∙ (append_assoc base (links (take i ns) (take i ss)) (link n.variable s.variable)
    ∙ ap (λ u. base ++ u) (sym (links_more ns ss i n s same lt is_n is_s))))

-- ---- the variables of a time frame

eqb_raised : (by a b : ℕ) → eqb (by + a) (by + b) ≡ eqb a b
eqb_raised by a b = elim (cases_eq a b) [
  | inl same ↦ eq-eqb (by + a) (by + b) (ap (λ n. by + n) same) ∙ sym (eq-eqb a b same)
  | inr other ↦ ne_eqb (by + a) (by + b) (λ e. other (omega (arith, e))) ∙ sym (ne_eqb a b other)
]

any_raised : (by v : ℕ) (c : Clause) → list_any (λ (m : Literal). eqb m.variable (by + v)) (raised_all by c) ≡ list_any (λ (m : Literal). eqb m.variable v) c
any_raised by v [] = refl
any_raised by v (l ∷ c) =
    ap (λ b. b || list_any (λ (m : Literal). eqb m.variable (by + v)) (raised_all by c)) (eqb_raised by l.variable v)
    ∙ ap (λ b. eqb l.variable v || b) (any_raised by v c)

pub distinct_raised : (by : ℕ) (c : Clause) → has_distinct_variables (raised_all by c) ≡ has_distinct_variables c
distinct_raised by [] = refl
distinct_raised by (l ∷ c) =
    ap (λ b. not b && has_distinct_variables (raised_all by c)) (any_raised by l.variable c)
    ∙ ap (λ b. not (list_any (λ (m : Literal). eqb m.variable l.variable) c) && b) (distinct_raised by c)

pub signed_raised : (by : ℕ) (ls : List Literal) (bs : List Bool) → signed (raised_all by ls) bs ≡ raised_all by (signed ls bs)
signed_raised by [] bs = refl
signed_raised by (l ∷ ls) [] = refl
signed_raised by (l ∷ ls) (b ∷ bs) = ap (λ c. lit (by + l.variable) b ∷ c) (signed_raised by ls bs)

-- above a base, and up to a bound
abbrev pub IsIn : ℕ → ℕ → Literal → Type 0
IsIn by m l = (by < l.variable) × (l.variable ≤ m)

pub raised_in : (by n m : ℕ) (ls : List Literal) → AllByRecursion (IsWithin n) ls → by + n ≤ m → AllByRecursion (IsIn by m) (raised_all by ls)
raised_in by n m [] h fits = tt
raised_in by n m (l ∷ ls) h fits = ((omega (arith, h.0.0), omega (arith, h.0.1, fits)), raised_in by n m ls h.1 fits)

pub raised_within : (by n m : ℕ) (ls : List Literal) → AllByRecursion (IsWithin n) ls → by + n ≤ m → AllByRecursion (IsWithin m) (raised_all by ls)
raised_within by n m ls h fits = weaken (IsIn by m) (IsWithin m) (λ l w. (omega (arith, w.0), w.1)) (raised_all by ls) (raised_in by n m ls h fits)

pub raised_range : (by n m : ℕ) (cs : List Clause) → AllByRecursion (HasVariables n) cs → by + n ≤ m →
    AllByRecursion (HasVariables m) (map (raised_all by) cs)
raised_range by n m [] h fits = tt
raised_range by n m (c ∷ cs) h fits =
    (All-from_recursion (IsWithin m) (raised_all by c) (raised_within by n m c (recursion_from_All (IsWithin n) c h.0) fits), raised_range by n m cs h.1 fits)

pub raised_distinct : (by : ℕ) (cs : List Clause) → AllByRecursion Distinct cs → AllByRecursion Distinct (map (raised_all by) cs)
raised_distinct by [] h = tt
raised_distinct by (c ∷ cs) h = (distinct_raised by c ∙ h.0, raised_distinct by cs h.1)

pub links_range : (m : ℕ) (ns ss : List Literal) → AllByRecursion (IsWithin m) ns → AllByRecursion (IsWithin m) ss →
    AllByRecursion (HasVariables m) (links ns ss)
links_range m [] ss h g = tt
links_range m (n ∷ ns) [] h g = tt
links_range m (n ∷ ns) (s ∷ ss) h g = (
  All-from_recursion (IsWithin m) (lit n.variable false ∷ lit s.variable true ∷ []) (h.0, (g.0, tt)),
  (All-from_recursion (IsWithin m) (lit n.variable true ∷ lit s.variable false ∷ []) (h.0, (g.0, tt)), links_range m ns ss h.1 g.1),
)

pair_distinct : (n s : ℕ) (a b : Bool) → (s ≡ n → ⊥) → Distinct (lit n a ∷ lit s b ∷ [])
pair_distinct n s a b differ = ap (λ t. not (t || false) && (not false && true)) (ne_eqb s n differ)

-- where the variables of the one list are above those of the other, no link has a variable twice
pub links_apart : (ns ss : List Literal) → AllByRecursion (λ (n : Literal). AllByRecursion (λ (s : Literal). s.variable ≡ n.variable → ⊥) ss) ns →
    AllByRecursion Distinct (links ns ss)
links_apart [] ss h = tt
links_apart (n ∷ ns) [] h = tt
links_apart (n ∷ ns) (s ∷ ss) h = (
  pair_distinct n.variable s.variable false true h.0.0,
  (pair_distinct n.variable s.variable true false h.0.0, links_apart ns ss (weaken _ _ (λ m apart. apart.1) ns h.1)),
)

pub links_distinct : (x y z : ℕ) (ns ss : List Literal) → AllByRecursion (IsIn x y) ns → AllByRecursion (IsIn y z) ss → AllByRecursion Distinct (links ns ss)
links_distinct x y z ns ss h g =
    links_apart ns ss
    (weaken (IsIn x y) (λ (n : Literal). AllByRecursion (λ (s : Literal). s.variable ≡ n.variable → ⊥) ss)
    (λ n below. weaken (IsIn y z) (λ (s : Literal). s.variable ≡ n.variable → ⊥) (λ s above same. omega (arith, same, below.1, above.0)) ss g) ns h)

-- ---- one assignment of two

-- f on the n variables above one, and g on the others
abbrev pub overlay : ℕ → ℕ → (ℕ → Bool) → (ℕ → Bool) → ℕ → Bool
overlay by n f g v = cond (ltb by v && leb v (by + n)) (f (v - by)) (g v)

pub inside : (by n : ℕ) (f g : ℕ → Bool) (v w : ℕ) → v ≡ by + w → 1 ≤ w → w ≤ n → overlay by n f g v ≡ f w
inside by n f g v w is low high =
    cond-true (ltb by v && leb v (by + n)) (f (v - by)) (g v)
    (and_from (ltb by v) (leb v (by + n)) (lt-ltb by v (omega (arith, is, low))) (le-leb v (by + n) (omega (arith, is, high))))
    ∙ ap f (omega (arith, is))

pub below : (by n : ℕ) (f g : ℕ → Bool) (v : ℕ) → v ≤ by → overlay by n f g v ≡ g v
below by n f g v le = cond-false (ltb by v && leb v (by + n)) (f (v - by)) (g v) (and_left (ltb by v) (leb v (by + n)) (le-ltb by v le))

pub beyond : (by n : ℕ) (f g : ℕ → Bool) (v : ℕ) → by + n < v → overlay by n f g v ≡ g v
beyond by n f g v lt = cond-false (ltb by v && leb v (by + n)) (f (v - by)) (g v) (and_right (ltb by v) (leb v (by + n)) (lt-leb v (by + n) lt))

-- ---- clauses over variables on which two assignments agree

abbrev pub Agree : ℕ → (ℕ → Bool) → (ℕ → Bool) → Type 0
Agree n a b = (w : ℕ) → 1 ≤ w → w ≤ n → a w ≡ b w

pub same_value : (n : ℕ) (a b : ℕ → Bool) → Agree n a b → (c : Clause) → AllByRecursion (IsWithin n) c →
    list_any (literal_value a) c ≡ list_any (literal_value b) c
same_value n a b same [] h = refl
same_value n a b same (l ∷ c) h =
    ap (λ x. beq x l.positive || list_any (literal_value a) c) (same l.variable h.0.0 h.0.1)
    ∙ ap (λ x. literal_value b l || x) (same_value n a b same c h.1)

pub still_met : (n : ℕ) (a b : ℕ → Bool) → Agree n a b → (cs : List Clause) → AllByRecursion (HasVariables n) cs → AllByRecursion (Satisfies b) cs →
    AllByRecursion (Satisfies a) cs
still_met n a b same [] r h = tt
still_met n a b same (c ∷ cs) r h = (same_value n a b same c (recursion_from_All (IsWithin n) c r.0) ∙ h.0, still_met n a b same cs r.1 h.1)

pub same_bits : (n : ℕ) (a b : ℕ → Bool) → Agree n a b → (ls : List Literal) → AllByRecursion (IsWithin n) ls → bits_on a ls ≡ bits_on b ls
same_bits n a b same [] h = refl
same_bits n a b same (l ∷ ls) h = ap (λ x. x ∷ bits_on a ls) (same l.variable h.0.0 h.0.1) ∙ ap (λ xs. b l.variable ∷ xs) (same_bits n a b same ls h.1)
