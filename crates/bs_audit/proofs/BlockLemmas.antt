-- The states that a step's blocks exclude.
use Rattle.std.proofs.Common.{◌≡◌, ℕ, suc, zero, ◌<◌, ◌≤◌, ◌+◌, ◌-◌, ◌/◌, Bool, true, false, cond, List, [], ◌∷◌, ◌++◌, map, length, get_or, take}
use Rattle.std.proofs.Common.{drop, refl, ap, subst, sym, ◌∙◌, ◌⊎◌, inl, inr, Option, Some, None, arith}
use Rattle.std.specs.Prelude.{slice_get, MatchOption, count_by, not, ◌&&◌, ◌||◌, ◌==◌, All, replicate, slice_set}
use Rattle.std.specs.Cmp.{bool_cmp_total}
use Rattle.std.specs.Cmp.Lexicographic.{pointwise, pointwise_decides, slice_cmp, lists_total}
use Rattle.std.specs.Ordering.{bool_cmp, ordering_reverse}
use Rattle.std.specs.declared.cmp.Ordering.{Ordering}
use Rattle.std.specs.declared.cmp.Ordering.TheVariants.{Less, Equal, Greater}
use Rattle.std.specs.List.{list_all}
use Rattle.std.proofs.lemmas.Bool.{true≢false, eq-eqb, cases_lt, cases_order}
use Rattle.std.proofs.lemmas.List.{length-map, map_more, take_all, take_more, drop_more, append-nil, get_or-map, get_or-set_same, get_or-set_other}
use Rattle.std.proofs.lemmas.List.{get_or_default, length-set, length-replicate, get_or-replicate, take-append-drop}
use Rattle.std.proofs.lemmas.List.Elements.{filter_map-append}
use Rattle.std.proofs.lemmas.List.Sums.{sum_by-cons}
use Rattle.std.proofs.lemmas.List.Folds.{list_any-append, list_all-append, list_any_at, list_any_none}
use Rattle.bs_bits.specs.Bits.{bits_eq}
use Rattle.bs_clause.specs.Literal.{Literal, Clause, negation, same_literal}
use Rattle.bs_clause.proofs.Literals.{same_literal_iff}
use Rattle.bs_encode.specs.Encoded.{Encoded}
use Rattle.bs_encode.specs.Assuming.{signed, block_for}
use Rattle.bs_scan.specs.Moments.{is_listed}
use Rattle.bs_scan.proofs.SignatureLemmas.{bits_same, bits_same_is}
use Rattle.bs_report.specs.declared.report.Cand.{Cand}
use Rattle.bs_report.specs.Step.{Ascend, listed}
use Rattle.bs_log.specs.declared.line.Line.{Line}
use Rattle.bs_log.specs.declared.line.Line.TheVariants.{Solve, Lemma, Block, Finish, Retire, Delete}
use Rattle.bs_audit.specs.StepLines.{is_block}
use Rattle.bs_log.specs.Steps.{block_of_line}
use Rattle.bs_report.specs.Valid.{has_clause, blocks_in, blocks_due, are_right_blocks}
use Rattle.bs_audit.specs.Blocked.{blocking, Blocks, BlocksNone, IsAt, IsDueAt, IsNotDue, AreNoted, NotesMore}
use Rattle.bs_audit.proofs.Lines.{not_same}

-- ---- clauses

pub same_is : (c d : Clause) → pointwise same_literal c d ≡ true → c ≡ d
same_is c d e = (pointwise_decides same_literal_iff c d).0 e

pub is_same : (c d : Clause) → c ≡ d → pointwise same_literal c d ≡ true
is_same c d e = (pointwise_decides same_literal_iff c d).1 e

abbrev pub variables_of : Clause → List ℕ
variables_of c = map (λ l. l.variable) c

abbrev pub negated_bits : Clause → List Bool
negated_bits c = map (λ l. not l.positive) c

not_not : (b : Bool) → not (not b) ≡ b
not_not true = refl
not_not false = refl

-- literals over the variables are those with the signs that they have
signed_again : (own ls : Clause) → variables_of ls ≡ variables_of own → ls ≡ signed own (map not (negated_bits ls))
signed_again [] [] e = refl
signed_again [] (l ∷ ls) e = cc
signed_again (o ∷ own) [] e = cc
signed_again (o ∷ own) (l ∷ ls) e =
    let first : l.variable ≡ o.variable = cc in
    let rest : variables_of ls ≡ variables_of own = cc in
    let sign : l.positive ≡ not (not l.positive) = sym (not_not l.positive) in
    ap (λ (k : Clause). l ∷ k) (signed_again own ls rest) ∙ λ i. record { variable = first i; positive = sign i } ∷ signed own (map not (negated_bits ls))

signed_variables : (own : Clause) (bits : List Bool) → length bits ≡ length own → variables_of (signed own bits) ≡ variables_of own
signed_variables [] bits e = refl
signed_variables (o ∷ own) [] e = absurd (omega arith)
signed_variables (o ∷ own) (b ∷ bits) e = ap (λ (k : List ℕ). o.variable ∷ k) (signed_variables own bits (omega arith))

-- the signs of a state are the state
negated_again : (own : Clause) (s : List Bool) → length s ≡ length own → negated_bits (signed own (map not s)) ≡ s
negated_again [] [] e = refl
negated_again [] (b ∷ s) e = absurd (omega arith)
negated_again (o ∷ own) [] e = absurd (omega arith)
negated_again (o ∷ own) (b ∷ s) e =
    ap (λ (k : Bool). k ∷ negated_bits (signed own (map not s))) (not_not b) ∙ ap (λ (k : List Bool). b ∷ k) (negated_again own s (omega arith))

signs_differ : (own : Clause) (s t : List Bool) → length s ≡ length own → length t ≡ length own → signed own (map not s) ≡ signed own (map not t) → s ≡ t
signs_differ own s t e f h = sym (negated_again own s e) ∙ (ap negated_bits h ∙ negated_again own t f)

blocking_differ : (e : Encoded) (activation : Literal) (s t : List Bool) → length s ≡ length e.states → length t ≡ length e.states →
    blocking e activation s ≡ blocking e activation t → s ≡ t
blocking_differ e activation s t ws wt h = let rest : block_for e s ≡ block_for e t = cc in signs_differ e.states s t ws wt rest

-- ---- the state of a block

pub blocks_state : (e : Encoded) (activation first : Literal) (rest clause : Clause) (state : List Bool) → clause ≡ first ∷ rest → first ≡ negation activation →
    variables_of rest ≡ variables_of e.states →
    state ≡ negated_bits rest → Blocks e activation clause state
blocks_state e activation first rest clause state is f v d =
    let width : length (negated_bits rest) ≡ length e.states =
    length-map rest (λ (l : Literal). not l.positive)
    ∙ (sym (length-map rest (λ (l : Literal). l.variable)) ∙ (ap length v ∙ length-map e.states (λ (l : Literal). l.variable))) in
    record {
      width = ap length d ∙ width;
      is =
          is ∙ (ap (λ (l : Literal). l ∷ rest) f
          ∙ ap (λ (k : Clause). negation activation ∷ k) (signed_again e.states rest v ∙ ap (λ (s : List Bool). signed e.states (map not s)) (sym d)));
    }

pub none_empty : (e : Encoded) (activation : Literal) (clause : Clause) → clause ≡ [] → BlocksNone e activation clause
none_empty e activation clause is = record { none = λ s w h. cc }

pub none_first : (e : Encoded) (activation first : Literal) (rest clause : Clause) → clause ≡ first ∷ rest → same_literal first (negation activation) ≡ false →
    BlocksNone e activation clause
none_first e activation first rest clause is f =
    record { none = λ s w h. let same : first ≡ negation activation = cc in absurd (true≢false (sym ((same_literal_iff first (negation activation)).1 same) ∙ f)) }

pub none_variables : (e : Encoded) (activation first : Literal) (rest clause : Clause) → clause ≡ first ∷ rest →
    (variables_of rest ≡ variables_of e.states → ⊥) → BlocksNone e activation clause
none_variables e activation first rest clause is v =
    record { none = λ s w h. let same : rest ≡ block_for e s = cc in v (ap variables_of same ∙ signed_variables e.states (map not s) (length-map s not ∙ w)) }

-- ---- the variables of literals

get_or_at : (own : Clause) (i : ℕ) (o : Literal) → slice_get own i ≡ Some o → get_or own i o ≡ o
get_or_at [] i o h = cc
get_or_at (p ∷ own) zero o h = cc
get_or_at (p ∷ own) (suc i) o h = get_or_at own i o h

pub variables_more : (ls own : Clause) (i : ℕ) (l o : Literal) → i < length ls → i < length own → l ≡ get_or ls i l → slice_get own i ≡ Some o →
    l.variable ≡ o.variable →
    variables_of (take i ls) ≡ variables_of (take i own) → variables_of (take (i + 1) ls) ≡ variables_of (take (i + 1) own)
variables_more ls own i l o li lo is at same h =
    map_more (λ (l : Literal). l.variable) ls i l li
    ∙ (ap (λ (l : Literal). variables_of (take i ls) ++ l.variable ∷ []) (sym is)
    ∙ (ap (λ (k : List ℕ). k ++ l.variable ∷ []) h
    ∙ (ap (λ (v : ℕ). variables_of (take i own) ++ v ∷ []) (same ∙ ap (λ (l : Literal). l.variable) (sym (get_or_at own i o at)))
    ∙ sym (map_more (λ (l : Literal). l.variable) own i o lo))))

pub variables_differ : (ls own : Clause) (i : ℕ) (l o : Literal) → i < length ls → i < length own → l ≡ get_or ls i l → slice_get own i ≡ Some o →
    (l.variable ≡ o.variable → ⊥) →
    variables_of ls ≡ variables_of own → ⊥
variables_differ ls own i l o li lo is at differ e =
    differ
    (ap (λ (l : Literal). l.variable) is
    ∙ (sym (get_or-map (λ (l : Literal). l.variable) ls i l 0 li)
    ∙ (ap (λ (k : List ℕ). get_or k i 0) e
    ∙ (get_or-map (λ (l : Literal). l.variable) own i o 0 lo ∙ ap (λ (l : Literal). l.variable) (get_or_at own i o at)))))

pub all_variables : (ls own : Clause) (n : ℕ) → length ls ≤ n → length own ≤ n → variables_of (take n ls) ≡ variables_of (take n own) →
    variables_of ls ≡ variables_of own
all_variables ls own n le lo e = ap variables_of (sym (take_all n ls le)) ∙ (e ∙ ap variables_of (take_all n own lo))

pub lengths_differ : (ls own : Clause) → (length ls ≡ length own → ⊥) → variables_of ls ≡ variables_of own → ⊥
lengths_differ ls own differ e =
    differ (sym (length-map ls (λ (l : Literal). l.variable)) ∙ (ap length e ∙ length-map own (λ (l : Literal). l.variable)))

-- ---- the candidates' blocks

abbrev pub WidthsAre : ℕ → List (List Bool) → Type 0
WidthsAre width states = All (λ s. length s ≡ width) states

due_here : (e : Encoded) (activation : Literal) (states : List (List Bool)) (j : ℕ) → j < length states →
    get_or (map (blocking e activation) states) j [] ≡ blocking e activation (get_or states j [])
due_here e activation states j lt = get_or-map (blocking e activation) states j [] [] lt

-- a clause that is a state's block is due exactly where that state is listed
not_listed : (e : Encoded) (activation : Literal) (states : List (List Bool)) (clause : Clause) (s : List Bool) → WidthsAre (length e.states) states →
    Blocks e activation clause s → is_listed states s ≡ false →
    has_clause (map (blocking e activation) states) clause ≡ false
not_listed e activation states clause s widths is out =
    list_any_none (pointwise same_literal clause) (map (blocking e activation) states)
    (λ j d lt.
    let below : j < length states = omega (arith, lt, length-map states (blocking e activation)) in
    by j d lt below (pointwise same_literal clause (get_or (map (blocking e activation) states) j d)) refl)
  where
    by : (j : ℕ) (d : Clause) → j < length (map (blocking e activation) states) → j < length states → (b : Bool) →
        pointwise same_literal clause (get_or (map (blocking e activation) states) j d) ≡ b → b ≡ false
    by j d lt below false h = refl
    by j d lt below true h =
        let there : clause ≡ blocking e activation (get_or states j []) =
        same_is clause (get_or (map (blocking e activation) states) j d) h ∙ get_or-map (blocking e activation) states j [] d below in
        let same : s ≡ get_or states j [] = blocking_differ e activation s (get_or states j []) is.width (widths j [] below) (sym is.is ∙ there) in
        absurd (true≢false (sym (list_any_at (bits_eq s) states j [] below (ap (bits_eq s) (sym same) ∙ bits_same s)) ∙ out))

none_due : (e : Encoded) (activation : Literal) (states : List (List Bool)) (clause : Clause) → WidthsAre (length e.states) states → BlocksNone e activation clause →
    has_clause (map (blocking e activation) states) clause ≡ false
none_due e activation states clause widths is =
    list_any_none (pointwise same_literal clause) (map (blocking e activation) states)
    (λ j d lt.
    let below : j < length states = omega (arith, lt, length-map states (blocking e activation)) in
    by j d below (pointwise same_literal clause (get_or (map (blocking e activation) states) j d)) refl)
  where
    by : (j : ℕ) (d : Clause) → j < length states → (b : Bool) → pointwise same_literal clause (get_or (map (blocking e activation) states) j d) ≡ b → b ≡ false
    by j d below false h = refl
    by j d below true h =
        absurd (is.none (get_or states j []) (widths j [] below)
        (same_is clause (get_or (map (blocking e activation) states) j d) h ∙ get_or-map (blocking e activation) states j [] d below))

pub not_due_none : (e : Encoded) (activation : Literal) (states : List (List Bool)) (clause : Clause) (width : ℕ) → width ≡ length e.states →
    WidthsAre width states → BlocksNone e activation clause →
    IsNotDue e activation states clause
not_due_none e activation states clause width w widths is = record { none = none_due e activation states clause (subst (λ (n : ℕ). WidthsAre n states) w widths) is }

pub not_due_unlisted : (e : Encoded) (activation : Literal) (states : List (List Bool)) (clause : Clause) (s : List Bool) (width : ℕ) →
    width ≡ length e.states → WidthsAre width states →
    Blocks e activation clause s → is_listed states s ≡ false → IsNotDue e activation states clause
not_due_unlisted e activation states clause s width w widths is out =
    record { none = not_listed e activation states clause s (subst (λ (n : ℕ). WidthsAre n states) w widths) is out }

pub due_listed : (e : Encoded) (activation : Literal) (states : List (List Bool)) (clause : Clause) (s : List Bool) (j : ℕ) → Blocks e activation clause s →
    IsAt states s j → IsDueAt e activation states clause j
due_listed e activation states clause s j is at = record { below = at.below; is = is.is ∙ ap (blocking e activation) (sym at.is) }

pub due_place : (e : Encoded) (activation : Literal) (states : List (List Bool)) (clause : Clause) (s : List Bool) (width : ℕ) (o : Option ℕ) →
    width ≡ length e.states → WidthsAre width states →
    Blocks e activation clause s → MatchOption o (is_listed states s ≡ false) (IsAt states s) →
    MatchOption o (IsNotDue e activation states clause) (IsDueAt e activation states clause)
due_place e activation states clause s width None w widths is out = not_due_unlisted e activation states clause s width w widths is out
due_place e activation states clause s width (Some j) w widths is at = due_listed e activation states clause s j is at

pub due_known : (e : Encoded) (activation : Literal) (states : List (List Bool)) (clause : Clause) (j : ℕ) → IsDueAt e activation states clause j →
    has_clause (map (blocking e activation) states) clause ≡ true
due_known e activation states clause j at =
    let below : j < length (map (blocking e activation) states) = omega (arith, at.below, length-map states (blocking e activation)) in
    list_any_at (pointwise same_literal clause) (map (blocking e activation) states) j [] below
    (is_same clause (get_or (map (blocking e activation) states) j []) (at.is ∙ sym (due_here e activation states j at.below)))

-- ---- ascending states

itself : (s : List Bool) → slice_cmp bool_cmp s s ≡ Equal
itself [] = refl
itself (false ∷ s) = itself s
itself (true ∷ s) = itself s

less_differ : (s t : List Bool) → slice_cmp bool_cmp s t ≡ Less → s ≡ t → ⊥
less_differ s t e same = let h : slice_cmp bool_cmp s t ≡ Equal = ap (λ (u : List Bool). slice_cmp bool_cmp u t) same ∙ itself t in cc

-- two places of an ascending list have two states
distinct : (states : List (List Bool)) → Ascend states → (i j : ℕ) → i < length states → j < length states → get_or states i [] ≡ get_or states j [] → i ≡ j
distinct states asc i j li lj e = by (cases_order i j)
  where
    by : (i ≡ j) ⊎ ((i < j) ⊎ (j < i)) → i ≡ j
    by (inl same) = same
    by (inr (inl lt)) = absurd (less_differ (get_or states i []) (get_or states j []) (asc i j [] lt lj) e)
    by (inr (inr lt)) = absurd (less_differ (get_or states j []) (get_or states i []) (asc j i [] lt li) (sym e))

-- ---- a search by halves

abbrev pub AllLess : List (List Bool) → List Bool → ℕ → Type 0
AllLess states s low = (k : ℕ) → k < low → slice_cmp bool_cmp (get_or states k []) s ≡ Less

abbrev pub AllGreater : List (List Bool) → List Bool → ℕ → Type 0
AllGreater states s high = (k : ℕ) → high ≤ k → k < length states → slice_cmp bool_cmp s (get_or states k []) ≡ Less

greater_is : (s t : List Bool) → slice_cmp bool_cmp s t ≡ Greater → slice_cmp bool_cmp t s ≡ Less
greater_is s t e = (lists_total bool_cmp_total).antisymm t s ∙ ap ordering_reverse e

equal_is : (s t : List Bool) → slice_cmp bool_cmp s t ≡ Equal → s ≡ t
equal_is [] [] e = refl
equal_is [] (b ∷ t) e = cc
equal_is (b ∷ s) [] e = cc
equal_is (false ∷ s) (false ∷ t) e = ap (λ (k : List Bool). false ∷ k) (equal_is s t e)
equal_is (false ∷ s) (true ∷ t) e = cc
equal_is (true ∷ s) (false ∷ t) e = cc
equal_is (true ∷ s) (true ∷ t) e = ap (λ (k : List Bool). true ∷ k) (equal_is s t e)

up_to : (states : List (List Bool)) → Ascend states → (m k : ℕ) → m < length states → k < m + 1 →
    (k ≡ m) ⊎ (slice_cmp bool_cmp (get_or states k []) (get_or states m []) ≡ Less)
up_to states asc m k lt le = by (cases_order k m)
  where
    by : (k ≡ m) ⊎ ((k < m) ⊎ (m < k)) → (k ≡ m) ⊎ (slice_cmp bool_cmp (get_or states k []) (get_or states m []) ≡ Less)
    by (inl same) = inl same
    by (inr (inl below)) = inr (asc k m [] below lt)
    by (inr (inr above)) = absurd (omega (arith, above, le))

pub less_below : (states : List (List Bool)) (s : List Bool) (m : ℕ) → Ascend states → m < length states →
    slice_cmp bool_cmp (get_or states m []) s ≡ Less → AllLess states s (m + 1)
less_below states s m asc lt e k le = by (up_to states asc m k lt le)
  where
    by : (k ≡ m) ⊎ (slice_cmp bool_cmp (get_or states k []) (get_or states m []) ≡ Less) → slice_cmp bool_cmp (get_or states k []) s ≡ Less
    by (inl same) = ap (λ (i : ℕ). slice_cmp bool_cmp (get_or states i []) s) same ∙ e
    by (inr less) = (lists_total bool_cmp_total).trans (get_or states k []) (get_or states m []) s less e

pub greater_above : (states : List (List Bool)) (s : List Bool) (m : ℕ) → Ascend states → m < length states →
    slice_cmp bool_cmp (get_or states m []) s ≡ Greater → AllGreater states s m
greater_above states s m asc lt e k le below = by (cases_order m k)
  where
    here : slice_cmp bool_cmp s (get_or states m []) ≡ Less
    here = greater_is (get_or states m []) s e

    by : (m ≡ k) ⊎ ((m < k) ⊎ (k < m)) → slice_cmp bool_cmp s (get_or states k []) ≡ Less
    by (inl same) = ap (λ (i : ℕ). slice_cmp bool_cmp s (get_or states i [])) (sym same) ∙ here
    by (inr (inl more)) = (lists_total bool_cmp_total).trans s (get_or states m []) (get_or states k []) here (asc m k [] more below)
    by (inr (inr less)) = absurd (omega (arith, less, le))

pub middle_below : (low high : ℕ) → low < high → low + (high - low) / 2 < high
middle_below low high lt = omega arith

pub compared : (cands : List Cand) (m : ℕ) (cand : Cand) (s : List Bool) (order is : Ordering) → m < length cands →
    order ≡ slice_cmp bool_cmp (get_or cands m cand).state s → order ≡ is →
    slice_cmp bool_cmp (get_or (listed cands) m []) s ≡ is
compared cands m cand s order is lt e f = ap (λ (t : List Bool). slice_cmp bool_cmp t s) (get_or-map (λ (c : Cand). c.state) cands m cand [] lt) ∙ (sym e ∙ f)

pub listed_length : (cands : List Cand) → length (listed cands) ≡ length cands
listed_length cands = length-map cands (λ (c : Cand). c.state)

pub stands_at : (states : List (List Bool)) (s : List Bool) (m : ℕ) → m < length states → slice_cmp bool_cmp (get_or states m []) s ≡ Equal → IsAt states s m
stands_at states s m lt e = record { below = lt; is = equal_is (get_or states m []) s e }

-- where the halves have met, the state is not listed
pub not_found : (states : List (List Bool)) (s : List Bool) (low high : ℕ) → high ≤ low → AllLess states s low → AllGreater states s high →
    is_listed states s ≡ false
not_found states s low high met less greater =
    list_any_none (bits_eq s) states (λ k d lt. by k d lt (cases_lt k low) (bits_eq s (get_or states k d)) refl)
  where
    by : (k : ℕ) (d : List Bool) → k < length states → (k < low) ⊎ (low ≤ k) → (b : Bool) → bits_eq s (get_or states k d) ≡ b → b ≡ false
    by k d lt side false h = refl
    by k d lt (inl below) true h =
        absurd (less_differ (get_or states k []) s (less k below) (sym (bits_same_is s (get_or states k d) h ∙ sym (get_or_default states k [] d lt))))
    by k d lt (inr above) true h =
        absurd (less_differ s (get_or states k []) (greater k (omega (arith, met, above)) lt)
        (bits_same_is s (get_or states k d) h ∙ sym (get_or_default states k [] d lt)))

-- ---- blocks that are noted

pub none_are_noted : (e : Encoded) (activation : Literal) (states : List (List Bool)) (noted : List Bool) (count : ℕ) → count ≡ length states →
    noted ≡ replicate count false →
    AreNoted e activation states [] noted
none_are_noted e activation states noted count n is =
    record {
      each = ap length is ∙ (length-replicate count false ∙ n);
      right = λ j lt. ap (λ (l : List Bool). get_or l j false) is ∙ get_or-replicate count j false false (omega (arith, lt, n));
    }

pub notes_nothing : (e : Encoded) (activation : Literal) (states : List (List Bool)) (noted : List Bool) → NotesMore e activation states [] noted noted
notes_nothing e activation states noted = record { is = λ blocks h. subst (λ (l : List Clause). AreNoted e activation states l noted) (sym (append-nil blocks)) h }

one_more : (blocks : List Clause) (clause due : Clause) → has_clause (blocks ++ clause ∷ []) due ≡ (has_clause blocks due || pointwise same_literal due clause)
one_more blocks clause due =
    list_any-append (pointwise same_literal due) blocks (clause ∷ [])
    ∙ ap (λ (b : Bool). has_clause blocks due || b) (or_false (pointwise same_literal due clause))
  where
    or_false : (b : Bool) → (b || false) ≡ b
    or_false true = refl
    or_false false = refl

or_true : (b : Bool) → (b || true) ≡ true
or_true true = refl
or_true false = refl

or_none : (b : Bool) → (b || false) ≡ b
or_none true = refl
or_none false = refl

pub notes_block : (e : Encoded) (activation : Literal) (states : List (List Bool)) (clause : Clause) (j width : ℕ) (old new : List Bool) →
    width ≡ length e.states → WidthsAre width states → Ascend states →
    IsDueAt e activation states clause j → new ≡ slice_set old j true → NotesMore e activation states (clause ∷ []) old new
notes_block e activation states clause j width old new w widths asc at is =
    record {
      is = λ blocks h. record {
        each = ap length is ∙ (length-set old j true ∙ h.each);
        right = λ k lt. by blocks h k lt (cases_order k j);
      };
    }
  where
    wide : (k : ℕ) → k < length states → length (get_or states k []) ≡ length e.states
    wide k lt = widths k [] lt ∙ w

    other : (k : ℕ) → k < length states → (k ≡ j → ⊥) → (b : Bool) → pointwise same_literal (blocking e activation (get_or states k [])) clause ≡ b → b ≡ false
    other k lt differ false t = refl
    other k lt differ true t =
        let same : blocking e activation (get_or states k []) ≡ blocking e activation (get_or states j []) =
        same_is (blocking e activation (get_or states k [])) clause t ∙ at.is in
        absurd (differ (distinct states asc k j lt at.below
        (blocking_differ e activation (get_or states k []) (get_or states j []) (wide k lt) (wide j at.below) same)))

    apart : (blocks : List Clause) → AreNoted e activation states blocks old → (k : ℕ) → k < length states → (k ≡ j → ⊥) →
        get_or new k false ≡ has_clause (blocks ++ clause ∷ []) (blocking e activation (get_or states k []))
    apart blocks h k lt differ =
        ap (λ (l : List Bool). get_or l k false) is
        ∙ (get_or-set_other old j k true false differ
        ∙ (h.right k lt
        ∙ (sym (or_none (has_clause blocks (blocking e activation (get_or states k []))))
        ∙ (ap (λ (b : Bool). has_clause blocks (blocking e activation (get_or states k [])) || b)
        (sym (other k lt differ (pointwise same_literal (blocking e activation (get_or states k [])) clause) refl))
        ∙ sym (one_more blocks clause (blocking e activation (get_or states k [])))))))

    by : (blocks : List Clause) → AreNoted e activation states blocks old → (k : ℕ) → k < length states → (k ≡ j) ⊎ ((k < j) ⊎ (j < k)) →
        get_or new k false ≡ has_clause (blocks ++ clause ∷ []) (blocking e activation (get_or states k []))
    by blocks h k lt (inl same) =
        let here : get_or new k false ≡ true =
        ap (λ (l : List Bool). get_or l k false) is
        ∙ (ap (λ (i : ℕ). get_or (slice_set old j true) i false) same ∙ get_or-set_same old j true false (omega (arith, at.below, h.each))) in
        let there : pointwise same_literal (blocking e activation (get_or states k [])) clause ≡ true =
        is_same (blocking e activation (get_or states k [])) clause (ap (λ (i : ℕ). blocking e activation (get_or states i [])) same ∙ sym at.is) in
        here
        ∙ sym
        (one_more blocks clause (blocking e activation (get_or states k []))
        ∙ (ap (λ (b : Bool). has_clause blocks (blocking e activation (get_or states k [])) || b) there
        ∙ or_true (has_clause blocks (blocking e activation (get_or states k [])))))
    by blocks h k lt (inr (inl less)) = apart blocks h k lt (λ same. omega (arith, less, same))
    by blocks h k lt (inr (inr more)) = apart blocks h k lt (λ same. omega (arith, more, same))

-- ---- the lines

pub blocks_more : (lines : List Line) (i : ℕ) (line : Line) → i < length lines → line ≡ get_or lines i line →
    blocks_in (take (i + 1) lines) ≡ blocks_in (take i lines) ++ blocks_in (line ∷ [])
blocks_more lines i line lt is =
    ap blocks_in (take_more lines i line lt ∙ ap (λ (l : Line). take i lines ++ l ∷ []) (sym is)) ∙ filter_map-append block_of_line (take i lines) (line ∷ [])

pub known_more : (test : Clause → Bool) (lines : List Line) (i : ℕ) (line : Line) → i < length lines → line ≡ get_or lines i line →
    list_all test (blocks_in (take i lines)) ≡ true →
    list_all test (blocks_in (line ∷ [])) ≡ true → list_all test (blocks_in (take (i + 1) lines)) ≡ true
known_more test lines i line lt is e f =
    ap (list_all test) (blocks_more lines i line lt is)
    ∙ (list_all-append test (blocks_in (take i lines)) (blocks_in (line ∷ [])) ∙ (ap (λ (b : Bool). b && list_all test (blocks_in (line ∷ []))) e ∙ f))

pub unknown_one : (test : Clause → Bool) (lines : List Line) (i : ℕ) (line : Line) → i < length lines → line ≡ get_or lines i line →
    list_all test (blocks_in (line ∷ [])) ≡ false →
    list_all test (blocks_in lines) ≡ false
unknown_one test lines i line lt is f =
    ap (λ (l : List Line). list_all test (blocks_in l))
    (sym (take-append-drop i lines)
    ∙ ap (λ (l : List Line). take i lines ++ l) (drop_more lines i line lt ∙ ap (λ (l : Line). l ∷ drop (i + 1) lines) (sym is)))
    ∙ (ap (list_all test)
    (filter_map-append block_of_line (take i lines) (line ∷ drop (i + 1) lines)
    ∙ ap (λ (l : List Clause). blocks_in (take i lines) ++ l) (filter_map-append block_of_line (line ∷ []) (drop (i + 1) lines)))
    ∙ (list_all-append test (blocks_in (take i lines)) (blocks_in (line ∷ []) ++ blocks_in (drop (i + 1) lines))
    ∙ (ap (λ (b : Bool). list_all test (blocks_in (take i lines)) && b)
    (list_all-append test (blocks_in (line ∷ [])) (blocks_in (drop (i + 1) lines))
    ∙ ap (λ (b : Bool). b && list_all test (blocks_in (drop (i + 1) lines))) f) ∙ and_none (list_all test (blocks_in (take i lines))))))
  where
    and_none : (b : Bool) → (b && false) ≡ false
    and_none true = refl
    and_none false = refl

pub noted_more : (e : Encoded) (activation : Literal) (states : List (List Bool)) (lines : List Line) (i : ℕ) (line : Line) (old new : List Bool) →
    i < length lines → line ≡ get_or lines i line →
    AreNoted e activation states (blocks_in (take i lines)) old → NotesMore e activation states (blocks_in (line ∷ [])) old new →
    AreNoted e activation states (blocks_in (take (i + 1) lines)) new
noted_more e activation states lines i line old new lt is h more =
    subst (λ (l : List Clause). AreNoted e activation states l new) (sym (blocks_more lines i line lt is)) (more.is (blocks_in (take i lines)) h)

-- ---- all candidates

all_alike : {X Y : Type 0} (p : X → Bool) (q : Y → Bool) (xs : List X) (ys : List Y) (x : X) (y : Y) → length xs ≡ length ys →
    ((j : ℕ) → j < length ys → p (get_or xs j x) ≡ q (get_or ys j y)) →
    list_all p xs ≡ list_all q ys
all_alike p q [] [] x y e h = refl
all_alike p q [] (b ∷ ys) x y e h = absurd (omega arith)
all_alike p q (a ∷ xs) [] x y e h = absurd (omega arith)
all_alike p q (a ∷ xs) (b ∷ ys) x y e h =
    ap (λ (t : Bool). t && list_all p xs) (h 0 (omega arith))
    ∙ ap (λ (t : Bool). q b && t) (all_alike p q xs ys x y (omega arith) (λ j lt. h (suc j) (omega arith)))

pub all_noted : (e : Encoded) (activation : Literal) (states : List (List Bool)) (blocks : List Clause) (noted : List Bool) → AreNoted e activation states blocks noted →
    list_all (λ b. b) noted ≡ list_all (has_clause blocks) (map (blocking e activation) states)
all_noted e activation states blocks noted h =
    all_alike (λ (b : Bool). b) (has_clause blocks) noted (map (blocking e activation) states) false [] (h.each ∙ sym (length-map states (blocking e activation)))
    (λ j lt. let below : j < length states = omega (arith, lt, length-map states (blocking e activation)) in h.right j below
    ∙ ap (has_clause blocks) (sym (due_here e activation states j below)))

count_more : (line : Line) (rest : List Line) → count_by is_block (line ∷ rest) ≡ cond (is_block line) 1 0 + count_by is_block rest
count_more line rest = sum_by-cons (λ (l : Line). cond (is_block l) 1 0) line rest

blocks_count : (lines : List Line) → count_by is_block lines ≡ length (blocks_in lines)
blocks_count [] = refl
blocks_count (Solve ∷ rest) = let h = blocks_count rest in omega (arith, h, count_more Solve rest)
blocks_count (Lemma id lits hints ∷ rest) = let h = blocks_count rest in omega (arith, h, count_more (Lemma id lits hints) rest)
blocks_count (Block id lits ∷ rest) = let h = blocks_count rest in omega (arith, h, count_more (Block id lits) rest)
blocks_count (Finish id ∷ rest) = let h = blocks_count rest in omega (arith, h, count_more (Finish id) rest)
blocks_count (Retire id ∷ rest) = let h = blocks_count rest in omega (arith, h, count_more (Retire id) rest)
blocks_count (Delete ids ∷ rest) = let h = blocks_count rest in omega (arith, h, count_more (Delete ids) rest)

-- ---- a line's block

pub line_is_due : (e : Encoded) (activation : Literal) (states : List (List Bool)) (clause : Clause) (j id : ℕ) (line : Line) → line ≡ Block id clause →
    IsDueAt e activation states clause j →
    true ≡ list_all (has_clause (map (blocking e activation) states)) (blocks_in (line ∷ []))
line_is_due e activation states clause j id line is at =
    sym
    (ap (λ (l : Line). list_all (has_clause (map (blocking e activation) states)) (blocks_in (l ∷ []))) is
    ∙ ap (λ (b : Bool). b && true) (due_known e activation states clause j at))

pub line_is_noted : (e : Encoded) (activation : Literal) (states : List (List Bool)) (clause : Clause) (j id width : ℕ) (line : Line)
    (old new : List Bool) → line ≡ Block id clause → width ≡ length e.states →
    WidthsAre width states → Ascend states → IsDueAt e activation states clause j → new ≡ slice_set old j true →
    NotesMore e activation states (blocks_in (line ∷ [])) old new
line_is_noted e activation states clause j id width line old new is w widths asc at n =
    subst (λ (l : Line). NotesMore e activation states (blocks_in (l ∷ [])) old new) (sym is) (notes_block e activation states clause j width old new w widths asc at n)

-- ---- the whole test

pub counts_differ : (e : Encoded) (activation : Literal) (cands : List Cand) (lines : List Line) (count : ℕ) → count ≡ count_by is_block lines →
    (count ≡ length cands → ⊥) →
    false ≡ are_right_blocks (blocks_due activation (block_for e) cands) (blocks_in lines)
counts_differ e activation cands lines count n differ =
    let long : length (map (blocking e activation) (listed cands)) ≡ length cands = length-map (listed cands) (blocking e activation) ∙ listed_length cands in
    let apart : (length (blocks_in lines) == length (map (blocking e activation) (listed cands))) ≡ false =
    not_same (length (blocks_in lines)) (length (map (blocking e activation) (listed cands))) (λ same. differ (n ∙ (blocks_count lines ∙ (same ∙ long)))) in
    sym
    (ap (λ (b : Bool). b && list_all (has_clause (map (blocking e activation) (listed cands))) (blocks_in lines) && list_all (has_clause (blocks_in lines))
    (map (blocking e activation) (listed cands))) apart)

pub blocks_are_right : (e : Encoded) (activation : Literal) (cands : List Cand) (lines : List Line) (count : ℕ) (noted : List Bool) (known right : Bool) →
    count ≡ count_by is_block lines → count ≡ length cands →
    known ≡ list_all (has_clause (map (blocking e activation) (listed cands))) (blocks_in lines) → known ≡ true →
    AreNoted e activation (listed cands) (blocks_in lines) noted → right ≡ list_all (λ b. b) noted →
    right ≡ are_right_blocks (blocks_due activation (block_for e) cands) (blocks_in lines)
blocks_are_right e activation cands lines count noted known right n same k t h r =
    let long : length (map (blocking e activation) (listed cands)) ≡ length cands = length-map (listed cands) (blocking e activation) ∙ listed_length cands in
    let alike : (length (blocks_in lines) == length (map (blocking e activation) (listed cands))) ≡ true =
    eq-eqb (length (blocks_in lines)) (length (map (blocking e activation) (listed cands))) (sym (blocks_count lines) ∙ (sym n ∙ (same ∙ sym long))) in
    r
    ∙ (all_noted e activation (listed cands) (blocks_in lines) noted h
    ∙ sym
    (ap (λ (b : Bool). b && list_all (has_clause (map (blocking e activation) (listed cands))) (blocks_in lines) && list_all (has_clause (blocks_in lines))
    (map (blocking e activation) (listed cands))) alike
    ∙ ap (λ (b : Bool). b && list_all (has_clause (blocks_in lines)) (map (blocking e activation) (listed cands))) (sym k ∙ t)))
