-- What a VCD has of the flip-flops, one after another.
use Rattle.std.proofs.Common.{◌≡◌, ℕ, ◌<◌, ◌≤◌, ◌+◌, Bool, true, false, cond, List, [], ◌∷◌, ◌++◌, length, map, take, get_or, Option, refl, ap, sym, ◌∙◌, arith, take_all}
use Rattle.std.specs.Prelude.{◌||◌, count_by, slice_index_or}
use Rattle.std.specs.List.{list_any, range_with_len}
use Rattle.std.proofs.lemmas.List.{get_or-map, length-map, map_more}
use Rattle.std.proofs.lemmas.List.Folds.{list_any-append}
use Rattle.std.proofs.lemmas.List.Sums.{sum_by_more}
use Rattle.bs_bits.proofs.RangeLemmas.{range_push}
use Rattle.bs_vcd_header.specs.declared.sources.BitSource.{BitSource}
use Rattle.bs_vcd.specs.Levels.{Known}
use Rattle.bs_inspect_check.specs.declared.level.FlopLevel.{FlopLevel}
use Rattle.bs_inspect_check.specs.declared.level.FlopLevel.TheVariants.{Missing}
use Rattle.bs_inspect_check.specs.Flops.{count_unknown, differs, differs_at, is_other, is_unknown}
use Rattle.bs_inspect_check.specs.Samples.{flop_level, levels_by}
use Rattle.bs_inspect_check.specs.Tallies.{one_if}

or_none : (b : Bool) → (b || false) ≡ b
or_none true = refl
or_none false = refl

-- one place more
any_more : (p : ℕ → Bool) (n : ℕ) → list_any p (range_with_len 0 (n + 1)) ≡ (list_any p (range_with_len 0 n) || p n)
any_more p n =
    ap (list_any p) (range_push n)
    ∙ (list_any-append p (range_with_len 0 n) (n ∷ []) ∙ ap (λ (b : Bool). list_any p (range_with_len 0 n) || b) (or_none (p n)))

level_is : (known : Known) (sources : List (Option BitSource)) (i : ℕ) (d : Option BitSource) (l : FlopLevel) → i < length sources →
    l ≡ flop_level known (get_or sources i d) → l ≡ get_or (levels_by sources known) i Missing
level_is known sources i d l lt is = is ∙ sym (get_or-map (flop_level known) sources i d Missing lt)

pub look_more : (state : List Bool) (known : Known) (sources : List (Option BitSource)) (i : ℕ) (d : Option BitSource) (was now bit other : Bool) (l : FlopLevel) →
    i < length sources → was ≡ list_any (differs_at state (levels_by sources known)) (range_with_len 0 i) → l ≡ flop_level known (get_or sources i d) →
    bit ≡ slice_index_or state i false → other ≡ is_other bit l → now ≡ (was || other) →
    now ≡ list_any (differs_at state (levels_by sources known)) (range_with_len 0 (i + 1))
look_more state known sources i d was now bit other l lt e is b o goes =
    goes
    ∙ ((λ j. e j || (o ∙ λ k. is_other (b k) (level_is known sources i d l lt is k)) j)
    ∙ sym (any_more (differs_at state (levels_by sources known)) i))

pub look_all : (state : List Bool) (known : Known) (sources : List (Option BitSource)) (i : ℕ) (was : Bool) → i ≡ length sources →
    was ≡ list_any (differs_at state (levels_by sources known)) (range_with_len 0 i) → was ≡ differs state (levels_by sources known)
look_all state known sources i was n e =
    e ∙ ap (λ (k : ℕ). list_any (differs_at state (levels_by sources known)) (range_with_len 0 k)) (n ∙ sym (length-map sources (flop_level known)))

one_is : (b : Bool) → cond b 1 0 ≡ one_if b
one_is true = refl
one_is false = refl

pub unknown_more : (known : Known) (sources : List (Option BitSource)) (i count r : ℕ) (d : Option BitSource) (l : FlopLevel) (b : Bool) → i < length sources →
    count ≡ count_by is_unknown (take i (levels_by sources known)) → l ≡ flop_level known (get_or sources i d) → b ≡ is_unknown l → r ≡ one_if b →
    count + r ≡ count_by is_unknown (take (i + 1) (levels_by sources known))
unknown_more known sources i count r d l b lt e is u one =
    let levels : List FlopLevel = levels_by sources known in
    let more : count_by is_unknown (take (i + 1) levels) ≡ count_by is_unknown (take i levels) + cond (is_unknown (get_or levels i Missing)) 1 0 =
    sum_by_more (λ (x : FlopLevel). cond (is_unknown x) 1 0) levels i Missing (omega (arith, lt, length-map sources (flop_level known))) in
    let last : cond (is_unknown (get_or levels i Missing)) 1 0 ≡ r =
    ap (λ (x : FlopLevel). cond (is_unknown x) 1 0) (sym (level_is known sources i d l lt is))
    ∙ (one_is (is_unknown l) ∙ (ap one_if (sym u) ∙ sym one)) in
    omega (arith, more, last, e)

pub unknown_all : (known : Known) (sources : List (Option BitSource)) (i count : ℕ) → length sources ≤ i →
    count ≡ count_by is_unknown (take i (levels_by sources known)) → count ≡ count_unknown (levels_by sources known)
unknown_all known sources i count le e =
    e ∙ ap (count_by is_unknown) (take_all i (levels_by sources known) (omega (arith, le, length-map sources (flop_level known))))

pub levels_more : (known : Known) (sources : List (Option BitSource)) (i : ℕ) (d : Option BitSource) (levels after : List FlopLevel) (l : FlopLevel) →
    i < length sources → levels ≡ levels_by (take i sources) known → l ≡ flop_level known (get_or sources i d) → after ≡ levels ++ l ∷ [] →
    after ≡ levels_by (take (i + 1) sources) known
levels_more known sources i d levels after l lt e is goes = goes ∙ ((λ j. e j ++ is j ∷ []) ∙ sym (map_more (flop_level known) sources i d lt))
