-- Facts in order, each once, and units of them.
use Rattle.std.proofs.Common.{◌≡◌, ℕ, ◌<◌, ◌≤◌, ◌+◌, ◌-◌, Bool, List, [], ◌∷◌, ◌++◌, length, get_or, take, IsPermutation, refl, subst, sym, ◌∙◌, le_refl, arith}
use Rattle.std.specs.Prelude.{Contains}
use Rattle.std.specs.List.{All, AllWithin}
use Rattle.std.proofs.lemmas.List.{get_or-take, get_or_default, length-take-le, take_all}
use Rattle.std.proofs.lemmas.List.Elements.{All-more, All-nil, All-push, All-weaker, AllWithin-more, AllWithin-none, Contains-append_left, Contains-get_or, Contains-push}
use Rattle.std.proofs.lemmas.List.Sorted.{All-permutation, Contains-permutation, IsPermutation-sym}
use Rattle.bs_net_facts.specs.declared.fact.Fact.{Fact}
use Rattle.bs_inspect_causes.specs.declared.drivers.Drivers.{Drivers}
use Rattle.bs_inspect_causes.specs.Layers.{IsLike, IsUnitAt, KeepsFirst, Repeats, marks_net}
use Rattle.bs_inspect_causes.proofs.BlockLemmas.{no_fact}

pub same_fact : (f g : Fact) → f.net.0 ≡ g.net.0 → f.cycle ≡ g.cycle → f.bit ≡ g.bit → f ≡ g
same_fact f g n t b = λ i. record { net = record { 0 = n i }; cycle = t i; bit = b i }

-- ---- each once

pub keeps_none : (facts : List Fact) → KeepsFirst facts 0 []
keeps_none facts = record { all = All-nil (Contains []); only = All-nil (Contains facts) }

pub keeps_more : (facts kept after : List Fact) (i : ℕ) (d : Fact) → i < length facts → KeepsFirst facts i kept → after ≡ kept ++ get_or facts i d ∷ [] →
    KeepsFirst facts (i + 1) after
keeps_more facts kept after i d lt h e =
    let f : Fact = get_or facts i d in
    subst (KeepsFirst facts (i + 1)) (sym e)
    (record {
      all =
          All-more (Contains (kept ++ f ∷ [])) facts i d lt
          (All-weaker (Contains kept) (Contains (kept ++ f ∷ [])) (λ x there. Contains-append_left kept (f ∷ []) x there) (take i facts) h.all)
          (Contains-push kept f);
      only = All-push (Contains facts) kept f h.only (Contains-get_or facts i d lt);
    })

pub repeats_of : (facts : List Fact) (i : ℕ) (d e : Fact) → 0 < i → i < length facts → get_or facts (i - 1) d ≡ get_or facts i e → Repeats facts i
repeats_of facts i d e positive lt same =
    let before : i - 1 < length facts = omega (arith, positive, lt) in
    record { behind = positive; same = λ x. get_or_default facts (i - 1) x d before ∙ (same ∙ get_or_default facts i e x lt) }

pub keeps_same : (facts kept : List Fact) (i : ℕ) → i < length facts → Repeats facts i → KeepsFirst facts i kept → KeepsFirst facts (i + 1) kept
keeps_same facts kept i lt repeats h =
    let x : Fact = no_fact in
    let before : i - 1 < i = omega (arith, repeats.behind) in
    let le : i ≤ length facts = omega (arith, lt) in
    let there : i - 1 < length (take i facts) = omega (arith, before, length-take-le i facts le) in
    let kept_before : Contains kept (get_or facts (i - 1) x) = subst (Contains kept) (get_or-take i facts (i - 1) x before) (h.all (i - 1) x there) in
    record { all = All-more (Contains kept) facts i x lt h.all (subst (Contains kept) (repeats.same x) kept_before); only = h.only }

pub keeps_all : (facts kept : List Fact) (i : ℕ) → length facts ≤ i → KeepsFirst facts i kept → KeepsFirst facts (length facts) kept
keeps_all facts kept i le h =
    record {
      all =
          subst (λ (fs : List Fact). All (Contains kept) fs) (take_all i facts le ∙ sym (take_all (length facts) facts (le_refl (length facts)))) h.all;
      only = h.only;
    }

-- each of all facts is kept
pub kept_all : (facts kept : List Fact) → KeepsFirst facts (length facts) kept → All (Contains kept) facts
kept_all facts kept h = subst (λ (fs : List Fact). All (Contains kept) fs) (take_all (length facts) facts (le_refl (length facts))) h.all

pub ordered_keeps : (facts ordered slice kept : List Fact) → IsPermutation facts ordered → slice ≡ ordered → KeepsFirst slice (length slice) kept →
    KeepsFirst facts (length facts) kept
ordered_keeps facts ordered slice kept moves same h =
    let back : IsPermutation slice facts = subst (λ (fs : List Fact). IsPermutation fs facts) (sym same) (IsPermutation-sym facts ordered moves) in
    record {
      all =
          subst (λ (fs : List Fact). All (Contains kept) fs) (sym (take_all (length facts) facts (le_refl (length facts))))
          (All-permutation (Contains kept) slice facts back (kept_all slice kept h));
      only = All-weaker (Contains slice) (Contains facts) (λ x there. Contains-permutation slice facts x back there) kept h.only;
    }

-- ---- units

pub like_of : (d : Drivers) (at : ℕ) (flop : Bool) (f : Fact) → f.cycle ≡ at → marks_net d.by_flop f.net ≡ flop → IsLike d at flop f
like_of d at flop f cycle kind = record { cycle_is = cycle; kind_is = kind }

pub like_more : (d : Drivers) (at : ℕ) (flop : Bool) (facts : List Fact) (from i : ℕ) (e : Fact) → i < length facts → AllWithin (IsLike d at flop) facts from i →
    IsLike d at flop (get_or facts i e) → AllWithin (IsLike d at flop) facts from (i + 1)
like_more d at flop facts from i e lt h here =
    AllWithin-more (IsLike d at flop) facts from i h (λ x. subst (IsLike d at flop) (get_or_default facts i e x lt) here)

pub like_first : (d : Drivers) (flop : Bool) (facts : List Fact) (from : ℕ) (e : Fact) → from < length facts →
    flop ≡ marks_net d.by_flop (get_or facts from e).net → AllWithin (IsLike d (get_or facts from e).cycle flop) facts from (from + 1)
like_first d flop facts from e lt mark =
    let at : ℕ = (get_or facts from e).cycle in
    like_more d at flop facts from from e lt (AllWithin-none (IsLike d at flop) facts from)
    (record { cycle_is = refl; kind_is = sym mark })

pub unit_is : (d : Drivers) (facts : List Fact) (from stop at : ℕ) (flop : Bool) → from < stop → stop ≤ length facts →
    AllWithin (IsLike d at flop) facts from stop → IsUnitAt d facts from (record { stop = stop; at = at; flop = flop })
unit_is d facts from stop at flop more within alike = record { more = more; within = within; alike = alike }
