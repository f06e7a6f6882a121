-- The dump at a cycle, and the marks on its state.
use Rattle.std.proofs.Common.{◌≡◌, ℕ, ◌<◌, ◌≤◌, ◌+◌, ◌==◌, Bool, true, false, List, [], length, drop, get_or, Option, Some, None, refl, ap, sym, ◌∙◌, arith, slice_get, subst}
use Rattle.std.specs.List.{list_any}
use Rattle.std.proofs.lemmas.List.{drop_all, drop_more}
use Rattle.std.specs.Prelude.{nat_lt, slice_index_or, All, if◌then◌else◌}
use Rattle.std.proofs.lemmas.Option.{get_or_from_slice_get, none-some}
use Rattle.std.proofs.lemmas.Bool.{ltb-true, lt-ltb}
use Rattle.bs_scan.specs.declared.dump.Dump.{Dump}
use Rattle.bs_scan.specs.Choice.{Chosen, IsDepth, depth_of}
use Rattle.bs_scan.specs.Dump.{IsDump}
use Rattle.bs_inspect_netlist.specs.Dumped.{dumped, kept_before, older_before}

pub at_place : (states : List (List Bool)) (i : ℕ) (s : List Bool) → slice_get states i ≡ Some s → s ≡ slice_index_or states i []
at_place states i s e = sym (get_or_from_slice_get states i s [] e)

pub wide_at : (states : List (List Bool)) (width i : ℕ) (s : List Bool) → All (λ s. length s ≡ width) states → i < length states →
    s ≡ slice_index_or states i s → length s ≡ width
wide_at states width i s all lt e = ap length e ∙ all i s lt

-- where one is kept there is no older one
alone : (choice : Chosen) (states : List (List Bool)) (cycle : ℕ) → depth_of choice ≡ 1 → older_before choice states cycle ≡ None
alone choice states cycle one = rw one refl

abbrev no_bits : Option (List Bool)
no_bits = None

same_none : (b : Bool) → (if b then no_bits else no_bits) ≡ no_bits
same_none true = refl
same_none false = refl

-- where there is no last one there is no older one
behind : (choice : Chosen) (states : List (List Bool)) (cycle : ℕ) → kept_before choice states cycle 1 ≡ None → older_before choice states cycle ≡ None
behind choice states cycle none = by (nat_lt cycle 1) refl
  where
    by : (b : Bool) → nat_lt cycle 1 ≡ b → older_before choice states cycle ≡ None
    by true e =
        let two : nat_lt cycle 2 ≡ true = lt-ltb cycle 2 (let h = ltb-true cycle 1 e in omega (arith, h)) in
        rw two (same_none (depth_of choice == 2))
    by false e = absurd (none-some _ (rw e at (sym none)))

is_dump : (choice : Chosen) (states : List (List Bool)) (marks : List Bool) (cycle : ℕ) → IsDepth (depth_of choice) →
    IsDump (dumped choice states marks cycle)
is_dump choice states marks cycle depth = record {
  kept = depth;
  alone = λ one. alone choice states cycle one;
  behind = λ none. behind choice states cycle none;
}

pub dump_is : (choice : Chosen) (states : List (List Bool)) (marks : List Bool) (cycle : ℕ) (dump : Dump) → IsDepth (depth_of choice) →
    dump ≡ dumped choice states marks cycle → IsDump dump
dump_is choice states marks cycle dump depth e = subst IsDump (sym e) (is_dump choice states marks cycle depth)

-- ---- marks

abbrev some_mark : List Bool → Bool
some_mark marks = list_any (λ m. m) marks

pub mark_more : (marks : List Bool) (i : ℕ) (d : Bool) → i < length marks → list_any (λ m. m) marks ≡ list_any (λ m. m) (drop i marks) →
    get_or marks i d ≡ false → list_any (λ m. m) marks ≡ list_any (λ m. m) (drop (i + 1) marks)
mark_more marks i d lt e not = e ∙ (ap some_mark (drop_more marks i d lt) ∙ rw not refl)

pub mark_found : (marks : List Bool) (i : ℕ) (d : Bool) → i < length marks → list_any (λ m. m) marks ≡ list_any (λ m. m) (drop i marks) →
    get_or marks i d ≡ true → true ≡ list_any (λ m. m) marks
mark_found marks i d lt e is = sym (e ∙ (ap some_mark (drop_more marks i d lt) ∙ rw is refl))

pub mark_none : (marks : List Bool) (i : ℕ) → length marks ≤ i → list_any (λ m. m) marks ≡ list_any (λ m. m) (drop i marks) →
    false ≡ list_any (λ m. m) marks
mark_none marks i le e = sym (e ∙ ap some_mark (drop_all i marks le))
