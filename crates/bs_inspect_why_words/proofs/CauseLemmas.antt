-- The lines of causes.
use Rattle.std.proofs.Common.{◌≡◌, ℕ, ◌<◌, ◌+◌, ◌-◌, Bool, true, false, List, [], ◌∷◌, ◌++◌, length, map, take, get_or, refl, ap, sym, subst, ◌∙◌, arith, zero, suc}
use Rattle.std.specs.Prelude.{codes, nat_lt, ◌==◌, ◌&&◌, if◌then◌else◌}
use Rattle.std.specs.Bool.{beq}
use Rattle.std.specs.List.{All}
use Rattle.std.specs.List.Sorted.{IsPermutation, IsSorted}
use Rattle.std.proofs.lemmas.List.{append-nil, length-map}
use Rattle.std.proofs.lemmas.List.Elements.{All-append, All-nil, All-take}
use Rattle.std.proofs.lemmas.List.FromFn.{get_or-map-range_with_len, length-map-range_with_len}
use Rattle.std.proofs.lemmas.List.Sorted.{All-permutation}
use Rattle.bs_net.specs.Circuit.{Circuit}
use Rattle.bs_net.specs.Netlist.{circuit}
use Rattle.bs_net_facts.specs.declared.fact.Fact.{Fact}
use Rattle.bs_net_facts.specs.Seen.{Seen}
use Rattle.bs_inspect_view.specs.Signals.{AreSignals, Signal, signal_in}
use Rattle.bs_inspect_view.specs.declared.signal.Signal.{Signal as CodeSignal}
use Rattle.bs_inspect_why_words.specs.declared.limits.Limits.{Limits}
use Rattle.bs_inspect_why_words.specs.declared.row.Row.{Row}
use Rattle.bs_inspect_why_words.specs.Blocks.{Appends}
use Rattle.bs_inspect_why_words.specs.Causes.{HasRows, TellsRows, TellsRowsOf, by_line, first_cycle, is_old, old_line, old_row, old_rows, old_words, only_bit, row_line, row_name, row_names, rows_lines}
use Rattle.bs_inspect_why_words.specs.Facts.{fact_bits, fact_keys, signal_at}
use Rattle.bs_inspect_why_words.specs.Rows.{AreRows, row_cmp, row_of, rows_of}
use Rattle.bs_inspect_causes.specs.Since.{AreAges}
use Rattle.bs_inspect_view.specs.Rtl.{rtl_text}
use Rattle.bs_inspect_why_words.specs.declared.limits.TheConstants.{RECENT}
use Rattle.bs_inspect_why_words.proofs.RowLemmas.{rows_are, signal_is}
use Rattle.bs_inspect_why_words.proofs.StepLemmas.{all_head, all_tail, listed, listed_more}

-- ---- the signals of rows are there

abbrev Placed : ℕ → Row → Type 0
Placed count r = r.place < count

pub row_placed : (signals : List CodeSignal) (rows : List Row) (i : ℕ) (r : Row) → All (λ r. r.place < length signals) rows → i < length rows →
    r ≡ get_or rows i r → r.place < length signals
row_placed signals rows i r placed lt e = subst (λ (x : Row). x.place < length signals) (sym e) (placed i r lt)

pub first_placed : (signals : List CodeSignal) (rows few : List Row) (most : ℕ) → All (λ r. r.place < length signals) rows → few ≡ take most rows →
    All (λ r. r.place < length signals) few
first_placed signals rows few most placed e = subst (All (Placed (length signals))) (sym e) (All-take (Placed (length signals)) most rows placed)

one_placed : (shares : Bool) (cycle : ℕ) (bits : List Bool) (signals : List Signal) (bit : Bool) (count : ℕ) (r : Row) → r.place < count →
    All (Placed count) (old_row shares cycle bits signals bit r)
one_placed shares cycle bits signals bit count r lt = by (is_old shares cycle signals r && beq (only_bit bits (signal_at signals r.place)) bit)
  where
    alone : (k : ℕ) (d : Row) → k < 1 → Placed count (get_or (r ∷ []) k d)
    alone zero d less = lt
    alone (suc k) d less = absurd (omega (arith, less))

    by : (b : Bool) → All (Placed count) (if b then r ∷ [] else [])
    by true = λ k d less. alone k d less
    by false = All-nil (Placed count)

all_placed : (shares : Bool) (cycle : ℕ) (bits : List Bool) (signals : List Signal) (bit : Bool) (count : ℕ) (rows : List Row) → All (Placed count) rows →
    All (Placed count) (old_rows shares cycle bits signals bit rows)
all_placed shares cycle bits signals bit count [] h = All-nil (Placed count)
all_placed shares cycle bits signals bit count (r ∷ rows) h =
    All-append (Placed count) (old_row shares cycle bits signals bit r) (old_rows shares cycle bits signals bit rows)
    (one_placed shares cycle bits signals bit count r (all_head (Placed count) r rows h))
    (all_placed shares cycle bits signals bit count rows (all_tail (Placed count) r rows h))

pub olds_placed : (shares : Bool) (cycle : ℕ) (bits : List Bool) (signals : List CodeSignal) (bit : Bool) (rows olds : List Row) →
    olds ≡ old_rows shares cycle bits (map signal_in signals) bit rows → All (λ r. r.place < length signals) rows →
    All (λ r. r.place < length signals) olds
olds_placed shares cycle bits signals bit rows olds e h =
    subst (All (Placed (length signals))) (sym e) (all_placed shares cycle bits (map signal_in signals) bit (length signals) rows h)

made_placed : (ages : List ℕ) (signals : List Signal) (count : ℕ) → All (Placed count) (rows_of ages signals count)
made_placed ages signals count = λ k d lt.
    let there : k < count = omega (arith, lt, length-map-range_with_len (row_of ages signals) 0 count) in
    subst (Placed count) (sym (get_or-map-range_with_len (row_of ages signals) 0 count k k d there (let z : 0 + k ≡ k = omega arith in z))) there

pub placed_of : (c : Circuit) (states inputs : List (List Bool)) (facts : List Fact) (signals : List CodeSignal) (rows : List Row) →
    HasRows c states inputs facts (map signal_in signals) rows → All (λ r. r.place < length signals) rows
placed_of c states inputs facts signals rows has =
    let xs : List Signal = map signal_in signals in
    let all : All (Placed (length xs)) rows =
    All-permutation (Placed (length xs)) (rows_of has.ages xs (length xs)) rows has.ordered.same (made_placed has.ages xs (length xs)) in
    subst (λ (n : ℕ). All (Placed n) rows) (length-map signals signal_in) all

-- ---- the signal of a row

pub old_is : (shares : Bool) (cycle : ℕ) (signals : List CodeSignal) (r : Row) (s : CodeSignal) (n : ℕ) (single older result : Bool) →
    r.place < length signals → s ≡ get_or signals r.place s → n ≡ length s.places → single ≡ (n == 1) → older ≡ nat_lt (r.since + RECENT) cycle →
    result ≡ (shares && (single && older)) → result ≡ is_old shares cycle (map signal_in signals) r
old_is shares cycle signals r s n single older result lt at count one old is =
    let same : single ≡ (length (signal_at (map signal_in signals) r.place).places == 1) =
    one
    ∙ (ap (λ (k : ℕ). k == 1) count ∙ ap (λ (x : Signal). length x.places == 1) (signal_is signals r.place s lt at)) in
    is ∙ (ap (λ (b : Bool). shares && (b && older)) same
    ∙ ap (λ (b : Bool). shares && ((length (signal_at (map signal_in signals) r.place).places == 1) && b)) old)

pub row_old : (shares : Bool) (cycle : ℕ) (bits : List Bool) (signals : List CodeSignal) (r : Row) (old : Bool) (text : List ℕ) →
    old ≡ is_old shares cycle (map signal_in signals) r → old ≡ true → text ≡ text ++ row_line shares cycle bits (map signal_in signals) r
row_old shares cycle bits signals r old text e is =
    sym (append-nil text)
    ∙ ap (λ (t : List ℕ). text ++ t)
    (sym (ap (λ (b : Bool). if b then [] else by_line cycle bits (signal_at (map signal_in signals) r.place) r.since) (sym e ∙ is)))

pub row_alone : (shares : Bool) (cycle : ℕ) (bits : List Bool) (signals : List CodeSignal) (r : Row) (s : CodeSignal) (old : Bool) (text after : List ℕ) →
    old ≡ is_old shares cycle (map signal_in signals) r → old ≡ false → r.place < length signals → s ≡ get_or signals r.place s →
    after ≡ text ++ by_line cycle bits (signal_in s) r.since → after ≡ text ++ row_line shares cycle bits (map signal_in signals) r
row_alone shares cycle bits signals r s old text after e off lt at goes =
    goes
    ∙ (ap (λ (x : Signal). text ++ by_line cycle bits x r.since) (signal_is signals r.place s lt at)
    ∙ ap (λ (t : List ℕ). text ++ t)
    (sym (ap (λ (b : Bool). if b then [] else by_line cycle bits (signal_at (map signal_in signals) r.place) r.since) (sym e ∙ off))))

pub old_with : (shares : Bool) (cycle : ℕ) (bits : List Bool) (signals : List CodeSignal) (bit : Bool) (r : Row) (s : CodeSignal)
    (old own agrees result : Bool) → r.place < length signals → s ≡ get_or signals r.place s → old ≡ is_old shares cycle (map signal_in signals) r →
    own ≡ only_bit bits (signal_in s) → agrees ≡ beq own bit → result ≡ (old && agrees) →
    result ≡ (is_old shares cycle (map signal_in signals) r && beq (only_bit bits (signal_at (map signal_in signals) r.place)) bit)
old_with shares cycle bits signals bit r s old own agrees result lt at e is same goes =
    let by_place : agrees ≡ beq (only_bit bits (signal_at (map signal_in signals) r.place)) bit =
    same ∙ ap (λ (b : Bool). beq b bit) (is ∙ ap (only_bit bits) (signal_is signals r.place s lt at)) in
    goes
    ∙ (ap (λ (b : Bool). b && agrees) e ∙ ap (λ (b : Bool). is_old shares cycle (map signal_in signals) r && b) by_place)

pub name_is : (signals : List CodeSignal) (r : Row) (s : CodeSignal) (text after : List ℕ) → r.place < length signals → s ≡ get_or signals r.place s →
    after ≡ text ++ rtl_text (signal_in s) → after ≡ text ++ row_name (map signal_in signals) r
name_is signals r s text after lt at goes = goes ∙ ap (λ (x : Signal). text ++ rtl_text x) (signal_is signals r.place s lt at)

names_listed : (signals : List Signal) (rows : List Row) → row_names signals rows ≡ listed (row_name signals) rows
names_listed signals [] = refl
names_listed signals (r ∷ rows) = refl

pub names_more : (signals : List Signal) (rows : List Row) (i : ℕ) (d : Row) (old text mid after : List ℕ) → i < length rows →
    text ≡ old ++ row_names signals (take i rows) → mid ≡ text ++ (if i == 0 then [] else codes ", ") →
    after ≡ mid ++ row_name signals (get_or rows i d) → after ≡ old ++ row_names signals (take (i + 1) rows)
names_more signals rows i d old text mid after lt e comma goes =
    listed_more (row_name signals) rows i d old text mid after lt (e ∙ ap (λ (t : List ℕ). old ++ t) (names_listed signals (take i rows))) comma goes
    ∙ ap (λ (t : List ℕ). old ++ t) (sym (names_listed signals (take (i + 1) rows)))

pub old_none : (most cycle : ℕ) (signals : List Signal) (bit : Bool) (rows : List Row) (empty : Bool) (text : List ℕ) → empty ≡ (length rows == 0) →
    empty ≡ true → text ≡ text ++ old_line most cycle signals bit rows
old_none most cycle signals bit rows empty text e is =
    sym (append-nil text)
    ∙ ap (λ (t : List ℕ). text ++ t)
    (sym (ap (λ (b : Bool). if b then [] else old_words most cycle signals bit rows) (sym e ∙ is)))

pub old_some : (most cycle : ℕ) (signals : List Signal) (bit : Bool) (rows : List Row) (empty : Bool) (text after : List ℕ) →
    empty ≡ (length rows == 0) → empty ≡ false → after ≡ text ++ old_words most cycle signals bit rows →
    after ≡ text ++ old_line most cycle signals bit rows
old_some most cycle signals bit rows empty text after e off goes =
    goes
    ∙ ap (λ (t : List ℕ). text ++ t)
    (sym (ap (λ (b : Bool). if b then [] else old_words most cycle signals bit rows) (sym e ∙ off)))

-- ---- what is told

pub has_rows : (c : Circuit) (states inputs : List (List Bool)) (facts : List Fact) (ages slice : List ℕ) (signals : List CodeSignal) (rows ordered : List Row) →
    AreAges c states inputs facts (length facts) ages → slice ≡ ages → rows ≡ rows_of slice (map signal_in signals) (length signals) →
    IsPermutation rows ordered → IsSorted row_cmp ordered → HasRows c states inputs facts (map signal_in signals) ordered
has_rows c states inputs facts ages slice signals rows ordered aged same e moved sorted = record {
  ages = ages;
  aged = aged;
  ordered = subst (λ (own : List ℕ). AreRows own (map signal_in signals) ordered) same (rows_are slice signals rows ordered e moved sorted);
}

pub rows_told : (m : Seen) (limits : Limits) (facts : List Fact) (signals : List Signal) (rows : List Row) (count cycle : ℕ) (shares : Bool)
    (bits : List Bool) (old new : List ℕ) → HasRows (circuit m.net) m.states m.inputs facts signals rows → count ≡ length rows →
    shares ≡ nat_lt limits.causes count → cycle ≡ first_cycle facts → bits ≡ fact_bits facts →
    new ≡ old ++ rows_lines limits.names shares cycle bits signals rows → Appends (TellsRowsOf m limits facts signals) old new
rows_told m limits facts signals rows count cycle shares bits old new has n s t b goes = record {
  words = rows_lines limits.names (nat_lt limits.causes (length rows)) (first_cycle facts) (fact_bits facts) signals rows;
  says = record { rows = rows; has = has; says = refl };
  appended =
      goes
      ∙ (ap (λ (x : Bool). old ++ rows_lines limits.names x cycle bits signals rows) (s ∙ ap (nat_lt limits.causes) n)
      ∙ (ap (λ (x : ℕ). old ++ rows_lines limits.names (nat_lt limits.causes (length rows)) x bits signals rows) t
      ∙ ap (λ (x : List Bool). old ++ rows_lines limits.names (nat_lt limits.causes (length rows)) (first_cycle facts) x signals rows) b));
}

pub causes_told : (m : Seen) (limits : Limits) (facts : List Fact) (signals : List Signal) (old new : List ℕ) →
    AreSignals [] (fact_keys m.net.raw facts) signals → Appends (TellsRowsOf m limits facts signals) old new → Appends (TellsRows m limits facts) old new
causes_told m limits facts signals old new are told = record {
  words = told.words;
  says = record { signals = signals; are = are; tells = told.says };
  appended = told.appended;
}
