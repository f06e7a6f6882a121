-- The pieces of a test bench, one after another.
use Rattle.std.proofs.Common.{◌≡◌, ℕ, ◌<◌, ◌≤◌, ◌+◌, ◌-◌, Bool, List, [], ◌∷◌, ◌++◌, length, map, take, get_or, reverse, refl, ap, sym, subst, ◌∙◌, arith}
use Rattle.std.proofs.Common.{append_assoc, append-nil, take_all, slice_get, Option, Some}
use Rattle.std.specs.Prelude.{codes, decimal}
use Rattle.std.specs.List.{flat_map}
use Rattle.std.proofs.lemmas.Grind.{flat_map-append}
use Rattle.std.proofs.lemmas.List.{get_or_default, get_or-reverse, length-reverse, map-append, map_more, take_more}
use Rattle.std.proofs.lemmas.Option.{get_or_from_slice_get}
use Rattle.bs_bits.specs.Lines.{line}
use Rattle.bs_bits.specs.Text.{digit_of}
use Rattle.bs_net.specs.Netlist.{circuit_of}
use Rattle.bs_net.specs.Order.{IsChecked}
use Rattle.bs_net.specs.Parts.{Parts, key_at}
use Rattle.bs_net_names.specs.Keys.{KeyParts}
use Rattle.bs_inspect_view.specs.Signals.{AreSignals, Signal, signal_in}
use Rattle.bs_inspect_view.specs.declared.signal.Signal.{Signal as CodeSignal}
use Rattle.bs_inspect_report.specs.Keys.{input_keys}
use Rattle.bs_inspect_report.proofs.PieceLemmas.{three_ended}
use Rattle.bs_inspect_report.specs.Signal.{bit_at}
use Rattle.bs_inspect_report_texts.specs.Bench.{Drives, clock_parts}
use Rattle.bs_inspect_report_texts.specs.Text.{bench_lines, change, digits, further_connection, shown_line, variable_line}

-- what stands at a net's place is its key
pub key_is : (r : Parts) (n : ℕ) (key : List ℕ) → slice_get r.names n ≡ Some key → key ≡ key_at r n
key_is r n key e = sym (get_or_from_slice_get r.names n key [] e)

-- ---- ports

-- a signal's piece more
piece_more : (piece : Signal → List ℕ) (signals : List CodeSignal) (i : ℕ) (d : CodeSignal) (old before after : List ℕ) → i < length signals →
    before ≡ old ++ flat_map piece (map signal_in (take i signals)) → after ≡ before ++ piece (signal_in (get_or signals i d)) →
    after ≡ old ++ flat_map piece (map signal_in (take (i + 1) signals))
piece_more piece signals i d old before after lt e f =
    let own : Signal = signal_in (get_or signals i d) in
    let rest : List Signal = map signal_in (take i signals) in
    let more : map signal_in (take (i + 1) signals) ≡ rest ++ own ∷ [] =
    ap (map signal_in) (take_more signals i d lt) ∙ map-append signal_in (take i signals) (get_or signals i d ∷ []) in
    let put : flat_map piece (map signal_in (take (i + 1) signals)) ≡ flat_map piece rest ++ piece own =
    ap (flat_map piece) more
    ∙ (flat_map-append piece rest (own ∷ []) ∙ ap (λ (t : List ℕ). flat_map piece rest ++ t) (append-nil (piece own))) in
    f ∙ (ap (λ (t : List ℕ). t ++ piece own) e ∙ (append_assoc old (flat_map piece rest) (piece own) ∙ ap (λ (t : List ℕ). old ++ t) (sym put)))

pub variables_more : (signals : List CodeSignal) (i : ℕ) (d : CodeSignal) (old before after : List ℕ) → i < length signals →
    before ≡ old ++ flat_map variable_line (map signal_in (take i signals)) → after ≡ before ++ variable_line (signal_in (get_or signals i d)) →
    after ≡ old ++ flat_map variable_line (map signal_in (take (i + 1) signals))
variables_more signals i d old before after lt e f = piece_more variable_line signals i d old before after lt e f

pub connections_more : (signals : List CodeSignal) (i : ℕ) (d : CodeSignal) (old before after : List ℕ) → i < length signals →
    before ≡ old ++ flat_map further_connection (map signal_in (take i signals)) → after ≡ before ++ further_connection (signal_in (get_or signals i d)) →
    after ≡ old ++ flat_map further_connection (map signal_in (take (i + 1) signals))
connections_more signals i d old before after lt e f = piece_more further_connection signals i d old before after lt e f

pub changes_more : (was : Option (List Bool)) (now : List Bool) (signals : List CodeSignal) (i : ℕ) (d : CodeSignal) (old before after : List ℕ) →
    i < length signals → before ≡ old ++ flat_map (change was now) (map signal_in (take i signals)) →
    after ≡ before ++ change was now (signal_in (get_or signals i d)) → after ≡ old ++ flat_map (change was now) (map signal_in (take (i + 1) signals))
changes_more was now signals i d old before after lt e f = piece_more (change was now) signals i d old before after lt e f

-- ---- bits

one_digit : (input : List Bool) (places : List ℕ) (i d b : ℕ) (old text after : List ℕ) → i < length places → text ≡ old ++ digits input (take i places) →
    b ≡ digit_of (bit_at input (get_or places i d)) → after ≡ text ++ b ∷ [] → after ≡ old ++ digits input (take (i + 1) places)
one_digit input places i d b old text after lt e is goes =
    let digit : ℕ → ℕ = λ (p : ℕ). digit_of (bit_at input p) in
    goes
    ∙ ((λ j. e j ++ is j ∷ [])
    ∙ (append_assoc old (digits input (take i places)) (digit (get_or places i d) ∷ [])
    ∙ ap (λ (t : List ℕ). old ++ t) (sym (map_more digit places i d lt))))

pub digits_more : (input : List Bool) (places : List ℕ) (i d b : ℕ) (old text after : List ℕ) → i < length places →
    text ≡ old ++ digits input (take i places) → b ≡ digit_of (bit_at input (get_or places i d)) → after ≡ text ++ b ∷ [] →
    after ≡ old ++ digits input (take (i + 1) places)
digits_more input places i d b old text after lt e is goes = one_digit input places i d b old text after lt e is goes

pub turned : (places : List ℕ) (i n d place : ℕ) → i < length places → n ≡ length places → place ≡ get_or places (n - 1 - i) d →
    place ≡ get_or (reverse places) i 0
turned places i n d place lt e at =
    at
    ∙ (ap (λ (k : ℕ). get_or places (k - 1 - i) d) e
    ∙ (sym (get_or-reverse places i d lt) ∙ get_or_default (reverse places) i d 0 (omega (arith, lt, length-reverse places))))

pub reversed_more : (input : List Bool) (places : List ℕ) (i b place : ℕ) (old text after : List ℕ) → i < length places →
    text ≡ old ++ digits input (take i (reverse places)) → place ≡ get_or (reverse places) i 0 → b ≡ digit_of (bit_at input place) →
    after ≡ text ++ b ∷ [] → after ≡ old ++ digits input (take (i + 1) (reverse places))
reversed_more input places i b place old text after lt e at is goes =
    one_digit input (reverse places) i 0 b old text after (omega (arith, lt, length-reverse places)) e
    (is ∙ ap (λ (p : ℕ). digit_of (bit_at input p)) at) goes

pub reversed_all : (input : List Bool) (places : List ℕ) (i : ℕ) (old text : List ℕ) → length places ≤ i →
    text ≡ old ++ digits input (take i (reverse places)) → text ≡ old ++ digits input (reverse places)
reversed_all input places i old text le e =
    e ∙ ap (λ (ps : List ℕ). old ++ digits input ps) (take_all i (reverse places) (omega (arith, le, length-reverse places)))

-- ---- the end

pub shown_is : (count : ℕ) (old a b after : List ℕ) → a ≡ old ++ codes "    #5 $display(\"cycle " → b ≡ a ++ decimal count →
    after ≡ b ++ line (codes "\");") → after ≡ old ++ shown_line count
unfolding shown_line
shown_is count old a b after e f g = three_ended old (codes "    #5 $display(\"cycle ") (decimal count) (codes "\");") (10 ∷ []) a b after e f g

-- ---- the whole

-- the text with the signals of the data inputs
pub drives_by : (raw : Parts) (top : List ℕ) (inputs : List (List Bool)) (text : List ℕ) (clock : KeyParts) (signals : List Signal) → clock ≡ clock_parts raw →
    AreSignals [] (input_keys raw) signals → text ≡ bench_lines top clock signals inputs → Drives raw top inputs text
drives_by raw top inputs text clock signals e are says = record {
  signals = signals;
  are = are;
  says = says ∙ ap (λ (p : KeyParts). bench_lines top p signals inputs) e;
}
