-- Pieces that are appended one after another.
use Rattle.std.proofs.Common.{◌≡◌, ℕ, suc, zero, ◌<◌, ◌+◌, List, [], ◌∷◌, ◌++◌, length, get_or, map, take, ap, sym, ◌∙◌, arith, append_assoc, refl, slice_get}
use Rattle.std.proofs.Common.{Option, Some, None, false}
use Rattle.std.specs.Option.{option_map}
use Rattle.std.specs.List.{flat_map, range_with_len}
use Rattle.std.proofs.lemmas.Grind.{flat_map-append}
use Rattle.std.proofs.lemmas.List.{append-nil, length-map, map-append, take_more}
use Rattle.bs_inspect_view.specs.declared.signal.Signal.{Signal as CodeSignal}
use Rattle.bs_inspect_view.specs.Signals.{Signal, signal_in}
use Rattle.bs_bits.proofs.RangeLemmas.{places_step}
use Rattle.bs_wave.specs.declared.value.Value.{Value}
use Rattle.bs_inspect_view.specs.Save.{shown_lines}
use Rattle.bs_inspect_view.specs.Scopes.{path_of, scopes}
use Rattle.bs_inspect_view.specs.View.{change_at, change_text, changes, path_at, path_before, scoped, variable_at, variables}

-- the signal at a place
signal_at : (signals : List CodeSignal) (i : ℕ) (d : CodeSignal) → i < length signals → slice_get (map signal_in signals) i ≡ Some (signal_in (get_or signals i d))
signal_at [] i d lt = absurd (omega (arith, lt))
signal_at (s ∷ ss) zero d lt = refl
signal_at (s ∷ ss) (suc i) d lt = signal_at ss i d (omega (arith, lt))

pub variable_step : (signals : List CodeSignal) (old before after : List ℕ) (i : ℕ) (d : CodeSignal) → i < length signals →
    before ≡ old ++ flat_map (λ k. variable_at (map signal_in signals) k (slice_get (map signal_in signals) k)) (range_with_len 0 i) →
    after ≡ before ++ scoped (path_before (map signal_in signals) i) i (signal_in (get_or signals i d)) →
    after ≡ old ++ flat_map (λ k. variable_at (map signal_in signals) k (slice_get (map signal_in signals) k)) (range_with_len 0 (i + 1))
variable_step signals old before after i d lt e g =
    places_step (λ (k : ℕ). variable_at (map signal_in signals) k (slice_get (map signal_in signals) k)) old before after i e
    (g ∙ ap (λ (o : Option Signal). before ++ variable_at (map signal_in signals) i o) (sym (signal_at signals i d lt)))

pub all_variables : (signals : List CodeSignal) (old mid after : List ℕ) →
    mid ≡ old ++ flat_map (λ k. variable_at (map signal_in signals) k (slice_get (map signal_in signals) k)) (range_with_len 0 (length signals)) →
    after ≡ mid ++ scopes false (path_before (map signal_in signals) (length signals)) → after ≡ old ++ variables (map signal_in signals)
all_variables signals old mid after e f =
    let all : ℕ → List ℕ = λ (n : ℕ). flat_map (λ k. variable_at (map signal_in signals) k (slice_get (map signal_in signals) k)) (range_with_len 0 n) in
    let last : ℕ → List ℕ = λ (n : ℕ). scopes false (path_before (map signal_in signals) n) in
    f ∙ (ap (λ (t : List ℕ). t ++ last (length signals)) e
    ∙ (append_assoc old (all (length signals)) (last (length signals))
    ∙ ap (λ (n : ℕ). old ++ (all n ++ last n)) (sym (length-map signals signal_in))))

-- the path of the signal at a place, if there is one
slice_map : (signals : List CodeSignal) (k : ℕ) → slice_get (map signal_in signals) k ≡ option_map signal_in (slice_get signals k)
slice_map [] k = refl
slice_map (s ∷ ss) zero = refl
slice_map (s ∷ ss) (suc k) = slice_map ss k

pub path_there : (signals : List CodeSignal) (k : ℕ) (s : CodeSignal) → slice_get signals k ≡ Some s →
    path_of (signal_in s).base ≡ path_at (slice_get (map signal_in signals) k)
path_there signals k s e = sym (ap path_at (slice_map signals k ∙ ap (option_map signal_in) e))

pub path_past : (signals : List CodeSignal) (k : ℕ) → slice_get signals k ≡ None → [] ≡ path_at (slice_get (map signal_in signals) k)
path_past signals k e = sym (ap path_at (slice_map signals k ∙ ap (option_map signal_in) e))

pub change_step : (signals : List CodeSignal) (was : Option (List Value)) (now : List Value) (old before after : List ℕ) (i : ℕ) (d : CodeSignal) →
    i < length signals → before ≡ old ++ flat_map (λ k. change_at was now k (slice_get (map signal_in signals) k)) (range_with_len 0 i) →
    after ≡ before ++ change_text was now i (signal_in (get_or signals i d)) →
    after ≡ old ++ flat_map (λ k. change_at was now k (slice_get (map signal_in signals) k)) (range_with_len 0 (i + 1))
change_step signals was now old before after i d lt e g =
    places_step (λ (k : ℕ). change_at was now k (slice_get (map signal_in signals) k)) old before after i e
    (g ∙ ap (λ (o : Option Signal). before ++ change_at was now i o) (sym (signal_at signals i d lt)))

pub all_changes : (signals : List CodeSignal) (was : Option (List Value)) (now : List Value) (old after : List ℕ) →
    after ≡ old ++ flat_map (λ k. change_at was now k (slice_get (map signal_in signals) k)) (range_with_len 0 (length signals)) →
    after ≡ old ++ changes (map signal_in signals) was now
all_changes signals was now old after e =
    e ∙ ap (λ (n : ℕ). old ++ flat_map (λ k. change_at was now k (slice_get (map signal_in signals) k)) (range_with_len 0 n))
    (sym (length-map signals signal_in))

-- a signal's lines more in a save file
pub shown_more : (signals : List CodeSignal) (i : ℕ) (d : CodeSignal) (old before after : List ℕ) → i < length signals →
    before ≡ old ++ flat_map shown_lines (map signal_in (take i signals)) → after ≡ before ++ shown_lines (signal_in (get_or signals i d)) →
    after ≡ old ++ flat_map shown_lines (map signal_in (take (i + 1) signals))
shown_more signals i d old before after lt e f =
    let own : Signal = signal_in (get_or signals i d) in
    let rest : List Signal = map signal_in (take i signals) in
    let more : map signal_in (take (i + 1) signals) ≡ rest ++ own ∷ [] =
    ap (map signal_in) (take_more signals i d lt) ∙ map-append signal_in (take i signals) (get_or signals i d ∷ []) in
    let put : flat_map shown_lines (map signal_in (take (i + 1) signals)) ≡ flat_map shown_lines rest ++ shown_lines own =
    ap (flat_map shown_lines) more
    ∙ (flat_map-append shown_lines rest (own ∷ []) ∙ ap (λ (t : List ℕ). flat_map shown_lines rest ++ t) (append-nil (shown_lines own))) in
    f ∙ (ap (λ (t : List ℕ). t ++ shown_lines own) e
    ∙ (append_assoc old (flat_map shown_lines rest) (shown_lines own) ∙ ap (λ (t : List ℕ). old ++ t) (sym put)))
