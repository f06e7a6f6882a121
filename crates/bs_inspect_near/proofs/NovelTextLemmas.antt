-- The line of what is found.
use Rattle.std.proofs.Common.{◌≡◌, ℕ, ◌<◌, ◌≤◌, ◌+◌, ◌-◌, Bool, true, false, List, [], ◌∷◌, ◌++◌, length, map, get_or, take, append_assoc}
use Rattle.std.proofs.Common.{ap, sym, ◌∙◌, arith}
use Rattle.std.specs.Prelude.{◌==◌, codes, decimal, if◌then◌else◌}
use Rattle.std.specs.List.{flat_map}
use Rattle.std.proofs.lemmas.Grind.{flat_map-append}
use Rattle.std.proofs.lemmas.List.{append-nil, get_or_default, get_or-map, length-map, take_all, take_more}
use Rattle.bs_net.specs.Circuit.{Circuit}
use Rattle.bs_bits.specs.Lines.{line}
use Rattle.bs_inspect_view.specs.Rtl.{rtl_text}
use Rattle.bs_inspect_view.specs.Signals.{Signal, signal_in}
use Rattle.bs_inspect_view.specs.Values.{value_text}
use Rattle.bs_inspect_view.specs.declared.signal.Signal.{Signal as CodeSignal}
use Rattle.bs_inspect_near.specs.Values.{value_in, value_at}
use Rattle.bs_scan.specs.Moments.{Run}
use Rattle.bs_inspect_near.specs.Novelties.{no_signal, signal_at}
use Rattle.bs_inspect_near.specs.Novel.{nothing_text, novelties_text, novelty_line}
use Rattle.bs_inspect_near.specs.Known.{AreOwn}
use Rattle.bs_inspect_near.specs.Shown.{IsShowable, state_line}
use Rattle.bs_inspect_near.specs.declared.novelty.Novelty.{Novelty}
use Rattle.bs_inspect_near.proofs.NoveltyLemmas.{own_there, own_value}

-- the signal at a place
pub signal_is : (signals : List CodeSignal) (i : ℕ) (s : CodeSignal) → i < length signals → s ≡ get_or signals i s →
    signal_in s ≡ signal_at (map signal_in signals) i
signal_is signals i s lt at =
    ap signal_in at
    ∙ sym (get_or_default (map signal_in signals) i no_signal (signal_in s) (omega (arith, lt, length-map signals signal_in))
    ∙ get_or-map signal_in signals i s (signal_in s) lt)

-- the cycle is one of the run's
pub cycle_there : (c : Circuit) (runs : List Run) (number count : ℕ) (own : List (List Bool)) (f : Novelty) → AreOwn c runs number own →
    IsShowable runs number count f → f.cycle < length own
cycle_there c runs number count own f are show = own_there c runs number own f.cycle are show.lasts

-- the line of what is found
pub line_is : (c : Circuit) (runs : List Run) (number : ℕ) (own : List (List Bool)) (signals : List CodeSignal) (f : Novelty) (signal : CodeSignal)
    (state : List Bool) (old after : List ℕ) → AreOwn c runs number own → IsShowable runs number (length signals) f →
    signal ≡ get_or signals f.place signal → state ≡ get_or own f.cycle state → after ≡ old ++ state_line f.cycle (signal_in signal) state f.count →
    after ≡ old ++ novelty_line c runs number (map signal_in signals) f
line_is c runs number own signals f signal state old after are show at e says =
    let there : f.cycle < length own = cycle_there c runs number (length signals) own f are show in
    let value : value_in state (signal_in signal).places ≡ value_at c runs (signal_in signal).places number f.cycle =
    ap (λ (s : List Bool). value_in s (signal_in signal).places) (e ∙ get_or_default own f.cycle state [] there)
    ∙ own_value c runs number own (signal_in signal).places f.cycle are there in
    says
    ∙ (ap
    (λ (v : List Bool). old ++ line (decimal f.cycle ++ (codes " " ++ (rtl_text (signal_in signal) ++ (codes " = " ++ (value_text v ++ (codes ", others " ++
    decimal f.count)))))))
    value
    ∙ ap
    (λ (x : Signal). old ++ line (decimal f.cycle ++ (codes " " ++ (rtl_text x ++ (codes " = " ++ (value_text
    (value_at c runs x.places number f.cycle) ++ (codes ", others " ++ decimal f.count)))))))
    (signal_is signals f.place signal show.place at))

-- one line more
pub lines_more : (line_of : Novelty → List ℕ) (fs : List Novelty) (i : ℕ) (d : Novelty) (old text after : List ℕ) → i < length fs →
    text ≡ old ++ flat_map line_of (take i fs) → after ≡ text ++ line_of (get_or fs i d) → after ≡ old ++ flat_map line_of (take (i + 1) fs)
lines_more line_of fs i d old text after lt e goes =
    let put : flat_map line_of (take (i + 1) fs) ≡ flat_map line_of (take i fs) ++ line_of (get_or fs i d) =
    ap (flat_map line_of) (take_more fs i d lt)
    ∙ (flat_map-append line_of (take i fs) (get_or fs i d ∷ [])
    ∙ ap (λ (t : List ℕ). flat_map line_of (take i fs) ++ t) (append-nil (line_of (get_or fs i d)))) in
    goes
    ∙ (ap (λ (t : List ℕ). t ++ line_of (get_or fs i d)) e
    ∙ (append_assoc old (flat_map line_of (take i fs)) (line_of (get_or fs i d)) ∙ ap (λ (t : List ℕ). old ++ t) (sym put)))

pub text_none : (c : Circuit) (runs : List Run) (number : ℕ) (signals : List Signal) (fs : List Novelty) (empty : Bool) (text : List ℕ) →
    empty ≡ (length fs == 0) → empty ≡ true → text ≡ nothing_text → text ≡ novelties_text c runs number signals fs
text_none c runs number signals fs empty text e is says =
    says
    ∙ sym (ap (λ (b : Bool). if b then nothing_text else flat_map (novelty_line c runs number signals) fs) (sym e ∙ is))

pub text_some : (c : Circuit) (runs : List Run) (number : ℕ) (signals : List Signal) (fs : List Novelty) (empty : Bool) (text : List ℕ) →
    empty ≡ (length fs == 0) → empty ≡ false → text ≡ flat_map (novelty_line c runs number signals) fs → text ≡ novelties_text c runs number signals fs
text_some c runs number signals fs empty text e is says =
    says
    ∙ sym (ap (λ (b : Bool). if b then nothing_text else flat_map (novelty_line c runs number signals) fs) (sym e ∙ is))

-- all of a list, where more are asked for
pub all_first : (fs : List Novelty) (most n : ℕ) → n ≡ length fs → n ≤ most → fs ≡ take most fs
all_first fs most n e le = sym (take_all most fs (omega (arith, e, le)))

-- seven pieces and a line feed
pub state_told : (t a b c d e f g t₁ t₂ t₃ t₄ t₅ t₆ t₇ t₈ : List ℕ) → t₁ ≡ t ++ a → t₂ ≡ t₁ ++ b → t₃ ≡ t₂ ++ c → t₄ ≡ t₃ ++ d → t₅ ≡ t₄ ++ e →
    t₆ ≡ t₅ ++ f → t₇ ≡ t₆ ++ g → t₈ ≡ t₇ ++ 10 ∷ [] → t₈ ≡ t ++ ((a ++ (b ++ (c ++ (d ++ (e ++ (f ++ g)))))) ++ 10 ∷ [])
state_told t a b c d e f g t₁ t₂ t₃ t₄ t₅ t₆ t₇ t₈ h₁ h₂ h₃ h₄ h₅ h₆ h₇ h₈ =
    let four : t₄ ≡ ((((t ++ a) ++ b) ++ c) ++ d) =
    h₄ ∙ ap (λ (x : List ℕ). x ++ d) (h₃ ∙ ap (λ (x : List ℕ). x ++ c) (h₂ ∙ ap (λ (x : List ℕ). x ++ b) h₁)) in
    let seven : t₇ ≡ ((((((t ++ a) ++ b) ++ c) ++ d) ++ e) ++ f) ++ g =
    h₇ ∙ ap (λ (x : List ℕ). x ++ g) (h₆ ∙ ap (λ (x : List ℕ). x ++ f) (h₅ ∙ ap (λ (x : List ℕ). x ++ e) four)) in
    h₈ ∙ (ap (λ (x : List ℕ). x ++ 10 ∷ []) seven ∙ regroup)
  where
    regroup : (((((((t ++ a) ++ b) ++ c) ++ d) ++ e) ++ f) ++ g) ++ 10 ∷ [] ≡ t ++ ((a ++ (b ++ (c ++ (d ++ (e ++ (f ++ g)))))) ++ 10 ∷ [])
    regroup = simp append_assoc
