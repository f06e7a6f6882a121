-- What was read of the words behind a command, and the request that it is.
use Rattle.std.proofs.Common.{◌≡◌, ◌∙◌, ℕ, ◌==◌, Bool, true, false, List, [], ◌∷◌, length, map, take, drop, Option, Some, None, Result, arith, refl, ap, sym, subst}
use Rattle.std.specs.Prelude.{IfOk, nat_lt}
use Rattle.std.specs.Borrow.{Bor}
use Rattle.std.specs.Option.{option_and_then, option_map}
use Rattle.std.proofs.lemmas.Bool.{eqb-true}
use Rattle.std.proofs.lemmas.List.{drop-map, length-map, take-map}
use Rattle.bs_bits.specs.declared.memory.NoMemory.{NoMemory}
use Rattle.bs_top_words.specs.declared.flags.Flag.TheVariants as F
use Rattle.bs_top_words.specs.declared.given.Setting.{Setting as CodeSetting}
use Rattle.bs_top_words.specs.Asked.{setting_of}
use Rattle.bs_top_words.specs.Given.{Given}
use Rattle.bs_inspect_words.specs.declared.request.Request.{Request as CodeRequest}
use Rattle.bs_inspect_words.specs.Asked.{shown_request}
use Rattle.bs_inspect_words.specs.Request.{LengthsRequest, lengths_behind, lengths_words}
use Rattle.bs_inspect_words.specs.Request.{EvidenceRequest, Cnf, Lrat, cnf_request, evidence_words, lrat_request}
use Rattle.bs_inspect_words.specs.Request.{Request, Check, Keys, Stimulus, are_runs, bare, check_for, Seen, seen_of, seen_request, keys_of, keys_request, lists_flags, lists_of, lists_words, name_of, only_name, stimulus_for, trace_flags, trace_of, trace_words, near_of, near_request, unscan_of, unscan_request, bench_asked, bench_request, gtkw_of, gtkw_words, wave_flags, wave_of, wave_words, page_flags, page_of, page_words}
use Rattle.bs_inspect_usages.specs.declared.window.TraceWindow.{TraceWindow}
use Rattle.bs_inspect_usages.specs.Numbers.{drawn_most, from_of, window_of}
use Rattle.bs_inspect_usages.specs.Settings.{fit, is_given, value_of, values_of}

abbrev Words : Type 0
Words = List (List ℕ)

-- ---- words by position alone

pub name_there : (given : Given) (words : Words) (name : Option (List ℕ)) → Some words ≡ bare given → name ≡ name_of words → name ≡ only_name given
name_there given words name e is = is ∙ ap (λ (o : Option Words). option_and_then name_of o) e

pub name_none : (given : Given) → None ≡ bare given → None ≡ only_name given
name_none given e = ap (λ (o : Option Words). option_and_then name_of o) e

pub unscan_there : (given : Given) (words : Words) (r : Option Request) → Some words ≡ bare given → r ≡ unscan_of words → r ≡ unscan_request given
unscan_there given words r e is = is ∙ ap (λ (o : Option Words). option_and_then unscan_of o) e

pub unscan_bare : (given : Given) → None ≡ bare given → None ≡ unscan_request given
unscan_bare given e = ap (λ (o : Option Words). option_and_then unscan_of o) e

pub near_there : (given : Given) (words : Words) (r : Option Request) → Some words ≡ bare given → r ≡ near_of words → r ≡ near_request given
near_there given words r e is = is ∙ ap (λ (o : Option Words). option_and_then near_of o) e

pub near_bare : (given : Given) → None ≡ bare given → None ≡ near_request given
near_bare given e = ap (λ (o : Option Words). option_and_then near_of o) e

pub bench_there : (given : Given) (words : Words) (r : Option Request) → Some words ≡ bare given → r ≡ bench_asked words → r ≡ bench_request given
bench_there given words r e is = is ∙ ap (λ (o : Option Words). option_and_then bench_asked o) e

pub bench_bare : (given : Given) → None ≡ bare given → None ≡ bench_request given
bench_bare given e = ap (λ (o : Option Words). option_and_then bench_asked o) e

-- what is asked of a list, from what was read of the words
pub cnf_there : (given : Given) (asked : EvidenceRequest) → Some asked ≡ evidence_words given.positions given.settings → Some (Cnf asked) ≡ cnf_request given
cnf_there given asked e = ap (λ (o : Option EvidenceRequest). option_map (λ (t : EvidenceRequest). Cnf t) o) e

pub cnf_none : (given : Given) → None ≡ evidence_words given.positions given.settings → None ≡ cnf_request given
cnf_none given e = ap (λ (o : Option EvidenceRequest). option_map (λ (t : EvidenceRequest). Cnf t) o) e

pub lrat_there : (given : Given) (asked : EvidenceRequest) → Some asked ≡ evidence_words given.positions given.settings → Some (Lrat asked) ≡ lrat_request given
lrat_there given asked e = ap (λ (o : Option EvidenceRequest). option_map (λ (t : EvidenceRequest). Lrat t) o) e

pub lrat_none : (given : Given) → None ≡ evidence_words given.positions given.settings → None ≡ lrat_request given
lrat_none given e = ap (λ (o : Option EvidenceRequest). option_map (λ (t : EvidenceRequest). Lrat t) o) e

pub keys_there : (given : Given) (words : Words) (r : Result (Option CodeRequest) NoMemory) → Some words ≡ bare given →
    IfOk r (λ q. shown_request q ≡ keys_of words) → IfOk r (λ q. shown_request q ≡ keys_request given)
keys_there given words r e is = subst (λ (o : Option Words). IfOk r (λ q. shown_request q ≡ option_and_then keys_of o)) e is

pub keys_bare : (given : Given) → None ≡ bare given → None ≡ keys_request given
keys_bare given e = ap (λ (o : Option Words). option_and_then keys_of o) e

pub keys_some : (netlist : List ℕ) (words : List (Bor (List ℕ))) (empty : Bool) (names : Words) → empty ≡ (length words == 0) → empty ≡ false →
    names ≡ map (λ s. s.now) words → Some (Keys record { netlist = netlist; names = names }) ≡ keys_of (netlist ∷ map (λ s. s.now) words)
keys_some netlist [] empty names e some is = let t : true ≡ false = sym e ∙ some in absurd cc
keys_some netlist (w ∷ ws) empty names e some is = ap (λ (ns : Words). Some (Keys record { netlist = netlist; names = ns })) is

pub keys_none : (netlist : List ℕ) (words : List (Bor (List ℕ))) (empty : Bool) → empty ≡ (length words == 0) → empty ≡ true →
    None ≡ keys_of (netlist ∷ map (λ s. s.now) words)
keys_none netlist [] empty e none = refl
keys_none netlist (w ∷ ws) empty e none = let z : length (w ∷ ws) ≡ 0 = eqb-true (length (w ∷ ws)) 0 (sym e ∙ none) in absurd (omega (arith, z))

pub seen_there : (given : Given) (words : Words) (r : Result (Option CodeRequest) NoMemory) → Some words ≡ bare given →
    IfOk r (λ q. shown_request q ≡ seen_of words) → IfOk r (λ q. shown_request q ≡ seen_request given)
seen_there given words r e is = subst (λ (o : Option Words). IfOk r (λ q. shown_request q ≡ option_and_then seen_of o)) e is

pub seen_bare : (given : Given) → None ≡ bare given → None ≡ seen_request given
seen_bare given e = ap (λ (o : Option Words). option_and_then seen_of o) e

pub seen_some : (netlist : List ℕ) (words : List (Bor (List ℕ))) (empty : Bool) (names : Words) → empty ≡ (length words == 0) → empty ≡ false →
    names ≡ map (λ s. s.now) words → Some (Seen record { netlist = netlist; values = names }) ≡ seen_of (netlist ∷ map (λ s. s.now) words)
seen_some netlist [] empty names e some is = let t : true ≡ false = sym e ∙ some in absurd cc
seen_some netlist (w ∷ ws) empty names e some is = ap (λ (ns : Words). Some (Seen record { netlist = netlist; values = ns })) is

pub seen_none : (netlist : List ℕ) (words : List (Bor (List ℕ))) (empty : Bool) → empty ≡ (length words == 0) → empty ≡ true →
    None ≡ seen_of (netlist ∷ map (λ s. s.now) words)
seen_none netlist [] empty e none = refl
seen_none netlist (w ∷ ws) empty e none = let z : length (w ∷ ws) ≡ 0 = eqb-true (length (w ∷ ws)) 0 (sym e ∙ none) in absurd (omega (arith, z))

-- ---- words by position and options

-- what `trace` asks, from what was read of its options
pub trace_told : (positions : Words) (settings : List CodeSetting) (csv all : Bool) (window : Option TraceWindow) (only : Words) (r : Option Request) →
    fit trace_flags (map setting_of settings) ≡ true → csv ≡ is_given F.Csv (map setting_of settings) →
    all ≡ is_given F.All (map setting_of settings) → window ≡ window_of (map setting_of settings) → only ≡ values_of F.Only (map setting_of settings) →
    r ≡ trace_of positions csv all window only → r ≡ trace_words positions (map setting_of settings)
trace_told positions settings csv all window only r are c e w f is =
    is ∙ ((λ i. trace_of positions (c i) (e i) (w i) (f i)) ∙ sym (rw are refl))

-- what `candidates` asks, from what was read of its options
pub lists_told : (positions : Words) (settings : List CodeSetting) (only : Words) (r : Option Request) →
    fit lists_flags (map setting_of settings) ≡ true → only ≡ values_of F.Only (map setting_of settings) → r ≡ lists_of positions only →
    r ≡ lists_words positions (map setting_of settings)
lists_told positions settings only r are f is = is ∙ ((λ i. lists_of positions (f i)) ∙ sym (rw are refl))

-- what `wave` asks, from what was read of its options
pub wave_told : (positions : Words) (settings : List CodeSetting) (word : Option (List ℕ)) (from : Option ℕ) (all : Bool) (only : Words)
    (r : Option Request) → fit wave_flags (map setting_of settings) ≡ true → word ≡ value_of F.From (map setting_of settings) →
    from ≡ from_of word → all ≡ is_given F.All (map setting_of settings) → only ≡ values_of F.Only (map setting_of settings) →
    r ≡ wave_of positions from all only → r ≡ wave_words positions (map setting_of settings)
wave_told positions settings word from all only r are w c e f is =
    is ∙ ((λ i. wave_of positions ((c ∙ ap from_of w) i) (e i) (f i)) ∙ sym (rw are refl))

-- what `gtkw` asks, from what was read of its options
pub gtkw_told : (positions : Words) (settings : List CodeSetting) (word : Option (List ℕ)) (from : Option ℕ) (all : Bool) (only : Words)
    (r : Option Request) → fit wave_flags (map setting_of settings) ≡ true → word ≡ value_of F.From (map setting_of settings) →
    from ≡ from_of word → all ≡ is_given F.All (map setting_of settings) → only ≡ values_of F.Only (map setting_of settings) →
    r ≡ gtkw_of positions from all only → r ≡ gtkw_words positions (map setting_of settings)
gtkw_told positions settings word from all only r are w c e f is =
    is ∙ ((λ i. gtkw_of positions ((c ∙ ap from_of w) i) (e i) (f i)) ∙ sym (rw are refl))

-- what `page` asks, from what was read of its options
pub page_told : (positions : Words) (settings : List CodeSetting) (word : Option (List ℕ)) (names : List (Bor (List ℕ))) (count : ℕ)
    (most : Option ℕ) (signature : Option (List ℕ)) (r : Option Request) → fit page_flags (map setting_of settings) ≡ true →
    map (λ s. s.now) names ≡ values_of F.Only (map setting_of settings) → word ≡ value_of F.Most (map setting_of settings) →
    count ≡ length names → most ≡ drawn_most word count → signature ≡ value_of F.Signature (map setting_of settings) →
    r ≡ page_of positions most signature (map (λ s. s.now) names) → r ≡ page_words positions (map setting_of settings)
page_told positions settings word names count most signature r are f w n c s is =
    let same : count ≡ length (values_of F.Only (map setting_of settings)) =
    n ∙ (sym (length-map names (λ (n : Bor (List ℕ)). n.now)) ∙ ap length f) in
    is ∙ ((λ i. page_of positions ((c ∙ (λ j. drawn_most (w j) (same j))) i) (s i) (f i)) ∙ sym (rw are refl))

-- what `stimulus` asks of files of values, where there are not too many
pub runs_there : (netlist : List ℕ) (vcds copy : Words) (clock : List ℕ) (scope names : Option (List ℕ)) → are_runs vcds ≡ true → copy ≡ vcds →
    Some (Stimulus record { netlist = netlist; vcds = copy; clock = clock; scope = scope; names = names }) ≡ stimulus_for netlist vcds clock scope names
runs_there netlist vcds copy clock scope names are is =
    ap (λ (vs : Words). Some (Stimulus record { netlist = netlist; vcds = vs; clock = clock; scope = scope; names = names })) is ∙ sym (rw are refl)

pub runs_none : (netlist : List ℕ) (vcds : Words) (clock : List ℕ) (scope names : Option (List ℕ)) → are_runs vcds ≡ false →
    None ≡ stimulus_for netlist vcds clock scope names
runs_none netlist vcds clock scope names not = sym (rw not refl)

-- what `check` asks of files of values, where there are not too many
pub beside_there : (netlist runs : List ℕ) (vcds copy : Words) (clock scope names : Option (List ℕ)) → are_runs vcds ≡ true → copy ≡ vcds →
    Some (Check record { netlist = netlist; runs = runs; vcds = copy; clock = clock; scope = scope; names = names })
    ≡ check_for netlist runs vcds clock scope names
beside_there netlist runs vcds copy clock scope names are is =
    ap (λ (vs : Words). Some (Check record { netlist = netlist; runs = runs; vcds = vs; clock = clock; scope = scope; names = names })) is ∙ sym (rw are refl)

pub beside_none : (netlist runs : List ℕ) (vcds : Words) (clock scope names : Option (List ℕ)) → are_runs vcds ≡ false →
    None ≡ check_for netlist runs vcds clock scope names
beside_none netlist runs vcds clock scope names not = sym (rw not refl)

-- ---- lengths of an answer

-- what is asked of lengths, by the first three words and those behind them
pub lengths_there : {A : Type 0} (view : A → List ℕ) (words : List A) (asked : Option LengthsRequest) → nat_lt (length words) 3 ≡ false →
    asked ≡ lengths_behind (map view (take 3 words)) (map view (drop 3 words)) → asked ≡ lengths_words (map view words)
lengths_there view words asked enough is =
    is ∙ ((λ i. lengths_behind (sym (take-map view 3 words) i) (sym (drop-map view 3 words) i))
    ∙ sym (rw (length-map words view, enough) refl))

pub lengths_few : {A : Type 0} (view : A → List ℕ) (words : List A) → nat_lt (length words) 3 ≡ true → None ≡ lengths_words (map view words)
lengths_few view words few = sym (rw (length-map words view, few) refl)
