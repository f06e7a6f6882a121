-- The lines of a list, one after another; and a worked list.
use Rattle.std.proofs.Common.{◌≡◌, ◌∙◌, ℕ, ◌<◌, ◌+◌, Bool, true, false, List, [], ◌∷◌, ◌++◌, length, map, take, get_or, Some, None, ap, refl}
use Rattle.std.specs.Prelude.{IfOk, Result, Vec}
use Rattle.std.specs.Prelude.{codes}
use Rattle.std.specs.Fmt.{digits}
use Rattle.std.specs.List.{flat_map}
use Rattle.std.specs.declared.alloc.Global.{Global}
use Rattle.std.proofs.lemmas.Result.{IfOk-weaker}
use Rattle.bs_bits.specs.declared.memory.NoMemory.{NoMemory}
use Rattle.bs_net.specs.Parts.{Parts}
use Rattle.bs_report.specs.declared.report.Cand.{Cand}
use Rattle.bs_report.specs.declared.report.Report.{Report}
use Rattle.bs_inspect_view.specs.declared.signal.Signal.{Signal as CodeSignal}
use Rattle.bs_inspect_view.specs.Signals.{AreSignals, Signal, signal_in}
use Rattle.bs_inspect_report_texts.specs.Lists.{TellsLists, differ_words, each_words, list_lines, list_piece, lists_text, pattern_text}
use Rattle.bs_inspect_report.specs.Keys.{flop_keys}
use Rattle.bs_inspect_report.proofs.TableLemmas.{piece_more}

pub list_more : (number : ℕ) (first : List Bool) (rest : List Cand) (signals : List CodeSignal) (i : ℕ) (d : CodeSignal)
    (old before after : List ℕ) → i < length signals → before ≡ old ++ flat_map (list_piece number first rest) (map signal_in (take i signals)) →
    after ≡ before ++ list_piece number first rest (signal_in (get_or signals i d)) →
    after ≡ old ++ flat_map (list_piece number first rest) (map signal_in (take (i + 1) signals))
list_more number first rest signals i d old before after lt e f =
    piece_more (list_piece number first rest) signals i d old before after lt e f

-- the text of the lists by the signals that were found
pub lists_told : (result : Result (Vec ℕ Global) NoMemory) (raw : Parts) (r : Report) (only : List (List ℕ)) (flops slice : List CodeSignal) →
    slice ≡ flops → AreSignals only (flop_keys raw) (map signal_in flops) → IfOk result (λ text. text.items ≡ lists_text r (map signal_in slice)) →
    IfOk result (λ text. TellsLists raw r only text.items)
lists_told result raw r only flops slice e are says =
    IfOk-weaker result (λ text. text.items ≡ lists_text r (map signal_in slice)) (λ text. TellsLists raw r only text.items)
    (λ text h. record {
      flops = map signal_in flops;
      are = are;
      says = h ∙ ap (λ (s : List CodeSignal). lists_text r (map signal_in s)) e;
    }) says

-- candidates of a flip-flop `q` and a vector `v[1:0]`
abbrev cand : List Bool → Cand
cand state = record { state = state; input = []; before = None }

abbrev flops : List Signal
flops = record { base = codes "q"; high = None; places = 0 ∷ [] } ∷ record { base = codes "v"; high = Some 1; places = 1 ∷ 2 ∷ [] } ∷ []

worked_list :
    list_lines 3 (cand (true ∷ false ∷ true ∷ []) ∷ cand (true ∷ true ∷ true ∷ []) ∷ []) flops
    ≡ codes "3 same q = 1\n3 differ v[1:0] = 0b?1 in 0x1 0x3\n"
unfolding digits differ_words each_words pattern_text
worked_list = refl

worked_single : list_lines 1 (cand (true ∷ false ∷ true ∷ []) ∷ []) flops ≡ codes "1 same q = 1\n1 same v[1:0] = 0x1\n"
unfolding digits
worked_single = refl
