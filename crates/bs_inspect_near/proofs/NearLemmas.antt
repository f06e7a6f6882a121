-- The whole text.
use Rattle.std.proofs.Common.{◌≡◌, ◌≢◌, ℕ, ◌<◌, ◌+◌, ◌^◌, Bool, List, ◌++◌, length, map, append_assoc, ap, sym, ◌∙◌, arith}
use Rattle.std.specs.Borrow.{Bor}
use Rattle.std.proofs.lemmas.List.{length-map}
use Rattle.bs_net.specs.Circuit.{Circuit}
use Rattle.bs_net.specs.Netlist.{circuit_of}
use Rattle.bs_net.specs.Order.{IsBounded}
use Rattle.bs_net.specs.Parts.{Parts, key_at}
use Rattle.bs_net.specs.declared.net.Flop.{Flop}
use Rattle.bs_scan.specs.declared.seen.Seen.{Seen}
use Rattle.bs_scan.specs.Seen.{known_count}
use Rattle.bs_scan.proofs.SignatureLemmas.{length_state}
use Rattle.bs_scan.specs.Moments.{Run, run_of, state_of}
use Rattle.bs_inspect_report.specs.Keys.{flop_keys}
use Rattle.bs_inspect_near.specs.Distance.{differs}
use Rattle.bs_inspect_near.specs.Hints.{AreHints}
use Rattle.bs_inspect_near.specs.Nearest.{IsNearest, moment_of}
use Rattle.bs_inspect_near.specs.Tells.{TellsNear, TellsOther, differing_text, hints_text, near_line}
use Rattle.bs_inspect_near.specs.declared.hints.Hints.{Hints}
use Rattle.bs_inspect_near.specs.declared.search.Near.{Near}
use Rattle.bs_inspect_near.proofs.CountLemmas.{count_within}

pub keys_wide : (raw : Parts) (keys : List (Bor (List ℕ))) (seen : Seen) → map (λ s. s.now) keys ≡ flop_keys raw →
    length seen.bits ≡ length (circuit_of raw).flops → length keys ≡ length seen.bits
keys_wide raw keys seen e size =
    sym (length-map keys (λ (s : Bor (List ℕ)). s.now))
    ∙ (ap length e ∙ (length-map raw.flops (λ (f : Flop). key_at raw f.q.0) ∙ sym size))

pub recorded_wide : (c : Circuit) (runs : List Run) (near : Near) (recorded : List Bool) (seen : Seen) → recorded ≡ state_of c runs (moment_of near) →
    length seen.bits ≡ length c.flops → length recorded ≡ length seen.bits
recorded_wide c runs near recorded seen e size = ap length e ∙ (length_state c (run_of runs near.run) near.cycle ∙ sym size)

pub count_small : (c : Circuit) (runs : List Run) (near : Near) (seen : Seen) → IsBounded c → IsNearest c runs seen near →
    length seen.bits ≡ length c.flops → near.count < 2 ^ 20
count_small c runs near seen bounded is size =
    omega (arith, is.counted, count_within (differs (state_of c runs (moment_of near)) seen) (length seen.bits), size, bounded.few_flops)

pub tells_other : (raw : Parts) (runs : List Run) (seen : Seen) (near : Near) (hints : Hints) (known : ℕ) (one two three : List ℕ) →
    AreHints (circuit_of raw) runs seen hints → known ≡ known_count seen → one ≡ near_line known near →
    two ≡ one ++ differing_text (flop_keys raw) (state_of (circuit_of raw) runs (moment_of near)) seen near.count →
    three ≡ two ++ hints_text known near.count hints → TellsOther raw runs seen near three
tells_other raw runs seen near hints known one two three are many e f g = record {
  hints = hints;
  are = are;
  says =
      let differences : List ℕ = differing_text (flop_keys raw) (state_of (circuit_of raw) runs (moment_of near)) seen near.count in
      g
      ∙ (ap (λ (t : List ℕ). t ++ hints_text known near.count hints) (f ∙ ap (λ (t : List ℕ). t ++ differences) e)
      ∙ (append_assoc (near_line known near) differences (hints_text known near.count hints)
      ∙ ap (λ (n : ℕ). near_line n near ++ (differences ++ hints_text n near.count hints)) many));
}

pub tells_same : (raw : Parts) (runs : List Run) (seen : Seen) (near : Near) (known : ℕ) (text : List ℕ) → IsNearest (circuit_of raw) runs seen near →
    near.count ≡ 0 → known ≡ known_count seen → text ≡ near_line known near → TellsNear raw runs seen text
tells_same raw runs seen near known text is none many says = record {
  near = near;
  nearest = is;
  same = λ e. says ∙ ap (λ (n : ℕ). near_line n near) many;
  other = λ some. absurd (omega (arith, none, some));
}

pub tells_near : (raw : Parts) (runs : List Run) (seen : Seen) (near : Near) (text : List ℕ) → IsNearest (circuit_of raw) runs seen near →
    near.count ≢ 0 → TellsOther raw runs seen near text → TellsNear raw runs seen text
tells_near raw runs seen near text is some tells = record {
  near = near;
  nearest = is;
  same = λ none. absurd (some none);
  other = λ more. tells;
}
