-- The states under some inputs.
use Rattle.std.proofs.Common.{◌≡◌, ◌<◌, ◌+◌, ℕ, zero, suc, [], arith, ap, sym, subst, ◌∙◌, List, Bool, Option, Some, map, length, get_or, unwrap_or, zero-add}
use Rattle.std.specs.Prelude.{slice_get, All}
use Rattle.std.specs.List.{range_with_len}
use Rattle.bs_watch.proofs.Gets.{get_map}
use Rattle.bs_scan.specs.declared.seen.Seen.{Seen}
use Rattle.bs_scan.specs.Seen.{Shows}
use Rattle.bs_net.specs.Circuit.{Circuit, reset_state, next}
use Rattle.bs_scan.specs.Moments.{Run, state_at}
use Rattle.bs_reach_unrolled.specs.Execution.{IsExecution}
use Rattle.bs_reach_execution.specs.Trial.{EndsIn}

pub state_more : (c : Circuit) (run : Run) (k : ℕ) (s x : List Bool) → s ≡ state_at c run k → x ≡ get_or run k [] → next c s x ≡ state_at c run (k + 1)
unfolding state_at
state_more c run k s x is given =
    ap (λ (t : List Bool). next c t x) is ∙ (ap (next c (state_at c run k)) given ∙ ap (state_at c run) (let e : suc k ≡ k + 1 = omega arith in e))

pub state_first : (c : Circuit) (run : Run) (s : List Bool) → s ≡ reset_state c → s ≡ state_at c run 0
unfolding state_at
state_first c run s is = is

range_get : (a n i : ℕ) → i < n → slice_get (range_with_len a n) i ≡ Some (a + i)
range_get a zero i low = absurd (omega (arith, low))
range_get a (suc n) zero low = ap (λ m. Some m) (let e : a ≡ a + 0 = omega arith in e)
range_get a (suc n) (suc i) low = range_get (a + 1) n i (omega (arith, low)) ∙ ap (λ m. Some m) (let e : a + 1 + i ≡ a + suc i = omega arith in e)

same_some : (x y : List Bool) → Some x ≡ Some y → x ≡ y
same_some x y e = ap (λ (o : Option (List Bool)). unwrap_or o x) e

pub is_execution : (c : Circuit) (n : ℕ) (p : Seen) (states inputs : List (List Bool)) → length inputs ≡ n →
    All (λ x. length x ≡ length c.inputs) inputs → states ≡ map (state_at c inputs) (range_with_len 0 (length inputs + 1)) →
    EndsIn states n p → IsExecution c n p states inputs
is_execution c n p states inputs count widths are last =
    let are_n : states ≡ map (state_at c inputs) (range_with_len 0 (n + 1)) =
    are ∙ ap (λ (m : ℕ). map (state_at c inputs) (range_with_len 0 (m + 1))) count in
    let at : slice_get states n ≡ Some (state_at c inputs n) =
    ap (λ (ss : List (List Bool)). slice_get ss n) are_n
    ∙ get_map (state_at c inputs) (range_with_len 0 (n + 1)) n n
    (range_get 0 (n + 1) n (omega arith) ∙ ap (λ m. Some m) (zero-add n)) in
    record {
      count = count;
      widths = widths;
      states_are = are_n;
      ends = subst (Shows p) (same_some last.last (state_at c inputs n) (sym last.there ∙ at)) last.shown;
    }
