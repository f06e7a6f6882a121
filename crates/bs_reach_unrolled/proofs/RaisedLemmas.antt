-- The variables of what a length assumes, and of what is read of a time frame.
use Rattle.std.proofs.Common.{◌≡◌, ℕ, ◌+◌, ◌*◌, ◌<◌, ◌≤◌, true, List, ◌∷◌}
use Rattle.std.proofs.Common.{ap, sym, subst, ◌∙◌, arith}
use Rattle.std.specs.List.{AllByRecursion}
use Rattle.std.proofs.lemmas.List.Elements.{recursion_from_All, All-from_recursion}
use Rattle.bs_clause.specs.Literal.{Literal, Clause}
use Rattle.bs_clause.specs.Range.{IsWithin, HasVariables}
use Rattle.bs_log.specs.Refusal.{has_distinct_variables}
use Rattle.bs_scan.specs.declared.seen.Seen.{Seen}
use Rattle.bs_encode.specs.Tables.{lit}
use Rattle.bs_encode.specs.Encoded.{Encoded}
use Rattle.bs_encode.specs.Assuming.{signed_seen}
use Rattle.bs_encode.proofs.RangeLemmas.{InRange}
use Rattle.bs_encode.proofs.DistinctLemmas.{apart_from_each, weaken, distinct_cons}
use Rattle.bs_encode.proofs.SeenSigns.{seen_all, seen_distinct, seen_raised}
use Rattle.bs_encode.specs.Frame.{raised_all}
use Rattle.bs_encode.proofs.FrameLemmas.{raised_within, distinct_raised}
use Rattle.bs_reach_unrolled.specs.Unrolled.{base_of, next_at}
use Rattle.bs_reach_unrolled.specs.Room.{IsUnrollable}
use Rattle.bs_reach_unrolled.proofs.UnrollLemmas.{frames_fit}

-- ---- what the step of a length assumes

assumed_below : (e : Encoded) (k c : ℕ) (p : Seen) → IsUnrollable e k → c < k → AllByRecursion (IsWithin (k * e.variables)) (signed_seen (next_at e c) p)
assumed_below e k c p u lt =
    seen_all (InRange (k * e.variables)) (next_at e c) p
    (raised_within (base_of e c) e.variables (k * e.variables) e.next (recursion_from_All (IsWithin e.variables) e.next u.next) (frames_fit e.variables k c lt))

pub assumed_range : (e : Encoded) (k c vars : ℕ) (p : Seen) (activation : Literal) (a : Clause) → IsUnrollable e k → c < k →
    activation ≡ lit (k * e.variables + (c + 1)) true →
    vars ≡ k * e.variables + (c + 1) → a ≡ activation ∷ signed_seen (next_at e c) p → HasVariables vars a
assumed_range e k c vars p activation a u lt is many are =
    let n : ℕ = k * e.variables in
    let number : activation.variable ≡ n + (c + 1) = ap (λ (l : Literal). l.variable) is in
    subst (λ (d : Clause). HasVariables vars d) (sym are)
    (All-from_recursion (IsWithin vars) (activation ∷ signed_seen (next_at e c) p) (
      (omega (arith, number), omega (arith, number, many)),
      weaken (IsWithin n) (IsWithin vars) (λ l w. (w.0, omega (arith, w.1, many))) (signed_seen (next_at e c) p) (assumed_below e k c p u lt),
    ))

pub assumed_distinct : (e : Encoded) (k c : ℕ) (p : Seen) (activation : Literal) (a : Clause) → IsUnrollable e k → c < k →
    activation ≡ lit (k * e.variables + (c + 1)) true →
    a ≡ activation ∷ signed_seen (next_at e c) p → has_distinct_variables a ≡ true
assumed_distinct e k c p activation a u lt is are =
    let n : ℕ = k * e.variables in
    let number : activation.variable ≡ n + (c + 1) = ap (λ (l : Literal). l.variable) is in
    let others : Clause = signed_seen (next_at e c) p in
    ap has_distinct_variables are
    ∙ distinct_cons activation others
    (apart_from_each activation.variable others
    (weaken (IsWithin n) (λ (m : Literal). m.variable ≡ activation.variable → ⊥) (λ l w same. omega (arith, w.1, number, same)) others (assumed_below e k c p u lt)))
    (ap has_distinct_variables (seen_raised (base_of e c) e.next p)
    ∙ (distinct_raised (base_of e c) (signed_seen e.next p) ∙ seen_distinct e.next p (u.next_distinct p.bits)))

-- ---- what is read of a time frame

pub read_range : (n k c m by : ℕ) (ls from xs ys : List Literal) → HasVariables n ls → c < k → k * n ≤ m → by ≡ c * n → from ≡ ls → xs ≡ raised_all by from →
    ys ≡ xs → HasVariables m ys
read_range n k c m by ls from xs ys h lt wide is same raises reads =
    subst (λ (zs : List Literal). HasVariables m zs) (sym (reads ∙ (raises ∙ ap (raised_all by) same)))
    (All-from_recursion (IsWithin m) (raised_all by ls)
    (raised_within by n m ls (recursion_from_All (IsWithin n) ls h) (omega (arith, is, frames_fit n k c lt, wide))))
