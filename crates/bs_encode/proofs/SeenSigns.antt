-- The literals of what is known of a state.
use Rattle.std.proofs.Common.{◌≡◌, ℕ, Bool, true, false, List, [], ◌∷◌, map, length, refl, sym, ap, ◌∙◌}
use Rattle.std.specs.List.{AllByRecursion}
use Rattle.bs_clause.specs.Literal.{Literal, Clause}
use Rattle.bs_log.specs.Refusal.{has_distinct_variables}
use Rattle.bs_scan.specs.declared.seen.Seen.{Seen}
use Rattle.bs_scan.specs.Seen.{kept, Shows}
use Rattle.bs_scan.proofs.KeptLemmas.{kept_each, kept_map, length_kept}
use Rattle.bs_encode.specs.Tables.{lit}
use Rattle.bs_encode.specs.Assuming.{signed, signed_seen}
use Rattle.bs_encode.specs.Cycle.{bits_on}
use Rattle.bs_encode.specs.Frame.{raised, raised_all}
use Rattle.bs_encode.proofs.DistinctLemmas.{signed_all, kept_distinct}
use Rattle.bs_encode.proofs.FrameLemmas.{signed_raised}
use Rattle.bs_encode.proofs.LiteralLemmas.{AllTrue, signs_true, bits_shown}

signed_none : (c : Clause) → signed c [] ≡ []
signed_none [] = refl
signed_none (l ∷ c) = refl

-- the literals at the known places are those of all places, where they are known
pub kept_signed : (frees : List Bool) (c : Clause) (bs : List Bool) → signed (kept frees c) (kept frees bs) ≡ kept frees (signed c bs)
kept_signed [] c bs = refl
kept_signed (free ∷ frees) [] bs = refl
kept_signed (free ∷ frees) (l ∷ c) [] = signed_none (kept (free ∷ frees) (l ∷ c))
kept_signed (true ∷ frees) (l ∷ c) (b ∷ bs) = kept_signed frees c bs
kept_signed (false ∷ frees) (l ∷ c) (b ∷ bs) = ap (λ rest. lit l.variable b ∷ rest) (kept_signed frees c bs)

pub seen_distinct : (c : Clause) (p : Seen) → has_distinct_variables (signed c p.bits) ≡ true → has_distinct_variables (signed_seen c p) ≡ true
seen_distinct c p h = ap has_distinct_variables (kept_signed p.free c p.bits) ∙ kept_distinct p.free (signed c p.bits) h

pub seen_all : (P : ℕ → Type 0) (c : Clause) (p : Seen) → AllByRecursion (λ (l : Literal). P l.variable) c →
    AllByRecursion (λ (l : Literal). P l.variable) (signed_seen c p)
seen_all P c p h = signed_all P (kept p.free c) (kept p.free p.bits) (kept_each (λ (l : Literal). P l.variable) p.free c h)

pub seen_raised : (by : ℕ) (c : Clause) (p : Seen) → signed_seen (raised_all by c) p ≡ raised_all by (signed_seen c p)
seen_raised by c p =
    ap (λ (d : Clause). signed d (kept p.free p.bits)) (sym (kept_map (raised by) p.free c)) ∙ signed_raised by (kept p.free c) (kept p.free p.bits)

-- an assignment that shows a state which shows this
pub seen_true : (a : ℕ → Bool) (c : Clause) (p : Seen) (s : List Bool) → bits_on a c ≡ s → Shows p s → AllTrue a (signed_seen c p)
seen_true a c p s is shows =
    signs_true a (kept p.free c) (kept p.free p.bits) (kept_map (λ (l : Literal). a l.variable) p.free c ∙ (ap (kept p.free) is ∙ shows))

-- what makes them true shows such a state
pub seen_shown : (a : ℕ → Bool) (c : Clause) (p : Seen) → length p.bits ≡ length c → AllTrue a (signed_seen c p) → Shows p (bits_on a c)
seen_shown a c p wide h =
    sym (kept_map (λ (l : Literal). a l.variable) p.free c) ∙ bits_shown a (kept p.free c) (kept p.free p.bits) (length_kept p.free p.bits c wide) h
