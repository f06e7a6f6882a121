-- Each line of a proof is right.
use Rattle.std.proofs.Common.{◌≡◌, ℕ, zero, suc, ◌+◌, ◌-◌, ◌<◌, ◌≤◌, arith, Bool, true, false, not, ◌&&◌, cond, eqb, List, [], ◌∷◌, ◌++◌, map, length, reverse}
use Rattle.std.proofs.Common.{refl, sym, ap, ◌∙◌, Option, Some, inl, inr}
use Rattle.std.specs.Prelude.{option_map, is_some, slice_get, unwrap_or}
use Rattle.std.specs.List.{list_all, cons_option, range_with_len}
use Rattle.std.proofs.lemmas.Bool.{and_parts, and_from, eq-eqb, false≢true, cases_eq}
use Rattle.std.proofs.lemmas.List.{length-append, length-map, length-reverse, reverse-append, append_assoc}
use Rattle.std.proofs.lemmas.List.FromFn.{length-range_with_len}
use Rattle.std.proofs.lemmas.Option.{slice_get_within}
use Rattle.bs_clause.specs.Literal.{Literal, Clause, negation, same_literal, has_literal}
use Rattle.bs_clause.proofs.Literals.{same_literal-true}
use Rattle.bs_log.specs.declared.line.Line.TheVariants.{Solve, Lemma, Block, Finish, Retire, Delete}
use Rattle.bs_log.specs.declared.origin.Origin.TheVariants.{Axiom}
use Rattle.bs_log.specs.History.{Problem, History, Entry, step_of, activation_of, live, last_id, state_of, phase_of}
use Rattle.bs_log.specs.Propagation.{hints_are_unit, last_is_false}
use Rattle.bs_log.specs.Refusal.{NoneRefused, entry_of, clauses_of, denies, assumptions_of, is_block_of, in_solve, is_between_steps}
use Rattle.bs_log.specs.Refutation.{blocks_of}
use Rattle.bs_log.proofs.Tests.{IsRight, right_from_none}
use Rattle.bs_log.proofs.Histories.{next_given}
use Rattle.bs_log.proofs.Laws.{step_of-positive}
use Rattle.bs_log.specs.declared.id_offsets.Frame.{Frame}
use Rattle.bs_log.specs.Cnf.{units, others, behind, cnf_of, closed}
use Rattle.bs_log.specs.Lines.{raised}
use Rattle.bs_log.specs.Proof.{IsProofLine, IsProof, alone, shown, frame_of, block_hint, unit_id}
use Rattle.bs_log.proofs.Found.{axiom_at, get_behind, get_front}
use Rattle.bs_log.proofs.Raising.{raised_high}
use Rattle.bs_log.proofs.Standing.{Fits, kept, same_hints, hints_stand, deleted_stand, last_front, new_last}
use Rattle.bs_log.proofs.Units.{follows_from_itself, follows_from_first, IsPlace, place_there}

-- ---- one clause alone as a hint

-- an id names a clause that stands
pub record Stands (entries : List Entry) (id : ℕ) (c : Clause) : Type 0 where
  pub entry : Entry
  pub found : entry_of entries id ≡ Some entry
  pub is : entry.literals ≡ c

pub one_stands : (entries : List Entry) (id : ℕ) (c : Clause) → Stands entries id c → list_all (λ i. is_some (entry_of entries i)) (id ∷ []) ≡ true
one_stands entries id c s = ap (λ (o : Option Entry). is_some o && true) s.found

pub one_clause : (entries : List Entry) (id : ℕ) (c : Clause) (ids : List ℕ) → Stands entries id c → clauses_of entries (id ∷ ids) ≡ c ∷ clauses_of entries ids
one_clause entries id c ids s =
    ap (λ (o : Option Entry). cons_option (option_map (λ (e : Entry). e.literals) o) (clauses_of entries ids)) s.found
    ∙ ap (λ (d : Clause). d ∷ clauses_of entries ids) s.is

pub copy_is_right : (q : Problem) (h : History) (id hint : ℕ) (lits c : Clause) → id ≡ last_id q h + 1 → Stands (live q h) hint c →
    last_is_false lits (c ∷ []) ≡ true → IsProofLine q h (Lemma id lits (hint ∷ []))
copy_is_right q h id hint lits c next s false_last = (
  next,
  one_stands (live q h) hint c s,
  ap (hints_are_unit lits) (one_clause (live q h) hint c [] s),
  ap (last_is_false lits) (one_clause (live q h) hint c [] s) ∙ false_last,
)

-- ---- places

get_range : (a n k : ℕ) → k < n → slice_get (range_with_len a n) k ≡ Some (a + k)
get_range a zero k less = absurd (omega (arith, less))
get_range a (suc n) zero less = let same : a ≡ a + 0 = omega arith in ap (λ (x : ℕ). Some x) same
get_range a (suc n) (suc k) less =
    get_range (a + 1) n k (omega (arith, less)) ∙ (let same : a + 1 + k ≡ a + suc k = omega arith in ap (λ (x : ℕ). Some x) same)

pub get_map : {X Y : Type 0} (g : X → Y) (xs : List X) (k : ℕ) (x : X) → slice_get xs k ≡ Some x → slice_get (map g xs) k ≡ Some (g x)
get_map g [] k x e = cc
get_map g (y ∷ xs) zero x e = let same : y ≡ x = cc in ap (λ z. Some (g z)) same
get_map g (y ∷ xs) (suc k) x e = get_map g xs k x e

module _ (p : Problem) (top : History) (step : ℕ) (low : 1 ≤ step) (high : step ≤ length p.steps) where
  abbrev pub f : Frame
  f = frame_of p top step

  abbrev pub q : Problem
  q = alone (cnf_of p top step)

  abbrev pub fits : Fits f p q
  fits = record { extra = behind p top step; clauses = refl; front = refl; by = refl }

  front_is : f.front ≡ length p.clauses
  front_is = refl

  own_is : f.own ≡ length p.clauses + length (assumptions_of p step)
  own_is = refl

  closed_is : f.closed ≡ length p.clauses + length (assumptions_of p step) + length (blocks_of top step)
  closed_is = refl

  abbrev pub assumed : List Clause
  assumed = units (assumptions_of p step)

  abbrev pub blocks : List Clause
  blocks = reverse (blocks_of top step)

  abbrev pub turned_off : List Clause
  turned_off = map (closed p) (others (length p.steps) step)

  assumed_many : length assumed ≡ length (assumptions_of p step)
  assumed_many = length-map (assumptions_of p step) (λ (l : Literal). l ∷ [])

  blocks_many : length blocks ≡ length (blocks_of top step)
  blocks_many = length-reverse (blocks_of top step)

  turned_off_many : length turned_off ≡ length p.steps - 1
  turned_off_many =
      let mapped = length-map (others (length p.steps) step) (closed p) in
      let joined = length-append (range_with_len 1 (step - 1)) (range_with_len (step + 1) (length p.steps - step)) in
      let first = length-range_with_len 1 (step - 1) in
      let second = length-range_with_len (step + 1) (length p.steps - step) in
      omega (arith, mapped, joined, first, second, low, high)

  pub by_is : f.by ≡ length (assumptions_of p step) + (length (blocks_of top step) + (length p.steps - 1))
  by_is =
      let a = length-append assumed (blocks ++ turned_off) in
      let b = length-append blocks turned_off in
      let one = assumed_many in
      let two = blocks_many in
      let three = turned_off_many in
      omega (arith, a, b, one, two, three)

  -- what stands behind the clauses, at its place there
  stands_behind : (h : History) (k id : ℕ) (c : Clause) → slice_get (behind p top step) k ≡ Some c → k < f.by → id ≡ length p.clauses + k + 1 →
      Stands (live q (shown f p h)) id c
  stands_behind h k id c there less at =
      record {
        entry = record { id = id; origin = Axiom; literals = c };
        found =
            kept f p q fits h id (omega (arith, at, front_is)) (omega (arith, at, less, front_is))
            ∙ axiom_at 1 q.clauses (length p.clauses + k) id c (get_behind p.clauses (behind p top step) k (length p.clauses + k) refl ∙ there) (omega (arith, at));
        is = refl;
      }

  pub assumption_stands : (h : History) (k id : ℕ) (l : Literal) → slice_get (assumptions_of p step) k ≡ Some l → k < length (assumptions_of p step) →
      id ≡ length p.clauses + k + 1 → Stands (live q (shown f p h)) id (l ∷ [])
  assumption_stands h k id l there less at =
      let many = by_is in
      stands_behind h k id (l ∷ []) (get_front assumed (blocks ++ turned_off) k (l ∷ []) (get_map (λ (l : Literal). l ∷ []) (assumptions_of p step) k l there))
      (omega (arith, many, less)) at

  block_stands : (h : History) (k id : ℕ) (c : Clause) → slice_get blocks k ≡ Some c → k < length (blocks_of top step) → id ≡ f.own + k + 1 →
      Stands (live q (shown f p h)) id c
  block_stands h k id c there less at =
      let many = by_is in
      let one = assumed_many in
      stands_behind h (length (assumptions_of p step) + k) id c
      (get_behind assumed (blocks ++ turned_off) k (length (assumptions_of p step) + k) (omega (arith, one)) ∙ get_front blocks turned_off k c there)
      (omega (arith, many, less)) (omega (arith, at, own_is))

  closed_stands : (h : History) (other id : ℕ) → 1 ≤ other → other < step → id ≡ f.closed + other → Stands (live q (shown f p h)) id (closed p other)
  closed_stands h other id first less at =
      let many = by_is in
      let one = assumed_many in
      let two = blocks_many in
      let there : slice_get (range_with_len 1 (step - 1)) (other - 1) ≡ Some other =
      get_range 1 (step - 1) (other - 1) (omega (arith, first, less))
      ∙ (let same : 1 + (other - 1) ≡ other = omega (arith, first) in ap (λ (x : ℕ). Some x) same) in
      stands_behind h (length (assumptions_of p step) + (length (blocks_of top step) + (other - 1))) id (closed p other)
      (get_behind assumed (blocks ++ turned_off) (length (blocks_of top step) + (other - 1))
      (length (assumptions_of p step) + (length (blocks_of top step) + (other - 1))) (omega (arith, one))
      ∙ (get_behind blocks turned_off (other - 1) (length (blocks_of top step) + (other - 1)) (omega (arith, two))
      ∙ get_map (closed p) (others (length p.steps) step) (other - 1) other
      (get_front (range_with_len 1 (step - 1)) (range_with_len (step + 1) (length p.steps - step)) (other - 1) other there)))
      (omega (arith, many, first, less, high)) (omega (arith, at, first, closed_is))

  -- ---- the lines

  next : (h : History) (id : ℕ) → NoneRefused p h → id ≡ last_id p h + 1 → raised f id ≡ last_id q (shown f p h) + 1
  next h id right at =
      let front = last_front f p q fits h right in
      let last = new_last f p q fits h right in
      let up = raised_high f id (omega (arith, front, at)) in
      omega (arith, up, last, at, front_is)

  -- the clause of a block that the step adds
  own_block : (h : History) (lits : Clause) (more : List Clause) → blocks_of top step ≡ more ++ lits ∷ blocks_of h step →
      (slice_get blocks (length (blocks_of h step)) ≡ Some lits) × (length (blocks_of h step) < length (blocks_of top step))
  own_block h lits more is =
      let long = length-append more (lits ∷ blocks_of h step) in
      let all : length (blocks_of top step) ≡ length (more ++ lits ∷ blocks_of h step) = ap length is in
      let back = length-reverse (blocks_of h step) in (
        ap (λ (cs : List Clause). slice_get cs (length (blocks_of h step)))
            (ap reverse is
            ∙ (reverse-append more (lits ∷ blocks_of h step)
            ∙ (ap (λ (cs : List Clause). cs ++ reverse more) (reverse-append (lits ∷ []) (blocks_of h step))
            ∙ append_assoc (reverse (blocks_of h step)) (lits ∷ []) (reverse more))))
            ∙ get_behind (reverse (blocks_of h step)) (lits ∷ reverse more) 0 (length (blocks_of h step)) (omega (arith, back)),
        omega (arith, long, all),
      )

  block_is_right : (h : History) (id : ℕ) (lits : Clause) (more : List Clause) → NoneRefused p (Block id lits ∷ h) → step_of h ≤ step →
      blocks_of top step ≡ more ++ blocks_of (Block id lits ∷ h) step →
      IsProofLine q (shown f p h) (Lemma (raised f id) lits (block_hint f h ∷ []))
  block_is_right h id lits more right under is = by (eqb (step_of h) step) refl is
    where
      is_right : IsRight p (state_of p h) (Block id lits)
      is_right = right_from_none p (state_of p h) (Block id lits) right.0

      at : raised f id ≡ last_id q (shown f p h) + 1
      at = next h id right.1 (next_given p h (in_solve (phase_of h)) id is_right.order)

      other : (c : Clause) → step_of h < step → is_block_of p (step_of h) c ≡ true → last_is_false c (closed p (step_of h) ∷ []) ≡ true
      other [] less lost = absurd (false≢true lost)
      other (first ∷ rest) less fit =
          let parts = and_parts (same_literal first (negation (activation_of p (step_of h)))) _ fit in
          ap (λ (l : Literal). last_is_false (first ∷ rest) ((l ∷ []) ∷ [])) (sym (same_literal-true first (negation (activation_of p (step_of h))) parts.0))
          ∙ follows_from_first first rest

      by : (b : Bool) → eqb (step_of h) step ≡ b → blocks_of top step ≡ more ++ cond b (lits ∷ blocks_of h step) (blocks_of h step) →
          IsProofLine q (shown f p h) (Lemma (raised f id) lits (block_hint f h ∷ []))
      by true same all =
          let place = own_block h lits more all in
          copy_is_right q (shown f p h) (raised f id) (block_hint f h) lits lits at
          (block_stands h (length (blocks_of h step)) (block_hint f h) lits place.0 place.1
          (ap (λ b. cond b (f.own + length (blocks_of h step) + 1) (f.closed + step_of h)) same))
          (follows_from_itself lits)
      by false apart all =
          let less : step_of h < step = elim (cases_eq (step_of h) step) [
            | inl same ↦ absurd (false≢true (sym apart ∙ eq-eqb (step_of h) step same))
            | inr differ ↦ omega (arith, under, differ)
          ] in
          copy_is_right q (shown f p h) (raised f id) (block_hint f h) lits (closed p (step_of h)) at
          (closed_stands h (step_of h) (block_hint f h) (step_of-positive h) less
          (ap (λ b. cond b (f.own + length (blocks_of h step) + 1) (f.closed + step_of h)) apart))
          (other lits less is_right.block)

  pub lines_are_right : (h : History) (more : List Clause) → NoneRefused p h → step_of h ≤ step → blocks_of top step ≡ more ++ blocks_of h step →
      IsProof q (shown f p h)
  lines_are_right [] more right under is = tt
  lines_are_right (Solve ∷ h) more right under is = lines_are_right h more right.1 under is
  lines_are_right (Finish id ∷ h) more right under is = lines_are_right h more right.1 under is
  lines_are_right (Delete ids ∷ h) more right under is =
      (deleted_stand f p q fits h ids (right_from_none p (state_of p h) (Delete ids) right.0).names, lines_are_right h more right.1 under is)
  lines_are_right (Lemma id lits hints ∷ h) more right under is =
      let is_right : IsRight p (state_of p h) (Lemma id lits hints) = right_from_none p (state_of p h) (Lemma id lits hints) right.0 in
      let same = same_hints f p q fits h hints in (
        (
          next h id right.1 (next_given p h (in_solve (phase_of h)) id is_right.order),
          hints_stand f p q fits h hints is_right.names,
          ap (hints_are_unit lits) same ∙ is_right.unit,
          ap (last_is_false lits) same ∙ is_right.last,
        ),
        lines_are_right h more right.1 under is,
      )
  lines_are_right (Block id lits ∷ h) more right under is =
      (block_is_right h id lits more right under is, by (eqb (step_of h) step) is (λ more all. lines_are_right h more right.1 under all))
    where
      by : (b : Bool) → blocks_of top step ≡ more ++ cond b (lits ∷ blocks_of h step) (blocks_of h step) →
          ((more : List Clause) → blocks_of top step ≡ more ++ blocks_of h step → IsProof q (shown f p h)) → IsProof q (shown f p h)
      by true all later = later (more ++ lits ∷ []) (all ∙ sym (append_assoc more (lits ∷ []) (blocks_of h step)))
      by false all later = later more all
  lines_are_right (Retire id ∷ h) more right under is =
      let order = (right_from_none p (state_of p h) (Retire id) right.0).order in (
        copy_is_right q (shown f p h) (raised f id) (f.closed + step_of h) (closed p (step_of h)) (closed p (step_of h))
            (next h id right.1 (next_given p h (not (is_between_steps (phase_of h))) id order))
            (closed_stands h (step_of h) (f.closed + step_of h) (step_of-positive h) (omega (arith, under)) refl)
            (follows_from_itself (closed p (step_of h))),
        lines_are_right h more right.1 (omega (arith, under)) is,
      )

  -- ---- the empty clause

  pub hints_of_units : (h : History) (last : ℕ) (lemma : Clause) → Stands (live q (shown f p h)) last lemma → (ls : Clause) →
      denies (assumptions_of p step) ls ≡ true →
      (clauses_of (live q (shown f p h)) (map (unit_id f.front (assumptions_of p step)) ls ++ last ∷ []) ≡ map (λ l. negation l ∷ []) ls ++ lemma ∷ [])
      × (list_all (λ i. is_some (entry_of (live q (shown f p h)) i)) (map (unit_id f.front (assumptions_of p step)) ls ++ last ∷ []) ≡ true)
  hints_of_units h last lemma s [] denied = (one_clause (live q (shown f p h)) last lemma [] s, one_stands (live q (shown f p h)) last lemma s)
  hints_of_units h last lemma s (l ∷ ls) denied =
      let parts = and_parts (has_literal (assumptions_of p step) (negation l)) (denies (assumptions_of p step) ls) denied in
      let there : IsPlace (assumptions_of p step) (negation l) = place_there (assumptions_of p step) (negation l) parts.0 in
      let id : ℕ = unit_id f.front (assumptions_of p step) l in
      let at : id ≡ length p.clauses + there.place + 1 = ap (λ (o : Option ℕ). length p.clauses + unwrap_or o 0 + 1) there.is in
      let stands : Stands (live q (shown f p h)) id (negation l ∷ []) =
      assumption_stands h there.place id (negation l) there.holds (slice_get_within (assumptions_of p step) there.place (negation l) there.holds) at in
      let rest = hints_of_units h last lemma s ls parts.1 in
      let later : List ℕ = map (unit_id f.front (assumptions_of p step)) ls ++ last ∷ [] in (
        one_clause (live q (shown f p h)) id (negation l ∷ []) later stands ∙ ap (λ (cs : List Clause). (negation l ∷ []) ∷ cs) rest.0,
        and_from (is_some (entry_of (live q (shown f p h)) id)) (list_all (λ i. is_some (entry_of (live q (shown f p h)) i)) later)
            (ap is_some stands.found) rest.1,
      )
