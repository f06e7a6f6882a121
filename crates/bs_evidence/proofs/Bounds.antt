-- The clauses of a log are few enough.
use Rattle.std.proofs.Common.{◌≡◌, ℕ, zero, suc, ◌+◌, ◌-◌, ◌*◌, ◌^◌, ◌<◌, ◌≤◌, arith, not, eqb, List, [], ◌∷◌, ◌++◌, length, take, drop, reverse, get_or}
use Rattle.std.proofs.Common.{refl, sym, ap, subst, ◌∙◌, Option, Some, None}
use Rattle.std.specs.Prelude.{All, slice_get, unwrap_or, IfSome}
use Rattle.std.specs.List.{AllByRecursion}
use Rattle.std.proofs.lemmas.Bool.{not-true, and_parts}
use Rattle.std.proofs.lemmas.List.{length-append, length-map, length-reverse, length-take}
use Rattle.std.proofs.lemmas.List.Elements.{recursion_from_All}
use Rattle.bs_clause.specs.Literal.{Literal, Clause, negation}
use Rattle.bs_log.specs.declared.line.Line.{Line}
use Rattle.bs_log.specs.declared.line.Line.TheVariants.{Solve, Lemma, Block, Finish, Retire, Delete}
use Rattle.bs_log.specs.History.{Problem, History, step_of, activation_of, last_id, state_of, phase_of}
use Rattle.bs_log.specs.Refusal.{NoneRefused, history_of, assumptions_of, is_between_steps}
use Rattle.bs_log.proofs.Histories.{in_range}
use Rattle.bs_log.proofs.Laws.{NoneRefused-tail, step_of-positive}
use Rattle.bs_log.proofs.Tests.{right_from_none}
use Rattle.bs_log.specs.declared.asked.TheConstants.{FEW}
use Rattle.bs_log.specs.declared.id_offsets.Frame.{Frame}
use Rattle.bs_log.specs.Lines.{IdFits}
use Rattle.bs_log.specs.Walk.{LineFits}
use Rattle.bs_log.proofs.Rooms.{front_of, last_few, line_fits}
use Rattle.bs_log.proofs.Walking.{history_more}
use Rattle.bs_evidence.specs.declared.whole.WholeLog.{WholeLog}
use Rattle.bs_evidence.specs.declared.whole_walk.Under.{Under}
use Rattle.bs_evidence.specs.declared.whole_walk.At.{At}
use Rattle.bs_evidence.specs.WholeCnf.{finish_of, rest_of, said_of, whole_behind, one_of, finished}
use Rattle.bs_evidence.specs.WholeProof.{under_of, so_far, place_of, whole_shown, whole_frame}
use Rattle.bs_evidence.specs.WholeWalk.{problem_in, history_in, clauses_in, IsWritable, under_behind, given_at, EndFits, IsAt, HasRoom}
use Rattle.bs_evidence.proofs.Finishes.{is_finished}
use Rattle.bs_evidence.proofs.Giving.{so_far_next, under_next, behind_is}
use Rattle.bs_evidence.proofs.Same.{whole_last}

short_at : (xs : List Clause) (k : ℕ) → AllByRecursion (λ c. length c < FEW) xs → length (unwrap_or (slice_get xs k) []) < FEW
short_at [] k all = omega arith
short_at (x ∷ xs) zero all = all.0
short_at (x ∷ xs) (suc k) all = short_at xs k all.1

tail_short : {X : Type 0} (xs : List X) → length (drop 1 xs) ≤ length xs
tail_short [] = omega arith
tail_short (x ∷ xs) = omega arith

module _ (p : Problem) (short : All (λ c. length c < FEW) p.steps) where
  pub rest_short : (step : ℕ) → length (rest_of p step) < FEW
  rest_short step =
      let less : length (assumptions_of p step) < FEW = short_at p.steps (step - 1) (recursion_from_All (λ c. length c < FEW) p.steps short) in
      let cut = tail_short (assumptions_of p step) in
      omega (arith, less, cut)

  said_few : (step : ℕ) (o : Option ℕ) → length (said_of p step o) ≤ 2 ^ 32
  said_few step None = omega arith
  said_few step (Some id) =
      let less = rest_short step in
      let same = length-map (rest_of p step) (λ (a : Literal). negation (activation_of p step) ∷ a ∷ []) in
      omega (arith, less, same)

  more_few : (line : Line) (h : History) → length (so_far p h) + 2 ^ 32 ≤ length h + step_of h * 2 ^ 32 →
      length (so_far p h ++ given_at p (under_of h) line) + 2 ^ 32 ≤ length (line ∷ h) + step_of (line ∷ h) * 2 ^ 32
  more_few Solve h few = let long = length-append (so_far p h) [] in omega (arith, few, long)
  more_few (Lemma id lits hints) h few = let long = length-append (so_far p h) [] in omega (arith, few, long)
  more_few (Finish id) h few = let long = length-append (so_far p h) [] in omega (arith, few, long)
  more_few (Delete ids) h few = let long = length-append (so_far p h) [] in omega (arith, few, long)
  more_few (Block id lits) h few = let long = length-append (so_far p h) (lits ∷ []) in omega (arith, few, long)
  more_few (Retire id) h few =
      let long = length-append (so_far p h) (said_of p (step_of h) (finish_of h (step_of h))) in
      let said = said_few (step_of h) (finish_of h (step_of h)) in
      omega (arith, few, long, said)

  so_far_few : (h : History) → length (so_far p h) + 2 ^ 32 ≤ length h + step_of h * 2 ^ 32
  so_far_few [] = omega arith
  so_far_few (line ∷ h) =
      let more = more_few line h (so_far_few h) in
      let same : length (so_far p (line ∷ h)) ≡ length (so_far p h ++ given_at p (under_of h) line) = ap length (so_far_next p line h) in
      omega (arith, more, same)

module _ (w : WholeLog) (ok : IsWritable w) where
  abbrev pub p : Problem
  p = problem_in w

  abbrev pub lines : List Line
  lines = w.lines.now

  abbrev pub front : ℕ → History
  front i = history_of (take i lines)

  pub front_right : (i : ℕ) → NoneRefused p (front i)
  front_right i = NoneRefused-tail p (reverse (drop i lines)) (front i) (subst (NoneRefused p) (front_of lines i) ok.accepted.lines)

  front_many : (i : ℕ) → length (front i) ≤ length lines
  front_many i =
      let back = length-reverse (take i lines) in
      let cut = length-take i lines in
      omega (arith, back, cut)

  top_many : length (history_in w) ≡ length lines
  top_many = length-reverse lines

  few_in : (h : History) → NoneRefused p h → length h ≤ length lines → length (so_far p h) < 2 ^ 63
  few_in h right many =
      let few = so_far_few p ok.small.assumptions h in
      let next = (in_range p h right).next in
      let room = ok.room in
      let short = ok.small.lines in
      omega (arith, few, next, room, short, many)

  pub front_few : (i : ℕ) → length (so_far p (front i)) < 2 ^ 63
  front_few i = few_in (front i) (front_right i) (front_many i)

  pub all_few : length (so_far p (history_in w)) < 2 ^ 63
  all_few = let many = top_many in few_in (history_in w) ok.accepted.lines (omega (arith, many))

  pub behind_many : length (whole_behind p (history_in w)) ≡ length (so_far p (history_in w)) + 1
  behind_many =
      let long = length-append (so_far p (history_in w)) (one_of p (finished p (history_in w)) ∷ []) in
      let all : length (whole_behind p (history_in w)) ≡ length (so_far p (history_in w) ++ one_of p (finished p (history_in w)) ∷ []) =
      ap length (behind_is p lines ok.accepted) in
      omega (arith, long, all)

  pub counted : (count : ℕ) → count ≡ length (so_far p (history_in w)) → count + 1 ≡ length (whole_behind p (history_in w))
  counted count is = let many = behind_many in omega (arith, is, many)

  pub count_fits : (count : ℕ) → count ≡ length (so_far p (history_in w)) → count + 1 < 2 ^ 64
  count_fits count is = let few = all_few in omega (arith, is, few)

  pub whole_fits : (more : ℕ) → more ≡ length (whole_behind p (history_in w)) → length p.clauses + more < 2 ^ 64
  whole_fits more is =
      let many = behind_many in
      let few = all_few in
      let clauses = ok.small.clauses in
      omega (arith, is, many, few, clauses)

  -- ---- a step that is under way

  module _ (i : ℕ) (under : Under) (is : under ≡ under_of (front i)) where
    step_is : under.step ≡ step_of (front i)
    step_is = ap (λ (u : Under). u.step) is

    pub first : 1 ≤ under.step
    first =
        let low = step_of-positive (front i) in
        let same = step_is in
        omega (arith, low, same)

    pub step_fits : under.step + 1 < 2 ^ 64
    step_fits =
        let next = (in_range p (front i) (front_right i)).next in
        let room = ok.room in
        let same = step_is in
        omega (arith, next, room, same)

    module _ (line : Line) (less : i < length lines) (here : line ≡ get_or lines i line) where
      more : front (i + 1) ≡ line ∷ front i
      more = history_more lines i line less here

      right_here : NoneRefused p (line ∷ front i)
      right_here = subst (NoneRefused p) more (front_right (i + 1))

      pub end_fits : EndFits w.vars under.step line
      end_fits = by line right_here
        where
          by : (line : Line) → NoneRefused p (line ∷ front i) → EndFits w.vars under.step line
          by Solve right = tt
          by (Lemma id lits hints) right = tt
          by (Block id lits) right = tt
          by (Finish id) right = tt
          by (Delete ids) right = tt
          by (Retire id) right =
              let order = (right_from_none p (state_of p (front i)) (Retire id) right.0).order in
              let inside =
              (in_range p (front i) right.1).inside
              (not-true (is_between_steps (phase_of (front i))) (and_parts (not (is_between_steps (phase_of (front i)))) (eqb id (last_id p (front i) + 1)) order).0) in
              let low = first in
              let room = ok.room in
              let same = step_is in
              (omega (arith, low), omega (arith, inside, room, same))

      pub under_more : (new : Under) → new ≡ under_behind line under → new ≡ under_of (front (i + 1))
      under_more new next = next ∙ (ap (under_behind line) is ∙ (sym (under_next line (front i)) ∙ ap under_of (sym more)))

      pub given_more : so_far p (front (i + 1)) ≡ so_far p (front i) ++ given_at p under line
      given_more =
          ap (so_far p) more
          ∙ (so_far_next p line (front i) ∙ ap (λ (u : Under). so_far p (front i) ++ given_at p u line) (sym is))

      count_is : (count one : ℕ) → count ≡ length (so_far p (front i)) → one ≡ length (given_at p under line) →
          count + one ≡ length (so_far p (front (i + 1)))
      count_is count one so one_is =
          let all : length (so_far p (front (i + 1))) ≡ length (so_far p (front i) ++ given_at p under line) = ap length given_more in
          let long = length-append (so_far p (front i)) (given_at p under line) in
          omega (arith, so, one_is, all, long)

      pub count_more : (count one new : ℕ) → count ≡ length (so_far p (front i)) → one ≡ length (given_at p under line) → new ≡ count + one →
          new ≡ length (so_far p (front (i + 1)))
      count_more count one new so one_is next = next ∙ count_is count one so one_is

      pub sum_fits : (count one : ℕ) → count ≡ length (so_far p (front i)) → one ≡ length (given_at p under line) → count + one < 2 ^ 64
      sum_fits count one so one_is =
          let is = count_is count one so one_is in
          let few = front_few (i + 1) in
          omega (arith, is, few)

      pub fits_here : (f : Frame) → f ≡ whole_frame p (history_in w) → LineFits f line
      fits_here f same =
          let by : f.by ≡ length (whole_behind p (history_in w)) = ap (λ (g : Frame). g.by) same in
          let many = behind_many in
          let few = all_few in
          let clauses = ok.small.clauses in
          let short = ok.small.lines in
          let long : length (front (i + 1)) ≡ length (line ∷ front i) = ap length more in
          let cut = front_many (i + 1) in
          line_fits f (2 * 2 ^ 32) (omega (arith, by, many, few)) p (front i) line right_here (omega (arith, clauses, short, long, cut))

  -- ---- a place in the proof

  module _ (f : Frame) (same : f ≡ whole_frame p (history_in w)) where
    by_is : f.by ≡ length (whole_behind p (history_in w))
    by_is = ap (λ (g : Frame). g.by) same

    front_is : f.front ≡ length p.clauses
    front_is = ap (λ (g : Frame). g.front) same

    pub start_fits : f.front + f.by < 2 ^ 64
    start_fits =
        let by = by_is in
        let low = front_is in
        let fits = whole_fits f.by by in
        omega (arith, low, fits)

    pub begins : (at : At) → at.under ≡ under_of [] → at.place ≡ f.front → at.last ≡ f.front + f.by → IsAt f p (clauses_in w) [] at
    begins at under place last =
        let long = length-append p.clauses (whole_behind p (history_in w)) in
        let by = by_is in
        let low = front_is in
        record { under_is = under; place_is = omega (arith, place, low); last_is = omega (arith, last, long, by, low) }

    pub last_fits : (last : ℕ) → last ≡ last_id (clauses_in w) (whole_shown f p (history_in w)) → last + 1 < 2 ^ 64
    last_fits last is =
        let raised : last_id (clauses_in w) (whole_shown f p (history_in w)) ≡ last_id p (history_in w) + f.by =
        whole_last f p (clauses_in w) (record { extra = whole_behind p (history_in w); clauses = refl; front = front_is; by = by_is }) (history_in w) ok.accepted.lines in
        let by = by_is in
        let last = last_few p (history_in w) ok.accepted.lines in
        let many = behind_many in
        let few = all_few in
        let all = top_many in
        let clauses = ok.small.clauses in
        let short = ok.small.lines in
        omega (arith, is, raised, by, last, many, few, all, clauses, short)

    module _ (i : ℕ) (at : At) (is : IsAt f p (clauses_in w) (front i) at) where
      finish_fits : (o : Option ℕ) → o ≡ finish_of (front i) (step_of (front i)) → IfSome o (IdFits f)
      finish_fits None found = tt
      finish_fits (Some id) found =
          let low = (is_finished p (front i) id (front_right i) (sym found)).low in
          let last = last_few p (front i) (front_right i) in
          let cut = front_many i in
          let by = by_is in
          let many = behind_many in
          let few = all_few in
          let clauses = ok.small.clauses in
          let short = ok.small.lines in
          omega (arith, low, last, cut, by, many, few, clauses, short)

      pub room_here : HasRoom f p at
      room_here =
          let rest = rest_short p ok.small.assumptions at.under.step in
          let few = front_few i in
          let clauses = ok.small.clauses in
          let place = is.place_is in
          record {
            place = omega (arith, rest, few, clauses, place);
            finish = finish_fits at.under.finish (ap (λ (u : Under). u.finish) is.under_is);
          }

      pub place_more : (line : Line) → i < length lines → line ≡ get_or lines i line → at.place + length (given_at p at.under line) ≡ place_of p (front (i + 1))
      place_more line less here =
          let place = is.place_is in
          let all : length (so_far p (front (i + 1))) ≡ length (so_far p (front i) ++ given_at p at.under line) =
          ap length (given_more i at.under is.under_is line less here) in
          let long = length-append (so_far p (front i)) (given_at p at.under line) in
          omega (arith, place, all, long)

      pub place_fits : (line : Line) → i < length lines → line ≡ get_or lines i line → at.place + length (given_at p at.under line) < 2 ^ 64
      place_fits line less here =
          let next = place_more line less here in
          let few = front_few (i + 1) in
          let clauses = ok.small.clauses in
          omega (arith, next, few, clauses)
