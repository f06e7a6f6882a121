use Rattle.std.proofs.Common.{◌+◌, ◌∷◌, ◌++◌, ◌≡◌, List, get_or, take, sym, ap, subst, ◌∙◌}
use Rattle.std.proofs.lemmas.List.{append-nil}
use Rattle.bs_log.specs.declared.line.Line.{Line}
use Rattle.bs_log.specs.History.{Problem, History}
use Rattle.bs_log.specs.Refusal.{history_of}
use Rattle.bs_log.specs.Proof.{lemma_in, proof_text}
use Rattle.bs_log.specs.Walk.{lines_text}
use Rattle.bs_log.proofs.Walking.{history_more}
use Rattle.bs_evidence.specs.declared.whole_walk.At.{At}
use Rattle.bs_evidence.specs.WholeProof.{line_at, place_of, whole_shown}
use Rattle.bs_evidence.specs.WholeWalk.{problem_in, clauses_in, IsAt}
use Rattle.bs_evidence.proofs.Bounds.{begins, first, step_fits, end_fits, fits_here, start_fits, room_here, place_more, place_fits}
use Rattle.bs_evidence.proofs.WholeTexts.{text_more, at_next}
use Rattle.bs_evidence.proofs.whole_lrat.push_lines.Goals as goal

pub begin-at-requires : goal.begin-at-requires
begin-at-requires c = start_fits c.args.asked.now c.requires.writable c.args.f.now c.requires.frame

pub lines-init : goal.lines-init
lines-init c =
    record {
      at =
          begins c.args.asked.now c.requires.writable c.args.f.now c.requires.frame c.begin-at.result
          (ap (λ (a : At). a.under) c.begin-at.ensures) (ap (λ (a : At). a.place) c.begin-at.ensures) (ap (λ (a : At). a.last) c.begin-at.ensures);
      text = sym (append-nil c.args.text.now.items);
    }

pub push_shown-requires : goal.push_shown-requires
push_shown-requires c =
    let lines : List Line = c.args.asked.now.lines.now in
    let line : Line = get_or lines c.lines.i c.index-asked-i.result in
    let same : line ≡ get_or lines c.lines.i line = ap (get_or lines c.lines.i) c.index-asked-i.is in
    let is : IsAt c.args.f.now (problem_in c.args.asked.now) (clauses_in c.args.asked.now) (history_of (take c.lines.i lines)) c.lines.at = c.lines.invariant.at in
    record {
      fits =
          fits_here c.args.asked.now c.requires.writable c.lines.i c.lines.at.under is.under_is line c.lines-test.true same c.args.f.now c.requires.frame;
      room = room_here c.args.asked.now c.requires.writable c.args.f.now c.requires.frame c.lines.i c.lines.at is;
      first = first c.args.asked.now c.requires.writable c.lines.i c.lines.at.under is.under_is;
      end = end_fits c.args.asked.now c.requires.writable c.lines.i c.lines.at.under is.under_is line c.lines-test.true same;
    }

pub at_behind-at-requires : goal.at_behind-at-requires
at_behind-at-requires c =
    let lines : List Line = c.args.asked.now.lines.now in
    let line : Line = get_or lines c.lines.i c.index-asked-i.result in
    let same : line ≡ get_or lines c.lines.i line = ap (get_or lines c.lines.i) c.index-asked-i.is in
    let is : IsAt c.args.f.now (problem_in c.args.asked.now) (clauses_in c.args.asked.now) (history_of (take c.lines.i lines)) c.lines.at = c.lines.invariant.at in
    record {
      fits =
          fits_here c.args.asked.now c.requires.writable c.lines.i c.lines.at.under is.under_is line c.lines-test.true same c.args.f.now c.requires.frame;
      first = first c.args.asked.now c.requires.writable c.lines.i c.lines.at.under is.under_is;
      step = step_fits c.args.asked.now c.requires.writable c.lines.i c.lines.at.under is.under_is;
      place = place_fits c.args.asked.now c.requires.writable c.args.f.now c.requires.frame c.lines.i c.lines.at is line c.lines-test.true same;
    }

pub lines-preserved : goal.lines-preserved
lines-preserved c =
    let p : Problem = problem_in c.args.asked.now in
    let q : Problem = clauses_in c.args.asked.now in
    let lines : List Line = c.args.asked.now.lines.now in
    let line : Line = get_or lines c.lines.i c.index-asked-i.result in
    let same : line ≡ get_or lines c.lines.i line = ap (get_or lines c.lines.i) c.index-asked-i.is in
    let h : History = history_of (take c.lines.i lines) in
    let more : history_of (take (c.lines.i + 1) lines) ≡ line ∷ h = history_more lines c.lines.i line c.lines-test.true same in
    let place =
    c.at_behind-at.ensures.place
    ∙ place_more c.args.asked.now c.requires.writable c.args.f.now c.requires.frame c.lines.i c.lines.at c.lines.invariant.at line c.lines-test.true same in
    record {
      at =
          subst (λ (h : History). IsAt c.args.f.now p q h c.at_behind-at.result) (sym more)
          (at_next c.args.f.now p q h c.lines.at c.at_behind-at.result line c.lines.invariant.at c.at_behind-at.ensures.under (place ∙ ap (place_of p) more)
          c.at_behind-at.ensures.last);
      text =
          text_more c.args.f.now p q h c.lines.at line c.args.text.now.items c.lines.text.items c.push_shown.new.text.items
          c.lines.invariant.at c.lines.invariant.text
          (c.in_ok-push_shown.ensures
          ∙ ap (λ (ls : List Line). c.lines.text.items ++ lines_text c.lines.at.last (line_at c.args.f.now p (lemma_in (history_of ls)) c.lines.at.under c.lines.at.place line)) c.front.ensures)
          ∙ ap (λ (h : History). c.args.text.now.items ++ proof_text q (whole_shown c.args.f.now p h)) (sym more);
    }
