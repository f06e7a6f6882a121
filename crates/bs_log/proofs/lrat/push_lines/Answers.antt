use Rattle.std.proofs.Common.{◌+◌, ◌∷◌, ◌++◌, ◌≡◌, List, get_or, take, sym, ap, subst, ◌∙◌}
use Rattle.std.proofs.lemmas.List.{append-nil}
use Rattle.bs_log.specs.declared.line.Line.{Line}
use Rattle.bs_log.specs.History.{Problem, History}
use Rattle.bs_log.specs.Refusal.{history_of}
use Rattle.bs_log.specs.declared.walk.At.{At}
use Rattle.bs_log.specs.Proof.{proof_text, shown}
use Rattle.bs_log.specs.Walk.{problem_in, clauses_in, IsAt}
use Rattle.bs_log.proofs.Walking.{history_more}
use Rattle.bs_log.proofs.Texts.{text_more, at_next}
use Rattle.bs_log.proofs.Rooms.{begins, start_fits, fits_for, room_for, activation_for, step_for, blocks_for}
use Rattle.bs_log.proofs.lrat.push_lines.Goals as goal

pub begin-at-requires : goal.begin-at-requires
begin-at-requires c = start_fits c.args.asked.now c.requires.provable c.args.f.now c.requires.frame

pub lines-init : goal.lines-init
lines-init c =
    record {
      at =
          begins c.args.asked.now c.requires.provable c.args.f.now c.requires.frame c.begin-at.result
          (ap (λ (a : At). a.step) c.begin-at.ensures) (ap (λ (a : At). a.blocks) c.begin-at.ensures) (ap (λ (a : At). a.last) c.begin-at.ensures);
      text = sym (append-nil c.args.text.now.items);
    }

pub push_shown-requires : goal.push_shown-requires
push_shown-requires c =
    let lines : List Line = c.args.asked.now.lines.now in
    let line : Line = get_or lines c.lines.i c.index-asked-i.result in
    let same : line ≡ get_or lines c.lines.i line = ap (get_or lines c.lines.i) c.index-asked-i.is in
    record {
      fits =
          fits_for c.args.asked.now c.requires.provable c.args.f.now c.requires.frame c.lines.i line c.lines-test.true
          (history_more lines c.lines.i line c.lines-test.true same);
      room = room_for c.args.asked.now c.requires.provable c.args.f.now c.requires.frame (clauses_in c.args.asked.now) c.lines.i c.lines.at c.lines.invariant.at;
      activation = activation_for c.args.asked.now c.requires.provable c.args.f.now c.requires.frame (clauses_in c.args.asked.now) c.lines.i c.lines.at c.lines.invariant.at;
    }

pub at_behind-at-requires : goal.at_behind-at-requires
at_behind-at-requires c =
    let lines : List Line = c.args.asked.now.lines.now in
    let line : Line = get_or lines c.lines.i c.index-asked-i.result in
    let same : line ≡ get_or lines c.lines.i line = ap (get_or lines c.lines.i) c.index-asked-i.is in
    record {
      fits =
          fits_for c.args.asked.now c.requires.provable c.args.f.now c.requires.frame c.lines.i line c.lines-test.true
          (history_more lines c.lines.i line c.lines-test.true same);
      step = step_for c.args.asked.now c.requires.provable c.args.f.now c.requires.frame (clauses_in c.args.asked.now) c.lines.i c.lines.at c.lines.invariant.at;
      blocks = blocks_for c.args.asked.now c.requires.provable c.args.f.now c.requires.frame (clauses_in c.args.asked.now) c.lines.i c.lines.at c.lines.invariant.at;
    }

pub lines-preserved : goal.lines-preserved
lines-preserved c =
    let p : Problem = problem_in c.args.asked.now in
    let q : Problem = clauses_in c.args.asked.now in
    let lines : List Line = c.args.asked.now.lines.now in
    let line : Line = get_or lines c.lines.i c.index-asked-i.result in
    let same : line ≡ get_or lines c.lines.i line = ap (get_or lines c.lines.i) c.index-asked-i.is in
    let h : History = history_of (take c.lines.i lines) in
    let more : history_of (take (c.lines.i + 1) lines) ≡ line ∷ h = history_more lines c.lines.i line c.lines-test.true same in
    record {
      at =
          subst (λ (h : History). IsAt c.args.f.now p q h c.at_behind-at.result) (sym more)
          (at_next c.args.f.now p q h c.lines.at c.at_behind-at.result line c.lines.invariant.at c.at_behind-at.ensures);
      text =
          text_more c.args.f.now p q h c.lines.at line c.args.text.now.items c.lines.text.items c.push_shown.new.text.items
          c.lines.invariant.at c.lines.invariant.text c.in_ok-push_shown.ensures
          ∙ ap (λ (h : History). c.args.text.now.items ++ proof_text q (shown c.args.f.now p h)) (sym more);
    }
