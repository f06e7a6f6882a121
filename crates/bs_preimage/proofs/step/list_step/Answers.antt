use Rattle.std.proofs.Common.{◌≡◌, refl, sym}
use Rattle.std.specs.Prelude.{length, option_map}
use Rattle.std.proofs.lemmas.List.Sorted.{length_permutation}
use Rattle.bs_net.specs.Netlist.{circuit}
use Rattle.bs_preimage.specs.Listed.{IsRightCand}
use Rattle.bs_preimage.specs.Step.{HasSought, HasMadeStep}
use Rattle.bs_preimage.proofs.AskingLemmas.{asked_then, knows_weaker}
use Rattle.bs_preimage.proofs.ListedLemmas.{readable_by, older_width, shown_by, solutions_by, accepted_by, known_width, made_step}
use Rattle.bs_preimage.proofs.step.list_step.Goals as goal

pub seek-requires-clause-readable : goal.seek-requires-clause-readable
seek-requires-clause-readable g c =
    readable_by (circuit c.args.net.now) c.args.choice.now c.args.encoding.now c.requires.about.encoding c.encodings_are_tidy.ensures

pub seek-requires-clause-older : goal.seek-requires-clause-older
seek-requires-clause-older g c =
    older_width (circuit c.args.net.now) c.args.choice.now c.args.encoding.now (option_map (λ bits. bits.now) c.args.asked.now.older)
    c.requires.about.encoding c.encodings_are_tidy.ensures c.items-items.ensures.sound.kept c.requires.alone c.requires.older

pub seek-requires-clause-right : goal.seek-requires-clause-right
seek-requires-clause-right g c =
    knows_weaker _ _
    (IsRightCand (circuit c.args.net.now) c.args.choice.now c.args.asked.now.present.now c.args.asked.now.stored.now
    (option_map (λ bits. bits.now) c.args.asked.now.older))
    (λ cand. length cand.state ≡ length c.args.encoding.now.states)
    (λ known right.
    known_width (circuit c.args.net.now) c.args.choice.now c.args.encoding.now c.args.asked.now.present.now c.args.asked.now.stored.now
    (option_map (λ bits. bits.now) c.args.asked.now.older) known c.requires.about.encoding c.encodings_are_tidy.ensures right)
    c.requires.right

pub returns-clause-ok : goal.returns-clause-ok
returns-clause-ok g c =
    asked_then _ _ _
    (IsRightCand (circuit c.args.net.now) c.args.choice.now c.args.asked.now.present.now c.args.asked.now.stored.now
    (option_map (λ bits. bits.now) c.args.asked.now.older))
    (λ known. HasSought c.args.encoding.now c.args.solver.now c.seek.new.solver c.args.asked.now.present.now c.args.asked.now.stored.now
    (option_map (λ bits. bits.now) c.args.asked.now.older) known c.args.asked.now.k c.args.asked.now.b c.seek.new.found.items c.in_ok-end.end)
    (λ known. HasMadeStep (circuit c.args.net.now) c.args.choice.now c.args.solver.now c.seek.new.solver c.args.asked.now.present.now
    c.args.asked.now.stored.now (option_map (λ bits. bits.now) c.args.asked.now.older) known c.args.asked.now.k c.args.asked.now.b
    (record { cands = c.in_ok-cands.cands; end = c.in_ok-end.end }))
    c.args.asked.now.k (length c.seek.new.found.items) (length c.in_ok-cands.cands) c.in_ok-end.end
    (sym (length_permutation c.seek.new.found.items c.in_ok-cands.cands c.in_ok-cands.ensures.same)) c.requires.right
    (λ known right sought.
    made_step
    (record {
      c = circuit c.args.net.now;
      choice = c.args.choice.now;
      e = c.args.encoding.now;
      old = c.args.solver.now;
      new = c.seek.new.solver;
      present = c.args.asked.now.present.now;
      stored = c.args.asked.now.stored.now;
      older = option_map (λ bits. bits.now) c.args.asked.now.older;
      known = known;
      k = c.args.asked.now.k;
      b = c.args.asked.now.b;
      found = c.seek.new.found.items;
      cands = c.in_ok-cands.cands;
      end = c.in_ok-end.end;
      about = c.requires.about;
      rest = c.requires.rest;
      state = c.requires.state;
      signature = c.requires.signature;
      older_wide = c.requires.older;
      alone = c.requires.alone;
      kept = c.items-items.ensures.sound.kept;
      known_right = right;
      sought = sought;
      order = c.in_ok-cands.ensures;
      accepted = accepted_by c.seek.new.solver.proof.problem c.seek.new.solver.proof.history c.log-log.result.now c.log-log.ensures.lines
          (c.log-log.ensures.accepted sought.ended.well sought.ended.stage);
      shown = shown_by (circuit c.args.net.now) c.args.choice.now c.args.encoding.now c.requires.about.encoding c.predecessors_are_shown.ensures;
      solutions = solutions_by (circuit c.args.net.now) c.args.choice.now c.args.encoding.now c.requires.about.encoding c.solutions_are_predecessors.ensures;
    })
    _ refl)
    c.in_ok-end.ensures.ok
