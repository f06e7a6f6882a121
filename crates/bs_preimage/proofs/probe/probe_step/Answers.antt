use Rattle.std.proofs.Common.{ℕ, ◌<◌, ◌∙◌, List, ap, length, subst, sym}
use Rattle.std.specs.List.{All}
use Rattle.std.specs.Prelude.{option_map}
use Rattle.bs_net.specs.Netlist.{circuit}
use Rattle.bs_encode.proofs.LawLemmas.{parts_placed}
use Rattle.bs_encode.specs.Encoded.{Encoded}
use Rattle.bs_preimage.specs.Probe.{HasAnswered}
use Rattle.bs_preimage.proofs.ListedLemmas.{readable_by, next_width, signature_width, older_width, shown_by, solutions_by, accepted_by}
use Rattle.bs_preimage.proofs.ProbeLemmas.{alone_by, probing_distinct, state_width, lean_by, has_answered}
use Rattle.bs_preimage.proofs.probe.probe_step.Goals as goal

pub probe_once-requires-clause-readable : goal.probe_once-requires-clause-readable
probe_once-requires-clause-readable c =
    readable_by (circuit c.args.net.now) c.args.choice.now c.args.encoding.now c.requires.about.encoding c.encodings_are_tidy.ensures

pub probe_once-requires-clause-distinct : goal.probe_once-requires-clause-distinct
probe_once-requires-clause-distinct c =
    let P : ℕ → Type 0 = λ width. All (λ (item : List ℕ). All (λ i. i < width) item) c.args.choice.now.items in
    probing_distinct (circuit c.args.net.now) c.args.choice.now c.args.encoding.now c.args.solver.now.proof c.args.asked.now.present.now
    c.args.asked.now.stored.now (option_map (λ bits. bits.now) c.args.asked.now.older) c.args.asked.now.state.now c.raw-raw.ensures.checked
    (parts_placed c.args.net.now.raw c.raw-raw.ensures.placed c.args.choice.now.items (subst P c.requires.about.width c.items-items.ensures.sound.in_range))
    c.requires.may c.requires.about c.encodings_are_tidy.ensures

pub probe_once-requires-clause-present : goal.probe_once-requires-clause-present
probe_once-requires-clause-present c =
    next_width (circuit c.args.net.now) c.args.choice.now c.args.encoding.now c.requires.about.encoding c.encodings_are_tidy.ensures
    (length c.args.asked.now.present.now.bits) c.requires.present

pub probe_once-requires-clause-stored : goal.probe_once-requires-clause-stored
probe_once-requires-clause-stored c =
    signature_width (circuit c.args.net.now) c.args.choice.now c.args.encoding.now c.requires.about.encoding c.encodings_are_tidy.ensures
    (length c.args.asked.now.stored.now) c.requires.stored

pub probe_once-requires-clause-older : goal.probe_once-requires-clause-older
probe_once-requires-clause-older c =
    older_width (circuit c.args.net.now) c.args.choice.now c.args.encoding.now (option_map (λ bits. bits.now) c.args.asked.now.older)
    c.requires.about.encoding c.encodings_are_tidy.ensures c.items-items.ensures.sound.kept
    (alone_by c.args.choice.now (option_map (λ bits. bits.now) c.args.asked.now.older) c.requires.may) c.requires.older

pub probe_once-requires-clause-state : goal.probe_once-requires-clause-state
probe_once-requires-clause-state c =
    state_width (circuit c.args.net.now) c.args.choice.now c.args.encoding.now c.requires.about.encoding c.encodings_are_tidy.ensures
    (length c.args.asked.now.state.now) c.requires.state

pub returns : goal.returns
returns c =
    record {
      ok =
          subst (HasAnswered (circuit c.args.net.now) c.args.choice.now c.args.encoding.now c.args.solver.now c.probe_once.new.solver
          c.args.asked.now.present.now c.args.asked.now.stored.now (option_map (λ bits. bits.now) c.args.asked.now.older) c.args.asked.now.state.now
          c.args.asked.now.b)
          (sym c.said_by.ensures)
          (has_answered (record {
            c = circuit c.args.net.now;
            choice = c.args.choice.now;
            e = c.args.encoding.now;
            old = c.args.solver.now;
            new = c.probe_once.new.solver;
            present = c.args.asked.now.present.now;
            stored = c.args.asked.now.stored.now;
            older = option_map (λ bits. bits.now) c.args.asked.now.older;
            state = c.args.asked.now.state.now;
            b = c.args.asked.now.b;
            end = c.in_ok-end.end;
            about = c.requires.about;
            rest = c.requires.rest;
            present_wide = c.requires.present;
            stored_wide = c.requires.stored;
            older_wide = c.requires.older;
            state_wide = c.requires.state;
            may = c.requires.may;
            kept = c.items-items.ensures.sound.kept;
            done = c.in_ok-end.ensures.ok;
            accepted = accepted_by c.probe_once.new.solver.proof.problem c.probe_once.new.solver.proof.history c.log-log.result.now c.log-log.ensures.lines
                (c.log-log.ensures.accepted c.in_ok-end.ensures.ok.ended.well c.in_ok-end.ensures.ok.ended.stage);
            lean = lean_by c.probe_once.new.solver.proof.problem c.probe_once.new.solver.proof.history c.log-log.result.now c.log-log.ensures.lines
                (c.log-log.ensures.steps c.in_ok-end.ensures.ok.ended.well) c.log-log.ensures.lean;
            shown = shown_by (circuit c.args.net.now) c.args.choice.now c.args.encoding.now c.requires.about.encoding c.predecessors_are_shown.ensures;
            solutions = solutions_by (circuit c.args.net.now) c.args.choice.now c.args.encoding.now c.requires.about.encoding c.solutions_are_predecessors.ensures;
            states_wide = ap (λ (x : Encoded). length x.states) c.requires.about.encoding ∙ c.encodings_are_tidy.ensures.states_width;
          }));
    }
