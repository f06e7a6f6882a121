use Rattle.std.proofs.Common.{◌+◌, ◌<◌, arith, length}
use Rattle.std.proofs.lemmas.List.{length-map}
use Rattle.bs_stim.specs.Runs.{Recorded, inputs_of}
use Rattle.bs_chip.proofs.IndexLemmas.{added_more, added_wider, keeps_more, lanes_ended, lanes_more}
use Rattle.bs_chip.proofs.hash_cycles.note_lanes.Goals.{then-cycle-cycles_of+in_ok-note, else-cycle-cycles_of}
use Rattle.bs_chip.proofs.hash_cycles.note_lanes.Goals as goal

pub returns-in_err-note-clause-adds : goal.returns-in_err-note-clause-adds
returns-in_err-note-clause-adds c =
    let runs = inputs_of c.args.runs.now in
    let old = c.args.first.now in
    let at = c.lanes.lane in
    let there : at < length runs =
    omega (arith, c.lanes-test.true, c.count-lane-end.ensures.count, length-map c.args.runs.now.runs (λ (run : Recorded). run.inputs)) in
    added_wider runs old c.note.new.first c.args.planes.now c.args.width c.args.cycle (at + 1) (length runs) (omega (arith, there))
    (added_more runs old c.lanes.first c.note.new.first c.args.planes.now c.args.width c.args.cycle at c.wide_for-wide.result c.lane_hash-hash.result
    c.wide_for-wide.ensures.value c.lane_hash-hash.ensures (omega (arith, c.if-cycle-cycles_of.true, c.cycles_of.ensures.count)) c.lanes.invariant.keeps
    c.lanes.invariant.adds c.in_err-note.ensures.adds)

pub lanes-preserved : goal.lanes-preserved
lanes-preserved c =
    let runs = inputs_of c.args.runs.now in
    let old = c.args.first.now in
    let mid = c.lanes.first in
    let planes = c.args.planes.now in
    let at = c.lanes.lane in
    let there : at < length runs =
    omega (arith, c.lanes-test.true, c.count-lane-end.ensures.count, length-map c.args.runs.now.runs (λ (run : Recorded). run.inputs)) in
    elim c.if-cycle-cycles_of.branch [
      | then-cycle-cycles_of+in_ok-note w ↦ record {
        keeps = rw w.first-is (keeps_more old mid w.note.new.first c.lanes.invariant.keeps w.in_ok-note.ensures.keeps);
        notes =
            rw w.first-is
            (lanes_more runs mid w.note.new.first planes c.args.width c.args.cycle at c.wide_for-wide.result w.lane_hash-hash.result
            c.wide_for-wide.ensures.value w.lane_hash-hash.ensures w.in_ok-note.ensures.keeps w.in_ok-note.ensures.notes c.lanes.invariant.notes);
        adds =
            rw w.first-is
            (added_more runs old mid w.note.new.first planes c.args.width c.args.cycle at c.wide_for-wide.result w.lane_hash-hash.result
            c.wide_for-wide.ensures.value w.lane_hash-hash.ensures (omega (arith, w.if-cycle-cycles_of.true, c.cycles_of.ensures.count))
            c.lanes.invariant.keeps c.lanes.invariant.adds w.in_ok-note.ensures.adds);
        few = rw w.first-is (omega (arith, c.lanes.invariant.few, w.in_ok-note.ensures.few));
        within = omega (arith, there);
      }
      | else-cycle-cycles_of w ↦ record {
        keeps = rw w.first-is c.lanes.invariant.keeps;
        notes =
            rw w.first-is
            (lanes_ended runs mid planes c.args.width c.args.cycle at (omega (arith, w.if-cycle-cycles_of.false, c.cycles_of.ensures.count))
            c.lanes.invariant.notes);
        adds = rw w.first-is (added_wider runs old mid planes c.args.width c.args.cycle at (at + 1) (omega arith) c.lanes.invariant.adds);
        few = rw w.first-is (omega (arith, c.lanes.invariant.few));
        within = omega (arith, there);
      }
    ]
