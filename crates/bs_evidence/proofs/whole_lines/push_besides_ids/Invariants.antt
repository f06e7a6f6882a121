use Rattle.std.proofs.Common.{◌≡◌, ◌++◌, map, take}
use Rattle.std.specs.List.{flat_map}
use Rattle.bs_log.specs.LineText.{id_text}
use Rattle.bs_log.specs.Proof.{unit_id}
use Rattle.bs_evidence.specs.WholeProof.{besides}
use Rattle.bs_evidence.proofs.whole_lines.push_besides_ids.Given as goal

abbrev pub invariant-literals : goal.invariant-literals
invariant-literals l =
    l.text.items ≡ l.initial.text.items ++ flat_map id_text (map (unit_id l.place l.rest) (besides l.variable (take l.i l.lemma)))
