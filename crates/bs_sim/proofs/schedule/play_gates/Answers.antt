use Rattle.std.proofs.Common.{◌≡◌, ◌∙◌, sym, subst, ap, List, Bool, map}
use Rattle.std.specs.List.{All}
use Rattle.std.proofs.lemmas.List.Elements.{recursion_from_All}
use Rattle.bs_net.specs.declared.net.Gate.{Gate}
use Rattle.bs_net.specs.Circuit.{Circuit, Shows, Fits, IsSettled}
use Rattle.bs_net.specs.Netlist.{circuit}
use Rattle.bs_net.specs.Order.{gates_in}
use Rattle.bs_net.specs.Schedule.{play}
use Rattle.bs_net.specs.Steps.{run, gate_write}
use Rattle.bs_net.proofs.ScheduleLemmas.{quiet_fits, order_settles}
use Rattle.bs_sim.specs.Played.{IsQuietness}
use Rattle.bs_sim.specs.declared.schedule.Settled.{Settled}
use Rattle.bs_sim.proofs.SourceLemmas.{play_writes, shows_play, quiet_answer}
use Rattle.bs_sim.proofs.schedule.play_gates.Goals as goal

pub returns : goal.returns
returns c =
    let it : Circuit = circuit c.args.net.now in
    let v = c.args.values.now in
    let w = c.settle_gates.new.values in
    let checked = c.raw-raw.ensures.checked in
    let gates : c.slice.result.now ≡ it.gates = c.slice.ensures ∙ ap (λ r. r.gates) c.raw-raw.ensures.parts in
    let gates_2 : c.slice-2.result.now ≡ it.gates = c.slice-2.ensures ∙ ap (λ r. r.gates) c.raw-raw.ensures.parts in
    let played : w ≡ play it c.args.gates.now v =
    c.settle_gates.ensures
    ∙ (ap (λ (gs : List Gate). run (map gate_write (gates_in c.args.gates.now gs)) v) gates ∙ sym (play_writes it c.args.gates.now v)) in
    let A : List Gate → Type 0 = λ gs. IsQuietness gs w c.quietness.result in
    let answer : IsQuietness it.gates w c.quietness.result = subst A gates_2 c.quietness.ensures in
    let below = recursion_from_All _ c.args.gates.now c.requires.numbered in
    let kept : (s x : List Bool) → Shows it s x v → Shows it s x w =
    λ s x sh. let P : List Bool → Type 0 = λ u. Shows it s x u in subst P (sym played) (shows_play it s x v c.args.gates.now checked below sh) in
    let Q : List Bool → Type 0 = λ u. All (IsSettled u) it.gates in
    record {
      values = played;
      answer = answer;
      sources = (c.requires.sources.0, c.requires.sources.1, kept _ _ c.requires.sources.2);
      keeps = record { shows = kept };
      fits =
          record {
            fits =
                λ quiet s x sh.
                let F : List Bool → Type 0 = λ u. Fits it s x u in
                let B : Settled → Type 0 = λ a. IsQuietness it.gates w a in
                subst F (sym played) (quiet_fits it s x v c.args.gates.now checked c.requires.numbered sh (subst Q played (subst B quiet answer)));
          };
      ordered =
          λ sub.
          quiet_answer it.gates w c.quietness.result answer
          (subst Q (sym played)
          (order_settles it v c.args.net.now.order c.args.gates.now checked c.raw-raw.ensures.ordered c.requires.numbered c.requires.sources.2.every_net sub));
    }
