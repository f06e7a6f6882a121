use Rattle.std.proofs.Common.{Bool, List, ◌+◌, subst, sym, ◌≡◌, ◌∙◌}
use Rattle.bs_net.specs.Circuit.{Fits}
use Rattle.bs_net.specs.Netlist.{Checked, circuit}
use Rattle.bs_net_facts.specs.Seen.{RowsFit}
use Rattle.bs_net_facts.proofs.SeenLemmas.{rows_more}
use Rattle.bs_net_facts.proofs.moments.settled_rows.Goals as goal

pub moments-preserved : goal.moments-preserved
moments-preserved c =
    let it = circuit c.args.net.now in
    let s = c.get.result.now in
    let x = c.get-in-moments.result.now in
    let v = c.settle.new.self.values in
    let row = c.in_ok-settled_row.field-0 in
    let same : c.load.new.self.net ≡ c.args.net.now = c.load.ensures.net ∙ c.moments.invariant.same in
    let loaded : Fits (circuit c.load.new.self.net) s x v =
    subst (λ (t : List Bool). Fits (circuit c.load.new.self.net) t x v) c.load.ensures.state c.settle.ensures.fits in
    let fits : Fits it s x v = subst (λ (n : Checked). Fits (circuit n) s x v) same loaded in
    let here : Fits it s x row = subst (λ (r : List Bool). Fits it s x r) (sym c.in_ok-settled_row.ensures) fits in
    record {
      same = c.settle.ensures.net ∙ same;
      so_far =
          subst (λ (rs : List (List Bool)). RowsFit it c.args.states.now c.args.inputs.now (c.moments.i + 1) rs) (sym c.in_ok-push.ensures.ok)
          (rows_more it c.args.states.now c.args.inputs.now c.moments.rows c.moments.i row s x c.moments.invariant.so_far c.get.ensures.lookup
          c.get-in-moments.ensures.lookup here);
    }
