use Rattle.std.proofs.Common.{map}
use Rattle.bs_inspect_files.specs.Checked.{beside_in}
use Rattle.bs_inspect_files.proofs.BehindLemmas.{no_texts, none_left, one_more, one_stops}
use Rattle.bs_inspect_files.proofs.comparing.+load_behind.Goals as goal

pub returns-in-None : goal.returns-in-None
returns-in-None g t c =
    none_left (map (λ k. k.now) c.args.keys.now) (map (λ n. n.now) c.args.names.now) (beside_in c.args.beside) c.args.comparisons.now.items
    c.args.vcds.now _ (no_texts c.args.vcds.now c.in-None.ensures.cases)

pub returns-in-Ok : goal.returns-in-Ok
returns-in-Ok g t c =
    one_more (map (λ k. k.now) c.args.keys.now) (map (λ n. n.now) c.args.names.now) (beside_in c.args.beside) c.args.comparisons.now.items
    c.load_next.new.comparisons.items _ c.args.vcds.now _ _ _ _ c.in-Some.ensures.cases.0 c.in-Ok.ensures.walks c.load_behind.ensures

pub returns-in-Err : goal.returns-in-Err
returns-in-Err g t c =
    one_stops (map (λ k. k.now) c.args.keys.now) (map (λ n. n.now) c.args.names.now) (beside_in c.args.beside) c.args.comparisons.now.items _ _
    c.args.vcds.now _ _ _ c.in-Some.ensures.cases.0 c.in-Err.ensures.walks
