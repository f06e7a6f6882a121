use Rattle.std.proofs.Common.{◌≡◌, ◌∙◌, rules, sym, arith, true, false, ◌≤◌, length, ap, Some}
use Rattle.std.specs.Str.{bytes_eq}
use Rattle.std.specs.Prelude.{slice_get}
use Rattle.bs_wave.proofs.AllLemmas.{other_key, more_same, all_same, same_keys_is}
use Rattle.bs_wave.proofs.tracing.same_keys.Goals as goal

pub returns-then-not-is_key-clause-test : goal.returns-then-not-is_key-clause-test
returns-then-not-is_key-clause-test c =
    let other : bytes_eq c.slice.result.now c.key.result.now ≡ false = search rules in
    let here : slice_get c.args.keys.now c.keys.n ≡ Some c.slice.result.now = c.get.ensures.lookup ∙ ap (λ k. Some k) (sym c.slice.ensures) in
    sym (other_key c.args.keys.now c.args.names.now c.keys.n c.slice.result.now c.key.result.now here c.key.ensures other)

pub keys-preserved : goal.keys-preserved
keys-preserved c =
    let same : bytes_eq c.slice.result.now c.key.result.now ≡ true = search rules in
    let here : slice_get c.args.keys.now c.keys.n ≡ Some c.slice.result.now = c.get.ensures.lookup ∙ ap (λ k. Some k) (sym c.slice.ensures) in
    more_same c.args.keys.now c.args.names.now c.keys.n c.slice.result.now c.key.result.now c.keys.invariant here c.key.ensures same

pub returns-clause-test : goal.returns-clause-test
returns-clause-test c =
    let long : length c.args.keys.now ≡ length c.args.names.now = search rules in
    let all : length c.args.names.now ≤ c.keys.n = omega (arith, c.keys-test.false, c.len-n-end.ensures) in
    sym (same_keys_is c.args.keys.now c.args.names.now (all_same c.args.keys.now c.args.names.now c.keys.n long all c.keys.invariant))
