use Rattle.std.proofs.Common.{◌≡◌, ℕ, length, arith}
use Rattle.bs_outside.proofs.TellingLemmas.{diagnosed_end, diagnosed_stop, diagnosed_then}
use Rattle.bs_inspect_values.proofs.WalkLemmas.{diagnosed_with}
use Rattle.bs_inspect_files.specs.FlopFiles.{bits_of}
use Rattle.bs_inspect_files.proofs.loading.load_pattern.Goals as goal

pub returns-in-Ok : goal.returns-in-Ok
returns-in-Ok g c =
    let count : c.len.result ≡ length c.args.order.items = omega (arith, c.len.ensures, c.args.order.ok.0) in
    diagnosed_then _
    (diagnosed_with (λ (n : ℕ). bits_of n c.args.pattern.now) c.len.result (length c.args.order.items)
    count c.in-Ok.ensures) diagnosed_end

pub returns-in-Err : goal.returns-in-Err
returns-in-Err g c =
    let count : c.len.result ≡ length c.args.order.items = omega (arith, c.len.ensures, c.args.order.ok.0) in
    diagnosed_stop _
    (diagnosed_with (λ (n : ℕ). bits_of n c.args.pattern.now) c.len.result (length c.args.order.items)
    count c.in-Err.ensures)
