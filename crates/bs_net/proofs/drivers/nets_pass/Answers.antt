use Rattle.std.proofs.Common.{◌∙◌}
use Rattle.bs_net.specs.Netlist.{parts_of}
use Rattle.bs_net.proofs.TallyLemmas.{Drives, Reads, lowest_shared, none_shared, lowest_undriven, none_undriven, table_short, tables_match}
use Rattle.bs_net.proofs.drivers.nets_pass.Goals as goal

pub first_shared-requires : goal.first_shared-requires
first_shared-requires c =
    table_short (parts_of c.args.raw.now) c.requires.placed c.as_slice.result.now (c.as_slice.ensures.value ∙ c.in_ok-drivers.ensures)

pub returns-in-Some-clause-err : goal.returns-in-Some-clause-err
returns-in-Some-clause-err c =
    let drives : Drives (parts_of c.args.raw.now) c.as_slice.result.now = c.as_slice.ensures.value ∙ c.in_ok-drivers.ensures in
    (c.requires.few, lowest_shared (parts_of c.args.raw.now) c.as_slice.result.now c.in-Some.n drives c.in-Some.ensures.found)

pub first_undriven-requires-clause-same : goal.first_undriven-requires-clause-same
first_undriven-requires-clause-same c =
    let reads : Reads (parts_of c.args.raw.now) c.as_slice-2.result.now = c.as_slice-2.ensures.value ∙ c.in_ok-readers.ensures in
    let drives : Drives (parts_of c.args.raw.now) c.as_slice-3.result.now = c.as_slice-3.ensures.value ∙ c.in_ok-drivers.ensures in
    tables_match (parts_of c.args.raw.now) c.as_slice-2.result.now c.as_slice-3.result.now reads drives

pub first_undriven-requires-clause-few : goal.first_undriven-requires-clause-few
first_undriven-requires-clause-few c =
    table_short (parts_of c.args.raw.now) c.requires.placed c.as_slice-3.result.now (c.as_slice-3.ensures.value ∙ c.in_ok-drivers.ensures)

pub returns-in-Some-first_undriven-clause-err : goal.returns-in-Some-first_undriven-clause-err
returns-in-Some-first_undriven-clause-err c =
    let before : Drives (parts_of c.args.raw.now) c.as_slice.result.now = c.as_slice.ensures.value ∙ c.in_ok-drivers.ensures in
    let reads : Reads (parts_of c.args.raw.now) c.as_slice-2.result.now = c.as_slice-2.ensures.value ∙ c.in_ok-readers.ensures in
    let drives : Drives (parts_of c.args.raw.now) c.as_slice-3.result.now = c.as_slice-3.ensures.value ∙ c.in_ok-drivers.ensures in (
      c.requires.few,
      none_shared (parts_of c.args.raw.now) c.as_slice.result.now before c.in_default.ensures.none,
      lowest_undriven (parts_of c.args.raw.now) c.as_slice-2.result.now c.as_slice-3.result.now c.in-Some-first_undriven.n reads drives
          c.in-Some-first_undriven.ensures.found,
    )

pub returns-clause-ok : goal.returns-clause-ok
returns-clause-ok c =
    let before : Drives (parts_of c.args.raw.now) c.as_slice.result.now = c.as_slice.ensures.value ∙ c.in_ok-drivers.ensures in
    let reads : Reads (parts_of c.args.raw.now) c.as_slice-2.result.now = c.as_slice-2.ensures.value ∙ c.in_ok-readers.ensures in
    let drives : Drives (parts_of c.args.raw.now) c.as_slice-3.result.now = c.as_slice-3.ensures.value ∙ c.in_ok-drivers.ensures in
    record {
      few = c.requires.few;
      single = none_shared (parts_of c.args.raw.now) c.as_slice.result.now before c.in_default.ensures.none;
      driven = none_undriven (parts_of c.args.raw.now) c.as_slice-2.result.now c.as_slice-3.result.now reads drives c.in-None.ensures.none;
    }
