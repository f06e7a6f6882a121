use Rattle.std.specs.Option.{option_map}
use Rattle.bs_inspect_html.specs.Signed.{file_in}
use Rattle.bs_inspect_html.proofs.PieceLemmas.{audit_put, on_ok}
use Rattle.bs_inspect_html.proofs.front.push_audit.Goals as goal

pub returns : goal.returns
returns c =
    on_ok c.push_path_before.result
    (audit_put c.args.netlist.now (option_map file_in c.args.signature) c.args.report.now c.args.text.now.items c.push_piece.new.text.items
    c.push_path.new.text.items c.push_job_files.new.text.items c.push_path_before.new.text.items c.in_ok-push_piece.ensures.ok
    c.in_ok-push_path.ensures c.in_ok-push_job_files.ensures) c.push_path_before.ensures
