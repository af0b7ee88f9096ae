use Rattle.wc_read.specs.Modules.{module_value}
use Rattle.wc_component_file.proofs.ListingLemmas.{line_err, line_ok}
use Rattle.wc_component_file.proofs.listing.module_line.Goals as goal

pub returns-in-Ok : goal.returns-in-Ok
returns-in-Ok c = line_ok c.args.position c.args.bytes.now (module_value c.in-Ok.module) c.read_line.result c.in-Ok.ensures.found c.read_line.ensures

pub returns-in-Err : goal.returns-in-Err
returns-in-Err c =
    line_err c.args.position c.args.bytes.now c.in-Err.fault c.unread_line.result c.in-Err.ensures.refused c.unread_line.ensures.line c.unread_line.ensures.failed
