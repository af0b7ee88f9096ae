use Rattle.std.proofs.Common.{arith}
use Rattle.wc_resolve.specs.Views.{package_name_view, package_view}
use Rattle.wc_names.proofs.InterfaceLemmas.{member_found}
use Rattle.wc_names.proofs.KeyLemmas.{package_name_is}
use Rattle.wc_names.proofs.interfaces.member_of.Goals as goal

pub returns-in-Some : goal.returns-in-Some
returns-in-Some c =
    member_found c.args.resolve.now (package_name_view c.args.id.now.«package») c.args.id.now.interface.now c.in-Some.index.0
    (package_view c.package.result.now) c.interface_under.result
    c.well_formedness.ensures.distinct (omega arith) c.package.ensures
    (package_name_is c.args.resolve.now.packages c.in-Some.index.0 (package_view c.package.result.now)
    (package_name_view c.args.id.now.«package») c.in-Some.ensures.found c.package.ensures)
    c.interface_under.ensures
