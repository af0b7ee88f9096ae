use Rattle.wc_import_paths.proofs.RootLemmas.{all_named, among_found}
use Rattle.wc_import_paths.proofs.roots.exports_of_names.Goals as goal

pub exports_among-requires : goal.exports_among-requires
exports_among-requires c = all_named c.args.exports.now c.in_ok-named.named.entries c.args.names.now c.in_ok-named.ensures

pub returns : goal.returns
returns c = among_found c.args.exports.now c.in_ok-named.named.entries c.args.names.now c.in_ok-named.ensures c.exports_among.result c.exports_among.ensures
