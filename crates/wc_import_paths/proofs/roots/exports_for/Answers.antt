use Rattle.std.proofs.Common.{◌≡◌, ◌<◌, ◌∙◌, ap, length, map, rules, sym}
use Rattle.wc_read.specs.Exports.{export_value}
use Rattle.wc_import_paths.proofs.RootLemmas.{all_found, all_missing, all_named, all_there, for_none, none_missing}
use Rattle.wc_import_paths.proofs.roots.exports_for.Goals as goal

pub exports_named-requires : goal.exports_named-requires
exports_named-requires c = all_named c.args.exports.now c.in_ok-named.named.entries c.args.names.now c.in_ok-named.ensures

pub returns-then-is_empty-clause-found : goal.returns-then-is_empty-clause-found
returns-then-is_empty-clause-found c =
    let none : length c.args.names.now ≡ 0 = search rules in
    let same : c.in_ok-from_slice.field-0.items ≡ c.args.exports.now = search rules in
    ap (map export_value) same ∙ sym (for_none (map export_value c.args.exports.now) c.args.names.now none)

pub returns-then-is_empty-clause-there : goal.returns-then-is_empty-clause-there
returns-then-is_empty-clause-there c ok =
    let none : length c.args.names.now ≡ 0 = search rules in
    none_missing (map export_value c.args.exports.now) c.args.names.now none

pub returns-clause-found : goal.returns-clause-found
returns-clause-found c =
    let some : 0 < length c.args.names.now = search rules in
    all_found c.args.exports.now c.in_ok-named.named.entries c.args.names.now c.in_ok-named.ensures c.exports_named.result some c.exports_named.ensures.found

pub returns-clause-there : goal.returns-clause-there
returns-clause-there c ok = all_there c.args.exports.now c.in_ok-named.named.entries c.args.names.now c.in_ok-named.ensures (c.exports_named.ensures.there ok)

pub returns-clause-fault : goal.returns-clause-fault
returns-clause-fault c =
    all_missing c.args.exports.now c.in_ok-named.named.entries c.args.names.now c.in_ok-named.ensures c.exports_named.result c.exports_named.ensures.fault
