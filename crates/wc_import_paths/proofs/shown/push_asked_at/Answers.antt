use Rattle.std.proofs.Common.{◌∙◌, Some, ap, map, sym}
use Rattle.std.proofs.lemmas.Option.{get_or_from_slice_get}
use Rattle.std.proofs.lemmas.Result.{on_ok_weaker}
use Rattle.wc_read.specs.Imports.{import_value}
use Rattle.wc_read.specs.declared.types.Import.{Import}
use Rattle.wc_paths.specs.Counts.{counts_value}
use Rattle.wc_import_paths.specs.Patterns.{is_shown}
use Rattle.wc_import_paths.specs.Shown.{end_view}
use Rattle.wc_import_paths.proofs.ShownLemmas.{at_view, end_put}
use Rattle.wc_import_paths.proofs.shown.push_asked_at.Goals as goal

pub returns : goal.returns
returns c =
    let f = c.args.followed.now in
    let i = c.index-import.result.now in
    let k = c.args.position in
    let imports = map import_value f.code.imports.items in
    let at = at_view import_value f.code.imports.items k i c.requires.there ∙ ap (λ (z : Import). Some (import_value z)) (sym c.index-import.ensures) in
    let item = c.index-item.ensures ∙ get_or_from_slice_get f.items.items k _ _ (c.requires.paths.items.at k (import_value i) at) in
    on_ok_weaker c.push_shown.result
    (λ put. end_put 0 (counts_value c.args.counts.now) (is_shown c.args.asked.now) imports k (import_value i) at c.is_shown.result c.is_shown.ensures
    _ item (map end_view c.args.shown.now.items) (map end_view c.push_shown.new.shown.items) put)
    c.push_shown.ensures
