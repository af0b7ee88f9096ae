use Rattle.std.proofs.Common.{◌++◌, ◌∙◌, ap, append-nil, sym}
use Rattle.wc_read.specs.Entries.{type_items}
use Rattle.wc_paths.specs.Items.{space_items}
use Rattle.wc_paths.proofs.body_names.put_locals_of.Goals as goal

pub returns-in-Some : goal.returns-in-Some
returns-in-Some c =
    let old = c.args.names.now.items in
    sym (ap (λ ns. old ++ space_items (type_items ns)) c.in-Some.ensures.no_types ∙ append-nil old)
