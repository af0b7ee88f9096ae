use Rattle.std.proofs.Common.{get_or}
use Rattle.std.proofs.lemmas.List.{get_or_default}
use Rattle.wc_resolve.proofs.ChildLemmas.{kind_found}
use Rattle.wc_resolve.proofs.contents.has_text_at.Goals as goal

pub returns : goal.returns
returns c =
    let item = get_or c.args.types.now c.args.index c.index-types-index.result in
    rw (kind_found c.args.types.now c.args.index item c.requires (get_or_default c.args.types.now c.args.index c.index-types-index.result item c.requires)) c.kind_has_text.ensures
