use Rattle.std.proofs.Common.{◌∙◌, ap}
use Rattle.std.specs.String.{string_eq}
use Rattle.indexmap.specs.IndexMap.{insert_entry}
use Rattle.wc_validate.proofs.imports.instances.one_entry.Goals as goal

pub returns : goal.returns
returns g c = (
  c.in_ok-from_str.field-0,
  c.in_ok-from_str.ensures.ok,
  c.in_ok-insert.ensures.entries ∙ ap (λ z. insert_entry string_eq z c.in_ok-from_str.field-0 c.args.value) c.with_hasher-names.ensures.empty,
)
