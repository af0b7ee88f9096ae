use Rattle.std.proofs.Common.{◌∙◌, sym}
use Rattle.std.specs.Str.{bytes_eq}
use Rattle.wc_selection.specs.KeyNames.{unversioned}
use Rattle.wc_maps.proofs.ListLemmas.{count_map}
use Rattle.wc_selection.proofs.key_names.count_unversioned.Goals as goal
use Rattle.wc_selection.specs.Keys.{NamedKey, named_key}

pub returns : goal.returns
returns c = c.count_having.ensures ∙ sym (count_map named_key (λ (k : NamedKey). bytes_eq (unversioned k) c.args.text.now) c.args.keys.now)
