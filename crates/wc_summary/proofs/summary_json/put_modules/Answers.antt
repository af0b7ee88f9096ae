use Rattle.std.proofs.Common.{List, map, codes, subst}
use Rattle.std.specs.List.{flat_map}
use Rattle.json.specs.Tree.{json_tokens}
use Rattle.wc_read.specs.Names.{name_entries}
use Rattle.wc_why_text.specs.Private.Tokens.{Puts}
use Rattle.wc_why_text.proofs.TokenLemmas.{both, wrote, wrote_last}
use Rattle.wc_summary.specs.Summary.{main_view, part_view}
use Rattle.wc_summary.specs.SummaryJson.{adapter_json, main_values}
use Rattle.wc_summary.specs.declared.summary.AdapterPart.{AdapterPart}
use Rattle.wc_summary.proofs.SummaryTextLemmas.{two_lists}
use Rattle.wc_summary.proofs.summary_json.put_modules.Goals as goal

pub returns : goal.returns
returns c =
    two_lists (codes "modules") (main_values (name_entries c.args.names.now) (main_view c.args.entry.now.main))
    (map adapter_json (map part_view c.args.entry.now.adapters.items)) _ c.end_array.result
    (both (wrote c.in_ok-key.ensures) (wrote c.in_ok-begin_array.ensures)) c.in_ok-put_main_if.ensures
    (subst (λ (z : List AdapterPart). Puts c.put_main_if.new.out c.put_adapters.new.out (flat_map json_tokens (map adapter_json (map part_view z)))) c.deref.ensures.value
    c.in_ok-put_adapters.ensures) (wrote_last _ _ _ _ c.end_array.ensures)
