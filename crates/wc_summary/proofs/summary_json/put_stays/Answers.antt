use Rattle.std.proofs.Common.{codes, map, string_bytes}
use Rattle.json.specs.Json.{string}
use Rattle.wc_why_text.proofs.TokenLemmas.{both, wrote, wrote_last}
use Rattle.wc_summary.proofs.SummaryTextLemmas.{two_lists}
use Rattle.wc_summary.proofs.summary_json.put_stays.Goals as goal

pub returns : goal.returns
returns c =
    two_lists (codes "stays") (map string (map string_bytes c.args.stays.now)) (map string (map string_bytes c.args.roots.now)) _ c.end_array.result
    (both (wrote c.in_ok-key.ensures) (wrote c.in_ok-begin_array.ensures)) c.in_ok-put_texts.ensures c.in_ok-put_texts-2.ensures
    (wrote_last _ _ _ _ c.end_array.ensures)
