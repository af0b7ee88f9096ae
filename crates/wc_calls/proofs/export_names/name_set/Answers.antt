use Rattle.std.proofs.Common.{◌∙◌, ap, map, string_bytes}
use Rattle.std.specs.Str.{IsUtf8}
use Rattle.wc_calls.proofs.ExportNameLemmas.{text_at, read_text, text_read, set_more}
use Rattle.wc_calls.proofs.export_names.name_set.Goals as goal

pub unwrap-name-requires : goal.unwrap-name-requires
unwrap-name-requires c =
    read_text c.from_utf8.result _ _ _ c.from_utf8.ensures.cases (text_at IsUtf8 c.args.names.now c.loop-bytes.bytes-index _ c.loop-bytes-test.true c.requires)

pub loop-bytes-preserved : goal.loop-bytes-preserved
loop-bytes-preserved c =
    let is = text_read c.from_utf8.result c.unwrap-name.result _ _ c.from_utf8.ensures.cases c.unwrap-name.ensures in
    ap (map string_bytes) c.in_ok-insert.ensures.keys ∙ set_more c.loop-bytes.set.keys c.args.names.now c.loop-bytes.bytes-index _ c.in_ok-from_str.field-0 c.loop-bytes-test.true c.loop-bytes.invariant (c.in_ok-from_str.ensures.ok ∙ is.0)
