use Rattle.std.proofs.Common.{◌∙◌, ap, map}
use Rattle.std.specs.Str.{IsUtf8}
use Rattle.wc_why.specs.Texts.{text_of}
use Rattle.wc_calls.proofs.ExportNameLemmas.{list_more, read_text, text_at, text_read}
use Rattle.wc_calls.proofs.export_names.text_list.Goals as goal

pub unwrap-text-requires : goal.unwrap-text-requires
unwrap-text-requires c =
    read_text c.from_utf8.result _ _ _ c.from_utf8.ensures.cases (text_at IsUtf8 c.args.slices.now c.loop-bytes.bytes-index _ c.loop-bytes-test.true c.requires)

pub loop-bytes-preserved : goal.loop-bytes-preserved
loop-bytes-preserved c =
    let is = text_read c.from_utf8.result c.unwrap-text.result _ _ c.from_utf8.ensures.cases c.unwrap-text.ensures in
    ap (map text_of) c.in_ok-push.ensures.items
    ∙ list_more c.loop-bytes.list.items c.args.slices.now c.loop-bytes.bytes-index _ c.unwrap-text.result c.loop-bytes-test.true c.loop-bytes.invariant is.0
