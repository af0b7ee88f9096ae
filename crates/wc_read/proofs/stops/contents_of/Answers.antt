use Rattle.std.proofs.Common.{Some}
use Rattle.wc_read.proofs.PlaceLemmas.{contents_read, without_contents, without_frames}
use Rattle.wc_read.proofs.stops.contents_of.Goals as goal

pub returns-in-Err : goal.returns-in-Err
returns-in-Err c = without_frames c.in-Err.fault c.unread.result c.unread.ensures c.args.bytes.now c.in-Err.ensures.refused

pub returns-in-Ok-read_section_contents : goal.returns-in-Ok-read_section_contents
returns-in-Ok-read_section_contents c =
    contents_read c.args.bytes.now _ (Some c.in-Ok-read_section_contents.contents) c.in-Ok.ensures.found (rw c.deref.ensures.value at c.in-Ok-read_section_contents.ensures)

pub returns : goal.returns
returns c =
    let refused = c.unread-in-Err-read_section_contents in
    without_contents c.in-Err-read_section_contents.fault refused.result refused.ensures c.args.bytes.now _ c.in-Ok.ensures.found (rw c.deref.ensures.value at c.in-Err-read_section_contents.ensures.0)
