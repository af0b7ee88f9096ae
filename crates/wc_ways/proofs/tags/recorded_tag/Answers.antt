use Rattle.std.proofs.Common.{Some, ◌∙◌, ap, option_map, sym}
use Rattle.wc_why.specs.Texts.{text_of}
use Rattle.wc_ways.specs.Tags.{all_key}
use Rattle.wc_ways.proofs.tags.recorded_tag.Goals as goal

pub returns-in_ok-from_str-in-Some : goal.returns-in_ok-from_str-in-Some
returns-in_ok-from_str-in-Some c w h =
    ap Some c.in_ok-from_str-in-Some.ensures.ok ∙ (sym (ap (option_map text_of) c.in-Some.is) ∙ c.first_interface.ensures w all_key h)
