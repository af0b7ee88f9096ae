use Rattle.std.proofs.Common.{◌∙◌, ap, map, string_bytes, sym}
use Rattle.std.specs.Option.{option_copied}
use Rattle.wc_summary.specs.Parts.{is_wanted_in}
use Rattle.wc_summary.specs.Private.Uses.{picks}
use Rattle.wc_summary.proofs.UseLemmas.{none_noted}
use Rattle.wc_summary.proofs.uses.note_name.Goals as goal

pub returns-in-None : goal.returns-in-None
returns-in-None g c =
    none_noted (picks c.args.is_wanted (is_wanted_in c.args.required.now)) c.args.required.now.names.now.keys c.args.position
    (map string_bytes c.args.exports.now.items) (sym c.get_index.ensures.key ∙ ap option_copied c.in-None.is)
