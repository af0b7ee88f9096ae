use Rattle.std.proofs.Common.{None, Some, option_map, refl}
use Rattle.wc_why.specs.Texts.{text_of}
use Rattle.wc_import_paths.specs.declared.asked.PatternKey.{PatternKey}
use Rattle.wc_import_paths.proofs.AskedLemmas.{named_added}
use Rattle.wc_import_paths.proofs.asked.add_named.Goals as goal

pub returns : goal.returns
returns c =
    let named : PatternKey = record { text = c.args.text; version = c.args.version; name = Some c.args.name } in
    let any : PatternKey = record { text = c.args.text; version = c.args.version; name = None } in
    named_added c.args.set.now.keys c.insert.new.self.keys c.insert-2.new.self.keys (c.args.text.now, option_map text_of c.args.version) c.args.name.now named
    any refl refl c.in_ok-insert.ensures.updates.0 c.in_ok-insert-2.ensures.updates.0
