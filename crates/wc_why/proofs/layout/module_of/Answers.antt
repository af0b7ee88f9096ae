use Rattle.std.proofs.Common.{map, subst}
use Rattle.wc_read.specs.Names.{name_entries}
use Rattle.wc_why.specs.Component.{all_functions}
use Rattle.wc_why.specs.Private.Layout.{AreNamesBy}
use Rattle.wc_why.specs.Private.Modules.{shown_view}
use Rattle.wc_why.proofs.LaidLemmas.{names_are}
use Rattle.wc_why.proofs.ViewLemmas.{if_ok}
use Rattle.wc_why.proofs.layout.module_of.Goals as goal

pub returns : goal.returns
returns c =
    let names = name_entries c.in_ok-names.names in
    if_ok c.laid_out.result (λ m laid. (
      names,
      names_are c.args.part.now.bytes.now (all_functions (map shown_view c.args.items.now)) c.in_ok-wanted.wanted.items names c.in_ok-wanted.ensures
          (subst (λ l. AreNamesBy c.args.part.now.bytes.now l names) c.deref.ensures.value c.in_ok-names.ensures),
      laid,
    )) c.laid_out.ensures
