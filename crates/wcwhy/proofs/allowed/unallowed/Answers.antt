use Rattle.std.proofs.Common.{◌∙◌, ap, map}
use Rattle.wc_maps.specs.Texts.{text_of}
use Rattle.wc_read.specs.Imports.{import_value}
use Rattle.wc_import_paths.specs.Patterns.{pattern_view}
use Rattle.wc_texts.specs.Names.{first_occurrences}
use Rattle.wcwhy.specs.Allowed.{entry_view, module_names}
use Rattle.wcwhy.specs.Private.Allowed.{outside}
use Rattle.wcwhy.proofs.AllowedLemmas.{outside_is, unallowed_is}
use Rattle.wcwhy.proofs.allowed.unallowed.Goals as goal

pub returns-clause-listed : goal.returns-clause-listed
returns-clause-listed c =
    let entries = map entry_view c.args.entries.now in
    let imports = map import_value c.args.imports.now in
    c.in_ok-found.ensures
    ∙ (ap (λ z. first_occurrences (map text_of z)) c.deref-2.ensures.value
    ∙ (ap first_occurrences (c.in_ok-modules.ensures ∙ (ap (λ z. outside (map pattern_view z) imports) c.deref.ensures.value
    ∙ (ap (λ z. outside z imports) c.in_ok-patterns.ensures ∙ outside_is entries imports)))))

pub returns-clause-exact : goal.returns-clause-exact
returns-clause-exact c m =
    let names = module_names (map import_value c.args.imports.now) in
    unallowed_is (map entry_view c.args.entries.now) names (map text_of c.in_ok-found.found.items) (returns-clause-listed c) m
