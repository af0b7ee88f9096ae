use Rattle.std.proofs.Common.{◌∙◌, ap, sym}
use Rattle.wc_read.specs.Imports.{import_value}
use Rattle.wc_why.specs.Keys.{unversioned_text, version_of}
use Rattle.wc_import_paths.specs.Private.Asked.{has_any, package_keys, versioned_keys}
use Rattle.wc_import_paths.proofs.AskedLemmas.{any_match, has_both, or_first, or_second}
use Rattle.wc_import_paths.proofs.asked.Asked.is_found.Goals as goal

pub returns-then-has_versions : goal.returns-then-has_versions
returns-then-has_versions c =
    let i = import_value c.args.import.now in
    let names = versioned_keys (unversioned_text i.module_name) (version_of i.module_name) in
    or_first (has_any c.args.self.now names i.name) (has_any c.args.self.now (package_keys i.module_name) i.name) c.has_versions.result
    (c.has_versions.ensures ∙ ap (λ u. has_any c.args.self.now (versioned_keys u (version_of i.module_name)) i.name) c.unversioned.ensures)
    c.if-has_versions.true
    ∙ (sym (has_both c.args.self.now names (package_keys i.module_name) i.name) ∙ sym (any_match c.args.self.now i))

pub returns-else-has_versions : goal.returns-else-has_versions
returns-else-has_versions c =
    let i = import_value c.args.import.now in
    let names = versioned_keys (unversioned_text i.module_name) (version_of i.module_name) in
    or_second (has_any c.args.self.now names i.name) (has_any c.args.self.now (package_keys i.module_name) i.name) c.has_versions.result c.has_package.result
    (c.has_versions.ensures ∙ ap (λ u. has_any c.args.self.now (versioned_keys u (version_of i.module_name)) i.name) c.unversioned.ensures)
    c.if-has_versions.false c.has_package.ensures
    ∙ (sym (has_both c.args.self.now names (package_keys i.module_name) i.name) ∙ sym (any_match c.args.self.now i))
