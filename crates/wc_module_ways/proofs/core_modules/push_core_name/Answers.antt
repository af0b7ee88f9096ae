use Rattle.std.proofs.Common.{◌∙◌, refl, sym}
use Rattle.wc_module_ways.specs.CoreModules.{core_given}
use Rattle.wc_module_ways.proofs.CoreModuleLemmas.{name_left, name_taken}
use Rattle.wc_module_ways.proofs.core_modules.push_core_name.Goals as goal

pub returns-in_ok-insert : goal.returns-in_ok-insert
returns-in_ok-insert c given h =
    let core = c.args.core.now in
    name_taken given (core_given core) core.name c.args.names.now.keys c.insert.new.self.keys (sym c.is_named.ensures ∙ c.if-is_named.true) refl
    c.in_ok-insert.ensures.updates.0 h

pub returns-else-is_named : goal.returns-else-is_named
returns-else-is_named c given h =
    name_left given (core_given c.args.core.now) c.args.names.now.keys (sym c.is_named.ensures ∙ c.if-is_named.false) h
