use Rattle.std.proofs.Common.{◌∙◌, sym}
use Rattle.wc_read.specs.Imports.{import_value}
use Rattle.wcwhy.proofs.AllowedLemmas.{asked_is, unasked_is}
use Rattle.wcwhy.proofs.allowed.is_matched.Goals as goal

pub returns-then-are_there : goal.returns-then-are_there
returns-then-are_there c =
    c.is_shown.ensures ∙ asked_is c.args.asked.now (import_value c.args.import.now) (sym c.are_there.ensures ∙ c.if-are_there.true)

pub returns-else-are_there : goal.returns-else-are_there
returns-else-are_there c =
    c.if-are_there.false ∙ sym (unasked_is c.args.asked.now (import_value c.args.import.now) (sym c.are_there.ensures ∙ c.if-are_there.false))
