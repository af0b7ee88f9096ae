use Rattle.std.proofs.Common.{◌∙◌, sym, ap}
use Rattle.wc_paths.proofs.CallListLemmas.{last_kept, last_put}
use Rattle.wc_paths.specs.Private.CallLists.{is_last}
use Rattle.wc_paths.proofs.call_lists.put_once.Goals as goal

pub returns-then-is_last : goal.returns-then-is_last
returns-then-is_last c =
    last_kept c.args.functions.now.items c.args.function
    (ap (λ z. is_last z c.args.function) (sym c.deref.ensures.value) ∙ (sym c.is_last.ensures ∙ c.if-is_last.true))

pub returns : goal.returns
returns c =
    last_put c.args.functions.now.items c.push.new.self.items c.args.function
    (ap (λ z. is_last z c.args.function) (sym c.deref.ensures.value) ∙ (sym c.is_last.ensures ∙ c.if-is_last.false)) c.in_ok-push.ensures.items
