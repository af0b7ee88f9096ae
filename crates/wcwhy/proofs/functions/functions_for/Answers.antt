use Rattle.std.proofs.Common.{◌∙◌, ◌≡◌, ◌⊎◌, ap, map, subst}
use Rattle.wc_why.specs.Texts.{text_of}
use Rattle.wc_why.specs.Tree.{tree_caller_view}
use Rattle.wc_import_paths.specs.Functions.{first_unknown_function, functions_asked}
use Rattle.wcwhy.specs.Arguments.{command_view}
use Rattle.wcwhy.specs.Functions.{IsUnknownFault}
use Rattle.wcwhy.specs.declared.fault.WhyFault.TheVariants.{Memory}
use Rattle.wcwhy.proofs.FunctionLemmas.{unknown_is}
use Rattle.wcwhy.proofs.functions.functions_for.Goals as goal

pub returns-in-Some-clause-fault : goal.returns-in-Some-clause-fault
returns-in-Some-clause-fault c =
    let view = command_view c.args.command.now in
    let texts = c.args.command.now.functions.items in
    let functions = c.in_ok-functions.functions.items in
    let asked = c.in_ok-asked.asked.items in
    let f = c.no_function.result in
    unknown_is view c.args.bytes.now c.args.count f (map tree_caller_view functions) (map tree_caller_view asked) c.in_ok-name.field-0 c.in-Some.name
    c.in_ok-functions.ensures
    (c.in_ok-asked.ensures ∙ (ap (λ z. functions_asked (map text_of z) (map tree_caller_view c.deref.result.now)) c.deref-2.ensures.value
    ∙ ap (λ z. functions_asked (map text_of texts) (map tree_caller_view z)) c.deref.ensures.value))
    (c.in_ok-name.ensures ∙ (ap (λ z. first_unknown_function (map tree_caller_view z) (map text_of c.deref-4.result.now)) c.deref-3.ensures.value
    ∙ ap (λ z. first_unknown_function (map tree_caller_view asked) (map text_of z)) c.deref-4.ensures.value))
    c.in-Some.is
    (subst (λ z. (f ≡ Memory) ⊎ IsUnknownFault view.source (map tree_caller_view z) c.in-Some.name.now f) c.deref-in-Some.ensures.value
    c.no_function.ensures)
