use Rattle.std.proofs.Common.{◌≡◌, ◌∙◌, Bool, IfErr, IfOk, List, ap, false, length, map, not, option_map, subst, sym, true, ◌&&◌, ◌==◌, ℕ}
use Rattle.std.proofs.lemmas.Bool.{false≢true}
use Rattle.std.proofs.lemmas.List.{length-map}
use Rattle.wc_component_file.specs.Headers.{BeginsAsComponent}
use Rattle.wc_options.proofs.AdapterLemmas.{Pairs}
use Rattle.wc_program.specs.Screen.{Becomes, output_ends}
use Rattle.wc_maps.specs.Texts.{text_pair}
use Rattle.wcwhy.specs.Arguments.{command_view}
use Rattle.wcwhy.specs.Component.{IsComponentCause, IsComponentText}
use Rattle.wcwhy.specs.Program.{IsModuleCause, IsModuleText, IsPrintCause, IsPrintedOf, is_alone}
use Rattle.wcwhy.specs.Private.Execution.{PrintsSome}
use Rattle.wcwhy.specs.Private.Inputs.{allow_view, file_view}
use Rattle.wcwhy.specs.Private.Warnings.{said_view}
use Rattle.wcwhy.proofs.RunLemmas.{component_failed, component_text, module_failed, module_text}
use Rattle.wcwhy.proofs.program.print_input.Goals as goal

pub returns-then-is_component-clause-done : goal.returns-then-is_component-clause-done
returns-then-is_component-clause-done g c =
    let command = command_view c.args.command.now in
    let input = c.args.input.now in
    let allow = option_map allow_view input.allow in
    let out = Becomes (output_ends g.O.Sink.written g.O.Output.sent g.O.Sink.is_failed) c.args.out.now c.print_component.new.out in
    let begins : BeginsAsComponent input.source.items = subst BeginsAsComponent c.as_slice-source.ensures.value (c.is_component.ensures.0 c.if-is_component.true) in
    let h = subst (λ bytes. IfOk c.print_component.result (λ said. PrintsSome (IsComponentText command bytes allow (said_view said)) out)) c.as_slice-source.ensures.value
    c.print_component.ensures.done in
    component_text command input.source.items (map file_view input.adapters.items) out allow c.print_component.result begins h

pub returns-then-is_component-clause-fault : goal.returns-then-is_component-clause-fault
returns-then-is_component-clause-fault g c =
    let command = command_view c.args.command.now in
    let input = c.args.input.now in
    let out = Becomes (output_ends g.O.Sink.written g.O.Output.sent g.O.Sink.is_failed) c.args.out.now c.print_component.new.out in
    let begins : BeginsAsComponent input.source.items = subst BeginsAsComponent c.as_slice-source.ensures.value (c.is_component.ensures.0 c.if-is_component.true) in
    let h = subst (λ bytes. IfErr c.print_component.result (IsComponentCause command bytes out)) c.as_slice-source.ensures.value c.print_component.ensures.fault in
    component_failed command input.source.items (map file_view input.adapters.items) out c.print_component.result begins h

pub returns-then-is_alone-clause-done : goal.returns-then-is_alone-clause-done
returns-then-is_alone-clause-done g c =
    let command = command_view c.args.command.now in
    let input = c.args.input.now in
    let source = input.source.items in
    let adapters = map file_view input.adapters.items in
    let allow = option_map allow_view input.allow in
    let out = Becomes (output_ends g.O.Sink.written g.O.Output.sent g.O.Sink.is_failed) c.args.out.now c.print_reasons.new.out in
    let alone : is_alone command ≡ true = ap (λ (n : ℕ). n == 0 && not command.summary) (length-map c.args.command.now.adapters.items text_pair)
    ∙ (ap (λ (xs : Pairs). length xs == 0 && not command.summary) (sym c.as_slice.ensures.value) ∙ (sym c.is_alone.ensures ∙ c.if-is_alone.true)) in
    let other : ¬ BeginsAsComponent source
    = λ begins. false≢true (sym c.if-is_component.false ∙ c.is_component.ensures.1 (subst BeginsAsComponent (sym c.as_slice-source.ensures.value) begins)) in
    let h = subst (λ bytes. IfOk c.print_reasons.result (λ said. PrintsSome (IsPrintedOf command bytes allow (said_view said)) out)) c.as_slice-source.ensures.value
    c.print_reasons.ensures.done in
    module_text command source adapters out allow c.print_reasons.result other
    (subst (λ (b : Bool). IfOk c.print_reasons.result (λ said. PrintsSome (IsModuleText b command source adapters allow (said_view said)) out)) (sym alone) h)

pub returns-then-is_alone-clause-fault : goal.returns-then-is_alone-clause-fault
returns-then-is_alone-clause-fault g c =
    let command = command_view c.args.command.now in
    let input = c.args.input.now in
    let source = input.source.items in
    let adapters = map file_view input.adapters.items in
    let out = Becomes (output_ends g.O.Sink.written g.O.Output.sent g.O.Sink.is_failed) c.args.out.now c.print_reasons.new.out in
    let alone : is_alone command ≡ true = ap (λ (n : ℕ). n == 0 && not command.summary) (length-map c.args.command.now.adapters.items text_pair)
    ∙ (ap (λ (xs : Pairs). length xs == 0 && not command.summary) (sym c.as_slice.ensures.value) ∙ (sym c.is_alone.ensures ∙ c.if-is_alone.true)) in
    let other : ¬ BeginsAsComponent source
    = λ begins. false≢true (sym c.if-is_component.false ∙ c.is_component.ensures.1 (subst BeginsAsComponent (sym c.as_slice-source.ensures.value) begins)) in
    let h = subst (λ bytes. IfErr c.print_reasons.result (IsPrintCause command bytes out)) c.as_slice-source.ensures.value c.print_reasons.ensures.fault in
    module_failed command source adapters out c.print_reasons.result other
    (subst (λ (b : Bool). IfErr c.print_reasons.result (IsModuleCause b command source adapters out)) (sym alone) h)

pub returns-else-is_alone-clause-done : goal.returns-else-is_alone-clause-done
returns-else-is_alone-clause-done g c =
    let command = command_view c.args.command.now in
    let input = c.args.input.now in
    let source = input.source.items in
    let adapters = map file_view input.adapters.items in
    let allow = option_map allow_view input.allow in
    let out = Becomes (output_ends g.O.Sink.written g.O.Output.sent g.O.Sink.is_failed) c.args.out.now c.print_modules.new.out in
    let alone : is_alone command ≡ false = ap (λ (n : ℕ). n == 0 && not command.summary) (length-map c.args.command.now.adapters.items text_pair)
    ∙ (ap (λ (xs : Pairs). length xs == 0 && not command.summary) (sym c.as_slice.ensures.value) ∙ (sym c.is_alone.ensures ∙ c.if-is_alone.false)) in
    let other : ¬ BeginsAsComponent source
    = λ begins. false≢true (sym c.if-is_component.false ∙ c.is_component.ensures.1 (subst BeginsAsComponent (sym c.as_slice-source.ensures.value) begins)) in
    module_text command source adapters out allow c.print_modules.result other
    (subst (λ (b : Bool). IfOk c.print_modules.result (λ said. PrintsSome (IsModuleText b command source adapters allow (said_view said)) out)) (sym alone)
    c.print_modules.ensures.done)

pub returns-else-is_alone-clause-fault : goal.returns-else-is_alone-clause-fault
returns-else-is_alone-clause-fault g c =
    let command = command_view c.args.command.now in
    let input = c.args.input.now in
    let source = input.source.items in
    let adapters = map file_view input.adapters.items in
    let out = Becomes (output_ends g.O.Sink.written g.O.Output.sent g.O.Sink.is_failed) c.args.out.now c.print_modules.new.out in
    let alone : is_alone command ≡ false = ap (λ (n : ℕ). n == 0 && not command.summary) (length-map c.args.command.now.adapters.items text_pair)
    ∙ (ap (λ (xs : Pairs). length xs == 0 && not command.summary) (sym c.as_slice.ensures.value) ∙ (sym c.is_alone.ensures ∙ c.if-is_alone.false)) in
    let other : ¬ BeginsAsComponent source
    = λ begins. false≢true (sym c.if-is_component.false ∙ c.is_component.ensures.1 (subst BeginsAsComponent (sym c.as_slice-source.ensures.value) begins)) in
    module_failed command source adapters out c.print_modules.result other
    (subst (λ (b : Bool). IfErr c.print_modules.result (IsModuleCause b command source adapters out)) (sym alone) c.print_modules.ensures.fault)
