use Rattle.std.proofs.Common.{List, ap, length, map, refl, rules, subst, sym, vec_len, ◌∙◌, ◌≡◌, ◌⊎◌, ℕ}
use Rattle.std.proofs.lemmas.List.{length-map}
use Rattle.wc_import_paths.specs.Functions.{AreAskedOf}
use Rattle.wc_import_paths.specs.MainModules.{code_of}
use Rattle.wc_program.specs.Screen.{Becomes, output_ends}
use Rattle.wc_read.specs.Items.{func_value}
use Rattle.wc_read.specs.Modules.{ModuleValue}
use Rattle.wc_why.specs.Tree.{tree_caller_view}
use Rattle.wcwhy.specs.Arguments.{command_view}
use Rattle.wcwhy.specs.Functions.{IsFunctionFault}
use Rattle.wcwhy.specs.declared.fault.WhyFault.TheVariants.{Memory}
use Rattle.wcwhy.proofs.ModuleWayLemmas.{functions_cause, ways_shown}
use Rattle.wcwhy.proofs.module_ways.print_ways.Goals as goal

pub returns-in-Ok-clause-done : goal.returns-in-Ok-clause-done
returns-in-Ok-clause-done g c w v =
    let asked = (command_view c.args.command.now).functions in
    let known : vec_len c.code.result.now.funcs ≡ length c.code.result.now.funcs.items = search rules in
    let count : c.len-count.result ≡ length (code_of w.main).funcs = c.len-count.ensures
    ∙ (known ∙ (sym (length-map c.code.result.now.funcs.items func_value) ∙ ap (λ (m : ModuleValue). length m.funcs) (c.code.ensures ∙ ap code_of v.main))) in
    c.print_with.ensures.done w v
    (subst (λ (b : List ℕ). AreAskedOf b (length (code_of w.main).funcs) asked (map tree_caller_view c.deref.result.now)) (c.bytes.ensures ∙ v.bytes)
    (subst (λ (n : ℕ). AreAskedOf c.bytes.result.now n asked (map tree_caller_view c.deref.result.now)) count
    (subst (λ fs. AreAskedOf c.bytes.result.now c.len-count.result asked (map tree_caller_view fs)) (sym c.deref.ensures.value) c.in-Ok.ensures.asked)))

pub returns-in-Ok-clause-fault : goal.returns-in-Ok-clause-fault
returns-in-Ok-clause-fault g c w v =
    let out = Becomes (output_ends g.O.Sink.written g.O.Output.sent g.O.Sink.is_failed) c.args.out.now c.print_with.new.out in
    ways_shown (command_view c.args.command.now) w out c.print_with.result (c.print_with.ensures.fault w v)

pub returns-in-Err-clause-fault : goal.returns-in-Err-clause-fault
returns-in-Err-clause-fault g c w v =
    let view = command_view c.args.command.now in
    let out = Becomes (output_ends g.O.Sink.written g.O.Output.sent g.O.Sink.is_failed) c.args.out.now c.args.out.now in
    let known : vec_len c.code.result.now.funcs ≡ length c.code.result.now.funcs.items = search rules in
    let count : c.len-count.result ≡ length (code_of w.main).funcs = c.len-count.ensures
    ∙ (known ∙ (sym (length-map c.code.result.now.funcs.items func_value) ∙ ap (λ (m : ModuleValue). length m.funcs) (c.code.ensures ∙ ap code_of v.main))) in
    let f = c.in-Err.fault in
    functions_cause view w out refl f
    (subst (λ (b : List ℕ). (f ≡ Memory) ⊎ IsFunctionFault view b (length (code_of w.main).funcs) f) (c.bytes.ensures ∙ v.bytes)
    (subst (λ (n : ℕ). (f ≡ Memory) ⊎ IsFunctionFault view c.bytes.result.now n f) count c.in-Err.ensures.fault))
