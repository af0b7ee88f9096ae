use Rattle.std.proofs.Common.{length, map, refl, rules, subst, sym, vec_len, ◌∙◌, ◌≡◌, ◌⊎◌, ℕ}
use Rattle.std.proofs.lemmas.List.{length-map}
use Rattle.wc_import_paths.specs.Followed.{followed_view}
use Rattle.wc_import_paths.specs.Functions.{AreAskedOf}
use Rattle.wc_program.specs.Screen.{Becomes, output_ends}
use Rattle.wc_read.specs.Items.{func_value}
use Rattle.wc_why.specs.Tree.{tree_caller_view}
use Rattle.wcwhy.specs.Arguments.{command_view}
use Rattle.wcwhy.specs.Functions.{IsFunctionFault}
use Rattle.wcwhy.specs.declared.fault.WhyFault.TheVariants.{Memory}
use Rattle.wcwhy.proofs.ExecutionLemmas.{function_cause, tree_cause}
use Rattle.wcwhy.proofs.execution.print_known.Goals as goal

pub returns-in-Ok-clause-done : goal.returns-in-Ok-clause-done
returns-in-Ok-clause-done g c =
    let f = c.args.followed.now in
    let asked = (command_view c.args.command.now).functions in
    let known : vec_len c.args.followed.now.code.funcs ≡ length c.args.followed.now.code.funcs.items = search rules in
    let count : c.len-count.result ≡ length (followed_view f).code.funcs = c.len-count.ensures ∙ (known ∙ sym (length-map f.code.funcs.items func_value)) in
    c.print_with.ensures.done (subst (λ (n : ℕ). AreAskedOf f.bytes.now n asked (map tree_caller_view c.deref.result.now)) count
    (subst (λ fs. AreAskedOf f.bytes.now c.len-count.result asked (map tree_caller_view fs)) (sym c.deref.ensures.value) c.in-Ok.ensures.asked))

pub returns-in-Ok-clause-fault : goal.returns-in-Ok-clause-fault
returns-in-Ok-clause-fault g c =
    let out = Becomes (output_ends g.O.Sink.written g.O.Output.sent g.O.Sink.is_failed) c.args.out.now c.print_with.new.out in
    tree_cause (command_view c.args.command.now) c.args.followed.now out c.print_with.result c.print_with.ensures.fault

pub returns-in-Err-clause-fault : goal.returns-in-Err-clause-fault
returns-in-Err-clause-fault g c =
    let f = c.args.followed.now in
    let view = command_view c.args.command.now in
    let out = Becomes (output_ends g.O.Sink.written g.O.Output.sent g.O.Sink.is_failed) c.args.out.now c.args.out.now in
    let known : vec_len c.args.followed.now.code.funcs ≡ length c.args.followed.now.code.funcs.items = search rules in
    let count : c.len-count.result ≡ length (followed_view f).code.funcs = c.len-count.ensures ∙ (known ∙ sym (length-map f.code.funcs.items func_value)) in
    function_cause view f out refl c.in-Err.fault
    (subst (λ (n : ℕ). (c.in-Err.fault ≡ Memory) ⊎ IsFunctionFault view f.bytes.now n c.in-Err.fault) count c.in-Err.ensures.fault)
