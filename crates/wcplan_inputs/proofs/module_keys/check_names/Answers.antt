use Rattle.std.proofs.Common.{◌≡◌, ◌∙◌, All, Contains, map, ap, subst}
use Rattle.wc_selection.specs.Keys.{named_key}
use Rattle.wc_maps.specs.Texts.{AreDistinct, first_parts, text_of, text_pair}
use Rattle.wcplan_inputs.specs.Arguments.{command_view}
use Rattle.wcplan_inputs.specs.FileNames.{AreFilesNamed, IsFilesCause}
use Rattle.wcplan_inputs.specs.ModuleKeys.{adapter_names}
use Rattle.wcplan_inputs.proofs.NamesLemmas.{adapters_there, files_failed, keys_done, keys_failed}
use Rattle.wcplan_inputs.proofs.module_keys.check_names.Goals as goal

pub returns-in-Some-file_fault-clause-fault : goal.returns-in-Some-file_fault-clause-fault
returns-in-Some-file_fault-clause-fault c =
    let command = command_view c.args.command.now in
    let names : map text_of c.in_ok-adapters.adapters.items ≡ adapter_names command =
    c.in_ok-adapters.ensures ∙ ap (λ xs. first_parts (map text_pair xs)) c.deref.ensures.value in
    let others : map text_of c.in_ok-exporters.exporters.items ≡ first_parts command.adapter_exports =
    c.in_ok-exporters.ensures ∙ ap (λ xs. first_parts (map text_pair xs)) c.deref-3.ensures.value in
    let distinct = subst (λ xs. AreDistinct (map text_of xs)) c.deref-2.ensures.value (rw c.in_default.is at c.in_ok-name.ensures.none) in
    let raw =
    subst (λ xs. All (Contains (map text_of xs)) (map text_of c.deref-4.result.now)) c.deref-5.ensures.value (rw c.in_default-2.is at c.in_ok-name-2.ensures.none) in
    let there = subst (λ xs. All (Contains (map text_of c.in_ok-adapters.adapters.items)) (map text_of xs)) c.deref-4.ensures.value raw in
    let all = adapters_there command c.in_ok-adapters.adapters.items c.in_ok-exporters.exporters.items names others distinct there in
    files_failed command (map named_key c.args.keys.now) c.in_ok-adapters.adapters.items c.in-Some-file_fault.fault names all
    (subst (λ xs. IsFilesCause command.out (map text_of xs) c.in-Some-file_fault.fault) c.deref-6.ensures.value c.in-Some-file_fault.ensures.fault)

pub returns-clause-there : goal.returns-clause-there
returns-clause-there c =
    let command = command_view c.args.command.now in
    let names : map text_of c.in_ok-adapters.adapters.items ≡ adapter_names command =
    c.in_ok-adapters.ensures ∙ ap (λ xs. first_parts (map text_pair xs)) c.deref.ensures.value in
    let others : map text_of c.in_ok-exporters.exporters.items ≡ first_parts command.adapter_exports =
    c.in_ok-exporters.ensures ∙ ap (λ xs. first_parts (map text_pair xs)) c.deref-3.ensures.value in
    let distinct = subst (λ xs. AreDistinct (map text_of xs)) c.deref-2.ensures.value (rw c.in_default.is at c.in_ok-name.ensures.none) in
    let raw =
    subst (λ xs. All (Contains (map text_of xs)) (map text_of c.deref-4.result.now)) c.deref-5.ensures.value (rw c.in_default-2.is at c.in_ok-name-2.ensures.none) in
    let there = subst (λ xs. All (Contains (map text_of c.in_ok-adapters.adapters.items)) (map text_of xs)) c.deref-4.ensures.value raw in
    let all = adapters_there command c.in_ok-adapters.adapters.items c.in_ok-exporters.exporters.items names others distinct there in
    let fit = subst (AreFilesNamed command.out) names (subst (λ xs. AreFilesNamed command.out (map text_of xs)) c.deref-6.ensures.value
    c.in_default-file_fault.ensures.none) in
    keys_done command (map named_key c.args.keys.now) c.check_keys.result (all.0, all.1, fit) c.check_keys.ensures.there

pub returns-clause-fault : goal.returns-clause-fault
returns-clause-fault c =
    let command = command_view c.args.command.now in
    let names : map text_of c.in_ok-adapters.adapters.items ≡ adapter_names command =
    c.in_ok-adapters.ensures ∙ ap (λ xs. first_parts (map text_pair xs)) c.deref.ensures.value in
    let others : map text_of c.in_ok-exporters.exporters.items ≡ first_parts command.adapter_exports =
    c.in_ok-exporters.ensures ∙ ap (λ xs. first_parts (map text_pair xs)) c.deref-3.ensures.value in
    let distinct = subst (λ xs. AreDistinct (map text_of xs)) c.deref-2.ensures.value (rw c.in_default.is at c.in_ok-name.ensures.none) in
    let raw =
    subst (λ xs. All (Contains (map text_of xs)) (map text_of c.deref-4.result.now)) c.deref-5.ensures.value (rw c.in_default-2.is at c.in_ok-name-2.ensures.none) in
    let there = subst (λ xs. All (Contains (map text_of c.in_ok-adapters.adapters.items)) (map text_of xs)) c.deref-4.ensures.value raw in
    let all = adapters_there command c.in_ok-adapters.adapters.items c.in_ok-exporters.exporters.items names others distinct there in
    let fit = subst (AreFilesNamed command.out) names (subst (λ xs. AreFilesNamed command.out (map text_of xs)) c.deref-6.ensures.value
    c.in_default-file_fault.ensures.none) in
    keys_failed command (map named_key c.args.keys.now) c.check_keys.result (all.0, all.1, fit) c.check_keys.ensures.fault
