use Rattle.std.proofs.Common.{◌≡◌, ◌<◌, ◌∙◌, Some, ap, arith, length, map, option_map, refl, rules, subst, sym, vec_len}
use Rattle.std.proofs.lemmas.List.{length-map}
use Rattle.std.proofs.lemmas.Option.{slice_get-map, slice_get_read, slice_get_within}
use Rattle.std.specs.List.{slice_get}
use Rattle.wc_component_file.specs.Files.{core_module_view, file_view}
use Rattle.wc_component_file.specs.Told.{role_view, the_main}
use Rattle.wc_program.specs.Screen.{Becomes, output_ends}
use Rattle.wcwhy.specs.Arguments.{command_view}
use Rattle.wcwhy.specs.Component.{AreParts, IsInputOf, input_with}
use Rattle.wcwhy.specs.Private.Component.{part_view}
use Rattle.wcwhy.specs.Private.Inputs.{allow_in}
use Rattle.wcwhy.proofs.ComponentLemmas.{main_there, modules_failed, modules_printed, roles_length}
use Rattle.wcwhy.proofs.component.print_roles.Goals as goal

pub core_parts-requires : goal.core_parts-requires
core_parts-requires g c =
    let roles = c.args.roles.now in
    sym (length-map roles role_view)
    ∙ (roles_length (file_view c.args.file.now) c.args.request.now.command.now.core (map role_view roles) c.requires
    ∙ length-map c.args.file.now.modules.items core_module_view)

pub index-requires : goal.index-requires
index-requires g c =
    let roles = c.args.roles.now in
    let items = c.args.file.now.modules.items in
    let known : vec_len c.args.file.now.modules ≡ length items = search rules in
    let lt = slice_get_within (map role_view roles) c.in-Some.index the_main c.in-Some.ensures.found in
    let many = roles_length (file_view c.args.file.now) c.args.request.now.command.now.core (map role_view roles) c.requires in
    let same = length-map items core_module_view in
    omega (arith, known, lt, many, same)

pub returns-in-Ok-clause-done : goal.returns-in-Ok-clause-done
returns-in-Ok-clause-done g c =
    let command = command_view c.args.request.now.command.now in
    let out = Becomes (output_ends g.O.Sink.written g.O.Output.sent g.O.Sink.is_failed) c.args.out.now c.print_parts.new.out in
    let file = file_view c.args.file.now in
    let items = c.args.file.now.modules.items in
    let roles = map role_view c.args.roles.now in
    let k = c.in-Some.index in
    let lt = slice_get_within roles k the_main c.in-Some.ensures.found in
    let many = roles_length file c.args.request.now.command.now.core roles c.requires in
    let same = length-map items core_module_view in
    let inside : k < length items = omega (arith, lt, many, same) in
    let there : slice_get items k ≡ Some c.index.result.now = slice_get_read items (length items) k c.index.result.now refl inside (search rules) in
    let core = map part_view c.deref.result.now in
    let main = core_module_view c.index.result.now in
    let are : AreParts file roles core = subst (λ ps. AreParts file roles (map part_view ps)) (sym c.deref.ensures.value) c.in-Ok.ensures in
    let is : IsInputOf command file k (input_with command main core) = record {
      roles = roles;
      are_roles = c.requires;
      is_main = c.in-Some.ensures.found;
      main = main;
      is_at = slice_get-map core_module_view items k ∙ ap (option_map core_module_view) there;
      core = core;
      are_parts = are;
      is = refl;
    } in
    modules_printed command file out k (input_with command main core) (allow_in c.args.request.now) is c.print_parts.result c.print_parts.ensures.done

pub returns-in-Ok-clause-fault : goal.returns-in-Ok-clause-fault
returns-in-Ok-clause-fault g c =
    let command = command_view c.args.request.now.command.now in
    let out = Becomes (output_ends g.O.Sink.written g.O.Output.sent g.O.Sink.is_failed) c.args.out.now c.print_parts.new.out in
    let file = file_view c.args.file.now in
    let items = c.args.file.now.modules.items in
    let roles = map role_view c.args.roles.now in
    let k = c.in-Some.index in
    let lt = slice_get_within roles k the_main c.in-Some.ensures.found in
    let many = roles_length file c.args.request.now.command.now.core roles c.requires in
    let same = length-map items core_module_view in
    let inside : k < length items = omega (arith, lt, many, same) in
    let there : slice_get items k ≡ Some c.index.result.now = slice_get_read items (length items) k c.index.result.now refl inside (search rules) in
    let core = map part_view c.deref.result.now in
    let main = core_module_view c.index.result.now in
    let are : AreParts file roles core = subst (λ ps. AreParts file roles (map part_view ps)) (sym c.deref.ensures.value) c.in-Ok.ensures in
    let is : IsInputOf command file k (input_with command main core) = record {
      roles = roles;
      are_roles = c.requires;
      is_main = c.in-Some.ensures.found;
      main = main;
      is_at = slice_get-map core_module_view items k ∙ ap (option_map core_module_view) there;
      core = core;
      are_parts = are;
      is = refl;
    } in
    modules_failed command file out k (input_with command main core) is c.print_parts.result c.print_parts.ensures.fault

pub returns-in-None-clause-fault : goal.returns-in-None-clause-fault
returns-in-None-clause-fault g c =
    let file = file_view c.args.file.now in
    let there = main_there file c.args.request.now.command.now.core (map role_view c.args.roles.now) c.requires in
    absurd (c.in-None.ensures.none there.0 there.1)
