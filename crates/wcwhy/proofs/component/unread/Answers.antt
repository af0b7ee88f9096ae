use Rattle.std.proofs.Common.{◌≡◌, ◌∙◌, Some, ap, length, option_map, refl, rules}
use Rattle.std.proofs.lemmas.Option.{slice_get-map, slice_get_read}
use Rattle.std.specs.List.{slice_get}
use Rattle.wc_component_file.specs.Files.{core_module_view}
use Rattle.wc_gc.specs.declared.fault.GcFault.TheVariants.{Read}
use Rattle.wcwhy.specs.Private.ModuleWays.{of_core}
use Rattle.wcwhy.proofs.component.unread.Goals as goal

pub returns : goal.returns
returns c =
    let items = c.args.file.now.modules.items in
    let k = c.args.index in
    let there : slice_get items k ≡ Some c.index.result.now = slice_get_read items (length items) k c.index.result.now refl c.requires (search rules) in (
      core_module_view c.index.result.now,
      slice_get-map core_module_view items k ∙ ap (option_map core_module_view) there,
      c.core_fault.ensures ∙ ap (of_core k (Read c.args.fault)) c.moved.ensures,
    )
