use Rattle.std.proofs.Common.{map}
use Rattle.wc_component_file.specs.Files.{file_view}
use Rattle.wc_component_file.specs.Told.{role_view}
use Rattle.wc_import_paths.specs.Joined.{AreJoined}
use Rattle.wcwhy.specs.Component.{ArePartsAt}
use Rattle.wcwhy.specs.Private.Component.{part_view}
use Rattle.wcwhy.proofs.component.core_parts.Given as goal

abbrev pub invariant-loop-index : goal.invariant-loop-index
invariant-loop-index l = AreJoined l.index (ArePartsAt (file_view l.file) (map role_view l.roles)) (map part_view l.parts.items)
