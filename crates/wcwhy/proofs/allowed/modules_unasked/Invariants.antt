use Rattle.std.proofs.Common.{◌≡◌, map, take}
use Rattle.wc_maps.specs.Texts.{text_of}
use Rattle.wc_read.specs.Imports.{import_value}
use Rattle.wcwhy.specs.Private.Allowed.{outside}
use Rattle.wcwhy.proofs.allowed.modules_unasked.Given as goal

abbrev pub invariant-loop-import : goal.invariant-loop-import
invariant-loop-import l = map text_of l.modules.items ≡ outside l.asked (map import_value (take l.import-index l.imports))
