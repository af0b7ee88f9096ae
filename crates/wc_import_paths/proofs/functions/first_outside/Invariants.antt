use Rattle.std.proofs.Common.{◌≡◌, List, None, map, take}
use Rattle.wc_why.specs.Texts.{text_of}
use Rattle.wc_why.specs.Tree.{TreeCallerView}
use Rattle.wc_import_paths.specs.Functions.{first_unknown_function}
use Rattle.wc_import_paths.specs.Private.Functions.{AreKnown}
use Rattle.wc_import_paths.proofs.functions.first_outside.Given as goal

abbrev pub invariant-loop-text : goal.invariant-loop-text
invariant-loop-text l =
    (functions : List TreeCallerView) → AreKnown functions l.known → first_unknown_function functions (map text_of (take l.text-index l.texts)) ≡ None
