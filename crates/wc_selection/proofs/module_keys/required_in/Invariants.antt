use Rattle.std.proofs.Common.{◌≡◌, map, take}
use Rattle.wc_resolve.specs.Views.{key_view}
use Rattle.wc_selection.proofs.module_keys.required_in.Given as goal
use Rattle.wc_selection.specs.Keys.{named_key}
use Rattle.wc_selection.specs.RequiredTexts.{required_in}
use Rattle.wc_maps.specs.Texts.{text_of}

abbrev pub invariant-loop-key : goal.invariant-loop-key
invariant-loop-key l = map key_view l.required.keys ≡ required_in (map text_of l.texts.keys) l.gives (map named_key (take l.key-index l.keys))
