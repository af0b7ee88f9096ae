use Rattle.std.proofs.Common.{◌≡◌, ℕ, List, map, take}
use Rattle.wc_selection.proofs.key_index.texts_by_name.Given as goal
use Rattle.wc_selection.specs.RequiredTexts.{texts_under}
use Rattle.wc_selection.specs.TextLists.{listed}
use Rattle.wc_maps.specs.Texts.{text_of, text_pair}

abbrev pub invariant-loop-name : goal.invariant-loop-name
invariant-loop-name l = (name : List ℕ) → map text_of (listed l.texts.entries name) ≡ texts_under name (map text_pair (take l.name-index l.pairs))
