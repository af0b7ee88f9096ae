-- What is required of an adapter, name by name.
use Rattle.std.proofs.Common.{◌≡◌, ℕ, ◌+◌, ◌<◌, List, length, map, take, get_or, String, Global, string_bytes, sym, ◌∙◌, ap}
use Rattle.std.specs.Borrow.{Bor}
use Rattle.indexmap.specs.IndexSet.{insert_key}
use Rattle.wc_gc.proofs.NameSetLemmas.{same_text, set_more}
use Rattle.wc_gc.specs.LiveItems.{names_of}
use Rattle.wc_texts.specs.Names.{first_occurrences}
use Rattle.wc_why.specs.Texts.{text_of}
use Rattle.wc_import_paths.proofs.PickedLemmas.{taken_more}

-- one name more, in the set of names
pub set_next : (keys new : List (String Global)) (xs : List (Bor (List ℕ))) (k : ℕ) (d : Bor (List ℕ)) (name : String Global) → k < length xs
    → string_bytes name ≡ (get_or xs k d).now → names_of keys ≡ first_occurrences (map text_of (take k xs)) → new ≡ insert_key same_text keys name
    → names_of new ≡ first_occurrences (map text_of (take (k + 1) xs))
set_next keys new xs k d name lt is known put =
    ap (map string_bytes) put
    ∙ (set_more keys (map text_of (take k xs)) name (get_or xs k d).now known is ∙ sym (ap first_occurrences (taken_more text_of xs k d lt)))
