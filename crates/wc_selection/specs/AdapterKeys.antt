-- The keys that adapters have to export, found by their texts.
use Rattle.std.specs.Prelude.{◌≡◌, ℕ, List, map}
use Rattle.wc_selection.specs.Keys.{NamedKey}
use Rattle.wc_selection.specs.Requests.{RequestValue}
use Rattle.wc_selection.specs.RequiredTexts.{texts_under}
use Rattle.wc_selection.specs.TextLists.{listed}
use Rattle.wc_maps.specs.Texts.{text_of}
use Rattle.wc_selection.specs.declared.key_index.AdapterKeys.{AdapterKeys}

-- the index of these keys, and the texts that a request gives adapters, under their names
pub record AreAdapterKeys (q : RequestValue) (keys : List NamedKey) (a : AdapterKeys) : Type 0 where
  pub keys_are : a.index ≡ keys
  pub texts_are : (name : List ℕ) → map text_of (listed a.texts.entries name) ≡ texts_under name q.adapter_exports
