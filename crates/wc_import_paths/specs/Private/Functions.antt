-- Sets of indices and of names.
use Rattle.std.specs.Prelude.{◌≡◌, ℕ, Bool, false, ◌||◌, List, nat_eq, string_bytes, String}
use Rattle.std.specs.List.{list_any}
use Rattle.std.specs.Option.{option_map_or}
use Rattle.std.specs.Str.{bytes_eq}
use Rattle.std.specs.declared.alloc.Global.{Global}
use Rattle.wc_why.specs.Tree.{TreeCallerView}
use Rattle.wc_why_text.specs.RustNames.{rust_name}
use Rattle.wc_import_paths.specs.Functions.{asks_index, asks_name}
use Rattle.wc_import_paths.specs.declared.functions.FunctionKeys.{FunctionKeys}

-- a set has an index, a name
abbrev pub has_index : List ℕ → ℕ → Bool
has_index keys n = list_any (nat_eq n) keys

abbrev pub has_name : List (String Global) → List ℕ → Bool
has_name keys t = list_any (λ k. bytes_eq t (string_bytes k)) keys

-- what texts ask for
pub record AreWanted (texts : List (List ℕ)) (k : FunctionKeys) : Type 0 where
  pub indices : (n : ℕ) → has_index k.indices.keys n ≡ list_any (asks_index n) texts
  pub names : (t : List ℕ) → has_name k.names.keys t ≡ list_any (asks_name t) texts

-- a name of a function is a text: the one in the module, or the one that is shown
abbrev pub is_either : List ℕ → List ℕ → Bool
is_either text name = bytes_eq text name || bytes_eq text (rust_name name)

abbrev pub is_called : List ℕ → TreeCallerView → Bool
is_called text f = option_map_or (is_either text) f.name false

-- what functions are known by
pub record AreKnown (functions : List TreeCallerView) (k : FunctionKeys) : Type 0 where
  pub indices : (n : ℕ) → has_index k.indices.keys n ≡ list_any (λ (f : TreeCallerView). nat_eq n f.index) functions
  pub names : (t : List ℕ) → has_name k.names.keys t ≡ list_any (is_called t) functions

-- what one more text, or one more function, adds
pub record AddsText (before after : FunctionKeys) (text : List ℕ) : Type 0 where
  pub indices : (n : ℕ) → has_index after.indices.keys n ≡ (has_index before.indices.keys n || asks_index n text)
  pub names : (t : List ℕ) → has_name after.names.keys t ≡ (has_name before.names.keys t || asks_name t text)

pub record AddsFunction (before after : FunctionKeys) (f : TreeCallerView) : Type 0 where
  pub indices : (n : ℕ) → has_index after.indices.keys n ≡ (has_index before.indices.keys n || nat_eq n f.index)
  pub names : (t : List ℕ) → has_name after.names.keys t ≡ (has_name before.names.keys t || is_called t f)

-- and a name, in the module and as it is shown
abbrev pub AddsName : List (String Global) → List (String Global) → List ℕ → Type 0
AddsName before after name = (t : List ℕ) → has_name after t ≡ (has_name before t || is_either t name)

abbrev pub has_either : List (String Global) → List ℕ → Bool
has_either keys name = has_name keys name || has_name keys (rust_name name)
