-- What trimming leaves as it was: items from which no references lead to a function that is edited; and the old code of
-- functions that begin with a call.
use Rattle.std.specs.Prelude.{◌≡◌, ℕ, ◌+◌, ◌∷◌, List, length, Bool, false, ◌&&◌, ◌||◌, IsTrue, None, Some, Contains}
use Rattle.std.specs.List.{slice_get}
use Rattle.std.specs.Option.{option_map_or}
use Rattle.wc_read.specs.Bodies.{BodyValue}
use Rattle.wc_read.specs.Exports.{ExportValue}
use Rattle.wc_read.specs.Items.{local}
use Rattle.wc_read.specs.Modules.{ModuleValue, SpellsModule}
use Rattle.wc_read.specs.declared.operators.Space.{Space}
use Rattle.wc_read.specs.declared.operators.Space.TheVariants.{Types, Funcs, Tables, Memories, Globals}
use Rattle.wc_write.specs.BuiltValues.{is_defined}
use Rattle.wc_write.specs.Values.{AreBytes}
use Rattle.wc_gc.specs.AddedCode.{call}
use Rattle.wc_gc.specs.Causes.{DecidesLive}
use Rattle.wc_read.specs.Decoded.{DecodedModule, FuncCode, ItemIndex, decode, is_in}
use Rattle.wc_gc.specs.Edit.{edit, is_exported_func, lazy_func, lazy_position}
use Rattle.wc_read.specs.Entries.{entry_at, entry_refs, func_entry, refs_in}
use Rattle.wc_gc.specs.Found.{found_in, is_realloc_at}
use Rattle.wc_gc.specs.Exports.{kept_exports}
use Rattle.wc_gc.specs.LiveItems.{HasLiveBody, IsLive, TrimInput}
use Rattle.wc_gc.specs.Parts.{SettingsView, parts_of}
use Rattle.wc_graph.specs.Reached.{IsPath}
use Rattle.wc_gc.specs.TraceLaws.{AddsNothing}
use Rattle.wc_gc.specs.Unfolding.{unfolding_of, edited_module}
use Rattle.wc_gc.specs.declared.parts.Parts.{Parts}

-- an adapter, and what trimming edits it by
pub record Original : Type 0 where
  pub settings : SettingsView
  pub value : DecodedModule
  pub exports : List ExportValue
  pub live : ItemIndex → Bool

-- the parts that are added to it
abbrev pub parts : Original → Parts
parts a = parts_of a.settings (found_in a.value a.live)

-- an original after it was edited, with what is added
abbrev pub edited : Original → DecodedModule
edited a = edited_module (edit a.settings a.value a.exports a.live)

-- the functions that are edited: a realloc that is imported and reached is replaced; where code is lazy, a function that
-- is defined and exported begins with a call of it

abbrev pub is_defined_at : DecodedModule → ℕ → Bool
is_defined_at m n = option_map_or (λ (f : FuncCode). is_defined f) (slice_get m.funcs n) false

abbrev pub begins_with_call : Original → ℕ → Bool
begins_with_call a n = (parts a).lazy && (is_exported_func a.exports n && is_defined_at a.value n)

abbrev pub is_edited_in : Original → Space → ℕ → Bool
is_edited_in a Types n = false
is_edited_in a Funcs n = (a.live (Funcs, n) && is_realloc_at a.value n) || begins_with_call a n
is_edited_in a Tables n = false
is_edited_in a Memories n = false
is_edited_in a Globals n = false

abbrev pub is_edited : Original → ItemIndex → Bool
is_edited a x = is_edited_in a x.0 x.1

-- an item of the adapter that is not edited
pub record IsUnedited (a : Original) (x : ItemIndex) : Type 0 where
  pub there : IsTrue (is_in a.value x)
  pub same : is_edited a x ≡ false

-- items that are not edited, and name such items alone
pub record AreUntouched (a : Original) (has : ItemIndex → Bool) : Type 0 where
  pub unedited : (x : ItemIndex) → IsTrue (has x) → IsUnedited a x
  pub closed : (x y : ItemIndex) → IsTrue (has x) → Contains (entry_refs (entry_at a.value x)) y → IsTrue (has y)

-- an item is what it was, to every depth
abbrev pub UnfoldsAsBefore : Original → ItemIndex → Type 0
UnfoldsAsBefore a x = (n : ℕ) → unfolding_of n (edited a) x ≡ unfolding_of n a.value x

abbrev pub UntouchedUnfold : Type 0
UntouchedUnfold = (a : Original) (has : ItemIndex → Bool) → AreUntouched a has →
    (x : ItemIndex) → IsTrue (has x) → UnfoldsAsBefore a x

-- references lead from an item to items alone that are not edited
abbrev pub NamesUnedited : Original → ItemIndex → Type 0
NamesUnedited a x = (path : List ItemIndex) (y : ItemIndex) →
    IsPath (λ z. entry_refs (entry_at a.value z)) x path y →
    IsUnedited a y

abbrev pub UneditedUnfold : Type 0
UneditedUnfold = (a : Original) (x : ItemIndex) → NamesUnedited a x → UnfoldsAsBefore a x

-- an adapter to which nothing is added, and of which no imported realloc is reached, is what it was but for the exports that
-- are dropped and a start function
abbrev pub EditsNothing : Type 0
EditsNothing = (a : Original) → AddsNothing a.settings (found_in a.value a.live) →
    edited a ≡ record a.value { exports = a.exports; start = None }

-- an adapter that was read, and its live items
abbrev pub original_of : SettingsView → TrimInput → ModuleValue → (ItemIndex → Bool) → Original
original_of s w m live = record {
  settings = s;
  value = decode m;
  exports = kept_exports w.required m.exports;
  live = live;
}

-- a live item of an adapter that has no faulty live body, from which no items lead to one that is edited
pub record IsUntouched (s : SettingsView) (w : TrimInput) (m : ModuleValue) (live : ItemIndex → Bool) (x : ItemIndex) : Type 0 where
  pub bytes : AreBytes w.bytes
  pub spelled : SpellsModule w.bytes m
  pub decides : DecidesLive w.required m live
  pub in_range : ¬ (HasLiveBody w.required m)
  pub is_live : IsLive w.required m x
  pub leads : (path : List ItemIndex) (y : ItemIndex) → IsPath (refs_in (decode m)) x path y →
      is_edited (original_of s w m live) y ≡ false

abbrev pub LiveUnfold : Type 0
LiveUnfold = (s : SettingsView) (w : TrimInput) (m : ModuleValue) (live : ItemIndex → Bool) (x : ItemIndex) →
    IsUntouched s w m live x → UnfoldsAsBefore (original_of s w m live) x

-- the index of the lazy code
abbrev pub lazy_index : Original → ℕ
lazy_index a = length a.value.funcs + lazy_position (parts a)

-- a defined function by its type, its locals and its operators
abbrev pub func_of : FuncCode → BodyValue → FuncCode
func_of f b = record { ty = f.ty; def = local (Some b) }

-- a function that begins with a call has its old type, locals and code after that; what it calls is the lazy code
pub record KeepsCode (a : Original) (n : ℕ) (f : FuncCode) (b : BodyValue) : Type 0 where
  pub code : entry_at (edited a) (Funcs, n)
      ≡ func_entry (func_of f (record { locals = b.locals; operators = call (lazy_index a) ∷ b.operators }))
  pub callee : entry_at (edited a) (Funcs, lazy_index a)
      ≡ func_entry (lazy_func (length a.value.types) (length a.value.funcs) (parts a) (found_in a.value a.live))

abbrev pub CallsKeepCode : Type 0
CallsKeepCode = (a : Original) (n : ℕ) (f : FuncCode) (b : BodyValue) → IsTrue (begins_with_call a n) →
    slice_get a.value.funcs n ≡ Some f →
    f.def ≡ local (Some b) →
    KeepsCode a n f b
