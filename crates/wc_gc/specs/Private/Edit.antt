-- The edit of an adapter, by its old indices, and the new ones.
use Rattle.std.specs.Prelude.{◌≡◌, ℕ, List, ◌++◌, map, length, All, Bool, true, Some}
use Rattle.std.specs.List.{enumerate_from, filter_map, slice_get}
use Rattle.std.specs.Borrow.{Bor}
use Rattle.wc_read.specs.Exports.{ExportValue}
use Rattle.wc_read.specs.Bodies.{BodyValue}
use Rattle.wc_read.specs.Items.{ItemValue, item_value}
use Rattle.wc_read.specs.Renumbering.{Renumbering, renumber_func_type}
use Rattle.wc_read.specs.Types.{FuncTypeValue, func_type_value}
use Rattle.wc_read.specs.declared.types.FuncType.{FuncType}
use Rattle.wc_read.specs.declared.items.Item.{Item}
use Rattle.wc_read.specs.Decoded.{DecodedModule, FuncCode, ItemIndex, func_code, is_code}
use Rattle.wc_gc.specs.Edit.{EditedModule, added_funcs, added_imports, added_types, edited_by, edited_func, growing_func, lazy_func, start_func}
use Rattle.wc_gc.specs.Found.{FoundView, found_view}
use Rattle.wc_gc.specs.Image.{kept_items, new_func}
use Rattle.wc_gc.specs.NewBodies.{body_written}
use Rattle.wc_gc.specs.NewIndices.{new_of}
use Rattle.wc_gc.specs.Parts.{SettingsView, settings_view}
use Rattle.wc_gc.specs.declared.edit.Edit.{Edit}
use Rattle.wc_gc.specs.declared.new_bodies.NewBody.{NewBody}

abbrev pub new_indices : Edit → Renumbering
new_indices e = new_of e.new.now

abbrev pub found_of : Edit → FoundView
found_of e = found_view e.found.now

abbrev pub settings_of : Edit → SettingsView
settings_of e = settings_view e.settings

-- how many types and functions the adapter has

abbrev pub types_of : Edit → ℕ
types_of e = e.new.now.counts.types

abbrev pub funcs_of : Edit → ℕ
funcs_of e = e.new.now.counts.funcs

-- functions that are written
abbrev pub written_funcs : List (Item ℕ NewBody) → List (ItemValue ℕ BodyValue)
written_funcs funcs = map (item_value body_written) funcs

-- a reached function of the adapter, edited, under new indices
abbrev pub new_edited : Edit → Bool → FuncCode → ItemValue ℕ BodyValue
new_edited e exported func =
    new_func (new_indices e) (edited_func (funcs_of e) (settings_of e) e.parts (found_of e) true exported func)

-- the functions that are added, under new indices

abbrev pub new_funcs : Edit → List FuncCode → List (ItemValue ℕ BodyValue)
new_funcs e funcs = map (new_func (new_indices e)) funcs

abbrev pub imports_added : Edit → List FuncCode
imports_added e = added_imports (types_of e) (settings_of e) e.parts

abbrev pub lazy_of : Edit → FuncCode
lazy_of e = lazy_func (types_of e) (funcs_of e) e.parts (found_of e)

abbrev pub growing_of : Edit → FuncCode
growing_of e = growing_func (types_of e) (settings_of e) e.parts (found_of e)

abbrev pub start_func_of : Edit → FuncCode
start_func_of e = start_func (types_of e) (funcs_of e) e.parts (found_of e)

abbrev pub funcs_added : Edit → List FuncCode
funcs_added e = added_funcs (types_of e) (funcs_of e) (settings_of e) e.parts (found_of e)

-- the adapter with some of its exports, edited
abbrev pub edited_of : Edit → DecodedModule → List ExportValue → (ItemIndex → Bool) → EditedModule
edited_of e m exports live = edited_by (settings_of e) m exports live e.parts (found_of e)

-- functions that were read, each with its index

abbrev pub edited_at : Edit → (ℕ → Bool) → ℕ × Item ℕ (Bor (List ℕ)) → ItemValue ℕ BodyValue
edited_at e exported x = new_edited e (exported x.0) (func_code x.1)

-- of functions that were read those in a set, edited, under new indices
abbrev pub live_funcs : Edit → (ℕ → Bool) → (ℕ → Bool) → List (Item ℕ (Bor (List ℕ))) → List (ItemValue ℕ BodyValue)
live_funcs e kept exported funcs = kept_items kept (length funcs) (map (edited_at e exported) (enumerate_from 0 funcs))

-- of functions that were read those of these indices, in their order
abbrev pub funcs_at : Edit → (ℕ → Bool) → List (Item ℕ (Bor (List ℕ))) → List ℕ → List (ItemValue ℕ BodyValue)
funcs_at e exported funcs indices = filter_map (slice_get (map (edited_at e exported) (enumerate_from 0 funcs))) indices

-- the functions of the image: imported ones, the import that is added, defined ones, and those that are added
abbrev pub image_funcs : Edit → (ℕ → Bool) → (ℕ → Bool) → (ℕ → Bool) → List (Item ℕ (Bor (List ℕ))) → List (ItemValue ℕ BodyValue)
image_funcs e imports defined exported funcs =
    live_funcs e imports exported funcs
    ++ (new_funcs e (imports_added e) ++ (live_funcs e defined exported funcs ++ new_funcs e (funcs_added e)))

-- the types of the image: live ones, and those that are added
abbrev pub image_types : Edit → (ℕ → Bool) → List FuncType → List FuncTypeValue
image_types e live types =
    map (renumber_func_type (new_indices e)) (kept_items live (length types) (map func_type_value types))
    ++ added_types e.parts (found_of e)

-- of functions those in a set are imported, or have code
abbrev pub AreCoded : (ℕ → Bool) → List (Item ℕ (Bor (List ℕ))) → Type 0
AreCoded kept funcs =
    (n : ℕ) (f : Item ℕ (Bor (List ℕ))) → kept n ≡ true → slice_get funcs n ≡ Some f → is_code (func_code f).def ≡ true

-- those of these indices are
abbrev pub IsCodedAt : List (Item ℕ (Bor (List ℕ))) → ℕ → Type 0
IsCodedAt funcs n = (f : Item ℕ (Bor (List ℕ))) → slice_get funcs n ≡ Some f → is_code (func_code f).def ≡ true

abbrev pub AreCodedAt : List ℕ → List (Item ℕ (Bor (List ℕ))) → Type 0
AreCodedAt indices funcs = All (IsCodedAt funcs) indices
