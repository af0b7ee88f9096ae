-- Imports and the defined items are the same by every view of contents.
use Rattle.std.proofs.Common.{◌≡◌, ℕ, List, [], ◌∷◌, ◌++◌, map, refl, sym, ◌∙◌, ap, append_assoc}
use Rattle.std.specs.List.{flat_map}
use Rattle.std.proofs.lemmas.List.{length-map}
use Rattle.std.proofs.lemmas.List.Folds.{flat_map-map}
use Rattle.wc_read.specs.Imports.{ImportValue, import_value}
use Rattle.wc_read.specs.Items.{item_value}
use Rattle.wc_read.specs.Operators.{InstrValue, instr_value}
use Rattle.wc_read.specs.Bodies.{BodyValue}
use Rattle.wc_read.specs.declared.operators.Instr.{Instr}
use Rattle.wc_read.specs.declared.types.Import.{Import}
use Rattle.wc_read.specs.declared.types.ImportType.{ImportType}
use Rattle.wc_read.specs.declared.types.ImportType.TheVariants.{Func, Table, Memory, Global}
use Rattle.wc_read.specs.declared.items.Def.{Def}
use Rattle.wc_read.specs.declared.items.Def.TheVariants.{Import as imported_def, Local as local_def}
use Rattle.wc_read.specs.declared.items.Item.{Item}
use Rattle.wc_write.specs.Operators.{instr_text}
use Rattle.wc_write.specs.Spaces.{imports_of, DefinedValue, defined, defined_types, defined_contents, defined_value}
use Rattle.wc_write.specs.Modules.{built_value_by, built_imports, items_content, operators_text}
use Rattle.wc_write.specs.declared.modules.Built.{Built}
use Rattle.wc_write.specs.declared.spaces.Defined.{Defined}

-- imports

import_seen : {T C D : Type 0} (kind : T → ImportType) (view : C → D) (i : Item T C) (items : List (Item T C)) → imports_of kind (map (item_value view) items) ≡ imports_of kind (map (item_value (λ x. x)) items) → (d : Def C) → i.def ≡ d → imports_of kind (map (item_value view) (i ∷ items)) ≡ imports_of kind (map (item_value (λ x. x)) (i ∷ items))
import_seen kind view i items h (imported_def m n) e = rw e (ap (λ (r : List ImportValue). record { module_name = m.now; name = n.now; ty = kind i.ty } ∷ r) h)
import_seen kind view i items h (local_def x) e = rw e h

pub imports_seen : {T C D : Type 0} (kind : T → ImportType) (view : C → D) (items : List (Item T C)) → imports_of kind (map (item_value view) items) ≡ imports_of kind (map (item_value (λ x. x)) items)
imports_seen kind view [] = refl
imports_seen kind view (i ∷ items) = import_seen kind view i items (imports_seen kind view items) i.def refl

-- the imports of a module, group by group
pub imports_grouped : {C I : Type 0} (view : C → BodyValue) (init : I → List InstrValue) (b : Built C I) (one two three four : List Import) → map import_value one ≡ [] ++ imports_of Memory (map (item_value (λ x. x)) b.memories.items) → map import_value two ≡ map import_value one ++ imports_of Table (map (item_value (λ x. x)) b.tables.items) → map import_value three ≡ map import_value two ++ imports_of Global (map (item_value (λ x. x)) b.globals.items) → map import_value four ≡ map import_value three ++ imports_of Func (map (item_value (λ x. x)) b.funcs.items) → map import_value four ≡ built_imports (built_value_by view init b)
imports_grouped view init b one two three four e f g h =
    rw (h, g, f, e, append_assoc, append_assoc, imports_seen Memory (λ _. tt {0}) b.memories.items, imports_seen Table (λ _. tt {0}) b.tables.items, imports_seen Global init b.globals.items, imports_seen Func view b.funcs.items) refl

-- the defined items

abbrev seen_by : {T C D : Type 0} → (C → D) → DefinedValue T C → DefinedValue T D
seen_by view o = record { ty = o.ty; content = view o.content }

item_seen : {T C D : Type 0} (view : C → D) (i : Item T C) (items : List (Item T C)) → defined (map (item_value view) items) ≡ map (seen_by view) (defined (map (item_value (λ x. x)) items)) → (d : Def C) → i.def ≡ d → defined (map (item_value view) (i ∷ items)) ≡ map (seen_by view) (defined (map (item_value (λ x. x)) (i ∷ items)))
item_seen view i items h (imported_def m n) e = rw e h
item_seen {T} {C} {D} view i items h (local_def x) e = rw e (ap (λ (r : List (DefinedValue T D)). record { ty = i.ty; content = view x } ∷ r) h)

defined_seen_by : {T C D : Type 0} (view : C → D) (items : List (Item T C)) → defined (map (item_value view) items) ≡ map (seen_by view) (defined (map (item_value (λ x. x)) items))
defined_seen_by view [] = refl
defined_seen_by view (i ∷ items) = item_seen view i items (defined_seen_by view items) i.def refl

seen_again : {T C D : Type 0} (view : C → D) (os : List (Defined T C)) → map (seen_by view) (map (defined_value (λ x. x)) os) ≡ map (defined_value view) os
seen_again view [] = refl
seen_again {T} {C} {D} view (o ∷ os) = ap (λ (r : List (DefinedValue T D)). defined_value view o ∷ r) (seen_again view os)

-- items that were found are defined by every view
defined_seen : {T C D : Type 0} (view : C → D) (os : List (Defined T C)) (items : List (Item T C)) → map (defined_value (λ x. x)) os ≡ defined (map (item_value (λ x. x)) items) → map (defined_value view) os ≡ defined (map (item_value view) items)
defined_seen view os items e = sym (seen_again view os) ∙ ap (map (seen_by view)) e ∙ sym (defined_seen_by view items)

-- the contents of sections

pub content_seen : {A B : Type 0} (text : B → List ℕ) (view : A → B) (xs : List A) → items_content (λ x. text (view x)) xs ≡ items_content text (map view xs)
content_seen text view [] = refl
content_seen text view (x ∷ xs) = rw (length-map xs view, flat_map-map text view xs) refl

pub content_defined : {T C D : Type 0} (text : DefinedValue T D → List ℕ) (view : C → D) (os : List (Defined T C)) (items : List (Item T C)) → map (defined_value (λ x. x)) os ≡ defined (map (item_value (λ x. x)) items) → items_content (λ o. text (defined_value view o)) os ≡ items_content text (defined (map (item_value view) items))
content_defined text view os items e = content_seen text (defined_value view) os ∙ ap (items_content text) (defined_seen view os items e)

pub content_types : {T C D : Type 0} (text : T → List ℕ) (view : C → D) (os : List (Defined T C)) (items : List (Item T C)) → map (defined_value (λ x. x)) os ≡ defined (map (item_value (λ x. x)) items) → items_content (λ (o : Defined T C). text o.ty) os ≡ items_content text (defined_types (map (item_value view) items))
content_types {T} {C} {D} text view os items e =
    content_defined (λ (o : DefinedValue T D). text o.ty) view os items e ∙ content_seen text (λ (o : DefinedValue T D). o.ty) (defined (map (item_value view) items))

pub content_contents : {T C D : Type 0} (text : D → List ℕ) (view : C → D) (os : List (Defined T C)) (items : List (Item T C)) → map (defined_value (λ x. x)) os ≡ defined (map (item_value (λ x. x)) items) → items_content (λ (o : Defined T C). text (view o.content.now)) os ≡ items_content text (defined_contents (map (item_value view) items))
content_contents {T} {C} {D} text view os items e =
    content_defined (λ (o : DefinedValue T D). text o.content) view os items e ∙ content_seen text (λ (o : DefinedValue T D). o.content) (defined (map (item_value view) items))

pub init_texts : (is : List Instr) → flat_map (λ i. instr_text (instr_value i)) is ≡ operators_text (map instr_value is)
init_texts is = sym (flat_map-map instr_text instr_value is)
