-- The contents of sections spell the items that are in them.
use Rattle.std.proofs.Common.{◌≡◌, ℕ, ◌^◌, ◌<◌, List, [], ◌∷◌, ◌++◌, length, map, Option, Some, None, refl, arith}
use Rattle.std.specs.Prelude.{All, IfSome, MatchOption}
use Rattle.std.specs.List.{flat_map}
use Rattle.std.specs.Option.{option_map}
use Rattle.std.proofs.lemmas.List.{length-append, length-map}
use Rattle.std.proofs.lemmas.List.Elements.{All-nil, All-cons}
use Rattle.wc_read.specs.Formats.{Format, SpellsNumber, SpellsItems, SpellsVector}
use Rattle.wc_read.specs.Types.{FuncTypeValue, mutable_code}
use Rattle.wc_read.specs.Limits.{SpellsTable, SpellsMemory, flags_code, table_flags}
use Rattle.wc_read.specs.Imports.{ImportValue, SpellsImport}
use Rattle.wc_read.specs.Exports.{ExportValue, export_kind_code, SpellsExport}
use Rattle.wc_read.specs.Operators.{InstrValue, SpellsInstr}
use Rattle.wc_read.specs.Bodies.{BodyValue}
use Rattle.wc_read.specs.Inits.{SpellsInit}
use Rattle.wc_read.specs.Globals.{LocalGlobalValue, SpellsLocalGlobal}
use Rattle.wc_read.specs.Contents.{SpellsFuncType, SpellsSizePrefixed, SpellsStart}
use Rattle.wc_read.specs.declared.types.GlobalType.{GlobalType}
use Rattle.wc_read.specs.declared.types.TableType.{TableType}
use Rattle.wc_read.specs.declared.types.MemoryType.{MemoryType}
use Rattle.wc_write.specs.Text.{number_text, vector_text, name_text, val_type_text, bounds_text, table_text, memory_text, global_text, import_type_text, import_text}
use Rattle.wc_write.specs.Operators.{instr_text}
use Rattle.wc_write.specs.Bodies.{body_text}
use Rattle.wc_write.specs.Spaces.{DefinedValue}
use Rattle.wc_write.specs.Values.{IsValType, IsFuncType, IsImport, IsTable, IsInstr}
use Rattle.wc_write.specs.Modules.{func_type_text, export_text, operators_text, defined_global_text, code_text, items_content, SizeFits}
use Rattle.wc_write.specs.BuiltValues.{IsExport, IsWritableMemory, IsInitialiser}
use Rattle.wc_write.proofs.NumberTextLemmas.{number_some}
use Rattle.wc_write.proofs.TextLemmas.{number_32, name_spelled, global_spelled, table_spelled, memory_spelled, import_spelled}
use Rattle.wc_write.proofs.ValueTypeLemmas.{val_type_some}
use Rattle.wc_write.proofs.VectorTextLemmas.{front_shorter, back_shorter, items_spelled, vector_spelled}
use Rattle.wc_write.proofs.OperatorTextLemmas.{val_types_spelled, instr_spelled}

-- items of which others are made

made_items : {A B : Type 0} (Spells : Format B) (made : A → B) (xs : List A) (bytes : List ℕ) → SpellsItems (λ b x. Spells b (made x)) bytes xs → SpellsItems Spells bytes (map made xs)
made_items Spells made [] bytes s = s
made_items Spells made (x ∷ xs) bytes s = (s.0, s.1, s.2, s.3, made_items Spells made xs s.1 s.4)

made_vector : {A B : Type 0} (Spells : Format B) (made : A → B) (xs : List A) (bytes : List ℕ) → SpellsVector (λ b x. Spells b (made x)) bytes xs → SpellsVector Spells bytes (map made xs)
made_vector Spells made xs bytes s = (s.0, s.1, s.2, rw (length-map xs made) s.3, made_items Spells made xs s.1 s.4)

-- a section of items

module _ {A : Type 0} (Spells : Format A) (text : A → List ℕ) (Can : A → Type 0) (spells : (x : A) → Can x → length (text x) < 2 ^ 32 → Spells (text x) x) (some : (x : A) → 0 < length (text x)) where
  content_spelled : (xs : List A) → All Can xs → SizeFits (items_content text xs) → MatchOption (items_content text xs) (xs ≡ []) (λ content. SpellsVector Spells content xs)
  content_spelled [] all fitting = refl
  content_spelled (x ∷ xs) all fitting = vector_spelled Spells text Can spells some (x ∷ xs) all fitting

module _ {A B : Type 0} (Spells : Format B) (made : A → B) (text : A → List ℕ) (Can : A → Type 0) (spells : (x : A) → Can x → length (text x) < 2 ^ 32 → Spells (text x) (made x)) (some : (x : A) → 0 < length (text x)) where
  content_made : (xs : List A) → All Can xs → SizeFits (items_content text xs) → MatchOption (items_content text xs) (map made xs ≡ []) (λ content. SpellsVector Spells content (map made xs))
  content_made [] all fitting = refl
  content_made (x ∷ xs) all fitting = made_vector Spells made (x ∷ xs) (vector_text text (x ∷ xs)) (vector_spelled (λ b x. Spells b (made x)) text Can spells some (x ∷ xs) all fitting)

-- a text that begins with a number, or with a byte, has a byte
number_front : (n : ℕ) (rest : List ℕ) → 0 < length (number_text n ++ rest)
number_front n rest = omega (arith, number_some 9 n, length-append (number_text n) rest)

abbrev Any : {A : Type 0} → A → Type 0
Any x = Unit {0}

-- types

func_type_spelled : (f : FuncTypeValue) → IsFuncType f → length (func_type_text f) < 2 ^ 32 → SpellsFuncType (func_type_text f) f
func_type_spelled f h short =
    let both : length (vector_text val_type_text f.params ++ vector_text val_type_text f.results) < 2 ^ 32 = omega (arith, short) in
    record {
      params_bytes = vector_text val_type_text f.params;
      results_bytes = vector_text val_type_text f.results;
      cut = refl;
      has_params = val_types_spelled f.params h.0 (front_shorter (vector_text val_type_text f.params) (vector_text val_type_text f.results) _ both);
      has_results = val_types_spelled f.results h.1 (back_shorter (vector_text val_type_text f.params) (vector_text val_type_text f.results) _ both);
    }

pub types_content : (fs : List FuncTypeValue) → All IsFuncType fs → SizeFits (items_content func_type_text fs)
    → MatchOption (items_content func_type_text fs) (fs ≡ []) (λ content. SpellsVector SpellsFuncType content fs)
types_content fs all fitting = content_spelled SpellsFuncType func_type_text IsFuncType func_type_spelled (λ f. omega arith) fs all fitting

-- imports

import_some : (i : ImportValue) → 0 < length (import_text i)
unfolding import_text
import_some i = omega (arith, number_some 9 (length i.module_name), length-append (number_text (length i.module_name)) i.module_name, length-append (name_text i.module_name) (name_text i.name ++ import_type_text i.ty))

pub imports_content : (is : List ImportValue) → All IsImport is → SizeFits (items_content import_text is) → MatchOption (items_content import_text is) (is ≡ []) (λ content. SpellsVector SpellsImport content is)
imports_content is all fitting = content_spelled SpellsImport import_text IsImport (λ i h _. import_spelled i h) import_some is all fitting

-- indices

abbrev IsIndex : ℕ → Type 0
IsIndex n = n < 2 ^ 32

pub indices_content : (ns : List ℕ) → All (λ (n : ℕ). n < 2 ^ 32) ns → SizeFits (items_content number_text ns) → MatchOption (items_content number_text ns) (ns ≡ []) (λ content. SpellsVector (SpellsNumber 32) content ns)
indices_content ns all fitting = content_spelled (SpellsNumber 32) number_text IsIndex (λ n h _. number_32 n h) (number_some 9) ns all fitting

-- tables and memories

pub tables_content : (ts : List TableType) → All IsTable ts → SizeFits (items_content table_text ts) → MatchOption (items_content table_text ts) (ts ≡ []) (λ content. SpellsVector SpellsTable content ts)
tables_content ts all fitting = content_spelled SpellsTable table_text IsTable (λ t h _. table_spelled t h)
    (λ t. omega (arith, length-append (val_type_text t.element_type) (flags_code (table_flags t) ∷ bounds_text t.initial t.maximum))) ts all fitting

pub memories_content : (ms : List MemoryType) → All IsWritableMemory ms → SizeFits (items_content memory_text ms) → MatchOption (items_content memory_text ms) (ms ≡ []) (λ content. SpellsVector SpellsMemory content ms)
memories_content ms all fitting = content_spelled SpellsMemory memory_text IsWritableMemory (λ m h _. memory_spelled m h.0 h.1) (λ m. omega arith) ms all fitting

-- globals and their initialisers

pub init_spelled : (is : List InstrValue) → IsInitialiser is → length (operators_text is) < 2 ^ 32 → SpellsInit (operators_text is) is
init_spelled is h short = (items_spelled SpellsInstr instr_text IsInstr instr_spelled is h.can_be_spelled short, h.is_init)

abbrev pub made_global : DefinedValue GlobalType (List InstrValue) → LocalGlobalValue
made_global g = record { ty = g.ty; init = operators_text g.content }

abbrev pub IsDefinedGlobal : DefinedValue GlobalType (List InstrValue) → Type 0
IsDefinedGlobal g = IsValType g.ty.content_type × IsInitialiser g.content

defined_global_spelled : (g : DefinedValue GlobalType (List InstrValue)) → IsDefinedGlobal g → length (defined_global_text g) < 2 ^ 32
    → SpellsLocalGlobal (defined_global_text g) (made_global g)
defined_global_spelled g h short = record {
  type_bytes = global_text g.ty;
  operators = g.content;
  cut = refl;
  has_type = global_spelled g.ty h.0;
  has_init = init_spelled g.content h.1 (back_shorter (global_text g.ty) (operators_text g.content) _ short);
}

global_some : (g : DefinedValue GlobalType (List InstrValue)) → 0 < length (defined_global_text g)
global_some g = omega (
  arith,
  val_type_some g.ty.content_type,
  length-append (val_type_text g.ty.content_type)
      (mutable_code g.ty.mutable ∷ []),
  length-append (global_text g.ty) (operators_text g.content),
)

pub globals_content : (gs : List (DefinedValue GlobalType (List InstrValue))) → All IsDefinedGlobal gs → SizeFits (items_content defined_global_text gs) → MatchOption (items_content defined_global_text gs) (map made_global gs ≡ []) (λ content. SpellsVector SpellsLocalGlobal content (map made_global gs))
globals_content gs all fitting = content_made SpellsLocalGlobal made_global defined_global_text IsDefinedGlobal defined_global_spelled global_some gs all fitting

-- exports

export_spelled : (e : ExportValue) → IsExport e → SpellsExport (export_text e) e
export_spelled e h = record {
  name_bytes = name_text e.name;
  index_bytes = number_text e.index;
  cut = refl;
  has_name = name_spelled e.name h.has_name;
  has_index = number_32 e.index h.index_fits;
}

export_some : (e : ExportValue) → 0 < length (export_text e)
export_some e = omega (arith, length-append (name_text e.name) (export_kind_code e.kind ∷ number_text e.index))

pub exports_content : (es : List ExportValue) → All IsExport es → SizeFits (items_content export_text es) → MatchOption (items_content export_text es) (es ≡ []) (λ content. SpellsVector SpellsExport content es)
exports_content es all fitting = content_spelled SpellsExport export_text IsExport (λ e h _. export_spelled e h) export_some es all fitting

-- the start

pub start_content : (o : Option ℕ) → IfSome o (λ n. n < 2 ^ 32) → MatchOption (option_map number_text o) (o ≡ None) (λ content. (n : ℕ) × (o ≡ Some n) × SpellsStart content n)
start_content None h = refl
start_content (Some n) h = (n, refl, number_32 n h)

-- code

size_prefixed_spelled : (b : BodyValue) → Any b → length (code_text b) < 2 ^ 32 → SpellsSizePrefixed (code_text b) (body_text b)
size_prefixed_spelled b h short = (number_text (length (body_text b)), refl, number_32 (length (body_text b)) (back_shorter (number_text (length (body_text b))) (body_text b) _ short))

pub code_content : (bs : List BodyValue) → SizeFits (items_content code_text bs) → MatchOption (items_content code_text bs) (map body_text bs ≡ []) (λ content. SpellsVector SpellsSizePrefixed content (map body_text bs))
code_content bs fitting = content_made SpellsSizePrefixed body_text code_text Any size_prefixed_spelled (λ b. number_front (length (body_text b)) (body_text b)) bs (λ k d _. tt) fitting

-- the texts of items are shorter than the content

all_shorter : {A : Type 0} (text : A → List ℕ) (n : ℕ) (xs : List A) → length (flat_map text xs) < n → All (λ x. length (text x) < n) xs
all_shorter {A} text n [] short = All-nil (λ (x : A). length (text x) < n)
all_shorter {A} text n (x ∷ xs) short = All-cons (λ (x : A). length (text x) < n) x xs (front_shorter (text x) (flat_map text xs) n short) (all_shorter text n xs (back_shorter (text x) (flat_map text xs) n short))

pub all_item_sizes_fit : {A : Type 0} (text : A → List ℕ) (xs : List A) → SizeFits (items_content text xs) → All (λ x. length (text x) < 2 ^ 32) xs
all_item_sizes_fit {A} text [] fitting = All-nil (λ (x : A). length (text x) < 2 ^ 32)
all_item_sizes_fit text (x ∷ xs) fitting = all_shorter text (2 ^ 32) (x ∷ xs) (back_shorter (number_text (length (x ∷ xs))) (flat_map text (x ∷ xs)) _ fitting)
