-- What bytes spell is a module that can be spelled.
use Rattle.std.proofs.Common.{◌≡◌, ℕ, ◌<◌, ◌^◌, List, [], ◌∷◌, ◌++◌, map, Bool, true, false, Option, Some, None, refl, sym, ap, subst, append-nil}
use Rattle.std.specs.Prelude.{◌==◌, All, IfSome, MatchOption, if◌then◌else◌, ⊤}
use Rattle.std.specs.List.{filter, find, zip}
use Rattle.std.specs.Option.{option_map}
use Rattle.std.proofs.lemmas.List.Elements.{All-nil, All-cons, All-head, All-tail, All-append, filter-append}
use Rattle.wc_read.specs.Formats.{Format, SpellsNumber, SpellsVector}
use Rattle.wc_read.specs.Limits.{SpellsTable, SpellsMemory}
use Rattle.wc_read.specs.Imports.{ImportValue, SpellsImport}
use Rattle.wc_read.specs.Exports.{ExportValue, export_kind_code, SpellsExport}
use Rattle.wc_read.specs.Operators.{InstrValue, SpellsInstr}
use Rattle.wc_read.specs.Inits.{SpellsInit}
use Rattle.wc_read.specs.Globals.{LocalGlobalValue, SpellsLocalGlobal}
use Rattle.wc_read.specs.Types.{FuncTypeValue}
use Rattle.wc_read.specs.Contents.{SpellsFuncType, SpellsStart}
use Rattle.wc_read.specs.Items.{imported, local, ItemValue, FuncValue, GlobalValue}
use Rattle.wc_read.specs.Producers.{IsProducers, LastProducers}
use Rattle.wc_read.specs.Sections.{SectionValue, SpellsSection, SpellsFrames, module_header}
use Rattle.wc_read.specs.Order.{content_of}
use Rattle.wc_read.specs.SectionContents.{SectionContentsValue, HaveSectionContents}
use Rattle.wc_read.specs.Spaces.{func_of, table_of, memory_of, global_of, imported_items, local_item, defined_global, local_funcs}
use Rattle.wc_read.specs.Modules.{ModuleValue, CustomValue, module_of, SpellsModule}
use Rattle.wc_read.specs.declared.types.TableType.{TableType}
use Rattle.wc_read.specs.declared.types.MemoryType.{MemoryType}
use Rattle.wc_read.specs.declared.types.GlobalType.{GlobalType}
use Rattle.wc_read.specs.declared.types.ImportType.{ImportType}
use Rattle.wc_read.specs.declared.types.ImportType.TheVariants.{Func, Table, Memory, Global}
use Rattle.wc_read.proofs.OptionsLemmas.{some_same}
use Rattle.wc_write.specs.Values.{AreBytes, IsValType, IsFuncType, IsTable, IsImportType, IsImport, IsInstr}
use Rattle.wc_write.specs.BuiltValues.{is_import, is_imported, is_defined, HasImportsFirst, IsExport, IsWritableMemory, IsInitialiser, HasInitialiser, IsWritable}
use Rattle.wc_write.proofs.ByteLemmas.{front_bytes, back_bytes, tail_bytes}
use Rattle.wc_write.proofs.ValueLemmas.{number_fits, name_is, global_type_is, table_is, memory_is, import_is}
use Rattle.wc_write.proofs.ShortestBodyLemmas.{val_types_are, instr_is}
use Rattle.wc_write.proofs.VectorTextLemmas.{items_are}

-- contents of sections are bytes

abbrev pub HasBytes : SectionValue → Type 0
HasBytes s = AreBytes s.content

section_bytes : (bytes : List ℕ) (s : SectionValue) → SpellsSection bytes s → AreBytes bytes → HasBytes s
section_bytes bytes s t all = back_bytes t.size s.content (tail_bytes s.id (t.size ++ s.content) (rw t.cut at all))

pub all_bytes : (bytes : List ℕ) (ss : List SectionValue) → SpellsFrames bytes ss → AreBytes bytes → All HasBytes ss
all_bytes bytes ss f all = items_are SpellsSection (λ s. s.content) HasBytes section_bytes f.0 ss f.2 (back_bytes module_header f.0 (rw f.1 at all))

found_bytes : (test : Bool) (s : SectionValue) (f : Option SectionValue) → HasBytes s → IfSome (option_map (λ s. s.content) f) AreBytes → IfSome (option_map (λ s. s.content) (if test then Some s else f)) AreBytes
found_bytes true s f h rest = h
found_bytes false s f h rest = rest

pub content_bytes : (id : ℕ) (ss : List SectionValue) → All HasBytes ss → IfSome (content_of id ss) AreBytes
content_bytes id [] all = tt
content_bytes id (s ∷ ss) all = found_bytes (s.id == id) s (find (λ s. s.id == id) ss) (All-head HasBytes s ss all) (content_bytes id ss (All-tail HasBytes s ss all))

-- items of sections can be spelled

items_can : {A : Type 0} (Spells : Format A) (Can : A → Type 0) → ((bytes : List ℕ) (x : A) → Spells bytes x → AreBytes bytes → Can x) → (content : Option (List ℕ)) (xs : List A) → IfSome content AreBytes → MatchOption content (xs ≡ []) (λ c. SpellsVector Spells c xs) → All Can xs
items_can Spells Can can None xs all h = rw h (All-nil Can)
items_can Spells Can can (Some c) xs all h = items_are Spells (λ x. []) Can can h.1 xs h.4 (back_bytes h.0 h.1 (rw h.2 at all))

start_can : (content : Option (List ℕ)) (o : Option ℕ) → IfSome content AreBytes → MatchOption content (o ≡ None) (λ c. (n : ℕ) × (o ≡ Some n) × SpellsStart c n) → IfSome o (λ n. n < 2 ^ 32)
start_can None o all h = rw h tt
start_can (Some c) o all h = rw h.1 (number_fits h.2 all)

export_is : (bytes : List ℕ) (e : ExportValue) → SpellsExport bytes e → AreBytes bytes → IsExport e
export_is bytes e s all =
    let cut = rw s.cut at all in
    record {
      has_name = name_is s.name_bytes e.name s.has_name (front_bytes s.name_bytes (export_kind_code e.kind ∷ s.index_bytes) cut);
      index_fits = number_fits s.has_index (tail_bytes (export_kind_code e.kind) s.index_bytes (back_bytes s.name_bytes (export_kind_code e.kind ∷ s.index_bytes) cut));
    }

abbrev HasInit : LocalGlobalValue → Type 0
HasInit g = HasInitialiser (local g.init)

pub init_is : (bytes : List ℕ) (operators : List InstrValue) → AreBytes bytes → SpellsInit bytes operators → IsInitialiser operators
init_is bytes operators all s = record { is_init = s.1; can_be_spelled = items_are SpellsInstr (λ i. []) IsInstr instr_is bytes operators s.0 all }

global_is : (bytes : List ℕ) (g : LocalGlobalValue) → SpellsLocalGlobal bytes g → AreBytes bytes → HasInit g
global_is bytes g s all = (s.operators, s.has_init, init_is g.init s.operators (back_bytes s.type_bytes g.init (rw s.cut at all)) s.has_init)

-- imported items of a space

module _ {T C : Type 0} (of : ImportType → Option T) where
  abbrev items_of : List ImportValue → List (ItemValue T C)
  items_of is = imported_items of is

  imported_can : (Can : ItemValue T C → Type 0) → ((i : ImportValue) (t : T) → IsImport i → of i.ty ≡ Some t → Can (record { ty = t; def = imported i.module_name i.name })) → (is : List ImportValue) → All IsImport is → All Can (imported_items of is)
  imported_can Can can [] all = All-nil Can
  imported_can Can can (i ∷ is) all = more i is (All-head IsImport i is all) (imported_can Can can is (All-tail IsImport i is all)) (of i.ty) refl
    where
      more : (i : ImportValue) (is : List ImportValue) → IsImport i → All Can (items_of is) → (o : Option T) → of i.ty ≡ o → All Can (items_of (i ∷ is))
      more i is h rest None e = rw e rest
      more i is h rest (Some t) e = rw e (All-cons Can (record { ty = t; def = imported i.module_name i.name }) (items_of is) (can i t h e) rest)

  imported_kept : (is : List ImportValue) → filter is_imported (items_of is) ≡ items_of is
  imported_kept [] = refl
  imported_kept (i ∷ is) = more i is (imported_kept is) (of i.ty) refl
    where
      more : (i : ImportValue) (is : List ImportValue) → filter is_imported (items_of is) ≡ items_of is → (o : Option T) → of i.ty ≡ o → filter is_imported (items_of (i ∷ is)) ≡ items_of (i ∷ is)
      more i is h None e = rw e h
      more i is h (Some t) e = rw e (ap (λ (r : List (ItemValue T C)). record { ty = t; def = imported i.module_name i.name } ∷ r) h)

  imported_dropped : (is : List ImportValue) → filter is_defined (items_of is) ≡ []
  imported_dropped [] = refl
  imported_dropped (i ∷ is) = more i is (imported_dropped is) (of i.ty) refl
    where
      more : (i : ImportValue) (is : List ImportValue) → filter is_defined (items_of is) ≡ [] → (o : Option T) → of i.ty ≡ o → filter is_defined (items_of (i ∷ is)) ≡ []
      more i is h None e = rw e h
      more i is h (Some t) e = rw e h

-- the defined items of a space

module _ {A T C : Type 0} (made : A → ItemValue T C) (defined_is : (x : A) → is_import (made x).def ≡ false) where
  defined_kept : (xs : List A) → filter is_defined (map made xs) ≡ map made xs
  defined_kept [] = refl
  defined_kept (x ∷ xs) = rw (defined_is x) (ap (λ (r : List (ItemValue T C)). made x ∷ r) (defined_kept xs))

  defined_dropped : (xs : List A) → filter is_imported (map made xs) ≡ []
  defined_dropped [] = refl
  defined_dropped (x ∷ xs) = rw (defined_is x) (defined_dropped xs)

  space_first : (of : ImportType → Option T) (is : List ImportValue) (xs : List A) → HasImportsFirst (imported_items {T = T} {C = C} of is ++ map made xs)
  space_first of is xs = sym (
      rw (
        filter-append is_imported (imported_items {T = T} {C = C} of is) (map made xs),
        filter-append is_defined (imported_items {T = T} {C = C} of is) (map made xs),
        imported_kept {C = C} of is,
        defined_dropped xs,
        imported_dropped {C = C} of is,
        defined_kept xs,
      ) (ap (λ (r : List (ItemValue T C)). r ++ map made xs) (append-nil (imported_items of is)))
      )

made_can : {A B : Type 0} (made : A → B) (Can : B → Type 0) (Had : A → Type 0) → ((x : A) → Had x → Can (made x)) → (xs : List A) → All Had xs → All Can (map made xs)
made_can made Can Had can [] all = All-nil Can
made_can made Can Had can (x ∷ xs) all = All-cons Can (made x) (map made xs) (can x (All-head Had x xs all)) (made_can made Can Had can xs (All-tail Had x xs all))

-- all of a module

func_import : (ty : ImportType) (n : ℕ) → IsImportType ty → func_of ty ≡ Some n → n < 2 ^ 32
func_import (Func index) n h e = rw (← some_same index n e) h
func_import (Table t) n h e = absurd cc
func_import (Memory m) n h e = absurd cc
func_import (Global g) n h e = absurd cc

table_import : (ty : ImportType) (t : TableType) → IsImportType ty → table_of ty ≡ Some t → IsTable t
table_import (Func index) t h e = absurd cc
table_import (Table u) t h e = subst IsTable (some_same u t e) h
table_import (Memory m) t h e = absurd cc
table_import (Global g) t h e = absurd cc

global_import : (ty : ImportType) (g : GlobalType) → IsImportType ty → global_of ty ≡ Some g → IsValType g.content_type
global_import (Func index) g h e = absurd cc
global_import (Table t) g h e = absurd cc
global_import (Memory m) g h e = absurd cc
global_import (Global k) g h e = subst (λ (t : GlobalType). IsValType t.content_type) (some_same k g e) h

memory_import : (ty : ImportType) (m : MemoryType) → IsImportType ty → memory_of ty ≡ Some m → IsWritableMemory m
memory_import (Func index) m h e = absurd cc
memory_import (Table t) m h e = absurd cc
memory_import (Memory n) m h e = subst IsWritableMemory (some_same n m e) h
memory_import (Global g) m h e = absurd cc

abbrev IsIndex : ℕ → Type 0
IsIndex n = n < 2 ^ 32

abbrev HasIndex : FuncValue → Type 0
HasIndex f = IsIndex f.ty

abbrev pub local_func : ℕ × List ℕ → FuncValue
local_func f = record { ty = f.0; def = local f.1 }

funcs_can : (types : List ℕ) (bodies : List (List ℕ)) → All IsIndex types → All HasIndex (local_funcs types bodies)
funcs_can [] bodies all = All-nil HasIndex
funcs_can (t ∷ ts) [] all = All-nil HasIndex
funcs_can (t ∷ ts) (b ∷ bs) all = All-cons HasIndex (local_func (t, b)) (local_funcs ts bs) (All-head IsIndex t ts all) (funcs_can ts bs (All-tail IsIndex t ts all))

abbrev HasTable : ItemValue TableType ⊤ → Type 0
HasTable t = IsTable t.ty

abbrev HasMemory : ItemValue MemoryType ⊤ → Type 0
HasMemory m = IsWritableMemory m.ty

abbrev HasGlobalType : GlobalValue → Type 0
HasGlobalType g = IsValType g.ty.content_type

abbrev HasLocalType : LocalGlobalValue → Type 0
HasLocalType g = IsValType g.ty.content_type

local_type_is : (bytes : List ℕ) (g : LocalGlobalValue) → SpellsLocalGlobal bytes g → AreBytes bytes → HasLocalType g
local_type_is bytes g s all = global_type_is s.type_bytes g.ty s.has_type (front_bytes s.type_bytes g.init (rw s.cut at all))

func_type_is : (bytes : List ℕ) (f : FuncTypeValue) → SpellsFuncType bytes f → AreBytes bytes → IsFuncType f
func_type_is bytes f s all =
    let both = tail_bytes 0x60 (s.params_bytes ++ s.results_bytes) (rw s.cut at all) in (
      val_types_are s.params_bytes f.params s.has_params
          (front_bytes s.params_bytes s.results_bytes both),
      val_types_are s.results_bytes f.results s.has_results
          (back_bytes s.params_bytes s.results_bytes both),
    )

abbrev HasGlobal : GlobalValue → Type 0
HasGlobal g = HasInitialiser g.def

producers_can : (ss : List SectionValue) (o : Option (List ℕ)) → LastProducers ss o → IfSome o IsProducers
producers_can ss None l = tt
producers_can ss (Some bytes) l = l.reads.1

writable : (sections : List SectionValue) (p : SectionContentsValue) (c : CustomValue) → All HasBytes sections → HaveSectionContents sections p → LastProducers sections c.producers → IsWritable (module_of sections p c)
writable sections p c all h last =
    let imports = items_can SpellsImport IsImport import_is (content_of 2 sections) p.imports (content_bytes 2 sections all) h.has_imports in
    let types = items_can (SpellsNumber 32) IsIndex (λ bytes n s b. number_fits s b) (content_of 3 sections) p.func_types (content_bytes 3 sections all) h.has_func_types in
    let tables = items_can SpellsTable IsTable table_is (content_of 4 sections) p.tables (content_bytes 4 sections all) h.has_tables in
    let memories = items_can SpellsMemory IsWritableMemory memory_is (content_of 5 sections) p.memories (content_bytes 5 sections all) h.has_memories in
    let globals = items_can SpellsLocalGlobal HasInit global_is (content_of 6 sections) p.globals (content_bytes 6 sections all) h.has_globals in
    let global_types = items_can SpellsLocalGlobal HasLocalType local_type_is (content_of 6 sections) p.globals (content_bytes 6 sections all) h.has_globals in
    record {
      types = items_can SpellsFuncType IsFuncType func_type_is (content_of 1 sections) p.types (content_bytes 1 sections all) h.has_types;
      imports = imports;
      func_types = All-append HasIndex (imported_items func_of p.imports) (local_funcs p.func_types p.bodies) (imported_can func_of HasIndex (λ i n k e. func_import i.ty n k.has_type e) p.imports imports) (funcs_can p.func_types p.bodies types);
      tables = All-append HasTable (imported_items table_of p.imports) (map local_item p.tables) (imported_can table_of HasTable (λ i t k e. table_import i.ty t k.has_type e) p.imports imports) (made_can local_item HasTable IsTable (λ t k. k) p.tables tables);
      memories = All-append HasMemory (imported_items memory_of p.imports) (map local_item p.memories) (imported_can memory_of HasMemory (λ i m k e. memory_import i.ty m k.has_type e) p.imports imports) (made_can local_item HasMemory IsWritableMemory (λ m k. k) p.memories memories);
      globals = All-append HasGlobalType (imported_items global_of p.imports) (map defined_global p.globals)
          (imported_can global_of HasGlobalType (λ i g k e. global_import i.ty g k.has_type e) p.imports imports)
          (made_can defined_global HasGlobalType HasLocalType (λ g k. k) p.globals global_types);
      initialisers = All-append HasGlobal (imported_items global_of p.imports) (map defined_global p.globals) (imported_can global_of HasGlobal (λ i g k e. tt) p.imports imports) (made_can defined_global HasGlobal HasInit (λ g k. k) p.globals globals);
      exports = items_can SpellsExport IsExport export_is (content_of 7 sections) p.exports (content_bytes 7 sections all) h.has_exports;
      start = start_can (content_of 8 sections) p.start (content_bytes 8 sections all) h.has_start;
      producers = producers_can sections c.producers last;
      funcs_ordered = space_first local_func (λ f. refl) func_of p.imports (zip p.func_types p.bodies);
      tables_ordered = space_first local_item (λ t. refl) table_of p.imports p.tables;
      memories_ordered = space_first local_item (λ m. refl) memory_of p.imports p.memories;
      globals_ordered = space_first defined_global (λ g. refl) global_of p.imports p.globals;
    }

pub spelled_writable : (bytes : List ℕ) (m : ModuleValue) → AreBytes bytes → SpellsModule bytes m → IsWritable m
spelled_writable bytes m all s =
    let inside = s.has_sections in
    subst IsWritable (sym inside.assembled.is) (writable s.sections inside.parts inside.assembled.custom (all_bytes bytes s.sections s.has_frames all) inside.has_contents inside.assembled.has_custom.has_producers)
