-- The text of a module spells it, and no other.
use Rattle.std.proofs.Common.{◌≡◌, ℕ, ◌^◌, ◌<◌, List, [], ◌∷◌, ◌++◌, length, map, Option, Some, None, refl, sym, ◌∙◌, subst, arith, append-nil}
use Rattle.std.specs.Prelude.{All, MatchOption, ⊤}
use Rattle.std.specs.List.{AllZip, filter, flat_map, slice_index_or}
use Rattle.std.proofs.lemmas.List.{length-map}
use Rattle.std.proofs.lemmas.List.Elements.{All-nil, All-cons, All-head, All-tail, All-map}
use Rattle.wc_read.specs.Formats.{Format, SpellsNumber, SpellsVector}
use Rattle.wc_read.specs.Limits.{SpellsTable, SpellsMemory}
use Rattle.wc_read.specs.Imports.{SpellsImport}
use Rattle.wc_read.specs.Exports.{SpellsExport}
use Rattle.wc_read.specs.Globals.{SpellsLocalGlobal}
use Rattle.wc_read.specs.Contents.{SpellsFuncType, SpellsSizePrefixed, SpellsStart}
use Rattle.wc_read.specs.Items.{DefValue, imported, local, ItemValue, FuncValue, TableValue, MemoryValue, GlobalValue}
use Rattle.wc_read.specs.Operators.{InstrValue}
use Rattle.wc_read.specs.Bodies.{BodyValue, SpellsBody}
use Rattle.wc_read.specs.Inits.{SpellsInit}
use Rattle.wc_read.specs.Reading.Inits.{init_at}
use Rattle.wc_write.specs.Values.{IsValType, IsBody}
use Rattle.wc_read.specs.Order.{content_of}
use Rattle.wc_read.specs.SectionContents.{SectionContentsValue, HasItems, HasContent, HaveSectionContents}
use Rattle.wc_read.specs.Spaces.{func_of, table_of, memory_of, global_of, imported_items, local_item, defined_global, local_funcs}
use Rattle.wc_read.specs.Modules.{ModuleValue, is_segments, CustomValue, module_of, SpellsModule}
use Rattle.wc_read.specs.declared.types.GlobalType.{GlobalType}
use Rattle.wc_read.specs.declared.types.ImportType.TheVariants.{Func, Table, Memory, Global}
use Rattle.wc_read.proofs.MeetsLemmas.{one_value}
use Rattle.wc_read.proofs.InitsLemmas.{init_meets}
use Rattle.wc_read.proofs.ModulesLemmas.{modules_one}
use Rattle.wc_write.specs.Text.{number_text, global_text}
use Rattle.wc_write.specs.Bodies.{body_text}
use Rattle.wc_write.specs.Spaces.{imports_of, DefinedValue, defined, defined_types, defined_contents}
use Rattle.wc_write.specs.Modules.{BuiltValue, built_imports, defined_global_text, code_text, operators_text, optional_sections, optional_section_text, built_text, SizesFit}
use Rattle.wc_read.specs.Items.{item_seen}
use Rattle.wc_write.specs.BuiltValues.{written_module, IsItemOf, IsModuleOf, IsInitialiser, IsBuilt, IsReadBody, IsReadInit, IsRead}
use Rattle.wc_write.proofs.BodyTextLemmas.{body_read}
use Rattle.wc_write.proofs.VectorTextLemmas.{back_shorter}
use Rattle.wc_write.proofs.ModuleSectionLemmas.{SectionSizes, each_size_fits}
use Rattle.wc_write.proofs.SectionLemmas.{sections_of, SectionsAfter, sections_after_more, sections_after_last, or_none, content_at}
use Rattle.wc_write.proofs.ContentLemmas.{types_content, imports_content, indices_content, tables_content, memories_content, init_spelled, made_global, IsDefinedGlobal, globals_content, exports_content, start_content, code_content, all_item_sizes_fit}
use Rattle.wc_write.proofs.SpaceLemmas.{content_of_global, type_of_global, imported_front, imported_none, defined_back, space_is, items_same, funcs_zipped, map_again, of_groups}

-- the sections

all_sections_after : (b : BuiltValue) → IsBuilt b → SectionSizes b → SectionsAfter 0 (flat_map optional_section_text (optional_sections b)) (sections_of (optional_sections b)) b.producers
unfolding optional_sections
all_sections_after b h s =
    sections_after_more 0 1 _ _ _ _ (λ e. absurd (omega arith)) (omega arith) (omega arith) refl s.types
    (sections_after_more 1 2 _ _ _ _ (λ e. absurd (omega arith)) (omega arith) (omega arith) refl s.imports
    (sections_after_more 2 3 _ _ _ _ (λ e. absurd (omega arith)) (omega arith) (omega arith) refl s.func_types
    (sections_after_more 3 4 _ _ _ _ (λ e. absurd (omega arith)) (omega arith) (omega arith) refl s.tables
    (sections_after_more 4 5 _ _ _ _ (λ e. absurd (omega arith)) (omega arith) (omega arith) refl s.memories
    (sections_after_more 5 6 _ _ _ _ (λ e. absurd (omega arith)) (omega arith) (omega arith) refl s.globals
    (sections_after_more 6 7 _ _ _ _ (λ e. absurd (omega arith)) (omega arith) (omega arith) refl s.exports
    (sections_after_more 7 8 _ _ _ _ (λ e. absurd (omega arith)) (omega arith) (omega arith) refl s.start
    (sections_after_more 8 10 _ _ _ _ (λ e. absurd (omega arith)) (omega arith) (omega arith) refl s.code
    (sections_after_last 11 b.producers h.producers s.producers)))))))))

-- their contents

items_at : {A : Type 0} (id : ℕ) (Spells : Format (List A)) (b : BuiltValue) (content : Option (List ℕ)) (xs : List A) → content_of id (sections_of (optional_sections b)) ≡ content → MatchOption content (xs ≡ []) (λ c. Spells c xs) → HasItems id Spells (sections_of (optional_sections b)) xs
items_at id Spells b content xs e h = subst (λ (o : Option (List ℕ)). MatchOption o (xs ≡ []) (λ c. Spells c xs)) (sym e) h

start_at : (b : BuiltValue) (content : Option (List ℕ)) → content_of 8 (sections_of (optional_sections b)) ≡ content → MatchOption content (b.start ≡ None) (λ c. (n : ℕ) × (b.start ≡ Some n) × SpellsStart c n) → HasContent 8 SpellsStart (sections_of (optional_sections b)) b.start
start_at b content e h = subst (λ (o : Option (List ℕ)). MatchOption o (b.start ≡ None) (λ c. (n : ℕ) × (b.start ≡ Some n) × SpellsStart c n)) (sym e) h

abbrev parts_of : BuiltValue → SectionContentsValue
parts_of b = record {
  types = b.types;
  imports = built_imports b;
  func_types = defined_types b.funcs;
  tables = defined_types b.tables;
  memories = defined_types b.memories;
  globals = map made_global (defined b.globals);
  exports = b.exports;
  start = b.start;
  bodies = map body_text (defined_contents b.funcs);
}

-- initialisers, by their globals
abbrev HasValType : GlobalType → Type 0
HasValType g = IsValType g.content_type

defined_globals : (gs : List (DefinedValue GlobalType (List InstrValue))) → All HasValType (map type_of_global gs)
    → All IsInitialiser (map content_of_global gs) → All IsDefinedGlobal gs
defined_globals [] t h = All-nil IsDefinedGlobal
defined_globals (g ∷ gs) t h =
    All-cons IsDefinedGlobal g gs (All-head HasValType g.ty (map type_of_global gs) t, All-head IsInitialiser g.content (map content_of_global gs) h)
    (defined_globals gs (All-tail HasValType g.ty (map type_of_global gs) t) (All-tail IsInitialiser g.content (map content_of_global gs) h))

has_contents : (b : BuiltValue) → IsBuilt b → SectionSizes b → HaveSectionContents (sections_of (optional_sections b)) (parts_of b)
unfolding optional_sections
has_contents b h s = record {
  has_types = items_at 1 (SpellsVector SpellsFuncType) b _ b.types (content_at 1 (optional_sections b) ∙ or_none _) (types_content b.types h.types s.types);
  has_imports = items_at 2 (SpellsVector SpellsImport) b _ (built_imports b) (content_at 2 (optional_sections b) ∙ or_none _) (imports_content (built_imports b) h.imports s.imports);
  has_func_types = items_at 3 (SpellsVector (SpellsNumber 32)) b _ (defined_types b.funcs) (content_at 3 (optional_sections b) ∙ or_none _) (indices_content (defined_types b.funcs) h.func_types s.func_types);
  has_tables = items_at 4 (SpellsVector SpellsTable) b _ (defined_types b.tables) (content_at 4 (optional_sections b) ∙ or_none _) (tables_content (defined_types b.tables) h.tables s.tables);
  has_memories = items_at 5 (SpellsVector SpellsMemory) b _ (defined_types b.memories) (content_at 5 (optional_sections b) ∙ or_none _) (memories_content (defined_types b.memories) h.memories s.memories);
  has_globals = items_at 6 (SpellsVector SpellsLocalGlobal) b _ (map made_global (defined b.globals)) (content_at 6 (optional_sections b) ∙ or_none _)
      (globals_content (defined b.globals) (defined_globals (defined b.globals) h.globals h.initialisers) s.globals);
  has_exports = items_at 7 (SpellsVector SpellsExport) b _ b.exports (content_at 7 (optional_sections b) ∙ or_none _) (exports_content b.exports h.exports s.exports);
  has_start = start_at b _ (content_at 8 (optional_sections b) ∙ or_none _) (start_content b.start h.start);
  has_bodies = items_at 10 (SpellsVector SpellsSizePrefixed) b _ (map body_text (defined_contents b.funcs)) (content_at 10 (optional_sections b) ∙ or_none _) (code_content (defined_contents b.funcs) s.code);
}

-- as many types of functions as bodies
as_many : (os : List (DefinedValue ℕ BodyValue)) → length (map (λ o. o.ty) os) ≡ length (map body_text (map (λ o. o.content) os))
as_many os = length-map os (λ o. o.ty) ∙ sym (length-map os (λ o. o.content)) ∙ sym (length-map (map (λ o. o.content) os) body_text)

-- the spaces

funcs_are : (b : BuiltValue) → IsBuilt b → map (item_seen body_text) b.funcs ≡ imported_items func_of (built_imports b) ++ local_funcs (defined_types b.funcs) (map body_text (defined_contents b.funcs))
funcs_are b h = space_is body_text b.funcs _ _ h.funcs_ordered
    (of_groups {D = List ℕ} func_of (imports_of Memory b.memories) (imports_of Table b.tables) (imports_of Global b.globals) (imports_of Func b.funcs)
    ∙ rw (imported_none {D = List ℕ} func_of Memory (λ m. refl) b.memories, imported_none {D = List ℕ} func_of Table (λ t. refl) b.tables, imported_none {D = List ℕ} func_of Global (λ g. refl) b.globals) (imported_front func_of Func (λ n. refl) body_text b.funcs))
    (funcs_zipped body_text (defined b.funcs) ∙ defined_back body_text (λ o. record { ty = o.ty; def = local (body_text o.content) }) (λ t x. refl) b.funcs)

tables_are : (b : BuiltValue) → IsBuilt b → b.tables ≡ imported_items table_of (built_imports b) ++ map local_item (defined_types b.tables)
tables_are b h = sym (items_same b.tables) ∙ space_is (λ (x : ⊤). x) b.tables _ _ h.tables_ordered
    (of_groups {D = ⊤} table_of (imports_of Memory b.memories) (imports_of Table b.tables) (imports_of Global b.globals) (imports_of Func b.funcs)
    ∙ rw (imported_none {D = ⊤} table_of Memory (λ m. refl) b.memories, imported_none {D = ⊤} table_of Global (λ g. refl) b.globals, imported_none {D = ⊤} table_of Func (λ n. refl) b.funcs) (append-nil _ ∙ imported_front table_of Table (λ t. refl) (λ (x : ⊤). x) b.tables))
    (map_again local_item (λ o. o.ty) (defined b.tables) ∙ defined_back (λ (x : ⊤). x) (λ o. local_item o.ty) (λ t x. refl) b.tables)

memories_are : (b : BuiltValue) → IsBuilt b → b.memories ≡ imported_items memory_of (built_imports b) ++ map local_item (defined_types b.memories)
memories_are b h = sym (items_same b.memories) ∙ space_is (λ (x : ⊤). x) b.memories _ _ h.memories_ordered
    (of_groups {D = ⊤} memory_of (imports_of Memory b.memories) (imports_of Table b.tables) (imports_of Global b.globals) (imports_of Func b.funcs)
    ∙ rw (imported_none {D = ⊤} memory_of Table (λ t. refl) b.tables, imported_none {D = ⊤} memory_of Global (λ g. refl) b.globals, imported_none {D = ⊤} memory_of Func (λ n. refl) b.funcs) (append-nil _ ∙ imported_front memory_of Memory (λ m. refl) (λ (x : ⊤). x) b.memories))
    (map_again local_item (λ o. o.ty) (defined b.memories) ∙ defined_back (λ (x : ⊤). x) (λ o. local_item o.ty) (λ t x. refl) b.memories)

globals_are : (b : BuiltValue) → IsBuilt b → map (item_seen operators_text) b.globals ≡ imported_items global_of (built_imports b) ++ map defined_global (map made_global (defined b.globals))
globals_are b h = space_is operators_text b.globals _ _ h.globals_ordered
    (of_groups {D = List ℕ} global_of (imports_of Memory b.memories) (imports_of Table b.tables) (imports_of Global b.globals) (imports_of Func b.funcs)
    ∙ rw (imported_none {D = List ℕ} global_of Memory (λ m. refl) b.memories, imported_none {D = List ℕ} global_of Table (λ t. refl) b.tables, imported_none {D = List ℕ} global_of Func (λ n. refl) b.funcs) (append-nil _ ∙ imported_front global_of Global (λ g. refl) operators_text b.globals))
    (map_again defined_global made_global (defined b.globals) ∙ defined_back operators_text (λ o. defined_global (made_global o)) (λ t x. refl) b.globals)

-- the module of the sections

made : BuiltValue → List FuncValue → List TableValue → List MemoryValue → List GlobalValue → List ℕ → ModuleValue
made b funcs tables memories globals ids = record {
  types = b.types;
  imports = built_imports b;
  funcs = funcs;
  tables = tables;
  memories = memories;
  globals = globals;
  exports = b.exports;
  start = b.start;
  global_names = [];
  producers = b.producers;
  ids = ids;
}

made_same : (b : BuiltValue) (f g : List FuncValue) (t u : List TableValue) (m n : List MemoryValue) (x y : List GlobalValue) (i j : List ℕ) → f ≡ g → t ≡ u → m ≡ n → x ≡ y → i ≡ j → made b f t m x i ≡ made b g u n y j
made_same b f g t u m n x y i j e1 e2 e3 e4 e5 = rw (e1, e2, e3, e4, e5) refl

abbrev custom_of : BuiltValue → CustomValue
custom_of b = record { global_names = []; producers = b.producers }

module_is : (b : BuiltValue) → IsBuilt b → filter is_segments (map (λ s. s.id) (sections_of (optional_sections b))) ≡ [] → written_module b ≡ module_of (sections_of (optional_sections b)) (parts_of b) (custom_of b)
unfolding made
module_is b h none = made_same b _ _ _ _ _ _ _ _ _ _ (funcs_are b h) (tables_are b h) (memories_are b h) (globals_are b h) (sym none)

module_spelled : (b : BuiltValue) → IsBuilt b → SectionSizes b → SpellsModule (built_text b) (written_module b)
unfolding built_text
module_spelled b h s =
    let all = all_sections_after b h s in
    record {
      sections = sections_of (optional_sections b);
      has_frames = (flat_map optional_section_text (optional_sections b), refl, all.spelled);
      has_sections = record {
        ordered = record { each = all.each; ordered = all.ordered };
        parts = parts_of b;
        has_contents = has_contents b h s;
        as_many = as_many (defined b.funcs);
        assembled = record {
          custom = custom_of b;
          has_custom = record { pairs = []; has_pairs = all.unnamed; has_names = refl; has_producers = all.last };
          is = module_is b h all.no_segments;
        };
        valid = h.valid;
      };
    }

-- bodies and initialisers

all_both : {X : Type 0} (P Q R : X → Type 0) → ((x : X) → P x → Q x → R x) → (xs : List X) → All P xs → All Q xs → All R xs
all_both P Q R both xs p q k d within = both (slice_index_or xs k d) (p k d within) (q k d within)

abbrev HasShortCode : BodyValue → Type 0
HasShortCode v = length (code_text v) < 2 ^ 32

bodies_read : (b : BuiltValue) → IsBuilt b → SectionSizes b → All IsReadBody (defined_contents b.funcs)
bodies_read b h s =
    all_both IsBody HasShortCode IsReadBody (λ v is short. body_read v is (back_shorter (number_text (length (body_text v))) (body_text v) _ short)) (defined_contents b.funcs) h.bodies (all_item_sizes_fit code_text (defined_contents b.funcs) s.code)

abbrev HasShortText : DefinedValue GlobalType (List InstrValue) → Type 0
HasShortText g = length (defined_global_text g) < 2 ^ 32

abbrev IsReadGlobal : DefinedValue GlobalType (List InstrValue) → Type 0
IsReadGlobal g = IsReadInit g.content

pub init_read : (operators : List InstrValue) → IsInitialiser operators → length (operators_text operators) < 2 ^ 32 → IsReadInit operators
init_read operators h short =
    let s = init_spelled operators h short in
    (s, λ v t. one_value SpellsInit init_at init_meets (operators_text operators) v operators t s)

global_read : (g : DefinedValue GlobalType (List InstrValue)) → IsDefinedGlobal g → HasShortText g → IsReadGlobal g
global_read g h short = init_read g.content h.1 (back_shorter (global_text g.ty) (operators_text g.content) _ short)

initialisers_read : (b : BuiltValue) → IsBuilt b → SectionSizes b → All IsReadInit (defined_contents b.globals)
initialisers_read b h s =
    All-map IsReadInit content_of_global (defined b.globals)
    (all_both IsDefinedGlobal HasShortText IsReadGlobal global_read (defined b.globals) (defined_globals (defined b.globals) h.globals h.initialisers)
    (all_item_sizes_fit defined_global_text (defined b.globals) s.globals))

-- the module that is read is one of the built module's

abbrev IsSpelled : {C : Type 0} → Format C → (C → List ℕ) → C → Type 0
IsSpelled Spells text x = Spells (text x) x

module _ {T C : Type 0} (Spells : Format C) (text : C → List ℕ) where
  item_of : (t : T) (d : DefValue C) (items : List (ItemValue T C)) → All (IsSpelled Spells text) (defined_contents (record { ty = t; def = d } ∷ items)) → (All (IsSpelled Spells text) (defined_contents items) → AllZip (IsItemOf Spells) (map (item_seen text) items) items) → AllZip (IsItemOf Spells) (map (item_seen text) (record { ty = t; def = d } ∷ items)) (record { ty = t; def = d } ∷ items)
  item_of t (imported m n) items all others = ((refl, (refl, refl)), others all)
  item_of t (local x) items all others = ((refl, All-head (IsSpelled Spells text) x (defined_contents items) all), others (All-tail (IsSpelled Spells text) x (defined_contents items) all))

  items_of : (items : List (ItemValue T C)) → All (IsSpelled Spells text) (defined_contents items) → AllZip (IsItemOf Spells) (map (item_seen text) items) items
  items_of [] all = tt
  items_of (i ∷ items) all = item_of i.ty i.def items all (items_of items)

module_of_built : (b : BuiltValue) → All IsReadBody (defined_contents b.funcs) → All IsReadInit (defined_contents b.globals) → IsModuleOf (written_module b) b
module_of_built b bodies inits = record {
  types = refl;
  funcs = items_of SpellsBody body_text b.funcs (λ k d within. (bodies k d within).0);
  tables = refl;
  memories = refl;
  globals = items_of SpellsInit operators_text b.globals (λ k d within. (inits k d within).0);
  exports = refl;
  start = refl;
  producers = refl;
}

pub module_read : (b : BuiltValue) → IsBuilt b → SizesFit b → IsRead b
module_read b h fitting =
    let s = each_size_fits b fitting in
    let spelled = module_spelled b h s in
    let bodies = bodies_read b h s in
    let initialisers = initialisers_read b h s in
    record {
      spelled = spelled;
      is_module_of = module_of_built b bodies initialisers;
      alone = λ m t. modules_one (built_text b) m (written_module b) t spelled;
      bodies = bodies;
      initialisers = initialisers;
    }
