-- No bytes that spell a module are fewer than those of its text.
use Rattle.std.proofs.Common.{◌≡◌, ℕ, ◌+◌, ◌≤◌, List, [], ◌∷◌, ◌++◌, length, map, Option, Some, None, IfSome, refl, sym, ◌∙◌, ap, subst, arith, append-nil}
use Rattle.std.specs.Prelude.{All, MatchOption, ⊤}
use Rattle.std.specs.List.{AllZip, flat_map, zip}
use Rattle.std.specs.Option.{option_map}
use Rattle.std.proofs.lemmas.List.{length-append, length-map, map-id}
use Rattle.std.proofs.lemmas.List.Elements.{filter_map-append}
use Rattle.wc_read.specs.Formats.{Format, SpellsNumber, SpellsName, SpellsItems, SpellsVector}
use Rattle.wc_read.specs.Types.{FuncTypeValue, SpellsValType}
use Rattle.wc_read.specs.Limits.{SpellsTable, SpellsMemory}
use Rattle.wc_read.specs.Imports.{ImportValue, SpellsImport}
use Rattle.wc_read.specs.Exports.{ExportValue, export_kind_code, SpellsExport}
use Rattle.wc_read.specs.Operators.{InstrValue, SpellsInstr}
use Rattle.wc_read.specs.Bodies.{BodyValue, SpellsBody}
use Rattle.wc_read.specs.Inits.{SpellsInit}
use Rattle.wc_read.specs.Globals.{LocalGlobalValue, SpellsLocalGlobal}
use Rattle.wc_read.specs.Contents.{SpellsFuncType, SpellsSizePrefixed, SpellsStart}
use Rattle.wc_read.specs.Items.{DefValue, imported, local, ItemValue}
use Rattle.wc_read.specs.Producers.{producers_text, LastProducers}
use Rattle.wc_read.specs.Sections.{SectionValue, module_header}
use Rattle.wc_read.specs.Order.{content_of}
use Rattle.wc_read.specs.SectionContents.{SectionContentsValue, HaveSectionContents}
use Rattle.wc_read.specs.Spaces.{func_of, table_of, memory_of, global_of, imported_items}
use Rattle.wc_read.specs.Modules.{ModuleValue, CustomValue, module_of, SpellsModule}
use Rattle.wc_read.specs.declared.types.GlobalType.{GlobalType}
use Rattle.wc_read.specs.declared.types.ImportType.{ImportType}
use Rattle.wc_read.specs.declared.types.ImportType.TheVariants.{Func, Table, Memory, Global}
use Rattle.wc_write.specs.Text.{number_text, vector_text, name_text, val_type_text, global_text, table_text, memory_text, import_text, section_text}
use Rattle.wc_write.specs.Operators.{instr_text}
use Rattle.wc_write.specs.Bodies.{body_text}
use Rattle.wc_write.specs.Spaces.{import_by, imports_of, DefinedValue, defined_by, defined, defined_types, defined_contents}
use Rattle.wc_write.specs.Modules.{BuiltValue, built_imports, func_type_text, export_text, operators_text, defined_global_text, code_text, items_content, producers_content, optional_sections, optional_section_text, content_text, built_text}
use Rattle.wc_write.specs.Values.{AreBytes}
use Rattle.wc_write.specs.BuiltValues.{IsDefOf, IsItemOf, IsModuleOf}
use Rattle.wc_write.proofs.ByteLemmas.{front_bytes, back_bytes, tail_bytes}
use Rattle.wc_write.proofs.DigitLemmas.{digits_last}
use Rattle.wc_write.proofs.NumberTextLemmas.{number_shortest, some_byte}
use Rattle.wc_write.proofs.ShortestTextLemmas.{joined, name_shortest, global_type_shortest, table_shortest, memory_shortest, import_shortest}
use Rattle.wc_write.proofs.ValueTypeLemmas.{val_type_shortest}
use Rattle.wc_write.proofs.VectorTextLemmas.{items_shortest, vector_shortest}
use Rattle.wc_write.proofs.SpaceLemmas.{content_of_global, map_again, type_of_global}
use Rattle.wc_write.proofs.ShortestBodyLemmas.{instr_shortest, body_shortest}
use Rattle.wc_write.proofs.WritableModuleLemmas.{HasBytes, all_bytes, content_bytes}
use Rattle.wc_write.proofs.SizeLemmas.{number_grows, section_grows, total, flat_total, total_append, total_one, size_of, size_if, frames_total, ids_total, first_size}

-- initialisers

pub init_shortest : (bytes : List ℕ) (operators : List InstrValue) → AreBytes bytes → SpellsInit bytes operators → length (operators_text operators) ≤ length bytes
init_shortest bytes operators all s = items_shortest SpellsInstr instr_text instr_shortest bytes operators s.0 all

-- types and exports

func_type_shortest : (bytes : List ℕ) (f : FuncTypeValue) → SpellsFuncType bytes f → AreBytes bytes → length (func_type_text f) ≤ length bytes
func_type_shortest bytes f s all =
    let both = tail_bytes 0x60 (s.params_bytes ++ s.results_bytes) (rw s.cut at all) in
    let rest = joined (vector_text val_type_text f.params) (vector_text val_type_text f.results) s.params_bytes s.results_bytes
    (vector_shortest SpellsValType val_type_text val_type_shortest s.params_bytes f.params s.has_params (front_bytes s.params_bytes s.results_bytes both))
    (vector_shortest SpellsValType val_type_text val_type_shortest s.results_bytes f.results s.has_results (back_bytes s.params_bytes s.results_bytes both)) in
    rw s.cut (omega (arith, rest))

export_shortest : (bytes : List ℕ) (e : ExportValue) → SpellsExport bytes e → AreBytes bytes → length (export_text e) ≤ length bytes
export_shortest bytes e s all =
    let cut = rw s.cut at all in
    let index = number_shortest 9 s.has_index (tail_bytes (export_kind_code e.kind) s.index_bytes (back_bytes s.name_bytes (export_kind_code e.kind ∷ s.index_bytes) cut)) in
    rw s.cut (joined (name_text e.name) (export_kind_code e.kind ∷ number_text e.index) s.name_bytes (export_kind_code e.kind ∷ s.index_bytes)
    (name_shortest s.name_bytes e.name s.has_name (front_bytes s.name_bytes (export_kind_code e.kind ∷ s.index_bytes) cut))
    (omega (arith, index)))

-- lists that are related are as long

zip_length : {A B : Type 0} (R : A → B → Type 0) (xs : List A) (ys : List B) → AllZip R xs ys → length xs ≡ length ys
zip_length R [] [] z = refl
zip_length R [] (y ∷ ys) z = absurd z
zip_length R (x ∷ xs) [] z = absurd z
zip_length R (x ∷ xs) (y ∷ ys) z = omega (arith, zip_length R xs ys z.1)

-- a section of items, of as many others whose texts are no longer

module _ {A B : Type 0} (Spells : Format A) (text : B → List ℕ) (id : ℕ) where
  section_least : (content : Option (List ℕ)) (xs : List A) (ys : List B) → length ys ≡ length xs → ((bytes : List ℕ) → SpellsItems Spells bytes xs → AreBytes bytes → length (flat_map text ys) ≤ length bytes) → IfSome content AreBytes → MatchOption content (xs ≡ []) (λ c. SpellsVector Spells c xs) → length (content_text id (items_content text ys)) ≤ length (content_text id content)
  section_least None xs [] same short all h = omega arith
  section_least None xs (y ∷ ys) same short all h = absurd (omega (arith, same, ap length h))
  section_least (Some c) xs [] same short all h = omega arith
  section_least (Some c) xs (y ∷ ys) same short all h =
      let cut = rw h.2 at all in
      let count : length (number_text (length xs)) ≤ length h.0 = number_shortest 9 h.3 (front_bytes h.0 h.1 cut) in
      section_grows id (vector_text text (y ∷ ys)) c (rw h.2 (joined (number_text (length (y ∷ ys))) (flat_map text (y ∷ ys)) h.0 h.1 (rw same count) (short h.1 h.4 (back_bytes h.0 h.1 cut))))

same_least : {A : Type 0} (Spells : Format A) (text : A → List ℕ) (id : ℕ) → ((bytes : List ℕ) (x : A) → Spells bytes x → AreBytes bytes → length (text x) ≤ length bytes) → (content : Option (List ℕ)) (xs : List A) → IfSome content AreBytes → MatchOption content (xs ≡ []) (λ c. SpellsVector Spells c xs) → length (content_text id (items_content text xs)) ≤ length (content_text id content)
same_least Spells text id short content xs all h = section_least Spells text id content xs xs refl (λ bytes s some. items_shortest Spells text short bytes xs s some) all h

start_least : (content : Option (List ℕ)) (o : Option ℕ) → IfSome content AreBytes → MatchOption content (o ≡ None) (λ c. (n : ℕ) × (o ≡ Some n) × SpellsStart c n) → length (content_text 8 (option_map number_text o)) ≤ length (content_text 8 content)
start_least None o all h = rw h (omega arith)
start_least (Some c) o all h = rw h.1 (section_grows 8 (number_text h.0) c (number_shortest 9 h.2 all))

-- producers

one_of : {A : Type 0} (f : A → ℕ) (front : List A) (x : A) (back : List A) → f x ≤ total f (front ++ x ∷ back)
one_of f [] x back = omega arith
one_of f (y ∷ front) x back = omega (arith, one_of f front x back)

custom_size : (s : SectionValue) → s.id ≡ 0 → size_if 0 s ≡ size_of s
custom_size s e = rw e refl

named_size : (text : List ℕ) → SpellsName text producers_text → length (name_text producers_text) ≤ length text
named_size text s = rw (s.1, digits_last 9 9 (omega arith)) (omega (arith, some_byte s.2, length-append s.0 producers_text))

producers_least : (ss : List SectionValue) (o : Option (List ℕ)) → LastProducers ss o → length (content_text 0 (option_map producers_content o)) ≤ total (size_if 0) ss
producers_least ss None l = omega arith
producers_least ss (Some bytes) l =
    let custom = l.reads.0 in
    let longer = joined (name_text producers_text) bytes custom.text bytes (named_size custom.text custom.has_name) (omega arith) in
    let grows : length (section_text 0 (producers_content bytes)) ≤ size_of l.section = rw (custom.is_custom, custom.cut) (section_grows 0 (producers_content bytes) (custom.text ++ bytes) longer) in
    rw l.cut (omega (arith, grows, custom_size l.section custom.is_custom, one_of (size_if 0) l.front l.section l.back))

-- what spaces have in common, by the bytes of contents and by contents

module _ {T C : Type 0} (Spells : Format C) where
  import_same : (kind : T → ImportType) (i : ItemValue T (List ℕ)) (j : ItemValue T C) (is : List (ItemValue T (List ℕ))) (js : List (ItemValue T C)) → i.ty ≡ j.ty → (d : DefValue (List ℕ)) (e : DefValue C) → i.def ≡ d → j.def ≡ e → IsDefOf Spells d e → imports_of kind is ≡ imports_of kind js → imports_of kind (i ∷ is) ≡ imports_of kind (j ∷ js)
  import_same kind i j is js t (imported m n) (imported k l) d e s h = rw (d, e, t, s.0, s.1) (ap (λ (r : List ImportValue). record { module_name = k; name = l; ty = kind j.ty } ∷ r) h)
  import_same kind i j is js t (imported m n) (local x) d e s h = absurd s
  import_same kind i j is js t (local b) (imported k l) d e s h = absurd s
  import_same kind i j is js t (local b) (local x) d e s h = rw (d, e) h

  imports_same : (kind : T → ImportType) (is : List (ItemValue T (List ℕ))) (js : List (ItemValue T C)) → AllZip (IsItemOf Spells) is js → imports_of kind is ≡ imports_of kind js
  imports_same kind [] [] z = refl
  imports_same kind [] (j ∷ js) z = absurd z
  imports_same kind (i ∷ is) [] z = absurd z
  imports_same kind (i ∷ is) (j ∷ js) z = import_same kind i j is js z.0.0 i.def j.def refl refl z.0.1 (imports_same kind is js z.1)

  type_same : (i : ItemValue T (List ℕ)) (j : ItemValue T C) (is : List (ItemValue T (List ℕ))) (js : List (ItemValue T C)) → i.ty ≡ j.ty → (d : DefValue (List ℕ)) (e : DefValue C) → i.def ≡ d → j.def ≡ e → IsDefOf Spells d e → defined_types is ≡ defined_types js → defined_types (i ∷ is) ≡ defined_types (j ∷ js)
  type_same i j is js t (imported m n) (imported k l) d e s h = rw (d, e) h
  type_same i j is js t (imported m n) (local x) d e s h = absurd s
  type_same i j is js t (local b) (imported k l) d e s h = absurd s
  type_same i j is js t (local b) (local x) d e s h = rw (d, e, t) (ap (λ (r : List T). j.ty ∷ r) h)

  types_same : (is : List (ItemValue T (List ℕ))) (js : List (ItemValue T C)) → AllZip (IsItemOf Spells) is js → defined_types is ≡ defined_types js
  types_same [] [] z = refl
  types_same [] (j ∷ js) z = absurd z
  types_same (i ∷ is) [] z = absurd z
  types_same (i ∷ is) (j ∷ js) z = type_same i j is js z.0.0 i.def j.def refl refl z.0.1 (types_same is js z.1)

  content_zip : (i : ItemValue T (List ℕ)) (j : ItemValue T C) (is : List (ItemValue T (List ℕ))) (js : List (ItemValue T C)) → (d : DefValue (List ℕ)) (e : DefValue C) → i.def ≡ d → j.def ≡ e → IsDefOf Spells d e → AllZip Spells (defined_contents is) (defined_contents js) → AllZip Spells (defined_contents (i ∷ is)) (defined_contents (j ∷ js))
  content_zip i j is js (imported m n) (imported k l) d e s h = rw (d, e) h
  content_zip i j is js (imported m n) (local x) d e s h = absurd s
  content_zip i j is js (local b) (imported k l) d e s h = absurd s
  content_zip i j is js (local b) (local x) d e s h = rw (d, e) (s, h)

  contents_zip : (is : List (ItemValue T (List ℕ))) (js : List (ItemValue T C)) → AllZip (IsItemOf Spells) is js → AllZip Spells (defined_contents is) (defined_contents js)
  contents_zip [] [] z = tt
  contents_zip [] (j ∷ js) z = absurd z
  contents_zip (i ∷ is) [] z = absurd z
  contents_zip (i ∷ is) (j ∷ js) z = content_zip i j is js i.def j.def refl refl z.0.1 (contents_zip is js z.1)

-- the defined items of a space, and its imports

module _ {T C : Type 0} (of : ImportType → Option T) where
  none_more : (i : ImportValue) (is : List ImportValue) → defined (imported_items {T = T} {C = C} of is) ≡ [] → (o : Option T) → of i.ty ≡ o → defined (imported_items {T = T} {C = C} of (i ∷ is)) ≡ []
  none_more i is h None e = rw e h
  none_more i is h (Some t) e = rw e h

  none_defined : (is : List ImportValue) → defined (imported_items {T = T} {C = C} of is) ≡ []
  none_defined [] = refl
  none_defined (i ∷ is) = none_more i is (none_defined is) (of i.ty) refl

module _ {A T C : Type 0} (of : ImportType → Option T) (ty : A → T) (content : A → C) where
  abbrev made : A → ItemValue T C
  made x = record { ty = ty x; def = local (content x) }

  abbrev owned : A → DefinedValue T C
  owned x = record { ty = ty x; content = content x }

  defined_made : (xs : List A) → defined (map made xs) ≡ map owned xs
  defined_made [] = refl
  defined_made (x ∷ xs) = ap (λ (r : List (DefinedValue T C)). owned x ∷ r) (defined_made xs)

  defined_space : (is : List ImportValue) (xs : List A) → defined (imported_items of is ++ map made xs) ≡ map owned xs
  defined_space is xs = filter_map-append (λ i. defined_by i.ty i.def) (imported_items of is) (map made xs) ∙ rw (none_defined {T = T} {C = C} of is, defined_made xs) refl

  none_imported : (kind : T → ImportType) (xs : List A) → imports_of kind (map made xs) ≡ []
  none_imported kind [] = refl
  none_imported kind (x ∷ xs) = none_imported kind xs

  imports_space : (kind : T → ImportType) (is : List ImportValue) (xs : List A) → imports_of kind (imported_items of is ++ map made xs) ≡ imports_of kind (imported_items {T = T} {C = C} of is)
  imports_space kind is xs = filter_map-append (λ i. import_by (kind i.ty) i.def) (imported_items of is) (map made xs) ∙ rw (none_imported kind xs) (append-nil _)

abbrev first : ℕ × List ℕ → ℕ
first f = f.0

abbrev second : ℕ × List ℕ → List ℕ
second f = f.1

firsts : (types : List ℕ) (bodies : List (List ℕ)) → length types ≡ length bodies → map first (zip types bodies) ≡ types
firsts [] bodies same = refl
firsts (t ∷ ts) [] same = absurd (omega (arith, same))
firsts (t ∷ ts) (b ∷ bs) same = ap (λ (r : List ℕ). t ∷ r) (firsts ts bs (omega (arith, same)))

seconds : (types : List ℕ) (bodies : List (List ℕ)) → length types ≡ length bodies → map second (zip types bodies) ≡ bodies
seconds [] [] same = refl
seconds [] (b ∷ bs) same = absurd (omega (arith, same))
seconds (t ∷ ts) [] same = refl
seconds (t ∷ ts) (b ∷ bs) same = ap (λ (r : List (List ℕ)). b ∷ r) (seconds ts bs (omega (arith, same)))

-- imports by their kinds are as many as all, and as long

abbrev func_imports : List ImportValue → List ImportValue
func_imports is = imports_of {T = ℕ} {C = List ℕ} Func (imported_items func_of is)

abbrev table_imports : List ImportValue → List ImportValue
table_imports is = imports_of {C = ⊤} Table (imported_items table_of is)

abbrev memory_imports : List ImportValue → List ImportValue
memory_imports is = imports_of {C = ⊤} Memory (imported_items memory_of is)

abbrev global_imports : List ImportValue → List ImportValue
global_imports is = imports_of {C = List ℕ} Global (imported_items global_of is)

abbrev grouped : List ImportValue → List ImportValue
grouped is = memory_imports is ++ (table_imports is ++ (global_imports is ++ func_imports is))

module _ (size : ImportValue → ℕ) where
  abbrev group_sizes : List ImportValue → ℕ
  group_sizes is = total size (memory_imports is) + (total size (table_imports is) + (total size (global_imports is) + total size (func_imports is)))

  group_more : (m n : List ℕ) (t : ImportType) (is : List ImportValue) → group_sizes is ≡ total size is → group_sizes (record { module_name = m; name = n; ty = t } ∷ is) ≡ total size (record { module_name = m; name = n; ty = t } ∷ is)
  group_more m n (Func k) is h = omega (arith, h)
  group_more m n (Table t) is h = omega (arith, h)
  group_more m n (Memory t) is h = omega (arith, h)
  group_more m n (Global t) is h = omega (arith, h)

  groups_total : (is : List ImportValue) → group_sizes is ≡ total size is
  groups_total [] = refl
  groups_total (i ∷ is) = group_more i.module_name i.name i.ty is (groups_total is)

  grouped_total : (is : List ImportValue) → total size (grouped is) ≡ total size is
  grouped_total is = omega (
    arith,
    total_append size (memory_imports is) (table_imports is ++ (global_imports is ++ func_imports is)),
    total_append size (table_imports is) (global_imports is ++ func_imports is),
    total_append size (global_imports is) (func_imports is),
    groups_total is,
  )

grouped_length : (is : List ImportValue) → length (grouped is) ≡ length is
grouped_length is = sym (total_one (grouped is)) ∙ grouped_total (λ i. 1) is ∙ total_one is

grouped_size : (is : List ImportValue) → length (flat_map import_text (grouped is)) ≡ length (flat_map import_text is)
grouped_size is = flat_total import_text (grouped is) ∙ grouped_total (λ i. length (import_text i)) is ∙ sym (flat_total import_text is)

imports_least : (content : Option (List ℕ)) (is : List ImportValue) → IfSome content AreBytes → MatchOption content (is ≡ []) (λ c. SpellsVector SpellsImport c is) → length (content_text 2 (items_content import_text (grouped is))) ≤ length (content_text 2 content)
imports_least content is all h = section_least SpellsImport import_text 2 content is (grouped is) (grouped_length is) (λ bytes s some. rw (grouped_size is) (items_shortest SpellsImport import_text import_shortest bytes is s some)) all h

-- globals, by their initialisers

abbrev init_of : LocalGlobalValue → List ℕ
init_of g = g.init

abbrev type_of : LocalGlobalValue → GlobalType
type_of g = g.ty

global_shortest : (bytes : List ℕ) (g : LocalGlobalValue) (o : DefinedValue GlobalType (List InstrValue)) → SpellsLocalGlobal bytes g → g.ty ≡ o.ty
    → SpellsInit g.init o.content → AreBytes bytes → length (defined_global_text o) ≤ length bytes
global_shortest bytes g o s same init all =
    let cut = rw s.cut at all in
    let rest = init_shortest g.init o.content (back_bytes s.type_bytes g.init cut) init in
    let type = global_type_shortest s.type_bytes g.ty s.has_type (front_bytes s.type_bytes g.init cut) in
    rw s.cut (joined (global_text o.ty) (operators_text o.content) s.type_bytes g.init
    (subst (λ (t : GlobalType). length (global_text t) ≤ length s.type_bytes) same type) rest)

first_same : (g o : GlobalType) (gs os : List GlobalType) → g ∷ gs ≡ o ∷ os → (g ≡ o) × (gs ≡ os)
first_same g o gs os e = (cc, cc)

globals_shortest : (gs : List LocalGlobalValue) (os : List (DefinedValue GlobalType (List InstrValue))) → map type_of gs ≡ map type_of_global os
    → AllZip SpellsInit (map init_of gs) (map content_of_global os) → (bytes : List ℕ) → SpellsItems SpellsLocalGlobal bytes gs → AreBytes bytes
    → length (flat_map defined_global_text os) ≤ length bytes
globals_shortest [] [] e z bytes s all = omega arith
globals_shortest [] (o ∷ os) e z bytes s all = absurd z
globals_shortest (g ∷ gs) [] e z bytes s all = absurd z
globals_shortest (g ∷ gs) (o ∷ os) e z bytes s all =
    let cut = rw s.2 at all in
    let p = first_same g.ty o.ty (map type_of gs) (map type_of_global os) e in
    rw s.2 (joined (defined_global_text o) (flat_map defined_global_text os) s.0 s.1 (global_shortest s.0 g o s.3 p.0 z.0 (front_bytes s.0 s.1 cut))
    (globals_shortest gs os p.1 z.1 s.1 s.4 (back_bytes s.0 s.1 cut)))

globals_length : (gs : List LocalGlobalValue) (os : List (DefinedValue GlobalType (List InstrValue))) → AllZip SpellsInit (map init_of gs) (map content_of_global os) → length os ≡ length gs
globals_length gs os z = sym (length-map os content_of_global) ∙ sym (zip_length SpellsInit (map init_of gs) (map content_of_global os) z) ∙ length-map gs init_of

-- code

code_shortest : (bytes content : List ℕ) (b : BodyValue) → SpellsSizePrefixed bytes content → SpellsBody content b → AreBytes bytes → length (code_text b) ≤ length bytes
code_shortest bytes content b s body all =
    let cut = rw s.1 at all in
    let shorter = body_shortest content b (back_bytes s.0 content cut) body in
    let size = number_shortest 9 s.2 (front_bytes s.0 content cut) in
    rw s.1 (joined (number_text (length (body_text b))) (body_text b) s.0 content (omega (arith, number_grows (length (body_text b)) (length content) shorter, size)) shorter)

codes_shortest : (bodies : List (List ℕ)) (bs : List BodyValue) → AllZip SpellsBody bodies bs → (bytes : List ℕ) → SpellsItems SpellsSizePrefixed bytes bodies → AreBytes bytes → length (flat_map code_text bs) ≤ length bytes
codes_shortest [] [] z bytes s all = omega arith
codes_shortest [] (b ∷ bs) z bytes s all = absurd z
codes_shortest (c ∷ cs) [] z bytes s all = absurd z
codes_shortest (c ∷ cs) (b ∷ bs) z bytes s all =
    let cut = rw s.2 at all in
    rw s.2 (joined (code_text b) (flat_map code_text bs) s.0 s.1 (code_shortest s.0 c b s.3 z.0 (front_bytes s.0 s.1 cut)) (codes_shortest cs bs z.1 s.1 s.4 (back_bytes s.0 s.1 cut)))

-- all sections

record AreLeast (b : BuiltValue) (ss : List SectionValue) : Type 0 where
  types : length (content_text 1 (items_content func_type_text b.types)) ≤ total (size_if 1) ss
  imports : length (content_text 2 (items_content import_text (built_imports b))) ≤ total (size_if 2) ss
  func_types : length (content_text 3 (items_content number_text (defined_types b.funcs))) ≤ total (size_if 3) ss
  tables : length (content_text 4 (items_content table_text (defined_types b.tables))) ≤ total (size_if 4) ss
  memories : length (content_text 5 (items_content memory_text (defined_types b.memories))) ≤ total (size_if 5) ss
  globals : length (content_text 6 (items_content defined_global_text (defined b.globals))) ≤ total (size_if 6) ss
  exports : length (content_text 7 (items_content export_text b.exports)) ≤ total (size_if 7) ss
  start : length (content_text 8 (option_map number_text b.start)) ≤ total (size_if 8) ss
  code : length (content_text 10 (items_content code_text (defined_contents b.funcs))) ≤ total (size_if 10) ss
  producers : length (content_text 0 (option_map producers_content b.producers)) ≤ total (size_if 0) ss

sections_total : (b : BuiltValue) (ss : List SectionValue) → AreLeast b ss → length (flat_map optional_section_text (optional_sections b)) ≤ total size_of ss
unfolding optional_sections
sections_total b ss h = omega (arith, flat_total optional_section_text (optional_sections b), ids_total ss, h.types, h.imports, h.func_types, h.tables, h.memories, h.globals, h.exports, h.start, h.code, h.producers)

up_to : (id : ℕ) (ss : List SectionValue) (n : ℕ) → n ≤ length (content_text id (content_of id ss)) → n ≤ total (size_if id) ss
up_to id ss n h = omega (arith, h, first_size id ss)

-- the spaces of a module, by its sections

module _ (ss : List SectionValue) (p : SectionContentsValue) (c : CustomValue) (as_many : length p.func_types ≡ length p.bodies) where
  abbrev m : ModuleValue
  m = module_of ss p c

  func_types_are : defined_types m.funcs ≡ p.func_types
  func_types_are = rw (defined_space func_of first second p.imports (zip p.func_types p.bodies)) (map_again (λ o. o.ty) _ (zip p.func_types p.bodies) ∙ firsts p.func_types p.bodies as_many)

  bodies_are : defined_contents m.funcs ≡ p.bodies
  bodies_are = rw (defined_space func_of first second p.imports (zip p.func_types p.bodies)) (map_again (λ o. o.content) _ (zip p.func_types p.bodies) ∙ seconds p.func_types p.bodies as_many)

  tables_are : defined_types m.tables ≡ p.tables
  tables_are = rw (defined_space {C = ⊤} table_of (λ t. t) (λ _. tt) p.imports p.tables) (map_again (λ o. o.ty) _ p.tables ∙ map-id p.tables)

  memories_are : defined_types m.memories ≡ p.memories
  memories_are = rw (defined_space {C = ⊤} memory_of (λ t. t) (λ _. tt) p.imports p.memories) (map_again (λ o. o.ty) _ p.memories ∙ map-id p.memories)

  inits_are : defined_contents m.globals ≡ map init_of p.globals
  inits_are = rw (defined_space global_of (λ g. g.ty) init_of p.imports p.globals) (map_again (λ o. o.content) _ p.globals)

  imports_are : imports_of Memory m.memories ++ (imports_of Table m.tables ++ (imports_of Global m.globals ++ imports_of Func m.funcs)) ≡ grouped p.imports
  imports_are = rw (imports_space {C = ⊤} memory_of (λ t. t) (λ _. tt) Memory p.imports p.memories, imports_space {C = ⊤} table_of (λ t. t) (λ _. tt) Table p.imports p.tables, imports_space global_of (λ g. g.ty) init_of Global p.imports p.globals, imports_space func_of first second Func p.imports (zip p.func_types p.bodies)) refl

  module _ (b : BuiltValue) (h : IsModuleOf m b) where
    built_imports_are : built_imports b ≡ grouped p.imports
    built_imports_are = rw (← h.memories, ← h.tables, ← imports_same SpellsInit Global m.globals b.globals h.globals, ← imports_same SpellsBody Func m.funcs b.funcs h.funcs) imports_are

    codes_zip : AllZip SpellsBody p.bodies (defined_contents b.funcs)
    codes_zip = rw bodies_are at (contents_zip SpellsBody m.funcs b.funcs h.funcs)

    inits_zip : AllZip SpellsInit (map init_of p.globals) (defined_contents b.globals)
    inits_zip = rw inits_are at (contents_zip SpellsInit m.globals b.globals h.globals)

    global_types_same : map type_of p.globals ≡ map type_of_global (defined b.globals)
    global_types_same = sym (rw (defined_space global_of (λ g. g.ty) init_of p.imports p.globals) (map_again (λ o. o.ty) _ p.globals))
        ∙ types_same SpellsInit m.globals b.globals h.globals

    least : All HasBytes ss → HaveSectionContents ss p → LastProducers ss c.producers → AreLeast b ss
    least all parts last = record {
      types = up_to 1 ss _ (rw (← h.types) (same_least SpellsFuncType func_type_text 1 func_type_shortest (content_of 1 ss) p.types (content_bytes 1 ss all) parts.has_types));
      imports = up_to 2 ss _ (rw built_imports_are (imports_least (content_of 2 ss) p.imports (content_bytes 2 ss all) parts.has_imports));
      func_types = up_to 3 ss _ (rw (← types_same SpellsBody m.funcs b.funcs h.funcs, func_types_are) (same_least (SpellsNumber 32) number_text 3 (λ bytes n s some. number_shortest 9 s some) (content_of 3 ss) p.func_types (content_bytes 3 ss all) parts.has_func_types));
      tables = up_to 4 ss _ (rw (← h.tables, tables_are) (same_least SpellsTable table_text 4 table_shortest (content_of 4 ss) p.tables (content_bytes 4 ss all) parts.has_tables));
      memories = up_to 5 ss _ (rw (← h.memories, memories_are) (same_least SpellsMemory memory_text 5 memory_shortest (content_of 5 ss) p.memories (content_bytes 5 ss all) parts.has_memories));
      globals = up_to 6 ss _ (section_least SpellsLocalGlobal defined_global_text 6 (content_of 6 ss) p.globals (defined b.globals)
          (globals_length p.globals (defined b.globals) inits_zip) (globals_shortest p.globals (defined b.globals) global_types_same inits_zip)
          (content_bytes 6 ss all) parts.has_globals);
      exports = up_to 7 ss _ (rw (← h.exports) (same_least SpellsExport export_text 7 export_shortest (content_of 7 ss) p.exports (content_bytes 7 ss all) parts.has_exports));
      start = up_to 8 ss _ (rw (← h.start) (start_least (content_of 8 ss) p.start (content_bytes 8 ss all) parts.has_start));
      code = up_to 10 ss _ (section_least SpellsSizePrefixed code_text 10 (content_of 10 ss) p.bodies (defined_contents b.funcs) (sym (zip_length SpellsBody p.bodies (defined_contents b.funcs) codes_zip)) (codes_shortest p.bodies (defined_contents b.funcs) codes_zip) (content_bytes 10 ss all) parts.has_bodies);
      producers = rw (← h.producers) (producers_least ss c.producers last);
    }

pub module_shortest : (bytes : List ℕ) (m : ModuleValue) (b : BuiltValue) → AreBytes bytes → SpellsModule bytes m → IsModuleOf m b → length (built_text b) ≤ length bytes
unfolding built_text
module_shortest bytes m b all s of =
    let inside = s.has_sections in
    let h = least s.sections inside.parts inside.assembled.custom inside.as_many b (subst (λ (m : ModuleValue). IsModuleOf m b) inside.assembled.is of) (all_bytes bytes s.sections s.has_frames all) inside.has_contents inside.assembled.has_custom.has_producers in
    omega (arith, length-append module_header (flat_map optional_section_text (optional_sections b)), sections_total b s.sections h, frames_total bytes s.sections s.has_frames all)
