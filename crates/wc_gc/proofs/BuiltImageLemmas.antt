-- The image of a module that was read can be spelled.
use Rattle.std.proofs.Common.{◌≡◌, ◌≢◌, ℕ, ◌<◌, ◌^◌, List, [], ◌∷◌, length, map, refl, sym, ◌∙◌, ap, subst, Bool, true, Option, Some, arith}
use Rattle.std.specs.Prelude.{All, AllPairs, IfSome, IsTrue, Contains}
use Rattle.std.specs.List.{AllByRecursion, slice_get}
use Rattle.std.specs.Option.{option_map, option_map_or}
use Rattle.std.proofs.lemmas.Bool.{lt-ltb}
use Rattle.std.proofs.lemmas.List.{length-map, map-id}
use Rattle.std.proofs.lemmas.List.Elements.{All-append, All-map, All-weaker, All-contains, All-contains_itself, recursion_from_All}
use Rattle.std.proofs.lemmas.Option.{slice_get-map, slice_get_within, IfSome_then}
use Rattle.wc_read.specs.Bodies.{BodyValue}
use Rattle.wc_read.specs.Types.{FuncTypeValue, HasTypeIndex, HaveTypeIndices}
use Rattle.wc_read.specs.BodyOperators.{body_in, init_in}
use Rattle.wc_read.specs.Exports.{ExportValue}
use Rattle.wc_read.specs.InitTypes.{AreTyped}
use Rattle.wc_read.specs.Items.{ItemValue, FuncValue, GlobalValue, TableValue, MemoryValue}
use Rattle.wc_read.specs.Modules.{ModuleValue, IsModule, IsStart, CountsFitU32, NameTypes, count_of}
use Rattle.wc_read.specs.Operators.{InstrValue}
use Rattle.wc_read.specs.Renumbering.{Renumbering, renumber_func_type}
use Rattle.wc_read.specs.declared.exports.ExportKind.{ExportKind}
use Rattle.wc_read.specs.declared.exports.ExportKind.TheVariants.{Func as func_kind, Table as table_kind, Memory as memory_kind, Global as global_kind}
use Rattle.wc_read.specs.declared.operators.Space.{Space}
use Rattle.wc_read.specs.declared.operators.Space.TheVariants.{Types, Funcs, Tables, Memories, Globals}
use Rattle.wc_read.specs.declared.types.GlobalType.{GlobalType}
use Rattle.wc_read.specs.declared.types.ImportType.TheVariants.{Func, Table, Memory, Global}
use Rattle.wc_write.specs.Bodies.{body_text}
use Rattle.wc_read.specs.Items.{def_seen, item_seen}
use Rattle.wc_write.specs.BuiltValues.{written_module, IsExport, IsWritableMemory, IsInitialiser, HasInitialiser, HasImportsFirst, IsBuilt, IsWritable}
use Rattle.wc_write.specs.Modules.{BuiltValue, built_imports, operators_text}
use Rattle.wc_write.specs.Spaces.{imports_of, defined_contents}
use Rattle.wc_write.specs.Values.{IsU32, IsBody, IsFuncType, IsImport, IsTable, IsValType}
use Rattle.wc_write.proofs.SpaceLemmas.{map_again}
use Rattle.wc_read.specs.Decoded.{ItemIndex, decode, exported_item, is_in, space_of}
use Rattle.wc_read.specs.Entries.{Entry, def_refs, entry_at, entry_refs, func_entry, global_entry, init_refs, no_entry, refs_in, table_entry, type_entry, val_type_refs}
use Rattle.wc_gc.specs.Image.{rank, kept_items, new_export, new_table}
use Rattle.wc_gc.specs.Laws.{KeepsBits}
use Rattle.wc_gc.specs.InRange.{is_item_in_range, is_def_in_range, is_entry_in_range}
use Rattle.wc_gc.proofs.BuiltPartLemmas.{global_written, all_at, kept_imports, kept_imports_same, table_has_import, global_has_import, global_imported, contents_can, types_can, global_can, HasShortInit, kept_item_at}
use Rattle.wc_gc.proofs.ImageLemmas.{all_kept, kept_mapped}
use Rattle.wc_gc.proofs.InitTypeLemmas.{Follows, all-left, all-right}
use Rattle.wc_gc.proofs.KeptExportLemmas.{names_of_pairs}
use Rattle.wc_gc.proofs.KeptItemLemmas.{bounded_kept, kept_first, rank_below}
use Rattle.wc_gc.proofs.LiveItemLemmas.{named_kept}
use Rattle.wc_gc.proofs.NamedTypeLemmas.{func_type_names, table_at, type_at, val_type_names}
use Rattle.wc_gc.proofs.SpellableLemmas.{func_type_fits, table_type_fits, val_type_fits}
use Rattle.wc_gc.proofs.SpelledItemLemmas.{HasImport, IfLocal, HaveItems}
use Rattle.wc_gc.proofs.TypedGlobalLemmas.{CanMove, kept_typed, scope_after}
use Rattle.wc_gc.proofs.WrittenGlobalLemmas.{def_moves}

-- the kept items of a space
abbrev pub kept_in : {A : Type 0} → (ItemIndex → Bool) → Space → List A → List A
kept_in kept space xs = kept_items (λ n. kept (space, n)) (length xs) xs

-- kept types under new indices
abbrev pub types_written : ModuleValue → (ItemIndex → Bool) → Renumbering → List FuncTypeValue
types_written m kept new = map (renumber_func_type new) (kept_in kept Types m.types)

pub kept_types_spelled : (m : ModuleValue) (kept : ItemIndex → Bool) (new : Renumbering) → KeepsBits new → IsWritable m
    → All IsFuncType (types_written m kept new)
kept_types_spelled m kept new keeps w =
    let P : FuncTypeValue → Type 0 = λ t. IsFuncType (renumber_func_type new t) in
    All-map IsFuncType (renumber_func_type new) (kept_in kept Types m.types) (all_kept P (λ n. kept (Types, n)) m.types
    (λ n t h e. func_type_fits new keeps t (all_at IsFuncType m.types n t (recursion_from_All IsFuncType m.types w.types) e)) (length m.types))

-- an image by the items that were read: its types, functions and start function are given, and what is kept besides has
-- new indices
abbrev pub image_with : ModuleValue → List ExportValue → (ItemIndex → Bool) → Renumbering → List FuncTypeValue → List (ItemValue ℕ BodyValue) → Option ℕ → BuiltValue
image_with m exports kept new types funcs start = record {
  types = types;
  funcs = funcs;
  tables = map (new_table new) (kept_in kept Tables m.tables);
  memories = kept_in kept Memories m.memories;
  globals = map (global_written new) (kept_in kept Globals m.globals);
  exports = map (new_export new) exports;
  start = start;
  producers = m.producers;
}

pub kept_seen : {A B C : Type 0} (new : B → C) (view : A → B) (has : ℕ → Bool) (xs : List A) → map new (kept_items has (length (map view xs)) (map view xs)) ≡ map (λ x. new (view x)) (kept_items has (length xs) xs)
kept_seen new view has xs =
    ap (λ n. map new (kept_items has n (map view xs))) (length-map xs view) ∙ (ap (map new) (kept_mapped view has (length xs) xs) ∙ map_again new view (kept_items has (length xs) xs))

-- what kept items name is kept, and so are the items of exports
pub record AreKept (m : ModuleValue) (exports : List ExportValue) (kept : ItemIndex → Bool) : Type 0 where
  pub named : (x y : ItemIndex) → IsTrue (kept x) → Contains (refs_in (decode m) x) y → IsTrue (kept y)
  pub exported : (e : ExportValue) → Contains exports e → IsTrue (kept (exported_item e))

-- kept functions have code
abbrev pub AreInRange : ModuleValue → (ItemIndex → Bool) → Type 0
AreInRange m kept = (n : ℕ) → IsTrue (kept (Funcs, n)) → is_item_in_range (decode m) (Funcs, n) ≡ true

-- new indices: those of types and functions are below a number of them, those of tables, memories and globals are ranks
pub record AreNew (m : ModuleValue) (kept : ItemIndex → Bool) (new : Renumbering) (type_count functions : ℕ) : Type 0 where
  pub keeps : KeepsBits new
  pub types : (n : ℕ) → n < length m.types → IsTrue (kept (Types, n)) → new Types n < type_count
  pub funcs : (n : ℕ) → n < length m.funcs → IsTrue (kept (Funcs, n)) → new Funcs n < functions
  pub tables : (n : ℕ) → IsTrue (kept (Tables, n)) → new Tables n ≡ rank kept Tables n
  pub memories : (n : ℕ) → IsTrue (kept (Memories, n)) → new Memories n ≡ rank kept Memories n
  pub globals : (n : ℕ) → IsTrue (kept (Globals, n)) → new Globals n ≡ rank kept Globals n

-- functions of an image that has these types
pub record AreFuncs (types : List FuncTypeValue) (funcs : List (ItemValue ℕ BodyValue)) : Type 0 where
  pub imports : All IsImport (imports_of Func funcs)
  pub indices : All (λ f. IsU32 f.ty) funcs
  pub typed : All (λ f. f.ty < length types) funcs
  pub bodies : All (λ f. IfLocal IsBody f.def) funcs
  pub ordered : HasImportsFirst funcs
  pub bounded : length funcs < 2 ^ 32

-- one that starts it: it has no parameters and no results
pub record IsStartOf (types : List FuncTypeValue) (funcs : List (ItemValue ℕ BodyValue)) (index : ℕ) : Type 0 where
  pub func : ItemValue ℕ BodyValue
  pub ty : FuncTypeValue
  pub is_func : slice_get funcs index ≡ Some func
  pub is_type : slice_get types func.ty ≡ Some ty
  pub no_params : ty.params ≡ []
  pub no_results : ty.results ≡ []

-- exports of a module that can be spelled
pub record AreExports (m : ModuleValue) (exports : List ExportValue) : Type 0 where
  pub can_be_spelled : All IsExport exports
  pub there : All (λ e. e.index < count_of m e.kind) exports
  pub distinct : AllPairs (λ x y. x.name ≢ y.name) exports

pub func_at : (m : ModuleValue) (n : ℕ) (f : FuncValue) → slice_get m.funcs n ≡ Some f → entry_at (decode m) (Funcs, n) ≡ func_entry (item_seen body_in f)
func_at m n f e = ap (λ o. option_map_or func_entry o no_entry) (slice_get-map (item_seen body_in) m.funcs n ∙ ap (option_map (item_seen body_in)) e)

pub global_at : (m : ModuleValue) (n : ℕ) (g : GlobalValue) → slice_get m.globals n ≡ Some g → entry_at (decode m) (Globals, n) ≡ global_entry (item_seen init_in g)
global_at m n g e = ap (λ o. option_map_or global_entry o no_entry) (slice_get-map (item_seen init_in) m.globals n ∙ ap (option_map (item_seen init_in)) e)

module _ (m : ModuleValue) (kept : ItemIndex → Bool) where
  abbrev May : ItemIndex → Type 0
  May x = IsTrue (is_in (decode m) x) → IsTrue (kept x)

  func_there : (n : ℕ) → n < length m.funcs → IsTrue (is_in (decode m) (Funcs, n))
  func_there n h = let l = length-map m.funcs (item_seen body_in) in lt-ltb n (length (map (item_seen body_in) m.funcs)) (omega arith)

  global_there : (n : ℕ) → n < length m.globals → IsTrue (is_in (decode m) (Globals, n))
  global_there n h = let l = length-map m.globals (item_seen init_in) in lt-ltb n (length (map (item_seen init_in) m.globals)) (omega arith)

  -- in an image of so many types and functions
  module _ (w : IsWritable m) (v : IsModule m) (named : (x y : ItemIndex) → IsTrue (kept x) → Contains (refs_in (decode m) x) y → IsTrue (kept y))
      (new : Renumbering) (types functions : ℕ) (are_new : AreNew m kept new types functions) where
    -- what kept types, tables and globals name is in it

    may_name : (x : ItemIndex) (e : Entry) → IsTrue (kept x) → entry_at (decode m) x ≡ e → AllByRecursion May (entry_refs e)
    may_name x e h at = subst (λ z. AllByRecursion May (entry_refs z)) at (named_kept (decode m) kept named x h)

    type_there : (n : ℕ) → n < length m.types → May (Types, n) → new Types n < types
    type_there n below may = are_new.types n below (may (lt-ltb n (length m.types) below))

    pub kept_types_named : All (HaveTypeIndices types) (types_written m kept new)
    kept_types_named =
        let P : FuncTypeValue → Type 0 = HaveTypeIndices types in
        let old : AllByRecursion (HaveTypeIndices (length m.types)) m.types = recursion_from_All (HaveTypeIndices (length m.types)) m.types v.named.types in
        All-map P (renumber_func_type new) (kept_in kept Types m.types) (all_kept (λ t. P (renumber_func_type new t)) (λ n. kept (Types, n)) m.types
        (λ n t h e. func_type_names May new (length m.types) types type_there t (all_at (HaveTypeIndices (length m.types)) m.types n t old e)
        (may_name (Types, n) (type_entry t) h (type_at m n t e))) (length m.types))

    pub kept_tables_named : All (λ t. HasTypeIndex types t.ty.element_type) (map (new_table new) (kept_in kept Tables m.tables))
    kept_tables_named =
        let P : TableValue → Type 0 = λ t. HasTypeIndex types t.ty.element_type in
        let Q : TableValue → Type 0 = λ t. HasTypeIndex (length m.types) t.ty.element_type in
        All-map P (new_table new) (kept_in kept Tables m.tables) (all_kept (λ t. P (new_table new t)) (λ n. kept (Tables, n)) m.tables
        (λ n t h e. val_type_names May new (length m.types) types type_there t.ty.element_type
        (all_at Q m.tables n t (recursion_from_All Q m.tables v.named.tables) e)
        (may_name (Tables, n) (table_entry t) h (table_at m n t e))) (length m.tables))

    pub kept_globals_named : All (λ g. HasTypeIndex types g.ty.content_type) (map (global_written new) (kept_in kept Globals m.globals))
    kept_globals_named =
        let P : ItemValue GlobalType (List InstrValue) → Type 0 = λ g. HasTypeIndex types g.ty.content_type in
        let Q : GlobalValue → Type 0 = λ g. HasTypeIndex (length m.types) g.ty.content_type in
        All-map P (global_written new) (kept_in kept Globals m.globals) (all_kept (λ g. P (global_written new g)) (λ n. kept (Globals, n)) m.globals
        (λ n g h e. val_type_names May new (length m.types) types type_there g.ty.content_type
        (all_at Q m.globals n g (recursion_from_All Q m.globals v.named.globals) e)
        (all-left May (val_type_refs (g.ty.content_type ∷ [])) (def_refs init_refs (def_seen init_in g.def))
        (may_name (Globals, n) (global_entry (item_seen init_in g)) h (global_at m n g e)))) (length m.globals))

    -- globals under new indices

    has_initialiser : (n : ℕ) (g : GlobalValue) → slice_get m.globals n ≡ Some g → HasInitialiser g.def
    has_initialiser n g e = all_at (λ (g : GlobalValue). HasInitialiser g.def) m.globals n g (recursion_from_All (λ (g : GlobalValue). HasInitialiser g.def) m.globals w.initialisers) e

    can_move : AllByRecursion HasShortInit (map (global_written new) (kept_in kept Globals m.globals)) → (n : ℕ) (g : GlobalValue) → kept (Globals, n) ≡ true → slice_get m.globals n ≡ Some g
        → CanMove (length m.types) types (length m.funcs) functions new (λ k. kept (Globals, k)) are_new.globals
        (λ g. item_seen operators_text (global_written new g)) (λ g. refl) n g
    can_move short n g h e done done' long moved typed =
        let can = has_initialiser n g e in
        let below = slice_get_within m.globals n g e in
        let follows : Follows May (scope_after (length m.types) (length m.funcs) done) (scope_after types functions done') new = record {
          types = λ k may under. type_there k under may;
          funcs = λ k may under. are_new.funcs k under (may (func_there k under));
          globals = λ k t may at. moved k t (may (global_there k (let under = slice_get_within done k t at in omega (arith, below, long, under)))) at;
        } in
        let refs = all-right May (val_type_refs (g.ty.content_type ∷ [])) (def_refs init_refs (def_seen init_in g.def))
        (may_name (Globals, n) (global_entry (item_seen init_in g)) h (global_at m n g e)) in
        def_moves May (scope_after (length m.types) (length m.funcs) done) (scope_after types functions done') new follows g.ty.content_type g.def can refs
        (global_can new are_new.keeps g.def can)
        (kept_item_at HasShortInit (global_written new) (λ k. kept (Globals, k)) m.globals n g short h e) typed

    pub globals_typed : AllByRecursion HasShortInit (map (global_written new) (kept_in kept Globals m.globals))
        → AreTyped types functions (map (item_seen operators_text) (map (global_written new) (kept_in kept Globals m.globals)))
    globals_typed short =
        subst (AreTyped types functions) (sym (map_again (item_seen operators_text) (global_written new) (kept_in kept Globals m.globals)))
        (kept_typed (length m.types) types (length m.funcs) functions new (λ k. kept (Globals, k)) are_new.globals
        (λ g. item_seen operators_text (global_written new g)) (λ g. refl) m.globals v.initialised (can_move short))

-- an image whose functions can be spelled

module _ (m : ModuleValue) (exports : List ExportValue) (kept : ItemIndex → Bool) (w : IsWritable m) (items : HaveItems m) (v : IsModule m) (k : AreKept m exports kept) (x : AreExports m exports)
    (new : Renumbering) (types : List FuncTypeValue) (funcs : List (ItemValue ℕ BodyValue)) (start : Option ℕ)
    (are_new : AreNew m kept new (length types) (length funcs)) (spelled : All IsFuncType types) (names : All (HaveTypeIndices (length types)) types)
    (f : AreFuncs types funcs) where
  abbrev image : BuiltValue
  image = image_with m exports kept new types funcs start

  abbrev live : Space → ℕ → Bool
  live space n = kept (space, n)

  imports_can : All IsImport (built_imports image)
  imports_can =
      let memories = kept_imports_same Memory (live Memories) m.memories items.memories in
      let tables = kept_imports Table (new_table new) (live Tables) m.tables
      (λ n t h e. table_has_import new are_new.keeps t (all_at (HasImport Table) m.tables n t items.tables e)) in
      let globals = kept_imports Global (global_written new) (live Globals) m.globals
      (λ n g h e. global_has_import new are_new.keeps g (all_at (HasImport Global) m.globals n g items.globals e)) in
      All-append IsImport (imports_of Memory image.memories) _ memories
      (All-append IsImport (imports_of Table image.tables) _ tables (All-append IsImport (imports_of Global image.globals) _ globals f.imports))

  global_can_be : (n : ℕ) (g : GlobalValue) → live Globals n ≡ true → slice_get m.globals n ≡ Some g → IfLocal IsInitialiser (global_written new g).def
  global_can_be n g h e = global_can new are_new.keeps g.def (has_initialiser m kept w v k.named new (length types) (length funcs) are_new n g e)

  initialisers_can : All IsInitialiser (defined_contents image.globals)
  initialisers_can =
      let ks = kept_in kept Globals m.globals in
      let P : ItemValue GlobalType (List InstrValue) → Type 0 = λ g. IfLocal IsInitialiser g.def in
      contents_can IsInitialiser image.globals
      (recursion_from_All P image.globals (All-map P (global_written new) ks (all_kept (λ g. P (global_written new g)) (live Globals) m.globals global_can_be (length m.globals))))

  -- what holds of all items of a space holds of those that are kept
  same_kept : {A : Type 0} (P : A → Type 0) (space : Space) (xs : List A) → All P xs → AllByRecursion P (kept_in kept space xs)
  same_kept P space xs all = recursion_from_All P (kept_in kept space xs) (all_kept P (live space) xs (λ n y h e. all_at P xs n y (recursion_from_All P xs all) e) (length xs))

  same_first : {T C : Type 0} (space : Space) (xs : List (ItemValue T C)) → HasImportsFirst xs → HasImportsFirst (kept_in kept space xs)
  same_first {T} {C} space xs h = subst HasImportsFirst (map-id (kept_in kept space xs)) (kept_first (λ (i : ItemValue T C). i) (λ i. refl) (live space) xs h)

  -- exports

  export_can : (e : ExportValue) → Contains exports e → IsExport (new_export new e)
  export_can e c =
      let can = All-contains IsExport exports e x.can_be_spelled c in
      record { has_name = can.has_name; index_fits = are_new.keeps (space_of e.kind) e.index can.index_fits }

  global_below : (n : ℕ) → n < length m.globals → IsTrue (kept (Globals, n)) → new Globals n < length (written_module image).globals
  global_below n h is_live =
      let same = are_new.globals n is_live in
      let r = rank_below (live Globals) m.globals n h is_live in
      let one = length-map (kept_in kept Globals m.globals) (global_written new) in
      let two = length-map image.globals (item_seen operators_text) in
      omega (arith, same, r, one, two)

  index_there : (kind : ExportKind) (n : ℕ) → n < count_of m kind → IsTrue (kept (space_of kind, n)) → new (space_of kind) n < count_of (written_module image) kind
  index_there func_kind n h is_live = let all = length-map funcs (item_seen body_text) in let r = are_new.funcs n h is_live in omega (arith, all, r)
  index_there table_kind n h is_live =
      let all = length-map (kept_in kept Tables m.tables) (new_table new) in
      let r = rank_below (live Tables) m.tables n h is_live in
      omega (arith, are_new.tables n is_live, all, r)
  index_there memory_kind n h is_live = rw (are_new.memories n is_live) (rank_below (live Memories) m.memories n h is_live)
  index_there global_kind n h is_live = global_below n h is_live

  export_there : (e : ExportValue) → Contains exports e → (new_export new e).index < count_of (written_module image) e.kind
  export_there e c = index_there e.kind e.index (All-contains (λ e. e.index < count_of m e.kind) exports e x.there c) (k.exported e c)

  each_export : (P : ExportValue → Type 0) → ((e : ExportValue) → Contains exports e → P (new_export new e)) → All P image.exports
  each_export P each = All-map P (new_export new) exports (All-weaker (Contains exports) (λ e. P (new_export new e)) each exports (All-contains_itself exports))

  names_distinct : AllPairs (λ a b. a ≢ b) (map (λ (e : ExportValue). e.name) image.exports)
  names_distinct = subst (AllPairs (λ a b. a ≢ b)) (sym (map_again (λ (e : ExportValue). e.name) (new_export new) exports)) (names_of_pairs (λ (e : ExportValue). e.name) exports x.distinct)

  bounded : CountsFitU32 (written_module image)
  bounded = record {
    funcs = (let all = length-map funcs (item_seen body_text) in omega (arith, all, f.bounded));
    tables = (
        let all = length-map (kept_in kept Tables m.tables) (new_table new) in
        omega (arith, all, bounded_kept (live Tables) m.tables, v.bounded.tables)
        );
    memories = omega (arith, bounded_kept (live Memories) m.memories, v.bounded.memories);
    globals = (
        let one = length-map (kept_in kept Globals m.globals) (global_written new) in
        let two = length-map image.globals (item_seen operators_text) in
        omega (arith, one, two, bounded_kept (live Globals) m.globals, v.bounded.globals)
        );
  }

  is_start : (n : ℕ) → IsStartOf types funcs n → IsStart (written_module image) n
  is_start n s = record {
    func = item_seen body_text s.func;
    ty = s.ty;
    is_func = slice_get-map (item_seen body_text) funcs n ∙ ap (option_map (item_seen body_text)) s.is_func;
    is_type = s.is_type;
    no_params = s.no_params;
    no_results = s.no_results;
  }

  start_fits : (n : ℕ) → IsStartOf types funcs n → IsU32 n
  start_fits n s = let below = slice_get_within funcs n s.func s.is_func in omega (arith, below, f.bounded)

  global_types_can : AllByRecursion (λ (g : ItemValue GlobalType (List InstrValue)). IsValType g.ty.content_type) image.globals
  global_types_can =
      let P : ItemValue GlobalType (List InstrValue) → Type 0 = λ g. IsValType g.ty.content_type in
      let Q : GlobalValue → Type 0 = λ g. IsValType g.ty.content_type in
      let ks = kept_in kept Globals m.globals in
      recursion_from_All P image.globals (All-map P (global_written new) ks (all_kept (λ g. P (global_written new g)) (live Globals) m.globals
      (λ n g h e. val_type_fits new are_new.keeps g.ty.content_type (all_at Q m.globals n g (recursion_from_All Q m.globals w.globals) e)) (length m.globals)))

  table_types_can : AllByRecursion (λ (t : TableValue). IsTable t.ty) image.tables
  table_types_can =
      let P : TableValue → Type 0 = λ t. IsTable t.ty in
      let ks = kept_in kept Tables m.tables in
      recursion_from_All P image.tables (All-map P (new_table new) ks (all_kept (λ t. P (new_table new t)) (live Tables) m.tables
      (λ n t h e. table_type_fits new are_new.keeps t.ty (all_at P m.tables n t (recursion_from_All P m.tables w.tables) e)) (length m.tables)))

  -- the types that are named are there
  named : NameTypes (written_module image)
  named = record {
    types = names;
    tables = kept_tables_named m kept w v k.named new (length types) (length funcs) are_new;
    globals = All-map (λ (g : GlobalValue). HasTypeIndex (length types) g.ty.content_type) (item_seen operators_text) image.globals
        (kept_globals_named m kept w v k.named new (length types) (length funcs) are_new);
  }

  valid : IfSome start (IsStartOf types funcs) → AllByRecursion HasShortInit image.globals → IsModule (written_module image)
  valid starts short = record {
    typed = All-map (λ (f : FuncValue). f.ty < length types) (item_seen body_text) funcs f.typed;
    named = named;
    exported = each_export (λ e. e.index < count_of (written_module image) e.kind) export_there;
    distinct = names_distinct;
    started = IfSome_then start starts is_start;
    initialised = rw (length-map funcs (item_seen body_text)) (globals_typed m kept w v k.named new (length types) (length funcs) are_new short);
    bounded = bounded;
  }

  pub image_built : IfSome start (IsStartOf types funcs) → AllByRecursion HasShortInit image.globals → IsBuilt image
  image_built starts short = record {
    types = spelled;
    imports = imports_can;
    func_types = types_can IsU32 funcs (recursion_from_All (λ (f : ItemValue ℕ BodyValue). IsU32 f.ty) funcs f.indices);
    tables = types_can IsTable image.tables table_types_can;
    memories = types_can IsWritableMemory image.memories (same_kept (λ (t : MemoryValue). IsWritableMemory t.ty) Memories m.memories w.memories);
    globals = types_can (λ (g : GlobalType). IsValType g.content_type) image.globals global_types_can;
    initialisers = initialisers_can;
    exports = each_export IsExport export_can;
    start = IfSome_then start starts start_fits;
    bodies = contents_can IsBody funcs (recursion_from_All (λ (f : ItemValue ℕ BodyValue). IfLocal IsBody f.def) funcs f.bodies);
    producers = w.producers;
    funcs_ordered = f.ordered;
    tables_ordered = kept_first (new_table new) (λ t. refl) (live Tables) m.tables w.tables_ordered;
    memories_ordered = same_first Memories m.memories w.memories_ordered;
    globals_ordered = kept_first (global_written new) (global_imported new) (live Globals) m.globals w.globals_ordered;
    valid = valid starts short;
  }

-- functions that are kept: their types are, and they have code

module _ (m : ModuleValue) (exports : List ExportValue) (kept : ItemIndex → Bool) (w : IsWritable m) (items : HaveItems m) (v : IsModule m) (k : AreKept m exports kept) (in_range : AreInRange m kept) where
  pub func_typed : (n : ℕ) (f : FuncValue) → slice_get m.funcs n ≡ Some f → f.ty < length m.types
  func_typed n f e = all_at (λ (f : FuncValue). f.ty < length m.types) m.funcs n f (recursion_from_All (λ (f : FuncValue). f.ty < length m.types) m.funcs v.typed) e

  pub type_kept : (n : ℕ) (f : FuncValue) → kept (Funcs, n) ≡ true → slice_get m.funcs n ≡ Some f → rank kept Types f.ty < length (kept_in kept Types m.types)
  type_kept n f h e =
      let refs = subst (λ z. AllByRecursion (May m kept) (entry_refs z)) (func_at m n f e) (named_kept (decode m) kept k.named (Funcs, n) h) in
      rank_below (λ n. kept (Types, n)) m.types f.ty (func_typed n f e) (refs.0 (lt-ltb f.ty (length m.types) (func_typed n f e)))

  pub func_in_range : (n : ℕ) (f : FuncValue) → kept (Funcs, n) ≡ true → slice_get m.funcs n ≡ Some f
      → is_def_in_range (decode m) (item_seen body_in f).def ≡ true
  func_in_range n f h e = sym (ap (is_entry_in_range (decode m)) (func_at m n f e)) ∙ in_range n h
