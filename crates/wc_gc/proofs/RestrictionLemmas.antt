-- The module that a trimmed adapter's bytes spell has imports and exports of the adapter.
use Rattle.std.proofs.Common.{◌≡◌, ◌≢◌, ℕ, List, [], ◌∷◌, ◌++◌, map, refl, sym, ◌∙◌, ap, subst, Bool, true, false, Option, Some, None, arith}
use Rattle.std.specs.Prelude.{◌+◌, ⊤, All, AllPairs, Contains, IfSome}
use Rattle.std.specs.List.{AllZip, slice_get}
use Rattle.std.specs.Option.{option_map_or}
use Rattle.std.proofs.lemmas.Bool.{false≢true}
use Rattle.std.proofs.lemmas.List.Elements.{All-append, All-contains, All-weaker, Contains-append_left, Contains-append_right}
use Rattle.wc_read.specs.BodyOperators.{init_in}
use Rattle.wc_read.specs.Imports.{ImportValue}
use Rattle.wc_read.specs.Items.{DefValue, imported, local, GlobalValue, TableValue}
use Rattle.wc_read.specs.Modules.{ModuleValue, SpellsModule}
use Rattle.wc_read.specs.Renumbering.{Renumbering, renumber_global_type, renumber_table_type}
use Rattle.wc_read.specs.Spaces.{global_of, memory_of, table_of}
use Rattle.wc_read.specs.declared.operators.Space.{Space}
use Rattle.wc_read.specs.declared.operators.Space.TheVariants.{Types, Funcs, Tables, Memories, Globals}
use Rattle.wc_read.specs.declared.types.ImportType.{ImportType}
use Rattle.wc_read.specs.declared.types.ImportType.TheVariants.{Func, Table, Memory, Global}
use Rattle.wc_read.specs.Items.{def_seen}
use Rattle.wc_write.specs.BuiltValues.{written_module}
use Rattle.wc_write.specs.Modules.{BuiltValue}
use Rattle.wc_write.specs.Spaces.{import_by, imports_of}
use Rattle.wc_write.specs.Values.{AreBytes}
use Rattle.wc_gc.specs.Causes.{DecidesLive}
use Rattle.wc_read.specs.Decoded.{ItemIndex}
use Rattle.wc_gc.specs.Edit.{only_if}
use Rattle.wc_gc.specs.Image.{new_func, new_init, new_table}
use Rattle.wc_gc.specs.Parts.{SettingsView}
use Rattle.wc_gc.specs.RestrictionLaws.{HasOrigin, IsKeptImport, IsRestriction, TrimmedIsRestriction, global_item, is_realloc_item}
use Rattle.wc_read.specs.ImportItems.{is_in_space}
use Rattle.wc_read.specs.ImportItems.{positions_from}
use Rattle.wc_gc.specs.RestrictionLaws.{table_item}
use Rattle.wc_gc.proofs.SameButIndicesLemmas.{same_under}
use Rattle.wc_gc.proofs.BuiltImageLemmas.{kept_in}
use Rattle.wc_gc.proofs.BuiltPartLemmas.{global_written}
use Rattle.wc_gc.proofs.EditedIndexLemmas.{kept_imports}
use Rattle.wc_gc.proofs.ImportOriginLemmas.{pairs_joined, zip_first, zip_joined, zip_weaker}
use Rattle.wc_gc.proofs.RestrictedExportLemmas as restricted
use Rattle.wc_gc.proofs.RestrictedFuncLemmas.{AddedOrigins, added_imports, func_imports, func_part}
use Rattle.wc_gc.proofs.RestrictedImportLemmas.{AreDistinct, HasOriginIn, IsIn, IsPart, global_kind, global_space, have_spaces, imports_mapped, memory_kind, memory_space, plain_part, table_kind, table_space}
use Rattle.wc_gc.proofs.TrimmedTextLemmas.{edited_value_is}

-- an import is in one space

abbrev space_of_import : ImportType → Space
space_of_import (Func t) = Funcs
space_of_import (Table t) = Tables
space_of_import (Memory t) = Memories
space_of_import (Global t) = Globals

space_is : (space : Space) (t : ImportType) → is_in_space space t ≡ true → space ≡ space_of_import t
space_is Funcs (Func t) h = refl
space_is Tables (Table t) h = refl
space_is Memories (Memory t) h = refl
space_is Globals (Global t) h = refl
space_is space t h = absurd (false≢true h)

-- a global's import stays under new indices
global_read : (def : DefValue (List ℕ)) (t : ImportType) (ranks : Renumbering) → import_by t (def_seen (new_init ranks) (def_seen init_in def)) ≡ import_by t def
global_read (imported a b) t ranks = refl
global_read (local x) t ranks = refl

module _ (bytes : List ℕ) (required : List (List ℕ)) (v : ModuleValue) (live : ItemIndex → Bool) (all : AreBytes bytes) (s : SpellsModule bytes v) (decides : DecidesLive required v live) (set : SettingsView) where
  abbrev image : BuiltValue
  image = restricted.image bytes required v live all s decides set

  abbrev trimmed : ModuleValue
  trimmed = restricted.trimmed bytes required v live all s decides set

  abbrev Part : Space → List (Option ℕ) → List ImportValue → Type 0
  Part = IsPart bytes required v live all s decides set

  abbrev HasOriginOf : Space → Option ℕ → ImportValue → Type 0
  HasOriginOf = HasOriginIn bytes required v live all s decides set

  abbrev In : Space → Option ℕ → Type 0
  In space o = IfSome o (IsIn bytes required v live all s decides set space)

  -- the imports of a space, with their origins
  record Group (space : Space) (imports : List ImportValue) : Type 0 where
    origins : List (Option ℕ)
    part : Part space origins imports

  abbrev ranks : Renumbering
  ranks = restricted.ranks bytes required v live all s decides set

  memories : Group Memories (imports_of Memory image.memories)
  memories = record {
    origins = _;
    part = plain_part bytes required v live all s decides set ⊤ memory_of Memory Memories memory_space memory_kind (λ t. t) (λ t. refl) (λ n. refl)
        v.memories (have_spaces bytes v s).memories;
  }

  tables : Group Tables (imports_of Table image.tables)
  tables =
      let renew = renumber_table_type ranks in
      let read = λ (t : TableValue). import_by (Table (renew t.ty)) t.def in
      let kept = kept_in live Tables v.tables in
      let part = plain_part bytes required v live all s decides set ⊤ table_of Table Tables table_space table_kind renew
      (λ t. same_under ranks (Some (table_item t)) (Some (table_item (renew t))) refl) (λ n. refl) v.tables (have_spaces bytes v s).tables in
      subst (Group Tables) (sym (imports_mapped Table (new_table ranks) read (λ t. refl) kept)) (record { origins = _; part = part })

  globals : Group Globals (imports_of Global image.globals)
  globals =
      let renew = renumber_global_type ranks in
      let read = λ (g : GlobalValue). import_by (Global (renew g.ty)) g.def in
      let kept = kept_in live Globals v.globals in
      let part = plain_part bytes required v live all s decides set (List ℕ) global_of Global Globals global_space global_kind renew
      (λ t. same_under ranks (Some (global_item t)) (Some (global_item (renew t))) refl) (λ n. refl) v.globals (have_spaces bytes v s).globals in
      let same = imports_mapped Global (global_written ranks) read (λ g. global_read g.def (Global (renew g.ty)) ranks) kept in
      subst (Group Globals) (sym same) (record { origins = _; part = part })

  abbrev old_imports : List ImportValue
  old_imports = imports_of Func (map (new_func (restricted.ranks bytes required v live all s decides set)) (kept_imports set v (restricted.exports bytes required v live all s decides set) live (restricted.parts bytes required v live all s decides set) (restricted.found bytes required v live all s decides set)))

  funcs : Group Funcs old_imports
  funcs = record { origins = _; part = func_part bytes required v live all s decides set (have_spaces bytes v s).funcs }

  -- all origins

  abbrev added : List (Option ℕ)
  added = only_if (restricted.parts bytes required v live all s decides set).import_realloc None

  abbrev all_origins : List (Option ℕ)
  all_origins = memories.origins ++ (tables.origins ++ (globals.origins ++ (funcs.origins ++ added)))

  abbrev Known : Option ℕ → ImportValue → Type 0
  Known o i = HasOrigin set.realloc v trimmed o i × IfSome o (IsKeptImport required v)

  known_part : (space : Space) (imports : List ImportValue) (g : Group space imports) → AllZip Known g.origins imports
  known_part space imports g = zip_weaker (HasOriginOf space) Known (λ o i h. (h.origin, h.kept)) g.origins imports g.part.each

  none_kept : (o : Option ℕ) → o ≡ None → IfSome o (IsKeptImport required v)
  none_kept None e = tt
  none_kept (Some p) e = absurd cc

  known : AllZip Known all_origins trimmed.imports
  known =
      let new_imports = imports_of Func (map (new_func (restricted.ranks bytes required v live all s decides set)) (restricted.edit_of bytes required v live all s decides set).imports) in
      let last = zip_weaker (AddedOrigins bytes required v live all s decides set) Known (λ o i h. (h.0, none_kept o h.1)) added new_imports (added_imports bytes required v live all s decides set) in
      let func = subst (AllZip Known (funcs.origins ++ added)) (sym (func_imports bytes required v live all s decides set))
      (zip_joined Known funcs.origins added old_imports new_imports (known_part Funcs old_imports funcs) last) in
      let global = zip_joined Known globals.origins (funcs.origins ++ added) (imports_of Global image.globals) (imports_of Func image.funcs) (known_part Globals (imports_of Global image.globals) globals) func in
      let table = zip_joined Known tables.origins (globals.origins ++ (funcs.origins ++ added)) (imports_of Table image.tables) (imports_of Global image.globals ++ imports_of Func image.funcs) (known_part Tables (imports_of Table image.tables) tables) global in
      zip_joined Known memories.origins (tables.origins ++ (globals.origins ++ (funcs.origins ++ added))) (imports_of Memory image.memories) (imports_of Table image.tables ++ (imports_of Global image.globals ++ imports_of Func image.funcs))
      (known_part Memories (imports_of Memory image.memories) memories) table

  -- no two are the same import of the adapter

  within : (space : Space) (imports : List ImportValue) (g : Group space imports) → All (In space) g.origins
  within space imports g = zip_first (HasOriginOf space) (In space) (λ o i h. h.within) g.origins imports g.part.each

  two_spaces : (a b : Space) → a ≢ b → (p : ℕ) (o : Option ImportValue) → option_map_or (λ (i : ImportValue). is_in_space a i.ty) o false ≡ true → option_map_or (λ (i : ImportValue). is_in_space b i.ty) o false ≡ true → ⊥
  two_spaces a b n p None h k = false≢true h
  two_spaces a b n p (Some i) h k = n (space_is a i.ty h ∙ sym (space_is b i.ty k))

  two_distinct : (a b : Space) → a ≢ b → (x y : Option ℕ) → In a x → In b y → AreDistinct x y
  two_distinct a b n None y h k e = refl
  two_distinct a b n (Some p) y h k e = absurd (two_spaces a b n p (slice_get v.imports p) h (subst (In b) (sym e) k))

  all_distinct : (a b : Space) → a ≢ b → (x : Option ℕ) → In a x → (ys : List (Option ℕ)) → All (In b) ys → All (AreDistinct x) ys
  all_distinct a b n x h ys k = All-weaker (In b) (AreDistinct x) (λ y z. two_distinct a b n x y h z) ys k

  added_none : All (λ o. o ≡ None) added
  added_none =
      zip_first (AddedOrigins bytes required v live all s decides set) (λ o. o ≡ None) (λ o i h. h.1) added
      (imports_of Func (map (new_func (restricted.ranks bytes required v live all s decides set)) (restricted.edit_of bytes required v live all s decides set).imports)) (added_imports bytes required v live all s decides set)

  from_added : (x : Option ℕ) → All (AreDistinct x) added
  from_added x = All-weaker (λ o. o ≡ None) (AreDistinct x) (λ o n e. e ∙ n) added added_none

  func_pairs : AllPairs AreDistinct (funcs.origins ++ added)
  func_pairs = pairs_joined AreDistinct funcs.origins added funcs.part.distinct (added_pairs added added_none) (λ k d l. from_added _)
    where
      added_pairs : (os : List (Option ℕ)) → All (λ o. o ≡ None) os → AllPairs AreDistinct os
      added_pairs os h i j d l b e = h i d (omega arith)

  global_pairs : AllPairs AreDistinct (globals.origins ++ (funcs.origins ++ added))
  global_pairs =
      pairs_joined AreDistinct globals.origins (funcs.origins ++ added) globals.part.distinct func_pairs
      (All-weaker (In Globals) (λ x. All (AreDistinct x) (funcs.origins ++ added))
      (λ x h. All-append (AreDistinct x) funcs.origins added (all_distinct Globals Funcs (λ e. cc e) x h funcs.origins (within Funcs old_imports funcs)) (from_added x)) globals.origins (within Globals (imports_of Global image.globals) globals))

  table_pairs : AllPairs AreDistinct (tables.origins ++ (globals.origins ++ (funcs.origins ++ added)))
  table_pairs =
      pairs_joined AreDistinct tables.origins (globals.origins ++ (funcs.origins ++ added)) tables.part.distinct global_pairs
      (All-weaker (In Tables) (λ x. All (AreDistinct x) (globals.origins ++ (funcs.origins ++ added)))
      (λ x h. All-append (AreDistinct x) globals.origins (funcs.origins ++ added) (all_distinct Tables Globals (λ e. cc e) x h globals.origins (within Globals (imports_of Global image.globals) globals))
      (All-append (AreDistinct x) funcs.origins added (all_distinct Tables Funcs (λ e. cc e) x h funcs.origins (within Funcs old_imports funcs)) (from_added x))) tables.origins (within Tables (imports_of Table image.tables) tables))

  all_pairs : AllPairs AreDistinct all_origins
  all_pairs =
      pairs_joined AreDistinct memories.origins (tables.origins ++ (globals.origins ++ (funcs.origins ++ added))) memories.part.distinct table_pairs
      (All-weaker (In Memories) (λ x. All (AreDistinct x) (tables.origins ++ (globals.origins ++ (funcs.origins ++ added))))
      (λ x h. All-append (AreDistinct x) tables.origins (globals.origins ++ (funcs.origins ++ added)) (all_distinct Memories Tables (λ e. cc e) x h tables.origins (within Tables (imports_of Table image.tables) tables))
      (All-append (AreDistinct x) globals.origins (funcs.origins ++ added) (all_distinct Memories Globals (λ e. cc e) x h globals.origins (within Globals (imports_of Global image.globals) globals))
      (All-append (AreDistinct x) funcs.origins added (all_distinct Memories Funcs (λ e. cc e) x h funcs.origins (within Funcs old_imports funcs)) (from_added x)))) memories.origins (within Memories (imports_of Memory image.memories) memories))

  -- they are those that are live and no reallocs

  kept_of : (p : ℕ) → Contains all_origins (Some p) → IsKeptImport required v p
  kept_of p c =
      All-contains (λ o. IfSome o (IsKeptImport required v)) all_origins (Some p)
      (zip_first Known (λ o. IfSome o (IsKeptImport required v)) (λ o i h. h.1) all_origins trimmed.imports known) c

  there_by : (space : Space) (n p : ℕ) → live (space, n) ≡ true → slice_get (positions_from space 0 v.imports) n ≡ Some p → is_realloc_item v (space, n) ≡ false → Contains all_origins (Some p)
  there_by Types n p l e none = absurd (no_types v.imports 0 n p e)
    where
      no_types : (is : List ImportValue) (a n p : ℕ) → slice_get (positions_from Types a is) n ≡ Some p → ⊥
      no_types [] a n p e = cc e
      no_types (i ∷ is) a n p e = no_types is (a + 1) n p e
  there_by Memories n p l e none = Contains-append_left memories.origins (tables.origins ++ (globals.origins ++ (funcs.origins ++ added))) (Some p) (memories.part.there n p l e none)
  there_by Tables n p l e none =
      Contains-append_right memories.origins (tables.origins ++ (globals.origins ++ (funcs.origins ++ added))) (Some p)
      (Contains-append_left tables.origins (globals.origins ++ (funcs.origins ++ added)) (Some p) (tables.part.there n p l e none))
  there_by Globals n p l e none =
      Contains-append_right memories.origins (tables.origins ++ (globals.origins ++ (funcs.origins ++ added))) (Some p)
      (Contains-append_right tables.origins (globals.origins ++ (funcs.origins ++ added)) (Some p)
      (Contains-append_left globals.origins (funcs.origins ++ added) (Some p) (globals.part.there n p l e none)))
  there_by Funcs n p l e none =
      Contains-append_right memories.origins (tables.origins ++ (globals.origins ++ (funcs.origins ++ added))) (Some p)
      (Contains-append_right tables.origins (globals.origins ++ (funcs.origins ++ added)) (Some p)
      (Contains-append_right globals.origins (funcs.origins ++ added) (Some p)
      (Contains-append_left funcs.origins added (Some p) (funcs.part.there n p l e none))))

  pub restricts : IsRestriction set.realloc required v trimmed
  restricts = record {
    origins = all_origins;
    imports = zip_weaker Known (HasOrigin set.realloc v trimmed) (λ o i h. h.0) all_origins trimmed.imports known;
    distinct = all_pairs;
    reached = λ p. (kept_of p, λ k. there_by k.item.0 k.item.1 p ((decides k.item).1 k.live) k.is_item k.no_realloc);
    old_exports = restricted.old_exports bytes required v live all s decides set;
    new_exports = restricted.new_exports bytes required v live all s decides set;
    export_names = restricted.new_export_names bytes required v live all s decides set;
  }

pub trimmed_restricts : TrimmedIsRestriction
trimmed_restricts s w text all trimmed m spells =
    let t = trimmed.image in
    let is = edited_value_is w.bytes w.required t.value t.live all t.spelled t.decides s in
    let same = trimmed.read.alone m (subst (λ z. SpellsModule z m) t.written spells) ∙ ap written_module is in
    subst (IsRestriction s.realloc w.required t.value) (sym same) (restricts w.bytes w.required t.value t.live all t.spelled t.decides s)
