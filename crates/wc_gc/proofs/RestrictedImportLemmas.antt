-- The imports of a trimmed adapter are imports of the adapter that are live, and the main module's realloc.
use Rattle.std.proofs.Common.{◌≡◌, ℕ, ◌+◌, ◌<◌, List, [], ◌∷◌, map, refl, sym, ◌∙◌, ap, subst, Bool, true, false, cond, Option, Some, None, arith}
use Rattle.std.specs.Prelude.{AllPairs, Contains, IfSome, is_some}
use Rattle.std.specs.List.{AllByRecursion, AllZip, filter_map, slice_get, zip}
use Rattle.std.specs.Option.{option_map_or}
use Rattle.std.proofs.lemmas.Bool.{false≢true}
use Rattle.wc_read.specs.Imports.{ImportValue}
use Rattle.wc_read.specs.Items.{DefValue, imported, local, ItemValue, FuncValue, GlobalValue}
use Rattle.wc_read.specs.Modules.{ModuleValue, SpellsModule}
use Rattle.wc_read.specs.Spaces.{defined_global, func_of, global_of, local_item, local_funcs, memory_of, table_of}
use Rattle.wc_read.specs.declared.operators.Space.{Space}
use Rattle.wc_read.specs.declared.operators.Space.TheVariants.{Funcs, Tables, Memories, Globals}
use Rattle.wc_read.specs.declared.types.ImportType.{ImportType}
use Rattle.wc_read.specs.declared.types.ImportType.TheVariants.{Func, Table, Memory, Global}
use Rattle.wc_write.specs.BuiltValues.{is_import, is_imported}
use Rattle.wc_write.specs.Spaces.{import_by, imports_of}
use Rattle.wc_write.specs.Values.{AreBytes}
use Rattle.wc_gc.specs.Causes.{DecidesLive}
use Rattle.wc_read.specs.Decoded.{ItemIndex}
use Rattle.wc_gc.specs.Parts.{SettingsView}
use Rattle.wc_gc.specs.RestrictionLaws.{AreSameTypesButIndices, HasOrigin, IsKeptImport, SameImport, import_type, is_realloc_item}
use Rattle.wc_read.specs.ImportItems.{is_in_space, positions_from}
use Rattle.wc_gc.proofs.BuiltImageLemmas.{kept_in}
use Rattle.wc_gc.proofs.ImportOriginLemmas.{HasSpace, IsFrom, from_at, imported_item_at, kept_pairs, kept_there, kept_zip, origins_of, rising}
use Rattle.wc_gc.proofs.KeptItemLemmas.{kept_is}
use Rattle.wc_gc.proofs.RestrictedExportLemmas.{trimmed}
use Rattle.wc_gc.proofs.SpelledItemLemmas.{all_mapped, local_func}

-- what kinds of imports are in which spaces

abbrev pub IsSpaceOf : {T : Type 0} → Space → (ImportType → Option T) → Type 0
IsSpaceOf space of = (t : ImportType) → is_in_space space t ≡ is_some (of t)

abbrev pub IsKindOf : {T : Type 0} → (T → ImportType) → (ImportType → Option T) → Type 0
IsKindOf {T} kind of = (t : ImportType) (u : T) → of t ≡ Some u → t ≡ kind u

pub func_space : IsSpaceOf Funcs func_of
func_space (Func t) = refl
func_space (Table t) = refl
func_space (Memory t) = refl
func_space (Global t) = refl

pub table_space : IsSpaceOf Tables table_of
table_space (Func t) = refl
table_space (Table t) = refl
table_space (Memory t) = refl
table_space (Global t) = refl

pub memory_space : IsSpaceOf Memories memory_of
memory_space (Func t) = refl
memory_space (Table t) = refl
memory_space (Memory t) = refl
memory_space (Global t) = refl

pub global_space : IsSpaceOf Globals global_of
global_space (Func t) = refl
global_space (Table t) = refl
global_space (Memory t) = refl
global_space (Global t) = refl

pub func_kind : IsKindOf Func func_of
func_kind (Func t) u e = ap Func (let same : t ≡ u = cc e in same)
func_kind (Table t) u e = absurd cc
func_kind (Memory t) u e = absurd cc
func_kind (Global t) u e = absurd cc

pub table_kind : IsKindOf Table table_of
table_kind (Func t) u e = absurd cc
table_kind (Table t) u e = ap Table (let same : t ≡ u = cc e in same)
table_kind (Memory t) u e = absurd cc
table_kind (Global t) u e = absurd cc

pub memory_kind : IsKindOf Memory memory_of
memory_kind (Func t) u e = absurd cc
memory_kind (Table t) u e = absurd cc
memory_kind (Memory t) u e = ap Memory (let same : t ≡ u = cc e in same)
memory_kind (Global t) u e = absurd cc

pub global_kind : IsKindOf Global global_of
global_kind (Func t) u e = absurd cc
global_kind (Table t) u e = absurd cc
global_kind (Memory t) u e = absurd cc
global_kind (Global t) u e = ap Global (let same : t ≡ u = cc e in same)

-- imports among items

pub import_is : {C : Type 0} (t : ImportType) (d : DefValue C) (i : ImportValue) → import_by t d ≡ Some i → is_import d ≡ true
import_is t (imported a b) i e = refl
import_is t (local x) i e = absurd cc

not_import : {C : Type 0} (t : ImportType) (d : DefValue C) → is_import d ≡ false → import_by t d ≡ None
not_import t (imported a b) h = absurd (false≢true (sym h))
not_import t (local x) h = refl

pub none_imported : {T C : Type 0} (kind : T → ImportType) (gs : List (ItemValue T C)) → AllByRecursion (λ g. is_imported g ≡ false) gs → imports_of kind gs ≡ []
none_imported kind [] all = refl
none_imported kind (g ∷ gs) all = rw (not_import (kind g.ty) g.def all.0) (none_imported kind gs all.1)

pub imports_mapped : {A T C : Type 0} (kind : T → ImportType) (f : A → ItemValue T C) (read : A → Option ImportValue) → ((x : A) → import_by (kind (f x).ty) (f x).def ≡ read x) → (xs : List A) → imports_of kind (map f xs) ≡ filter_map read xs
imports_mapped kind f read same [] = refl
imports_mapped kind f read same (x ∷ xs) = rw (same x, imports_mapped kind f read same xs) refl

-- two origins of a list are the same where both are none

abbrev pub AreDistinct : Option ℕ → Option ℕ → Type 0
AreDistinct a b = a ≡ b → a ≡ None

pub origins_differ : (ps : List ℕ) → ((n k p q : ℕ) → n < k → slice_get ps n ≡ Some p → slice_get ps k ≡ Some q → p < q) → (n k : ℕ) → n < k → AreDistinct (slice_get ps n) (slice_get ps k)
origins_differ ps rises n k l e = by (slice_get ps n) refl
  where
    by : (o : Option ℕ) → slice_get ps n ≡ o → slice_get ps n ≡ None
    by None h = h
    by (Some p) h = absurd (let less = rises n k p p l h (sym e ∙ h) in omega (arith, less))

pub none_or : (a b : Bool) (x y : Option ℕ) → AreDistinct x y → AreDistinct (cond a None x) (cond b None y)
none_or true b x y h e = refl
none_or false true x y h e = e
none_or false false x y h e = h e

-- index spaces of a module that bytes spell

pub record HaveSpaces (v : ModuleValue) : Type 0 where
  pub funcs : HasSpace func_of v.imports v.funcs
  pub tables : HasSpace table_of v.imports v.tables
  pub memories : HasSpace memory_of v.imports v.memories
  pub globals : HasSpace global_of v.imports v.globals

pub have_spaces : (bytes : List ℕ) (v : ModuleValue) → SpellsModule bytes v → HaveSpaces v
have_spaces bytes v s =
    let p = s.has_sections.parts in
    subst HaveSpaces (sym s.has_sections.assembled.is) (record {
      funcs = record { others = local_funcs p.func_types p.bodies; cut = refl; defined = all_mapped (λ (f : FuncValue). is_imported f ≡ false) local_func (zip p.func_types p.bodies) (λ f. refl) };
      tables = record { others = map local_item p.tables; cut = refl; defined = all_mapped (λ x. is_imported x ≡ false) local_item p.tables (λ t. refl) };
      memories = record { others = map local_item p.memories; cut = refl; defined = all_mapped (λ x. is_imported x ≡ false) local_item p.memories (λ t. refl) };
      globals = record { others = map defined_global p.globals; cut = refl; defined = all_mapped (λ (g : GlobalValue). is_imported g ≡ false) defined_global p.globals (λ t. refl) };
    })

module _ (bytes : List ℕ) (required : List (List ℕ)) (v : ModuleValue) (live : ItemIndex → Bool) (all : AreBytes bytes) (s : SpellsModule bytes v) (decides : DecidesLive required v live) (set : SettingsView) where
  abbrev new_module : ModuleValue
  new_module = trimmed bytes required v live all s decides set

  -- an import at a position is of a space
  abbrev pub IsIn : Space → ℕ → Type 0
  IsIn space p = option_map_or (λ (i : ImportValue). is_in_space space i.ty) (slice_get v.imports p) false ≡ true

  -- an import of the trimmed adapter, and its origin
  pub record HasOriginIn (space : Space) (o : Option ℕ) (i : ImportValue) : Type 0 where
    pub origin : HasOrigin set.realloc v new_module o i
    pub kept : IfSome o (IsKeptImport required v)
    pub within : IfSome o (IsIn space)

  -- the imports of a space, and all their origins
  pub record IsPart (space : Space) (origins : List (Option ℕ)) (imports : List ImportValue) : Type 0 where
    pub each : AllZip (HasOriginIn space) origins imports
    pub distinct : AllPairs AreDistinct origins
    pub there : (n p : ℕ) → live (space, n) ≡ true → slice_get (positions_from space 0 v.imports) n ≡ Some p → is_realloc_item v (space, n) ≡ false → Contains origins (Some p)

  -- an item of the adapter that stays imported

  module _ {T : Type 0} (C : Type 0) (of : ImportType → Option T) (kind : T → ImportType) (space : Space) (same : IsSpaceOf space of) (back : IsKindOf kind of) (n : ℕ) (x : ItemValue T C) (r : IsFrom C of space same v.imports n x) where
    abbrev AreSameButIndices : ImportType → Type 0
    AreSameButIndices ty = AreSameTypesButIndices (import_type v.types (kind x.ty)) (import_type new_module.types ty)

    import_from : (ty : ImportType) (i : ImportValue) → import_by ty x.def ≡ Some i → AreSameButIndices ty → SameImport v new_module r.value i
    import_from ty i e types =
        let made : ImportValue = record { module_name = r.value.module_name; name = r.value.name; ty = ty } in
        let is : made ≡ i = (let one = sym (ap (import_by ty) r.def) ∙ e in cc one) in
        let same = sym (back r.value.ty x.ty r.ty) in
        subst (SameImport v new_module r.value) is (record {
          from = refl;
          name = refl;
          ty = subst (λ t. AreSameTypesButIndices (import_type v.types t) (import_type new_module.types ty)) same types;
        })

    pub origin_from : (ty : ImportType) (i : ImportValue) → import_by ty x.def ≡ Some i → AreSameButIndices ty → live (space, n) ≡ true
        → is_realloc_item v (space, n) ≡ false
        → HasOriginIn space (slice_get (positions_from space 0 v.imports) n) i
    origin_from ty i e types l none = subst (λ o. HasOriginIn space o i) (sym r.is_position) (record {
      origin = (r.value, r.at, import_from ty i e types);
      kept = record { item = (space, n); is_item = r.is_position; live = (decides (space, n)).0 l; no_realloc = none };
      within = ap (λ o. option_map_or (λ (i : ImportValue). is_in_space space i.ty) o false) r.at ∙ (same r.value.ty ∙ ap is_some r.ty);
    })

  -- tables, memories and globals: their types are renewed

  module _ {T : Type 0} (C : Type 0) (of : ImportType → Option T) (kind : T → ImportType) (space : Space) (same : IsSpaceOf space of)
      (back : IsKindOf kind of) (renew : T → T)
      (but_indices : (t : T) → AreSameTypesButIndices (import_type v.types (kind t)) (import_type new_module.types (kind (renew t))))
      (none : (n : ℕ) → is_realloc_item v (space, n) ≡ false) (xs : List (ItemValue T C)) (h : HasSpace of v.imports xs) where
    abbrev read : ItemValue T C → Option ImportValue
    read x = import_by (kind (renew x.ty)) x.def

    abbrev origin : ℕ → Option ℕ
    origin n = slice_get (positions_from space 0 v.imports) n

    abbrev has : ℕ → Bool
    has n = live (space, n)

    origin_at : (n : ℕ) (x : ItemValue T C) → slice_get xs n ≡ Some x → has n ≡ true → (i : ImportValue) → read x ≡ Some i → HasOriginIn space (origin n) i
    origin_at n x at l i e =
        let ty = kind (renew x.ty) in
        origin_from C of kind space same back n x (from_at C of space same v.imports xs h n x at (import_is ty x.def i e)) ty i e (but_indices x.ty) l (none n)

    all_there : (n p : ℕ) → has n ≡ true → origin n ≡ Some p → Contains (origins_of read origin has 0 xs) (Some p)
    all_there n p l e =
        let x = imported_item_at C of space same v.imports xs h n p e in
        let r = from_at C of space same v.imports xs h n x.0 x.1 x.2 in
        let start : 0 + n ≡ n = omega arith in
        let made : ImportValue = record { module_name = r.value.module_name; name = r.value.name; ty = kind (renew x.0.ty) } in
        subst (Contains (origins_of read origin has 0 xs)) (ap origin start ∙ e)
        (kept_there read origin has xs 0 n x.0 made x.1 (ap has start ∙ l) (ap (import_by (kind (renew x.0.ty))) r.def))

    pub plain_part : IsPart space (origins_of read origin has 0 xs) (filter_map read (kept_in live space xs))
    plain_part = record {
      each = subst (λ ys. AllZip (HasOriginIn space) (origins_of read origin has 0 xs) (filter_map read ys)) (sym (kept_is has xs))
          (kept_zip read origin has (HasOriginIn space) xs 0 (λ n x at. let start : n ≡ 0 + n = omega arith in subst (λ k. has k ≡ true → (i : ImportValue) → read x ≡ Some i → HasOriginIn space (origin k) i) start (origin_at n x at)));
      distinct = kept_pairs read origin has AreDistinct (origins_differ (positions_from space 0 v.imports) (rising space v.imports 0)) xs 0;
      there = λ n p l e z. all_there n p l e;
    }
