-- The parts of an image can be spelled, where those of the module can.
use Rattle.std.proofs.Common.{◌≡◌, ℕ, zero, suc, ◌<◌, ◌^◌, List, [], ◌∷◌, length, map, refl, sym, ◌∙◌, ap, subst, Bool, true, Option, Some}
use Rattle.std.specs.Prelude.{All, IfSome}
use Rattle.std.specs.List.{AllByRecursion, slice_get}
use Rattle.std.specs.Option.{option_map}
use Rattle.std.proofs.lemmas.List.{map-id}
use Rattle.std.proofs.lemmas.List.Elements.{All-map, All-from_recursion, recursion_from_All}
use Rattle.std.proofs.lemmas.Option.{slice_get-map}
use Rattle.wc_read.specs.BodyOperators.{init_in}
use Rattle.wc_read.specs.Items.{DefValue, imported, local, ItemValue, GlobalValue, TableValue}
use Rattle.wc_read.specs.Operators.{InstrValue}
use Rattle.wc_read.specs.Renumbering.{Renumbering, renumber_global_type, renumber_table_type}
use Rattle.wc_read.specs.declared.types.ImportType.{ImportType}
use Rattle.wc_read.specs.declared.types.ImportType.TheVariants.{Table, Global}
use Rattle.wc_read.specs.declared.types.GlobalType.{GlobalType}
use Rattle.wc_read.proofs.DecodingLemmas.{init_found}
use Rattle.wc_write.specs.Spaces.{imports_of, import_by, DefinedValue, defined, defined_by, defined_types, defined_contents}
use Rattle.wc_write.specs.Text.{FitsSize, global_text}
use Rattle.wc_write.specs.Values.{IsImport, IsImportType}
use Rattle.wc_write.specs.Modules.{BuiltValue, SizesFit, SizeFits, OptionalSection, optional_sections, operators_text, defined_global_text}
use Rattle.wc_read.specs.Items.{def_seen, item_seen}
use Rattle.wc_write.specs.BuiltValues.{is_import, is_imported, IsInitialiser, HasInitialiser}
use Rattle.wc_write.proofs.VectorTextLemmas.{back_shorter}
use Rattle.wc_write.proofs.ContentLemmas.{all_item_sizes_fit}
use Rattle.wc_gc.specs.Counts.{count_below}
use Rattle.wc_gc.specs.Image.{kept_items, new_init, new_global, new_table}
use Rattle.wc_gc.specs.Laws.{KeepsBits}
use Rattle.wc_gc.proofs.ImageLemmas.{all_kept}
use Rattle.wc_gc.proofs.KeptItemLemmas.{rank_at}
use Rattle.wc_gc.proofs.SpellableLemmas.{init_stays, table_type_fits, val_type_fits}
use Rattle.wc_gc.proofs.SpelledItemLemmas.{HasImport, IfLocal, all_given, all_give, defined_from, defined_to}

-- a global that was read, under new indices

abbrev pub global_written : Renumbering → GlobalValue → ItemValue GlobalType (List InstrValue)
global_written new g = new_global new (item_seen init_in g)

-- what holds of all

pub all_at : {A : Type 0} (P : A → Type 0) (xs : List A) (n : ℕ) (x : A) → AllByRecursion P xs → slice_get xs n ≡ Some x → P x
all_at P [] n x all e = absurd cc
all_at P (y ∷ xs) zero x all e = let same : y ≡ x = cc e in subst P same all.0
all_at P (y ∷ xs) (suc n) x all e = all_at P xs n x all.1 e

pub each_weaker : {A : Type 0} (P Q : A → Type 0) (xs : List A) → ((x : A) → P x → Q x) → AllByRecursion P xs → AllByRecursion Q xs
each_weaker P Q [] h all = tt
each_weaker P Q (x ∷ xs) h all = (h x all.0, each_weaker P Q xs h all.1)

-- imports

module _ {T U C D : Type 0} (kind : U → ImportType) (f : ItemValue T C → ItemValue U D) (has : ℕ → Bool) (xs : List (ItemValue T C)) where
  pub kept_imports : ((n : ℕ) (x : ItemValue T C) → has n ≡ true → slice_get xs n ≡ Some x → HasImport kind (f x)) → All IsImport (imports_of kind (map f (kept_items has (length xs) xs)))
  kept_imports each =
      let ys = kept_items has (length xs) xs in
      All-from_recursion IsImport (imports_of kind (map f ys))
      (all_given IsImport (λ (i : ItemValue U D). import_by (kind i.ty) i.def) (map f ys)
      (recursion_from_All (HasImport kind) (map f ys) (All-map (HasImport kind) f ys (all_kept (λ x. HasImport kind (f x)) has xs each (length xs)))))

pub kept_imports_same : {T C : Type 0} (kind : T → ImportType) (has : ℕ → Bool) (xs : List (ItemValue T C)) → AllByRecursion (HasImport kind) xs → All IsImport (imports_of kind (kept_items has (length xs) xs))
kept_imports_same {T} {C} kind has xs all =
    subst (λ ys. All IsImport (imports_of kind ys)) (map-id (kept_items has (length xs) xs)) (kept_imports kind (λ (x : ItemValue T C). x) has xs (λ n x h e. all_at (HasImport kind) xs n x all e))

pub seen_imported : {C D : Type 0} (view : C → D) (d : DefValue C) → is_import (def_seen view d) ≡ is_import d
seen_imported view (imported m n) = refl
seen_imported view (local x) = refl

seen_import : {C D : Type 0} (ty : ImportType) (view : C → D) (d : DefValue C) → IfSome (import_by ty d) IsImport → IfSome (import_by ty (def_seen view d)) IsImport
seen_import ty view (imported m n) h = h
seen_import ty view (local x) h = tt

module _ (new : Renumbering) where
  pub global_imported : (g : GlobalValue) → is_imported (global_written new g) ≡ is_imported g
  global_imported g = seen_imported (new_init new) (def_seen init_in g.def) ∙ seen_imported init_in g.def

-- defined items

pub contents_can : {T C : Type 0} (P : C → Type 0) (items : List (ItemValue T C)) → AllByRecursion (λ (i : ItemValue T C). IfLocal P i.def) items → All P (defined_contents items)
contents_can {T} {C} P items all =
    All-map P (λ (o : DefinedValue T C). o.content) (defined items)
    (All-from_recursion (λ (o : DefinedValue T C). P o.content) (defined items)
    (all_given (λ (o : DefinedValue T C). P o.content) (λ (i : ItemValue T C). defined_by i.ty i.def) items
    (each_weaker (λ (i : ItemValue T C). IfLocal P i.def) (λ (i : ItemValue T C). IfSome (defined_by i.ty i.def) (λ o. P o.content)) items (λ i h. defined_from P i.ty i.def h) all)))

type_from : {T C : Type 0} (P : T → Type 0) (ty : T) (d : DefValue C) → P ty → IfSome (defined_by ty d) (λ o. P o.ty)
type_from P ty (imported m n) h = tt
type_from P ty (local x) h = h

pub types_can : {T C : Type 0} (P : T → Type 0) (items : List (ItemValue T C)) → AllByRecursion (λ (i : ItemValue T C). P i.ty) items → All P (defined_types items)
types_can {T} {C} P items all =
    All-map P (λ (o : DefinedValue T C). o.ty) (defined items)
    (All-from_recursion (λ (o : DefinedValue T C). P o.ty) (defined items)
    (all_given (λ (o : DefinedValue T C). P o.ty) (λ (i : ItemValue T C). defined_by i.ty i.def) items
    (each_weaker (λ (i : ItemValue T C). P i.ty) (λ (i : ItemValue T C). IfSome (defined_by i.ty i.def) (λ o. P o.ty)) items (λ i h. type_from P i.ty i.def h) all)))

-- imports and initialisers under new indices

other_import : {C : Type 0} (ty ty' : ImportType) (d : DefValue C) → (IsImportType ty → IsImportType ty') → IfSome (import_by ty d) IsImport
    → IfSome (import_by ty' d) IsImport
other_import ty ty' (imported m n) fits h = record { has_module = h.has_module; has_name = h.has_name; has_type = fits h.has_type }
other_import ty ty' (local x) fits h = tt

module _ (new : Renumbering) (keeps : KeepsBits new) where
  pub table_has_import : (t : TableValue) → HasImport Table t → HasImport Table (new_table new t)
  table_has_import t h = other_import (Table t.ty) (Table (renumber_table_type new t.ty)) t.def (table_type_fits new keeps t.ty) h

  pub global_has_import : (g : GlobalValue) → HasImport Global g → HasImport Global (global_written new g)
  global_has_import g h =
      let ty : ImportType = Global (renumber_global_type new g.ty) in
      seen_import ty (new_init new) (def_seen init_in g.def) (seen_import ty init_in g.def
      (other_import (Global g.ty) ty g.def (val_type_fits new keeps g.ty.content_type) h))

  pub global_can : (def : DefValue (List ℕ)) → HasInitialiser def → IfLocal IsInitialiser (def_seen (new_init new) (def_seen init_in def))
  global_can (imported m n) h = tt
  global_can (local bytes) h = subst (λ (o : Option (List InstrValue)). IsInitialiser (new_init new o)) (sym (init_found bytes h.0 h.1)) (init_stays new keeps h.0 h.2)

-- texts of initialisers are short, where the contents of sections are

abbrev pub HasShortInit : ItemValue GlobalType (List InstrValue) → Type 0
HasShortInit g = IfLocal (λ is. FitsSize (operators_text is)) g.def

pub short_inits : (b : BuiltValue) → SizesFit b → AllByRecursion HasShortInit b.globals
unfolding optional_sections
short_inits b fits =
    let sections = recursion_from_All (λ (p : OptionalSection). SizeFits p.content) (optional_sections b) fits in
    let texts = all_item_sizes_fit defined_global_text (defined b.globals) sections.1.1.1.1.1.0 in
    let inits = each_weaker (λ (o : DefinedValue GlobalType (List InstrValue)). length (defined_global_text o) < 2 ^ 32) (λ (o : DefinedValue GlobalType (List InstrValue)). FitsSize (operators_text o.content)) (defined b.globals)
    (λ o h. back_shorter (global_text o.ty) (operators_text o.content) (2 ^ 32) h) (recursion_from_All (λ (o : DefinedValue GlobalType (List InstrValue)). length (defined_global_text o) < 2 ^ 32) (defined b.globals) texts) in
    each_weaker (λ (i : ItemValue GlobalType (List InstrValue)). IfSome (defined_by i.ty i.def) (λ o. FitsSize (operators_text o.content))) HasShortInit b.globals (λ i h. defined_to (λ is. FitsSize (operators_text is)) i.ty i.def h)
    (all_give (λ (o : DefinedValue GlobalType (List InstrValue)). FitsSize (operators_text o.content)) (λ (i : ItemValue GlobalType (List InstrValue)). defined_by i.ty i.def) b.globals inits)

-- what holds of all that is kept holds of a kept item
pub kept_item_at : {A B : Type 0} (P : B → Type 0) (f : A → B) (has : ℕ → Bool) (xs : List A) (n : ℕ) (x : A) → AllByRecursion P (map f (kept_items has (length xs) xs)) → has n ≡ true → slice_get xs n ≡ Some x → P (f x)
kept_item_at P f has xs n x all h e =
    let ys = kept_items has (length xs) xs in
    all_at P (map f ys) (count_below has n) (f x) all (slice_get-map f ys (count_below has n) ∙ ap (option_map f) (rank_at has xs n x e h))
