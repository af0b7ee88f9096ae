-- Which sections name an index out of range.
use Rattle.std.proofs.Common.{◌≡◌, ℕ, List, [], ◌∷◌, length, map, Bool, true, false, Option, Some, None, refl, sym, ◌∙◌, ap}
use Rattle.std.specs.Prelude.{◌&&◌, nat_lt, Result, Ok, Err, IfOk}
use Rattle.std.specs.List.{filter, list_all}
use Rattle.std.specs.Option.{option_map_or}
use Rattle.std.specs.declared.alloc.AllocError.{AllocError}
use Rattle.std.proofs.lemmas.List.{length-map}
use Rattle.std.proofs.lemmas.List.Folds.{list_all-map}
use Rattle.wc_read.specs.Types.{FuncTypeValue, func_type_value}
use Rattle.wc_read.specs.Operators.{InstrValue}
use Rattle.wc_read.specs.Exports.{export_value}
use Rattle.wc_read.specs.Reading.Contents.{section_contents_value}
use Rattle.wc_read.specs.Reading.Globals.{local_global_value}
use Rattle.wc_read.specs.Reading.Types.{have_type_indices}
use Rattle.wc_read.specs.BodyOperators.{next_and_left}
use Rattle.wc_read.specs.Causes.{count_of_kind, counts_of, global_has_types, import_has_types, imported_count, is_in_range, is_of_kind, null_has_type}
use Rattle.wc_read.specs.Imports.{import_value}
use Rattle.wc_read.specs.declared.causes.ItemCounts.{ItemCounts}
use Rattle.wc_read.specs.declared.exports.Export.{Export}
use Rattle.wc_read.specs.declared.exports.ExportKind.{ExportKind}
use Rattle.wc_read.specs.declared.globals.LocalGlobal.{LocalGlobal}
use Rattle.wc_read.specs.declared.section_contents.SectionContents.{SectionContents}
use Rattle.wc_read.specs.declared.types.FuncType.{FuncType}
use Rattle.wc_read.specs.declared.types.Import.{Import}

-- the nulls that were read have their types, and so do those of the operators that are left
abbrev pub nulls_left : ℕ → Bool → Option (List InstrValue) → Bool
nulls_left n all left = option_map_or (λ is. all && list_all (λ i. null_has_type n i.immediates) is) left true

pub nulls_begin : (n : ℕ) (left : Option (List InstrValue)) → nulls_left n true left ≡ option_map_or (list_all (λ i. null_has_type n i.immediates)) left true
nulls_begin n None = refl
nulls_begin n (Some is) = refl

and_after : (a b c : Bool) → (a && (b && c)) ≡ ((a && b) && c)
and_after true b c = refl
and_after false b c = refl

pub nulls_more : (n : ℕ) (all : Bool) (i : InstrValue) (left : Option (List InstrValue)) → nulls_left n all (next_and_left (Some i) left) ≡ nulls_left n (all && null_has_type n i.immediates) left
nulls_more n all i None = refl
nulls_more n all i (Some is) = and_after all (null_has_type n i.immediates) (list_all (λ i. null_has_type n i.immediates) is)

pub nulls_end : (n : ℕ) (all : Bool) (left : Option (List InstrValue)) → nulls_left n all (next_and_left None left) ≡ all
nulls_end n true left = refl
nulls_end n false left = refl

-- of the imported items those of a kind

counted : (kind : ExportKind) (i : Import) (is : List Import) (keeps : Bool) → is_of_kind kind i.ty ≡ keeps
    → length (filter (λ (x : Import). is_of_kind kind x.ty) is) ≡ imported_count kind (map import_value is)
    → length (filter (λ (x : Import). is_of_kind kind x.ty) (i ∷ is)) ≡ imported_count kind (map import_value (i ∷ is))
counted kind i is true e h = rw (e, h) refl
counted kind i is false e h = rw (e, h) refl

pub imported_viewed : (kind : ExportKind) (is : List Import) → length (filter (λ (x : Import). is_of_kind kind x.ty) is) ≡ imported_count kind (map import_value is)
imported_viewed kind [] = refl
imported_viewed kind (i ∷ is) = counted kind i is (is_of_kind kind i.ty) refl (imported_viewed kind is)

-- a test of all items, seen by view

viewed : {N X Y : Type 0} (view : X → Y) (test : N → Y → Bool) (result : Bool) (n m : N) (ds xs : List X)
    → result ≡ list_all (λ x. test n (view x)) ds → ds ≡ xs → n ≡ m → result ≡ list_all (test m) (map view xs)
viewed {N} {X} {Y} view test result n m ds xs e d l =
    e ∙ ap (λ (ys : List X). list_all (λ x. test n (view x)) ys) d ∙ ap (λ (k : N). list_all (λ x. test k (view x)) xs) l ∙ sym (list_all-map (test m) view xs)

viewed_ok : {N X Y : Type 0} (view : X → Y) (test : N → Y → Bool) (r : Result Bool AllocError) (n m : N) (ds xs : List X)
    → IfOk r (λ b. b ≡ list_all (λ x. test n (view x)) ds) → ds ≡ xs → n ≡ m → IfOk r (λ b. b ≡ list_all (test m) (map view xs))
viewed_ok view test (Ok b) n m ds xs e d l = viewed view test b n m ds xs e d l
viewed_ok view test (Err x) n m ds xs e d l = e

module _ (p : SectionContents) (n : ℕ) (l : n ≡ length p.types.items) where
  abbrev types : List FuncTypeValue
  types = map func_type_value p.types.items

  count : n ≡ length types
  count = l ∙ sym (length-map p.types.items func_type_value)

  pub types_in_range : (result : Bool) (ds : List FuncType) → result ≡ list_all (λ t. have_type_indices n (func_type_value t)) ds → ds ≡ p.types.items
      → result ≡ is_in_range (section_contents_value p) 1
  unfolding is_in_range
  types_in_range result ds e d = viewed func_type_value have_type_indices result n (length types) ds p.types.items e d count

  pub imports_in_range : (result : Bool) (ds : List Import) → result ≡ list_all (λ i. import_has_types n i.ty) ds → ds ≡ p.imports.items
      → result ≡ is_in_range (section_contents_value p) 2
  unfolding is_in_range
  imports_in_range result ds e d = viewed import_value (λ k i. import_has_types k i.ty) result n (length types) ds p.imports.items e d count

  pub globals_in_range : (r : Result Bool AllocError) (ds : List LocalGlobal) → IfOk r (λ b. b ≡ list_all (λ g. global_has_types n (local_global_value g)) ds) → ds ≡ p.globals.items
      → IfOk r (λ b. b ≡ is_in_range (section_contents_value p) 6)
  unfolding is_in_range
  globals_in_range r ds e d = viewed_ok local_global_value global_has_types r n (length types) ds p.globals.items e d count

pub exports_in_range : (p : SectionContents) (counts : ItemCounts) (result : Bool) (ds : List Export) → counts ≡ counts_of (section_contents_value p)
    → result ≡ list_all (λ e. nat_lt e.index (count_of_kind counts e.kind)) ds → ds ≡ p.exports.items → result ≡ is_in_range (section_contents_value p) 7
unfolding is_in_range
exports_in_range p counts result ds c e d =
    viewed export_value (λ k x. nat_lt x.index (count_of_kind k x.kind)) result counts (counts_of (section_contents_value p)) ds p.exports.items e d c
