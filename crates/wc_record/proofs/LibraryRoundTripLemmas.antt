-- Library information that is written is read back.
use Rattle.std.proofs.Common.{◌≡◌, ℕ, Bool, List, [], ◌∷◌, Option, Ok, IsSomeAnd, codes, map, suc, refl, sym, subst, arith}
use Rattle.std.specs.Prelude.{⊤}
use Rattle.json.specs.Json.{Json, boolean, document}
use Rattle.json.specs.Strict.{HasUniqueKeys}
use Rattle.json.proofs.Printed.Trees.{document-print}
use Rattle.wc_adapters.specs.Adapters.{WhichView, main_module, adapter_of, LibraryItemView, InstanceView, module_instance, item_instance, LibraryView}
use Rattle.wc_json.specs.Fault.{Reading}
use Rattle.wc_json.specs.FromJson.{list}
use Rattle.wc_json.specs.Libraries.{argument, export_kind, instance, library, library_item, which}
use Rattle.wc_texts.specs.Shapes.{array_of, object_of}
use Rattle.wc_json.proofs.TypeRoundTripLemmas.{items_from-items_json}
use Rattle.wc_json.proofs.WritableLemmas.{AreDistinct_counted, AreWritable-cons, AreWritable-nil, IsWritable, IsWritable-le, IsWritable-list_json, IsWritable-object, IsWritable-string}
use Rattle.wc_read.specs.Exports.{export_kind_name}
use Rattle.wc_read.specs.declared.exports.ExportKind.{ExportKind}
use Rattle.wc_read.specs.declared.exports.ExportKind.TheVariants.{Func, Table, Memory, Global}
use Rattle.wc_record.specs.CoreTypes.{export_kind_json}
use Rattle.wc_record.specs.Libraries.{argument_json, instance_json, library_item_json, library_json, which_json}
use Rattle.wc_record.specs.Texts.{text_of}

-- a list whose items are all read back
list_back : {A : Type 0} (write : A → Json) (read : Json → Reading A) → ((x : A) → read (write x) ≡ Ok x) → (xs : List A)
    → list read (array_of (map write xs)) ≡ Ok xs
unfolding array_of
list_back write read back xs = items_from-items_json write read (λ x. ⊤) (λ x fits. back x) 0 xs (λ k d within. tt)

pub kind_back : (k : ExportKind) → export_kind (export_kind_json k) ≡ Ok k
kind_back Func = refl
kind_back Table = refl
kind_back Memory = refl
kind_back Global = refl

pub which_back : (w : WhichView) → which (which_json w) ≡ Ok w
unfolding object_of
which_back main_module = refl
which_back (adapter_of name) = refl

pub item_back : (i : LibraryItemView) → library_item (library_item_json i) ≡ Ok i
unfolding object_of
item_back i = rw (kind_back i.kind, which_back i.which) refl

pub instance_back : (i : InstanceView) → instance (instance_json i) ≡ Ok i
unfolding object_of
instance_back (module_instance w) = rw (which_back w) refl
instance_back (item_instance items) = rw (list_back library_item_json library_item item_back items) refl

pub argument_back : (a : List ℕ × InstanceView) → argument (argument_json a) ≡ Ok a
unfolding object_of
argument_back a = rw (instance_back a.1) refl

pub library_back : (l : LibraryView) → library (library_json l) ≡ Ok l
unfolding object_of
library_back l = rw (list_back argument_json argument argument_back l.arguments) refl

-- as texts

writable_kind : (bound : ℕ) (k : ExportKind) → IsWritable bound (export_kind_json k)
writable_kind bound k = IsWritable-string bound (export_kind_name k)

writable_truth : (bound : ℕ) (b : Bool) → IsWritable bound (boolean b)
writable_truth bound b = record { numbers = tt; unique = tt; shallow = omega arith }

writable_which : (w : WhichView) → IsWritable 1 (which_json w)
unfolding object_of
writable_which main_module =
    IsWritable-object (AreWritable-cons (IsWritable-string 0 (codes "main")) AreWritable-nil) (AreDistinct_counted (codes "kind" ∷ []) refl)
writable_which (adapter_of name) =
    IsWritable-object
    (AreWritable-cons (IsWritable-string 0 (codes "adapter"))
    (AreWritable-cons (IsWritable-string 0 name) AreWritable-nil))
    (AreDistinct_counted (codes "kind" ∷ codes "name" ∷ []) refl)

writable_item : (i : LibraryItemView) → IsWritable 2 (library_item_json i)
unfolding object_of
writable_item i =
    IsWritable-object
    (AreWritable-cons (IsWritable-string 1 i.alias)
    (AreWritable-cons (writable_kind 1 i.kind)
    (AreWritable-cons (writable_which i.which)
    (AreWritable-cons (IsWritable-string 1 i.name) AreWritable-nil))))
    (AreDistinct_counted (codes "alias" ∷ codes "kind" ∷ codes "which" ∷ codes "name" ∷ []) refl)

-- a list whose items can all be printed
writable_list : {A : Type 0} (bound : ℕ) (write : A → Json) → ((x : A) → IsWritable bound (write x)) → (xs : List A)
    → IsWritable (suc bound) (array_of (map write xs))
unfolding array_of
writable_list bound write each xs = IsWritable-list_json bound write (λ x. ⊤) (λ x fits. each x) xs (λ k d within. tt)

writable_instance : (i : InstanceView) → IsWritable 4 (instance_json i)
unfolding object_of
writable_instance (module_instance w) =
    IsWritable-le 4 (omega arith) (IsWritable-object
    (AreWritable-cons (IsWritable-string 1 (codes "module"))
    (AreWritable-cons (writable_which w) AreWritable-nil))
    (AreDistinct_counted (codes "kind" ∷ codes "which" ∷ []) refl))
writable_instance (item_instance items) =
    IsWritable-object
    (AreWritable-cons (IsWritable-string 3 (codes "items"))
    (AreWritable-cons (writable_list 2 library_item_json writable_item items) AreWritable-nil))
    (AreDistinct_counted (codes "kind" ∷ codes "items" ∷ []) refl)

writable_argument : (a : List ℕ × InstanceView) → IsWritable 5 (argument_json a)
unfolding object_of
writable_argument a =
    IsWritable-object
    (AreWritable-cons (IsWritable-string 4 a.0)
    (AreWritable-cons (writable_instance a.1) AreWritable-nil))
    (AreDistinct_counted (codes "name" ∷ codes "instance" ∷ []) refl)

writable_library : (l : LibraryView) → IsWritable 7 (library_json l)
unfolding object_of
writable_library l =
    IsWritable-object
    (AreWritable-cons (writable_list 5 argument_json writable_argument l.arguments)
    (AreWritable-cons (writable_truth 6 l.instantiate_after_shims) AreWritable-nil))
    (AreDistinct_counted (codes "arguments" ∷ codes "instantiate_after_shims" ∷ []) refl)

pub library_text_back : (l : LibraryView) → IsSomeAnd (document (text_of (library_json l))) (λ j. HasUniqueKeys j × (library j ≡ Ok l))
library_text_back l =
    let j = library_json l in
    let w = writable_library l in
    let shallow = w.shallow in
    let P : Option Json → Type 0 = λ o. IsSomeAnd o (λ j. HasUniqueKeys j × (library j ≡ Ok l)) in
    subst P (sym (document-print j w.numbers (omega (arith, shallow)))) (w.unique, library_back l)
