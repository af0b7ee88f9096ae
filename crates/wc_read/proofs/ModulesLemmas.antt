-- What is checked of a module holds of it.
use Rattle.std.proofs.lemmas.List.{length-map}
use Rattle.std.proofs.Common.{◌≡◌, ℕ, ◌<◌, List, [], ◌∷◌, map, length, Bool, true, false, Option, Some, None, refl, sym, ◌∙◌, ap, subst, arith, ◌≢◌}
use Rattle.std.specs.Prelude.{nat_lt, All, AllPairs, IfSome, ◌&&◌, ◌==◌, Result, Ok, Err, IfOk, IfErr}
use Rattle.std.proofs.lemmas.Bool.{false≢true, ltb-true, lt-ltb, and_parts}
use Rattle.std.proofs.lemmas.Bool.Decides.{nat_tests}
use Rattle.std.proofs.lemmas.List.Sums.{AllPass-from_list_all, list_all-from_AllPass}
use Rattle.std.proofs.lemmas.List.Folds.{list_all-map}
use Rattle.std.specs.List.{list_all}
use Rattle.std.specs.List.{slice_get}
use Rattle.std.specs.Option.{option_map}
use Rattle.std.specs.Borrow.{Bor}
use Rattle.std.proofs.lemmas.Option.{slice_get-map, slice_get_within, get_or_from_slice_get}
use Rattle.std.proofs.lemmas.List.Elements.{All-get_or}
use Rattle.wc_read.specs.Types.{FuncTypeValue, has_type_index, HaveTypeIndices, func_type_value}
use Rattle.wc_read.specs.Reading.Validity.{name_types}
use Rattle.wc_read.specs.Reading.Types.{have_type_indices, is_nullary}
use Rattle.wc_read.specs.declared.types.ValType.{ValType}
use Rattle.wc_read.specs.Items.{FuncValue, func_value, table_value, global_value}
use Rattle.wc_read.specs.InitTypes.{AreTyped}
use Rattle.wc_read.specs.Exports.{export_value}
use Rattle.wc_read.specs.declared.exports.Export.{Export}
use Rattle.wc_read.specs.Sections.{SectionValue, section_value, SpellsFrames}
use Rattle.wc_read.specs.SectionContents.{SectionContentsValue}
use Rattle.wc_read.specs.Reading.Contents.{section_contents_in}
use Rattle.wc_read.specs.Names.{GlobalNameValue, global_names_id, global_names_of}
use Rattle.wc_read.specs.Modules.{ModuleValue, module_value, CustomValue, HasCustom, module_of, HaveTypes, NameTypes, IsStart, IsModule, IsAssembled, AreModule}
use Rattle.wc_read.specs.Modules.{SpellsModule}
use Rattle.wc_read.proofs.NamesUniqueLemmas.{names_unique}
use Rattle.wc_read.proofs.ProducersReadLemmas.{producers_unique}
use Rattle.wc_read.specs.declared.sections.Section.{Section}
use Rattle.wc_read.specs.declared.fault.ReadFault.{ReadFault}
use Rattle.wc_read.specs.declared.fault.ReadFault.TheVariants.{Memory as memory_fault}
use Rattle.wc_read.proofs.OptionsLemmas.{some_same, some_none}
use Rattle.wc_read.proofs.SectionsLemmas.{frames_one}
use Rattle.wc_read.proofs.SectionContentsLemmas.{parts_there}
use Rattle.wc_read.specs.declared.items.Item.{Item}
use Rattle.wc_read.specs.declared.types.FuncType.{FuncType}
use Rattle.wc_read.specs.declared.core_module.Module.{Module}

pub start_is : (m : Module) (index : ℕ) (f : Item ℕ (Bor (List ℕ))) (t : FuncType) → slice_get m.funcs.items index ≡ Some f
    → slice_get m.types.items f.ty ≡ Some t → (func_type_value t).params ≡ [] → (func_type_value t).results ≡ [] → IsStart (module_value m) index
start_is m index f t e g p r = record {
  func = func_value f;
  ty = func_type_value t;
  is_func = slice_get-map func_value m.funcs.items index ∙ ap (option_map func_value) e;
  is_type = slice_get-map func_type_value m.types.items f.ty ∙ ap (option_map func_type_value) g;
  no_params = p;
  no_results = r;
}

pub no_length : {X : Type 0} (xs : List X) → (length xs == 0) ≡ true → xs ≡ []
no_length [] e = refl
no_length (x ∷ xs) e = let h : length (x ∷ xs) ≡ 0 = grind (arith, nat_tests, e) in absurd (omega (arith, h))

pub no_values : (f : FuncTypeValue) → is_nullary f ≡ true → (f.params ≡ []) × (f.results ≡ [])
no_values f e =
    let p = and_parts (length f.params == 0) (length f.results == 0) e in
    (no_length f.params p.0, no_length f.results p.1)

nullary : (f : FuncTypeValue) → f.params ≡ [] → f.results ≡ [] → is_nullary f ≡ true
nullary f p r = ap (λ (ps : List ValType). length ps == 0 && length f.results == 0) p ∙ ap (λ (rs : List ValType). length rs == 0) r

pub not_nullary : (m : Module) (index : ℕ) (f : Item ℕ (Bor (List ℕ))) (t : FuncType) → slice_get m.funcs.items index ≡ Some f
    → slice_get m.types.items f.ty ≡ Some t → is_nullary (func_type_value t) ≡ false → ¬ (IsStart (module_value m) index)
not_nullary m index f t e g not s =
    let func : func_value f ≡ s.func = some_same (func_value f) s.func
    (sym (slice_get-map func_value m.funcs.items index ∙ ap (option_map func_value) e) ∙ s.is_func) in
    let here : slice_get (map func_type_value m.types.items) f.ty ≡ Some (func_type_value t) = slice_get-map func_type_value m.types.items f.ty
    ∙ ap (option_map func_type_value) g in
    let there : slice_get (map func_type_value m.types.items) f.ty ≡ Some s.ty =
    subst (λ (h : FuncValue). slice_get (map func_type_value m.types.items) h.ty ≡ Some s.ty) (sym func) s.is_type in
    let ty : func_type_value t ≡ s.ty = some_same (func_type_value t) s.ty (sym here ∙ there) in
    false≢true (sym not ∙ ap is_nullary ty ∙ nullary s.ty s.no_params s.no_results)

-- a bound on all things, seen by view
pub all_less : {X Y : Type 0} (view : X → Y) (f g : Y → ℕ) (xs : List X) → list_all (λ x. nat_lt (f (view x)) (g (view x))) xs ≡ true
    → All (λ y. f y < g y) (map view xs)
all_less view f g xs e k d within = ltb-true _ _
    (AllPass-from_list_all (λ y. nat_lt (f y) (g y)) (map view xs) (list_all-map (λ y. nat_lt (f y) (g y)) view xs ∙ e) k d within)

pub not_all_less : {X Y : Type 0} (view : X → Y) (f g : Y → ℕ) (xs : List X) → list_all (λ x. nat_lt (f (view x)) (g (view x))) xs ≡ false
    → ¬ (All (λ y. f y < g y) (map view xs))
not_all_less view f g xs e all = false≢true (sym e ∙ sym (list_all-map (λ y. nat_lt (f y) (g y)) view xs)
    ∙ list_all-from_AllPass (λ y. nat_lt (f y) (g y)) (map view xs) (λ k d within. lt-ltb _ _ (all k d within)))

-- a test of all items against their values

all_true : {X Y : Type 0} (view : X → Y) (test : Y → Bool) (xs : List X) → list_all (λ x. test (view x)) xs ≡ true → All (λ y. test y ≡ true) (map view xs)
all_true view test xs e = AllPass-from_list_all test (map view xs) (list_all-map test view xs ∙ e)

all_passes : {X Y : Type 0} (view : X → Y) (test : Y → Bool) (xs : List X) → All (λ y. test y ≡ true) (map view xs) → list_all (λ x. test (view x)) xs ≡ true
all_passes view test xs h = sym (list_all-map test view xs) ∙ list_all-from_AllPass test (map view xs) h

-- every type that is named by its index is there

type_indices_are : (n : ℕ) (f : FuncTypeValue) → have_type_indices n f ≡ true → HaveTypeIndices n f
type_indices_are n f e = let p = and_parts (list_all (has_type_index n) f.params) (list_all (has_type_index n) f.results) e in
    (AllPass-from_list_all (has_type_index n) f.params p.0, AllPass-from_list_all (has_type_index n) f.results p.1)

have_indices : (n : ℕ) (f : FuncTypeValue) → HaveTypeIndices n f → have_type_indices n f ≡ true
have_indices n f h = rw (list_all-from_AllPass (has_type_index n) f.params h.0, list_all-from_AllPass (has_type_index n) f.results h.1) refl

pub name_types_from : (m : Module) → name_types (length m.types.items) m ≡ true → NameTypes (module_value m)
name_types_from m e =
    let n = length (map func_type_value m.types.items) in
    let f : name_types n m ≡ true = subst (λ (k : ℕ). name_types k m ≡ true) (sym (length-map m.types.items func_type_value)) e in
    let p = and_parts (list_all (λ t. have_type_indices n (func_type_value t)) m.types.items) _ f in
    let q = and_parts (list_all (λ t. has_type_index n t.ty.element_type) m.tables.items) _ p.1 in
    record {
      types = λ k d within. type_indices_are n _ (all_true func_type_value (have_type_indices n) m.types.items p.0 k d within);
      tables = all_true table_value (λ t. has_type_index n t.ty.element_type) m.tables.items q.0;
      globals = all_true global_value (λ g. has_type_index n g.ty.content_type) m.globals.items q.1;
    }

pub name_types_back : (m : Module) → NameTypes (module_value m) → name_types (length m.types.items) m ≡ true
name_types_back m h =
    let n = length (map func_type_value m.types.items) in
    subst (λ (k : ℕ). name_types k m ≡ true) (length-map m.types.items func_type_value)
    (rw (
      all_passes func_type_value (have_type_indices n) m.types.items (λ k d within. have_indices n _ (h.types k d within)),
      all_passes table_value (λ t. has_type_index n t.ty.element_type) m.tables.items h.tables,
      all_passes global_value (λ g. has_type_index n g.ty.content_type) m.globals.items h.globals,
    ) refl)

-- the type of a function of a module whose functions have types of it
pub has_type : (m : Module) (index : ℕ) (f : Item ℕ (Bor (List ℕ))) → HaveTypes (module_value m) → slice_get m.funcs.items index ≡ Some f
    → f.ty < length m.types.items
has_type m index f typed e =
    let here : slice_get (map func_value m.funcs.items) index ≡ Some (func_value f) = slice_get-map func_value m.funcs.items index
    ∙ ap (option_map func_value) e in
    let within = slice_get_within (map func_value m.funcs.items) index (func_value f) here in
    let less = All-get_or (λ (g : FuncValue). g.ty < length (map func_type_value m.types.items)) (map func_value m.funcs.items) index
    (func_value f) within typed in
    let same = get_or_from_slice_get (map func_value m.funcs.items) index (func_value f) (func_value f) here in
    let bound : f.ty < length (map func_type_value m.types.items) = subst (λ (g : FuncValue). g.ty < length (map func_type_value m.types.items)) same less in
    subst (λ (n : ℕ). f.ty < n) (length-map m.types.items func_type_value) bound

-- as many types as values of types

pub typed_values : (m : Module) → All (λ f. f.ty < length m.types.items) (map func_value m.funcs.items)
    → All (λ f. f.ty < length (map func_type_value m.types.items)) (map func_value m.funcs.items)
typed_values m h = subst (λ (n : ℕ). All (λ (f : FuncValue). f.ty < n) (map func_value m.funcs.items)) (sym (length-map m.types.items func_type_value)) h

pub typed_items : (m : Module) → All (λ f. f.ty < length (map func_type_value m.types.items)) (map func_value m.funcs.items)
    → All (λ f. f.ty < length m.types.items) (map func_value m.funcs.items)
typed_items m h = subst (λ (n : ℕ). All (λ (f : FuncValue). f.ty < n) (map func_value m.funcs.items)) (length-map m.types.items func_type_value) h

pub globals_of_values : (m : Module) → AreTyped (length m.types.items) (length m.funcs.items) (map global_value m.globals.items)
    → AreTyped (length (map func_type_value m.types.items)) (length (map func_value m.funcs.items)) (map global_value m.globals.items)
globals_of_values m h =
    subst (λ (k : ℕ). AreTyped k (length (map func_value m.funcs.items)) (map global_value m.globals.items)) (sym (length-map m.types.items func_type_value))
    (subst (λ (n : ℕ). AreTyped (length m.types.items) n (map global_value m.globals.items)) (sym (length-map m.funcs.items func_value)) h)

pub globals_of_items : (m : Module) → AreTyped (length (map func_type_value m.types.items)) (length (map func_value m.funcs.items))
    (map global_value m.globals.items)
    → AreTyped (length m.types.items) (length m.funcs.items) (map global_value m.globals.items)
globals_of_items m h =
    subst (λ (k : ℕ). AreTyped k (length m.funcs.items) (map global_value m.globals.items)) (length-map m.types.items func_type_value)
    (subst (λ (n : ℕ). AreTyped (length (map func_type_value m.types.items)) n (map global_value m.globals.items)) (length-map m.funcs.items func_value) h)

-- names of exports, of their values and unchanged

same_names : (es : List Export) → map (λ e. e.name) (map export_value es) ≡ map (λ (e : Export). e.name.now) es
same_names [] = refl
same_names (e ∷ es) = ap (λ (r : List (List ℕ)). e.name.now ∷ r) (same_names es)

pub names_distinct : (es : List Export) → AllPairs (λ x y. x ≢ y) (map (λ e. e.name) (map export_value es))
    → AllPairs (λ x y. x ≢ y) (map (λ (e : Export). e.name.now) es)
names_distinct es h = subst (λ (ns : List (List ℕ)). AllPairs (λ x y. x ≢ y) ns) (same_names es) h

pub names_together : (es : List Export) → AllPairs (λ x y. x ≢ y) (map (λ (e : Export). e.name.now) es)
    → AllPairs (λ x y. x ≢ y) (map (λ e. e.name) (map export_value es))
names_together es h = subst (λ (ns : List (List ℕ)). AllPairs (λ x y. x ≢ y) ns) (sym (same_names es)) h

pub has_start : (m : ModuleValue) (index : ℕ) → m.start ≡ Some index → IsStart m index → IfSome m.start (IsStart m)
has_start m index e s = subst (λ (o : Option ℕ). IfSome o (IsStart m)) (sym e) s

pub no_start : (m : ModuleValue) → m.start ≡ None → IfSome m.start (IsStart m)
no_start m e = rw e tt

-- modules of sections

pub same_ids : (ss : List Section) → map (λ s. s.id) (map section_value ss) ≡ map (λ (s : Section). s.id) ss
same_ids [] = refl
same_ids (s ∷ ss) = ap (λ (r : List ℕ). s.id ∷ r) (same_ids ss)

pub no_parts : (sections : List SectionValue) (v : ModuleValue) → AreModule sections v → section_contents_in sections ≡ None → ⊥
no_parts sections v m none = some_none m.parts (sym (parts_there sections m.parts m.has_contents) ∙ none)

same_parts : (sections : List SectionValue) (p : SectionContentsValue) (v : ModuleValue) (m : AreModule sections v)
    → section_contents_in sections ≡ Some p → m.parts ≡ p
same_parts sections p v m e = some_same m.parts p (sym (parts_there sections m.parts m.has_contents) ∙ e)

pub other_counts : (sections : List SectionValue) (p : SectionContentsValue) (v : ModuleValue) → AreModule sections v
    → section_contents_in sections ≡ Some p → ¬ (length p.func_types ≡ length p.bodies) → ⊥
other_counts sections p v m e differ = differ (subst (λ (q : SectionContentsValue). length q.func_types ≡ length q.bodies)
    (same_parts sections p v m e) m.as_many)

-- custom sections say one thing
custom_one : (sections : List SectionValue) (c d : CustomValue) → HasCustom sections c → HasCustom sections d → c ≡ d
custom_one sections c d h k =
    let names : c.global_names ≡ d.global_names = h.has_names ∙ ap global_names_of (names_unique global_names_id sections h.pairs k.pairs h.has_pairs k.has_pairs)
    ∙ sym k.has_names in
    let last : c.producers ≡ d.producers = producers_unique sections c.producers d.producers h.has_producers k.has_producers in
    made_same c d names last
  where
    made : List GlobalNameValue → Option (List ℕ) → CustomValue
    made ns p = record { global_names = ns; producers = p }

    made_same : (c d : CustomValue) → c.global_names ≡ d.global_names → c.producers ≡ d.producers → c ≡ d
    made_same c d e f = ap (λ ns. made ns c.producers) e ∙ ap (made d.global_names) f

assembled_one : (sections : List SectionValue) (p : SectionContentsValue) (v w : ModuleValue) → IsAssembled sections p v → IsAssembled sections p w → v ≡ w
assembled_one sections p v w m n = m.is ∙ ap (module_of sections p) (custom_one sections m.custom n.custom m.has_custom n.has_custom) ∙ sym n.is

-- sections with these parts make one module
one_of_parts : (sections : List SectionValue) (p : SectionContentsValue) (v w : ModuleValue) → AreModule sections v
    → section_contents_in sections ≡ Some p → IsAssembled sections p w → v ≡ w
one_of_parts sections p v w m e n = assembled_one sections p v w (subst (λ (q : SectionContentsValue). IsAssembled sections q v)
    (same_parts sections p v m e) m.assembled) n

pub not_valid : (sections : List SectionValue) (p : SectionContentsValue) (v w : ModuleValue) → AreModule sections v
    → section_contents_in sections ≡ Some p → IsAssembled sections p w → ¬ (IsModule w) → ⊥
not_valid sections p v w m e n wrong = wrong (subst (λ (x : ModuleValue). IsModule x) (one_of_parts sections p v w m e n) m.valid)

pub module_found : {M : Type 0} (view : M → ModuleValue) (bytes : List ℕ) (sections : List SectionValue) (r : Result M ReadFault)
    → SpellsFrames bytes sections → IfOk r (λ m. AreModule sections (view m)) → IfOk r (λ m. SpellsModule bytes (view m))
module_found view bytes sections (Ok m) has_frames h = record { sections = sections; has_frames = has_frames; has_sections = h }
module_found view bytes sections (Err e) has_frames h = h

pub module_refused : {M : Type 0} (bytes : List ℕ) (sections : List SectionValue) (r : Result M ReadFault) → SpellsFrames bytes sections
    → IfErr r (λ f. f ≢ memory_fault → (v : ModuleValue) → ¬ (AreModule sections v))
    → IfErr r (λ f. f ≢ memory_fault → (v : ModuleValue) → ¬ (SpellsModule bytes v))
module_refused bytes sections (Ok m) has_frames h = h
module_refused bytes sections (Err e) has_frames h =
    λ real v s. h real v (subst (λ (ss : List SectionValue). AreModule ss v) (frames_one bytes s.sections sections s.has_frames has_frames) s.has_sections)

-- sections make one module
module_one : (sections : List SectionValue) (v w : ModuleValue) → AreModule sections v → AreModule sections w → v ≡ w
module_one sections v w m n = one_of_parts sections n.parts v w m (parts_there sections n.parts n.has_contents) n.assembled

pub modules_one : (bytes : List ℕ) (v w : ModuleValue) → SpellsModule bytes v → SpellsModule bytes w → v ≡ w
modules_one bytes v w s t = module_one t.sections v w
    (subst (λ (ss : List SectionValue). AreModule ss v) (frames_one bytes s.sections t.sections s.has_frames t.has_frames) s.has_sections) t.has_sections
