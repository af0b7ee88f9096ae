-- The items of a module that bytes spell: their imports can be spelled, and their bodies are bytes.
use Rattle.std.proofs.Common.{◌≡◌, ℕ, List, [], ◌∷◌, ◌++◌, map, sym, subst, Option, Some, None}
use Rattle.std.specs.Prelude.{All, IfSome, MatchOption, ⊤}
use Rattle.std.specs.List.{AllByRecursion, filter_map, cons_option, zip}
use Rattle.std.specs.Option.{option_map}
use Rattle.std.proofs.lemmas.List.Elements.{All-nil, recursion_from_All}
use Rattle.wc_read.specs.Imports.{ImportValue}
use Rattle.wc_read.specs.Contents.{SpellsSizePrefixed, SpellsBodies}
use Rattle.wc_read.specs.Sections.{code_id}
use Rattle.wc_read.specs.Order.{content_of}
use Rattle.wc_read.specs.Spaces.{func_of, table_of, memory_of, global_of, imported_item, imported_items, local_item, defined_global, local_funcs}
use Rattle.wc_read.specs.Items.{DefValue, imported, local, ItemValue, FuncValue}
use Rattle.wc_read.specs.Modules.{ModuleValue, SpellsModule}
use Rattle.wc_read.specs.declared.types.ImportType.{ImportType}
use Rattle.wc_read.specs.declared.types.ImportType.TheVariants.{Func, Table, Memory, Global}
use Rattle.wc_write.specs.Spaces.{import_by, defined_by}
use Rattle.wc_write.specs.Values.{AreBytes, IsImport}
use Rattle.wc_write.proofs.ByteLemmas.{back_bytes}
use Rattle.wc_write.proofs.VectorTextLemmas.{items_are}
use Rattle.wc_write.proofs.WritableModuleLemmas.{all_bytes, content_bytes, spelled_writable}

-- what holds of each that some items give, and back

module _ {A B : Type 0} (P : B → Type 0) (give : A → Option B) where
  abbrev pub IfGiven : A → Type 0
  IfGiven x = IfSome (give x) P

  given_more : (ys : List B) → AllByRecursion P ys → (o : Option B) → IfSome o P → AllByRecursion P (cons_option o ys)
  given_more ys all None h = all
  given_more ys all (Some y) h = (h, all)

  pub all_given : (xs : List A) → AllByRecursion IfGiven xs → AllByRecursion P (filter_map give xs)
  all_given [] all = tt
  all_given (x ∷ xs) all = given_more (filter_map give xs) (all_given xs all.1) (give x) all.0

  given_head : (ys : List B) (o : Option B) → AllByRecursion P (cons_option o ys) → IfSome o P × AllByRecursion P ys
  given_head ys None all = (tt, all)
  given_head ys (Some y) all = (all.0, all.1)

  pub all_give : (xs : List A) → AllByRecursion P (filter_map give xs) → AllByRecursion IfGiven xs
  all_give [] all = tt
  all_give (x ∷ xs) all =
      let h = given_head (filter_map give xs) (give x) all in
      (h.0, all_give xs h.1)

pub all_mapped : {A B : Type 0} (P : B → Type 0) (f : A → B) (xs : List A) → ((x : A) → P (f x)) → AllByRecursion P (map f xs)
all_mapped P f [] h = tt
all_mapped P f (x ∷ xs) h = (h x, all_mapped P f xs h)

pub all_joined : {A : Type 0} (P : A → Type 0) (xs ys : List A) → AllByRecursion P xs → AllByRecursion P ys → AllByRecursion P (xs ++ ys)
all_joined P [] ys a b = b
all_joined P (x ∷ xs) ys a b = (a.0, all_joined P xs ys a.1 b)

-- of the content of an item that is defined

abbrev pub IfLocal : {C : Type 0} → (C → Type 0) → DefValue C → Type 0
IfLocal P (imported m n) = Unit {0}
IfLocal P (local x) = P x

pub defined_from : {T C : Type 0} (P : C → Type 0) (ty : T) (d : DefValue C) → IfLocal P d → IfSome (defined_by ty d) (λ o. P o.content)
defined_from P ty (imported m n) h = h
defined_from P ty (local x) h = h

pub defined_to : {T C : Type 0} (P : C → Type 0) (ty : T) (d : DefValue C) → IfSome (defined_by ty d) (λ o. P o.content) → IfLocal P d
defined_to P ty (imported m n) h = h
defined_to P ty (local x) h = h

-- an import, where an item is imported, can be spelled
abbrev pub HasImport : {T C : Type 0} → (T → ImportType) → ItemValue T C → Type 0
HasImport kind i = IfSome (import_by (kind i.ty) i.def) IsImport

abbrev EachCan : {T : Type 0} → (C : Type 0) → (T → ImportType) → (ImportType → Option T) → Type 0
EachCan {T} C kind of =
    (m n : List ℕ) (ty : ImportType) → IsImport (record { module_name = m; name = n; ty = ty }) → IfSome (option_map (λ (t : T). record { ty = t; def = imported m n }) (of ty)) (HasImport {T = T} {C = C} kind)

module _ {T : Type 0} (C : Type 0) (kind : T → ImportType) (of : ImportType → Option T) (can : EachCan C kind of) where
  each_can : (is : List ImportValue) → AllByRecursion IsImport is → AllByRecursion (λ i. IfSome (imported_item {T = T} {C = C} of i) (HasImport kind)) is
  each_can [] all = tt
  each_can (i ∷ is) all = (can i.module_name i.name i.ty all.0, each_can is all.1)

  space_can : (is : List ImportValue) → All IsImport is → (others : List (ItemValue T C)) → AllByRecursion (HasImport kind) others → AllByRecursion (HasImport kind) (imported_items of is ++ others)
  space_can is all others h =
      all_joined (HasImport kind) (imported_items of is) others
      (all_given (HasImport kind) (imported_item {T = T} {C = C} of) is (each_can is (recursion_from_All IsImport is all))) h

func_can : (C : Type 0) → EachCan C Func func_of
func_can C m n (Func index) h = h
func_can C m n (Table t) h = tt
func_can C m n (Memory t) h = tt
func_can C m n (Global g) h = tt

table_can : (C : Type 0) → EachCan C Table table_of
table_can C m n (Func index) h = tt
table_can C m n (Table t) h = h
table_can C m n (Memory t) h = tt
table_can C m n (Global g) h = tt

memory_can : (C : Type 0) → EachCan C Memory memory_of
memory_can C m n (Func index) h = tt
memory_can C m n (Table t) h = tt
memory_can C m n (Memory t) h = h
memory_can C m n (Global g) h = tt

global_can : (C : Type 0) → EachCan C Global global_of
global_can C m n (Func index) h = tt
global_can C m n (Table t) h = tt
global_can C m n (Memory t) h = tt
global_can C m n (Global g) h = h

-- bodies are bytes

abbrev HasBytes : FuncValue → Type 0
HasBytes f = IfLocal AreBytes f.def

body_bytes : (bytes body : List ℕ) → SpellsSizePrefixed bytes body → AreBytes bytes → AreBytes body
body_bytes bytes body s all = back_bytes s.0 body (rw s.1 at all)

bodies_bytes : (content : Option (List ℕ)) (bodies : List (List ℕ)) → IfSome content AreBytes → MatchOption content (bodies ≡ []) (λ c. SpellsBodies c bodies) → All AreBytes bodies
bodies_bytes None bodies all h = rw h (All-nil AreBytes)
bodies_bytes (Some c) bodies all h = items_are SpellsSizePrefixed (λ b. []) AreBytes body_bytes h.1 bodies h.4 (back_bytes h.0 h.1 (rw h.2 at all))

funcs_bytes : (types : List ℕ) (bodies : List (List ℕ)) → AllByRecursion AreBytes bodies → AllByRecursion HasBytes (local_funcs types bodies)
funcs_bytes [] bodies all = tt
funcs_bytes (t ∷ ts) [] all = tt
funcs_bytes (t ∷ ts) (b ∷ bs) all = (all.0, funcs_bytes ts bs all.1)

imported_bytes : (m n : List ℕ) (o : Option ℕ) → IfSome (option_map (λ (t : ℕ). record { ty = t; def = imported m n }) o) HasBytes
imported_bytes m n None = tt
imported_bytes m n (Some t) = tt

imports_bytes : (is : List ImportValue) → AllByRecursion (λ i. IfSome (imported_item {T = ℕ} {C = List ℕ} func_of i) HasBytes) is
imports_bytes [] = tt
imports_bytes (i ∷ is) = (imported_bytes i.module_name i.name (func_of i.ty), imports_bytes is)

-- of all items
pub record HaveItems (m : ModuleValue) : Type 0 where
  pub funcs : AllByRecursion (HasImport Func) m.funcs
  pub tables : AllByRecursion (HasImport Table) m.tables
  pub memories : AllByRecursion (HasImport Memory) m.memories
  pub globals : AllByRecursion (HasImport Global) m.globals
  pub bodies : AllByRecursion (λ f. IfLocal AreBytes f.def) m.funcs

abbrev pub local_func : ℕ × List ℕ → FuncValue
local_func f = record { ty = f.0; def = local f.1 }

pub have_items : (bytes : List ℕ) (m : ModuleValue) → AreBytes bytes → SpellsModule bytes m → HaveItems m
have_items bytes m all s =
    let inside = s.has_sections in
    let p = inside.parts in
    let imports = subst (λ (z : ModuleValue). All IsImport z.imports) inside.assembled.is (spelled_writable bytes m all s).imports in
    let bodies = bodies_bytes (content_of code_id s.sections) p.bodies (content_bytes code_id s.sections (all_bytes bytes s.sections s.has_frames all)) inside.has_contents.has_bodies in
    subst HaveItems (sym inside.assembled.is) (record {
      funcs = space_can (List ℕ) Func func_of (func_can (List ℕ)) p.imports imports (local_funcs p.func_types p.bodies) (all_mapped (HasImport Func) local_func (zip p.func_types p.bodies) (λ f. tt));
      tables = space_can ⊤ Table table_of (table_can ⊤) p.imports imports (map local_item p.tables) (all_mapped (HasImport Table) local_item p.tables (λ t. tt));
      memories = space_can ⊤ Memory memory_of (memory_can ⊤) p.imports imports (map local_item p.memories) (all_mapped (HasImport Memory) local_item p.memories (λ t. tt));
      globals = space_can (List ℕ) Global global_of (global_can (List ℕ)) p.imports imports (map defined_global p.globals) (all_mapped (HasImport Global) defined_global p.globals (λ g. tt));
      bodies = all_joined HasBytes (imported_items func_of p.imports) (local_funcs p.func_types p.bodies)
          (all_given HasBytes (imported_item func_of) p.imports (imports_bytes p.imports)) (funcs_bytes p.func_types p.bodies (recursion_from_All AreBytes p.bodies bodies));
    })
