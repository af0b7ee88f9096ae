-- Items of a module that was read, by their indices.
use Rattle.std.proofs.Common.{◌≡◌, ℕ, List, [], ◌∷◌, length, map, refl, sym, ◌∙◌, ap, Bool, true, false, cond, ◌&&◌, Option, Some, None}
use Rattle.std.specs.Prelude.{◌==◌, filter}
use Rattle.std.specs.List.{slice_get, range_with_len}
use Rattle.std.specs.Str.{bytes_eq}
use Rattle.std.specs.Option.{option_map, option_map_or}
use Rattle.std.specs.Map.{lookup}
use Rattle.std.specs.Borrow.{Bor}
use Rattle.std.proofs.lemmas.Option.{slice_get-map}
use Rattle.std.proofs.lemmas.List.{length-map}
use Rattle.wc_read.specs.Items.{DefValue, imported, local, func_value, global_value}
use Rattle.wc_read.specs.BodyOperators.{body_in, init_in}
use Rattle.wc_read.specs.declared.items.Item.{Item}
use Rattle.wc_read.specs.declared.types.GlobalType.{GlobalType}
use Rattle.wc_read.specs.declared.core_module.Module.{Module}
use Rattle.wc_read.specs.Items.{def_seen, item_seen}
use Rattle.wc_read.specs.Decoded.{FuncCode, GlobalCode, ItemIndex, func_code, decoded_module, size_of}
use Rattle.wc_gc.specs.Found.{allocation_state, found_in, has_name, is_empty_type_at, is_named_at, is_realloc, is_realloc_at, stack_pointer}
use Rattle.wc_read.specs.declared.operators.Space.TheVariants.{Types, Funcs, Tables, Memories, Globals}
use Rattle.wc_read.specs.declared.operators.Space.{Space}

at_mapped : {A B : Type 0} (p : B → Bool) (f : A → B) (xs : List A) (n : ℕ) (o : Option A) → slice_get xs n ≡ o
    → option_map_or p (slice_get (map f xs) n) false ≡ option_map_or p (option_map f o) false
at_mapped p f xs n o e = ap (λ z. option_map_or p z false) (slice_get-map f xs n ∙ ap (option_map f) e)

-- what a test says of the item at an index

pub test_func : (a : Module) (p : FuncCode → Bool) (n : ℕ) (o : Option (Item ℕ (Bor (List ℕ)))) → slice_get a.funcs.items n ≡ o
    → option_map_or p (slice_get (decoded_module a).funcs n) false ≡ option_map_or (λ f. p (func_code f)) o false
unfolding decoded_module
test_func a p n None e = at_mapped p (item_seen body_in) (map func_value a.funcs.items) n None (slice_get-map func_value a.funcs.items n
    ∙ ap (option_map func_value) e)
test_func a p n (Some f) e = at_mapped p (item_seen body_in) (map func_value a.funcs.items) n (Some (func_value f))
    (slice_get-map func_value a.funcs.items n ∙ ap (option_map func_value) e)

pub test_global : (a : Module) (p : GlobalCode → Bool) (n : ℕ) (o : Option (Item GlobalType (Bor (List ℕ)))) → slice_get a.globals.items n ≡ o
    → option_map_or p (slice_get (decoded_module a).globals n) false ≡ option_map_or (λ g. p (item_seen init_in (global_value g))) o false
unfolding decoded_module
test_global a p n None e = at_mapped p (item_seen init_in) (map global_value a.globals.items) n None (slice_get-map global_value a.globals.items n
    ∙ ap (option_map global_value) e)
test_global a p n (Some g) e = at_mapped p (item_seen init_in) (map global_value a.globals.items) n (Some (global_value g))
    (slice_get-map global_value a.globals.items n ∙ ap (option_map global_value) e)

-- names are those of the map

lookup_seen : (test : ℕ → Bool) (es : List (ℕ × Bor (List ℕ))) → lookup test (map (λ e. (e.0, e.1.now)) es) ≡ option_map (λ b. b.now) (lookup test es)
lookup_seen test [] = refl
lookup_seen test (e ∷ es) = elim (test e.0) as (λ b. cond b (Some e.1.now) (lookup test (map (λ e. (e.0, e.1.now)) es)) ≡ option_map (λ b. b.now)
    (cond b (Some e.1) (lookup test es))) [ true ↦ refl | false ↦ lookup_seen test es ]

pub name_at : (a : Module) (n : ℕ) → lookup (λ k. n == k) (decoded_module a).global_names ≡ option_map (λ b. b.now)
    (lookup (λ k. n == k) a.global_names.entries)
unfolding decoded_module
name_at a n = lookup_seen (λ k. n == k) a.global_names.entries

-- how many items a space has

abbrev pub count_of : Module → Space → ℕ
count_of a Types = length a.types.items
count_of a Funcs = length a.funcs.items
count_of a Tables = length a.tables.items
count_of a Memories = length a.memories.items
count_of a Globals = length a.globals.items

pub size_is : (a : Module) (space : Space) → size_of (decoded_module a) space ≡ count_of a space
unfolding decoded_module
size_is a Types = length-map a.types.items _
size_is a Funcs = length-map (map func_value a.funcs.items) _ ∙ length-map a.funcs.items _
size_is a Tables = length-map a.tables.items _
size_is a Memories = length-map a.memories.items _
size_is a Globals = length-map (map global_value a.globals.items) _ ∙ length-map a.globals.items _

pub named : (a : Module) (name : List ℕ) (n : ℕ) (o : Option (Bor (List ℕ))) → o ≡ lookup (λ k. n == k) a.global_names.entries
    → option_map_or (λ b. bytes_eq b.now name) o false ≡ has_name (decoded_module a) name n
named a name n None e = ap (λ o. option_map_or (λ k. bytes_eq k name) (option_map (λ b. b.now) o) false) e
    ∙ ap (λ o. option_map_or (λ k. bytes_eq k name) o false) (sym (name_at a n))
named a name n (Some b) e = ap (λ o. option_map_or (λ k. bytes_eq k name) (option_map (λ b. b.now) o) false) e
    ∙ ap (λ o. option_map_or (λ k. bytes_eq k name) o false) (sym (name_at a n))

pub realloc_seen : {C D : Type 0} (view : C → D) (d : DefValue C) → is_realloc (def_seen view d) ≡ is_realloc d
realloc_seen view (imported m n) = refl
realloc_seen view (local x) = refl

-- what is found, by lists

pub found_is : (a : Module) (live : ItemIndex → Bool) (stacks states reallocs tables memories empties : List ℕ)
    → stacks ≡ filter (λ n. live (Globals, n) && is_named_at (decoded_module a) stack_pointer n) (range_with_len 0 (length a.globals.items))
    → states ≡ filter (λ n. live (Globals, n) && is_named_at (decoded_module a) allocation_state n) (range_with_len 0 (length a.globals.items))
    → reallocs ≡ filter (λ n. live (Funcs, n) && is_realloc_at (decoded_module a) n) (range_with_len 0 (length a.funcs.items))
    → tables ≡ filter (λ n. live (Tables, n)) (range_with_len 0 (length a.tables.items))
    → memories ≡ filter (λ n. live (Memories, n)) (range_with_len 0 (length a.memories.items))
    → empties ≡ filter (λ n. live (Types, n) && is_empty_type_at (decoded_module a) n) (range_with_len 0 (length a.types.items))
    → record { stacks = stacks; states = states; reallocs = reallocs; tables = tables; memories = memories; empties = empties }
    ≡ found_in (decoded_module a) live
unfolding found_in
found_is a live stacks states reallocs tables memories empties s t r b m y =
    let all = λ (space : Space) (p : ℕ → Bool). ap (λ (k : ℕ). filter p (range_with_len 0 k)) (sym (size_is a space)) in
    let s2 = s ∙ all Globals (λ n. live (Globals, n) && is_named_at (decoded_module a) stack_pointer n) in
    let t2 = t ∙ all Globals (λ n. live (Globals, n) && is_named_at (decoded_module a) allocation_state n) in
    let r2 = r ∙ all Funcs (λ n. live (Funcs, n) && is_realloc_at (decoded_module a) n) in
    let b2 = b ∙ all Tables (λ n. live (Tables, n)) in
    let m2 = m ∙ all Memories (λ n. live (Memories, n)) in
    let y2 = y ∙ all Types (λ n. live (Types, n) && is_empty_type_at (decoded_module a) n) in
    rw (s2, t2, r2, b2, m2, y2) refl
