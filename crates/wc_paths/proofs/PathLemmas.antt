-- Paths of items by paths of their numbers.
use Rattle.std.proofs.Common.{◌≡◌, ℕ, ◌+◌, ◌<◌, List, [], ◌∷◌, ◌++◌, length, map, take, get_or, refl, sym, ◌∙◌, ap, subst, Bool, true, false, ◌&&◌, inl, inr, arith}
use Rattle.std.specs.Prelude.{All, Contains, filter}
use Rattle.std.specs.List.{list_all}
use Rattle.std.proofs.lemmas.List.{get_or-map, length-map, map-append, take_more}
use Rattle.std.proofs.lemmas.List.Elements.{All-contains, filter-append, filter_passes}
use Rattle.std.proofs.lemmas.List.Folds.{list_all-append}
use Rattle.wc_read.specs.declared.operators.Space.TheVariants.{Types, Funcs}
use Rattle.wc_read.specs.Modules.{module_value}
use Rattle.wc_read.specs.declared.core_module.Module.{Module}
use Rattle.wc_segments.specs.Segments.{segments_value}
use Rattle.wc_segments.specs.declared.segments.Segments.{Segments}
use Rattle.wc_read.specs.Decoded.{decoded_module}
use Rattle.wc_graph.specs.Reached.{IsPath, IsReachedFrom}
use Rattle.wc_paths.specs.Items.{CountsValue, GraphValue, counts_of, graph_of, has_item, is_closed, is_closed_item, is_item_code, items_of, names_in}
use Rattle.wc_paths.specs.Numbers.{item_at, item_count, number_of, numbers_in, numbers_of, present}
use Rattle.wc_paths.specs.Paths.{IsFaultFrom, IsReachedIn, IsReachedInAny}
use Rattle.wc_paths.specs.declared.paths.PathFault.{PathFault}
use Rattle.wc_paths.specs.declared.paths.PathFault.TheVariants.{LiveBody, Memory}
use Rattle.wc_paths.specs.declared.items.PathItem.{PathItem}
use Rattle.wc_paths.specs.declared.items.PathItem.TheVariants.{Item}
use Rattle.wc_paths.proofs.NamesLemmas.{appended}
use Rattle.wc_graph.proofs.NumberingLemmas.{reached_number, reached_thing}
use Rattle.wc_paths.proofs.NumbersLemmas.{item_back, number_below}

-- numbers of the items that are there

abbrev pub numbers_parts : CountsValue → List PathItem → List ℕ
numbers_parts c xs = map (number_of c) (filter (has_item c) xs)

pub numbers_join : (c : CountsValue) (xs ys : List PathItem) → numbers_parts c (xs ++ ys) ≡ numbers_parts c xs ++ numbers_parts c ys
numbers_join c xs ys =
    ap (map (number_of c)) (filter-append (has_item c) xs ys) ∙ map-append (number_of c) (filter (has_item c) xs) (filter (has_item c) ys)

-- they were appended, and this says whether all are there
pub record HasNumbers (c : CountsValue) (items : List PathItem) (old now : List ℕ) (there : Bool) : Type 0 where
  pub numbers : now ≡ old ++ numbers_parts c items
  pub all : there ≡ list_all (has_item c) items

and_true : (a b : Bool) → (a && b) ≡ (a && (b && true))
and_true a true = refl
and_true a false = refl

pub numbers_more : (c : CountsValue) (items : List PathItem) (i : ℕ) (d : PathItem) (old now new : List ℕ) (there one : Bool) → i < length items
    → HasNumbers c (take i items) old now there → new ≡ now ++ numbers_parts c (get_or items i d ∷ []) → one ≡ has_item c (get_or items i d)
    → HasNumbers c (take (i + 1) items) old new (there && one)
numbers_more c items i d old now new there one lt h e k = record {
  numbers = appended (numbers_parts c) (numbers_join c) items i d old now new (numbers_parts c (get_or items i d ∷ [])) lt h.numbers e refl;
  all = ap (λ b. b && one) h.all ∙ (ap (λ b. list_all (has_item c) (take i items) && b) k
      ∙ (and_true (list_all (has_item c) (take i items)) (has_item c (get_or items i d))
      ∙ sym (ap (list_all (has_item c)) (take_more items i d lt) ∙ list_all-append (has_item c) (take i items) (get_or items i d ∷ []))));
}

pub numbers_below : (c : CountsValue) (xs : List PathItem) → All (λ n. n < item_count c) (numbers_parts c xs)
numbers_below c xs k d lt =
    let ys = filter (has_item c) xs in
    let l = length-map ys (number_of c) in
    let within : k < length ys = omega (arith, lt, l) in
    subst (λ n. n < item_count c) (sym (get_or-map (number_of c) ys k (Item Types 0) d within))
    (number_below c (get_or ys k (Item Types 0)) (filter_passes (has_item c) xs k (Item Types 0) within))

-- the graph of a module

pub graph_names : (g : GraphValue) (c : CountsValue) → c ≡ counts_of g → (n : ℕ) (x : PathItem) → x ≡ item_at c n → (named : List PathItem) → named ≡ items_of g x
    → (old new : List ℕ) → new ≡ old ++ numbers_parts c named → new ≡ old ++ numbers_in g n
graph_names g c e n x is named are old new h =
    h ∙ (ap (λ z. old ++ numbers_parts c z) (are ∙ ap (items_of g) is) ∙ ap (λ (z : CountsValue). old ++ numbers_parts z (items_of g (item_at z n))) e)

pub graph_closed : (g : GraphValue) (c : CountsValue) → c ≡ counts_of g → (n : ℕ) (x : PathItem) → x ≡ item_at c n → (named : List PathItem) → named ≡ items_of g x
    → (code there closed : Bool) → code ≡ is_item_code g.code x → there ≡ list_all (has_item c) named → closed ≡ is_closed_item x code there
    → closed ≡ is_closed g (item_at (counts_of g) n)
graph_closed g c e n x is named are code there closed h k r =
    r ∙ (ap (λ b. is_closed_item x b there) h ∙ (ap (is_closed_item x (is_item_code g.code x)) (k ∙ (ap (list_all (has_item c)) are
    ∙ ap (λ (z : CountsValue). list_all (has_item z) (items_of g x)) e)) ∙ ap (is_closed g) (is ∙ ap (λ (z : CountsValue). item_at z n) e)))

-- what is reached is there

abbrev pub IsThere : GraphValue → PathItem → Type 0
IsThere g x = has_item (counts_of g) x ≡ true

pub named_there : (g : GraphValue) (x y : PathItem) → IsThere g x → Contains (names_in g x) y → IsThere g y
named_there g x y p c = All-contains (λ z. has_item (counts_of g) z ≡ true) (names_in g x) y (filter_passes (has_item (counts_of g)) (items_of g x)) c

pub roots_there : (g : GraphValue) (roots : List PathItem) → All (λ z. has_item (counts_of g) z ≡ true) (present g roots)
roots_there g roots = filter_passes (has_item (counts_of g)) roots

path_there : (g : GraphValue) (x : PathItem) (path : List PathItem) (y : PathItem) → IsThere g x → IsPath (names_in g) x path y → IsThere g y
path_there g x [] y p w = subst (IsThere g) w p
path_there g x (z ∷ zs) y p w = path_there g z zs y (named_there g x z p w.0) w.1

pub reached_there : (g : GraphValue) (roots : List PathItem) (x : PathItem) → IsReachedIn g roots x → IsThere g x
reached_there g roots x (r, h, path, w) =
    path_there g r path x (All-contains (λ z. has_item (counts_of g) z ≡ true) (present g roots) r (roots_there g roots) h) w

pub number_reached : (g : GraphValue) (roots : List PathItem) (x : PathItem) → IsReachedIn g roots x
    → IsReachedFrom (numbers_in g) (numbers_of g roots) (number_of (counts_of g) x)
number_reached g roots x r =
    reached_number (number_of (counts_of g)) (item_at (counts_of g)) (IsThere g) (item_back (counts_of g)) (names_in g) (named_there g) (present g roots) (roots_there g roots) x r

-- a number that is reached is that of an item which is
pub item_reached : (g : GraphValue) (roots : List PathItem) (n : ℕ) → IsReachedFrom (numbers_in g) (numbers_of g roots) n
    → IsReachedIn g roots (item_at (counts_of g) n)
item_reached g roots n r =
    let t = reached_thing (number_of (counts_of g)) (item_at (counts_of g)) (IsThere g) (item_back (counts_of g)) (names_in g) (named_there g) (present g roots)
    (roots_there g roots) n r in
    subst (IsReachedIn g roots) (sym (ap (item_at (counts_of g)) (sym t.3) ∙ item_back (counts_of g) t.0 t.2)) t.1

-- where all numbers that are reached are closed, so are the items
pub items_closed : (g : GraphValue) (roots : List PathItem)
    → ((n : ℕ) → IsReachedFrom (numbers_in g) (numbers_of g roots) n → is_closed g (item_at (counts_of g) n) ≡ true)
    → (x : PathItem) → IsReachedIn g roots x → is_closed g x ≡ true
items_closed g roots all x r =
    sym (ap (is_closed g) (item_back (counts_of g) x (reached_there g roots x r))) ∙ all (number_of (counts_of g) x) (number_reached g roots x r)

-- the module that a graph is of
pub graph_is : (m : Module) (s : Segments) → ◌≡◌ {A = GraphValue} (record { code = decoded_module m; segments = segments_value s })
    (graph_of (module_value m) (segments_value s))
unfolding decoded_module
graph_is m s = refl

-- a fault of either list is one of both
pub fault_first : (g : GraphValue) (first second : List PathItem) (f : PathFault) → IsFaultFrom g (IsReachedIn g first) f
    → IsFaultFrom g (IsReachedInAny g first second) f
fault_first g first second Memory h = h
fault_first g first second (LiveBody n) h = (inl h.0, h.1)

pub fault_second : (g : GraphValue) (first second : List PathItem) (f : PathFault) → IsFaultFrom g (IsReachedIn g second) f
    → IsFaultFrom g (IsReachedInAny g first second) f
fault_second g first second Memory h = h
fault_second g first second (LiveBody n) h = (inr h.0, h.1)

pub both_closed : (g : GraphValue) (first second : List PathItem) → ((x : PathItem) → IsReachedIn g first x → is_closed g x ≡ true)
    → ((x : PathItem) → IsReachedIn g second x → is_closed g x ≡ true) → (x : PathItem) → IsReachedInAny g first second x → is_closed g x ≡ true
both_closed g first second a b x (inl r) = a x r
both_closed g first second a b x (inr r) = b x r

-- a function that is not closed
pub fault_of : (g : GraphValue) (roots : List PathItem) (c : CountsValue) → c ≡ counts_of g → (n : ℕ) (x : PathItem) → x ≡ item_at c n → (index : ℕ) → x ≡ Item Funcs index
    → IsReachedFrom (numbers_in g) (numbers_of g roots) n → is_closed g (item_at (counts_of g) n) ≡ false → IsFaultFrom g (IsReachedIn g roots) (LiveBody index)
fault_of g roots c e n x is index func r no_code =
    let same : item_at (counts_of g) n ≡ Item Funcs index = sym (is ∙ ap (λ (z : CountsValue). item_at z n) e) ∙ func in
    (subst (IsReachedIn g roots) same (item_reached g roots n r), subst (λ z. is_closed g z ≡ false) same no_code)
