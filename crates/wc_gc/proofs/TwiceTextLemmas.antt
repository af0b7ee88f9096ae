-- What a text spells: its bodies and initialisers, as they were built; and exports that are all required, which are kept.
use Rattle.std.proofs.Common.{◌≡◌, ℕ, List, [], ◌∷◌, map, refl, sym, ◌∙◌, ap, Bool, true, false, ◌&&◌, not, cond}
use Rattle.std.proofs.Common.{Option, Some}
use Rattle.std.specs.Prelude.{Contains, filter, fold}
use Rattle.std.specs.List.{AllByRecursion, cons_option, find}
use Rattle.std.specs.Str.{bytes_eq}
use Rattle.std.proofs.lemmas.Bool.{false≢true, true≢false}
use Rattle.std.proofs.lemmas.List.Elements.{recursion_from_All}
use Rattle.std.proofs.lemmas.Slice.Eq.{bytes_eq-Decides}
use Rattle.wc_read.specs.Bodies.{BodyValue}
use Rattle.wc_read.specs.BodyOperators.{body_in, init_in}
use Rattle.wc_read.specs.Exports.{ExportValue}
use Rattle.wc_read.specs.Items.{DefValue, ItemValue, imported, local}
use Rattle.wc_read.specs.Operators.{InstrValue}
use Rattle.wc_read.specs.declared.types.GlobalType.{GlobalType}
use Rattle.wc_read.proofs.DecodingLemmas.{body_found, init_found}
use Rattle.wc_write.specs.Bodies.{body_text}
use Rattle.wc_write.specs.BuiltValues.{IsRead, IsReadBody, IsReadInit, written_module}
use Rattle.wc_read.specs.Items.{def_seen, item_seen}
use Rattle.wc_write.specs.Modules.{BuiltValue, operators_text}
use Rattle.wc_write.specs.Spaces.{DefinedValue, defined, defined_by, defined_contents}
use Rattle.wc_read.specs.Decoded.{FuncCode, decode}
use Rattle.wc_gc.specs.Exports.{export_names, is_required, kept_exports, without}
use Rattle.wc_gc.specs.Unfolding.{built_module}
use Rattle.wc_gc.proofs.BuiltPartLemmas.{each_weaker}
use Rattle.wc_gc.proofs.ChainLemmas.{any_fails}
use Rattle.wc_graph.proofs.ListLemmas.{in_all}
use Rattle.wc_gc.proofs.TwiceImageLemmas.{mapped_each}
use Rattle.wc_gc.proofs.UnfoldingLemmas.{global_of}

-- the bodies and initialisers of a text

one_body : (d : DefValue BodyValue) (ty : ℕ) (ds : List (DefinedValue ℕ BodyValue))
    → AllByRecursion IsReadBody (map (λ o. o.content) (cons_option (defined_by ty d) ds))
    → (def_seen body_in (def_seen body_text d) ≡ def_seen Some d) × AllByRecursion IsReadBody (map (λ o. o.content) ds)
one_body (imported m n) ty ds h = (refl, h)
one_body (local b) ty ds h = (ap local (body_found (body_text b) b h.0.0), h.1)

abbrev pub func_of : ℕ → DefValue (Option BodyValue) → FuncCode
func_of ty d = record { ty = ty; def = d }

bodies_read : (xs : List (ItemValue ℕ BodyValue)) → AllByRecursion IsReadBody (defined_contents xs)
    → map (item_seen body_in) (map (item_seen body_text) xs) ≡ map (item_seen Some) xs
bodies_read [] h = refl
bodies_read (x ∷ xs) h =
    let one = one_body x.def x.ty (defined xs) h in
    ap (λ d. func_of x.ty d ∷ map (item_seen body_in) (map (item_seen body_text) xs)) one.0 ∙ ap (λ ys. item_seen Some x ∷ ys) (bodies_read xs one.1)

one_init : (d : DefValue (List InstrValue)) (ty : GlobalType) (ds : List (DefinedValue GlobalType (List InstrValue)))
    → AllByRecursion IsReadInit (map (λ o. o.content) (cons_option (defined_by ty d) ds))
    → (def_seen init_in (def_seen operators_text d) ≡ def_seen Some d) × AllByRecursion IsReadInit (map (λ o. o.content) ds)
one_init (imported m n) ty ds h = (refl, h)
one_init (local is) ty ds h = (ap local (init_found (operators_text is) is h.0.0), h.1)

inits_read : (xs : List (ItemValue GlobalType (List InstrValue))) → AllByRecursion IsReadInit (defined_contents xs)
    → map (item_seen init_in) (map (item_seen operators_text) xs) ≡ map (item_seen Some) xs
inits_read [] h = refl
inits_read (x ∷ xs) h =
    let one = one_init x.def x.ty (defined xs) h in
    ap (λ d. global_of x.ty d ∷ map (item_seen init_in) (map (item_seen operators_text) xs)) one.0 ∙ ap (λ ys. item_seen Some x ∷ ys) (inits_read xs one.1)

pub built_read : (b : BuiltValue) → IsRead b → decode (written_module b) ≡ built_module b
built_read b is =
    let funcs = bodies_read b.funcs (recursion_from_All IsReadBody (defined_contents b.funcs) is.bodies) in
    let globals = inits_read b.globals (recursion_from_All IsReadInit (defined_contents b.globals) is.initialisers) in
    rw (funcs, globals) refl

-- tests

pub rest_false : (b t : Bool) → b ≡ true → (b && t) ≡ false → t ≡ false
rest_false true t h e = e
rest_false false t h e = absurd (false≢true h)

pub and_and_false : (b c : Bool) → (b && (c && false)) ≡ false
and_and_false true true = refl
and_and_false true false = refl
and_and_false false c = refl

filter_fails : {A : Type 0} (p : A → Bool) (xs : List A) → AllByRecursion (λ x. p x ≡ false) xs → filter p xs ≡ []
filter_fails p [] h = refl
filter_fails p (x ∷ xs) h = ap (λ b. cond b (x ∷ filter p xs) (filter p xs)) h.0 ∙ filter_fails p xs h.1

pub find_same : {A : Type 0} (p q : A → Bool) (xs : List A) → AllByRecursion (λ x. p x ≡ q x) xs → find p xs ≡ find q xs
find_same p q [] h = refl
find_same p q (x ∷ xs) h = ap (λ b. cond b (Some x) (find p xs)) h.0 ∙ ap (λ o. cond (q x) (Some x) o) (find_same p q xs h.1)

-- no export is dropped, where all are required
pub all_exports_kept : (required : List (List ℕ)) (es : List ExportValue) → AllByRecursion (λ e. is_required required e.name ≡ true) es
    → kept_exports required es ≡ es
all_exports_kept required es h =
    ap (λ ns. fold without es ns)
    (filter_fails (λ name. not (is_required required name)) (export_names es)
    (mapped_each (λ name. not (is_required required name) ≡ false) (λ (e : ExportValue). e.name) es
    (each_weaker (λ e. is_required required e.name ≡ true) (λ e. not (is_required required e.name) ≡ false) es (λ e k. ap not k) h)))

-- the names that are required
pub required_there : (required : List (List ℕ)) (name : List ℕ) → Contains required name → is_required required name ≡ true
required_there required name c = by (is_required required name) refl
  where
    by : (b : Bool) → is_required required name ≡ b → b ≡ true
    by true e = refl
    by false e =
        absurd (true≢false (sym ((bytes_eq-Decides name name).1 refl)
        ∙ in_all (λ n. bytes_eq name n ≡ false) required name (any_fails (bytes_eq name) required e) c))
