-- Built-ins of futures and streams, from the parts of their names.
use Rattle.std.proofs.Common.{◌≡◌, ℕ, Bool, true, false, List, [], Option, Some, None, Result, Ok, Err, inl, inr, refl, sym, ap, ◌∙◌, subst, codes}
use Rattle.std.specs.Prelude.{IfOk, slice_get}
use Rattle.std.specs.Option.{option_map}
use Rattle.std.proofs.lemmas.List.{append_cancel_left}
use Rattle.wc_resolve.specs.Futures.{function_futures}
use Rattle.wc_resolve.specs.Views.{FunctionView, WorldView}
use Rattle.wc_resolve.specs.Kinds.{ResolveView}
use Rattle.wc_names.specs.declared.async_values.AsyncValue.{AsyncValue}
use Rattle.wc_names.specs.declared.async_values.Operation.{Operation}
use Rattle.wc_names.specs.declared.imports.Import.{Import}
use Rattle.wc_names.specs.AsyncValues.{IsAsyncValueName, IsOwnNameImport, IsPayloadType, NamesAsyncImport, async_value_name, operation_row, unit_text}
use Rattle.wc_names.specs.Finds.{Finds}
use Rattle.wc_names.specs.Keys.{Scope, function_named, scope_key}
use Rattle.wc_names.specs.Mangling.{legacy, lowered_name}
use Rattle.wc_names.specs.Texts.{Lacks, SpellsNumber}
use Rattle.wc_names.specs.Views.{ImportView, PayloadTypeView, PayloadView, async_value, import_view, typed}
use Rattle.wc_names.proofs.AsyncValueLemmas.{name_unique, not_async_lower}
use Rattle.wc_names.proofs.NumberTextLemmas.{number_unique}

module _ (r : ResolveView) (w : WorldView) (imported : Bool) (scope : Scope) where
  -- no future or stream, without a number, without a function, and without an entry in its list
  pub no_number : (v : AsyncValue) (which f : List ℕ) → ¬ (which ≡ unit_text) → ((n : ℕ) → ¬ SpellsNumber n which) → (ty : PayloadTypeView)
      → ¬ IsPayloadType r w imported scope v which f ty
  no_number v which f no_unit none ty (inl u) = no_unit u.0
  no_number v which f no_unit none ty (inr l) = none l.number l.is_number

  pub no_function : (v : AsyncValue) (which f : List ℕ) → ¬ (which ≡ unit_text) → None ≡ function_named r w imported scope f → (ty : PayloadTypeView)
      → ¬ IsPayloadType r w imported scope v which f ty
  no_function v which f no_unit none ty (inl u) = no_unit u.0
  no_function v which f no_unit none ty (inr l) = let e : None ≡ Some l.definition = none ∙ l.is_function in let bad : ⊥ = cc e in bad

  pub not_listed : (v : AsyncValue) (which f : List ℕ) (n : ℕ) (d : FunctionView) → ¬ (which ≡ unit_text) → SpellsNumber n which
      → Some d ≡ function_named r w imported scope f → None ≡ slice_get (function_futures r d) n
      → (ty : PayloadTypeView) → ¬ IsPayloadType r w imported scope v which f ty
  not_listed v which f n d no_unit number function none ty (inl u) = no_unit u.0
  not_listed v which f n d no_unit number function none ty (inr l) =
      let same : l.number ≡ n = number_unique which l.number n l.is_number number in
      let own : Some l.definition ≡ Some d = sym l.is_function ∙ sym function in
      let definition : l.definition ≡ d = cc own in
      let e : None ≡ Some l.id =
      none ∙ (ap (λ (z : ℕ). slice_get (function_futures r d) z) (sym same) ∙
      (ap (λ (z : FunctionView). slice_get (function_futures r z) l.number) (sym definition) ∙ l.is_listed)) in
      let bad : ⊥ = cc e in bad

  pub listed : (v : AsyncValue) (which f : List ℕ) (n : ℕ) (d : FunctionView) (id : ℕ) → SpellsNumber n which → Some d ≡ function_named r w imported scope f
      → Some id ≡ slice_get (function_futures r d) n
      → IsPayloadType r w imported scope v which f (typed id d.name)
  listed v which f n d id number function at =
      inr (record { number = n; definition = d; id = id; is_number = number; is_function = sym function; is_listed = sym at; is_type = refl })

  -- no import of a name: of no parts, of an operation that can't be lowered, and without a future or stream
  pub no_parts : (name : List ℕ) (a : Bool) → ((v : AsyncValue) (op : Operation) (which f : List ℕ) → Lacks 93 which → ¬ (name ≡ async_value_name v op which f))
      → (i : ImportView) → ¬ IsOwnNameImport r w imported scope name a i
  no_parts name a none i h = none h.0 h.1 h.3.which h.3.function h.3.which_ends (sym h.4 ∙ h.3.is_own_name)

  pub no_type : (name which f : List ℕ) (v : AsyncValue) (op : Operation) (a : Bool) → name ≡ async_value_name v op which f → Lacks 93 which
      → ((ty : PayloadTypeView) → ¬ IsPayloadType r w imported scope v which f ty)
      → (i : ImportView) → ¬ IsOwnNameImport r w imported scope name a i
  no_type name which f v op a is ends none i h =
      let same = name_unique h.0 v h.1 op h.3.which which h.3.function f h.3.which_ends ends (sym h.3.is_own_name ∙ (h.4 ∙ is)) in
      none h.2.ty (subst (λ (z : AsyncValue). IsPayloadType r w imported scope z which f h.2.ty) same.0
      (subst (λ (z : List ℕ). IsPayloadType r w imported scope h.0 z f h.2.ty) same.2
      (subst (λ (z : List ℕ). IsPayloadType r w imported scope h.0 h.3.which z h.2.ty) same.3 h.3.is_payload_type)))

  pub own_found : (name which f : List ℕ) (v : AsyncValue) (op : Operation) (a : Bool) (info : PayloadView) (i : ImportView)
      → name ≡ async_value_name v op which f → Lacks 93 which → (a ≡ true → (operation_row v op).may_be_lowered ≡ true)
      → IsPayloadType r w imported scope v which f info.ty → info.name ≡ name → info.key ≡ scope_key scope name → info.interface ≡ scope.interface
      → info.imported ≡ imported → i ≡ async_value v op a info
      → IsOwnNameImport r w imported scope name a i
  own_found name which f v op a info i is ends may ty named key interface from same = (
    v,
    op,
    info,
    record {
      which = which;
      function = f;
      which_ends = ends;
      is_own_name = named ∙ is;
      is_name = ap (lowered_name a) (sym named);
      may_be_lowered = may;
      is_payload_type = ty;
      is_key = key ∙ ap (scope_key scope) (sym named);
      is_interface = interface;
      is_imported = from;
    },
    named,
    same,
  )

  -- an import of a name, by what is before it
  import_of_own : (name own : List ℕ) (a : Bool) (i : ImportView) → name ≡ lowered_name a own → IsOwnNameImport r w imported scope own a i
      → NamesAsyncImport (legacy []) r w imported scope name i
  import_of_own name own a i is h = (h.0, h.1, a, h.2, subst (IsAsyncValueName r w imported scope h.0 h.1 a h.2) (sym is) h.3, h.5)

  own_of_import : (own : List ℕ) (a : Bool) (v : AsyncValue) (op : Operation) (info : PayloadView) (i : ImportView) → info.name ≡ own
      → IsAsyncValueName r w imported scope v op a info (lowered_name a own) → i ≡ async_value v op a info
      → IsOwnNameImport r w imported scope own a i
  own_of_import own a v op info i named h e = (v, op, info, h, named, e)

  no_import_after : (name rest : List ℕ) → name ≡ lowered_name true rest → ((i : ImportView) → ¬ IsOwnNameImport r w imported scope rest true i)
      → (i : ImportView) (a : Bool) (v : AsyncValue) (op : Operation) (info : PayloadView) → IsAsyncValueName r w imported scope v op a info name
      → i ≡ async_value v op a info → ⊥
  no_import_after name rest is none i true v op info h e =
      let named : info.name ≡ rest = append_cancel_left (codes "[async-lower]") info.name rest (sym h.is_name ∙ is) in
      none i (own_of_import rest true v op info i named (subst (IsAsyncValueName r w imported scope v op true info) is h) e)
  no_import_after name rest is none i false v op info h e = not_async_lower v op h.which h.function rest (sym h.is_own_name ∙ (sym h.is_name ∙ is))

  no_import_without : (name : List ℕ) → ((rest : List ℕ) → ¬ (name ≡ lowered_name true rest))
      → ((i : ImportView) → ¬ IsOwnNameImport r w imported scope name false i)
      → (i : ImportView) (a : Bool) (v : AsyncValue) (op : Operation) (info : PayloadView) → IsAsyncValueName r w imported scope v op a info name
      → i ≡ async_value v op a info → ⊥
  no_import_without name other none i true v op info h e = other info.name h.is_name
  no_import_without name other none i false v op info h e = none i (own_of_import name false v op info i (sym h.is_name) h e)

  pub import_after : {E : Type 0} (name rest : List ℕ) (o : Result (Option Import) E) → name ≡ lowered_name true rest
      → IfOk o (λ f. Finds (option_map import_view f) (IsOwnNameImport r w imported scope rest true))
      → IfOk o (λ f. Finds (option_map import_view f) (NamesAsyncImport (legacy []) r w imported scope name))
  import_after name rest (Err x) is f = tt
  import_after name rest (Ok None) is none = λ i h. no_import_after name rest is none i h.2 h.0 h.1 h.3 h.4 h.5
  import_after name rest (Ok (Some i)) is h = import_of_own name rest true (import_view i) is h

  pub import_without : {E : Type 0} (name : List ℕ) (o : Result (Option Import) E) → ((rest : List ℕ) → ¬ (name ≡ lowered_name true rest))
      → IfOk o (λ f. Finds (option_map import_view f) (IsOwnNameImport r w imported scope name false))
      → IfOk o (λ f. Finds (option_map import_view f) (NamesAsyncImport (legacy []) r w imported scope name))
  import_without name (Err x) other f = tt
  import_without name (Ok None) other none = λ i h. no_import_without name other none i h.2 h.0 h.1 h.3 h.4 h.5
  import_without name (Ok (Some i)) other h = import_of_own name name false (import_view i) refl h
