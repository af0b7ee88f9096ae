-- A name means one thing at most.
use Rattle.std.proofs.Common.{◌≡◌, ℕ, Bool, true, false, List, [], ◌∷◌, ◌++◌, Option, Some, None, inl, inr, refl, sym, ap, ◌∙◌, subst, codes}
use Rattle.std.specs.Prelude.{slice_get}
use Rattle.std.specs.Option.{option_and_then}
use Rattle.std.proofs.lemmas.List.{append_cancel_left, append_cancel_right}
use Rattle.wc_maps.proofs.OptionLemmas.{some_unique}
use Rattle.wc_read.specs.Types.{FuncTypeValue}
use Rattle.wc_resolve.specs.Futures.{function_futures}
use Rattle.wc_resolve.specs.Views.{FunctionView, ItemView, KeyView, PackageNameView, WorldView, function_item, interface_item, interface_key, plain_key, type_item}
use Rattle.wc_resolve.specs.WellFormed.{HaveDistinctNames}
use Rattle.wc_resolve.specs.Kinds.{ResolveView}
use Rattle.wc_adapters.specs.Entries.{Entries}
use Rattle.wc_names.specs.declared.async_values.AsyncValue.{AsyncValue}
use Rattle.wc_names.specs.declared.async_values.Operation.{Operation}
use Rattle.wc_names.specs.AsyncValues.{IsAsyncValueName, IsListedType, IsPayloadType, NamesAsyncValue, async_value_name, operation_row, unit_text}
use Rattle.wc_names.specs.Environment.{EnvironmentFunction, IsEnvironmentImport, NamesEnvironment, environment_row, get_stack_pointer, set_stack_pointer, get_tls_base, set_tls_base}
use Rattle.wc_names.specs.First.{FirstOf}
use Rattle.wc_names.specs.Interfaces.{FoundInterface, IdMatch, IsCanonicalEntry, IsCloneOf, IsEntryOf, IsIdMatch, IsOnTrack, IsTextMatch, NamesInterface, TextMatch, by_id, by_plain_key, clone, exact_version, id_matches, same_track, text_matches}
use Rattle.wc_names.specs.Keys.{Scope, as_interface, function_named, item_under, resource_named, scope_key}
use Rattle.wc_names.specs.Meanings.{Meaning, means}
use Rattle.wc_names.specs.Mangling.{NamesFunction, NamesResource, NamesTaskReturn, ResourceOperation, Scheme, legacy, lowered_name, resource_drop, resource_new, resource_rep, standard}
use Rattle.wc_names.specs.Texts.{SpellsNumber}
use Rattle.wc_names.specs.Views.{ImportView, PayloadTypeView, PayloadView, async_value, exported_task_return, typed}
use Rattle.wc_names.specs.WitIntrinsics.{IsWitIntrinsic, WitIntrinsic, no_task_return, of_async_value, of_resource, resource_row, task_cancel, task_return}
use Rattle.wc_names.proofs.AsyncValueLemmas.{name_unique, not_async_lower}
use Rattle.wc_names.proofs.InterfaceLemmas.{id_unique, member_unique}
use Rattle.wc_names.proofs.NumberTextLemmas.{no_unit, number_unique}
use Rattle.wc_names.proofs.PrefixLemmas.{no_clash_differ}
use Rattle.wc_names.proofs.SearchLemmas.{first_unique}

-- an imported function: one name, lowered in one way
pub function_unique : (s : Scheme) (a b : Bool) (f g name : List ℕ) → NamesFunction s a f name → NamesFunction s b g name → (a ≡ b) × (f ≡ g)
function_unique standard true b f g name x y = absurd x
function_unique standard false true f g name x y = absurd y
function_unique standard false false f g name x y = (refl, sym x ∙ y)
function_unique (legacy hook) true true f g name x y = (refl, append_cancel_left (codes "[async-lower]") f g (sym x ∙ y))
function_unique (legacy hook) true false f g name x y = absurd (y.1 f x)
function_unique (legacy hook) false true f g name x y = absurd (x.1 g y)
function_unique (legacy hook) false false f g name x y = (refl, sym x.0 ∙ y.0)

pub resource_unique : (s : Scheme) (op : ResourceOperation) (x y name : List ℕ) → NamesResource s op x name → NamesResource s op y name → x ≡ y
resource_unique standard resource_drop x y name a b = append_cancel_right x y (codes "_drop") (sym a ∙ b)
resource_unique standard resource_new x y name a b = append_cancel_right x y (codes "_new") (sym a ∙ b)
resource_unique standard resource_rep x y name a b = append_cancel_right x y (codes "_rep") (sym a ∙ b)
resource_unique (legacy hook) resource_drop x y name a b = append_cancel_left (codes "[resource-drop]") x y (sym a ∙ b)
resource_unique (legacy hook) resource_new x y name a b = append_cancel_left (codes "[resource-new]") x y (sym a ∙ b)
resource_unique (legacy hook) resource_rep x y name a b = append_cancel_left (codes "[resource-rep]") x y (sym a ∙ b)

pub task_return_unique : (s : Scheme) (x y name : List ℕ) → NamesTaskReturn s x name → NamesTaskReturn s y name → x ≡ y
task_return_unique standard x y name a b = absurd a
task_return_unique (legacy hook) x y name a b = append_cancel_left (codes "[task-return]") x y (sym a ∙ b)

-- the future or stream of a name
no_unit_number : (n : ℕ) (which : List ℕ) → SpellsNumber n which → ¬ (which ≡ unit_text)
no_unit_number n which s is = no_unit n (subst (SpellsNumber n) is s)

listed_unique : (r : ResolveView) (w : WorldView) (imported : Bool) (scope : Scope) (which f : List ℕ) (t u : PayloadTypeView)
    → IsListedType r w imported scope which f t → IsListedType r w imported scope which f u → t ≡ u
listed_unique r w imported scope which f t u a b =
    let definition : a.definition ≡ b.definition = some_unique (function_named r w imported scope f) a.definition b.definition a.is_function b.is_function in
    let number : a.number ≡ b.number = number_unique which a.number b.number a.is_number b.is_number in
    let at : slice_get (function_futures r b.definition) b.number ≡ Some a.id =
    subst (λ (z : ℕ). slice_get (function_futures r b.definition) z ≡ Some a.id) number
    (subst (λ (z : FunctionView). slice_get (function_futures r z) a.number ≡ Some a.id) definition a.is_listed) in
    let id : a.id ≡ b.id = some_unique (slice_get (function_futures r b.definition) b.number) a.id b.id at b.is_listed in
    a.is_type ∙ (ap (λ (z : ℕ). typed z a.definition.name) id ∙ (ap (λ (z : FunctionView). typed b.id z.name) definition ∙ sym b.is_type))

payload_type_unique : (r : ResolveView) (w : WorldView) (imported : Bool) (scope : Scope) (v : AsyncValue) (which f : List ℕ) (t u : PayloadTypeView)
    → IsPayloadType r w imported scope v which f t → IsPayloadType r w imported scope v which f u → t ≡ u
payload_type_unique r w imported scope v which f t u (inl a) (inl b) = a.1 ∙ sym b.1
payload_type_unique r w imported scope v which f t u (inl a) (inr b) = absurd (no_unit_number b.number which b.is_number a.0)
payload_type_unique r w imported scope v which f t u (inr a) (inl b) = absurd (no_unit_number a.number which a.is_number b.0)
payload_type_unique r w imported scope v which f t u (inr a) (inr b) = listed_unique r w imported scope which f t u a b

payload_of : List ℕ → PayloadTypeView → KeyView → Option ℕ → Bool → PayloadView
payload_of name ty key interface imported = record { name = name; ty = ty; key = key; interface = interface; imported = imported }

payload_same : (p q : PayloadView) → p.name ≡ q.name → p.ty ≡ q.ty → p.key ≡ q.key → p.interface ≡ q.interface → p.imported ≡ q.imported → p ≡ q
unfolding payload_of
payload_same p q a b c d e =
    ap (λ z. payload_of z p.ty p.key p.interface p.imported) a ∙ (ap (λ z. payload_of q.name z p.key p.interface p.imported) b
    ∙ (ap (λ z. payload_of q.name q.ty z p.interface p.imported) c ∙
    (ap (λ z. payload_of q.name q.ty q.key z p.imported) d ∙ ap (payload_of q.name q.ty q.key q.interface) e)))

-- with `[async-lower]` or without it, a name is of one operation
is_async_unique : (v u : AsyncValue) (o q : Operation) (a b : Bool) (x y f g name own other : List ℕ) → own ≡ async_value_name v o x f
    → other ≡ async_value_name u q y g → name ≡ lowered_name a own → name ≡ lowered_name b other → (a ≡ b) × (own ≡ other)
is_async_unique v u o q true true x y f g name own other is also m n = (refl, append_cancel_left (codes "[async-lower]") own other (sym m ∙ n))
is_async_unique v u o q false false x y f g name own other is also m n = (refl, sym m ∙ n)
is_async_unique v u o q true false x y f g name own other is also m n = absurd (not_async_lower u q y g own (sym also ∙ (sym n ∙ m)))
is_async_unique v u o q false true x y f g name own other is also m n = absurd (not_async_lower v o x f other (sym is ∙ (sym m ∙ n)))

async_value_unique : (r : ResolveView) (w : WorldView) (imported : Bool) (scope : Scope) (v u : AsyncValue) (o q : Operation) (a b : Bool) (i j : PayloadView)
    (name : List ℕ)
    → IsAsyncValueName r w imported scope v o a i name → IsAsyncValueName r w imported scope u q b j name → (v ≡ u) × (o ≡ q) × (a ≡ b) × (i ≡ j)
async_value_unique r w imported scope v u o q a b i j name x y =
    let lowered = is_async_unique v u o q a b x.which y.which x.function y.function name i.name j.name x.is_own_name y.is_own_name x.is_name y.is_name in
    let parts = name_unique v u o q x.which y.which x.function y.function x.which_ends y.which_ends (sym x.is_own_name ∙ (lowered.1 ∙ y.is_own_name)) in
    let own : IsPayloadType r w imported scope u y.which y.function i.ty =
    subst (λ (z : AsyncValue). IsPayloadType r w imported scope z y.which y.function i.ty) parts.0
    (subst (λ (z : List ℕ). IsPayloadType r w imported scope v z y.function i.ty) parts.2
    (subst (λ (z : List ℕ). IsPayloadType r w imported scope v x.which z i.ty) parts.3 x.is_payload_type)) in
    let ty : i.ty ≡ j.ty = payload_type_unique r w imported scope u y.which y.function i.ty j.ty own y.is_payload_type in (
      parts.0,
      parts.1,
      lowered.0,
      payload_same i j lowered.1 ty (x.is_key ∙ (ap (scope_key scope) lowered.1 ∙ sym y.is_key))
          (x.is_interface ∙ sym y.is_interface) (x.is_imported ∙ sym y.is_imported),
    )

async_meaning : AsyncValue → Operation → Bool → PayloadView → Meaning
async_meaning v op a info = means (async_value v op a info) (Some (operation_row v op).ty)

async_import_unique : (s : Scheme) (r : ResolveView) (w : WorldView) (imported : Bool) (scope : Scope) (v u : AsyncValue) (o q : Operation) (a b : Bool)
    (i j : PayloadView) (name : List ℕ)
    → NamesAsyncValue s r w imported scope v o a i name → NamesAsyncValue s r w imported scope u q b j name → async_meaning v o a i ≡ async_meaning u q b j
unfolding async_meaning
async_import_unique standard r w imported scope v u o q a b i j name x y = absurd x
async_import_unique (legacy hook) r w imported scope v u o q a b i j name x y =
    let same = async_value_unique r w imported scope v u o q a b i j name x y in
    ap (λ (z : AsyncValue). async_meaning z o a i) same.0 ∙ (ap (λ (z : Operation). async_meaning u z a i) same.1 ∙
    (ap (λ (z : Bool). async_meaning u q z i) same.2 ∙ ap (λ (z : PayloadView). async_meaning u q b z) same.3))

task_meaning : Scope → List ℕ → FunctionView → Meaning
task_meaning scope function f = means (exported_task_return (scope_key scope function) scope.interface f) None

-- built-ins of a world and of interfaces
pub wit_intrinsic_unique : (s : Scheme) (r : ResolveView) (w : WorldView) (imported : Bool) (scope : Scope) (name : List ℕ) (k : WitIntrinsic) (m n : Meaning)
    → IsWitIntrinsic s r w imported scope name k m → IsWitIntrinsic s r w imported scope name k n → m ≡ n
unfolding async_meaning task_meaning
wit_intrinsic_unique s r w imported scope name (of_resource op) m n x y =
    let resource : x.0 ≡ y.0 = resource_unique s op x.0 y.0 name x.2 y.2 in
    let type : x.1 ≡ y.1 =
    some_unique (resource_named r w scope y.0) x.1 y.1 (subst (λ (z : List ℕ). resource_named r w scope z ≡ Some x.1) resource x.3) y.3 in
    x.4 ∙ (ap (λ (z : List ℕ). means ((resource_row imported op).meaning (scope_key scope z) scope.interface x.1) (Some (resource_row imported op).ty)) resource
    ∙ (ap (λ (z : ℕ). means ((resource_row imported op).meaning (scope_key scope y.0) scope.interface z) (Some (resource_row imported op).ty)) type ∙ sym y.4))
wit_intrinsic_unique s r w imported scope name task_return m n x y =
    let function : x.0 ≡ y.0 = task_return_unique s x.0 y.0 name x.2 y.2 in
    let definition : x.1 ≡ y.1 =
    some_unique (function_named r w imported scope y.0) x.1 y.1 (subst (λ (z : List ℕ). function_named r w imported scope z ≡ Some x.1) function x.3) y.3 in
    x.4 ∙ (ap (λ (z : List ℕ). task_meaning scope z x.1) function ∙ (ap (task_meaning scope y.0) definition ∙ sym y.4))
wit_intrinsic_unique s r w imported scope name no_task_return m n x y = x.3 ∙ sym y.3
wit_intrinsic_unique s r w imported scope name task_cancel m n x y = x.1 ∙ sym y.1
wit_intrinsic_unique s r w imported scope name of_async_value m n x y =
    x.5 ∙ (async_import_unique s r w imported scope x.0 y.0 x.1 y.1 x.2 y.2 x.3 y.3 name x.4 y.4 ∙ sym y.5)

-- functions of the environment
environment_text_unique : (f g : EnvironmentFunction) (name : List ℕ) → name ≡ (environment_row f).text → name ≡ (environment_row g).text → f ≡ g
environment_text_unique get_stack_pointer get_stack_pointer name x y = refl
environment_text_unique set_stack_pointer set_stack_pointer name x y = refl
environment_text_unique get_tls_base get_tls_base name x y = refl
environment_text_unique set_tls_base set_tls_base name x y = refl
environment_text_unique f g name x y =
    absurd (no_clash_differ (environment_row f).text (environment_row g).text [] [] refl (ap (λ (z : List ℕ). z ++ []) (sym x ∙ y)))

environment_unique : (name : List ℕ) (ty : FuncTypeValue) (i j : ImportView) → IsEnvironmentImport name ty i → IsEnvironmentImport name ty j → i ≡ j
environment_unique name ty i j x y =
    let function : x.0 ≡ y.0 = environment_text_unique x.0 y.0 name x.3 y.3 in
    let first : x.1 ∷ x.2 ≡ y.1 ∷ y.2 = sym x.4 ∙ (ap (λ (z : EnvironmentFunction). (environment_row z).types ty) function ∙ y.4) in
    x.5 ∙ (ap (λ (z : EnvironmentFunction). (environment_row z).meaning x.1) function ∙
    (ap (environment_row y.0).meaning (let e : x.1 ≡ y.1 = cc first in e) ∙ sym y.5))

pub environment_names_unique : (s : Scheme) (name : List ℕ) (ty : FuncTypeValue) (i j : ImportView) → NamesEnvironment s name ty i
    → NamesEnvironment s name ty j → i ≡ j
environment_names_unique standard name ty i j x y = absurd x
environment_names_unique (legacy hook) name ty i j x y = environment_unique name ty i j x y

-- the interface of a text
pub canonical_entry_unique : (r : ResolveView) (text : List ℕ) (e : KeyView × ItemView) (f g : FoundInterface) → IsCanonicalEntry r text e f
    → IsCanonicalEntry r text e g → f ≡ g
canonical_entry_unique r text (plain_key n, interface_item i external) f g x y = x.1 ∙ sym y.1
canonical_entry_unique r text (plain_key n, function_item d) f g x y = absurd x
canonical_entry_unique r text (plain_key n, type_item t) f g x y = absurd x
canonical_entry_unique r text (interface_key i, item) f g x y = x.1 ∙ sym y.1

pub entry_unique : (P : ℕ → Type 0) (e : KeyView × ItemView) (f g : FoundInterface) → IsEntryOf P e f → IsEntryOf P e g → f ≡ g
entry_unique P (plain_key n, item) f g x y = absurd x
entry_unique P (interface_key i, item) f g x y = x.1 ∙ sym y.1

module _ (r : ResolveView) (distinct : HaveDistinctNames r.packages) (entries : Entries) where
  id_match_unique : (p : PackageNameView) (name : List ℕ) (k : IdMatch) (f g : FoundInterface) → IsIdMatch r entries p name k f → IsIdMatch r entries p name k g
      → f ≡ g
  id_match_unique p name exact_version f g x y = x.3 ∙ (ap (λ (z : ℕ). (interface_key z, z)) (member_unique r p name x.0 y.0 distinct x.1 y.1) ∙ sym y.3)
  id_match_unique p name clone f g x y =
      first_unique (IsEntryOf (IsCloneOf r y.0)) (entry_unique (IsCloneOf r y.0)) entries f g
      (subst (λ (z : ℕ). FirstOf (IsEntryOf (IsCloneOf r z)) entries f) (member_unique r p name x.0 y.0 distinct x.1 y.1) x.2) y.2
  id_match_unique p name same_track f g x y = first_unique (IsEntryOf (IsOnTrack r p name)) (entry_unique (IsOnTrack r p name)) entries f g x y

  text_match_unique : (text : List ℕ) (k : TextMatch) (f g : FoundInterface) → IsTextMatch r entries text k f → IsTextMatch r entries text k g → f ≡ g
  text_match_unique text by_plain_key f g x y =
      x.2 ∙ (ap (λ (z : ℕ). (plain_key text, z)) (some_unique (option_and_then as_interface (item_under entries (plain_key text))) x.0 y.0 x.1 y.1) ∙ sym y.2)
  text_match_unique text by_id f g x y =
      let same = id_unique text x.0 y.0 x.1 y.1 x.2 y.2 in
      first_unique (IsIdMatch r entries y.0 y.1) (id_match_unique y.0 y.1) id_matches f g
      (subst (λ (z : PackageNameView). FirstOf (IsIdMatch r entries z y.1) id_matches f) same.0
      (subst (λ (z : List ℕ). FirstOf (IsIdMatch r entries x.0 z) id_matches f) same.1 x.3)) y.3

  pub interface_unique : (s : Scheme) (text : List ℕ) (f g : FoundInterface) → NamesInterface s r entries text f → NamesInterface s r entries text g → f ≡ g
  interface_unique standard text f g x y = first_unique (IsCanonicalEntry r text) (canonical_entry_unique r text) entries f g x y
  interface_unique (legacy hook) text f g x y = first_unique (IsTextMatch r entries text) (text_match_unique text) text_matches f g x y
