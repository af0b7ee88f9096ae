-- Adapters out of messages, each with its bytes from the front of what is left.
use Rattle.std.proofs.Common.{◌≡◌, ℕ, suc, ◌+◌, ◌<◌, List, [], ◌∷◌, ◌++◌, map, length, get_or, take, drop, sum, Bool, true, false, cond, is_some, Option, Some, refl, sym, ap, subst, ◌∙◌, append_assoc, String, Global, string_bytes, string_eq, append-nil, inl, inr, arith}
use Rattle.std.specs.List.{AllZip, Contains, flat_map, sum_by}
use Rattle.std.specs.Map.{lookup}
use Rattle.std.specs.Option.{option_map}
use Rattle.std.specs.Str.{bytes_eq}
use Rattle.std.proofs.lemmas.Bool.{cases_Bool, false≢true}
use Rattle.std.proofs.lemmas.List.{map-append, length-append, take-append-drop, drop_more}
use Rattle.std.proofs.lemmas.List.Concat.{flat_map-append, flat_map-cons}
use Rattle.std.proofs.lemmas.List.Sums.{sum-map, sum_by-append, sum_by-cons}
use Rattle.std.proofs.lemmas.Slice.Eq.{bytes_eq-Decides}
use Rattle.indexmap.specs.IndexMap.{insert_entry}
use Rattle.wc_adapters.specs.Adapters.{AdapterView, adapter_entry, adapter_view, library_view}
use Rattle.wc_adapters.specs.declared.adapters.Adapter.{Adapter}
use Rattle.wc_selection.specs.Keys.{NamedKey}
use Rattle.wc_json.specs.Messages.{AdapterMessageView, adapter_message_view}
use Rattle.wc_json.specs.declared.messages.AdapterMessage.{AdapterMessage}
use Rattle.wc_calls.specs.AskedKeys.{adapter_keys}
use Rattle.wc_calls.specs.Encoders.{AreAdaptersOf, IsAdapterOf}
use Rattle.wc_calls.specs.MessageFault.{IsNamedTwice}

-- an item of a list, after those that were passed, as all are seen

map_same : {X : Type 0} (xs : List X) → map (λ (x : X). x) xs ≡ xs
map_same [] = refl
map_same (x ∷ xs) = ap (λ l. x ∷ l) (map_same xs)

pub cut_at : {X Y : Type 0} (view : X → Y) (all passed : List X) (x : X) → (length passed < length all) × (x ≡ get_or all (length passed) x)
    → map (λ (y : X). y) passed ≡ take (length passed) all → map view all ≡ map view passed ++ view x ∷ map view (drop (length passed + 1) all)
cut_at view all passed x at front =
    ap (map view) (sym (take-append-drop (length passed) all) ∙ ap (λ l. l ++ drop (length passed) all) (sym front ∙ map_same passed)
    ∙ ap (λ l. passed ++ l) (drop_more all (length passed) x at.0 ∙ ap (λ y. y ∷ drop (length passed + 1) all) (sym at.1)))
    ∙ map-append view passed (x ∷ drop (length passed + 1) all)

-- how many bytes the adapters of messages have
abbrev pub sizes_of : List AdapterMessageView → ℕ
sizes_of ms = sum (map (λ (m : AdapterMessageView). m.size) ms)

sizes_of-append : (xs ys : List AdapterMessageView) → sizes_of (xs ++ ys) ≡ sizes_of xs + sizes_of ys
sizes_of-append xs ys =
    sum-map (λ (m : AdapterMessageView). m.size) (xs ++ ys) ∙ sum_by-append (λ (m : AdapterMessageView). m.size) xs ys
    ∙ ap (λ n. n + sum_by (λ (m : AdapterMessageView). m.size) ys) (sym (sum-map (λ (m : AdapterMessageView). m.size) xs))
    ∙ ap (λ n. sizes_of xs + n) (sym (sum-map (λ (m : AdapterMessageView). m.size) ys))

sizes_of-cons : (x : AdapterMessageView) (xs : List AdapterMessageView) → sizes_of (x ∷ xs) ≡ x.size + sizes_of xs
sizes_of-cons x xs =
    sum-map (λ (m : AdapterMessageView). m.size) (x ∷ xs) ∙ sum_by-cons (λ (m : AdapterMessageView). m.size) x xs
    ∙ ap (λ n. x.size + n) (sym (sum-map (λ (m : AdapterMessageView). m.size) xs))

-- the adapters of the messages so far, whose bytes are before the rest
pub record AreAdaptersBefore (ks : List NamedKey) (ms : List AdapterMessageView) (bytes rest : List ℕ) (adapters : List (List ℕ × AdapterView)) : Type 0 where
  pub each : AllZip (IsAdapterOf ks) ms adapters
  pub cut : bytes ≡ flat_map (λ (a : List ℕ × AdapterView). a.1.wasm) adapters ++ rest
  pub size : length bytes ≡ sizes_of ms + length rest

zip_push : {A B : Type 0} (R : A → B → Type 0) (xs : List A) (ys : List B) (x : A) (y : B) → AllZip R xs ys → R x y → AllZip R (xs ++ x ∷ []) (ys ++ y ∷ [])
zip_push R [] [] x y h r = (r, tt)
zip_push R [] (b ∷ ys) x y h r = absurd h
zip_push R (a ∷ xs) [] x y h r = absurd h
zip_push R (a ∷ xs) (b ∷ ys) x y h r = (h.0, zip_push R xs ys x y h.1 r)

-- entries by the texts of their names
abbrev pub named : List ℕ → List (String Global × Adapter) → Option Adapter
named text entries = lookup (λ (k : String Global). bytes_eq text (string_bytes k)) entries

insert_new : (entries : List (String Global × Adapter)) (name : String Global) (adapter : Adapter) → is_some (named (string_bytes name) entries) ≡ false
    → insert_entry string_eq entries name adapter ≡ entries ++ (name, adapter) ∷ []
insert_new [] name adapter fresh = refl
insert_new (e ∷ es) name adapter fresh = elim (cases_Bool (string_eq name e.0)) [
  | inl same ↦ absurd (false≢true (sym fresh ∙ ap (λ b. is_some (cond b (Some e.1) (named (string_bytes name) es))) same))
  | inr other ↦ rw other (ap (λ l. e ∷ l) (insert_new es name adapter
      (sym (ap (λ b. is_some (cond b (Some e.1) (named (string_bytes name) es))) other) ∙ fresh)))
]

-- one adapter more
pub adapters_more : (ks : List NamedKey) (ms : List AdapterMessageView) (bytes rest wasm others : List ℕ) (entries after : List (String Global × Adapter)) (m : AdapterMessageView)
    (name : String Global) (adapter : Adapter)
    → AreAdaptersBefore ks ms bytes rest (map adapter_entry entries) → rest ≡ wasm ++ others → length wasm ≡ m.size → adapter.wasm.items ≡ wasm
    → IsAdapterOf ks m (adapter_entry (name, adapter)) → is_some (named (string_bytes name) entries) ≡ false → after ≡ insert_entry string_eq entries name adapter
    → AreAdaptersBefore ks (ms ++ m ∷ []) bytes others (map adapter_entry after)
adapters_more ks ms bytes rest wasm others entries after m name adapter before cut size has is fresh put =
    let wasm_of : List ℕ × AdapterView → List ℕ = λ a. a.1.wasm in
    let grown : map adapter_entry after ≡ map adapter_entry entries ++ adapter_entry (name, adapter) ∷ [] =
    ap (map adapter_entry) (put ∙ insert_new entries name adapter fresh) ∙ map-append adapter_entry entries ((name, adapter) ∷ []) in
    let texts : flat_map wasm_of (map adapter_entry entries ++ adapter_entry (name, adapter) ∷ []) ≡ flat_map wasm_of (map adapter_entry entries) ++ wasm =
    flat_map-append wasm_of (map adapter_entry entries) (adapter_entry (name, adapter) ∷ [])
    ∙ ap (λ l. flat_map wasm_of (map adapter_entry entries) ++ l) (flat_map-cons wasm_of (adapter_entry (name, adapter)) [] ∙ append-nil adapter.wasm.items ∙ has) in
    let lengths : length rest ≡ length wasm + length others = ap length cut ∙ length-append wasm others in
    let sums : sizes_of (ms ++ m ∷ []) ≡ sizes_of ms + m.size = sizes_of-append ms (m ∷ []) ∙ ap (λ n. sizes_of ms + n) (sizes_of-cons m [] ∙ omega arith) in
    subst (AreAdaptersBefore ks (ms ++ m ∷ []) bytes others) (sym grown) (record {
      each = zip_push (IsAdapterOf ks) ms (map adapter_entry entries) m (adapter_entry (name, adapter)) before.each is;
      cut = before.cut ∙ ap (λ l. flat_map wasm_of (map adapter_entry entries) ++ l) cut
          ∙ sym (append_assoc (flat_map wasm_of (map adapter_entry entries)) wasm others) ∙ ap (λ l. l ++ others) (sym texts);
      size = omega (arith, before.size, lengths, sums, size);
    })

-- the adapter of a message is added under its name, which was not there
pub message_added : (ks : List NamedKey) (passed : List AdapterMessage) (bytes rest wasm others : List ℕ) (entries after : List (String Global × Adapter)) (message : AdapterMessage)
    (adapter : Adapter) (text : List ℕ) (there : Bool) → AreAdaptersBefore ks (map adapter_message_view passed) bytes rest (map adapter_entry entries)
    → rest ≡ wasm ++ others → length wasm ≡ message.length → (adapter_view adapter).wasm ≡ wasm
    → (adapter_view adapter).required_exports ≡ adapter_keys ks (adapter_message_view message)
    → (adapter_view adapter).library_info ≡ option_map library_view message.library_info
    → text ≡ string_bytes message.name → there ≡ is_some (named text entries) → there ≡ false → after ≡ insert_entry string_eq entries message.name adapter
    → AreAdaptersBefore ks (map adapter_message_view (passed ++ message ∷ [])) bytes others (map adapter_entry after)
message_added ks passed bytes rest wasm others entries after message adapter text there before cut size has keys library is found absent put =
    let m = adapter_message_view message in
    let fresh : is_some (named (string_bytes message.name) entries) ≡ false = subst (λ (t : List ℕ). is_some (named t entries) ≡ false) is (sym found ∙ absent) in
    let made : IsAdapterOf ks m (adapter_entry (message.name, adapter)) = record { name = refl; size = ap length has ∙ size; required = keys; library = library } in
    subst (λ ms. AreAdaptersBefore ks ms bytes others (map adapter_entry after)) (sym (map-append adapter_message_view passed (message ∷ [])))
    (adapters_more ks (map adapter_message_view passed) bytes rest wasm others entries after m message.name adapter before cut size has made fresh put)

-- after the last message nothing may be left
pub adapters_end : (ks : List NamedKey) (ms : List AdapterMessageView) (bytes rest : List ℕ) (adapters : List (List ℕ × AdapterView)) → AreAdaptersBefore ks ms bytes rest adapters
    → rest ≡ [] → AreAdaptersOf ks ms bytes adapters
adapters_end ks ms bytes rest adapters before none =
    let wasm_of : List ℕ × AdapterView → List ℕ = λ a. a.1.wasm in
    record {
      each = before.each;
      cut = before.cut ∙ ap (λ l. flat_map wasm_of adapters ++ l) none ∙ append-nil (flat_map wasm_of adapters);
    }

pub longer : (ks : List NamedKey) (ms : List AdapterMessageView) (bytes rest : List ℕ) (adapters : List (List ℕ × AdapterView)) → AreAdaptersBefore ks ms bytes rest adapters
    → 0 < length rest → sizes_of ms ≡ length bytes → ⊥
longer ks ms bytes rest adapters before some same = absurd (omega (arith, before.size, some, same))

-- the bytes that are left are fewer than an adapter has
pub shorter : (ks : List NamedKey) (all ms left : List AdapterMessageView) (m : AdapterMessageView) (bytes rest : List ℕ) (adapters : List (List ℕ × AdapterView))
    → all ≡ ms ++ m ∷ left → AreAdaptersBefore ks ms bytes rest adapters → length rest < m.size → sizes_of all ≡ length bytes → ⊥
shorter ks all ms left m bytes rest adapters cut before fewer same =
    let sums : sizes_of all ≡ sizes_of ms + (m.size + sizes_of left) =
    ap sizes_of cut ∙ sizes_of-append ms (m ∷ left) ∙ ap (λ n. sizes_of ms + n) (sizes_of-cons m left) in
    absurd (omega (arith, before.size, fewer, same, sums))

-- a name that an adapter has is among those of the messages
name_among : (ks : List NamedKey) (ms : List AdapterMessageView) (entries : List (String Global × Adapter)) (text : List ℕ) → AllZip (IsAdapterOf ks) ms (map adapter_entry entries)
    → is_some (named text entries) ≡ true → Contains (map (λ (m : AdapterMessageView). m.name) ms) text
name_among ks [] [] text h there = absurd (false≢true there)
name_among ks [] (e ∷ es) text h there = absurd h
name_among ks (m ∷ ms) [] text h there = absurd h
name_among ks (m ∷ ms) (e ∷ es) text h there = elim (cases_Bool (bytes_eq text (string_bytes e.0))) [
  | inl same ↦ (0, omega arith, sym h.0.name ∙ sym ((bytes_eq-Decides text (string_bytes e.0)).0 same))
  | inr other ↦ let at = name_among ks ms es text h.1 (sym (ap (λ b. is_some (cond b (Some e.1) (named text es))) other) ∙ there) in
      (suc at.0, omega (arith, at.1), at.2)
]

-- two adapters have one name
pub named_twice : (ks : List NamedKey) (all ms left : List AdapterMessageView) (m : AdapterMessageView) (bytes rest : List ℕ) (entries : List (String Global × Adapter))
    → all ≡ ms ++ m ∷ left → AreAdaptersBefore ks ms bytes rest (map adapter_entry entries) → is_some (named m.name entries) ≡ true → IsNamedTwice all m.name
named_twice ks all ms left m bytes rest entries cut before there = record {
  front = ms;
  again = m;
  back = left;
  cut = cut;
  named = refl;
  before = name_among ks ms entries m.name before.each there;
}

-- texts one after another, and one of them more
pub bytes_more : {A B : Type 0} (text : B → List ℕ) (view : A → B) (all front new : List ℕ) (x : A) (xs ys : List A) → xs ≡ x ∷ ys
    → new ≡ front ++ text (view x) → all ≡ front ++ flat_map text (map view xs) → all ≡ new ++ flat_map text (map view ys)
bytes_more text view all front new x xs ys step put before =
    before ∙ ap (λ zs. front ++ flat_map text (map view zs)) step ∙ ap (λ l. front ++ l) (flat_map-cons text (view x) (map view ys))
    ∙ sym (append_assoc front (text (view x)) (flat_map text (map view ys))) ∙ ap (λ l. l ++ flat_map text (map view ys)) (sym put)
