-- Options by names, each under the first entry of its name.
use Rattle.std.proofs.Common.{◌≡◌, ℕ, ◌+◌, ◌<◌, ◌≤◌, List, [], ◌∷◌, ◌++◌, map, length, get_or, take, Bool, true, false, cond, is_some, Option, None, Some, refl, sym, ap, subst, ◌∙◌, String, Global, string_bytes, string_eq, inl, inr}
use Rattle.std.proofs.Math.Path.{fun_ext}
use Rattle.std.proofs.lemmas.Bool.{cases_Bool, false≢true}
use Rattle.std.proofs.lemmas.List.{map-append, take_all, take_more}
use Rattle.std.proofs.lemmas.Simd.{map-map}
use Rattle.std.proofs.lemmas.Slice.Eq.{bytes_eq-Decides}
use Rattle.std.specs.Map.{lookup}
use Rattle.std.specs.Option.{option_map, option_or, unwrap_or}
use Rattle.std.specs.Str.{bytes_eq}
use Rattle.indexmap.specs.IndexMap.{insert_entry}
use Rattle.wc_maps.proofs.LookupLemmas.{name_viewed}
use Rattle.wc_json.specs.Messages.{options_message_view}
use Rattle.wc_json.specs.declared.messages.OptionsMessage.{OptionsMessage}
use Rattle.wc_world.specs.Options.{plain_options}
use Rattle.wc_world.specs.declared.options.RequiredOptions.{RequiredOptions}
use Rattle.wc_calls.specs.ImportOptions.{NamedOptions, first_options, named_options}
use Rattle.wc_calls.specs.Private.OptionTables.{bits_of, message_entry, table_entry}

-- the same is under each name
abbrev pub HaveSameOptions : List NamedOptions → List NamedOptions → Type 0
HaveSameOptions xs ys = (name : List ℕ) → lookup (bytes_eq name) xs ≡ lookup (bytes_eq name) ys

-- so they give the same
pub same_options : (xs ys : List NamedOptions) → HaveSameOptions xs ys → first_options xs ≡ first_options ys
same_options xs ys same = fun_ext (λ r. fun_ext (λ f. fun_ext (λ abi. ap (λ o. unwrap_or o (plain_options r f abi)) (same f.name))))

-- what is under a name with one entry more

found_first : {X : Type 0} (b : Bool) (x : X) (o p q : Option X) → o ≡ option_or p q → cond b (Some x) o ≡ option_or (cond b (Some x) p) q
found_first true x o p q h = refl
found_first false x o p q h = h

lookup_more : (test : List ℕ → Bool) (xs : List NamedOptions) (x : NamedOptions)
    → lookup test (xs ++ x ∷ []) ≡ option_or (lookup test xs) (cond (test x.0) (Some x.1) None)
lookup_more test [] x = refl
lookup_more test (y ∷ ys) x =
    found_first (test y.0) y.1 (lookup test (ys ++ x ∷ [])) (lookup test ys) (cond (test x.0) (Some x.1) None) (lookup_more test ys x)

one_more : (xs ys : List NamedOptions) (x : NamedOptions) → HaveSameOptions xs ys → HaveSameOptions (xs ++ x ∷ []) (ys ++ x ∷ [])
one_more xs ys x same name =
    lookup_more (bytes_eq name) xs x ∙ ap (λ o. option_or o (cond (bytes_eq name x.0) (Some x.1) None)) (same name)
    ∙ sym (lookup_more (bytes_eq name) ys x)

or_none : {X : Type 0} (o : Option X) → o ≡ option_or o None
or_none None = refl
or_none (Some x) = refl

or_some : {X : Type 0} (o p : Option X) → is_some o ≡ true → o ≡ option_or o p
or_some None p there = absurd (false≢true there)
or_some (Some x) p there = refl

-- an entry of a name that is there already
none_more : (xs ys : List NamedOptions) (x : NamedOptions) → is_some (lookup (bytes_eq x.0) xs) ≡ true → HaveSameOptions xs ys
    → HaveSameOptions xs (ys ++ x ∷ [])
none_more xs ys x there same name =
    same name ∙ (kept (bytes_eq name x.0) (λ is. subst (λ n. is_some (lookup (bytes_eq n) ys) ≡ true) (sym ((bytes_eq-Decides name x.0).0 is))
    (ap is_some (sym (same x.0)) ∙ there)) ∙ sym (lookup_more (bytes_eq name) ys x))
  where
    kept : (b : Bool) → (b ≡ true → is_some (lookup (bytes_eq name) ys) ≡ true)
        → lookup (bytes_eq name) ys ≡ option_or (lookup (bytes_eq name) ys) (cond b (Some x.1) None)
    kept true found = or_some (lookup (bytes_eq name) ys) (Some x.1) (found refl)
    kept false found = or_none (lookup (bytes_eq name) ys)

-- a name that is not there is put last
pub put_last : {X : Type 0} (entries : List (String Global × X)) (name : String Global) (x : X)
    → is_some (lookup (λ k. bytes_eq (string_bytes name) (string_bytes k)) entries) ≡ false → insert_entry string_eq entries name x ≡ entries ++ (name, x) ∷ []
put_last [] name x fresh = refl
put_last (e ∷ es) name x fresh = elim (cases_Bool (string_eq name e.0)) [
  | inl same ↦ absurd (false≢true (sym fresh ∙ ap (λ b. is_some (cond b (Some e.1) (lookup (λ k. bytes_eq (string_bytes name) (string_bytes k)) es))) same))
  | inr other ↦ rw other (ap (λ l. e ∷ l) (put_last es name x
      (sym (ap (λ b. is_some (cond b (Some e.1) (lookup (λ k. bytes_eq (string_bytes name) (string_bytes k)) es))) other) ∙ fresh)))
]

-- the messages that were passed, and one more
passed_more : (messages : List OptionsMessage) (i : ℕ) (d x : OptionsMessage) → i < length messages → x ≡ get_or messages i d
    → map message_entry (take (i + 1) messages) ≡ map message_entry (take i messages) ++ message_entry x ∷ []
passed_more messages i d x within at =
    ap (map message_entry) (take_more messages i d within ∙ ap (λ m. take i messages ++ m ∷ []) (sym at))
    ∙ map-append message_entry (take i messages) (x ∷ [])

abbrev pub HasPassed : List (String Global × RequiredOptions) → List OptionsMessage → ℕ → Type 0
HasPassed entries messages i = HaveSameOptions (map table_entry entries) (map message_entry (take i messages))

-- what is under a name that is seen by its text
under_text : (entries : List (String Global × RequiredOptions)) (name : List ℕ) (b : Bool)
    → is_some (lookup (λ k. bytes_eq name (string_bytes k)) entries) ≡ b → is_some (lookup (bytes_eq name) (map table_entry entries)) ≡ b
under_text entries name b is = ap is_some (sym (name_viewed bits_of entries name)) ∙ (seen (lookup (λ k. bytes_eq name (string_bytes k)) entries) ∙ is)
  where
    seen : (o : Option RequiredOptions) → is_some (option_map bits_of o) ≡ is_some o
    seen None = refl
    seen (Some x) = refl

-- a message more, by whether its name is there
module _ (entries : List (String Global × RequiredOptions)) (messages : List OptionsMessage) (i : ℕ) (d x : OptionsMessage) (text : List ℕ) (there : Bool)
    (within : i < length messages) (at : x ≡ get_or messages i d) (is : text ≡ string_bytes x.name)
    (found : there ≡ is_some (lookup (λ k. bytes_eq text (string_bytes k)) entries)) (same : HasPassed entries messages i) where
  pub passed_again : there ≡ true → HasPassed entries messages (i + 1)
  passed_again known =
      subst (HaveSameOptions (map table_entry entries)) (sym (passed_more messages i d x within at))
      (none_more (map table_entry entries) (map message_entry (take i messages)) (message_entry x)
      (under_text entries (string_bytes x.name) true
      (subst (λ t. is_some (lookup (λ k. bytes_eq t (string_bytes k)) entries) ≡ true) is (sym found ∙ known))) same)

  -- its options are put under its name
  pub passed_new : (after : List (String Global × RequiredOptions)) (name : String Global) (options : RequiredOptions) → there ≡ false
      → string_bytes name ≡ string_bytes x.name → options.0 ≡ (message_entry x).1 → after ≡ insert_entry string_eq entries name options
      → HasPassed after messages (i + 1)
  passed_new after name options unknown cloned set put =
      let fresh : is_some (lookup (λ k. bytes_eq (string_bytes name) (string_bytes k)) entries) ≡ false =
      subst (λ t. is_some (lookup (λ k. bytes_eq t (string_bytes k)) entries) ≡ false) (is ∙ sym cloned) (sym found ∙ unknown) in
      let grown : map table_entry after ≡ map table_entry entries ++ message_entry x ∷ [] =
      ap (map table_entry) (put ∙ put_last entries name options fresh) ∙ (map-append table_entry entries ((name, options) ∷ [])
      ∙ rw (cloned, set) refl) in
      subst (λ es. HaveSameOptions es (map message_entry (take (i + 1) messages))) (sym grown)
      (subst (HaveSameOptions (map table_entry entries ++ message_entry x ∷ [])) (sym (passed_more messages i d x within at))
      (one_more (map table_entry entries) (map message_entry (take i messages)) (message_entry x) same))

-- all were passed
pub all_passed : (entries : List (String Global × RequiredOptions)) (messages : List OptionsMessage) (i : ℕ) → length messages ≤ i → HasPassed entries messages i
    → first_options (map table_entry entries) ≡ first_options (map named_options (map options_message_view messages))
all_passed entries messages i end same =
    same_options (map table_entry entries) (map message_entry messages)
    (subst (λ ms. HaveSameOptions (map table_entry entries) (map message_entry ms)) (take_all i messages end) same)
    ∙ ap first_options (sym (map-map named_options options_message_view messages))
