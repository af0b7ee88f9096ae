-- Names of exports, and their parts.
use Rattle.std.proofs.Common.{◌≡◌, ◌≢◌, ℕ, List, [], ◌∷◌, ◌++◌, Option, Some, None, Result, Ok, Err, refl, sym, ap, ◌∙◌, subst, codes}
use Rattle.std.specs.Prelude.{IfOk}
use Rattle.std.specs.Option.{option_map}
use Rattle.std.specs.declared.alloc.AllocError.{AllocError}
use Rattle.std.proofs.lemmas.List.{append_cancel_left, append_cancel_right}
use Rattle.wc_texts.specs.Characters.{hash_sign}
use Rattle.wc_resolve.specs.Views.{KeyView}
use Rattle.wc_resolve.specs.Kinds.{ResolveView}
use Rattle.wc_adapters.specs.Entries.{Entries}
use Rattle.wc_names.specs.declared.export_names.ExportSyntax.{ExportSyntax}
use Rattle.wc_names.specs.declared.export_names.ExportSyntax.TheVariants.{Standard, Legacy}
use Rattle.wc_names.specs.ExportNames.{ExportTarget, HasResource, IsExportName, IsExportedFunction, IsWorldFunction, NamesDestructor, NamesFunctionExport, bar, destructor_member, searched_interfaces}
use Rattle.wc_names.specs.Finds.{Finds}
use Rattle.wc_names.specs.First.{FirstOf}
use Rattle.wc_names.specs.Texts.{Lacks}
use Rattle.wc_names.proofs.TextLemmas.{lacks_head, not_lacking, split_unique}

-- a name has two bars
pub no_second_bar : (name rest : List ℕ) → name ≡ bar ∷ rest → Lacks bar rest → (interface : Option (List ℕ)) (member : List ℕ)
    → ¬ IsExportName Standard name interface member
no_second_bar name rest begins lacks None member is =
    let tail : rest ≡ bar ∷ member = let both : bar ∷ rest ≡ bar ∷ (bar ∷ member) = sym begins ∙ is in cc both in
    not_lacking bar rest [] member lacks tail
no_second_bar name rest begins lacks (Some text) member is =
    let tail : rest ≡ text ++ (bar ∷ member) = let both : bar ∷ rest ≡ bar ∷ (text ++ (bar ∷ member)) = sym begins ∙ is.0 in cc both in
    not_lacking bar rest text member lacks tail

starts_with_bar : (text : List ℕ) (member more : List ℕ) → Lacks bar text → text ≢ [] → ¬ (text ++ (bar ∷ more) ≡ bar ∷ member)
starts_with_bar [] member more lacks some e = some refl
starts_with_bar (b ∷ bs) member more lacks some e = lacks_head bar b bs lacks (let h : b ≡ bar = cc e in h)

-- a name has its parts in one way
pub parts_unique : (x : ExportSyntax) (name : List ℕ) (i j : Option (List ℕ)) (m n : List ℕ) → IsExportName x name i m → IsExportName x name j n
    → (i ≡ j) × (m ≡ n)
parts_unique Standard name None None m n a b = (refl, let both : bar ∷ (bar ∷ m) ≡ bar ∷ (bar ∷ n) = sym a ∙ b in cc both)
parts_unique Standard name None (Some t) m n a b =
    absurd (let both : bar ∷ (t ++ (bar ∷ n)) ≡ bar ∷ (bar ∷ m) = sym b.0 ∙ a in starts_with_bar t m n b.1 b.2 (cc both))
parts_unique Standard name (Some t) None m n a b =
    absurd (let both : bar ∷ (t ++ (bar ∷ m)) ≡ bar ∷ (bar ∷ n) = sym a.0 ∙ b in starts_with_bar t n m a.1 a.2 (cc both))
parts_unique Standard name (Some t) (Some u) m n a b =
    let both : bar ∷ (t ++ (bar ∷ m)) ≡ bar ∷ (u ++ (bar ∷ n)) = sym a.0 ∙ b.0 in
    let parts : (t ≡ u) × (m ≡ n) = split_unique bar t u m n a.1 b.1 (cc both) in
    (ap (λ (z : List ℕ). Some z) parts.0, parts.1)
parts_unique Legacy name None None m n a b = (refl, sym a.0 ∙ b.0)
parts_unique Legacy name None (Some t) m n a b = absurd (not_lacking hash_sign name t n a.1 b.0)
parts_unique Legacy name (Some t) None m n a b = absurd (not_lacking hash_sign name t m b.1 a.0)
parts_unique Legacy name (Some t) (Some u) m n a b =
    let parts : (t ≡ u) × (m ≡ n) = split_unique hash_sign t u m n a.1 b.1 (sym a.0 ∙ b.0) in
    (ap (λ (z : List ℕ). Some z) parts.0, parts.1)

-- the export of a name whose parts are known
pub function_named : (x : ExportSyntax) (r : ResolveView) (es : Entries) (ks : List KeyView) (name : List ℕ) (i : Option (List ℕ)) (member : List ℕ)
    (o : Option ExportTarget) → IsExportName x name i member
    → Finds o (IsExportedFunction x r es ks i member) → Finds o (NamesFunctionExport x r es ks name)
function_named x r es ks name i member None parts none = λ t h.
    let same = parts_unique x name h.0 i h.1 member h.2 parts in
    none t (subst (λ z. IsExportedFunction x r es ks i z t) same.1 (subst (λ z. IsExportedFunction x r es ks z h.1 t) same.0 h.3))
function_named x r es ks name i member (Some t) parts some = (i, member, parts, some)

pub destructor_unique : (x : ExportSyntax) (a b : List ℕ) → destructor_member x a ≡ destructor_member x b → a ≡ b
destructor_unique Standard a b e = append_cancel_right a b (codes "_dtor") e
destructor_unique Legacy a b e = append_cancel_left (codes "[dtor]") a b e

module _ (x : ExportSyntax) (r : ResolveView) (es : Entries) (ks : List KeyView) (name : List ℕ) where
  pub destructor_named : (text member resource : List ℕ) (o : Option ℕ) → IsExportName x name (Some text) member → member ≡ destructor_member x resource
      → Finds o (FirstOf (HasResource r resource) (searched_interfaces x r es ks text)) → Finds o (NamesDestructor x r es ks name)
  destructor_named text member resource None parts is none = λ t h.
      let same = parts_unique x name (Some h.0) (Some text) (destructor_member x h.1) member h.2 parts in
      let texts : h.0 ≡ text = cc same.0 in
      let resources : h.1 ≡ resource = destructor_unique x h.1 resource (same.1 ∙ is) in
      none t (subst (λ z. FirstOf (HasResource r resource) (searched_interfaces x r es ks z) t) texts
      (subst (λ z. FirstOf (HasResource r z) (searched_interfaces x r es ks h.0) t) resources h.3))
  destructor_named text member resource (Some t) parts is some = (text, resource, subst (λ z. IsExportName x name (Some text) z) is parts, some)

  pub not_of_interface : (member : List ℕ) → IsExportName x name None member → (t : ℕ) → ¬ NamesDestructor x r es ks name t
  not_of_interface member parts t h =
      let same = parts_unique x name (Some h.0) None (destructor_member x h.1) member h.2 parts in
      let bad : Some h.0 ≡ None = same.0 in let f : ⊥ = cc bad in f

  pub no_destructor : (text member : List ℕ) → IsExportName x name (Some text) member → ((resource : List ℕ) → ¬ (member ≡ destructor_member x resource))
      → (t : ℕ) → ¬ NamesDestructor x r es ks name t
  no_destructor text member parts none t h =
      let same = parts_unique x name (Some h.0) (Some text) (destructor_member x h.1) member h.2 parts in
      none h.1 (sym same.1)

-- what is first in no list
pub first_in_none : {K O : Type 0} (H : K → O → Type 0) (ks : List K) → ks ≡ [] → (o : O) → ¬ FirstOf H ks o
first_in_none H [] none o f = f
first_in_none H (k ∷ ks) none o f = let bad : ⊥ = cc none in bad

-- the export of a name of the world itself
pub world_function_named : {A : Type 0} (view : A → ExportTarget) (x : ExportSyntax) (r : ResolveView) (es : Entries) (ks : List KeyView) (name member : List ℕ)
    (o : Result (Option A) AllocError) → IsExportName x name None member
    → IfOk o (λ found. Finds (option_map view found) (IsWorldFunction es ks member))
    → IfOk o (λ found. Finds (option_map view found) (NamesFunctionExport x r es ks name))
world_function_named view x r es ks name member (Err e) parts h = tt
world_function_named view x r es ks name member (Ok found) parts h = function_named x r es ks name None member (option_map view found) parts h
