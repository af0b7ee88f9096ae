-- A plan that is made function by function.
use Rattle.std.proofs.Common.{◌≡◌, inl, inr, ℕ, ◌+◌, List, [], ◌∷◌, ◌++◌, Bool, true, false, cond, if◌then◌else◌, ◌&&◌, Option, Some, None, All, map, refl, sym}
use Rattle.std.proofs.Common.{◌∙◌, ap, subst, append-nil, append_assoc, string_eq}
use Rattle.std.specs.Prelude.{is_some, not}
use Rattle.std.specs.Borrow.{Bor}
use Rattle.std.specs.List.{cons_option, filter_map, flat_map, list_any}
use Rattle.std.specs.Option.{option_eq, option_map}
use Rattle.std.specs.Str.{bytes_eq}
use Rattle.std.proofs.lemmas.List.Elements.{All-nil, All-push}
use Rattle.std.proofs.lemmas.List.{map-append}
use Rattle.indexmap.specs.IndexSet.{insert_key}
use Rattle.wc_resolve.specs.contracts.functions.AbiVariantPartialEq.TheImpl.{eq-value as same_abi}
use Rattle.wc_resolve.specs.Kinds.{ResolveView}
use Rattle.wc_names.specs.Views.{ImportView}
use Rattle.wc_validate.specs.Exports.Map.{ExportRecord}
use Rattle.wc_world.specs.Views.{ComponentWorldView}
use Rattle.wc_plan.specs.Calls.{Wanted, all_wanted, call_eq, call_of, owner_eq}
use Rattle.wc_plan.specs.Fault.{HasNoFault, IsPlanRefusal, IsServable, RefusedPlan}
use Rattle.wc_plan.specs.Plans.{is_lowered_indirect, plan_of, use_of, uses_from}
use Rattle.wc_plan.specs.Planner.{Call, IsCallRefusal, Progress, is_seen, left, owner_in, seen_view, wanted_call, wanted_import}
use Rattle.wc_plan.specs.PlanViews.{call_view, use_view}
use Rattle.wc_plan.specs.Views.{CallView, UseView}
use Rattle.wc_plan.specs.declared.planner.Importer.{Importer}
use Rattle.wc_plan.specs.declared.uses.Use.{Use}
use Rattle.wc_plan.proofs.FirstLemmas.{left_all, left_new, left_seen}
use Rattle.wc_plan.proofs.LoweringLemmas.{abi_same, interface_same}

-- the next slot, by a function's slot

abbrev pub step : Bool → ℕ
step b = if b then 1 else 0

slot_counts : (b : Bool) (slots : ℕ) → step (is_some (cond b (Some slots) None)) ≡ step b
slot_counts true slots = refl
slot_counts false slots = refl

module _ (w : ComponentWorldView) where
  pub progress_start : Progress w (all_wanted w) [] [] 0
  progress_start = record {
    front = [];
    cut = sym (left_all (all_wanted w));
    servable = All-nil (IsServable w);
    made = ap (uses_from w 0) (sym (left_all (all_wanted w)));
  }

  pub progress_end : (seen : List CallView) (uses : List UseView) (slots : ℕ) → Progress w [] seen uses slots → (uses ≡ plan_of w) × HasNoFault w
  progress_end seen uses slots p = (
    sym (p.made ∙ append-nil uses),
    subst (All (IsServable w)) (sym (p.cut ∙ append-nil p.front)) p.servable,
  )

  module _ (x : Wanted) (rest : List Wanted) (seen : List CallView) (uses : List UseView) (slots : ℕ) (p : Progress w (x ∷ rest) seen uses slots) where
    -- a function that was found before
    pub progress_seen : is_seen seen x ≡ true → Progress w rest seen uses slots
    progress_seen there = record {
      front = p.front;
      cut = p.cut ∙ ap (λ z. p.front ++ z) (left_seen x rest seen there);
      servable = p.servable;
      made = p.made ∙ ap (λ z. uses ++ uses_from w slots z) (left_seen x rest seen there);
    }

    -- and one that was not
    pub progress_new : is_seen seen x ≡ false → IsServable w x → Progress w rest (seen ++ x.0 ∷ []) (uses ++ use_of w slots x ∷ [])
        (slots + (if is_lowered_indirect w x then 1 else 0))
    progress_new new servable = record {
      front = p.front ++ x ∷ [];
      cut = p.cut ∙ (ap (λ z. p.front ++ z) (left_new x rest seen new) ∙ sym (append_assoc p.front (x ∷ []) (left (seen ++ x.0 ∷ []) rest)));
      servable = All-push (IsServable w) p.front x p.servable servable;
      made =
          p.made ∙ (ap (λ z. uses ++ uses_from w slots z) (left_new x rest seen new)
          ∙ sym (append_assoc uses (use_of w slots x ∷ []) (uses_from w (slots + (if is_lowered_indirect w x then 1 else 0)) (left (seen ++ x.0 ∷ []) rest))));
    }

    pub progress_fault : (r : RefusedPlan) → is_seen seen x ≡ false → IsCallRefusal w x r → IsPlanRefusal w r
    progress_fault r new (inl memory) = inl memory
    progress_fault r new (inr (kind, stopped, named, about)) = inr (
      record {
        front = p.front;
        at = x;
        back = left (seen ++ x.0 ∷ []) rest;
        kind = kind;
        cut = p.cut ∙ ap (λ z. p.front ++ z) (left_new x rest seen new);
        servable = p.servable;
        stopped = stopped;
        named = named;
      },
      about,
    )

-- the set of what was found, by what is seen of it

abbrev SeenKey : Type 0
SeenKey = Option (Bor (List ℕ)) × Call

owner_same : (a b : Option (Bor (List ℕ))) → option_eq (λ (m n : Bor (List ℕ)). bytes_eq m.now n.now) a b ≡ owner_eq (owner_in a) (owner_in b)
owner_same None None = refl
owner_same None (Some n) = refl
owner_same (Some m) None = refl
owner_same (Some m) (Some n) = refl

abbrev seen_test : SeenKey → SeenKey → Bool
seen_test a b = option_eq (λ (m n : Bor (List ℕ)). bytes_eq m.now n.now) a.0 b.0
    && (option_eq string_eq a.1.0 b.1.0 && (string_eq a.1.1.0 b.1.1.0 && same_abi.it a.1.1.1 b.1.1.1))

seen_same : (a b : SeenKey) → seen_test a b ≡ call_eq (seen_view a) (seen_view b)
seen_same a b = rw (owner_same a.0 b.0, interface_same a.1.0 b.1.0, abi_same a.1.1.1 b.1.1.1) refl

any_same : (k : SeenKey) (keys : List SeenKey) → list_any (seen_test k) keys ≡ list_any (call_eq (seen_view k)) (map seen_view keys)
any_same k [] = refl
any_same k (x ∷ keys) = rw (seen_same k x, any_same k keys) refl

not_found : (b c : Bool) → b ≡ not c → b ≡ true → c ≡ false
not_found b false is h = refl
not_found b true is h = absurd (let bad : ⊥ = cc (is, h) in bad)

found : (b c : Bool) → b ≡ not c → b ≡ false → c ≡ true
found b true is h = refl
found b false is h = absurd (let bad : ⊥ = cc (is, h) in bad)

-- no function was found

pub planned_start : (w : ComponentWorldView) (keys : List SeenKey) (uses : List Use) → keys ≡ [] → uses ≡ []
    → Progress w (all_wanted w) (map seen_view keys) (map use_view uses) 0
planned_start w keys uses no_keys no_uses =
    subst (λ z. Progress w (all_wanted w) (map seen_view z) (map use_view uses) 0) (sym no_keys)
    (subst (λ z. Progress w (all_wanted w) [] (map use_view z) 0) (sym no_uses) (progress_start w))

-- a function is put into the set, and it was there; or it was not

module _ (w : ComponentWorldView) (x : Wanted) (rest : List Wanted) (keys new_keys : List SeenKey) (k : SeenKey) (uses : List Use) (slots : ℕ)
    (is_new : Bool) (same : seen_view k ≡ x.0)
    (added : is_new ≡ not (list_any (seen_test k) keys)) (put : new_keys ≡ insert_key seen_test keys k)
    (p : Progress w (x ∷ rest) (map seen_view keys) (map use_view uses) slots) where
  is_there : list_any (seen_test k) keys ≡ is_seen (map seen_view keys) x
  is_there = any_same k keys ∙ ap (λ c. list_any (call_eq c) (map seen_view keys)) same

  kept : list_any (seen_test k) keys ≡ true → new_keys ≡ keys
  kept there = put ∙ ap (λ b. if b then keys else keys ++ k ∷ []) there

  grown : list_any (seen_test k) keys ≡ false → map seen_view new_keys ≡ map seen_view keys ++ x.0 ∷ []
  grown there = ap (map seen_view) (put ∙ ap (λ b. if b then keys else keys ++ k ∷ []) there)
      ∙ (map-append seen_view keys (k ∷ []) ∙ ap (λ c. map seen_view keys ++ c ∷ []) same)

  pub planned_seen : is_new ≡ false → Progress w rest (map seen_view new_keys) (map use_view uses) slots
  planned_seen h =
      let there = found is_new (list_any (seen_test k) keys) added h in
      subst (λ z. Progress w rest (map seen_view z) (map use_view uses) slots) (sym (kept there))
      (progress_seen w x rest (map seen_view keys) (map use_view uses) slots p (sym is_there ∙ there))

  pub planned_new : (one : Use) (new_uses : List Use) (new_slots : ℕ) → is_new ≡ true → IsServable w x → use_view one ≡ use_of w slots x
      → new_uses ≡ uses ++ one ∷ []
      → new_slots ≡ slots + (if is_some one.slot then 1 else 0) → Progress w rest (map seen_view new_keys) (map use_view new_uses) new_slots
  planned_new one new_uses new_slots h servable made pushed counted =
      let there = not_found is_new (list_any (seen_test k) keys) added h in
      let all_uses : map use_view new_uses ≡ map use_view uses ++ use_of w slots x ∷ [] =
      ap (map use_view) pushed ∙ (map-append use_view uses (one ∷ []) ∙ ap (λ u. map use_view uses ++ u ∷ []) made) in
      let next : new_slots ≡ slots + (if is_lowered_indirect w x then 1 else 0) =
      counted ∙ (ap (λ u. slots + (if is_some u.slot then 1 else 0)) made ∙ ap (λ n. slots + n) (slot_counts (is_lowered_indirect w x) slots)) in
      subst (λ z. Progress w rest z (map use_view new_uses) new_slots) (sym (grown there))
      (subst (λ z. Progress w rest (map seen_view keys ++ x.0 ∷ []) z new_slots) (sym all_uses)
      (subst (Progress w rest (map seen_view keys ++ x.0 ∷ []) (map use_view uses ++ use_of w slots x ∷ [])) (sym next)
      (progress_new w x rest (map seen_view keys) (map use_view uses) slots p (sym is_there ∙ there) servable)))

  pub planned_fault : (r : RefusedPlan) → is_new ≡ true → IsCallRefusal w x r → IsPlanRefusal w r
  planned_fault r h refused =
      progress_fault w x rest (map seen_view keys) (map use_view uses) slots p r
      (sym is_there ∙ not_found is_new (list_any (seen_test k) keys) added h) refused

-- an import that is a function

abbrev pub wanted_of : ResolveView → Option (Bor (List ℕ)) → ExportRecord → ImportView → Option Wanted
wanted_of r owner exports import = option_map (λ (c : CallView). (c, exports)) (call_of r (owner_in owner) import)

pub import_wanted : (r s : ResolveView) (importer : Importer) (import : ImportView) (o : Option Call) (call : Call) → s ≡ r
    → option_map (call_view (owner_in importer.owner)) o ≡ call_of s (owner_in importer.owner) import
    → o ≡ Some call → wanted_import r importer import ≡ Some (wanted_call importer call)
import_wanted r s importer import o call same named is =
    ap (option_map (λ (c : CallView). (c, importer.exports.now)))
    (sym (named ∙ ap (λ z. call_of z (owner_in importer.owner) import) same) ∙ ap (option_map (call_view (owner_in importer.owner))) is)

-- functions of what is gone through, one after another

cons_rest : {Y : Type 0} (o : Option Y) (ys rest : List Y) → cons_option o ys ++ rest ≡ cons_option o (ys ++ rest)
cons_rest None ys rest = refl
cons_rest (Some y) ys rest = refl

module _ {X : Type 0} (all : List X) (start old : List Wanted → Type 0) where
  module _ (g : X → Option Wanted) where
    abbrev pub Walked : List X → Type 0
    Walked xs = (rest : List Wanted) → start (filter_map g all ++ rest) → old (filter_map g xs ++ rest)

    pub walk_here : (xs ys : List X) (x : X) → xs ≡ x ∷ ys → Walked xs → (rest : List Wanted) → start (filter_map g all ++ rest)
        → old (cons_option (g x) (filter_map g ys ++ rest))
    walk_here xs ys x is walked rest h = subst old (ap (λ z. filter_map g z ++ rest) is ∙ cons_rest (g x) (filter_map g ys) rest) (walked rest h)

  module _ (g : X → List Wanted) where
    abbrev pub FlatWalked : List X → Type 0
    FlatWalked xs = (rest : List Wanted) → start (flat_map g all ++ rest) → old (flat_map g xs ++ rest)

    pub flat_here : (xs ys : List X) (x : X) → xs ≡ x ∷ ys → FlatWalked xs → (rest : List Wanted) → start (flat_map g all ++ rest)
        → old (g x ++ (flat_map g ys ++ rest))
    flat_here xs ys x is walked rest h = subst old (ap (λ z. flat_map g z ++ rest) is ∙ append_assoc (g x) (flat_map g ys) rest) (walked rest h)
