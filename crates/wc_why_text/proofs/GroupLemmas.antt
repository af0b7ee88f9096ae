-- Values under names, one after another.
use Rattle.std.proofs.Common.{◌≡◌, ℕ, ◌+◌, ◌<◌, Bool, true, false, not, ◌||◌, cond, List, [], ◌∷◌, ◌++◌, map, filter, take, length, get_or, Option, Some, None, refl, sym, ap, ◌∙◌, subst, append-nil, inl, inr}
use Rattle.std.proofs.lemmas.Bool.{cases_Bool}
use Rattle.std.proofs.lemmas.Cmp.{nat_list_eq_equiv}
use Rattle.std.proofs.lemmas.List.{map-append, map_more}
use Rattle.std.proofs.lemmas.List.Elements.{filter-append}
use Rattle.std.proofs.lemmas.Map.{lookup-set_value}
use Rattle.std.proofs.lemmas.Slice.Eq.{bytes_eq-Decides}
use Rattle.std.specs.Borrow.{Bor}
use Rattle.std.specs.Cmp.{IsEquivalence}
use Rattle.std.specs.List.{list_any}
use Rattle.std.specs.Map.{lookup, set_value}
use Rattle.std.specs.Option.{IsSome, option_map_or}
use Rattle.std.specs.Str.{bytes_eq}
use Rattle.std.specs.declared.alloc.Global.{Global}
use Rattle.std.specs.declared.vec.Vec.{Vec}
use Rattle.indexmap.specs.IndexMap.{insert_entry}
use Rattle.indexmap.specs.IndexSet.{insert_key}
use Rattle.wc_texts.specs.Names.{first_occurrences}
use Rattle.wc_why_text.specs.Groups.{IsGrouped, IsOneMore, group_names, group_ways, interface_of, interfaces_of, ways_of}
use Rattle.wc_why.specs.Tree.{TreeWayView, tree_way_view}
use Rattle.wc_why.specs.declared.tree.TreeWay.{TreeWay}

-- names without repeats

bytes_eq-sym : (a b : List ℕ) (v : Bool) → bytes_eq a b ≡ v → bytes_eq b a ≡ v
bytes_eq-sym a b true e = (bytes_eq-Decides b a).1 (sym ((bytes_eq-Decides a b).0 e))
bytes_eq-sym a b false e =
    elim (cases_Bool (bytes_eq b a)) [
      | inl same ↦ absurd (let turned : bytes_eq a b ≡ true = (bytes_eq-Decides a b).1 (sym ((bytes_eq-Decides b a).0 same)) in cc)
      | inr other ↦ other
    ]

abbrev differs : List ℕ → List ℕ → Bool
differs name other = not (bytes_eq name other)

-- whether another name is among names does not depend on this one
any_other : (name other : List ℕ) (names : List (List ℕ)) → bytes_eq other name ≡ false → list_any (bytes_eq other) (filter (differs name) names)
    ≡ list_any (bytes_eq other) names
any_other name other [] unequal = refl
any_other name other (x ∷ names) unequal =
    elim (cases_Bool (bytes_eq name x)) [
      | inl same ↦
          (let is_x : name ≡ x = (bytes_eq-Decides name x).0 same in
          let no : bytes_eq other x ≡ false = ap (bytes_eq other) (sym is_x) ∙ unequal in
          rw (same, no) (any_other name other names unequal))
      | inr differ ↦ rw differ (ap (λ b. bytes_eq other x || b) (any_other name other names unequal))
    ]

-- a name put after a first one and the others
insert_after : (name other : List ℕ) (names : List (List ℕ)) → insert_key bytes_eq (name ∷ filter (differs name) names) other ≡ name ∷ filter
    (differs name) (insert_key bytes_eq names other)
insert_after name other names =
    elim (cases_Bool (bytes_eq other name)) [
      | inl same ↦
          (let turned : bytes_eq name other ≡ true = bytes_eq-sym other name true same in
          let skipped : filter (differs name) (names ++ other ∷ []) ≡ filter (differs name) names = filter-append (differs name) names (other ∷ [])
          ∙ rw turned (append-nil _) in
          elim (cases_Bool (list_any (bytes_eq other) names)) [
            | inl there ↦ rw (same, there) refl
            | inr new ↦ rw (same, new) (ap (λ l. name ∷ l) (sym skipped))
          ])
      | inr unequal ↦
          (let turned : bytes_eq name other ≡ false = bytes_eq-sym other name false unequal in
          let kept : filter (differs name) (names ++ other ∷ []) ≡ filter (differs name) names ++ other ∷ [] = filter-append (differs name) names
          (other ∷ []) ∙ rw turned refl in
          let any = any_other name other names unequal in
          elim (cases_Bool (list_any (bytes_eq other) names)) [
            | inl there ↦ rw (unequal, any, there) refl
            | inr new ↦ rw (unequal, any, new) (ap (λ l. name ∷ l) (sym kept))
          ])
    ]

-- one more name after others
distinct_more : (names : List (List ℕ)) (name : List ℕ) → first_occurrences (names ++ name ∷ []) ≡ insert_key bytes_eq (first_occurrences names) name
distinct_more [] name = refl
distinct_more (x ∷ names) name = ap (λ l. x ∷ filter (differs x) l) (distinct_more names name) ∙ sym (insert_after x name (first_occurrences names))

-- a list under a name

abbrev pub Text : Type 0
Text = Bor (List ℕ)

abbrev under : List ℕ → Text → Bool
under name k = bytes_eq name k.now

text_equiv : IsEquivalence (λ (a b : Text). bytes_eq a.now b.now)
text_equiv = record {
  refl = λ x. nat_list_eq_equiv.refl x.now;
  symm = λ x y. nat_list_eq_equiv.symm x.now y.now;
  congr = λ x y z same. ap (λ (t : List ℕ). bytes_eq t z.now) ((bytes_eq-Decides x.now y.now).0 same);
}

module _ {X : Type 0} where
  -- a name is there, or isn't, as what is under it

  named : (p : Text → Bool) (es : List (Text × Vec X Global)) (v : Vec X Global) → lookup p es ≡ Some v → list_any p (map (λ (e : Text × Vec X Global). e.0) es) ≡ true
  named p [] v there = absurd (let bad : None ≡ Some v = there in cc)
  named p (e ∷ es) v there = elim (cases_Bool (p e.0)) [
    | inl on ↦ rw on refl
    | inr off ↦ rw off (named p es v (rw off at there))
  ]

  unnamed : (p : Text → Bool) (es : List (Text × Vec X Global)) → lookup p es ≡ None → list_any p (map (λ (e : Text × Vec X Global). e.0) es) ≡ false
  unnamed p [] none = refl
  unnamed p (e ∷ es) none = elim (cases_Bool (p e.0)) [
    | inl on ↦ absurd (let bad : Some e.1 ≡ None = rw on at none in cc)
    | inr off ↦ rw off (unnamed p es (rw off at none))
  ]

  seen : (name : List ℕ) (es : List (Text × Vec X Global)) → list_any (under name) (map (λ (e : Text × Vec X Global). e.0) es) ≡ list_any (bytes_eq name) (group_names es)
  seen name [] = refl
  seen name (e ∷ es) = ap (λ b. bytes_eq name e.0.now || b) (seen name es)

  kept_names : (p : Text → Bool) (es : List (Text × Vec X Global)) (w : Vec X Global) → group_names (set_value p es w) ≡ group_names es
  kept_names p [] w = refl
  kept_names p (e ∷ es) w = elim (cases_Bool (p e.0)) [
    | inl on ↦ rw on refl
    | inr off ↦ rw off (ap (λ l. e.0.now ∷ l) (kept_names p es w))
  ]

  -- after the others of its name

  names_after : (old new : List (Text × Vec X Global)) (name : Text) (v w : Vec X Global) → new ≡ set_value (under name.now) old w
      → lookup (under name.now) old ≡ Some v → group_names new ≡ insert_key bytes_eq (group_names old) name.now
  names_after old new name v w put there =
      let is : list_any (bytes_eq name.now) (group_names old) ≡ true = sym (seen name.now old) ∙ named (under name.now) old v there in
      ap group_names put ∙ kept_names (under name.now) old w ∙ sym (ap (λ b. cond b (group_names old) (group_names old ++ name.now ∷ [])) is)

  pub put_after : (old new : List (Text × Vec X Global)) (name : Text) (v w : Vec X Global) (x : X) → new ≡ set_value (under name.now) old w
      → lookup (under name.now) old ≡ Some v → w.items ≡ v.items ++ x ∷ [] → IsOneMore old new name.now x
  put_after old new name v w x put there is = record {
    names = names_after old new name v w put there;
    list = w;
    is = is ∙ ap (λ o. option_map_or (λ (u : Vec X Global). u.items) o [] ++ x ∷ []) (sym there);
    each = λ q.
        ap (lookup (under q)) put
        ∙ lookup-set_value text_equiv (under name.now) (λ a b same. ap (λ (t : List ℕ). bytes_eq t b.now) ((bytes_eq-Decides name.now a.now).0 same))
        (record { ref_ptr = (0, 0); now = q }) w old (subst IsSome (sym there) refl);
  }

  -- as the first of its name

  insert_last : (old : List (Text × Vec X Global)) (name : Text) (w : Vec X Global) → lookup (under name.now) old ≡ None
      → insert_entry (λ (a b : Text). bytes_eq a.now b.now) old name w ≡ old ++ (name, w) ∷ []
  insert_last [] name w none = refl
  insert_last (e ∷ es) name w none = elim (cases_Bool (bytes_eq name.now e.0.now)) [
    | inl on ↦ absurd (let bad : Some e.1 ≡ None = rw on at none in cc)
    | inr off ↦ rw off (ap (λ l. e ∷ l) (insert_last es name w (rw off at none)))
  ]

  names_first : (old new : List (Text × Vec X Global)) (name : Text) (w : Vec X Global) → new ≡ insert_entry (λ (a b : Text). bytes_eq a.now b.now) old name w
      → lookup (under name.now) old ≡ None → group_names new ≡ insert_key bytes_eq (group_names old) name.now
  names_first old new name w put none =
      let is : list_any (bytes_eq name.now) (group_names old) ≡ false = sym (seen name.now old) ∙ unnamed (under name.now) old none in
      ap group_names (put ∙ insert_last old name w none) ∙ map-append (λ (e : Text × Vec X Global). e.0.now) old ((name, w) ∷ [])
      ∙ sym (ap (λ b. cond b (group_names old) (group_names old ++ name.now ∷ [])) is)

  pub put_first : (old new : List (Text × Vec X Global)) (name : Text) (w : Vec X Global) (x : X)
      → new ≡ insert_entry (λ (a b : Text). bytes_eq a.now b.now) old name w
      → ((q : Text) → lookup (under q.now) new ≡ cond (bytes_eq name.now q.now) (Some w) (lookup (under q.now) old))
      → lookup (under name.now) old ≡ None → w.items ≡ x ∷ [] → IsOneMore old new name.now x
  put_first old new name w x put at none is = record {
    names = names_first old new name w put none;
    list = w;
    is = is ∙ ap (λ o. option_map_or (λ (u : Vec X Global). u.items) o [] ++ x ∷ []) (sym none);
    each = λ q. at (record { ref_ptr = (0, 0); now = q });
  }

-- paths by interfaces

seen_items : (o : Option (Vec TreeWay Global)) → map tree_way_view (option_map_or (λ (v : Vec TreeWay Global). v.items) o [])
    ≡ option_map_or (λ (v : Vec TreeWay Global). map tree_way_view v.items) o []
seen_items None = refl
seen_items (Some v) = refl

ways_more : (old new : List (Text × Vec TreeWay Global)) (name : List ℕ) (w : TreeWay) → IsOneMore old new name w
    → (q : List ℕ) → group_ways new q ≡ group_ways old q ++ cond (bytes_eq q name) (tree_way_view w ∷ []) []
ways_more old new name w put q =
    let ways_in : Option (Vec TreeWay Global) → List TreeWayView = λ o. option_map_or (λ (v : Vec TreeWay Global). map tree_way_view v.items) o [] in
    let turned : bytes_eq name q ≡ bytes_eq q name = sym (nat_list_eq_equiv.symm q name) in
    elim (cases_Bool (bytes_eq name q)) [
      | inl same ↦
          (let here : name ≡ q = (bytes_eq-Decides name q).0 same in
          ap ways_in (put.each q ∙ ap (λ b. cond b (Some put.list) (lookup (under q) old)) same)
          ∙ ap (map tree_way_view) put.is
          ∙ map-append tree_way_view (option_map_or (λ (v : Vec TreeWay Global). v.items) (lookup (under name) old) []) (w ∷ [])
          ∙ ap (λ l. l ++ tree_way_view w ∷ []) (seen_items (lookup (under name) old) ∙ ap (group_ways old) here)
          ∙ ap (λ b. group_ways old q ++ cond b (tree_way_view w ∷ []) []) (sym same ∙ turned))
      | inr other ↦
          (ap ways_in (put.each q ∙ ap (λ b. cond b (Some put.list) (lookup (under q) old)) other)
          ∙ sym (append-nil (group_ways old q))
          ∙ ap (λ b. group_ways old q ++ cond b (tree_way_view w ∷ []) []) (sym other ∙ turned))
    ]

one_kept : (p : TreeWayView → Bool) (w : TreeWayView) → filter p (w ∷ []) ≡ cond (p w) (w ∷ []) []
one_kept p w = elim (cases_Bool (p w)) [ inl on ↦ rw on refl | inr off ↦ rw off refl ]

pub group_none : (entries : List (Text × Vec TreeWay Global)) → entries ≡ [] → IsGrouped [] entries
group_none entries none = subst (IsGrouped []) (sym none) (record { names = refl; each = λ q. refl })

pub group_more : (ways : List TreeWay) (i : ℕ) (d : TreeWay) (old new : List (Text × Vec TreeWay Global)) → i < length ways
    → IsGrouped (map tree_way_view (take i ways)) old → IsOneMore old new (interface_of (tree_way_view (get_or ways i d))) (get_or ways i d)
    → IsGrouped (map tree_way_view (take (i + 1) ways)) new
group_more ways i d old new within before put =
    let w : TreeWay = get_or ways i d in
    let passed : List TreeWayView = map tree_way_view (take i ways) in
    let name : List ℕ = interface_of (tree_way_view w) in
    let more : map tree_way_view (take (i + 1) ways) ≡ passed ++ tree_way_view w ∷ [] = map_more tree_way_view ways i d within in
    record {
      names = put.names ∙ ap (λ l. insert_key bytes_eq l name) before.names ∙ sym (distinct_more (map interface_of passed) name)
          ∙ ap first_occurrences (sym (map-append interface_of passed (tree_way_view w ∷ []))) ∙ ap interfaces_of (sym more);
      each = λ q.
          ways_more old new name w put q ∙ (λ j. before.each q j ++ cond (bytes_eq q name) (tree_way_view w ∷ []) [])
          ∙ ap (λ l. ways_of passed q ++ l) (sym (one_kept (λ (v : TreeWayView). bytes_eq q (interface_of v)) (tree_way_view w)))
          ∙ sym (filter-append (λ (v : TreeWayView). bytes_eq q (interface_of v)) passed (tree_way_view w ∷ []))
          ∙ ap (λ l. ways_of l q) (sym more);
    }
