-- Items that the operators of a body name, one after another.
use Rattle.std.proofs.Common.{◌≡◌, ℕ, Bool, true, false, ◌||◌, List, [], ◌∷◌, ◌++◌, length, take, Option, Some, None, inl, inr, refl, sym, ◌∙◌, ap, append_assoc, append-nil}
use Rattle.std.proofs.lemmas.List.{take_at}
use Rattle.std.proofs.lemmas.Grind.{flat_map-append}
use Rattle.std.specs.Option.{option_map, option_to_list}
use Rattle.std.specs.Prelude.{is_some}
use Rattle.wc_read.specs.BodyOperators.{body_of, next_and_left}
use Rattle.wc_read.specs.Bodies.{local_types}
use Rattle.wc_read.specs.Entries.{refs_list, type_items, val_type_refs}
use Rattle.wc_read.specs.Operators.{ImmediatesValue, InstrValue, WithNone, WithBlock, WithIndex, WithIndices, WithLabels, WithValTypes, WithRefType, WithMemArg, WithMemArgLane, WithI32, WithI64, WithBytes, WithLane}
use Rattle.wc_read.specs.Passing.{IsPassable, IsPassableCode, run_and_left}
use Rattle.wc_read.specs.References.{names_segment, one_ref, reference, refs_of, two_refs, type_refs_of}
use Rattle.wc_read.specs.declared.bodies.Locals.{Locals}
use Rattle.wc_read.specs.declared.operators.IndexKind.{IndexKind}
use Rattle.wc_read.specs.declared.operators.IndexKind.TheVariants.{In, Elem, Data, Local, Label}
use Rattle.wc_read.specs.declared.operators.Refs.{Refs}
use Rattle.wc_paths.specs.Items.{body_items, code_items, kind_item, operator_items, space_items}
use Rattle.wc_paths.specs.Private.BodyNames.{ArePut}
use Rattle.wc_paths.specs.declared.items.PathItem.{PathItem}

-- an operator that is passed over names nothing

no_refs : (r : Refs) → r ≡ one_ref None → space_items (refs_list r) ≡ []
no_refs r is = ap (λ (s : Refs). space_items (refs_list s)) is

by_kind : (k : IndexKind) (n : ℕ) → reference (record { kind = k; number = n }) ≡ None → names_segment (WithIndex (record { kind = k; number = n })) ≡ false
    → option_to_list (kind_item k n) ≡ []
by_kind (In space) n none other = absurd cc
by_kind Elem n none other = absurd cc
by_kind Data n none other = absurd cc
by_kind Local n none other = refl
by_kind Label n none other = refl

neither : (a b : Bool) → (a || b) ≡ false → (a ≡ false) × (b ≡ false)
neither true b e = absurd cc
neither false b e = (refl, e)

no_two : (a b : Option _) → two_refs a b ≡ one_ref None → (a ≡ None) × (b ≡ None)
no_two None b is = (refl, ap (λ (r : Refs). r.first) is)
no_two (Some a) b is = absurd (let bad : Some a ≡ None = ap (λ (r : Refs). r.first) is in cc)

pub names_none : (v : ImmediatesValue) → refs_of v ≡ one_ref None → names_segment v ≡ false → type_refs_of v ≡ [] → operator_items v ≡ []
names_none (WithIndex i) refs segment types = by_kind i.kind i.number (ap (λ (r : Refs). r.first) refs) segment
names_none (WithIndices i j) refs segment types =
    let both = no_two (reference i) (reference j) refs in
    let neither_is = neither (names_segment (WithIndex i)) (names_segment (WithIndex j)) segment in
    (λ k. by_kind i.kind i.number both.0 neither_is.0 k ++ by_kind j.kind j.number both.1 neither_is.1 k)
names_none (WithValTypes ts) refs segment types = ap (λ (ns : List ℕ). space_items (type_items ns)) types
names_none WithNone refs segment types = refl
names_none (WithBlock t) refs segment types = no_refs (refs_of (WithBlock t)) refs
names_none (WithLabels ls d) refs segment types = refl
names_none (WithRefType t) refs segment types = no_refs (refs_of (WithRefType t)) refs
names_none (WithMemArg m) refs segment types = no_refs (refs_of (WithMemArg m)) refs
names_none (WithMemArgLane m lane) refs segment types = no_refs (refs_of (WithMemArgLane m lane)) refs
names_none (WithI32 n) refs segment types = refl
names_none (WithI64 n) refs segment types = refl
names_none (WithBytes bytes) refs segment types = refl
names_none (WithLane lane) refs segment types = refl

passed_one : (i : InstrValue) → IsPassable false i → operator_items i.immediates ≡ []
passed_one i (inl refs, segment, types) = names_none i.immediates refs segment types
passed_one i (inr memory, segment, types) = absurd (let bad : false ≡ true = memory.0 in cc)

pub passed_none : (run : List InstrValue) → IsPassableCode false run → code_items run ≡ []
passed_none [] passable = refl
passed_none (i ∷ run) passable = (λ k. passed_one i passable.0 k ++ passed_none run passable.1 k)

pub run_passed : (run : List InstrValue) (old new : Option (List InstrValue)) → IsPassableCode false run → old ≡ run_and_left run new
    → option_map code_items new ≡ option_map code_items old
run_passed run old new passable is = same new ∙ sym (ap (option_map code_items) is)
  where
    same : (left : Option (List InstrValue)) → option_map code_items left ≡ option_map code_items (run_and_left run left)
    same None = refl
    same (Some is) =
        ap Some (ap (λ l. l ++ code_items is) (sym (passed_none run passable))
        ∙ sym (flat_map-append (λ (i : InstrValue). operator_items i.immediates) run is))

-- items that were put, and those that are left

pub record IsLeft (old now : List PathItem) (all left : Option (List PathItem)) : Type 0 where
  pub put : List PathItem
  pub after : now ≡ old ++ put
  pub rest : option_map (λ items. put ++ items) left ≡ all

pub left_all : (old : List PathItem) (all : Option (List PathItem)) → IsLeft old old all all
left_all old None = record { put = []; after = sym (append-nil old); rest = refl }
left_all old (Some items) = record { put = []; after = sym (append-nil old); rest = refl }

both_put : (put one : List PathItem) (left : Option (List PathItem)) → option_map (λ items. (put ++ one) ++ items) left
    ≡ option_map (λ items. put ++ items) (option_map (λ items. one ++ items) left)
both_put put one None = refl
both_put put one (Some items) = ap Some (append_assoc put one items)

next_items : (i : InstrValue) (left : Option (List InstrValue))
    → option_map code_items (next_and_left (Some i) left) ≡ option_map (λ items. operator_items i.immediates ++ items) (option_map code_items left)
next_items i None = refl
next_items i (Some is) = refl

pub left_more : (old now new : List PathItem) (all : Option (List PathItem)) (i : InstrValue) (before after : Option (List InstrValue))
    → IsLeft old now all (option_map code_items before) → before ≡ next_and_left (Some i) after → new ≡ now ++ operator_items i.immediates
    → IsLeft old new all (option_map code_items after)
left_more old now new all i before after so_far is put = record {
  put = so_far.put ++ operator_items i.immediates;
  after = put ∙ ap (λ l. l ++ operator_items i.immediates) so_far.after ∙ append_assoc old so_far.put (operator_items i.immediates);
  rest = both_put so_far.put (operator_items i.immediates) (option_map code_items after)
      ∙ ap (option_map (λ items. so_far.put ++ items)) (sym (next_items i after) ∙ ap (option_map code_items) (sym is))
      ∙ so_far.rest;
}

pub left_end : (old now : List PathItem) (all : Option (List PathItem)) (before after : Option (List InstrValue))
    → IsLeft old now all (option_map code_items before) → before ≡ next_and_left None after → ArePut old now all true
left_end old now all before after so_far is =
    by all (sym (ap (λ (b : Option (List InstrValue)). option_map (λ items. so_far.put ++ items) (option_map code_items b)) is) ∙ so_far.rest)
  where
    by : (all : Option (List PathItem)) → Some (so_far.put ++ []) ≡ all → ArePut old now all true
    by None e = absurd (let bad : Some (so_far.put ++ []) ≡ None = e in cc)
    by (Some items) e =
        let same : so_far.put ++ [] ≡ items = cc in
        (so_far.after ∙ ap (λ l. old ++ l) (sym (append-nil so_far.put) ∙ same), refl)

pub left_refused : (old now : List PathItem) (all : Option (List PathItem)) (before : Option (List InstrValue))
    → IsLeft old now all (option_map code_items before) → before ≡ None → ArePut old now all false
left_refused old now all before so_far is =
    by all (sym (ap (λ (b : Option (List InstrValue)). option_map (λ items. so_far.put ++ items) (option_map code_items b)) is) ∙ so_far.rest)
  where
    by : (all : Option (List PathItem)) → None ≡ all → ArePut old now all false
    by None e = ((so_far.put, so_far.after), refl)
    by (Some items) e = absurd (let bad : None ≡ Some items = e in cc)

-- a body by its locals and what is left of it

abbrev pub local_items : List Locals → List PathItem
local_items locals = space_items (val_type_refs (local_types locals))

module _ (locals : List Locals) (old mid new : List PathItem) (first : mid ≡ old ++ local_items locals) where
  pub put_whole : (left : Option (List InstrValue)) (b : Bool) → ArePut mid new (option_map code_items left) b → b ≡ true
      → (new ≡ old ++ body_items (option_map (body_of locals) left)) × (true ≡ is_some left)
  put_whole None b put is_true = absurd (let bad : false ≡ true = sym put.1 ∙ is_true in cc)
  put_whole (Some is) b put is_true = (put.0 ∙ ap (λ l. l ++ code_items is) first ∙ append_assoc old (local_items locals) (code_items is), refl)

  pub put_nothing : (left : Option (List InstrValue)) (b : Bool) (begun : ℕ) (kept : List PathItem) → ArePut mid new (option_map code_items left) b → b ≡ false
      → begun ≡ length old → kept ≡ take begun new
      → (kept ≡ old ++ body_items (option_map (body_of locals) left)) × (false ≡ is_some left)
  put_nothing (Some is) b begun kept put is_false count cut = absurd (let bad : true ≡ false = sym put.1 ∙ is_false in cc)
  put_nothing None b begun kept put is_false count cut =
      let all : new ≡ old ++ (local_items locals ++ put.0.0) = put.0.1 ∙ ap (λ l. l ++ put.0.0) first ∙ append_assoc old (local_items locals) put.0.0 in
      (cut ∙ ap (take begun) all ∙ take_at old (local_items locals ++ put.0.0) begun (sym count) ∙ sym (append-nil old), refl)
