-- Items are had back from their numbers.
use Rattle.std.proofs.Common.{◌≡◌, ℕ, ◌+◌, ◌-◌, ◌<◌, Bool, true, false, refl, ◌∙◌, ap, arith, ltb-true}
use Rattle.std.specs.Prelude.{nat_lt, if◌then◌else◌}
use Rattle.wc_read.specs.declared.operators.Space.TheVariants.{Types, Funcs, Tables, Memories, Globals}
use Rattle.wc_paths.specs.Items.{CountsValue, has_item}
use Rattle.wc_paths.specs.Numbers.{data_at, elements_on, funcs_on, globals_on, item_at, item_count, memories_on, number_of, split_at, tables_on}
use Rattle.wc_paths.specs.declared.items.PathItem.{PathItem}
use Rattle.wc_paths.specs.declared.items.PathItem.TheVariants.{Item, Elements, Data}

split_first : (count : ℕ) (first others : ℕ → PathItem) (n : ℕ) → nat_lt n count ≡ true → split_at count first others n ≡ first n
split_first count first others n e = ap (λ (b : Bool). if b then first n else others (n - count)) e

split_others : (count : ℕ) (first others : ℕ → PathItem) (n : ℕ) → split_at count first others (count + n) ≡ others n
split_others count first others n = by (nat_lt (count + n) count) refl
  where
    by : (b : Bool) → nat_lt (count + n) count ≡ b → split_at count first others (count + n) ≡ others n
    by true e = absurd (let h = ltb-true (count + n) count e in omega (arith, h))
    by false e =
        let back : (count + n) - count ≡ n = omega arith in
        ap (λ (b : Bool). if b then first (count + n) else others ((count + n) - count)) e ∙ ap others back

-- a number is that of its item

pub item_back : (c : CountsValue) (x : PathItem) → has_item c x ≡ true → item_at c (number_of c x) ≡ x
unfolding item_at
item_back c (Item Types n) e =
    split_first c.types (λ n. Item Types n) (funcs_on c) n e
item_back c (Item Funcs n) e =
    split_others c.types (λ n. Item Types n) (funcs_on c) n
    ∙ (split_first c.funcs (λ n. Item Funcs n) (tables_on c) n e)
item_back c (Item Tables n) e =
    split_others c.types (λ n. Item Types n) (funcs_on c) (c.funcs + n)
    ∙ (split_others c.funcs (λ n. Item Funcs n) (tables_on c) n
    ∙ (split_first c.tables (λ n. Item Tables n) (memories_on c) n e))
item_back c (Item Memories n) e =
    split_others c.types (λ n. Item Types n) (funcs_on c) (c.funcs + (c.tables + n))
    ∙ (split_others c.funcs (λ n. Item Funcs n) (tables_on c) (c.tables + n)
    ∙ (split_others c.tables (λ n. Item Tables n) (memories_on c) n
    ∙ (split_first c.memories (λ n. Item Memories n) (globals_on c) n e)))
item_back c (Item Globals n) e =
    split_others c.types (λ n. Item Types n) (funcs_on c) (c.funcs + (c.tables + (c.memories + n)))
    ∙ (split_others c.funcs (λ n. Item Funcs n) (tables_on c) (c.tables + (c.memories + n))
    ∙ (split_others c.tables (λ n. Item Tables n) (memories_on c) (c.memories + n)
    ∙ (split_others c.memories (λ n. Item Memories n) (globals_on c) n
    ∙ (split_first c.globals (λ n. Item Globals n) (elements_on c) n e))))
item_back c (Elements n) e =
    split_others c.types (λ n. Item Types n) (funcs_on c) (c.funcs + (c.tables + (c.memories + (c.globals + n))))
    ∙ (split_others c.funcs (λ n. Item Funcs n) (tables_on c) (c.tables + (c.memories + (c.globals + n)))
    ∙ (split_others c.tables (λ n. Item Tables n) (memories_on c) (c.memories + (c.globals + n))
    ∙ (split_others c.memories (λ n. Item Memories n) (globals_on c) (c.globals + n)
    ∙ (split_others c.globals (λ n. Item Globals n) (elements_on c) n
    ∙ (split_first c.elements (λ n. Elements n) data_at n e)))))
item_back c (Data n) e =
    split_others c.types (λ n. Item Types n) (funcs_on c) (c.funcs + (c.tables + (c.memories + (c.globals + (c.elements + n)))))
    ∙ (split_others c.funcs (λ n. Item Funcs n) (tables_on c) (c.tables + (c.memories + (c.globals + (c.elements + n))))
    ∙ (split_others c.tables (λ n. Item Tables n) (memories_on c) (c.memories + (c.globals + (c.elements + n)))
    ∙ (split_others c.memories (λ n. Item Memories n) (globals_on c) (c.globals + (c.elements + n))
    ∙ (split_others c.globals (λ n. Item Globals n) (elements_on c) (c.elements + n)
    ∙ (split_others c.elements (λ n. Elements n) data_at n)))))

-- a number of what is there is below the count of all
pub number_below : (c : CountsValue) (x : PathItem) → has_item c x ≡ true → number_of c x < item_count c
number_below c (Item Types n) e = let h = ltb-true n c.types e in omega (arith, h)
number_below c (Item Funcs n) e = let h = ltb-true n c.funcs e in omega (arith, h)
number_below c (Item Tables n) e = let h = ltb-true n c.tables e in omega (arith, h)
number_below c (Item Memories n) e = let h = ltb-true n c.memories e in omega (arith, h)
number_below c (Item Globals n) e = let h = ltb-true n c.globals e in omega (arith, h)
number_below c (Elements n) e = let h = ltb-true n c.elements e in omega (arith, h)
number_below c (Data n) e = let h = ltb-true n c.data_segments e in omega (arith, h)
