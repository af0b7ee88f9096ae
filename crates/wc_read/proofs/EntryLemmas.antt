-- What a module that was read has at an index.
use Rattle.std.proofs.Common.{◌≡◌, ℕ, ◌-◌, List, map, ◌∙◌, ap, Option, Some, None, []}
use Rattle.std.specs.Prelude.{⊤}
use Rattle.std.specs.List.{slice_get}
use Rattle.std.specs.Borrow.{Bor}
use Rattle.std.proofs.lemmas.Option.{slice_get-map}
use Rattle.wc_read.specs.BodyOperators.{body_in, init_in}
use Rattle.wc_read.specs.Items.{TableValue, func_value, global_value, table_value}
use Rattle.wc_read.specs.declared.core_module.Module.{Module}
use Rattle.wc_read.specs.declared.items.Item.{Item}
use Rattle.wc_read.specs.declared.types.FuncType.{FuncType}
use Rattle.wc_read.specs.declared.types.TableType.{TableType}
use Rattle.wc_read.specs.declared.types.GlobalType.{GlobalType}
use Rattle.wc_read.specs.declared.operators.Space.{Space}
use Rattle.wc_read.specs.declared.operators.Space.TheVariants.{Types, Funcs, Tables, Globals}
use Rattle.wc_read.specs.Items.{item_seen}
use Rattle.std.specs.Option.{option_map, option_map_or}
use Rattle.wc_read.specs.Types.{FuncTypeValue, func_type_value}
use Rattle.wc_read.specs.Decoded.{FuncCode, GlobalCode, ItemIndex, decoded_module, func_code}
use Rattle.wc_read.specs.Entries.{no_entry, type_entry, func_entry, table_entry, global_entry, entry_in, entry_at}
use Rattle.wc_read.specs.declared.exports.Export.{Export}
use Rattle.wc_read.specs.declared.exports.ExportKind.TheVariants.{Func}

pub type_at : (a : Module) (x : ItemIndex) (o : Option FuncType) → x.0 ≡ Types → slice_get a.types.items x.1 ≡ o
    → entry_at (decoded_module a) x ≡ option_map_or type_entry (option_map func_type_value o) no_entry
unfolding decoded_module
type_at a x o s e =
    ap (λ (z : Space). entry_in (decoded_module a) z x.1) s
    ∙ ap (λ (t : Option FuncTypeValue). option_map_or type_entry t no_entry)
    (slice_get-map func_type_value a.types.items x.1 ∙ ap (option_map func_type_value) e)

pub table_at : (a : Module) (x : ItemIndex) (o : Option (Item TableType ⊤)) → x.0 ≡ Tables → slice_get a.tables.items x.1 ≡ o
    → entry_at (decoded_module a) x ≡ option_map_or table_entry (option_map table_value o) no_entry
unfolding decoded_module
table_at a x o s e =
    ap (λ (z : Space). entry_in (decoded_module a) z x.1) s
    ∙ ap (λ (t : Option TableValue). option_map_or table_entry t no_entry)
    (slice_get-map table_value a.tables.items x.1 ∙ ap (option_map table_value) e)

pub func_at : (a : Module) (x : ItemIndex) (f : Item ℕ (Bor (List ℕ))) → x.0 ≡ Funcs → slice_get a.funcs.items x.1 ≡ Some f
    → entry_at (decoded_module a) x ≡ func_entry (func_code f)
unfolding decoded_module
func_at a x f s e =
    ap (λ (z : Space). entry_in (decoded_module a) z x.1) s
    ∙ ap (λ (o : Option FuncCode). option_map_or func_entry o no_entry)
    (slice_get-map (item_seen body_in) (map func_value a.funcs.items) x.1
    ∙ (ap (option_map (item_seen body_in)) (slice_get-map func_value a.funcs.items x.1) ∙ ap (λ o. option_map (item_seen body_in) (option_map func_value o)) e))

pub no_func_at : (a : Module) (x : ItemIndex) → x.0 ≡ Funcs → slice_get a.funcs.items x.1 ≡ None → entry_at (decoded_module a) x ≡ no_entry
unfolding decoded_module
no_func_at a x s e =
    ap (λ (z : Space). entry_in (decoded_module a) z x.1) s
    ∙ ap (λ (o : Option FuncCode). option_map_or func_entry o no_entry)
    (slice_get-map (item_seen body_in) (map func_value a.funcs.items) x.1
    ∙ (ap (option_map (item_seen body_in)) (slice_get-map func_value a.funcs.items x.1) ∙ ap (λ o. option_map (item_seen body_in) (option_map func_value o)) e))

pub global_at : (a : Module) (x : ItemIndex) (g : Item GlobalType (Bor (List ℕ))) → x.0 ≡ Globals → slice_get a.globals.items x.1 ≡ Some g
    → entry_at (decoded_module a) x ≡ global_entry (item_seen init_in (global_value g))
unfolding decoded_module
global_at a x g s e =
    ap (λ (z : Space). entry_in (decoded_module a) z x.1) s
    ∙ ap (λ (o : Option GlobalCode). option_map_or global_entry o no_entry)
    (slice_get-map (item_seen init_in) (map global_value a.globals.items) x.1
    ∙ (ap (option_map (item_seen init_in)) (slice_get-map global_value a.globals.items x.1)
    ∙ ap (λ o. option_map (item_seen init_in) (option_map global_value o)) e))

pub no_global_at : (a : Module) (x : ItemIndex) → x.0 ≡ Globals → slice_get a.globals.items x.1 ≡ None → entry_at (decoded_module a) x ≡ no_entry
unfolding decoded_module
no_global_at a x s e =
    ap (λ (z : Space). entry_in (decoded_module a) z x.1) s
    ∙ ap (λ (o : Option GlobalCode). option_map_or global_entry o no_entry)
    (slice_get-map (item_seen init_in) (map global_value a.globals.items) x.1
    ∙ (ap (option_map (item_seen init_in)) (slice_get-map global_value a.globals.items x.1)
    ∙ ap (λ o. option_map (item_seen init_in) (option_map global_value o)) e))

-- a read past the end
abbrev pub no_export : Export
no_export = record { name = record { ref_ptr = (0, 0); now = [] }; kind = Func; index = 0 }
