-- How operators are passed over, by their codes.
use Rattle.std.specs.Prelude.{ℕ, ◌==◌, if◌then◌else◌, List, [], ◌∷◌, Bool, true, false, Option, Some, None}
use Rattle.wc_read.specs.Operators.{byte_form}
use Rattle.wc_read.specs.Nesting.{byte_token}
use Rattle.wc_read.specs.declared.operators.Space.{Space}
use Rattle.wc_read.specs.declared.operators.Space.TheVariants.{Types, Funcs, Tables, Memories, Globals}
use Rattle.wc_read.specs.declared.operators.IndexKind.TheVariants.{In, Elem, Data, Local, Label}
use Rattle.wc_read.specs.declared.operators.Form.{Form}
use Rattle.wc_read.specs.declared.operators.Form.TheVariants.{None as form_none, Block as form_block, Index as form_index, Indices as form_indices, Labels as form_labels, ValTypes as form_val_types, RefType as form_ref_type, MemArg as form_mem_arg, MemArgLane as form_mem_arg_lane, I32 as form_i32, I64 as form_i64, Bytes as form_bytes, Lane as form_lane, Zero as form_zero}
use Rattle.wc_read.specs.declared.nesting.Token.{Token}
use Rattle.wc_read.specs.declared.nesting.Token.TheVariants.{Plain, Block, If, Else, End}
use Rattle.wc_read.specs.declared.pass_kinds.PassKind.{PassKind}
use Rattle.wc_read.specs.declared.pass_kinds.PassKind.TheVariants.{Never, CodeOnly, Index, I32 as ConstI32, I64 as ConstI64, FourBytes, EightBytes, MemArg, Memory, Labels, Block as OpensBlock, If as OpensIf, Else as MeetsElse, End as MeetsEnd}

-- an operator that names an item: only one that names a memory may be passed over
abbrev pub item_pass_kind : Space → PassKind
item_pass_kind Types = Never
item_pass_kind Funcs = Never
item_pass_kind Tables = Never
item_pass_kind Memories = Memory
item_pass_kind Globals = Never

-- an operator that neither opens nor ends a block, by its form
abbrev pub plain_pass_kind : Option Form → PassKind
plain_pass_kind None = Never
plain_pass_kind (Some form_none) = CodeOnly
plain_pass_kind (Some form_block) = Never
plain_pass_kind (Some (form_index (In space))) = item_pass_kind space
plain_pass_kind (Some (form_index Elem)) = Never
plain_pass_kind (Some (form_index Data)) = Never
plain_pass_kind (Some (form_index Local)) = Index
plain_pass_kind (Some (form_index Label)) = Index
plain_pass_kind (Some (form_indices first second)) = Never
plain_pass_kind (Some form_labels) = Labels
plain_pass_kind (Some form_val_types) = Never
plain_pass_kind (Some form_ref_type) = Never
plain_pass_kind (Some form_mem_arg) = MemArg
plain_pass_kind (Some form_mem_arg_lane) = Never
plain_pass_kind (Some form_i32) = ConstI32
plain_pass_kind (Some form_i64) = ConstI64
plain_pass_kind (Some (form_bytes n)) = if n == 4 then FourBytes else if n == 8 then EightBytes else Never
plain_pass_kind (Some form_lane) = Never
plain_pass_kind (Some form_zero) = Never

-- an operator, by its form and what it is to nesting
abbrev pub form_pass_kind : Option Form → Token → PassKind
form_pass_kind form Plain = plain_pass_kind form
form_pass_kind form Block = OpensBlock
form_pass_kind form If = OpensIf
form_pass_kind form Else = MeetsElse
form_pass_kind form End = MeetsEnd

-- an operator, by its code: as the operator table and the rules of nesting have it
abbrev pub pass_kind : ℕ → PassKind
pass_kind code = form_pass_kind (byte_form code) (byte_token code)

-- how many bytes an operator of a kind has, where it is its code alone, or its code and a number of one byte; 0 for all
-- others
abbrev pub short_size_of : PassKind → ℕ
short_size_of Never = 0
short_size_of CodeOnly = 1
short_size_of Index = 2
short_size_of ConstI32 = 2
short_size_of ConstI64 = 2
short_size_of FourBytes = 0
short_size_of EightBytes = 0
short_size_of MemArg = 0
short_size_of Memory = 0
short_size_of Labels = 0
short_size_of OpensBlock = 0
short_size_of OpensIf = 0
short_size_of MeetsElse = 0
short_size_of MeetsEnd = 0

abbrev pub short_size : ℕ → ℕ
short_size code = short_size_of (pass_kind code)

abbrev pub is_ever : PassKind → Bool
is_ever Never = false
is_ever kind = true

-- whether bytes begin with the code of an operator that is ever passed over
abbrev pub begins_run : List ℕ → Bool
begins_run [] = false
begins_run (code ∷ bytes) = is_ever (pass_kind code)
