use Rattle.std.proofs.Common.{refl}
use Rattle.wc_read.specs.Reading.Types.{val_type_at}
use Rattle.wc_read.specs.declared.types.ValType.TheVariants.{I32, I64, F32, F64, V128, FuncRef, ExternRef}
use Rattle.wc_read.proofs.local_runs.is_val_type.Goals as goal

pub returns-in-127 : goal.returns-in-127
unfolding val_type_at
returns-in-127 c = λ _. rw c.in-127.is record { ty = I32; names_none = refl; text = refl; reads = λ left. refl }

pub returns-in-126 : goal.returns-in-126
unfolding val_type_at
returns-in-126 c = λ _. rw c.in-126.is record { ty = I64; names_none = refl; text = refl; reads = λ left. refl }

pub returns-in-125 : goal.returns-in-125
unfolding val_type_at
returns-in-125 c = λ _. rw c.in-125.is record { ty = F32; names_none = refl; text = refl; reads = λ left. refl }

pub returns-in-124 : goal.returns-in-124
unfolding val_type_at
returns-in-124 c = λ _. rw c.in-124.is record { ty = F64; names_none = refl; text = refl; reads = λ left. refl }

pub returns-in-123 : goal.returns-in-123
unfolding val_type_at
returns-in-123 c = λ _. rw c.in-123.is record { ty = V128; names_none = refl; text = refl; reads = λ left. refl }

pub returns-in-112 : goal.returns-in-112
unfolding val_type_at
returns-in-112 c = λ _. rw c.in-112.is record { ty = FuncRef; names_none = refl; text = refl; reads = λ left. refl }

pub returns-in-111 : goal.returns-in-111
unfolding val_type_at
returns-in-111 c = λ _. rw c.in-111.is record { ty = ExternRef; names_none = refl; text = refl; reads = λ left. refl }
