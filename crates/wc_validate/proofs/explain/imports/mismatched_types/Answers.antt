use Rattle.std.proofs.Common.{length, subst}
use Rattle.wc_validate.specs.Private.Imports.Contexts.{IsTypeIn}
use Rattle.wc_validate.proofs.ExplainLemmas.{mismatched_at}
use Rattle.wc_validate.proofs.SignedLemmas.{refused_function}
use Rattle.wc_validate.proofs.explain.imports.mismatched_types.Goals as goal

pub unreachable-requires : goal.unreachable-requires
unreachable-requires c =
    let f = refused_function c.args.context.now c.args.import.now c.args.wanted c.requires.refused in
    c.in_default.not-Func f.0 f.1

pub returns : goal.returns
returns c =
    mismatched_at c.args.context.now c.args.import.now c.in-Func.index _ c.args.wanted c.in_ok-found.found c.in-Func.is
    (subst (IsTypeIn (length c.args.context.now.types.now)) c.in-Func.is c.requires.typed) c.in_ok-found.ensures
