use Rattle.std.proofs.Common.{◌∙◌, Option, String, ap, sym}
use Rattle.std.specs.List.{list_all}
use Rattle.std.specs.declared.alloc.Global.{Global}
use Rattle.wc_resolve.specs.Views.{kind_view}
use Rattle.wc_resolve.specs.declared.types.WitType.{WitType}
use Rattle.wc_world.specs.Private.Settled.{is_among, is_payload_among, refers_only_to}
use Rattle.wc_world.proofs.SettledLemmas.{cases_test, fields_test}
use Rattle.wc_world.proofs.settled.refers_only_to.Goals as goal

pub returns-in-Record : goal.returns-in-Record
returns-in-Record g c =
    c.are_fields_among.ensures
    ∙ (ap (list_all (λ (f : String Global × WitType). is_among (g.K.KnownTypes.known_of c.args.types.now) f.1)) c.deref.ensures.value
    ∙ (fields_test (is_among (g.K.KnownTypes.known_of c.args.types.now)) c.in-Record.fields.items ∙ ap (λ k. refers_only_to (g.K.KnownTypes.known_of c.args.types.now) (kind_view k)) (sym c.in-Record.is)))

pub returns-in-Variant : goal.returns-in-Variant
returns-in-Variant g c =
    c.are_cases_among.ensures
    ∙ (ap (list_all (λ (x : String Global × Option WitType). is_payload_among (g.K.KnownTypes.known_of c.args.types.now) x.1)) c.deref-in-Variant.ensures.value
    ∙ (cases_test (is_among (g.K.KnownTypes.known_of c.args.types.now)) c.in-Variant.cases.items ∙ ap (λ k. refers_only_to (g.K.KnownTypes.known_of c.args.types.now) (kind_view k)) (sym c.in-Variant.is)))
