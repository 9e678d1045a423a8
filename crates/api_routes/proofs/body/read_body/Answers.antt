use Rattle.std.proofs.Common.{ℕ, List, ap, sym, ◌∙◌}
use Rattle.serde_json.specs.Read.{read}
use Rattle.wire_model.specs.Forms.{text_of_body}
use Rattle.api_routes.proofs.CallLemmas.{bad-body, body-read}
use Rattle.api_routes.proofs.body.read_body.Goals as goal

pub returns-in_default-clause-bad : goal.returns-in_default-clause-bad
returns-in_default-clause-bad c _ = bad-body c.args.body.now c.in_default.ensures.cases.0

pub returns-in-Ok-from_str-clause-ok : goal.returns-in-Ok-from_str-clause-ok
returns-in-Ok-from_str-clause-ok c =
    body-read c.args.body.now c.in-Ok.ensures.cases.1
    ∙ ap (λ (t : List ℕ). read (text_of_body t)) (sym c.in-Ok.ensures.cases.0)
    ∙ ap read (sym c.or_empty_object.ensures) ∙ c.in-Ok-from_str.ensures.ok
