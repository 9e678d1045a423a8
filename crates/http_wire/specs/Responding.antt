-- The response that a value of the code stands for.
use Rattle.http_model.specs.Responses as model
use Rattle.http_wire.specs.declared.response.Response.{Response}

-- that response
abbrev pub response_of : Response → model.Response
response_of response =
    record { status = response.status; body = response.body; allow = response.allow }
