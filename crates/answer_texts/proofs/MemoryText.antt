-- The texts of the response that says that memory ran out.
use Rattle.std.proofs.Common.{◌≡◌, true, false, refl}
use Rattle.std.specs.Fmt.{digits}
use Rattle.serde_json.proofs.OnLiterals.{serde_json_on_literals}
use Rattle.http_model.specs.Responses.{response_text}
use Rattle.wire_model.specs.Answers.{response_of}
use Rattle.wire_model.specs.declared.answer.Answer.TheVariants.{Memory}
use Rattle.answer_texts.specs.declared.response.TheConstants.{MEMORY_TEXT, LAST_MEMORY_TEXT}

-- the text if the connection goes on
pub going_on : MEMORY_TEXT.now ≡ response_text (response_of Memory) false
unfolding response_of response_text digits serde_json_on_literals
going_on = refl

-- the text if the connection ends after it
pub ending : LAST_MEMORY_TEXT.now ≡ response_text (response_of Memory) true
unfolding response_of response_text digits serde_json_on_literals
ending = refl
