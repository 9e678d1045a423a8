-- The laws of the forms of contents, each proved in src/laws.rt.
use Rattle.std.specs.Prelude.{◌≡◌, ℕ, List, ◌++◌, Some}
use Rattle.site_types.specs.Content.{ContentValue, content_form}
use Rattle.byte_forms.specs.Contents.{IsContent}
use Rattle.byte_forms.specs.Fronts.{HasOneReading}
use Rattle.content_codec.specs.Contents.{content_at}

-- one form is of one content, and begins no form of another
abbrev pub ContentsHaveOneReading : Type 0
ContentsHaveOneReading = HasOneReading content_form IsContent

-- what is written of a content is read as it, and what stands after it is left
abbrev pub ContentsReadBack : Type 0
ContentsReadBack =
    (content : ContentValue) (rest : List ℕ) → IsContent content →
    content_at (content_form content ++ rest) ≡ Some (content, rest)
