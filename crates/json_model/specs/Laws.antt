-- The laws of the JSON form of contents, each proved in src/laws.rt.
use Rattle.std.specs.Prelude.{◌≡◌, ◌≤◌, false, Some, All}
use Rattle.serde_json.specs.Data.{Data, depth}
use Rattle.serde_json.specs.Written.{has_float}
use Rattle.site_types.specs.Content.{ContentValue, FitsLimits}
use Rattle.json_model.specs.Content.{content_of, content_data}
use Rattle.json_model.specs.Limits.{LinksToId}

-- what is written of a content within its limits, with ids of pages in its links, is read as it
abbrev pub ContentReadsBack : Type 0
ContentReadsBack =
    (content : ContentValue) → FitsLimits content → All LinksToId content.blocks →
    content_of (content_data content) ≡ Some content

-- a content has one form: whatever is read as it is what is written of it
abbrev pub ContentHasOneForm : Type 0
ContentHasOneForm =
    (value : Data) (content : ContentValue) →
    content_of value ≡ Some content → value ≡ content_data content

-- what is read as a content is within the limits, and its links are ids of pages
abbrev pub ContentKeepsLimits : Type 0
ContentKeepsLimits =
    (value : Data) (content : ContentValue) →
    content_of value ≡ Some content → FitsLimits content × All LinksToId content.blocks

-- arrays and objects nest in a content at most four deep: the content, its blocks, a block, a list
abbrev pub ContentIsShallow : Type 0
ContentIsShallow = (content : ContentValue) → depth (content_data content) ≤ 4

-- no number of a content is a float, so its text is determined
abbrev pub ContentHasNoFloat : Type 0
ContentHasNoFloat = (content : ContentValue) → has_float (content_data content) ≡ false
