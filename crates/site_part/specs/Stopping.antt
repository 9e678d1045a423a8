-- The last three of the first rules: what of a command's page stops its caller.
use Rattle.std.specs.Prelude.{ℕ, Bool, ◌&&◌, [], ◌∷◌, Option}
use Rattle.std.specs.Option.{is_some, option_and_then}
use Rattle.site_types.specs.declared.refusal.Refusal.{Refusal}
use Rattle.site_types.specs.declared.refusal.Refusal.TheVariants as refusals
use Rattle.site_model.specs.World.{TreePart}
use Rattle.site_model.specs.Rules.{refused_if, first_of}
use Rattle.site_model.specs.Rights.{rights_of}
use Rattle.site_model.specs.Views.{body_of, view_of}
use Rattle.site_model.specs.Front.{CommandRow, locked, aliased, in_moderation, locked_by, stage_in}

-- the fourth, the fifth and the sixth rule, by a command's row
abbrev pub stops_of : TreePart → ℕ → CommandRow → Option Refusal
stops_of part caller row =
    let view = option_and_then (view_of part) row.page in
    first_of
    (locked row.lock caller (locked_by view)
    ∷ aliased row.alias (option_and_then (body_of part.tree) row.page)
    ∷ in_moderation row.moderation (rights_of part caller) (stage_in view)
    ∷ [])

-- a page with this source may not be an alias, and is one
abbrev pub alias_rule : Bool → Option ℕ → Option Refusal
alias_rule refuses source = refused_if (refuses && is_some source) refusals.IsAlias
