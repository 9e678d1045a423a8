-- An alias that is made keeps a world sound.
use Rattle.std.proofs.Common.{◌≡◌, ◌+◌, ◌<◌, ◌≤◌, ℕ, Bool, true, false, nat_eq, List, [], ◌∷◌, Option, Some, None, refl, sym, ◌∙◌, arith}
use Rattle.std.specs.Prelude.{IfSome}
use Rattle.std.specs.Option.{unwrap_or}
use Rattle.page_tree.specs.Tree.{bare, grown, End, has_page}
use Rattle.site_ids.specs.declared.ids.TheConstants.{LAST_PAGE_ID}
use Rattle.site_ids.specs.Moment.{IsMoment}
use Rattle.site_ids.specs.Slug.{IsSlug}
use Rattle.site_types.specs.Content.{ContentValue}
use Rattle.site_types.specs.declared.body.Body.{Body}
use Rattle.site_types.specs.declared.command.Command.TheVariants as commands
use Rattle.site_types.specs.declared.permission.Permission.TheVariants.{Add}
use Rattle.site_types.specs.declared.refusal.Refusal.TheVariants.{IdsFull}
use Rattle.site_types.specs.declared.revision.Revision.{Revision}
use Rattle.site_types.specs.declared.world_rows.Grant.{Grant}
use Rattle.tree_model.proofs.CountLemmas.{one, once}
use Rattle.tree_model.proofs.PageLemmas.{AllPages-graft, all_weaker}
use Rattle.site_model.specs.World.{TreePart}
use Rattle.site_model.specs.Rules.{ids_full}
use Rattle.site_model.specs.Needs.{needs_of, alias_needs}
use Rattle.site_model.specs.Front.{row_of, naming, front_rules}
use Rattle.site_model.specs.Aliases.{source_of, alias_body, with_alias}
use Rattle.site_model.specs.Desks.{desk_page}
use Rattle.site_model.specs.Step.{rules}
use Rattle.site_model.specs.Step as steps
use Rattle.site_model.specs.Sound.{IsRegular}
use Rattle.site_model.specs.Laws.{FitsCommand}
use Rattle.site_model.proofs.AcceptLemmas.{front_parts, page_found}
use Rattle.site_model.proofs.BodySound.{IsKept}
use Rattle.site_model.proofs.ClearLemmas.{first_clear, test_clear, limit_clear}
use Rattle.site_model.proofs.CreationSound.{not_root}
use Rattle.site_model.proofs.Deeds.{KeepsSound, below_root, plain_keeps}
use Rattle.site_model.proofs.GraftSound.{IsRoomy, MayGraft, roomy, there_given, grafted_stays, tree_grafted, regular_grafted}
use Rattle.site_model.proofs.Groups.{AreGroups}
use Rattle.site_model.proofs.NeedLemmas.{first_need}
use Rattle.site_model.proofs.RegularLemmas.{KeepRegular, kept_stay, sources_stay, found_regular}
use Rattle.site_model.proofs.SourceLemmas.{body_there, body_holds}
use Rattle.site_model.proofs.StrangerLemmas.{maker_is_user}

-- What an alias asks for.
record MayAlias (part : TreePart) (now caller source parent : ℕ) (slug : List ℕ) : Type 0 where
  moment : IsMoment now
  user : caller < part.next_user
  -- the page whose source it takes, or that is its source
  there : has_page source part.tree ≡ true
  below : source ≡ 1 → ⊥
  parent_there : has_page parent part.tree ≡ true
  fits : IsSlug slug
  left : part.next_page ≤ LAST_PAGE_ID
  room :
      IsRoomy part.tree (with_alias part now caller source parent slug).tree parent slug

-- the source of an alias of a page is a regular page
source_regular : (part : TreePart) (page : ℕ) → AreGroups part → (page ≡ 1 → ⊥) →
    has_page page part.tree ≡ true → IsRegular part.tree (source_of part page)
source_regular part page sound below there =
    let found = body_there part.tree page there in
    rw (found.is) (by found.body.source (λ none. found_regular part.tree page
    (once part.tree sound.pages.distinct page) below there
    (λ body is. none_of found.body body (sym found.is ∙ is) none))
    (body_holds (λ id own. IfSome own.source (IsRegular part.tree)) part.tree page found.body
    sound.bodies.sources found.is))
  where
    none_of : (body other : Body) → ◌≡◌ {A = Option Body} (Some body) (Some other) →
        body.source ≡ None → other.source ≡ None
    none_of body other same none = cc

    by : (source : Option ℕ) → (source ≡ None → IsRegular part.tree page) →
        IfSome source (IsRegular part.tree) → IsRegular part.tree (unwrap_or source page)
    by None own other = own refl
    by (Some one) own other = other

module _ (part : TreePart) (now caller source parent : ℕ) (slug : List ℕ)
    (sound : AreGroups part) (may : MayAlias part now caller source parent slug) where
  -- the body of the alias
  abbrev body : Body
  body = alias_body caller (source_of part source)

  -- the world with it
  abbrev after : TreePart
  after = with_alias part now caller source parent slug

  -- the alias may be put in
  may_graft : MayGraft part.tree part.next_page (part.next_page + 1) parent part.next_page 1 slug
      body bare
  may_graft =
      let left = may.left in
      record {
        there = may.parent_there;
        next_page = (omega arith, omega (arith, left));
        later = omega arith;
        new_ids = ((omega arith, omega arith), tt, tt);
        distinct = λ j. alone (nat_eq part.next_page j);
        rising = tt;
        slugs = ((λ other. may.fits), tt, tt);
        siblings = tt;
        room = may.room;
      }
    where
      alone : (t : Bool) → one t + (0 + 0) ≤ 1
      alone true = omega arith
      alone false = omega arith

  -- a page that was there is there
  stays : (id : ℕ) → has_page id part.tree ≡ true → has_page id after.tree ≡ true
  stays id there =
      grafted_stays part.tree part.next_page (part.next_page + 1) parent part.next_page 1 slug body
      bare sound.pages may_graft id there

  -- a regular page is one
  alias_keeps_regular : KeepRegular part.tree after.tree
  alias_keeps_regular =
      regular_grafted part.tree part.next_page (part.next_page + 1) parent part.next_page 1 slug
      body bare sound.pages may_graft

  -- what is kept of the alias
  alias_fits : IsKept part part.next_page body
  alias_fits = record {
    root = λ root. absurd (not_root part.tree part.next_page sound.pages root);
    regular = λ other none. absurd (cc);
    alias = record {
      no_revision = all_weaker
          (λ (revision : Revision). has_page revision.page part.tree ≡ true)
          (λ (revision : Revision). revision.page ≡ part.next_page → ⊥) part.revisions
          (λ revision there same. not_new revision.page same
          (there_given part.tree part.next_page revision.page sound.pages there))
          sound.revisions.revisions_have_pages;
      live = refl;
      expired = refl;
      shown = refl;
      latest = refl;
      scheduled = refl;
      first_published = refl;
      last_published = refl;
      locked_by = refl;
      moderation = refl;
    };
    owner = may.user;
    lock = tt;
    assigned = tt;
    moderation = tt;
    first_published = tt;
    last_published = tt;
  }
    where
      not_new : (id : ℕ) → id ≡ part.next_page → id < part.next_page → ⊥
      not_new id same lower = omega (arith, same, lower)

  -- the world with an alias is sound
  alias_is_sound : AreGroups after
  alias_is_sound =
      let moment = may.moment in
      record {
        time = omega (arith, sound.time, moment);
        pages = tree_grafted part.tree part.next_page (part.next_page + 1) parent part.next_page 1
            slug body bare sound.pages may_graft;
        revisions = record {
          next_revision = sound.revisions.next_revision;
          revision_ids = sound.revisions.revision_ids;
          revisions_rise = sound.revisions.revisions_rise;
          revisions_have_pages = all_weaker
              (λ (revision : Revision). has_page revision.page part.tree ≡ true)
              (λ (revision : Revision). has_page revision.page after.tree ≡ true) part.revisions
              (λ revision there. stays revision.page there)
              sound.revisions.revisions_have_pages;
          revisions_below_root = sound.revisions.revisions_below_root;
          authors = sound.revisions.authors;
          moments = sound.revisions.moments;
          contents = sound.revisions.contents;
          contents_fit = sound.revisions.contents_fit;
        };
        bodies = record {
          bodies = AllPages-graft (λ id text own. IsKept part id own) parent End
              (grown part.next_page 1 slug body bare bare) part.tree (alias_fits, tt, tt)
              sound.bodies.bodies;
          sources = AllPages-graft (λ id text own. IfSome own.source (IsRegular after.tree)) parent
              End (grown part.next_page 1 slug body bare bare) part.tree (
                alias_keeps_regular (source_of part source)
                    (source_regular part source sound may.below may.there),
                tt,
                tt,
              )
              (sources_stay part.tree after.tree part.tree alias_keeps_regular
              sound.bodies.sources);
        };
        people = sound.people;
        tasks = sound.tasks;
        grants = record {
          grants_name = sound.grants.grants_name;
          grants_have_pages = all_weaker
              (λ (grant : Grant). has_page grant.page part.tree ≡ true)
              (λ (grant : Grant). has_page grant.page after.tree ≡ true) part.grants
              (λ grant there. stays grant.page there) sound.grants.grants_have_pages;
          grants_rise = sound.grants.grants_rise;
          grants_fit = sound.grants.grants_fit;
        };
      }

-- an alias that no rule refuses keeps a world sound
pub alias_sound : (part : TreePart) (desk : Option ContentValue) (now caller source parent : ℕ)
    (slug : List ℕ) → AreGroups part → IsMoment now →
    FitsCommand (commands.Alias source parent slug) →
    front_rules part caller (commands.Alias source parent slug) ≡ None →
    rules part desk now caller (commands.Alias source parent slug) ≡ None →
    KeepsSound part caller (desk_page (commands.Alias source parent slug))
    (steps.effect part desk now caller (commands.Alias source parent slug))
unfolding front_rules row_of needs_of rules steps.effect desk_page
alias_sound part desk now caller source parent slug sound moment fits front own =
    let parts = front_parts part caller (naming (source ∷ parent ∷ []) (source ∷ []))
    (alias_needs part caller source parent) front in
    let first = page_found part.tree source (parent ∷ []) parts.pages in
    let second = page_found part.tree parent [] first.1 in
    let after = with_alias part now caller source parent slug in
    let clear = roomy part.tree after.tree parent slug
    (ids_full LAST_PAGE_ID part.next_page ∷ []) own in
    let ids = first_clear (ids_full LAST_PAGE_ID part.next_page) [] clear.1 in
    let may : MayAlias part now caller source parent slug = record {
      moment = moment;
      user = maker_is_user part caller parent Add sound.people
          (first_need part caller _ _ parts.may);
      there = first.0;
      below = λ same. below_root source parts.below (sym same);
      parent_there = second.0;
      fits = fits;
      left = limit_clear _ _ (test_clear _ IdsFull ids.0);
      room = clear.0;
    } in
    plain_keeps part after caller None _
    (alias_is_sound part now caller source parent slug sound may)
    (kept_stay part.tree after.tree
    (alias_keeps_regular part now caller source parent slug sound may)) refl (omega arith)
