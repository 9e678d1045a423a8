-- The aliases that a deletion leaves, each made a regular page after the other, become what each
-- would by what is kept in the world before: no one of them shows another.
use Rattle.std.proofs.Common.{◌≡◌, ◌+◌, ℕ, Bool, true, false, cond, ◌||◌, ◌&&◌, nat_eq, List, [], ◌∷◌, ◌++◌, max, Option, Some, None, refl, sym, ap, subst, ◌∙◌, ◌≤◌, append_assoc, append-nil, arith}
use Rattle.std.specs.Prelude.{IfSome}
use Rattle.std.specs.List.{AllByRecursion}
use Rattle.std.specs.Option.{option_map, option_and_then}
use Rattle.page_tree.specs.Tree.{Forest, bare, grown, HasDistinctIds, has_page, node_of}
use Rattle.site_types.specs.Content.{ContentValue}
use Rattle.site_types.specs.declared.body.Body.{Body}
use Rattle.site_types.specs.declared.revision.Revision.{Revision}
use Rattle.tree_model.specs.Shape.{AllPages}
use Rattle.tree_model.proofs.CountLemmas.{count, once, distinct_ids, same_id, id_found, none_counts, node_absent}
use Rattle.tree_model.proofs.PageLemmas.{AllPages-weaker, all_weaker}
use Rattle.site_model.specs.World.{TreePart, time_at}
use Rattle.site_model.specs.Views.{first_body, body_of, is_public, is_live}
use Rattle.site_model.specs.Create.{plain_revision}
use Rattle.site_model.specs.Bodies.{rebodied, revision_with}
use Rattle.site_model.specs.Aliases.{shown_content, detached_body, with_detached}
use Rattle.site_model.specs.Delete.{aliases_left, each_detached}
use Rattle.site_model.specs.Sound.{IsRegular, is_own}
use Rattle.site_model.proofs.AliasesLeft.{times, all_aliases, listed_once, none_listed}
use Rattle.site_model.proofs.BodyLemmas.{AllPages-rebodied, count-rebodied, there-rebodied}
use Rattle.site_model.proofs.BodySound.{IsKept}
use Rattle.site_model.proofs.DetachSound.{IsAliasPage}
use Rattle.site_model.proofs.LooseGroups.{AreLoose}
use Rattle.site_model.proofs.RegularLemmas.{regular_source}
use Rattle.site_model.proofs.SourceLemmas.{body_there, body_holds, found_alone}

-- the world with an alias made a regular page as it would be in another one, at this moment
abbrev pub detached_as : TreePart → ℕ → ℕ → ℕ → TreePart → TreePart
detached_as from moment caller page part =
    record part {
      time = moment;
      next_revision = part.next_revision + 1;
      tree = rebodied page (detached_body from.tree moment part.next_revision) part.tree;
      revisions = part.revisions ++ plain_revision part.next_revision page caller moment
          (shown_content from page) ∷ [];
    }

-- the world with each of these aliases made a regular page as it would be in another one
abbrev pub each_as : TreePart → ℕ → ℕ → List ℕ → TreePart → TreePart
each_as from moment caller [] part = part
each_as from moment caller (alias ∷ aliases) part =
    each_as from moment caller aliases (detached_as from moment caller alias part)

-- another body of a page changes nothing of another page
body_of-other : (page id : ℕ) (change : Body → Body) (f : Forest Body) → HasDistinctIds f →
    (page ≡ id → ⊥) → body_of (rebodied id change f) page ≡ body_of f page
body_of-other page id change f distinct other = choice (has_page page f) refl
  where
    after : Forest Body
    after = rebodied id change f

    choice : (t : Bool) → has_page page f ≡ t → body_of after page ≡ body_of f page
    choice true there =
        let old = body_there f page there in
        let new = body_there after page (there-rebodied id page change f there) in
        let same = body_holds (λ one own. one ≡ page → own ≡ old.body) after page new.body
        (AllPages-rebodied id change (λ one slug own. one ≡ page → own ≡ old.body) f
        (λ slug own is here. absurd (other (sym here)))
        (found_alone f page old.body distinct old.is)) new.is refl in
        new.is ∙ ap (λ (body : Body). Some body) same ∙ sym old.is
    choice false none =
        let absent = none_counts page f none in
        let counts = count-rebodied id change page f in
        let gone : count page after ≡ 0 = omega (arith, absent, counts) in
        ap (λ (g : Forest Body). first_body g) (node_absent page after gone)
        ∙ sym (ap (λ (g : Forest Body). first_body g) (node_absent page f absent))

-- changes that agree on what is kept of the page give the same
rebodied-alike : (id : ℕ) (change other : Body → Body) (f : Forest Body) →
    AllPages (λ i slug body. i ≡ id → change body ≡ other body) f →
    rebodied id change f ≡ rebodied id other f
rebodied-alike id change other bare all = refl
rebodied-alike id change other (grown i s slug body kids rest) all =
    choice (nat_eq i id) refl (rebodied-alike id change other kids all.1)
    (rebodied-alike id change other rest all.2)
  where
    choice : (t : Bool) → nat_eq i id ≡ t → rebodied id change kids ≡ rebodied id other kids →
        rebodied id change rest ≡ rebodied id other rest →
        cond t (grown i s slug (change body) kids rest)
        (grown i s slug body (rebodied id change kids) (rebodied id change rest))
        ≡ cond t (grown i s slug (other body) kids rest)
        (grown i s slug body (rebodied id other kids) (rebodied id other rest))
    choice true is below after = rw (all.0 (id_found i id is)) refl
    choice false is below after = rw (below, after) refl

-- a page's own revision is found where more are there
found-front : (revisions more : List Revision) (page id : ℕ) →
    is_own revisions page (Some id) ≡ true →
    revision_with id (revisions ++ more) ≡ revision_with id revisions
found-front [] more page id own = absurd (cc)
found-front (revision ∷ revisions) more page id own =
    choice (nat_eq revision.id id) own (found-front revisions more page id)
  where
    choice : (t : Bool) →
        ((t && nat_eq revision.page page) || is_own revisions page (Some id)) ≡ true →
        (is_own revisions page (Some id) ≡ true →
        revision_with id (revisions ++ more) ≡ revision_with id revisions) →
        cond t (Some revision) (revision_with id (revisions ++ more))
        ≡ cond t (Some revision) (revision_with id revisions)
    choice true h later = refl
    choice false h later = later h

-- A world in which the regular pages are those of a world before, with more revisions.
record Follows (from part : TreePart) : Type 0 where
  distinct : HasDistinctIds part.tree
  more : List Revision
  revisions : part.revisions ≡ from.revisions ++ more
  regular : (page : ℕ) → IsRegular from.tree page → body_of part.tree page ≡ body_of from.tree page

-- An alias of the world before that is one still, with its source there.
record IsStill (from part : TreePart) (page : ℕ) : Type 0 where
  alias : IsAliasPage from.tree page
  still : body_of part.tree page ≡ body_of from.tree page

-- What is found of the source of an alias, and that it shows a revision of its own.
record HasSource (from : TreePart) (source : ℕ) : Type 0 where
  regular : IsRegular from.tree source
  body : Body
  found : body_of from.tree source ≡ Some body
  own : is_own from.revisions source body.shown ≡ true

-- an alias of a sound world has such a source
source_of_alias : (from : TreePart) (page : ℕ) → AreLoose from →
    (alias : IsAliasPage from.tree page) → HasSource from alias.source
source_of_alias from page sound alias =
    let regular = given alias.body.source alias.is
    (body_holds (λ id own. IfSome own.source (IsRegular from.tree)) from.tree page alias.body
    sound.bodies.sources alias.found) in
    let found = body_there from.tree alias.source regular.1 in
    let kept = body_holds (λ id own. IsKept from id own) from.tree alias.source found.body
    sound.bodies.bodies found.is in
    record {
      regular = regular;
      body = found.body;
      found = found.is;
      own = (kept.regular regular.0
          (regular_source from.tree alias.source regular found.body found.is)).shown;
    }
  where
    same : (a b : ℕ) → ◌≡◌ {A = Option ℕ} (Some a) (Some b) → a ≡ b
    same a b h = cc

    given : (source : Option ℕ) → source ≡ Some alias.source →
        IfSome source (IsRegular from.tree) → IsRegular from.tree alias.source
    given None at is = absurd (cc)
    given (Some source) at is = subst (λ (id : ℕ). IsRegular from.tree id) (same source _ at) is

-- it is live as it was
live_as : (from part : TreePart) (page : ℕ) → AreLoose from → Follows from part →
    (one : IsStill from part page) →
    is_live part.tree one.alias.body ≡ is_live from.tree one.alias.body
live_as from part page sound follows one =
    let source = source_of_alias from page sound one.alias in
    rw (one.alias.is)
    (ap (λ (found : Option Body). is_public found)
    (follows.regular one.alias.source source.regular))

-- the content of a revision by its id
abbrev content_in : List Revision → Option ℕ → Option ContentValue
content_in revisions id =
    option_map (λ (revision : Revision). revision.content)
    (option_and_then (λ one. revision_with one revisions) id)

-- a page's own revision has the same content where more are there
content-front : (revisions more : List Revision) (page : ℕ) (id : Option ℕ) →
    is_own revisions page id ≡ true → content_in (revisions ++ more) id ≡ content_in revisions id
content-front revisions more page None own = absurd (cc)
content-front revisions more page (Some id) own =
    ap (λ (found : Option Revision). option_map (λ (revision : Revision). revision.content) found)
    (found-front revisions more page id own)

-- it shows what it showed
shown_as : (from part : TreePart) (page : ℕ) → AreLoose from → Follows from part →
    IsStill from part page → shown_content part page ≡ shown_content from page
shown_as from part page sound follows one =
    let source = source_of_alias from page sound one.alias in
    rw (
      one.still,
      one.alias.found,
      one.alias.is,
      follows.regular one.alias.source source.regular,
      source.found,
      follows.revisions,
      content-front from.revisions follows.more one.alias.source source.body.shown source.own,
    ) refl

-- it becomes what it would in the world before
becomes_as : (from part : TreePart) (now caller page : ℕ) → AreLoose from → Follows from part →
    IsStill from part page → time_at part now ≡ time_at from now →
    with_detached part now caller page ≡ detached_as from (time_at from now) caller page part
becomes_as from part now caller page sound follows one same =
    let moment = time_at from now in
    let live = live_as from part page sound follows one in
    let tree = rebodied-alike page (detached_body part.tree moment part.next_revision)
    (detached_body from.tree moment part.next_revision) part.tree
    (AllPages-weaker (λ id slug own. id ≡ page → own ≡ one.alias.body) _ part.tree
    (λ id slug own found here. agree own (found here) live)
    (found_alone part.tree page one.alias.body follows.distinct
    (one.still ∙ one.alias.found))) in
    rw (same, tree, shown_as from part page sound follows one) refl
  where
    agree : (own : Body) → own ≡ one.alias.body →
        is_live part.tree one.alias.body ≡ is_live from.tree one.alias.body →
        detached_body part.tree (time_at from now) part.next_revision own
        ≡ detached_body from.tree (time_at from now) part.next_revision own
    agree own is live =
        subst
        (λ (body : Body). detached_body part.tree (time_at from now) part.next_revision body
        ≡ detached_body from.tree (time_at from now) part.next_revision body) (sym is)
        (rw live refl)

-- a world follows the one before still where one of its aliases became a regular page
still_follows : (from part : TreePart) (now caller page : ℕ) → Follows from part →
    IsAliasPage from.tree page → Follows from (with_detached part now caller page)
still_follows from part now caller page follows alias =
    let change = detached_body part.tree (time_at part now) part.next_revision in
    let new = plain_revision part.next_revision page caller (time_at part now)
    (shown_content part page) in
    record {
      distinct = distinct_ids (rebodied page change part.tree) (λ j.
          let counts = count-rebodied page change j part.tree in
          let most = once part.tree follows.distinct j in omega (arith, counts, most));
      more = follows.more ++ new ∷ [];
      revisions = ap (λ (list : List Revision). list ++ new ∷ []) follows.revisions
          ∙ append_assoc from.revisions follows.more (new ∷ []);
      regular = λ one regular.
          body_of-other one page change part.tree follows.distinct
          (λ same. differs (regular_source from.tree one regular alias.body
          (rw same alias.found)))
          ∙ follows.regular one regular;
    }
  where
    differs : alias.body.source ≡ None → ⊥
    differs none = both alias.body.source none alias.is
      where
        both : (source : Option ℕ) → source ≡ None → source ≡ Some alias.source → ⊥
        both source a b = cc

-- the other aliases are still there
others_still : (from part : TreePart) (now caller page : ℕ) (aliases : List ℕ) →
    HasDistinctIds part.tree → AllByRecursion (λ (id : ℕ). id ≡ page → ⊥) aliases →
    AllByRecursion (IsStill from part) aliases →
    AllByRecursion (IsStill from (with_detached part now caller page)) aliases
others_still from part now caller page [] distinct apart all = tt
others_still from part now caller page (alias ∷ aliases) distinct apart all = (
  record {
    alias = all.0.alias;
    still = body_of-other alias page
        (detached_body part.tree (time_at part now) part.next_revision) part.tree distinct apart.0
        ∙ all.0.still;
  },
  others_still from part now caller page aliases distinct apart.1 all.1,
)

-- all of them become what they would in the world before
all_become : (from : TreePart) (now caller : ℕ) (aliases : List ℕ) (part : TreePart) →
    AreLoose from → Follows from part → time_at part now ≡ time_at from now →
    AllByRecursion (IsStill from part) aliases → ((id : ℕ) → times id aliases ≤ 1) →
    each_detached now caller aliases part
    ≡ each_as from (time_at from now) caller aliases part
all_become from now caller [] part sound follows same still distinct = refl
all_become from now caller (alias ∷ aliases) part sound follows same still distinct =
    let made = with_detached part now caller alias in
    let first = rw (same_id alias) at (distinct alias) in
    all_become from now caller aliases made sound
    (still_follows from part now caller alias follows still.0.alias)
    (later_same part.time now ∙ same)
    (others_still from part now caller alias aliases follows.distinct
    (none_listed alias aliases (omega (arith, first))) still.1)
    (λ id. let most = distinct id in omega (arith, most))
    ∙ ap (λ (one : TreePart). each_as from (time_at from now) caller aliases one)
    (becomes_as from part now caller alias sound follows still.0 same)
  where
    later_same : (before now : ℕ) → max (max before now) now ≡ max before now
    later_same before now = omega arith

-- The aliases that a deletion leaves become what each would by what is kept in the world before.
pub detached_as_before : (part : TreePart) (now caller page : ℕ) → AreLoose part →
    each_detached now caller (aliases_left part page) part
    ≡ each_as part (time_at part now) caller (aliases_left part page) part
detached_as_before part now caller page sound =
    let gone = node_of page part.tree in
    let distinct = sound.pages.distinct in
    all_become part now caller (aliases_left part page) part sound
    (record {
      distinct = distinct;
      more = [];
      revisions = sym (append-nil part.revisions);
      regular = λ one is. refl;
    }) refl
    (all_weaker (IsAliasPage part.tree) (IsStill part part) (aliases_left part page)
    (λ id alias. record { alias = alias; still = refl }) (all_aliases gone part.tree distinct))
    (λ id. listed_once gone part.tree id distinct)
