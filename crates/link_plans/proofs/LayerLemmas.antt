-- What two rounds over what becomes of pages tell of links is what holds after a change.
use Rattle.std.proofs.Common.{◌≡◌, ℕ, Bool, true, false, cond, nat_eq, List, [], ◌∷◌, Option, Some, None, refl, ap, sym, ◌∙◌}
use Rattle.std.specs.Option.{IfSome, option_and_then}
use Rattle.site_types.specs.declared.body.Body.{Body}
use Rattle.site_types.specs.declared.revision.Revision.{Revision}
use Rattle.site_model.specs.Bodies.{same_number}
use Rattle.site_model.specs.Links.{links_in}
use Rattle.page_store.specs.Pages.{Page}
use Rattle.publishing.specs.Times.{body_in}
use Rattle.flat_model.specs.declared.change.Change.{Change}
use Rattle.link_index.specs.Pairs.{has_pair}
use Rattle.link_plans.specs.PageLinks.{Finds, finds_in, live_links, body_links, kept_links, page_links, AreAliases}
use Rattle.link_plans.specs.Told.{SameContents, TellsPages, AreLinksAfter, body_told, fates_of, finds_told, links_told, pages_made, revisions_made}
use Rattle.link_plans.specs.Layers.{aliases_told, pages_told}
use Rattle.link_plans.specs.declared.fates.Fate.{Fate}

-- what is told of pages that have other fields is what those fields tell
pages_are : (finds : Finds) (fates : List Fate) (page linked : ℕ) (was : Option Body) →
    pages_told finds fates page linked (kept_links finds was linked)
    ≡ kept_links finds (body_told fates page was) linked
pages_are finds [] page linked was = refl
pages_are finds (one ∷ more) page linked was =
    ap (λ (told : Bool). pages_told finds more page linked told) (by (nat_eq page one.page))
    ∙ pages_are finds more page linked (cond (nat_eq page one.page) one.body was)
  where
    by : (t : Bool) →
        cond t (kept_links finds one.body linked) (kept_links finds was linked)
        ≡ kept_links finds (cond t one.body was) linked
    by true = refl
    by false = refl

-- what is told of an alias is what its source shows
aliases_are : (finds : Finds) (pairs : List (ℕ × ℕ)) (fates : List Fate) (page linked source : ℕ)
    (was : Option Body) → ((other : ℕ) → has_pair other page pairs ≡ nat_eq source other) →
    aliases_told finds pairs fates page linked (live_links finds was linked)
    ≡ live_links finds (body_told fates source was) linked
aliases_are finds pairs [] page linked source was only = refl
aliases_are finds pairs (one ∷ more) page linked source was only =
    ap (λ (told : Bool). aliases_told finds pairs more page linked told)
    (rw (only one.page) (by (nat_eq source one.page)))
    ∙ aliases_are finds pairs more page linked source (cond (nat_eq source one.page) one.body was) only
  where
    by : (t : Bool) →
        cond t (live_links finds one.body linked) (live_links finds was linked)
        ≡ live_links finds (cond t one.body was) linked
    by true = refl
    by false = refl

-- nothing is told of a page that is no alias
others_are : (finds : Finds) (pairs : List (ℕ × ℕ)) (fates : List Fate) (page linked : ℕ)
    (was : Bool) → ((other : ℕ) → has_pair other page pairs ≡ false) →
    aliases_told finds pairs fates page linked was ≡ was
others_are finds pairs [] page linked was none = refl
others_are finds pairs (one ∷ more) page linked was none =
    rw (none one.page) (others_are finds pairs more page linked was none)

-- what a page shows that is live is the same by either
live_same : (one other : Finds) (body : Body) → SameContents one.content other.content body →
    one.content None ≡ other.content None → (linked : ℕ) →
    live_links one (Some body) linked ≡ live_links other (Some body) linked
live_same one other body same none linked = by body.live
  where
    by : (t : Bool) →
        links_in (one.content (cond t body.shown None)) linked
        ≡ links_in (other.content (cond t body.shown None)) linked
    by true = ap (λ content. links_in content linked) same.shown
    by false = ap (λ content. links_in content linked) none

-- and of a page that need not be there
live_alike : (one other : Finds) (body : Option Body) →
    IfSome body (SameContents one.content other.content) →
    one.content None ≡ other.content None → (linked : ℕ) →
    live_links one body linked ≡ live_links other body linked
live_alike one other None same none linked = ap (λ content. links_in content linked) none
live_alike one other (Some body) same none linked = live_same one other body same none linked

-- a page links to the same by either, where its own contents and its source's are the same
kept_alike : (one other : Finds) (body : Option Body) → one.content None ≡ other.content None →
    IfSome body (SameContents one.content other.content) →
    ((source : ℕ) → one.body source ≡ other.body source) →
    ((source : ℕ) → IfSome (other.body source) (SameContents one.content other.content)) →
    (linked : ℕ) → kept_links one body linked ≡ kept_links other body linked
kept_alike one other None none own sources same linked = refl
kept_alike one other (Some body) none own sources same linked = by body.source refl
  where
    by : (source : Option ℕ) → body.source ≡ source →
        body_links one body linked ≡ body_links other body linked
    by None is =
        rw is
        (rw (own.latest, live_same one other body own none linked) refl)
    by (Some source) is =
        rw is
        (rw (sources source)
        (live_alike one other (other.body source) (same source) none linked))

module _ (pages : List Page) (revisions : List Revision) (change : Change) (pairs : List (ℕ × ℕ))
    (aliases : AreAliases pairs pages) (tells : TellsPages pages revisions change) where
  -- where contents and pages are found after the change, as it tells them
  abbrev told : Finds
  told = finds_told pages revisions change.revisions (fates_of change pages)

  -- where they are found before it
  abbrev before : Finds
  before = finds_in pages revisions

  -- where they are found after it
  abbrev after : Finds
  after = finds_in (pages_made change pages) (revisions_made change revisions)

  -- the first round tells of a page with the fields that it had what holds after the change
  first_round : (page linked : ℕ) →
      aliases_told told pairs (fates_of change pages) page linked (page_links pages revisions page linked)
      ≡ kept_links told (body_in page pages) linked
  first_round page linked =
      by (body_in page pages) (tells.before page) (λ source. aliases source page)
    where
      -- a page that is no alias
      regular : (body : Body) → body.source ≡ None →
          SameContents told.content before.content body →
          ((source : ℕ) → has_pair source page pairs ≡ same_number body.source (Some source)) →
          aliases_told told pairs (fates_of change pages) page linked (kept_links before (Some body) linked)
          ≡ kept_links told (Some body) linked
      regular body is same only =
          others_are told pairs (fates_of change pages) page linked (kept_links before (Some body) linked)
          (λ source. only source ∙ rw is refl)
          ∙ rw is
          (rw (sym (same.latest), sym (live_same told before body same refl linked)) refl)

      -- an alias
      alias : (body : Body) (source : ℕ) → body.source ≡ Some source →
          ((other : ℕ) → has_pair other page pairs ≡ same_number body.source (Some other)) →
          aliases_told told pairs (fates_of change pages) page linked (kept_links before (Some body) linked)
          ≡ kept_links told (Some body) linked
      alias body source is only =
          rw is
          (ap (λ (was : Bool). aliases_told told pairs (fates_of change pages) page linked was)
          (sym (live_alike told before (body_in source pages) (tells.before source) refl linked))
          ∙ aliases_are told pairs (fates_of change pages) page linked source (body_in source pages)
          (λ other. only other ∙ rw is refl))

      -- either
      kept : (body : Body) (source : Option ℕ) → body.source ≡ source →
          SameContents told.content before.content body →
          ((other : ℕ) → has_pair other page pairs ≡ same_number body.source (Some other)) →
          aliases_told told pairs (fates_of change pages) page linked (kept_links before (Some body) linked)
          ≡ kept_links told (Some body) linked
      kept body None is same only = regular body is same only
      kept body (Some source) is same only = alias body source is only

      by : (body : Option Body) → IfSome body (SameContents told.content before.content) →
          ((source : ℕ) → has_pair source page pairs
          ≡ same_number (option_and_then (λ (one : Body). one.source) body) (Some source)) →
          aliases_told told pairs (fates_of change pages) page linked (kept_links before body linked)
          ≡ kept_links told body linked
      by None same only =
          others_are told pairs (fates_of change pages) page linked false (λ source. only source)
      by (Some body) same only = kept body body.source refl same only

  -- two rounds tell of each page what holds after the change
  pub both_rounds : (page linked : ℕ) →
      pages_told told (fates_of change pages) page linked
      (aliases_told told pairs (fates_of change pages) page linked (page_links pages revisions page linked))
      ≡ page_links (pages_made change pages) (revisions_made change revisions) page linked
  both_rounds page linked =
      ap (λ (was : Bool). pages_told told (fates_of change pages) page linked was) (first_round page linked)
      ∙ pages_are told (fates_of change pages) page linked (body_in page pages)
      ∙ ap (λ (body : Option Body). kept_links told body linked) (sym (tells.bodies page))
      ∙ kept_alike told after (body_in page (pages_made change pages)) refl (tells.after page)
      (λ source. sym (tells.bodies source)) tells.after linked

-- two rounds put in one after the other are the links after a change
pub plan_is : (pages : List Page) (revisions : List Revision) (change : Change)
    (pairs : List (ℕ × ℕ)) → AreAliases pairs pages → TellsPages pages revisions change →
    (new : List Revision) (fates : List Fate) → new ≡ change.revisions → fates ≡ fates_of change pages →
    (none some all : List (ℕ × List ℕ)) → none ≡ [] →
    ((page linked : ℕ) (was : Bool) → links_told some page linked was
    ≡ aliases_told (finds_told pages revisions new fates) pairs fates page linked
    (links_told none page linked was)) →
    ((page linked : ℕ) (was : Bool) → links_told all page linked was
    ≡ pages_told (finds_told pages revisions new fates) fates page linked
    (links_told some page linked was)) →
    AreLinksAfter pages revisions change all
plan_is pages revisions change pairs aliases tells new fates new_are fates_are none some all none_is
    some_are all_are page linked =
    let was = page_links pages revisions page linked in
    all_are page linked was
    ∙ ap (λ (told : Bool). pages_told (finds_told pages revisions new fates) fates page linked told)
    (some_are page linked was)
    ∙ rw (new_are, fates_are, none_is) (both_rounds pages revisions change pairs aliases tells page linked)
