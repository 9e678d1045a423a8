-- What keeps the tables in step: pages whose fields are still to change do not count, and the
-- others name the same revisions before a change and after it.
use Rattle.std.proofs.Common.{◌≡◌, ℕ, Bool, true, false, cond, ◌||◌, nat_eq, List, [], ◌∷◌, ◌++◌, Option, Some, None, IsSome, refl, sym, ap, subst, ◌∙◌, ◌⊎◌, inl, inr}
use Rattle.std.specs.Option.{IfSome, option_map, option_and_then}
use Rattle.page_tree.specs.Rows.{rows_of, row_with}
use Rattle.site_types.specs.declared.body.Body.{Body}
use Rattle.site_types.specs.declared.revision.Revision.{Revision}
use Rattle.page_store.specs.Changes.{with_body}
use Rattle.page_store.specs.Pages.{Page}
use Rattle.time_table.specs.Table.{moment_in, with_option}
use Rattle.time_table.specs.declared.times.Times.{Times}
use Rattle.publishing.specs.Laws.{IsUntimed}
use Rattle.publishing.specs.Times.{body_in, named, expiry_of, go_live_of, AreTimed}
use Rattle.publishing.proofs.BodyLemmas.{body_in-with_body, body_there}
use Rattle.publishing.proofs.LawLemmas.{pages_change}
use Rattle.publishing.proofs.TimesLemmas.{found_option}
use Rattle.flat_model.specs.Flat.{lists_of}
use Rattle.flat_model.specs.Lists.{PartLists}
use Rattle.flat_model.specs.Made.{made, rows_made, with_bodies}
use Rattle.flat_model.specs.declared.change.Change.{Change}
use Rattle.flat_model.proofs.ListLemmas.{quiet_revisions}
use Rattle.part_commits.specs.InStep.{is_listed, TimedBut, SameMoments, StaysInStep}
use Rattle.part_commits.specs.Laws.{SoundStepsStay, NothingStays}
use Rattle.part_commits.proofs.RowBodies.{rows_keep, Comes}
use Rattle.part_commits.proofs.NameLemmas.{AllThere, names_there}
use Rattle.part_commits.proofs.StayLemmas.{left_of, same_named}

-- the tables of rows where each page keeps what is kept of it, or comes without moments
pub timed_come : (times : Times) (rows after : List Page) (revisions : List Revision) →
    AreTimed times rows revisions → ((page : ℕ) → Comes page rows after) →
    AreTimed times after revisions
timed_come times rows after revisions timed come =
    pages_change times rows after revisions timed come

module _ (moment : Body → Option ℕ) where
  -- the moments of the entries are those of the pages, but for those that are still to change
  abbrev HaveBut : List (ℕ × Body) → List (ℕ × ℕ) → List Page → Type 0
  HaveBut bodies entries pages =
      (page : ℕ) → is_listed page bodies ≡ false →
      moment_in entries page ≡ option_and_then moment (body_in page pages)

  -- one page gets its fields and their moment
  have_put : (bodies : List (ℕ × Body)) (page : ℕ) (body : Body) (entries : List (ℕ × ℕ))
      (pages : List Page) → IsSome (row_with page pages) →
      HaveBut ((page, body) ∷ bodies) entries pages →
      HaveBut bodies (with_option page (moment body) entries) (with_body page body pages)
  have_put bodies page body entries pages there have other out =
      let old = body_there page pages there in
      found_option page other (moment body) entries
      ∙ (by (nat_eq page other) refl old.0 (body_in page pages) old.1
      ∙ ap (option_and_then moment) (sym (body_in-with_body page other body pages)))
    where
      by : (t : Bool) → nat_eq page other ≡ t → (old : Body) (o : Option Body) → o ≡ Some old →
          cond t (moment body) (moment_in entries other)
          ≡ option_and_then moment
          (cond t (option_map (λ (old : Body). body) o) (body_in other pages))
      by true same old o e = rw e refl
      by false differ old o e = have other (rw differ out)

-- tables in step but for pages that are still to change, where one of them gets its fields
pub one_put : (bodies : List (ℕ × Body)) (page : ℕ) (body : Body) (times after : Times)
    (pages rows : List Page) (revisions : List Revision) → IsSome (row_with page pages) →
    after.expiries.entries
    ≡ with_option page (expiry_of revisions body) times.expiries.entries →
    after.go_lives.entries
    ≡ with_option page (go_live_of revisions body) times.go_lives.entries →
    rows ≡ with_body page body pages → TimedBut ((page, body) ∷ bodies) times pages revisions →
    TimedBut bodies after rows revisions
one_put bodies page body times after pages rows revisions there expiries go_lives is timed =
    record {
      expiries = rw (expiries, is)
          (have_put (expiry_of revisions) bodies page body times.expiries.entries pages there
          timed.expiries);
      go_lives = rw (go_lives, is)
          (have_put (go_live_of revisions) bodies page body times.go_lives.entries pages there
          timed.go_lives);
    }

-- where none is left, the tables are in step
pub none_to_change : (times : Times) (pages : List Page) (revisions : List Revision) →
    TimedBut [] times pages revisions → AreTimed times pages revisions
none_to_change times pages revisions timed =
    record {
      expiries = λ page. timed.expiries page refl;
      go_lives = λ page. timed.go_lives page refl;
    }

-- tables in step are so but for pages that are to change, with the revisions after a change
pub timed_but : (lists : PartLists) (change : Change) (times : Times) →
    AreTimed times (rows_made change.tree lists.pages) lists.revisions → StaysInStep lists change →
    TimedBut change.bodies times (rows_made change.tree lists.pages) (made change lists).revisions
timed_but lists change times timed stays = record {
  expiries = λ page out. timed.expiries page
      ∙ by (expiry_of lists.revisions) (expiry_of (made change lists).revisions)
      (λ body same. sym same.expiry) (body_in page (rows_made change.tree lists.pages))
      (stays page out);
  go_lives = λ page out. timed.go_lives page
      ∙ by (go_live_of lists.revisions) (go_live_of (made change lists).revisions)
      (λ body same. sym same.go_live) (body_in page (rows_made change.tree lists.pages))
      (stays page out);
}
  where
    by : (one other : Body → Option ℕ) →
        ((body : Body) → SameMoments lists.revisions (made change lists).revisions body →
        one body ≡ other body) →
        (o : Option Body) →
        IfSome o (SameMoments lists.revisions (made change lists).revisions) →
        option_and_then one o ≡ option_and_then other o
    by one other agree None same = refl
    by one other agree (Some body) same = agree body same

-- one of two tests fails where neither passes, and so does the other
both_fail : (t u : Bool) → (t || u) ≡ false → (t ≡ false) × (u ≡ false)
both_fail true u is = absurd (cc)
both_fail false u is = (refl, is)

-- a page that gets no other fields keeps what is kept of it
unlisted : (page : ℕ) (bodies : List (ℕ × Body)) (rows : List Page) →
    is_listed page bodies ≡ false → body_in page (with_bodies bodies rows) ≡ body_in page rows
unlisted page [] rows out = refl
unlisted page (one ∷ bodies) rows out =
    let fail = both_fail (nat_eq one.0 page) (is_listed page bodies) out in
    unlisted page bodies (with_body one.0 one.1 rows) fail.1
    ∙ (body_in-with_body one.0 page one.1 rows ∙ rw fail.0 refl)

-- a page that is neither live nor scheduled has no moments
untimed_same : (before after : List Revision) (body : Body) → IsUntimed body →
    SameMoments before after body
untimed_same before after body untimed =
    record { expiry = rw (untimed.0) refl; go_live = rw (untimed.1) refl }

-- what names the same revisions has the same moments
named_same : (before after : List Revision) (body : Body) →
    named after body.shown ≡ named before body.shown →
    named after body.scheduled ≡ named before body.scheduled → SameMoments before after body
named_same before after body shown scheduled = record {
  expiry = by body.live;
  go_live = ap (option_and_then (λ (revision : Revision). revision.go_live)) scheduled;
}
  where
    by : (t : Bool) →
        cond t (option_and_then (λ (revision : Revision). revision.expire) (named after body.shown))
        None
        ≡ cond t
        (option_and_then (λ (revision : Revision). revision.expire) (named before body.shown)) None
    by true = ap (option_and_then (λ (revision : Revision). revision.expire)) shown
    by false = refl

-- a change that leads from a sound world to another leaves the others in step
pub stays_in_step : SoundStepsStay
stays_in_step before after change sound later fits own pages revisions page out =
    by (body_in page (rows_made change.tree (rows_of before.tree))) refl
    (rows_keep page change.tree (rows_of before.tree) fits.tree own)
  where
    there_after : (body : Body) →
        body_in page (rows_made change.tree (rows_of before.tree)) ≡ Some body →
        AllThere (made change (lists_of before)).revisions body
    there_after body is =
        subst (λ (list : List Revision). AllThere list body) (sym revisions)
        (names_there after page body later
        (ap (body_in page) (sym pages)
        ∙ (unlisted page change.bodies (rows_made change.tree (rows_of before.tree)) out ∙ is)))

    kept : (body : Body) →
        body_in page (rows_made change.tree (rows_of before.tree))
        ≡ body_in page (rows_of before.tree) →
        body_in page (rows_made change.tree (rows_of before.tree)) ≡ Some body →
        SameMoments before.revisions (made change (lists_of before)).revisions body
    kept body same is =
        let one = names_there before page body sound (sym same ∙ is) in
        let other = there_after body is in
        let rise = sound.revisions.revisions_rise in
        named_same before.revisions (made change (lists_of before)).revisions body
        (same_named body.shown change.gone change.purge before.revisions change.revisions rise
        fits.revisions one.shown other.shown)
        (same_named body.scheduled change.gone change.purge before.revisions change.revisions rise
        fits.revisions one.scheduled other.scheduled)

    by : (o : Option Body) → body_in page (rows_made change.tree (rows_of before.tree)) ≡ o →
        ((body_in page (rows_made change.tree (rows_of before.tree)) ≡ None)
        ⊎ Comes page (rows_of before.tree) (rows_made change.tree (rows_of before.tree))) →
        IfSome o (SameMoments before.revisions (made change (lists_of before)).revisions)
    by None is keeps = tt
    by (Some body) is (inl none) =
        let never : ◌≡◌ {A = Option Body} None (Some body) = sym none ∙ is in absurd (cc)
    by (Some body) is (inr (inl same)) = kept body same is
    by (Some body) is (inr (inr come)) =
        untimed_same before.revisions (made change (lists_of before)).revisions body
        (subst (λ (o : Option Body). IfSome o IsUntimed) is come.1)

-- revisions of which none comes or goes leave a page its moments
quiet_stays : (revisions : List Revision) (o : Option Body) →
    IfSome o (SameMoments revisions (left_of [] None revisions ++ []))
quiet_stays revisions None = tt
quiet_stays revisions (Some body) =
    rw (quiet_revisions revisions) (record { expiry = refl; go_live = refl })

-- a change of nothing but the time and the next ids leaves each page its moments
pub nothing_stays : NothingStays
nothing_stays lists time next_page next_revision page out =
    quiet_stays lists.revisions (body_in page lists.pages)
