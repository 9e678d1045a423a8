-- What keeps the tables in step without a change to them.
use Rattle.std.proofs.Common.{◌≡◌, ℕ, Bool, true, false, cond, ◌||◌, nat_eq, List, [], ◌∷◌, ◌++◌, Option, Some, None, filter, refl, ap, sym, ◌∙◌, inl, inr, ◌⊎◌}
use Rattle.std.specs.List.{AllByRecursion}
use Rattle.std.specs.Option.{option_map, option_and_then, IfSome}
use Rattle.page_tree.specs.Rows.{with_row}
use Rattle.site_types.specs.declared.body.Body.{Body}
use Rattle.site_types.specs.declared.revision.Revision.{Revision}
use Rattle.site_model.specs.Bodies.{same_number}
use Rattle.page_store.specs.Pages.{Page}
use Rattle.revision_shelf.specs.Shelf.{revision_with}
use Rattle.publishing.specs.Times.{body_in, named, expiry_of, go_live_of}
use Rattle.publishing.specs.Laws.{is_timed_by, IsUntimed, NamesSame, RevisionsChange, RevisionsCome, RevisionsGo, PagesChange, PageComes, PagesMove, TablesStart}
use Rattle.time_table.proofs.EntryLemmas.{eq_turned}
use Rattle.publishing.proofs.BodyLemmas.{body_in-with_row, eq_means, eq_self}

-- the expiry of what names the same revisions
same_expiry : (revisions after : List Revision) (body : Body) → NamesSame revisions after body →
    expiry_of after body ≡ expiry_of revisions body
same_expiry revisions after body same = by body.live
  where
    by : (t : Bool) →
        cond t (option_and_then (λ (revision : Revision). revision.expire) (named after body.shown)) None
        ≡ cond t (option_and_then (λ (revision : Revision). revision.expire) (named revisions body.shown))
        None
    by true = ap (option_and_then (λ (revision : Revision). revision.expire)) same.0
    by false = refl

-- the tables of other revisions, where each page names the same ones
pub revisions_change : RevisionsChange
revisions_change times pages revisions after timed same = record {
  expiries = λ page. timed.expiries page ∙ by (expiry_of revisions) (expiry_of after)
      (λ body names. sym (same_expiry revisions after body names)) (body_in page pages) (same page);
  go_lives = λ page. timed.go_lives page ∙ by (go_live_of revisions) (go_live_of after)
      (λ body names. ap (option_and_then (λ (revision : Revision). revision.go_live)) (sym names.1))
      (body_in page pages) (same page);
}
  where
    by : (one other : Body → Option ℕ) →
        ((body : Body) → NamesSame revisions after body → one body ≡ other body) →
        (o : Option Body) → IfSome o (NamesSame revisions after) →
        option_and_then one o ≡ option_and_then other o
    by one other agree None names = refl
    by one other agree (Some body) names = agree body names

-- the tables of other pages, where each has the same moments
pub pages_change : PagesChange
pages_change times pages after revisions timed change = record {
  expiries = λ page. timed.expiries page ∙ by (expiry_of revisions) untimed_expiry page;
  go_lives = λ page. timed.go_lives page ∙ by (go_live_of revisions) untimed_go_live page;
}
  where
    untimed_expiry : (body : Body) → IsUntimed body → expiry_of revisions body ≡ None
    untimed_expiry body untimed = rw (untimed.0) refl

    untimed_go_live : (body : Body) → IsUntimed body → go_live_of revisions body ≡ None
    untimed_go_live body untimed = rw (untimed.1) refl

    by : (moment : Body → Option ℕ) → ((body : Body) → IsUntimed body → moment body ≡ None) →
        (page : ℕ) →
        option_and_then moment (body_in page pages) ≡ option_and_then moment (body_in page after)
    by moment none page = either (change page)
      where
        new : (o : Option Body) → IfSome o IsUntimed → None ≡ option_and_then moment o
        new None untimed = refl
        new (Some body) untimed = sym (none body untimed)

        either : ((body_in page after ≡ body_in page pages)
            ⊎ ((body_in page pages ≡ None) × IfSome (body_in page after) IsUntimed)) →
            option_and_then moment (body_in page pages) ≡ option_and_then moment (body_in page after)
        either (inl same) = ap (option_and_then moment) (sym same)
        either (inr come) =
            ap (option_and_then moment) come.0 ∙ new (body_in page after) come.1

-- the tables without moments
pub tables_start : TablesStart
tables_start times pages revisions expiries go_lives untimed = record {
  expiries = λ page. rw (expiries) (by (expiry_of revisions) (λ body h. rw (h.0) refl)
      (body_in page pages) (untimed page));
  go_lives = λ page. rw (go_lives) (by (go_live_of revisions) (λ body h. rw (h.1) refl)
      (body_in page pages) (untimed page));
}
  where
    by : (moment : Body → Option ℕ) → ((body : Body) → IsUntimed body → moment body ≡ None) →
        (o : Option Body) → IfSome o IsUntimed → None ≡ option_and_then moment o
    by moment none None h = refl
    by moment none (Some body) h = sym (none body h)

-- the tables of pages that move
pub pages_move : PagesMove
pages_move times pages after revisions timed same =
    pages_change times pages after revisions timed (λ page. inl (same page))

-- the tables where a page comes
pub page_comes : PageComes
page_comes times new pages revisions timed none untimed =
    pages_change times pages (with_row new pages) revisions timed
    (λ page. by page (nat_eq new.id page) refl (body_in-with_row new page pages none))
  where
    by : (page : ℕ) (t : Bool) → nat_eq new.id page ≡ t →
        body_in page (with_row new pages) ≡ cond t (Some new.body) (body_in page pages) →
        (body_in page (with_row new pages) ≡ body_in page pages)
        ⊎ ((body_in page pages ≡ None) × IfSome (body_in page (with_row new pages)) IsUntimed)
    by page true e is =
        let one : new.id ≡ page = eq_means new.id page e in
        let absent : body_in page pages ≡ None =
        rw (← one) (ap (option_map (λ (row : Page). row.body)) none) in
        inr (absent, rw is untimed)
    by page false e is = inl is

-- a revision is found by its id also before others that do not have it
pub found_before : (id : ℕ) (revisions new : List Revision) →
    AllByRecursion (λ (revision : Revision). nat_eq revision.id id ≡ false) new →
    revision_with id (revisions ++ new) ≡ revision_with id revisions
found_before id [] [] all = refl
found_before id [] (one ∷ new) all = rw (all.0) (found_before id [] new all.1)
found_before id (revision ∷ revisions) new all =
    ap (λ (o : Option Revision). cond (nat_eq revision.id id) (Some revision) o)
    (found_before id revisions new all)

-- what names none of the new revisions names the same of all
named_before : (name : Option ℕ) (revisions new : List Revision) →
    AllByRecursion (λ (revision : Revision). same_number name (Some revision.id) ≡ false) new →
    named (revisions ++ new) name ≡ named revisions name
named_before None revisions new all = refl
named_before (Some id) revisions new all = found_before id revisions new (turned new all)
  where
    turned : (new : List Revision) →
        AllByRecursion (λ (revision : Revision). same_number (Some id) (Some revision.id) ≡ false) new →
        AllByRecursion (λ (revision : Revision). nat_eq revision.id id ≡ false) new
    turned [] all = tt
    turned (one ∷ new) all = (eq_turned id one.id false all.0, turned new all.1)

-- one of two tests fails where neither passes
first_fails : (t u : Bool) → (t || u) ≡ false → t ≡ false
first_fails true u h = cc
first_fails false u h = refl

-- and the other
second_fails : (t u : Bool) → (t || u) ≡ false → u ≡ false
second_fails true u h = cc
second_fails false u h = h

-- the tables where revisions come that no page names
pub revisions_come : RevisionsCome
revisions_come times pages revisions new timed none =
    revisions_change times pages revisions (revisions ++ new) timed
    (λ page. by page (body_in page pages) refl)
  where
    shown_none : (page : ℕ) (body : Body) → body_in page pages ≡ Some body → (new : List Revision) →
        AllByRecursion (λ (revision : Revision). (page : ℕ) →
        IfSome (body_in page pages) (λ body. is_timed_by revision.id body ≡ false)) new →
        AllByRecursion (λ (revision : Revision). same_number body.shown (Some revision.id) ≡ false) new
    shown_none page body e [] all = tt
    shown_none page body e (one ∷ new) all =
        let here = rw e at (all.0 page) in
        (first_fails _ _ here, shown_none page body e new all.1)

    scheduled_none : (page : ℕ) (body : Body) → body_in page pages ≡ Some body →
        (new : List Revision) →
        AllByRecursion (λ (revision : Revision). (page : ℕ) →
        IfSome (body_in page pages) (λ body. is_timed_by revision.id body ≡ false)) new →
        AllByRecursion (λ (revision : Revision). same_number body.scheduled (Some revision.id) ≡ false)
        new
    scheduled_none page body e [] all = tt
    scheduled_none page body e (one ∷ new) all =
        let here = rw e at (all.0 page) in
        (second_fails _ _ here, scheduled_none page body e new all.1)

    by : (page : ℕ) (o : Option Body) → body_in page pages ≡ o →
        IfSome o (NamesSame revisions (revisions ++ new))
    by page None e = tt
    by page (Some body) e = (
      named_before body.shown revisions new (shown_none page body e new none),
      named_before body.scheduled revisions new (scheduled_none page body e new none),
    )

-- a revision that stays, or is not there, is found the same
found_staying : (id : ℕ) (stays : Revision → Bool) (revisions : List Revision) →
    IfSome (revision_with id revisions) (λ revision. stays revision ≡ true) →
    revision_with id (filter stays revisions) ≡ revision_with id revisions
found_staying id stays [] staying = refl
found_staying id stays (revision ∷ revisions) staying =
    by (stays revision) (nat_eq revision.id id) refl refl staying (found_staying id stays revisions)
  where
    by : (t u : Bool) → stays revision ≡ t → nat_eq revision.id id ≡ u →
        IfSome (cond u (Some revision) (revision_with id revisions)) (λ revision.
        stays revision ≡ true) →
        (IfSome (revision_with id revisions) (λ revision. stays revision ≡ true) →
        revision_with id (filter stays revisions) ≡ revision_with id revisions) →
        revision_with id (cond t (revision ∷ filter stays revisions) (filter stays revisions))
        ≡ cond u (Some revision) (revision_with id revisions)
    by true true e f one more = rw f refl
    by true false e f one more = rw f (more one)
    by false true e f one more = cc
    by false false e f one more = more one

-- the tables where revisions go that no page names
pub revisions_go : RevisionsGo
revisions_go times pages revisions stays timed staying =
    revisions_change times pages revisions (filter stays revisions) timed
    (λ page. by page (body_in page pages) refl)
  where
    same : (name : Option ℕ) → ((id : ℕ) → name ≡ Some id →
        IfSome (revision_with id revisions) (λ revision. stays revision ≡ true)) →
        named (filter stays revisions) name ≡ named revisions name
    same None one = refl
    same (Some id) one = found_staying id stays revisions (one id refl)

    is_named : (id : ℕ) (name : Option ℕ) → name ≡ Some id → same_number name (Some id) ≡ true
    is_named id name e = rw e (eq_self id)

    second_passes : (t u : Bool) → u ≡ true → (t || u) ≡ true
    second_passes true u h = refl
    second_passes false u h = h

    by : (page : ℕ) (o : Option Body) → body_in page pages ≡ o →
        IfSome o (NamesSame revisions (filter stays revisions))
    by page None e = tt
    by page (Some body) e = (
      same body.shown (λ id names.
          let here = rw e at (staying page id) in
          here (let first = is_named id body.shown names in rw first refl)),
      same body.scheduled (λ id names.
          let here = rw e at (staying page id) in
          here (second_passes _ _ (is_named id body.scheduled names))),
    )
