-- What is due of rows whose tables are in step: the pairs of the tables, and which are dropped.
use Rattle.std.proofs.Common.{◌≡◌, ℕ, Bool, true, false, not, cond, nat_eq, nat_le, List, [], ◌∷◌, ◌++◌, map, filter, Option, Some, None, Result, Ok, Err, IfOk, refl, ap, sym, ◌∙◌}
use Rattle.std.specs.List.{AllByRecursion}
use Rattle.std.specs.Option.{option_map, option_and_then}
use Rattle.site_ids.specs.declared.no_memory.NoMemory.{NoMemory}
use Rattle.page_tree.specs.Rows.{row_with, comes_before}
use Rattle.site_types.specs.declared.body.Body.{Body}
use Rattle.site_types.specs.declared.revision.Revision.{Revision}
use Rattle.site_model.specs.Publishing.{has_expired}
use Rattle.site_model.specs.Ticks.{DuePage, due_key, due_by, with_due, all_due, pages_due}
use Rattle.site_model.specs.Users.{put_in}
use Rattle.page_store.specs.Pages.{Page, EachPair, HasOtherId, ArePages}
use Rattle.time_table.specs.Table.{moment_in, due_in, IsTable}
use Rattle.time_table.specs.declared.times.Times.{Times}
use Rattle.time_table.proofs.TableLemmas.{table_kept}
use Rattle.publishing.specs.Times.{body_in, named, expiry_of, go_live_of, AreTimed}
use Rattle.publishing.specs.Ticks.{expiring_in, going_live_in, due_expiries, due_go_lives, due_of, scheduled_in, is_dropped, pages_in, published_in, dropped_in, IsSplit, IsTickPlan}
use Rattle.publishing.specs.Ticked.{changed_bodies}
use Rattle.publishing.specs.declared.due.TickPlan.{TickPlan}
use Rattle.publishing.proofs.BodyLemmas.{eq_means, eq_self}
use Rattle.publishing.proofs.DueLemmas.{pair_of, pairs_of, moment_of, IsOwn, have_moments}
use Rattle.publishing.proofs.DueTables.{same_table, come_by, due_moments}
use Rattle.publishing.proofs.TickedLemmas.{changed-append}

-- what is due of a page is its own, with the revision that it was made of
record IsMadeOf (page : ℕ) (revision : Revision) (due : DuePage) : Type 0 where
  pub page_is : due.page ≡ page
  pub revision_is : due.revision ≡ revision

-- the same, told twice
some_same : (one other : DuePage) → ◌≡◌ {A = Option DuePage} (Some one) (Some other) → one ≡ other
some_same one other is = cc

-- what is due of a revision of a page is made of both
own_due : (t page : ℕ) (moment : Option ℕ) (revision : Revision) (due : DuePage) →
    due_by t page moment revision ≡ Some due → IsMadeOf page revision due
own_due t page None revision due is = cc
own_due t page (Some moment) revision due is = by (nat_le moment t) is
  where
    by : (come : Bool) →
        cond come (Some (record { moment = moment; page = page; revision = revision })) None
        ≡ Some due → IsMadeOf page revision due
    by true same =
        let one = some_same (record { moment = moment; page = page; revision = revision }) due same in
        record {
          page_is = ap (λ (d : DuePage). d.page) (sym one);
          revision_is = ap (λ (d : DuePage). d.revision) (sym one);
        }
    by false same = cc

-- the moment of what is due is the moment that has come
due_moment : (t page : ℕ) (moment : Option ℕ) (revision : Revision) →
    option_map (λ (due : DuePage). due.moment) (due_by t page moment revision)
    ≡ option_and_then (come_by t) moment
due_moment t page None revision = refl
due_moment t page (Some moment) revision = by (nat_le moment t)
  where
    by : (come : Bool) →
        option_map (λ (due : DuePage). due.moment)
        (cond come (Some (record { moment = moment; page = page; revision = revision })) None)
        ≡ cond come (Some moment) None
    by true = refl
    by false = refl

-- so it is where a revision is chosen
chosen_moment : (t page : ℕ) (pick : Revision → Option ℕ) (chosen : Option Revision) →
    option_map (λ (due : DuePage). due.moment)
    (option_and_then (λ revision. due_by t page (pick revision) revision) chosen)
    ≡ option_and_then (come_by t) (option_and_then pick chosen)
chosen_moment t page pick None = refl
chosen_moment t page pick (Some revision) = due_moment t page (pick revision) revision

module _ (revisions : List Revision) (t : ℕ) where
  -- the moment of a live page that expires
  expiry_moment : (row : Page) →
      moment_of (expiring_in revisions t) row
      ≡ option_and_then (come_by t) (expiry_of revisions row.body)
  expiry_moment row = by row.body.live
    where
      by : (live : Bool) →
          option_map (λ (due : DuePage). due.moment)
          (cond live (option_and_then (λ revision. due_by t row.id revision.expire revision)
          (named revisions row.body.shown)) None)
          ≡ option_and_then (come_by t)
          (cond live (option_and_then (λ (revision : Revision). revision.expire)
          (named revisions row.body.shown)) None)
      by true =
          chosen_moment t row.id (λ (revision : Revision). revision.expire)
          (named revisions row.body.shown)
      by false = refl

  -- and of a scheduled revision
  go_live_moment : (row : Page) →
      moment_of (going_live_in revisions t) row
      ≡ option_and_then (come_by t) (go_live_of revisions row.body)
  go_live_moment row =
      chosen_moment t row.id (λ (revision : Revision). revision.go_live)
      (named revisions row.body.scheduled)

  -- what is due of a row is its own
  own_chosen : (page : ℕ) (pick : Revision → Option ℕ) (chosen : Option Revision) (due : DuePage) →
      option_and_then (λ revision. due_by t page (pick revision) revision) chosen ≡ Some due →
      (due.page ≡ page) × (chosen ≡ Some due.revision)
  own_chosen page pick None due is = cc
  own_chosen page pick (Some revision) due is =
      let made = own_due t page (pick revision) revision due is in
      (made.page_is, ap (λ (r : Revision). Some r) (sym made.revision_is))

  pub own_expiry : IsOwn (expiring_in revisions t)
  own_expiry row due is = by row.body.live is
    where
      by : (live : Bool) →
          cond live (option_and_then (λ revision. due_by t row.id revision.expire revision)
          (named revisions row.body.shown)) None ≡ Some due → due.page ≡ row.id
      by true same =
          (own_chosen row.id (λ (revision : Revision). revision.expire)
          (named revisions row.body.shown) due same).0
      by false same = cc

  pub own_go_live : IsOwn (going_live_in revisions t)
  own_go_live row due is =
      (own_chosen row.id (λ (revision : Revision). revision.go_live)
      (named revisions row.body.scheduled) due is).0

  -- what is due of a table in step are the pairs of what is due of the rows
  due_pairs : (test : Page → Option DuePage) (moment : Body → Option ℕ) (pages : List Page)
      (entries : List (ℕ × ℕ)) → IsOwn test →
      ((row : Page) → moment_of test row ≡ option_and_then (come_by t) (moment row.body)) →
      EachPair HasOtherId pages → IsTable entries →
      ((page : ℕ) → moment_in entries page ≡ option_and_then moment (body_in page pages)) →
      due_in t entries ≡ pairs_of (all_due test pages)
  due_pairs test moment pages entries own agree ids table timed =
      let has = have_moments test own pages ids in
      same_table (due_in t entries) (pairs_of (all_due test pages))
      (table_kept (λ entry. nat_le entry.0 t) entries table) has.table
      (λ page. due_moments t entries table page ∙ ap (option_and_then (come_by t)) (timed page)
      ∙ by (row_with page pages) ∙ sym (has.moments page))
    where
      by : (row : Option Page) →
          option_and_then (come_by t)
          (option_and_then moment (option_map (λ (one : Page). one.body) row))
          ≡ option_and_then (moment_of test) row
      by None = refl
      by (Some row) = sym (agree row)

-- each row is found by its id
pub own_rows : (rows : List Page) → EachPair HasOtherId rows →
    AllByRecursion (λ (row : Page). row_with row.id rows ≡ Some row) rows
own_rows [] ids = tt
own_rows (row ∷ rows) ids = (rw (eq_self row.id) refl, behind rows ids.0 (own_rows rows ids.1))
  where
    behind : (some : List Page) → AllByRecursion (HasOtherId row) some →
        AllByRecursion (λ (one : Page). row_with one.id rows ≡ Some one) some →
        AllByRecursion (λ (one : Page). row_with one.id (row ∷ rows) ≡ Some one) some
    behind [] others found = tt
    behind (one ∷ some) others found =
        (by (nat_eq row.id one.id) refl, behind some others.1 found.1)
      where
        by : (t : Bool) → nat_eq row.id one.id ≡ t →
            cond t (Some row) (row_with one.id rows) ≡ Some one
        by true e = absurd (others.0 (sym (eq_means row.id one.id e)))
        by false e = found.0

-- what holds of what is due and of one more holds of it with that
all_put : (P : DuePage → Type 0) (new : DuePage) (due : List DuePage) → AllByRecursion P due →
    P new → AllByRecursion P (put_in due_key new due)
all_put P new [] all one = (one, tt)
all_put P new (first ∷ due) all one =
    by (comes_before (due_key new) (due_key first)) (all_put P new due all.1 one)
  where
    by : (t : Bool) → AllByRecursion P (put_in due_key new due) →
        AllByRecursion P (cond t (new ∷ first ∷ due) (first ∷ put_in due_key new due))
    by true more = (one, all)
    by false more = (all.0, more)

module _ (pages : List Page) (revisions : List Revision) (t : ℕ) where
  -- what is due to go live is what its page has scheduled
  abbrev pub IsScheduled : DuePage → Type 0
  IsScheduled due = scheduled_in pages revisions due.page ≡ Some due.revision

  all_scheduled : (rows : List Page) →
      AllByRecursion (λ (row : Page). row_with row.id pages ≡ Some row) rows →
      AllByRecursion IsScheduled (due_go_lives rows revisions t)
  all_scheduled [] found = tt
  all_scheduled (row ∷ rows) found =
      by (going_live_in revisions t row) refl (all_scheduled rows found.1)
    where
      by : (o : Option DuePage) → going_live_in revisions t row ≡ o →
          AllByRecursion IsScheduled (due_go_lives rows revisions t) →
          AllByRecursion IsScheduled (with_due o (due_go_lives rows revisions t))
      by None is more = more
      by (Some due) is more =
          let own = own_chosen revisions t row.id (λ (revision : Revision). revision.go_live)
          (named revisions row.body.scheduled) due is in
          let page_is = own.0 in
          let here = found.0 in
          all_put IsScheduled due (due_go_lives rows revisions t) more (rw (page_is, here) own.1)

  -- so its page is dropped where it has expired
  pub all_due_scheduled : EachPair HasOtherId pages →
      AllByRecursion IsScheduled (due_go_lives pages revisions t)
  all_due_scheduled ids = all_scheduled pages (own_rows pages ids)

-- the pages of the pairs that a test keeps
same_pages : (f : ℕ × ℕ → Bool) (g : DuePage → Bool) (due : List DuePage) →
    AllByRecursion (λ (one : DuePage). f (pair_of one) ≡ g one) due →
    pages_in (filter f (pairs_of due)) ≡ pages_due (filter g due)
same_pages f g [] all = refl
same_pages f g (one ∷ due) all = rw all.0 (by (g one) (same_pages f g due all.1))
  where
    by : (t : Bool) → pages_in (filter f (pairs_of due)) ≡ pages_due (filter g due) →
        pages_in (cond t (pair_of one ∷ filter f (pairs_of due)) (filter f (pairs_of due)))
        ≡ pages_due (cond t (one ∷ filter g due) (filter g due))
    by true more = ap (λ (rest : List ℕ). one.page ∷ rest) more
    by false more = more

-- the pages of all pairs
all_pages : (due : List DuePage) → pages_in (pairs_of due) ≡ pages_due due
all_pages [] = refl
all_pages (one ∷ due) =
    ap (λ (rest : List ℕ). one.page ∷ rest) (all_pages due)

module _ (times : Times) (pages : List Page) (revisions : List Revision) (t : ℕ)
    (timed : AreTimed times pages revisions) (are : ArePages pages)
    (expiries : IsTable times.expiries.entries) (go_lives : IsTable times.go_lives.entries) where
  -- the pairs that are due of the first table are those of the live pages that expire
  expiry_pairs : due_in t times.expiries.entries ≡ pairs_of (due_expiries pages revisions t)
  expiry_pairs =
      due_pairs revisions t (expiring_in revisions t) (expiry_of revisions) pages
      times.expiries.entries (own_expiry revisions t) (expiry_moment revisions t) are.own_ids expiries
      timed.expiries

  -- and those of the second are those of the scheduled revisions whose moment has come
  go_live_pairs : due_in t times.go_lives.entries ≡ pairs_of (due_go_lives pages revisions t)
  go_live_pairs =
      due_pairs revisions t (going_live_in revisions t) (go_live_of revisions) pages
      times.go_lives.entries (own_go_live revisions t) (go_live_moment revisions t) are.own_ids
      go_lives timed.go_lives

  -- so are their pages
  pub expiry_pages : pages_in (due_in t times.expiries.entries)
      ≡ pages_due (due_expiries pages revisions t)
  expiry_pages = ap pages_in expiry_pairs ∙ all_pages (due_expiries pages revisions t)

  pub go_live_pages : pages_in (due_in t times.go_lives.entries)
      ≡ pages_due (due_go_lives pages revisions t)
  go_live_pages = ap pages_in go_live_pairs ∙ all_pages (due_go_lives pages revisions t)

  -- what is known of what its page has scheduled is known of what is due
  kept : (f : Bool → Bool) (some : List DuePage) →
      AllByRecursion (IsScheduled pages revisions t) some →
      AllByRecursion (λ (one : DuePage). f (is_dropped pages revisions t one.page)
      ≡ f (has_expired t one.revision)) some
  kept f [] all = tt
  kept f (one ∷ some) all = let here = all.0 in (rw here refl, kept f some all.1)

  -- The plan made of what is due of the tables tells what is due of the rows.
  tick_right : (unpublished : List ℕ) (due : List (ℕ × ℕ)) (plan : TickPlan) →
      unpublished ≡ pages_in (due_in t times.expiries.entries) →
      due ≡ due_in t times.go_lives.entries → IsSplit pages revisions t unpublished due plan →
      IsTickPlan (due_of pages revisions t) plan
  tick_right unpublished due plan first last split =
      let scheduled = all_due_scheduled pages revisions t are.own_ids in
      let live = last ∙ go_live_pairs in
      record {
        unpublished_are = split.unpublished_are ∙ first ∙ expiry_pages;
        published_are = split.published_are ∙ ap (published_in pages revisions t) live
            ∙ same_pages (λ entry. not (is_dropped pages revisions t entry.1))
            (λ one. not (has_expired t one.revision)) (due_go_lives pages revisions t)
            (kept (λ (b : Bool). not b) (due_go_lives pages revisions t) scheduled);
        dropped_are = split.dropped_are ∙ ap (dropped_in pages revisions t) live
            ∙ same_pages (λ entry. is_dropped pages revisions t entry.1)
            (λ one. has_expired t one.revision) (due_go_lives pages revisions t)
            (kept (λ (b : Bool). b) (due_go_lives pages revisions t) scheduled);
      }

  -- so it is where memory did not run out
  pub tick_told : (unpublished : List ℕ) (due : List (ℕ × ℕ)) (result : Result TickPlan NoMemory) →
      unpublished ≡ pages_in (due_in t times.expiries.entries) →
      due ≡ due_in t times.go_lives.entries →
      IfOk result (IsSplit pages revisions t unpublished due) →
      IfOk result (IsTickPlan (due_of pages revisions t))
  tick_told unpublished due (Ok plan) first last split =
      tick_right unpublished due plan first last split
  tick_told unpublished due (Err fault) first last split = tt

  -- the pages that a tick changes are those of both tables
  pub bodies_told : (change : Body → Body) (due later : List (ℕ × ℕ))
      (start first all : List (ℕ × Body)) → due ≡ due_in t times.expiries.entries →
      later ≡ due_in t times.go_lives.entries → start ≡ [] →
      first ≡ start ++ changed_bodies change pages (pages_in due) →
      all ≡ first ++ changed_bodies change pages (pages_in later) →
      all ≡ changed_bodies change pages
      (pages_due (due_expiries pages revisions t) ++ pages_due (due_go_lives pages revisions t))
  bodies_told change due later start first all due_is later_is start_is first_is all_is =
      let expiring = pages_due (due_expiries pages revisions t) in
      let live = pages_due (due_go_lives pages revisions t) in
      let first_pages : pages_in due ≡ expiring = ap pages_in due_is ∙ expiry_pages in
      let later_pages : pages_in later ≡ live = ap pages_in later_is ∙ go_live_pages in
      let made : first ≡ changed_bodies change pages expiring =
      first_is
      ∙ ap (λ (s : List (ℕ × Body)). s ++ changed_bodies change pages (pages_in due)) start_is
      ∙ ap (changed_bodies change pages) first_pages in
      all_is
      ∙ ap (λ (f : List (ℕ × Body)). f ++ changed_bodies change pages (pages_in later)) made
      ∙ ap (λ (l : List ℕ). changed_bodies change pages expiring ++ changed_bodies change pages l)
      later_pages
      ∙ sym (changed-append change pages expiring live)
