-- What a tick makes of the fields of a row, told by what is due of it and by its own moments.
use Rattle.std.proofs.Common.{◌≡◌, ◌||◌, ℕ, Bool, true, false, cond, nat_eq, nat_le, List, [], ◌∷◌, Option, Some, None, IsSome, refl, sym, ap, ◌∙◌, is_some}
use Rattle.std.specs.List.{AllByRecursion, list_any}
use Rattle.std.specs.Option.{option_map, option_and_then, option_map_or}
use Rattle.page_tree.specs.Rows.{row_with}
use Rattle.site_types.specs.declared.body.Body.{Body}
use Rattle.site_types.specs.declared.revision.Revision.{Revision}
use Rattle.site_model.specs.Publishing.{has_expired, published_body}
use Rattle.site_model.specs.Ticks as ticks
use Rattle.site_model.specs.Ticks.{DuePage, due_by}
use Rattle.site_model.proofs.RegularLemmas.{same_body}
use Rattle.page_store.specs.Pages.{Page}
use Rattle.publishing.specs.Times.{body_in, named, expiry_of}
use Rattle.publishing.specs.Ticks.{expiring_in, going_live_in}
use Rattle.publishing.specs.Ticked.{has_come, after_expiry, gone_live, after_go_live, ticked_body, changed_bodies}
use Rattle.publishing.specs.Bodies.{expired_body}
use Rattle.time_table.proofs.EntryLemmas.{eq_turned}
use Rattle.publishing.proofs.BodyLemmas.{eq_means}
use Rattle.flow_edits.proofs.TickRows.{fields_by}

-- what becomes of a page that stops being live
abbrev pub expire : DuePage → Body → Body
expire due body = record body { live = false; expired = true }

-- what is due by a moment that has come, and else nothing
due_choice : {Y : Type 0} (t page : ℕ) (moment : Option ℕ) (revision : Revision)
    (made : DuePage → Y) (other one : Y) →
    ((due : DuePage) → due.revision ≡ revision → made due ≡ one) →
    option_map_or made (due_by t page moment revision) other ≡ cond (has_come t moment) one other
due_choice t page None revision made other one agree = refl
due_choice t page (Some moment) revision made other one agree = by (nat_le moment t)
  where
    by : (come : Bool) →
        option_map_or made
        (cond come (Some (record { moment = moment; page = page; revision = revision })) None) other
        ≡ cond come one other
    by true = agree (record { moment = moment; page = page; revision = revision }) refl
    by false = refl

module _ (revisions : List Revision) (t : ℕ) where
  -- after its expiry, if that has come
  expired_as : (row : Page) →
      option_map_or (λ due. expire due row.body) (expiring_in revisions t row) row.body
      ≡ after_expiry revisions t row.body
  expired_as row = by row.body.live (named revisions row.body.shown)
    where
      by : (live : Bool) (shown : Option Revision) →
          option_map_or (λ due. expire due row.body)
          (cond live (option_and_then (λ revision. due_by t row.id revision.expire revision) shown) None)
          row.body
          ≡ cond (has_come t (cond live (option_and_then (λ revision. revision.expire) shown) None))
          (expired_body row.body) row.body
      by true None = refl
      by true (Some revision) =
          due_choice t row.id revision.expire revision (λ due. expire due row.body) row.body
          (expired_body row.body) (λ due is. refl)
      by false shown = refl

  -- after the go-live of what it has scheduled, if that has come
  live_as : (row : Page) (body : Body) → body.scheduled ≡ row.body.scheduled →
      option_map_or (λ due. ticks.gone_live t due body) (going_live_in revisions t row) body
      ≡ after_go_live revisions t body
  live_as row body same =
      ap (λ (one : Option ℕ). option_map_or (λ due. ticks.gone_live t due body)
      (option_and_then (λ revision. due_by t row.id revision.go_live revision) (named revisions one))
      body) (sym same)
      ∙ by (named revisions body.scheduled)
    where
      by : (scheduled : Option Revision) →
          option_map_or (λ due. ticks.gone_live t due body)
          (option_and_then (λ revision. due_by t row.id revision.go_live revision) scheduled) body
          ≡ cond (has_come t (option_and_then (λ revision. revision.go_live) scheduled))
          (gone_live t scheduled body) body
      by None = refl
      by (Some revision) =
          due_choice t row.id revision.go_live revision (λ due. ticks.gone_live t due body) body
          (gone_live t (Some revision) body)
          (λ due is. ap (λ (r : Revision).
          cond (has_expired t r) (record body { scheduled = None }) (published_body t r body)) is)

  -- an expiry leaves what a page has scheduled
  still_scheduled : (body : Body) → (after_expiry revisions t body).scheduled ≡ body.scheduled
  still_scheduled body = by (has_come t (expiry_of revisions body))
    where
      by : (come : Bool) → (cond come (expired_body body) body).scheduled ≡ body.scheduled
      by true = refl
      by false = refl

  -- What a tick makes of the fields of a row, where what is due of it is done, is what it makes of
  -- them by its own moments; where nothing is due of it, they stay.
  pub ticked_as : (row : Page) →
      option_map_or (λ due. ticks.gone_live t due
      (option_map_or (λ one. expire one row.body) (expiring_in revisions t row) row.body))
      (going_live_in revisions t row)
      (option_map_or (λ one. expire one row.body) (expiring_in revisions t row) row.body)
      ≡ cond
      (is_some (expiring_in revisions t row) || is_some (going_live_in revisions t row))
      (ticked_body revisions t row.body) row.body
  ticked_as row = by (expiring_in revisions t row) (going_live_in revisions t row) whole
    where
      whole : option_map_or (λ due. ticks.gone_live t due
          (option_map_or (λ one. expire one row.body) (expiring_in revisions t row) row.body))
          (going_live_in revisions t row)
          (option_map_or (λ one. expire one row.body) (expiring_in revisions t row) row.body)
          ≡ ticked_body revisions t row.body
      whole =
          ap (λ (body : Body).
          option_map_or (λ due. ticks.gone_live t due body) (going_live_in revisions t row) body)
          (expired_as row)
          ∙ live_as row (after_expiry revisions t row.body) (still_scheduled row.body)

      by : (first last : Option DuePage) →
          option_map_or (λ due. ticks.gone_live t due
          (option_map_or (λ one. expire one row.body) first row.body)) last
          (option_map_or (λ one. expire one row.body) first row.body)
          ≡ ticked_body revisions t row.body →
          option_map_or (λ due. ticks.gone_live t due
          (option_map_or (λ one. expire one row.body) first row.body)) last
          (option_map_or (λ one. expire one row.body) first row.body)
          ≡ cond (is_some first || is_some last) (ticked_body revisions t row.body) row.body
      by None None is = refl
      by None (Some due) is = is
      by (Some one) None is = is
      by (Some one) (Some due) is = is

module _ (change : Body → Body) (pages : List Page) where
  -- the fields of a row where these pages change
  pub changed_fields : (row : Page) → row_with row.id pages ≡ Some row → (ids : List ℕ)
      (body : Body) →
      fields_by (λ (one : ℕ × Body). one.0) (λ one old. one.1) (changed_bodies change pages ids)
      row.id body
      ≡ cond (list_any (λ id. nat_eq id row.id) ids) (change row.body) body
  changed_fields row found [] body = refl
  changed_fields row found (id ∷ ids) body =
      by (nat_eq id row.id) refl (changed_fields row found ids)
    where
      here : body_in row.id pages ≡ Some row.body
      here = ap (option_map (λ (one : Page). one.body)) found

      twice : (t : Bool) → cond t (change row.body) (change row.body) ≡ change row.body
      twice true = refl
      twice false = refl

      step : (own : Body) (t : Bool) → nat_eq row.id id ≡ t →
          fields_by (λ (one : ℕ × Body). one.0) (λ one old. one.1)
          ((id, change own) ∷ changed_bodies change pages ids) row.id body
          ≡ fields_by (λ (one : ℕ × Body). one.0) (λ one old. one.1)
          (changed_bodies change pages ids) row.id (cond t (change own) body)
      step own t is =
          ap (λ (b : Bool). fields_by (λ (one : ℕ × Body). one.0) (λ one old. one.1)
          (changed_bodies change pages ids) row.id (cond b (change own) body)) is

      there : (o : Option Body) → o ≡ Some row.body → nat_eq row.id id ≡ true →
          ((old : Body) →
          fields_by (λ (one : ℕ × Body). one.0) (λ one old. one.1) (changed_bodies change pages ids)
          row.id old
          ≡ cond (list_any (λ id. nat_eq id row.id) ids) (change row.body) old) →
          fields_by (λ (one : ℕ × Body). one.0) (λ one old. one.1)
          (option_map_or (λ own. (id, change own) ∷ changed_bodies change pages ids) o
          (changed_bodies change pages ids)) row.id body
          ≡ change row.body
      there None is same more = cc
      there (Some own) is same more =
          step own true same
          ∙ more (change own)
          ∙ ap (λ (b : Body).
          cond (list_any (λ id. nat_eq id row.id) ids) (change row.body) (change b))
          (same_body own row.body is)
          ∙ twice (list_any (λ id. nat_eq id row.id) ids)

      other : (o : Option Body) → nat_eq row.id id ≡ false →
          ((old : Body) →
          fields_by (λ (one : ℕ × Body). one.0) (λ one old. one.1) (changed_bodies change pages ids)
          row.id old
          ≡ cond (list_any (λ id. nat_eq id row.id) ids) (change row.body) old) →
          fields_by (λ (one : ℕ × Body). one.0) (λ one old. one.1)
          (option_map_or (λ own. (id, change own) ∷ changed_bodies change pages ids) o
          (changed_bodies change pages ids)) row.id body
          ≡ cond (list_any (λ id. nat_eq id row.id) ids) (change row.body) body
      other None differs more = more body
      other (Some own) differs more = step own false differs ∙ more body

      by : (t : Bool) → nat_eq id row.id ≡ t →
          ((old : Body) →
          fields_by (λ (one : ℕ × Body). one.0) (λ one old. one.1) (changed_bodies change pages ids)
          row.id old
          ≡ cond (list_any (λ id. nat_eq id row.id) ids) (change row.body) old) →
          fields_by (λ (one : ℕ × Body). one.0) (λ one old. one.1)
          (option_map_or (λ own. (id, change own) ∷ changed_bodies change pages ids)
          (body_in id pages) (changed_bodies change pages ids)) row.id body
          ≡ cond (t || list_any (λ id. nat_eq id row.id) ids) (change row.body) body
      by true e more =
          let same = eq_means id row.id e in
          let own : body_in id pages ≡ Some row.body = rw same here in
          there (body_in id pages) own (eq_turned id row.id true e) more
      by false e more = other (body_in id pages) (eq_turned id row.id false e) more

  -- each of them is there
  pub changed_there : (ids : List ℕ) →
      AllByRecursion (λ (one : ℕ × Body). IsSome (row_with one.0 pages))
      (changed_bodies change pages ids)
  changed_there [] = tt
  changed_there (id ∷ ids) = by (row_with id pages) refl (changed_there ids)
    where
      by : (o : Option Page) → row_with id pages ≡ o →
          AllByRecursion (λ (one : ℕ × Body). IsSome (row_with one.0 pages))
          (changed_bodies change pages ids) →
          AllByRecursion (λ (one : ℕ × Body). IsSome (row_with one.0 pages))
          (option_map_or (λ own. (id, change own) ∷ changed_bodies change pages ids)
          (option_map (λ (one : Page). one.body) o) (changed_bodies change pages ids))
      by None none more = more
      by (Some row) found more = (rw found refl, more)
