-- The page's row is read, and its path and its URL are those at the new place.
use Rattle.std.proofs.Common.{◌≡◌, ◌≤◌, ◌+◌, ◌++◌, ℕ, List, length, drop, slice_get, Option, Some, sym, ap, subst, ◌∙◌, arith}
use Rattle.step_path.specs.Path.{BeginsWith, relabelled}
use Rattle.step_path.specs.declared.path.TheConstants.{MAX_DEPTH}
use Rattle.site_types.specs.declared.page_row.PageRow.{PageRow}
use Rattle.std.specs.Option.{option_map}
use Rattle.page_store.specs.Pages.{Page}
use Rattle.page_copies.specs.Copied.{copy_row}
use Rattle.new_pages.specs.Copying.{is_deep, moved_row}
use Rattle.new_pages.proofs.CopiedLemmas.{all_at, has_room, ids_left, none_at, row_copied, row_read, same_element}
use Rattle.new_pages.proofs.SourceLemmas.{element_at}
use Rattle.new_pages.proofs.copied_rows.copied_row.Goals as goal

pub row_at-row-requires : goal.row_at-row-requires
row_at-row-requires c =
    let within = c.requires.ready.2.within in
    let below = c.requires.below in
    omega (arith, within, below)

pub unreachable-requires : goal.unreachable-requires
unreachable-requires c =
    let read = row_read c.args.part.now.rows.pages (c.args.source.now.start + c.args.done)
    c.row_at-row.result.now c.as_slice.result.now c.len-len.ensures.pages c.row_at-row.ensures
    c.as_slice.ensures.value in
    c.in_default.ensures.path read.reads

pub with_prefix-requires : goal.with_prefix-requires
with_prefix-requires c =
    let source = c.args.source.now in
    let read = row_read c.args.part.now.rows.pages (source.start + c.args.done)
    c.row_at-row.result.now c.as_slice.result.now c.len-len.ensures.pages c.row_at-row.ensures
    c.as_slice.ensures.value in
    subst (λ (path : List ℕ). BeginsWith source.path path)
    (sym (c.in-Some.ensures.path.1 ∙ read.path_is))
    (all_at (λ (row : Page). BeginsWith source.path row.path) c.args.part.now.rows.pages
    source.start source.rest c.args.done read.row read.at c.requires.below
    c.requires.ready.2.begin)

pub unreachable-requires-in_default-with_prefix : goal.unreachable-requires-in_default-with_prefix
unreachable-requires-in_default-with_prefix c =
    let source = c.args.source.now in
    let read = row_read c.args.part.now.rows.pages (source.start + c.args.done)
    c.row_at-row.result.now c.as_slice.result.now c.len-len.ensures.pages c.row_at-row.ensures
    c.as_slice.ensures.value in
    c.in_default-with_prefix.ensures
    (subst (λ (path : List ℕ). length (relabelled source.path c.args.place.now.path path) ≤ MAX_DEPTH)
    (sym (c.in-Some.ensures.path.1 ∙ read.path_is))
    (has_room source c.args.place.now.path read.row
    (none_at (is_deep source c.args.place.now.path) c.args.part.now.rows.pages source.start
    source.rest c.args.done read.row read.at c.requires.below c.requires.ready.2.shallow)))

pub ids_at-page-requires : goal.ids_at-page-requires
ids_at-page-requires c =
    let below = c.requires.below in
    let ids = ids_left c.args.part.now c.requires.ready.0 c.requires.ready.1 c.args.source.now.rest
    (c.args.done + 1) c.requires.ready.3 (omega (arith, below)) in
    record { page = ids.0; revision = ids.1 }

pub returns : goal.returns
returns c = λ world ready left.
    let source = c.args.source.now in
    let place = c.args.place.now in
    let pages = c.args.part.now.rows.pages in
    let read = row_read pages (source.start + c.args.done) c.row_at-row.result.now
    c.as_slice.result.now c.len-len.ensures.pages c.row_at-row.ensures c.as_slice.ensures.value in
    let own = element_at (λ (row : Page). row.url) (slice_get pages (source.start + c.args.done))
    c.url_at-whole.result.now c.url_at-whole.ensures in
    let number : c.args.done + 1 ≡ 1 + c.args.done = omega arith in
    subst (λ (o : Option Page). Some (c.new_row.result, c.in_ok-url.url)
    ≡ option_map (λ (page : Page). copy_row world c.args.caller (1 + c.args.done)
    (moved_row source place page)) o) (sym read.at)
    (ap Some (row_copied world c.args.caller (1 + c.args.done) (moved_row source place read.row)
    c.ids_at-page.result.0 c.ids_at-page.result.1 c.in-Some-with_prefix.path
    c.row_at-row.result.now.slug c.in_ok-url.url c.new_body.result c.new_row.result
    (ap (λ (ids : ℕ × ℕ). ids.0) c.ids_at-page.ensures
    ∙ (ap (λ n. n + (c.args.done + 1)) ready.stands.next_page
    ∙ ap (λ n. world.next_page + n) number))
    (ap (λ (ids : ℕ × ℕ). ids.1) c.ids_at-page.ensures
    ∙ (ap (λ n. n + (c.args.done + 1)) ready.stands.next_revision
    ∙ ap (λ n. world.next_revision + n) number))
    (c.in-Some-with_prefix.ensures.1
    ∙ ap (relabelled source.path place.path) (c.in-Some.ensures.path.1 ∙ read.path_is))
    (ap (λ (r : PageRow). r.slug) read.own_is)
    (c.in_ok-url.ensures
    ∙ (ap (λ front. front ++ drop source.url_length c.as_slice-2.result.now)
    c.as_slice-front.ensures
    ∙ ap (λ whole. place.url ++ drop source.url_length whole)
    (c.as_slice-2.ensures ∙ (own.2 ∙ ap (λ (row : Page). row.url)
    (same_element own.0 read.row (sym own.1 ∙ read.at))))))
    c.new_body.ensures c.new_row.ensures))
