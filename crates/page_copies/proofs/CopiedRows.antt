-- The rows and the revisions of copies, one after the other: those of the pages that are copied, with
-- the numbers of the copies.
use Rattle.std.proofs.Common.{◌≡◌, ◌+◌, ℕ, List, [], ◌∷◌, ◌++◌, length, Option, Some, refl, sym, ap, ◌∙◌, arith, length-append}
use Rattle.std.proofs.lemmas.List.{map-append, append-nil}
use Rattle.page_tree.specs.Tree.{Forest, bare, grown, ids_of}
use Rattle.page_tree.specs.Rows.{rows_below, child_url}
use Rattle.site_types.specs.Content.{ContentValue}
use Rattle.step_path.specs.Path.{path_text}
use Rattle.site_types.specs.declared.body.Body.{Body}
use Rattle.site_types.specs.declared.page_row.PageRow.{PageRow}
use Rattle.page_store.specs.Pages.{Page}
use Rattle.site_model.specs.World.{TreePart}
use Rattle.site_model.specs.Create.{fresh_body, plain_revision}
use Rattle.site_model.specs.Copies.{size_of, copies, copied_content, copy_revisions}
use Rattle.page_copies.specs.Coming.{coming_row, coming_rows}
use Rattle.page_copies.specs.Copied.{copied_pages, copy_row, copy_rows, revisions_of}

-- as many rows as pages
pub rows_count : (parent : Option ℕ) (path url : List ℕ) (f : Forest Body) →
    length (rows_below parent path url f) ≡ size_of f
rows_count parent path url bare = refl
rows_count parent path url (grown i s slug body kids rest) =
    let below = rows_below (Some i) (path ++ s ∷ []) (child_url url slug) kids in
    let after = rows_below parent path url rest in
    let rows = length-append below after in
    let ids = length-append (ids_of kids) (ids_of rest) in
    let one = rows_count (Some i) (path ++ s ∷ []) (child_url url slug) kids in
    let other = rows_count parent path url rest in
    omega (arith, rows, ids, one, other)

-- as many copied pages as pages
pub pages_count : (part : TreePart) (f : Forest Body) → length (copied_pages part f) ≡ size_of f
pages_count part bare = refl
pages_count part (grown i s slug body kids rest) =
    let pages = length-append (copied_pages part kids) (copied_pages part rest) in
    let ids = length-append (ids_of kids) (ids_of rest) in
    let one = pages_count part kids in
    let other = pages_count part rest in
    omega (arith, pages, ids, one, other)

-- the numbers of two lists go on
pub copy_rows-append : (part : TreePart) (caller number : ℕ) (xs ys : List Page) →
    copy_rows part caller number (xs ++ ys)
    ≡ copy_rows part caller number xs ++ copy_rows part caller (number + length xs) ys
copy_rows-append part caller number [] ys =
    let same : number ≡ number + 0 = omega arith in
    ap (λ n. copy_rows part caller n ys) same
copy_rows-append part caller number (x ∷ xs) ys =
    let same : (number + 1) + length xs ≡ number + length (x ∷ xs) = omega arith in
    ap (λ more. copy_row part caller number x ∷ more)
    (copy_rows-append part caller (number + 1) xs ys
    ∙ ap (λ n. copy_rows part caller (number + 1) xs ++ copy_rows part caller n ys) same)

-- so do those of revisions
pub revisions_of-append : (part : TreePart) (caller moment number : ℕ)
    (xs ys : List (ℕ × ContentValue)) →
    revisions_of part caller moment number (xs ++ ys)
    ≡ revisions_of part caller moment number xs
    ++ revisions_of part caller moment (number + length xs) ys
revisions_of-append part caller moment number [] ys =
    let same : number ≡ number + 0 = omega arith in
    ap (λ n. revisions_of part caller moment n ys) same
revisions_of-append part caller moment number (x ∷ xs) ys =
    let same : (number + 1) + length xs ≡ number + length (x ∷ xs) = omega arith in
    ap (λ more. plain_revision (part.next_revision + number)
    (part.next_page + number) caller moment x.1 ∷ more)
    (revisions_of-append part caller moment (number + 1) xs ys
    ∙ ap (λ n. revisions_of part caller moment (number + 1) xs
    ++ revisions_of part caller moment n ys) same)

-- the rows of copies come as those of the pages at their new place, with the copies' numbers
pub copies_come : (part : TreePart) (caller number : ℕ) (parent other : Option ℕ)
    (path url : List ℕ) (f : Forest Body) →
    coming_rows (rows_below parent path url (copies part caller number f))
    ≡ copy_rows part caller number (rows_below other path url f)
copies_come part caller number parent other path url bare = refl
copies_come part caller number parent other path url (grown i s slug body kids rest) =
    let own = path ++ s ∷ [] in
    let own_url = child_url url slug in
    let id = part.next_page + number in
    let below = rows_below (Some i) own own_url kids in
    let after = rows_below other path url rest in
    let new_below = rows_below (Some id) own own_url (copies part caller (number + 1) kids) in
    let new_after = rows_below parent path url
    (copies part caller (number + 1 + size_of kids) rest) in
    let count = rows_count (Some i) own own_url kids in
    let next : number + 1 + size_of kids ≡ number + 1 + length below = omega (arith, count) in
    ap (λ more. coming_row (record {
      id = id;
      parent = parent;
      path = own;
      url = own_url;
      slug = slug;
      numchild = 0;
      body = fresh_body caller (part.next_revision + number);
    }) ∷ more)
    (map-append coming_row new_below new_after
    ∙ (ap (λ xs. xs ++ coming_rows new_after)
    (copies_come part caller (number + 1) (Some id) (Some i) own own_url kids)
    ∙ (ap (λ ys. copy_rows part caller (number + 1) below ++ ys)
    (copies_come part caller (number + 1 + size_of kids) parent other path url rest
    ∙ ap (λ n. copy_rows part caller n after) next)
    ∙ sym (copy_rows-append part caller (number + 1) below after))))

-- and their revisions are those of the contents that they get
pub revisions_numbered : (part : TreePart) (caller moment number : ℕ) (f : Forest Body) →
    copy_revisions part caller moment number f
    ≡ revisions_of part caller moment number (copied_pages part f)
revisions_numbered part caller moment number bare = refl
revisions_numbered part caller moment number (grown i s slug body kids rest) =
    let below = copied_pages part kids in
    let after = copied_pages part rest in
    let count = pages_count part kids in
    let next : number + 1 + size_of kids ≡ number + 1 + length below = omega (arith, count) in
    ap (λ more. plain_revision (part.next_revision + number)
    (part.next_page + number) caller moment (copied_content part body) ∷ more)
    (ap (λ xs. xs ++ copy_revisions part caller moment (number + 1 + size_of kids) rest)
    (revisions_numbered part caller moment (number + 1) kids)
    ∙ (ap (λ ys. revisions_of part caller moment (number + 1) below ++ ys)
    (revisions_numbered part caller moment (number + 1 + size_of kids) rest
    ∙ ap (λ n. revisions_of part caller moment n after) next)
    ∙ sym (revisions_of-append part caller moment (number + 1) below after)))

-- The rows that come with a copy, whose top has this slug and this step: its own, and those of the
-- pages below it.
pub copy_listed : (part : TreePart) (caller parent page at : ℕ) (path url new : List ℕ)
    (kids : Forest Body) →
    coming_rows (rows_below (Some parent) path url
    (grown (part.next_page + 0) at new (fresh_body caller (part.next_revision + 0))
    (copies part caller (0 + 1) kids) bare))
    ≡ (
      record {
        id = part.next_page + 0;
        path = path_text (path ++ at ∷ []);
        depth = length (path ++ at ∷ []);
        numchild = 0;
        slug = new;
        body = fresh_body caller (part.next_revision + 0);
      },
      child_url url new,
    )
    ∷ copy_rows part caller (0 + 1)
    (rows_below (Some page) (path ++ at ∷ []) (child_url url new) kids)
copy_listed part caller parent page at path url new kids =
    let own = path ++ at ∷ [] in
    let own_url = child_url url new in
    let id = part.next_page + 0 in
    let first : PageRow × List ℕ = (
      record {
        id = id;
        path = path_text own;
        depth = length own;
        numchild = 0;
        slug = new;
        body = fresh_body caller (part.next_revision + 0);
      },
      own_url,
    ) in
    ap (λ (more : List (PageRow × List ℕ)). first ∷ more)
    (ap coming_rows (append-nil (rows_below (Some id) own own_url (copies part caller (0 + 1) kids)))
    ∙ copies_come part caller (0 + 1) (Some id) (Some page) own own_url kids)
