-- What a move keeps of each page: what is told of its id, its parent, its slug and its fields.
use Rattle.std.proofs.Common.{◌≡◌, ℕ, Bool, true, false, cond, nat_eq, List, ◌++◌, ◌∷◌, [], Option, Some, refl, sym, subst}
use Rattle.std.specs.List.{AllByRecursion}
use Rattle.site_types.specs.declared.body.Body.{Body}
use Rattle.page_tree.specs.Tree.{Forest, bare, grown, Place, First, Before, End, or_else, node_of, without, raised, placed, put_last, put_before, put, graft}
use Rattle.page_tree.specs.Rows.{rows_below, child_url}
use Rattle.tree_model.proofs.CountLemmas.{id_found}
use Rattle.page_store.specs.Pages.{Page}
use Rattle.page_store.proofs.AllLemmas.{All-append}
use Rattle.tree_rows.proofs.Lists.{all_parts}

-- P holds of each page's id, parent, slug and fields, where that of the pages at the top is q
abbrev pub AllPlaced : (ℕ → Option ℕ → List ℕ → Body → Type 0) → Option ℕ → Forest Body → Type 0
AllPlaced P q bare = Unit {0}
AllPlaced P q (grown i s slug body kids rest) =
    P i q slug body × AllPlaced P (Some i) kids × AllPlaced P q rest

module _ (P : ℕ → Option ℕ → List ℕ → Body → Type 0) where
  -- what holds of each row holds of each page
  pub placed_from_rows : (q : Option ℕ) (path url : List ℕ) (f : Forest Body) →
      AllByRecursion (λ (row : Page). P row.id row.parent row.slug row.body)
      (rows_below q path url f) →
      AllPlaced P q f
  placed_from_rows q path url bare all = tt
  placed_from_rows q path url (grown i s slug body kids rest) all =
      let parts = all_parts _ (rows_below (Some i) (path ++ s ∷ []) (child_url url slug) kids)
      (rows_below q path url rest) all.1 in (
        all.0,
        placed_from_rows (Some i) (path ++ s ∷ []) (child_url url slug) kids parts.0,
        placed_from_rows q path url rest parts.1,
      )

  -- what holds of each page holds of each row
  pub rows_from_placed : (q : Option ℕ) (path url : List ℕ) (f : Forest Body) → AllPlaced P q f →
      AllByRecursion (λ (row : Page). P row.id row.parent row.slug row.body)
      (rows_below q path url f)
  rows_from_placed q path url bare all = tt
  rows_from_placed q path url (grown i s slug body kids rest) all = (
    all.0,
    All-append _ _ _
        (rows_from_placed (Some i) (path ++ s ∷ []) (child_url url slug) kids all.1)
        (rows_from_placed q path url rest all.2),
  )

  -- one of two forests
  either_placed : (q : Option ℕ) (t : Bool) (f g : Forest Body) → AllPlaced P q f →
      AllPlaced P q g → AllPlaced P q (cond t f g)
  either_placed q true f g one other = one
  either_placed q false f g one other = other

  -- the first of two that is not bare
  or_else_placed : (q : Option ℕ) (f g : Forest Body) → AllPlaced P q f → AllPlaced P q g →
      AllPlaced P q (or_else f g)
  or_else_placed q bare g one other = other
  or_else_placed q (grown i s slug body kids rest) g one other = one

  -- a cut keeps what holds of the pages that are left
  pub placed-without : (id : ℕ) (q : Option ℕ) (f : Forest Body) → AllPlaced P q f →
      AllPlaced P q (without id f)
  placed-without id q bare all = tt
  placed-without id q (grown i s slug body kids rest) all =
      either_placed q (nat_eq i id) rest
      (grown i s slug body (without id kids) (without id rest)) all.2
      (all.0, placed-without id (Some i) kids all.1, placed-without id q rest all.2)

  -- the page that is cut out gets another parent
  pub placed-node_of : (id : ℕ) (q new : Option ℕ) (f : Forest Body) →
      ((old : Option ℕ) (slug : List ℕ) (body : Body) → P id old slug body → P id new slug body) →
      AllPlaced P q f → AllPlaced P new (node_of id f)
  placed-node_of id q new bare goes all = tt
  placed-node_of id q new (grown i s slug body kids rest) goes all =
      by (nat_eq i id) refl (or_else_placed new (node_of id kids) (node_of id rest)
      (placed-node_of id (Some i) new kids goes all.1) (placed-node_of id q new rest goes all.2))
    where
      by : (t : Bool) → nat_eq i id ≡ t →
          AllPlaced P new (or_else (node_of id kids) (node_of id rest)) →
          AllPlaced P new (cond t (grown i s slug body kids bare)
          (or_else (node_of id kids) (node_of id rest)))
      by true e others =
          let same = id_found i id e in (
            subst (λ n. P n new slug body) (sym same)
                (goes q slug body (subst (λ n. P n q slug body) same all.0)),
            all.1,
            tt,
          )
      by false e others = others

  -- siblings one step later
  placed-raised : (q : Option ℕ) (f : Forest Body) → AllPlaced P q f → AllPlaced P q (raised f)
  placed-raised q bare all = tt
  placed-raised q (grown i s slug body kids rest) all =
      (all.0, all.1, placed-raised q rest all.2)

  -- a page before others
  placed-placed : (q : Option ℕ) (at : ℕ) (node f : Forest Body) → AllPlaced P q node →
      AllPlaced P q f → AllPlaced P q (placed node at f)
  placed-placed q at bare f own all = all
  placed-placed q at (grown i s slug body kids rest) f own all = (own.0, own.1, all)

  -- a page behind others
  placed-put_last : (q : Option ℕ) (before : ℕ) (node f : Forest Body) → AllPlaced P q node →
      AllPlaced P q f → AllPlaced P q (put_last before node f)
  placed-put_last q before node bare own all = placed-placed q _ node bare own tt
  placed-put_last q before node (grown i s slug body kids rest) own all =
      (all.0, all.1, placed-put_last q s node rest own all.2)

  -- a page before a sibling
  placed-put_before : (q : Option ℕ) (sibling : ℕ) (node f : Forest Body) → AllPlaced P q node →
      AllPlaced P q f → AllPlaced P q (put_before sibling node f)
  placed-put_before q sibling node bare own all = tt
  placed-put_before q sibling node (grown i s slug body kids rest) own all =
      either_placed q (nat_eq i sibling)
      (placed node s (raised (grown i s slug body kids rest)))
      (grown i s slug body kids (put_before sibling node rest))
      (placed-placed q s node (raised (grown i s slug body kids rest)) own
      (placed-raised q (grown i s slug body kids rest) all))
      (all.0, all.1, placed-put_before q sibling node rest own all.2)

  -- a page among others
  placed-put : (q : Option ℕ) (place : Place) (node f : Forest Body) → AllPlaced P q node →
      AllPlaced P q f → AllPlaced P q (put place node f)
  placed-put q First node f own all =
      placed-placed q 1 node (raised f) own (placed-raised q f all)
  placed-put q (Before sibling) node f own all = placed-put_before q sibling node f own all
  placed-put q End node f own all = placed-put_last q 0 node f own all

  -- a graft keeps what holds of the pages
  pub placed-graft : (parent : ℕ) (place : Place) (node : Forest Body) (q : Option ℕ)
      (f : Forest Body) → AllPlaced P (Some parent) node → AllPlaced P q f →
      AllPlaced P q (graft parent place node f)
  placed-graft parent place node q bare own all = tt
  placed-graft parent place node q (grown i s slug body kids rest) own all =
      by (nat_eq i parent) refl (placed-graft parent place node (Some i) kids own all.1)
      (placed-graft parent place node q rest own all.2)
    where
      by : (t : Bool) → nat_eq i parent ≡ t →
          AllPlaced P (Some i) (graft parent place node kids) →
          AllPlaced P q (graft parent place node rest) →
          AllPlaced P q (cond t (grown i s slug body (put place node kids) rest)
          (grown i s slug body (graft parent place node kids) (graft parent place node rest)))
      by true e below behind =
          let same = id_found i parent e in
          let here = subst (λ n. AllPlaced P (Some n) node) (sym same) own in
          (all.0, placed-put (Some i) place node kids here all.1, all.2)
      by false e below behind = (all.0, below, behind)
