-- Which pages are regular, and which stay so: an alias alone has a source.
use Rattle.std.proofs.Common.{◌≡◌, ◌≤◌, ℕ, true, false, Option, Some, None, refl, sym, ap, subst, ◌∙◌}
use Rattle.std.specs.Prelude.{IfSome}
use Rattle.page_tree.specs.Tree.{Forest, has_page}
use Rattle.site_types.specs.declared.body.Body.{Body}
use Rattle.site_types.specs.declared.refusal.Refusal.TheVariants.{IsAlias}
use Rattle.tree_model.specs.Shape.{AllPages}
use Rattle.tree_model.proofs.CountLemmas.{count, has_counts, node_found}
use Rattle.tree_model.proofs.PageLemmas.{AllPages-node_of, AllPages-weaker}
use Rattle.site_model.specs.Views.{first_body, body_of}
use Rattle.site_model.specs.Bodies.{rebodied}
use Rattle.site_model.specs.Front.{is_alias, aliased}
use Rattle.site_model.specs.Sound.{IsRegular}
use Rattle.site_model.proofs.BodyLemmas.{AllPages-found, AllPages-rebodied, there-rebodied}
use Rattle.site_model.proofs.ClearLemmas.{test_clear}

-- the regular pages that are still there afterwards are regular then
abbrev pub StayRegular : Forest Body → Forest Body → Type 0
StayRegular before after =
    (page : ℕ) → IsRegular before page → has_page page after ≡ true → IsRegular after page

-- the regular pages are there afterwards, and are regular then
abbrev pub KeepRegular : Forest Body → Forest Body → Type 0
KeepRegular before after = (page : ℕ) → IsRegular before page → IsRegular after page

-- what is kept of the page has no source
abbrev pub HasNoSource : Forest Body → ℕ → Type 0
HasNoSource tree page = (body : Body) → body_of tree page ≡ Some body → body.source ≡ None

-- each source is a regular page of this forest
abbrev pub AreSources : Forest Body → Forest Body → Type 0
AreSources pages tree = AllPages (λ id slug body. IfSome body.source (IsRegular pages)) tree

-- in the same tree they do
pub same_regular : (tree : Forest Body) → StayRegular tree tree
same_regular tree page is there = is

-- regular pages that are kept stay regular
pub kept_stay : (before after : Forest Body) → KeepRegular before after → StayRegular before after
kept_stay before after keep page is there = keep page is

-- a source stays a regular page where each does
pub source_stays : (before after : Forest Body) (source : Option ℕ) → KeepRegular before after →
    IfSome source (IsRegular before) → IfSome source (IsRegular after)
source_stays before after None keep is = tt
source_stays before after (Some source) keep is = keep source is

-- and so do all sources
pub sources_stay : (before after tree : Forest Body) → KeepRegular before after →
    AreSources before tree → AreSources after tree
sources_stay before after tree keep all =
    AllPages-weaker _ _ tree
    (λ id slug body is. source_stays before after body.source keep is) all

-- a page that is there is kept
pub kept_there : (page : ℕ) (tree : Forest Body) → has_page page tree ≡ true →
    (body : Body) × (body_of tree page ≡ Some body)
kept_there page tree there =
    let node = node_found page tree (has_counts page tree there) in
    (node.body, ap (λ (f : Forest Body). first_body f) node.is)

-- the same, found twice
pub same_body : (one other : Body) → ◌≡◌ {A = Option Body} (Some one) (Some other) → one ≡ other
same_body one other is = cc

-- what holds of each page holds of the body that is found of a page
pub found_has : (P : ℕ → Body → Type 0) (page : ℕ) (tree : Forest Body) (body : Body) →
    AllPages (λ id slug one. P id one) tree → has_page page tree ≡ true →
    body_of tree page ≡ Some body → P page body
found_has P page tree body all there found =
    let node = node_found page tree (has_counts page tree there) in
    let one = (subst (λ (f : Forest Body). AllPages (λ id slug own. P id own) f) node.is
    (AllPages-node_of (λ id slug own. P id own) page tree all)).0 in
    subst (λ (own : Body). P page own)
    (same_body node.body body (sym (ap (λ (f : Forest Body). first_body f) node.is) ∙ found)) one

-- what is found of a regular page has no source
pub regular_source : (tree : Forest Body) (page : ℕ) → IsRegular tree page →
    HasNoSource tree page
regular_source tree page regular body is =
    found_has (λ id own. id ≡ page → own.source ≡ None) page tree body regular.2 regular.1 is refl

-- a page below the root that is there, and of which nothing with a source is found, is regular
pub found_regular : (tree : Forest Body) (page : ℕ) → count page tree ≤ 1 → (page ≡ 1 → ⊥) →
    has_page page tree ≡ true → HasNoSource tree page → IsRegular tree page
found_regular tree page most below there none = (
  below,
  there,
  AllPages-weaker (λ id slug body. id ≡ page → body_of tree page ≡ Some body) _ tree
      (λ id slug body found same. none body (found same)) (AllPages-found page tree most),
)

-- a page that may not be an alias, and is not refused, has no source
pub not_alias : (tree : Forest Body) (page : ℕ) → aliased true (body_of tree page) ≡ None →
    HasNoSource tree page
not_alias tree page none body is =
    by body.source (rw is at (test_clear (is_alias (body_of tree page)) IsAlias none))
  where
    by : (source : Option ℕ) → is_alias (Some (record body { source = source })) ≡ false →
        source ≡ None
    by None h = refl
    by (Some source) h = absurd (cc)

-- regular pages are kept where the page with another body has no source if it had none
pub regular_rebodied : (page : ℕ) (change : Body → Body) (tree : Forest Body) →
    ((body : Body) → body.source ≡ None → (change body).source ≡ None) →
    KeepRegular tree (rebodied page change tree)
regular_rebodied page change tree stays one regular = (
  regular.0,
  there-rebodied page one change tree regular.1,
  AllPages-rebodied page change (λ id slug body. id ≡ one → body.source ≡ None) tree
      (λ slug body none same. stays body (none same)) regular.2,
)

-- the sources are regular pages where the page with another body has its own or none
pub sources_rebodied : (page : ℕ) (change : Body → Body) (pages tree : Forest Body) →
    ((body : Body) → IfSome body.source (IsRegular pages) →
    IfSome (change body).source (IsRegular pages)) →
    AreSources pages tree → AreSources pages (rebodied page change tree)
sources_rebodied page change pages tree stays all =
    AllPages-rebodied page change (λ id slug body. IfSome body.source (IsRegular pages)) tree
    (λ slug body is. stays body is) all
