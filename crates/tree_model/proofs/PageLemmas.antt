-- What holds of each page holds of each after a cut, a graft or both.
use Rattle.std.proofs.Common.{◌+◌, ◌≤◌, ℕ, List, [], ◌∷◌, nat_eq, arith}
use Rattle.std.specs.List.{AllByRecursion}
use Rattle.page_tree.specs.Tree.{Forest, bare, grown, Place, First, Before, End, or_else, node_of, without, raised, placed, put_last, put_before, put, graft}
use Rattle.tree_model.specs.Shape.{AllPages}
use Rattle.tree_model.proofs.CountLemmas.{same_id, count, either}
pub use Rattle.page_tree.proofs.ListLemmas.{all_weaker}

module _ {Body : Type 0} where
  -- of the first of two
  AllPages-or_else : (P : ℕ → List ℕ → Body → Type 0) (f g : Forest Body) → AllPages P f →
      AllPages P g → AllPages P (or_else f g)
  AllPages-or_else P bare g p q = q
  AllPages-or_else P (grown i step slug body kids rest) g p q = p

  -- of the page that is cut out and those below it
  pub AllPages-node_of : (P : ℕ → List ℕ → Body → Type 0) (id : ℕ) (f : Forest Body) →
      AllPages P f → AllPages P (node_of id f)
  AllPages-node_of P id bare all = tt
  AllPages-node_of P id (grown i step slug body kids rest) all =
      either (AllPages P) (nat_eq i id) _ _ (all.0, all.1, tt)
      (AllPages-or_else P _ _ (AllPages-node_of P id kids all.1) (AllPages-node_of P id rest all.2))

  -- of what a cut leaves
  pub AllPages-without : (P : ℕ → List ℕ → Body → Type 0) (id : ℕ) (f : Forest Body) →
      AllPages P f → AllPages P (without id f)
  AllPages-without P id bare all = tt
  AllPages-without P id (grown i step slug body kids rest) all =
      either (AllPages P) (nat_eq i id) _ _ all.2
      (all.0, AllPages-without P id kids all.1, AllPages-without P id rest all.2)

  -- of siblings one step later
  AllPages-raised : (P : ℕ → List ℕ → Body → Type 0) (f : Forest Body) → AllPages P f →
      AllPages P (raised f)
  AllPages-raised P bare all = tt
  AllPages-raised P (grown i step slug body kids rest) all =
      (all.0, all.1, AllPages-raised P rest all.2)

  -- of a page before its siblings
  AllPages-placed : (P : ℕ → List ℕ → Body → Type 0) (node : Forest Body) (at : ℕ)
      (rest : Forest Body) → AllPages P node → AllPages P rest → AllPages P (placed node at rest)
  AllPages-placed P bare at rest p q = q
  AllPages-placed P (grown i step slug body kids others) at rest p q = (p.0, p.1, q)

  -- of siblings with one more at the end
  AllPages-put_last : (P : ℕ → List ℕ → Body → Type 0) (before : ℕ) (node f : Forest Body) →
      AllPages P node → AllPages P f → AllPages P (put_last before node f)
  AllPages-put_last P before node bare new all = AllPages-placed P node (before + 1) bare new tt
  AllPages-put_last P before node (grown i step slug body kids rest) new all =
      (all.0, all.1, AllPages-put_last P step node rest new all.2)

  -- of siblings with one more before one of them
  AllPages-put_before : (P : ℕ → List ℕ → Body → Type 0) (sibling : ℕ) (node f : Forest Body) →
      AllPages P node → AllPages P f → AllPages P (put_before sibling node f)
  AllPages-put_before P sibling node bare new all = tt
  AllPages-put_before P sibling node (grown i step slug body kids rest) new all =
      either (AllPages P) (nat_eq i sibling) _ _
      (AllPages-placed P node step _ new
      (AllPages-raised P (grown i step slug body kids rest) all))
      (all.0, all.1, AllPages-put_before P sibling node rest new all.2)

  -- of siblings with one more
  AllPages-put : (P : ℕ → List ℕ → Body → Type 0) (place : Place) (node f : Forest Body) →
      AllPages P node → AllPages P f → AllPages P (put place node f)
  AllPages-put P First node f new all =
      AllPages-placed P node 1 _ new (AllPages-raised P f all)
  AllPages-put P (Before sibling) node f new all = AllPages-put_before P sibling node f new all
  AllPages-put P End node f new all = AllPages-put_last P 0 node f new all

  -- of pages with one more below its parent
  pub AllPages-graft : (P : ℕ → List ℕ → Body → Type 0) (parent : ℕ) (place : Place)
      (node f : Forest Body) → AllPages P node → AllPages P f →
      AllPages P (graft parent place node f)
  AllPages-graft P parent place node bare new all = tt
  AllPages-graft P parent place node (grown i step slug body kids rest) new all =
      either (AllPages P) (nat_eq i parent) _ _
      (all.0, AllPages-put P place node kids new all.1, all.2) (
        all.0,
        AllPages-graft P parent place node kids new all.1,
        AllPages-graft P parent place node rest new all.2,
      )

  -- what follows page by page holds of each page
  pub AllPages-weaker : (P Q : ℕ → List ℕ → Body → Type 0) (f : Forest Body) →
      ((id : ℕ) (slug : List ℕ) (body : Body) → P id slug body → Q id slug body) →
      AllPages P f → AllPages Q f
  AllPages-weaker P Q bare weaker all = tt
  AllPages-weaker P Q (grown i step slug body kids rest) weaker all = (
    weaker i slug body all.0,
    AllPages-weaker P Q kids weaker all.1,
    AllPages-weaker P Q rest weaker all.2,
  )

  -- what two facts of a page give holds of each page
  pub AllPages-both : (P Q R : ℕ → List ℕ → Body → Type 0) (f : Forest Body) →
      ((id : ℕ) (slug : List ℕ) (body : Body) → P id slug body → Q id slug body → R id slug body) →
      AllPages P f → AllPages Q f → AllPages R f
  AllPages-both P Q R bare both p q = tt
  AllPages-both P Q R (grown i step slug body kids rest) both p q = (
    both i slug body p.0 q.0,
    AllPages-both P Q R kids both p.1 q.1,
    AllPages-both P Q R rest both p.2 q.2,
  )

  -- what holds of each id that stands among pages holds of each page
  pub AllPages-counted : (P : ℕ → Type 0) (f : Forest Body) →
      ((j : ℕ) → 1 ≤ count j f → P j) → AllPages (λ id slug body. P id) f
  AllPages-counted P bare each = tt
  AllPages-counted P (grown i step slug body kids rest) each = (
    each i (rw (same_id i) (omega arith)),
    AllPages-counted P kids (λ j some. each j (omega (arith, some))),
    AllPages-counted P rest (λ j some. each j (omega (arith, some))),
  )
