-- Lists that rise by their keys: one item more in its place, and what a test keeps.
use Rattle.std.proofs.Common.{◌≡◌, ◌+◌, ℕ, Bool, true, false, cond, List, [], ◌∷◌, length, filter, refl, sym, arith}
use Rattle.std.specs.List.{AllByRecursion}
use Rattle.page_tree.specs.Rows.{comes_before}
use Rattle.page_tree.proofs.OrderLemmas.{comes_before-trans, comes_before-other}
use Rattle.tree_model.proofs.PageLemmas.{all_weaker}
use Rattle.site_model.specs.Users.{put_in}
use Rattle.site_model.specs.Sound.{KeysRise}

module _ {Item : Type 0} where
  -- what holds of an item and of all in a list holds of all with the item in its place
  pub all_put : (P : Item → Type 0) (key : Item → List ℕ) (new : Item) (items : List Item) →
      P new → AllByRecursion P items → AllByRecursion P (put_in key new items)
  all_put P key new [] one all = (one, tt)
  all_put P key new (item ∷ items) one all =
      choice (comes_before (key new) (key item)) (all_put P key new items one all.1)
    where
      choice : (t : Bool) → AllByRecursion P (put_in key new items) →
          AllByRecursion P (cond t (new ∷ item ∷ items) (item ∷ put_in key new items))
      choice true more = (one, all)
      choice false more = (all.0, more)

  -- with one more in its place there is one more
  pub length-put_in : (key : Item → List ℕ) (new : Item) (items : List Item) →
      length (put_in key new items) ≡ length items + 1
  length-put_in key new [] = refl
  length-put_in key new (item ∷ items) =
      choice (comes_before (key new) (key item)) (length-put_in key new items)
    where
      choice : (t : Bool) → length (put_in key new items) ≡ length items + 1 →
          length (cond t (new ∷ item ∷ items) (item ∷ put_in key new items))
          ≡ length (item ∷ items) + 1
      choice true more = omega arith
      choice false more = omega (arith, more)

  -- keys rise with one more in its place, where no item has its key
  pub rise_put : (key : Item → List ℕ) (new : Item) (items : List Item) →
      AllByRecursion (λ (item : Item). key item ≡ key new → ⊥) items → KeysRise key items →
      KeysRise key (put_in key new items)
  rise_put key new [] apart rise = (tt, tt)
  rise_put key new (item ∷ items) apart rise =
      choice (comes_before (key new) (key item)) refl (rise_put key new items apart.1 rise.1)
    where
      choice : (t : Bool) → comes_before (key new) (key item) ≡ t →
          KeysRise key (put_in key new items) →
          KeysRise key (cond t (new ∷ item ∷ items) (item ∷ put_in key new items))
      choice true is more = (
        (
          is,
          all_weaker (λ (later : Item). comes_before (key item) (key later) ≡ true)
              (λ (later : Item). comes_before (key new) (key later) ≡ true) items
              (λ later behind. comes_before-trans (key new) (key item) (key later) is behind) rise.0,
        ),
        rise,
      )
      choice false is more = (
        all_put (λ (later : Item). comes_before (key item) (key later) ≡ true) key new items
            (comes_before-other (key new) (key item) (λ same. apart.0 (sym same)) is) rise.0,
        more,
      )

  -- what holds of each item holds of each that a test keeps
  pub all_filter : (P : Item → Type 0) (keep : Item → Bool) (items : List Item) →
      AllByRecursion P items → AllByRecursion P (filter keep items)
  all_filter P keep [] all = tt
  all_filter P keep (item ∷ items) all = choice (keep item) (all_filter P keep items all.1)
    where
      choice : (t : Bool) → AllByRecursion P (filter keep items) →
          AllByRecursion P (cond t (item ∷ filter keep items) (filter keep items))
      choice true more = (all.0, more)
      choice false more = more

  -- the keys of the items that a test keeps rise
  pub rise_filter : (key : Item → List ℕ) (keep : Item → Bool) (items : List Item) →
      KeysRise key items → KeysRise key (filter keep items)
  rise_filter key keep [] rise = tt
  rise_filter key keep (item ∷ items) rise =
      choice (keep item) (rise_filter key keep items rise.1)
    where
      choice : (t : Bool) → KeysRise key (filter keep items) →
          KeysRise key (cond t (item ∷ filter keep items) (filter keep items))
      choice true more = (
        all_filter (λ (later : Item). comes_before (key item) (key later) ≡ true) keep items rise.0,
        more,
      )
      choice false more = more
