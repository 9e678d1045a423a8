-- A page that a graft puts in has found its place among its new siblings.
use Rattle.std.proofs.Common.{◌≡◌, ◌+◌, ◌≤◌, inl, inr, ℕ, Bool, true, false, cond, ◌||◌, nat_eq, refl, ap, ◌∙◌, arith}
use Rattle.page_tree.specs.Tree.{Forest, bare, grown, Place, First, Before, End, has_page, graft, kids_of, or_else, placed, put, put_before, raised}
use Rattle.tree_rows.proofs.Apart.{kids_of-lacks}
use Rattle.tree_model.proofs.CountLemmas.{one, count, none_or_some, not_first, none_has, or_bare}
use Rattle.tree_model.proofs.PlaceLemmas.{has_kid, IsAmong, graft_absent}
use Rattle.slug_urls.proofs.Counts.{lacks_from_count}

-- where two of three tests fail, the third holds
third_holds : (a b c : Bool) → a ≡ false → b ≡ false → (a || (b || c)) ≡ true → c ≡ true
third_holds false false c first second holds = holds
third_holds true b c first second holds = absurd cc
third_holds false true c first second holds = absurd cc

-- where the first and the third fail, the second holds
second_holds : (a b c : Bool) → a ≡ false → c ≡ false → (a || (b || c)) ≡ true → b ≡ true
second_holds false true c first third holds = refl
second_holds false false c first third holds = absurd cc
second_holds true b c first third holds = absurd cc

module _ {Body : Type 0} (n : ℕ) (node : Forest Body) where
  -- a page that stands among siblings where it was put has found its place there
  before_lands : (sibling : ℕ) (f : Forest Body) → count n f ≡ 0 →
      has_page n (put_before sibling node f) ≡ true → has_kid sibling f ≡ true
  before_lands sibling bare none has = absurd cc
  before_lands sibling (grown i s slug body kids rest) none has =
      by (nat_eq i sibling) has (λ more. before_lands sibling rest (omega arith) more)
    where
      by : (t : Bool) →
          has_page n (cond t (placed node s (raised (grown i s slug body kids rest)))
          (grown i s slug body kids (put_before sibling node rest))) ≡ true →
          (has_page n (put_before sibling node rest) ≡ true → has_kid sibling rest ≡ true) →
          (t || has_kid sibling rest) ≡ true
      by true there more = refl
      by false there more =
          more (third_holds (nat_eq i n) (has_page n kids)
          (has_page n (put_before sibling node rest))
          (not_first n i (count n kids + count n rest) none) (none_has n kids (omega arith)) there)

  -- at any place
  put_lands : (place : Place) (f : Forest Body) → count n f ≡ 0 →
      has_page n (put place node f) ≡ true → IsAmong place f
  put_lands First f none has = tt
  put_lands (Before sibling) f none has = before_lands sibling f none has
  put_lands End f none has = tt

  -- A page that stands in a tree where it was grafted has found its place.
  pub graft_lands : (p : ℕ) (place : Place) (f : Forest Body) → count p f ≤ 1 → count n f ≡ 0 →
      has_page n (graft p place node f) ≡ true → IsAmong place (kids_of p f)
  graft_lands p place bare once none has = absurd cc
  graft_lands p place (grown i s slug body kids rest) once none has =
      choice (nat_eq i p) once has (graft_lands p place kids) (graft_lands p place rest)
    where
      choice : (t : Bool) → one t + (count p kids + count p rest) ≤ 1 →
          has_page n (cond t (grown i s slug body (put place node kids) rest)
          (grown i s slug body (graft p place node kids) (graft p place node rest))) ≡ true →
          (count p kids ≤ 1 → count n kids ≡ 0 → has_page n (graft p place node kids) ≡ true →
          IsAmong place (kids_of p kids)) →
          (count p rest ≤ 1 → count n rest ≡ 0 → has_page n (graft p place node rest) ≡ true →
          IsAmong place (kids_of p rest)) →
          IsAmong place (cond t kids (or_else (kids_of p kids) (kids_of p rest)))
      choice true few there in_kids in_rest =
          put_lands place kids (omega arith) (second_holds (nat_eq i n)
          (has_page n (put place node kids)) (has_page n rest)
          (not_first n i (count n kids + count n rest) none) (none_has n rest (omega arith)) there)
      choice false few there in_kids in_rest = elim (none_or_some (count p kids)) [
        | inl absent ↦
            let gone = kids_of-lacks p kids (lacks_from_count p kids absent) in
            let same = ap (has_page n) (graft_absent p place node kids absent)
            ∙ none_has n kids (omega arith) in
            rw gone (in_rest (omega arith) (omega arith) (third_holds (nat_eq i n)
            (has_page n (graft p place node kids)) (has_page n (graft p place node rest))
            (not_first n i (count n kids + count n rest) none) same there))
        | inr some ↦
            let absent : count p rest ≡ 0 = omega arith in
            let gone = kids_of-lacks p rest (lacks_from_count p rest absent) in
            let same = ap (has_page n) (graft_absent p place node rest absent)
            ∙ none_has n rest (omega arith) in
            rw (gone, or_bare (kids_of p kids)) (in_kids (omega arith) (omega arith)
            (second_holds (nat_eq i n) (has_page n (graft p place node kids))
            (has_page n (graft p place node rest))
            (not_first n i (count n kids + count n rest) none) same there))
      ]
