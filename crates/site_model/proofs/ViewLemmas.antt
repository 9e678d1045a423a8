-- What is seen of a page, from the walk to it, is what is kept of it.
use Rattle.std.proofs.Common.{◌≡◌, ℕ, Bool, true, false, cond, nat_eq, List, [], ◌∷◌, Option, Some, None, refl, ◌∙◌}
use Rattle.std.specs.Option.{option_map}
use Rattle.page_tree.specs.Tree.{Forest, bare, grown, node_of, or_else}
use Rattle.page_tree.specs.Walk.{Visit, walk, first_walk, extended, kid_count}
use Rattle.site_types.specs.declared.body.Body.{Body}
use Rattle.site_model.specs.World.{TreePart}
use Rattle.site_model.specs.Rights.{above_of}
use Rattle.site_model.specs.Views.{View, stage_of, last_visit, first_body, body_of, view_of}

-- what is kept of the last page of a walk
abbrev walked : List (Visit Body) → Option Body
walked visits = option_map (λ visit. visit.body) (last_visit visits)

-- where two walks end as two trees begin, so do the first of both
first_of_both : (here : Visit Body) (kids rest : List (Visit Body)) (below after : Forest Body) →
    walked kids ≡ first_body below → walked rest ≡ first_body after →
    walked (first_walk (extended here kids) rest) ≡ first_body (or_else below after)
first_of_both here [] rest bare after in_kids in_rest = in_rest
first_of_both here [] rest (grown i step slug body kids others) after in_kids in_rest = absurd (cc)
first_of_both here (visit ∷ visits) rest (grown i step slug body kids others) after in_kids
    in_rest = in_kids
first_of_both here (visit ∷ visits) rest bare after in_kids in_rest =
    no_walk visit visits in_kids
  where
    no_walk : (one : Visit Body) (more : List (Visit Body)) → walked (one ∷ more) ≡ None →
        walked (here ∷ visit ∷ visits) ≡ first_body after
    no_walk one [] is = absurd (cc)
    no_walk one (next ∷ more) is = no_walk next more is

-- a walk ends with the page that it leads to
pub walk_ends : (page : ℕ) (f : Forest Body) → walked (walk page f) ≡ first_body (node_of page f)
walk_ends page bare = refl
walk_ends page (grown i step slug body kids rest) =
    choice (nat_eq i page) (walk_ends page kids) (walk_ends page rest)
  where
    choice : (t : Bool) → walked (walk page kids) ≡ first_body (node_of page kids) →
        walked (walk page rest) ≡ first_body (node_of page rest) →
        walked (cond t
        (record { id = i; step = step; slug = slug; body = body; numchild = kid_count kids } ∷ [])
        (first_walk
        (extended
        (record { id = i; step = step; slug = slug; body = body; numchild = kid_count kids })
        (walk page kids)) (walk page rest)))
        ≡ first_body (cond t (grown i step slug body kids bare)
        (or_else (node_of page kids) (node_of page rest)))
    choice true in_kids in_rest = refl
    choice false in_kids in_rest =
        first_of_both _ (walk page kids) (walk page rest) (node_of page kids) (node_of page rest)
        in_kids in_rest

-- what is seen of a page of which this is kept, where these pages are on the walk to it
abbrev pub seen : TreePart → List ℕ → Body → View
seen part above body =
    record {
      above = above;
      owner = body.owner;
      locked_by = body.locked_by;
      stage = stage_of part body.moderation;
    }

-- two steps of looking are one
map_both : {X Y Z : Type 0} (f : X → Y) (g : Y → Z) (found : Option X) →
    option_map (λ x. g (f x)) found ≡ option_map g (option_map f found)
map_both f g None = refl
map_both f g (Some x) = refl

-- what is seen of a page is what is kept of it
pub view_is : (part : TreePart) (page : ℕ) →
    view_of part page
    ≡ option_map (seen part (above_of part.tree page)) (body_of part.tree page)
view_is part page =
    map_both (λ visit. visit.body) (seen part (above_of part.tree page))
    (last_visit (walk page part.tree))
    ∙ rw (walk_ends page part.tree) refl
