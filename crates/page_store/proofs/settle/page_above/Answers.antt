-- The parent stands behind the pages that come before its path.
use Rattle.std.proofs.Common.{◌≡◌, ◌∙◌, ℕ, Option, None, IsSome, sym, subst, rules}
use Rattle.step_path.specs.Path.{steps_of}
use Rattle.page_store.proofs.ListedLemmas.{first_listed, long_listed, parent_listed}
use Rattle.page_store.proofs.settle.page_above.Goals as goal

-- nothing is not something
none_is_not_some : (o : Option ℕ) → o ≡ None → IsSome o → ⊥
none_is_not_some o none some = let h = subst IsSome none some in search rules

pub above_text-above-requires-clause-below : goal.above_text-above-requires-clause-below
above_text-above-requires-clause-below c =
    long_listed _ _ _ c.requires.listed c.args.id c.in-Some.page.now _ c.in-Some.ensures.value
    c.as_slice.ensures.value c.requires.there

pub count_front-place-requires-clause-first : goal.count_front-place-requires-clause-first
count_front-place-requires-clause-first c =
    first_listed _ _ _ c.requires.listed (steps_of c.as_slice-2.result.now)

pub unreachable-requires-in-None : goal.unreachable-requires-in-None
unreachable-requires-in-None c =
    none_is_not_some _ (parent_listed _ _ _ c.requires.listed c.args.id c.in-Some.page.now _ _ _ _
    c.in-Some.ensures.value c.as_slice.ensures.value c.requires.there c.above_text-above.ensures.steps
    c.as_slice-2.ensures.value c.count_front-place.ensures ∙ sym c.id_at.ensures ∙ c.in-None.is)
    c.requires.there

pub returns : goal.returns
returns c =
    parent_listed _ _ _ c.requires.listed c.args.id c.in-Some.page.now _ _ _ _
    c.in-Some.ensures.value c.as_slice.ensures.value c.requires.there c.above_text-above.ensures.steps
    c.as_slice-2.ensures.value c.count_front-place.ensures ∙ sym c.id_at.ensures ∙ c.in-Some-id_at.is
