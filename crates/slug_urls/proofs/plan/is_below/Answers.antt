-- The three parts of a URL below another are compared one after the other.
use Rattle.std.proofs.Common.{List, ℕ, ap, ◌∙◌}
use Rattle.std.specs.Str.{bytes_eq}
use Rattle.slug_urls.proofs.Prefixes.{other_above, other_slug, same_end}
use Rattle.slug_urls.proofs.plan.is_below.Goals as goal

pub returns-in_default : goal.returns-in_default
returns-in_default c =
    other_above c.args.url.now c.args.above.now c.args.slug.now c.in_default.ensures.cases

pub returns-in_default-strip_prefix : goal.returns-in_default-strip_prefix
returns-in_default-strip_prefix c =
    other_slug c.args.url.now c.args.above.now c.args.slug.now c.in-Some.rest.now
    c.in-Some.ensures.cases.0 c.in-Some.ensures.cases.1 c.in_default-strip_prefix.ensures.cases

pub returns : goal.returns
returns c =
    c.eq.ensures ∙ (ap (λ (bytes : List ℕ). bytes_eq c.in-Some-strip_prefix.end.now bytes)
    c.as_slice.ensures
    ∙ same_end c.args.url.now c.args.above.now c.args.slug.now c.in-Some.rest.now
    c.in-Some-strip_prefix.end.now c.in-Some.ensures.cases.0 c.in-Some.ensures.cases.1
    c.in-Some-strip_prefix.ensures.cases.0 c.in-Some-strip_prefix.ensures.cases.1)
