use Rattle.std.proofs.Common.{◌∙◌, sym, ap, ◌++◌, List, ℕ, ◌∷◌, []}
use Rattle.api_routes.proofs.CallLemmas.{closed-already, closed-by-slash}
use Rattle.api_routes.proofs.path.closed_path.Goals as goal

pub returns-then-ends_with_slash : goal.returns-then-ends_with_slash
returns-then-ends_with_slash c =
    let path : List ℕ = c.args.path.now in
    let closed = closed-already path (sym c.ends_with_slash.ensures ∙ c.if-ends_with_slash.true) in
    c.from_vec.ensures ∙ c.in_ok-extend_from_slice.ensures.items
    ∙ ap (λ xs. xs ++ path) c.in_ok-bytes.ensures.items ∙ sym closed

pub returns : goal.returns
returns c =
    let path : List ℕ = c.args.path.now in
    let closed = closed-by-slash path (sym c.ends_with_slash.ensures ∙ c.if-ends_with_slash.false)
    in
    c.from_vec-2.ensures ∙ c.in_ok-push.ensures.items
    ∙ ap (λ xs. xs ++ 47 ∷ []) c.in_ok-extend_from_slice.ensures.items
    ∙ ap (λ xs. (xs ++ path) ++ 47 ∷ []) c.in_ok-bytes.ensures.items ∙ sym closed
