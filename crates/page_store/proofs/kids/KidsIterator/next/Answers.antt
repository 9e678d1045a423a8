-- The walk goes on behind the subtree of its kid.
use Rattle.std.proofs.Common.{◌∙◌, sym, arith, rules}
use Rattle.page_store.proofs.KidLemmas.{walk_goes_on}
use Rattle.page_store.proofs.kids.KidsIterator.next.Goals as goal

pub invariant_of-self : goal.invariant_of-self
invariant_of-self c =
    (walk_goes_on c.self.inside.rows.now.pages c.self.inside.parent c.self.inside.place
    c.self.inside.end c.end_of-self-inside.result c.in-Some.kid c.self.invariant c.if-self.false
    c.in-Some.ensures c.end_of-self-inside.ensures.end c.end_of-self-inside.ensures.within).0

pub returns-clause-steps : goal.returns-clause-steps
returns-clause-steps c =
    sym c.self.view_is ∙ (walk_goes_on c.self.inside.rows.now.pages c.self.inside.parent
    c.self.inside.place c.self.inside.end c.end_of-self-inside.result c.in-Some.kid
    c.self.invariant c.if-self.false c.in-Some.ensures c.end_of-self-inside.ensures.end
    c.end_of-self-inside.ensures.within).1

pub returns-clause-goes : goal.returns-clause-goes
returns-clause-goes c =
    let is = returns-clause-steps c in
    rw is (record {
      on = λ finite. (
        search rules,
        search rules,
        omega arith,
      );
      keeps = search rules;
      rests = λ finite. search rules;
    })
