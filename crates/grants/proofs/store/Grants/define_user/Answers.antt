-- The new user is kept behind the others.
use Rattle.std.proofs.Common.{◌≡◌, ◌+◌, ◌<◌, None, length, subst, sym}
use Rattle.site_ids.specs.declared.ids.TheConstants.{LAST_USER_ID}
use Rattle.site_model.specs.Rights.{user_of}
use Rattle.grants.specs.Lists.{GrantLists}
use Rattle.grants.proofs.UserLemmas.{kept_more}
use Rattle.grants.proofs.store.Grants.define_user.Goals as goal

pub invariant_of-self : goal.invariant_of-self
invariant_of-self c =
    let users = c.self.inside.users.items in
    let left = subst (λ (lists : GrantLists). length lists.users < LAST_USER_ID) (sym c.self.view_is)
    c.requires.left in
    let new = subst (λ (lists : GrantLists). user_of c.args.digest.now lists.users ≡ None)
    (sym c.self.view_is) c.requires.new in
    let id : c.user_with_number-id.result ≡ length users + 1 = cc in
    rw (c.push.ensures.items)
    (kept_more users c.self.inside.numbers.entries c.enter.new.numbers.entries c.self.inside.groups
    c.self.inside.members.items c.self.inside.grants.items
    record { superuser = c.args.superuser; digest = c.args.digest.now } c.self.invariant left new
    (rw (← id) c.enter.ensures.found))
