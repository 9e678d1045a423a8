-- The aliases are found; then the ids that they need, then the room for what they show.
use Rattle.std.proofs.Common.{◌+◌, ℕ, List, max, length, nat_lt, sym, ap, subst, ◌∙◌, arith}
use Rattle.std.specs.List.{AllByRecursion}
use Rattle.site_types.specs.declared.revision.Revision.{Revision}
use Rattle.site_model.specs.World as worlds
use Rattle.site_model.specs.Delete.{aliases_left}
use Rattle.site_model.specs.Limits.{MAX_CONTENTS, contents_length}
use Rattle.tree_edits.specs.Leaving.{IsAliasHere}
use Rattle.new_pages.proofs.CommandLemmas.{delete_names}
use Rattle.tree_edits.proofs.LeavingRows.{aliases_here}
use Rattle.tree_edits.proofs.LeavingRules.{kept, deletion_ids, deletion_full, deletion_clear, made_of}
use Rattle.tree_edits.proofs.leaving.plan_leaving.Goals as goal

pub left_aliases-requires : goal.left_aliases-requires
left_aliases-requires c =
    let world = c.requires.asked.0 in
    let asked = c.requires.asked.1 in (
      world,
      asked.ready,
      (delete_names world c.args.caller c.args.page asked.front).0,
      c.requires.gone world.tree asked.ready.stands.pages,
    )

pub returns-then-part-len : goal.returns-then-part-len
returns-then-part-len c = λ world asked.
    let is = ap (λ (ids : List ℕ). length ids)
    (c.in-Ok.ensures world asked.ready (c.requires.gone world.tree asked.ready.stands.pages)) in
    let len = c.len.ensures in
    let number = asked.ready.stands.next_revision in
    let over = c.if-part-len.true in
    deletion_ids world c.args.now c.args.caller c.args.page asked.ready.reached.sound
    (omega (arith, is, len, number, over))

pub all_detached-requires : goal.all_detached-requires
all_detached-requires c =
    let world = c.requires.asked.0 in
    let asked = c.requires.asked.1 in
    let same = c.deref.ensures.value
    ∙ c.in-Ok.ensures world asked.ready (c.requires.gone world.tree asked.ready.stands.pages) in
    let is = ap (λ (ids : List ℕ). length ids) c.deref.ensures.value in
    let len = c.len.ensures in
    let number = asked.ready.stands.next_revision in
    let fits = c.if-part-len.false in (
      world,
      asked.ready,
      subst (AllByRecursion (IsAliasHere world.tree)) (sym same)
          (aliases_here world c.args.page asked.ready.reached.sound.pages.distinct),
      omega (arith, is, len, number, fits),
    )

pub overfills-requires : goal.overfills-requires
overfills-requires c =
    let world = c.requires.asked.0 in
    let asked = c.requires.asked.1 in
    (world, asked.ready, (delete_names world c.args.caller c.args.page asked.front).0)

pub returns-then-overfills : goal.returns-then-overfills
returns-then-overfills c = λ world asked.
    let ids = c.in-Ok.ensures world asked.ready
    (c.requires.gone world.tree asked.ready.stands.pages) in
    let same = c.deref.ensures.value ∙ ids in
    let made = made_of world (worlds.time_at world c.args.now) c.later.result c.args.caller
    (aliases_left world c.args.page) c.deref.result.now c.in-Ok-all_detached.made
    (c.later.ensures.value ∙ ap (λ t. max t c.args.now) asked.ready.stands.time) same
    (c.in-Ok-all_detached.ensures world asked.ready
    (subst (AllByRecursion (IsAliasHere world.tree)) (sym same)
    (aliases_here world c.args.page asked.ready.reached.sound.pages.distinct))) in
    let is = ap (λ (xs : List ℕ). length xs) ids in
    let len = c.len.ensures in
    let number = asked.ready.stands.next_revision in
    let fits = c.if-part-len.false in
    deletion_full world c.args.now c.args.caller c.args.page asked.ready.reached.sound
    (omega (arith, is, len, number, fits))
    (ap (λ (rs : List Revision). nat_lt MAX_CONTENTS
    (contents_length (kept world c.args.now c.args.caller c.args.page asked.ready.reached.sound)
    + contents_length rs)) (sym (c.as_slice.ensures ∙ made.revisions))
    ∙ (sym (c.overfills.ensures world asked.ready) ∙ c.if-overfills.true))

pub returns : goal.returns
returns c = λ world asked.
    let ids = c.in-Ok.ensures world asked.ready
    (c.requires.gone world.tree asked.ready.stands.pages) in
    let same = c.deref.ensures.value ∙ ids in
    let made = made_of world (worlds.time_at world c.args.now) c.later.result c.args.caller
    (aliases_left world c.args.page) c.deref.result.now c.in-Ok-all_detached.made
    (c.later.ensures.value ∙ ap (λ t. max t c.args.now) asked.ready.stands.time) same
    (c.in-Ok-all_detached.ensures world asked.ready
    (subst (AllByRecursion (IsAliasHere world.tree)) (sym same)
    (aliases_here world c.args.page asked.ready.reached.sound.pages.distinct))) in
    let is = ap (λ (xs : List ℕ). length xs) ids in
    let len = c.len.ensures in
    let number = asked.ready.stands.next_revision in
    let fits = c.if-part-len.false in (
      deletion_clear world c.args.now c.args.caller c.args.page asked.ready.reached.sound
          (omega (arith, is, len, number, fits))
          (ap (λ (rs : List Revision). nat_lt MAX_CONTENTS
          (contents_length (kept world c.args.now c.args.caller c.args.page
          asked.ready.reached.sound)
          + contents_length rs)) (sym (c.as_slice.ensures ∙ made.revisions))
          ∙ (sym (c.overfills.ensures world asked.ready) ∙ c.if-overfills.false)),
      made,
    )
