-- The place is tried, then the ids, then the contents.
use Rattle.std.proofs.Common.{◌-◌, List, max, nat_lt, sym, ap, ◌∙◌}
use Rattle.page_tree.specs.Tree.{node_of}
use Rattle.site_types.specs.declared.refusal.Refusal.TheVariants.{IntoItself}
use Rattle.site_types.specs.declared.revision.Revision.{Revision}
use Rattle.site_model.specs.World as worlds
use Rattle.site_model.specs.Copies.{to_copy}
use Rattle.site_model.specs.Limits.{MAX_CONTENTS, contents_length}
use Rattle.site_model.specs.Rules.{refused_if}
use Rattle.new_pages.proofs.CopiedLemmas.{ones_are}
use Rattle.new_pages.proofs.CopyAsked.{copy_there, copy_stands, copy_source, contents_counted, weight_fits, room_is}
use Rattle.new_pages.proofs.CopyRefusals.{into_refuses, copy_place_refuses, copy_ids_refuse, lacks_are, copy_ids_left, copy_full, copy_clear}
use Rattle.new_pages.proofs.LookUpLemmas.{row_there}
use Rattle.new_pages.proofs.copying.new_copy.Goals as goal

pub is_into_copy-requires : goal.is_into_copy-requires
is_into_copy-requires c =
    let world = c.requires.0 in
    let asked = c.requires.1 in
    row_there c.args.page world.tree c.args.part.now.rows.pages asked.ready.stands.pages
    ∙ (copy_there c.args.part.now world c.args.caller c.args.page c.args.parent c.args.slug.now
    c.args.deep asked).0.0

pub returns-then-is_into_copy : goal.returns-then-is_into_copy
returns-then-is_into_copy c = λ world asked.
    into_refuses world c.args.now c.args.caller c.args.page c.args.parent c.args.slug.now
    c.args.deep
    (ap (λ t. refused_if t IntoItself)
    (sym (c.is_into_copy.ensures world.tree asked.ready.stands.pages) ∙ c.if-is_into_copy.true))

pub source_of-source-requires : goal.source_of-source-requires
source_of-source-requires c =
    let world = c.requires.0 in
    let asked = c.requires.1 in (
      world,
      asked.ready.stands.pages,
      row_there c.args.page world.tree c.args.part.now.rows.pages asked.ready.stands.pages
          ∙ (copy_there c.args.part.now world c.args.caller c.args.page c.args.parent
          c.args.slug.now c.args.deep asked).0.0,
    )

pub copy_place-requires : goal.copy_place-requires
copy_place-requires c =
    let world = c.requires.0 in
    let asked = c.requires.1 in (
      world,
      c.args.page,
      c.args.deep,
      asked.ready.stands.pages,
      asked.ready.reached.sound.pages,
      (copy_there c.args.part.now world c.args.caller c.args.page c.args.parent c.args.slug.now
          c.args.deep asked).1,
      c.source_of-source.ensures world asked.ready.stands.pages,
    )

pub returns-in-Err : goal.returns-in-Err
returns-in-Err c = λ world asked.
    copy_place_refuses world c.args.now c.args.caller c.args.page c.args.parent c.args.slug.now
    c.args.deep c.args.part.now.rows.pages c.source_of-source.result c.in-Err.fault
    (c.in-Err.ensures world c.args.caller c.args.page c.args.deep asked.ready.stands.pages
    asked.ready.reached.sound.pages
    (copy_there c.args.part.now world c.args.caller c.args.page c.args.parent c.args.slug.now
    c.args.deep asked).1
    (c.source_of-source.ensures world asked.ready.stands.pages)
    (ap (λ t. refused_if t IntoItself)
    (sym (c.is_into_copy.ensures world.tree asked.ready.stands.pages) ∙ c.if-is_into_copy.false)))

pub returns-then-lacks_ids : goal.returns-then-lacks_ids
returns-then-lacks_ids c = λ world asked.
    let source = c.source_of-source.ensures world asked.ready.stands.pages in
    let placed = c.in-Ok.ensures world c.args.caller c.args.page c.args.deep
    asked.ready.stands.pages asked.ready.reached.sound.pages
    (copy_there c.args.part.now world c.args.caller c.args.page c.args.parent c.args.slug.now
    c.args.deep asked).1 source
    (ap (λ t. refused_if t IntoItself)
    (sym (c.is_into_copy.ensures world.tree asked.ready.stands.pages) ∙ c.if-is_into_copy.false)) in
    copy_ids_refuse world c.args.now c.args.caller c.args.page c.args.parent c.args.slug.now
    c.args.deep c.args.part.now.rows.pages c.source_of-source.result source placed.0
    (lacks_are world c.source_of-source.result.rest c.args.part.now.next_page
    c.args.part.now.next_revision c.lacks_ids.result asked.ready.stands.next_page
    asked.ready.stands.next_revision c.lacks_ids.ensures
    ∙ c.if-lacks_ids.true)

pub plan_copy-requires : goal.plan_copy-requires
plan_copy-requires c =
    let world = c.requires.0 in
    let asked = c.requires.1 in (
      world,
      copy_stands c.args.part.now world c.args.caller c.args.page c.args.parent c.args.slug.now
          c.args.deep asked,
      copy_source c.args.part.now world c.args.caller c.args.page c.args.parent c.args.slug.now
          c.args.deep asked,
    )

pub coming_revisions-requires : goal.coming_revisions-requires
coming_revisions-requires c =
    let world = c.requires.0 in
    let asked = c.requires.1 in
    let source = c.source_of-source.ensures world asked.ready.stands.pages in (
      world,
      asked.ready,
      c.source_of-source.result.rest,
      contents_counted c.args.part.now world c.args.caller c.args.page c.args.parent
          c.args.slug.now c.args.deep asked c.source_of-source.result source
          c.in-Ok-plan_copy.plan
          (c.in-Ok-plan_copy.ensures world
          (copy_stands c.args.part.now world c.args.caller c.args.page c.args.parent
          c.args.slug.now c.args.deep asked)
          (copy_source c.args.part.now world c.args.caller c.args.page c.args.parent
          c.args.slug.now c.args.deep asked)),
      copy_ids_left world c.source_of-source.result.rest
          (lacks_are world c.source_of-source.result.rest c.args.part.now.next_page
          c.args.part.now.next_revision c.lacks_ids.result asked.ready.stands.next_page
          asked.ready.stands.next_revision c.lacks_ids.ensures
          ∙ c.if-lacks_ids.false),
    )

pub returns-then-weighs_more : goal.returns-then-weighs_more
returns-then-weighs_more c = λ world asked.
    let source = c.source_of-source.ensures world asked.ready.stands.pages in
    let placed = c.in-Ok.ensures world c.args.caller c.args.page c.args.deep
    asked.ready.stands.pages asked.ready.reached.sound.pages
    (copy_there c.args.part.now world c.args.caller c.args.page c.args.parent c.args.slug.now
    c.args.deep asked).1 source
    (ap (λ t. refused_if t IntoItself)
    (sym (c.is_into_copy.ensures world.tree asked.ready.stands.pages) ∙ c.if-is_into_copy.false)) in
    let ones = ones_are world c.args.caller (worlds.time_at world c.args.now) c.later.result
    (to_copy c.args.deep (node_of c.args.page world.tree)) c.in-Ok-plan_copy.plan
    c.in-Ok-coming_revisions.revisions
    (c.later.ensures.value ∙ ap (λ t. max t c.args.now) asked.ready.stands.time)
    (c.in-Ok-plan_copy.ensures world
    (copy_stands c.args.part.now world c.args.caller c.args.page c.args.parent c.args.slug.now
    c.args.deep asked)
    (copy_source c.args.part.now world c.args.caller c.args.page c.args.parent c.args.slug.now
    c.args.deep asked))
    (c.in-Ok-coming_revisions.ensures world asked.ready) in
    copy_full world c.args.now c.args.caller c.args.page c.args.parent c.args.slug.now c.args.deep
    c.args.part.now.rows.pages c.source_of-source.result source placed.0
    (lacks_are world c.source_of-source.result.rest c.args.part.now.next_page
    c.args.part.now.next_revision c.lacks_ids.result asked.ready.stands.next_page
    asked.ready.stands.next_revision c.lacks_ids.ensures
    ∙ c.if-lacks_ids.false)
    (MAX_CONTENTS - c.weight.result)
    (room_is c.args.part.now world c.args.caller c.args.page c.args.parent c.args.slug.now
    c.args.deep asked c.weight.result c.weight.ensures)
    (ap (λ (rs : List Revision). nat_lt (MAX_CONTENTS - c.weight.result) (contents_length rs))
    (sym (c.as_slice.ensures ∙ ones))
    ∙ (sym c.weighs_more.ensures ∙ c.if-weighs_more.true))

pub returns : goal.returns
returns c = λ world asked.
    let source = c.source_of-source.ensures world asked.ready.stands.pages in
    let placed = c.in-Ok.ensures world c.args.caller c.args.page c.args.deep
    asked.ready.stands.pages asked.ready.reached.sound.pages
    (copy_there c.args.part.now world c.args.caller c.args.page c.args.parent c.args.slug.now
    c.args.deep asked).1 source
    (ap (λ t. refused_if t IntoItself)
    (sym (c.is_into_copy.ensures world.tree asked.ready.stands.pages) ∙ c.if-is_into_copy.false)) in
    let ones = ones_are world c.args.caller (worlds.time_at world c.args.now) c.later.result
    (to_copy c.args.deep (node_of c.args.page world.tree)) c.in-Ok-plan_copy.plan
    c.in-Ok-coming_revisions.revisions
    (c.later.ensures.value ∙ ap (λ t. max t c.args.now) asked.ready.stands.time)
    (c.in-Ok-plan_copy.ensures world
    (copy_stands c.args.part.now world c.args.caller c.args.page c.args.parent c.args.slug.now
    c.args.deep asked)
    (copy_source c.args.part.now world c.args.caller c.args.page c.args.parent c.args.slug.now
    c.args.deep asked))
    (c.in-Ok-coming_revisions.ensures world asked.ready) in
    let free = lacks_are world c.source_of-source.result.rest c.args.part.now.next_page
    c.args.part.now.next_revision c.lacks_ids.result asked.ready.stands.next_page
    asked.ready.stands.next_revision c.lacks_ids.ensures
    ∙ c.if-lacks_ids.false in (
      copy_clear world c.args.now c.args.caller c.args.page c.args.parent c.args.slug.now
          c.args.deep c.args.part.now.rows.pages c.source_of-source.result source placed.0 free
          (MAX_CONTENTS - c.weight.result)
          (room_is c.args.part.now world c.args.caller c.args.page c.args.parent c.args.slug.now
          c.args.deep asked c.weight.result c.weight.ensures)
          (ap (λ (rs : List Revision). nat_lt (MAX_CONTENTS - c.weight.result) (contents_length rs))
          (sym (c.as_slice.ensures ∙ ones))
          ∙ (sym c.weighs_more.ensures ∙ c.if-weighs_more.false)),
      record {
        source = source;
        place = placed.1;
        revisions = ones;
        left = copy_ids_left world c.source_of-source.result.rest free;
      },
    )

pub overflow_sub-weight : goal.overflow_sub-weight
overflow_sub-weight c =
    weight_fits c.args.part.now c.requires.0 c.args.caller c.args.page c.args.parent
    c.args.slug.now c.args.deep c.requires.1 c.weight.result c.weight.ensures
