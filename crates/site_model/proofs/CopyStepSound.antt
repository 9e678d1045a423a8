-- The command that copies a page, alone or with all below it, keeps a world sound.
use Rattle.std.proofs.Common.{◌≡◌, ◌+◌, ◌≤◌, ℕ, Bool, true, false, nat_lt, List, [], ◌∷◌, Option, None, refl, sym, subst, arith}
use Rattle.std.specs.Prelude.{IfSome}
use Rattle.page_tree.specs.Tree.{Forest, bare, grown, HasDistinctIds, node_of, without}
use Rattle.site_ids.specs.declared.ids.TheConstants.{LAST_PAGE_ID}
use Rattle.site_ids.specs.Moment.{IsMoment}
use Rattle.site_ids.specs.Slug.{IsSlug}
use Rattle.site_types.specs.Content.{ContentValue, FitsLimits}
use Rattle.site_types.specs.declared.body.Body.{Body}
use Rattle.site_types.specs.declared.command.Command.TheVariants as commands
use Rattle.site_types.specs.declared.permission.Permission.TheVariants.{Add}
use Rattle.site_types.specs.declared.refusal.Refusal.TheVariants.{IdsFull, ContentFull}
use Rattle.tree_model.specs.Shape.{IsWhole, AllPages}
use Rattle.tree_model.proofs.CountLemmas.{IsNode, count, once, cut_counts, node_found, has_counts}
use Rattle.tree_model.proofs.PageLemmas.{AllPages-node_of, AllPages-both, AllPages-counted}
use Rattle.tree_model.proofs.SiblingLemmas.{AreRising-node_of, SlugsDiffer-node_of}
use Rattle.tree_model.proofs.WholeLemmas.{whole-without}
use Rattle.site_model.specs.World.{TreePart}
use Rattle.site_model.specs.Rules.{content_full}
use Rattle.site_model.specs.Needs.{needs_of, create_needs}
use Rattle.site_model.specs.Front.{row_of, naming, front_rules}
use Rattle.site_model.specs.Copies.{copied_content, to_copy, with_copy, into_copy, copy_ids_full}
use Rattle.site_model.specs.Desks.{desk_page}
use Rattle.site_model.specs.Step.{rules}
use Rattle.site_model.specs.Step as steps
use Rattle.site_model.specs.Sound.{IsRegular}
use Rattle.site_model.specs.Laws.{FitsCommand}
use Rattle.site_model.proofs.AcceptLemmas.{front_parts, page_found}
use Rattle.site_model.proofs.BodySound.{IsKept}
use Rattle.site_model.proofs.ClearLemmas.{first_clear, test_clear, limit_clear, neither}
use Rattle.site_model.proofs.CopySound.{with_copies, IsCopyable, MayCopy, copies_keep_regular, copies_are_sound}
use Rattle.site_model.proofs.Deeds.{KeepsSound, below_root, plain_keeps}
use Rattle.site_model.proofs.GraftSound.{roomy}
use Rattle.site_model.proofs.Groups.{AreGroups}
use Rattle.site_model.proofs.RegularLemmas.{KeepRegular, kept_stay}
use Rattle.site_model.proofs.LooseGroups.{loosened}
use Rattle.site_model.proofs.SourceLemmas.{copied_fits}
use Rattle.site_model.proofs.StrangerLemmas.{maker_is_user}

-- the root is not below another page
root_not_below : (tree : Forest Body) (page : ℕ) → HasDistinctIds tree → IsWhole tree →
    (1 ≡ page → ⊥) → AllPages (λ id slug body. id ≡ 1 → ⊥) (node_of page tree)
root_not_below tree page distinct whole other =
    AllPages-counted (λ id. id ≡ 1 → ⊥) (node_of page tree)
    (λ j some same. none (subst (λ (id : ℕ). 1 ≤ count id (node_of page tree)) same some))
  where
    left : (f : Forest Body) → IsWhole f → 1 ≤ count 1 f
    left f is = subst (λ g. 1 ≤ count 1 g) (sym is.is) (omega arith)

    none : 1 ≤ count 1 (node_of page tree) → ⊥
    none some =
        let sum = cut_counts page 1 tree (once tree distinct page) in
        let stays = left (without page tree) (whole-without page tree other whole) in
        let most = once tree distinct 1 in
        omega (arith, sum, stays, most, some)

-- a page below the root may be copied with all below it
node_copyable : (part : TreePart) (page : ℕ) → AreGroups part → (1 ≡ page → ⊥) →
    IsCopyable part (node_of page part.tree)
node_copyable part page sound other =
    let tree = part.tree in
    let node = node_of page tree in
    let below = root_not_below tree page sound.pages.distinct sound.pages.whole other in
    record {
      slugs = AllPages-both (λ id slug body. (id ≡ 1 → ⊥) → IsSlug slug)
          (λ id slug body. id ≡ 1 → ⊥) (λ id slug body. IsSlug slug) node
          (λ id slug body is differs. is differs)
          (AllPages-node_of (λ id slug body. (id ≡ 1 → ⊥) → IsSlug slug) page tree
          sound.pages.slugs) below;
      fits = AllPages-both
          (λ id slug body. IsKept part id body × IfSome body.source (IsRegular tree))
          (λ id slug body. id ≡ 1 → ⊥) (λ id slug body. FitsLimits (copied_content part body)) node
          (λ id slug body both differs. copied_fits part id body (loosened part sound) differs
          both.0 both.1)
          (AllPages-node_of
          (λ id slug body. IsKept part id body × IfSome body.source (IsRegular tree)) page tree
          (AllPages-both (λ id slug body. IsKept part id body)
          (λ id slug body. IfSome body.source (IsRegular tree)) _ tree
          (λ id slug body kept is. (kept, is)) sound.bodies.bodies sound.bodies.sources)) below;
      rising = AreRising-node_of page 0 tree sound.pages.rising;
      siblings = SlugsDiffer-node_of page tree sound.pages.siblings;
    }

-- what is copied of a page that stands alone is such a page
copied_node : (page : ℕ) (deep : Bool) (f : Forest Body) → IsNode page f →
    IsNode page (to_copy deep f)
copied_node page deep f node =
    subst (λ g. IsNode page (to_copy deep g)) (sym node.is) (choice deep)
  where
    choice : (t : Bool) →
        IsNode page (to_copy t (grown page node.step node.slug node.body node.kids bare))
    choice true = record {
      step = node.step;
      slug = node.slug;
      body = node.body;
      kids = node.kids;
      is = refl;
    }
    choice false = record {
      step = node.step;
      slug = node.slug;
      body = node.body;
      kids = bare;
      is = refl;
    }

-- a page may be copied without those below it
copied_alone : (part : TreePart) (page : ℕ) (deep : Bool) (f : Forest Body) → IsNode page f →
    IsCopyable part f → IsCopyable part (to_copy deep f)
copied_alone part page deep f node source =
    subst (λ g. IsCopyable part (to_copy deep g)) (sym node.is)
    (choice deep (subst (λ g. IsCopyable part g) node.is source))
  where
    alone : Forest Body
    alone = grown page node.step node.slug node.body node.kids bare

    choice : (t : Bool) → IsCopyable part alone → IsCopyable part (to_copy t alone)
    choice true is = is
    choice false is = record {
      slugs = (is.slugs.0, tt, tt);
      fits = (is.fits.0, tt, tt);
      rising = (is.rising.0, tt, tt);
      siblings = (is.siblings.0, tt, tt);
    }

-- What copies leave of a world.
record CopiesKeep (part : TreePart) (now caller parent : ℕ) (slug : List ℕ) (f : Forest Body) :
    Type 0 where
  sound : AreGroups (with_copies part now caller parent slug f)
  regular : KeepRegular part.tree (with_copies part now caller parent slug f).tree

-- copies of a page that stands alone
copies_keep : (part : TreePart) (now caller parent page : ℕ) (slug : List ℕ) (f : Forest Body) →
    AreGroups part → IsNode page f → MayCopy part now caller parent slug f →
    IsCopyable part f → CopiesKeep part now caller parent slug f
copies_keep part now caller parent page slug f sound node may source =
    let there = subst (λ g. MayCopy part now caller parent slug g) node.is may in
    let own = subst (λ g. IsCopyable part g) node.is source in
    subst (λ g. CopiesKeep part now caller parent slug g) (sym node.is) (record {
      sound = copies_are_sound part now caller parent page node.step node.slug slug node.body
          node.kids sound there own;
      regular = copies_keep_regular part now caller parent page node.step node.slug slug node.body
          node.kids sound there own;
    })

-- a page is copied by command
pub copy_sound : (part : TreePart) (desk : Option ContentValue) (now caller page parent : ℕ)
    (slug : List ℕ) (deep : Bool) → AreGroups part → IsMoment now →
    FitsCommand (commands.Copy page parent slug deep) →
    front_rules part caller (commands.Copy page parent slug deep) ≡ None →
    rules part desk now caller (commands.Copy page parent slug deep) ≡ None →
    KeepsSound part caller (desk_page (commands.Copy page parent slug deep))
    (steps.effect part desk now caller (commands.Copy page parent slug deep))
unfolding front_rules row_of needs_of rules steps.effect desk_page
copy_sound part desk now caller page parent slug deep sound moment fits front own =
    let parts = front_parts part caller (naming (page ∷ parent ∷ []) (page ∷ []))
    (create_needs part caller parent) front in
    let first = page_found part.tree page (parent ∷ []) parts.pages in
    let second = page_found part.tree parent [] first.1 in
    let after = with_copy part now caller page parent slug deep in
    let into = first_clear (into_copy part page parent deep) _ own in
    let clear = roomy part.tree after.tree parent slug
    (copy_ids_full part after ∷ content_full after.revisions ∷ []) into.1 in
    let ids = first_clear (copy_ids_full part after) _ clear.1 in
    let contents = first_clear (content_full after.revisions) [] ids.1 in
    let left = neither (nat_lt (LAST_PAGE_ID + 1) after.next_page) _
    (test_clear _ IdsFull ids.0) in
    let node = node_found page part.tree (has_counts page part.tree first.0) in
    let other = below_root page parts.below in
    let kept = copies_keep part now caller parent page slug (to_copy deep (node_of page part.tree))
    sound (copied_node page deep (node_of page part.tree) node) (record {
      moment = moment;
      user = maker_is_user part caller parent Add sound.people parts.may;
      there = second.0;
      fits = fits;
      pages_left = limit_clear _ _ left.0;
      revisions_left = limit_clear _ _ left.1;
      room = clear.0;
      contents = limit_clear _ _ (test_clear _ ContentFull contents.0);
    })
    (copied_alone part page deep (node_of page part.tree) node
    (node_copyable part page sound other)) in
    plain_keeps part after caller None _ kept.sound
    (kept_stay part.tree after.tree kept.regular) refl (omega arith)
