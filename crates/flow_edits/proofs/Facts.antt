-- What is known of the page of each command that its first rules let pass.
use Rattle.std.proofs.Common.{◌≡◌, ℕ, true, false, None}
use Rattle.site_types.specs.declared.command.Command.TheVariants as commands
use Rattle.site_model.specs.World as worlds
use Rattle.site_model.specs.Front.{StopsNobody, StopsOthers, StopsEveryone, row_of, is_alias, front_rules}
use Rattle.site_model.specs.Needs.{needs_of}
use Rattle.site_model.specs.Views.{body_of}
use Rattle.moderating.proofs.Facts.{IsBelow, not_alias, on_page_names}

module _ (part : worlds.TreePart) (caller page : ℕ) where
  -- the page of each command is there, and is not the root
  pub open_names : front_rules part caller (commands.OpenDesk page) ≡ None → IsBelow part.tree page
  unfolding front_rules row_of
  open_names =
      on_page_names part caller page StopsOthers true StopsOthers
      (needs_of part caller (commands.OpenDesk page))

  pub publish_names : front_rules part caller (commands.Publish page) ≡ None → IsBelow part.tree page
  unfolding front_rules row_of
  publish_names =
      on_page_names part caller page StopsOthers true StopsOthers
      (needs_of part caller (commands.Publish page))

  -- and these ask for its kind
  pub open_regular : front_rules part caller (commands.OpenDesk page) ≡ None →
      is_alias (body_of part.tree page) ≡ false
  unfolding front_rules row_of
  open_regular =
      not_alias part caller page StopsOthers StopsOthers (needs_of part caller (commands.OpenDesk page))

  pub publish_regular : front_rules part caller (commands.Publish page) ≡ None →
      is_alias (body_of part.tree page) ≡ false
  unfolding front_rules row_of
  publish_regular =
      not_alias part caller page StopsOthers StopsOthers (needs_of part caller (commands.Publish page))

  pub unschedule_names : front_rules part caller (commands.Unschedule page) ≡ None →
      IsBelow part.tree page
  unfolding front_rules row_of
  unschedule_names =
      on_page_names part caller page StopsOthers true StopsNobody
      (needs_of part caller (commands.Unschedule page))

  pub unpublish_names : front_rules part caller (commands.Unpublish page) ≡ None →
      IsBelow part.tree page
  unfolding front_rules row_of
  unpublish_names =
      on_page_names part caller page StopsOthers true StopsNobody
      (needs_of part caller (commands.Unpublish page))

  pub lock_names : front_rules part caller (commands.Lock page) ≡ None → IsBelow part.tree page
  unfolding front_rules row_of
  lock_names =
      on_page_names part caller page StopsEveryone true StopsNobody
      (needs_of part caller (commands.Lock page))

  pub unlock_names : front_rules part caller (commands.Unlock page) ≡ None → IsBelow part.tree page
  unfolding front_rules row_of
  unlock_names =
      on_page_names part caller page StopsNobody false StopsNobody
      (needs_of part caller (commands.Unlock page))

  pub purge_names : front_rules part caller (commands.Purge page) ≡ None → IsBelow part.tree page
  unfolding front_rules row_of
  purge_names =
      on_page_names part caller page StopsOthers true StopsNobody
      (needs_of part caller (commands.Purge page))
