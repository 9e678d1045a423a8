-- The first six rules, by the rows and by what is kept of a page.
use Rattle.std.proofs.Common.{◌≡◌, ℕ, Bool, true, false, nat_eq, List, [], ◌∷◌, Option, Some, None, Ok, Err, is_some, refl, sym, ap, ◌∙◌}
use Rattle.std.specs.List.{list_any}
use Rattle.std.specs.Option.{option_map}
use Rattle.page_tree.specs.Tree.{Forest, has_page}
use Rattle.page_tree.specs.Rows.{row_with, rows_of}
use Rattle.page_tree.proofs.RowLemmas.{has_page-rows}
use Rattle.site_types.specs.declared.body.Body.{Body}
use Rattle.site_types.specs.declared.command.Command.{Command}
use Rattle.site_types.specs.declared.page_row.PageRow.{PageRow}
use Rattle.site_types.specs.declared.refusal.Refusal.{Refusal}
use Rattle.site_types.specs.declared.refusal.Refusal.TheVariants.{NoPage, IsRoot, Denied}
use Rattle.page_store.specs.PageRows.{page_row}
use Rattle.page_store.specs.Pages.{Page}
use Rattle.site_model.specs.World.{TreePart}
use Rattle.site_model.specs.Rights.{rights_of, Rights}
use Rattle.site_model.specs.Needs.{needs_of, may}
use Rattle.site_model.specs.Rules.{first_of, no_page, no_pages, are_root}
use Rattle.site_model.specs.Views.{body_of, stage_of}
use Rattle.site_model.specs.Front.{CommandRow, Stops, StopsNobody, StopsOthers, StopsEveryone, locked, aliased, in_moderation, row_of, front_by, front_rules}
use Rattle.site_model.proofs.ViewLemmas.{view_is}
use Rattle.site_part.specs.declared.need.Need.{Need}
use Rattle.site_part.specs.Needs.{need_with, need_told, rule_told}
use Rattle.site_part.specs.Stopping.{stops_of, alias_rule}

module _ (pages : List Page) (tree : Forest Body) (is_tree : pages ≡ rows_of tree) (id : ℕ) where
  -- whether a page is there, by the rows
  there_in : has_page id tree ≡ is_some (row_with id pages)
  there_in = has_page-rows id None [] [] tree ∙ ap (λ rows. is_some (row_with id rows)) (sym is_tree)

  -- a page that has a row is not missing
  pub page_there : (row : PageRow) → Some row ≡ option_map page_row (row_with id pages) →
      None ≡ no_page tree id
  page_there row is = by (row_with id pages) there_in is
    where
      by : (o : Option Page) → has_page id tree ≡ is_some o → Some row ≡ option_map page_row o →
          None ≡ no_page tree id
      by None e h = absurd cc
      by (Some one) e h = rw e refl

  -- and one that has none is
  pub page_missing : None ≡ option_map page_row (row_with id pages) →
      Some (NoPage id) ≡ no_page tree id
  page_missing is = by (row_with id pages) there_in is
    where
      by : (o : Option Page) → has_page id tree ≡ is_some o → None ≡ option_map page_row o →
          Some (NoPage id) ≡ no_page tree id
      by None e h = rw e refl
      by (Some one) e h = absurd cc

-- nobody's lock stops nobody
unlocked : (stops : Stops) (caller : ℕ) → locked stops caller None ≡ None
unlocked StopsNobody caller = refl
unlocked StopsOthers caller = refl
unlocked StopsEveryone caller = refl

-- no moderation stops nobody
unmoderated : (stops : Stops) (rights : Rights) → in_moderation stops rights None ≡ None
unmoderated StopsNobody rights = refl
unmoderated StopsOthers rights = refl
unmoderated StopsEveryone rights = refl

-- nothing is an alias of nothing
no_alias : (alias : Bool) → aliased alias None ≡ None
no_alias true = refl
no_alias false = refl

-- whether a page of which this is kept is an alias
alias_kept : (alias : Bool) (body : Body) → alias_rule alias body.source ≡ aliased alias (Some body)
alias_kept false body = refl
alias_kept true body = by body.source refl
  where
    by : (source : Option ℕ) → body.source ≡ source →
        alias_rule true body.source ≡ aliased true (Some body)
    by None e = rw e refl
    by (Some source) e = rw e refl

module _ (part : TreePart) (caller : ℕ) (row : CommandRow) (page : ℕ) (named : row.page ≡ Some page)
  where
    -- nothing stops one at a page that is not there
    pub nothing_stops : body_of part.tree page ≡ None → None ≡ stops_of part caller row
    nothing_stops none =
        rw (
          named,
          view_is part page,
          none,
          unlocked row.lock caller,
          no_alias row.alias,
          unmoderated row.moderation (rights_of part caller),
        )
        refl

    -- what stops one at a page of which this is kept
    pub stops_at : (body : Body) → body_of part.tree page ≡ Some body →
        first_of
        (locked row.lock caller body.locked_by
        ∷ alias_rule row.alias body.source
        ∷ in_moderation row.moderation (rights_of part caller) (stage_of part body.moderation)
        ∷ [])
        ≡ stops_of part caller row
    stops_at body kept =
        rw (named, view_is part page, kept, ← alias_kept row.alias body) refl

-- the first rule that refuses
pub first_refuses : (one : Option Refusal) (more : List (Option Refusal)) (refusal : Refusal) →
    Some refusal ≡ one → Some refusal ≡ first_of (one ∷ more)
first_refuses None more refusal is = absurd cc
first_refuses (Some other) more refusal is = is

-- the rules after one that does not refuse
pub later_refuses : (one result : Option Refusal) (more : List (Option Refusal)) → None ≡ one →
    result ≡ first_of more → result ≡ first_of (one ∷ more)
later_refuses None result more met is = is
later_refuses (Some other) result more met is = absurd cc

-- the only rule
pub only_refuses : (one result : Option Refusal) → result ≡ one → result ≡ first_of (one ∷ [])
only_refuses None result is = is
only_refuses (Some refusal) result is = is

-- what is answered of the first rule that refuses
told_first : (one : Option Refusal) (more : List (Option Refusal)) (refusal : Refusal) →
    Some refusal ≡ one → Err refusal ≡ rule_told (first_of (one ∷ more))
told_first None more refusal is = absurd cc
told_first (Some other) more refusal is =
    let same : refusal ≡ other = cc in ap Err same

-- and of those after one that does not
told_later : (one : Option Refusal) (more : List (Option Refusal)) → None ≡ one →
    rule_told (first_of more) ≡ rule_told (first_of (one ∷ more))
told_later None more met = refl
told_later (Some other) more met = absurd cc

-- a need that is not met denies
need_denies : (need : Option ℕ) (number : ℕ) → Err (need_with number) ≡ need_told need →
    Some (Denied number) ≡ option_map Denied need
need_denies None number is = absurd cc
need_denies (Some other) number is =
    let same : need_with number ≡ need_with other = cc in
    ap (λ (need : Need). Some (Denied need.number)) same

-- needs that are met do not
need_allows : (need : Option ℕ) → Ok tt ≡ need_told need → None ≡ option_map Denied need
need_allows None is = refl
need_allows (Some other) is = absurd cc

-- none of some pages is the root
none_root : (rooted : Bool) (pages : List ℕ) → rooted ≡ list_any (λ id. nat_eq id 1) pages →
    rooted ≡ false → None ≡ are_root pages
none_root rooted pages is fails = rw (← is, fails) refl

-- one of them is
some_root : (rooted : Bool) (pages : List ℕ) → rooted ≡ list_any (λ id. nat_eq id 1) pages →
    rooted ≡ true → Some IsRoot ≡ are_root pages
some_root rooted pages is holds = rw (← is, holds) refl

module _ (part : TreePart) (caller : ℕ) (command : Command) (row : CommandRow)
    (row_is : row ≡ row_of command) where
  -- the first rules by the command's row
  by_row : front_by part caller row (needs_of part caller command)
      ≡ front_rules part caller command
  unfolding front_rules
  by_row = ap (λ r. front_by part caller r (needs_of part caller command)) row_is

  -- a page that is missing refuses
  pub missing_refuses : (refusal : Refusal) → Some refusal ≡ no_pages part.tree row.named →
      Err refusal ≡ rule_told (front_rules part caller command)
  missing_refuses refusal is = told_first _ _ refusal is ∙ ap rule_told by_row

  module _ (there : None ≡ no_pages part.tree row.named) (rooted : Bool)
      (rooted_is : rooted ≡ list_any (λ id. nat_eq id 1) row.below_root) where
    -- the root refuses
    pub root_refuses : rooted ≡ true → Err IsRoot ≡ rule_told (front_rules part caller command)
    root_refuses holds =
        told_first _ _ IsRoot (some_root rooted row.below_root rooted_is holds)
        ∙ (told_later _ _ there ∙ ap rule_told by_row)

    -- a need refuses
    pub need_refuses : rooted ≡ false → (number : ℕ) →
        Err (need_with number) ≡ need_told (may part caller command) →
        Err (Denied number) ≡ rule_told (front_rules part caller command)
    need_refuses fails number is =
        told_first _ _ (Denied number) (need_denies (may part caller command) number is)
        ∙ (told_later _ _ (none_root rooted row.below_root rooted_is fails)
        ∙ (told_later _ _ there ∙ ap rule_told by_row))

    -- the page's lock, kind and moderation decide last
    pub stops_decide : rooted ≡ false → Ok tt ≡ need_told (may part caller command) →
        rule_told (stops_of part caller row) ≡ rule_told (front_rules part caller command)
    stops_decide fails is =
        told_later _ _ (need_allows (may part caller command) is)
        ∙ (told_later _ _ (none_root rooted row.below_root rooted_is fails)
        ∙ (told_later _ _ there ∙ ap rule_told by_row))
