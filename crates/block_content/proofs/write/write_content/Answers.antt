-- What is written of a content is its form, and so it is read as the content.
use Rattle.std.proofs.Common.{◌≡◌, All, map, ap, ◌∙◌}
use Rattle.serde_json.specs.Data.{string, array, no_members}
use Rattle.serde_json.specs.View.{view, items_of, members_view}
use Rattle.serde_json.proofs.Views.{view-Object}
use Rattle.json_model.specs.Content.{block_data, content_of}
use Rattle.json_model.specs.Limits.{LinksToId}
use Rattle.json_model.proofs.ContentLemmas.{reads_back}
use Rattle.block_content.proofs.WriteLemmas.{both_are_put}
use Rattle.block_content.proofs.write.write_content.Goals as goal

pub returns-clause-reads_back : goal.returns-clause-reads_back
returns-clause-reads_back c =
    let content = c.args.content.now in
    let none : members_view c.new-members.result.entries ≡ no_members =
    ap members_view c.new-members.ensures.empty in
    let blocks : c.as_slice.result.now ≡ content.blocks =
    cc (c.as_slice.ensures, c.blocks-2.ensures.value) in
    let written : view c.in_ok-blocks.blocks ≡ array (items_of (map block_data content.blocks)) =
    rw blocks at c.in_ok-blocks.ensures.form in
    let title : view c.in_ok-title.title ≡ string content.title =
    cc (c.in_ok-title.ensures, c.as_str.ensures, c.title.ensures.value) in
    let both = both_are_put content _ _ _ _ _ none c.in_ok-put.ensures.ok
    c.in_ok-put-2.ensures.ok written title in
    let form = view-Object c.put-2.new.map ∙ both in
    let links : All LinksToId content.blocks = rw blocks at c.in_ok-blocks.ensures.links in
    ap content_of form ∙ reads_back content c.title.ensures.fits links
