-- Each field is what its call gave.
use Rattle.std.proofs.Common.{◌∙◌, ap, refl}
use Rattle.step_path.specs.Path.{path_text}
use Rattle.page_store.proofs.root.root_page.Goals as goal

pub returns : goal.returns
returns c = record {
  id_is = c.root-2.ensures;
  no_parent = c.none.ensures;
  not_counted = refl;
  path_is = c.in-Some.ensures.1 ∙ c.as_slice.ensures.value ∙ c.text.ensures.value ∙ ap path_text
      c.root.ensures;
  depth_is = refl;
  url_is = c.from_vec.ensures ∙ c.in_ok-url.ensures.items;
  no_slug = c.root-3.ensures;
  no_kids = refl;
  body_is = c.body_of_root.ensures;
}
