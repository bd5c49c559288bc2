-- Contents that may be joined.
use Rattle.std.specs.Prelude.{◌≡◌, ◌⊎◌, List, []}
use Rattle.std.specs.List.{All}
use Rattle.alta_content.specs.declared.content.Content.{Content}
use Rattle.alta_content.specs.Joining.{rows_in}
use Rattle.alta_content.specs.Lists.{IsContent}
use Rattle.alta_content.specs.Rows.{AreDocuments}

-- neither rows nor terms
pub record IsEmpty (content : Content) : Type 0 where
  pub documents : content.documents ≡ []
  pub lists : content.lists ≡ []

-- a level's content, or an empty one
abbrev pub IsPart : Content → Type 0
IsPart content = IsContent content ⊎ IsEmpty content

-- each is a level's content or empty, and their documents rise, one content behind the other
pub record MayJoin (contents : List Content) : Type 0 where
  pub parts : All IsPart contents
  pub documents : AreDocuments (rows_in contents)
