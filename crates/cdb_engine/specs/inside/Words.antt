-- Inside the crate: the words of a source's head, and a source whose rows come one after another.
use Rattle.std.specs.Prelude.{◌≡◌, ℕ, ◌+◌, ℤ, List, map}
use Rattle.cdb_source.specs.Made.{Making}
use Rattle.cdb_source.specs.Posts.{post_of}
use Rattle.cdb_source.specs.declared.head.SourceHead.{SourceHead}
use Rattle.cdb_model.specs.Text.{last_first}

-- so many rows came, the north row first
pub record HasRows (head : SourceHead) (novalue : ℤ) (row : ℕ → List ℤ) (count : ℕ) (maker : Making) : Type 0 where
  pub head_is : maker.head ≡ head
  pub due : maker.due + count ≡ head.rows
  pub posts : maker.posts ≡ map (post_of head.kind novalue) (last_first count row)
