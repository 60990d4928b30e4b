-- A source in the making, over the fields of its maker.
use Rattle.std.specs.Prelude.{◌≡◌, ◌*◌, ◌≤◌, length, drop, All}
use Rattle.cdb_source.specs.declared.maker.SourceMaker.TheInside.{Inside}
use Rattle.cdb_source.specs.Posts.{IsPost}
use Rattle.cdb_source.specs.Made.{Making}

-- the rows that came stand after those that are due
abbrev pub making : Inside → Making
making maker = record {
  head = maker.head;
  due = maker.due;
  posts = drop (maker.due * maker.head.cols) maker.posts.items;
}

pub record IsSoundMaker (maker : Inside) : Type 0 where
  pub due : maker.due ≤ maker.head.rows
  pub count : length maker.posts.items ≡ maker.head.rows * maker.head.cols
  pub in_range : All (IsPost maker.head.kind) maker.posts.items
