-- What an event, and the steps after a line, may change of the publications: nothing, or one is begun, or steps of one
-- are made.
use Rattle.std.proofs.Common.{◌≡◌, ℕ, ◌+◌, inl, inr, List, [], ◌∷◌, ◌++◌, length, IsSome, refl, ap, ap₂, ◌∙◌}
use Rattle.cdb_grid.specs.declared.tile.Tile.{Tile}
use Rattle.cdb_model.specs.Events as machine
use Rattle.cdb_model.specs.Events.{Event, Answer, IsLong, IsSyntax, IsName}
use Rattle.cdb_model.specs.Grammar.{InlineSource, FileSource}
use Rattle.cdb_model.specs.Maps.{Content}
use Rattle.cdb_model.specs.Text.{Text}
use Rattle.cdb_model.specs.KnownStore.{KnownState, Begun, InlineLine, SourceLine, PublishLine, StepLine, StepAllLine, OpenLine, TileLine, CloseLine, VersionsLine, Step}
use Rattle.cdb_model.specs.MachineLaws.{AreMadeIn}
use Rattle.cdb_model.specs.Runs as run
use Rattle.cdb_model.specs.Runs.{Item, Passes, behind}
use Rattle.cdb_model.specs.Sessions.{without}
use Rattle.cdb_model.specs.Stores.{known_store, known}
use Rattle.cdb_model.proofs.ManySteps.{many_steps}

-- what becomes of the sessions: they are as before, or one of the newest version is opened, or those of a number are
-- closed
pub data Seats (old new : KnownState) : Type 0 where
  sits : new.sessions ≡ old.sessions → new.opened ≡ old.opened → Seats old new
  opens : new.sessions ≡ old.sessions ++ record { id = old.opened + 1; version = length old.list } ∷ []
      → new.opened ≡ old.opened + 1 → Seats old new
  closes : (id : ℕ) → new.sessions ≡ without id old.sessions → new.opened ≡ old.opened → Seats old new

pub same_seats : (old mid new : KnownState) → mid.sessions ≡ old.sessions → mid.opened ≡ old.opened → new ≡ mid
    → Seats old new
same_seats old mid new a b e = sits (ap (λ (s : KnownState). s.sessions) e ∙ a)
    (ap (λ (s : KnownState). s.opened) e ∙ b)

-- the publications are as before
pub record Same (old new : KnownState) : Type 0 where
  pub list : new.list ≡ old.list
  pub going : new.going ≡ old.going
  pub halted : new.halted ≡ old.halted
  pub seats : Seats old new

same : (old new : KnownState) → new ≡ old → Same old new
same old new e = record {
  list = ap (λ (s : KnownState). s.list) e;
  going = ap (λ (s : KnownState). s.going) e;
  halted = ap (λ (s : KnownState). s.halted) e;
  seats = same_seats old old new refl refl e;
}

-- an answer that neither begins a publication nor says that one is complete; `halted` is said by a halted writer alone,
-- and what is said of a damaged file, or of steps that no line asked for, isn't said to a line
abbrev pub IsQuiet : KnownState → Answer → Type 0
IsQuiet s (machine.begun version files) = ⊥
IsQuiet s (machine.published version) = ⊥
IsQuiet s machine.halted = IsSome s.halted
IsQuiet s (machine.damaged expected found) = ⊥
IsQuiet s machine.late_fault = ⊥
IsQuiet s (machine.late_damaged expected found) = ⊥
IsQuiet s _ = Unit {0}

pub data Changes (old : KnownState) (answer : Answer) (new : KnownState) : Type 0 where
  stays : IsQuiet old answer → Same old new → Changes old answer new
  begins : (version files : ℕ) → answer ≡ machine.begun version files → Begun old version files new
      → Changes old answer new
  makes : (count : ℕ) → AreMadeIn known_store count old answer new → Changes old answer new

gives : (old new : KnownState) (w : InlineSource) (answer : Answer) → InlineLine old w answer new
    → Changes old answer new
gives old new w (machine.source n) g =
    stays tt record {
      list = ap (λ (s : KnownState). s.list) g.next;
      going = ap (λ (s : KnownState). s.going) g.next;
      halted = ap (λ (s : KnownState). s.halted) g.next;
      seats = same_seats old _ new refl refl g.next;
    }
gives old new w machine.halted g = stays g.0 (same old new g.1)
gives old new w machine.busy g = stays tt (same old new g.1)
gives old new w machine.full g = stays tt (same old new g.1)
gives old new w machine.range g = stays tt (same old new g.2)
gives old new w machine.memory g = stays tt (same old new g.1)
gives old new w _ g = absurd g

loads : (old new : KnownState) (w : FileSource) (content : Content) (answer : Answer)
    → SourceLine old w content answer new
    → Changes old answer new
loads old new w content (machine.source n) g =
    let next = g.gains.next in
    stays tt record {
      list = ap (λ (s : KnownState). s.list) next;
      going = ap (λ (s : KnownState). s.going) next;
      halted = ap (λ (s : KnownState). s.halted) next;
      seats = same_seats old _ new refl refl next;
    }
loads old new w content machine.halted g = stays g.0 (same old new g.1)
loads old new w content machine.busy g = stays tt (same old new g.1)
loads old new w content machine.full g = stays tt (same old new g.1)
loads old new w content machine.shelf g = stays tt (same old new g.1)
loads old new w content machine.absent g = stays tt (same old new g.2)
loads old new w content machine.too_big g = stays tt (same old new g.2)
loads old new w content (machine.input cause) g = stays tt (same old new g.2)
loads old new w content machine.range g = stays tt (same old new g.2)
loads old new w content machine.memory g = stays tt (same old new g.1)
loads old new w content _ g = absurd g

publishes : (old new : KnownState) (answer : Answer) → PublishLine old answer new → Changes old answer new
publishes old new (machine.begun version files) g = begins version files refl g
publishes old new machine.halted g = stays g.0 (same old new g.1)
publishes old new machine.busy g = stays tt (same old new g.1)
publishes old new machine.nothing g = stays tt (same old new g.2)
publishes old new (machine.large load) g = stays tt (same old new g.3)
publishes old new (machine.entries count) g = stays tt (same old new g.1)
publishes old new machine.full_of_versions g = stays tt (same old new g.1)
publishes old new machine.memory g = stays tt (same old new g.1)
publishes old new _ g = absurd g

hastens : (old new : KnownState) (n : ℕ) (answer : Answer) → StepLine old n answer new → Changes old answer new
hastens old new n machine.halted g = stays g.0 (same old new g.1)
hastens old new n machine.nothing g = stays tt (same old new g.1)
hastens old new n machine.range g = stays tt (same old new g.2)
hastens old new n answer g = makes n (many_steps known n old answer new g.2)

completes : (old new : KnownState) (answer : Answer) → StepAllLine old answer new → Changes old answer new
completes old new machine.halted g = stays g.0 (same old new g.1)
completes old new machine.nothing g = stays tt (same old new g.1)
completes old new answer g = makes g.0 (many_steps known g.0 old answer new g.3)

connects : (old new : KnownState) (answer : Answer) → OpenLine old answer new → Changes old answer new
connects old new (machine.session id version) g =
    let sessions : new.sessions ≡ old.sessions ++ record { id = old.opened + 1; version = length old.list } ∷ [] =
    ap (λ (s : KnownState). s.sessions) g.next
    ∙ ap₂ (λ i v. old.sessions ++ record { id = i; version = v } ∷ []) g.id_is g.version_is in
    stays tt record {
      list = ap (λ (s : KnownState). s.list) g.next;
      going = ap (λ (s : KnownState). s.going) g.next;
      halted = ap (λ (s : KnownState). s.halted) g.next;
      seats = opens sessions (ap (λ (s : KnownState). s.opened) g.next ∙ g.id_is);
    }
connects old new machine.many g = stays tt (same old new g.1)
connects old new machine.memory g = stays tt (same old new g.1)
connects old new _ g = absurd g

asks : (old new : KnownState) (id : ℕ) (t : Tile) (answer : Answer) → TileLine old id t answer new
    → Changes old answer new
asks old new id t (machine.tile bytes) g = stays tt (same old new g.1)
asks old new id t machine.missing g = stays tt (same old new g.1)
asks old new id t machine.unknown g = stays tt (same old new g.1)
asks old new id t machine.fault g = stays tt (same old new g.1)
asks old new id t _ g = absurd g

disconnects : (old new : KnownState) (id : ℕ) (answer : Answer) → CloseLine old id answer new → Changes old answer new
disconnects old new id machine.closed g =
    stays tt record {
      list = ap (λ (s : KnownState). s.list) g.1;
      going = ap (λ (s : KnownState). s.going) g.1;
      halted = ap (λ (s : KnownState). s.halted) g.1;
      seats = closes id (ap (λ (s : KnownState). s.sessions) g.1) (ap (λ (s : KnownState). s.opened) g.1);
    }
disconnects old new id machine.unknown g = stays tt (same old new g.1)
disconnects old new id _ g = absurd g

tells : (old new : KnownState) (answer : Answer) → VersionsLine old answer new → Changes old answer new
tells old new (machine.versions count) g = stays tt (same old new g.1)
tells old new _ g = absurd g

long_quiet : (s : KnownState) (answer : Answer) → IsLong answer → IsQuiet s answer
long_quiet s machine.long h = tt
long_quiet s _ h = absurd h

syntax_quiet : (s : KnownState) (answer : Answer) → IsSyntax answer → IsQuiet s answer
syntax_quiet s machine.syntax h = tt
syntax_quiet s _ h = absurd h

name_quiet : (s : KnownState) (place : ℕ) (answer : Answer) → IsName place answer → IsQuiet s answer
name_quiet s place (machine.name at) h = tt
name_quiet s place _ h = absurd h

pub step_changes : (old new : KnownState) (event : Event) (answer : Answer) → Step old event answer new
    → Changes old answer new
step_changes old new (machine.inline_line w) answer step = gives old new w answer step
step_changes old new (machine.source_line w content) answer step = loads old new w content answer step
step_changes old new machine.publish_line answer step = publishes old new answer step
step_changes old new (machine.step_line n) answer step = hastens old new n answer step
step_changes old new machine.step_all_line answer step = completes old new answer step
step_changes old new machine.open_line answer step = connects old new answer step
step_changes old new (machine.tile_line id t) answer step = asks old new id t answer step
step_changes old new (machine.close_line id) answer step = disconnects old new id answer step
step_changes old new machine.versions_line answer step = tells old new answer step
step_changes old new machine.overlong answer step = stays (long_quiet old answer step.0) (same old new step.1)
step_changes old new machine.unreadable answer step = stays (syntax_quiet old answer step.0) (same old new step.1)
step_changes old new (machine.misnamed place) answer step =
    stays (name_quiet old place answer step.0) (same old new step.1)

-- what an item says of the publications: the answer to a line, or of steps that no line asked for what is said of these
pub data Moves (old : KnownState) (answers : List Answer) (new : KnownState) : Type 0 where
  by_line : (answer : Answer) → answers ≡ answer ∷ [] → Changes old answer new → Moves old answers new
  by_steps : (count : ℕ) (answer : Answer) → answers ≡ behind answer → AreMadeIn known_store count old answer new
      → Moves old answers new

pub passes_moves : (Has : Text → Content → Type 0) (old new : KnownState) (item : Item) (answers : List Answer)
    → Passes Has old item answers new → Moves old answers new
passes_moves Has old new (run.line command) answers p =
    by_line p.answer p.answers_are (step_changes old new p.turn.event p.answer p.turn.step)
passes_moves Has old new (run.late most) answers p =
    by_steps most p.answer p.answers_are (many_steps known most old p.answer new p.makes)

-- what an item does to the sessions
made_seats : (count : ℕ) (old new : KnownState) (answer : Answer) → AreMadeIn known_store count old answer new
    → Seats old new
made_seats count old new machine.going (inl g) = same_seats old old new refl refl g.1
made_seats count old new machine.going (inr g) = same_seats old _ new refl refl g.next
made_seats count old new (machine.published version) g = same_seats old _ new refl refl g.next
made_seats count old new machine.fault g = same_seats old _ new refl refl g.next
made_seats count old new _ g = absurd g

changes_seats : (old new : KnownState) (answer : Answer) → Changes old answer new → Seats old new
changes_seats old new answer (stays quiet same) = same.seats
changes_seats old new answer (begins version files is b) = same_seats old _ new refl refl b.next
changes_seats old new answer (makes count m) = made_seats count old new answer m

pub moves_seats : (old new : KnownState) (answers : List Answer) → Moves old answers new → Seats old new
moves_seats old new answers (by_line answer is c) = changes_seats old new answer c
moves_seats old new answers (by_steps count answer is m) = made_seats count old new answer m
