-- A command is one event.
use Rattle.std.proofs.Common.{◌≡◌, ℕ, Result, Ok, ◌⊎◌, inl, inr, refl, ap, sym, subst, ◌∙◌}
use Rattle.cdb_grid.specs.declared.tile.Tile.{Tile}
use Rattle.cdb_model.specs.declared.name_error.NameError.{NameError}
use Rattle.cdb_model.specs.Commands as said
use Rattle.cdb_model.specs.Commands.{Command}
use Rattle.cdb_model.specs.Events as machine
use Rattle.cdb_model.specs.Events.{Event}
use Rattle.cdb_model.specs.Grammar as grammar
use Rattle.cdb_model.specs.Grammar.{Sentence}
use Rattle.cdb_model.specs.Maps.{FileMap}
use Rattle.cdb_model.specs.Names.{name, name_fields, FirstWrong}
use Rattle.cdb_model.specs.Runs.{Means}
use Rattle.cdb_model.specs.Text.{Text}
use Rattle.cdb_names.proofs.NameResults.{one_tile, one_wrong_in_name, none_in_name}
use Rattle.cdb_commands.specs.Settled.{has, OneEvent}

-- a request for a tile by a file name: the tile of that name, or the place at which the name is first wrong
abbrev IsRequest : ℕ → Text → Event → Type 0
IsRequest id file e =
    ((t : Tile) × ((e ≡ machine.tile_line id t) × (file ≡ name t)))
    ⊎ ((place : ℕ) × ((e ≡ machine.misnamed place) × FirstWrong name_fields file place))

-- the event that a command is, by the files
abbrev IsEvent : FileMap → Command → Event → Type 0
IsEvent files (said.said (grammar.inline w)) e = e ≡ machine.inline_line w
IsEvent files (said.said (grammar.source w)) e = e ≡ machine.source_line w (files w.path)
IsEvent files (said.said grammar.publish) e = e ≡ machine.publish_line
IsEvent files (said.said (grammar.step n)) e = e ≡ machine.step_line n
IsEvent files (said.said grammar.step_all) e = e ≡ machine.step_all_line
IsEvent files (said.said grammar.open_session) e = e ≡ machine.open_line
IsEvent files (said.said (grammar.tile id file)) e = IsRequest id file e
IsEvent files (said.said (grammar.close id)) e = e ≡ machine.close_line id
IsEvent files (said.said grammar.versions) e = e ≡ machine.versions_line
IsEvent files (said.said grammar.quit) e = ⊥
IsEvent files (said.said grammar.blank) e = ⊥
IsEvent files said.unreadable e = e ≡ machine.unreadable
IsEvent files said.overlong e = e ≡ machine.overlong

is_event : (files : FileMap) (command : Command) (e : Event) → Means (has files) e command → IsEvent files command e
is_event files command (machine.inline_line w) m = subst (λ c. IsEvent files c (machine.inline_line w)) (sym m) refl
is_event files command (machine.source_line w content) m = subst (λ c. IsEvent files c (machine.source_line w content))
    (sym m.0) (ap (machine.source_line w) (sym m.1))
is_event files command machine.publish_line m = subst (λ c. IsEvent files c machine.publish_line) (sym m) refl
is_event files command (machine.step_line n) m = subst (λ c. IsEvent files c (machine.step_line n)) (sym m) refl
is_event files command machine.step_all_line m = subst (λ c. IsEvent files c machine.step_all_line) (sym m) refl
is_event files command machine.open_line m = subst (λ c. IsEvent files c machine.open_line) (sym m) refl
is_event files command (machine.tile_line id t) m = subst (λ c. IsEvent files c (machine.tile_line id t)) (sym m)
    (inl (t, (refl, refl)))
is_event files command (machine.close_line id) m = subst (λ c. IsEvent files c (machine.close_line id)) (sym m) refl
is_event files command machine.versions_line m = subst (λ c. IsEvent files c machine.versions_line) (sym m) refl
is_event files command machine.overlong m = subst (λ c. IsEvent files c machine.overlong) (sym m) refl
is_event files command machine.unreadable m = subst (λ c. IsEvent files c machine.unreadable) (sym m) refl
is_event files command (machine.misnamed place) m = subst (λ c. IsEvent files c (machine.misnamed place)) (sym m.says)
    (inr (place, (refl, m.wrong)))

one_request : (id : ℕ) (file : Text) (a b : Event) → IsRequest id file a → IsRequest id file b → a ≡ b
one_request id file a b (inl p) (inl q) = p.1.0 ∙ ap (machine.tile_line id) (one_tile p.0 q.0 (sym p.1.1 ∙ q.1.1))
    ∙ sym q.1.0
one_request id file a b (inl p) (inr q) =
    absurd (none_in_name p.0 q.0 (subst (λ (x : Text). FirstWrong name_fields x q.0) p.1.1 q.1.1))
one_request id file a b (inr p) (inl q) =
    absurd (none_in_name q.0 p.0 (subst (λ (x : Text). FirstWrong name_fields x p.0) q.1.1 p.1.1))
one_request id file a b (inr p) (inr q) = p.1.0 ∙ ap machine.misnamed (one_wrong_in_name file p.0 q.0 p.1.1 q.1.1)
    ∙ sym q.1.0

same : (files : FileMap) (command : Command) (a b : Event) → IsEvent files command a → IsEvent files command b → a ≡ b
same files (said.said (grammar.inline w)) a b p q = p ∙ sym q
same files (said.said (grammar.source w)) a b p q = p ∙ sym q
same files (said.said grammar.publish) a b p q = p ∙ sym q
same files (said.said (grammar.step n)) a b p q = p ∙ sym q
same files (said.said grammar.step_all) a b p q = p ∙ sym q
same files (said.said grammar.open_session) a b p q = p ∙ sym q
same files (said.said (grammar.tile id file)) a b p q = one_request id file a b p q
same files (said.said (grammar.close id)) a b p q = p ∙ sym q
same files (said.said grammar.versions) a b p q = p ∙ sym q
same files (said.said grammar.quit) a b p q = absurd p
same files (said.said grammar.blank) a b p q = absurd p
same files said.unreadable a b p q = p ∙ sym q
same files said.overlong a b p q = p ∙ sym q

pub one_event : OneEvent
one_event files command a b p q = same files command a b (is_event files command a p) (is_event files command b q)
