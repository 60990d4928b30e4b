-- How a run comes further: one byte, one line, one answer.
use Rattle.std.proofs.Common.{◌≡◌, ◌≢◌, ℕ, ◌+◌, ◌<◌, ◌≤◌, List, [], ◌∷◌, ◌++◌, length, suc, take, drop, get_or, Option, None, Some, refl, ap, sym, ◌∙◌, append_assoc, append-nil, subst, arith}
use Rattle.std.specs.List.{flat_map, AllByRecursion}
use Rattle.std.proofs.lemmas.Grind.{flat_map-append}
use Rattle.std.proofs.Math.Seq.{split_at}
use Rattle.std.specs.Io.KnownBytes.{Appends}
use Rattle.std.proofs.KnownBytes.{Appends-trans}
use Rattle.cdb_model.specs.AnswerTexts.{text_of_answer, texts_of, shelf_fault, disk_fault, tally}
use Rattle.cdb_model.specs.Commands as said
use Rattle.cdb_model.specs.Commands.{Command, line_command}
use Rattle.cdb_model.specs.Events as machine
use Rattle.cdb_model.specs.Grammar as grammar
use Rattle.cdb_model.specs.Grammar.{sentence_in}
use Rattle.cdb_model.specs.Images.{Base}
use Rattle.cdb_model.specs.KnownStore.{KnownState, start_at}
use Rattle.cdb_model.specs.Lines.{Cut, HasNoFeed, HaveNoFeed, HaveNoQuit}
use Rattle.cdb_model.specs.Maps.{Content, FileMap}
use Rattle.cdb_model.specs.Runs as run
use Rattle.cdb_model.specs.Runs.{TurnIn, behind, Item, RunIn, Passes, PassesIn, due, items_in, items_of}
use Rattle.cdb_model.specs.Stores.{Kind, Which, known, any, store_kind, known_store, any_store}
use Rattle.cdb_model.specs.Text.{Text, ended}
use Rattle.cdb_model.specs.Transitions.{StateIn, MakesIn}
use Rattle.cdb_model.specs.declared.line.Line.{Line}
use Rattle.cdb_model.specs.declared.line.Line.TheVariants as line
use Rattle.cdb_model.proofs.BegunLaws.{tally-append}
use Rattle.cdb_front.specs.AnswerMeanings.{meant, IsQuiet}
use Rattle.cdb_front.specs.DamagedSizes.{AnswerFindsOther}
use Rattle.cdb_front.specs.Devices.{WritesPart}
use Rattle.cdb_engine.specs.Tracks.{Leads}
use Rattle.cdb_front.specs.Hearing.{IsEvent, IsAnswered, SaysAsked}
use Rattle.cdb_front.specs.Kept.{kept_of}
use Rattle.cdb_front.specs.RunProgress.{Sight, RunStart, Holds, Runs, EndsByAnswer, base_of, Told, Torn, RunSoFar, Answered, IsQuit, IsNotQuit, TakesLine, UpTo}
use Rattle.cdb_front.specs.inside.RunProgress.{TornIn, Speaks, Stammers, SpeaksFed, TellsFed}
use Rattle.cdb_front.specs.Stepping.{Counts}
use Rattle.cdb_front.specs.declared.answers.Answer.{Answer}
use Rattle.cdb_front.specs.declared.answers.Answer.TheVariants as answer
use Rattle.cdb_front.specs.declared.heard.Asked.{Asked}
use Rattle.cdb_front.specs.declared.heard.Asked.TheVariants as asked
use Rattle.cdb_front.specs.declared.fed.Fed.{Fed}
use Rattle.cdb_front.specs.declared.fed.Fed.TheVariants as fed

-- ---- runs

-- a run goes on by one item
pub Run-more : (k : Kind) (Has : Text → Content → Type 0) (old mid new : StateIn k) (items : List Item) (item : Item)
    (answers now : List machine.Answer)
    → RunIn k Has old items answers mid → PassesIn k Has mid item now new
    → RunIn k Has old (items ++ item ∷ []) (answers ++ now) new
Run-more k Has old mid new [] item answers now r passes =
    record {
      mid = new;
      now = now;
      later = [];
      answers_are = ap (λ l. l ++ now) r.0 ∙ sym (append-nil now);
      passes = subst (λ (s : StateIn k). PassesIn k Has s item now new) r.1 passes;
      rest = (refl, refl);
    }
Run-more k Has old mid new (i ∷ items) item answers now r passes =
    record {
      mid = r.mid;
      now = r.now;
      later = r.later ++ now;
      answers_are = ap (λ l. l ++ now) r.answers_are ∙ append_assoc r.now r.later now;
      passes = r.passes;
      rest = Run-more k Has r.mid mid new items item r.later now r.rest passes;
    }

-- one item more, and the state to which it comes
leads_more : (k : Kind) (Has : Text → Content → Type 0) (old : StateIn k) (items : List Item) (item : Item)
    (answers now : List machine.Answer) (Now New : StateIn k → Type 0)
    → Leads (RunIn k Has old items answers) Now → ((s : StateIn k) → Now s → Leads (PassesIn k Has s item now) New)
    → Leads (RunIn k Has old (items ++ item ∷ []) (answers ++ now)) New
leads_more k Has old items item answers now Now New run on =
    let led = on run.next run.now in
    record {
      next = led.next;
      step = Run-more k Has old run.next led.next items item answers now run.step led.step;
      now = led.now;
    }

-- one item more, which gives one answer
leads_last : (k : Kind) (Has : Text → Content → Type 0) (old : StateIn k) (items : List Item) (item : Item)
    (answers : List machine.Answer) (answer : machine.Answer) (Now New : StateIn k → Type 0)
    → Leads (RunIn k Has old items answers) Now
    → ((s : StateIn k) → Now s → Leads (PassesIn k Has s item (answer ∷ [])) New)
    → Leads (RunIn k Has old (items ++ item ∷ []) (answers ++ answer ∷ []))
    (λ s. New s × EndsByAnswer k Has old (items ++ item ∷ []) (answers ++ answer ∷ []) s)
leads_last k Has old items item answers answer Now New run on =
    let led = on run.next run.now in
    record {
      next = led.next;
      step = Run-more k Has old run.next led.next items item answers (answer ∷ []) run.step led.step;
      now = (
        led.now,
        record {
          before = items;
          item = item;
          items_are = refl;
          whole = answers;
          answer = answer;
          answers_are = refl;
          mid = run.next;
          run = run.step;
          passes = led.step;
        },
      );
    }

Runs-more : (Has : Text → Content → Type 0) (from : Option Base) (items : List Item) (item : Item)
    (answers now : List machine.Answer) (Now New : KnownState → Type 0)
    → Runs Has from items answers Now → ((s : KnownState) → Now s → Leads (Passes Has s item now) New)
    → Runs Has from (items ++ item ∷ []) (answers ++ now) New
Runs-more Has None items item answers now Now New runs on = tt
Runs-more Has (Some base) items item answers now Now New runs on =
    leads_more known_store Has (start_at base.list) items item answers now Now New runs on

Runs-last : (Has : Text → Content → Type 0) (from : Option Base) (items : List Item) (item : Item)
    (answers : List machine.Answer) (answer : machine.Answer) (Now New : KnownState → Type 0)
    → Runs Has from items answers Now → ((s : KnownState) → Now s → Leads (Passes Has s item (answer ∷ [])) New)
    → Runs Has from (items ++ item ∷ []) (answers ++ answer ∷ [])
    (λ s. New s × EndsByAnswer known_store Has (start_at (base_of from).list) (items ++ item ∷ [])
    (answers ++ answer ∷ []) s)
Runs-last Has None items item answers answer Now New runs on = tt
Runs-last Has (Some base) items item answers answer Now New runs on =
    leads_last known_store Has (start_at base.list) items item answers answer Now New runs on

-- ---- texts and counts

texts_of-more : (answers now : List machine.Answer) → texts_of (answers ++ now) ≡ texts_of answers ++ texts_of now
texts_of-more answers now = flat_map-append text_of_answer answers now

Counts-more : (kind : machine.Answer → ℕ) (before since now : ℕ) (answers more : List machine.Answer)
    → Counts kind before since answers → Counts kind since now more → Counts kind before now (answers ++ more)
Counts-more kind before since now answers more first second short =
    let later : since + tally kind more ≤ now = second short in
    let earlier : before + tally kind answers ≤ since = first (omega arith) in
    let sum = tally-append kind answers more in
    omega (arith, sum)

all_more : (P : machine.Answer → Type 0) (answers more : List machine.Answer) → AllByRecursion P answers
    → AllByRecursion P more → AllByRecursion P (answers ++ more)
all_more P [] more first second = second
all_more P (a ∷ answers) more first second = (first.0, all_more P answers more first.1 second)

-- ---- one item more

pub told_more : {tells : Type 0} {e : RunStart} {items : List Item} {written : Option (List ℕ)} {shelf disk : ℕ}
    {Old : Sight} {item : Item} {now : Option (List ℕ)} {shelf' disk' : ℕ} {New : Sight}
    → Told tells e items written shelf disk Old → Speaks tells e.files item written now shelf shelf' disk disk' Old New
    → Told tells e (items ++ item ∷ []) now shelf' disk' New
told_more {tells = tells} {e = e} {items = items} {written = written} {shelf = shelf} {disk = disk} {Old = Old}
    {item = item} {now = now} {shelf' = shelf'} {disk' = disk'} {New = New} told speaks =
    record {
      answers = told.answers ++ speaks.answers;
      run = Runs-more (Holds tells e.files) e.from items item told.answers speaks.answers (Old known) (New known)
          told.run (speaks.passes known);
      order = leads_more any_store (Holds tells e.files) e.start items item told.answers speaks.answers (Old any)
          (New any) told.order (speaks.passes any);
      shelf_counted = Counts-more shelf_fault e.shelf shelf shelf' told.answers speaks.answers told.shelf_counted
          speaks.shelf_counted;
      disk_counted = Counts-more disk_fault e.disk disk disk' told.answers speaks.answers told.disk_counted
          speaks.disk_counted;
      other = all_more AnswerFindsOther told.answers speaks.answers told.other speaks.other;
      appended = subst (Appends e.written now) (sym (texts_of-more told.answers speaks.answers))
          (Appends-trans e.written written now (texts_of told.answers) (texts_of speaks.answers) told.appended
          speaks.written);
    }

pub told_torn : {tells : Type 0} {e : RunStart} {items : List Item} {written : Option (List ℕ)} {shelf disk : ℕ}
    {Old : Sight} {item : Item} {now : Option (List ℕ)} {shelf' disk' : ℕ} {New : Sight}
    → Told tells e items written shelf disk Old
    → Stammers tells e.files item written now shelf shelf' disk disk' Old New
    → Torn tells e (items ++ item ∷ []) now shelf' disk' New
told_torn {tells = tells} {e = e} {items = items} {written = written} {shelf = shelf} {disk = disk} {Old = Old}
    {item = item} {now = now} {shelf' = shelf'} {disk' = disk'} {New = New} told speaks =
    record {
      whole = told.answers;
      answer = speaks.answer;
      run = Runs-last (Holds tells e.files) e.from items item told.answers speaks.answer (Old known) (New known)
          told.run (speaks.passes known);
      order = leads_last any_store (Holds tells e.files) e.start items item told.answers speaks.answer (Old any)
          (New any) told.order (speaks.passes any);
      shelf_counted = Counts-more shelf_fault e.shelf shelf shelf' told.answers (speaks.answer ∷ []) told.shelf_counted
          speaks.shelf_counted;
      disk_counted = Counts-more disk_fault e.disk disk disk' told.answers (speaks.answer ∷ []) told.disk_counted
          speaks.disk_counted;
      other = all_more AnswerFindsOther told.answers (speaks.answer ∷ []) told.other (speaks.other, tt);
      part = speaks.written.part;
      unwritten = speaks.written.rest;
      joined = speaks.written.joined;
      short = speaks.written.short;
      appended = Appends-trans e.written written now (texts_of told.answers) speaks.written.part told.appended
          speaks.written.appended;
    }

-- a line and then the steps after it: both written, or the line's answer not whole, or that of the steps not whole
pub both_told : {tells : Type 0} {e : RunStart} {items : List Item} {written : Option (List ℕ)} {shelf disk : ℕ}
    {Old : Sight} (item trail : Item)
    (result : Fed) {w : Option (List ℕ)} (w' : Option (List ℕ)) {shelf' disk' : ℕ} (shelf'' disk'' : ℕ)
    {Mid : Sight} (New : Sight)
    → Told tells e items written shelf disk Old → Speaks tells e.files item written w shelf shelf' disk disk' Old Mid
    → SpeaksFed tells e.files result trail w w' shelf' shelf'' disk' disk'' Mid New
    → TellsFed tells e result items (item ∷ trail ∷ []) w' shelf'' disk'' New
both_told {tells = tells} {e = e} {items = items} item trail fed.More w' shelf'' disk'' New told first second =
    subst (λ (l : List Item). Told tells e l w' shelf'' disk'' New) (append_assoc items (item ∷ []) (trail ∷ []))
    (told_more (told_more told first) second)
both_told item trail fed.Quit w' shelf'' disk'' New told first second = absurd second
both_told {tells = tells} {e = e} {items = items} item trail fed.Failed w' shelf'' disk'' New told first second =
    record {
      first = item;
      made = trail ∷ [];
      unmade = [];
      joined = refl;
      torn = subst (λ (l : List Item). Torn tells e l w' shelf'' disk'' New)
          (append_assoc items (item ∷ []) (trail ∷ [])) (told_torn (told_more told first) second);
    }

pub first_torn : {tells : Type 0} {e : RunStart} {items : List Item} {written : Option (List ℕ)} {shelf disk : ℕ}
    {Old : Sight} (item trail : Item)
    {w : Option (List ℕ)} {shelf' disk' : ℕ} {New : Sight}
    → Told tells e items written shelf disk Old → Stammers tells e.files item written w shelf shelf' disk disk' Old New
    → TornIn tells e items (item ∷ trail ∷ []) w shelf' disk' New
first_torn item trail told first = record {
  first = item;
  made = [];
  unmade = trail ∷ [];
  joined = refl;
  torn = told_torn told first;
}

-- ---- items of lines

items_of-more : (most : ℕ) (lines : List Text) (line : Text)
    → items_of most (lines ++ line ∷ []) ≡ items_of most lines ++ items_in most (line_command line)
items_of-more most lines line =
    flat_map-append (λ l. items_in most (line_command l)) lines (line ∷ [])
    ∙ ap (λ l. items_of most lines ++ l) (append-nil (items_in most (line_command line)))

-- a command that is neither blank nor `quit` is a line and the steps after it
items_alone : (most : ℕ) (command : Command) → command ≢ said.blank_line → command ≢ said.quit
    → items_in most command ≡ run.line command ∷ run.late (due most command) ∷ []
items_alone most (said.said (grammar.inline w)) a b = refl
items_alone most (said.said (grammar.source w)) a b = refl
items_alone most (said.said grammar.publish) a b = refl
items_alone most (said.said (grammar.step n)) a b = refl
items_alone most (said.said grammar.step_all) a b = refl
items_alone most (said.said grammar.open_session) a b = refl
items_alone most (said.said (grammar.tile id file)) a b = refl
items_alone most (said.said (grammar.close id)) a b = refl
items_alone most (said.said grammar.versions) a b = refl
items_alone most (said.said grammar.quit) a b = absurd (b refl)
items_alone most (said.said grammar.blank) a b = absurd (a refl)
items_alone most said.unreadable a b = refl
items_alone most said.overlong a b = refl

-- ---- one line

-- a line that is no event of the machine: blank, or `quit`
silent : {tells : Type 0} {e : RunStart} (P : Text → Type 0) {read : Text} {written : Option (List ℕ)} {shelf disk : ℕ}
    {Now : Sight} {kept : Option (List ℕ)} (s : RunSoFar tells e read written shelf disk Now kept)
    → items_in e.most (line_command s.rest) ≡ [] → P s.rest → Answered tells e P read written shelf disk Now
silent {tells = tells} {e = e} P {written = written} {shelf = shelf} {disk = disk} {Now = Now} s none last =
    let same : items_of e.most s.lines ≡ items_of e.most (s.lines ++ s.rest ∷ []) =
    sym (items_of-more e.most s.lines s.rest ∙ ap (λ l. items_of e.most s.lines ++ l) none
    ∙ append-nil (items_of e.most s.lines)) in
    record {
      lines = s.lines;
      rest = s.rest;
      cut = s.cut;
      no_quit = s.no_quit;
      told = subst (λ (l : List Item). Told tells e l written shelf disk Now) same s.told;
      last = last;
    }

pub line_blank : {tells : Type 0} {e : RunStart} {read : Text} {written : Option (List ℕ)}
    {shelf disk : ℕ} {Now : Sight}
    {kept : Option (List ℕ)}
    → ((rest : Text) → kept ≡ kept_of rest → line_command rest ≡ said.blank_line)
    → RunSoFar tells e read written shelf disk Now kept → Answered tells e IsNotQuit read written shelf disk Now
line_blank {e = e} read_as s =
    let is = read_as s.rest s.kept_is in
    silent IsNotQuit s (ap (λ (c : Command). items_in e.most c) is)
    (λ q. let no : said.blank_line ≡ said.quit = sym is ∙ q in cc)

pub line_quit : {tells : Type 0} {e : RunStart} {read : Text} {written : Option (List ℕ)} {shelf disk : ℕ} {Now : Sight}
    {kept : Option (List ℕ)}
    → ((rest : Text) → kept ≡ kept_of rest → line_command rest ≡ said.quit)
    → RunSoFar tells e read written shelf disk Now kept → Answered tells e IsQuit read written shelf disk Now
line_quit {e = e} read_as s = let is = read_as s.rest s.kept_is in silent IsQuit s
    (ap (λ (c : Command). items_in e.most c) is) is

-- a line that is answered is neither blank nor `quit`
line_stands : (l : Line) → IsEvent l → (said.said (sentence_in l) ≢ said.blank_line)
    × (said.said (sentence_in l) ≢ said.quit)
line_stands (line.Inline w) event = (λ e. cc, λ e. cc)
line_stands (line.Source w) event = (λ e. cc, λ e. cc)
line_stands line.Publish event = (λ e. cc, λ e. cc)
line_stands (line.Step n) event = (λ e. cc, λ e. cc)
line_stands line.StepAll event = (λ e. cc, λ e. cc)
line_stands line.Open event = (λ e. cc, λ e. cc)
line_stands (line.Tile id t) event = (λ e. cc, λ e. cc)
line_stands (line.Close id) event = (λ e. cc, λ e. cc)
line_stands line.Versions event = (λ e. cc, λ e. cc)
line_stands line.Quit event = absurd event
line_stands line.Blank event = absurd event

asked_stands : (a : Asked) (command : Command) → IsAnswered a → SaysAsked a command → (command ≢ said.blank_line)
    × (command ≢ said.quit)
asked_stands (asked.Line l) command event e = let stands = line_stands l event in
    (λ q. stands.0 (sym e ∙ q), λ q. stands.1 (sym e ∙ q))
asked_stands asked.Long command event e = (
  λ q. let no : said.overlong ≡ said.blank_line = sym e
      ∙ q in cc,
  λ q. let no : said.overlong ≡ said.quit = sym e ∙ q in cc,
)
asked_stands asked.Syntax command event e = (
  λ q. let no : said.unreadable ≡ said.blank_line = sym e
      ∙ q in cc,
  λ q. let no : said.unreadable ≡ said.quit = sym e ∙ q in cc,
)
asked_stands (asked.Name place) command event m = (
  λ q. let no : said.said (grammar.tile m.id m.file) ≡ said.blank_line = sym m.says
      ∙ q in cc,
  λ q. let no : said.said (grammar.tile m.id m.file) ≡ said.quit = sym m.says ∙ q in cc,
)

-- a line that is an event was taken
pub takes_event : {tells : Type 0} {e : RunStart} (result : Fed) {read : Text} {written : Option (List ℕ)}
    (now : Option (List ℕ)) {shelf disk : ℕ} (shelf' disk' : ℕ) {Old : Sight} (New : Sight)
    {kept : Option (List ℕ)} (a : Asked)
    → IsAnswered a → ((rest : Text) → kept ≡ kept_of rest → SaysAsked a (line_command rest))
    → (s : RunSoFar tells e read written shelf disk Old kept)
    → ((command : Command) → SaysAsked a command
    → TellsFed tells e result (items_of e.most s.lines) (run.line command ∷ run.late (due e.most command) ∷ []) now
    shelf' disk' New)
    → TakesLine tells e result read now shelf' disk' New
takes_event {tells = tells} {e = e} fed.More now shelf' disk' New a event read_as s told =
    let says = read_as s.rest s.kept_is in let stands = asked_stands a (line_command s.rest) event says in
    let same : items_of e.most s.lines ++ run.line (line_command s.rest) ∷ run.late (due e.most (line_command s.rest)) ∷
    [] ≡ items_of e.most (s.lines ++ s.rest ∷ []) =
    sym (items_of-more e.most s.lines s.rest ∙ ap (λ l. items_of e.most s.lines ++ l)
    (items_alone e.most (line_command s.rest) stands.0 stands.1)) in
    record {
      lines = s.lines;
      rest = s.rest;
      cut = s.cut;
      no_quit = s.no_quit;
      told = subst (λ (l : List Item). Told tells e l now shelf' disk' New) same (told (line_command s.rest) says);
      last = stands.1;
    }
takes_event fed.Quit now shelf' disk' New a event read_as s told = absurd
    (told (line_command s.rest) (read_as s.rest s.kept_is))
takes_event {e = e} fed.Failed now shelf' disk' New a event read_as s told =
    let says = read_as s.rest s.kept_is in let stands = asked_stands a (line_command s.rest) event says in
    let t = told (line_command s.rest) says in
    record {
      lines = s.lines;
      rest = s.rest;
      cut = s.cut;
      no_quit = s.no_quit;
      items = items_of e.most s.lines ++ t.first ∷ t.made;
      unmade = t.unmade;
      items_are = items_of-more e.most s.lines s.rest
          ∙ ap (λ l. items_of e.most s.lines ++ l)
          (items_alone e.most (line_command s.rest) stands.0 stands.1 ∙ t.joined)
          ∙ sym (append_assoc (items_of e.most s.lines) (t.first ∷ t.made) t.unmade);
      reaches = record { first = t.first; made = t.made; items_are = refl };
      torn = t.torn;
    }

-- ---- what an item says

-- a line's answer was written, or a part of it
pub speaks_line : {tells : Type 0} (files files' : FileMap) (command : Command) (answer : machine.Answer)
    {before now : Option (List ℕ)} {shelf shelf' disk disk' : ℕ} (Old New : Sight)
    → files ≡ files' → ((w : Which) (s : StateIn (store_kind w)) → Old w s
    → Leads (TurnIn (store_kind w) (Holds tells files) s command answer) (New w))
    → Counts shelf_fault shelf shelf' (answer ∷ []) → Counts disk_fault disk disk' (answer ∷ [])
    → AnswerFindsOther answer → Appends before now (text_of_answer answer)
    → Speaks tells files' (run.line command) before now shelf shelf' disk disk' Old New
speaks_line {tells = tells} files files' command answer {before = before} {now = now} Old New same turn shelf_counted
    disk_counted other written =
    record {
      answers = answer ∷ [];
      passes = λ w s old. let led = turn w s old in
          record {
            next = led.next;
            step = record {
              answer = answer;
              answers_are = refl;
              turn = subst (λ (f : FileMap). TurnIn (store_kind w) (Holds tells f) s command answer led.next) same
                  led.step;
            };
            now = led.now;
          };
      shelf_counted = shelf_counted;
      disk_counted = disk_counted;
      other = (other, tt);
      written = subst (Appends before now) (sym (append-nil (text_of_answer answer))) written;
    }

pub stammers_line : {tells : Type 0} (files files' : FileMap) (command : Command) (answer : machine.Answer)
    {before now : Option (List ℕ)} {shelf shelf' disk disk' : ℕ} (Old New : Sight)
    → files ≡ files' → ((w : Which) (s : StateIn (store_kind w)) → Old w s
    → Leads (TurnIn (store_kind w) (Holds tells files) s command answer) (New w))
    → Counts shelf_fault shelf shelf' (answer ∷ []) → Counts disk_fault disk disk' (answer ∷ [])
    → AnswerFindsOther answer → WritesPart before now (text_of_answer answer)
    → Stammers tells files' (run.line command) before now shelf shelf' disk disk' Old New
stammers_line {tells = tells} files files' command answer Old New same turn shelf_counted disk_counted other written =
    record {
      answer = answer;
      passes = λ w s old. let led = turn w s old in
          record {
            next = led.next;
            step = record {
              answer = answer;
              answers_are = refl;
              turn = subst (λ (f : FileMap). TurnIn (store_kind w) (Holds tells f) s command answer led.next) same
                  led.step;
            };
            now = led.now;
          };
      shelf_counted = shelf_counted;
      disk_counted = disk_counted;
      other = other;
      written = written;
    }

-- what is said of steps that no line asked for says no more often that the disk failed, and never that the shelf did
late_faults : (answer : machine.Answer) → tally disk_fault (behind answer) ≤ tally disk_fault (answer ∷ [])
late_faults machine.going = omega arith
late_faults machine.fault = omega arith
late_faults (machine.damaged expected found) = omega arith
late_faults _ = omega arith

late_quiet : (a : Answer) (reply : List ℕ) → IsQuiet a → tally shelf_fault (behind (meant a reply)) ≡ 0
late_quiet answer.Shelf reply quiet = absurd quiet
late_quiet _ reply quiet = refl

-- and a file that is called damaged there is one that the last step called so
late_other : (answer : machine.Answer) → AnswerFindsOther answer → AllByRecursion AnswerFindsOther (behind answer)
late_other machine.going other = tt
late_other machine.fault other = (tt, tt)
late_other (machine.damaged expected found) other = (other, tt)
late_other (machine.late_damaged expected found) other = (other, tt)
late_other _ other = (tt, tt)

first_other : (answers : List machine.Answer) (answer : machine.Answer) → answer ∷ [] ≡ answers
    → AllByRecursion AnswerFindsOther answers → AnswerFindsOther answer
first_other answers answer is all =
    let one : AllByRecursion AnswerFindsOther (answer ∷ []) =
    subst (λ (l : List machine.Answer). AllByRecursion AnswerFindsOther l) (sym is) all in one.0

-- the steps after a line were made, and what is said of them written, or a part of it
pub speaks_late : {tells : Type 0} (files : FileMap) (most : ℕ) (a : Answer) (reply : List ℕ)
    (answers : List machine.Answer) {before now : Option (List ℕ)} (shelf : ℕ) {disk disk' : ℕ} (Old New : Sight)
    → answers ≡ behind (meant a reply) → ((w : Which) (s : StateIn (store_kind w)) → Old w s
    → Leads (MakesIn (store_kind w) most s (meant a reply)) (New w))
    → IsQuiet a → Counts disk_fault disk disk' (meant a reply ∷ []) → AnswerFindsOther (meant a reply)
    → Appends before now (texts_of answers)
    → Speaks tells files (run.late most) before now shelf shelf disk disk' Old New
speaks_late files most a reply answers shelf {disk = disk} {disk' = disk'} Old New are makes quiet counted other
    written =
    record {
      answers = answers;
      passes = λ w s old. let led = makes w s old in record {
        next = led.next;
        step = record { answer = meant a reply; answers_are = are; makes = led.step };
        now = led.now;
      };
      shelf_counted = subst (Counts shelf_fault shelf shelf) (sym are)
          (λ short. let none = late_quiet a reply quiet in omega (arith, none));
      disk_counted = subst (Counts disk_fault disk disk') (sym are)
          (λ short. let fewer = late_faults (meant a reply) in let all = counted short in omega (arith, fewer, all));
      other = subst (λ (l : List machine.Answer). AllByRecursion AnswerFindsOther l) (sym are)
          (late_other (meant a reply) other);
      written = written;
    }

pub stammers_late : {tells : Type 0} (files : FileMap) (most : ℕ) (a : Answer) (reply : List ℕ)
    (answer : machine.Answer) {before now : Option (List ℕ)} (shelf : ℕ) {disk disk' : ℕ} (Old New : Sight)
    → answer ∷ [] ≡ behind (meant a reply) → ((w : Which) (s : StateIn (store_kind w)) → Old w s
    → Leads (MakesIn (store_kind w) most s (meant a reply)) (New w))
    → IsQuiet a → Counts disk_fault disk disk' (meant a reply ∷ []) → AnswerFindsOther (meant a reply)
    → WritesPart before now (text_of_answer answer)
    → Stammers tells files (run.late most) before now shelf shelf disk disk' Old New
stammers_late files most a reply answer shelf {disk = disk} {disk' = disk'} Old New are makes quiet counted other
    written =
    record {
      answer = answer;
      passes = λ w s old. let led = makes w s old in record {
        next = led.next;
        step = record { answer = meant a reply; answers_are = are; makes = led.step };
        now = led.now;
      };
      shelf_counted = subst (Counts shelf_fault shelf shelf) (sym are)
          (λ short. let none = late_quiet a reply quiet in omega (arith, none));
      disk_counted = subst (Counts disk_fault disk disk') (sym are)
          (λ short. let fewer = late_faults (meant a reply) in let all = counted short in omega (arith, fewer, all));
      other = first_other (behind (meant a reply)) answer are (late_other (meant a reply) other);
      written = written;
    }

-- ---- bytes

HasNoFeed-more : (line : Text) (byte : ℕ) → byte ≢ 10 → HasNoFeed line → HasNoFeed (line ++ byte ∷ [])
HasNoFeed-more [] byte other none = (other, tt)
HasNoFeed-more (c ∷ line) byte other none = (none.0, HasNoFeed-more line byte other none.1)

HaveNoFeed-more : (lines : List Text) (line : Text) → HaveNoFeed lines → HasNoFeed line
    → HaveNoFeed (lines ++ line ∷ [])
HaveNoFeed-more [] line none last = (last, tt)
HaveNoFeed-more (l ∷ lines) line none last = (none.0, HaveNoFeed-more lines line none.1 last)

HaveNoQuit-more : (lines : List Text) (line : Text) → HaveNoQuit lines → IsNotQuit line
    → HaveNoQuit (lines ++ line ∷ [])
HaveNoQuit-more [] line none last = (last, tt)
HaveNoQuit-more (l ∷ lines) line none last = (none.0, HaveNoQuit-more lines line none.1 last)

Cut-byte : (bytes : Text) (lines : List Text) (rest : Text) (byte : ℕ) → byte ≢ 10 → Cut bytes lines rest
    → Cut (bytes ++ byte ∷ []) lines (rest ++ byte ∷ [])
Cut-byte bytes lines rest byte other cut =
    record {
      joined = ap (λ l. l ++ byte ∷ []) cut.joined ∙ append_assoc (flat_map ended lines) rest (byte ∷ []);
      whole = cut.whole;
      open_end = HasNoFeed-more rest byte other cut.open_end;
    }

Cut-feed : (bytes : Text) (lines : List Text) (rest : Text) → Cut bytes lines rest
    → Cut (bytes ++ 10 ∷ []) (lines ++ rest ∷ []) []
Cut-feed bytes lines rest cut =
    record {
      joined = ap (λ l. l ++ 10 ∷ []) cut.joined ∙ append_assoc (flat_map ended lines) rest (10 ∷ [])
          ∙ ap (λ l. flat_map ended lines ++ l) (sym (append-nil (ended rest)))
          ∙ sym (flat_map-append ended lines (rest ∷ []))
          ∙ sym (append-nil (flat_map ended (lines ++ rest ∷ [])));
      whole = HaveNoFeed-more lines rest cut.whole cut.open_end;
      open_end = tt;
    }

-- a byte that isn't a line feed is kept
pub byte_kept : {tells : Type 0} {e : RunStart} {read : Text} (byte : ℕ) {written : Option (List ℕ)} {shelf disk : ℕ}
    {Now : Sight} {kept : Option (List ℕ)} (new : Option (List ℕ))
    → ((line : Text) → kept ≡ kept_of line → new ≡ kept_of (line ++ byte ∷ [])) → byte ≢ 10
    → RunSoFar tells e read written shelf disk Now kept
    → RunSoFar tells e (read ++ byte ∷ []) written shelf disk Now new
byte_kept {read = read} byte new pushed other s =
    record {
      lines = s.lines;
      rest = s.rest ++ byte ∷ [];
      cut = Cut-byte read s.lines s.rest byte other s.cut;
      no_quit = s.no_quit;
      told = s.told;
      kept_is = pushed s.rest s.kept_is;
    }

-- a line feed ends the line that was answered
pub line_passed : {tells : Type 0} {e : RunStart} {read : Text} (byte : ℕ) {written : Option (List ℕ)} {shelf disk : ℕ}
    {Now : Sight} (new : Option (List ℕ))
    → 10 ≡ byte → new ≡ Some [] → Answered tells e IsNotQuit read written shelf disk Now
    → RunSoFar tells e (read ++ byte ∷ []) written shelf disk Now new
line_passed {tells = tells} {e = e} {read = read} byte {written = written} {shelf = shelf} {disk = disk} {Now = Now} new
    feed fresh a =
    subst (λ (b : ℕ). RunSoFar tells e (read ++ b ∷ []) written shelf disk Now new) feed
    record {
      lines = a.lines ++ a.rest ∷ [];
      rest = [];
      cut = Cut-feed read a.lines a.rest a.cut;
      no_quit = HaveNoQuit-more a.lines a.rest a.no_quit a.last;
      told = a.told;
      kept_is = fresh;
    }

-- a piece ended at the line feed that is its element i
pub stops_at : (X : Text → Type 0) (piece read : Text) (i byte : ℕ) → i < length piece → get_or piece i byte ≡ 10
    → X (read ++ take i piece) → UpTo piece (λ front. X (read ++ front))
stops_at X piece read i byte lt feed reached =
    record {
      front = take i piece;
      back = drop (suc i) piece;
      joined = split_at piece i byte lt ∙ ap (λ b. take i piece ++ b ∷ drop (suc i) piece) feed;
      reached = reached;
    }
