-- What a line that gives a source leads to.
use Rattle.std.proofs.Common.{◌≡◌, ℕ, ◌+◌, List, [], ◌∷◌, ◌++◌, length, Result, Ok, Err, IfOk, OnOk, OnErr, refl, ap, sym, ◌∙◌, subst, arith}
use Rattle.cdb_source.specs.declared.source.Source.{Source}
use Rattle.cdb_model.specs.Events as machine
use Rattle.cdb_model.specs.Grammar.{InlineSource, FileSource}
use Rattle.cdb_model.specs.ImageFiles.{SpellsNone, HasImage, IsBig}
use Rattle.cdb_model.specs.Maps.{Content, FileMap}
use Rattle.cdb_model.specs.Spelled.{SpellsSource, SpellsLoaded}
use Rattle.cdb_model.specs.Stores.{Which, store_kind}
use Rattle.cdb_model.specs.Transitions.{StateIn, IsReadyIn, InlineLineIn, SourceLineIn}
use Rattle.cdb_engine.specs.Held.{Held}
use Rattle.cdb_engine.specs.Loading.{LoadOutcome, IsLoaded}
use Rattle.cdb_engine.specs.Stays.{Shows, ChangesAlike}
use Rattle.cdb_engine.specs.StoreAnswers.{ready_answer}
use Rattle.cdb_engine.specs.Tracks.{Leads}
use Rattle.cdb_engine.specs.declared.errors.InlineError.{InlineError}
use Rattle.cdb_engine.specs.declared.errors.InlineError.TheVariants as inline
use Rattle.cdb_engine.specs.declared.errors.LoadError.{LoadError}
use Rattle.cdb_engine.specs.declared.errors.LoadError.TheVariants as load
use Rattle.cdb_engine.specs.declared.errors.ReadyError.{ReadyError}
use Rattle.cdb_engine.specs.declared.errors.SubmitRefused.{SubmitRefused}
use Rattle.cdb_front.specs.AnswerMeanings.{meant}
use Rattle.cdb_front.specs.Sourcing.{LoadsFrom, inline_answer, load_answer}
use Rattle.cdb_front.specs.declared.answers.Answer.{Answer}
use Rattle.cdb_front.specs.declared.answers.Answer.TheVariants as answers

-- an engine that is left has changed as a state that is left
same_state : (held : Held) (w : Which) (s : StateIn (store_kind w)) → Shows held w s → ChangesAlike held held w s s
same_state held w s shows = record {
  engine = refl;
  state = (λ i. record s {
    pending = sym shows.pending i;
    sessions = sym shows.sessions i;
    opened = sym shows.opened i;
  });
}

-- it leads nowhere else
pub leads_same : (held : Held) (w : Which) (s : StateIn (store_kind w)) (Step : StateIn (store_kind w) → Type 0)
    → Shows held w s → Step s
    → Leads Step (ChangesAlike held held w s)
leads_same held w s Step shows step = record { next = s; step = step; now = same_state held w s shows }

-- one source more is pending
leads_more : (old new : Held) (w : Which) (s : StateIn (store_kind w)) (source : Source)
    (Step : StateIn (store_kind w) → Type 0)
    → Shows old w s → new ≡ record old { pending = old.pending ++ source ∷ [] }
    → Step (record s { pending = s.pending ++ source ∷ [] }) → Leads Step (ChangesAlike old new w s)
leads_more old new w s source Step shows next step =
    subst (λ (h : Held). Leads Step (ChangesAlike old h w s)) (sym next)
    record {
      next = record s { pending = s.pending ++ source ∷ [] };
      step = step;
      now = record {
        engine = refl;
        state = (λ i. record s {
          pending = sym shows.pending i ++ source ∷ [];
          sessions = sym shows.sessions i;
          opened = sym shows.opened i;
        });
      };
    }

-- a source that is spelled was submitted, or memory was refused
pub submit_gives : (old new : Held) (source : Source) (outcome : Result ℕ SubmitRefused) (said : Answer)
    (reply : List ℕ)
    → IfOk outcome (λ n. n ≡ length old.pending + 1)
    → OnOk outcome (new ≡ record old { pending = old.pending ++ source ∷ [] })
    → OnErr outcome (new ≡ old) → IfOk outcome (λ n. said ≡ answers.Source n) → OnErr outcome (said ≡ answers.Memory)
    → (w : Which) (s : StateIn (store_kind w)) (words : InlineSource) → Shows old w s → IsReadyIn (store_kind w) s
    → SpellsSource words source
    → Leads (InlineLineIn (store_kind w) s words (meant said reply)) (ChangesAlike old new w s)
submit_gives old new source (Ok n) said reply number next same ok err w s words shows is_ready spelled =
    subst (λ (a : Answer). Leads (InlineLineIn (store_kind w) s words (meant a reply)) (ChangesAlike old new w s))
    (sym ok)
    (leads_more old new w s source (InlineLineIn (store_kind w) s words (machine.source n)) shows next
    record {
      ready = is_ready;
      source = source;
      spelled = spelled;
      number_is = number ∙ ap (λ (p : List Source). length p + 1) shows.pending;
      next = refl;
    })
submit_gives old new source (Err e) said reply number next same ok err w s words shows is_ready spelled =
    subst (λ (a : Answer). Leads (InlineLineIn (store_kind w) s words (meant a reply)) (ChangesAlike old new w s))
    (sym err)
    (subst (λ (h : Held). Leads (InlineLineIn (store_kind w) s words machine.memory) (ChangesAlike old h w s))
    (sym same)
    (leads_same old w s (InlineLineIn (store_kind w) s words machine.memory) shows (is_ready.0, refl)))

pub submit_loads : (old new : Held) (source : Source) (outcome : Result ℕ SubmitRefused) (said : Answer)
    (reply : List ℕ)
    → IfOk outcome (λ n. n ≡ length old.pending + 1)
    → OnOk outcome (new ≡ record old { pending = old.pending ++ source ∷ [] })
    → OnErr outcome (new ≡ old) → IfOk outcome (λ n. said ≡ answers.Source n) → OnErr outcome (said ≡ answers.Memory)
    → (w : Which) (s : StateIn (store_kind w)) (words : FileSource) (content : Content) (bytes : List ℕ) → Shows old w s
    → IsReadyIn (store_kind w) s
    → HasImage content bytes → SpellsLoaded words bytes source
    → Leads (SourceLineIn (store_kind w) s words content (meant said reply)) (ChangesAlike old new w s)
submit_loads old new source (Ok n) said reply number next same ok err w s words content bytes shows is_ready
    image spelled =
    subst (λ (a : Answer). Leads (SourceLineIn (store_kind w) s words content (meant a reply))
    (ChangesAlike old new w s))
    (sym ok)
    (leads_more old new w s source (SourceLineIn (store_kind w) s words content (machine.source n)) shows next
    record {
      bytes = bytes;
      image = image;
      gains = record {
        ready = is_ready;
        source = source;
        spelled = spelled;
        number_is = number ∙ ap (λ (p : List Source). length p + 1) shows.pending;
        next = refl;
      };
    })
submit_loads old new source (Err e) said reply number next same ok err w s words content bytes shows is_ready
    image spelled =
    subst (λ (a : Answer). Leads (SourceLineIn (store_kind w) s words content (meant a reply))
    (ChangesAlike old new w s))
    (sym err)
    (subst (λ (h : Held). Leads (SourceLineIn (store_kind w) s words content machine.memory) (ChangesAlike old h w s))
    (sym same)
    (leads_same old w s (SourceLineIn (store_kind w) s words content machine.memory) shows (is_ready.0, refl)))

-- no source can be submitted now
pub ready_gives : (held : Held) (error : ReadyError) (said : machine.Answer) → said ≡ ready_answer error
    → ((w : Which) (s : StateIn (store_kind w)) (words : InlineSource) → Shows held w s
    → InlineLineIn (store_kind w) s words (ready_answer error) s)
    → (w : Which) (s : StateIn (store_kind w)) (words : InlineSource) → Shows held w s
    → Leads (InlineLineIn (store_kind w) s words said) (ChangesAlike held held w s)
ready_gives held error said is gives w s words shows =
    leads_same held w s (InlineLineIn (store_kind w) s words said) shows
    (subst (λ (a : machine.Answer). InlineLineIn (store_kind w) s words a s) (sym is) (gives w s words shows))

pub ready_loads : (tells : Type 0) (files : FileMap) (held : Held) (error : ReadyError) (said : machine.Answer)
    → said ≡ ready_answer error
    → ((w : Which) (s : StateIn (store_kind w)) (words : FileSource) (content : Content) → Shows held w s
    → SourceLineIn (store_kind w) s words content (ready_answer error) s)
    → (w : Which) (s : StateIn (store_kind w)) (words : FileSource) → Shows held w s
    → Leads (LoadsFrom (store_kind w) tells files s words said) (ChangesAlike held held w s)
ready_loads tells files held error said is loads w s words shows =
    leads_same held w s (LoadsFrom (store_kind w) tells files s words said) shows
    record {
      content = files words.path;
      holds = λ told. refl;
      step = subst (λ (a : machine.Answer). SourceLineIn (store_kind w) s words (files words.path) a s) (sym is)
          (loads w s words (files words.path) shows);
    }

-- the posts of a line made no source
inline_refused : (w : Which) (s : StateIn (store_kind w)) (words : InlineSource) (error : InlineError)
    → IsReadyIn (store_kind w) s
    → (error ≡ inline.Range → SpellsNone (SpellsSource words))
    → InlineLineIn (store_kind w) s words (inline_answer error) s
inline_refused w s words inline.Memory is_ready none = (is_ready.0, refl)
inline_refused w s words inline.Range is_ready none = (is_ready, none refl, refl)

pub inline_gives : (held : Held) (error : InlineError) (said : machine.Answer) (words : InlineSource)
    → said ≡ inline_answer error
    → (error ≡ inline.Range → SpellsNone (SpellsSource words))
    → ((w : Which) (s : StateIn (store_kind w)) → Shows held w s → IsReadyIn (store_kind w) s)
    → (w : Which) (s : StateIn (store_kind w)) → Shows held w s
    → Leads (InlineLineIn (store_kind w) s words said) (ChangesAlike held held w s)
inline_gives held error said words is none is_ready w s shows =
    leads_same held w s (InlineLineIn (store_kind w) s words said) shows
    (subst (λ (a : machine.Answer). InlineLineIn (store_kind w) s words a s) (sym is)
    (inline_refused w s words error (is_ready w s shows) none))

-- a file of the shelf made no source
load_refused : (w : Which) (s : StateIn (store_kind w)) (words : FileSource) (content : Content) (error : LoadError)
    → IsReadyIn (store_kind w) s
    → IsLoaded words content (Err error) → SourceLineIn (store_kind w) s words content (load_answer error) s
load_refused w s words content load.Memory is_ready loaded = (is_ready.0, refl)
load_refused w s words content load.Shelf is_ready loaded = (is_ready, refl)
load_refused w s words content load.Absent is_ready loaded = (is_ready, loaded, refl)
load_refused w s words content (load.Big size) is_ready loaded = (
  is_ready,
  subst (λ (c : Content). IsBig c) (sym loaded.there)
      (let size_is = loaded.size_is in let big = loaded.big in omega (arith, size_is, big)),
  refl,
)
load_refused w s words content (load.Input error) is_ready loaded = (
  is_ready,
  record {
    bytes = loaded.bytes;
    there = loaded.there;
    small = loaded.small;
    error = error;
    caused = loaded.caused;
    cause_is = refl;
  },
  refl,
)
load_refused w s words content load.Range is_ready loaded = (is_ready, loaded, refl)

pub refused_loads : (tells : Type 0) (files : FileMap) (held : Held) (error : LoadError) (said : machine.Answer)
    (words : FileSource) → said ≡ load_answer error
    → LoadOutcome tells (files words.path) words (Err error)
    → ((w : Which) (s : StateIn (store_kind w)) → Shows held w s → IsReadyIn (store_kind w) s)
    → (w : Which) (s : StateIn (store_kind w)) → Shows held w s
    → Leads (LoadsFrom (store_kind w) tells files s words said) (ChangesAlike held held w s)
refused_loads tells files held error said words is outcome is_ready w s shows =
    leads_same held w s (LoadsFrom (store_kind w) tells files s words said) shows
    record {
      content = outcome.content;
      holds = outcome.told;
      step = subst (λ (a : machine.Answer). SourceLineIn (store_kind w) s words outcome.content a s) (sym is)
          (load_refused w s words outcome.content error (is_ready w s shows) outcome.loaded);
    }

-- a source that was made of a file was submitted
pub made_loads : (tells : Type 0) (files : FileMap) (old new : Held) (words : FileSource) (source : Source)
    (answer : machine.Answer)
    → LoadOutcome tells (files words.path) words (Ok source)
    → ((w : Which) (s : StateIn (store_kind w)) → Shows old w s → IsReadyIn (store_kind w) s)
    → ((w : Which) (s : StateIn (store_kind w)) (words : FileSource) (content : Content) (bytes : List ℕ)
    → Shows old w s
    → IsReadyIn (store_kind w) s
    → HasImage content bytes → SpellsLoaded words bytes source
    → Leads (SourceLineIn (store_kind w) s words content answer) (ChangesAlike old new w s))
    → (w : Which) (s : StateIn (store_kind w)) → Shows old w s
    → Leads (LoadsFrom (store_kind w) tells files s words answer) (ChangesAlike old new w s)
made_loads tells files old new words source answer outcome is_ready submits w s shows =
    let led = submits w s words outcome.content outcome.loaded.bytes shows (is_ready w s shows) outcome.loaded.image
    outcome.loaded.spelled in
    record {
      next = led.next;
      step = record { content = outcome.content; holds = outcome.told; step = led.step };
      now = led.now;
    }
