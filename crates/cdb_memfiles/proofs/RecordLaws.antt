-- The files stay in step with the calls.
use Rattle.std.proofs.Common.{◌≡◌, ℕ, List, [], ◌∷◌, ◌++◌, None, Some, Vec, sym, ap, ◌∙◌}
use Rattle.std.specs.declared.alloc.Global.{Global}
use Rattle.std.specs.Option.{option_map}
use Rattle.std.specs.Ordering.{nat_cmp, is_eq}
use Rattle.std.specs.Cmp.Lexicographic.{slice_cmp}
use Rattle.std.specs.Map.{lookup}
use Rattle.arrayvec.specs.ArrayString.{ArrayString}
use Rattle.cdb_model.specs.Maps.{Text, put}
use Rattle.cdb_files.specs.Disk.{State, with_piece, after_create, after_append, after_rename, after_remove}
use Rattle.cdb_memfiles.specs.declared.call.Call.{Call}
use Rattle.cdb_memfiles.specs.declared.call.Call.TheVariants.{Create, Append, Rename, Remove, Restore}
use Rattle.cdb_memfiles.specs.Files.{ByPath, content, IsShort}
use Rattle.cdb_memfiles.specs.History.{apply, replay, after_restore}
use Rattle.cdb_memfiles.specs.inside.HistoryLaws.{replay-push}
use Rattle.cdb_memfiles.specs.Record.{IsTied}
use Rattle.cdb_memfiles.proofs.FileLaws.{absent_there}
use mathlib.Core.Path.{fun_ext}

-- The map of a record is the present map.
pub tied_is : (files : ByPath) (calls : List Call) → IsTied files calls → content files ≡ (replay calls).present
tied_is files calls tied = fun_ext tied

pub tied-step : (new : ByPath) (calls later : List Call) (call : Call) → later ≡ calls ++ call ∷ []
    → content new ≡ (apply call (replay calls)).present → IsTied new later
tied-step new calls later call e h q = ap (λ m. m q) h
    ∙ ap (λ s. s.present q) (sym (ap replay e ∙ replay-push calls call))

pub tied-create : (old new : ByPath) (calls later : List Call) (path : ArrayString) (bytes : List ℕ) → IsTied old calls
    → later ≡ calls ++ Create path ∷ [] → content new ≡ put (content old) path.bytes (Some bytes) → bytes ≡ []
    → IsTied new later
unfolding after_create
tied-create old new calls later path bytes tied e h empty = tied-step new calls later (Create path) e
    (h ∙ ap (λ (xs : List ℕ). put (content old) path.bytes (Some xs)) empty
    ∙ ap (λ m. put m path.bytes (Some [])) (tied_is old calls tied))

pub tied-append : (old new : ByPath) (calls later : List Call) (path : ArrayString) (piece : List ℕ)
    (bytes : Vec ℕ Global) → IsTied old calls
    → later ≡ calls ++ Append path bytes ∷ [] → content new
    ≡ put (content old) path.bytes (with_piece piece (content old path.bytes)) → bytes.items ≡ piece
    → IsTied new later
unfolding after_append
tied-append old new calls later path piece bytes tied e h same = tied-step new calls later (Append path bytes) e
    (h ∙ ap (λ m. put m path.bytes (with_piece piece (m path.bytes))) (tied_is old calls tied)
    ∙ ap (λ xs. put (replay calls).present path.bytes (with_piece xs ((replay calls).present path.bytes))) (sym same))

pub tied-rename : (old new : ByPath) (calls later : List Call) (from to : ArrayString) → IsTied old calls
    → later ≡ calls ++ Rename from to ∷ []
    → content new ≡ put (put (content old) to.bytes (content old from.bytes)) from.bytes None → IsTied new later
unfolding after_rename
tied-rename old new calls later from to tied e h = tied-step new calls later (Rename from to) e
    (h ∙ ap (λ m. put (put m to.bytes (m from.bytes)) from.bytes None) (tied_is old calls tied))

pub tied-remove : (old new : ByPath) (calls later : List Call) (path : ArrayString) → IsTied old calls
    → later ≡ calls ++ Remove path ∷ []
    → content new ≡ put (content old) path.bytes None → IsTied new later
unfolding after_remove
tied-remove old new calls later path tied e h = tied-step new calls later (Remove path) e
    (h ∙ ap (λ m. put m path.bytes None) (tied_is old calls tied))

pub tied-restore : (old new : ByPath) (calls later : List Call) (path : ArrayString) (bytes : List ℕ)
    (same : Vec ℕ Global) → IsTied old calls
    → later ≡ calls ++ Restore path same ∷ [] → content new ≡ put (content old) path.bytes (Some bytes)
    → same.items ≡ bytes → IsTied new later
unfolding after_restore
tied-restore old new calls later path bytes same tied e h is = tied-step new calls later (Restore path same) e
    (h ∙ ap (λ m. put m path.bytes (Some bytes)) (tied_is old calls tied)
    ∙ ap (λ (xs : List ℕ). put (replay calls).present path.bytes (Some xs)) (sym is))

pub tied-note : (files : ByPath) (calls later : List Call) (call : Call) → IsTied files calls
    → later ≡ calls ++ call ∷ []
    → ((s : State) → (apply call s).present ≡ s.present) → IsTied files later
tied-note files calls later call tied e same =
    tied-step files calls later call e (tied_is files calls tied ∙ sym (same (replay calls)))

-- Nothing yet.
pub content-empty : (files : ByPath) → files.entries ≡ [] → (q : Text) → content files q ≡ None
unfolding content
content-empty files e q =
    ap (λ es. option_map (λ bytes. bytes.items) (lookup (λ path. is_eq (slice_cmp nat_cmp q path.bytes)) es)) e

pub tied-empty : (files : ByPath) (calls : List Call) → files.entries ≡ [] → calls ≡ [] → IsTied files calls
unfolding replay
tied-empty files calls e none q = content-empty files e q ∙ ap (λ cs. (replay cs).present q) (sym none)

pub short-empty : (files : ByPath) → files.entries ≡ [] → IsShort files
short-empty files e q there = absurd (absent_there (content files q) (content-empty files e q) there)
