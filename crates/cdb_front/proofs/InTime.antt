-- An input that ends or quits in time isn't too long.
use Rattle.std.proofs.Common.{◌≡◌, ◌≢◌, ℕ, ◌≤◌, ◌<◌, ◌^◌, List, [], ◌∷◌, ◌++◌, length, take, drop, Option, None, Some, IfSome, refl, ap, sym, ◌∙◌, append_assoc, length-append, subst, arith}
use Rattle.std.proofs.lemmas.List.{take-append-le, take-append-drop, take_at}
use Rattle.std.specs.List.{flat_map}
use Rattle.cdb_model.specs.Commands as said
use Rattle.cdb_model.specs.Commands.{line_command}
use Rattle.cdb_model.specs.Lines.{HasNoFeed, HaveNoFeed, HaveNoQuit}
use Rattle.cdb_model.specs.Maps.{FileMap}
use Rattle.cdb_model.specs.Text.{Text, ended}
use Rattle.cdb_files.specs.Disk as disk
use Rattle.cdb_front.specs.RunOutcome.{Transcript, EndsWith, is_whole, is_part, Outcome, QuitsInTime}
use Rattle.cdb_front.specs.RunProgress.{RunStart}
use Rattle.cdb_front.specs.declared.exit_status.Status.{Status}
use Rattle.cdb_front.specs.declared.exit_status.Status.TheVariants.{TooLong}

-- two lines that a line feed ends, at the head of one text, are one
record SameLine (x l r s : Text) : Type 0 where
  same : x ≡ l
  rest : r ≡ s

same_line : (x l r s : Text) → HasNoFeed x → HasNoFeed l → x ++ 10 ∷ r ≡ l ++ 10 ∷ s → SameLine x l r s
same_line [] [] r s a b e = record { same = refl; rest = cc }
same_line [] (c ∷ l) r s a b e = absurd (b.0 (let h : 10 ≡ c = cc in sym h))
same_line (c ∷ x) [] r s a b e = absurd (a.0 (let h : c ≡ 10 = cc in h))
same_line (c ∷ x) (d ∷ l) r s a b e =
    let h : c ≡ d = cc in
    let t : x ++ 10 ∷ r ≡ l ++ 10 ∷ s = cc in
    let rec = same_line x l r s a.1 b.1 t in
    let same : x ≡ l = rec.same in
    record { same = cc; rest = rec.rest }

-- a text with a line feed in it is no piece of a line
has_feed : (x r rest : Text) → HasNoFeed rest → x ++ 10 ∷ r ≡ rest → ⊥
has_feed [] r [] a e = cc
has_feed [] r (c ∷ rest) a e = a.0 (let h : 10 ≡ c = cc in sym h)
has_feed (x ∷ xs) r [] a e = cc
has_feed (x ∷ xs) r (c ∷ rest) a e = has_feed xs r rest a.1 (let t : xs ++ 10 ∷ r ≡ rest = cc in t)

ended_append : (x r : Text) → ended x ++ r ≡ x ++ 10 ∷ r
ended_append x r = append_assoc x (10 ∷ []) r

-- whole lines at the head of a text are the first of its lines
pub first_lines : (xs lines : List Text) (m rest : Text) → HaveNoFeed xs → HaveNoFeed lines → HasNoFeed rest
    → flat_map ended xs ++ m ≡ flat_map ended lines ++ rest
    → (more : List Text) × (lines ≡ xs ++ more)
first_lines [] lines m rest a b d e = (lines, refl)
first_lines (x ∷ xs) [] m rest a b d e = absurd
    (has_feed x (flat_map ended xs ++ m) rest d
    (sym (append_assoc (ended x) (flat_map ended xs) m ∙ ended_append x (flat_map ended xs ++ m)) ∙ e))
first_lines (x ∷ xs) (l ∷ lines) m rest a b d e =
    let left : (ended x ++ flat_map ended xs) ++ m ≡ x ++ 10 ∷ (flat_map ended xs ++ m) = append_assoc (ended x)
    (flat_map ended xs) m ∙ ended_append x (flat_map ended xs ++ m) in
    let right : (ended l ++ flat_map ended lines) ++ rest ≡ l ++ 10 ∷ (flat_map ended lines ++ rest) = append_assoc
    (ended l) (flat_map ended lines) rest ∙ ended_append l (flat_map ended lines ++ rest) in
    let first = same_line x l (flat_map ended xs ++ m) (flat_map ended lines ++ rest) a.0 b.0 (sym left ∙ e ∙ right) in
    let rec = first_lines xs lines m rest a.1 b.1 d first.rest in
    (rec.0, ap (λ (y : Text). y ∷ lines) (sym first.same) ∙ ap (λ (ys : List Text). x ∷ ys) rec.1)

pub no_quit_among : (xs : List Text) (line : Text) (more : List Text) → HaveNoQuit ((xs ++ line ∷ []) ++ more)
    → line_command line ≢ said.quit
no_quit_among [] line more a = a.0
no_quit_among (x ∷ xs) line more a = no_quit_among xs line more a.1

-- the head of a text is the head of its first part
pub first_part : (xs front after read rest : Text) → xs ≡ front ++ after → xs ≡ read ++ rest
    → length front ≤ length read → (m : Text) × (read ≡ front ++ m)
first_part xs front after read rest a b short =
    let one : take (length front) xs ≡ front = ap (take (length front)) a ∙ take_at front after (length front) refl in
    let two : take (length front) xs ≡ take (length front) read = ap (take (length front)) b
    ∙ take-append-le (length front) read rest short in (
      drop (length front) read,
      sym (take-append-drop (length front) read)
          ∙ ap (λ l. l ++ drop (length front) read) (sym two ∙ one),
    )

long_quits : {e : RunStart} {shelf faults : ℕ} (left left' written : Option (List ℕ))
    → Transcript e shelf faults left left' written TooLong
    → IfSome left (λ bytes. QuitsInTime bytes → ⊥)
long_quits None left' written t = tt
long_quits (Some xs) None written t = absurd t.taken
long_quits (Some xs) (Some ys) written t = λ q.
    let front = flat_map ended (q.before ++ q.line ∷ []) in
    let part = first_part xs front q.after t.read (t.unread ++ ys) q.joined (t.taken ∙ append_assoc t.read t.unread ys)
    (omega (arith, q.in_time, t.finishes.1)) in
    let lines = first_lines (q.before ++ q.line ∷ []) t.lines part.0 t.rest q.whole t.cut.whole t.cut.open_end
    (sym part.1 ∙ t.cut.joined) in
    no_quit_among q.before q.line lines.0 (subst HaveNoQuit lines.1 t.no_quit) q.quit

long_short : {e : RunStart} {shelf faults : ℕ} (left left' written : Option (List ℕ))
    → Transcript e shelf faults left left' written TooLong
    → IfSome left (λ bytes. length bytes < 2 ^ 32 → ⊥)
long_short None left' written t = tt
long_short (Some xs) None written t = absurd t.taken
long_short (Some xs) (Some ys) written t = λ few.
    let n = ap length (t.taken ∙ append_assoc t.read t.unread ys) in
    let l = length-append t.read (t.unread ++ ys) in
    let long = t.finishes.1 in
    omega (arith, few, n, l, long)

-- a run that is too long stopped so
stopped_long : (status : Status) (old new : Option (List ℕ)) (result : Status) → EndsWith status old new result
    → result ≡ TooLong → status ≡ TooLong
stopped_long status old new result (is_whole written) e = e
stopped_long status old new result (is_part written) e = cc

told : (left : Option (List ℕ)) (P : List ℕ → Type 0) (status : Status)
    → (status ≡ TooLong → IfSome left (λ bytes. P bytes → ⊥)) → IfSome left (λ bytes. P bytes → status ≢ TooLong)
told None P status h = tt
told (Some bytes) P status h = λ p e. h e p

pub in_time : {tells : Type 0} {e : RunStart} {shelf faults : ℕ} {left left' written' : Option (List ℕ)}
    {now : ℕ} {Since : ℕ → FileMap → Type 0} {d : disk.State} (result : Status)
    → Outcome tells e shelf faults left left' written' now Since d result
    → IfSome left (λ bytes. length bytes < 2 ^ 32 → result ≢ TooLong)
in_time {e = e} {shelf = shelf} {faults = faults} {left = left} {left' = left'} {written' = written'} result o =
    told left (λ bytes. length bytes < 2 ^ 32) result
    (λ long. long_short left left' o.written (subst (Transcript e shelf faults left left' o.written)
    (stopped_long o.status o.written written' result o.ends long) o.transcript))

pub quits : {tells : Type 0} {e : RunStart} {shelf faults : ℕ} {left left' written' : Option (List ℕ)}
    {now : ℕ} {Since : ℕ → FileMap → Type 0} {d : disk.State} (result : Status)
    → Outcome tells e shelf faults left left' written' now Since d result
    → IfSome left (λ bytes. QuitsInTime bytes → result ≢ TooLong)
quits {e = e} {shelf = shelf} {faults = faults} {left = left} {left' = left'} {written' = written'} result o =
    told left QuitsInTime result
    (λ long. long_quits left left' o.written (subst (Transcript e shelf faults left left' o.written)
    (stopped_long o.status o.written written' result o.ends long) o.transcript))
