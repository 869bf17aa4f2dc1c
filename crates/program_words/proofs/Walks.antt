-- How the parser goes over words that are operands.
use Rattle.std.proofs.Common.{◌≡◌, Bool, true, false, ◌==◌, not, List, [], ◌∷◌, ◌++◌, None, Some, refl, ap, ap₂, subst, append_assoc, append-nil}
use Rattle.std.specs.List.{fold}
use Rattle.std.specs.Str.{bytes_eq}
use Rattle.clap.specs.Faults.{step_fault, turn_fault, walk_fault}
use Rattle.clap.specs.Kinds.{or_else}
use Rattle.clap.specs.Lexer.{long_of, short_of}
use Rattle.clap.specs.Simple.{Shape}
use Rattle.clap.specs.Walk.{Held, Names, Rule, Text, Walk, arg_by_index, idle, subcommand_met, to_positional, value, walked}
use Rattle.program_words.specs.Forms.{is_operand}

not_true : (b : Bool) → not b ≡ true → b ≡ false
not_true true e = absurd (cc)
not_true false e = refl

no_long : (word : Text) → is_operand word ≡ true → long_of word ≡ None
no_long [] e = refl
no_long (x ∷ xs) e = let miss : (x == 45) ≡ false = not_true (x == 45) e in rw miss refl

no_short : (word : Text) → is_operand word ≡ true → short_of word ≡ None
no_short [] e = refl
no_short (x ∷ xs) e = let miss : (x == 45) ≡ false = not_true (x == 45) e in rw miss refl

no_escape : (word : Text) → is_operand word ≡ true → bytes_eq word (45 ∷ 45 ∷ []) ≡ false
no_escape [] e = refl
no_escape (x ∷ xs) e = let miss : (x == 45) ≡ false = not_true (x == 45) e in rw miss refl

-- a walk that waits for nothing and has met no subcommand
pub record IsIdle (w : Walk) : Type 0 where
  pub waiting : w.waiting ≡ idle
  pub is_trailing : w.is_trailing ≡ false
  pub stopped : w.stopped ≡ None

-- the word goes to the next positional
abbrev pub moved : List Rule → Walk → Text → Walk
moved rules w word = to_positional rules (arg_by_index rules w.position) word w w.held

pub walked_operand : (rules : List Rule) (names : Names) (w : Walk) (word : Text) → is_operand word ≡ true → IsIdle w
    → subcommand_met names idle word ≡ None → walked rules names w word ≡ moved rules w word
unfolding walked
walked_operand rules names w word e i none =
    rw (i.stopped, i.is_trailing, i.waiting, none, no_escape word e, no_long word e, no_short word e) refl

pub turn_operand : (s : Shape) (names : Names) (w : Walk) (word : Text) → is_operand word ≡ true → IsIdle w
    → subcommand_met names idle word ≡ None → turn_fault s names w word ≡ step_fault s w.position w.held value
turn_operand s names w word e i none =
    rw (i.stopped, i.is_trailing, i.waiting, none, no_escape word e, no_long word e, no_short word e) refl

pub fault_operand : (s : Shape) (names : Names) (w : Walk) (word : Text) (rest : List Text) → is_operand word ≡ true → IsIdle w
    → subcommand_met names idle word ≡ None
    → walk_fault s names w (word ∷ rest) ≡ or_else (step_fault s w.position w.held value) (walk_fault s names (moved s.rules w word) rest)
unfolding walk_fault
fault_operand s names w word rest e i none =
    ap₂ or_else (turn_operand s names w word e i none)
    (ap (λ v. walk_fault s names v rest) (walked_operand s.rules names w word e i none))

-- a walk that has met a subcommand keeps the words behind it
pub record IsStopped (w : Walk) (name : Text) (words : List Text) (held : Held) : Type 0 where
  pub stopped : w.stopped ≡ Some (name, words)
  pub held_is : w.held ≡ held

walked_stopped : (rules : List Rule) (names : Names) (w : Walk) (name : Text) (words : List Text) (held : Held) (word : Text)
    → IsStopped w name words held → IsStopped (walked rules names w word) name (words ++ word ∷ []) held
unfolding walked
walked_stopped rules names w name words held word s = rw s.stopped (record { stopped = refl; held_is = s.held_is })

pub fold_stopped : (rules : List Rule) (names : Names) (w : Walk) (name : Text) (words : List Text) (held : Held) (rest : List Text)
    → IsStopped w name words held → IsStopped (fold (walked rules names) w rest) name (words ++ rest) held
fold_stopped rules names w name words held [] s = rw (append-nil words) s
fold_stopped rules names w name words held (word ∷ rest) s =
    let next = fold_stopped rules names (walked rules names w word) name (words ++ word ∷ []) held rest
    (walked_stopped rules names w name words held word s) in
    let P : List Text → Type 0 = λ all. IsStopped (fold (walked rules names) (walked rules names w word) rest) name all held in
    subst P (append_assoc words (word ∷ []) rest) next

pub fault_stopped : (s : Shape) (names : Names) (w : Walk) (name : Text) (words : List Text) (held : Held) (rest : List Text)
    → IsStopped w name words held → walk_fault s names w rest ≡ []
unfolding walk_fault
fault_stopped s names w name words held [] e = refl
fault_stopped s names w name words held (word ∷ rest) e =
    let turn : turn_fault s names w word ≡ [] = rw e.stopped refl in
    ap₂ or_else turn (fault_stopped s names (walked s.rules names w word) name (words ++ word ∷ []) held rest
    (walked_stopped s.rules names w name words held word e))
