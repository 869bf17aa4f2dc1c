-- What the parser makes of all words that are operands: it takes just the forms, with their operands.
use Rattle.std.proofs.Common.{◌≡◌, ◌∙◌, Bool, true, false, ◌&&◌, List, [], ◌∷◌, None, Some, codes, refl, ap, sym, subst}
use Rattle.std.specs.List.{fold, list_all}
use Rattle.std.specs.Str.{bytes_eq}
use Rattle.std.proofs.lemmas.Slice.Eq.{bytes_eq-Decides}
use Rattle.clap.specs.Faults.{fault_of, level_fault, walk_fault}
use Rattle.clap.specs.Kinds.{Kinds, or_else}
use Rattle.clap.specs.Simple.{Shape, built, names_of, rows_at, subcommand_of}
use Rattle.clap.specs.Walk.{Names, Rule, Text, Walk, idle, nothing_held, subcommand_met, walk, walk_from, walked}
use Rattle.clap.proofs.OnLiterals.{clap_on_literals}
use Rattle.program_words.proofs.Walks.{IsIdle, IsStopped, fault_operand, fault_stopped, fold_stopped, moved, walked_operand}
use Rattle.program_words.specs.Forms.{form_of, form_with, is_operand, make_from}
use Rattle.program_words.specs.Parser.{form_matched, program_app}

abbrev top : Shape
top = (built program_app).top

abbrev names : Names
names = names_of (built program_app)

abbrev head : List Shape → Shape → Shape
head [] d = d
head (s ∷ rest) d = s

abbrev tail : List Shape → List Shape
tail [] = []
tail (s ∷ rest) = rest

abbrev step_shape : Shape
step_shape = head (built program_app).subs top

abbrev make_shape : Shape
make_shape = head (tail (built program_app).subs) top

abbrev start : Walk
start = walk_from nothing_held

idle_now : (w : Walk) → w.waiting ≡ idle → w.is_trailing ≡ false → w.stopped ≡ None → IsIdle w
idle_now w a b c = record { waiting = a; is_trailing = b; stopped = c }

-- ---- the first word

-- a subcommand that is named first gets all the words behind its name
enters_step : (rest : List Text) → IsStopped (fold (walked top.rules names) (walked top.rules names start (codes "step")) rest) (codes "step") rest nothing_held
unfolding walked
enters_step rest = fold_stopped top.rules names (walked top.rules names start (codes "step")) (codes "step") [] nothing_held rest
    (record { stopped = refl; held_is = refl })

enters_make : (rest : List Text) → IsStopped (fold (walked top.rules names) (walked top.rules names start (codes "make")) rest) (codes "make") rest nothing_held
unfolding walked
enters_make rest = fold_stopped top.rules names (walked top.rules names start (codes "make")) (codes "make") [] nothing_held rest
    (record { stopped = refl; held_is = refl })

-- at a subcommand, the parse is that of the words behind its name
pub fault_at_step : (rest : List Text) → fault_of program_app (codes "step" ∷ rest) ≡ level_fault step_shape [] nothing_held rest false []
unfolding clap_on_literals
fault_at_step rest =
    let met = enters_step rest in
    let none = fault_stopped top names (walked top.rules names start (codes "step")) (codes "step") [] nothing_held rest
    (record { stopped = refl; held_is = refl }) in
    rw (met.stopped, met.held_is, none) (last (level_fault step_shape [] nothing_held rest false []))
  where
    last : (kinds : Kinds) → or_else kinds [] ≡ kinds
    last [] = refl
    last (k ∷ ks) = refl

pub fault_at_make : (rest : List Text) → fault_of program_app (codes "make" ∷ rest) ≡ level_fault make_shape [] nothing_held rest false []
unfolding clap_on_literals
fault_at_make rest =
    let met = enters_make rest in
    let none = fault_stopped top names (walked top.rules names start (codes "make")) (codes "make") [] nothing_held rest
    (record { stopped = refl; held_is = refl }) in
    rw (met.stopped, met.held_is, none) (last (level_fault make_shape [] nothing_held rest false []))
  where
    last : (kinds : Kinds) → or_else kinds [] ≡ kinds
    last [] = refl
    last (k ∷ ks) = refl

pub matches_at_step : (rest : List Text) → subcommand_of program_app (codes "step" ∷ rest) ≡ Some (rows_at step_shape rest)
unfolding clap_on_literals
matches_at_step rest = rw (enters_step rest).stopped refl

pub matches_at_make : (rest : List Text) → subcommand_of program_app (codes "make" ∷ rest) ≡ Some (rows_at make_shape rest)
unfolding clap_on_literals
matches_at_make rest = rw (enters_make rest).stopped refl

-- ---- the operands of `step`

abbrev step_rules : List Rule
step_rules = step_shape.rules

-- the walk over two operands
abbrev step_one : Text → Walk
step_one a = moved step_rules start a

abbrev step_two : Text → Text → Walk
step_two a b = moved step_rules (step_one a) b

idle_start : IsIdle start
idle_start = idle_now start refl refl refl

idle_step_one : (a : Text) → IsIdle (step_one a)
idle_step_one a = idle_now (step_one a) refl refl refl

idle_step_two : (a b : Text) → IsIdle (step_two a b)
idle_step_two a b = idle_now (step_two a b) refl refl refl

step_walk_one : (a : Text) → is_operand a ≡ true → walk step_rules [] nothing_held (a ∷ []) ≡ step_one a
step_walk_one a ea = walked_operand step_rules [] start a ea idle_start refl

step_walk_two : (a b : Text) → is_operand a ≡ true → is_operand b ≡ true → walk step_rules [] nothing_held (a ∷ b ∷ []) ≡ step_two a b
step_walk_two a b ea eb =
    ap (λ w. walked step_rules [] w b) (step_walk_one a ea) ∙ walked_operand step_rules [] (step_one a) b eb (idle_step_one a) refl

step_fault_one : (a : Text) → is_operand a ≡ true → walk_fault step_shape [] start (a ∷ []) ≡ []
unfolding clap_on_literals
step_fault_one a ea = fault_operand step_shape [] start a [] ea idle_start refl

step_fault_two : (a b : Text) (rest : List Text) → is_operand a ≡ true → is_operand b ≡ true
    → walk_fault step_shape [] start (a ∷ b ∷ rest) ≡ walk_fault step_shape [] (step_two a b) rest
unfolding clap_on_literals
step_fault_two a b rest ea eb =
    fault_operand step_shape [] start a (b ∷ rest) ea idle_start refl ∙ fault_operand step_shape [] (step_one a) b rest eb (idle_step_one a) refl

pub step_takes_none : level_fault step_shape [] nothing_held [] false [] ≡ [] → ⊥
unfolding clap_on_literals
step_takes_none e = absurd (cc)

pub step_takes_one : (a : Text) → is_operand a ≡ true → level_fault step_shape [] nothing_held (a ∷ []) false [] ≡ [] → ⊥
unfolding clap_on_literals
step_takes_one a ea e =
    let f = rw (step_fault_one a ea, step_walk_one a ea) at e in absurd (cc)

pub step_takes_two : (a b : Text) → is_operand a ≡ true → is_operand b ≡ true → level_fault step_shape [] nothing_held (a ∷ b ∷ []) false [] ≡ []
unfolding clap_on_literals
step_takes_two a b ea eb = rw (step_fault_two a b [] ea eb, step_walk_two a b ea eb) refl

pub step_takes_more : (a b c : Text) (rest : List Text) → is_operand a ≡ true → is_operand b ≡ true → is_operand c ≡ true
    → level_fault step_shape [] nothing_held (a ∷ b ∷ c ∷ rest) false [] ≡ [] → ⊥
unfolding clap_on_literals
step_takes_more a b c rest ea eb ec e =
    let f = rw (step_fault_two a b (c ∷ rest) ea eb ∙ fault_operand step_shape [] (step_two a b) c rest ec (idle_step_two a b) refl) at e in
    absurd (cc)

-- ---- the operands of `make`

abbrev make_rules : List Rule
make_rules = make_shape.rules

-- the walk over three operands
abbrev make_one : Text → Walk
make_one a = moved make_rules start a

abbrev make_two : Text → Text → Walk
make_two a b = moved make_rules (make_one a) b

abbrev make_three : Text → Text → Text → Walk
make_three a b c = moved make_rules (make_two a b) c

idle_make_one : (a : Text) → IsIdle (make_one a)
idle_make_one a = idle_now (make_one a) refl refl refl

idle_make_two : (a b : Text) → IsIdle (make_two a b)
idle_make_two a b = idle_now (make_two a b) refl refl refl

idle_make_three : (a b c : Text) → IsIdle (make_three a b c)
idle_make_three a b c = idle_now (make_three a b c) refl refl refl

make_walk_one : (a : Text) → is_operand a ≡ true → walk make_rules [] nothing_held (a ∷ []) ≡ make_one a
make_walk_one a ea = walked_operand make_rules [] start a ea idle_start refl

make_walk_two : (a b : Text) → is_operand a ≡ true → is_operand b ≡ true → walk make_rules [] nothing_held (a ∷ b ∷ []) ≡ make_two a b
make_walk_two a b ea eb =
    ap (λ w. walked make_rules [] w b) (make_walk_one a ea) ∙ walked_operand make_rules [] (make_one a) b eb (idle_make_one a) refl

make_walk_three : (a b c : Text) → is_operand a ≡ true → is_operand b ≡ true → is_operand c ≡ true
    → walk make_rules [] nothing_held (a ∷ b ∷ c ∷ []) ≡ make_three a b c
make_walk_three a b c ea eb ec =
    ap (λ w. walked make_rules [] w c) (make_walk_two a b ea eb) ∙ walked_operand make_rules [] (make_two a b) c ec (idle_make_two a b) refl

make_fault_one : (a : Text) (rest : List Text) → is_operand a ≡ true → walk_fault make_shape [] start (a ∷ rest) ≡ walk_fault make_shape [] (make_one a) rest
unfolding clap_on_literals
make_fault_one a rest ea = fault_operand make_shape [] start a rest ea idle_start refl

make_fault_two : (a b : Text) (rest : List Text) → is_operand a ≡ true → is_operand b ≡ true
    → walk_fault make_shape [] start (a ∷ b ∷ rest) ≡ walk_fault make_shape [] (make_two a b) rest
unfolding clap_on_literals
make_fault_two a b rest ea eb = make_fault_one a (b ∷ rest) ea ∙ fault_operand make_shape [] (make_one a) b rest eb (idle_make_one a) refl

make_fault_three : (a b c : Text) (rest : List Text) → is_operand a ≡ true → is_operand b ≡ true → is_operand c ≡ true
    → walk_fault make_shape [] start (a ∷ b ∷ c ∷ rest) ≡ walk_fault make_shape [] (make_three a b c) rest
unfolding clap_on_literals
make_fault_three a b c rest ea eb ec =
    make_fault_two a b (c ∷ rest) ea eb ∙ fault_operand make_shape [] (make_two a b) c rest ec (idle_make_two a b) refl

pub make_takes_none : level_fault make_shape [] nothing_held [] false [] ≡ [] → ⊥
unfolding clap_on_literals
make_takes_none e = absurd (cc)

pub make_takes_one : (a : Text) → is_operand a ≡ true → level_fault make_shape [] nothing_held (a ∷ []) false [] ≡ [] → ⊥
unfolding clap_on_literals
make_takes_one a ea e =
    let f = rw (make_fault_one a [] ea, make_walk_one a ea) at e in absurd (cc)

pub make_takes_two : (a b : Text) → is_operand a ≡ true → is_operand b ≡ true
    → level_fault make_shape [] nothing_held (a ∷ b ∷ []) false [] ≡ [] → ⊥
unfolding clap_on_literals
make_takes_two a b ea eb e =
    let f = rw (make_fault_two a b [] ea eb, make_walk_two a b ea eb) at e in absurd (cc)

pub make_takes_three : (a b c : Text) → is_operand a ≡ true → is_operand b ≡ true → is_operand c ≡ true
    → level_fault make_shape [] nothing_held (a ∷ b ∷ c ∷ []) false [] ≡ []
unfolding clap_on_literals
make_takes_three a b c ea eb ec = rw (make_fault_three a b c [] ea eb ec, make_walk_three a b c ea eb ec) refl

pub make_takes_more : (a b c d : Text) (rest : List Text) → is_operand a ≡ true → is_operand b ≡ true → is_operand c ≡ true
    → is_operand d ≡ true → level_fault make_shape [] nothing_held (a ∷ b ∷ c ∷ d ∷ rest) false [] ≡ [] → ⊥
unfolding clap_on_literals
make_takes_more a b c d rest ea eb ec ed e =
    let f = rw (make_fault_three a b c (d ∷ rest) ea eb ec
    ∙ fault_operand make_shape [] (make_three a b c) d rest ed (idle_make_three a b c) refl) at e in
    absurd (cc)

pub make_matches : (a b c : Text) → is_operand a ≡ true → is_operand b ≡ true → is_operand c ≡ true
    → form_matched (Some (rows_at make_shape (a ∷ b ∷ c ∷ []))) ≡ make_from a b c
unfolding clap_on_literals
make_matches a b c ea eb ec = rw (make_walk_three a b c ea eb ec) refl

-- ---- all words

-- the parser takes the words and its matches are those of their form, or it refuses them and they have none
pub data Outcome (words : List Text) : Type 0 where
  taken : fault_of program_app words ≡ [] → form_matched (subcommand_of program_app words) ≡ form_of words → Outcome words
  refused : (fault_of program_app words ≡ [] → ⊥) → form_of words ≡ None → Outcome words

both : (a b : Bool) → (a && b) ≡ true → (a ≡ true) × (b ≡ true)
both true b h = (refl, h)
both false b h = absurd (cc)

split : (a : Text) (rest : List Text) → list_all is_operand (a ∷ rest) ≡ true → (is_operand a ≡ true) × (list_all is_operand rest ≡ true)
split a rest h = both (is_operand a) (list_all is_operand rest) h

-- the form of words that are operands behind the first
formed : (command : Text) (rest : List Text) → list_all is_operand rest ≡ true → form_of (command ∷ rest) ≡ form_with command rest
formed command rest ops = rw ops refl

at_step : (rest : List Text) → list_all is_operand rest ≡ true → Outcome (codes "step" ∷ rest)
at_step [] ops = refused (λ e. step_takes_none (sym (fault_at_step []) ∙ e)) refl
at_step (a ∷ []) ops =
    let one = split a [] ops in
    refused (λ e. step_takes_one a one.0 (sym (fault_at_step (a ∷ [])) ∙ e)) (formed (codes "step") (a ∷ []) ops)
at_step (a ∷ b ∷ []) ops =
    let one = split a (b ∷ []) ops in
    let two = split b [] one.1 in
    taken (fault_at_step (a ∷ b ∷ []) ∙ step_takes_two a b one.0 two.0)
    (ap form_matched (matches_at_step (a ∷ b ∷ [])) ∙ sym (formed (codes "step") (a ∷ b ∷ []) ops))
at_step (a ∷ b ∷ c ∷ []) ops =
    let one = split a (b ∷ c ∷ []) ops in
    let two = split b (c ∷ []) one.1 in
    let three = split c [] two.1 in
    refused (λ e. step_takes_more a b c [] one.0 two.0 three.0 (sym (fault_at_step (a ∷ b ∷ c ∷ [])) ∙ e))
    (formed (codes "step") (a ∷ b ∷ c ∷ []) ops)
at_step (a ∷ b ∷ c ∷ d ∷ rest) ops =
    let one = split a (b ∷ c ∷ d ∷ rest) ops in
    let two = split b (c ∷ d ∷ rest) one.1 in
    let three = split c (d ∷ rest) two.1 in
    refused (λ e. step_takes_more a b c (d ∷ rest) one.0 two.0 three.0 (sym (fault_at_step (a ∷ b ∷ c ∷ d ∷ rest)) ∙ e))
    (formed (codes "step") (a ∷ b ∷ c ∷ d ∷ rest) ops)

at_make : (rest : List Text) → list_all is_operand rest ≡ true → Outcome (codes "make" ∷ rest)
at_make [] ops = refused (λ e. make_takes_none (sym (fault_at_make []) ∙ e)) refl
at_make (a ∷ []) ops =
    let one = split a [] ops in
    refused (λ e. make_takes_one a one.0 (sym (fault_at_make (a ∷ [])) ∙ e)) (formed (codes "make") (a ∷ []) ops)
at_make (a ∷ b ∷ []) ops =
    let one = split a (b ∷ []) ops in
    let two = split b [] one.1 in
    refused (λ e. make_takes_two a b one.0 two.0 (sym (fault_at_make (a ∷ b ∷ [])) ∙ e)) (formed (codes "make") (a ∷ b ∷ []) ops)
at_make (a ∷ b ∷ c ∷ []) ops =
    let one = split a (b ∷ c ∷ []) ops in
    let two = split b (c ∷ []) one.1 in
    let three = split c [] two.1 in
    taken (fault_at_make (a ∷ b ∷ c ∷ []) ∙ make_takes_three a b c one.0 two.0 three.0)
    (ap form_matched (matches_at_make (a ∷ b ∷ c ∷ [])) ∙ make_matches a b c one.0 two.0 three.0
    ∙ sym (formed (codes "make") (a ∷ b ∷ c ∷ []) ops))
at_make (a ∷ b ∷ c ∷ d ∷ rest) ops =
    let one = split a (b ∷ c ∷ d ∷ rest) ops in
    let two = split b (c ∷ d ∷ rest) one.1 in
    let three = split c (d ∷ rest) two.1 in
    let four = split d rest three.1 in
    refused (λ e. make_takes_more a b c d rest one.0 two.0 three.0 four.0 (sym (fault_at_make (a ∷ b ∷ c ∷ d ∷ rest)) ∙ e))
    (formed (codes "make") (a ∷ b ∷ c ∷ d ∷ rest) ops)

-- a first word that names no subcommand
no_form : (command : Text) (rest : List Text) → bytes_eq command (codes "step") ≡ false → bytes_eq command (codes "make") ≡ false
    → form_with command rest ≡ None
no_form command [] s m = refl
no_form command (a ∷ []) s m = refl
no_form command (a ∷ b ∷ []) s m = rw s refl
no_form command (a ∷ b ∷ c ∷ []) s m = rw m refl
no_form command (a ∷ b ∷ c ∷ d ∷ rest) s m = refl

turned : (x y : Text) → bytes_eq x y ≡ false → bytes_eq y x ≡ false
turned x y h = other (bytes_eq y x) refl
  where
    other : (b : Bool) → bytes_eq y x ≡ b → bytes_eq y x ≡ false
    other false e = e
    other true e =
        let same : bytes_eq x y ≡ true = (bytes_eq-Decides x y).1 (sym ((bytes_eq-Decides y x).0 e)) in
        absurd (cc)

at_other : (command : Text) (rest : List Text) → is_operand command ≡ true → list_all is_operand rest ≡ true
    → bytes_eq command (codes "step") ≡ false → bytes_eq command (codes "make") ≡ false → Outcome (command ∷ rest)
unfolding clap_on_literals
at_other command rest op ops s m =
    let unmet : subcommand_met names idle command ≡ None = rw (turned command (codes "step") s, turned command (codes "make") m) refl in
    let fault = fault_operand top names start command rest op idle_start unmet in
    refused (λ e. let f = rw fault at e in absurd (cc)) (formed command rest ops ∙ no_form command rest s m)

pub outcome : (words : List Text) → list_all is_operand words ≡ true → Outcome words
unfolding clap_on_literals
outcome [] ops = refused (λ e. absurd (cc)) refl
outcome (command ∷ rest) ops = choose (bytes_eq command (codes "step")) (bytes_eq command (codes "make")) refl refl
  where
    parts : (is_operand command ≡ true) × (list_all is_operand rest ≡ true)
    parts = split command rest ops

    choose : (s m : Bool) → bytes_eq command (codes "step") ≡ s → bytes_eq command (codes "make") ≡ m → Outcome (command ∷ rest)
    choose true m es em =
        let P : Text → Type 0 = λ w. Outcome (w ∷ rest) in
        subst P (sym ((bytes_eq-Decides command (codes "step")).0 es)) (at_step rest parts.1)
    choose false true es em =
        let P : Text → Type 0 = λ w. Outcome (w ∷ rest) in
        subst P (sym ((bytes_eq-Decides command (codes "make")).0 em)) (at_make rest parts.1)
    choose false false es em = at_other command rest parts.0 parts.1 es em

-- words of which one begins with `-` have no form
pub no_operands : (words : List Text) → list_all is_operand words ≡ false → form_of words ≡ None
no_operands [] e = absurd (cc)
no_operands (command ∷ rest) e = choose (list_all is_operand rest) (is_operand command) refl refl
  where
    unlike : (name : Text) → is_operand name ≡ true → is_operand command ≡ false → bytes_eq command name ≡ false
    unlike name named bare = other (bytes_eq command name) refl
      where
        other : (b : Bool) → bytes_eq command name ≡ b → bytes_eq command name ≡ false
        other false same = same
        other true same = let same_operand = ap is_operand ((bytes_eq-Decides command name).0 same) in absurd (cc)

    choose : (r c : Bool) → list_all is_operand rest ≡ r → is_operand command ≡ c → form_of (command ∷ rest) ≡ None
    choose false c er ec = rw er refl
    choose true true er ec = let all : (is_operand command && list_all is_operand rest) ≡ true = rw (ec, er) refl in absurd (cc)
    choose true false er ec =
        formed command rest er ∙ no_form command rest (unlike (codes "step") refl ec) (unlike (codes "make") refl ec)
