-- A command line has one name and one command, and is spelled or refused in one way.
use Rattle.std.proofs.Common.{◌≡◌, ℕ, ◌+◌, ◌-◌, ◌≤◌, ◌==◌, true, false, ◌&&◌, nat_le, if◌then◌else◌, IsTrue, List, [], ◌∷◌, ◌++◌, length, take, drop, refl, sym, ap, subst, ◌∙◌, inl, inr, arith, append_assoc}
use Rattle.std.specs.List.{list_all}
use Rattle.std.proofs.lemmas.Bool.{and_parts, cases_lt, eqb-true, false_from_ne_true}
use Rattle.std.proofs.Math.Seq.{take-add}
use Rattle.grant_refusal.specs.declared.ParseRefusal.{ParseRefusal}
use Rattle.grant_refusal.specs.declared.ParseRefusal.TheVariants.{Syntax}
use Rattle.script_lines.specs.Beginnings.{is_session_byte, is_session_name, IsLineFront, IsUnbegun}
use Rattle.script_lines.specs.Spelling.{refusal_on_line, IsCommandLine, IsLineRefused, IsNoCommand, Spells}
use Rattle.script_lines.specs.declared.refusal.CommandRefusal.{CommandRefusal}

-- what is owed of the commands: one meaning, one refusal, and never both
pub record IsExact {M : Type 0} (spelled : List ℕ → M → Type 0) (refused : List ℕ → CommandRefusal → Type 0) : Type 0 where
  pub one_meaning : (text : List ℕ) (first second : M) → spelled text first → spelled text second → first ≡ second
  pub one_refusal : (text : List ℕ) (first second : CommandRefusal) → refused text first → refused text second → first ≡ second
  pub apart : (text : List ℕ) (meaning : M) (refusal : CommandRefusal) → spelled text meaning → refused text refusal → ⊥

-- what stands before the first `>`, and what stands behind the byte that follows it
pub front_of : List ℕ → List ℕ
front_of [] = []
front_of (byte ∷ rest) = if byte == 62 then [] else byte ∷ front_of rest

pub back_of : List ℕ → List ℕ
back_of [] = []
back_of (byte ∷ rest) = if byte == 62 then drop 1 rest else back_of rest

not_mark : (byte : ℕ) → is_session_byte byte ≡ true → (byte == 62) ≡ false
not_mark byte is_byte =
    false_from_ne_true (byte == 62) (λ e. let wrong : is_session_byte 62 ≡ true = sym (ap is_session_byte (eqb-true byte 62 e)) ∙ is_byte in absurd (cc))

front_of-name : (name rest : List ℕ) → list_all is_session_byte name ≡ true → front_of (name ++ 62 ∷ rest) ≡ name
unfolding front_of
front_of-name [] rest all = refl
front_of-name (byte ∷ name) rest all =
    let parts = and_parts (is_session_byte byte) (list_all is_session_byte name) all in
    ap (λ b. if b then [] else byte ∷ front_of (name ++ 62 ∷ rest)) (not_mark byte parts.0) ∙ ap (λ n. byte ∷ n) (front_of-name name rest parts.1)

back_of-name : (name rest : List ℕ) → list_all is_session_byte name ≡ true → back_of (name ++ 62 ∷ rest) ≡ drop 1 rest
unfolding back_of
back_of-name [] rest all = refl
back_of-name (byte ∷ name) rest all =
    let parts = and_parts (is_session_byte byte) (list_all is_session_byte name) all in
    ap (λ b. if b then drop 1 (name ++ 62 ∷ rest) else back_of (name ++ 62 ∷ rest)) (not_mark byte parts.0) ∙ back_of-name name rest parts.1

name_bytes : (name : List ℕ) → IsTrue (is_session_name name) → list_all is_session_byte name ≡ true
unfolding is_session_name
name_bytes name is_name = (and_parts (nat_le 1 (length name) && nat_le (length name) 32) (list_all is_session_byte name) is_name).1

pub cut_front : (text name command : List ℕ) → IsCommandLine text name command → front_of text ≡ name
cut_front text name command cut = ap front_of cut.text_is ∙ front_of-name name (32 ∷ command) (name_bytes name cut.is_name)

cut_back : (text name command : List ℕ) → IsCommandLine text name command → back_of text ≡ command
cut_back text name command cut = ap back_of cut.text_is ∙ back_of-name name (32 ∷ command) (name_bytes name cut.is_name)

-- a front of a front
shorter_front : (text : List ℕ) (short gap : ℕ) → IsLineFront (take (short + gap) text) → IsLineFront (take short text)
shorter_front text short gap front = record {
  name = front.name;
  more = take gap (drop short text) ++ front.more;
  is_name = front.is_name;
  goes_on = sym (append_assoc (take short text) (take gap (drop short text)) front.more) ∙ ap (λ bytes. bytes ++ front.more) (sym (take-add short gap text)) ∙ front.goes_on;
}

front_within : (text : List ℕ) (short long : ℕ) → short ≤ long → IsLineFront (take long text) → IsLineFront (take short text)
front_within text short long le front =
    let P : ℕ → Type 0 = λ n. IsLineFront (take n text) in
    let sum : long ≡ short + (long - short) = omega arith in
    shorter_front text short (long - short) (subst P sum front)

-- one place
one_place : (text : List ℕ) (first second : ℕ) → IsUnbegun text first → IsUnbegun text second → first ≡ second
one_place text first second a b =
    elim (cases_lt first second) [
      | inl less ↦ absurd (a.stops (omega (arith, b.within)) (front_within text (first + 1) second (omega arith) b.front))
      | inr more ↦ elim (cases_lt second first) [
        | inl less ↦ absurd (b.stops (omega (arith, a.within)) (front_within text (second + 1) first (omega arith) a.front))
        | inr same ↦ omega arith
      ]
    ]

-- one refusal of a line

one_command_refusal : {M : Type 0} (spelled : List ℕ → M → Type 0) (refused : List ℕ → CommandRefusal → Type 0) (text : List ℕ) (first second : ParseRefusal) → IsExact spelled refused
    → IsNoCommand refused text first → IsNoCommand refused text second → first ≡ second
one_command_refusal spelled refused text first second exact a b =
    let names : a.name ≡ b.name = sym (cut_front text a.name a.command a.cut) ∙ cut_front text b.name b.command b.cut in
    let commands : a.command ≡ b.command = sym (cut_back text a.name a.command a.cut) ∙ cut_back text b.name b.command b.cut in
    let P : List ℕ → Type 0 = λ command. refused command b.cause in
    let causes : a.cause ≡ b.cause = exact.one_refusal a.command a.cause b.cause a.is_cause (subst P (sym commands) b.is_cause) in
    a.refusal_is ∙ ap (λ name. refusal_on_line (length name + 2) a.cause) names ∙ ap (refusal_on_line (length b.name + 2)) causes ∙ sym b.refusal_is

pub one_line_refusal : {M : Type 0} (spelled : List ℕ → M → Type 0) (refused : List ℕ → CommandRefusal → Type 0) (text : List ℕ) (first second : ParseRefusal) → IsExact spelled refused
    → IsLineRefused refused text first → IsLineRefused refused text second → first ≡ second
one_line_refusal spelled refused text first second exact (inl a) (inl b) = a.refusal_is ∙ sym b.refusal_is
one_line_refusal spelled refused text first second exact (inl a) (inr (inl b)) = absurd (a.broken b.utf8)
one_line_refusal spelled refused text first second exact (inl a) (inr (inr b)) = absurd (a.broken b.cut.utf8)
one_line_refusal spelled refused text first second exact (inr (inl a)) (inl b) = absurd (b.broken a.utf8)
one_line_refusal spelled refused text first second exact (inr (inr a)) (inl b) = absurd (b.broken a.cut.utf8)
one_line_refusal spelled refused text first second exact (inr (inl a)) (inr (inl b)) = a.refusal_is ∙ ap Syntax (one_place text a.place b.place a.unbegun b.unbegun) ∙ sym b.refusal_is
one_line_refusal spelled refused text first second exact (inr (inl a)) (inr (inr b)) = absurd (a.unbegun.unbegun b.name b.command b.cut.is_name b.cut.text_is)
one_line_refusal spelled refused text first second exact (inr (inr a)) (inr (inl b)) = absurd (b.unbegun.unbegun a.name a.command a.cut.is_name a.cut.text_is)
one_line_refusal spelled refused text first second exact (inr (inr a)) (inr (inr b)) = one_command_refusal spelled refused text first second exact a b

-- a line that is refused spells nothing
pub refused_unspelled : {M : Type 0} (spelled : List ℕ → M → Type 0) (refused : List ℕ → CommandRefusal → Type 0) (text name : List ℕ) (meaning : M) (refusal : ParseRefusal) → IsExact spelled refused
    → IsLineRefused refused text refusal → Spells spelled text name meaning → ⊥
refused_unspelled spelled refused text name meaning refusal exact (inl a) spells = a.broken spells.cut.utf8
refused_unspelled spelled refused text name meaning refusal exact (inr (inl a)) spells = a.unbegun.unbegun name spells.command spells.cut.is_name spells.cut.text_is
refused_unspelled spelled refused text name meaning refusal exact (inr (inr a)) spells =
    let commands : spells.command ≡ a.command = sym (cut_back text name spells.command spells.cut) ∙ cut_back text a.name a.command a.cut in
    let P : List ℕ → Type 0 = λ command. spelled command meaning in
    exact.apart a.command meaning a.cause (subst P commands spells.means) a.is_cause

-- one meaning of a line
pub one_line_meaning : {M : Type 0} (spelled : List ℕ → M → Type 0) (refused : List ℕ → CommandRefusal → Type 0) (text name other : List ℕ) (first second : M) → IsExact spelled refused
    → Spells spelled text name first → Spells spelled text other second → first ≡ second
one_line_meaning spelled refused text name other first second exact a b =
    let commands : b.command ≡ a.command = sym (cut_back text other b.command b.cut) ∙ cut_back text name a.command a.cut in
    let P : List ℕ → Type 0 = λ command. spelled command second in
    exact.one_meaning a.command first second a.means (subst P commands b.means)
